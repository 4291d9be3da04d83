-- What a writer took delivers sets, and what is read of the front that a failed writer took.
use Rattle.std.proofs.Common.{◌≡◌, ◌⊎◌, ℕ, ◌<◌, ◌≤◌, ◌^◌, List, [], ◌∷◌, ◌++◌, length, map, take, drop, get_or, Option}
use Rattle.std.proofs.Common.{Some, inl, inr, refl, sym, ◌∙◌, ap, subst, arith, take-append-drop}
use Rattle.std.specs.declared.io.Error.{Error}
use Rattle.std.proofs.lemmas.Bool.{cases_lt}
use Rattle.std.proofs.lemmas.Grind.{flat_map-append}
use Rattle.std.proofs.lemmas.List.{append-nil, get_or_past, length-map, map-append, take-map, take_all, take_at}
use Rattle.std.proofs.Math.ListN.{get_or-append}
use Rattle.mysql_wire.specs.Bytes.{AreBytes}
use Rattle.mysql_wire.specs.Laws.{OneCountStandsWhole}
use Rattle.mysql_wire.specs.Stream.{StandWhole, framings}
use Rattle.mysql_wire.specs.Stream.Numbering.{EachFromZero}
use Rattle.mysql_values.specs.Sql.{Sql}
use Rattle.mysql_values.specs.declared.params.Params.{Params}
use Rattle.mysql_values.specs.Laws.{OneTokens}
use Rattle.mysql_values.specs.Value.{Value}
use Rattle.mysql_values.specs.Values.{content_of}
use Rattle.mysql_receive.specs.declared.audit.End.TheVariants.{Whole}
use Rattle.mysql_receive.specs.Audit.{Audit, Audited, AuditOf}
use Rattle.mysql_receive.specs.Laws.{StreamHasOneAudit}
use Rattle.mysql_receive.specs.Query.{Statement, statement_of}
use Rattle.mysql_receive.specs.Reading.{Set}
use Rattle.mysql_command_rules.specs.declared.road.Road.{Road}
use Rattle.mysql_command_rules.specs.declared.road.Road.TheVariants.{Text, Execute, Bulk}
use Rattle.mysql_command_rules.specs.Reading.{HaveContents}
use Rattle.mysql_command_rules.specs.Sent.{SentPayload, payloads_of, sets_of, stream_of}
use Rattle.mysql_command_rules.specs.Sets.{Given, all_given}
use Rattle.mysql_command_rules.proofs.Held.{one_contents}
use Rattle.mysql_command_rules.proofs.Statements.{query_is}
use Rattle.mysql_command_rules.specs.declared.send_to_error.SendToError.TheVariants.{Io}
use Rattle.mysql_command_rules.specs.Writing.{FailsAmong, FailsWithin}
use Rattle.mysql_session.specs.Delivery.{Delivers}
use Rattle.mysql_session.specs.WritingTo.{FailedWritersAreRead, FrontReads, StopsSending, TakesReadable}
use Rattle.mysql_session.specs.Laws.{ReadableSetsAreDelivered}

-- ---- a front that was taken

-- the bytes before others are bytes
bytes_before : (front back : List ℕ) → AreBytes (front ++ back) → AreBytes front
bytes_before front back bytes i = at (cases_lt i (length front))
  where
    at : ((i < length front) ⊎ (length front ≤ i)) → get_or front i 0 < 256
    at (inl inside) = subst (λ (n : ℕ). n < 256) (get_or-append front back 0 i inside) (bytes i)
    at (inr past) = subst (λ (n : ℕ). n < 256) (sym (get_or_past front i 0 past)) (omega arith)

-- all payloads stand whole in the stream of all
all_whole : (payloads : List (List ℕ)) →
    StandWhole EachFromZero payloads (framings payloads EachFromZero) (length payloads)
all_whole payloads =
    let all : length (framings (take (length payloads) payloads) EachFromZero) ≡
    length (framings payloads EachFromZero) =
    ap (λ ps. length (framings ps EachFromZero)) (take_all (length payloads) payloads (omega arith)) in
    record { few = omega arith; inside = omega (arith, all); most = λ less. absurd (omega (arith, less)) }

-- the contents of the first sets are the first contents
first_contents : (sets others : List (List Value)) (contents all : List Set) →
    HaveContents sets contents → HaveContents (sets ++ others) all → contents ≡
    take (length sets) all
first_contents sets others contents all here whole =
    let front : List (List (Option _)) = map (map content_of) sets in
    let split : map (map Some) all ≡ front ++ map (map content_of) others = sym whole ∙
    map-append (map content_of) sets others in
    let first : map (map Some) (take (length sets) all) ≡ front =
    sym (take-map (map Some) (length sets) all) ∙ ap (λ l. take (length sets) l) split ∙
    take_at front (map (map content_of) others) (length sets)
    (length-map sets (map content_of)) in
    one_contents contents (take (length sets) all) (sym here ∙ sym first)

module _ (law : ReadableSetsAreDelivered) (audits : StreamHasOneAudit) (once : OneTokens)
    (one_count : OneCountStandsWhole) (query : Sql) (id limit : ℕ) where
  -- what is read of a front of a stream that delivers sets
  front_reads : (road : Road) (sets : List (List ℕ) → List Given) (stream front back : List ℕ) →
      AreBytes stream → stream ≡ front ++ back → Delivers road query sets id limit [] stream
      → FrontReads road query sets id limit stream front
  front_reads road sets stream front back bytes parts d =
      let statement : Statement = statement_of query d.tokens id in
      let whole_stream : List ℕ = stream_of d.sent in
      let found = audits statement limit front (query_is query d.tokens id d.has)
      (bytes_before front back (subst (λ (l : List ℕ). AreBytes l) parts bytes)) in
      let audit : Audit = found.0 in
      let there : AuditOf query id limit front audit = (d.tokens, d.has, found.1) in
      let only : (other : Audit) → AuditOf query id limit front other → other ≡ audit =
      λ other is. found.2 other
      (subst (λ (t : List (List ℕ)). Audited (statement_of query t id) limit front other)
      (once query.mode query.text is.0 d.tokens is.1 d.has) is.2) in
      let read = d.fronts front back audit (sym d.appended ∙ parts) there in
      let alone : whole_stream ++ [] ≡ whole_stream = append-nil whole_stream in
      let everything : AuditOf query id limit whole_stream (record { sets = d.contents; ending = Whole }) =
      subst (λ (l : List ℕ). AuditOf query id limit l
      (record { sets = d.contents; ending = Whole })) alone
      ((d.read_back (whole_stream ∷ []) (record { sets = d.contents; ending = Whole }) alone).1
      refl) in
      let all = d.fronts whole_stream [] (record { sets = d.contents; ending = Whole }) (sym alone) everything in
      let number : all.0 ≡ length d.sent =
      one_count EachFromZero (payloads_of d.sent) whole_stream all.0
      (length (payloads_of d.sent)) all.1 (all_whole (payloads_of d.sent)) ∙
      length-map d.sent (λ s. s.payload) in
      let each : HaveContents (sets_of d.sent) d.contents =
      subst (λ (l : List SentPayload). HaveContents (sets_of l) d.contents)
      (take_all all.0 d.sent (omega (arith, number))) all.2 in
      let split : sets_of d.sent ≡ sets_of (take read.0 d.sent) ++ sets_of (drop read.0 d.sent) =
      ap (λ l. sets_of l) (sym (take-append-drop read.0 d.sent)) ∙
      flat_map-append (λ s. s.sets) (take read.0 d.sent) (drop read.0 d.sent) in
      record {
        delivery = d;
        count = read.0;
        whole = read.1;
        audit = audit;
        one = λ other. (only other, λ same. subst (λ (a : Audit). AuditOf query id limit front a) (sym same) there);
        received = λ pieces answer joined is known. only answer
            (subst (λ (l : List ℕ). AuditOf query id limit l answer) joined (is.audit known));
        no_fault = read.3;
        reads = first_contents (sets_of (take read.0 d.sent)) (sets_of (drop read.0 d.sent))
            audit.sets d.contents read.2
            (subst (λ (l : List (List Value)). HaveContents l d.contents) split each);
      }

  module _ (small : id < 2 ^ 32) (room : 4 ≤ limit) (sets : List Params) (old new : Option (List ℕ)) where
    -- what a writer took that failed within the first sets, so many
    takes : (road : Road) (count : ℕ) → count ≤ length sets → (road ≡ Bulk → count ≡ length sets) →
        FailsWithin road query (all_given (take count sets)) id limit old new
        → TakesReadable road query sets id limit old new
    takes road count inside all f = record {
      count = count;
      inside = inside;
      all = all;
      stream = f.stream;
      carries = f.carries;
      taken = f.taken;
      read = λ short. front_reads road (all_given (take count sets)) f.stream f.taken.front
          f.taken.back f.bytes f.taken.parts
          (law road query (all_given (take count sets)) id limit [] f.stream small room short f.bytes f.carries);
    }

    among : (road : Road) → (road ≡ Bulk → ⊥) → FailsAmong road query sets id limit old new →
        TakesReadable road query sets id limit old new
    among road apart f = takes road f.count f.inside (λ bulk. absurd (apart bulk)) f.within

    pub failed : (road : Road) (error : Error) →
        StopsSending road query sets id limit old new (Io error) →
        TakesReadable road query sets id limit old new
    failed Text error f = among Text (λ bulk. cc) f
    failed Execute error f = among Execute (λ bulk. cc) f
    failed Bulk error f =
        takes Bulk (length sets) (omega arith) (λ bulk. refl)
        (subst (λ (l : List Params). FailsWithin Bulk query (all_given l) id limit old new)
        (sym (take_all (length sets) sets (omega arith))) f)

pub failed_writers_are_read : ReadableSetsAreDelivered → StreamHasOneAudit → OneTokens →
    OneCountStandsWhole → FailedWritersAreRead
failed_writers_are_read law audits once one_count road query sets id limit old new error small room f =
    failed law audits once one_count query id limit small room sets old new road error f
