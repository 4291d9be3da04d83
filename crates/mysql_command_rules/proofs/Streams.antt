-- Streams that audit as whole are the framings of commands one after another.
use Rattle.std.proofs.Common.{◌≡◌, ◌⊎◌, inl, inr, ℕ, zero, suc, ◌+◌, ◌-◌, ◌*◌, ◌/◌, ◌%◌, ◌<◌, ◌≤◌, ◌^◌, Bool, true}
use Rattle.std.proofs.Common.{false, List, [], ◌∷◌, ◌++◌, length, get_or, drop, refl, sym, ap, ◌∙◌, arith, subst}
use Rattle.std.proofs.Common.{append_assoc}
use Rattle.std.specs.Prelude.{slice_index_or, if◌then◌else◌}
use Rattle.std.specs.List.{flat_map, range_with_len}
use Rattle.std.proofs.lemmas.Bool.{cases_lt}
use Rattle.std.proofs.lemmas.List.{append-nil, get_or-drop, get_or-take, get_or_append_left, get_or_past}
use Rattle.mysql_const.specs.Commands.{command_named, command_number}
use Rattle.mysql_const.specs.Tables.{IsTable}
use Rattle.mysql_wire.specs.Bytes.{AreBytes}
use Rattle.mysql_wire.specs.Framing.{max_payload_len, chunk, chunks, chunk_count, framing, slice}
use Rattle.mysql_wire.specs.GoingOn.{RestsAreTold}
use Rattle.mysql_wire.specs.Stream.{Rest, IsRest, framings, after_all, first_number}
use Rattle.mysql_wire.specs.Stream.Numbering.{EachFromZero}
use Rattle.mysql_wire.specs.Stream.Rest.{Empty, TooLarge, OutOfSync, Open}
use Rattle.byteorder.specs.Endian.{little_bytes}
use Rattle.mysql_receive.specs.declared.audit.End.{End}
use Rattle.mysql_receive.specs.declared.audit.End.TheVariants.{Fault, WaitingPieces, UnfinishedPacket, Whole}
use Rattle.mysql_receive.specs.Query.{IsQuery, Statement}
use Rattle.mysql_receive.specs.InForce.{StatementState, nothing_yet, after, state_after, is_waiting}
use Rattle.mysql_receive.specs.Reading.{Set}
use Rattle.mysql_receive.specs.Audit as audit
use Rattle.mysql_receive.specs.Audit.{Audit, Audited, Ends, Reads, end_by_rest}
use Rattle.mysql_command_rules.specs.Manual.{AreCommands, none, next, IsFramed}
use Rattle.mysql_command_rules.proofs.Numbers.{bytes_behind}
use Rattle.mysql_command_rules.proofs.Fillings.{QueryLaws}
use Rattle.mysql_command_rules.proofs.Leaving.{is_not_waiting, none_waits}
use Rattle.mysql_command_rules.proofs.Commands.{each_reads, only_reads}

-- ---- the bytes of a payload stand in its framing

front_bytes : (front rest bytes : List ℕ) → bytes ≡ front ++ rest → AreBytes bytes → AreBytes front
front_bytes front rest bytes e are i = at (cases_lt i (length front))
  where
    at : ((i < length front) ⊎ (length front ≤ i)) → get_or front i 0 < 256
    at (inl lt) = subst (λ (n : ℕ). n < 256) (ap (λ (l : List ℕ). get_or l i 0) e ∙
        get_or_append_left front rest 0 i lt) (are i)
    at (inr le) = subst (λ (n : ℕ). n < 256) (sym (get_or_past front i 0 le)) (omega arith)

part_bytes : (f : ℕ → List ℕ) (a n i : ℕ) → i < n → AreBytes (flat_map f (range_with_len a n)) → AreBytes (f (a + i))
part_bytes f a zero i lt are = absurd (omega (arith, lt))
part_bytes f a (suc n) zero lt are =
    let same : a ≡ a + 0 = omega arith in
    subst (λ (k : ℕ). AreBytes (f k)) same
    (front_bytes (f a) (flat_map f (range_with_len (a + 1) n)) (f a ++
    flat_map f (range_with_len (a + 1) n)) refl are)
part_bytes f a (suc n) (suc i) lt are =
    let same : a + 1 + i ≡ a + suc i = omega arith in
    subst (λ (k : ℕ). AreBytes (f k)) same
    (part_bytes f (a + 1) n i (omega (arith, lt))
    (bytes_behind (f a) (flat_map f (range_with_len (a + 1) n)) (f a ++
    flat_map f (range_with_len (a + 1) n)) refl are))

slice_bytes : (payload : List ℕ) (i : ℕ) → i < chunk_count payload → AreBytes (framing payload 0) →
    AreBytes (slice payload i)
unfolding framing chunks
slice_bytes payload i lt are =
    let one = part_bytes (λ k. chunk (0 + k) (slice payload k)) 0 (chunk_count payload) i lt are in
    let part = slice payload (0 + i) in
    let number : ℕ = (0 + (0 + i)) % 256 in
    let same : 0 + i ≡ i = omega arith in
    subst (λ (k : ℕ). AreBytes (slice payload k)) same
    (bytes_behind (little_bytes 3 (length part) ++ number ∷ []) part (chunk (0 + (0 + i)) part) refl one)

payload_bytes : (payload : List ℕ) → AreBytes (framing payload 0) → AreBytes payload
payload_bytes payload are k = at (cases_lt k (length payload))
  where
    at : ((k < length payload) ⊎ (length payload ≤ k)) → get_or payload k 0 < 256
    at (inr le) = subst (λ (n : ℕ). n < 256) (sym (get_or_past payload k 0 le)) (omega arith)
    at (inl lt) =
        let i : ℕ = k / max_payload_len in
        let j : ℕ = k % max_payload_len in
        let inside : j < max_payload_len = omega arith in
        let place : i * max_payload_len + j ≡ k = omega arith in
        let early : i < chunk_count payload = omega (arith, lt) in
        let found : get_or (slice payload i) j 0 ≡ get_or payload k 0 =
        get_or-take max_payload_len (drop (i * max_payload_len) payload) j 0 inside ∙
        get_or-drop (i * max_payload_len) payload j 0 ∙
        ap (λ (n : ℕ). get_or payload n 0) place in
        subst (λ (n : ℕ). n < 256) found (slice_bytes payload i early are j)

payloads_bytes : (payloads : List (List ℕ)) (rest bytes : List ℕ) → bytes ≡
    framings payloads EachFromZero ++ rest → AreBytes bytes → (i : ℕ) →
    AreBytes (slice_index_or payloads i [])
payloads_bytes [] rest bytes e are i = λ k. omega arith
payloads_bytes (payload ∷ payloads) rest bytes e are zero =
    payload_bytes payload (front_bytes (framing payload 0) (framings payloads EachFromZero ++
    rest) bytes (e ∙ append_assoc (framing payload 0) (framings payloads EachFromZero) rest)
    are)
payloads_bytes (payload ∷ payloads) rest bytes e are (suc i) =
    let joined : bytes ≡ framing payload 0 ++ (framings payloads EachFromZero ++ rest) = e ∙
    append_assoc (framing payload 0) (framings payloads EachFromZero) rest in
    payloads_bytes payloads rest (framings payloads EachFromZero ++
    rest) refl (bytes_behind (framing payload 0) (framings payloads EachFromZero ++
    rest) bytes joined are) i

-- ---- ends

no_bytes : RestsAreTold → (limit number : ℕ) (bytes : List ℕ) (rest : Rest) →
    IsRest limit number bytes rest → rest ≡ Empty → bytes ≡ []
no_bytes told limit number bytes rest is empty =
    ((told limit number).1 bytes).0 (subst (IsRest limit number bytes) empty is)

abbrev IsWhole : End → Type 0
IsWhole Whole = Unit {0}
IsWhole (Fault n f) = ⊥
IsWhole WaitingPieces = ⊥
IsWhole UnfinishedPacket = ⊥

-- where the end is whole, nothing follows the payloads and no data waits
record EndsWhole (rest : Rest) (waits : Bool) : Type 0 where
  empty : rest ≡ Empty
  no_wait : waits ≡ false

whole_by : (rest : Rest) (count : ℕ) (c : Statement) (s : StatementState) →
    IsWhole (end_by_rest c s count rest) → EndsWhole rest (is_waiting c s)
whole_by rest count c s whole = by rest (is_waiting c s) refl whole
  where
    by : (rest : Rest) (waits : Bool) → is_waiting c s ≡ waits →
        IsWhole (end_by_rest c s count rest) → EndsWhole rest waits
    by TooLarge waits same whole = absurd whole
    by OutOfSync waits same whole = absurd whole
    by Open true same whole =
        absurd (subst (λ (b : Bool). IsWhole (if b then WaitingPieces else UnfinishedPacket)) same
        whole)
    by Open false same whole =
        absurd (subst (λ (b : Bool). IsWhole (if b then WaitingPieces else UnfinishedPacket)) same
        whole)
    by Empty true same whole = absurd (subst (λ (b : Bool). IsWhole (if b then WaitingPieces else Whole)) same whole)
    by Empty false same whole = record { empty = refl; no_wait = refl }

-- ---- commands one after another

-- commands, as they read
record CommandsRead (c : Statement) (s : StatementState) (n : ℕ) (payloads : List (List ℕ))
    (sets : List Set) (last : StatementState) : Type 0 where
  reads : List (List Set)
  each : Reads c s n payloads reads
  joined : sets ≡ flat_map (λ sets. sets) reads
  leaves : state_after c s payloads ≡ last

module _ (laws : QueryLaws) (c : Statement) (is : IsQuery c.query) where
  commands_read : (s : StatementState) (n : ℕ) (payloads : List (List ℕ)) (sets : List Set)
      (last : StatementState) → n + length payloads < 2 ^ 64 → AreCommands c s payloads sets last →
      CommandsRead c s n payloads sets last
  commands_read s n payloads sets last few none =
      record { reads = []; each = audit.nothing; joined = refl; leaves = refl }
  commands_read s n all sets last few
      (next {between = between} {payload = payload} {payloads = payloads} held more command
      commands) =
      let first = each_reads laws c s payload held between is command in
      let others = commands_read between (n + 1) payloads more last (omega (arith, few)) commands in
      record {
        reads = held ∷ others.reads;
        each = audit.next (
          omega (arith, few),
          first.0,
        ) (subst (λ (t : StatementState). Reads c t (n + 1) payloads others.reads)
            (sym first.1) others.each);
        joined = ap (λ (xs : List Set). held ++ xs) others.joined;
        leaves = ap (λ (t : StatementState). state_after c t payloads) first.1 ∙ others.leaves;
      }

  read_commands : (table : IsTable command_number command_named) (s : StatementState) (n : ℕ)
      (payloads : List (List ℕ)) (reads : List (List Set)) →
      ((i : ℕ) → AreBytes (slice_index_or payloads i [])) →
      Reads c s n payloads reads → AreCommands c s payloads (flat_map (λ sets. sets) reads) (state_after c s payloads)
  read_commands table s n payloads reads are audit.nothing = none
  read_commands table s n payloads reads are
      (audit.next {payload = p} {payloads = ps} {sets = held} {reads = rs} here others) =
      next held (flat_map (λ sets. sets) rs) (only_reads laws c s is table p held (are 0) here.1)
      (read_commands table (after c s p) (n + 1) ps rs (λ i. are (suc i)) others)

-- the last of payloads that read isn't too late to be numbered
reads_few : (c : Statement) (s : StatementState) (n : ℕ) (payloads : List (List ℕ))
    (reads : List (List Set)) → n < 2 ^ 64 → Reads c s n payloads reads →
    n + length payloads < 2 ^ 64
reads_few c s n payloads reads few audit.nothing = omega (arith, few)
reads_few c s n payloads reads few
    (audit.next {payload = p} {payloads = ps} {reads = rs} here others) =
    omega (arith, reads_few c (after c s p) (n + 1) ps rs (omega (arith, here.0)) others)

-- ---- whole streams

module _ (laws : QueryLaws) (told : RestsAreTold) (c : Statement) (limit : ℕ) (is : IsQuery c.query) where
  pub each_framed : (bytes : List ℕ) (sets : List Set) → IsFramed c limit bytes sets →
      Audited c limit bytes (record { sets = sets; ending = Whole })
  each_framed bytes sets framed =
      let read = commands_read laws c is nothing_yet 0 framed.payloads sets framed.last
      (omega (arith, framed.few)) framed.commands in
      let waits : is_waiting c (state_after c nothing_yet framed.payloads) ≡ false =
      ap (λ (t : StatementState). is_waiting c t) read.leaves ∙
      is_not_waiting c framed.last framed.none_waits in (
        record { payloads = framed.payloads; rest_bytes = []; rest = Empty },
        record {
          joined = framed.framed ∙ sym (append-nil (framings framed.payloads EachFromZero));
          within = framed.within;
          ends = (told limit (first_number (after_all framed.payloads EachFromZero))).0;
        },
        record {
          reads = read.reads;
          each = record {
            front = framed.payloads;
            left = [];
            cut =
                sym (append-nil framed.payloads);
            each = read.each;
          };
          sets = read.joined;
          ending = audit.all_read (sym (ap (λ (b : Bool). if b then WaitingPieces else Whole) waits));
        },
      )

  pub only_framed : IsTable command_number command_named → (bytes : List ℕ) (a : Audit) →
      AreBytes bytes → Audited c limit bytes a → a.ending ≡ Whole → IsFramed c limit bytes a.sets
  only_framed table bytes a are (split, splits, audits) whole = by audits.each.left audits.each.cut audits.ending
    where
      by : (left : List (List ℕ)) → split.payloads ≡ audits.each.front ++ left →
          Ends c (state_after c nothing_yet audits.each.front) (0 + length audits.reads) split.rest
          a.ending left → IsFramed c limit bytes a.sets
      by left cut (audit.faulty f k as_fault) = absurd (subst IsWhole (sym whole ∙ as_fault) tt)
      by left cut (audit.all_read end_is) =
          let all : audits.each.front ≡ split.payloads = sym (cut ∙ append-nil audits.each.front) in
          let each : Reads c nothing_yet 0 split.payloads audits.reads =
          subst (λ (l : List (List ℕ)). Reads c nothing_yet 0 l audits.reads) all
          audits.each.each in
          let ends = whole_by split.rest (0 + length audits.reads) c
          (state_after c nothing_yet audits.each.front)
          (subst IsWhole (sym whole ∙ end_is) tt) in
          let empty = no_bytes told limit (first_number (after_all split.payloads EachFromZero))
          split.rest_bytes split.rest splits.ends ends.empty in
          let commands = read_commands laws c is table nothing_yet 0 split.payloads audits.reads
          (payloads_bytes split.payloads split.rest_bytes bytes splits.joined are) each in
          record {
            payloads = split.payloads;
            last = state_after c nothing_yet split.payloads;
            commands = subst (λ (xs : List Set). AreCommands c nothing_yet split.payloads xs
                (state_after c nothing_yet split.payloads)) (sym audits.sets) commands;
            few = omega (arith, reads_few c nothing_yet 0 split.payloads audits.reads (omega arith) each);
            within = splits.within;
            framed = splits.joined ∙ ap (λ (l : List ℕ). framings split.payloads EachFromZero ++
                l) empty ∙ append-nil (framings split.payloads EachFromZero);
            none_waits = none_waits c (state_after c nothing_yet split.payloads)
                (ap (λ (l : List (List ℕ)). is_waiting c (state_after c nothing_yet l)) (sym all) ∙ ends.no_wait);
          }
