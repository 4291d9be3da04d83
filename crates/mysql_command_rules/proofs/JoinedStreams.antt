-- Streams that were sent one behind the other.
use Rattle.std.proofs.Common.{◌≡◌, ℕ, suc, ◌+◌, ◌<◌, ◌≤◌, ◌^◌, List, [], ◌∷◌, ◌++◌, filter, length, map, Ok, refl, sym}
use Rattle.std.proofs.Common.{◌∙◌, ap, subst, arith, append_assoc, add-one, length-append}
use Rattle.std.specs.List.{AllByRecursion}
use Rattle.std.proofs.lemmas.List.{map-append}
use Rattle.mysql_wire.specs.Framing.{chunk, chunks, framing, slice}
use Rattle.mysql_wire.specs.Stream.{Split, framings}
use Rattle.mysql_wire.specs.Stream.Numbering.{EachFromZero}
use Rattle.mysql_values.specs.Sql.{Sql}
use Rattle.mysql_values.specs.Laws.{OneTokens}
use Rattle.mysql_values.specs.Parsed.{names_of}
use Rattle.mysql_values.specs.Queries.{is_place}
use Rattle.mysql_receive.specs.Audit.{Audited}
use Rattle.mysql_receive.specs.declared.audit.End.TheVariants.{Whole}
use Rattle.mysql_receive.specs.Laws.{WholeStreamsJoin}
use Rattle.mysql_receive.specs.Query.{Statement, statement_of}
use Rattle.mysql_receive.specs.Reading.{Set}
use Rattle.mysql_command_rules.specs.Laws.{SentStreamsJoin}
use Rattle.mysql_command_rules.specs.Reading.{AreMeanings, StreamReadsAs}
use Rattle.mysql_command_rules.specs.Sets.{Given}
use Rattle.mysql_command_rules.proofs.Held.{all_append, contents_append}

-- a chunk has bytes
chunk_some : (number : ℕ) (bytes rest : List ℕ) → 0 < length (chunk number bytes ++ rest)
chunk_some number bytes rest = omega arith

chunks_some : (payload : List ℕ) (count n : ℕ) → n ≡ suc count → 0 < length (chunks payload 0 n)
unfolding chunks
chunks_some payload count n is = rw is (chunk_some (0 + 0) (slice payload 0) _)

framing_some : (payload : List ℕ) → 0 < length (framing payload 0)
unfolding framing
framing_some payload = chunks_some payload _ _ (add-one _)

-- a stream has at least a byte for each payload
pub as_long : (payloads : List (List ℕ)) → length payloads ≤ length (framings payloads EachFromZero)
as_long [] = omega arith
as_long (payload ∷ payloads) =
    omega (
      arith,
      framing_some payload,
      as_long payloads,
      length-append (framing payload 0) (framings payloads EachFromZero),
    )

few : (split : Split) (bytes : List ℕ) → bytes ≡ framings split.payloads EachFromZero ++
    split.rest_bytes → length split.payloads ≤ length bytes
few split bytes is = omega (
  arith,
  ap length is,
  as_long split.payloads,
  length-append (framings split.payloads EachFromZero) split.rest_bytes,
)

-- the meanings of sets and of others behind them
meanings_join : OneTokens →
    (query : Sql) (sets others : List (List ℕ) → List Given) (contents later : List Set) →
    AreMeanings query sets contents → AreMeanings query others later →
    AreMeanings query (λ names. sets names ++ others names) (contents ++ later)
meanings_join once query sets others contents later m n =
    let tokens : n.tokens ≡ m.tokens = once query.mode query.text n.tokens m.tokens n.has m.has in
    let given : others (names_of m.tokens) ≡ map Ok n.values = ap (λ t. others (names_of t)) (sym tokens) ∙ n.given in
    record {
      tokens = m.tokens;
      has = m.has;
      values = m.values ++ n.values;
      given = ap (λ l. l ++ others (names_of m.tokens)) m.given ∙
          ap (λ l. map Ok m.values ++ l) given ∙ sym (map-append Ok m.values n.values);
      counts = all_append (λ set. length set ≡ length (filter is_place m.tokens)) m.values n.values m.counts
          (subst (λ (t : List (List ℕ)). AllByRecursion (λ set. length set ≡
          length (filter is_place t)) n.values) tokens n.counts);
      each = contents_append m.values n.values contents later m.each n.each;
    }

-- two streams of a query and an id that read as meanings, one behind the other, in fewer than 2 ^ 64 bytes
streams_join : OneTokens → WholeStreamsJoin →
    (query : Sql) (sets others : List (List ℕ) → List Given) (id limit : ℕ) (stream behind : List ℕ)
    (contents later : List Set) → length stream + length behind < 2 ^ 64
    → StreamReadsAs query sets id limit stream contents →
    StreamReadsAs query others id limit behind later →
    StreamReadsAs query (λ names. sets names ++ others names) id limit (stream ++
    behind) (contents ++ later)
streams_join once join query sets others id limit stream behind contents later short r q =
    let statement : Statement = statement_of query r.audit.0 id in
    let same : q.audit.0 ≡ r.audit.0 = once query.mode query.text q.audit.0 r.audit.0 q.audit.1 r.audit.1 in
    let second : Audited statement limit behind (record { sets = later; ending = Whole }) =
    subst (λ (tokens : List (List ℕ)). Audited (statement_of query tokens id) limit behind
    (record { sets = later; ending = Whole })) same q.audit.2 in
    record {
      meanings = meanings_join once query sets others contents later r.meanings q.meanings;
      audit = (
        r.audit.0,
        r.audit.1,
        join statement limit stream behind r.audit.2.0 second.0
            (record { sets = contents; ending = Whole }) (record { sets = later; ending = Whole })
            r.audit.2.1 second.1 r.audit.2.2 second.2
            (omega (arith, few r.audit.2.0 stream r.audit.2.1.joined, few second.0 behind second.1.joined)) refl refl,
      );
    }

pub joined : OneTokens → WholeStreamsJoin → SentStreamsJoin
joined once join query sets others id limit old mid new short r q =
    let appended : new ≡ old ++ (r.stream ++ q.stream) = q.appended ∙
    ap (λ l. l ++ q.stream) r.appended ∙ append_assoc old r.stream q.stream in
    let lengths : length r.stream + length q.stream ≤ length new =
    omega (arith, ap length appended, length-append old (r.stream ++ q.stream), length-append r.stream q.stream) in
    record {
      stream = r.stream ++ q.stream;
      appended = appended;
      contents = r.contents ++ q.contents;
      reads = streams_join once join query sets others id limit r.stream q.stream r.contents
          q.contents (omega arith) r.reads q.reads;
    }
