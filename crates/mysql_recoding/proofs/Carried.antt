-- Each set that a stream of bytes carries fills the query's placeholders.
use Rattle.std.proofs.Common.{◌≡◌, ℕ, ◌+◌, List, [], ◌∷◌, ◌++◌, length, sym, ap, subst, ◌∙◌}
use Rattle.std.specs.List.{AllByRecursion, flat_map}
use Rattle.mysql_wire.specs.Bytes.{AreBytes}
use Rattle.mysql_values.specs.Sql.{Sql}
use Rattle.mysql_values.specs.Laws.{OneTokens}
use Rattle.mysql_values.specs.Queries.{places_of}
use Rattle.mysql_values.specs.Tokens.{HasTokens}
use Rattle.mysql_receive.specs.Audit.{Reads, nothing, next}
use Rattle.mysql_receive.specs.InForce.{StatementState, after, nothing_yet}
use Rattle.mysql_receive.specs.Query.{Statement, place_count, statement_of}
use Rattle.mysql_receive.specs.Reading.{Set}
use Rattle.mysql_command_rules.specs.declared.refusal.Refusal.TheVariants as refusals
use Rattle.mysql_recoding.specs.Laws.{CarriedSetsFillPlaces, FillsPlaces}
use Rattle.mysql_recoding.proofs.CarriedCommands.{CountsPlaces, Fills, payload_carried}
use Rattle.mysql_recoding.proofs.FramedBytes.{payloads_are_bytes}
use Rattle.mysql_recoding.proofs.NoFloats.{values_are_right}
use Rattle.mysql_recoding.proofs.StatesInForce.{IsInForce, nothing_in_force, stays_in_force}

-- ---- lists

all_append : {X : Type 0} (P : X → Type 0) (xs ys : List X) → AllByRecursion P xs →
    AllByRecursion P ys → AllByRecursion P (xs ++ ys)
all_append P [] ys h k = k
all_append P (x ∷ xs) ys h k = (h.0, all_append P xs ys h.1 k)

all_front : {X : Type 0} (P : X → Type 0) (xs ys : List X) → AllByRecursion P (xs ++ ys) → AllByRecursion P xs
all_front P [] ys h = tt
all_front P (x ∷ xs) ys h = (h.0, all_front P xs ys h.1)

all_mapped : {X : Type 0} (P Q : X → Type 0) (xs : List X) → ((x : X) → P x → Q x) →
    AllByRecursion P xs → AllByRecursion Q xs
all_mapped P Q [] f h = tt
all_mapped P Q (x ∷ xs) f h = (f x h.0, all_mapped P Q xs f h.1)

-- ---- payloads

reads_carried : (c : Statement) (s : StatementState) (n : ℕ) (payloads : List (List ℕ))
    (reads : List (List Set)) → CountsPlaces c → IsInForce c s → AllByRecursion AreBytes payloads
    → Reads c s n payloads reads → AllByRecursion (Fills (place_count c.query)) (flat_map (λ sets. sets) reads)
reads_carried c s n payloads reads counts is h nothing = tt
reads_carried c s n payloads reads counts is h
    (next {payload = p} {payloads = ps} {sets = sets} {reads = rs} here others) =
    all_append (Fills (place_count c.query)) sets (flat_map (λ sets. sets) rs)
    (payload_carried c s p sets counts is h.0 here.1)
    (reads_carried c (after c s p) (n + 1) ps rs counts (stays_in_force c s p h.0 is) h.1 others)

-- ---- streams

counts_places : OneTokens → (query : Sql) (tokens : List (List ℕ)) (id : ℕ) →
    HasTokens query.mode query.text tokens → CountsPlaces (statement_of query tokens id)
counts_places one query tokens id has others also =
    ap (λ ts. length (places_of query ts)) (one query.mode query.text others tokens also has)

pub carried_sets_fill : OneTokens → CarriedSetsFillPlaces
carried_sets_fill one query tokens id limit stream audit has bytes says =
    let c : Statement = statement_of query says.0 id in
    let counts : CountsPlaces c = counts_places one query says.0 id says.1 in
    let payloads = payloads_are_bytes limit stream says.2.0 says.2.1 bytes in
    let first = says.2.2.each in
    let front = all_front AreBytes first.front first.left (subst (AllByRecursion AreBytes) first.cut payloads) in
    let reads = reads_carried c nothing_yet 0 first.front says.2.2.reads counts (nothing_in_force c) front first.each in
    let places : place_count c.query ≡ length (places_of query tokens) = sym (counts tokens has) in
    all_mapped (Fills (place_count c.query)) (FillsPlaces (places_of query tokens)) audit.sets (λ set fills. record {
      count = fills.0 ∙ places;
      each = fills.1;
      right = λ number. values_are_right (refusals.WrongCount number)
          (λ place. refusals.Float number place) (length (places_of query tokens)) set (fills.0 ∙
          places);
    })
    (subst (AllByRecursion (Fills (place_count c.query))) (sym says.2.2.sets) reads)
