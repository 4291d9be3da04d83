-- Requests given one after another are those of the first parts of the tight cut.
use Rattle.std.proofs.Common.{◌≡◌, ◌≢◌, ℕ, zero, suc, ◌+◌, ◌*◌, ◌<◌, ◌≤◌, inl, inr, Bool, false, List, [], ◌∷◌, ◌++◌}
use Rattle.std.proofs.Common.{length, take, drop, map, Option, Some, None, Result, Ok, Err, refl, sym, ◌∙◌, ap, subst}
use Rattle.std.proofs.Common.{arith, zero-le, length-append, length-drop}
use Rattle.std.specs.Prelude.{sum, sum_by, MatchOption, if◌then◌else◌}
use Rattle.std.specs.List.{AllByRecursion}
use Rattle.std.proofs.Math.Seq.{take-append_seam, drop-append_seam, take-append-add}
use Rattle.std.proofs.lemmas.List.{append_assoc, drop-drop}
use Rattle.mysql_values.specs.declared.params.ParamsError.{ParamsError}
use Rattle.mysql_bulk_builder.specs.Builder.{columns_of, Builder, Request, IsFilled, most_rows, request_of}
use Rattle.mysql_bulk_builder.specs.Builder.{request_size}
use Rattle.mysql_bulk_builder.specs.Cut.{Row, row_size, rows_of, size, types_size, parts_from, IsTightPart}
use Rattle.mysql_bulk_builder.specs.Given.{Giving}
use Rattle.mysql_bulk_builder.specs.Iteration.{Iteration, GivesRequest, IsFull}
use Rattle.mysql_bulk_builder.specs.IterationLaws.{rows_given, waiting, first_types, typed_at, request_at, counts, Runs}
use Rattle.mysql_bulk_builder.specs.IterationLaws.{GivesFirst}
use Rattle.mysql_bulk_builder.proofs.Greedy.{sum-cons}
use Rattle.mysql_bulk_builder.proofs.Tight.{tight_parts_come_first}

rows_given_append : (rows : List Row) (rest : Giving) →
    rows_given (map (λ row. Ok row) rows ++ rest) ≡ rows ++ rows_given rest
rows_given_append [] rest = refl
rows_given_append (row ∷ rows) rest = ap (λ (rs : List Row). row ∷ rs) (rows_given_append rows rest)

length_given : (rows : List Row) (rest : Giving) →
    length (map (λ (row : Row). let o : Result Row ParamsError = Ok row in o) rows ++ rest) ≡
    length rows + length rest
length_given [] rest = omega arith
length_given (row ∷ rows) rest = omega (arith, length_given rows rest)

-- the arity of rows held, which fit
filled_is : (b : Builder) → IsFilled b → b.rows ≢ [] → (n : ℕ) × (b.arity ≡ Some n) ×
    AllByRecursion (λ row. length row ≡ n) b.rows × (request_size b.typed n b.rows ≤ b.room)
filled_is b filled ne = by b.arity refl filled
  where
    by : (arity : Option ℕ) → b.arity ≡ arity →
        MatchOption arity (b.rows ≡ []) (λ n. AllByRecursion (λ row. length row ≡ n) b.rows ×
        (b.rows ≢ [] → request_size b.typed n b.rows ≤ b.room)) →
        (n : ℕ) × (b.arity ≡ Some n) × AllByRecursion (λ row. length row ≡ n) b.rows ×
        (request_size b.typed n b.rows ≤ b.room)
    by None e none = absurd (ne none)
    by (Some n) e f = (n, e, f.0, f.1 ne)

some_rows : (rows : List Row) → rows ≢ [] → 0 < length rows
some_rows [] ne = absurd (ne refl)
some_rows (row ∷ rows) ne = omega arith

-- the first row's length
first_columns : (rows more : List Row) (n : ℕ) → AllByRecursion (λ row. length row ≡ n) rows →
    rows ≢ [] → n ≡ columns_of (rows ++ more)
first_columns [] more n all ne = absurd (ne refl)
first_columns (row ∷ rows) more n all ne = sym all.0

module _ (first : Builder) (all : List Row) where
  abbrev types : ℕ
  types = first_types first.typed all

  -- where an iterator stands among all rows
  pub record StandsAt (it : Iteration) (s : ℕ) : Type 0 where
    pub waits : waiting it ≡ drop s all
    pub within : s ≤ length all
    pub few : length it.builder.rows + length it.given ≤ most_rows
    pub room : it.builder.room ≡ first.room
    pub id : it.builder.id ≡ first.id
    pub results : it.builder.results ≡ first.results
    pub typed : it.builder.typed ≡ typed_at first.typed s

  -- a part of the tight cut, which fits
  abbrev pub IsPart : ℕ → ℕ → Type 0
  IsPart s c = (0 < c) × (size types all s c ≤ first.room) ×
      (s + c < length all → first.room < size types all s (c + 1))

  types_bytes : (s n : ℕ) (typed : Bool) → typed ≡ typed_at first.typed s →
      (s ≡ 0 → n ≡ columns_of all) → (if typed then 2 * n else 0) ≡ types_size types s
  types_bytes zero n typed e same = ap (λ (m : ℕ). if typed then 2 * m else 0) (same refl) ∙
      ap (λ (b : Bool). if b then 2 * columns_of all else 0) e
  types_bytes (suc s) n typed e same = ap (λ (b : Bool). if b then 2 * n else 0) e

  module _ (it next : Iteration) (request : Request) (s : ℕ) (st : StandsAt it s)
      (g : GivesRequest it request next) where
    abbrev f : Builder
    f = g.filled

    abbrev c : ℕ
    c = length g.filled.rows

    held : f.rows ≡ it.builder.rows ++ g.took.0
    held = ap (λ (b : Builder). b.rows) g.took.2

    split : f.rows ++ rows_given next.given ≡ drop s all
    split =
        let a : rows_given it.given ≡ g.took.0 ++ rows_given next.given = ap rows_given g.took.1 ∙
        rows_given_append g.took.0 next.given in
        ap (λ (rs : List Row). rs ++ rows_given next.given) held ∙
        append_assoc it.builder.rows g.took.0 (rows_given next.given) ∙
        ap (λ (rs : List Row). it.builder.rows ++ rs) (sym a) ∙ st.waits

    part : f.rows ≡ rows_of all s c
    part = sym (ap (take c) (sym split) ∙ take-append_seam f.rows (rows_given next.given))

    after : rows_given next.given ≡ drop (s + c) all
    after = sym (sym (drop-drop c s all) ∙ ap (drop c) (sym split) ∙ drop-append_seam f.rows (rows_given next.given))

    reaches : s + c + length (rows_given next.given) ≡ length all
    reaches = omega (arith, ap length split, length-append f.rows (rows_given next.given), length-drop s all, st.within)

    columns : (n : ℕ) → AllByRecursion (λ row. length row ≡ n) f.rows → s ≡ 0 → n ≡ columns_of all
    columns n one e =
        let whole : f.rows ++ rows_given next.given ≡ all = split ∙ ap (λ (k : ℕ). drop k all) e in
        first_columns f.rows (rows_given next.given) n one g.some ∙ ap columns_of whole

    typed_is : f.typed ≡ typed_at first.typed s
    typed_is = ap (λ (b : Builder). b.typed) g.took.2 ∙ st.typed

    room_is : f.room ≡ first.room
    room_is = ap (λ (b : Builder). b.room) g.took.2 ∙ st.room

    size_is : (n : ℕ) (rows : List Row) (k : ℕ) → (s ≡ 0 → n ≡ columns_of all) → rows ≡
        rows_of all s k → request_size f.typed n rows ≡ size types all s k
    size_is n rows k same e = omega (arith, types_bytes s n f.typed typed_is same, ap (sum_by row_size) e)

    few_is : length g.took.0 + length next.given + length it.builder.rows ≤ most_rows
    few_is = omega (arith, st.few, ap length g.took.1, length_given g.took.0 next.given)

    lacks : (given : Giving) → next.given ≡ given → IsFull f given → (n : ℕ) → f.arity ≡ Some n →
        (s ≡ 0 → n ≡ columns_of all) → s + c < length all → first.room < size types all s (c + 1)
    lacks [] e full n arity same more =
        absurd (omega (arith, more, reaches, ap (λ (gs : Giving). length (rows_given gs)) e))
    lacks (Err error ∷ given) e full n arity same more = absurd full
    lacks (Ok row ∷ given) e full n arity same more =
        let len : length row ≡ n = subst (λ a. MatchOption a (Unit {0}) (λ m. length row ≡ m)) arity full.0 in
        let ahead : f.rows ++ row ∷ rows_given given ≡ drop s all =
        ap (λ (gs : Giving). f.rows ++ rows_given gs) (sym e) ∙ split in
        let rows : f.rows ++ row ∷ [] ≡ rows_of all s (c + 1) =
        sym (ap (take (c + 1)) (sym ahead) ∙
        take-append-add f.rows (row ∷ rows_given given) 1) in
        elim full.1 [
          | inl most ↦ absurd (omega (
            arith,
            most,
            few_is,
            ap length e,
            ap length held,
            length-append it.builder.rows g.took.0,
          ))
          | inr past ↦ omega (
            arith,
            past,
            size_is (length row) (f.rows ++ row ∷ []) (c + 1) (λ z. len ∙ same z) rows,
            room_is,
          )
        ]

    pub is_part : IsPart s c
    is_part =
        let a = filled_is f g.fits g.some in
        let same : s ≡ 0 → a.0 ≡ columns_of all = columns a.0 a.2 in (
          some_rows f.rows g.some,
          omega (arith, a.3, size_is a.0 f.rows c same part, room_is),
          lacks next.given refl g.full a.0 a.1 same,
        )

    pub is_request : request_of f ≡ request_at first all s c
    is_request =
        ap (λ (k : ℕ). let r : Request =
        record { id = k; results = f.results; typed = f.typed; rows = f.rows } in
        r) (ap (λ (b : Builder). b.id) g.took.2 ∙ st.id) ∙
        ap (λ (k : Bool). let r : Request =
        record { id = first.id; results = k; typed = f.typed; rows = f.rows } in
        r) (ap (λ (b : Builder). b.results) g.took.2 ∙ st.results) ∙
        ap (λ (k : Bool). let r : Request =
        record { id = first.id; results = first.results; typed = k; rows = f.rows } in
        r) typed_is ∙
        ap (λ (k : List Row). let r : Request =
        record {
          id = first.id;
          results = first.results;
          typed = typed_at first.typed s;
          rows =
              k;
        } in r) part

    pub stands_next : StandsAt next (s + c)
    stands_next = record {
      waits = ap (λ (b : Builder). b.rows ++ rows_given next.given) g.builder_is ∙ after;
      within = omega (arith, reaches);
      few = omega (arith, few_is, ap (λ (b : Builder). length b.rows) g.builder_is);
      room = ap (λ (b : Builder). b.room) g.builder_is ∙ room_is;
      id = ap (λ (b : Builder). b.id) g.builder_is ∙ ap (λ (b : Builder). b.id) g.took.2 ∙ st.id;
      results = ap (λ (b : Builder). b.results) g.builder_is ∙ ap (λ (b : Builder). b.results) g.took.2 ∙ st.results;
      typed = ap (λ (b : Builder). b.typed) g.builder_is ∙ later (s + c) (omega (arith, some_rows f.rows g.some));
    }
      where
        later : (k : ℕ) → 0 < k → false ≡ typed_at first.typed k
        later zero pos = absurd (omega arith)
        later (suc k) pos = refl

  -- requests one after another
  pub record AreParts (requests : List Request) (s : ℕ) (end : Iteration) : Type 0 where
    pub parts_are : AllByRecursion (λ p. IsPart p.0 p.1) (parts_from s (counts requests))
    pub requests_are : requests ≡ map (λ p. request_at first all p.0 p.1) (parts_from s (counts requests))
    pub stands : StandsAt end (s + sum (counts requests))

  pub run : (requests : List Request) (it end : Iteration) (s : ℕ) → StandsAt it s →
      Runs it requests end → AreParts requests s end
  run [] it end s st e = record {
    parts_are = tt;
    requests_are = refl;
    stands = let z : s ≡ s + sum [] = omega arith in subst (λ k. StandsAt end k) z (subst (λ i. StandsAt i s) e st);
  }
  run (request ∷ requests) it end s st r =
      let g = r.1 in
      let len : length g.filled.rows ≡ length request.rows = ap (λ (q : Request). length q.rows) (sym g.request_is) in
      let here = subst (λ k. IsPart s k × (request_of g.filled ≡ request_at first all s k) ×
      StandsAt r.0 (s + k)) len (
        is_part it r.0 request s st g,
        is_request it r.0 request s st g,
        stands_next it r.0 request s st g,
      ) in
      let rest = run requests r.0 end (s + length request.rows) here.2 r.2 in
      record {
        parts_are = (here.0, rest.parts_are);
        requests_are =
            ap (λ (q : Request). q ∷ requests) (g.request_is ∙ here.1) ∙
            ap (λ (qs : List Request). request_at first all s (length request.rows) ∷ qs) rest.requests_are;
        stands =
            let total : (s + length request.rows) + sum (counts requests) ≡
            s + sum (counts (request ∷ requests)) =
            omega (arith, sum-cons (length request.rows) (counts requests)) in
            subst (λ k. StandsAt end k) total rest.stands;
      }

  positive : (cut : List ℕ) (s : ℕ) → AllByRecursion (λ p. IsPart p.0 p.1) (parts_from s cut) →
      AllByRecursion (λ k. 0 < k) cut
  positive [] s h = tt
  positive (k ∷ cut) s h = (h.0.0, positive cut (s + k) h.1)

  tight_parts : (cut : List ℕ) (s : ℕ) → AllByRecursion (λ p. IsPart p.0 p.1) (parts_from s cut) →
      AllByRecursion (λ p. IsTightPart first.room types all p.0 p.1) (parts_from s cut)
  tight_parts [] s h = tt
  tight_parts (k ∷ cut) s h = ((λ _. h.0.1, h.0.2), tight_parts cut (s + k) h.1)

  fit_parts : (cut : List ℕ) (s : ℕ) → AllByRecursion (λ p. IsPart p.0 p.1) (parts_from s cut) →
      AllByRecursion (λ p. size types all p.0 p.1 ≤ first.room) (parts_from s cut)
  fit_parts [] s h = tt
  fit_parts (k ∷ cut) s h = (h.0.1, fit_parts cut (s + k) h.1)

-- positive numbers that come to nothing are none
no_parts : (first rest : List ℕ) → AllByRecursion (λ k. 0 < k) (first ++ rest) →
    sum (first ++ rest) ≡ sum first → rest ≡ []
no_parts [] [] h e = refl
no_parts [] (k ∷ rest) h e = absurd (omega (arith, h.0, e, sum-cons k rest))
no_parts (k ∷ first) rest h e = no_parts first rest h.1 (omega (arith, e, sum-cons k (first ++ rest), sum-cons k first))

pub gives_first : GivesFirst
gives_first it end requests few runs =
    let b = it.builder in
    let all = waiting it in
    let begins : StandsAt it.builder (waiting it) it 0 =
    record {
      waits = refl;
      within = zero-le;
      few = few;
      room = refl;
      id = refl;
      results =
          refl;
      typed = refl;
    } in
    let r = run it.builder (waiting it) requests it end 0 begins runs in
    let cut = counts requests in
    let zero_plus : 0 + sum (counts requests) ≡ sum (counts requests) = omega arith in
    let tight = tight_parts_come_first it.builder.room (first_types it.builder.typed (waiting it))
    (waiting it) (counts requests)
    (positive it.builder (waiting it) (counts requests) 0 r.parts_are)
    (omega (arith, r.stands.within))
    (tight_parts it.builder (waiting it) (counts requests) 0 r.parts_are) in (
      tight.0,
      record {
        tight = tight.1;
        fit =
            fit_parts it.builder (waiting it) (counts requests) 0 r.parts_are;
        requests_are =
            r.requests_are;
      },
      λ none left.
          let empty : [] ≡ drop (0 + sum (counts requests)) (waiting it) =
          sym (ap (λ (rs : List Row). rs ++ rows_given end.given) none ∙ ap rows_given left) ∙
          r.stands.waits in
          let reached : sum (counts requests) ≡ length (waiting it) =
          omega (
            arith,
            ap length empty,
            length-drop (0 + sum (counts requests)) (waiting it),
            r.stands.within,
          ) in
          no_parts (counts requests) tight.0 tight.1.is_cut.0 (tight.1.is_cut.1 ∙ sym reached),
    )
