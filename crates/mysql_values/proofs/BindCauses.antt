-- What binding a text gives, and why it is refused.
use Rattle.std.proofs.Common.{◌≡◌, ◌≢◌, ◌⊎◌, ℕ, ◌+◌, Bool, true, false, not, ◌==◌, if◌then◌else◌, List, [], ◌∷◌, ◌++◌}
use Rattle.std.proofs.Common.{length, filter, refl, sym, ap, ◌∙◌, inl, inr, arith, subst, Option, Some, None, Result}
use Rattle.std.proofs.Common.{Ok, Err}
use Rattle.std.specs.List.{AllByRecursion, position_from}
use Rattle.std.specs.Option.{option_map}
use Rattle.std.proofs.lemmas.Bool.{cases_Bool}
use Rattle.std.proofs.lemmas.Bool.Decides.{nat_tests}
use Rattle.mysql_queries.specs.Queries.{HasPlaces, Slices, Lexes, first_not_alone, interleaved, is_place, is_mixed}
use Rattle.mysql_queries.specs.Queries.{places_behind, servers_agree, pieces_of, slices_between}
use Rattle.mysql_queries.specs.Laws.{FilledIsRead, NamesAreSlices, PiecesAreSlices}
use Rattle.mysql_queries.specs.Parsed.{names_at, names_of}
use Rattle.mysql_queries.specs.Sql.{Sql, default_mode}
use Rattle.mysql_bytes.specs.declared.mode.Mode.{Mode}
use Rattle.mysql_values.specs.Params.{values_over}
use Rattle.mysql_values.specs.Binding.{Binds, IsBindCause, IsFilled, RefusesBinding, bind_cause, bind_error_of}
use Rattle.mysql_values.specs.Binding.{given_cause, alone_cause, literals_in}
use Rattle.mysql_cells.specs.Values.{first_float}
use Rattle.mysql_cells.specs.declared.value.Value.{Value}
use Rattle.mysql_values.specs.declared.params.Params.{Params}
use Rattle.mysql_values.specs.declared.params.ParamsError.{ParamsError}
use Rattle.mysql_values.specs.declared.params.ParamsError.TheVariants.{Missing, Confusion, Memory}
use Rattle.mysql_values.specs.declared.bind.BindError.{BindError}
use Rattle.mysql_values.specs.declared.bind.BindError.TheVariants as bind_error
use Rattle.mysql_queries.specs.declared.placeholders.Place.{Place}
use Rattle.mysql_values.proofs.TextWritten.{Contents, contents_of, no_floats}

abbrev mode_of : Bool → Bool → Mode
mode_of no_backslash_escapes ansi_quotes =
    record { no_backslash_escapes = no_backslash_escapes; ansi_quotes = ansi_quotes }

-- a mode that has neither setting is the default
pub is_default : (mode : Mode) → (mode.no_backslash_escapes ≡ false) × (mode.ansi_quotes ≡ false) → mode ≡ default_mode
is_default mode h = ap (λ x. mode_of x mode.ansi_quotes) h.0 ∙ ap (mode_of false) h.1

names_are : NamesAreSlices → (query : Sql) (places : List Place) → (h : HasPlaces query places) →
    names_at query.text places ≡ names_of h.0
names_are law query places h = ap (names_at query.text) h.2 ∙ sym (law query h.0 h.1)

pub is_cause : NamesAreSlices →
    (query : Sql) (params : Params) (places : List Place) (e : BindError) → HasPlaces query places →
    bind_cause places (values_over (names_at query.text places) params) ≡ Some e →
    IsBindCause query params e
is_cause law query params places e h k = (
  h.0,
  h.1,
  ap (λ ps. bind_cause ps (values_over (names_of h.0) params)) (sym h.2) ∙
      ap (λ ns. bind_cause places (values_over ns params)) (sym (names_are law query places h)) ∙
      k,
)

cause_later : (places : List Place) (over : Result (List Value) ParamsError) → is_mixed places ≡
    false → first_not_alone places ≡ None → bind_cause places over ≡
    given_cause (length places) over
cause_later places over m a =
    ap (λ b. if b then Some bind_error.Mixed else alone_cause (first_not_alone places)
    (given_cause (length places) over)) m ∙
    ap (λ o. alone_cause o (given_cause (length places) over)) a

pub values_are_cause : NamesAreSlices →
    (query : Sql) (params : Params) (places : List Place) (e : BindError) → HasPlaces query places →
    is_mixed places ≡ false → first_not_alone places ≡ None
    → given_cause (length places) (values_over (names_at query.text places) params) ≡ Some e →
    IsBindCause query params e
values_are_cause law query params places e h m a k =
    is_cause law query params places e h
    (cause_later places (values_over (names_at query.text places) params) m a ∙ k)

-- a set that gives no values is refused as such
pub set_is_refused : NamesAreSlices →
    (query : Sql) (params : Params) (places : List Place) (e : ParamsError) →
    HasPlaces query places → is_mixed places ≡ false → first_not_alone places ≡ None
    → (e ≡ Memory) ⊎ (values_over (names_at query.text places) params ≡ Err e) →
    RefusesBinding query params (bind_error_of e)
set_is_refused law query params places e h m a (inl k) = inl (ap bind_error_of k)
set_is_refused law query params places Memory h m a (inr k) = inl refl
set_is_refused law query params places (Missing name) h m a (inr k) =
    inr (values_are_cause law query params places (bind_error.Params (Missing name)) h m a
    (ap (given_cause (length places)) k))
set_is_refused law query params places (Confusion confusion) h m a (inr k) =
    inr (values_are_cause law query params places (bind_error.Params (Confusion confusion)) h m a
    (ap (given_cause (length places)) k))

-- the first float as the error of binding
abbrev float_error : Option ℕ → Option BindError
float_error found = option_map (λ place. bind_error.Float place) found

other_numbers : (a b : ℕ) → a ≢ b → (a == b) ≡ false
other_numbers a b h = grind (arith, nat_tests)

pub count_is_cause : NamesAreSlices →
    (query : Sql) (params : Params) (places : List Place) (values : List Value) →
    HasPlaces query places → is_mixed places ≡ false → first_not_alone places ≡ None
    → values_over (names_at query.text places) params ≡ Ok values → length values ≢ length places →
    IsBindCause query params bind_error.WrongCount
count_is_cause law query params places values h m a o n =
    values_are_cause law query params places bind_error.WrongCount h m a (ap (given_cause (length places)) o
    ∙ ap (λ b. if b then float_error (first_float values) else Some bind_error.WrongCount)
    (other_numbers (length values) (length places) n))

same_numbers : (a b : ℕ) → a ≡ b → (a == b) ≡ true
same_numbers a b h = grind (arith, nat_tests)

each_alone : (i : ℕ) (places : List Place) → position_from (λ place. not place.alone) i places ≡
    None → AllByRecursion (λ place. place.alone ≡ true) places
each_alone i [] h = tt
each_alone i (p ∷ places) h = elim (cases_Bool p.alone) [
  | inl a ↦ (let k : position_from (λ place. not place.alone) (i + 1) places ≡ None = rw a at h in
      (a, each_alone (i + 1) places k))
  | inr a ↦ (let k : Some i ≡ None = rw a at h in cc)
]

counted_cause : (count : ℕ) (values : List Value) → length values ≡ count →
    given_cause count (Ok values) ≡ float_error (first_float values)
counted_cause count values n =
    ap (λ b. if b then float_error (first_float values) else Some bind_error.WrongCount)
    (same_numbers (length values) count n)

pub float_is_cause : NamesAreSlices →
    (query : Sql) (params : Params) (places : List Place) (values : List Value) (place : ℕ) →
    HasPlaces query places → is_mixed places ≡ false → first_not_alone places ≡ None
    → values_over (names_at query.text places) params ≡ Ok values → length values ≡ length places →
    first_float values ≡ Some place → IsBindCause query params (bind_error.Float place)
float_is_cause law query params places values place h m a o n f =
    values_are_cause law query params places (bind_error.Float place) h m a
    (ap (given_cause (length places)) o ∙ counted_cause (length places) values n ∙
    ap float_error f)

places_count : (query : Sql) (agree : Bool) (before : List (List ℕ)) (at : ℕ) (ts : List (List ℕ)) →
    length (places_behind query agree before at ts) ≡ length (filter is_place ts)
places_count query agree before at [] = refl
places_count query agree before at (t ∷ ts) =
    let k : length (places_behind query agree (t ∷ before) (at + length t) ts) ≡
    length (filter is_place ts) = places_count query agree (t ∷ before) (at + length t) ts in
    elim (cases_Bool (is_place t)) [
      | inl p ↦ (rw p (omega (arith, k)))
      | inr p ↦ (rw p k)
    ]

pieces_here : PiecesAreSlices → (query : Sql) (places : List Place) → (h : HasPlaces query places) →
    slices_between query.text 0 places ≡ pieces_of h.0
pieces_here law query places h = ap (slices_between query.text 0) h.2 ∙ sym (law query h.0 h.1)

-- what is appended where nothing speaks against it
pub bind_ok : NamesAreSlices → PiecesAreSlices → FilledIsRead →
    (query : Sql) (params : Params) (places : List Place) (values : List Value)
    (before after : List ℕ) → HasPlaces query places → is_mixed places ≡ false →
    first_not_alone places ≡ None
    → values_over (names_at query.text places) params ≡ Ok values → length values ≡ length places →
    (text : List ℕ) → after ≡ before ++ text → IsFilled query places values text →
    Binds query params before after
bind_ok names pieces read query params places values before after h m a o n text e f =
    let c : Contents query values f.literals = contents_of query values f.literals f.each f.have in
    let over : values_over (names_of h.0) params ≡ Ok values =
    ap (λ ns. values_over ns params) (sym (names_are names query places h)) ∙ o in
    let none : bind_cause places (Ok values) ≡ None = cause_later places (Ok values) m a ∙
    counted_cause (length places) values n ∙
    ap float_error (no_floats query values f.literals 0 f.each) in
    let r : Slices query text c.contents × Lexes query text c.contents =
    subst (λ y. Slices query y c.contents × Lexes query y c.contents) (sym f.spelled)
    (read query places f.literals c.contents h (each_alone 0 places a) (c.count ∙ n) c.are) in
    record {
      text = text;
      appended = e;
      bound = record {
        tokens = h.0;
        has = h.1;
        values = values;
        over = over;
        none = subst (λ ps. bind_cause ps (Ok values) ≡ None) h.2 none;
        literals = f.literals;
        each = f.each;
        spelled = f.spelled ∙ ap (λ ps. interleaved ps f.literals) (pieces_here pieces query places h);
      };
      contents = c.contents;
      meaning = record {
        tokens = h.0;
        has = h.1;
        values = values;
        over = over;
        count = n ∙
            ap length h.2 ∙ places_count query (servers_agree 0 h.0) [] 0 h.0;
        each = c.each;
      };
      sliced = r.0;
      lexed = r.1;
    }
