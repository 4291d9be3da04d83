-- A query whose placeholders are of one kind is never refused for both.
use Rattle.std.proofs.Common.{◌≡◌, ◌≢◌, ◌⊎◌, inl, inr, ℕ, ◌+◌, ◌-◌, ◌==◌, Bool, true, false, List, [], ◌∷◌, length}
use Rattle.std.proofs.Common.{Option, Some, None, Result, Ok, Err, refl, sym, ◌∙◌, ap, subst, nat_lt, if◌then◌else◌}
use Rattle.std.specs.Option.{option_map, option_or}
use Rattle.mysql_values.specs.Sql.{Sql}
use Rattle.mysql_values.specs.Binding.{IsBindCause, alone_cause, given_cause, values_cause}
use Rattle.mysql_values.specs.Laws.{OneTokens}
use Rattle.mysql_values.specs.Params.{values_over}
use Rattle.mysql_values.specs.Parsed.{names_of}
use Rattle.mysql_values.specs.Place.{Place}
use Rattle.mysql_values.specs.Queries.{HasMixed, HasPlaces, first_not_alone, is_mixed, places_of}
use Rattle.mysql_values.specs.Tokens.{HasTokens}
use Rattle.mysql_values.specs.Value.{Value}
use Rattle.mysql_values.specs.Values.{first_float}
use Rattle.mysql_values.specs.declared.bind.BindError.{BindError}
use Rattle.mysql_values.specs.declared.bind.BindError.TheVariants as bind_error
use Rattle.mysql_values.specs.declared.params.Params.{Params}
use Rattle.mysql_values.specs.declared.params.ParamsError.{ParamsError}
use Rattle.mysql_receive.specs.Query.{Query, Statement, place_count, statement_of}
use Rattle.mysql_command_rules.specs.declared.refusal.Refusal.{Refusal}
use Rattle.mysql_command_rules.specs.declared.refusal.Refusal.TheVariants as refusals
use Rattle.mysql_command_rules.specs.declared.road.Road.{Road}
use Rattle.mysql_command_rules.specs.declared.road.Road.TheVariants.{Text, Execute, Bulk}
use Rattle.mysql_command_rules.specs.Cause.{cause_if, first_of_sets, max_places, places_cause, prepare_cause}
use Rattle.mysql_command_rules.specs.Cause.{query_cause, set_cause, sets_cause}
use Rattle.mysql_command_rules.specs.Commands.{prepare_command}
use Rattle.mysql_command_rules.specs.Sending.{RefusesGiven}
use Rattle.mysql_command_rules.specs.Sent.{whole_command}
use Rattle.mysql_command_rules.specs.Sets.{Given, values_of}

-- a cause, if any, is not that both kinds occur
abbrev NotMixed : Option Refusal → Type 0
NotMixed cause = cause ≢ Some refusals.Mixed

none_is_not : NotMixed None
none_is_not = λ same. cc same

or_not : (first rest : Option Refusal) → NotMixed first → NotMixed rest → NotMixed (option_or first rest)
or_not None rest not_first not_rest = not_rest
or_not (Some cause) rest not_first not_rest = not_first

if_not : (test : Bool) (cause : Refusal) → cause ≢ refusals.Mixed → NotMixed (cause_if test cause)
if_not true cause other = λ same. let is : cause ≡ refusals.Mixed = cc in other is
if_not false cause other = none_is_not

mapped_not : {A : Type 0} (cause : A → Refusal) (found : Option A) →
    ((a : A) → cause a ≢ refusals.Mixed) → NotMixed (option_map (λ a. cause a) found)
mapped_not cause None other = none_is_not
mapped_not cause (Some a) other = λ same. let is : cause a ≡ refusals.Mixed = cc in other a is

-- ---- against the query

kinds_not : (places : List Place) → is_mixed places ≡ false → NotMixed (cause_if (is_mixed places) refusals.Mixed)
kinds_not places one = subst (λ (b : Bool). NotMixed (cause_if b refusals.Mixed)) (sym one) none_is_not

places_not : (places : List Place) → is_mixed places ≡ false → NotMixed (places_cause places)
places_not places one =
    or_not (cause_if (is_mixed places) refusals.Mixed)
    (option_map (λ place. refusals.NotAlone place) (first_not_alone places))
    (kinds_not places one)
    (mapped_not (λ place. refusals.NotAlone place) (first_not_alone places) (λ place same. cc same))

prepare_not : (query : Query) (room : ℕ) → is_mixed query.places ≡ false → NotMixed (prepare_cause query room)
prepare_not query room one =
    let many : Option Refusal = cause_if (nat_lt max_places (place_count query)) refusals.TooManyPlaces in
    let long : Option Refusal =
    cause_if (nat_lt room (length (prepare_command query.parsed))) refusals.PrepareTooLarge in
    or_not (cause_if (is_mixed query.places) refusals.Mixed) (option_or many (option_or long None))
    (kinds_not query.places one)
    (or_not many (option_or long None)
    (if_not (nat_lt max_places (place_count query)) refusals.TooManyPlaces (λ same. cc same))
    (or_not long None (if_not (nat_lt room (length (prepare_command query.parsed)))
    refusals.PrepareTooLarge (λ same. cc same)) none_is_not))

query_not : (road : Road) (statement : Statement) (room : ℕ) → is_mixed statement.query.places ≡
    false → NotMixed (query_cause road statement room)
query_not Text statement room one = places_not statement.query.places one
query_not Execute statement room one = prepare_not statement.query room one
query_not Bulk statement room one =
    or_not (prepare_cause statement.query room)
    (cause_if (place_count statement.query == 0) refusals.NoPlaces)
    (prepare_not statement.query room one)
    (if_not (place_count statement.query == 0) refusals.NoPlaces (λ same. cc same))

-- ---- against sets

values_not : (set places : ℕ) (values : List Value) →
    NotMixed (values_cause (refusals.WrongCount set) (λ place. refusals.Float set place) places
    values)
values_not set places values = by (length values == places)
  where
    by : (many : Bool) → NotMixed
        (if many then option_map (λ place. refusals.Float set place) (first_float values) else Some
        (refusals.WrongCount set))
    by true = mapped_not (λ place. refusals.Float set place) (first_float values) (λ place same. cc same)
    by false = λ same. cc same

set_not : (command : List Value → List ℕ) (places room set : ℕ) (given : Given) →
    NotMixed (set_cause command places room set given)
set_not command places room set (Err error) = λ same. cc same
set_not command places room set (Ok values) =
    or_not (values_cause (refusals.WrongCount set) (λ place. refusals.Float set place) places
    values) (cause_if (nat_lt room (length (command values))) (refusals.PacketTooLarge set))
    (values_not set places values)
    (if_not (nat_lt room (length (command values))) (refusals.PacketTooLarge set)
    (λ same. cc same))

each_not : (command : List Value → List ℕ) (places room number : ℕ) (sets : List Given) →
    NotMixed (first_of_sets (set_cause command places room) number sets)
each_not command places room number [] = none_is_not
each_not command places room number (given ∷ sets) =
    or_not (set_cause command places room number given)
    (first_of_sets (set_cause command places room) (number + 1) sets)
    (set_not command places room number given) (each_not command places room (number + 1) sets)

together_not : (road : Road) (statement : Statement) (room : ℕ) (rows : List (List Value)) →
    NotMixed (sets_cause road statement room rows)
together_not Text statement room rows = none_is_not
together_not Execute statement room rows = none_is_not
together_not Bulk statement room rows =
    or_not _ _ (mapped_not (λ at. refusals.MixedKinds at.0 at.1) _ (λ at same. cc same))
    (or_not _ None (mapped_not (λ set. refusals.RowTooLarge set) _ (λ set same. cc same))
    none_is_not)

-- ---- what is refused

-- the placeholders of a query of one kind are of one kind
one_kind : OneTokens → (query : Sql) (tokens : List (List ℕ)) →
    HasTokens query.mode query.text tokens → HasMixed query false →
    is_mixed (places_of query tokens) ≡ false
one_kind once query tokens has mixed =
    let found : HasPlaces query mixed.0 = mixed.1 in
    ap (λ t. is_mixed (places_of query t)) (once query.mode query.text tokens found.0 has found.1) ∙
    ap is_mixed (sym found.2) ∙ sym mixed.2

-- so are those that were found of it
pub one_kind_of : OneTokens → (query : Sql) (places : List Place) → HasPlaces query places →
    HasMixed query false → is_mixed places ≡ false
one_kind_of once query places has mixed = ap is_mixed has.2 ∙ one_kind once query has.0 has.1 mixed

-- where one of them doesn't stand alone no text is bound
pub not_alone : (query : Sql) (places : List Place) (params : Params) (place : ℕ) →
    HasPlaces query places → is_mixed places ≡ false → first_not_alone places ≡ Some place →
    IsBindCause query params (bind_error.NotAlone place)
not_alone query places params place has one apart = (
  has.0,
  has.1,
  by (is_mixed (places_of query has.0)) (first_not_alone (places_of query has.0)) _
      (ap is_mixed (sym has.2) ∙ one) (ap first_not_alone (sym has.2) ∙ apart),
)
  where
    by : (mixed : Bool) (found : Option ℕ) (rest : Option BindError) → mixed ≡ false → found ≡
        Some place → (if mixed then Some bind_error.Mixed else alone_cause found rest) ≡
        Some (bind_error.NotAlone place)
    by mixed found rest kind here = rw (kind, here) refl

pub never_mixed : OneTokens →
    (road : Road) (query : Sql) (sets : List (List ℕ) → List Given) (id limit : ℕ)
    (refusal : Refusal) → HasMixed query false → RefusesGiven road query sets id limit refusal →
    refusal ≢ refusals.Mixed
never_mixed once road query sets id limit refusal one (inl memory) = λ same. cc (sym memory ∙ same)
never_mixed once road query sets id limit refusal one (inr why) = λ same.
    let statement : Statement = statement_of query why.tokens id in
    let given : List Given = sets (names_of why.tokens) in
    let first : Option Refusal =
    first_of_sets (set_cause (whole_command road statement) (place_count statement.query)
    (limit - 4)) 0 given in
    let together : Option Refusal = sets_cause road statement (limit - 4) (values_of given) in
    or_not (query_cause road statement (limit - 4)) (option_or first (option_or together None))
    (query_not road statement (limit - 4) (one_kind once query why.tokens why.has one))
    (or_not first (option_or together None)
    (each_not (whole_command road statement) (place_count statement.query) (limit - 4) 0 given)
    (or_not together None (together_not road statement (limit - 4) (values_of given)) none_is_not))
    (why.first ∙ ap Some same)

-- ---- what is not bound

pub never_mixed_text : OneTokens → (query : Sql) (params : Params) (error : BindError) →
    HasMixed query false → (error ≡ bind_error.Memory) ⊎ IsBindCause query params error →
    error ≢ bind_error.Mixed
never_mixed_text once query params error one (inl memory) = λ same. cc (sym memory ∙ same)
never_mixed_text once query params error one (inr why) =
    by (is_mixed (places_of query why.0)) (one_kind once query why.0 why.1 one)
    (first_not_alone (places_of query why.0)) (length (places_of query why.0))
    (values_over (names_of why.0) params) why.2
  where
    given_not : (count : ℕ) (over : Result (List Value) ParamsError) → given_cause count over ≢ Some bind_error.Mixed
    given_not count (Err wrong) = λ same. cc same
    given_not count (Ok values) = by_count (length values == count) (first_float values)
      where
        by_count : (many : Bool) (float : Option ℕ) →
            (if many then option_map (λ place. bind_error.Float place) float else Some
            bind_error.WrongCount) ≢ Some bind_error.Mixed
        by_count true None = λ same. cc same
        by_count true (Some place) = λ same. cc same
        by_count false float = λ same. cc same

    by : (mixed : Bool) → mixed ≡ false → (apart : Option ℕ) (count : ℕ) (over : Result (List Value) ParamsError)
        → (if mixed then Some bind_error.Mixed else alone_cause apart (given_cause count over)) ≡
        Some error → error ≢ bind_error.Mixed
    by true is apart count over first = cc
    by false is (Some place) count over first = λ same. cc (first ∙ ap Some same)
    by false is None count over first = λ same. given_not count over (first ∙ ap Some same)
