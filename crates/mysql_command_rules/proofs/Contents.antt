-- What sets give, and what it holds where no cause speaks against it; parameter sets mean what each means by itself.
use Rattle.std.proofs.Common.{◌≡◌, ℕ, suc, ◌+◌, ◌-◌, ◌≤◌, ◌==◌, Bool, true, false, List, [], ◌∷◌, length, map, filter}
use Rattle.std.proofs.Common.{Option, Some, None, Result, Ok, Err, refl, ◌∙◌, ap, arith, is_none, nat_lt, cond}
use Rattle.std.proofs.Common.{unwrap_or, if◌then◌else◌}
use Rattle.std.specs.List.{AllByRecursion, AllZip, position_from}
use Rattle.std.specs.Option.{option_map, option_or}
use Rattle.std.specs.Result.{result_map_both}
use Rattle.std.proofs.lemmas.Bool.{eqb-true, ltb-false}
use Rattle.mysql_values.specs.Sql.{Sql}
use Rattle.mysql_values.specs.Content.{Content}
use Rattle.mysql_values.specs.Content.TheVariants.{Null}
use Rattle.mysql_values.specs.declared.params.Params.{Params}
use Rattle.mysql_values.specs.declared.params.ParamsError.{ParamsError}
use Rattle.mysql_values.specs.declared.params.SetError.TheVariants as set_error
use Rattle.mysql_values.specs.Value.{Value}
use Rattle.mysql_values.specs.Values.{content_of, first_float}
use Rattle.mysql_values.specs.Params.{IsMeaning, values_over}
use Rattle.mysql_values.specs.Parsed.{names_of}
use Rattle.mysql_values.specs.Queries.{is_place, place_at, places_behind, places_of, servers_agree}
use Rattle.mysql_values.specs.Tokens.{HasTokens}
use Rattle.mysql_receive.specs.Reading.{Set}
use Rattle.mysql_command_rules.specs.declared.refusal.Refusal.{Refusal}
use Rattle.mysql_command_rules.specs.declared.refusal.Refusal.TheVariants as refusals
use Rattle.mysql_command_rules.specs.Sets.{given_by}
use Rattle.mysql_values.specs.Binding.{values_cause}
use Rattle.mysql_command_rules.specs.Cause.{cause_if, first_of_sets, set_cause}
use Rattle.mysql_command_rules.specs.Laws.{SetsMeanEach}
use Rattle.mysql_command_rules.specs.Reading.{HaveContents}
use Rattle.mysql_command_rules.proofs.Held.{HoldsAll, held}

-- ---- what sets give

-- values that are given are those over the query's names
given_over : (over : Result (List Value) ParamsError) (values : List Value) →
    result_map_both (λ (v : List Value). v) (λ error. set_error.Params error) over ≡ Ok values →
    over ≡ Ok values
given_over (Ok others) values gives =
    let same : others ≡ values = cc in ap (λ v. Ok v) same
given_over (Err error) values gives = cc

-- each parameter set has its meaning
mean_each : (query : Sql) (tokens : List (List ℕ)) → HasTokens query.mode query.text tokens →
    (sets : List Params) (values : List (List Value)) (contents : List Set) →
    map (given_by (names_of tokens)) sets ≡ map Ok values
    → AllByRecursion (λ set. length set ≡ length (filter is_place tokens)) values →
    HaveContents values contents → AllZip (IsMeaning query) sets contents
mean_each query tokens has [] [] [] gives counts each = tt
mean_each query tokens has [] [] (set ∷ contents) gives counts each = cc
mean_each query tokens has [] (first ∷ values) contents gives counts each = cc
mean_each query tokens has (params ∷ sets) [] contents gives counts each = cc
mean_each query tokens has (params ∷ sets) (first ∷ values) [] gives counts each = cc
mean_each query tokens has (params ∷ sets) (first ∷ values) (set ∷ contents) gives counts each =
    let here : given_by (names_of tokens) params ≡ Ok first = cc in
    let others : map (given_by (names_of tokens)) sets ≡ map Ok values = cc in
    let content : map content_of first ≡ map Some set = cc in
    let later : HaveContents values contents = cc in (
      record {
        tokens = tokens;
        has = has;
        values = first;
        over =
            given_over (values_over (names_of tokens) params) first here;
        count = counts.0;
        each =
            content;
      },
      mean_each query tokens has sets values contents others counts.1 later,
    )

pub sets_mean_each : SetsMeanEach
sets_mean_each query sets contents m = mean_each query m.tokens m.has sets m.values contents m.given m.counts m.each

-- ---- causes

-- where neither is a cause, neither is
pub neither : (first second : Option Refusal) → option_or first second ≡ None → (first ≡ None) × (second ≡ None)
neither None second none = (refl, none)
neither (Some cause) second none = cc

-- what no cause says of values
pub record IsGood (command : List Value → List ℕ) (places room : ℕ) (values : List Value) : Type 0 where
  pub count_is : length values ≡ places
  pub exact : first_float values ≡ None
  pub short : length (command values) ≤ room

good_by : (same : Bool) (found : Option ℕ) (set : ℕ) →
    (if same then option_map (λ place. refusals.Float set place) found else Some
    (refusals.WrongCount set)) ≡ None → (same ≡ true) × (found ≡ None)
good_by true None set none = (refl, refl)
good_by true (Some place) set none = cc
good_by false found set none = cc

short_by : (long : Bool) (set : ℕ) → cause_if long (refusals.PacketTooLarge set) ≡ None → long ≡ false
short_by true set none = cc
short_by false set none = refl

pub good : (command : List Value → List ℕ) (places room set : ℕ) (values : List Value) →
    set_cause command places room set (Ok values) ≡ None → IsGood command places room values
good command places room set values none =
    let long : Option Refusal = cause_if (nat_lt room (length (command values))) (refusals.PacketTooLarge set) in
    let parts = neither (values_cause (refusals.WrongCount set) (λ place. refusals.Float set place)
    places values) long none in
    let fit = good_by (length values == places) (first_float values) set parts.0 in
    record {
      count_is = eqb-true (length values) places fit.0;
      exact = fit.1;
      short = ltb-false room (length (command values)) (short_by (nat_lt room (length (command values))) set parts.1);
    }

-- commands that are no cause have room
pub short_each : (command : List Value → List ℕ) (places room number : ℕ)
    (sets : List (List Value)) →
    first_of_sets (set_cause command places room) number (map Ok sets) ≡ None
    → AllByRecursion (λ payload. length payload ≤ room) (map command sets)
short_each command places room number [] none = tt
short_each command places room number (values ∷ sets) none =
    let parts = neither (set_cause command places room number (Ok values))
    (first_of_sets (set_cause command places room) (number + 1) (map Ok sets)) none in
    ((good command places room number values parts.0).short, short_each command places room (number + 1) sets parts.1)

-- ---- contents

no_float : (found : Option Content) (n : ℕ) (rest : Option ℕ) → cond (is_none found) (Some n) rest ≡
    None → (found ≡ Some (unwrap_or found Null)) × (rest ≡ None)
no_float None n rest none = cc
no_float (Some content) n rest none = (refl, none)

-- values of which none is a float all hold something
pub all_held : (n : ℕ) (values : List Value) →
    position_from (λ value. is_none (content_of value)) n values ≡ None → map content_of values ≡
    map Some (map held values)
all_held n [] none = refl
all_held n (value ∷ values) none =
    let parts = no_float (content_of value) n
    (position_from (λ value. is_none (content_of value)) (n + 1) values) none in
    ap (λ o. o ∷ map content_of values) parts.0 ∙ ap (λ l. Some (held value) ∷ l) (all_held (n + 1) values parts.1)

-- a query has as many placeholders as tokens that are some
pub counted : (query : Sql) (agree : Bool) (before : List (List ℕ)) (start : ℕ)
    (tokens : List (List ℕ)) → length (places_behind query agree before start tokens) ≡
    length (filter is_place tokens)
counted query agree before start [] = refl
counted query agree before start (token ∷ tokens) =
    by (is_place token) (counted query agree (token ∷ before) (start + length token) tokens)
  where
    by : (b : Bool) → length (places_behind query agree (token ∷ before) (start + length token)
        tokens) ≡ length (filter is_place tokens)
        → length (cond b (place_at query agree before start token tokens ∷
        places_behind query agree (token ∷ before) (start + length token) tokens)
        (places_behind query agree (token ∷ before) (start + length token) tokens)) ≡
        length (cond b (token ∷ filter is_place tokens) (filter is_place tokens))
    by true same = ap (λ n. suc n) same
    by false same = same

-- sets against which nothing speaks have no float
pub all_hold : (command : List Value → List ℕ) (places room number : ℕ) (sets : List (List Value)) →
    first_of_sets (set_cause command places room) number (map Ok sets) ≡ None →
    AllByRecursion HoldsAll sets
all_hold command places room number [] none = tt
all_hold command places room number (values ∷ sets) none =
    let parts = neither (set_cause command places room number (Ok values))
    (first_of_sets (set_cause command places room) (number + 1) (map Ok sets)) none in
    let g : IsGood command places room values = good command places room number values parts.0 in
    (all_held 0 values g.exact, all_hold command places room (number + 1) sets parts.1)

-- and each has as many values as the query has placeholders
pub all_counted : (query : Sql) (tokens : List (List ℕ)) (command : List Value →
    List ℕ) (places room : ℕ) → places ≡ length (places_of query tokens) →
    (number : ℕ) (sets : List (List Value))
    → first_of_sets (set_cause command places room) number (map Ok sets) ≡ None →
    AllByRecursion (λ set. length set ≡ length (filter is_place tokens)) sets
all_counted query tokens command places room count number [] none = tt
all_counted query tokens command places room count number (values ∷ sets) none =
    let parts = neither (set_cause command places room number (Ok values))
    (first_of_sets (set_cause command places room) (number + 1) (map Ok sets)) none in
    let g : IsGood command places room values = good command places room number values parts.0 in (
      g.count_is ∙ count ∙ counted query (servers_agree 0 tokens) [] 0 tokens,
      all_counted query tokens command places room count (number + 1) sets parts.1,
    )

-- payloads that leave room for a header are within the limit
pub within_limit : (limit : ℕ) (payloads : List (List ℕ)) →
    AllByRecursion (λ payload. length payload ≤ limit - 4) payloads →
    AllByRecursion (λ payload. length payload ≤ limit) payloads
within_limit limit [] short = tt
within_limit limit (payload ∷ payloads) short =
    let here : length payload ≤ limit - 4 = short.0 in (omega arith, within_limit limit payloads short.1)
