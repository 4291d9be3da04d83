-- Lists, answers and first causes, and what values over a query's names give.
use Rattle.std.proofs.Common.{◌≡◌, ℕ, suc, ◌+◌, ◌<◌, ◌≤◌, List, [], ◌∷◌, ◌++◌, length, take, drop, get_or, Option, Some}
use Rattle.std.proofs.Common.{Result, Ok, Err, refl, sym, ◌∙◌, ap, subst, arith, append_assoc, add-one, drop-cons}
use Rattle.std.proofs.Common.{length-take}
use Rattle.std.specs.Prelude.{IfErr, OnOk}
use Rattle.std.specs.Option.{option_or}
use Rattle.std.specs.Result.{result_map_both}
use Rattle.std.proofs.lemmas.List.{append-nil, take-take, take_at}
use Rattle.mysql_fields.specs.Wire.{Appends}
use Rattle.mysql_wire.specs.Framing.{framing}
use Rattle.mysql_wire.specs.Stream.{framings}
use Rattle.mysql_wire.specs.Stream.Numbering.{EachFromZero}
use Rattle.mysql_values.specs.Params.{values_over}
use Rattle.mysql_values.specs.Value.{Value}
use Rattle.mysql_values.specs.declared.params.Params.{Params}
use Rattle.mysql_values.specs.declared.params.ParamsError.{ParamsError}
use Rattle.mysql_values.specs.declared.params.SetError.TheVariants as set_error
use Rattle.mysql_command_rules.specs.declared.refusal.Refusal.{Refusal}
use Rattle.mysql_command_rules.specs.Sets.{given_by}

-- framings that are each numbered from 0 stand apart
pub framings-append : (ps qs : List (List ℕ)) → framings (ps ++ qs) EachFromZero ≡
    framings ps EachFromZero ++ framings qs EachFromZero
framings-append [] qs = refl
framings-append (p ∷ ps) qs = ap (λ l. framing p 0 ++ l) (framings-append ps qs) ∙
    sym (append_assoc (framing p 0) (framings ps EachFromZero) (framings qs EachFromZero))

-- the first of causes is one
pub first_is : (first rest : Option Refusal) (refusal : Refusal) → first ≡ Some refusal →
    option_or first rest ≡ Some refusal
first_is first rest refusal some = rw some refl

-- what holds where a call succeeds is taken on
pub on_ok : {E P Q : Type 0} (answer : Result (Unit {0}) E) → (P → Q) → OnOk answer P → OnOk answer Q
on_ok (Ok done) step holds = step holds
on_ok (Err error) step holds = tt

-- what holds of an error is taken on
pub on_err : {E : Type 0} {P Q : E → Type 0} (answer : Result (Unit {0}) E) →
    ((e : E) → P e → Q e) → IfErr answer P → IfErr answer Q
on_err (Ok done) step holds = tt
on_err (Err error) step holds = step error holds

-- what holds where a call succeeded
pub where_put : {E P : Type 0} (answer : Result (Unit {0}) E) → answer ≡ Ok tt → OnOk answer P → P
where_put {P = P} answer was holds = subst (λ (r : Result (Unit {0}) _). OnOk r P) was holds

-- what follows where bytes are appended
pub where_appended : {E P : Type 0} (answer : Result (Unit {0}) E) (old new bytes : List ℕ) →
    (new ≡ old ++ bytes → P) → Appends answer old new bytes → OnOk answer P
where_appended (Ok done) old new bytes step put = step put
where_appended (Err error) old new bytes step put = tt

-- a front that is kept is no longer than the whole
pub front_length : (old out : List ℕ) → take (length old) out ≡ old → length old ≤ length out
front_length old out same = omega (arith, length-take (length old) out, ap length same)

-- what stood before a piece that is appended to what is kept
pub kept_on : (old mid new : List ℕ) → take (length old) mid ≡ old → take (length mid) new ≡ mid →
    take (length old) new ≡ old
kept_on old mid new first second =
    sym (take-take (length old) (length mid) new (front_length old mid first)) ∙
    ap (λ l. take (length old) l) second ∙ first

-- and before one that is appended to a list
pub kept_behind : (old piece mid new : List ℕ) → mid ≡ old ++ piece → take (length mid) new ≡ mid →
    take (length old) new ≡ old
kept_behind old piece mid new put stays =
    kept_on old mid new (ap (λ l. take (length old) l) put ∙ take_at old piece (length old) refl)
    stays

-- the element at an index comes before those behind it
pub next_set : {X : Type 0} (sets : List X) (i : ℕ) (params : X) → i < length sets → params ≡
    get_or sets i params → drop i sets ≡ params ∷ drop (i + 1) sets
next_set sets i params inside is = drop-cons sets i params inside ∙
    ap (λ first. first ∷ drop (suc i) sets) (sym is) ∙
    ap (λ n. params ∷ drop n sets) (sym (add-one i))

-- the framing of one payload behind others
pub one_framed : (old new payload : List ℕ) → new ≡ old ++ framing payload 0 → new ≡ old ++
    framings (payload ∷ []) EachFromZero
one_framed old new payload put = put ∙ ap (λ l. old ++ l) (sym (append-nil (framing payload 0)))

-- values over a query's names are given
pub gives_values : (names : List (List ℕ)) (params : Params) (values : List Value) →
    values_over names params ≡ Ok values → given_by names params ≡ Ok values
gives_values names params values over =
    ap (λ (o : Result (List Value) ParamsError). result_map_both (λ values. values)
    (λ error. set_error.Params error) o) over
