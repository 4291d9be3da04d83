-- The size of an execution that is found in one pass over values that nothing speaks against.
use Rattle.std.proofs.Common.{◌≡◌, ℕ, ◌<◌, ◌≤◌, ◌==◌, nat_lt, Bool, true, false, List, [], ◌∷◌, length, map, Option}
use Rattle.std.proofs.Common.{Some, None, Ok, refl, sym, ◌∙◌, ap, arith, eq-eqb, if◌then◌else◌}
use Rattle.std.specs.Prelude.{IfSome, OnSome, SomeIff}
use Rattle.std.specs.Option.{option_or, option_map}
use Rattle.std.proofs.lemmas.Bool.{le-ltb}
use Rattle.std.proofs.lemmas.List.{length-map}
use Rattle.mysql_values.specs.Value.{Value}
use Rattle.mysql_stmt.specs.Executions.{whole_size}
use Rattle.mysql_cells.specs.Values.{first_float}
use Rattle.mysql_stmt.specs.Statements.{ExecutionsHaveSizes}
use Rattle.mysql_command_rules.specs.declared.refusal.Refusal.{Refusal}
use Rattle.mysql_command_rules.specs.declared.refusal.Refusal.TheVariants as refusals
use Rattle.mysql_command_rules.specs.Cause.{cause_if, set_cause}
use Rattle.mysql_send.specs.Executions.{whole_execution}

-- what one pass finds: no value is a float, and so many bytes, which are within the room
abbrev pub FoundPlain : {T : Type 0} → (T → Value) → List T → ℕ → Option ℕ → Type 0
FoundPlain lent values room found =
    SomeIff found ((first_float (map lent values) ≡ None) × (whole_size (map lent values) ≤ room))
    (whole_size (map lent values))

pub plain_size : ExecutionsHaveSizes →
    {T : Type 0} (lent : T → Value) (values : List T) (room : ℕ) → 0 < length values →
    (found : Option ℕ) → FoundPlain lent values room found
    → IfSome found (λ size. (id : ℕ) → length (whole_execution id (map lent values)) ≡ size)
plain_size sizes lent [] room some found is = absurd (omega (arith, some))
plain_size sizes lent (value ∷ values) room some None is = tt
plain_size sizes lent (value ∷ values) room some (Some size) is =
    λ id. sizes.1 id (lent value) (map lent values) ∙ sym is.1

-- it is within the room
plain_fits : ExecutionsHaveSizes → {T : Type 0} (lent : T → Value) (values : List T) (room : ℕ) →
    0 < length values → whole_size (map lent values) ≤ room → (id : ℕ) →
    nat_lt room (length (whole_execution id (map lent values))) ≡ false
plain_fits sizes lent [] room some fits id = absurd (omega (arith, some))
plain_fits sizes lent (value ∷ values) room some fits id =
    ap (λ n. nat_lt room n) (sizes.1 id (lent value) (map lent values)) ∙
    le-ltb room (whole_size (map lent (value ∷ values))) fits

-- neither the count nor a float nor the size speaks against a set
none_of_three : (same long : Bool) (float : Option ℕ) (wrong large : Refusal) (at : ℕ → Refusal) →
    same ≡ true → float ≡ None → long ≡ false
    → option_or (if same then option_map (λ place. at place) float else Some wrong) (cause_if long large) ≡ None
none_of_three same long float wrong large at counted exact short = rw (counted, exact, short) refl

no_cause : {T : Type 0} (lent : T → Value) (values : List T) (places room set : ℕ) → length values ≡
    places → first_float (map lent values) ≡ None →
    ((id : ℕ) → nat_lt room (length (whole_execution id (map lent values))) ≡ false)
    → (id : ℕ) → set_cause (whole_execution id) places room set (Ok (map lent values)) ≡ None
no_cause lent values places room set count exact fits id =
    none_of_three (length (map lent values) == places)
    (nat_lt room (length (whole_execution id (map lent values))))
    (first_float (map lent values)) (refusals.WrongCount set) (refusals.PacketTooLarge set)
    (λ place. refusals.Float set place)
    (eq-eqb (length (map lent values)) places (length-map values lent ∙ count)) exact (fits id)

-- nothing speaks against values of which one pass finds the size within less than the room
pub plain_none : ExecutionsHaveSizes →
    {T : Type 0} (lent : T → Value) (values : List T) (places room within : ℕ) → 0 < length values →
    within ≤ room → length values ≡ places → (found : Option ℕ) →
    FoundPlain lent values within found
    → OnSome found ((set id : ℕ) → set_cause (whole_execution id) places room set (Ok (map lent values)) ≡ None)
plain_none sizes lent values places room within some less count None is = tt
plain_none sizes lent values places room within some less count (Some size) is =
    λ set. no_cause lent values places room set count is.0.0
    (plain_fits sizes lent values room some (omega (arith, less, is.0.1)))
