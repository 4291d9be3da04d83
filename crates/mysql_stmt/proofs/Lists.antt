-- Lists of what lends values.
use Rattle.std.proofs.Common.{◌≡◌, ℕ, ◌==◌, Bool, false, List, [], ◌∷◌, ◌++◌, length, map, Result, refl, ap, sym, subst}
use Rattle.std.specs.List.{flat_map}
use Rattle.std.proofs.lemmas.Bool.{eqb-false}
use Rattle.mysql_fields.specs.Wire.{Appends}
use Rattle.mysql_cells.specs.declared.value.Value.{Value}
use Rattle.mysql_stmt.specs.Executions.{parameters, sent_cell, type_bytes}

-- what is made of the values that are lent
pub over_lent : {T X : Type 0} (lent : T → X) (f : X → List ℕ) (values : List T) →
    flat_map (λ value. f (lent value)) values ≡ flat_map f (map lent values)
over_lent lent f [] = refl
over_lent lent f (value ∷ values) = ap (λ (later : List ℕ). f (lent value) ++ later) (over_lent lent f values)

pub appends_over : {E T X : Type 0} (lent : T → X) (result : Result (Unit {0}) E) (old new : List ℕ)
    (f : X → List ℕ) (values : List T) →
    Appends result old new (flat_map (λ value. f (lent value)) values) →
    Appends result old new (flat_map f (map lent values))
appends_over lent result old new f values h =
    subst (λ (bytes : List ℕ). Appends result old new bytes) (over_lent lent f values) h

-- with values there are parameters
pub some_parameters : {T : Type 0} (lent : T → Value) (bitmap : List ℕ) (values : List T)
    (apart : Bool) → false ≡ (length values == 0)
    → bitmap ++ 1 ∷ (flat_map type_bytes (map lent values) ++
    flat_map (sent_cell apart) (map lent values)) ≡ parameters bitmap (map lent values) apart
some_parameters lent bitmap [] apart some = absurd (eqb-false 0 0 (sym some) refl)
some_parameters lent bitmap (value ∷ values) apart some = refl
