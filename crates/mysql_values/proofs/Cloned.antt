-- A copy of a map gives each name what the map gives it.
use Rattle.std.proofs.Common.{◌≡◌, ℕ, List, [], ◌∷◌, refl, Vec}
use Rattle.std.specs.List.{AllZip}
use Rattle.std.specs.Prelude.{vec_len}
use Rattle.std.specs.declared.alloc.Global.{Global}
use Rattle.std.proofs.lemmas.List.Elements.{same_from_all_zip}
use Rattle.mysql_values.specs.Params.{value_named, values_named}
use Rattle.mysql_cells.specs.declared.value.Value.{Value}

abbrev pub Entry : Type 0
Entry = Vec ℕ Global × Value

-- what a map's clone says of an entry
abbrev pub IsEntryCopy : Entry → Entry → Type 0
IsEntryCopy e f = (AllZip (λ (x : ℕ) y. y ≡ x) e.0.items f.0.items × (vec_len f.0 ≡ vec_len e.0)) × (f.1 ≡ e.1)

same_name : (e f : Entry) → IsEntryCopy e f → f.0.items ≡ e.0.items
same_name e f h = same_from_all_zip (λ (x : ℕ) y. y ≡ x) e.0.items f.0.items h.0.0 (λ x y same. same)

named_alike : (es fs : List Entry) (name : List ℕ) → AllZip IsEntryCopy es fs →
    value_named name fs ≡ value_named name es
named_alike [] [] name h = refl
named_alike [] (f ∷ fs) name h = absurd h
named_alike (e ∷ es) [] name h = absurd h
named_alike (e ∷ es) (f ∷ fs) name h = rw (same_name e f h.0, h.0.1, named_alike es fs name h.1) refl

pub values_alike : (es fs : List Entry) (names : List (List ℕ)) → AllZip IsEntryCopy es fs →
    values_named fs names ≡ values_named es names
values_alike es fs [] h = refl
values_alike es fs (name ∷ names) h = rw (named_alike es fs name h, values_alike es fs names h) refl
