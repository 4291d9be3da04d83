-- The cells of a row that borrows its payload.
use Rattle.std.proofs.Common.{◌≡◌, ℕ, suc, zero, ◌<◌, Bool, true, false, List, [], ◌∷◌, length, get_or, map, Option}
use Rattle.std.proofs.Common.{Some, None, refl, sym, ap, ◌∙◌, arith}
use Rattle.std.proofs.lemmas.Option.{get_or_from_slice_get, slice_get-map}
use Rattle.std.proofs.lemmas.List.Folds.{list_all_at}
use Rattle.std.specs.List.{list_all, slice_get}
use Rattle.std.specs.Option.{option_flatten, option_map}
use Rattle.mysql_cells.specs.declared.value.Value.{Value}
use Rattle.mysql_row_refs.specs.Places.{held}
use Rattle.mysql_row_refs.specs.declared.place.CellPlace.{CellPlace}

-- the value in a cell of a row of which nothing was taken
pub cell_of : (payload : List ℕ) (places : List CellPlace) (index : ℕ) →
    option_flatten (slice_get (map (λ (x : Value). Some x) (map (held payload) places)) index) ≡
    option_map (held payload) (slice_get places index)
cell_of payload places index =
    rw (
      slice_get-map (λ (x : Value). Some x) (map (held payload) places) index,
      slice_get-map (held payload) places index,
    ) (by_place (slice_get places index)) where
      by_place : (found : Option CellPlace) →
          option_flatten (option_map (λ (x : Value). Some x) (option_map (held payload) found)) ≡
          option_map (held payload) found
      by_place None = refl
      by_place (Some place) = refl

pub found_cell : (payload : List ℕ) (places : List CellPlace) (index : ℕ) (place : CellPlace) →
    slice_get places index ≡ Some place
    → Some (held payload place) ≡
    option_flatten (slice_get (map (λ (x : Value). Some x) (map (held payload) places)) index)
found_cell payload places index place h = ap (option_map (held payload)) (sym h) ∙ sym (cell_of payload places index)

pub no_cell : (payload : List ℕ) (places : List CellPlace) (index : ℕ) → slice_get places index ≡ None
    → None ≡ option_flatten (slice_get (map (λ (x : Value). Some x) (map (held payload) places)) index)
no_cell payload places index h = ap (option_map (held payload)) (sym h) ∙ sym (cell_of payload places index)

slice_get_inside : {X : Type 0} (xs : List X) (index : ℕ) (x : X) → slice_get xs index ≡ Some x → index < length xs
slice_get_inside [] index x h = absurd (cc)
slice_get_inside (y ∷ xs) zero x h = omega arith
slice_get_inside (y ∷ xs) (suc index) x h = let l : index < length xs =
    slice_get_inside xs index x h in omega (arith, l)

pub found_inside : (test : CellPlace → Bool) (places : List CellPlace) (index : ℕ)
    (place : CellPlace) → list_all test places ≡ true → slice_get places index ≡ Some place →
    test place ≡ true
found_inside test places index place h at =
    by_test (test place) refl where
      by_test : (t : Bool) → test place ≡ t → test place ≡ true
      by_test true e = e
      by_test false e =
          let inside : index < length places = slice_get_inside places index place at in
          let one : test (get_or places index place) ≡ false =
          rw (get_or_from_slice_get places index place place at) e in
          let all : list_all test places ≡ false = list_all_at test places index place inside one in
          absurd (cc)
