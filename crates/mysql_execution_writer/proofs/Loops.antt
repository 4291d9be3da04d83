-- Loops that append one thing after another, or look at one after another.
use Rattle.std.proofs.Common.{◌≡◌, ℕ, ◌+◌, ◌<◌, ◌≤◌, Bool, true, false, List, [], ◌∷◌, ◌++◌, length, map, get_or, drop}
use Rattle.std.proofs.Common.{Option, Some, None, refl, sym, ap, ◌∙◌, append_assoc, append-nil, add-one, drop-cons}
use Rattle.std.specs.Prelude.{◌&&◌, IfNone, IfSome, is_some, not}
use Rattle.std.specs.List.{flat_map}
use Rattle.std.proofs.lemmas.List.{drop-map, drop_all}
use Rattle.mysql_cells.specs.declared.value.Value.{Value}
use Rattle.mysql_executions.specs.declared.types.BoundType.{BoundType}
use Rattle.mysql_executions.specs.declared.types.ParameterType.{ParameterType}
use Rattle.mysql_executions.specs.InForce.{data_for}
use Rattle.mysql_executions.specs.Types.{unnamed}
use Rattle.mysql_execution_writer.specs.Cells.{are_parameters, is_parameter, parameter_bytes, parameters_bytes}

-- the element that stands first of what is left
pub at_place : {X : Type 0} (xs : List X) (place : ℕ) (x : X) → place < length xs → x ≡
    get_or xs place x → drop place xs ≡ x ∷ drop (place + 1) xs
at_place {X = X} xs place x lt is =
    let here : drop place xs ≡ get_or xs place x ∷ drop (place + 1) xs = rw add-one (drop-cons xs place x lt) in
    here ∙ ap (λ (y : X). y ∷ drop (place + 1) xs) (sym is)

pub unnamed_at : (xs : List BoundType) (place : ℕ) (d : BoundType) → place < length xs →
    drop place (unnamed xs) ≡ (get_or xs place d).parameter_type ∷ drop (place + 1) (unnamed xs)
unnamed_at xs place d lt =
    let here : drop place xs ≡ get_or xs place d ∷ drop (place + 1) xs = rw add-one (drop-cons xs place d lt) in
    drop-map (λ t. t.parameter_type) place xs ∙ ap (map (λ t. t.parameter_type)) here
    ∙ ap (λ (later : List ParameterType). (get_or xs place d).parameter_type ∷
    later) (sym (drop-map (λ t. t.parameter_type) (place + 1) xs))

-- ---- one after another

module _ {X : Type 0} (f : X → List ℕ) (xs : List X) (i : ℕ) (out total : List ℕ) (so_far : out ++
    flat_map f (drop i xs) ≡ total) where
  pub flat_done : length xs ≤ i → out ≡ total
  flat_done le = sym (append-nil out) ∙ sym (ap (λ (l : List X). out ++ flat_map f l) (drop_all i xs le)) ∙ so_far

-- the types of attributes, by the attributes
pub flat_of_map : {X Y : Type 0} (f : Y → List ℕ) (g : X → Y) (xs : List X) →
    flat_map (λ x. f (g x)) xs ≡ flat_map f (map g xs)
flat_of_map f g [] = refl
flat_of_map f g (x ∷ xs) = ap (λ (l : List ℕ). f (g x) ++ l) (flat_of_map f g xs)

-- ---- parameters

module _ (waiting : List (ℕ × List ℕ)) (place : ℕ) (types : List ParameterType) (values : List Value) where
  -- what a place adds, and what is left
  pub parameters_go_on : (out new total : List ℕ) (t : ParameterType) (value : Value)
      (later : List ParameterType) (others : List Value) → types ≡ t ∷ later → values ≡ value ∷
      others
      → new ≡ out ++ parameter_bytes (data_for waiting place) t value
      → out ++ parameters_bytes waiting place types values ≡ total → new ++
      parameters_bytes waiting (place + 1) later others ≡ total
  unfolding parameters_bytes
  parameters_go_on out new total t value later others e h put so_far =
      let one : out ++ parameters_bytes waiting place types values ≡ out ++
      (parameter_bytes (data_for waiting place) t value ++
      parameters_bytes waiting (place + 1) later others) = rw (e, h) refl in
      ap (λ (l : List ℕ). l ++ parameters_bytes waiting (place + 1) later others) put
      ∙ append_assoc out (parameter_bytes (data_for waiting place) t value)
      (parameters_bytes waiting (place + 1) later others) ∙ sym one ∙ so_far

  pub parameters_done : (out total : List ℕ) → values ≡ [] → out ++
      parameters_bytes waiting place types values ≡ total → out ≡ total
  unfolding parameters_bytes
  parameters_done out total none so_far = by types so_far
    where
      by : (ts : List ParameterType) → out ++ parameters_bytes waiting place ts values ≡ total → out ≡ total
      by [] h = sym (append-nil out) ∙ h
      by (t ∷ ts) h =
          let one : out ++ parameters_bytes waiting place (t ∷ ts) values ≡ out = rw none (append-nil out) in
          sym one ∙ h

  -- a place fits, and so do the others where all do
  pub fit_goes_on : (total : Bool) (t : ParameterType) (value : Value) (later : List ParameterType)
      (others : List Value) → types ≡ t ∷ later → values ≡ value ∷ others
      → is_parameter (data_for waiting place) t value ≡ true
      → are_parameters waiting place types values ≡ total → are_parameters waiting (place + 1) later others ≡ total
  unfolding are_parameters
  fit_goes_on total t value later others e h fits so_far =
      let one : are_parameters waiting place types values ≡ are_parameters waiting (place + 1) later others =
      rw (e, h) (ap (λ b. b && are_parameters waiting (place + 1) later others) fits) in
      sym one ∙ so_far

  pub fit_fails : (total : Bool) (t : ParameterType) (value : Value) (later : List ParameterType)
      (others : List Value) → types ≡ t ∷ later → values ≡ value ∷ others
      → is_parameter (data_for waiting place) t value ≡ false →
      are_parameters waiting place types values ≡ total → false ≡ total
  unfolding are_parameters
  fit_fails total t value later others e h fits so_far =
      let one : are_parameters waiting place types values ≡ false =
      rw (e, h) (ap (λ b. b && are_parameters waiting (place + 1) later others) fits) in
      sym one ∙ so_far

  pub fit_lacks : (total : Bool) (value : Value) (others : List Value) → types ≡ [] → values ≡
      value ∷ others → are_parameters waiting place types values ≡ total → false ≡ total
  unfolding are_parameters
  fit_lacks total value others none h so_far =
      let one : are_parameters waiting place types values ≡ false = rw (none, h) refl in
      sym one ∙ so_far

  pub fit_ends : (total : Bool) → types ≡ [] → values ≡ [] →
      are_parameters waiting place types values ≡ total → true ≡ total
  unfolding are_parameters
  fit_ends total none nothing so_far =
      let one : are_parameters waiting place types values ≡ true = rw (none, nothing) refl in
      sym one ∙ so_far

  pub fit_exceeds : (total : Bool) (t : ParameterType) (later : List ParameterType) → types ≡ t ∷
      later → values ≡ [] → are_parameters waiting place types values ≡ total → false ≡ total
  unfolding are_parameters
  fit_exceeds total t later some nothing so_far =
      let one : are_parameters waiting place types values ≡ false = rw (some, nothing) refl in
      sym one ∙ so_far

-- all values were looked at, and a type is left, or none
pub fit_exceeds_at : (waiting : List (ℕ × List ℕ)) (place : ℕ) (types later : List ParameterType)
    (values : List Value) (total : Bool) (found : Option ParameterType) → is_some found ≡ true
    → IfSome found (λ t. types ≡ t ∷ later) → values ≡ [] →
    are_parameters waiting place types values ≡ total → false ≡ total
fit_exceeds_at waiting place types later values total (Some t) is some all so_far =
    fit_exceeds waiting place types values total t later some all so_far
fit_exceeds_at waiting place types later values total None is some all so_far = absurd cc

pub fit_ends_at : (waiting : List (ℕ × List ℕ)) (place : ℕ) (types : List ParameterType)
    (values : List Value) (total : Bool) (found : Option ParameterType) → is_some found ≡ false
    → IfNone found (types ≡ []) → values ≡ [] → are_parameters waiting place types values ≡ total → true ≡ total
fit_ends_at waiting place types values total (Some t) is nothing all so_far = absurd cc
fit_ends_at waiting place types values total None is nothing all so_far =
    fit_ends waiting place types values total nothing all so_far

pub none_of : (none : Bool) → true ≡ not none → none ≡ false
none_of true e = absurd cc
none_of false e = refl

pub some_of : (none : Bool) → false ≡ not none → none ≡ true
some_of true e = refl
some_of false e = absurd cc

-- all values were looked at: they fit where no type is left
pub fit_at_end : (waiting : List (ℕ × List ℕ)) (place : ℕ) (types later : List ParameterType)
    (values : List Value) (total none : Bool) (found : Option ParameterType) → is_some found ≡
    not none
    → IfSome found (λ t. types ≡ t ∷ later) → IfNone found (types ≡ []) → values ≡ [] →
    are_parameters waiting place types values ≡ total → none ≡ total
fit_at_end waiting place types later values total none (Some t) is some nothing all so_far =
    none_of none is ∙ fit_exceeds waiting place types values total t later some all so_far
fit_at_end waiting place types later values total none None is some nothing all so_far =
    some_of none is ∙ fit_ends waiting place types values total nothing all so_far

pub and_left : (x y : Bool) → (x && y) ≡ true → x ≡ true
and_left true y e = refl
and_left false y e = absurd cc

pub and_right : (x y : Bool) → (x && y) ≡ true → y ≡ true
and_right true y e = e
and_right false y e = absurd cc
