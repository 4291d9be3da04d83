-- Cells that are looked at one after another.
use Rattle.std.proofs.Common.{◌≡◌, ℕ, zero, suc, ◌+◌, ◌-◌, ◌<◌, ◌≤◌, Bool, true, false, List, [], ◌∷◌, ◌++◌, length}
use Rattle.std.proofs.Common.{get_or, drop, Option, Some, None, refl, sym, subst, ap, ◌∙◌, append-nil, arith, drop-cons}
use Rattle.std.proofs.Common.{length-append}
use Rattle.std.specs.Prelude.{◌&&◌, ◌||◌, if◌then◌else◌, is_some, min, not, map}
use Rattle.std.specs.List.{flat_map}
use Rattle.std.specs.Global.{Vec}
use Rattle.std.specs.Option.{option_and_then, option_map}
use Rattle.std.proofs.lemmas.List.{drop-map, length-map}
use Rattle.mysql_field_lists.specs.NullBitmap.{is_null_at}
use Rattle.mysql_executions.specs.declared.bulk.BulkValue.{BulkValue}
use Rattle.mysql_executions.specs.declared.types.BoundType.{BoundType}
use Rattle.mysql_executions.specs.declared.types.ParameterType.{ParameterType}
use Rattle.mysql_executions.specs.declared.unclear.Looked.{Looked}
use Rattle.mysql_executions.specs.Executions.{typed_value_at}
use Rattle.mysql_executions.specs.InForce.{data_for}
use Rattle.mysql_executions.specs.Types.{unnamed}
use Rattle.mysql_executions.specs.Unclear.{bulk_cell, cells_from, cells_in_row, first_unclear, is_same_type}
use Rattle.mysql_executions.specs.Unclear.{is_unclear_cell, marks_from}
use Rattle.mysql_executions.specs.Views.{IsFound, found_by, rows_of}

-- ---- the cell at a place

abbrev pub Here : {X : Type 0} → List X → ℕ → X → Type 0
Here xs place x = drop place xs ≡ x ∷ drop (suc place) xs

-- the cell of a value of this type at a place
abbrev pub cell_of : (waiting : List (ℕ × List ℕ)) → (nulls : List ℕ) → ℕ → ParameterType → Option ParameterType
cell_of waiting nulls place t = if is_some (data_for waiting place) || is_null_at 0 nulls place then None else Some t

module _ (waiting : List (ℕ × List ℕ)) (nulls : List ℕ) where
  pub cell_here : (k : ℕ) (types : List ParameterType) (place : ℕ) (t : ParameterType) →
      Here types place t → Here (cells_from waiting nulls k types) place
      (cell_of waiting nulls (k + place) t)
  unfolding cells_from
  cell_here k [] zero t e = absurd cc
  cell_here k [] (suc place) t e = absurd cc
  cell_here k (x ∷ types) zero t e =
      let same : x ≡ t = cc in
      let here : k ≡ k + 0 = omega arith in
      ap (λ (y : ParameterType). cell_of waiting nulls k y ∷ cells_from waiting nulls (k + 1) types)
      same ∙ ap (λ (p : ℕ). cell_of waiting nulls p t ∷ cells_from waiting nulls (k + 1) types)
      here
  cell_here k (x ∷ types) (suc place) t e =
      let next : k + 1 + place ≡ k + suc place = omega arith in
      cell_here (k + 1) types place t e ∙
      ap (λ (p : ℕ). cell_of waiting nulls p t ∷
      drop (suc place) (cells_from waiting nulls (k + 1) types)) next

  pub length_cells : (k : ℕ) (types : List ParameterType) → length (cells_from waiting nulls k types) ≡ length types
  unfolding cells_from
  length_cells k [] = refl
  length_cells k (x ∷ types) = ap (λ (n : ℕ). suc n) (length_cells (k + 1) types)

-- the cell at a place of a row
pub row_cell_here : (types : List ParameterType) (row : List BulkValue) (place : ℕ)
    (t : ParameterType) (v : BulkValue) → Here types place t → Here row place v →
    Here (cells_in_row types row) place (bulk_cell t v)
unfolding cells_in_row
row_cell_here [] row zero t v e f = absurd cc
row_cell_here [] row (suc place) t v e f = absurd cc
row_cell_here (x ∷ types) [] zero t v e f = absurd cc
row_cell_here (x ∷ types) [] (suc place) t v e f = absurd cc
row_cell_here (x ∷ types) (y ∷ row) zero t v e f =
    let same : x ≡ t = cc in
    let too : y ≡ v = cc in
    ap (λ (x : ParameterType). bulk_cell x y ∷ cells_in_row types row) same ∙
    ap (λ (y : BulkValue). bulk_cell t y ∷ cells_in_row types row) too
row_cell_here (x ∷ types) (y ∷ row) (suc place) t v e f = row_cell_here types row place t v e f

pub length_row_cells : (types : List ParameterType) (row : List BulkValue) →
    length (cells_in_row types row) ≡ min (length row) (length types)
unfolding cells_in_row
length_row_cells [] row = omega arith
length_row_cells (x ∷ types) [] = omega arith
length_row_cells (x ∷ types) (y ∷ row) = omega (arith, length_row_cells types row)

pub here_behind : {X : Type 0} (front back : List X) (place : ℕ) (x : X) → length front ≤ place →
    Here back (place - length front) x → Here (front ++ back) place x
here_behind {X = X} [] back place x le e =
    let same : place - 0 ≡ place = omega arith in
    subst (λ (p : ℕ). Here back p x) same e
here_behind (y ∷ front) back zero x le e = absurd (omega (arith, le))
here_behind (y ∷ front) back (suc place) x le e =
    let same : suc place - suc (length front) ≡ place - length front = omega arith in
    here_behind front back place x (omega (arith, le)) (subst (λ (p : ℕ). Here back p x) same e)

-- the same, as code says it
abbrev pub At : {X : Type 0} → List X → ℕ → X → Type 0
At xs place x = drop place xs ≡ x ∷ drop (place + 1) xs

here_at : {X : Type 0} (xs : List X) (place : ℕ) (x : X) → At xs place x → Here xs place x
here_at xs place x e = let next : place + 1 ≡ suc place = omega arith in e ∙ ap (λ (n : ℕ). x ∷ drop n xs) next

at_here : {X : Type 0} (xs : List X) (place : ℕ) (x : X) → Here xs place x → At xs place x
at_here xs place x e = let next : suc place ≡ place + 1 = omega arith in e ∙ ap (λ (n : ℕ). x ∷ drop n xs) next

pub at_cell : (waiting : List (ℕ × List ℕ)) (nulls : List ℕ) (types : List ParameterType)
    (place : ℕ) (t : ParameterType) (without : Bool) → At types place t
    → without ≡ (is_some (data_for waiting place) || is_null_at 0 nulls place) →
    At (cells_from waiting nulls 0 types) place (if without then None else Some t)
at_cell waiting nulls types place t without e is =
    let start : 0 + place ≡ place = omega arith in
    let cells = cells_from waiting nulls 0 types in
    at_here cells place (if without then None else Some t)
    (cell_here waiting nulls 0 types place t (here_at types place t e) ∙
    ap (λ (p : ℕ). cell_of waiting nulls p t ∷ drop (suc place) cells) start
    ∙ ap (λ (b : Bool). (if b then None else Some t) ∷ drop (suc place) cells) (sym is))

pub at_row_cell : (types : List ParameterType) (row : List BulkValue) (place : ℕ)
    (t : ParameterType) (d : BulkValue) (cell : Option ParameterType) → At types place t →
    place < length row → bulk_cell t (get_or row place d) ≡ cell
    → At (cells_in_row types row) place cell
at_row_cell types row place t d cell e lt is =
    at_here (cells_in_row types row) place cell
    (row_cell_here types row place t (get_or row place d) (here_at types place t e)
    (drop-cons row place d lt) ∙
    ap (λ (c : Option ParameterType). c ∷ drop (suc place) (cells_in_row types row)) is)

unnamed_here : (xs : List BoundType) (place : ℕ) (d : BoundType) → place < length xs →
    Here (unnamed xs) place (get_or xs place d).parameter_type
unnamed_here xs place d lt =
    drop-map (λ t. t.parameter_type) place xs ∙ ap (map (λ t. t.parameter_type)) (drop-cons xs place d lt)
    ∙ ap (λ (later : List ParameterType). (get_or xs place d).parameter_type ∷
    later) (sym (drop-map (λ t. t.parameter_type) (suc place) xs))

pub at_further : (front : List ParameterType) (further : List BoundType) (place count : ℕ)
    (d : BoundType) → count ≡ length front → count ≤ place →
    place < length (front ++ unnamed further)
    → At (front ++ unnamed further) place (get_or further (place - count) d).parameter_type
at_further front further place count d all le lt =
    let t = (get_or further (place - count) d).parameter_type in
    let short : place - count < length further =
    omega (
      arith,
      all,
      le,
      lt,
      length-append front (unnamed further),
      length-map further (λ t. t.parameter_type),
    ) in
    let there : Here (unnamed further) (place - length front) t =
    subst (λ (n : ℕ). Here (unnamed further) (place - n) t) all
    (unnamed_here further (place - count) d short) in
    at_here (front ++ unnamed further) place t
    (here_behind front (unnamed further) place t (omega (arith, all, le)) there)

-- ---- what is found of one cell

-- what is read on behind what was passed over
passed : {V B : Type 0} (f : List ℕ → Option B) (read : Option (V × List ℕ))
    (after : Option (List ℕ)) → after ≡ option_map (λ x. x.1) read →
    option_and_then (λ x. f x.1) read ≡ option_and_then f after
passed f None after e = rw e refl
passed f (Some x) after e = rw e refl

module _ (before place : ℕ) (from bytes : List ℕ) (stands : drop before from ≡ bytes) where
  pub found_none : (first : ℕ) (others : List (Option ParameterType)) →
      first_unclear before (first + place) (None ∷ others) from ≡
      first_unclear before (first + (place + 1)) others bytes
  unfolding first_unclear
  found_none first others =
      let next : first + place + 1 ≡ first + (place + 1) = omega arith in
      ap (λ (b : List ℕ). first_unclear before (first + place + 1) others b) stands ∙
      ap (λ (p : ℕ). first_unclear before p others bytes) next

  pub found_unclear : (t : ParameterType) → is_unclear_cell t bytes ≡ true →
      (first : ℕ) (others : List (Option ParameterType)) →
      first_unclear before (first + place) (Some t ∷ others) from ≡ Some (first + place, bytes)
  unfolding first_unclear
  found_unclear t is first others = rw (stands, is) refl

  pub found_clear : (t : ParameterType) (after : Option (List ℕ)) → is_unclear_cell t bytes ≡
      false → after ≡ option_map (λ x. x.1) (typed_value_at t bytes) →
      (first : ℕ) (others : List (Option ParameterType))
      → first_unclear before (first + place) (Some t ∷ others) from ≡
      option_and_then (first_unclear before (first + (place + 1)) others) after
  unfolding first_unclear
  found_clear t after is skipped first others =
      let next : first + place + 1 ≡ first + (place + 1) = omega arith in
      rw (stands, is, next) (passed (first_unclear before (first + (place + 1)) others)
      (typed_value_at t bytes) after skipped)

-- ---- cells one after another

-- that is found of all cells as of those from a place on, which stand in what is left
abbrev pub GoesOn : (before : ℕ) → List (Option ParameterType) → List ℕ → (place : ℕ) → List ℕ → Type 0
GoesOn before cells bytes place left = (first : ℕ) (others : List (Option ParameterType)) →
    first_unclear before (first + 0) (cells ++ others) bytes ≡
    first_unclear before (first + place) (drop place cells ++ others) left

module _ (before place : ℕ) (cells : List (Option ParameterType)) (bytes left : List ℕ)
    (so_far : GoesOn before cells bytes place left) where
  pub cells_end : drop place cells ≡ [] → place ≡ length cells
      → (first : ℕ) (others : List (Option ParameterType)) →
      first_unclear before (first + 0) (cells ++ others) bytes ≡
      first_unclear before (first + (0 + length cells)) others left
  cells_end none all first others =
      let end : place ≡ 0 + length cells = omega (arith, all) in
      so_far first others ∙ ap (λ (l : List (Option ParameterType)). first_unclear before
      (first + place) (l ++ others) left) none ∙
      ap (λ (p : ℕ). first_unclear before (first + p) others left) end

-- ---- long data

abbrev pub data_mark : Option (List ℕ) → ParameterType → ParameterType → Bool
data_mark sent t u = is_some sent && not (is_same_type t u)

module _ (waiting : List (ℕ × List ℕ)) where
  mark_here : (k : ℕ) (earlier types : List ParameterType) (place : ℕ) (t u : ParameterType) →
      Here earlier place t → Here types place u
      → Here (marks_from waiting k earlier types) place (data_mark (data_for waiting (k + place)) t u)
  unfolding marks_from
  mark_here k [] types zero t u e f = absurd cc
  mark_here k [] types (suc place) t u e f = absurd cc
  mark_here k (x ∷ earlier) [] zero t u e f = absurd cc
  mark_here k (x ∷ earlier) [] (suc place) t u e f = absurd cc
  mark_here k (x ∷ earlier) (y ∷ types) zero t u e f =
      let same : x ≡ t = cc in
      let too : y ≡ u = cc in
      let here : k ≡ k + 0 = omega arith in
      let later = marks_from waiting (k + 1) earlier types in
      ap (λ (x : ParameterType). data_mark (data_for waiting k) x y ∷ later) same ∙
      ap (λ (y : ParameterType). data_mark (data_for waiting k) t y ∷ later) too
      ∙ ap (λ (p : ℕ). data_mark (data_for waiting p) t u ∷ later) here
  mark_here k (x ∷ earlier) (y ∷ types) (suc place) t u e f =
      let next : k + 1 + place ≡ k + suc place = omega arith in
      mark_here (k + 1) earlier types place t u e f ∙
      ap (λ (p : ℕ). data_mark (data_for waiting p) t u ∷
      drop (suc place) (marks_from waiting (k + 1) earlier types)) next

  pub at_mark : (earlier types : List ParameterType) (place : ℕ) (t u : ParameterType)
      (mark : Bool) → At earlier place t → At types place u →
      data_mark (data_for waiting place) t u ≡ mark
      → At (marks_from waiting 0 earlier types) place mark
  at_mark earlier types place t u mark e f is =
      let start : 0 + place ≡ place = omega arith in
      let marks = marks_from waiting 0 earlier types in
      at_here marks place mark
      (mark_here 0 earlier types place t u (here_at earlier place t e) (here_at types place u f) ∙
      ap (λ (p : ℕ). data_mark (data_for waiting p) t u ∷ drop (suc place) marks) start
      ∙ ap (λ (b : Bool). b ∷ drop (suc place) marks) is)

  pub length_marks : (k : ℕ) (earlier types : List ParameterType) →
      length (marks_from waiting k earlier types) ≡ min (length earlier) (length types)
  unfolding marks_from
  length_marks k [] types = omega arith
  length_marks k (x ∷ earlier) [] = omega arith
  length_marks k (x ∷ earlier) (y ∷ types) = omega (arith, length_marks (k + 1) earlier types)

-- ---- rows one after another

module _ (cells : List BulkValue → List (Option ParameterType)) (rows : List (Vec BulkValue))
    (rest : List ℕ) (total : Option (ℕ × List ℕ)) (i first : ℕ) (so_far : total ≡
    first_unclear 1 first (flat_map cells (rows_of (drop i rows))) rest) where
  pub row_found : (row : Vec BulkValue) (slice : List BulkValue) (found : Looked) → At rows i row →
      slice ≡ row.items → IsFound 1 0 (cells slice) rest found
      → total ≡ found_by 1 first (0 + length (cells slice)) (flat_map cells (rows_of (drop (i + 1) rows))) found
  row_found row slice found here same is =
      let others = flat_map cells (rows_of (drop (i + 1) rows)) in
      let start : first ≡ first + 0 = omega arith in
      so_far ∙ ap (λ (rs : List (Vec BulkValue)). first_unclear 1 first (flat_map cells (rows_of rs)) rest) here
      ∙ ap (λ (s : List BulkValue). first_unclear 1 first (cells s ++ others) rest) (sym same) ∙
      ap (λ (p : ℕ). first_unclear 1 p (cells slice ++ others) rest) start ∙ is first others

  pub rows_found : drop i rows ≡ [] → total ≡ None
  unfolding first_unclear
  rows_found none = so_far ∙
      ap (λ (rs : List (Vec BulkValue)). first_unclear 1 first (flat_map cells (rows_of rs)) rest)
      none

  pub next_rows : (width behind : ℕ) (slice : List BulkValue) (after : List ℕ) → width ≡
      length (cells slice) → behind ≡ first + width
      → total ≡ first_unclear 1 (first + (0 + length (cells slice)))
      (flat_map cells (rows_of (drop (i + 1) rows))) after → total ≡
      first_unclear 1 behind (flat_map cells (rows_of (drop (i + 1) rows))) after
  next_rows width behind slice after wide is e =
      let same : first + (0 + length (cells slice)) ≡ behind = omega (arith, wide, is) in
      e ∙ ap (λ (p : ℕ). first_unclear 1 p (flat_map cells (rows_of (drop (i + 1) rows))) after) same

-- the first unclear cell of cells behind which none stand
pub none_behind : (cells : List (Option ParameterType)) (bytes : List ℕ)
    (found : Option (ℕ × List ℕ)) → first_unclear 0 (0 + 0) (cells ++ []) bytes ≡ found → found ≡
    first_unclear 0 0 cells bytes
none_behind cells bytes found e = sym e ∙
    ap (λ (l : List (Option ParameterType)). first_unclear 0 0 l bytes) (append-nil cells)

pub none_is_unclear : (place : ℕ) (left : List ℕ) → first_unclear 0 place [] left ≡ None
unfolding first_unclear
none_is_unclear place left = refl
