-- Rows that are kept, when more are.
use Rattle.std.proofs.Common.{◌≡◌, ℕ, zero, suc, ◌-◌, ◌+◌, ◌*◌, ◌<◌, ◌≤◌, true, List, [], ◌∷◌, ◌++◌, inl, inr, length}
use Rattle.std.proofs.Common.{map, take, drop, get_or, Some, None, Result, Ok, Err, OnOk, OnErr, refl, sym, ap, ◌∙◌}
use Rattle.std.proofs.Common.{subst, add-one, arith, drop-cons, length-append, length-drop}
use Rattle.std.proofs.lemmas.Bool.{cases_lt}
use Rattle.std.proofs.lemmas.List.{drop-append-le, take-append-le, take_all}
use Rattle.std.proofs.lemmas.List.FromFn.{get_or-map-range_with_len, length-map-range_with_len, map-range_with_len_more}
use Rattle.std.proofs.lemmas.Option.{get_or_from_slice_get, slice_get-get_or, slice_get_past, slice_get_within}
use Rattle.std.proofs.Math.ListN.{get_or-append}
use Rattle.std.proofs.Math.Nat.{mul-le-mul_right, suc-mul}
use Rattle.std.proofs.Math.Seq.{drop-append_seam, get_or-append_seam}
use Rattle.std.specs.List.{list_all, range_with_len, slice_get, slice_range}
use Rattle.mysql_columns.specs.Columns.{ColumnDefinition}
use Rattle.mysql_rows.specs.Rows.{Row, whole_row}
use Rattle.mysql_row_refs.specs.Places.{held, is_inside}
use Rattle.mysql_row_refs.specs.StoredRows.{AreKept, IsKept, ResultSet, payload_of, payload_start, places_of, row_kept}
use Rattle.mysql_row_refs.specs.StoredRows.{rows_kept}
use Rattle.mysql_row_refs.specs.declared.place.CellPlace.{CellPlace}

-- rows under columns
abbrev pub set_of : List ColumnDefinition → List Row → ResultSet
set_of columns rows = record { columns = columns; rows = rows }

-- what lies in a list stays there when more is appended
part_more : {X : Type 0} (items more : List X) (start end : ℕ) → start ≤ end → end ≤ length items →
    slice_range (items ++ more) start end ≡ slice_range items start end
part_more items more start end s e =
    let starts : start ≤ length items = omega (arith, s, e) in
    let d : drop start (items ++ more) ≡ drop start items ++ more = drop-append-le start items more starts in
    let long : end - start ≤ length (drop start items) = omega (arith, s, e, length-drop start items) in
    ap (take (end - start)) d ∙ take-append-le (end - start) (drop start items) more long

-- what was appended lies behind what stood there
part_behind : {X : Type 0} (items more : List X) (start end : ℕ) → start ≡ length items → end ≡
    length (items ++ more) → slice_range (items ++ more) start end ≡ more
part_behind items more start end s e =
    let from : drop start (items ++ more) ≡ more = ap (λ n. drop n (items ++ more)) s ∙ drop-append_seam items more in
    let long : length more ≤ end - start = omega (arith, s, e, length-append items more) in
    ap (take (end - start)) from ∙ take_all (end - start) more long

-- the same at each number
same_over : {X : Type 0} (f g : ℕ → X) (a n : ℕ) → ((k : ℕ) → k < a + n → f k ≡ g k) →
    map f (range_with_len a n) ≡ map g (range_with_len a n)
same_over f g a zero h = refl
same_over f g a (suc n) h =
    let here : f a ≡ g a = h a (omega arith) in
    let others : map f (range_with_len (a + 1) n) ≡ map g (range_with_len (a + 1) n) =
    same_over f g (a + 1) n (λ k lt. h k (omega (arith, lt))) in
    rw (here, others) refl

-- the cells of a row, and those before them
cells_within : (count rows index len : ℕ) → len ≡ rows * count → index < rows → index * count + count ≤ len
cells_within count rows index len e h =
    let all : suc index * count ≤ rows * count = mul-le-mul_right count h in
    omega (arith, e, all, suc-mul index count)

-- where payloads end once one more is appended
abbrev ends_more : List ℕ → List ℕ → List ℕ → List ℕ
ends_more payloads payload ends = ends ++ length (payloads ++ payload) ∷ []

module _ (count : ℕ) (payloads payload ends : List ℕ) (places cells : List CellPlace)
    (kept : AreKept count payloads ends places) where
  start_same : (index : ℕ) → index ≤ length ends →
      payload_start (ends_more payloads payload ends) index ≡ payload_start ends index
  start_same index h = get_or-append (0 ∷ ends) (length (payloads ++ payload) ∷ []) 0 index (omega (arith, h))

  end_same : (index : ℕ) → index < length ends → get_or (ends_more payloads payload ends) index 0 ≡ get_or ends index 0
  end_same index h = get_or-append ends (length (payloads ++ payload) ∷ []) 0 index h

  payload_same : (index : ℕ) → index < length ends →
      payload_of (payloads ++ payload) (ends_more payloads payload ends) index ≡
      payload_of payloads ends index
  payload_same index h =
      let k = kept.each index h in
      ap (λ a. slice_range (payloads ++
      payload) a (get_or (ends_more payloads payload ends) index 0))
      (start_same index (omega (arith, h)))
      ∙ ap (slice_range (payloads ++ payload) (payload_start ends index)) (end_same index h)
      ∙ part_more payloads payload (payload_start ends index) (get_or ends index 0) k.starts k.within

  places_same : (index : ℕ) → index < length ends → places_of count (places ++ cells) index ≡
      places_of count places index
  places_same index h = part_more places cells (index * count) (index * count + count) (omega arith)
      (cells_within count (length ends) index (length places) kept.as_many h)

  -- a row that is kept stays kept
  stays_kept : (index : ℕ) → index < length ends →
      IsKept count (payloads ++ payload) (ends_more payloads payload ends) (places ++ cells) index
  stays_kept index h =
      let k = kept.each index h in
      let s = start_same index (omega (arith, h)) in
      let e = end_same index h in
      record {
        starts = omega (arith, s, e, k.starts);
        within = omega (arith, e, k.within, length-append payloads payload);
        inside = ap (λ bytes. list_all (is_inside bytes) (places_of count (places ++ cells) index))
            (payload_same index h)
            ∙ ap (list_all (is_inside (payload_of payloads ends index))) (places_same index h) ∙ k.inside;
      }

  -- the row that was appended
  start_new : payload_start (ends_more payloads payload ends) (length ends) ≡ length payloads
  start_new = start_same (length ends) (omega arith) ∙ kept.all_used

  end_new : get_or (ends_more payloads payload ends) (length ends) 0 ≡ length (payloads ++ payload)
  end_new = get_or-append_seam ends (length (payloads ++ payload)) [] 0

  payload_new : payload_of (payloads ++ payload) (ends_more payloads payload ends) (length ends) ≡ payload
  payload_new = part_behind payloads payload
      (payload_start (ends_more payloads payload ends) (length ends))
      (get_or (ends_more payloads payload ends) (length ends) 0) start_new end_new

  places_new : length cells ≡ count → places_of count (places ++ cells) (length ends) ≡ cells
  places_new as_long =
      part_behind places cells (length ends * count) (length ends * count + count)
      (sym kept.as_many) (omega (arith, kept.as_many, as_long, length-append places cells))

  new_kept : list_all (is_inside payload) cells ≡ true → length cells ≡ count →
      IsKept count (payloads ++ payload) (ends_more payloads payload ends) (places ++
      cells) (length ends)
  new_kept inside as_long = record {
    starts = omega (arith, start_new, end_new, length-append payloads payload);
    within = omega (arith, end_new);
    inside = ap (λ bytes. list_all (is_inside bytes) (places_of count (places ++ cells) (length ends))) payload_new
        ∙ ap (list_all (is_inside payload)) (places_new as_long) ∙ inside;
  }

  pub all_kept : list_all (is_inside payload) cells ≡ true → length cells ≡ count →
      AreKept count (payloads ++ payload) (ends_more payloads payload ends) (places ++ cells)
  all_kept inside as_long =
      let n : length (ends_more payloads payload ends) ≡ suc (length ends) =
      omega (arith, length-append ends (length (payloads ++ payload) ∷ [])) in
      record {
        all_used = ap (payload_start (ends_more payloads payload ends)) n ∙ end_new;
        as_many = length-append places cells ∙
            (omega (arith, kept.as_many, as_long, suc-mul (length ends) count) ∙
            ap (λ k. k * count) (sym n));
        each = λ index h. elim (cases_lt index (length ends)) [
          | inl lt ↦ stays_kept index lt
          | inr ge ↦
              let is : length ends ≡ index = omega (arith, h, ge, n) in
              subst (λ (k : ℕ). IsKept count (payloads ++ payload) (ends_more payloads payload ends)
              (places ++ cells) k) is (new_kept inside as_long)
        ];
      }

module _ (columns : List ColumnDefinition) (payloads payload ends : List ℕ)
    (places cells : List CellPlace) (kept : AreKept (length columns) payloads ends places) where
  -- the rows that were kept, and the one that was appended
  pub rows_more : length cells ≡ length columns →
      rows_kept columns (payloads ++ payload) (ends_more payloads payload ends) (places ++ cells) ≡
      rows_kept columns payloads ends places ++ whole_row columns (map (held payload) cells) ∷ []
  rows_more as_long =
      let row = row_kept columns (payloads ++ payload) (ends_more payloads payload ends) (places ++ cells) in
      let n : length (ends_more payloads payload ends) ≡ length ends + 1 =
      omega (arith, length-append ends (length (payloads ++ payload) ∷ [])) in
      let same : map row (range_with_len 0 (length ends)) ≡ rows_kept columns payloads ends places =
      same_over row (row_kept columns payloads ends places) 0 (length ends) (λ k below.
      let lt : k < length ends = omega (arith, below) in
      ap (λ bytes. whole_row columns
      (map (held bytes) (places_of (length columns) (places ++ cells) k)))
      (payload_same (length columns) payloads payload ends places cells kept k lt)
      ∙ ap (λ these. whole_row columns (map (held (payload_of payloads ends k)) these))
      (places_same (length columns) payloads payload ends places cells kept k lt)) in
      let new : row (length ends) ≡ whole_row columns (map (held payload) cells) =
      ap (λ bytes. whole_row columns
      (map (held bytes) (places_of (length columns) (places ++ cells) (length ends))))
      (payload_new (length columns) payloads payload ends places cells kept)
      ∙ ap (λ these. whole_row columns (map (held payload) these))
      (places_new (length columns) payloads payload ends places cells kept as_long) in
      ap (λ k. map row (range_with_len 0 k)) n ∙ map-range_with_len_more row 0 (length ends) (length ends) (omega arith)
      ∙ ap (λ rows. rows ++ row (length ends) ∷ []) same ∙
      ap (λ x. rows_kept columns payloads ends places ++ x ∷ []) new

  -- the same after an attempt that may have been refused
  module _ {T E : Type 0} (payloads_after ends_after : List ℕ) (places_after : List CellPlace)
      (as_long : length cells ≡ length columns) where
    pub kept_after : (r : Result T E) → OnOk r (payloads_after ≡ payloads ++ payload) →
        OnOk r (ends_after ≡ ends_more payloads payload ends) →
        OnOk r (places_after ≡ places ++ cells)
        → OnErr r ((payloads_after ≡ payloads) × (ends_after ≡ ends) × (places_after ≡ places)) →
        list_all (is_inside payload) cells ≡ true
        → AreKept (length columns) payloads_after ends_after places_after
    kept_after (Ok x) p n c e inside =
        rw (p, n, c) (all_kept (length columns) payloads payload ends places cells kept inside
        as_long)
    kept_after (Err x) p n c e inside = rw (e.0, e.1, e.2) kept

    pub set_after : (r : Result T E) → OnOk r (payloads_after ≡ payloads ++ payload) →
        OnOk r (ends_after ≡ ends_more payloads payload ends) →
        OnOk r (places_after ≡ places ++ cells)
        → OnOk r (set_of columns (rows_kept columns payloads_after ends_after places_after) ≡
        set_of columns (rows_kept columns payloads ends places ++
        whole_row columns (map (held payload) cells) ∷ []))
    set_after (Ok x) p n c = rw (p, n, c) (ap (set_of columns) (rows_more as_long))
    set_after (Err x) p n c = tt

-- as many rows as ends
pub rows_len : (columns : List ColumnDefinition) (payloads ends : List ℕ)
    (places : List CellPlace) → length (rows_kept columns payloads ends places) ≡ length ends
rows_len columns payloads ends places =
    length-map-range_with_len (row_kept columns payloads ends places) 0 (length ends)

-- the row that is found by its number
pub row_found : (columns : List ColumnDefinition) (payloads ends : List ℕ) (places : List CellPlace)
    (index : ℕ) → index < length ends
    → slice_get (rows_kept columns payloads ends places) index ≡ Some (row_kept columns payloads ends places index)
row_found columns payloads ends places index h =
    let row = row_kept columns payloads ends places in
    let within : index < length (rows_kept columns payloads ends places) =
    omega (arith, h, rows_len columns payloads ends places) in
    slice_get-get_or (rows_kept columns payloads ends places) index (row index) within ∙
    ap (λ x. Some x) (get_or-map-range_with_len row 0 (length ends) index index (row index) h
    (omega arith))

pub no_row : (columns : List ColumnDefinition) (payloads ends : List ℕ) (places : List CellPlace)
    (index : ℕ) → length ends ≤ index → slice_get (rows_kept columns payloads ends places) index ≡
    None
no_row columns payloads ends places index h =
    slice_get_past (rows_kept columns payloads ends places) index
    (omega (arith, h, rows_len columns payloads ends places))

-- the row that is found, and those after it
pub rows_from : {X : Type 0} (rows : List X) (index : ℕ) (row : X) → slice_get rows index ≡
    Some row → drop index rows ≡ row ∷ drop (index + 1) rows
rows_from rows index row at =
    let here : drop index rows ≡ get_or rows index row ∷ drop (index + 1) rows =
    rw add-one (drop-cons rows index row (slice_get_within rows index row at)) in
    here ∙ ap (λ x. x ∷ drop (index + 1) rows) (get_or_from_slice_get rows index row row at)
