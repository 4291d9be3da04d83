-- A row whose bitmap begins with zeros: the bit of each NULL is set where the cell is passed.
use Rattle.std.proofs.Common.{◌≡◌, ◌≢◌, ℕ, zero, suc, ◌+◌, ◌-◌, ◌*◌, ◌/◌, ◌%◌, ◌^◌, ◌<◌, ◌≤◌, Bool, true, false, List}
use Rattle.std.proofs.Common.{[], ◌∷◌, ◌++◌, length, map, drop, take, get_or, set, Option, None, refl, sym, ◌∙◌, ap}
use Rattle.std.proofs.Common.{arith, append_assoc, append-nil, if◌then◌else◌, ◌⊎◌, inl, inr}
use Rattle.std.specs.Prelude.{replicate}
use Rattle.std.proofs.lemmas.Bool.{cases_eq, cases_lt}
use Rattle.std.proofs.lemmas.List.{drop-set-add, drop-set-lt, get_or-append-add, get_or-drop, get_or-replicate}
use Rattle.std.proofs.lemmas.List.{get_or-set_other, get_or-set_same, get_or_append_left, length-append, length-drop}
use Rattle.std.proofs.lemmas.List.{length-map, length-replicate, length-set, set-append_left, set-append_right}
use Rattle.std.proofs.lemmas.List.{set-get_or, take-append-drop}
use Rattle.std.proofs.lemmas.List.FromFn.{fill_by_all, get_or-map-range_with_len, length-map-range_with_len}
use Rattle.std.proofs.lemmas.Nat.{pow_pos}
use Rattle.std.proofs.Math.Nat.{pow-succ'}
use Rattle.mysql_cells.specs.declared.value.Value.{Value}
use Rattle.mysql_rows.specs.CellsWritten.{holds_null, marked}
use Rattle.mysql_rows.specs.Written.{bits_bytes, bits_number}

-- MARKS

-- the marks of cells of which so many were passed
unfoldable pub marks_to : ℕ → List (Option Value) → List Bool
marks_to zero cells = map (λ _. false) cells
marks_to (suc place) [] = []
marks_to (suc place) (cell ∷ cells) = holds_null cell ∷ marks_to place cells

pub length_marks : (place : ℕ) (cells : List (Option Value)) → length (marks_to place cells) ≡ length cells
unfolding marks_to
length_marks zero cells = length-map cells (λ _. false)
length_marks (suc place) [] = refl
length_marks (suc place) (cell ∷ cells) = ap suc (length_marks place cells)

none_yet : (place : ℕ) (cells : List (Option Value)) → get_or (marks_to place cells) place false ≡ false
unfolding marks_to
none_yet zero [] = refl
none_yet zero (cell ∷ cells) = refl
none_yet (suc place) [] = refl
none_yet (suc place) (cell ∷ cells) = none_yet place cells

one_passed : (place : ℕ) (cells : List (Option Value)) (d : Option Value) → place < length cells →
    marks_to (suc place) cells ≡
    set (marks_to place cells) place (holds_null (get_or cells place d))
unfolding marks_to
one_passed place [] d inside = absurd (omega (arith, inside))
one_passed zero (cell ∷ cells) d inside = refl
one_passed (suc place) (cell ∷ cells) d inside =
    ap (λ (l : List Bool). holds_null cell ∷ l) (one_passed place cells d (omega (arith, inside)))

all_passed : (place : ℕ) (cells : List (Option Value)) → length cells ≤ place →
    marks_to place cells ≡ map holds_null cells
unfolding marks_to
all_passed zero [] all = refl
all_passed zero (cell ∷ cells) all = absurd (omega (arith, all))
all_passed (suc place) [] all = refl
all_passed (suc place) (cell ∷ cells) all =
    ap (λ (l : List Bool). holds_null cell ∷ l) (all_passed place cells (omega (arith, all)))

-- the marks with the two that stand for no cell
abbrev pub row_marks : ℕ → List (Option Value) → List Bool
row_marks place cells = false ∷ false ∷ marks_to place cells

-- BITS

at_most_one : (b : Bool) → (if b then 1 else 0) ≤ 1
at_most_one true = omega arith
at_most_one false = omega arith

-- so many bits are below the power of two
below : (n : ℕ) (marks : List Bool) → bits_number n marks < 2 ^ n
unfolding bits_number
below zero marks = omega arith
below (suc n) [] = omega (arith, pow_pos (suc n))
below (suc n) (mark ∷ marks) = omega (arith, below n marks, at_most_one mark, pow-succ' 2 n)

below_byte : (n : ℕ) (marks : List Bool) → n ≤ 8 → bits_number n marks < 256
below_byte n marks few = at n few (below n marks)
  where
    at : (n : ℕ) → n ≤ 8 → bits_number n marks < 2 ^ n → bits_number n marks < 256
    at zero few h = omega (arith, h)
    at (suc zero) few h = omega (arith, h)
    at (suc (suc zero)) few h = omega (arith, h)
    at (suc (suc (suc zero))) few h = omega (arith, h)
    at (suc (suc (suc (suc zero)))) few h = omega (arith, h)
    at (suc (suc (suc (suc (suc zero))))) few h = omega (arith, h)
    at (suc (suc (suc (suc (suc (suc zero)))))) few h = omega (arith, h)
    at (suc (suc (suc (suc (suc (suc (suc zero))))))) few h = omega (arith, h)
    at (suc (suc (suc (suc (suc (suc (suc (suc zero)))))))) few h = omega (arith, h)
    at (suc (suc (suc (suc (suc (suc (suc (suc (suc n))))))))) few h = absurd (omega (arith, few))

no_bits : {X : Type 0} (n k : ℕ) (xs : List X) → bits_number n (drop k (map (λ _. false) xs)) ≡ 0
unfolding bits_number
no_bits zero k xs = refl
no_bits (suc n) zero [] = refl
no_bits (suc n) zero (x ∷ xs) = omega (arith, no_bits n zero xs)
no_bits (suc n) (suc k) [] = refl
no_bits (suc n) (suc k) (x ∷ xs) = no_bits (suc n) k xs

set_high : (n j : ℕ) (marks : List Bool) → n ≤ j → bits_number n (set marks j true) ≡ bits_number n marks
unfolding bits_number
set_high zero j marks high = refl
set_high (suc n) zero marks high = absurd (omega (arith, high))
set_high (suc n) (suc j) [] high = refl
set_high (suc n) (suc j) (mark ∷ marks) high =
    ap (λ later. (if mark then 1 else 0) + 2 * later) (set_high n j marks (omega (arith, high)))

set_low : (n j : ℕ) (marks : List Bool) → j < n → j < length marks → get_or marks j false ≡ false →
    bits_number n (set marks j true) ≡ bits_number n marks + 2 ^ j
unfolding bits_number
set_low zero j marks low inside off = absurd (omega (arith, low))
set_low (suc n) j [] low inside off = absurd (omega (arith, inside))
set_low (suc n) zero (true ∷ marks) low inside off = absurd (cc)
set_low (suc n) zero (false ∷ marks) low inside off = omega arith
set_low (suc n) (suc j) (mark ∷ marks) low inside off =
    omega (arith, set_low n j marks (omega (arith, low)) (omega (arith, inside)) off, pow-succ' 2 j)

module _ (marks : List Bool) (i : ℕ) (inside : i < length marks) (off : get_or marks i false ≡ false) where
  other_byte : (k : ℕ) → k ≢ i / 8 → bits_number 8 (drop (8 * k) (set marks i true)) ≡
      bits_number 8 (drop (8 * k) marks)
  other_byte k other = either (cases_lt i (8 * k))
    where
      either : (i < 8 * k) ⊎ (8 * k ≤ i) → bits_number 8 (drop (8 * k) (set marks i true)) ≡
          bits_number 8 (drop (8 * k) marks)
      either (inl before) = ap (bits_number 8) (drop-set-lt (8 * k) marks i true before)
      either (inr from) =
          let far : 8 ≤ i - 8 * k = late (cases_lt (i - 8 * k) 8) in
          let place : i ≡ 8 * k + (i - 8 * k) = omega (arith, from) in
          ap (λ n. bits_number 8 (drop (8 * k) (set marks n true))) place ∙
          ap (bits_number 8) (drop-set-add (8 * k) marks (i - 8 * k) true) ∙
          set_high 8 (i - 8 * k) (drop (8 * k) marks) far
        where
          late : (i - 8 * k < 8) ⊎ (8 ≤ i - 8 * k) → 8 ≤ i - 8 * k
          late (inl near) = absurd (other (omega (arith, near, from)))
          late (inr far) = far

  this_byte : bits_number 8 (drop (8 * (i / 8)) (set marks i true)) ≡
      bits_number 8 (drop (8 * (i / 8)) marks) + 2 ^ (i % 8)
  this_byte =
      let place : i ≡ 8 * (i / 8) + i % 8 = omega arith in
      let on : i % 8 < length (drop (8 * (i / 8)) marks) = omega (arith, inside, length-drop (8 * (i / 8)) marks) in
      let clear : get_or (drop (8 * (i / 8)) marks) (i % 8) false ≡ false =
      get_or-drop (8 * (i / 8)) marks (i % 8) false ∙
      ap (λ n. get_or marks n false) (sym place) ∙ off in
      ap (λ n. bits_number 8 (drop (8 * (i / 8)) (set marks n true))) place ∙
      ap (bits_number 8) (drop-set-add (8 * (i / 8)) marks (i % 8) true)
      ∙ set_low 8 (i % 8) (drop (8 * (i / 8)) marks) (omega arith) on clear

  -- the bit's byte, and that it has room for the bit
  pub byte_of_bit : get_or (bits_bytes marks) (i / 8) 0 ≡ bits_number 8 (drop (8 * (i / 8)) marks)
  unfolding bits_bytes
  byte_of_bit = get_or-map-range_with_len (λ k. bits_number 8 (drop (8 * k) marks)) 0
      ((length marks + 7) / 8) (i / 8) (i / 8) 0 (omega (arith, inside)) (omega arith)

  pub room_for_bit : get_or (bits_bytes marks) (i / 8) 0 + 2 ^ (i % 8) < 256
  room_for_bit = omega (
    arith,
    byte_of_bit,
    this_byte,
    below_byte 8 (drop (8 * (i / 8)) (set marks i true)) (omega arith),
  )

  -- the bytes where the bit is set
  pub bit_set : bits_bytes (set marks i true) ≡
      set (bits_bytes marks) (i / 8) (get_or (bits_bytes marks) (i / 8) 0 + 2 ^ (i % 8))
  unfolding bits_bytes
  bit_set = sym (fill_by_all after written count 0 long each)
    where
      after : ℕ → ℕ
      after k = bits_number 8 (drop (8 * k) (set marks i true))

      count : ℕ
      count = (length (set marks i true) + 7) / 8

      written : List ℕ
      written = set (bits_bytes marks) (i / 8) (get_or (bits_bytes marks) (i / 8) 0 + 2 ^ (i % 8))

      long : length written ≡ count
      long = length-set (bits_bytes marks) (i / 8)
          (get_or (bits_bytes marks) (i / 8) 0 + 2 ^ (i % 8)) ∙
          length-map-range_with_len (λ k. bits_number 8 (drop (8 * k) marks)) 0
          ((length marks + 7) / 8)
          ∙ ap (λ n. (n + 7) / 8) (sym (length-set marks i true))

      each : (k : ℕ) → k < count → get_or written k 0 ≡ after k
      each k few = either (cases_eq k (i / 8))
        where
          either : (k ≡ i / 8) ⊎ (k ≢ i / 8) → get_or written k 0 ≡ after k
          either (inl e) =
              ap (λ n. get_or written n 0) e ∙
              get_or-set_same (bits_bytes marks) (i / 8) _ 0
              (omega (
                arith,
                inside,
                length-map-range_with_len
                    (λ k. bits_number 8 (drop (8 * k) marks)) 0 ((length marks + 7) / 8),
              ))
              ∙ ap (λ n. n + 2 ^ (i % 8)) byte_of_bit ∙ sym this_byte ∙ ap after (sym e)
          either (inr other) =
              get_or-set_other (bits_bytes marks) (i / 8) k _ 0 other
              ∙ get_or-map-range_with_len (λ k. bits_number 8 (drop (8 * k) marks)) 0
              ((length marks + 7) / 8) k k 0 (omega (arith, few, length-set marks i true))
              (omega arith)
              ∙ sym (other_byte k other)

-- the bitmap of up to six cells is one byte
pub one_byte : (count : ℕ) → count ≤ 6 → replicate {A = ℕ} ((count + 9) / 8) 0 ≡ 0 ∷ []
one_byte count few =
    let one : (count + 9) / 8 ≡ 1 = omega (arith, few) in
    ap (λ (n : ℕ). replicate {A = ℕ} n 0) one

-- the bytes before any bit is set
pub zeros_first : (cells : List (Option Value)) → replicate ((length cells + 9) / 8) 0 ≡ bits_bytes (row_marks 0 cells)
unfolding bits_bytes marks_to
zeros_first cells = fill_by_all byte zeros count 0 long each
  where
    all : List (Option Value)
    all = None ∷ None ∷ cells

    marks : List Bool
    marks = map (λ _. false) all

    byte : ℕ → ℕ
    byte k = bits_number 8 (drop (8 * k) marks)

    zeros : List ℕ
    zeros = replicate ((length cells + 9) / 8) 0

    count : ℕ
    count = (length marks + 7) / 8

    counted : length marks ≡ length cells + 2
    counted = omega (arith, length-map cells (λ _. false))

    same : (length cells + 9) / 8 ≡ count
    same = omega (arith, counted)

    long : length zeros ≡ count
    long = length-replicate ((length cells + 9) / 8) 0 ∙ same

    each : (k : ℕ) → k < count → get_or zeros k 0 ≡ byte k
    each k few = get_or-replicate ((length cells + 9) / 8) k 0 0 (omega (arith, few, same)) ∙
        sym (no_bits 8 (8 * k) all)

pub length_bits : (marks : List Bool) → length (bits_bytes marks) ≡ (length marks + 7) / 8
unfolding bits_bytes
length_bits marks = length-map-range_with_len (λ k. bits_number 8 (drop (8 * k) marks)) 0 ((length marks + 7) / 8)

-- ROWS

set_behind : (front bits done : List ℕ) (at q v : ℕ) → at ≡ length front + q → q < length bits →
    set (front ++ (bits ++ done)) at v ≡ front ++ (set bits q v ++ done)
set_behind front bits done at q v place inside =
    let behind : at - length front ≡ q = omega (arith, place) in
    set-append_right front (bits ++ done) (length front) at v refl (omega (arith, place)) ∙
    ap (λ n. front ++ set (bits ++ done) n v) behind ∙
    ap (λ l. front ++ l) (set-append_left bits done q v inside)

get_behind : (front bits done : List ℕ) (at q : ℕ) → at ≡ length front + q → q < length bits →
    get_or (front ++ (bits ++ done)) at 0 ≡ get_or bits q 0
get_behind front bits done at q place inside =
    ap (λ n. get_or (front ++ (bits ++ done)) n 0) place ∙
    get_or-append-add front (bits ++ done) q 0 ∙ get_or_append_left bits done 0 q inside

module _ (front : List ℕ) (marks : List Bool) (done : List ℕ) (i bitmap : ℕ)
    (inside : i < length marks) (off : get_or marks i false ≡ false) (at : bitmap ≡
    length front) where
  byte_inside : i / 8 < length (bits_bytes marks)
  byte_inside = omega (arith, inside, length_bits marks)

  marked_row : (null : Bool) → marked null bitmap i (front ++ (bits_bytes marks ++ done)) ≡ front ++
      (bits_bytes (set marks i null) ++ done)
  marked_row true =
      set_behind front (bits_bytes marks) done (bitmap + i / 8) (i / 8) _ (omega (arith, at)) byte_inside
      ∙ ap (λ v. front ++ (set (bits_bytes marks) (i / 8) (v + 2 ^ (i % 8)) ++ done))
      (get_behind front (bits_bytes marks) done (bitmap + i / 8) (i / 8) (omega (arith, at))
      byte_inside)
      ∙ ap (λ l. front ++ (l ++ done)) (sym (bit_set marks i inside off))
  marked_row false =
      let same : set marks i false ≡ marks = ap (set marks i) (sym off) ∙ set-get_or marks i false in
      ap (λ l. front ++ (bits_bytes l ++ done)) (sym same)

  room_in_row : get_or (front ++ (bits_bytes marks ++ done)) (bitmap + i / 8) 0 + 2 ^ (i % 8) < 256
  room_in_row = omega (
    arith,
    get_behind front (bits_bytes marks) done (bitmap + i / 8) (i / 8) (omega (arith, at))
        byte_inside,
    room_for_bit marks i inside off,
  )

  place_in_row : bitmap + i / 8 < length (front ++ (bits_bytes marks ++ done))
  place_in_row = omega (
    arith,
    at,
    byte_inside,
    length-append front (bits_bytes marks ++ done),
    length-append (bits_bytes marks) done,
  )

-- What stands of a row: what was before, the bitmap of the cells that were passed, and their bytes.
pub record RowSoFar (front : List ℕ) (marks : List Bool) (left whole out : List ℕ) : Type 0 where
  pub done : List ℕ
  pub stands : out ≡ front ++ (bits_bytes marks ++ done)
  pub lefts : done ++ left ≡ whole

module _ (front : List ℕ) (cells : List (Option Value)) (place bitmap : ℕ) (left whole out : List ℕ)
    (at : bitmap ≡ length front) (inside : place < length cells)
    (so_far : RowSoFar front (row_marks place cells) left whole out) where
  number_inside : place + 2 < length (row_marks place cells)
  number_inside = omega (arith, inside, length_marks place cells)

  not_set : get_or (row_marks place cells) (place + 2) false ≡ false
  not_set =
      let two : place + 2 ≡ suc (suc place) = omega arith in
      ap (λ n. get_or (row_marks place cells) n false) two ∙ none_yet place cells

  pub bit_inside : bitmap + (place + 2) / 8 < length out
  bit_inside = omega (
    arith,
    ap length so_far.stands,
    place_in_row front (row_marks place cells) so_far.done (place + 2) bitmap number_inside
        not_set at,
  )

  pub bit_has_room : get_or out (bitmap + (place + 2) / 8) 0 + 2 ^ ((place + 2) % 8) < 256
  bit_has_room =
      let same : get_or out (bitmap + (place + 2) / 8) 0 ≡
      get_or (front ++ (bits_bytes (row_marks place cells) ++ so_far.done))
      (bitmap + (place + 2) / 8) 0 =
      ap (λ l. get_or l (bitmap + (place + 2) / 8) 0) so_far.stands in
      omega (
        arith,
        same,
        room_in_row front (row_marks place cells) so_far.done (place + 2) bitmap
            number_inside not_set at,
      )

  pub cell_passed : (cell : Option Value) (bytes later new : List ℕ) → cell ≡
      get_or cells place cell → left ≡ bytes ++ later → new ≡
      marked (holds_null cell) bitmap (place + 2) out ++ bytes
      → RowSoFar front (row_marks (place + 1) cells) later whole new
  cell_passed cell bytes later new is first put = record {
    done = so_far.done ++ bytes;
    stands = put ∙ ap (λ l. marked (holds_null cell) bitmap (place + 2) l ++ bytes) so_far.stands
        ∙ ap (λ l. l ++ bytes) (marked_row front (row_marks place cells) so_far.done (place + 2)
        bitmap number_inside not_set at (holds_null cell))
        ∙ append_assoc front (bits_bytes
        (set (row_marks place cells) (place + 2) (holds_null cell)) ++ so_far.done) bytes
        ∙ ap (λ l. front ++ l) (append_assoc
        (bits_bytes (set (row_marks place cells) (place + 2) (holds_null cell))) so_far.done
        bytes)
        ∙ ap (λ l. front ++ (bits_bytes l ++ (so_far.done ++ bytes))) marks;
    lefts = append_assoc so_far.done bytes later ∙ ap (λ l. so_far.done ++ l) (sym first) ∙ so_far.lefts;
  }
    where
      two : place + 2 ≡ suc (suc place)
      two = omega arith

      one : place + 1 ≡ suc place
      one = omega arith

      marks : set (row_marks place cells) (place + 2) (holds_null cell) ≡ row_marks (place + 1) cells
      marks =
          ap (λ n. set (row_marks place cells) n (holds_null cell)) two
          ∙ ap (λ (l : List Bool). false ∷ false ∷
          l) (ap (λ x. set (marks_to place cells) place (holds_null x)) is ∙
          sym (one_passed place cells cell inside) ∙ ap (λ n. marks_to n cells) (sym one))

-- nothing was passed yet
pub none_passed : {X : Type 0} (held : X → Option Value) (cells : List X) (out whole : List ℕ)
    (bitmap : ℕ) → drop bitmap out ≡ replicate ((length cells + 9) / 8) 0
    → RowSoFar (take bitmap out) (row_marks 0 (map held cells)) whole whole out
none_passed held cells out whole bitmap clear = record {
  done = [];
  stands = sym (take-append-drop bitmap out)
      ∙ ap (λ l. take bitmap out ++ l) (clear ∙
      ap (λ n. replicate ((n + 9) / 8) 0) (sym (length-map cells held)) ∙
      zeros_first (map held cells) ∙
      sym (append-nil (bits_bytes (row_marks 0 (map held cells)))));
  lefts = refl;
}

-- all were passed
pub row_passed : (front out whole left : List ℕ) (cells : List (Option Value)) (place : ℕ) →
    length cells ≤ place → left ≡ [] → RowSoFar front (row_marks place cells) left whole out
    → out ≡ front ++ (bits_bytes (false ∷ false ∷ map holds_null cells) ++ whole)
row_passed front out whole left cells place all none so_far =
    so_far.stands ∙ ap (λ (l : List Bool). front ++ (bits_bytes (false ∷ false ∷ l) ++ so_far.done))
    (all_passed place cells all)
    ∙ ap (λ l. front ++ (bits_bytes (false ∷ false ∷ map holds_null cells) ++ l))
    (sym (append-nil so_far.done) ∙ ap (λ l. so_far.done ++ l) (sym none) ∙ so_far.lefts)
