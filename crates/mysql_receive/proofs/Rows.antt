-- Rows of a bulk: each takes a byte or more, so they end, in one way.
use Rattle.std.proofs.Common.{◌≡◌, ℕ, zero, suc, ◌+◌, ◌<◌, ◌≤◌, ◌⊎◌, Bool, true, false, List, [], ◌∷◌, ◌++◌, length}
use Rattle.std.proofs.Common.{take, Option, Some, None, Result, Ok, Err, refl, sym, ap, subst, ◌∙◌, arith, inl, inr}
use Rattle.std.specs.Prelude.{◌==◌, if◌then◌else◌, nat_lt, nat_le, not}
use Rattle.std.specs.Int.{w8, w16, w32, w64}
use Rattle.std.specs.Option.{ok_or}
use Rattle.std.proofs.lemmas.List.{length-drop}
use Rattle.mysql_buf.specs.FirstBytes.{first-some}
use Rattle.mysql_wire.specs.Reading as buffer
use Rattle.mysql_wire.specs.Forms as form
use Rattle.mysql_wire.specs.Wire.{◌>>=◌, or_end}
use Rattle.mysql_wire.specs.WireError.{WireError}
use Rattle.mysql_cells.specs.declared.cell_form.CellForm.{CellForm}
use Rattle.mysql_cells.specs.declared.cell_form.CellForm.TheVariants as cell_form
use Rattle.mysql_values.specs.Cells.{cell_at, value_at, number_value_at, form_of, whole_value, date_of, time_of}
use Rattle.mysql_values.specs.Cells.{is_float}
use Rattle.mysql_values.specs.Value.{Value}
use Rattle.mysql_values.specs.Value.TheVariants as value
use Rattle.mysql_values.specs.Values.{content_of}
use Rattle.mysql_values.specs.Content.{Content}
use Rattle.mysql_values.specs.Content.TheVariants as content
use Rattle.mysql_receive.specs.declared.fault.StreamFault.{StreamFault}
use Rattle.mysql_receive.specs.declared.fault.StreamFault.TheVariants.{Float, Indicator, BadBulk}
use Rattle.mysql_receive.specs.declared.param_type.ParamType.{ParamType}
use Rattle.mysql_receive.specs.Fields.{must, number_or}
use Rattle.mysql_receive.specs.Layout.{Types}
use Rattle.mysql_receive.specs.Reading.{Set, or_cell_fault, content_at, column_at, columns_at, row_at, RowsAt}
use Rattle.mysql_receive.specs.Reading.{FaultyRow}
use Rattle.mysql_receive.specs.declared.read_error.ReadError.{ReadError}
use Rattle.mysql_receive.specs.declared.read_error.ReadError.TheVariants as read_error
use Rattle.mysql_receive.specs.Views.{Fails, Finds}
use Rattle.mysql_receive.proofs.Binds.{bind_ok}

-- ---- what is left of the bytes

-- the first n bytes are taken
first_left : {X : Type 0} (n : ℕ) (value : List ℕ → X) (bytes : List ℕ) (p : X × List ℕ) →
    buffer.first n value bytes ≡ Some p → length p.1 + n ≡ length bytes
first_left {X = X} n value bytes p e =
    let h = first-some n value bytes p e in
    omega (arith, h.0, ap (λ (q : X × List ℕ). length q.1) h.1, length-drop n bytes)

end_is : {X : Type 0} (r : Option X) (x : X) → or_end r ≡ Ok x → r ≡ Some x
end_is (Some y) x e = cc
end_is None x e = absurd cc

some_is : {X F : Type 0} (r : Option X) (f : F) (x : X) → ok_or r f ≡ Ok x → r ≡ Some x
some_is (Some y) f x e = cc
some_is None f x e = absurd cc

cell_is : {X : Type 0} (short : StreamFault) (r : Result X WireError) (x : X) → or_cell_fault short r ≡ Ok x → r ≡ Ok x
cell_is short (Ok y) x e = cc
cell_is short (Err d) x e = absurd cc

abbrev read : {X F : Type 0} → X × List ℕ → Result (X × List ℕ) F
read p = Ok p

same_left : {X F : Type 0} (p q : X × List ℕ) → read {F = F} p ≡ read q → p.1 ≡ q.1
same_left p q e = let same : p ≡ q = cc in ap (λ x. x.1) same

then_left : {X Y : Type 0} (n : ℕ) (r : Option (X × List ℕ)) (next : X → List ℕ →
    Option (Y × List ℕ)) (p : Y × List ℕ) → ((q : X × List ℕ) → r ≡ Some q → length q.1 ≤ n)
    → ((x : X) (bytes : List ℕ) → next x bytes ≡ Some p → length p.1 ≤ length bytes) →
    buffer.then_at r next ≡ Some p → length p.1 ≤ n
then_left n None next p one two e = absurd cc
then_left n (Some q) next p one two e = omega (arith, one q refl, two q.0 q.1 e)

either : {P : Type 0} (t : Bool) (x y r : Option (ℕ × List ℕ)) → (x ≡ r → P) → (y ≡ r → P) →
    (if t then x else y) ≡ r → P
either true x y r p q e = p e
either false x y r p q e = q e

little_left : (n : ℕ) (bytes : List ℕ) (p : ℕ × List ℕ) → buffer.little_at n bytes ≡ Some p → length p.1 ≤ length bytes
little_left n bytes p e = omega (arith, first_left n _ bytes p e)

lenenc_left : (bytes : List ℕ) (p : ℕ × List ℕ) → buffer.lenenc_int_at bytes ≡ Some p → length p.1 ≤ length bytes
lenenc_left [] p e = absurd cc
lenenc_left (b ∷ bs) p e =
    let here : (n : ℕ) → Some (n, bs) ≡ Some p → length p.1 ≤ length (b ∷ bs) =
    λ n h. let same : (n, bs) ≡ p = cc in
    omega (arith, ap (λ (q : ℕ × List ℕ). length q.1) same) in
    let further : (n : ℕ) → buffer.little_at n bs ≡ Some p → length p.1 ≤ length (b ∷ bs) =
    λ n h. omega (arith, little_left n bs p h) in
    either (nat_lt b 251) (Some (b, bs))
    (if b == 252 then buffer.little_at 2 bs else if b == 253 then buffer.little_at 3 bs else
    if b == 254 then buffer.little_at 8 bs else Some (0, bs)) (Some p) (here b)
    (either (b == 252) (buffer.little_at 2 bs)
    (if b == 253 then buffer.little_at 3 bs else if b == 254 then buffer.little_at 8 bs else
    Some (0, bs)) (Some p) (further 2)
    (either (b == 253) (buffer.little_at 3 bs)
    (if b == 254 then buffer.little_at 8 bs else Some (0, bs)) (Some p) (further 3)
    (either (b == 254) (buffer.little_at 8 bs) (Some (0, bs)) (Some p) (further 8) (here 0)))) e

bytes_left : (p : List ℕ × List ℕ) (n : ℕ) (bytes : List ℕ) → buffer.bytes_at n bytes ≡ Some p →
    length p.1 ≤ length bytes
bytes_left p n bytes e = omega (arith, first_left n (take n) bytes p e)

number_left : (n : ℕ) (made : ℕ → Value) (bytes : List ℕ) (p : Value × List ℕ) →
    number_value_at n made bytes ≡ Ok p → length p.1 ≤ length bytes
number_left n made bytes p e =
    let a = bind_ok (form.fixed_number_at n bytes) (λ x. Ok (made x.0, x.1)) p e in
    omega (
      arith,
      little_left n bytes a.0 (end_is (buffer.little_at n bytes) a.0 a.1),
      ap length (same_left {F = WireError} (made a.0.0, a.0.1) p a.2),
    )

counted_left : (r : Option (List ℕ × List ℕ)) (made : List ℕ → Value) (bytes : List ℕ) (p : Value ×
    List ℕ) → ((q : List ℕ × List ℕ) → r ≡ Some q → length q.1 ≤ length bytes)
    → (or_end r >>= λ held. Ok (made held.0, held.1)) ≡ Ok p → length p.1 ≤ length bytes
counted_left r made bytes p fewer e =
    let a = bind_ok (or_end r) (λ held. Ok (made held.0, held.1)) p e in
    omega (arith, fewer a.0 (end_is r a.0 a.1), ap length (same_left {F = WireError} (made a.0.0, a.0.1) p a.2))

lenenc_str_left : (bytes : List ℕ) (q : List ℕ × List ℕ) → buffer.lenenc_str_at bytes ≡ Some q →
    length q.1 ≤ length bytes
lenenc_str_left bytes q e =
    then_left (length bytes) (buffer.lenenc_int_at bytes) buffer.bytes_at q (lenenc_left bytes)
    (bytes_left q) e

u8_str_left : (bytes : List ℕ) (q : List ℕ × List ℕ) → buffer.u8_str_at bytes ≡ Some q → length q.1 ≤ length bytes
u8_str_left bytes q e = then_left (length bytes) (buffer.little_at 1 bytes) buffer.bytes_at q
    (little_left 1 bytes) (bytes_left q) e

value_left : (f : CellForm) (unsigned : Bool) (bytes : List ℕ) (p : Value × List ℕ) →
    value_at f unsigned bytes ≡ Ok p → length p.1 ≤ length bytes
value_left cell_form.Nothing unsigned bytes p e =
    omega (arith, ap length (same_left {F = WireError} (value.NULL, bytes) p e))
value_left cell_form.Whole1 unsigned bytes p e = number_left 1 (whole_value w8 unsigned) bytes p e
value_left cell_form.Whole2 unsigned bytes p e = number_left 2 (whole_value w16 unsigned) bytes p e
value_left cell_form.Whole4 unsigned bytes p e = number_left 4 (whole_value w32 unsigned) bytes p e
value_left cell_form.Whole8 unsigned bytes p e = number_left 8 (whole_value w64 unsigned) bytes p e
value_left cell_form.FloatBits unsigned bytes p e = number_left 4 (λ n. value.Float n) bytes p e
value_left cell_form.DoubleBits unsigned bytes p e = number_left 8 (λ n. value.Double n) bytes p e
value_left cell_form.Counted unsigned bytes p e =
    counted_left (buffer.lenenc_str_at bytes) (λ held. value.Bytes held) bytes p
    (lenenc_str_left bytes) e
value_left cell_form.DateAndTime unsigned bytes p e =
    counted_left (buffer.u8_str_at bytes) date_of bytes p (u8_str_left bytes) e
value_left cell_form.Duration unsigned bytes p e =
    counted_left (buffer.u8_str_at bytes) time_of bytes p (u8_str_left bytes) e
value_left cell_form.Without unsigned bytes p e = absurd cc

cell_left : (t : ℕ) (unsigned : Bool) (bytes : List ℕ) (p : Value × List ℕ) →
    cell_at t unsigned bytes ≡ Ok p → length p.1 ≤ length bytes
unfolding cell_at
cell_left t unsigned bytes p e = value_left (form_of t) unsigned bytes p e

content_left : (short : StreamFault) (t : ParamType) (bytes : List ℕ) (p : Content × List ℕ) →
    content_at short t bytes ≡ Ok p → length p.1 ≤ length bytes
unfolding content_at
content_left short t bytes p e =
    let a = bind_ok (must Float (not (is_float t.number)))
    (λ _. or_cell_fault short (cell_at t.number t.unsigned bytes) >>= λ v. ok_or
    (content_of v.0) Float >>= λ meant. Ok (meant, v.1)) p e in
    let b = bind_ok (or_cell_fault short (cell_at t.number t.unsigned bytes))
    (λ v. ok_or (content_of v.0) Float >>= λ meant. Ok (meant, v.1)) p a.2 in
    let d = bind_ok (ok_or (content_of b.0.0) Float) (λ meant. Ok (meant, b.0.1)) p b.2 in
    omega (
      arith,
      cell_left t.number t.unsigned bytes b.0
          (cell_is short (cell_at t.number t.unsigned bytes) b.0 b.1),
      ap length (same_left {F = StreamFault} (d.0, b.0.1) p d.2),
    )

column_left : (t : ParamType) (bytes : List ℕ) (p : Content × List ℕ) → column_at t bytes ≡ Ok p →
    length p.1 < length bytes
column_left t bytes p e =
    let a = bind_ok (number_or BadBulk 1 bytes)
    (λ indicator. must Indicator (nat_le indicator.0 1) >>= λ _. if indicator.0 == 1 then Ok
    (content.Null, indicator.1) else content_at BadBulk t indicator.1) p e in
    let b = bind_ok (must Indicator (nat_le a.0.0 1))
    (λ _. if a.0.0 == 1 then Ok (content.Null, a.0.1) else content_at BadBulk t a.0.1) p a.2 in
    omega (
      arith,
      first_left 1 _ bytes a.0 (some_is (buffer.little_at 1 bytes) BadBulk a.0 a.1),
      by (a.0.0 == 1) a.0.1 b.2,
    )
  where
    by : (null : Bool) (rest : List ℕ) →
        (if null then Ok (content.Null, rest) else content_at BadBulk t rest) ≡ Ok p →
        length p.1 ≤ length rest
    by true rest h = omega (arith, ap length (same_left {F = StreamFault} (content.Null, rest) p h))
    by false rest h = content_left BadBulk t rest p h

columns_left : (types : Types) (bytes : List ℕ) (p : Set × List ℕ) → columns_at types bytes ≡ Ok p →
    length p.1 ≤ length bytes
unfolding columns_at
columns_left [] bytes p e = omega (arith, ap length (same_left {F = StreamFault} ([], bytes) p e))
columns_left (t ∷ types) bytes p e =
    let a = bind_ok (column_at t bytes)
    (λ first. columns_at types first.1 >>= λ others. Ok (first.0 ∷ others.0, others.1)) p e in
    let b = bind_ok (columns_at types a.0.1) (λ others. Ok (a.0.0 ∷ others.0, others.1)) p a.2 in
    omega (
      arith,
      column_left t bytes a.0 a.1,
      columns_left types a.0.1 b.0 b.1,
      ap length (same_left {F = StreamFault} (a.0.0 ∷ b.0.0, b.0.1) p b.2),
    )

-- a row takes a byte or more
pub row_left : (types : Types) (bytes : List ℕ) (p : Set × List ℕ) → row_at types bytes ≡ Ok p →
    length p.1 < length bytes
unfolding columns_at
row_left [] bytes p e = absurd cc
row_left (t ∷ types) bytes p e =
    let a = bind_ok (column_at t bytes)
    (λ first. columns_at types first.1 >>= λ others. Ok (first.0 ∷ others.0, others.1)) p e in
    let b = bind_ok (columns_at types a.0.1) (λ others. Ok (a.0.0 ∷ others.0, others.1)) p a.2 in
    omega (
      arith,
      column_left t bytes a.0 a.1,
      columns_left types a.0.1 b.0 b.1,
      ap length (same_left {F = StreamFault} (a.0.0 ∷ b.0.0, b.0.1) p b.2),
    )

-- ---- one row more

pub rows_more : (types : Types) (bytes : List ℕ) (sets : List Set) (rest after : List ℕ)
    (set : Set) → RowsAt types bytes sets rest → row_at types rest ≡ Ok (set, after) →
    RowsAt types bytes (sets ++ set ∷ []) after
rows_more types bytes [] rest after set so_far next = (after, ap (λ (l : List ℕ). row_at types l) so_far ∙ next, refl)
rows_more types bytes (x ∷ sets) rest after set so_far next =
    (so_far.0, so_far.1, rows_more types so_far.0 sets rest after set so_far.2 next)

-- the first row that doesn't read
row_fails : (types : Types) (bytes : List ℕ) (sets : List Set) (rest : List ℕ) (f : StreamFault) →
    RowsAt types bytes sets rest → false ≡ (length rest == 0) → row_at types rest ≡ Err f →
    FaultyRow types bytes f
row_fails types bytes sets [] f so_far some h = absurd cc
row_fails types bytes sets (b ∷ rest) f so_far some h =
    record { before = sets; first = b; rest = rest; rows = so_far; fault = h }

-- a row is refused, or memory runs out over it
pub row_refused : {X : Type 0} (view : X → List Set) (Reads : List Set → Type 0) (e : ReadError)
    (types : Types) (bytes : List ℕ) (sets : List Set) (rest : List ℕ) →
    RowsAt types bytes sets rest → false ≡ (length rest == 0)
    → Fails e (row_at types rest) → Finds view (Err e) Reads (FaultyRow types bytes)
row_refused view Reads read_error.Memory types bytes sets rest so_far some h = tt
row_refused view Reads (read_error.Fault f) types bytes sets rest so_far some h =
    row_fails types bytes sets rest f so_far some h

-- ---- rows read, or one of them is faulty

abbrev Found : Types → List ℕ → Type 0
Found types bytes = ((sets : List Set) × RowsAt types bytes sets []) ⊎ ((f : StreamFault) × FaultyRow types bytes f)

behind_row : (types : Types) (bytes : List ℕ) (p : Set × List ℕ) → row_at types bytes ≡ Ok p →
    Found types p.1 → Found types bytes
behind_row types bytes p e (inl h) = inl (p.0 ∷ h.0, (p.1, e, h.1))
behind_row types bytes p e (inr h) =
    inr (
      h.0,
      record {
        before = p.0 ∷ h.1.before;
        first = h.1.first;
        rest = h.1.rest;
        rows =
            (p.1, e, h.1.rows);
        fault = h.1.fault;
      },
    )

pub one_or : {A F : Type 0} (r : Result A F) → ((x : A) × (r ≡ Ok x)) ⊎ ((f : F) × (r ≡ Err f))
one_or (Ok x) = inl (x, refl)
one_or (Err f) = inr (f, refl)

rows_within : (types : Types) (n : ℕ) (bytes : List ℕ) → length bytes ≤ n → Found types bytes
rows_within types n [] fits = inl ([], refl)
rows_within types zero (b ∷ bytes) fits = absurd (omega arith)
rows_within types (suc n) (b ∷ bytes) fits =
    elim (one_or (row_at types (b ∷ bytes))) [
      | inl h ↦ behind_row types (b ∷
          bytes) h.0 h.1 (rows_within types n h.0.1
          (omega (arith, row_left types (b ∷ bytes) h.0 h.1)))
      | inr h ↦ inr (h.0, record { before = []; first = b; rest = bytes; rows = refl; fault = h.1 })
    ]

pub rows_or : (types : Types) (bytes : List ℕ) → Found types bytes
rows_or types bytes = rows_within types (length bytes) bytes (omega arith)

-- ---- in one way

same_row : {F : Type 0} (r : Result (Set × List ℕ) F) (p q : Set × List ℕ) → r ≡ Ok p → r ≡ Ok q → p ≡ q
same_row r p q e h = cc

-- no row stands where no byte does
no_row : (types : Types) (bytes : List ℕ) (p : Set × List ℕ) → bytes ≡ [] → row_at types bytes ≡ Ok p → ⊥
no_row types bytes p none e = omega (arith, row_left types bytes p e, ap length none)

module _ (types : Types) where
  pub rows_one : (xs ys : List Set) (bytes : List ℕ) → RowsAt types bytes xs [] → RowsAt types bytes ys [] → xs ≡ ys
  rows_one [] [] bytes p q = refl
  rows_one [] (y ∷ ys) bytes p q = absurd (no_row types bytes (y, q.0) p q.1)
  rows_one (x ∷ xs) [] bytes p q = absurd (no_row types bytes (x, p.0) q p.1)
  rows_one (x ∷ xs) (y ∷ ys) bytes p q =
      let same = same_row (row_at types bytes) (x, p.0) (y, q.0) p.1 q.1 in
      let first : x ≡ y = ap (λ r. r.0) same in
      let others : xs ≡ ys = rows_one xs ys p.0 p.2
      (subst (λ (l : List ℕ). RowsAt types l ys []) (sym (ap (λ r. r.1) same)) q.2) in cc

  pub rows_not_both : (xs before : List Set) (bytes rest : List ℕ) (b : ℕ) (f : StreamFault) →
      RowsAt types bytes xs [] → RowsAt types bytes before (b ∷ rest) → row_at types (b ∷ rest) ≡
      Err f → ⊥
  rows_not_both [] [] bytes rest b f p q h = let e : [] ≡ b ∷ rest = sym p ∙ q in absurd cc
  rows_not_both [] (y ∷ ys) bytes rest b f p q h = no_row types bytes (y, q.0) p q.1
  rows_not_both (x ∷ xs) [] bytes rest b f p q h = let e : row_at types (b ∷ rest) ≡ Ok (x, p.0) =
      ap (λ (l : List ℕ). row_at types l) (sym q) ∙ p.1 in absurd cc
  rows_not_both (x ∷ xs) (y ∷ ys) bytes rest b f p q h =
      let same = same_row (row_at types bytes) (x, p.0) (y, q.0) p.1 q.1 in
      rows_not_both xs ys p.0 rest b f p.2
      (subst (λ (l : List ℕ). RowsAt types l ys (b ∷ rest)) (sym (ap (λ r. r.1) same)) q.2) h

  fault_at : (xs ys : List Set) (bytes left other : List ℕ) (f g : StreamFault) →
      RowsAt types bytes xs left → row_at types left ≡ Err f → RowsAt types bytes ys other →
      row_at types other ≡ Err g → f ≡ g
  fault_at [] [] bytes left other f g p h q k =
      let one : row_at types bytes ≡ Err f = ap (λ (l : List ℕ). row_at types l) p ∙ h in
      let two : row_at types bytes ≡ Err g = ap (λ (l : List ℕ). row_at types l) q ∙ k in cc
  fault_at [] (y ∷ ys) bytes left other f g p h q k =
      let one : row_at types bytes ≡ Err f = ap (λ (l : List ℕ). row_at types l) p ∙ h in
      let two : row_at types bytes ≡ Ok (y, q.0) = q.1 in absurd cc
  fault_at (x ∷ xs) [] bytes left other f g p h q k =
      let one : row_at types bytes ≡ Ok (x, p.0) = p.1 in
      let two : row_at types bytes ≡ Err g = ap (λ (l : List ℕ). row_at types l) q ∙ k in absurd cc
  fault_at (x ∷ xs) (y ∷ ys) bytes left other f g p h q k =
      let same = same_row (row_at types bytes) (x, p.0) (y, q.0) p.1 q.1 in
      fault_at xs ys p.0 left other f g p.2 h
      (subst (λ (l : List ℕ). RowsAt types l ys other) (sym (ap (λ r. r.1) same)) q.2) k

  pub fault_one : (bytes : List ℕ) (f g : StreamFault) → FaultyRow types bytes f → FaultyRow types bytes g → f ≡ g
  fault_one bytes f g p q =
      fault_at p.before q.before bytes (p.first ∷ p.rest) (q.first ∷ q.rest) f g p.rows p.fault
      q.rows q.fault
