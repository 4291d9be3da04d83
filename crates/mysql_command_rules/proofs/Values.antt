-- Cells: which bytes are the whole cell of a type, as one is read and as it is laid out.
use Rattle.std.proofs.Common.{◌≡◌, inl, inr, ℕ, Bool, true, List, [], ◌++◌, Option, Some, None, Result, Ok, Err, refl}
use Rattle.std.proofs.Common.{sym, ap, ◌∙◌, subst}
use Rattle.std.specs.Prelude.{◌==◌, not}
use Rattle.std.specs.Option.{ok_or}
use Rattle.std.specs.Int.{w8, w16, w32, w64}
use Rattle.std.proofs.lemmas.Bool.{eqb-true, false_from_ne_true, or_cases, not_from_false}
use Rattle.byteorder.specs.Endian.{little_bytes}
use Rattle.mysql_wire.specs.Bytes.{AreBytes}
use Rattle.mysql_buf.specs.NumberLaws.{little-reads_back}
use Rattle.mysql_wire.specs.Reading as buffer
use Rattle.mysql_wire.specs.Forms as form
use Rattle.mysql_wire.specs.Wire.{◌>>=◌, or_end}
use Rattle.mysql_wire.specs.WireError.{WireError}
use Rattle.mysql_cells.specs.declared.cell_form.CellForm.{CellForm}
use Rattle.mysql_cells.specs.declared.cell_form.CellForm.TheVariants as cell_form
use Rattle.mysql_values.specs.Cells.{cell_at, value_at, number_value_at, form_of, whole_value, date_of, time_of}
use Rattle.mysql_values.specs.Cells.{is_float}
use Rattle.mysql_values.specs.Value.{Value}
use Rattle.mysql_values.specs.Value.TheVariants as value
use Rattle.mysql_values.specs.Values.{content_of}
use Rattle.mysql_values.specs.Content.{Content}
use Rattle.mysql_receive.specs.declared.fault.StreamFault.{StreamFault}
use Rattle.mysql_receive.specs.declared.fault.StreamFault.TheVariants.{Float}
use Rattle.mysql_receive.specs.declared.param_type.ParamType.{ParamType}
use Rattle.mysql_receive.specs.Fields.{must}
use Rattle.mysql_receive.specs.Reading.{or_cell_fault, content_at}
use Rattle.mysql_command_rules.specs.Cells.{IsNumber, IsCounted, AreFields, IsCell, IsContent}
use Rattle.mysql_command_rules.proofs.Binds.{bind_ok, some_is, end_is}
use Rattle.mysql_command_rules.proofs.Numbers.{Taken, taken_as, little_taken}
use Rattle.mysql_command_rules.proofs.Lengths.{text_taken, text_given, short_taken, short_given}

-- ---- values

number_taken : (n : ℕ) (made : ℕ → Value) (bytes : List ℕ) (p : Value × List ℕ) → AreBytes bytes →
    number_value_at n made bytes ≡ Ok p → Taken (IsNumber n made) bytes p
number_taken n made bytes p are e =
    let a = bind_ok (form.fixed_number_at n bytes) (λ x. Ok (made x.0, x.1)) p e in
    let taken = little_taken n bytes a.0 are (end_is (buffer.little_at n bytes) a.0 a.1) in
    let same : (made a.0.0, a.0.1) ≡ p = cc in
    taken_as (IsNumber n made) bytes (
      made a.0.0,
      a.0.1,
    ) p same (record {
      part = little_bytes n a.0.0;
      joined = taken.1;
      is =
          (a.0.0, taken.0, refl, refl);
    })

number_given : (n : ℕ) (made : ℕ → Value) (cell : List ℕ) (held : Value) (rest : List ℕ) →
    IsNumber n made cell held → number_value_at n made (cell ++ rest) ≡ Ok (held, rest)
number_given n made cell held rest is =
    let back : number_value_at n made (little_bytes n is.0 ++ rest) ≡ Ok (made is.0, rest) =
    ap (λ (r : Option (ℕ × List ℕ)). or_end r >>= λ x. Ok (made x.0, x.1))
    (little-reads_back n is.0 rest is.1) in
    ap (λ (l : List ℕ). number_value_at n made (l ++ rest)) is.2 ∙ back ∙ ap (λ (v : Value). Ok (v, rest)) (sym is.3)

-- what is made of bytes that were counted
abbrev made_at : (List ℕ → Value) → Option (List ℕ × List ℕ) → Result (Value × List ℕ) WireError
made_at made r = or_end r >>= λ held. Ok (made held.0, held.1)

counted_by : (r : Option (List ℕ × List ℕ)) (made : List ℕ → Value) (p : Value × List ℕ) →
    made_at made r ≡ Ok p → (q : List ℕ × List ℕ) × (r ≡ Some q) × (p ≡ (made q.0, q.1))
counted_by r made p e =
    let a = bind_ok (or_end r) (λ held. Ok (made held.0, held.1)) p e in
    (a.0, end_is r a.0 a.1, cc)

text_value_taken : (bytes : List ℕ) (p : Value × List ℕ) → AreBytes bytes →
    made_at (λ held. value.Bytes held) (buffer.lenenc_str_at bytes) ≡ Ok p → Taken IsCounted bytes p
text_value_taken bytes p are e =
    let a = counted_by (buffer.lenenc_str_at bytes) (λ held. value.Bytes held) p e in
    let taken = text_taken bytes a.0 are a.1 in
    taken_as IsCounted bytes (value.Bytes a.0.0, a.0.1) p (sym a.2)
    (record {
      part = taken.part;
      joined = taken.joined;
      is =
          (taken.is.count, a.0.0, taken.is.counts, taken.is.spelled, refl);
    })

text_value_given : (cell : List ℕ) (held : Value) (rest : List ℕ) → IsCounted cell held →
    made_at (λ held. value.Bytes held) (buffer.lenenc_str_at (cell ++ rest)) ≡ Ok (held, rest)
text_value_given cell held rest is =
    ap (λ (l : List ℕ). made_at (λ held. value.Bytes held) (buffer.lenenc_str_at (l ++ rest))) is.3
    ∙ ap (λ (r : Option (List ℕ × List ℕ)). made_at (λ held. value.Bytes held) r) (text_given is.0 is.1 rest is.2)
    ∙ ap (λ (v : Value). Ok (v, rest)) (sym is.4)

fields_taken : (made : List ℕ → Value) (bytes : List ℕ) (p : Value × List ℕ) → AreBytes bytes →
    made_at made (buffer.u8_str_at bytes) ≡ Ok p → Taken (AreFields made) bytes p
fields_taken made bytes p are e =
    let a = counted_by (buffer.u8_str_at bytes) made p e in
    let taken = short_taken bytes a.0 are a.1 in
    taken_as (AreFields made) bytes (made a.0.0, a.0.1) p (sym a.2)
    (record {
      part = taken.part;
      joined = taken.joined;
      is = (
        a.0.0,
        taken.is.counts.0,
        taken.is.spelled ∙
            ap (λ (l : List ℕ). l ++ a.0.0) taken.is.counts.1,
        refl,
      );
    })

fields_given : (made : List ℕ → Value) (cell : List ℕ) (held : Value) (rest : List ℕ) →
    AreFields made cell held → made_at made (buffer.u8_str_at (cell ++ rest)) ≡ Ok (held, rest)
fields_given made cell held rest is =
    ap (λ (l : List ℕ). made_at made (buffer.u8_str_at (l ++ rest))) is.2
    ∙ ap (λ (r : Option (List ℕ × List ℕ)). made_at made r) (short_given is.0 rest)
    ∙ ap (λ (v : Value). Ok (v, rest)) (sym is.3)

nothing_taken : (unsigned : Bool) (bytes : List ℕ) (p : Value × List ℕ) →
    value_at cell_form.Nothing unsigned bytes ≡ Ok p →
    Taken (IsCell cell_form.Nothing unsigned) bytes p
nothing_taken unsigned bytes p e =
    let same : (value.NULL, bytes) ≡ p = cc in
    taken_as (IsCell cell_form.Nothing unsigned) bytes (
      value.NULL,
      bytes,
    ) p same (record { part = []; joined = refl; is = (refl, refl) })

value_taken : (f : CellForm) (unsigned : Bool) (bytes : List ℕ) (p : Value × List ℕ) →
    AreBytes bytes → value_at f unsigned bytes ≡ Ok p → Taken (IsCell f unsigned) bytes p
value_taken cell_form.Nothing unsigned bytes p are e = nothing_taken unsigned bytes p e
value_taken cell_form.Whole1 unsigned bytes p are e = number_taken 1 (whole_value w8 unsigned) bytes p are e
value_taken cell_form.Whole2 unsigned bytes p are e = number_taken 2 (whole_value w16 unsigned) bytes p are e
value_taken cell_form.Whole4 unsigned bytes p are e = number_taken 4 (whole_value w32 unsigned) bytes p are e
value_taken cell_form.Whole8 unsigned bytes p are e = number_taken 8 (whole_value w64 unsigned) bytes p are e
value_taken cell_form.FloatBits unsigned bytes p are e = number_taken 4 (λ n. value.Float n) bytes p are e
value_taken cell_form.DoubleBits unsigned bytes p are e = number_taken 8 (λ n. value.Double n) bytes p are e
value_taken cell_form.Counted unsigned bytes p are e = text_value_taken bytes p are e
value_taken cell_form.DateAndTime unsigned bytes p are e = fields_taken date_of bytes p are e
value_taken cell_form.Duration unsigned bytes p are e = fields_taken time_of bytes p are e
value_taken cell_form.Without unsigned bytes p are e = absurd cc

value_given : (f : CellForm) (unsigned : Bool) (cell : List ℕ) (held : Value) (rest : List ℕ) →
    IsCell f unsigned cell held → value_at f unsigned (cell ++ rest) ≡ Ok (held, rest)
value_given cell_form.Nothing unsigned cell held rest is =
    ap (λ (l : List ℕ). value_at cell_form.Nothing unsigned (l ++ rest)) is.0 ∙
    ap (λ (v : Value). Ok (v, rest)) (sym is.1)
value_given cell_form.Whole1 unsigned cell held rest is = number_given 1 (whole_value w8 unsigned) cell held rest is
value_given cell_form.Whole2 unsigned cell held rest is = number_given 2 (whole_value w16 unsigned) cell held rest is
value_given cell_form.Whole4 unsigned cell held rest is = number_given 4 (whole_value w32 unsigned) cell held rest is
value_given cell_form.Whole8 unsigned cell held rest is = number_given 8 (whole_value w64 unsigned) cell held rest is
value_given cell_form.FloatBits unsigned cell held rest is = number_given 4 (λ n. value.Float n) cell held rest is
value_given cell_form.DoubleBits unsigned cell held rest is = number_given 8 (λ n. value.Double n) cell held rest is
value_given cell_form.Counted unsigned cell held rest is = text_value_given cell held rest is
value_given cell_form.DateAndTime unsigned cell held rest is = fields_given date_of cell held rest is
value_given cell_form.Duration unsigned cell held rest is = fields_given time_of cell held rest is
value_given cell_form.Without unsigned cell held rest is = absurd is

-- ---- contents

cell_is : {X : Type 0} (short : StreamFault) (r : Result X WireError) (x : X) → or_cell_fault short r ≡ Ok x → r ≡ Ok x
cell_is short (Ok y) x e = cc
cell_is short (Err d) x e = absurd cc

pub content_taken : (short : StreamFault) (t : ParamType) (bytes : List ℕ) (p : Content × List ℕ) →
    AreBytes bytes → content_at short t bytes ≡ Ok p → Taken (IsContent t) bytes p
unfolding content_at cell_at
content_taken short t bytes p are e =
    let a = bind_ok (must Float (not (is_float t.number)))
    (λ _. or_cell_fault short (cell_at t.number t.unsigned bytes) >>= λ v. ok_or
    (content_of v.0) Float >>= λ meant. Ok (meant, v.1)) p e in
    let b = bind_ok (or_cell_fault short (cell_at t.number t.unsigned bytes))
    (λ v. ok_or (content_of v.0) Float >>= λ meant. Ok (meant, v.1)) p a.2 in
    let d = bind_ok (ok_or (content_of b.0.0) Float) (λ meant. Ok (meant, b.0.1)) p b.2 in
    let taken = value_taken (form_of t.number) t.unsigned bytes b.0 are
    (cell_is short (cell_at t.number t.unsigned bytes) b.0 b.1) in
    let same : (d.0, b.0.1) ≡ p = cc in
    taken_as (IsContent t) bytes (d.0, b.0.1) p same
    (record {
      part = taken.part;
      joined = taken.joined;
      is =
          record {
            value = b.0.0;
            is_cell = taken.is;
            means =
                some_is (content_of b.0.0) Float d.0 d.1;
          };
    })

-- a float's cell has no content
no_float : (t : ParamType) (cell : List ℕ) (meant : Content) → IsContent t cell meant → is_float t.number ≡ true → ⊥
no_float t cell meant is float =
    elim (or_cases (t.number == 4) (t.number == 5) float) [
      | inl four ↦ no_bits 4 (λ n. value.Float n) (λ n. refl)
          (subst (λ (n : ℕ). IsCell (form_of n) t.unsigned cell is.value) (eqb-true t.number 4 four)
          is.is_cell)
      | inr five ↦ no_bits 8 (λ n. value.Double n) (λ n. refl)
          (subst (λ (n : ℕ). IsCell (form_of n) t.unsigned cell is.value) (eqb-true t.number 5 five)
          is.is_cell)
    ]
  where
    no_bits : (n : ℕ) (made : ℕ → Value) → ((x : ℕ) → content_of (made x) ≡ None) → IsNumber n made cell is.value → ⊥
    no_bits n made none number =
        let same : content_of is.value ≡ None = ap (λ (v : Value). content_of v) number.3 ∙ none number.0 in
        let some = is.means in
        cc

pub content_given : (short : StreamFault) (t : ParamType) (cell : List ℕ) (meant : Content)
    (rest : List ℕ) → IsContent t cell meant → content_at short t (cell ++ rest) ≡ Ok (meant, rest)
unfolding content_at cell_at
content_given short t cell meant rest is =
    let exact : not (is_float t.number) ≡ true =
    not_from_false (is_float t.number)
    (false_from_ne_true (is_float t.number) (no_float t cell meant is)) in
    rw (exact, value_given (form_of t.number) t.unsigned cell is.value rest is.is_cell, is.means) refl
