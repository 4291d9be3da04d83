-- Cells of the binary protocol in the manual's words: which bytes are the whole cell of a type, and what it holds.
-- MySQL: Client/Server Protocol, "Binary Protocol Value", "Protocol::LengthEncodedInteger".
use Rattle.std.specs.Prelude.{◌≡◌, ℕ, ◌<◌, ◌^◌, ◌⊎◌, Bool, List, [], ◌∷◌, ◌++◌, length, Some}
use Rattle.std.specs.Int.{w8, w16, w32, w64}
use Rattle.byteorder.specs.Endian.{little_bytes}
use Rattle.mysql_cells.specs.declared.cell_form.CellForm.{CellForm}
use Rattle.mysql_cells.specs.declared.cell_form.CellForm.TheVariants.{Nothing, Whole1, Whole2, Whole4, Whole8}
use Rattle.mysql_cells.specs.declared.cell_form.CellForm.TheVariants.{FloatBits, DoubleBits, Counted, DateAndTime}
use Rattle.mysql_cells.specs.declared.cell_form.CellForm.TheVariants.{Duration, Without}
use Rattle.mysql_values.specs.Cells.{form_of, whole_value, date_of, time_of}
use Rattle.mysql_values.specs.Content.{Content}
use Rattle.mysql_values.specs.Value.{Value}
use Rattle.mysql_values.specs.Value.TheVariants.{NULL, Bytes, Float, Double}
use Rattle.mysql_values.specs.Values.{content_of}
use Rattle.mysql_receive.specs.declared.param_type.ParamType.{ParamType}

-- The bytes are a length-encoded number: one byte below fb; or fc, fd, fe and two, three, eight
-- bytes. The manual has no number that begins with fb or ff: each alone is read as 0.
pub data IsLength : List ℕ → ℕ → Type 0 where
  one_byte : (n : ℕ) → n < 251 → IsLength (n ∷ []) n
  two_bytes : (n : ℕ) → n < 2 ^ 16 → IsLength (252 ∷ little_bytes 2 n) n
  three_bytes : (n : ℕ) → n < 2 ^ 24 → IsLength (253 ∷ little_bytes 3 n) n
  eight_bytes : (n : ℕ) → n < 2 ^ 64 → IsLength (254 ∷ little_bytes 8 n) n
  no_length : (b : ℕ) → (b ≡ 251) ⊎ (b ≡ 255) → IsLength (b ∷ []) 0

-- a number of so many bytes, the lowest first, and the value that is made of it
abbrev pub IsNumber : ℕ → (ℕ → Value) → List ℕ → Value → Type 0
IsNumber n made cell value = (x : ℕ) × (x < 256 ^ n) × (cell ≡ little_bytes n x) × (value ≡ made x)

-- bytes behind their length-encoded number
abbrev pub IsCounted : List ℕ → Value → Type 0
IsCounted cell value = (count : List ℕ) × (held : List ℕ) × IsLength count (length held) ×
    (cell ≡ count ++ held) × (value ≡ Bytes held)

-- fields behind one byte that counts their bytes, and the value that is made of them
abbrev pub AreFields : (List ℕ → Value) → List ℕ → Value → Type 0
AreFields made cell value = (held : List ℕ) × (length held < 256) × (cell ≡ length held ∷ held) × (value ≡ made held)

-- the bytes are the whole cell of this form, with or without a sign, and hold this value
abbrev pub IsCell : CellForm → Bool → List ℕ → Value → Type 0
IsCell Nothing unsigned cell value = (cell ≡ []) × (value ≡ NULL)
IsCell Whole1 unsigned cell value = IsNumber 1 (whole_value w8 unsigned) cell value
IsCell Whole2 unsigned cell value = IsNumber 2 (whole_value w16 unsigned) cell value
IsCell Whole4 unsigned cell value = IsNumber 4 (whole_value w32 unsigned) cell value
IsCell Whole8 unsigned cell value = IsNumber 8 (whole_value w64 unsigned) cell value
IsCell FloatBits unsigned cell value = IsNumber 4 (λ bits. Float bits) cell value
IsCell DoubleBits unsigned cell value = IsNumber 8 (λ bits. Double bits) cell value
IsCell Counted unsigned cell value = IsCounted cell value
IsCell DateAndTime unsigned cell value = AreFields date_of cell value
IsCell Duration unsigned cell value = AreFields time_of cell value
IsCell Without unsigned cell value = ⊥

-- The bytes are the whole cell of this type, and its value means this content. A float means none.
pub record IsContent (t : ParamType) (cell : List ℕ) (meant : Content) : Type 0 where
  pub value : Value
  pub is_cell : IsCell (form_of t.number) t.unsigned cell value
  pub means : content_of value ≡ Some meant
