-- A binary row of a result set is a server's row whose first byte is a zero.
use Rattle.std.proofs.Common.{◌≡◌, ℕ, List, [], ◌∷◌, take, ◌==◌, Bool, true, false, Ok, Err, sym, ap, ◌∙◌, arith}
use Rattle.std.proofs.Common.{if◌then◌else◌}
use Rattle.byteorder.specs.Endian.{little_number}
use Rattle.mysql_buf.specs.FirstBytes.{first-enough, first-short}
use Rattle.mysql_columns.specs.Columns.{ColumnDefinition}
use Rattle.mysql_fields.specs.Forms.{bytes_at, fixed_number_at}
use Rattle.mysql_fields.specs.Laws.{ok_same}
use Rattle.mysql_fields.specs.declared.error.WireError.TheVariants.{BadConstant}
use Rattle.mysql_rows.specs.Rows.{binary_row_at, binary_row_body_at, binary_resultset_row_at}
use Rattle.mysql_field_constants.specs.Constants.{constant_at, is_constant}
use Rattle.mysql_fields.specs.Wire.{Reading, or_end, ◌>>=◌}

-- What follows a constant is what followed the number.
after_constant : (n : ℕ) (x header : ℕ × List ℕ) → is_constant n x ≡ Ok header → header.1 ≡ x.1
after_constant n x header h = by (x.0 == n) h
  where
    by : (b : Bool) → (if b then Ok x else Err BadConstant) ≡ Ok header → header.1 ≡ x.1
    by true e = ap (λ (p : ℕ × List ℕ). p.1) (sym (ok_same x header e))
    by false e = absurd cc

pub zero_begins : (columns : List ColumnDefinition) (bytes : List ℕ) (header : ℕ × List ℕ) →
    constant_at 1 0 bytes ≡ Ok header → binary_resultset_row_at columns bytes ≡
    binary_row_at 2 columns bytes
unfolding binary_resultset_row_at binary_row_at
zero_begins columns [] header h = absurd (let none = ap or_end (first-short 1 (little_number 1) [] (omega arith)) in cc)
zero_begins columns (b ∷ rest) header h =
    let number : fixed_number_at 1 (b ∷ rest) ≡ Ok (little_number 1 (b ∷ rest), rest) =
    ap or_end (first-enough 1 (little_number 1) (b ∷ rest) (omega arith)) in
    let byte : bytes_at 1 (b ∷ rest) ≡ Ok (take 1 (b ∷ rest), rest) =
    ap or_end (first-enough 1 (take 1) (b ∷ rest) (omega arith)) in
    let after : header.1 ≡ rest =
    after_constant 0 (
      little_number 1 (b ∷ rest),
      rest,
    ) header (sym (ap (λ (r : Reading ℕ). r >>= is_constant 0) number) ∙ h) in
    ap (λ (r : Reading ℕ). r >>= λ x. binary_row_body_at 2 columns x.1) h ∙ ap (binary_row_body_at 2 columns) after
    ∙ sym (ap (λ (r : Reading (List ℕ)). r >>= λ x. binary_row_body_at 2 columns x.1) byte)
