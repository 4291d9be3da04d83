-- A type that was written is read back, and has two bytes.
use Rattle.std.proofs.Common.{◌≡◌, ℕ, true, List, ◌∷◌, ◌++◌, drop, Some, Ok, refl, ap, ◌∙◌, arith}
use Rattle.mysql_const.specs.ColumnTypes.{column_type_named, column_type_number}
use Rattle.mysql_const.specs.ExecuteFlags.{execute_param_flags}
use Rattle.mysql_const.specs.NamedLaws.{column_type-names_back}
use Rattle.byteorder.specs.Endian.{little_number}
use Rattle.mysql_buf.specs.FirstBytes.{first-enough}
use Rattle.mysql_fields.specs.Forms.{fixed_number_at}
use Rattle.mysql_fields.specs.Laws.{done_rest, eaten_first, eats-then, from_block-enough, from_block-sized}
use Rattle.mysql_fields.specs.Laws.{fixed_number_at-sized}
use Rattle.mysql_fields.specs.Wire.{IsSized, or_end}
use Rattle.mysql_field_constants.specs.ConstantLaws.{named_at-sized}
use Rattle.mysql_field_constants.specs.Constants.{named_at}
use Rattle.mysql_field_constants.specs.Flags.{are_named}
use Rattle.mysql_bulk_builder.specs.Bulk.{param_type_bytes}
use Rattle.mysql_bulk_builder.specs.Reading.{param_flags_named, param_type_at, param_type_fields_at}
use Rattle.mysql_bulk_builder.specs.declared.param_type.StmtBulkExecuteParamType.{StmtBulkExecuteParamType}

param_type_eats : (bytes rest : List ℕ) (t : StmtBulkExecuteParamType) →
    param_type_fields_at bytes ≡ Ok (t, rest) → rest ≡ drop 2 bytes
unfolding param_type_fields_at
param_type_eats bytes rest t =
    eats-then 1 1 bytes (named_at column_type_named (fixed_number_at 1) bytes) _ rest t
    (eaten_first 1 (named_at column_type_named (fixed_number_at 1)) bytes
    (named_at-sized (Some 1) column_type_named (fixed_number_at 1) (fixed_number_at-sized 1)))
    (λ x b. eats-then 1 0 b (named_at param_flags_named (fixed_number_at 1) b) _ rest t
    (eaten_first 1 (named_at param_flags_named (fixed_number_at 1)) b
    (named_at-sized (Some 1) param_flags_named (fixed_number_at 1) (fixed_number_at-sized 1)))
    (λ y c. done_rest (record { column_type = x; flags = y }) t c rest))

pub param_type_at-sized : IsSized (Some 2) param_type_at
unfolding param_type_at
param_type_at-sized = from_block-sized 2 param_type_fields_at param_type_eats

byte_back : (b : ℕ) (rest : List ℕ) → fixed_number_at 1 (b ∷ rest) ≡ Ok (b, rest)
byte_back b rest =
    let n : little_number 1 (b ∷ rest) ≡ b = omega arith in
    ap or_end (first-enough 1 (little_number 1) (b ∷ rest) (omega arith)) ∙ ap (λ (k : ℕ). Ok (k, rest)) n

pub param_type_at-back : (t : StmtBulkExecuteParamType) (rest : List ℕ) →
    are_named execute_param_flags t.flags.0 ≡ true → param_type_at (param_type_bytes t ++ rest) ≡
    Ok (t, rest)
unfolding param_type_at param_type_fields_at
param_type_at-back t rest h =
    from_block-enough 2 param_type_fields_at (param_type_bytes t ++ rest) (omega arith)
    ∙ rw (
      byte_back (column_type_number t.column_type) (t.flags.0 ∷ rest),
      column_type-names_back t.column_type,
      byte_back t.flags.0 rest,
      h,
    ) refl
