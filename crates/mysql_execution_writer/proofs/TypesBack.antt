-- Types that were written are read again.
use Rattle.std.proofs.Common.{◌≡◌, ℕ, suc, ◌^◌, ◌<◌, ◌==◌, Bool, true, false, List, [], ◌∷◌, ◌++◌, length, Option, Some}
use Rattle.std.proofs.Common.{None, refl, ◌∙◌, ap, append_assoc, arith, lit<}
use Rattle.std.specs.Prelude.{◌||◌, if◌then◌else◌, unwrap_or}
use Rattle.std.specs.List.{list_all}
use Rattle.std.specs.Option.{option_map}
use Rattle.std.proofs.lemmas.Bool.{eqb-true}
use Rattle.byteorder.specs.Endian.{little_bytes}
use Rattle.mysql_buf.specs.NumberLaws.{little-reads_back}
use Rattle.mysql_buf.specs.TextLaws.{lenenc_str-reads_back}
use Rattle.mysql_buf.specs.Writing.{lenenc_str}
use Rattle.mysql_const.specs.NamedLaws.{column_type-names_back}
use Rattle.mysql_const.specs.ColumnTypes.{column_type_number}
use Rattle.mysql_executions.specs.declared.types.BoundType.{BoundType}
use Rattle.mysql_field_constants.specs.TypeNumberLaws.{type_number-bound}
use Rattle.mysql_executions.specs.Fields.{◌>>=◌}
use Rattle.mysql_executions.specs.Types.{TypesRead, name_at, sign_named, type_at, types_at, types_read, with_type}
use Rattle.mysql_execution_writer.specs.Cells.{fits_name, type_bytes, types_bytes}
use Rattle.mysql_execution_writer.specs.Laws.{HaveLengths}
use Rattle.mysql_execution_writer.proofs.Loops.{and_left, and_right}

empty : (name : List ℕ) → (length name == 0) ≡ true → [] ≡ name
empty [] e = refl
empty (b ∷ name) e = absurd (omega (arith, eqb-true (length (b ∷ name)) 0 e))

name_back : (named : Bool) (name rest : List ℕ) → length name < 2 ^ 64 →
    (named || (length name == 0)) ≡ true →
    name_at named ((if named then lenenc_str name else []) ++ rest) ≡ Some (name, rest)
name_back true name rest short fits = lenenc_str-reads_back name rest short
name_back false name rest short fits = ap (λ (l : List ℕ). Some (l, rest)) (empty name fits)

sign_back : (unsigned : Bool) → sign_named (if unsigned then 0x80 else 0) ≡ Some unsigned
sign_back true = refl
sign_back false = refl

sign_small : (unsigned : Bool) → (if unsigned then 0x80 else 0) < 256 ^ 1
sign_small true = lit< tt
sign_small false = lit< tt

pub type_back : (named : Bool) (t : BoundType) (rest : List ℕ) → length t.name < 2 ^ 64 →
    fits_name named t ≡ true → type_at named (type_bytes named t ++ rest) ≡ Some (t, rest)
unfolding type_at
type_back named t rest short fits =
    let number = little_bytes 1 (column_type_number t.parameter_type.column_type) in
    let sign = little_bytes 1 (if t.parameter_type.unsigned then 0x80 else 0) in
    let name = if named then lenenc_str t.name else [] in
    let regroup : (number ++ (sign ++ name)) ++ rest ≡ number ++ (sign ++ (name ++ rest)) =
    append_assoc number (sign ++ name) rest ∙
    ap (λ (l : List ℕ). number ++ l) (append_assoc sign name rest) in
    ap (type_at named) regroup
    ∙ rw (
      little-reads_back 1 (column_type_number t.parameter_type.column_type) (sign ++
          (name ++ rest)) (type_number-bound t.parameter_type.column_type),
      column_type-names_back t.parameter_type.column_type,
      little-reads_back 1 (if t.parameter_type.unsigned then 0x80 else 0) (name ++
          rest) (sign_small t.parameter_type.unsigned),
      sign_back t.parameter_type.unsigned,
      name_back named t.name rest short fits,
    ) refl

pub types_back : (named : Bool) (types : List BoundType) (rest : List ℕ) → HaveLengths types →
    list_all (fits_name named) types ≡ true
    → types_read named (length types) (types_bytes named types ++ rest) ≡ record { found = types; rest = Some rest }
unfolding types_read
types_back named [] rest short fits = refl
types_back named (t ∷ types) rest short fits =
    let later = types_bytes named types ++ rest in
    ap (types_read named (suc (length types))) (append_assoc (type_bytes named t) (types_bytes named types) rest)
    ∙ ap (λ (found : Option (BoundType × List ℕ)). unwrap_or
    (option_map (λ first. with_type first.0 (types_read named (length types) first.1)) found)
    (record { found = []; rest = None }))
    (type_back named t later short.0 (and_left (fits_name named t) (list_all (fits_name named) types) fits))
    ∙ ap (with_type t) (types_back named types rest short.1
    (and_right (fits_name named t) (list_all (fits_name named) types) fits))

-- as many types as there are
pub all_types_back : (named : Bool) (n : ℕ) (types : List BoundType) (rest : List ℕ) → n ≡
    length types → HaveLengths types → list_all (fits_name named) types ≡ true
    → types_at named n (types_bytes named types ++ rest) ≡ Some (types, rest)
all_types_back named n types rest count short fits =
    ap (λ n. types_at named n (types_bytes named types ++ rest)) count
    ∙ ap (λ (read : TypesRead). read.rest >>= λ left. Some (read.found, left)) (types_back named types rest short fits)
