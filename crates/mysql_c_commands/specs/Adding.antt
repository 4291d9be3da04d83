-- What a set is that comes as an array: the value that each of its parameters describes, and why one describes none.
use Rattle.std.specs.Prelude.{◌≡◌, ◌⊎◌, ℕ, ◌+◌, ◌^◌, ◌==◌, nat_lt, List, [], ◌∷◌, ◌++◌, length, map, slice_range}
use Rattle.std.specs.Prelude.{Option, Some, None, Result, Ok, Err, Vec, if◌then◌else◌}
use Rattle.std.specs.declared.alloc.Global.{Global}
use Rattle.mysql_cells.specs.declared.value.Value.{Value}
use Rattle.mysql_cells.specs.declared.value.Value.TheVariants as value
use Rattle.mysql_values.specs.declared.params.Params.TheVariants.{Positional}
use Rattle.mysql_c_handles.specs.declared.code.Code.{Code}
use Rattle.mysql_c_handles.specs.declared.code.Code.TheVariants.{Done, Memory, NoSuchKind, OutOfRange}
use Rattle.mysql_c_handles.specs.declared.object.Object.{Object}
use Rattle.mysql_c_handles.specs.declared.object.ParameterSets.{ParameterSets}
use Rattle.mysql_c_handles.specs.Codes.{code_number}
use Rattle.mysql_c_handles.specs.Sets.{IsSets}
use Rattle.mysql_c_commands.specs.declared.parameter.Parameter.{Parameter}
use Rattle.mysql_c_commands.specs.Sets.{AreTheSame}

-- so many of the bytes from a place on, where there are as many
abbrev pub bytes_from : List ℕ → ℕ → ℕ → Result Value Code
bytes_from bytes start len =
    if nat_lt (length bytes) (start + len) then Err OutOfRange else Ok
    (value.Bytes (slice_range bytes start (start + len)))

-- the float of these bits, where they are those of 32
abbrev pub float_from : ℕ → Result Value Code
float_from bits = if nat_lt bits (2 ^ 32) then Ok (value.Float bits) else Err OutOfRange

-- The value that a parameter describes, by its kind: 0 is NULL, 1 a number with a sign, 2 one
-- without, 3 bytes of those that were handed over, 4 a float, 5 a double, 6 a date, 7 a duration.
-- Why there is none: the kind is another, its bytes don't lie there, or a float's bits are more than 32.
abbrev pub parameter_value : List ℕ → Parameter → Result Value Code
parameter_value bytes p =
    if p.kind == 0 then Ok value.NULL
    else (if p.kind == 1 then Ok (value.Int p.int)
    else (if p.kind == 2 then Ok (value.UInt p.uint)
    else (if p.kind == 3 then bytes_from bytes p.start p.len
    else (if p.kind == 4 then float_from p.uint
    else (if p.kind == 5 then Ok (value.Double p.uint)
    else (if p.kind == 6 then Ok (value.Date p.year p.month p.day p.hour p.minute p.second p.micros)
    else (if p.kind == 7 then Ok (value.Time p.negative p.days p.hour p.minute p.second p.micros)
    else Err NoSuchKind)))))))

-- the first error of answers
abbrev pub first_error : List (Result Value Code) → Option Code
first_error [] = None
first_error (Ok value ∷ answers) = first_error answers
first_error (Err error ∷ answers) = Some error

-- parameters describe these values, one each
abbrev pub Describe : List ℕ → List Parameter → List Value → Type 0
Describe bytes parameters values = map (parameter_value bytes) parameters ≡ map Ok values

-- parameters don't describe a value each, and this is why the first of them doesn't
abbrev pub IsDescriptionCause : List ℕ → List Parameter → Code → Type 0
IsDescriptionCause bytes parameters error = first_error (map (parameter_value bytes) parameters) ≡ Some error

-- the values that parameters describe are one more set, behind the others, and the values of the next set stay
pub record HasOneMore (bytes : List ℕ) (parameters : List Parameter) (old new : ParameterSets) : Type 0 where
  pub values : Vec Value Global
  pub describe : Describe bytes parameters values.items
  pub more : new.sets.items ≡ old.sets.items ++ Positional values ∷ []
  pub open_stays : new.open.items ≡ old.open.items

-- A set is added; or nothing changed, and the number says why.
abbrev pub AddsSet : List ℕ → List Parameter → ℕ → ParameterSets → ParameterSets → Type 0
AddsSet bytes parameters number old new =
    ((number ≡ code_number Done) × HasOneMore bytes parameters old new)
    ⊎ ((number ≡ code_number Memory) × AreTheSame old new)
    ⊎ ((error : Code) × (number ≡ code_number error) × IsDescriptionCause bytes parameters error × AreTheSame old new)

-- a set is added to those that the handle stands for, or nothing changed
abbrev pub AddsSetIn : List ℕ → List Parameter → ℕ → Object → ParameterSets → Type 0
AddsSetIn bytes parameters number new old = IsSets new (AddsSet bytes parameters number old)
