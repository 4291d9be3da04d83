-- What values convert to, and which value gives the same again. MySQL Reference Manual, "Working
-- with NULL Values"; conversions between values and a language's types are a form of client
-- libraries.
use Rattle.std.specs.Prelude.{◌≡◌, Option, Some, None, if◌then◌else◌}
use Rattle.std.specs.Option.{option_map}
use Rattle.mysql_cells.specs.declared.value.Value.{Value}
use Rattle.mysql_cells.specs.Values.{is_null}

-- a value that was rolled back converts as the first one does, and is NULL exactly where that is
abbrev pub ReadsAgain : {Shown : Type 0} → (Value → Option Shown) → Value → Option Value → Type 0
ReadsAgain converted value None = ⊥
ReadsAgain converted value (Some other) = (converted other ≡ converted value) × (is_null other ≡ is_null value)

-- An option: None of NULL, and of any other value what that converts to by itself.
abbrev pub converted_if_some : {Shown : Type 0} → (Value → Option Shown) → Value → Option (Option Shown)
converted_if_some converted value = if is_null value then Some None else option_map Some (converted value)
