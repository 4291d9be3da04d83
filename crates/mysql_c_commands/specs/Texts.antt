-- What the calls on texts say of the bytes that a handle stands for: the text of a set over a
-- query, and the literal of a value.
use Rattle.std.specs.Prelude.{◌≡◌, ◌≢◌, ◌⊎◌, ℕ, List, ◌++◌, MatchOption}
use Rattle.mysql_literals.specs.AsSql.{HasLiteral}
use Rattle.mysql_literals.specs.Literals.{literal_of}
use Rattle.mysql_cells.specs.declared.value.Value.{Value}
use Rattle.mysql_values.specs.Binding.{Binds, RefusesBinding}
use Rattle.mysql_values.specs.Mode.{Mode}
use Rattle.mysql_values.specs.Spelling.{Spelling}
use Rattle.mysql_values.specs.Sql.{Sql}
use Rattle.mysql_values.specs.declared.bind.BindError.{BindError}
use Rattle.mysql_values.specs.declared.bind.BindError.TheVariants as bind_error
use Rattle.mysql_values.specs.declared.params.Params.{Params}
use Rattle.mysql_c_handles.specs.declared.code.Code.{Code}
use Rattle.mysql_c_handles.specs.declared.code.Code.TheVariants.{Done, Float, Memory}
use Rattle.mysql_c_handles.specs.declared.code.Code.TheVariants as code
use Rattle.mysql_c_handles.specs.declared.object.Object.{Object}
use Rattle.mysql_c_handles.specs.declared.object.Object.TheVariants as object
use Rattle.mysql_c_handles.specs.Bytes.{IsBytes}
use Rattle.mysql_c_handles.specs.Codes.{Stays, code_number}
use Rattle.mysql_c_handles.specs.Sets.{set_held, unheld_code, value_held}
use Rattle.mysql_c_commands.specs.declared.shown.ShownPlace.{ShownPlace}

-- the code of an error of binding
abbrev pub bind_code : BindError → Code
bind_code bind_error.Mixed = code.Mixed
bind_code (bind_error.NotAlone at) = code.NotAlone
bind_code (bind_error.Params error) = code.Params
bind_code bind_error.WrongCount = code.WrongCount
bind_code (bind_error.Float at) = code.Float
bind_code bind_error.Memory = code.Memory

-- the set, of this number, and the place of an error, or 0 for those that it doesn't have
abbrev pub bind_place : ℕ → BindError → ShownPlace
bind_place set (bind_error.NotAlone at) = record { set = 0; place = at }
bind_place set (bind_error.Params error) = record { set = set; place = 0 }
bind_place set bind_error.WrongCount = record { set = set; place = 0 }
bind_place set (bind_error.Float at) = record { set = set; place = at }
bind_place set other = record { set = 0; place = 0 }

-- an error of binding the set of this number, by its number, with the set and the place
abbrev pub ShowsBindError : ℕ → BindError → ℕ → ShownPlace → Type 0
ShowsBindError set error number place = (number ≡ code_number (bind_code error)) × (place ≡ bind_place set error)

-- an error of binding is shown: Memory, or the first cause
pub record IsUnbound (query : Sql) (params : Params) (set number : ℕ) (place : ShownPlace) : Type 0 where
  pub error : BindError
  pub cause : RefusesBinding query params error
  pub shows : ShowsBindError set error number place

-- The text of the set of this number, which reads as the set's meaning, is appended to the old
-- bytes; or the bytes stay, and the number and the place say why.
pub record BindsText (query : Sql) (params : Params) (set : ℕ) (old : List ℕ)
    (number : ℕ) (place : ShownPlace) (new : List ℕ) : Type 0 where
  pub bound : number ≡ 0 → Binds query params old new
  pub kept : number ≢ 0 → new ≡ old
  pub why : number ≢ 0 → IsUnbound query params set number place

-- the text of a set is appended to the bytes that a handle stands for, or these stay
abbrev pub BindsTextTo : Sql → Params → ℕ → Object → ℕ → ShownPlace → Object → Type 0
BindsTextTo query params set (object.Bytes old) number place new =
    IsBytes new (λ bytes. BindsText query params set old.items number place bytes)
BindsTextTo query params set held number place new = Stays held number new

-- the text of a set that the other handle's object holds is appended, or the bytes stay
abbrev pub BindsTextFrom : Sql → Object → ℕ → Object → ℕ → ShownPlace → Object → Type 0
BindsTextFrom query held set old number place new =
    MatchOption (set_held held set) ((number ≡ code_number (unheld_code held)) ×
    (new ≡ old)) (λ params. BindsTextTo query params set old number place new)

-- The literal of a value for a mode is appended to the old bytes, and is one of the value's
-- content; or the bytes stay: a float has none, or memory was refused.
pub record PutsLiteral (mode : Mode) (spelling : Spelling) (value : Value) (old : List ℕ)
    (number : ℕ) (new : List ℕ) : Type 0 where
  pub put : MatchOption (literal_of mode spelling value) ((number ≡ code_number Float) × (new ≡ old))
      (λ text. ((number ≡ code_number Done) × (new ≡ old ++ text)) ⊎ ((number ≡ code_number Memory) × (new ≡ old)))
  pub literal : HasLiteral value

-- the literal of a value is appended to the bytes that a handle stands for, or these stay
abbrev pub PutsLiteralTo : Mode → Spelling → Value → Object → ℕ → Object → Type 0
PutsLiteralTo mode spelling value (object.Bytes old) number new =
    IsBytes new (λ bytes. PutsLiteral mode spelling value old.items number bytes)
PutsLiteralTo mode spelling value held number new = Stays held number new

-- the literal of a value that the other handle's object holds is appended, or the bytes stay
abbrev pub PutsLiteralFrom : Mode → Spelling → Object → ℕ → ℕ → Object → ℕ → Object → Type 0
PutsLiteralFrom mode spelling held set place old number new =
    MatchOption (value_held held set place) ((number ≡ code_number (unheld_code held)) ×
    (new ≡ old)) (λ value. PutsLiteralTo mode spelling value old number new)
