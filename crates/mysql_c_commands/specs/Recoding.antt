-- What the calls on recoders say of the objects that two handles stand for, and of what C is shown.
use Rattle.std.specs.Prelude.{◌≡◌, ◌≢◌, ◌⊎◌, ◌<◌, ℕ, List, ◌++◌, Option, None, Some, IfSome}
use Rattle.mysql_values.specs.Sql.{Sql}
use Rattle.mysql_recoding.specs.AsItComes.{Finishes, IsNewRecoder, Recoded, RecodesPiece, RefusesEnd, RefusesPiece}
use Rattle.mysql_recoding.specs.AsItComes.{RefusesQuery, recoder_state}
use Rattle.mysql_recoding.specs.declared.errors.RecodeError.{RecodeError}
use Rattle.mysql_recoding.specs.declared.errors.RecodeError.TheVariants as recode_error
use Rattle.mysql_c_handles.specs.declared.code.Code.{Code}
use Rattle.mysql_c_handles.specs.declared.code.Code.TheVariants as code
use Rattle.mysql_c_handles.specs.declared.object.Object.{Object}
use Rattle.mysql_c_handles.specs.declared.object.Object.TheVariants as object
use Rattle.mysql_c_handles.specs.Bytes.{IsBytes}
use Rattle.mysql_c_handles.specs.Codes.{Stays, code_number, fault_number, misuse}
use Rattle.mysql_c_commands.specs.declared.shown.ShownStop.{ShownStop}
use Rattle.mysql_c_commands.specs.Shown.{end_kind}

-- the object is a recoder that holds what is said
abbrev pub IsRecoder : Object → (Recoded → Type 0) → Type 0
IsRecoder (object.Recoder r) Says = Says r
IsRecoder held Says = ⊥

-- the code of an error
abbrev pub recode_code : RecodeError → Code
recode_code recode_error.Mixed = code.Mixed
recode_code (recode_error.Stream payload fault) = code.Stream fault
recode_code (recode_error.Unfinished end) = code.Unfinished
recode_code recode_error.TooManyPlaces = code.TooManyPlaces
recode_code recode_error.PrepareTooLarge = code.PrepareTooLarge
recode_code (recode_error.PacketTooLarge set) = code.PacketTooLarge
recode_code recode_error.Memory = code.Memory

-- where an error is: 0 stands for what it doesn't have
abbrev pub stop_of : RecodeError → ShownStop
stop_of (recode_error.Stream payload fault) = record { end = 3; fault = fault_number fault; payload = payload; set = 0 }
stop_of (recode_error.Unfinished end) = record { end = end_kind end; fault = 0; payload = 0; set = 0 }
stop_of (recode_error.PacketTooLarge set) = record { end = 0; fault = 0; payload = 0; set = set }
stop_of error = record { end = 0; fault = 0; payload = 0; set = 0 }

-- an error by its number, and where it is
abbrev pub ShowsStop : RecodeError → ℕ → ShownStop → Type 0
ShowsStop error number stop = (number ≡ code_number (recode_code error)) × (stop ≡ stop_of error)

-- the answer of a call after which this error is held
abbrev pub AnswersBy : Option RecodeError → ℕ → ShownStop → Type 0
AnswersBy None number stop = number ≡ 0
AnswersBy (Some error) number stop = ShowsStop error number stop

-- no recoder is made, by the number: memory was refused, the limit is below 4, or the query can't be prepared
abbrev pub IsWhyNoRecoder : Sql → ℕ → ℕ → ℕ → Type 0
IsWhyNoRecoder query id limit number =
    (number ≡ code_number code.Memory) ⊎ ((number ≡ code_number code.LimitTooSmall) × (limit < 4))
    ⊎ ((error : RecodeError) × (number ≡ code_number (recode_code error)) × RefusesQuery query id limit error)

-- A recoder of streams about this query was made. Or the object stays, and the number says why.
pub record MakesRecoder (query : Sql) (id limit : ℕ) (old : Object) (number : ℕ) (new : Object) : Type 0 where
  pub made : number ≡ 0 → IsRecoder new (λ r. IsNewRecoder query id limit (recoder_state r))
  pub kept : number ≢ 0 → new ≡ old
  pub small : limit < 4 → number ≡ code_number code.LimitTooSmall
  pub cause : (number ≡ 0) ⊎ IsWhyNoRecoder query id limit number

-- A recoder took a piece, and what it appends stands behind the old bytes; or the bytes stay. The
-- number and the place are those of the error that it then holds. With an error from before nothing
-- changes.
pub record RecodesBytes (piece : List ℕ) (old : Recoded) (before : List ℕ) (number : ℕ)
    (stop : ShownStop) (new : Recoded) (behind : List ℕ) : Type 0 where
  pub recoded : new.refused ≡ None → (appended : List ℕ) × (behind ≡ before ++ appended)
      × RecodesPiece (recoder_state old).terms (recoder_state old) piece appended (recoder_state new)
  pub refused : old.refused ≡ None → IfSome new.refused (λ error. RefusesPiece (recoder_state old) piece error)
  pub stays : IfSome old.refused (λ error. new ≡ old)
  pub kept : IfSome new.refused (λ error. behind ≡ before)
  pub answer : AnswersBy new.refused number stop
  pub terms : (recoder_state new).terms ≡ (recoder_state old).terms

-- a recoder takes a piece, with the bytes that a handle stands for
abbrev pub RecodesTo : List ℕ → Recoded → Object → ℕ → ShownStop → Recoded → Object → Type 0
RecodesTo piece old (object.Bytes before) number stop new out =
    IsBytes out (λ behind. RecodesBytes piece old before.items number stop new behind)
RecodesTo piece old held number stop new out = Stays held number out × (new ≡ old)

-- the recoder that the other handle stands for takes a piece
abbrev pub RecodesFrom : List ℕ → Object → Object → ℕ → ShownStop → Object → Object → Type 0
RecodesFrom piece (object.Recoder old) before number stop new out =
    IsRecoder new (λ r. RecodesTo piece old before number stop r out)
RecodesFrom piece held before number stop new out = Stays held number new × (out ≡ before)

-- a refusal of a recoder's end is shown: the error that it holds, else Memory or how the stream ends
pub record IsEndRefused (r : Recoded) (number : ℕ) (stop : ShownStop) : Type 0 where
  pub error : RecodeError
  pub held : IfSome r.refused (λ held. error ≡ held)
  pub cause : r.refused ≡ None → RefusesEnd (recoder_state r) error
  pub shows : ShowsStop error number stop

-- A recoder ended, and what it appends at the end stands behind the old bytes; or the bytes stay,
-- and the number and the place say why.
pub record EndsBytes (r : Recoded) (before : List ℕ) (number : ℕ) (stop : ShownStop) (behind : List ℕ) : Type 0 where
  pub finished : number ≡ 0 → (r.refused ≡ None) ×
      ((appended : List ℕ) × (behind ≡ before ++ appended) × Finishes (recoder_state r) appended)
  pub kept : number ≢ 0 → behind ≡ before
  pub why : number ≢ 0 → IsEndRefused r number stop

-- the recoder that an object is ends
abbrev pub EndsObject : Object → List ℕ → ℕ → ShownStop → List ℕ → Type 0
EndsObject (object.Recoder r) before number stop behind = EndsBytes r before number stop behind
EndsObject held before number stop behind = (number ≡ code_number (misuse held)) × (behind ≡ before)

-- a recoder ends, with the bytes that a handle stands for; then it is gone, and else it stays
abbrev pub EndsTo : Object → Object → ℕ → ShownStop → Object → Object → Type 0
EndsTo ended (object.Bytes before) number stop new out = (new ≡ object.Empty) ×
    IsBytes out (λ behind. EndsObject ended before.items number stop behind)
EndsTo ended held number stop new out = Stays held number out × (new ≡ ended)

-- the recoder that the other handle stands for ends
abbrev pub RecoderEnds : Object → Object → ℕ → ShownStop → Object → Object → Type 0
RecoderEnds (object.Recoder r) before number stop new out = EndsTo (object.Recoder r) before number stop new out
RecoderEnds held before number stop new out = Stays held number new × (out ≡ before)
