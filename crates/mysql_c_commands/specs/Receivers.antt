-- What the calls on receivers say of the object that a handle stands for.
use Rattle.std.specs.Prelude.{◌≡◌, ◌≢◌, ◌⊎◌, ◌<◌, ℕ, false, true, List, [], Option, None, slice_get}
use Rattle.std.specs.Option.{option_and_then}
use Rattle.mysql_values.specs.Content.{Content}
use Rattle.mysql_values.specs.Queries.{HasMixed}
use Rattle.mysql_values.specs.Sql.{Sql}
use Rattle.mysql_receive.specs.Audit.{IsAbout}
use Rattle.mysql_receive.specs.GoingOn.{HasFoundNoFault, ReceiverDecides, fresh_receiver}
use Rattle.mysql_receive.specs.Reading.{Set}
use Rattle.mysql_receive.specs.Received.{Received, receiver_state}
use Rattle.mysql_receive.specs.Receiving.{audit_of}
use Rattle.mysql_receive.specs.Taking.{Feeds, HandsOut}
use Rattle.mysql_receive.specs.Views.{sets_of}
use Rattle.mysql_receive.specs.declared.audit.Audit.{Audit}
use Rattle.mysql_c_handles.specs.declared.code.Code.{Code}
use Rattle.mysql_c_handles.specs.declared.code.Code.TheVariants.{Done, LimitTooSmall, Memory, Mixed, OutOfRange}
use Rattle.mysql_c_handles.specs.declared.object.Object.{Object}
use Rattle.mysql_c_handles.specs.declared.object.Object.TheVariants as object
use Rattle.mysql_c_handles.specs.declared.shown.ShownEnd.{ShownEnd}
use Rattle.mysql_c_handles.specs.Codes.{Stays, code_number, fault_code, misuse}
use Rattle.mysql_c_commands.specs.Shown.{end_shown}

-- the object is a receiver that holds what is said
abbrev pub IsReceiver : Object → (Received → Type 0) → Type 0
IsReceiver (object.Receiver r) Says = Says r
IsReceiver held Says = ⊥

-- the object is an audit of which this is said
abbrev pub IsAudit : Object → (Audit → Type 0) → Type 0
IsAudit (object.Audit a) Says = Says a
IsAudit held Says = ⊥

-- Of a receiver what is said. Any other object stays, and the number says why.
abbrev pub OfReceiver : Object → ℕ → Object → (Received → Type 0) → Type 0
OfReceiver (object.Receiver r) number new Says = Says r
OfReceiver held number new Says = Stays held number new

-- a receiver that was fed nothing, of a stream about this query
pub record IsNew (query : Sql) (id limit : ℕ) (r : Received) : Type 0 where
  pub fresh : receiver_state r ≡ fresh_receiver
  pub about : IsAbout r.statement query id
  pub limit_is : r.limit ≡ limit

-- A receiver of a stream about this query was made, whose placeholders are of one kind. Or the
-- object stays, and the number says why: a limit below 4, both kinds, or that memory was refused.
pub record MakesReceiver (query : Sql) (id limit : ℕ) (old : Object) (number : ℕ) (new : Object) : Type 0 where
  pub made : number ≡ 0 → IsReceiver new (IsNew query id limit) × HasMixed query false
  pub kept : number ≢ 0 → new ≡ old
  pub small : limit < 4 → number ≡ code_number LimitTooSmall
  pub cause : (number ≡ 0) ⊎ (number ≡ code_number Memory) ⊎
      ((number ≡ code_number LimitTooSmall) × (limit < 4)) ⊎
      ((number ≡ code_number Mixed) × HasMixed query true)

-- What a receiver holds after it was fed a piece.
pub record IsFed (old : Received) (piece : List ℕ) (new : Received) : Type 0 where
  pub feeds : Feeds old.statement old.limit (receiver_state old) piece (receiver_state new)
  pub no_fault : new.fault ≡ None → HasFoundNoFault new.statement new.limit (receiver_state new)
  pub same_stream : new.statement ≡ old.statement
  pub same_limit : new.limit ≡ old.limit

-- A receiver was fed, and the number is that of the fault that it holds.
abbrev pub IsFedBy : List ℕ → ℕ → Object → Received → Type 0
IsFedBy piece number new old = IsReceiver new (λ r. IsFed old piece r × (number ≡ code_number (fault_code r.fault)))

-- The sets that were read are let go, and nothing else changes; what is decided over the bytes still to come stays.
abbrev pub LetsGo : ℕ → Object → Received → Type 0
LetsGo number new old =
    (number ≡ 0) × (new ≡ object.Receiver (record old { sets = [] }))
    × HandsOut old.statement old.limit (receiver_state old) old.sets (receiver_state (record old { sets = [] }))

-- the audit of what a receiver was fed
abbrev pub IsAuditOf : Received → Audit → Type 0
IsAuditOf r a = ReceiverDecides r.statement r.limit (receiver_state r) [] (audit_of a)

-- A receiver becomes the audit of what it was fed, and an audit stays; its end is shown.
abbrev pub EndsAs : Object → ℕ → Object → ShownEnd → Type 0
EndsAs (object.Receiver r) number new shown = (number ≡ 0) ×
    IsAudit new (λ a. IsAuditOf r a × (shown ≡ end_shown a.end))
EndsAs (object.Audit a) number new shown = (number ≡ 0) × (new ≡ object.Audit a) × (shown ≡ end_shown a.end)
EndsAs held number new shown = Stays held number new

-- the sets that an object holds: those that were read and not let go
abbrev pub sets_held : Object → List Set
sets_held (object.Receiver r) = r.sets
sets_held (object.Audit a) = sets_of a.sets.items
sets_held held = []

-- a content of a set, by their numbers from 0
abbrev pub content_at : Object → ℕ → ℕ → Option Content
content_at held set place = option_and_then (λ contents. slice_get contents place) (slice_get (sets_held held) set)

-- whether an object holds sets
abbrev pub reading_code : Object → Code
reading_code (object.Receiver r) = Done
reading_code (object.Audit a) = Done
reading_code held = misuse held

-- why a set or a content isn't there
abbrev pub missing_code : Object → Code
missing_code (object.Receiver r) = OutOfRange
missing_code (object.Audit a) = OutOfRange
missing_code held = misuse held
