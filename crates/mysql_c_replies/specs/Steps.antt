-- The steps of what C gives to a writer, and what writing them does.
use Rattle.std.specs.Prelude.{◌≡◌, ◌≢◌, ℕ, List, [], ◌∷◌, Bool, false, length, take, drop, nat_lt}
use Rattle.mysql_columns.specs.Columns.{ColumnDefinition}
use Rattle.mysql_ok_packets.specs.Views.{ok_packet_view}
use Rattle.mysql_server_packets.specs.Views.{prepare_ok_view, server_error_view}
use Rattle.mysql_replies.specs.Views.{column_views}
use Rattle.mysql_rows.specs.Views.{row_view}
use Rattle.mysql_reply_writer.specs.declared.refusal.ReplyRefusal.{ReplyRefusal}
use Rattle.mysql_reply_writer.specs.Written.{ColumnsStep, EndStep, ErrorStep, OkStep, PreparedStep, RowStep, Step}
use Rattle.mysql_reply_writer.specs.Writer.{Refuses, Wrote, columns_of}
use Rattle.mysql_c_handles.specs.declared.object.Object.{Object}
use Rattle.mysql_c_handles.specs.declared.object.Object.TheVariants as object
use Rattle.mysql_c_handles.specs.declared.object.WrittenReply.{WrittenReply}
use Rattle.mysql_c_handles.specs.Bytes.{IsBytes}
use Rattle.mysql_c_handles.specs.Codes.{code_number, misuse, refusal_number}
use Rattle.mysql_c_replies.specs.declared.given.Given.{Given}
use Rattle.mysql_c_replies.specs.declared.given.Given.TheVariants as given
use Rattle.mysql_c_replies.specs.declared.spot.ShownSpot.{ShownSpot}
use Rattle.mysql_c_replies.specs.Spots.{spot_of}

-- the columns that were given
abbrev pub columns_given : WrittenReply → List ColumnDefinition
columns_given reply = column_views reply.columns.items

-- the step of what is given to a writer
abbrev pub step_given : WrittenReply → Given → Step
step_given old (given.Ok ok more) = OkStep more (ok_packet_view ok)
step_given old (given.Error error) = ErrorStep (server_error_view error)
step_given old given.Columns = ColumnsStep (columns_given old)
step_given old (given.Row row) = RowStep (columns_of old.writer.so_far.rows) (row_view row)
step_given old (given.End ok more) = EndStep more (ok_packet_view ok)
step_given old (given.Prepared statement params) =
    PreparedStep (prepare_ok_view statement) (take params (columns_given old)) (drop params (columns_given old))

-- the columns that are left behind a step, or behind its refusal: rows and a prepared statement use them up
abbrev pub columns_left : Step → List ColumnDefinition → List ColumnDefinition
columns_left (ColumnsStep columns) held = []
columns_left (PreparedStep statement parameters columns) held = []
columns_left step held = held

-- a refusal of the step is shown
pub record IsRefused (old : WrittenReply) (step : Step) (number : ℕ) (spot : ShownSpot) : Type 0 where
  pub refusal : ReplyRefusal
  pub refuses : Refuses old.writer (step ∷ []) refusal
  pub number_is : number ≡ refusal_number refusal
  pub spot_is : spot ≡ spot_of refusal

-- A step is written behind the old bytes; or the writer and the bytes stay, and the number and the spot say why.
pub record Writes (step : Step) (old : WrittenReply) (before : List ℕ) (number : ℕ)
    (spot : ShownSpot) (new : WrittenReply) (after : List ℕ) : Type 0 where
  pub wrote : number ≡ 0 → Wrote old.writer (step ∷ []) new.writer before after
  pub stays : number ≢ 0 → new.writer ≡ old.writer
  pub kept : number ≢ 0 → after ≡ before
  pub why : number ≢ 0 → IsRefused old step number spot
  pub left : columns_given new ≡ columns_left step (columns_given old)

-- the object is a writer of a reply of which this is said
abbrev pub IsWriter : Object → (WrittenReply → Type 0) → Type 0
IsWriter (object.Writer reply) Says = Says reply
IsWriter held Says = ⊥

-- The same of what the handle of the bytes stands for.
abbrev pub WritesTo : Step → WrittenReply → Object → ℕ → ShownSpot → WrittenReply → Object → Type 0
WritesTo step old (object.Bytes before) number spot new after =
    IsBytes after (λ bytes. Writes step old before.items number spot new bytes)
WritesTo step old held number spot new after = (number ≡ code_number (misuse held)) × (new ≡ old) × (after ≡ held)

-- The same of what the other handle stands for: a writer, whose step this is.
abbrev pub WritesFrom : (WrittenReply → Step) → Object → Object → ℕ → ShownSpot → Object → Object → Type 0
WritesFrom step (object.Writer old) before number spot new after =
    IsWriter new (λ reply. WritesTo (step old) old before number spot reply after)
WritesFrom step held before number spot new after = (number ≡ code_number (misuse held)) ×
    (new ≡ held) × (after ≡ before)

-- whether the object is a writer to which fewer columns were given
abbrev pub lacks_columns : Object → ℕ → Bool
lacks_columns (object.Writer reply) params = nat_lt (length reply.columns.items) params
lacks_columns held params = false

-- there are as many columns as are to be parameters
abbrev pub HasEnough : Given → Object → Type 0
HasEnough (given.Prepared statement params) held = lacks_columns held params ≡ false
HasEnough other held = Unit {0}
