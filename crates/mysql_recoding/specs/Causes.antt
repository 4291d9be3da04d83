-- Why a stream is not recoded: the first cause that holds, in the order of the errors. MySQL:
-- Client/Server Protocol, "COM_STMT_PREPARE", "COM_STMT_EXECUTE"; `max_allowed_packet` of the MySQL
-- Reference Manual, "Server System Variables".
use Rattle.std.specs.Prelude.{ℕ, List, [], ◌∷◌, map, Option, None, Some, Ok, if◌then◌else◌}
use Rattle.std.specs.Option.{option_map}
use Rattle.mysql_values.specs.Contents.{content_value}
use Rattle.mysql_values.specs.Queries.{is_mixed}
use Rattle.mysql_values.specs.Value.{Value}
use Rattle.mysql_bulk_builder.specs.Causes.{first_some}
use Rattle.mysql_receive.specs.Audit.{Audit}
use Rattle.mysql_receive.specs.Reading.{Set}
use Rattle.mysql_receive.specs.declared.audit.End.{End}
use Rattle.mysql_receive.specs.declared.audit.End.TheVariants as ends
use Rattle.mysql_receive.specs.Query.{Statement}
use Rattle.mysql_command_rules.specs.Cause.{cause_of}
use Rattle.mysql_command_rules.specs.declared.refusal.Refusal.{Refusal}
use Rattle.mysql_command_rules.specs.declared.refusal.Refusal.TheVariants as refusals
use Rattle.mysql_command_rules.specs.declared.road.Road.TheVariants.{Execute}
use Rattle.mysql_recoding.specs.declared.errors.RecodeError.{RecodeError}
use Rattle.mysql_recoding.specs.declared.errors.RecodeError.TheVariants.{Mixed, Stream, Unfinished, TooManyPlaces}
use Rattle.mysql_recoding.specs.declared.errors.RecodeError.TheVariants.{PrepareTooLarge, PacketTooLarge, Memory}

-- the values that sets of contents are sent as: NULL, a number as Int where it fits, else UInt, bytes
abbrev pub values_of_sets : List Set → List (List Value)
values_of_sets sets = map (map content_value) sets

-- what speaks against how the stream ends: a fault, or that it isn't whole
abbrev pub ending_cause : End → Option RecodeError
ending_cause (ends.Fault payload fault) = Some (Stream payload fault)
ending_cause ends.WaitingPieces = Some (Unfinished ends.WaitingPieces)
ending_cause ends.UnfinishedPacket = Some (Unfinished ends.UnfinishedPacket)
ending_cause ends.Whole = None

-- The error for a refusal of what a stream carries. Other refusals than these four and Memory never
-- come: what it carries fills the placeholders and holds no float.
abbrev pub error_for : Refusal → RecodeError
error_for refusals.Mixed = Mixed
error_for refusals.TooManyPlaces = TooManyPlaces
error_for refusals.PrepareTooLarge = PrepareTooLarge
error_for (refusals.PacketTooLarge set) = PacketTooLarge set
error_for _ = Memory

-- The first cause for which a stream that says this of the statement's query is not recoded: both
-- kinds of placeholder occur, how it ends, then the first cause for which its sets are not sent by
-- execute.
abbrev pub recoding_cause : Statement → ℕ → Audit → Option RecodeError
recoding_cause statement limit audit = first_some (
    (if is_mixed statement.query.places then Some Mixed else None) ∷
    ending_cause audit.ending ∷
    option_map error_for (cause_of Execute statement limit (map Ok (values_of_sets audit.sets))) ∷ [])
