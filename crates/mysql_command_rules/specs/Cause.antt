-- Why sets of a query are not sent: the first cause that holds, in the order of the refusals.
-- MySQL: Client/Server Protocol, "COM_QUERY", "COM_STMT_PREPARE", "COM_STMT_EXECUTE"; MariaDB:
-- Client/Server Protocol, "COM_STMT_BULK_EXECUTE"; `max_allowed_packet` of the MySQL Reference
-- Manual, "Server System Variables".
use Rattle.std.specs.Prelude.{ℕ, ◌+◌, ◌-◌, ◌==◌, Bool, nat_lt, List, [], ◌∷◌, length, Option, None, Some, Ok, Err}
use Rattle.std.specs.Prelude.{if◌then◌else◌}
use Rattle.std.specs.Option.{option_map, option_or}
use Rattle.mysql_values.specs.Value.{Value}
use Rattle.mysql_values.specs.Place.{Place}
use Rattle.mysql_values.specs.Queries.{first_not_alone, is_mixed}
use Rattle.mysql_values.specs.Binding.{values_cause}
use Rattle.mysql_bulk_builder.specs.Causes.{first_some, mixed_kinds, row_too_large}
pub use Rattle.mysql_receive.specs.Query.{max_places}
use Rattle.mysql_receive.specs.Query.{Query, Statement, place_count}
use Rattle.mysql_command_rules.specs.declared.refusal.Refusal.{Refusal}
use Rattle.mysql_command_rules.specs.declared.refusal.Refusal.TheVariants as refusal
use Rattle.mysql_command_rules.specs.declared.road.Road.{Road}
use Rattle.mysql_command_rules.specs.declared.road.Road.TheVariants.{Text, Execute, Bulk}
use Rattle.mysql_command_rules.specs.Commands.{prepare_command}
use Rattle.mysql_command_rules.specs.Sets.{Given, values_of}
use Rattle.mysql_command_rules.specs.Sent.{whole_command}

-- a cause where the test holds
abbrev pub cause_if : Bool → Refusal → Option Refusal
cause_if test cause = if test then Some cause else None

-- what speaks against a set by itself, by the command that carries its values, so many
-- placeholders, and payloads of at most so many bytes: it gives no values, or they are not as many
-- as the placeholders, or one is a float, or the command is too long
abbrev pub set_cause : (List Value → List ℕ) → ℕ → ℕ → ℕ → Given → Option Refusal
set_cause command places room set (Err error) = Some (refusal.Params set error)
set_cause command places room set (Ok values) =
    option_or (values_cause (refusal.WrongCount set) (λ place. refusal.Float set place) places
    values) (cause_if (nat_lt room (length (command values))) (refusal.PacketTooLarge set))

-- the first cause over sets that are numbered on from here
abbrev pub first_of_sets : (ℕ → Given → Option Refusal) → ℕ → List Given → Option Refusal
first_of_sets cause number [] = None
first_of_sets cause number (given ∷ sets) = option_or (cause number given) (first_of_sets cause (number + 1) sets)

-- what speaks against placeholders for literals: both kinds occur, or one does not stand alone
abbrev pub places_cause : List Place → Option Refusal
places_cause places = option_or (cause_if (is_mixed places) refusal.Mixed)
    (option_map (λ place. refusal.NotAlone place) (first_not_alone places))

-- what speaks against preparing a query: both kinds of placeholder occur, they are too many, the prepare is too long
abbrev pub prepare_cause : Query → ℕ → Option Refusal
prepare_cause query room = first_some (
    cause_if (is_mixed query.places) refusal.Mixed ∷
    cause_if (nat_lt max_places (place_count query)) refusal.TooManyPlaces ∷
    cause_if (nat_lt room (length (prepare_command query.parsed))) refusal.PrepareTooLarge ∷ [])

-- what speaks against the query by a road, with payloads of at most so many bytes
abbrev pub query_cause : Road → Statement → ℕ → Option Refusal
query_cause Text statement room = places_cause statement.query.places
query_cause Execute statement room = prepare_cause statement.query room
query_cause Bulk statement room =
    option_or (prepare_cause statement.query room)
    (cause_if (place_count statement.query == 0) refusal.NoPlaces)

-- what speaks against the rows of bulk requests, with payloads of at most so many bytes: a value of
-- another kind than the earlier ones of its column, or a row that no request with types of its own
-- holds
abbrev pub bulk_cause : ℕ → ℕ → List (List Value) → Option Refusal
bulk_cause columns room rows = first_some (
    option_map (λ at. refusal.MixedKinds at.0 at.1) (mixed_kinds rows) ∷
    option_map (λ set. refusal.RowTooLarge set) (row_too_large room columns rows) ∷ [])

-- what speaks against all sets together, which by bulk share requests
abbrev pub sets_cause : Road → Statement → ℕ → List (List Value) → Option Refusal
sets_cause Text statement room sets = None
sets_cause Execute statement room sets = None
sets_cause Bulk statement room sets = bulk_cause (place_count statement.query) room sets

-- The first cause for which sets are not sent by a road: against the query, then set by set, then
-- against all sets together. A packet has four bytes beside its payload.
abbrev pub cause_of : Road → Statement → ℕ → List Given → Option Refusal
cause_of road statement limit sets = first_some (
    query_cause road statement (limit - 4) ∷
    first_of_sets (set_cause (whole_command road statement) (place_count statement.query) (limit - 4)) 0 sets ∷
    sets_cause road statement (limit - 4) (values_of sets) ∷ [])
