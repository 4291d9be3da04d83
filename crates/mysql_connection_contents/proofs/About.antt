-- What is sent of sets behind the prepare of their statement is about it, and so it is said where it is put.
use Rattle.std.proofs.Common.{◌≡◌, ◌<◌, ◌^◌, ◌+◌, ℕ, Bool, List, [], ◌∷◌, ◌++◌, Some, map, drop, refl, sym, ap, subst}
use Rattle.std.specs.Prelude.{if◌then◌else◌}
use Rattle.std.specs.List.{AllByRecursion, flat_map}
use Rattle.std.specs.Option.{option_map}
use Rattle.byteorder.specs.Endian.{little_bytes}
use Rattle.mysql_buf.specs.NumberLaws.{little-reads_back}
use Rattle.mysql_bulk_builder.specs.Bulk.{bulk_execution}
use Rattle.mysql_bulk_builder.specs.Cut.{Row, rows_of}
use Rattle.mysql_bulk_builder.specs.TypedCut.{Part, Typed, Typing, Untyped, placed}
use Rattle.mysql_cells.specs.declared.value.Value.{Value}
use Rattle.mysql_cells.specs.declared.value.Value.TheVariants.{Bytes}
use Rattle.mysql_command_rules.proofs.Held.{all_append, all_parts}
use Rattle.mysql_command_rules.specs.Commands.{bulk_request, piece_of, pieces_from}
use Rattle.mysql_command_rules.specs.Sent.{SentPayload, payloads_of}
use Rattle.mysql_command_rules.specs.declared.road.Road.TheVariants.{Bulk, Execute, Text}
use Rattle.mysql_commands.specs.Replies.{id_at}
use Rattle.mysql_connection_contents.proofs.Commanding.{sent_packets_are_about}
use Rattle.mysql_connection_contents.proofs.Commands.{either}
use Rattle.mysql_connection_contents.proofs.Further.{payloads_are}
use Rattle.mysql_connection_contents.specs.PacketLaws.{FurtherSetsAreOf, IsOf, PutPacketsAreAbout, SentSetsAreOf}
use Rattle.mysql_connection_machine.specs.Laws.{SentPacketsArePut}
use Rattle.mysql_connection_rules.specs.declared.side.Side.TheVariants.{Client}
use Rattle.mysql_receive.specs.Query.{Statement, place_count}
use Rattle.mysql_send.specs.Executions.{execution_payloads}
use Rattle.mysql_stmt.specs.Commands.{long_data}
use Rattle.mysql_stmt.specs.Executions.{execute_command, execution, needs_long_data}
use Rattle.mysql_wire.specs.Stream.Numbering.{EachFromZero}

-- ---- payloads

named : (id : ℕ) (rest : List ℕ) → id < 2 ^ 32 → id_at (little_bytes 4 id ++ rest) ≡ Some id
named id rest small = ap (option_map (λ (x : ℕ × List ℕ). x.0)) (little-reads_back 4 id rest small)

execution_is_of : (id : ℕ) (values : List Value) (apart : Bool) → id < 2 ^ 32 →
    IsOf id (execute_command id values apart)
unfolding execution
execution_is_of id values apart small = record { about = refl; names = named id _ small }

piece_is_of : (id place : ℕ) (value : Value) → id < 2 ^ 32 → AllByRecursion (IsOf id) (piece_of id place value)
unfolding long_data
piece_is_of id place (Bytes bytes) small = (record { about = refl; names = named id _ small }, tt)
piece_is_of id place value small = tt

pieces_are_of : (id place : ℕ) (values : List Value) → id < 2 ^ 32 →
    AllByRecursion (IsOf id) (pieces_from id place values)
unfolding pieces_from
pieces_are_of id place [] small = tt
pieces_are_of id place (value ∷ values) small =
    all_append (IsOf id) (piece_of id place value) (pieces_from id (place + 1) values)
    (piece_is_of id place value small) (pieces_are_of id (place + 1) values small)

request_is_of : (id columns : ℕ) (rows : List Row) (start : ℕ) (typing : Typing) (count : ℕ) →
    id < 2 ^ 32 → IsOf id (bulk_request id columns rows start typing count)
unfolding bulk_execution
request_is_of id columns rows start Typed count small = record { about = refl; names = named id _ small }
request_is_of id columns rows start Untyped count small = record { about = refl; names = named id _ small }

-- ---- sets

set_is_of : (id : ℕ) (values : List Value) → id < 2 ^ 32 → AllByRecursion (IsOf id) (execution_payloads id values)
set_is_of id values small =
    all_append (IsOf id) (if needs_long_data values then pieces_from id 0 values else [])
    (execute_command id values (needs_long_data values) ∷ [])
    (either (AllByRecursion (IsOf id)) (needs_long_data values) (pieces_from id 0 values) []
    (λ is. pieces_are_of id 0 values small) (λ is. tt))
    (execution_is_of id values (needs_long_data values) small, tt)

pub further_sets_are_of : FurtherSetsAreOf
further_sets_are_of id [] small = tt
further_sets_are_of id (values ∷ sets) small =
    all_append (IsOf id) (execution_payloads id values) (flat_map (execution_payloads id) sets)
    (set_is_of id values small) (further_sets_are_of id sets small)

requests_are_of : (statement : Statement) (sets : List Row) (parts : List (ℕ × Part)) →
    statement.id < 2 ^ 32 → AllByRecursion (IsOf statement.id)
    (payloads_of (map (λ (p : ℕ × Part). record {
      payload = bulk_request statement.id (place_count statement.query) sets p.0 p.1.typing p.1.count;
      sets = rows_of sets p.0 p.1.count;
    }) parts))
requests_are_of statement sets [] small = tt
requests_are_of statement sets (p ∷ parts) small = (
  request_is_of statement.id (place_count statement.query) sets p.0 p.1.typing p.1.count small,
  requests_are_of statement sets parts small,
)

pub sent_sets_are_of : SentSetsAreOf
sent_sets_are_of Text statement room values sent by small are = absurd by
sent_sets_are_of Execute statement room values sent by small are =
    subst (λ (l : List SentPayload). AllByRecursion (IsOf statement.id) (drop 1 (payloads_of l))) (sym are)
    (subst (AllByRecursion (IsOf statement.id)) (sym (payloads_are statement values))
    (further_sets_are_of statement.id values small))
sent_sets_are_of Bulk statement room values sent by small are =
    subst (λ (l : List SentPayload). AllByRecursion (IsOf statement.id) (drop 1 (payloads_of l)))
    (sym are.2) (requests_are_of statement values (placed are.0) small)

-- ---- packets

pub put_packets_are_about : SentPacketsArePut → PutPacketsAreAbout
put_packets_are_about puts begun streams xs old new payloads before behind used id spoken due small are within did =
    let put = puts old Client payloads EachFromZero before used new behind within did in record {
      put = put;
      said = sent_packets_are_about begun streams xs old new put.taken before behind id spoken due small
          (all_parts (IsOf id) put.taken put.left (subst (AllByRecursion (IsOf id)) put.parts are)).0 put.puts;
    }
