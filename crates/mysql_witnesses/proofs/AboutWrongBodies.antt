-- What excludes wrong bodies of a connection's calls.
use Rattle.std.proofs.Common.{◌≡◌, Bool, true, false, ap, refl, sym, arith}
use Rattle.bitflags.proofs.OnLiterals.{bitflags_on_literals}
use Rattle.mysql_buf.specs.Reading.{first}
use Rattle.mysql_cells.specs.Cells.{text_cell_at}
use Rattle.mysql_connection_machine.specs.Machines.{is_row}
use Rattle.mysql_connection_rules.specs.Steps.{step}
use Rattle.mysql_connection_rules.specs.Streams.{Fails, Next, Says, Waits, World}
use Rattle.mysql_connection_state.specs.Views.{event_view}
use Rattle.mysql_execution_writer.specs.Cells.{are_parameters, parameters_bytes}
use Rattle.mysql_execution_writer.specs.Written.{can_be_put, execution_bytes}
use Rattle.mysql_executions.specs.After.{bulk_types}
use Rattle.mysql_executions.specs.Bulks.{bulk_head}
use Rattle.mysql_executions.specs.Types.{type_at, types_read}
use Rattle.mysql_field_lists.specs.Lists.{elements_at}
use Rattle.mysql_stmt.specs.Executions.{null_bitmap, null_bits}
use Rattle.mysql_witnesses.specs.WrongBodies.{AnswersAreNoLastWords, BadEventsAreDue, BulksCarryTheirTypes}
use Rattle.mysql_witnesses.specs.WrongBodies.{FaultsForgetNothing, FetchesAreReadByTheirStatement}
use Rattle.mysql_witnesses.specs.WrongBodies.{LastWordsMayBePut, PacketsAreWaitedFor, ReportsAnswerNothing}
use Rattle.mysql_witnesses.specs.WrongBodies.{ShortRowsAreLent, TypesInForceWillDo}

pub faults_forget_nothing : FaultsForgetNothing
faults_forget_nothing old new fault h = ap (λ (w : World). w.standing.statements) h.same

pub packets_are_waited_for : PacketsAreWaitedFor
packets_are_waited_for fault new h = h.comes refl

pub answers_are_no_last_words : AnswersAreNoLastWords
answers_are_no_last_words s = (refl, refl)

pub last_words_may_be_put : LastWordsMayBePut
last_words_may_be_put w = refl

pub bad_events_are_due : BadEventsAreDue
bad_events_are_due w event cause h = h.0.0

pub types_in_force_will_do : TypesInForceWillDo
unfolding execution_bytes can_be_put parameters_bytes are_parameters null_bitmap null_bits bitflags_on_literals
types_in_force_will_do id = refl

pub bulks_carry_their_types : BulksCarryTheirTypes
unfolding first bulk_types bulk_head types_read type_at bitflags_on_literals
bulks_carry_their_types capabilities = refl

pub fetches_are_read_by_their_statement : FetchesAreReadByTheirStatement
unfolding first
fetches_are_read_by_their_statement s one other command = refl

pub reports_answer_nothing : ReportsAnswerNothing
reports_answer_nothing p report more s = (refl, refl)

is_row_next : Next → Bool
is_row_next (Says event new) = is_row event
is_row_next Waits = false
is_row_next (Fails failure) = false

pub short_rows_are_lent : ShortRowsAreLent
unfolding is_row_next step text_cell_at elements_at bitflags_on_literals
short_rows_are_lent column event new answers =
    let row : true ≡ is_row (event_view event) = ap is_row_next answers.0 in
    absurd (omega (arith, answers.2 (sym row)))
