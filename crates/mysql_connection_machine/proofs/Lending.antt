-- Each row of one chunk is lent: any other event is no row, or has more chunks.
use Rattle.std.proofs.Common.{◌≡◌, ℕ, Bool, true, false, List, Option, Some, None, Result, Ok, Err}
use Rattle.std.proofs.Common.{refl, sym, ap, subst, ◌∙◌, if◌then◌else◌, inl, inr, slice_index_or}
use Rattle.std.specs.declared.borrow.CowSlice.{CowSlice}
use Rattle.std.specs.declared.borrow.CowSlice.TheVariants as slice
use Rattle.mysql_authentication.specs.Readings.{early_error_at}
use Rattle.mysql_fields.specs.Wire.{Reading}
use Rattle.mysql_server_packets.specs.Packets.{ServerError}
use Rattle.mysql_wire.specs.FirstPacket.{Found, OutOfSync, Short, TooLarge, Whole, first_packet}
use Rattle.mysql_wire.specs.OneChunk.{HasOtherChunks}
use Rattle.mysql_wire.specs.Views.{HasManyChunks}
use Rattle.mysql_connection_rules.specs.declared.fault.Fault.{Fault}
use Rattle.mysql_connection_rules.specs.declared.fault.Fault.TheVariants as faults
use Rattle.mysql_connection_rules.specs.declared.side.Side.{Side}
use Rattle.mysql_connection_rules.specs.declared.side.Side.TheVariants.{Server}
use Rattle.mysql_connection_rules.specs.Events.{Event, side_of}
use Rattle.mysql_connection_rules.specs.Events as events
use Rattle.mysql_connection_rules.specs.Laws.{EventsAreInTurn}
use Rattle.mysql_connection_rules.specs.Steps.{turn}
use Rattle.mysql_connection_rules.specs.Streams.{Fails, Failure, Says, World, begins_error, fails, farewell}
use Rattle.mysql_connection_rules.specs.Streams.{is_early, next, next_by, server_by, words_by}
use Rattle.mysql_connection_machine.specs.Machines.{RowHasManyChunks, is_row}
use Rattle.mysql_connection_machine.specs.Takes.{FindsIn, IsLentOrOf, IsLentWhereOne}
use Rattle.mysql_connection_machine.specs.declared.taking.Packet.{Packet}

-- ---- packets

many : (found : Found) (payload : List ℕ) (number : ℕ) (rest : List ℕ) → HasOtherChunks found →
    found ≡ Whole payload number rest → HasManyChunks found
many Short payload number rest other is = absurd (cc is)
many TooLarge payload number rest other is = absurd (cc is)
many (OutOfSync due) payload number rest other is = absurd (cc is)
many (Whole has due left) payload number rest other is = other

of_many : {Z : Type 0} → (found : Found) (payload : CowSlice ℕ Z) → HasManyChunks found → IsLentOrOf found payload
of_many found (slice.Borrowed payload) has = tt
of_many found (slice.Owned payload) has = has

-- a packet that isn't found as one chunk has many
pub joined_of_many : (limit number : ℕ) (bytes : List ℕ) (result : Result (Option Packet) Fault) →
    HasOtherChunks (first_packet limit number bytes) → FindsIn limit number bytes result →
    IsLentWhereOne (first_packet limit number bytes) result
joined_of_many limit number bytes (Ok None) other finds = tt
joined_of_many limit number bytes (Ok (Some packet)) other finds =
    of_many (first_packet limit number bytes) packet.payload
    (many (first_packet limit number bytes) _ _ _ other finds.0)
joined_of_many limit number bytes (Err fault) other finds = tt

-- ---- events

pub no_row_lent : (event : Event) (found : Found) → is_row event ≡ false → RowHasManyChunks event found
no_row_lent event found never = λ yes. let both : true ≡ false = sym yes ∙ never in absurd (cc both)

led : (b : Bool) (error : ServerError) (to new : World) (failure : Failure) (event : Event) →
    (if b then Says (events.Farewell error) to else Fails failure) ≡ Says event new → is_row event ≡ false
led true error to new failure event e =
    let same : events.Farewell error ≡ event = cc e in ap is_row (sym same)
led false error to new failure event e = absurd (cc e)

said : (w new : World) (number : ℕ) (rest : List ℕ) (begins : Bool) (read : Reading ServerError) (event : Event) →
    (if begins then farewell w number rest read else fails w Server faults.Unasked) ≡ Says event new →
    is_row event ≡ false
said w new number rest true (Ok error) event e = led _ error.0 _ new _ event e
said w new number rest true (Err fault) event e = absurd (cc e)
said w new number rest false read event e = absurd (cc e)

-- last words are no row
words_said : (w new : World) (found : Found) (event : Event) → words_by w found ≡ Says event new → is_row event ≡ false
words_said w new Short event e = absurd (cc e)
words_said w new TooLarge event e = absurd (cc e)
words_said w new (OutOfSync number) event e = absurd (cc e)
words_said w new (Whole payload number rest) event e =
    said w new number rest (begins_error payload) (early_error_at payload) event e

early_said : (w new : World) (event : Event) → turn w.standing.phase ≡ Some Server →
    is_early w.standing w.unread.server.bytes ≡ true → next w ≡ Says event new → is_row event ≡ false
early_said w new event its early e =
    let bytes = w.unread.server.bytes in
    let low = first_packet w.limits.server (slice_index_or bytes 3 0) bytes in
    let due = first_packet w.limits.server w.standing.number bytes in
    words_said w new low event
    (subst (λ (b : Bool). (if b then words_by w low else server_by w due) ≡ Says event new) early
    (subst (λ (s : Option Side). next_by w s ≡ Says event new) its e))

in_turn : (w new : World) (event : Event) → turn w.standing.phase ≡ Some (side_of event) →
    (turn w.standing.phase ≡ Some Server → is_early w.standing w.unread.server.bytes ≡ true) →
    next w ≡ Says event new → is_row event ≡ false
in_turn w new (events.Greeting said) its early e = refl
in_turn w new (events.Response said) its early e = refl
in_turn w new (events.Authentication said) its early e = refl
in_turn w new (events.Answer bytes) its early e = refl
in_turn w new (events.Asked command) its early e = refl
in_turn w new (events.Replied said) its early e = early_said w new (events.Replied said) its (early its) e
in_turn w new (events.FileData bytes) its early e = refl
in_turn w new (events.Farewell error) its early e = refl

others_no_row : EventsAreInTurn → (w new : World) (event : Event) →
    (turn w.standing.phase ≡ Some Server → is_early w.standing w.unread.server.bytes ≡ true) →
    next w ≡ Says event new → is_row event ≡ false
others_no_row law w new event early e = elim (law w new event e) [
  | inl its ↦ in_turn w new event its early e
  | inr words ↦ ap is_row words.1
]

-- an event of the client's, or the server's last words, is no row
pub others_lent : EventsAreInTurn → (w new : World) (event : Event) (found : Found) →
    (turn w.standing.phase ≡ Some Server → is_early w.standing w.unread.server.bytes ≡ true) →
    next w ≡ Says event new → RowHasManyChunks event found
others_lent law w new event found early e = no_row_lent event found (others_no_row law w new event early e)
