-- Last words: nothing is said behind them, and only they may stand where nothing was asked.
use Rattle.std.proofs.Common.{◌≡◌, ℕ, zero, suc, ◌<◌, Bool, true, false, List, [], ◌∷◌, ◌++◌, Option, Some, None}
use Rattle.std.proofs.Common.{Result, Ok, Err, length, take, drop}
use Rattle.std.proofs.Common.{refl, sym, subst, ◌∙◌, arith}
use Rattle.std.specs.Prelude.{slice_index_or, nat_le, nat_lt, not, ◌==◌, ◌&&◌, ◌/◌, ◌+◌}
use Rattle.std.proofs.lemmas.Bool.Decides.{nat_tests}
use Rattle.mysql_wire.specs.FirstPacket.{Found, Short, TooLarge, OutOfSync, Whole, announced, by_tests, first_packet}
use Rattle.mysql_wire.specs.FirstPacket.{next_number, packet_by, with_chunk}
use Rattle.mysql_fields.specs.Wire.{Reading}
use Rattle.mysql_wire.specs.Framing.{max_payload_len}
use Rattle.mysql_server_packets.specs.Packets.{ServerError}
use Rattle.mysql_authentication.specs.Readings.{early_error_at}
use Rattle.mysql_connection_rules.specs.declared.fault.Fault.{Fault}
use Rattle.mysql_connection_rules.specs.declared.fault.Fault.TheVariants as faults
use Rattle.mysql_connection_rules.specs.declared.reason.Reason.TheVariants as reasons
use Rattle.mysql_connection_rules.specs.declared.side.Side.{Side}
use Rattle.mysql_connection_rules.specs.declared.side.Side.TheVariants.{Client, Server}
use Rattle.mysql_connection_rules.specs.Events.{Event, Farewell}
use Rattle.mysql_connection_rules.specs.Standing.{Standing, kept}
use Rattle.mysql_connection_rules.specs.Steps.{over, step, turn}
use Rattle.mysql_connection_rules.specs.Streams.{World, Next, Waits, Says, Fails, next}
use Rattle.mysql_connection_rules.specs.Streams.{begins_error, carries_error, client_by, farewell, has_no_bytes}
use Rattle.mysql_connection_rules.specs.Streams.{has_number, is_early, moved}
use Rattle.mysql_connection_rules.specs.Streams.{next_by, numbered, room_to_keep, said_by, server_by, words_by}
use Rattle.mysql_connection_rules.specs.Laws.{LastWordsAreLast, UnaskedIsBehindTheEnd}
use Rattle.mysql_connection_rules.proofs.Heads.{header_at}
use Rattle.mysql_connection_rules.proofs.OneStep.{by_room, by_error, by_number, by_early, by_end}
use Rattle.mysql_connection_rules.proofs.Said.{SaidWell, step_well}
use Rattle.mysql_connection_rules.proofs.Putting.{both}

-- ---- where an error's header and its first byte stand, the payload begins an error

abbrev BeginsError : Found → Type 0
BeginsError Short = Unit {0}
BeginsError TooLarge = Unit {0}
BeginsError (OutOfSync number) = Unit {0}
BeginsError (Whole payload number rest) = begins_error payload ≡ true

is_error : (n e : ℕ) (bytes more : List ℕ) → 0 < n → (e == 255) ≡ true →
    begins_error (take n (e ∷ bytes) ++ more) ≡ true
is_error zero e bytes more h is = absurd (omega arith)
is_error (suc n) e bytes more h is = is

is_error_alone : (n e : ℕ) (bytes : List ℕ) → 0 < n → (e == 255) ≡ true → begins_error (take n (e ∷ bytes)) ≡ true
is_error_alone zero e bytes h is = absurd (omega arith)
is_error_alone (suc n) e bytes h is = is

chunk_begins : (n e : ℕ) (bytes : List ℕ) (found : Found) → 0 < n → (e == 255) ≡ true →
    BeginsError (with_chunk (take n (e ∷ bytes)) found)
chunk_begins n e bytes Short h is = tt
chunk_begins n e bytes TooLarge h is = tt
chunk_begins n e bytes (OutOfSync number) h is = tt
chunk_begins n e bytes (Whole payload number rest) h is = is_error n e bytes payload h is

tests_begin : (long whole due full : Bool) (n d e next : ℕ) (bytes rest : List ℕ) (more : Found) →
    0 < n → (e == 255) ≡ true
    → BeginsError (by_tests long whole due full d (take n (e ∷ bytes)) next rest more)
tests_begin true whole due full n d e next bytes rest more h is = tt
tests_begin false false due full n d e next bytes rest more h is = tt
tests_begin false true false full n d e next bytes rest more h is = tt
tests_begin false true true false n d e next bytes rest more h is = is_error_alone n e bytes h is
tests_begin false true true true n d e next bytes rest more h is = chunk_begins n e bytes more h is

some_bytes : (a b c : ℕ) → not (has_no_bytes (a ∷ b ∷ c ∷ [])) ≡ true → 0 < announced a b c
some_bytes a b c h = grind (arith, nat_tests)

error_begins : (limit number : ℕ) (bytes : List ℕ) → carries_error bytes ≡ true →
    BeginsError (first_packet limit number bytes)
error_begins limit number [] h = absurd (cc h)
error_begins limit number (a ∷ []) h = absurd (cc h)
error_begins limit number (a ∷ b ∷ []) h = absurd (cc h)
error_begins limit number (a ∷ b ∷ c ∷ []) h = absurd (cc h)
error_begins limit number (a ∷ b ∷ c ∷ d ∷ []) h = absurd (cc h)
error_begins limit number (a ∷ b ∷ c ∷ d ∷ e ∷ bytes) h =
    let n = announced a b c in
    let more = e ∷ bytes in
    let carried = both (nat_lt 4 (length (a ∷ b ∷ c ∷ d ∷ more)))
    (not (has_no_bytes (a ∷ b ∷ c ∷ [])) && (e == 255)) h in
    let error = both (not (has_no_bytes (a ∷ b ∷ c ∷ []))) (e == 255) carried.1 in
    subst BeginsError (sym (header_at limit number a b c d more))
    (tests_begin (nat_lt limit (0 + n)) (nat_le n (length more)) (d == number)
    (n == max_payload_len) n d e (next_number number) bytes (drop n more)
    (packet_by (limit / max_payload_len) limit (0 + n) (next_number number) (drop n more))
    (some_bytes a b c error.0) error.1)

early_begins : (s : Standing) (limit number : ℕ) (bytes : List ℕ) → is_early s bytes ≡ true →
    BeginsError (first_packet limit number bytes)
early_begins s limit number bytes h =
    let early = carries_error bytes && nat_lt (slice_index_or bytes 3 0) s.number in
    error_begins limit number bytes
    (both (carries_error bytes) (nat_lt (slice_index_or bytes 3 0) s.number)
    (both s.answers early h).1).0

-- ---- what comes next

abbrev HasEnded : World → Option Side → Type 0
HasEnded w its = (its ≡ Some Client) × (w.unread.client.closed ≡ true)

abbrev Closes : World → Option Side → Next → Type 0
Closes w its Waits = Unit {0}
Closes w its (Says event mid) = (error : ServerError) → event ≡ Farewell error → next mid ≡ Waits
Closes w its (Fails failure) = failure.fault ≡ faults.Unasked → HasEnded w its

room_closes : (fits : Bool) (w : World) (its : Option Side) (own : Side) (event : Event)
    (mid : World) → ((error : ServerError) → event ≡ Farewell error → next mid ≡ Waits)
    → Closes w its (by_room fits w own event mid)
room_closes true w its own event mid h = h
room_closes false w its own event mid h = λ e. absurd (cc e)

said_closes : (w : World) (its : Option Side) (own : Side) (number : ℕ) (rest : List ℕ)
    (said : Result (Event × Standing) Fault) → SaidWell said
    → Closes w its (said_by w own number rest said)
said_closes w its own number rest (Ok said) h =
    room_closes (nat_le (kept (numbered own number said.1)) (room_to_keep w.limits)) w its own
    said.0 (moved w own number rest said.1) (λ error e. absurd (h error e))
said_closes w its own number rest (Err fault) h = λ e. absurd (h e)

farewell_closes : (w : World) (its : Option Side) (number : ℕ) (rest : List ℕ)
    (error : Reading ServerError) → Closes w its (farewell w number rest error)
farewell_closes w its number rest (Ok error) =
    let s = over reasons.Farewell w.standing in
    room_closes (nat_le (kept (numbered Server number s)) (room_to_keep w.limits)) w its Server
    (Farewell error.0) (moved w Server number rest s) (λ error e. refl)
farewell_closes w its number rest (Err e) = λ e. absurd (cc e)

error_closes : (begins : Bool) (w : World) (its : Option Side) (number : ℕ) (rest : List ℕ)
    (error : Reading ServerError) → (begins ≡ false → HasEnded w its)
    → Closes w its (by_error begins w faults.Unasked number rest error)
error_closes true w its number rest error h = farewell_closes w its number rest error
error_closes false w its number rest error h = λ e. h refl

abbrev MayStand : World → Option Side → Found → Type 0
MayStand w its Short = Unit {0}
MayStand w its TooLarge = Unit {0}
MayStand w its (OutOfSync number) = Unit {0}
MayStand w its (Whole payload number rest) = begins_error payload ≡ false → HasEnded w its

words_close : (w : World) (its : Option Side) (found : Found) → MayStand w its found → Closes w its (words_by w found)
words_close w its Short h = tt
words_close w its TooLarge h = λ e. absurd (cc e)
words_close w its (OutOfSync number) h = λ e. absurd (cc e)
words_close w its (Whole payload number rest) h =
    error_closes (begins_error payload) w its number rest (early_error_at payload) h

ended_may : (w : World) (its : Option Side) (found : Found) → HasEnded w its → MayStand w its found
ended_may w its Short h = tt
ended_may w its TooLarge h = tt
ended_may w its (OutOfSync number) h = tt
ended_may w its (Whole payload number rest) h = λ e. h

error_may : (w : World) (its : Option Side) (found : Found) → BeginsError found → MayStand w its found
error_may w its Short h = tt
error_may w its TooLarge h = tt
error_may w its (OutOfSync number) h = tt
error_may w its (Whole payload number rest) h = λ e. absurd (cc (sym h ∙ e))

number_closes : (w : World) (its : Option Side) (due : Bool) (found : Found) → HasEnded w its →
    Closes w its (by_number due w found)
number_closes w its true found h = words_close w its found (ended_may w its found h)
number_closes w its false found h = tt

end_closes : (w : World) (ended : Bool) → w.unread.client.closed ≡ ended → Closes w (Some Client) (by_end ended w)
end_closes w true e =
    let n = w.standing.number in
    let bytes = w.unread.server.bytes in
    number_closes w (Some Client) (has_number n bytes) (first_packet w.limits.server n bytes) (refl, e)
end_closes w false e = tt

client_closes : (w : World) (found : Found) → turn w.standing.phase ≡ Some Client →
    Closes w (Some Client) (client_by w found)
client_closes w Short e = end_closes w w.unread.client.closed refl
client_closes w TooLarge e = λ e. absurd (cc e)
client_closes w (OutOfSync number) e = λ e. absurd (cc e)
client_closes w (Whole payload number rest) e =
    said_closes w (Some Client) Client number rest (step w.standing payload)
    (step_well w.standing payload Client e)

server_closes : (w : World) (found : Found) → turn w.standing.phase ≡ Some Server →
    Closes w (Some Server) (server_by w found)
server_closes w Short e = tt
server_closes w TooLarge e = λ e. absurd (cc e)
server_closes w (OutOfSync number) e = λ e. absurd (cc e)
server_closes w (Whole payload number rest) e =
    said_closes w (Some Server) Server number rest (step w.standing payload)
    (step_well w.standing payload Server e)

either_closes : (w : World) (early : Bool) (found due : Found) → turn w.standing.phase ≡
    Some Server → (early ≡ true → BeginsError found)
    → Closes w (Some Server) (by_early early w found due)
either_closes w true found due e begins =
    words_close w (Some Server) found (error_may w (Some Server) found (begins refl))
either_closes w false found due e begins = server_closes w due e

turn_closes : (w : World) (its : Option Side) → turn w.standing.phase ≡ its → Closes w its (next_by w its)
turn_closes w None e = tt
turn_closes w (Some Client) e = client_closes w (first_packet w.limits.client w.standing.number w.unread.client.bytes) e
turn_closes w (Some Server) e =
    let s = w.standing in
    let limit = w.limits.server in
    let bytes = w.unread.server.bytes in
    let early = slice_index_or bytes 3 0 in
    either_closes w (is_early s bytes) (first_packet limit early bytes)
    (first_packet limit s.number bytes) e (early_begins s limit early bytes)

pub last_words_are_last : LastWordsAreLast
last_words_are_last old new error e =
    let its = turn old.standing.phase in
    subst (Closes old its) e (turn_closes old its refl) error refl

pub unasked_is_behind_the_end : UnaskedIsBehindTheEnd
unasked_is_behind_the_end w failure e =
    let its = turn w.standing.phase in
    subst (Closes w its) e (turn_closes w its refl)
