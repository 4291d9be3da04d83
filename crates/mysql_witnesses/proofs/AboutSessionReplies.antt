-- Events that aren't put.
use Rattle.std.proofs.Common.{◌≡◌, ℕ, Bool, true, false, List, [], ◌∷◌, Some, Ok, Err, is_some, ap, subst, ◌+◌, ◌/◌}
use Rattle.std.proofs.Common.{◌%◌}
use Rattle.bitflags.proofs.OnLiterals.{bitflags_on_literals}
use Rattle.mysql_buf.specs.Reading.{first}
use Rattle.mysql_ok_packets.specs.OkPackets.{info_at, ok_packet_at, status_and_info_at}
use Rattle.mysql_ok_packets.specs.Written.{info_bytes, ok_packet_bytes}
use Rattle.mysql_reply_events.specs.Events.{Event, ReplySoFar}
use Rattle.mysql_reply_events.specs.Events.Awaited.{First}
use Rattle.mysql_reply_events.specs.Events.Event.{LineEvent, OkEvent}
use Rattle.mysql_reply_events.specs.Reader.{ReaderState}
use Rattle.mysql_reply_events.specs.Table.{Step, event_at}
use Rattle.mysql_witnesses.specs.SessionReplies.{EmptyInfosAreNotPut, EventsThatReadOtherwiseAreNotPut}
use Rattle.mysql_witnesses.specs.SessionReplies.{NothingIsBadWhereNothingIsDue, NumbersCountChunks}
use Rattle.mysql_witnesses.specs.SessionReplies.{ok_with, reader_awaiting}

has_info : Event → Bool
has_info (OkEvent ok) = is_some ok.info
has_info event = false

is_line : Event → Bool
is_line (LineEvent bytes) = true
is_line event = false

tells : (Event → Bool) → Step → Bool
tells test (Ok x) = test x.0
tells test (Err fault) = false

read_of : (reader : ReaderState) (event : Event) (next : ReplySoFar) (written payload : List ℕ) →
    Some written ≡ Some payload
    → event_at reader.context reader.so_far payload ≡ Ok (event, next) →
    event_at reader.context reader.so_far written ≡ Ok (event, next)
read_of reader event next written payload e h = let f : payload ≡ written = cc in
    subst (λ (p : List ℕ). event_at reader.context reader.so_far p ≡ Ok (event, next)) f h

pub empty_infos_are_not_put : EmptyInfosAreNotPut
unfolding has_info tells ok_packet_bytes info_bytes ok_packet_at status_and_info_at info_at first bitflags_on_literals
empty_infos_are_not_put new before after h =
    let e : false ≡ true = ap (tells has_info)
    (read_of (reader_awaiting First) (OkEvent (ok_with (Some []))) new.so_far (0 ∷ 0 ∷ 0 ∷ 0 ∷
    0 ∷ 0 ∷ 0 ∷ []) h.payload h.is_payload h.reads) in cc

pub events_that_read_otherwise_are_not_put : EventsThatReadOtherwiseAreNotPut
unfolding is_line tells
events_that_read_otherwise_are_not_put new before after h =
    let e : false ≡ true = ap (tells is_line)
    (read_of (reader_awaiting First) (LineEvent (251 ∷ [])) new.so_far (251 ∷
    []) h.payload h.is_payload h.reads) in cc

pub nothing_is_bad_where_nothing_is_due : NothingIsBadWhereNothingIsDue
nothing_is_bad_where_nothing_is_due event h = let e : false ≡ true = h.0 in cc

pub numbers_count_chunks : NumbersCountChunks
numbers_count_chunks payload e = ap (λ n. (0 + (n / 16777215 + 1)) % 256) e
