-- What a put appends is read as what was put.
use Rattle.std.proofs.Common.{◌≡◌, ℕ, ◌+◌, ◌-◌, ◌≤◌, ◌<◌, Bool, true, false, List, [], ◌∷◌, ◌++◌, Option, Some, None}
use Rattle.std.proofs.Common.{Ok, Err, length, refl, sym, ap, ◌∙◌, arith}
use Rattle.std.specs.Prelude.{nat_le, nat_lt, not, ◌&&◌, if◌then◌else◌, slice_index_or}
use Rattle.std.proofs.lemmas.List.{append-nil}
use Rattle.std.proofs.lemmas.Bool.Decides.{nat_tests}
use Rattle.mysql_authentication.specs.Readings.{early_error_at}
use Rattle.mysql_wire.specs.FirstPacket.{Found, Short, TooLarge, OutOfSync, Whole, first_packet, is_short}
use Rattle.mysql_wire.specs.FirstPacketLaws.{FramingsAreFound}
use Rattle.mysql_fields.specs.Wire.{Reading}
use Rattle.mysql_server_packets.specs.Packets.{ServerError}
use Rattle.mysql_wire.specs.Framing.{framing, number_after}
use Rattle.mysql_connection_rules.specs.declared.fault.Fault.{Fault}
use Rattle.mysql_connection_rules.specs.declared.fault.Fault.TheVariants as faults
use Rattle.mysql_connection_rules.specs.declared.reason.Reason.TheVariants as reasons
use Rattle.mysql_connection_rules.specs.declared.side.Side.{Side}
use Rattle.mysql_connection_rules.specs.declared.side.Side.TheVariants.{Client, Server}
use Rattle.mysql_connection_rules.specs.Events.{Event, side_of}
use Rattle.mysql_connection_rules.specs.Events as events
use Rattle.mysql_connection_rules.specs.Events.Event.{Farewell}
use Rattle.mysql_connection_rules.specs.Standing.{Standing, kept}
use Rattle.mysql_connection_rules.specs.Steps.{Step, over, step, turn}
use Rattle.mysql_connection_rules.specs.Streams.{Piece, World, Next, Waits, Says, come, next, stream_of}
use Rattle.mysql_connection_rules.specs.Streams.{begins_error, client_by, farewell, has_number, is_early, leads_on}
use Rattle.mysql_connection_rules.specs.Streams.{limit_of, moved}
use Rattle.mysql_connection_rules.specs.Streams.{next_by, numbered, room_to_keep, said_by, server_by, words, words_by}
use Rattle.mysql_connection_rules.specs.PuttingMachines.{Puts}
use Rattle.mysql_connection_rules.specs.Puts.{MayBePut, has_ended, is_free, is_none, is_turn, may_end, past, words_at}
use Rattle.mysql_connection_rules.specs.Puts.{words_step}
use Rattle.mysql_connection_rules.specs.AgreementLaws.{PutsAreRead}
use Rattle.mysql_connection_rules.proofs.PutHeads.{has_its_number, is_early_framed, not_early, number_framed}
use Rattle.mysql_connection_rules.proofs.OneStep.{by_early, by_error, by_number, by_room}

-- ---- tests that hold

pub both : (a b : Bool) → (a && b) ≡ true → (a ≡ true) × (b ≡ true)
both true true h = (refl, refl)
both true false h = absurd (cc h)
both false b h = absurd (cc h)

pub free_by : (closed : Bool) (bytes : List ℕ) → (not closed && is_none bytes) ≡ true → (closed ≡ false) × (bytes ≡ [])
free_by false [] h = (refl, refl)
free_by false (byte ∷ bytes) h = absurd (cc h)
free_by true bytes h = absurd (cc h)

pub turn_is : (side : Side) (its : Option Side) → is_turn side its ≡ true → its ≡ Some side
turn_is side None h = absurd (cc h)
turn_is Client (Some Client) h = refl
turn_is Client (Some Server) h = absurd (cc h)
turn_is Server (Some Client) h = absurd (cc h)
turn_is Server (Some Server) h = refl

short_is : (found : Found) → is_short found ≡ true → found ≡ Short
short_is Short h = refl
short_is TooLarge h = absurd (cc h)
short_is (OutOfSync number) h = absurd (cc h)
short_is (Whole payload next rest) h = absurd (cc h)

above_zero : (n : ℕ) → nat_lt 0 n ≡ true → 0 < n
above_zero n h = grind (arith, nat_tests)

fits : (a b : ℕ) → a ≤ b → nat_le a b ≡ true
fits a b h = grind (arith, nat_tests)

-- ---- what is found, and what is left

pub whole_found : FramingsAreFound → (limit number : ℕ) (bytes payload : List ℕ) → bytes ≡ [] →
    number < 256 → length payload ≤ limit
    → first_packet limit number (bytes ++ framing payload number) ≡ Whole payload (number_after payload number) []
whole_found found limit number bytes payload none byte h =
    ap (λ (l : List ℕ). first_packet limit number (l ++ framing payload number)) none
    ∙ ap (first_packet limit number) (sym (append-nil (framing payload number))) ∙ found limit number payload [] byte h

read_all : (read : ℕ) (old bytes : List ℕ) → old ≡ [] → read + (length (old ++ bytes) - 0) ≡ read + length bytes
read_all read old bytes e = ap (λ (l : List ℕ). read + (length (l ++ bytes) - 0)) e ∙ (omega arith)

pub moved_is : (w : World) (side : Side) (number : ℕ) (bytes : List ℕ) (after : Standing) →
    (stream_of side w.unread).bytes ≡ []
    → moved (come side (Piece bytes) w) side number [] after ≡ past w side number bytes after
moved_is w Client number bytes after none = λ i. record {
  limits = w.limits;
  standing = numbered Client number after;
  unread = record {
    client = record {
      read = read_all w.unread.client.read w.unread.client.bytes bytes none i;
      bytes = sym none i;
      closed = w.unread.client.closed;
    };
    server = w.unread.server;
  };
}
moved_is w Server number bytes after none = λ i. record {
  limits = w.limits;
  standing = numbered Server number after;
  unread = record {
    client = w.unread.client;
    server = record {
      read = read_all w.unread.server.read w.unread.server.bytes bytes none i;
      bytes = sym none i;
      closed = w.unread.server.closed;
    };
  };
}

leads : (w : World) (side : Side) (event : Event) (number : ℕ) (bytes : List ℕ) (after : Standing) →
    (stream_of side w.unread).bytes ≡ [] → kept after ≤ room_to_keep w.limits
    → leads_on (come side (Piece bytes) w) side event
    (moved (come side (Piece bytes) w) side number [] after) ≡
    Says event (past w side number bytes after)
leads w side event number bytes after none keeps =
    let new = come side (Piece bytes) w in
    ap (λ (b : Bool). by_room b new side event (moved new side number [] after))
    (fits (kept after) (room_to_keep w.limits) keeps)
    ∙ ap (Says event) (moved_is w side number bytes after none)

past_none : (w : World) (side : Side) (number : ℕ) (bytes : List ℕ) (after : Standing) →
    (stream_of side w.unread).bytes ≡ []
    → (stream_of side (past w side number bytes after).unread).bytes ≡ []
past_none w Client number bytes after none = none
past_none w Server number bytes after none = none

-- ---- a payload of the side whose turn it is

turn_read : FramingsAreFound →
    (w : World) (side : Side) (event : Event) (payload : List ℕ) (after : Standing) →
    w.standing.number < 256 → turn w.standing.phase ≡ Some side
    → (stream_of side w.unread).bytes ≡ [] → step w.standing payload ≡ Ok (event, after) →
    length payload ≤ limit_of side w.limits → kept after ≤ room_to_keep w.limits
    → next (come side (Piece (framing payload w.standing.number)) w)
    ≡ Says event (past w side (number_after payload w.standing.number) (framing payload w.standing.number) after)
turn_read found w Client event payload after byte its none says within keeps =
    let number = w.standing.number in
    let bytes = framing payload number in
    let new = come Client (Piece bytes) w in
    ap (next_by new) its ∙ ap (client_by new)
    (whole_found found w.limits.client number w.unread.client.bytes payload none byte within)
    ∙ ap (said_by new Client (number_after payload number) []) says
    ∙ leads w Client event (number_after payload number) bytes after none keeps
turn_read found w Server event payload after byte its none says within keeps =
    let number = w.standing.number in
    let bytes = framing payload number in
    let new = come Server (Piece bytes) w in
    let all = w.unread.server.bytes ++ bytes in
    ap (next_by new) its
    ∙ ap (λ (b : Bool). by_early b new (first_packet w.limits.server (slice_index_or all 3 0) all)
    (first_packet w.limits.server number all))
    (ap (λ (l : List ℕ). is_early w.standing (l ++ bytes)) none ∙ not_early w.standing payload byte)
    ∙ ap (server_by new) (whole_found found w.limits.server number w.unread.server.bytes payload none byte within)
    ∙ ap (said_by new Server (number_after payload number) []) says
    ∙ leads w Server event (number_after payload number) bytes after none keeps

usual : FramingsAreFound → (w : World) (event : Event) (payload : List ℕ) (after : Standing) → w.standing.number < 256
    → (is_free (stream_of (side_of event) w.unread) && is_turn (side_of event) (turn w.standing.phase)) ≡ true
    → step w.standing payload ≡ Ok (event, after) →
    length payload ≤ limit_of (side_of event) w.limits → kept after ≤ room_to_keep w.limits
    → Puts w event (side_of event) (framing payload w.standing.number)
    (past w (side_of event) (number_after payload w.standing.number) (framing payload w.standing.number) after)
usual found w event payload after byte due says within keeps =
    let side = side_of event in
    let stream = stream_of side w.unread in
    let parts = both (is_free stream) (is_turn side (turn w.standing.phase)) due in
    let free = free_by stream.closed stream.bytes parts.0 in record {
      is_open = free.0;
      none_waits = free.1;
      its_own = refl;
      read = turn_read found w side event payload after byte
          (turn_is side (turn w.standing.phase) parts.1) free.1 says within keeps;
      used = past_none w side (number_after payload w.standing.number) (framing payload w.standing.number) after free.1;
    }

-- ---- last words

farewell_says : (w : World) (number : ℕ) (rest : List ℕ) (read : Reading ServerError)
    (error : ServerError) (after : Standing) → words_at w.standing read ≡ Ok (Farewell error, after)
    → farewell w number rest read ≡ leads_on w Server (Farewell error) (moved w Server number rest after)
farewell_says w number rest (Ok x) error after e =
    let same : (Farewell x.0, over reasons.Farewell w.standing) ≡ (Farewell error, after) = cc e in
    ap (λ (p : Event × Standing). leads_on w Server p.0 (moved w Server number rest p.1)) same
farewell_says w number rest (Err x) error after e = absurd (cc e)

abbrev step_by : Bool → Standing → Reading ServerError → Step
step_by begins s read = if begins then words_at s read else Err faults.Unasked

begins_so : (begins : Bool) (s : Standing) (read : Reading ServerError) (said : Event × Standing) →
    step_by begins s read ≡ Ok said → begins ≡ true
begins_so true s read said e = refl
begins_so false s read said e = absurd (cc e)

words_say : (begins : Bool) (w : World) (fault : Fault) (number : ℕ) (rest : List ℕ)
    (read : Reading ServerError) (error : ServerError) (after : Standing)
    → step_by begins w.standing read ≡ Ok (Farewell error, after)
    → by_error begins w fault number rest read ≡ leads_on w Server (Farewell error) (moved w Server number rest after)
words_say true w fault number rest read error after e = farewell_says w number rest read error after e
words_say false w fault number rest read error after e = absurd (cc e)

-- the packets of an error are read as last words
words_read : FramingsAreFound →
    (w : World) (number : ℕ) (error : ServerError) (payload : List ℕ) (after : Standing) →
    number < 256 → w.unread.server.bytes ≡ []
    → words_step w.standing payload ≡ Ok (Farewell error, after) →
    length payload ≤ w.limits.server → kept after ≤ room_to_keep w.limits
    → words_by (come Server (Piece (framing payload number)) w)
    (first_packet w.limits.server number (w.unread.server.bytes ++ framing payload number))
    ≡ Says (Farewell error) (past w Server (number_after payload number) (framing payload number) after)
words_read found w number error payload after byte none says within keeps =
    let bytes = framing payload number in
    let new = come Server (Piece bytes) w in
    ap (words_by new) (whole_found found w.limits.server number w.unread.server.bytes payload none byte within)
    ∙ words_say (begins_error payload) new faults.Unasked (number_after payload number) []
    (early_error_at payload) error after says
    ∙ leads w Server (Farewell error) (number_after payload number) bytes after none keeps

-- in place of an answer
early_read : FramingsAreFound →
    (w : World) (error : ServerError) (payload : List ℕ) (after : Standing) →
    turn w.standing.phase ≡ Some Server
    → w.standing.answers ≡ true → 0 < w.standing.number → w.unread.server.bytes ≡ []
    → words_step w.standing payload ≡ Ok (Farewell error, after) →
    length payload ≤ w.limits.server → kept after ≤ room_to_keep w.limits
    → next (come Server (Piece (framing payload 0)) w) ≡
    Says (Farewell error) (past w Server (number_after payload 0) (framing payload 0) after)
early_read found w error payload after its answers later none says within keeps =
    let bytes = framing payload 0 in
    let new = come Server (Piece bytes) w in
    let all = w.unread.server.bytes ++ bytes in
    let begins = begins_so (begins_error payload) w.standing (early_error_at payload) (Farewell error, after) says in
    ap (next_by new) its
    ∙ ap (λ (b : Bool). by_early b new (first_packet w.limits.server (slice_index_or all 3 0) all)
    (first_packet w.limits.server w.standing.number all))
    (ap (λ (l : List ℕ). is_early w.standing (l ++ bytes)) none ∙
    is_early_framed w.standing payload answers later begins)
    ∙ ap (λ (n : ℕ). words_by new (first_packet w.limits.server n all))
    (ap (λ (l : List ℕ). slice_index_or (l ++ bytes) 3 0) none ∙ number_framed payload 0 (omega arith))
    ∙ words_read found w 0 error payload after (omega arith) none says within keeps

abbrev by_end : Bool → World → Next
by_end ended w = if ended then words w else Waits

-- behind the end of the client's stream
end_read : FramingsAreFound →
    (w : World) (error : ServerError) (payload : List ℕ) (after : Standing) →
    w.standing.number < 256 → turn w.standing.phase ≡ Some Client
    → has_ended w ≡ true → w.unread.server.bytes ≡ []
    → words_step w.standing payload ≡ Ok (Farewell error, after) →
    length payload ≤ w.limits.server → kept after ≤ room_to_keep w.limits
    → next (come Server (Piece (framing payload w.standing.number)) w)
    ≡ Says (Farewell error) (past w Server (number_after payload w.standing.number)
    (framing payload w.standing.number) after)
end_read found w error payload after byte its ended none says within keeps =
    let number = w.standing.number in
    let bytes = framing payload number in
    let new = come Server (Piece bytes) w in
    let all = w.unread.server.bytes ++ bytes in
    let first = first_packet w.limits.client number w.unread.client.bytes in
    let parts = both w.unread.client.closed (is_short first) ended in
    ap (next_by new) its ∙ ap (client_by new) (short_is first parts.1) ∙ ap (λ (b : Bool). by_end b new) parts.0
    ∙ ap (λ (b : Bool). by_number b new (first_packet w.limits.server number all))
    (ap (λ (l : List ℕ). has_number number (l ++ bytes)) none ∙ has_its_number payload number byte)
    ∙ words_read found w number error payload after byte none says within keeps

-- the number of last words, by whose turn it is
abbrev number_by : World → Option Side → ℕ
number_by w (Some Server) = 0
number_by w its = w.standing.number

last_read : FramingsAreFound →
    (w : World) (its : Option Side) (error : ServerError) (payload : List ℕ) (after : Standing) →
    w.standing.number < 256 → turn w.standing.phase ≡ its
    → may_end w its ≡ true → w.unread.server.bytes ≡ []
    → words_step w.standing payload ≡ Ok (Farewell error, after) →
    length payload ≤ w.limits.server → kept after ≤ room_to_keep w.limits
    → next (come Server (Piece (framing payload (number_by w its))) w)
    ≡ Says (Farewell error) (past w Server (number_after payload (number_by w its))
    (framing payload (number_by w its)) after)
last_read found w None error payload after byte its may none says within keeps = absurd (cc may)
last_read found w (Some Client) error payload after byte its may none says within keeps =
    end_read found w error payload after byte its may none says within keeps
last_read found w (Some Server) error payload after byte its may none says within keeps =
    let parts = both w.standing.answers (nat_lt 0 w.standing.number) may in
    early_read found w error payload after its parts.0 (above_zero w.standing.number parts.1) none says within keeps

last : FramingsAreFound → (w : World) (error : ServerError) (payload : List ℕ) (after : Standing) →
    w.standing.number < 256 → MayBePut w (Farewell error) payload after
    → Puts w (Farewell error) Server (framing payload (number_by w (turn w.standing.phase)))
    (past w Server (number_after payload (number_by w (turn w.standing.phase)))
    (framing payload (number_by w (turn w.standing.phase))) after)
last found w error payload after byte may =
    let its = turn w.standing.phase in
    let number = number_by w its in
    let parts = both (is_free w.unread.server) (may_end w its) may.due in
    let free = free_by w.unread.server.closed w.unread.server.bytes parts.0 in record {
      is_open = free.0;
      none_waits = free.1;
      its_own = refl;
      read = last_read found w its error payload after byte refl parts.1 free.1 may.says may.within may.keeps;
      used = past_none w Server (number_after payload number) (framing payload number) after free.1;
    }

pub puts_are_read : FramingsAreFound → PutsAreRead
puts_are_read found w (events.Greeting said) payload after byte may =
    usual found w (events.Greeting said) payload after byte may.due may.says may.within may.keeps
puts_are_read found w (events.Response said) payload after byte may =
    usual found w (events.Response said) payload after byte may.due may.says may.within may.keeps
puts_are_read found w (events.Authentication said) payload after byte may =
    usual found w (events.Authentication said) payload after byte may.due may.says may.within
    may.keeps
puts_are_read found w (events.Answer bytes) payload after byte may =
    usual found w (events.Answer bytes) payload after byte may.due may.says may.within may.keeps
puts_are_read found w (events.Asked command) payload after byte may =
    usual found w (events.Asked command) payload after byte may.due may.says may.within may.keeps
puts_are_read found w (events.Replied said) payload after byte may =
    usual found w (events.Replied said) payload after byte may.due may.says may.within may.keeps
puts_are_read found w (events.FileData bytes) payload after byte may =
    usual found w (events.FileData bytes) payload after byte may.due may.says may.within may.keeps
puts_are_read found w (Farewell error) payload after byte may = last found w error payload after byte may
