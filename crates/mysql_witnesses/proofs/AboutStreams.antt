-- Full chunks, pieces that fit, commands that came together, turns and ends.
use Rattle.std.proofs.Common.{◌≡◌, ℕ, Bool, true, false, List, [], ◌∷◌, length, refl, sym, ap, ◌∙◌, arith}
use Rattle.std.specs.Prelude.{nat_le, take, drop}
use Rattle.mysql_connection_machine.specs.Machines.{turn_by}
use Rattle.mysql_wire.specs.FirstPacket.{Short, by_tests, packet_by}
use Rattle.mysql_connection_rules.specs.Steps.{step}
use Rattle.mysql_connection_rules.specs.Streams.{Fails, Next, Says, Stream, Waits, nothing_came}
use Rattle.mysql_wire.specs.Framing.{max_payload_len}
use Rattle.mysql_witnesses.specs.Streams.{FullChunksGoOn, PipelinedCommandsWait, TurnsAreOfPhases}
use Rattle.mysql_witnesses.specs.Streams.{WhatComesNextIsUnread, WhatFitsIsTaken}

full_alone : (whole : Bool) (front rest : List ℕ) → whole ≡ true → rest ≡ [] →
    by_tests false whole true true 0 front 1 rest (packet_by 1 max_payload_len max_payload_len 1 rest) ≡ Short
full_alone true front [] e f = refl
full_alone true front (b ∷ rest) e f = cc
full_alone false front rest e f = cc

none_behind : (bytes : List ℕ) → drop (length bytes) bytes ≡ []
none_behind [] = refl
none_behind (b ∷ bytes) = none_behind bytes

pub full_chunks_go_on : FullChunksGoOn
full_chunks_go_on bytes e =
    full_alone (nat_le max_payload_len (length bytes)) (take max_payload_len bytes) (drop max_payload_len bytes)
    (ap (nat_le max_payload_len) e) (sym (ap (λ n. drop n bytes) e) ∙ none_behind bytes)

client_behind : Next → Stream
client_behind Waits = nothing_came
client_behind (Says event new) = new.unread.client
client_behind (Fails failure) = nothing_came

pub pipelined_commands_wait : PipelinedCommandsWait
unfolding step client_behind
pipelined_commands_wait new e = sym (ap client_behind e)

pub what_fits_is_taken : WhatFitsIsTaken
what_fits_is_taken old new side piece fits refused = omega (arith, fits, refused.0.1)

pub turns_are_of_phases : TurnsAreOfPhases
turns_are_of_phases m other failed phase =
    ap (λ f. turn_by f m.world.standing.phase) failed ∙ ap (turn_by other.failure) phase

pub what_comes_next_is_unread : WhatComesNextIsUnread
unfolding step
what_comes_next_is_unread = refl
