-- Payloads that read one after another, each by what the ones before it leave in force.
use Rattle.std.proofs.Common.{◌≡◌, ℕ, ◌+◌, ◌<◌, ◌^◌, false, List, [], ◌∷◌, ◌++◌, length, map, None, refl, arith}
use Rattle.std.proofs.Common.{is_some}
use Rattle.std.specs.List.{list_any, range_with_len}
use Rattle.mysql_receive.specs.Audit.{Reads, nothing, next}
use Rattle.mysql_receive.specs.InForce.{StatementState, after, is_waiting, state_after}
use Rattle.mysql_receive.specs.Query.{Statement, place_count}
use Rattle.mysql_receive.specs.Reading.{PayloadReadsAs}
use Rattle.mysql_command_rules.specs.Sent.{SentPayload, payloads_of}
use Rattle.mysql_command_rules.proofs.Held.{contents_of, held}

-- each payload reads as the sets that stand whole with it, from this state on
abbrev pub ReadFrom : Statement → StatementState → List SentPayload → Type 0
ReadFrom c s [] = Unit {0}
ReadFrom c s (first ∷ later) = PayloadReadsAs c s first.payload (map (map held) first.sets) ×
    ReadFrom c (after c s first.payload) later

-- fewer than 2 ^ 64 payloads read as their contents
read_from : (c : Statement) (s : StatementState) (n : ℕ) (sent : List SentPayload) →
    ReadFrom c s sent → n + length sent < 2 ^ 64 → Reads c s n (payloads_of sent) (contents_of sent)
read_from c s n [] reads few = nothing
read_from c s n (first ∷ later) reads few =
    next (
      omega (arith, few),
      reads.0,
    ) (read_from c (after c s first.payload) (n + 1) later reads.1 (omega (arith, few)))

pub read_each : (c : Statement) (s : StatementState) (sent : List SentPayload) → ReadFrom c s sent →
    length sent < 2 ^ 64 → Reads c s 0 (payloads_of sent) (contents_of sent)
read_each c s sent reads few = read_from c s 0 sent reads (omega (arith, few))

-- payloads behind others read by what those leave in force
pub read_behind : (c : Statement) (s : StatementState) (xs ys : List SentPayload) →
    ReadFrom c s xs → ReadFrom c (state_after c s (payloads_of xs)) ys → ReadFrom c s (xs ++ ys)
read_behind c s [] ys first second = second
read_behind c s (x ∷ xs) ys first second = (first.0, read_behind c (after c s x.payload) xs ys first.1 second)

-- and leave in force what they do behind those
pub state_behind : (c : Statement) (s : StatementState) (xs ys : List SentPayload) →
    state_after c s (payloads_of (xs ++ ys)) ≡
    state_after c (state_after c s (payloads_of xs)) (payloads_of ys)
state_behind c s [] ys = refl
state_behind c s (x ∷ xs) ys = state_behind c (after c s x.payload) xs ys

-- where no place has long data, none wait
pub not_waiting : (c : Statement) (s : StatementState) → ((place : ℕ) → s.long_data place ≡ None) →
    is_waiting c s ≡ false
not_waiting c s none = any_false (range_with_len 0 (place_count c.query))
  where
    any_false : (places : List ℕ) → list_any (λ place. is_some (s.long_data place)) places ≡ false
    any_false [] = refl
    any_false (place ∷ places) = rw (none place) (any_false places)
