-- Packets that were sent, and are put.
use Rattle.std.proofs.Common.{◌≡◌, ◌⊎◌, ℕ, ◌+◌, ◌≤◌, ◌<◌, ◌/◌, ◌%◌, false, List, [], ◌∷◌, ◌++◌, drop, length, refl, sym}
use Rattle.std.proofs.Common.{ap, ◌∙◌, subst, append-nil, add-one, arith, inl, inr}
use Rattle.std.proofs.lemmas.List.{append_cancel_left}
use Rattle.std.specs.Prelude.{slice_index_or}
use Rattle.std.specs.List.{AllByRecursion, flat_map, range_with_len}
use Rattle.mysql_wire.specs.Framing.{max_payload_len, chunk, slice, chunks, framing, chunk_count, number_after}
use Rattle.mysql_wire.specs.Stream.{Numbering, first_number, after, after_all, framings}
use Rattle.mysql_wire.specs.FirstPacket.{Short, Whole, first_packet, packet_by}
use Rattle.mysql_wire.specs.FirstPacketLaws.{FramingsAreFound}
use Rattle.mysql_connection_rules.proofs.PutHeads.{framed_as}
use Rattle.mysql_connection_rules.specs.Streams.{limit_of}
use Rattle.mysql_connection_rules.specs.declared.limits.Limits.{Limits}
use Rattle.mysql_connection_rules.specs.declared.side.Side.{Side}
use Rattle.mysql_connection_machine.proofs.PutPackets.{all_limits}
use Rattle.mysql_connection_machine.specs.Laws.{SentPacketsArePut}
use Rattle.mysql_connection_machine.specs.Machines.{Machine}
use Rattle.mysql_connection_machine.specs.PuttingPackets.{StandFirst, StopsAt, first_of}
use Rattle.mysql_connection_machine.specs.PuttingPayloads.{is_due_of}

-- ---- the framing of a payload is found

number_said : (number : ℕ) (bytes rest behind : List ℕ) →
    slice_index_or ((chunk number bytes ++ rest) ++ behind) 3 0 ≡ number % 256
number_said number bytes rest behind = refl

same_number : (number : ℕ) → (number + 0) % 256 ≡ number % 256
same_number number = omega arith

-- the number that the first packet says is a byte
number_framed : (payload rest : List ℕ) (number : ℕ) →
    slice_index_or (framing payload number ++ rest) 3 0 ≡ number % 256
number_framed payload rest number =
    let f = framed_as payload number in
    ap (λ (l : List ℕ). slice_index_or (l ++ rest) 3 0) f.1
    ∙ number_said (number + 0) (slice payload 0) f.0 rest
    ∙ same_number number

byte_goes_on : (number i : ℕ) → (number + i) % 256 ≡ (number % 256 + i) % 256
byte_goes_on number i = omega arith

same_chunk : (number other : ℕ) (bytes : List ℕ) → number % 256 ≡ other % 256 → chunk number bytes ≡ chunk other bytes
same_chunk number other bytes same = cc

-- packets are numbered by bytes
framing_by_byte : (payload : List ℕ) (number : ℕ) → framing payload number ≡ framing payload (number % 256)
unfolding framing chunks
framing_by_byte payload number = λ j. flat_map
    (λ i. same_chunk (number + i) (number % 256 + i) (slice payload i) (byte_goes_on number i) j)
    (range_with_len 0 (chunk_count payload))

byte_below : (number : ℕ) → number % 256 < 256
byte_below number = omega arith

-- the framing of a payload is found first, whatever its number
found_first : FramingsAreFound → (limit number : ℕ) (payload rest : List ℕ) → length payload ≤ limit →
    first_of limit (framing payload number ++ rest) ≡ Whole payload (number_after payload number) rest
found_first found limit number payload rest within =
    ap (λ (n : ℕ). first_packet limit n (framing payload number ++ rest)) (number_framed payload rest number)
    ∙ ap (λ (l : List ℕ). first_packet limit (number % 256) (l ++ rest)) (framing_by_byte payload number)
    ∙ found limit (number % 256) payload rest (byte_below number) within
    ∙ ap (λ (n : ℕ). Whole payload n rest) (sym (byte_goes_on number (chunk_count payload)))

-- ---- packets that were sent are taken

-- the first of the payloads were taken, and where less than a whole packet stands behind them, none is left
record AreTaken (limit : ℕ) (numbering : Numbering) (payloads taken : List (List ℕ)) (rest : List ℕ) :
    Type 0 where
  left : List (List ℕ)
  parts : payloads ≡ taken ++ left
  rest_is : rest ≡ framings left (after_all taken numbering)
  whole : first_of limit rest ≡ Short → (rest ≡ []) × (taken ≡ payloads)

abbrev SentPacketsAreTaken : Type 0
SentPacketsAreTaken = (limit : ℕ) (numbering : Numbering) (payloads taken : List (List ℕ)) (rest : List ℕ) →
    AllByRecursion (λ payload. length payload ≤ limit) payloads →
    StandFirst limit (framings payloads numbering) taken rest →
    AreTaken limit numbering payloads taken rest

-- nothing stands first of no bytes
none_short : (limit : ℕ) → first_of limit [] ≡ Short
none_short limit = ap (λ (n : ℕ). packet_by n limit 0 0 []) (add-one (limit / max_payload_len))

none_whole : (limit number : ℕ) (payload behind : List ℕ) → first_of limit [] ≡ Whole payload number behind → ⊥
none_whole limit number payload behind found =
    let short = none_short limit in
    cc

-- the first of packets that were sent isn't a part of one
sent_whole : FramingsAreFound → (limit : ℕ) (numbering : Numbering) (payloads : List (List ℕ)) →
    AllByRecursion (λ payload. length payload ≤ limit) payloads →
    first_of limit (framings payloads numbering) ≡ Short → payloads ≡ []
sent_whole found limit numbering [] within short = refl
sent_whole found limit numbering (payload ∷ payloads) within short =
    let first = found_first found limit (first_number numbering) payload
    (framings payloads (after payload numbering)) within.0 in
    absurd (cc)

-- where nothing is left, all were taken
all_taken : FramingsAreFound → (limit : ℕ) (numbering : Numbering) (payloads : List (List ℕ)) (rest : List ℕ) →
    AllByRecursion (λ payload. length payload ≤ limit) payloads → rest ≡ framings payloads numbering →
    first_of limit rest ≡ Short → (rest ≡ []) × ([] ≡ payloads)
all_taken found limit numbering payloads rest within is short =
    let none = sent_whole found limit numbering payloads within (ap (first_of limit) (sym is) ∙ short) in
    (is ∙ ap (λ (l : List (List ℕ)). framings l numbering) none, sym none)

-- one more was taken before these
one_more : (limit : ℕ) (numbering : Numbering) (payload : List ℕ) (payloads taken : List (List ℕ)) (rest : List ℕ) →
    AreTaken limit (after payload numbering) payloads taken rest →
    AreTaken limit numbering (payload ∷ payloads) (payload ∷ taken) rest
one_more limit numbering payload payloads taken rest are = record {
  left = are.left;
  parts = ap (λ (l : List (List ℕ)). payload ∷ l) are.parts;
  rest_is = are.rest_is;
  whole = λ short. ((are.whole short).0, ap (λ (l : List (List ℕ)). payload ∷ l) (are.whole short).1);
}

-- what was found is the first that was sent
payload_found : (payload other behind rest : List ℕ) (number next : ℕ) →
    Whole payload number behind ≡ Whole other next rest →
    payload ≡ other
payload_found payload other behind rest number next same = cc

behind_found : (payload other behind rest : List ℕ) (number next : ℕ) →
    Whole payload number behind ≡ Whole other next rest →
    behind ≡ rest
behind_found payload other behind rest number next same = cc

sent_packets_are_taken : FramingsAreFound → SentPacketsAreTaken
sent_packets_are_taken found limit numbering payloads [] rest within stand = record {
  left = payloads;
  parts = refl;
  rest_is = sym stand;
  whole = all_taken found limit numbering payloads rest within (sym stand);
}
sent_packets_are_taken found limit numbering [] (first ∷ taken) rest within stand =
    absurd (none_whole limit stand.0 first stand.1 stand.2)
sent_packets_are_taken found limit numbering (payload ∷ payloads) (first ∷ taken) rest within stand =
    let number = first_number numbering in
    let later = framings payloads (after payload numbering) in
    let same : Whole first stand.0 stand.1 ≡ Whole payload (number_after payload number) later =
    sym stand.2 ∙ found_first found limit number payload later within.0 in
    let is = payload_found first payload stand.1 later stand.0 (number_after payload number) same in
    let follows = behind_found first payload stand.1 later stand.0 (number_after payload number) same in
    let behind : StandFirst limit later taken rest =
    subst (λ (l : List ℕ). StandFirst limit l taken rest) follows stand.3 in
    subst (λ (p : List ℕ). AreTaken limit numbering (payload ∷ payloads) (p ∷ taken) rest) (sym is)
    (one_more limit numbering payload payloads taken rest
    (sent_packets_are_taken found limit (after payload numbering) payloads taken rest within.1 behind))

-- ---- and put

none_left : (payloads taken left : List (List ℕ)) → payloads ≡ taken ++ left → taken ≡ payloads → left ≡ []
none_left payloads taken left parts all =
    sym (append_cancel_left taken [] left (append-nil taken ∙ all ∙ parts))

stops_so : (old new : Machine) (side : Side) (numbering : Numbering) (payloads taken : List (List ℕ)) (rest : List ℕ) →
    old.world.limits ≡ new.world.limits →
    (are : AreTaken (limit_of side old.world.limits) numbering payloads taken rest) → StopsAt new side rest →
    (are.left ≡ []) ⊎ (is_due_of new side ≡ false)
stops_so old new side numbering payloads taken rest limits are (inl turn) = inr turn
stops_so old new side numbering payloads taken rest limits are (inr short) =
    let there = ap (λ (l : Limits). first_of (limit_of side l) rest) limits ∙ short in
    inl (none_left payloads taken are.left are.parts (are.whole there).1)

pub sent_packets_are_put : FramingsAreFound → SentPacketsArePut
sent_packets_are_put found old side payloads numbering before used new behind within puts =
    let put = puts.1 in
    let rest = drop used (framings payloads numbering) in
    let are = sent_packets_are_taken found (limit_of side old.world.limits) numbering payloads
    put.payloads rest within put.stand in
    let limits = all_limits old new side put.payloads before behind put.puts in record {
      taken = put.payloads;
      left = are.left;
      parts = are.parts;
      puts = put.puts;
      rest_is = are.rest_is;
      stops = stops_so old new side numbering payloads put.payloads rest limits are puts.2;
    }
