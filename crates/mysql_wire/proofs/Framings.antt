-- The framing of a payload is found as this payload.
use Rattle.std.proofs.Common.{◌≡◌, ℕ, zero, suc, ◌+◌, ◌-◌, ◌*◌, ◌/◌, ◌%◌, ◌≤◌, ◌<◌, Bool, true, false, List, ◌++◌}
use Rattle.std.proofs.Common.{length, take, drop, arith, refl, ap, sym, ◌∙◌, append_assoc, add-one, length-drop}
use Rattle.std.proofs.Common.{length-take-le}
use Rattle.std.specs.Prelude.{nat_le, nat_lt, ◌==◌, if◌then◌else◌}
use Rattle.std.specs.List.{flat_map, range_with_len}
use Rattle.std.proofs.lemmas.List.{append-nil, take_all, take_at, drop_at, drop-drop, take-append-drop}
use Rattle.std.proofs.lemmas.Bool.Decides.{nat_tests}
use Rattle.std.proofs.lemmas.Grind.{common_steps}
use Rattle.mysql_wire.specs.Framing.{max_payload_len, chunk, slice, chunks, framing}
use Rattle.mysql_wire.specs.FirstPacket.{Found, Whole, first_packet, packet_by, by_tests, with_chunk, announced}
use Rattle.mysql_wire.specs.FirstPacket.{next_number, most_chunks}
use Rattle.mysql_wire.specs.FirstPacketLaws.{FramingsAreFound}

-- a header's three bytes announce the length that they were written for
length_said : (n : ℕ) → n ≤ max_payload_len → announced (n % 256) (n / 256 % 256) (n / 65536 % 256) ≡ n
length_said n h = omega arith

-- the packet by the length of its first chunk
abbrev by_length : (many limit before number n : ℕ) → List ℕ → ℕ → Found
by_length many limit before number n bytes own =
    by_tests (nat_lt limit (before + n)) (nat_le n (length bytes)) (own == number) (n == max_payload_len)
    own (take n bytes) (next_number number) (drop n bytes)
    (packet_by many limit (before + n) (next_number number) (drop n bytes))

chunk_said : (many limit before number own : ℕ) (bytes rest : List ℕ) → length bytes ≤ max_payload_len →
    packet_by (suc many) limit before number (chunk own bytes ++ rest) ≡
    by_length many limit before number (length bytes) (bytes ++ rest) (own % 256)
chunk_said many limit before number own bytes rest h =
    ap (λ (n : ℕ). by_length many limit before number n (bytes ++ rest) (own % 256)) (length_said (length bytes) h)

not_long : (limit n : ℕ) → n ≤ limit → nat_lt limit n ≡ false
not_long limit n h = grind (arith, nat_tests)

is_whole : (bytes rest : List ℕ) → nat_le (length bytes) (length (bytes ++ rest)) ≡ true
is_whole bytes rest = grind (arith, nat_tests, common_steps)

is_same : (n m : ℕ) → n ≡ m → (n == m) ≡ true
is_same n m e = grind (arith, nat_tests)

is_other : (n m : ℕ) → n < m → (n == m) ≡ false
is_other n m h = grind (arith, nat_tests)

-- a chunk with the number that is due, within the limit
chunk_found : (many limit before number own : ℕ) (bytes rest : List ℕ) → length bytes ≤ max_payload_len →
    before + length bytes ≤ limit → own % 256 ≡ number →
    packet_by (suc many) limit before number (chunk own bytes ++ rest) ≡
    (if length bytes == max_payload_len
    then with_chunk bytes (packet_by many limit (before + length bytes) (next_number number) rest)
    else Whole bytes (next_number number) rest)
chunk_found many limit before number own bytes rest h k e =
    let n = length bytes in
    let all = bytes ++ rest in
    chunk_said many limit before number own bytes rest h
    ∙ (λ i. by_tests (not_long limit (before + n) k i) (is_whole bytes rest i)
    (is_same (own % 256) number e i) (n == max_payload_len)
    (own % 256) (take n all) (next_number number) (drop n all)
    (packet_by many limit (before + n) (next_number number) (drop n all)))
    ∙ (λ i. if n == max_payload_len
    then with_chunk (take_at bytes rest n refl i)
    (packet_by many limit (before + n) (next_number number) (drop_at bytes rest n refl i))
    else Whole (take_at bytes rest n refl i) (next_number number) (drop_at bytes rest n refl i))

-- the last chunk, and a full one with what follows it
last_found : (many limit before number own : ℕ) (bytes rest : List ℕ) → length bytes < max_payload_len →
    before + length bytes ≤ limit → own % 256 ≡ number →
    packet_by (suc many) limit before number (chunk own bytes ++ rest) ≡ Whole bytes (next_number number) rest
last_found many limit before number own bytes rest h k e =
    chunk_found many limit before number own bytes rest (omega arith) k e
    ∙ ap (λ (b : Bool). if b then with_chunk bytes
    (packet_by many limit (before + length bytes) (next_number number) rest) else Whole bytes
    (next_number number) rest)
    (is_other (length bytes) max_payload_len h)

full_found : (many limit before number own : ℕ) (bytes rest : List ℕ) → length bytes ≡ max_payload_len →
    before + max_payload_len ≤ limit → own % 256 ≡ number →
    packet_by (suc many) limit before number (chunk own bytes ++ rest) ≡
    with_chunk bytes (packet_by many limit (before + max_payload_len) (next_number number) rest)
full_found many limit before number own bytes rest h k e =
    chunk_found many limit before number own bytes rest (omega arith) (omega arith) e
    ∙ ap (λ (b : Bool). if b then with_chunk bytes
    (packet_by many limit (before + length bytes) (next_number number) rest) else Whole bytes
    (next_number number) rest)
    (is_same (length bytes) max_payload_len h)
    ∙ ap (λ (n : ℕ). with_chunk bytes (packet_by many limit (before + n) (next_number number) rest)) h

-- the chunks of a payload from this one on
abbrev chunks_from : List ℕ → (id from count : ℕ) → List ℕ
chunks_from payload id from count = flat_map (λ i. chunk (id + i) (slice payload i)) (range_with_len from count)

-- what is left of the payload from this chunk on
abbrev left_from : List ℕ → ℕ → List ℕ
left_from payload from = drop (from * max_payload_len) payload

-- the place of the next chunk, and its number
low_next : (from later n : ℕ) → (from + suc later) * max_payload_len ≤ n → (from + 1 + later) * max_payload_len ≤ n
low_next from later n h = omega arith

high_next : (from later n : ℕ) → n < (from + suc later + 1) * max_payload_len →
    n < (from + 1 + later + 1) * max_payload_len
high_next from later n h = omega arith

fewer_next : (later many : ℕ) → suc later < suc many → later < many
fewer_next later many h = omega arith

number_next : (id from number : ℕ) → (id + from) % 256 ≡ number → (id + (from + 1)) % 256 ≡ next_number number
number_next id from number e = omega arith

fits_here : (from later n limit : ℕ) → (from + suc later) * max_payload_len ≤ n → n ≤ limit →
    from * max_payload_len + max_payload_len ≤ limit
fits_here from later n limit h k = omega arith

found_from : (payload rest : List ℕ) (id limit later many from number : ℕ) →
    (from + later) * max_payload_len ≤ length payload → length payload < (from + later + 1) * max_payload_len →
    length payload ≤ limit → later < many → (id + from) % 256 ≡ number →
    packet_by many limit (from * max_payload_len) number (chunks_from payload id from (suc later) ++ rest) ≡
    Whole (left_from payload from) ((id + from + suc later) % 256) rest
found_from payload rest id limit zero zero from number low high short m e = absurd (omega arith)
found_from payload rest id limit (suc later) zero from number low high short m e = absurd (omega arith)
found_from payload rest id limit zero (suc many) from number low high short m e =
    let left = left_from payload from in
    let size : length left ≡ length payload - from * max_payload_len = length-drop (from * max_payload_len) payload in
    let all : slice payload from ≡ left = take_all max_payload_len left (omega arith) in
    let next : next_number number ≡ (id + from + 1) % 256 = omega arith in
    ap (λ (l : List ℕ). packet_by (suc many) limit (from * max_payload_len) number (l ++ rest))
    (append-nil (chunk (id + from) (slice payload from)))
    ∙ ap (λ (l : List ℕ). packet_by (suc many) limit (from * max_payload_len) number (chunk (id + from) l ++ rest)) all
    ∙ last_found many limit (from * max_payload_len) number (id + from) left rest (omega arith) (omega arith) e
    ∙ ap (λ (n : ℕ). Whole left n rest) next
found_from payload rest id limit (suc later) (suc many) from number low high short m e =
    let left = left_from payload from in
    let size : length left ≡ length payload - from * max_payload_len = length-drop (from * max_payload_len) payload in
    let place : from * max_payload_len + max_payload_len ≡ (from + 1) * max_payload_len = omega arith in
    let next : id + (from + 1) + suc later ≡ id + from + suc (suc later) = omega arith in
    let enough : max_payload_len ≤ length left = omega arith in
    let here = slice payload from in
    let full : length here ≡ max_payload_len = length-take-le max_payload_len left enough in
    let behind = chunks_from payload id (from + 1) (suc later) in
    let more = found_from payload rest id limit later many (from + 1) (next_number number)
    (low_next from later (length payload) low) (high_next from later (length payload) high) short
    (fewer_next later many m) (number_next id from number e) in
    let joined : here ++ left_from payload (from + 1) ≡ left =
    ap (λ (n : ℕ). here ++ drop n payload) (sym place)
    ∙ ap (λ (l : List ℕ). here ++ l) (sym (drop-drop max_payload_len (from * max_payload_len) payload))
    ∙ take-append-drop max_payload_len left in
    ap (packet_by (suc many) limit (from * max_payload_len) number) (append_assoc (chunk (id + from) here) behind rest)
    ∙ full_found many limit (from * max_payload_len) number (id + from) here (behind ++ rest) full
    (fits_here from later (length payload) limit low short) e
    ∙ ap (λ (n : ℕ). with_chunk here (packet_by many limit n (next_number number) (behind ++ rest))) place
    ∙ ap (with_chunk here) more
    ∙ (λ i. Whole (joined i) (next i % 256) rest)

pub framings_are_found : FramingsAreFound
unfolding framing chunks
framings_are_found limit number payload rest byte h =
    let later = length payload / max_payload_len in
    let one : later + 1 ≡ suc later = add-one later in
    let next : number + 0 + suc later ≡ number + (later + 1) = omega arith in
    ap (λ (n : ℕ). first_packet limit number (chunks_from payload number 0 n ++ rest)) one
    ∙ found_from payload rest number limit later (most_chunks limit) 0 number (omega arith)
    (omega arith) h (omega arith) (omega arith)
    ∙ (λ i. Whole payload (next i % 256) rest)
