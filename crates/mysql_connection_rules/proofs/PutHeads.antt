-- The header of the packets of a payload.
use Rattle.std.proofs.Common.{◌≡◌, ℕ, ◌+◌, ◌≤◌, ◌<◌, ◌/◌, ◌%◌, Bool, true, false, List, [], ◌∷◌, ◌++◌, length, take}
use Rattle.std.proofs.Common.{refl, ap, ◌∙◌, add-one, arith}
use Rattle.std.specs.Prelude.{nat_lt, slice_index_or, ◌==◌, ◌&&◌, not}
use Rattle.std.specs.List.{flat_map, range_with_len}
use Rattle.std.proofs.lemmas.Bool.Decides.{nat_tests}
use Rattle.std.proofs.lemmas.Grind.{common_steps}
use Rattle.mysql_wire.specs.Framing.{max_payload_len, chunk, slice, chunks, framing}
use Rattle.mysql_connection_rules.specs.Standing.{Standing}
use Rattle.mysql_connection_rules.specs.Streams.{begins_error, carries_error, has_no_bytes, has_number, is_early}

-- ---- the first chunk

pub framed_as : (payload : List ℕ) (number : ℕ) → (rest : List ℕ) ×
    (framing payload number ≡ chunk (number + 0) (slice payload 0) ++ rest)
unfolding framing chunks
framed_as payload number =
    let later = length payload / max_payload_len in (
      flat_map (λ i. chunk (number + i) (slice payload i)) (range_with_len 1 later),
      ap (λ (n : ℕ). flat_map (λ i. chunk (number + i) (slice payload i)) (range_with_len 0 n)) (add-one later),
    )

number_said : (number : ℕ) (bytes rest : List ℕ) → slice_index_or (chunk number bytes ++ rest) 3 0 ≡ number % 256
number_said number bytes rest = refl

own_number : (number : ℕ) → number < 256 → (number + 0) % 256 ≡ number
own_number number h = omega arith

-- the number of the first packet
pub number_framed : (payload : List ℕ) (number : ℕ) → number < 256 →
    slice_index_or (framing payload number) 3 0 ≡ number
number_framed payload number h =
    let f = framed_as payload number in
    ap (λ (l : List ℕ). slice_index_or l 3 0) f.1 ∙ number_said (number + 0) (slice payload 0) f.0 ∙ own_number number h

is_same : (n m : ℕ) → n ≡ m → (n == m) ≡ true
is_same n m e = grind (arith, nat_tests)

pub reaches_four : (a b c d : ℕ) (bytes : List ℕ) → nat_lt 3 (length (a ∷ b ∷ c ∷ d ∷ bytes)) ≡ true
reaches_four a b c d bytes = grind (arith, nat_tests, common_steps)

long_said : (number : ℕ) (bytes rest : List ℕ) → nat_lt 3 (length (chunk number bytes ++ rest)) ≡ true
long_said number bytes rest =
    reaches_four (length bytes % 256) (length bytes / 256 % 256) (length bytes / 65536 % 256)
    (number % 256) (bytes ++ rest)

pub has_its_number : (payload : List ℕ) (number : ℕ) → number < 256 → has_number number (framing payload number) ≡ true
has_its_number payload number h =
    let f = framed_as payload number in
    let long : nat_lt 3 (length (framing payload number)) ≡ true =
    ap (λ (l : List ℕ). nat_lt 3 (length l)) f.1 ∙
    long_said (number + 0) (slice payload 0) f.0 in
    let same : (slice_index_or (framing payload number) 3 0 == number) ≡ true =
    is_same (slice_index_or (framing payload number) 3 0) number
    (number_framed payload number h) in
    λ i. long i && same i

-- ---- whether it is taken for last words

pub and_no : (b : Bool) → (b && false) ≡ false
and_no true = refl
and_no false = refl

not_below : (n m : ℕ) → n ≡ m → nat_lt n m ≡ false
not_below n m e = grind (arith, nat_tests)

-- what has the number that is due isn't
pub not_early : (s : Standing) (payload : List ℕ) → s.number < 256 → is_early s (framing payload s.number) ≡ false
not_early s payload h =
    let bytes = framing payload s.number in
    let below = not_below (slice_index_or bytes 3 0) s.number (number_framed payload s.number h) in
    ap (λ (b : Bool). s.answers && (carries_error bytes && b)) below ∙
    ap (λ (b : Bool). s.answers && b) (and_no (carries_error bytes)) ∙ and_no s.answers

-- a header of some bytes
some_bytes : (n : ℕ) → 0 < n → n ≤ max_payload_len →
    has_no_bytes (n % 256 ∷ n / 256 % 256 ∷ n / 65536 % 256 ∷ []) ≡ false
some_bytes n h k = grind (arith, nat_tests)

pub reaches_five : (a b c d e : ℕ) (bytes : List ℕ) → nat_lt 4 (length (a ∷ b ∷ c ∷ d ∷ e ∷ bytes)) ≡ true
reaches_five a b c d e bytes = grind (arith, nat_tests, common_steps)

carries : (number byte : ℕ) (bytes rest : List ℕ) → length (byte ∷ bytes) ≤ max_payload_len →
    (byte == 255) ≡ true → carries_error (chunk number (byte ∷ bytes) ++ rest) ≡ true
carries number byte bytes rest h e =
    let long = reaches_five (length (byte ∷ bytes) % 256) (length (byte ∷ bytes) / 256 % 256)
    (length (byte ∷ bytes) / 65536 % 256) (number % 256) byte (bytes ++ rest) in
    let some = some_bytes (length (byte ∷ bytes)) (omega arith) h in
    λ i. long i && (not (some i) && e i)

in_slice : (n : ℕ) (payload : List ℕ) → length (take n payload) ≤ n
in_slice n payload = grind (arith, common_steps)

framed_error : (payload : List ℕ) (number : ℕ) → begins_error payload ≡ true →
    carries_error (framing payload number) ≡ true
framed_error [] number e = absurd (cc e)
framed_error (byte ∷ payload) number e =
    let f = framed_as (byte ∷ payload) number in
    ap carries_error f.1 ∙ carries (number + 0) byte (take 16777214 payload) f.0
    (in_slice max_payload_len (byte ∷ payload)) e

below_due : (n m due : ℕ) → n ≡ m → m < due → nat_lt n due ≡ true
below_due n m due e h = grind (arith, nat_tests)

-- an error whose number is below the one that is due is
pub is_early_framed : (s : Standing) (payload : List ℕ) → s.answers ≡ true → 0 < s.number →
    begins_error payload ≡ true → is_early s (framing payload 0) ≡ true
is_early_framed s payload answers h e =
    let bytes = framing payload 0 in
    let error = framed_error payload 0 e in
    let below = below_due (slice_index_or bytes 3 0) 0 s.number (number_framed payload 0 (omega arith)) h in
    λ i. answers i && (error i && below i)
