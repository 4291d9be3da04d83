-- The payloads that are framed in bytes are bytes.
use Rattle.std.proofs.Common.{◌≡◌, ℕ, zero, suc, ◌+◌, ◌*◌, ◌/◌, ◌%◌, ◌<◌, List, [], ◌∷◌, length, take, drop, get_or}
use Rattle.std.proofs.Common.{sym, ap, subst, ◌∙◌, inl, inr, arith}
use Rattle.std.specs.List.{AllByRecursion, range_with_len}
use Rattle.std.proofs.lemmas.Bool.{cases_lt}
use Rattle.std.proofs.lemmas.List.{get_or-drop, get_or-take, get_or_past}
use Rattle.mysql_wire.specs.Bytes.{AreBytes}
use Rattle.mysql_wire.specs.Framing.{chunk, chunk_count, chunks, framing, max_payload_len, slice}
use Rattle.mysql_wire.specs.Stream.{IsSplit, Numbering, Split, after, first_number, framings}
use Rattle.mysql_wire.specs.Stream.Numbering.{EachFromZero}
use Rattle.mysql_recoding.proofs.ByteLists.{bytes_behind, bytes_drop, bytes_front, parts_are_bytes}

-- what holds of each number of a row
at_number : (P : ℕ → Type 0) (a n i : ℕ) → i < n → AllByRecursion P (range_with_len a n) → P (a + i)
at_number P a zero i l h = absurd (omega arith)
at_number P a (suc n) zero l h = subst P (omega arith) h.0
at_number P a (suc n) (suc i) l h = subst P (omega arith) (at_number P (a + 1) n i (omega arith) h.1)

chunk_bytes : (number : ℕ) (bytes : List ℕ) → AreBytes (chunk number bytes) → AreBytes bytes
chunk_bytes number bytes h = bytes_drop 4 (chunk number bytes) h

-- each place is within one of the slices of m
in_slice : (m : ℕ) (xs : List ℕ) (i : ℕ) → 0 < m → AreBytes (take m (drop (i / m * m) xs)) → get_or xs i 0 < 256
in_slice m xs i some h =
    let few : i % m < m = omega arith in
    let whole : i / m * m + i % m ≡ i = omega arith in
    let here : get_or (take m (drop (i / m * m) xs)) (i % m) 0 ≡ get_or xs i 0 =
    get_or-take m (drop (i / m * m) xs) (i % m) 0 few ∙ get_or-drop (i / m * m) xs (i % m) 0 ∙
    ap (λ j. get_or xs j 0) whole in
    subst (λ (b : ℕ). b < 256) here (h (i % m))

within_slices : (i n : ℕ) → i < n → i / max_payload_len < n / max_payload_len + 1
within_slices i n h = omega arith

-- the slices of a payload hold all of it
slices_hold : (payload : List ℕ) → ((k : ℕ) → k < chunk_count payload → AreBytes (slice payload k)) → AreBytes payload
slices_hold payload h i = elim (cases_lt i (length payload)) [
  | inl inside ↦ in_slice max_payload_len payload i (omega arith)
      (h (i / max_payload_len) (within_slices i (length payload) inside))
  | inr past ↦ subst (λ (b : ℕ). b < 256) (sym (get_or_past payload i 0 past)) (omega arith)
]

framed_bytes : (payload : List ℕ) (id : ℕ) → AreBytes (framing payload id) → AreBytes payload
unfolding framing chunks
framed_bytes payload id h =
    let each = parts_are_bytes (λ i. chunk (id + i) (slice payload i)) (range_with_len 0 (chunk_count payload)) h in
    slices_hold payload (λ k few. chunk_bytes (id + k) (slice payload k)
    (subst (λ (i : ℕ). AreBytes (chunk (id + i) (slice payload i))) (omega arith)
    (at_number (λ i. AreBytes (chunk (id + i) (slice payload i))) 0 (chunk_count payload) k few
    each)))

all_framed_bytes : (payloads : List (List ℕ)) (numbering : Numbering) →
    AreBytes (framings payloads numbering) → AllByRecursion AreBytes payloads
all_framed_bytes [] numbering h = tt
all_framed_bytes (payload ∷ payloads) numbering h = (
  framed_bytes payload (first_number numbering)
      (bytes_front (framing payload (first_number numbering))
      (framings payloads (after payload numbering)) h),
  all_framed_bytes payloads (after payload numbering)
      (bytes_behind (framing payload (first_number numbering))
      (framings payloads (after payload numbering)) h),
)

-- the payloads of a stream of bytes are bytes
pub payloads_are_bytes : (limit : ℕ) (bytes : List ℕ) (split : Split) →
    IsSplit limit EachFromZero bytes split → AreBytes bytes → AllByRecursion AreBytes split.payloads
payloads_are_bytes limit bytes split is h =
    all_framed_bytes split.payloads EachFromZero
    (bytes_front (framings split.payloads EachFromZero) split.rest_bytes
    (subst AreBytes is.joined h))
