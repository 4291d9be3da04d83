-- How far the first packet goes, header by header.
use Rattle.std.proofs.Common.{◌≡◌, ℕ, zero, suc, ◌+◌, ◌-◌, ◌*◌, ◌/◌, ◌≤◌, ◌<◌, Bool, false, List, ◌++◌, length, take}
use Rattle.std.proofs.Common.{drop, arith, refl, ap, sym, ◌∙◌, append_assoc, add-one, append-nil, subst, length-drop}
use Rattle.std.specs.Prelude.{◌==◌, if◌then◌else◌}
use Rattle.std.proofs.lemmas.Bool.Decides.{nat_tests}
use Rattle.std.proofs.lemmas.List.{drop-drop}
use Rattle.mysql_wire.specs.Framing.{max_payload_len}
use Rattle.mysql_wire.specs.FirstPacket.{Found, Short, TooLarge, OutOfSync, Whole, first_packet, packet_by, with_chunk}
use Rattle.mysql_wire.specs.FirstPacket.{next_number}
use Rattle.mysql_wire.specs.Chunks.{full_payloads, header_behind, payload_of, by_chunk, by_extent}
use Rattle.mysql_wire.specs.declared.chunk.Chunk.TheVariants as at
use Rattle.mysql_wire.specs.declared.extent.Extent.TheVariants as over

-- The first packet stands behind so many full chunks of it, with so much room left.
pub record Behind (limit number : ℕ) (bytes : List ℕ) (full room due : ℕ) (rest : List ℕ) : Type 0 where
  pub is_rest : rest ≡ drop (header_behind full) bytes
  pub stands : header_behind full ≤ length bytes
  pub fits : full * max_payload_len + room ≡ limit
  pub is_byte : due < 256
  pub goes_on : first_packet limit number bytes ≡ with_chunk (full_payloads full bytes)
      (packet_by (suc (room / max_payload_len)) limit (full * max_payload_len) due rest)

with_chunks : (front chunk : List ℕ) (found : Found) →
    with_chunk front (with_chunk chunk found) ≡ with_chunk (front ++ chunk) found
with_chunks front chunk Short = refl
with_chunks front chunk TooLarge = refl
with_chunks front chunk (OutOfSync number) = refl
with_chunks front chunk (Whole payload next rest) = ap (λ l. Whole l next rest) (sym (append_assoc front chunk payload))

-- one full chunk more
pub full_payloads-suc : (full : ℕ) (bytes : List ℕ) →
    full_payloads (suc full) bytes ≡
    full_payloads full bytes ++ take max_payload_len (drop 4 (drop (header_behind full) bytes))
full_payloads-suc zero bytes = append-nil (take max_payload_len (drop 4 bytes))
full_payloads-suc (suc full) bytes =
    let here = take max_payload_len (drop 4 bytes) in
    let behind = drop (max_payload_len + 4) bytes in
    let next : max_payload_len + 4 + header_behind full ≡ header_behind (suc full) = omega arith in
    ap (λ l. here ++ l) (full_payloads-suc full behind)
    ∙ sym (append_assoc here (full_payloads full behind)
    (take max_payload_len (drop 4 (drop (header_behind full) behind))))
    ∙ ap (λ l. (here ++ full_payloads full behind) ++ take max_payload_len (drop 4 l))
    (drop-drop (header_behind full) (max_payload_len + 4) bytes ∙ ap (λ n. drop n bytes) next)

is_not_full : (n : ℕ) → n < max_payload_len → (n == max_payload_len) ≡ false
is_not_full n h = grind (arith, nat_tests)

pub goes_last : (limit number : ℕ) (bytes : List ℕ) (full room due : ℕ) (rest : List ℕ) →
    Behind limit number bytes full room due rest → (n : ℕ) → n < max_payload_len →
    packet_by (suc (room / max_payload_len)) limit (full * max_payload_len) due rest ≡
    by_chunk (room / max_payload_len) limit (full * max_payload_len) due rest (at.Whole n) →
    first_packet limit number bytes ≡ by_extent bytes (over.Whole full n (next_number due))
goes_last limit number bytes full room due rest b n h found =
    let front = full_payloads full bytes in
    let payload = take n (drop 4 rest) in
    let left = drop n (drop 4 rest) in
    let more = packet_by (room / max_payload_len) limit (full * max_payload_len + n) (next_number due) left in
    let begins : drop n (drop 4 (drop (header_behind full) bytes)) ≡ drop (header_behind full + 4 + n) bytes =
    ap (drop n) (drop-drop 4 (header_behind full) bytes) ∙ drop-drop n (header_behind full + 4) bytes in
    b.goes_on
    ∙ ap (with_chunk front) found
    ∙ ap (λ (test : Bool). with_chunk front
    (if test then with_chunk payload more else Whole payload (next_number due) left))
    (is_not_full n h)
    ∙ ap (λ (l : List ℕ). Whole (front ++ take n (drop 4 l)) (next_number due) (drop n (drop 4 l))) b.is_rest
    ∙ ap (λ (l : List ℕ). Whole (payload_of full n bytes) (next_number due) l) begins

-- the packet behind a full chunk of it
abbrev behind_full : (limit before due room : ℕ) → List ℕ → Found
behind_full limit before due room rest =
    with_chunk (take max_payload_len (drop 4 rest))
    (packet_by (room / max_payload_len) limit (before + max_payload_len) (next_number due)
    (drop max_payload_len (drop 4 rest)))

goes_full : (limit number : ℕ) (bytes : List ℕ) (full room due : ℕ) (rest : List ℕ) →
    Behind limit number bytes full room due rest → max_payload_len ≤ room → max_payload_len + 4 ≤ length rest →
    packet_by (suc (room / max_payload_len)) limit (full * max_payload_len) due rest ≡
    behind_full limit (full * max_payload_len) due room rest →
    Behind limit number bytes (suc full) (room - max_payload_len) (next_number due) (drop (4 + max_payload_len) rest)
goes_full limit number bytes full room due rest b k s found =
    let count : room / max_payload_len ≡ suc ((room - max_payload_len) / max_payload_len) = omega arith in
    let before : full * max_payload_len + max_payload_len ≡ suc full * max_payload_len = omega arith in
    let place : header_behind full + (4 + max_payload_len) ≡ header_behind (suc full) = omega arith in
    let front = full_payloads full bytes in
    let chunk = take max_payload_len (drop 4 rest) in
    let same : chunk ≡ take max_payload_len (drop 4 (drop (header_behind full) bytes)) =
    ap (λ (l : List ℕ). take max_payload_len (drop 4 l)) b.is_rest in
    record {
      is_rest = ap (drop (4 + max_payload_len)) b.is_rest ∙
          drop-drop (4 + max_payload_len) (header_behind full) bytes ∙ ap (λ n. drop n bytes) place;
      stands = omega (arith, ap length b.is_rest, length-drop (header_behind full) bytes, b.stands);
      fits = omega (arith, b.fits);
      is_byte = omega arith;
      goes_on = b.goes_on
          ∙ ap (with_chunk front) found
          ∙ with_chunks front chunk
          (packet_by (room / max_payload_len) limit (full * max_payload_len + max_payload_len)
          (next_number due) (drop max_payload_len (drop 4 rest)))
          ∙ (λ i. with_chunk (front ++
          same i) (packet_by (count i) limit (before i) (next_number due)
          (drop-drop max_payload_len 4 rest i)))
          ∙ ap (λ (l : List ℕ). with_chunk l
          (packet_by (suc ((room - max_payload_len) / max_payload_len)) limit
          (suc full * max_payload_len) (next_number due) (drop (4 + max_payload_len) rest)))
          (sym (full_payloads-suc full bytes));
    }

pub goes_behind : (limit number : ℕ) (bytes : List ℕ) (full room due : ℕ) (rest next : List ℕ) →
    Behind limit number bytes full room due rest → (n : ℕ) → max_payload_len ≤ n →
    (n ≤ room) × (n + 4 ≤ length rest) × (n ≤ max_payload_len) →
    packet_by (suc (room / max_payload_len)) limit (full * max_payload_len) due rest ≡
    by_chunk (room / max_payload_len) limit (full * max_payload_len) due rest (at.Whole n) →
    next ≡ drop (4 + n) rest →
    Behind limit number bytes (full + 1) (room - n) (next_number due) next
goes_behind limit number bytes full room due rest next b n h s found e =
    let is : max_payload_len ≡ n = omega (arith, s.2) in
    let found_full = subst (λ (m : ℕ). packet_by (suc (room / max_payload_len)) limit
    (full * max_payload_len) due rest ≡
    by_chunk (room / max_payload_len) limit (full * max_payload_len) due rest (at.Whole m)) (sym is) found in
    let full_behind = goes_full limit number bytes full room due rest b (omega (arith, s.0))
    (omega (arith, s.1)) found_full in
    let one : suc full ≡ full + 1 = sym (add-one full) in
    let there : drop (4 + max_payload_len) rest ≡ next = ap (λ (m : ℕ). drop (4 + m) rest) is ∙ sym e in
    subst (λ (m : ℕ). Behind limit number bytes m (room - n) (next_number due) next) one
    (subst (λ (m : ℕ). Behind limit number bytes (suc full) (room - m) (next_number due) next) is
    (subst (λ (l : List ℕ). Behind limit number bytes (suc full) (room - max_payload_len)
    (next_number due) l) there full_behind))
