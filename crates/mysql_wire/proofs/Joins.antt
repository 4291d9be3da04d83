-- How the payload of several chunks is joined, and that it fills a chunk.
use Rattle.std.proofs.Common.{◌≡◌, ◌≢◌, ℕ, zero, suc, ◌+◌, ◌≤◌, List, ◌++◌, length, take, drop, arith, refl, ap, sym}
use Rattle.std.proofs.Common.{◌∙◌, add-one, length-drop, length-append, length-take-le, subst}
use Rattle.std.specs.Result.{OnErr}
use Rattle.std.specs.Prelude.{Result, Ok, Err}
use Rattle.std.proofs.lemmas.List.{drop-drop}
use Rattle.mysql_wire.specs.Framing.{max_payload_len}
use Rattle.mysql_wire.specs.FirstPacket.{Found}
use Rattle.mysql_wire.specs.Chunks.{full_payloads, header_behind, payload_of, by_extent}
use Rattle.mysql_wire.specs.Views.{HasManyChunks}
use Rattle.mysql_wire.specs.declared.extent.Extent.TheVariants as over
use Rattle.mysql_wire.proofs.Extents.{full_payloads-suc}

-- The payloads of so many full chunks are joined, and this rest stands behind them.
pub record Joined (bytes : List ℕ) (count : ℕ) (payload rest : List ℕ) : Type 0 where
  pub joined : payload ≡ full_payloads count bytes
  pub is_rest : rest ≡ drop (header_behind count) bytes
  pub left : header_behind count + length rest ≡ length bytes

pub joins_chunk : (bytes : List ℕ) (count : ℕ) (payload rest chunk new next : List ℕ) →
    Joined bytes count payload rest → max_payload_len + 4 ≤ length rest →
    new ≡ payload ++ chunk → chunk ≡ take max_payload_len (drop 4 rest) → next ≡ drop (4 + max_payload_len) rest →
    Joined bytes (count + 1) new next
joins_chunk bytes count payload rest chunk new next j fits e is_chunk is_next =
    let place : header_behind count + (4 + max_payload_len) ≡ header_behind (count + 1) = omega arith in
    let more : full_payloads (suc count) bytes ≡ full_payloads (count + 1) bytes =
    ap (λ (n : ℕ). full_payloads n bytes) (sym (add-one count)) in
    record {
      joined = e
          ∙ (λ i. j.joined i ++ is_chunk i)
          ∙ ap (λ (l : List ℕ). full_payloads count bytes ++ take max_payload_len (drop 4 l)) j.is_rest
          ∙ sym (full_payloads-suc count bytes) ∙ more;
      is_rest = is_next ∙ ap (drop (4 + max_payload_len)) j.is_rest
          ∙ drop-drop (4 + max_payload_len) (header_behind count) bytes ∙ ap (λ n. drop n bytes) place;
      left = omega (arith, j.left, ap length is_next, length-drop (4 + max_payload_len) rest);
    }

-- a payload with a full chunk fills one
fills : (full last : ℕ) (bytes : List ℕ) → max_payload_len + 4 ≤ length bytes →
    max_payload_len ≤ length (payload_of (suc full) last bytes)
fills full last bytes h =
    let chunk = take max_payload_len (drop 4 bytes) in
    let behind = full_payloads full (drop (max_payload_len + 4) bytes) in
    let end = take last (drop 4 (drop (header_behind (suc full)) bytes)) in
    omega (
      arith,
      length-append (chunk ++ behind) end,
      length-append chunk behind,
      length-drop 4 bytes,
      length-take-le max_payload_len (drop 4 bytes) (omega (arith, length-drop 4 bytes)),
    )

many_chunks : (full last next : ℕ) (bytes : List ℕ) → full ≢ 0 → header_behind full + 4 + last ≤ length bytes →
    HasManyChunks (by_extent bytes (over.Whole full last next))
many_chunks zero last next bytes some h = absurd (some refl)
many_chunks (suc full) last next bytes some h = fills full last bytes (omega arith)

on_err : {T E P : Type 0} (r : Result T E) → P → OnErr r P
on_err (Ok x) p = tt
on_err (Err y) p = p

-- memory may be refused where the payload has several chunks
pub may_lack_memory : {T E : Type 0} (r : Result T E) (found : Found) (full last next : ℕ) (bytes : List ℕ) →
    full ≢ 0 → header_behind full + 4 + last ≤ length bytes → found ≡ by_extent bytes (over.Whole full last next) →
    OnErr r (HasManyChunks found)
may_lack_memory r found full last next bytes some h e =
    on_err r (subst HasManyChunks (sym e) (many_chunks full last next bytes some h))
