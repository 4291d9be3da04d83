-- Streams, fields and packets.
use Rattle.std.proofs.Common.{◌≡◌, ℕ, true, false, List, [], ◌∷◌, Option, Some, None, Err, refl, ap, inl, inr, ◌+◌, ◌/◌}
use Rattle.std.proofs.Common.{◌%◌}
use Rattle.mysql_buf.specs.Reading as buffer
use Rattle.mysql_fields.specs.Wire.{or_end}
use Rattle.mysql_fields.specs.declared.error.WireError.TheVariants.{Memory}
use Rattle.mysql_witnesses.specs.Wire.{BytesAskForNoMemory, EmptyChunksEndFullPackets, FbIsInvalidData}
use Rattle.mysql_witnesses.specs.Wire.{RefusalsKeepTheNumber, RefusalsLeaveAllBytes}

pub fb_is_invalid_data : FbIsInvalidData
fb_is_invalid_data such h =
    elim (h (inl refl)) [
      | inl k ↦ (let e : ◌≡◌ {A = List ℕ} [] (0xfb ∷ []) = k in
          cc)
      | inr k ↦ k.1
    ]

never_memory : (found : Option (List ℕ × List ℕ)) → or_end found ≡ Err Memory → ⊥
never_memory None e = cc
never_memory (Some x) e = cc

pub bytes_ask_for_no_memory : BytesAskForNoMemory
bytes_ask_for_no_memory count old new h = never_memory (buffer.bytes_at count old) h.0

pub refusals_leave_all_bytes : RefusalsLeaveAllBytes
refusals_leave_all_bytes true old new why reading h = h.1
refusals_leave_all_bytes false old new why reading h = h.1

pub empty_chunks_end_full_packets : EmptyChunksEndFullPackets
empty_chunks_end_full_packets payload e = (ap (λ n. n / 16777215 + 1) e, ap (λ n. (0 + (n / 16777215 + 1)) % 256) e)

pub refusals_keep_the_number : RefusalsKeepTheNumber
refusals_keep_the_number old new src dst error h = h.number
