-- What ends rows is no longer as it is written than as it was read.
use Rattle.std.proofs.Common.{◌≡◌, ◌<◌, ◌≤◌, ◌+◌, ◌⊎◌, ◌^◌, ◌==◌, ◌&&◌, if◌then◌else◌, nat_lt, ℕ, Bool, true, false}
use Rattle.std.proofs.Common.{List, [], ◌∷◌, ◌++◌, length}
use Rattle.std.proofs.Common.{Option, None, Ok, inl, inr, refl, ap, subst, arith, append-nil, length-append}
use Rattle.byteorder.specs.Endian.{little_bytes}
use Rattle.mysql_buf.specs.Bytes.{AreBytes}
use Rattle.mysql_buf.specs.Writing.{lenenc_int, lenenc_str}
use Rattle.mysql_field_constants.specs.Constants.{constant_at, named_at}
use Rattle.mysql_field_constants.specs.Flags.{status_named}
use Rattle.mysql_fields.specs.Forms.{bytes_at, fixed_number_at, lenenc_number_at}
use Rattle.mysql_fields.specs.Laws.{bind_ok, done, ok_same}
use Rattle.mysql_fields.specs.Texts.{lenenc_text_at}
use Rattle.mysql_fields.specs.Wire.{◌>>=◌}
use Rattle.mysql_ok_packets.specs.OkPackets.{OkPacket, info_at, result_set_terminator_at, session_state_changed}
use Rattle.mysql_ok_packets.specs.OkPackets.{session_track, status_and_info_at, unless_empty, unless_zero}
use Rattle.mysql_ok_packets.specs.Written.{info_bytes, lenenc_unless_empty, ok_packet_bytes, or_empty, or_zero}
use Rattle.mysql_ok_packets.specs.Written.{tells_state}
use Rattle.mysql_reply_event_writer.proofs.FieldsRead.{block_read, constant_read, length_read, text_read}

-- TEXTS

-- the bytes of an info and a session state, where that stands there
abbrev pub texts : Bool → List ℕ → List ℕ → ℕ
texts told info state =
    length (if told then lenenc_str info ++ lenenc_str state else lenenc_unless_empty info)

-- two lengths alone, or no more bytes than were read
abbrev pub AreFew : List ℕ → ℕ → Type 0
AreFew bytes n = (n ≤ 2) ⊎ (n ≤ length bytes)

no_texts : (told : Bool) (bytes : List ℕ) → AreFew bytes (texts told [] [])
no_texts true bytes = inl (omega arith)
no_texts false bytes = inl (omega arith)

info_shorter : (info : List ℕ) → length (lenenc_unless_empty info) ≤ length (lenenc_str info)
info_shorter [] = omega arith
info_shorter (b ∷ info) = omega arith

one_text : (told : Bool) (info bytes : List ℕ) → told ≡ false → length (lenenc_str info) ≤ length bytes →
    AreFew bytes (texts told info [])
one_text true info bytes is few = absurd cc
one_text false info bytes is few = inr (omega (arith, info_shorter info, few))

not_changed : (tracks changed : Bool) → changed ≡ false → (tracks && changed) ≡ false
not_changed true changed is = is
not_changed false changed is = refl

not_tracked : (tracks changed : Bool) → tracks ≡ false → (tracks && changed) ≡ false
not_tracked true changed is = absurd cc
not_tracked false changed is = refl

two_texts : (told : Bool) (info state bytes : List ℕ) →
    length (lenenc_str info) + length (lenenc_str state) ≤ length bytes →
    AreFew bytes (texts told info state)
two_texts true info state bytes few = inr (omega (arith, few, length-append (lenenc_str info) (lenenc_str state)))
two_texts false info state bytes few = inr (omega (arith, few, info_shorter info))

-- what was read of an info and a session state
abbrev pub InfoRead : ℕ → ℕ → List ℕ → (List ℕ × List ℕ) × List ℕ → Type 0
InfoRead capabilities status bytes x = AreFew bytes (texts (tells_state capabilities status) x.0.0 x.0.1)

tracked : (capabilities status : ℕ) (bytes : List ℕ) (changed : Bool) (info : List ℕ × List ℕ)
    (x : (List ℕ × List ℕ) × List ℕ) → session_state_changed status ≡ changed → AreBytes info.1 →
    length (lenenc_str info.0) + length info.1 ≤ length bytes →
    (if changed then (lenenc_text_at info.1 >>= λ state. done ((info.0, state.0), state.1)) else
    done ((info.0, []), info.1)) ≡ Ok x →
    InfoRead capabilities status bytes x
tracked capabilities status bytes true info x is small few h =
    let state = bind_ok (lenenc_text_at info.1) (λ state. done ((info.0, state.0), state.1)) x h in
    let read = text_read info.1 state.0 small state.1 in
    let made : (List ℕ × List ℕ) × List ℕ = ((info.0, state.0.0), state.0.1) in
    subst (InfoRead capabilities status bytes) (ok_same made x state.2)
    (two_texts (tells_state capabilities status) info.0 state.0.0 bytes (omega (arith, few, read.2.0)))
tracked capabilities status bytes false info x is small few h =
    let made : (List ℕ × List ℕ) × List ℕ = ((info.0, []), info.1) in
    subst (InfoRead capabilities status bytes) (ok_same made x h)
    (one_text (tells_state capabilities status) info.0 bytes
    (not_changed (session_track capabilities) (session_state_changed status) is) (omega (arith, few)))

info_read : (capabilities status : ℕ) (bytes : List ℕ) (x : (List ℕ × List ℕ) × List ℕ) → AreBytes bytes →
    info_at capabilities status bytes ≡ Ok x → InfoRead capabilities status bytes x
unfolding info_at
info_read capabilities status [] x small h =
    let made : (List ℕ × List ℕ) × List ℕ = (([], []), []) in
    subst (InfoRead capabilities status []) (ok_same made x h) (no_texts (tells_state capabilities status) [])
info_read capabilities status (b ∷ bytes) x small h = go (session_track capabilities) (b == 0) refl h where
  go : (tracks none : Bool) → session_track capabilities ≡ tracks →
      (if tracks then (lenenc_text_at (b ∷ bytes) >>= λ info. if session_state_changed status
      then (lenenc_text_at info.1 >>= λ state. Ok ((info.0, state.0), state.1)) else Ok ((info.0, []), info.1))
      else if none then Ok (([], []), b ∷ bytes)
      else (lenenc_text_at (b ∷ bytes) >>= λ info. Ok ((info.0, []), info.1))) ≡ Ok x →
      InfoRead capabilities status (b ∷ bytes) x
  go true none is e =
      let info = bind_ok (lenenc_text_at (b ∷ bytes)) _ x e in
      let read = text_read (b ∷ bytes) info.0 small info.1 in
      tracked capabilities status (b ∷ bytes) (session_state_changed status) info.0 x refl read.2.1 read.2.0 info.2
  go false true is e =
      let made : (List ℕ × List ℕ) × List ℕ = (([], []), b ∷ bytes) in
      subst (InfoRead capabilities status (b ∷ bytes)) (ok_same made x e)
      (no_texts (tells_state capabilities status) (b ∷ bytes))
  go false false is e =
      let info = bind_ok (lenenc_text_at (b ∷ bytes)) (λ info. done ((info.0, []), info.1)) x e in
      let read = text_read (b ∷ bytes) info.0 small info.1 in
      let made : (List ℕ × List ℕ) × List ℕ = ((info.0.0, []), info.0.1) in
      subst (InfoRead capabilities status (b ∷ bytes)) (ok_same made x info.2)
      (one_text (tells_state capabilities status) info.0.0 (b ∷ bytes)
      (not_tracked (session_track capabilities) (session_state_changed status) is) (omega (arith, read.2.0)))

-- THE PACKET

or_nothing : (text : List ℕ) → or_empty (unless_empty text) ≡ text
or_nothing [] = refl
or_nothing (b ∷ text) = refl

-- so many bytes behind the warnings
abbrev pub Behind : ℕ → ℕ → OkPacket × List ℕ → Type 0
Behind capabilities n x = (x.0.affected_rows ≡ 0) × (x.0.last_insert_id ≡ None) ×
    ((length (info_bytes capabilities x.0) ≤ 2) ⊎ (length (info_bytes capabilities x.0) + 4 ≤ n))

behind_by : (capabilities status : ℕ) (info state bytes : List ℕ) (n : ℕ) → length bytes + 4 ≤ n →
    AreFew bytes (texts (tells_state capabilities status) info state) →
    (texts (tells_state capabilities status) (or_empty (unless_empty info)) (or_empty (unless_empty state)) ≤ 2) ⊎
    (texts (tells_state capabilities status) (or_empty (unless_empty info)) (or_empty (unless_empty state)) + 4 ≤ n)
behind_by capabilities status info state bytes n most (inl few) =
    rw (or_nothing info, or_nothing state) (inl few)
behind_by capabilities status info state bytes n most (inr few) =
    rw (or_nothing info, or_nothing state) (inr (omega (arith, few, most)))

behind : (capabilities : ℕ) (bytes : List ℕ) (x : OkPacket × List ℕ) → AreBytes bytes →
    status_and_info_at capabilities 0 0 bytes ≡ Ok x → Behind capabilities (length bytes) x
unfolding status_and_info_at info_bytes
behind capabilities bytes x small h =
    let block = bind_ok (bytes_at 4 bytes) _ x h in
    let four = block_read 4 bytes block.0 small block.1 in
    let status = bind_ok (named_at status_named (fixed_number_at 2) block.0.0) _ x block.2 in
    let warnings = bind_ok (fixed_number_at 2 status.0.1) _ x status.2 in
    let info = bind_ok (info_at capabilities status.0.0.0 block.0.1) _ x warnings.2 in
    let read = info_read capabilities status.0.0.0 block.0.1 info.0 four.3.1 info.1 in
    let made : OkPacket × List ℕ = (
      record {
        affected_rows = 0;
        last_insert_id = unless_zero 0;
        status_flags = status.0.0.0;
        warnings = warnings.0.0;
        info = unless_empty info.0.0.0;
        session_state_info = unless_empty info.0.0.1;
      },
      info.0.1,
    ) in
    subst (Behind capabilities (length bytes)) (ok_same made x info.2) (
      refl,
      refl,
      behind_by capabilities status.0.0.0 info.0.0.0 info.0.0.1 block.0.1 (length bytes)
          (omega (arith, four.3.0)) read,
    )

-- a length takes a byte at least
some_byte : (n : ℕ) → 1 ≤ length (lenenc_int n)
some_byte n = go (nat_lt n 251) (nat_lt n (2 ^ 16)) (nat_lt n (2 ^ 24)) where
  go : (a b c : Bool) → 1 ≤ length (if a then n ∷ [] else if b then 252 ∷
      little_bytes 2 n else if c then 253 ∷ little_bytes 3 n else 254 ∷ little_bytes 8 n)
  go true b c = omega arith
  go false true c = omega arith
  go false false true = omega arith
  go false false false = omega arith

-- what stands behind the two numbers of a packet
abbrev pub last_bytes : ℕ → OkPacket → List ℕ
last_bytes capabilities p =
    little_bytes 2 p.status_flags ++ (little_bytes 2 p.warnings ++ (info_bytes capabilities p ++ []))

-- a packet without rows and an id takes seven bytes and those behind
packet_size : (capabilities : ℕ) (p : OkPacket) → p.affected_rows ≡ 0 → p.last_insert_id ≡ None →
    length (ok_packet_bytes 254 capabilities p) ≡ 7 + length (info_bytes capabilities p)
unfolding ok_packet_bytes
packet_size capabilities p rows id =
    let one = length-append (lenenc_int p.affected_rows) (lenenc_int (or_zero p.last_insert_id) ++
    last_bytes capabilities p) in
    let two = length-append (lenenc_int (or_zero p.last_insert_id)) (last_bytes capabilities p) in
    let first : length (lenenc_int p.affected_rows) ≡ 1 = ap (λ (n : ℕ). length (lenenc_int n)) rows in
    let second : length (lenenc_int (or_zero p.last_insert_id)) ≡ 1 =
    ap (λ (o : Option ℕ). length (lenenc_int (or_zero o))) id in
    omega (arith, one, two, first, second, ap length (append-nil (info_bytes capabilities p)))

pub terminator_short : (capabilities : ℕ) (bytes : List ℕ) (x : OkPacket × List ℕ) →
    AreBytes bytes → length bytes < 16777215 →
    result_set_terminator_at capabilities bytes ≡ Ok x → length (ok_packet_bytes 254 capabilities x.0) < 16777215
unfolding result_set_terminator_at
terminator_short capabilities bytes x small few h =
    let header = bind_ok (constant_at 1 254 bytes) _ x h in
    let one = constant_read 1 254 bytes header.0 small header.1 in
    let affected = bind_ok (lenenc_number_at header.0.1) _ x header.2 in
    let two = length_read header.0.1 affected.0 one.1 affected.1 in
    let id = bind_ok (lenenc_number_at affected.0.1) _ x affected.2 in
    let three = length_read affected.0.1 id.0 two.1.1 id.1 in
    let rest = behind capabilities id.0.1 x three.1.1 id.2 in
    let size = packet_size capabilities x.0 rest.0 rest.1 in
    let a = some_byte affected.0.0 in
    let b = some_byte id.0.0 in
    elim rest.2 [
      | inl two_lengths ↦ omega (arith, size, two_lengths)
      | inr no_more ↦ omega (arith, size, no_more, few, one.0, two.1.0, three.1.0, a, b)
    ]

pub ok_size : (capabilities : ℕ) (p : OkPacket) → 6 < length (ok_packet_bytes 0 capabilities p)
unfolding ok_packet_bytes
ok_size capabilities p =
    let one = length-append (lenenc_int p.affected_rows) (lenenc_int (or_zero p.last_insert_id) ++
    last_bytes capabilities p) in
    let two = length-append (lenenc_int (or_zero p.last_insert_id)) (last_bytes capabilities p) in
    omega (arith, one, two, some_byte p.affected_rows, some_byte (or_zero p.last_insert_id))
