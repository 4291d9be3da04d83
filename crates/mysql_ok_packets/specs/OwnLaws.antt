-- An OK or EOF packet that was read can be written, and is what is read of it again.
use Rattle.std.proofs.Common.{◌≡◌, ◌+◌, ◌<◌, ◌^◌, ◌==◌, ◌&&◌, nat_lt, ℕ, zero, suc, Bool, true, false, if◌then◌else◌}
use Rattle.std.proofs.Common.{List, [], ◌∷◌, length, take, drop, Option, Some, None, Ok, Err, refl, sym, ap, subst, ◌∙◌}
use Rattle.std.proofs.Common.{arith, length-drop}
use Rattle.std.proofs.lemmas.List.{get_or-drop, length-take}
use Rattle.byteorder.specs.Endian.{little_number}
use Rattle.byteorder.specs.Numbers.{little_from-lt}
use Rattle.mysql_buf.specs.Bytes.{AreBytes}
use Rattle.mysql_buf.specs.FirstBytes.{first-some}
use Rattle.mysql_buf.specs.Reading.{first, little_at, lenenc_int_at, then_at}
use Rattle.mysql_buf.specs.Reading as buffer
use Rattle.mysql_const.specs.declared.status.StatusFlags.{StatusFlags}
use Rattle.mysql_fields.specs.Forms.{bytes_at, fixed_number_at, lenenc_number_at}
use Rattle.mysql_fields.specs.Laws.{bind_ok, done, ok_same}
use Rattle.mysql_fields.specs.Wire.{or_end, ◌>>=◌}
use Rattle.mysql_fields.specs.declared.error.WireError.TheVariants.{BadConstant}
use Rattle.mysql_fields.specs.Texts.{lenenc_text_at}
use Rattle.mysql_field_constants.specs.Constants.{constant_at, is_constant, named_at, or_unknown}
use Rattle.mysql_field_constants.specs.Flags.{all_status_flags, are_named, status_named}
use Rattle.mysql_ok_packets.specs.BackLaws.{state_behind}
use Rattle.mysql_ok_packets.specs.OkPackets.{OkPacket, info_at, ok_body_at, ok_packet_at, old_eof_at, old_eof_body_at}
use Rattle.mysql_ok_packets.specs.OkPackets.{result_set_terminator_at, result_set_terminator_body_at}
use Rattle.mysql_ok_packets.specs.OkPackets.{session_state_changed, session_track, status_and_info_at, unless_empty}
use Rattle.mysql_ok_packets.specs.OkPackets.{unless_zero}
use Rattle.mysql_ok_packets.specs.Statements.{IsItsOwn}
use Rattle.mysql_ok_packets.specs.Written.{IsWritable, as_eof, as_ok, as_terminator, is_named_status, or_empty, or_zero}
use Rattle.mysql_ok_packets.specs.Written.{tells_state}

-- bytes whose number fits 64 bits
abbrev pub AreFew : List ℕ → Type 0
AreFew bytes = AreBytes bytes × (length bytes < 2 ^ 64)

left_few : (n : ℕ) (bytes : List ℕ) → AreFew bytes → AreFew (drop n bytes)
left_few n bytes few = (λ i. rw (get_or-drop n bytes i 0) (few.0 (n + i)), omega (arith, length-drop n bytes, few.1))

stands : {X : Type 0} (o : Option X) (x : X) → or_end o ≡ Ok x → o ≡ Some x
stands None x h = absurd cc
stands (Some y) x h = cc

-- what was read of the first bytes, and the bytes left
first_few : {X : Type 0} (n : ℕ) (value : List ℕ → X) (bytes : List ℕ) (p : X × List ℕ) →
    AreFew bytes → first n value bytes ≡ Some p
    → (p.0 ≡ value bytes) × AreFew p.1
first_few {X} n value bytes p few h =
    let part = first-some n value bytes p h in
    (ap (λ (q : X × List ℕ). q.0) part.1, subst (λ (q : X × List ℕ). AreFew q.1) (sym part.1) (left_few n bytes few))

number_few : (n : ℕ) (bytes : List ℕ) (p : ℕ × List ℕ) → AreFew bytes → little_at n bytes ≡ Some p →
    (p.0 < 256 ^ n) × AreFew p.1
number_few n bytes p few h =
    let part = first_few n (little_number n) bytes p few h in
    (subst (λ (x : ℕ). x < 256 ^ n) (sym part.0) (little_from-lt 0 n bytes few.0), part.1)

-- a number of 2 bytes
fixed_few : (bytes : List ℕ) (p : ℕ × List ℕ) → AreFew bytes → fixed_number_at 2 bytes ≡ Ok p →
    (p.0 < 2 ^ 16) × AreFew p.1
fixed_few bytes p few h = let part = number_few 2 bytes p few (stands (little_at 2 bytes) p h) in
    (omega (arith, part.0), part.1)

tail_few : (one two three eight : Bool) (b : ℕ) (bs : List ℕ) (p : ℕ × List ℕ) → b < 256 → AreFew bs
    → (if one then Some (b, bs) else if two then little_at 2 bs else if three then little_at 3 bs
    else if eight then little_at 8 bs else Some (0, bs)) ≡ Some p
    → (p.0 < 2 ^ 64) × AreFew p.1
tail_few true two three eight b bs p small few h =
    let same : (b, bs) ≡ p = cc in subst (λ (q : ℕ × List ℕ). (q.0 < 2 ^ 64) × AreFew q.1) same (omega arith, few)
tail_few false true three eight b bs p small few h = let part = number_few 2 bs p few h in
    (omega (arith, part.0), part.1)
tail_few false false true eight b bs p small few h = let part = number_few 3 bs p few h in
    (omega (arith, part.0), part.1)
tail_few false false false true b bs p small few h = let part = number_few 8 bs p few h in
    (omega (arith, part.0), part.1)
tail_few false false false false b bs p small few h =
    let same : (0, bs) ≡ p = cc in subst (λ (q : ℕ × List ℕ). (q.0 < 2 ^ 64) × AreFew q.1) same (omega arith, few)

lenenc_few : (bytes : List ℕ) (p : ℕ × List ℕ) → AreFew bytes → lenenc_int_at bytes ≡ Some p →
    (p.0 < 2 ^ 64) × AreFew p.1
lenenc_few [] p few h = absurd cc
lenenc_few (b ∷ bs) p few h =
    tail_few (nat_lt b 251) (b == 252) (b == 253) (b == 254) b bs p (few.0 0) (
      λ i. few.0 (suc i),
      omega (arith, few.1),
    ) h

-- a length-encoded number
lenenc_number_few : (bytes : List ℕ) (p : ℕ × List ℕ) → AreFew bytes → lenenc_number_at bytes ≡
    Ok p → (p.0 < 2 ^ 64) × AreFew p.1
lenenc_number_few bytes p few h = lenenc_few bytes p few (stands (lenenc_int_at bytes) p h)

-- a text after its length
lenenc_text_few : (bytes : List ℕ) (p : List ℕ × List ℕ) → AreFew bytes → lenenc_text_at bytes ≡
    Ok p → (length p.0 < 2 ^ 64) × AreFew p.1
lenenc_text_few bytes p few h = go (lenenc_int_at bytes) refl h where
  go : (o : Option (ℕ × List ℕ)) → lenenc_int_at bytes ≡ o → or_end (then_at o buffer.bytes_at) ≡
      Ok p → (length p.0 < 2 ^ 64) × AreFew p.1
  go None e h = absurd cc
  go (Some q) e h =
      let number = lenenc_few bytes q few e in
      let part = first_few q.0 (take q.0) q.1 p number.1 (stands (buffer.bytes_at q.0 q.1) p h) in (
        subst (λ (text : List ℕ). length text < 2 ^ 64) (sym part.0)
            (omega (arith, length-take q.0 q.1, number.0)),
        part.1,
      )

-- a status, whose bits have names
status_few : (bytes : List ℕ) (p : StatusFlags × List ℕ) → AreFew bytes →
    named_at status_named (fixed_number_at 2) bytes ≡ Ok p
    → (p.0.0 < 2 ^ 16) × (is_named_status p.0.0 ≡ true) × AreFew p.1
status_few bytes p few h =
    let number = bind_ok (fixed_number_at 2 bytes) _ p h in
    let part = fixed_few bytes number.0 few number.1 in
    go number.0.0 number.0.1 (are_named all_status_flags number.0.0) refl part.0 part.1 number.2 where
      go : (n : ℕ) (rest : List ℕ) (named : Bool) → are_named all_status_flags n ≡ named → n < 2 ^ 16 → AreFew rest
          → or_unknown (if named then Some (record { 0 = n }) else None) rest ≡ done p
          → (p.0.0 < 2 ^ 16) × (is_named_status p.0.0 ≡ true) × AreFew p.1
      go n rest false is small few e = absurd cc
      go n rest true is small few e =
          subst (λ (q : StatusFlags × List ℕ). (q.0.0 < 2 ^ 16) × (is_named_status q.0.0 ≡ true) ×
          AreFew q.1) (ok_same (record { 0 = n }, rest) p e) (small, is, few)

-- an info and a session state that were read
record HasRead (capabilities status : ℕ) (x : List ℕ × List ℕ) : Type 0 where
  info : length x.0 < 2 ^ 64
  state : length x.1 < 2 ^ 64
  none : tells_state capabilities status ≡ false → x.1 ≡ []

-- where sessions are tracked and their state changed, it stands there
both_stand : (tracks changed : Bool) → tracks ≡ true → changed ≡ true → (tracks && changed) ≡ true
both_stand tracks changed tracked altered = rw (tracked, altered) refl

not_both : {X : Type 0} (told : Bool) → told ≡ true → told ≡ false → X
not_both told is never = absurd cc

info_read : (capabilities status : ℕ) (bytes : List ℕ) (x : (List ℕ × List ℕ) × List ℕ) →
    AreFew bytes → info_at capabilities status bytes ≡ Ok x
    → HasRead capabilities status x.0
unfolding info_at
info_read capabilities status [] x few h =
    subst (λ (y : (List ℕ × List ℕ) × List ℕ). HasRead capabilities status y.0) (ok_same (([], []), []) x h)
    (record { info = omega arith; state = omega arith; none = λ _. refl })
info_read capabilities status (b ∷ bytes) x few h = go (session_track capabilities) (b == 0) refl h where
  alone : (info rest : List ℕ) → length info < 2 ^ 64 → done ((info, []), rest) ≡ done x →
      HasRead capabilities status x.0
  alone info rest fits e =
      subst (λ (y : (List ℕ × List ℕ) × List ℕ). HasRead capabilities status y.0) (ok_same ((info, []), rest) x e)
      (record { info = fits; state = omega arith; none = λ _. refl })

  behind : (changed : Bool) → session_state_changed status ≡ changed → session_track capabilities ≡
      true → (info rest : List ℕ) → length info < 2 ^ 64 → AreFew rest
      → state_behind changed info rest ≡ Ok x → HasRead capabilities status x.0
  behind false is tracks info rest fits left e = alone info rest fits e
  behind true is tracks info rest fits left e =
      let state = bind_ok (lenenc_text_at rest) _ x e in
      let part = lenenc_text_few rest state.0 left state.1 in
      subst (λ (y : (List ℕ × List ℕ) × List ℕ). HasRead capabilities status y.0)
      (ok_same ((info, state.0.0), state.0.1) x state.2)
      (record {
        info = fits;
        state = part.0;
        none =
            λ never. not_both (tells_state capabilities status)
            (both_stand (session_track capabilities) (session_state_changed status) tracks is) never;
      })

  go : (tracks empty : Bool) → session_track capabilities ≡ tracks
      → (if tracks then (lenenc_text_at (b ∷ bytes) >>= λ info. state_behind
      (session_state_changed status) info.0 info.1)
      else if empty then Ok (([], []), b ∷ bytes)
      else (lenenc_text_at (b ∷ bytes) >>= λ info. Ok ((info.0, []), info.1))) ≡ Ok x
      → HasRead capabilities status x.0
  go true empty is e =
      let info = bind_ok (lenenc_text_at (b ∷ bytes)) _ x e in
      let part = lenenc_text_few (b ∷ bytes) info.0 few info.1 in
      behind (session_state_changed status) refl is info.0.0 info.0.1 part.0 part.1 info.2
  go false true is e = alone [] (b ∷ bytes) (omega arith) e
  go false false is e =
      let info = bind_ok (lenenc_text_at (b ∷ bytes)) _ x e in
      let part = lenenc_text_few (b ∷ bytes) info.0 few info.1 in
      alone info.0.0 info.0.1 part.0 info.2

-- the first bytes are bytes
taken_bytes : (n : ℕ) (bytes : List ℕ) → AreBytes bytes → AreBytes (take n bytes)
taken_bytes zero bytes all i = omega arith
taken_bytes (suc n) [] all i = omega arith
taken_bytes (suc n) (b ∷ bytes) all zero = all 0
taken_bytes (suc n) (b ∷ bytes) all (suc i) = taken_bytes n bytes (λ k. all (suc k)) i

taken_few : (n : ℕ) (bytes : List ℕ) → AreFew bytes → AreFew (take n bytes)
taken_few n bytes few = (taken_bytes n bytes few.0, omega (arith, length-take n bytes, few.1))

-- a block of bytes, and those behind it
block_few : (n : ℕ) (bytes : List ℕ) (p : List ℕ × List ℕ) → AreFew bytes → bytes_at n bytes ≡
    Ok p → AreFew p.0 × AreFew p.1
block_few n bytes p few h =
    let part = first_few n (take n) bytes p few (stands (buffer.bytes_at n bytes) p h) in
    (subst AreFew (sym part.0) (taken_few n bytes few), part.1)

-- a header
header_few : (first : ℕ) (bytes : List ℕ) (p : ℕ × List ℕ) → AreFew bytes →
    constant_at 1 first bytes ≡ Ok p → AreFew p.1
header_few first bytes p few h =
    let number = bind_ok (fixed_number_at 1 bytes) (is_constant first) p h in
    let part = number_few 1 bytes number.0 few (stands (little_at 1 bytes) number.0 number.1) in
    go (number.0.0 == first) number.0 part.1 number.2 where
      go : (same : Bool) (x : ℕ × List ℕ) → AreFew x.1 →
          (if same then done x else Err BadConstant) ≡ done p → AreFew p.1
      go true x left e = subst (λ (q : ℕ × List ℕ). AreFew q.1) (ok_same x p e) left
      go false x left e = absurd cc

zero_own : (id : ℕ) → or_zero (unless_zero id) ≡ id
zero_own zero = refl
zero_own (suc n) = refl

bytes_own : (bytes : List ℕ) → or_empty (unless_empty bytes) ≡ bytes
bytes_own [] = refl
bytes_own (b ∷ bytes) = refl

-- a session state is there where it stands
state_own : (tells : Bool) (state : List ℕ) → (tells ≡ false → state ≡ []) →
    (if tells then unless_empty state else None) ≡ unless_empty state
state_own true state none = refl
state_own false state none = rw (none refl) refl

-- a packet with these rows and this id, which can be written and is what is read of it again
record IsOwn (capabilities affected id : ℕ) (p : OkPacket) : Type 0 where
  writable : IsWritable p
  same : as_ok capabilities p ≡ p
  rows : p.affected_rows ≡ affected
  id_is : p.last_insert_id ≡ unless_zero id

-- the packet of these fields
abbrev pub packet_of : ℕ → ℕ → ℕ → ℕ → List ℕ × List ℕ → OkPacket
packet_of affected id status warnings x = record {
  affected_rows = affected;
  last_insert_id = unless_zero id;
  status_flags = status;
  warnings = warnings;
  info = unless_empty x.0;
  session_state_info = unless_empty x.1;
}

fields_own : (capabilities affected id status warnings : ℕ) (x : List ℕ × List ℕ) →
    affected < 2 ^ 64 → id < 2 ^ 64 → status < 2 ^ 16 → is_named_status status ≡ true
    → warnings < 2 ^ 16 → HasRead capabilities status x →
    IsOwn capabilities affected id (packet_of affected id status warnings x)
fields_own capabilities affected id status warnings x few_rows few_ids few_flags named few_warnings read = record {
  writable = record {
    affected_rows = few_rows;
    last_insert_id = rw (zero_own id) few_ids;
    status_flags = few_flags;
    named = named;
    warnings = few_warnings;
    info = rw (bytes_own x.0) (read.info);
    session_state_info = rw (bytes_own x.1) (read.state);
  };
  same = rw (zero_own id, bytes_own x.0, bytes_own x.1, state_own (tells_state capabilities status) x.1 read.none) refl;
  rows = refl;
  id_is = refl;
}

-- what is so of the packet that was made is so of the one that was read
made_is : (capabilities affected id status warnings : ℕ) (x : List ℕ × List ℕ) (left : List ℕ) (q : OkPacket × List ℕ)
    → done (packet_of affected id status warnings x, left) ≡ done q →
    IsOwn capabilities affected id (packet_of affected id status warnings x) →
    IsOwn capabilities affected id q.0
made_is capabilities affected id status warnings x left q e own =
    subst (λ (y : OkPacket × List ℕ). IsOwn capabilities affected id y.0)
    (ok_same (packet_of affected id status warnings x, left) q e) own

status_and_info_own : (capabilities affected id : ℕ) (bytes rest : List ℕ) (p : OkPacket) →
    affected < 2 ^ 64 → id < 2 ^ 64 → AreFew bytes
    → status_and_info_at capabilities affected id bytes ≡ Ok (p, rest) → IsOwn capabilities affected id p
unfolding status_and_info_at
status_and_info_own capabilities affected id bytes rest p few_rows few_ids few h =
    let block = bind_ok (bytes_at 4 bytes) _ (p, rest) h in
    let parts = block_few 4 bytes block.0 few block.1 in
    let status = bind_ok (named_at status_named (fixed_number_at 2) block.0.0) _ (p, rest) block.2 in
    let flags = status_few block.0.0 status.0 parts.0 status.1 in
    let warnings = bind_ok (fixed_number_at 2 status.0.1) _ (p, rest) status.2 in
    let count = fixed_few status.0.1 warnings.0 flags.2 warnings.1 in
    let info = bind_ok (info_at capabilities status.0.0.0 block.0.1) _ (p, rest) warnings.2 in
    let read = info_read capabilities status.0.0.0 block.0.1 info.0 parts.1 info.1 in
    made_is capabilities affected id status.0.0.0 warnings.0.0 info.0.0 info.0.1 (p, rest) info.2
    (fields_own capabilities affected id status.0.0.0 warnings.0.0 info.0.0 few_rows few_ids flags.0
    flags.1 count.0 read)

ok_body_own : (capabilities : ℕ) (bytes rest : List ℕ) (p : OkPacket) → AreFew bytes →
    ok_body_at capabilities bytes ≡ Ok (p, rest)
    → IsWritable p × (as_ok capabilities p ≡ p)
ok_body_own capabilities bytes rest p few h =
    let affected = bind_ok (lenenc_number_at bytes) _ (p, rest) h in
    let rows = lenenc_number_few bytes affected.0 few affected.1 in
    let id = bind_ok (lenenc_number_at affected.0.1) _ (p, rest) affected.2 in
    let ids = lenenc_number_few affected.0.1 id.0 rows.1 id.1 in
    let own = status_and_info_own capabilities affected.0.0 id.0.0 id.0.1 rest p rows.0 ids.0 ids.1 id.2 in
    (own.writable, own.same)

-- a packet with other rows and another id
abbrev pub with_rows : ℕ → Option ℕ → OkPacket → OkPacket
with_rows affected id p = record {
  affected_rows = affected;
  last_insert_id = id;
  status_flags = p.status_flags;
  warnings = p.warnings;
  info = p.info;
  session_state_info = p.session_state_info;
}

no_numbers : (affected : ℕ) (id : Option ℕ) (p : OkPacket) → p.affected_rows ≡ affected →
    p.last_insert_id ≡ id → with_rows affected id p ≡ p
no_numbers affected id p rows ids = rw (← rows, ← ids) refl

terminator_body_own : (capabilities : ℕ) (bytes rest : List ℕ) (p : OkPacket) → AreFew bytes →
    result_set_terminator_body_at capabilities bytes ≡ Ok (p, rest)
    → IsWritable p × (as_terminator capabilities p ≡ p)
terminator_body_own capabilities bytes rest p few h =
    let affected = bind_ok (lenenc_number_at bytes) _ (p, rest) h in
    let rows = lenenc_number_few bytes affected.0 few affected.1 in
    let id = bind_ok (lenenc_number_at affected.0.1) _ (p, rest) affected.2 in
    let ids = lenenc_number_few affected.0.1 id.0 rows.1 id.1 in
    let own = status_and_info_own capabilities 0 0 id.0.1 rest p (omega arith) (omega arith) ids.1 id.2 in
    (own.writable, ap (as_ok capabilities) (no_numbers 0 None p own.rows own.id_is) ∙ own.same)

eof_body_own : (bytes rest : List ℕ) (p : OkPacket) → AreFew bytes → old_eof_body_at bytes ≡
    Ok (p, rest) → IsWritable p × (as_eof p ≡ p)
eof_body_own bytes rest p few h =
    let block = bind_ok (bytes_at 4 bytes) _ (p, rest) h in
    let parts = block_few 4 bytes block.0 few block.1 in
    let warnings = bind_ok (fixed_number_at 2 block.0.0) _ (p, rest) block.2 in
    let count = fixed_few block.0.0 warnings.0 parts.0 warnings.1 in
    let status = bind_ok (named_at status_named (fixed_number_at 2) warnings.0.1) _ (p, rest) warnings.2 in
    let flags = status_few warnings.0.1 status.0 count.1 status.1 in
    let made = packet_of 0 0 status.0.0.0 warnings.0.0 ([], []) in
    let same : (packet_of 0 0 status.0.0.0 warnings.0.0 ([], []), block.0.1) ≡ (p, rest) =
    ok_same (made, block.0.1) (p, rest) status.2 in
    subst (λ (q : OkPacket × List ℕ). IsWritable q.0 × (as_eof q.0 ≡ q.0)) same (
      record {
        affected_rows = omega arith;
        last_insert_id = omega arith;
        status_flags = flags.0;
        named = flags.1;
        warnings = count.0;
        info = omega arith;
        session_state_info = omega arith;
      },
      refl,
    )

pub ok_packet_own : (capabilities : ℕ) → IsItsOwn (ok_packet_at capabilities) (as_ok capabilities)
unfolding ok_packet_at
ok_packet_own capabilities bytes rest p all short h =
    let header = bind_ok (constant_at 1 0 bytes) _ (p, rest) h in
    ok_body_own capabilities header.0.1 rest p (header_few 0 bytes header.0 (all, short) header.1) header.2

pub terminator_own : (capabilities : ℕ) → IsItsOwn (result_set_terminator_at capabilities) (as_terminator capabilities)
unfolding result_set_terminator_at
terminator_own capabilities bytes rest p all short h =
    let header = bind_ok (constant_at 1 254 bytes) _ (p, rest) h in
    terminator_body_own capabilities header.0.1 rest p (header_few 254 bytes header.0 (all, short) header.1) header.2

pub eof_own : IsItsOwn old_eof_at as_eof
unfolding old_eof_at
eof_own bytes rest p all short h =
    let header = bind_ok (constant_at 1 254 bytes) _ (p, rest) h in
    eof_body_own header.0.1 rest p (header_few 254 bytes header.0 (all, short) header.1) header.2
