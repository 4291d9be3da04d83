-- The laws of OK and EOF packets: what was written is read back, and what was read is its own reading back.
use Rattle.std.specs.Prelude.{◌≡◌, ◌<◌, ◌^◌, ℕ, List, [], ◌∷◌, length, Ok}
use Rattle.mysql_buf.specs.Bytes.{AreBytes}
use Rattle.mysql_fields.specs.Wire.{Reading}
use Rattle.mysql_ok_packets.specs.OkPackets.{OkPacket, ok_packet_at, old_eof_at, packet_at, result_set_terminator_at}
use Rattle.mysql_ok_packets.specs.Written.{IsWritable, as_eof, as_ok, as_terminator, eof_bytes, ok_packet_bytes}

-- with nothing following, since what follows would be the info where there is none
abbrev pub OkPacketsReadBack : Type 0
OkPacketsReadBack = (capabilities : ℕ) (p : OkPacket) → IsWritable p →
    ok_packet_at capabilities (ok_packet_bytes 0 capabilities p) ≡ Ok (as_ok capabilities p, [])

abbrev pub TerminatorsReadBack : Type 0
TerminatorsReadBack = (capabilities : ℕ) (p : OkPacket) → IsWritable p →
    result_set_terminator_at capabilities (ok_packet_bytes 254 capabilities p) ≡
    Ok (as_terminator capabilities p, [])

abbrev pub EofPacketsReadBack : Type 0
EofPacketsReadBack = (p : OkPacket) → IsWritable p → old_eof_at (eof_bytes p) ≡ Ok (as_eof p, [])

-- any kind, by its header, what it reads and writes behind it, and what it keeps of a packet
abbrev pub KindReadsBack : ℕ → (ℕ → List ℕ → Reading OkPacket) → (ℕ → OkPacket → List ℕ) →
    (ℕ → OkPacket → OkPacket) → Type 0
KindReadsBack header body_at body_bytes kept =
    (capabilities : ℕ) (p : OkPacket) → IsWritable p →
    packet_at header body_at capabilities (header ∷ body_bytes capabilities p) ≡
    Ok (kept capabilities p, [])

-- a packet that such bytes are can be written, and is what is read of it again
abbrev pub IsItsOwn : (List ℕ → Reading OkPacket) → (OkPacket → OkPacket) → Type 0
IsItsOwn read_at as_read = (bytes rest : List ℕ) (p : OkPacket) → AreBytes bytes →
    length bytes < 2 ^ 64 → read_at bytes ≡ Ok (p, rest) → IsWritable p × (as_read p ≡ p)

abbrev pub OkPacketsAreTheirOwn : Type 0
OkPacketsAreTheirOwn = (capabilities : ℕ) → IsItsOwn (ok_packet_at capabilities) (as_ok capabilities)

abbrev pub TerminatorsAreTheirOwn : Type 0
TerminatorsAreTheirOwn = (capabilities : ℕ) →
    IsItsOwn (result_set_terminator_at capabilities) (as_terminator capabilities)

abbrev pub EofPacketsAreTheirOwn : Type 0
EofPacketsAreTheirOwn = IsItsOwn old_eof_at as_eof
