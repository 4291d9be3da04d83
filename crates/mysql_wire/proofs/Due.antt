-- The header of the chunk in which the bytes end that a codec holds of a packet.
use Rattle.std.proofs.Common.{◌≡◌, ◌≢◌, ℕ, ◌+◌, ◌*◌, ◌/◌, ◌%◌, ◌<◌, ◌≤◌, List, [], ◌∷◌, ◌++◌, length, drop, refl, ap}
use Rattle.std.proofs.Common.{sym, ◌∙◌, append_assoc, arith, length-append, le-ltb, subst}
use Rattle.std.specs.Prelude.{IfSome, Option, Some, None, false, true, is_some, option_map, if◌then◌else◌}
use Rattle.std.proofs.lemmas.List.{drop_at, length-drop}
use Rattle.byteorder.specs.Endian.{little_bytes}
use Rattle.mysql_wire.specs.Framing.{announced, chunks, number_at}
use Rattle.mysql_wire.specs.Codec.{Begun, Codec, IsOfPacket, begun_bytes, held, packet_number, whole_chunks}
use Rattle.mysql_wire.specs.Incoming.{Incoming, header_at, header_due}
use Rattle.mysql_wire.specs.Kept.{IsKept, Stands, bytes_of, incoming_of, unfinished}
use Rattle.mysql_wire.specs.declared.codec.reader.PacketReader.TheInside.{Inside}
use Rattle.mysql_wire.specs.declared.codec.header.ChunkHeader.{ChunkHeader}
use Rattle.mysql_wire.proofs.Incoming.{begun_open, length-chunks}
use Rattle.mysql_wire.proofs.OnePacket.{announced_begun}

-- behind the whole chunks it stands at the front of the rest, which is shorter than a full chunk
behind_chunks : (codec : Codec) (packet back piece : List ℕ) → length back < 16777219 →
    header_due (chunks packet (packet_number codec packet) (whole_chunks packet) ++ back) piece ≡
    header_at (back ++ piece)
behind_chunks codec packet back piece few =
    let front = chunks packet (packet_number codec packet) (whole_chunks packet) in
    let len = length-chunks packet (packet_number codec packet) (whole_chunks packet) (omega arith) in
    let start : length (front ++ back) / 16777219 * 16777219 ≡ length front =
    omega (arith, few, len, length-append front back) in
    ap (λ k. header_at (drop k ((front ++ back) ++ piece))) start
    ∙ ap header_at (ap (drop (length front)) (append_assoc front back piece) ∙
    drop_at front (back ++ piece) (length front) refl)

-- a header stands at the front of these bytes
header_stands : (len number : ℕ) (part more : List ℕ) → len ≤ 16777215 → number < 256 →
    header_at ((little_bytes 3 len ++ (number % 256 ∷ part)) ++ more) ≡ Some (record { number = number; len = len })
header_stands len number part more most byte =
    let bytes = (little_bytes 3 len ++ (number % 256 ∷ part)) ++ more in
    let same : number % 256 ≡ number = omega (arith, byte) in
    let stands : 4 ≤ length bytes = omega (arith, length-append (little_bytes 3 len ++ (number % 256 ∷ part)) more) in
    let none : Option ChunkHeader = None in
    let some : Option ChunkHeader = Some (record { number = number_at bytes; len = announced bytes }) in
    ap (λ b. if b then none else some) (le-ltb (length bytes) 4 stands)
    ∙ ap (λ n. Some (record { number = n; len = announced bytes })) same
    ∙ ap (λ (l : ℕ). Some (record { number = number; len = l })) (announced_begun len number part more most)

-- a chunk was begun
pub due_begun : (codec : Codec) (header packet piece : List ℕ) (chunk : Begun) → codec.begun ≡
    Some chunk → IsOfPacket codec.limit codec.begun packet → header ≡ [] → chunk.number < 256 →
    header_due (held codec header packet) piece ≡
    Some (record { number = chunk.number; len = length packet % 16777215 + chunk.awaited })
unfolding held
due_begun codec header packet piece chunk is fits none byte =
    let part = drop (whole_chunks packet * 16777215) packet in
    let front = chunks packet (packet_number codec packet) (whole_chunks packet) in
    let len : length part ≡ length packet % 16777215 =
    omega (arith, length-drop (whole_chunks packet * 16777215) packet) in
    let room : length packet % 16777215 + chunk.awaited ≤ 16777215 =
    (subst (λ (b : Option Begun). IsOfPacket codec.limit b packet) is fits).1 in
    let mid = begun_bytes (Some chunk) part in
    let short : length (mid ++ []) < 16777219 = omega (arith, len, length-append mid []) in
    ap (λ b. header_due (front ++ (begun_bytes b part ++ header)) piece) is
    ∙ ap (λ h. header_due (front ++ (mid ++ h)) piece) none
    ∙ behind_chunks codec packet (mid ++ []) piece short
    ∙ ap header_at (append_assoc mid [] piece)
    ∙ header_stands (length part + chunk.awaited) chunk.number part piece (omega (arith, len, room)) byte
    ∙ ap (λ (l : ℕ). Some (record { number = chunk.number; len = l + chunk.awaited })) len

-- a header stands in part, or nothing of a chunk does
pub due_none : (codec : Codec) (header packet piece : List ℕ) → codec.begun ≡ None →
    length header < 4 → header_due (held codec header packet) piece ≡ header_at (header ++ piece)
unfolding held
due_none codec header packet piece is few =
    ap (λ b. header_due (chunks packet (packet_number codec packet) (whole_chunks packet) ++
    (begun_bytes b (drop (whole_chunks packet * 16777215) packet) ++ header)) piece) is
    ∙ behind_chunks codec packet header piece (omega (arith, few))

-- the bytes that a reader holds of a packet that is begun
bytes_begun : (r : Inside) (v : Incoming) → incoming_of r ≡ v → r.begun ≡ true →
    held r.codec r.header r.packet.items ≡ v.bytes
bytes_begun r v view is = sym (ap (λ b. bytes_of b r.codec r.header r.packet.items) is) ∙
    ap (λ (x : Incoming). x.bytes) view

-- the chunk that a reader has begun
pub reader_begun : (r : Inside) (v : Incoming) (piece : List ℕ) (told : Option ChunkHeader) →
    incoming_of r ≡ v → IsKept r → r.begun ≡ true → is_some told ≡ true →
    told ≡ option_map (λ chunk. record {
      number = chunk.number;
      len =
          length r.packet.items % 16777215 + chunk.awaited;
    }) r.codec.begun →
    IfSome told (λ header. header.number < 256) →
    told ≡ header_due v.bytes piece
reader_begun r v piece told view kept is some same byte = by r.codec.begun refl same
  where
    fine : r.codec.refused ≡ None
    fine = begun_open r kept is

    s : Stands r.codec r.header (unfinished r.begun r.packet.items) r.number
        (bytes_of r.begun r.codec r.header r.packet.items)
    s = kept.stands fine

    fits : IsOfPacket r.codec.limit r.codec.begun r.packet.items
    fits = subst (λ b. IsOfPacket r.codec.limit r.codec.begun (unfinished b r.packet.items)) is (s.goes_on fine)

    by : (begun : Option Begun) → r.codec.begun ≡ begun → told ≡
        option_map (λ chunk. record {
          number = chunk.number;
          len =
              length r.packet.items % 16777215 + chunk.awaited;
        }) begun →
        told ≡ header_due v.bytes piece
    by None e same = absurd (let never : true ≡ false = sym some ∙ ap is_some same in cc)
    by (Some chunk) e same =
        let small : chunk.number < 256 =
        subst (λ (h : Option ChunkHeader). IfSome h (λ header. header.number < 256)) same
        byte in
        let open_chunk : r.codec.begun ≢ None = λ none. (let never : Some chunk ≡ None = sym e ∙ none in cc) in
        same ∙ sym (due_begun r.codec r.header r.packet.items piece chunk e fits
        (s.moved open_chunk) small) ∙ ap (λ l. header_due l piece) (bytes_begun r v view is)

-- a reader that has begun none
pub reader_between : (r : Inside) (v : Incoming) (piece : List ℕ) (told : Option ChunkHeader) →
    incoming_of r ≡ v → r.begun ≡ true → length r.header < 4 → is_some told ≡ false →
    told ≡ option_map (λ chunk. record {
      number = chunk.number;
      len =
          length r.packet.items % 16777215 + chunk.awaited;
    }) r.codec.begun →
    header_at (r.header ++ piece) ≡ header_due v.bytes piece
reader_between r v piece told view is few nothing same = by r.codec.begun refl same
  where
    by : (begun : Option Begun) → r.codec.begun ≡ begun → told ≡
        option_map (λ chunk. record {
          number = chunk.number;
          len =
              length r.packet.items % 16777215 + chunk.awaited;
        }) begun →
        header_at (r.header ++ piece) ≡ header_due v.bytes piece
    by None e same = sym (due_none r.codec r.header r.packet.items piece e few) ∙
        ap (λ l. header_due l piece) (bytes_begun r v view is)
    by (Some chunk) e same = absurd (let never : false ≡ true = sym nothing ∙ ap is_some same in cc)
