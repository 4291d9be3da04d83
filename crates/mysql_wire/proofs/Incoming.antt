-- The steps of a reader of packets, from its codec's to what it holds.
use Rattle.std.proofs.Common.{◌≡◌, ◌≢◌, ℕ, zero, suc, ◌+◌, ◌-◌, ◌*◌, ◌<◌, ◌≤◌, Bool, true, false, List, [], ◌∷◌, ◌++◌}
use Rattle.std.proofs.Common.{length, take, drop, refl, ap, sym, ◌∙◌, subst, append_assoc, arith, inl, inr}
use Rattle.std.proofs.Common.{length-append, length-take, drop-drop}
use Rattle.std.specs.Prelude.{Option, Some, None, IfSome, Result, Ok, Err, ◌==◌, ◌||◌, not}
use Rattle.std.proofs.lemmas.List.{take_all, take_at, drop_at, take-append-drop, append-nil, nil_from_length}
use Rattle.std.proofs.lemmas.List.{length-drop}
use Rattle.std.proofs.lemmas.Bool.{cases_lt, ne_eqb}
use Rattle.mysql_wire.specs.Framing.{chunks, framing, number_after}
use Rattle.mysql_wire.specs.Stream.{Rest, IsFault, IsRest, IsTail}
use Rattle.mysql_wire.specs.Stream.Rest.{Empty, TooLarge, OutOfSync, Open}
use Rattle.mysql_wire.specs.Codec.{Begun, Codec, codec_at, IsOfPacket, HandsOut, Waits, IsDue, RefusesBy, held}
use Rattle.mysql_wire.specs.Codec.{begun_bytes, packet_number, whole_chunks}
use Rattle.mysql_wire.specs.Incoming.{Incoming, ReadsOn, bytes_kept, codec_by, incoming_at}
use Rattle.mysql_wire.specs.Reader.{HasRead, IsAnswer}
use Rattle.mysql_wire.specs.Stream.Numbering.{OnFrom}
use Rattle.mysql_wire.specs.Kept.{unfinished, handed_out, bytes_of, incoming_of, Stands, IsKept}
use Rattle.mysql_wire.specs.declared.codec.reader.PacketReader.TheInside.{Inside}
use Rattle.mysql_wire.specs.declared.codec.PacketCodecError.{PacketCodecError}
use Rattle.mysql_wire.specs.declared.codec.Refusal.{Refusal}
use Rattle.mysql_wire.specs.declared.codec.Refusal.TheVariants as refusals
use Rattle.mysql_wire.proofs.Chunks.{chunks-zero, chunks_first, length-chunk}
use Rattle.mysql_wire.proofs.Unique.{framing_no_rest}
use Rattle.mysql_wire.proofs.GoingOn.{empty_rest}
use Rattle.mysql_wire.proofs.Steps.{waits_before_header}
use Rattle.mysql_wire.proofs.Reading.{held_more, held_between, between_goes_on, starts, takes, waits as waits_at}

-- what follows in one of two ways to cut a list
behind : (front piece a b : List ℕ) → front ++ piece ≡ a ++ b → length b ≤ length piece →
    drop (length piece - length b) piece ≡ b
behind front piece a b e few =
    let k = length piece - length b in
    let total : length front + length piece ≡ length a + length b =
    omega (arith, ap length e, length-append front piece, length-append a b) in
    ap (drop k) (sym (drop_at front piece (length front) refl)) ∙
    drop-drop k (length front) (front ++ piece) ∙ ap (drop (length front + k)) e
    ∙ drop_at a b (length front + k) (omega arith)

-- what comes first in the other
before : (front piece a b : List ℕ) → front ++ piece ≡ a ++ b → length piece ≤ length b → front ≡
    a ++ take (length b - length piece) b
before front piece a b e more =
    let k = length b - length piece in
    let total : length front + length piece ≡ length a + length b =
    omega (arith, ap length e, length-append front piece, length-append a b) in
    sym (take_at front piece (length front) refl)
    ∙ ap (take (length front)) (e ∙ ap (λ l. a ++ l) (sym (take-append-drop k b)) ∙
    sym (append_assoc a (take k b) (drop k b)))
    ∙ take_at (a ++ take k b) (drop k b) (length front) (omega (arith, length-append a (take k b), length-take k b))

-- a payload that did not stand whole before a piece ends with bytes of the piece
pub uses_piece : (codec : Codec) (header dst piece : List ℕ) (number : ℕ) (bytes : List ℕ)
    (new : Codec) (left payload : List ℕ) → Stands codec header dst number bytes →
    HandsOut codec (header ++ piece) dst new left payload → (length left < length piece) ×
    (drop (length piece - length left) piece ≡ left)
uses_piece codec header dst piece number bytes new left payload s h =
    let e : bytes ++ piece ≡ framing payload number ++ left =
    ap (λ k. k ++ piece) (sym s.held_is) ∙ sym (held_more codec header dst piece) ∙ h.framed ∙
    ap (λ k. framing payload k ++ left) s.number_is in
    elim (cases_lt (length left) (length piece)) [
      | inl few ↦ (few, behind bytes piece (framing payload number) left e (omega arith))
      | inr more ↦ absurd (framing_no_rest codec.limit number payload
          (take (length left - length piece) left) bytes s.rest h.within
          (before bytes piece (framing payload number) left e more) s.is_rest)
    ]

-- the same where the piece is cut there
pub cut_piece : (codec : Codec) (header dst piece src : List ℕ) (number : ℕ) (bytes : List ℕ)
    (new : Codec) (left payload : List ℕ) (n : ℕ) → src ≡ header ++ piece →
    Stands codec header dst number bytes →
    HandsOut codec src dst new left payload → n ≡ length left →
    (n ≤ length piece) × HandsOut codec (header ++
    piece) dst new (take (length piece - (length piece - n)) (drop (length piece - n) piece))
    payload
    × (length (take (length piece - (length piece - n)) (drop (length piece - n) piece)) < length piece)
cut_piece codec header dst piece src number bytes new left payload n joined s h e =
    let here = subst (λ l. HandsOut codec l dst new left payload) joined h in
    let u = uses_piece codec header dst piece number bytes new left payload s here in
    let few : n ≤ length piece = omega (arith, e, u.0) in
    let whole : take (length piece - (length piece - n)) (drop (length piece - n) piece) ≡ left =
    ap (λ k. take (length piece - (length piece - n)) (drop (length piece - k) piece)) e ∙
    ap (take (length piece - (length piece - n))) u.1 ∙
    take_all (length piece - (length piece - n)) left (omega arith) in (
      few,
      subst (λ l. HandsOut codec (header ++ piece) dst new l payload) (sym whole) here,
      subst (λ l. length l < length piece) (sym whole) u.0,
    )

-- a codec that answered otherwise had refused nothing
pub not_refused : (o : Option Refusal) (r : Result Bool Refusal) (whole : Bool) (Q : Refusal →
    Type 0) → ((x : Refusal) → Q x → r ≡ Err x) → IfSome o Q → r ≡ Ok whole → o ≡ None
not_refused None r whole Q is h e = refl
not_refused (Some x) r whole Q is h e = absurd (let never : Err x ≡ Ok whole = sym (is x h) ∙ e in cc)

-- where nothing is held, no byte of a packet is
held_nothing : (codec : Codec) (src dst : List ℕ) → IsOfPacket codec.limit codec.begun dst →
    held codec src dst ≡ [] → dst ≡ []
unfolding held
held_nothing codec src dst fits none = by codec.begun fits none
  where
    front : List ℕ
    front = chunks dst (packet_number codec dst) (whole_chunks dst)

    by_count : (n : ℕ) → whole_chunks dst ≡ n → IsOfPacket codec.limit None dst → front ++ ([] ++ src) ≡ [] → dst ≡ []
    by_count zero is fits none = nil_from_length dst (omega (arith, is, fits.1))
    by_count (suc n) is fits none =
        let e = ap (λ k. chunks dst (packet_number codec dst) k ++ ([] ++ src)) (sym is) ∙ none in
        absurd (omega (
          arith,
          ap length (sym (chunks_first dst (packet_number codec dst) n src) ∙
              e),
          length-chunk (packet_number codec dst) (take 16777215 dst)
              (chunks (drop 16777215 dst) (packet_number codec dst + 1) n ++ src),
        ))

    by : (begun : Option Begun) → IsOfPacket codec.limit begun dst → front ++
        (begun_bytes begun (drop (whole_chunks dst * 16777215) dst) ++ src) ≡ [] → dst ≡ []
    by None fits none = by_count (whole_chunks dst) refl fits none
    by (Some begun) fits none =
        let part = drop (whole_chunks dst * 16777215) dst in
        absurd (omega (
          arith,
          ap length none,
          length-append front (begun_bytes (Some begun) part ++ src),
          length-append part src,
        ))

-- each chunk that is full has four bytes more than it carries
pub length-chunks : (payload : List ℕ) (id count : ℕ) → count * 16777215 ≤ length payload →
    length (chunks payload id count) ≡ count * 16777219
length-chunks payload id zero h = ap length (chunks-zero payload id)
length-chunks payload id (suc n) h =
    let others = chunks (drop 16777215 payload) (id + 1) n in
    let rest : n * 16777215 ≤ length (drop 16777215 payload) = omega (arith, h, length-drop 16777215 payload) in
    omega (
      arith,
      h,
      ap length (chunks_first payload id n []),
      length-append (chunks payload id (suc n)) [],
      length-chunk id (take 16777215 payload) (others ++ []),
      length-append others [],
      length-take 16777215 payload,
      length-chunks (drop 16777215 payload) (id + 1) n rest,
    )

-- where fewer bytes are held than a full chunk has, no chunk of the packet stands whole
no_whole_chunk : (codec : Codec) (src dst : List ℕ) → length (held codec src dst) < 16777219 → whole_chunks dst ≡ 0
unfolding held
no_whole_chunk codec src dst few =
    let front = chunks dst (packet_number codec dst) (whole_chunks dst) in
    let back = begun_bytes codec.begun (drop (whole_chunks dst * 16777215) dst) ++ src in
    omega (
      arith,
      few,
      length-append front back,
      length-chunks dst (packet_number codec dst) (whole_chunks dst) (omega arith),
    )

-- the number is no part of what is held, where no whole chunk is
held_renumbered : (codec : Codec) (src dst : List ℕ) (n : ℕ) → whole_chunks dst ≡ 0 →
    held (record codec { number = n }) src dst ≡ held codec src dst
unfolding held
held_renumbered codec src dst n none =
    let back = begun_bytes codec.begun (drop (whole_chunks dst * 16777215) dst) ++ src in
    let front : (id : ℕ) → chunks dst id (whole_chunks dst) ≡ [] = λ id. ap (chunks dst id) none ∙ chunks-zero dst id in
    ap (λ k. k ++ back) (front (packet_number (record codec { number = n }) dst)) ∙
    ap (λ k. k ++ back) (sym (front (packet_number codec dst)))

-- nor of a rest that is no fault
tail_renumbered : (limit before number n : ℕ) (tail : List ℕ) (rest : Rest) → ¬ IsFault rest →
    IsTail limit before number tail rest → IsTail limit before n tail rest
tail_renumbered limit before number n tail Empty fine t = t
tail_renumbered limit before number n tail TooLarge fine t = t
tail_renumbered limit before number n tail OutOfSync fine t = absurd (fine tt)
tail_renumbered limit before number n tail Open fine t = t

rest_renumbered : (limit number n : ℕ) (bytes : List ℕ) (rest : Rest) → length bytes < 16777219 →
    ¬ IsFault rest → IsRest limit number bytes rest → IsRest limit n bytes rest
rest_renumbered limit number n bytes rest few fine r =
    let len = length-chunks r.body number r.count (omega (arith, r.full)) in
    let none : r.count ≡ 0 = omega (
      arith,
      few,
      len,
      ap length r.joined,
      length-append (chunks r.body number r.count) r.tail,
    ) in
    let nothing : (id : ℕ) → chunks r.body id r.count ≡ [] = λ id. ap (chunks r.body id) none ∙ chunks-zero r.body id in
    record {
      body = r.body;
      count = r.count;
      tail = r.tail;
      full = r.full;
      within = r.within;
      joined = r.joined ∙ ap (λ k. k ++ r.tail) (nothing number ∙ sym (nothing n));
      ends = tail_renumbered limit (length r.body) (number + r.count) (n + r.count) r.tail rest fine r.ends;
    }

-- a codec between packets
abbrev pub at : Codec → ℕ → Codec
at codec number = record { limit = codec.limit; number = number; begun = None; refused = codec.refused }

same_number : (codec : Codec) (dst : List ℕ) (number : ℕ) → packet_number codec dst ≡ number →
    packet_number (at codec number) [] ≡ number
same_number codec dst number e = omega (arith, e)

module _ (codec : Codec) (header dst piece : List ℕ) (number : ℕ) (bytes : List ℕ)
    (s : Stands codec header dst number bytes) where
  all_held : held codec (header ++ piece) dst ≡ bytes ++ piece
  all_held = held_more codec header dst piece ∙ ap (λ k. k ++ piece) s.held_is

  all_src : held (at codec number) (bytes ++ piece) [] ≡ bytes ++ piece
  all_src = held_between (at codec number) (bytes ++ piece) [] refl refl

  numbered : packet_number codec dst ≡ packet_number (at codec number) []
  numbered = s.number_is ∙ sym (same_number codec dst number s.number_is)

  -- a payload is handed out
  pub hands_by : (new : Codec) (left payload : List ℕ) →
      HandsOut codec (header ++ piece) dst new left payload →
      HandsOut (at codec number) (bytes ++ piece) [] (at new new.number) left payload
  hands_by new left payload h = record {
    framed = all_src ∙ sym all_held ∙ h.framed ∙ ap (λ n. framing payload n ++ left) numbered;
    within = h.within;
    number = h.number ∙ ap (number_after payload) numbered;
    limit = h.limit;
    between = (refl, h.between.1);
  }

  rest_by : (rest : Rest) →
      IsRest codec.limit (packet_number codec dst) (held codec (header ++ piece) dst) rest →
      IsRest codec.limit (packet_number (at codec number) [])
      (held (at codec number) (bytes ++ piece) []) rest
  rest_by rest r =
      subst (λ n. IsRest codec.limit n (held (at codec number) (bytes ++ piece) []) rest) numbered
      (subst (λ l. IsRest codec.limit (packet_number codec dst) l rest) (all_held ∙ sym all_src) r)

  -- a refusal is due
  pub due_by : (refusal : Refusal) → IsDue codec (header ++ piece) dst refusal →
      IsDue (at codec number) (bytes ++ piece) [] refusal
  due_by refusals.TooLarge due = rest_by TooLarge due
  due_by refusals.OutOfSync due = rest_by OutOfSync due
  due_by refusals.Memory due = tt

  -- the codec waits
  pub waits_by : (new : Codec) (header' dst' : List ℕ) →
      Waits codec (header ++ piece) dst new header' dst' →
      Waits (at codec number) (bytes ++ piece) [] (at new number) (bytes ++ piece) []
  waits_by new header' dst' w = record {
    held_same = held_between (at new number) (bytes ++ piece) [] refl refl ∙ sym all_src;
    number = refl;
    limit = w.limit;
    refused = w.refused;
    goes_on = λ _. (omega arith, refl);
    rest = w.rest;
    no_fault = w.no_fault;
    is_rest = rest_by w.rest w.is_rest;
  }

  pub stands_on : (new : Codec) (header' dst' : List ℕ) → (new.begun ≢ None → header' ≡ []) →
      Waits codec (header ++ piece) dst new header' dst' →
      Stands new header' dst' number (bytes ++ piece)
  stands_on new header' dst' moved w = record {
    moved = moved;
    goes_on = w.goes_on;
    number_is = w.number ∙ s.number_is;
    held_is = w.held_same ∙ all_held;
    rest = w.rest;
    no_fault = w.no_fault;
    is_rest = subst (λ k. IsRest k number (bytes ++ piece) w.rest) (sym w.limit)
        (subst (λ n. IsRest codec.limit n (bytes ++ piece) w.rest) s.number_is
        (subst (λ l. IsRest codec.limit (packet_number codec dst) l w.rest) all_held
        w.is_rest));
  }

-- nothing is held between packets
pub stands_between : (codec : Codec) (header : List ℕ) (number : ℕ) → codec.begun ≡ None → header ≡
    [] → packet_number codec [] ≡ number → Stands codec header [] number []
stands_between codec header number none empty e = record {
  moved = λ _. empty;
  goes_on = between_goes_on codec [] none refl;
  number_is = e;
  held_is = held_between codec header [] none refl ∙ empty;
  rest = Empty;
  no_fault = λ f. f;
  is_rest = empty_rest codec.limit number;
}

-- where no chunk stands whole, the packet may begin at another number
stands_renumbered : (codec : Codec) (header dst : List ℕ) (number n : ℕ) (bytes : List ℕ) →
    n < 256 → length bytes < 16777219 → Stands codec header dst number bytes →
    Stands (record codec { number = n }) header dst n bytes
stands_renumbered codec header dst number n bytes byte few s =
    let none : whole_chunks dst ≡ 0 = no_whole_chunk codec header dst (omega (arith, few, ap length s.held_is)) in
    record {
      moved = s.moved;
      goes_on = s.goes_on;
      number_is = omega (arith, none, byte);
      held_is = held_renumbered codec header dst n none ∙ s.held_is;
      rest = s.rest;
      no_fault = s.no_fault;
      is_rest = rest_renumbered codec.limit number n bytes s.rest few s.no_fault s.is_rest;
    }

bytes_renumbered : (begun : Bool) (codec : Codec) (header packet : List ℕ) (n : ℕ) →
    length (bytes_of begun codec header packet) < 16777219 →
    bytes_of begun (record codec { number = n }) header packet ≡ bytes_of begun codec header packet
bytes_renumbered true codec header packet n few =
    held_renumbered codec header packet n (no_whole_chunk codec header packet few)
bytes_renumbered false codec header packet n few = refl

module _ (r : Inside) (n : ℕ) (few : length (bytes_of r.begun r.codec r.header r.packet.items) < 16777219) where
  abbrev pub renumbered : Inside
  renumbered = record r { codec = record r.codec { number = n }; number = n }

  same_bytes : bytes_of r.begun (record r.codec { number = n }) r.header r.packet.items ≡
      bytes_of r.begun r.codec r.header r.packet.items
  same_bytes = bytes_renumbered r.begun r.codec r.header r.packet.items n few

  pub kept_renumbered : n < 256 → IsKept r → IsKept renumbered
  kept_renumbered byte k = record {
    stands = λ fine. subst (λ l. Stands (record r.codec { number = n }) r.header
        (unfinished r.begun r.packet.items) n l) (sym same_bytes)
        (stands_renumbered r.codec r.header (unfinished r.begun r.packet.items) r.number n
        (bytes_of r.begun r.codec r.header r.packet.items) byte few (k.stands fine));
    begun = ap (λ l. length l == 0) same_bytes ∙ k.begun;
    refused = k.refused;
  }

  pub view_renumbered : (v : Incoming) → incoming_of r ≡ v → incoming_of renumbered ≡ record v { number = n }
  view_renumbered v view =
      ap (λ l. record {
        limit = r.codec.limit;
        number = n;
        bytes = l;
        payload =
            handed_out r.begun r.packet.items;
        refused = r.codec.refused;
      }) same_bytes
      ∙ ap (λ (x : Incoming). record x { number = n }) view

-- after the codec waited: what is held, that no payload is, and that it goes on
pub record Waited (new : Codec) (header' packet' : List ℕ) (number : ℕ) (bytes : List ℕ) (begun : Bool) : Type 0 where
  pub bytes_are : bytes_of begun new header' packet' ≡ bytes
  pub no_payload : handed_out begun packet' ≡ []
  pub stands : Stands new header' (unfinished begun packet') number (bytes_of begun new header' packet')
  pub begun_is : (length (bytes_of begun new header' packet') == 0) ≡ not begun

waited_begun : (new : Codec) (header' packet' : List ℕ) (number : ℕ) (bytes : List ℕ) →
    Stands new header' packet' number bytes → 0 < length bytes →
    Waited new header' packet' number bytes true
waited_begun new header' packet' number bytes s some = record {
  bytes_are = s.held_is;
  no_payload = refl;
  stands = subst (λ l. Stands new header' packet' number l) (sym s.held_is) s;
  begun_is = ne_eqb (length (held new header' packet')) 0 (λ z. omega (arith, z, ap length s.held_is, some));
}

waited_none : (new : Codec) (header' packet' : List ℕ) (number : ℕ) → new.refused ≡ None →
    Stands new header' packet' number [] → Waited new header' packet' number [] false
waited_none new header' packet' number refused s =
    let none : packet' ≡ [] = held_nothing new header' packet' (s.goes_on refused) s.held_is in
    record {
      bytes_are = refl;
      no_payload = none;
      stands = subst (λ d. Stands new header' d number []) none s;
      begun_is = refl;
    }

pub waited : (begun : Bool) (codec : Codec) (header packet piece : List ℕ) (number : ℕ)
    (new : Codec) (header' packet' : List ℕ) → (length (bytes_of begun codec header packet) == 0) ≡
    not begun →
    new.refused ≡ None → Stands new header' packet' number (bytes_of begun codec header packet ++ piece) →
    Waited new header' packet' number (bytes_of begun codec header packet ++ piece) (begun || not (length piece == 0))
waited true codec header packet piece number new header' packet' b refused s =
    waited_begun new header' packet' number (held codec header packet ++ piece) s (some (held codec header packet) b)
  where
    some : (bytes : List ℕ) → (length bytes == 0) ≡ false → 0 < length (bytes ++ piece)
    some [] b = absurd cc
    some (x ∷ xs) b = omega arith
waited false codec header packet [] number new header' packet' b refused s =
    waited_none new header' packet' number refused s
waited false codec header packet (x ∷ xs) number new header' packet' b refused s =
    let some = ne_eqb (length (x ∷ xs)) 0 (λ z. omega (arith, z)) in
    subst (λ k. Waited new header' packet' number (x ∷ xs) (not k)) (sym some)
    (waited_begun new header' packet' number (x ∷ xs) s (omega arith))

-- where no byte of a packet came, none was begun
not_begun : (begun : Bool) (bytes : List ℕ) → (length bytes == 0) ≡ not begun → bytes ≡ [] → begun ≡ false
not_begun false bytes b e = refl
not_begun true bytes b e = absurd (let never : true ≡ false = sym (ap (λ l. length l == 0) e) ∙ b in cc)

-- fewer bytes are kept than a full chunk carries only where none came whole
pub early : (r : Inside) (v : Incoming) (kept : ℕ) → incoming_of r ≡ v → kept ≡
    bytes_kept (length v.bytes) → kept < 16777215 →
    (length v.bytes < 16777219) × (length (bytes_of r.begun r.codec r.header r.packet.items) < 16777219)
early r v kept view is few =
    let less : length v.bytes < 16777219 = omega (arith, is, few) in
    (less, omega (arith, less, ap (λ (x : Incoming). length x.bytes) view))

-- or goes on, where nothing is held
pub kept_at : (r : Inside) (new : Codec) (n : ℕ) → IsKept r →
    bytes_of r.begun r.codec r.header r.packet.items ≡ [] → r.codec.refused ≡ None → n < 256 → new ≡
    record r.codec { number = n } →
    (r.begun ≡ false) × Stands new r.header [] n []
kept_at r new n k empty fine byte e =
    let off = not_begun r.begun _ k.begun empty in
    let s : Stands r.codec r.header [] r.number [] =
    subst (λ b. Stands r.codec r.header (unfinished b r.packet.items) r.number
    (bytes_of b r.codec r.header r.packet.items)) off (k.stands fine) in (
      off,
      subst (λ (d : Codec). Stands d r.header [] n []) (sym e)
          (record {
            moved = s.moved;
            goes_on = s.goes_on;
            number_is = omega arith;
            held_is = held_renumbered r.codec r.header [] n refl ∙ s.held_is;
            rest = Empty;
            no_fault = λ f. f;
            is_rest = empty_rest r.codec.limit n;
          }),
    )

pub no_refusal : (o : Option Refusal) (begun : Bool) (packet : List ℕ) → o ≡ None →
    IfSome o (λ _. (begun ≡ false) × (packet ≡ []))
no_refusal None begun packet e = tt
no_refusal (Some x) begun packet e = absurd cc

-- from a reader's fields to what it holds
module _ (r : Inside) (v : Incoming) (view : incoming_of r ≡ v) (kept : IsKept r)
    (dst piece : List ℕ) (same : dst ≡ unfinished r.begun r.packet.items) where
  abbrev bytes : List ℕ
  bytes = bytes_of r.begun r.codec r.header r.packet.items

  pub hands_view : r.codec.refused ≡ None → (new : Codec) (header' left payload : List ℕ) (n : ℕ) →
      header' ≡ [] → n ≡ new.number →
      HandsOut r.codec (r.header ++ piece) dst new (header' ++ left) payload →
      HandsOut (codec_by v) (v.bytes ++ piece) [] (at new n) left payload
  hands_view fine new header' left payload n none e h =
      subst (λ (x : Incoming). HandsOut (codec_by x) (x.bytes ++ piece) [] (at new n) left payload) view
      (subst (λ k. HandsOut (at r.codec r.number) (bytes ++ piece) [] (at new k) left payload) (sym e)
      (hands_by r.codec r.header (unfinished r.begun r.packet.items) piece r.number bytes
      (kept.stands fine) new left payload
      (subst (λ l. HandsOut r.codec (r.header ++ piece) (unfinished r.begun r.packet.items) new
      (l ++ left) payload) none
      (subst (λ d. HandsOut r.codec (r.header ++ piece) d new (header' ++ left) payload) same h))))

  pub refuses_view : (new : Codec) (error : PacketCodecError) →
      RefusesBy r.codec (r.header ++ piece) dst new error →
      RefusesBy (codec_by v) (v.bytes ++ piece) [] (at new r.number) error
  refuses_view new error q =
      subst (λ (x : Incoming). RefusesBy (codec_by x) (x.bytes ++ piece) [] (at new r.number) error) view
      (record {
        refusal = q.refusal;
        answered = q.answered;
        kept = q.kept;
        limit = q.limit;
        number = refl;
        due = λ fine. due_by r.codec r.header (unfinished r.begun r.packet.items) piece r.number
            bytes (kept.stands fine) q.refusal
            (subst (λ d. IsDue r.codec (r.header ++ piece) d q.refusal) same (q.due fine));
      })

  module _ (fine : r.codec.refused ≡ None) (new : Codec) (header' left packet' : List ℕ)
      (used : left ≡ []) (moved : new.begun ≢ None → header' ≡
      []) (w : Waits r.codec (r.header ++ piece) dst new (header' ++ left) packet') where
    abbrev begun : Bool
    begun = r.begun || not (length piece == 0)

    waits : Waits r.codec (r.header ++ piece) (unfinished r.begun r.packet.items) new header' packet'
    waits =
        subst (λ l. Waits r.codec (r.header ++ piece) (unfinished r.begun r.packet.items) new l
        packet') (ap (λ l. header' ++ l) used ∙ append-nil header')
        (subst (λ d. Waits r.codec (r.header ++ piece) d new (header' ++ left) packet') same w)

    pub waited_on : Waited new header' packet' r.number (bytes ++ piece) begun
    waited_on =
        waited r.begun r.codec r.header r.packet.items piece r.number new header' packet' kept.begun w.refused
        (stands_on r.codec r.header (unfinished r.begun r.packet.items) piece r.number bytes
        (kept.stands fine) new header' packet' moved waits)

    pub waits_view : Waits (codec_by v) (v.bytes ++ piece) [] (at new r.number)
        (bytes_of begun new header' packet' ++ left) (handed_out begun packet')
    waits_view =
        let all : bytes_of begun new header' packet' ++ left ≡ bytes ++ piece =
        ap (λ l. bytes_of begun new header' packet' ++ l) used ∙
        append-nil (bytes_of begun new header' packet') ∙ waited_on.bytes_are in
        subst (λ (x : Incoming). Waits (codec_by x) (x.bytes ++ piece) [] (at new r.number)
        (bytes_of begun new header' packet' ++ left) (handed_out begun packet')) view
        (subst (λ l. Waits (at r.codec r.number) (bytes ++ piece) [] (at new r.number) l
        (handed_out begun packet')) (sym all)
        (subst (λ l. Waits (at r.codec r.number) (bytes ++ piece) [] (at new r.number) (bytes ++
        piece) l) (sym waited_on.no_payload)
        (waits_by r.codec r.header (unfinished r.begun r.packet.items) piece r.number bytes
        (kept.stands fine) new header' packet' waits)))

    pub same_view : record {
      limit = new.limit;
      number = r.number;
      bytes =
          bytes_of begun new header' packet';
      payload = handed_out begun packet';
      refused =
          new.refused;
    } ≡ record v { bytes = v.bytes ++ piece; payload = [] }
    same_view =
        let limit : new.limit ≡ r.codec.limit = w.limit in
        let refused : new.refused ≡ r.codec.refused = w.refused ∙ sym fine in
        let I : ℕ → List ℕ → List ℕ → Option Refusal → Incoming =
        λ l b p o. record {
          limit = l;
          number = r.number;
          bytes = b;
          payload = p;
          refused =
              o;
        } in
        ap (λ l. I l (bytes_of begun new header' packet') (handed_out begun packet') new.refused) limit
        ∙ ap (λ b. I r.codec.limit b (handed_out begun packet') new.refused) waited_on.bytes_are
        ∙ ap (λ p. I r.codec.limit (bytes ++ piece) p new.refused) waited_on.no_payload
        ∙ ap (λ o. I r.codec.limit (bytes ++ piece) [] o) refused
        ∙ ap (λ (x : Incoming). record x { bytes = x.bytes ++ piece; payload = [] }) view

-- after a piece was taken that ends within the chunk begun
pub record Within (r : Inside) (v : Incoming) (piece : List ℕ) (new : Codec) (left packet' : List ℕ)
    (begun : Bool) : Type 0 where
  pub fine : new.refused ≡ None
  pub stands : Stands new r.header (unfinished begun packet') r.number (bytes_of begun new r.header packet')
  pub begun_is : (length (bytes_of begun new r.header packet') == 0) ≡ not begun
  pub waits : Waits (codec_by v) (v.bytes ++ piece) [] (at new r.number)
      (bytes_of begun new r.header packet' ++ left) (handed_out begun packet')
  pub view : record {
    limit = new.limit;
    number = r.number;
    bytes =
        bytes_of begun new r.header packet';
    payload = handed_out begun packet';
    refused =
        new.refused;
  } ≡ record v { bytes = v.bytes ++ piece; payload = [] }

pub within_view : (r : Inside) (v : Incoming) → incoming_of r ≡ v → IsKept r →
    (piece : List ℕ) (new : Codec) (left packet' : List ℕ) → r.begun ≡ true → left ≡ [] →
    r.codec.refused ≡ None → r.codec.begun ≢ None →
    Waits r.codec piece r.packet.items new [] packet' →
    Within r v piece new left packet' r.begun
within_view r v view kept piece new left packet' is used fine chunk w =
    let none : r.header ≡ [] = (kept.stands fine).moved chunk in
    let same : r.packet.items ≡ unfinished r.begun r.packet.items = ap (λ b. unfinished b r.packet.items) (sym is) in
    let waits : Waits r.codec (r.header ++ piece) r.packet.items new (r.header ++ left) packet' =
    subst (λ h. Waits r.codec (h ++ piece) r.packet.items new (h ++ left) packet') (sym none)
    (subst (λ l. Waits r.codec piece r.packet.items new l packet') (sym used) w) in
    let on = waited_on r v view kept r.packet.items piece same fine new r.header left packet' used (λ _. none) waits in
    let stays : (r.begun || not (length piece == 0)) ≡ r.begun = ap (λ b. b || not (length piece == 0)) is ∙ sym is in
    subst (Within r v piece new left packet') stays
    (record {
      fine = w.refused;
      stands = on.stands;
      begun_is = on.begun_is;
      waits = waits_view r v view kept r.packet.items piece same fine new r.header left packet' used (λ _. none) waits;
      view = same_view r v view kept r.packet.items piece same fine new r.header left packet' used (λ _. none) waits;
    })

-- where a packet was begun nothing was refused
pub begun_open : (r : Inside) → IsKept r → r.begun ≡ true → r.codec.refused ≡ None
begun_open r kept is = by r.codec.refused kept.refused
  where
    by : (o : Option Refusal) → IfSome o (λ _. (r.begun ≡ false) × (r.packet.items ≡ [])) → o ≡ None
    by None k = refl
    by (Some x) k = absurd (let never : true ≡ false = sym is ∙ k.0 in cc)

-- after a piece was taken that ends within a header
pub header_waits : (r : Inside) → IsKept r → (dst piece header' : List ℕ) → dst ≡
    unfinished r.begun r.packet.items → r.codec.begun ≡ None → r.codec.refused ≡ None →
    header' ≡ r.header ++ piece → length header' < 4 → Waits r.codec (r.header ++ piece) dst r.codec (header' ++ []) dst
header_waits r kept dst piece header' same between fine joined short =
    waits_before_header r.codec (r.header ++ piece) dst (header' ++ []) between fine
    (subst (λ d. IsOfPacket r.codec.limit r.codec.begun d) (sym same) ((kept.stands fine).goes_on fine))
    (omega (arith, ap length joined, short)) (append-nil header' ∙ joined)

-- a reader to which nothing came has read nothing
pub reader_begins : (r : Incoming) (codec : Codec) (number limit : ℕ) → r ≡
    incoming_at number limit → number ≡ codec.number → limit ≡ codec.limit → number < 256 →
    HasRead codec.limit (OnFrom codec.number) [] [] (codec_by r) r.bytes [] ×
    IsAnswer codec.limit (OnFrom codec.number) [] [] None
reader_begins r codec number limit is n l byte =
    let e : r ≡ incoming_at codec.number codec.limit = is ∙ ap (λ k. incoming_at k limit) n ∙
    ap (incoming_at codec.number) l in
    let begins = starts (codec_at codec.number codec.limit) (refl, refl) (omega (arith, n)) in (
      subst (λ (x : Incoming). HasRead codec.limit (OnFrom codec.number) [] [] (codec_by x) x.bytes
          []) (sym e) begins.0,
      begins.1,
    )

-- a payload is handed out and then taken
pub takes_on : (limit id : ℕ) (before : List ℕ) (payloads : List (List ℕ)) (r new taken : Incoming)
    (piece rest : List ℕ) → HasRead limit (OnFrom id) before payloads (codec_by r) (r.bytes ++
    piece) [] →
    ReadsOn r piece true new rest → taken ≡ record new { payload = [] } →
    HasRead limit (OnFrom id) before (payloads ++ new.payload ∷ []) (codec_by taken)
    (taken.bytes ++ rest) []
takes_on limit id before payloads r new taken piece rest read h e =
    subst (λ (x : Incoming). HasRead limit (OnFrom id) before (payloads ++ new.payload ∷
    []) (codec_by x) (x.bytes ++ rest) []) (sym e)
    (takes limit id before payloads (codec_by r) (r.bytes ++ piece) [] (codec_by new) (new.bytes ++
    rest) new.payload read h)

-- the reader waits, having used all bytes
pub waits_on : (limit id : ℕ) (before : List ℕ) (payloads : List (List ℕ)) (r new : Incoming)
    (piece rest : List ℕ) → HasRead limit (OnFrom id) before payloads (codec_by r) (r.bytes ++
    piece) [] →
    ReadsOn r piece false new rest → rest ≡ [] → new.payload ≡ [] →
    HasRead limit (OnFrom id) before payloads (codec_by new) new.bytes [] ×
    IsAnswer limit (OnFrom id) before payloads None
waits_on limit id before payloads r new piece rest read w used none =
    let found = waits_at limit (OnFrom id) before payloads (codec_by r) (r.bytes ++
    piece) [] (codec_by new) (new.bytes ++ rest) new.payload read w in (
      subst (λ l. HasRead limit (OnFrom id) before payloads (codec_by new) l [])
          (ap (λ l. new.bytes ++ l) used ∙ append-nil new.bytes)
          (subst (λ l. HasRead limit (OnFrom id) before payloads (codec_by new) (new.bytes ++ rest) l) none found.0),
      found.1,
    )

-- of a packet's bytes its whole chunks and what came of the last one are held, and a header that doesn't stand whole
pub kept_bytes : (codec : Codec) (header packet : List ℕ) → length header < 4 →
    IsOfPacket codec.limit codec.begun packet → (codec.begun ≢ None → header ≡ [])
    → length header + length packet ≡ bytes_kept (length (held codec header packet))
unfolding held
kept_bytes codec header packet few fits moved = by codec.begun fits moved
  where
    count : ℕ
    count = whole_chunks packet

    front : List ℕ
    front = chunks packet (packet_number codec packet) count

    len : length front ≡ count * 16777219
    len = length-chunks packet (packet_number codec packet) count (omega arith)

    by : (begun : Option Begun) → IsOfPacket codec.limit begun packet → (begun ≢ None → header ≡ []) →
        length header + length packet ≡
        bytes_kept (length (front ++
        (begun_bytes begun (drop (count * 16777215) packet) ++ header)))
    by None fits moved = omega (arith, few, fits.1, len, length-append front header)
    by (Some begun) fits moved =
        let part = drop (count * 16777215) packet in
        let none : header ≡ [] = moved (λ e. cc) in
        omega (
          arith,
          len,
          ap length none,
          fits.1,
          length-append front (begun_bytes (Some begun) part ++ header),
          length-append part header,
          length-drop (count * 16777215) packet,
        )

pub kept_view : (r : Inside) (v : Incoming) → incoming_of r ≡ v → IsKept r → r.begun ≡ true →
    length r.header < 4 → length r.header + length r.packet.items ≡ bytes_kept (length v.bytes)
kept_view r v view kept holds few = by r.begun holds r.codec.refused refl kept.stands kept.refused ∙
    ap (λ (x : Incoming). bytes_kept (length x.bytes)) view
  where
    by : (b : Bool) → b ≡ true → (o : Option Refusal) → r.codec.refused ≡ o
        → (r.codec.refused ≡ None →
        Stands r.codec r.header (unfinished b r.packet.items) r.number
        (bytes_of b r.codec r.header r.packet.items))
        → IfSome r.codec.refused (λ _. (b ≡ false) × (r.packet.items ≡ []))
        → length r.header + length r.packet.items ≡ bytes_kept (length (bytes_of b r.codec r.header r.packet.items))
    by false never o is s k = absurd cc
    by true is_begun None is s k = kept_bytes r.codec r.header r.packet.items few ((s is).goes_on is) (s is).moved
    by true is_begun (Some x) is s k =
        absurd (let no : true ≡ false =
        (subst (λ (o : Option Refusal). IfSome o (λ _. (true ≡ false) × (r.packet.items ≡ []))) is
        k).0 in cc)
