-- A run over the payloads that a codec hands out.
use Rattle.std.proofs.Common.{◌≡◌, ℕ, ◌+◌, ◌-◌, true, false, List, [], ◌∷◌, ◌++◌, length, Some, None, Err, refl, sym}
use Rattle.std.proofs.Common.{ap, subst, ◌∙◌, arith, append_assoc}
use Rattle.std.specs.List.{flat_map}
use Rattle.std.proofs.lemmas.List.{append-nil, length-append}
use Rattle.std.proofs.lemmas.List.Concat.{flat_map-append}
use Rattle.mysql_wire.specs.Bytes.{AreBytes}
use Rattle.mysql_wire.specs.Codec.{Codec, HandsOut, RefusesBy, IsDue, held, packet_number, error_of}
use Rattle.mysql_wire.specs.Incoming.{Incoming, ReadsOn, codec_by}
use Rattle.mysql_wire.specs.Reader.{HasRead}
use Rattle.mysql_wire.specs.Stream.{Rest, IsSplit, IsRest, IsFault, framings, first_number}
use Rattle.mysql_wire.specs.Stream.Rest.{Empty as EmptyRest, TooLarge as TooLargeRest, OutOfSync as OutOfSyncRest}
use Rattle.mysql_wire.specs.Stream.Rest.{Open as OpenRest}
use Rattle.mysql_wire.specs.Stream.Numbering.{EachFromZero}
use Rattle.mysql_wire.specs.declared.codec.Refusal.{Refusal as CodecRefusal}
use Rattle.mysql_wire.specs.declared.codec.Refusal.TheVariants as codec_refusal
use Rattle.mysql_wire.specs.declared.codec.PacketCodecError.{PacketCodecError}
use Rattle.mysql_wire.specs.GoingOn.{ReaderLaws}
use Rattle.mysql_receive.specs.declared.fault.StreamFault.TheVariants.{Memory}
use Rattle.mysql_receive.specs.declared.read_error.ReadError.{ReadError}
use Rattle.mysql_receive.specs.declared.read_error.ReadError.TheVariants as read_error
use Rattle.mysql_receive.specs.declared.progress.Progress.{Progress}
use Rattle.mysql_receive.specs.Query.{Statement}
use Rattle.mysql_receive.specs.InForce.{StatementState, after as behind_one, state_after}
use Rattle.mysql_receive.specs.Reading.{Set, ReadsAs, Faulty}
use Rattle.mysql_receive.specs.Audit.{Reads, nothing}
use Rattle.mysql_receive.specs.Views.{state_of, sets_of}
use Rattle.mysql_receive.specs.GoingOn.{ReceiverState, Fed, fault_of_rest}
use Rattle.mysql_receive.specs.GoingOn as going
use Rattle.mysql_receive.specs.Steps.{ReadOne, OneBy}
use Rattle.mysql_receive.specs.Parts.{state_of_parts, fault_by, read_error_by, IsOpen}
use Rattle.mysql_receive.proofs.Looking.{state_after_append}
use Rattle.mysql_receive.proofs.Auditing.{reads_length, reads_append, one_read, all_reads}
use Rattle.mysql_receive.proofs.Splits.{some_split, bytes_behind, each_stays}

-- so many payloads of the bytes were handed out, and they were read
pub record Behind (c : Statement) (limit : ℕ) (old : Progress) (bytes : List ℕ) (codec : Codec)
    (src packet : List ℕ) (now : Progress) : Type 0 where
  pub payloads : List (List ℕ)
  pub taken : HasRead limit EachFromZero bytes payloads codec src packet
  pub reads : List (List Set)
  pub each : Reads c (state_of old.state) old.count payloads reads
  pub sets : sets_of now.sets.items ≡ sets_of old.sets.items ++ flat_map (λ sets. sets) reads
  pub count : now.count ≡ old.count + length reads
  pub state : state_of now.state ≡ state_after c (state_of old.state) payloads

module _ (wire : ReaderLaws) (c : Statement) (limit : ℕ) (old : Progress) (bytes : List ℕ) where
  pub behind_none : (codec : Codec) (src packet : List ℕ) →
      HasRead limit EachFromZero bytes [] codec src packet →
      Behind c limit old bytes codec src packet old
  behind_none codec src packet h =
      record {
        payloads = [];
        taken = h;
        reads = [];
        each = nothing;
        sets = sym (append-nil (sets_of old.sets.items));
        count = omega arith;
        state = refl;
      }

  -- the number of the next payload
  next_number : (codec : Codec) (src packet : List ℕ) (mid : Progress)
      (b : Behind c limit old bytes codec src packet mid) → mid.count ≡
      old.count + length b.payloads
  next_number codec src packet mid b = b.count ∙
      ap (λ (n : ℕ). old.count + n)
      (reads_length c (state_of old.state) old.count b.payloads b.reads b.each)

  -- the next payload reads
  next_read : (codec : Codec) (src packet payload : List ℕ) (mid new : Progress)
      (b : Behind c limit old bytes codec src packet mid) (one : ReadOne c mid payload new)
      → Reads c (state_after c (state_of old.state) b.payloads) (old.count + length b.payloads)
      (payload ∷ []) (one.sets ∷ [])
  next_read codec src packet payload mid new b one =
      one_read c (state_after c (state_of old.state) b.payloads) (old.count + length b.payloads) payload one.sets
      (subst (λ (k : ℕ). ReadsAs c (state_after c (state_of old.state) b.payloads) k payload
      one.sets) (next_number codec src packet mid b)
      (subst (λ (st : StatementState). ReadsAs c st mid.count payload one.sets) b.state one.reads))

  pub behind_more : (codec : Codec) (src packet : List ℕ) (next : Codec) (after payload : List ℕ)
      (mid new : Progress) → Behind c limit old bytes codec src packet mid →
      HandsOut codec src packet next after payload → ReadOne c mid payload new
      → Behind c limit old bytes (record next { number = 0 }) after [] new
  behind_more codec src packet next after payload mid new b h one =
      record {
        payloads = b.payloads ++ payload ∷ [];
        taken = (wire.takes limit bytes b.payloads codec next src packet after payload h).1 b.taken;
        reads = b.reads ++ one.sets ∷ [];
        each = reads_append c (state_of old.state) old.count b.payloads (payload ∷
            []) b.reads (one.sets ∷ []) b.each (next_read codec src packet payload mid new b one);
        sets = one.more ∙ ap (λ (l : List Set). l ++ one.sets) b.sets ∙
            append_assoc (sets_of old.sets.items) (flat_map (λ sets. sets) b.reads) one.sets
            ∙ ap (λ (l : List Set). sets_of old.sets.items ++
            l) (ap (λ (l : List Set). flat_map (λ sets. sets) b.reads ++
            l) (sym (append-nil one.sets)) ∙
            sym (flat_map-append (λ sets. sets) b.reads (one.sets ∷ [])));
        count = omega (arith, one.count, b.count, length-append b.reads (one.sets ∷ []));
        state = one.state ∙ ap (λ (st : StatementState). behind_one c st payload) b.state
            ∙ sym (state_after_append c (state_of old.state) b.payloads (payload ∷ []));
      }

  -- the same of a reader whose number was set to 0
  pub behind_next : (r new next : Incoming) (piece rest : List ℕ) (mid now : Progress) →
      Behind c limit old bytes (codec_by r) (r.bytes ++ piece) [] mid →
      ReadsOn r piece true new rest → next ≡ record new { number = 0 } →
      ReadOne c mid new.payload now → Behind c limit old bytes (codec_by next) (next.bytes ++ rest) [] now
  behind_next r new next piece rest mid now b h e one =
      subst (λ (x : Incoming). Behind c limit old bytes (codec_by x) (x.bytes ++ rest) [] now) (sym e)
      (behind_more (codec_by r) (r.bytes ++ piece) [] (codec_by new) (new.bytes ++ rest) new.payload mid now b h one)

  -- the same of a payload that was read in place, and isn't held
  pub placed_next : (r new next : Incoming) (piece rest payload : List ℕ) (mid now : Progress) →
      Behind c limit old bytes (codec_by r) (r.bytes ++ piece) [] mid →
      ReadsOn r piece true (record new { payload = payload }) rest
      → next ≡ record new { number = 0 } → ReadOne c mid payload now →
      Behind c limit old bytes (codec_by next) (next.bytes ++ rest) [] now
  placed_next r new next piece rest payload mid now b h e one =
      subst (λ (x : Incoming). Behind c limit old bytes (codec_by x) (x.bytes ++ rest) [] now) (sym e)
      (behind_more (codec_by r) (r.bytes ++ piece) [] (codec_by new) (new.bytes ++ rest) payload mid now b h one)

  -- the split where what is held is a rest
  here : (codec : Codec) (src packet : List ℕ) (mid : Progress)
      (b : Behind c limit old bytes codec src packet mid) (rest : Rest) →
      IsRest codec.limit (packet_number codec packet) (held codec src packet) rest
      → IsSplit limit EachFromZero bytes
      (record { payloads = b.payloads; rest_bytes = held codec src packet; rest = rest })
  here codec src packet mid b rest e = record {
    joined = b.taken.joined;
    within = b.taken.within;
    ends = subst (λ k. IsRest limit k (held codec src packet) rest) b.taken.number
        (subst (λ k. IsRest k (packet_number codec packet) (held codec src packet) rest)
        b.taken.limit_same e);
  }

  no_fault_of : (rest : Rest) → ¬ IsFault rest → None ≡ fault_of_rest rest
  no_fault_of EmptyRest n = refl
  no_fault_of OpenRest n = refl
  no_fault_of TooLargeRest n = absurd (n tt)
  no_fault_of OutOfSyncRest n = absurd (n tt)

  -- the reader waits for more bytes
  pub waits_fed : (r new : Incoming) (piece rest : List ℕ) (now : Progress) → r.number ≡ 0 →
      Behind c limit old bytes (codec_by r) (r.bytes ++ piece) [] now →
      ReadsOn r piece false new rest →
      new ≡ record r { bytes = r.bytes ++ piece; payload = [] } →
      Fed c limit (state_of_parts old [] None) bytes (state_of_parts now new.bytes None)
  waits_fed r new piece rest now zero b w e =
      let left : held (codec_by r) (r.bytes ++ piece) [] ≡ new.bytes =
      (wire.between (codec_by r) (r.bytes ++ piece) (
        refl,
        b.taken.refused,
      ) (omega (arith, zero))).0 ∙ sym (ap (λ (x : Incoming). x.bytes) e) in
      record {
        split = record { payloads = b.payloads; rest_bytes = held (codec_by r) (r.bytes ++ piece) []; rest = w.rest };
        is_split = here (codec_by r) (r.bytes ++ piece) [] now b w.rest w.is_rest;
        reads = b.reads;
        each = all_reads c (state_of old.state) old.count b.payloads b.reads b.each;
        sets = b.sets;
        count = b.count;
        stopped = going.all_read (no_fault_of w.rest w.no_fault) (λ _. (sym left, b.state));
      }

  pub waits_open : (r new : Incoming) (piece rest : List ℕ) (now : Progress) → AreBytes bytes →
      r.number ≡ 0 → Behind c limit old bytes (codec_by r) (r.bytes ++ piece) [] now →
      ReadsOn r piece false new rest →
      new ≡ record r { bytes = r.bytes ++ piece; payload = [] } → IsOpen new
  waits_open r new piece rest now are zero b w e =
      let all : held (codec_by r) (r.bytes ++ piece) [] ≡ r.bytes ++ piece =
      (wire.between (codec_by r) (r.bytes ++ piece) (
        refl,
        b.taken.refused,
      ) (omega (arith, zero))).0 in
      let number : packet_number (codec_by r) [] ≡ 0 = b.taken.number ∙ ap first_number (each_stays b.payloads) in
      subst IsOpen (sym e)
      (record {
        reading = record {
          joined = sym all;
          within = tt;
          number = number;
          limit_same =
              refl;
          refused = b.taken.refused;
          goes_on = λ _. (omega arith, refl);
        };
        number = zero;
        bytes = bytes_behind (framings b.payloads EachFromZero) (r.bytes ++
            piece) bytes (b.taken.joined ∙ ap (λ k. framings b.payloads EachFromZero ++ k) all) are;
        rest = w.rest;
        no_fault = w.no_fault;
        is_rest = subst (λ n. IsRest r.limit n (r.bytes ++ piece) w.rest) number
            (subst (λ l. IsRest r.limit (packet_number (codec_by r) []) l w.rest) all w.is_rest);
      })

  -- want of memory
  pub memory_fed : (codec : Codec) (src packet partial : List ℕ) (mid now : Progress) →
      AreBytes bytes → Behind c limit old bytes codec src packet mid → sets_of now.sets.items ≡
      sets_of mid.sets.items → now.count ≡ mid.count
      → Fed c limit (state_of_parts old [] None) bytes (state_of_parts now partial (Some Memory))
  memory_fed codec src packet partial mid now are b sets count =
      let s = some_split wire limit bytes are in
      let f = wire.come_first limit EachFromZero b.payloads bytes (held codec src packet) s.0
      b.taken.within b.taken.joined s.1 in
      record {
        split = s.0;
        is_split = s.1;
        reads = b.reads;
        each = record { front = b.payloads; left = f.0; cut = f.1; each = b.each };
        sets = sets ∙ b.sets;
        count = count ∙ b.count;
        stopped = going.memory refl;
      }

  -- the codec refuses
  pub refused_fed : (codec next : Codec) (src packet partial : List ℕ) (error : PacketCodecError)
      (now : Progress) → AreBytes bytes → Behind c limit old bytes codec src packet now →
      RefusesBy codec src packet next error
      → Fed c limit (state_of_parts old [] None) bytes
      (state_of_parts now partial (fault_by (Err (read_error_by error))))
  refused_fed codec next src packet partial error now are b r =
      subst (λ (e : PacketCodecError). Fed c limit (state_of_parts old [] None) bytes
      (state_of_parts now partial (fault_by (Err (read_error_by e))))) (sym r.answered)
      (by r.refusal (r.due b.taken.refused))
    where
      by : (x : CodecRefusal) → IsDue codec src packet x →
          Fed c limit (state_of_parts old [] None) bytes
          (state_of_parts now partial (fault_by (Err (read_error_by (error_of x)))))
      by codec_refusal.TooLarge due =
          record {
            split = record { payloads = b.payloads; rest_bytes = held codec src packet; rest = TooLargeRest };
            is_split = here codec src packet now b TooLargeRest due;
            reads = b.reads;
            each = all_reads c (state_of old.state) old.count b.payloads b.reads b.each;
            sets = b.sets;
            count = b.count;
            stopped = going.all_read refl (λ e. absurd cc);
          }
      by codec_refusal.OutOfSync due =
          record {
            split = record { payloads = b.payloads; rest_bytes = held codec src packet; rest = OutOfSyncRest };
            is_split = here codec src packet now b OutOfSyncRest due;
            reads = b.reads;
            each = all_reads c (state_of old.state) old.count b.payloads b.reads b.each;
            sets = b.sets;
            count = b.count;
            stopped = going.all_read refl (λ e. absurd cc);
          }
      by codec_refusal.Memory due = memory_fed codec src packet partial now now are b refl refl

  -- a payload is refused
  pub payload_fed : (codec : Codec) (src packet : List ℕ) (next : Codec)
      (after payload partial : List ℕ) (mid now : Progress) (r : ReadError) → AreBytes bytes →
      Behind c limit old bytes codec src packet mid → HandsOut codec src packet next after payload
      → OneBy c mid payload now (Err r) → sets_of now.sets.items ≡ sets_of mid.sets.items → now.count ≡ mid.count
      → Fed c limit (state_of_parts old [] None) bytes (state_of_parts now partial (fault_by (Err r)))
  payload_fed codec src packet next after payload partial mid now read_error.Memory are b h one sets
      count = memory_fed codec src packet partial mid now are b sets count
  payload_fed codec src packet next after payload partial mid now (read_error.Fault f) are b h one sets count =
      let s = some_split wire limit bytes are in
      let taken = (wire.takes limit bytes b.payloads codec next src packet after payload h).1 b.taken in
      let found = wire.come_first limit EachFromZero (b.payloads ++ payload ∷
      []) bytes (held (record next { number = 0 }) after []) s.0 taken.within taken.joined
      s.1 in
      let is : s.0.payloads ≡ b.payloads ++ (payload ∷ found.0) = found.1 ∙
      append_assoc b.payloads (payload ∷ []) found.0 in
      let here_it_is : Faulty c (state_after c (state_of old.state) b.payloads) now.count payload f =
      subst (λ (k : ℕ). Faulty c (state_after c (state_of old.state) b.payloads) k payload f) (sym count)
      (subst (λ (st : StatementState). Faulty c st mid.count payload f) b.state one) in
      record {
        split = s.0;
        is_split = s.1;
        reads = b.reads;
        each = record { front = b.payloads; left = payload ∷ found.0; cut = is; each = b.each };
        sets = sets ∙ b.sets;
        count = count ∙ b.count;
        stopped = going.fault f here_it_is refl;
      }

-- a piece comes behind what is held
pub piece_reads : ReaderLaws → (r : Incoming) (piece : List ℕ) → IsOpen r →
    HasRead r.limit EachFromZero (r.bytes ++ piece) [] (codec_by r) (r.bytes ++ piece) []
piece_reads wire r piece o = wire.feeds r.limit EachFromZero r.bytes [] (codec_by r) r.bytes [] piece o.reading

-- what was held before the piece and the piece are one list of bytes
pub piece_fed : (c : Statement) (limit : ℕ) (old : Progress) (bytes piece : List ℕ)
    (new : ReceiverState) → Fed c limit (state_of_parts old [] None) (bytes ++ piece) new →
    Fed c limit (state_of_parts old bytes None) piece new
piece_fed c limit old bytes piece new h =
    record {
      split = h.split;
      is_split = h.is_split;
      reads = h.reads;
      each = h.each;
      sets =
          h.sets;
      count = h.count;
      stopped = h.stopped;
    }
