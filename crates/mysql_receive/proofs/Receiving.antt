-- From a receiver's fields to what it holds and decides.
use Rattle.std.proofs.Common.{◌≡◌, ℕ, zero, suc, ◌+◌, ◌<◌, map, Bool, true, false, cond, List, [], ◌∷◌, ◌++◌, length}
use Rattle.std.proofs.Common.{Option, Some, None, Result, Err, refl, sym, ap, subst, ◌∙◌, arith, append_assoc, take}
use Rattle.std.proofs.Common.{get_or}
use Rattle.std.specs.Prelude.{◌==◌, not, if◌then◌else◌, IfSome, OnOk}
use Rattle.std.specs.Global.{Vec}
use Rattle.std.proofs.lemmas.Bool.{ne_eqb}
use Rattle.std.specs.List.{concat}
use Rattle.std.proofs.lemmas.List.{append-nil, map-append, take_more}
use Rattle.std.proofs.lemmas.List.Folds.{concat-append}
use Rattle.mysql_wire.specs.Bytes.{AreBytes}
use Rattle.mysql_wire.specs.Stream.{Rest, Split, IsSplit, IsRest, IsFault}
use Rattle.mysql_wire.specs.Stream.Rest.{Empty as EmptyRest, TooLarge as TooLargeRest, OutOfSync as OutOfSyncRest}
use Rattle.mysql_wire.specs.Stream.Rest.{Open as OpenRest}
use Rattle.mysql_wire.specs.Stream.Numbering.{EachFromZero}
use Rattle.mysql_wire.specs.GoingOn.{ReaderLaws}
use Rattle.mysql_receive.specs.declared.fault.StreamFault.{StreamFault}
use Rattle.mysql_receive.specs.declared.fault.StreamFault.TheVariants.{Memory}
use Rattle.mysql_receive.specs.declared.audit.End.{End}
use Rattle.mysql_receive.specs.declared.audit.End.TheVariants as ends
use Rattle.mysql_receive.specs.declared.receiver.Receiver.TheInside.{Inside}
use Rattle.mysql_receive.specs.Query.{Statement}
use Rattle.mysql_receive.specs.InForce.{StatementState, is_waiting, state_after}
use Rattle.mysql_receive.specs.GoingOn as going
use Rattle.mysql_receive.specs.Audit as audits
use Rattle.mysql_receive.specs.Audit.{Audit, Reads, nothing, Audited, OutOfMemory, IsNoFault, end_by_rest}
use Rattle.mysql_receive.specs.GoingOn.{ReceiverState, fresh_receiver, ReceiverDecidesBy, ReceiverDecides}
use Rattle.mysql_receive.specs.GoingOn.{ReceiverGoesOn, HasFoundNoFault, Fed, WhyStopped, TakesAll, RunsShort}
use Rattle.mysql_receive.specs.GoingOn.{fault_of_rest}
use Rattle.mysql_receive.specs.Taking.{Feeds}
use Rattle.mysql_receive.specs.Views.{statement_view, data_waiting, state_of, sets_of}
use Rattle.mysql_receive.specs.Receiving.{IsMemory, answer_by}
use Rattle.mysql_receive.specs.Parts.{IsOpen, state_of_parts, end_by}
use Rattle.mysql_receive.specs.Received.{Received, data_in, receiver_state}
use Rattle.mysql_receive.specs.Inside.{long_data_of, received_of, IsKept}
use Rattle.mysql_receive.proofs.Auditing.{all_reads, reads_length}
use Rattle.mysql_receive.proofs.Splits.{bytes_append}
use Rattle.mysql_receive.proofs.Feeding.{goes_on, takes_append, short_append, none_found, none_taken, start_decides}

kept_data : (xs : List (Option (Vec ℕ))) (k : ℕ) → data_in (long_data_of xs) k ≡ data_waiting xs k
kept_data [] zero = refl
kept_data [] (suc k) = refl
kept_data (x ∷ xs) zero = refl
kept_data (x ∷ xs) (suc k) = kept_data xs k

pub receiver_state_is : (r : Inside) → receiver_state (received_of r) ≡
    state_of_parts r.progress r.packets.bytes r.fault
receiver_state_is r = λ i. record {
  count = r.progress.count;
  state = record {
    prepared = r.progress.state.prepared;
    types = (state_of r.progress.state).types;
    long_data = λ place. kept_data r.progress.state.long_data.items place i;
  };
  partial = r.packets.bytes;
  sets = sets_of r.progress.sets.items;
  fault = r.fault;
}

-- ---- at the start

no_bytes : AreBytes []
no_bytes zero = omega arith
no_bytes (suc i) = omega arith

-- memory ran out over a piece
pub short_by : (c : Statement) (limit : ℕ) (old : ReceiverState) (piece : List ℕ)
    (new : ReceiverState) → new.fault ≡ Some Memory → Fed c limit old piece new →
    RunsShort c limit old piece new
short_by c limit old piece new memory fed =
    record {
      split = fed.split;
      is_split = fed.is_split;
      reads = fed.reads;
      each = fed.each;
      sets =
          fed.sets;
      count = fed.count;
      fault = memory;
    }

-- ---- an answer, by whether memory ran out

memory_is : (o : Option StreamFault) → answer_by o ≡ Err Memory → o ≡ Some Memory
memory_is None e = absurd cc
memory_is (Some f) e = let same : f ≡ Memory = cc in ap (λ x. Some x) same

pub unless_by : {P : Type 0} (o : Option StreamFault) → ((o ≡ Some Memory → ⊥) → P) → (answer_by o ≡ Err Memory → ⊥) → P
unless_by o h never = h (λ e. never (ap answer_by e))

pub on_by : {P : Type 0} (o : Option StreamFault) → (o ≡ Some Memory → P) → answer_by o ≡ Err Memory → P
on_by o h e = h (memory_is o e)

-- ---- a piece, by what is held before and after it

module _ (r new : Inside) (v : Received) (piece : List ℕ) (o : Option StreamFault)
    (view : received_of r ≡ v) (is : new.fault ≡ o) where
  -- what is held of the two
  by_views : (P : Statement → ℕ → ReceiverState → ReceiverState → Type 0) → r.fault ≡ None
      → P (statement_view r.statement) r.packets.limit
      (state_of_parts r.progress r.packets.bytes None)
      (state_of_parts new.progress new.packets.bytes o) →
      P v.statement v.limit (receiver_state v) (receiver_state (received_of new))
  by_views P none h =
      let e : receiver_state (received_of r) ≡ state_of_parts r.progress r.packets.bytes None =
      receiver_state_is r ∙ ap (λ (f : Option StreamFault). state_of_parts r.progress
      r.packets.bytes f) none in
      let d : receiver_state (received_of new) ≡ state_of_parts new.progress new.packets.bytes o =
      receiver_state_is new ∙ ap
      (λ (f : Option StreamFault). state_of_parts new.progress new.packets.bytes f) is in
      subst (λ (x : Received). P x.statement x.limit (receiver_state x) (receiver_state (received_of new))) view
      (subst (λ (x : ReceiverState). P (statement_view r.statement) r.packets.limit x
      (receiver_state (received_of new))) (sym e)
      (subst (λ (x : ReceiverState). P (statement_view r.statement) r.packets.limit
      (state_of_parts r.progress r.packets.bytes None) x) (sym d) h))

  pub fed_feed : ReaderLaws → IsKept r → r.fault ≡ None → AreBytes piece → (o ≡ Some Memory → ⊥)
      → Fed (statement_view r.statement) r.packets.limit
      (state_of_parts r.progress r.packets.bytes None) piece
      (state_of_parts new.progress new.packets.bytes o)
      → ReceiverGoesOn v.statement v.limit (receiver_state v) piece (receiver_state (received_of new))
  fed_feed wire kept none are no_memory fed =
      by_views (λ c limit old after. ReceiverGoesOn c limit old piece after) none
      (goes_on wire (statement_view r.statement) r.packets.limit
      (state_of_parts r.progress r.packets.bytes None)
      (state_of_parts new.progress new.packets.bytes o) piece
      (bytes_append r.packets.bytes piece (kept.stays none).bytes are) refl fed no_memory)

  pub fed_short : r.fault ≡ None → o ≡ Some Memory
      → Fed (statement_view r.statement) r.packets.limit
      (state_of_parts r.progress r.packets.bytes None) piece
      (state_of_parts new.progress new.packets.bytes o)
      → RunsShort v.statement v.limit (receiver_state v) piece (receiver_state (received_of new))
  fed_short none memory fed =
      by_views (λ c limit old after. RunsShort c limit old piece after) none
      (short_by (statement_view r.statement) r.packets.limit _ piece _ memory fed)

-- a piece without a fault
takes_by : (c : Statement) (limit : ℕ) (old : ReceiverState) (piece : List ℕ)
    (new : ReceiverState) → new.fault ≡ None → Fed c limit old piece new →
    TakesAll c limit old piece new
takes_by c limit old piece new none fed = by fed.each.left fed.each.cut fed.stopped
  where
    by : (left : List (List ℕ)) → fed.split.payloads ≡ fed.each.front ++ left →
        WhyStopped c (state_after c old.state fed.each.front) fed.split new left →
        TakesAll c limit old piece new
    by left cut (going.fault f h is) = absurd (let g = sym none ∙ is in cc)
    by left cut (going.memory is) = absurd (let g = sym none ∙ is in cc)
    by left cut (going.all_read is rests) =
        let all : fed.split.payloads ≡ fed.each.front = cut ∙ append-nil fed.each.front in
        let long : length fed.reads ≡ length fed.split.payloads =
        reads_length c old.state old.count fed.each.front fed.reads fed.each.each ∙
        ap length (sym all) in
        record {
          split = fed.split;
          is_split = fed.is_split;
          no_fault = sym is ∙ none;
          partial = (rests none).0;
          count = fed.count ∙ ap (λ (n : ℕ). old.count + n) long;
          reads = fed.reads;
          each = subst (λ (l : List (List ℕ)). Reads c old.state old.count l fed.reads) (sym all) fed.each.each;
          sets = fed.sets;
          state = (rests none).1 ∙ ap (λ (l : List (List ℕ)). state_after c old.state l) (sym all);
        }

pub fed_takes : (r new : Inside) (v : Received) (piece : List ℕ) → received_of r ≡ v → new.fault ≡ None → r.fault ≡ None
    → Fed (statement_view r.statement) r.packets.limit
    (state_of_parts r.progress r.packets.bytes None) piece
    (state_of_parts new.progress new.packets.bytes None)
    → TakesAll v.statement v.limit (receiver_state v) piece (receiver_state (received_of new))
fed_takes r new v piece view is none fed =
    by_views r new v piece None view is (λ c limit old after. TakesAll c limit old piece after) none
    (takes_by (statement_view r.statement) r.packets.limit _ piece _ refl fed)

-- a piece without a fault leaves none to be found
pub found_none : ReaderLaws → (r : Inside) → r.fault ≡ None → IsOpen r.packets →
    HasFoundNoFault (statement_view r.statement) r.packets.limit (receiver_state (received_of r))
found_none wire r none open_now =
    none_found wire (statement_view r.statement) r.packets.limit (receiver_state (received_of r))
    open_now.rest none open_now.bytes open_now.no_fault open_now.is_rest

-- ---- the end

begun_none : (b : Bool) → true ≡ not b → b ≡ false
begun_none true e = absurd cc
begun_none false e = refl

begun_some : (b : Bool) → false ≡ not b → b ≡ true
begun_some true e = refl
begun_some false e = absurd cc

told_begun : (b begun : Bool) → begun ≡ not b → b ≡ not begun
told_begun true begun e = ap not (sym e)
told_begun false begun e = ap not (sym e)

ends_now : ReaderLaws → (c : Statement) (s : StatementState) (n limit : ℕ) (rest : Rest)
    (begun : Bool) (bytes : List ℕ) → ¬ IsFault rest → IsRest limit 0 bytes rest →
    (length bytes == 0) ≡ not begun
    → (if is_waiting c s then ends.WaitingPieces else if begun then ends.UnfinishedPacket else
    ends.Whole) ≡ end_by_rest c s n rest
ends_now wire c s n limit EmptyRest begun bytes none r b =
    let nothing : bytes ≡ [] = ((wire.rests limit 0).1 bytes).0 r in
    let test : begun ≡ false = begun_none begun (sym (ap (λ (l : List ℕ). length l == 0) nothing) ∙ b) in
    ap (λ (x : Bool). cond (is_waiting c s) ends.WaitingPieces (cond x ends.UnfinishedPacket ends.Whole)) test
ends_now wire c s n limit OpenRest begun bytes none r b =
    let some : 0 < length bytes = ((wire.rests limit 0).1 bytes).1 r in
    let test : begun ≡ true = begun_some begun (sym (ne_eqb (length bytes) 0 (λ z. omega (arith, some, z))) ∙ b) in
    ap (λ (x : Bool). cond (is_waiting c s) ends.WaitingPieces (cond x ends.UnfinishedPacket ends.Whole)) test
ends_now wire c s n limit TooLargeRest begun bytes none r b = absurd (none tt)
ends_now wire c s n limit OutOfSyncRest begun bytes none r b = absurd (none tt)

decides_now : ReaderLaws → (c : Statement) (r : Inside) → IsKept r → (begun : Bool) → begun ≡
    not (length r.packets.bytes == 0) → (ending : End) → ending ≡
    end_by c (state_of_parts r.progress [] r.fault) begun r.fault → (o : Option StreamFault) →
    r.fault ≡ o
    → ReceiverDecidesBy c r.packets.limit (state_of_parts r.progress r.packets.bytes r.fault) o []
    (record { sets = sets_of r.progress.sets.items; ending = ending })
decides_now wire c r kept begun b ending is (Some f) e = (
  refl,
  is ∙ ap (λ (o : Option StreamFault). end_by c (state_of_parts r.progress [] r.fault)
      begun o) e,
)
decides_now wire c r kept begun b ending is None e =
    let k = kept.stays e in
    let s : StatementState = state_of r.progress.state in
    let n : ℕ = r.progress.count in
    let split : Split = record { payloads = []; rest_bytes = r.packets.bytes; rest = k.rest } in
    let is_split : IsSplit r.packets.limit EachFromZero (r.packets.bytes ++ []) split =
    record { joined = append-nil r.packets.bytes; within = tt; ends = k.is_rest } in
    let last : ending ≡ end_by_rest c s (n + 0) k.rest =
    is ∙ ap (λ (o : Option StreamFault). end_by c (state_of_parts r.progress [] r.fault) begun o) e
    ∙ ends_now wire c s (n + 0) r.packets.limit k.rest begun r.packets.bytes k.no_fault k.is_rest
    (told_begun (length r.packets.bytes == 0) begun b) in (
      split,
      [],
      is_split,
      sym (append-nil (sets_of r.progress.sets.items)),
      record { reads = []; each = all_reads c s n [] [] nothing; sets = refl; ending = audits.all_read last },
    )

pub finished : ReaderLaws → (r : Inside) (v : Received) (begun : Bool) (ending : End) →
    received_of r ≡ v → IsKept r → begun ≡ not (length r.packets.bytes == 0) → ending ≡
    end_by (statement_view r.statement) (state_of_parts r.progress [] r.fault) begun r.fault
    → ReceiverDecides v.statement v.limit (receiver_state v) []
    (record { sets = sets_of r.progress.sets.items; ending = ending })
finished wire r v begun ending view kept b is =
    let c = statement_view r.statement in
    let a : Audit = record { sets = sets_of r.progress.sets.items; ending = ending } in
    subst (λ (x : Received). ReceiverDecides x.statement x.limit (receiver_state x) [] a) view
    (subst (λ (h : ReceiverState). ReceiverDecides c r.packets.limit h [] a)
    (sym (receiver_state_is r)) (decides_now wire c r kept begun b ending is r.fault refl))

-- ---- all pieces

pub pieces_more : {X : Type 0} (f : X → List ℕ) (xs : List X) (i : ℕ) (d : X) → i < length xs →
    map f (take (i + 1) xs) ≡ map f (take i xs) ++ f (get_or xs i d) ∷ []
pieces_more f xs i d h = ap (map f) (take_more xs i d h) ∙ map-append f (take i xs) (get_or xs i d ∷ [])

pub pieces_on : (c : Statement) (limit : ℕ) (old mid new : ReceiverState) (front back : List ℕ) →
    AreBytes back → ReceiverGoesOn c limit old front mid → ReceiverGoesOn c limit mid back new →
    ReceiverGoesOn c limit old (front ++ back) new
pieces_on c limit old mid new front back are p q z a more d =
    subst (λ (l : List ℕ). ReceiverDecides c limit old l a) (sym (append_assoc front back z))
    (p (back ++ z) a (bytes_append back z are more) (q z a more d))

pub none_on : (c : Statement) (limit : ℕ) (state : ReceiverState) → ReceiverGoesOn c limit state [] state
none_on c limit state z a more d = d

-- Memory ran out over one of the pieces, and all payloads of those before it were read.
pub record ShortOver (c : Statement) (limit : ℕ) (pieces : List (List ℕ)) (state : ReceiverState) : Type 0 where
  pub before : List (List ℕ)
  pub piece : List ℕ
  pub after : List (List ℕ)
  pub cut : pieces ≡ before ++ piece ∷ after
  pub mid : ReceiverState
  pub takes : TakesAll c limit fresh_receiver (concat before) mid
  pub short : RunsShort c limit mid piece state

-- What is held once some pieces were fed: all payloads were read that stand whole, and bytes to come go on; or a fault,
-- and where it is want of memory, the sets of the first payloads.
pub record SoFar (c : Statement) (limit : ℕ) (pieces : List (List ℕ)) (state : ReceiverState) : Type 0 where
  pub bytes : AreBytes (concat pieces)
  pub takes : state.fault ≡ None → TakesAll c limit fresh_receiver (concat pieces) state
  pub goes_on : (state.fault ≡ Some Memory → ⊥) → ReceiverGoesOn c limit fresh_receiver (concat pieces) state
  pub short : state.fault ≡ Some Memory → ShortOver c limit pieces state

takes_nothing : ReaderLaws → (c : Statement) (limit : ℕ) → TakesAll c limit fresh_receiver [] fresh_receiver
takes_nothing wire c limit = record {
  split = record { payloads = []; rest_bytes = []; rest = EmptyRest };
  is_split = record { joined = refl; within = tt; ends = (wire.rests limit 0).0 };
  no_fault = refl;
  partial = refl;
  count = refl;
  reads = [];
  each = nothing;
  sets = refl;
  state = refl;
}

pub so_far_nothing : ReaderLaws → (c : Statement) (limit : ℕ) → SoFar c limit [] fresh_receiver
so_far_nothing wire c limit = record {
  bytes = no_bytes;
  takes = λ _. takes_nothing wire c limit;
  goes_on = λ _. none_on c limit fresh_receiver;
  short = λ e. absurd cc;
}

module _ (wire : ReaderLaws) (c : Statement) (limit : ℕ) (old new : ReceiverState)
    (front : List (List ℕ)) (piece : List ℕ) (are : AreBytes piece) (h : SoFar c limit front old)
    (feeds : Feeds c limit old piece new) where
  -- the bytes of one piece more
  joined : concat front ++ piece ≡ concat (front ++ piece ∷ [])
  joined = ap (λ (l : List ℕ). concat front ++ l) (sym (append-nil piece)) ∙ sym (concat-append front (piece ∷ []))

  more_bytes : AreBytes (concat (front ++ piece ∷ []))
  more_bytes = subst AreBytes joined (bytes_append (concat front) piece h.bytes are)

  on_both : ReceiverGoesOn c limit fresh_receiver (concat front) old →
      ReceiverGoesOn c limit old piece new →
      ReceiverGoesOn c limit fresh_receiver (concat (front ++ piece ∷ [])) new
  on_both p q = subst (λ (l : List ℕ). ReceiverGoesOn c limit fresh_receiver l new) joined
      (pieces_on c limit fresh_receiver old new (concat front) piece are p q)

  -- no fault is held before it
  next_going : old.fault ≡ None → SoFar c limit (front ++ piece ∷ []) new
  next_going none = record {
    bytes = more_bytes;
    takes = λ e. subst (λ (l : List ℕ). TakesAll c limit fresh_receiver l new) joined
        (takes_append wire c limit fresh_receiver old new (concat front) piece (h.takes none)
        (feeds.takes e));
    goes_on = λ never. on_both (h.goes_on (λ e. let f = sym none ∙ e in cc)) (feeds.goes_on never);
    short = λ e. record {
      before = front;
      piece = piece;
      after = [];
      cut = refl;
      mid = old;
      takes =
          h.takes none;
      short = feeds.short none e;
    };
  }

  next_faulty : (f : StreamFault) → old.fault ≡ Some f → SoFar c limit (front ++ piece ∷ []) new
  next_faulty f some =
      let same : new ≡ old = feeds.stays f some in
      let fault : new.fault ≡ old.fault = ap (λ (x : ReceiverState). x.fault) same in record {
        bytes = more_bytes;
        takes = λ e. absurd (let g = sym e ∙ fault ∙ some in cc);
        goes_on = λ never. on_both (h.goes_on (λ e. never (fault ∙ e))) (feeds.goes_on never);
        short = λ e.
            let s = h.short (sym fault ∙ e) in
            record {
              before = s.before;
              piece = s.piece;
              after = s.after ++ piece ∷ [];
              cut = ap (λ (l : List (List ℕ)). l ++ piece ∷ []) s.cut ∙
                  append_assoc s.before (s.piece ∷ s.after) (piece ∷ []);
              mid = s.mid;
              takes = s.takes;
              short = subst (λ (x : ReceiverState). RunsShort c limit s.mid s.piece x) (sym same) s.short;
            };
      }

  pub so_far_next : SoFar c limit (front ++ piece ∷ []) new
  so_far_next = by old.fault refl
    where
      by : (o : Option StreamFault) → old.fault ≡ o → SoFar c limit (front ++ piece ∷ []) new
      by None e = next_going e
      by (Some f) e = next_faulty f e

-- ---- the answer

no_fault_is : (rest : Rest) → fault_of_rest rest ≡ None → ¬ IsFault rest
no_fault_is EmptyRest e = λ f. f
no_fault_is OpenRest e = λ f. f
no_fault_is TooLargeRest e = absurd cc
no_fault_is OutOfSyncRest e = absurd cc

no_memory : (e : End) → IsNoFault e → IsMemory e → ⊥
no_memory (ends.Fault n f) none m = none
no_memory ends.WaitingPieces none m = let e = m.1 in absurd cc
no_memory ends.UnfinishedPacket none m = let e = m.1 in absurd cc
no_memory ends.Whole none m = let e = m.1 in absurd cc

same_fault : (n m : ℕ) (f : StreamFault) → ends.Fault n f ≡ ends.Fault m Memory → Some f ≡ Some Memory
same_fault n m f e = cc

module _ (wire : ReaderLaws) (c : Statement) (limit : ℕ) (pieces : List (List ℕ))
    (state : ReceiverState) (a : Audit) where
  short_audit : (f : StreamFault) → f ≡ Memory → ShortOver c limit pieces state →
      ReceiverDecidesBy c limit state (Some f) [] a → OutOfMemory c limit pieces a
  short_audit f memory r d =
      let both = short_append wire c limit fresh_receiver r.mid state (concat r.before) r.piece r.takes r.short in
      record {
        before = r.before;
        piece = r.piece;
        after = r.after;
        cut = r.cut;
        earlier = r.takes.split;
        is_earlier = r.takes.is_split;
        no_fault = no_fault_is r.takes.split.rest r.takes.no_fault;
        split = both.split;
        is_split = both.is_split;
        stopped = record {
          reads = both.reads;
          each = both.each;
          sets = d.0 ∙ both.sets;
          ending =
              d.1 ∙ ap (λ (n : ℕ). ends.Fault n f) both.count ∙
              ap (λ (g : StreamFault). ends.Fault (0 + length both.reads) g) memory;
        };
        at_least = omega (arith, r.takes.count, r.short.count, both.count);
      }

  pub memory_so_far : SoFar c limit pieces state → ReceiverDecides c limit state [] a →
      IsMemory a.ending → OutOfMemory c limit pieces a
  memory_so_far h d m = by state.fault refl d
    where
      by : (o : Option StreamFault) → state.fault ≡ o → ReceiverDecidesBy c limit state o [] a →
          OutOfMemory c limit pieces a
      by None e k =
          let taken = h.takes e in
          absurd (no_memory a.ending
          (none_taken wire c limit fresh_receiver state (concat pieces) e h.bytes taken
          (no_fault_is taken.split.rest taken.no_fault) a d) m)
      by (Some f) e k =
          let memory : Some f ≡ Some Memory = same_fault state.count m.0 f (sym k.1 ∙ m.1) in
          short_audit f (cc) (h.short (e ∙ memory)) k

  pub audit_so_far : SoFar c limit pieces state → ReceiverDecides c limit state [] a →
      (IsMemory a.ending → ⊥) → Audited c limit (concat pieces) a
  audit_so_far h d none =
      let on = h.goes_on (λ e. none (
        state.count,
        (subst (λ (o : Option StreamFault). ReceiverDecidesBy c limit state o [] a) e d).1,
      )) in
      (start_decides c limit (concat pieces) a).0
      (subst (λ (l : List ℕ). ReceiverDecides c limit fresh_receiver l a)
      (append-nil (concat pieces)) (on [] a no_bytes d))

-- the answer over all pieces
pub memory_over : ReaderLaws → (v : Received) (limit : ℕ) (fed all : List (List ℕ)) (a : Audit) →
    v.limit ≡ limit → fed ≡ all → SoFar v.statement v.limit fed (receiver_state v) →
    ReceiverDecides v.statement v.limit (receiver_state v) [] a
    → IsMemory a.ending → OutOfMemory v.statement limit all a
memory_over wire v limit fed all a l e h d m =
    subst (λ (n : ℕ). OutOfMemory v.statement n all a) l
    (subst (λ (pieces : List (List ℕ)). OutOfMemory v.statement v.limit pieces a) e
    (memory_so_far wire v.statement v.limit fed (receiver_state v) a h d m))

pub audit_over : ReaderLaws →
    (v : Received) (limit : ℕ) (fed : List (List ℕ)) (all : List ℕ) (a : Audit) → v.limit ≡ limit →
    concat fed ≡ all → SoFar v.statement v.limit fed (receiver_state v) →
    ReceiverDecides v.statement v.limit (receiver_state v) [] a
    → (IsMemory a.ending → ⊥) → Audited v.statement limit all a
audit_over wire v limit fed all a l e h d none =
    subst (λ (n : ℕ). Audited v.statement n all a) l
    (subst (λ (bytes : List ℕ). Audited v.statement v.limit bytes a) e
    (audit_so_far wire v.statement v.limit fed (receiver_state v) a h d none))

-- what a feed says, as one record
pub feeds_of : (mid new : Received) (piece : List ℕ) (result : Result (Unit {0}) StreamFault) →
    result ≡ answer_by new.fault
    → ((result ≡ Err Memory → ⊥) →
    ReceiverGoesOn mid.statement mid.limit (receiver_state mid) piece (receiver_state new)) →
    (mid.fault ≡ None → result ≡ Err Memory →
    RunsShort mid.statement mid.limit (receiver_state mid) piece (receiver_state new))
    → OnOk result (TakesAll mid.statement mid.limit (receiver_state mid) piece
    (receiver_state new)) → IfSome mid.fault (λ fault. (result ≡ Err fault) × (new ≡ mid))
    → Feeds mid.statement mid.limit (receiver_state mid) piece (receiver_state new)
feeds_of mid new piece result answer on short takes stays = record {
  goes_on = λ never. on (λ e. never (memory_is new.fault (sym answer ∙ e)));
  short = λ none e. short none (answer ∙ ap answer_by e);
  takes = λ none. subst (λ (r : Result (Unit {0}) StreamFault). OnOk r
      (TakesAll mid.statement mid.limit (receiver_state mid) piece (receiver_state new))) (answer ∙
      ap answer_by none) takes;
  stays = λ f e. ap receiver_state
      (subst (λ (o : Option StreamFault). IfSome o (λ fault. (result ≡ Err fault) × (new ≡ mid))) e
      stays).1;
}

-- one piece more
pub received_next : ReaderLaws →
    (mid new : Received) (front : List (List ℕ)) (piece : List ℕ) (next : List (List ℕ)) →
    new.statement ≡ mid.statement → new.limit ≡ mid.limit → AreBytes piece → next ≡ front ++ piece ∷
    []
    → SoFar mid.statement mid.limit front (receiver_state mid) →
    Feeds mid.statement mid.limit (receiver_state mid) piece (receiver_state new) →
    SoFar new.statement new.limit next (receiver_state new)
received_next wire mid new front piece next c l are e p q =
    subst (λ (pieces : List (List ℕ)). SoFar new.statement new.limit pieces (receiver_state new)) (sym e)
    (subst (λ (n : ℕ). SoFar new.statement n (front ++ piece ∷ []) (receiver_state new)) (sym l)
    (subst (λ (k : Statement). SoFar k mid.limit (front ++ piece ∷ []) (receiver_state new)) (sym c)
    (so_far_next wire mid.statement mid.limit (receiver_state mid) (receiver_state new) front
    piece are p q)))
