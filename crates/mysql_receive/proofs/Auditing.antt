-- There is one audit of payloads and a rest, and the audit of two lists goes on from what the first leaves in force.
use Rattle.std.proofs.Common.{◌≡◌, ℕ, suc, ◌+◌, ◌⊎◌, true, false, cond, List, [], ◌∷◌, ◌++◌, length, refl, sym, ap}
use Rattle.std.proofs.Common.{subst, ◌∙◌, arith, inl, inr, append_assoc}
use Rattle.std.specs.List.{flat_map}
use Rattle.std.proofs.lemmas.List.{length-append, append-nil}
use Rattle.std.proofs.lemmas.List.Concat.{flat_map-append}
use Rattle.mysql_receive.specs.declared.fault.StreamFault.{StreamFault}
use Rattle.mysql_receive.proofs.Readable.{IsReadable}
use Rattle.mysql_receive.specs.Query.{Statement}
use Rattle.mysql_receive.specs.InForce.{StatementState, after, state_after, is_waiting}
use Rattle.mysql_receive.specs.Reading.{Set, ReadsAs, Faulty}
use Rattle.mysql_wire.specs.Stream.{Rest, IsFault}
use Rattle.mysql_wire.specs.Stream.Rest.{Empty as EmptyRest, TooLarge as TooLargeRest, OutOfSync as OutOfSyncRest}
use Rattle.mysql_wire.specs.Stream.Rest.{Open as OpenRest}
use Rattle.mysql_receive.specs.Audit.{Audit, Reads, nothing, next, FrontReads, Ends, faulty, all_read, Audits}
use Rattle.mysql_receive.specs.Audit.{end_by_rest, IsNoFault}
use Rattle.mysql_receive.specs.declared.audit.End.{End}
use Rattle.mysql_receive.specs.declared.audit.End.TheVariants as ends
use Rattle.mysql_receive.proofs.Looking.{state_after_append}
use Rattle.mysql_receive.proofs.Judging.{is_judged}

-- ---- payloads that read

-- as many lists of sets as payloads
pub reads_length : (c : Statement) (s : StatementState) (n : ℕ) (xs : List (List ℕ))
    (reads : List (List Set)) → Reads c s n xs reads → length reads ≡ length xs
reads_length c s n xs reads nothing = refl
reads_length c s n xs reads (next {payload = p} {payloads = ps} {reads = rs} h others) =
    ap suc (reads_length c (after c s p) (n + 1) ps rs others)

-- the number from which they are counted
pub reads_from : (c : Statement) (s : StatementState) (m n : ℕ) (xs : List (List ℕ))
    (reads : List (List Set)) → m ≡ n → Reads c s m xs reads → Reads c s n xs reads
reads_from c s m n xs reads is r = subst (λ (k : ℕ). Reads c s k xs reads) is r

-- payloads behind others
pub reads_append : (c : Statement) (s : StatementState) (n : ℕ) (xs ys : List (List ℕ))
    (reads more : List (List Set)) → Reads c s n xs reads →
    Reads c (state_after c s xs) (n + length xs) ys more
    → Reads c s n (xs ++ ys) (reads ++ more)
reads_append c s n xs ys reads more nothing r = reads_from c s (n + 0) n ys more (omega arith) r
reads_append c s n xs ys reads more (next {payload = p} {payloads = ps} {reads = rs} h others) r =
    next h (reads_append c (after c s p) (n + 1) ps ys rs more others
    (reads_from c (state_after c (after c s p) ps) (n + suc (length ps)) ((n + 1) + length ps)
    ys more (omega arith) r))

pub one_read : (c : Statement) (s : StatementState) (n : ℕ) (x : List ℕ) (sets : List Set) →
    ReadsAs c s n x sets → Reads c s n (x ∷ []) (sets ∷ [])
one_read c s n x sets h = next h nothing

-- ---- the first of payloads

-- all of them
abbrev pub all_reads : (c : Statement) (s : StatementState) (n : ℕ) (xs : List (List ℕ))
    (reads : List (List Set)) → Reads c s n xs reads → FrontReads c s n xs reads
all_reads c s n xs reads r = record { front = xs; left = []; cut = sym (append-nil xs); each = r }

-- they are the first of more
pub front_longer : (c : Statement) (s : StatementState) (n : ℕ) (xs ys : List (List ℕ))
    (reads : List (List Set)) → FrontReads c s n xs reads → FrontReads c s n (xs ++ ys) reads
front_longer c s n xs ys reads r =
    record {
      front = r.front;
      left = r.left ++ ys;
      cut = ap (λ (l : List (List ℕ)). l ++ ys) r.cut ∙
          append_assoc r.front r.left ys;
      each = r.each;
    }

-- and behind payloads that read
abbrev pub front_append : (c : Statement) (s : StatementState) (n : ℕ) (xs ys : List (List ℕ))
    (reads more : List (List Set)) → Reads c s n xs reads →
    FrontReads c (state_after c s xs) (n + length xs) ys more
    → FrontReads c s n (xs ++ ys) (reads ++ more)
front_append c s n xs ys reads more r m =
    record {
      front = xs ++ m.front;
      left = m.left;
      cut = ap (λ (l : List (List ℕ)). xs ++ l) m.cut ∙ sym (append_assoc xs m.front m.left);
      each = reads_append c s n xs m.front reads more r m.each;
    }

-- ---- audits

-- an end, counted from another number, behind other words for what is in force
ends_as : (c : Statement) (s t : StatementState) (m n : ℕ) (kind : Rest) (ending : End)
    (left : List (List ℕ)) → s ≡ t → m ≡ n → Ends c s m kind ending left →
    Ends c t n kind ending left
ends_as c s t m n kind ending left p q h =
    subst (λ (u : StatementState). Ends c u n kind ending left) p
    (subst (λ (k : ℕ). Ends c s k kind ending left) q h)

-- behind payloads that all read, the audit goes on by what they leave in force
pub audits_append : (c : Statement) (s : StatementState) (first : ℕ) (xs ys : List (List ℕ))
    (kind : Rest) (reads : List (List Set)) (a : Audit) → Reads c s first xs reads
    → Audits c (state_after c s xs) (first + length xs) ys kind a →
    Audits c s first (xs ++ ys) kind
    (record { sets = flat_map (λ sets. sets) reads ++ a.sets; ending = a.ending })
audits_append c s first xs ys kind reads a r h =
    record {
      reads = reads ++ h.reads;
      each = front_append c s first xs ys reads h.reads r h.each;
      sets = ap (λ (l : List Set). flat_map (λ sets. sets) reads ++ l) h.sets ∙
          sym (flat_map-append (λ sets. sets) reads h.reads);
      ending = ends_as c (state_after c (state_after c s xs) h.each.front)
          (state_after c s (xs ++ h.each.front)) ((first + length xs) + length h.reads)
          (first + length (reads ++ h.reads)) kind a.ending h.each.left
          (sym (state_after_append c s xs h.each.front))
          (omega (arith, reads_length c s first xs reads r, length-append reads h.reads))
          h.ending;
    }

-- a fault behind the first payloads is the fault of all of them
pub audits_faulty : (c : Statement) (s : StatementState) (first : ℕ) (xs ys : List (List ℕ))
    (p : List ℕ) (kind : Rest) (reads : List (List Set)) (f : StreamFault) →
    Reads c s first xs reads
    → Faulty c (state_after c s xs) (first + length reads) p f →
    Audits c s first (xs ++ p ∷
    ys) kind (record {
      sets = flat_map (λ sets. sets) reads;
      ending =
          ends.Fault (first + length reads) f;
    })
audits_faulty c s first xs ys p kind reads f r h =
    record {
      reads = reads;
      each =
          record { front = xs; left = p ∷ ys; cut = refl; each = r };
      sets = refl;
      ending =
          faulty f h refl;
    }

-- where all are read, the rest decides
pub audits_whole : (c : Statement) (s : StatementState) (first : ℕ) (xs : List (List ℕ))
    (kind : Rest) (reads : List (List Set)) → Reads c s first xs reads
    → Audits c s first xs kind
    (record {
      sets = flat_map (λ sets. sets) reads;
      ending =
          end_by_rest c (state_after c s xs) (first + length reads) kind;
    })
audits_whole c s first xs kind reads r =
    record {
      reads = reads;
      each = all_reads c s first xs reads r;
      sets = refl;
      ending =
          all_read refl;
    }

-- ---- there is an audit

pub some_audit : (c : Statement) → IsReadable c.query →
    (payloads : List (List ℕ)) (s : StatementState) (first : ℕ) (kind : Rest) → (a : Audit) ×
    Audits c s first payloads kind a
some_audit c readable [] s first kind = (_, audits_whole c s first [] kind [] nothing)
some_audit c readable (x ∷ xs) s first kind =
    by_cases (is_judged c s first x readable).judged
    (some_audit c readable xs (after c s x) (first + 1) kind)
  where
    by_cases : (((sets : List Set) × ReadsAs c s first x sets) ⊎
        ((f : StreamFault) × Faulty c s first x f)) →
        ((b : Audit) × Audits c (after c s x) (first + 1) xs kind b) → (a : Audit) ×
        Audits c s first (x ∷ xs) kind a
    by_cases (inr h) rest = (
      _,
      audits_faulty c s first [] xs x kind [] h.0 nothing
          (subst (λ (k : ℕ). Faulty c s k x h.0) (omega arith) h.1),
    )
    by_cases (inl h) rest =
        (_, audits_append c s first (x ∷ []) xs kind (h.0 ∷ []) rest.0 (one_read c s first x h.0 h.1) rest.1)

-- ---- and no other

module _ (c : Statement) (readable : IsReadable c.query) (kind : Rest) where
  ends_one : (s : StatementState) (n : ℕ) (d e : End) (left : List (List ℕ)) →
      Ends c s n kind d left → Ends c s n kind e left → d ≡ e
  ends_one s n d e left (faulty {payload = p} f h is) (faulty g k other) = is ∙
      ap (λ (x : StreamFault). ends.Fault n x) ((is_judged c s n p readable).fault_one f g h k) ∙
      sym other
  ends_one s n d e left (all_read is) (all_read other) = is ∙ sym other

  -- an audit can't end where another has read on
  no_end : (s : StatementState) (m n : ℕ) (d : End) (p : List ℕ) (later : List (List ℕ))
      (sets : List Set) → m ≡ n → Ends c s m kind d (p ∷ later) → ReadsAs c s n p sets → ⊥
  no_end s m n d p later sets is (faulty f h other) r =
      (is_judged c s n p readable).not_both sets f r (subst (λ (k : ℕ). Faulty c s k p f) is h)

  -- the sets of two audits are the same, and so is their end
  both_same : (s : StatementState) (n : ℕ) (xs ys ls ms : List (List ℕ))
      (reads more : List (List Set)) (d e : End) → Reads c s n xs reads → Reads c s n ys more →
      xs ++ ls ≡ ys ++ ms
      → Ends c (state_after c s xs) (n + length reads) kind d ls →
      Ends c (state_after c s ys) (n + length more) kind e ms → (reads ≡ more) × (d ≡ e)
  both_same s n xs ys ls ms reads more d e nothing nothing is p q =
      (refl, ends_one s (n + 0) d e ms (subst (λ (l : List (List ℕ)). Ends c s (n + 0) kind d l) is p) q)
  both_same s n xs ys ls ms reads more d e nothing
      (next {payload = y} {payloads = others} {sets = sets} h rest) is p q =
      absurd (no_end s (n + 0) n d y (others ++ ms) sets (omega arith)
      (subst (λ (l : List (List ℕ)). Ends c s (n + 0) kind d l) is p) h)
  both_same s n xs ys ls ms reads more d e
      (next {payload = x} {payloads = others} {sets = sets} h rest) nothing is p q =
      absurd (no_end s (n + 0) n e x (others ++ ls) sets (omega arith)
      (subst (λ (l : List (List ℕ)). Ends c s (n + 0) kind e l) (sym is) q) h)
  both_same s n xs ys ls ms reads more d e
      (next {payload = x} {payloads = us} {sets = xsets} {reads = rs} h rest)
      (next {payload = y} {payloads = vs} {sets = ysets} {reads = qs} k others) is p q =
      let same : x ≡ y = cc in
      let later : us ++ ls ≡ vs ++ ms = cc in
      let here : xsets ≡ ysets =
      (is_judged c s n x readable).sets_one xsets ysets h
      (subst (λ (z : List ℕ). ReadsAs c s n z ysets) (sym same) k) in
      let moved : Reads c (after c s x) (n + 1) vs qs =
      subst (λ (z : List ℕ). Reads c (after c s z) (n + 1) vs qs) (sym same) others in
      let last : Ends c (state_after c (after c s x) vs) (n + 1 + length qs) kind e ms =
      ends_as c (state_after c (after c s y) vs) (state_after c (after c s x) vs)
      (n + suc (length qs)) (n + 1 + length qs) kind e ms
      (ap (λ (z : List ℕ). state_after c (after c s z) vs) (sym same)) (omega arith) q in
      let first : Ends c (state_after c (after c s x) us) (n + 1 + length rs) kind d ls =
      ends_as c (state_after c (after c s x) us) (state_after c (after c s x) us)
      (n + suc (length rs)) (n + 1 + length rs) kind d ls refl (omega arith) p in
      let behind = both_same (after c s x) (n + 1) us vs ls ms rs qs d e rest moved later first last in
      (ap (λ (l : List (List Set)). xsets ∷ l) behind.0 ∙ ap (λ (l : List Set). l ∷ qs) here, behind.1)

pub one_audit : (c : Statement) (readable : IsReadable c.query) (s : StatementState) (first : ℕ)
    (payloads : List (List ℕ)) (kind : Rest) (a b : Audit) → Audits c s first payloads kind a →
    Audits c s first payloads kind b → a ≡ b
one_audit c readable s first payloads kind a b p q =
    let same = both_same c readable kind s first p.each.front q.each.front p.each.left q.each.left
    p.reads q.reads a.ending b.ending p.each.each q.each.each (sym p.each.cut ∙
    q.each.cut) p.ending q.ending in
    let sets : a.sets ≡ b.sets = p.sets ∙ ap (λ (l : List (List Set)). flat_map (λ sets. sets) l) same.0 ∙ sym q.sets in
    let ending : a.ending ≡ b.ending = same.1 in
    λ i. record { sets = sets i; ending = ending i }

-- ---- no fault

pub no_fault_by_rest : (c : Statement) (s : StatementState) (n : ℕ) (rest : Rest) → ¬ IsFault rest →
    IsNoFault (end_by_rest c s n rest)
no_fault_by_rest c s n EmptyRest none =
    elim (is_waiting c s) as (λ b. IsNoFault (cond b ends.WaitingPieces ends.Whole))
    [ true ↦ tt | false ↦ tt ]
no_fault_by_rest c s n OpenRest none =
    elim (is_waiting c s) as (λ b. IsNoFault (cond b ends.WaitingPieces ends.UnfinishedPacket))
    [ true ↦ tt | false ↦ tt ]
no_fault_by_rest c s n TooLargeRest none = absurd (none tt)
no_fault_by_rest c s n OutOfSyncRest none = absurd (none tt)

-- nor has it any over no payloads
pub no_fault_alone : (c : Statement) (s : StatementState) (first : ℕ) (rest : Rest) (a : Audit) →
    ¬ IsFault rest → Audits c s first [] rest a → IsNoFault a.ending
no_fault_alone c s first rest a none h = by h.each.left (nothing_left h.each.front h.each.left h.each.cut) h.ending
  where
    nothing_left : (xs ys : List (List ℕ)) → [] ≡ xs ++ ys → ys ≡ []
    nothing_left [] ys e = sym e
    nothing_left (x ∷ xs) ys e = absurd cc

    by : (left : List (List ℕ)) → left ≡ [] →
        Ends c (state_after c s h.each.front) (first + length h.reads) rest a.ending left →
        IsNoFault a.ending
    by [] e (all_read is) = subst IsNoFault (sym is)
        (no_fault_by_rest c (state_after c s h.each.front) (first + length h.reads) rest none)
    by (x ∷ xs) e k = absurd cc
