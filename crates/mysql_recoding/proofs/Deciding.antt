-- What a receiver without a fault decides of bytes still to come.
use Rattle.std.proofs.Common.{◌≡◌, ℕ, List, [], ◌∷◌, ◌++◌, None, refl, sym, ◌∙◌, ap, subst}
use Rattle.std.specs.List.{flat_map}
use Rattle.std.proofs.lemmas.List.{append-nil}
use Rattle.mysql_wire.specs.Bytes.{AreBytes}
use Rattle.mysql_wire.specs.GoingOn.{RestsAreTold}
use Rattle.mysql_wire.specs.Laws.{HasOneSplit}
use Rattle.mysql_wire.specs.Stream.{IsRest, IsSplit, Numbering, Rest, Split, after_all, first_number}
use Rattle.mysql_wire.specs.Stream.Rest.{Empty}
use Rattle.mysql_wire.specs.Stream.Numbering.{EachFromZero}
use Rattle.mysql_receive.specs.Audit.{Audit, Reads, nothing, next}
use Rattle.mysql_receive.specs.InForce.{StatementState}
use Rattle.mysql_receive.specs.GoingOn.{ReceiverDecides, ReceiverDecidesBy, ReceiverState, TakesAll}
use Rattle.mysql_receive.specs.Laws.{ThereIsOneAudit}
use Rattle.mysql_receive.specs.Query.{IsQuery, Statement}
use Rattle.mysql_receive.specs.Reading.{Set}
use Rattle.mysql_recoding.proofs.ByteLists.{bytes_append, bytes_behind}

-- something is decided of any bytes to come, with the sets that are held in front
pub record Decision (c : Statement) (limit : ℕ) (state : ReceiverState) (z : List ℕ) : Type 0 where
  pub audit : Audit
  pub decided : ReceiverDecides c limit state z audit
  pub more : List Set
  pub sets : audit.sets ≡ state.sets ++ more

pub some_decision : HasOneSplit → ThereIsOneAudit →
    (c : Statement) (limit : ℕ) (state : ReceiverState) (z : List ℕ) → IsQuery c.query →
    AreBytes state.partial → AreBytes z → state.fault ≡ None
    → Decision c limit state z
some_decision one_split one_audit c limit state z query partial bytes none =
    let found = one_split limit EachFromZero (state.partial ++ z) (bytes_append state.partial z partial bytes) in
    let split : Split = found.0 in
    let judged = one_audit c state.state state.count split.payloads split.rest query in
    let audit : Audit = record { sets = state.sets ++ judged.0.sets; ending = judged.0.ending } in
    record {
      audit = audit;
      decided = subst (λ fault. ReceiverDecidesBy c limit state fault z audit) (sym none) (
        split,
        judged.0.sets,
        found.1,
        refl,
        judged.1,
      );
      more = judged.0.sets;
      sets = refl;
    }

-- ---- between packets

-- no payload stands whole in these bytes
pub record AtRest (limit : ℕ) (bytes : List ℕ) : Type 0 where
  pub rest : Rest
  pub is : IsSplit limit EachFromZero bytes (record { payloads = []; rest_bytes = bytes; rest = rest })

each_from_zero : (payloads : List (List ℕ)) → after_all payloads EachFromZero ≡ EachFromZero
each_from_zero [] = refl
each_from_zero (payload ∷ payloads) = each_from_zero payloads

-- none stands in what is left behind a piece
pub rest_behind : (c : Statement) (limit : ℕ) (old new : ReceiverState) (piece : List ℕ) →
    TakesAll c limit old piece new → AtRest limit new.partial
rest_behind c limit old new piece takes =
    let split : Split = takes.split in
    let ends : IsRest limit 0 split.rest_bytes split.rest =
    subst (λ (numbering : Numbering). IsRest limit (first_number numbering) split.rest_bytes
    split.rest) (each_from_zero split.payloads) takes.is_split.ends in
    subst (AtRest limit) (sym takes.partial)
    (record { rest = split.rest; is = record { joined = refl; within = tt; ends = ends } })

-- nor in no bytes
pub rest_of_nothing : RestsAreTold → (limit : ℕ) → AtRest limit []
rest_of_nothing told limit =
    record { rest = Empty; is = record { joined = refl; within = tt; ends = (told limit 0).0 } }

-- what is left behind a piece are bytes
pub bytes_left : (c : Statement) (limit : ℕ) (old new : ReceiverState) (piece : List ℕ) →
    TakesAll c limit old piece new → AreBytes old.partial → AreBytes piece → AreBytes new.partial
bytes_left c limit old new piece takes partial bytes =
    let all : AreBytes (_ ++ takes.split.rest_bytes) =
    subst AreBytes takes.is_split.joined (bytes_append old.partial piece partial bytes) in
    subst AreBytes (sym takes.partial) (bytes_behind _ takes.split.rest_bytes all)

no_reads : (c : Statement) (s : StatementState) (n : ℕ) (front left : List (List ℕ))
    (reads : List (List Set)) → [] ≡ front ++ left → Reads c s n front reads →
    flat_map (λ (sets : List Set). sets) reads ≡ []
no_reads c s n front left reads e nothing = refl
no_reads c s n front left reads e (next h others) = absurd cc

-- so no sets are decided of no bytes
pub no_sets : HasOneSplit → (c : Statement) (limit : ℕ) (state : ReceiverState) (audit : Audit) →
    AtRest limit state.partial → AreBytes state.partial → state.fault ≡ None → state.sets ≡ []
    → ReceiverDecides c limit state [] audit → audit.sets ≡ []
no_sets one_split c limit state audit rest partial none held decided =
    let by : ReceiverDecidesBy c limit state None [] audit =
    subst (λ fault. ReceiverDecidesBy c limit state fault [] audit) none decided in
    let found = one_split limit EachFromZero state.partial partial in
    let is : IsSplit limit EachFromZero state.partial by.0 =
    subst (λ (l : List ℕ). IsSplit limit EachFromZero l by.0) (append-nil state.partial) by.2 in
    let same : by.0 ≡ record { payloads = []; rest_bytes = state.partial; rest = rest.rest } =
    found.2 by.0 is ∙ sym (found.2 _ rest.is) in
    let first = by.4.each in
    let cut : [] ≡ first.front ++ first.left = sym (ap (λ (s : Split). s.payloads) same) ∙ first.cut in
    by.3 ∙ ap (λ l. l ++ by.1) held ∙ by.4.sets ∙
    no_reads c state.state state.count first.front first.left by.4.reads cut first.each
