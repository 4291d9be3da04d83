-- Payloads as far as they can be numbered.
use Rattle.std.proofs.Common.{◌≡◌, ℕ, suc, ◌+◌, ◌^◌, ◌<◌, List, [], ◌∷◌, length, true, Option, Some, None, refl, ap}
use Rattle.std.proofs.Common.{sym, subst, arith, ◌∙◌}
use Rattle.std.specs.Prelude.{nat_le, if◌then◌else◌, Result, Ok, Err, OnOk, IfErr}
use Rattle.std.proofs.Math.Seq.{take-nil}
use Rattle.std.proofs.lemmas.Bool.Decides.{nat_tests}
use Rattle.std.proofs.Math.Dec.{leb-suc-suc, leb-suc-zero}
use Rattle.mysql_wire.specs.Stream.{Rest}
use Rattle.mysql_wire.specs.Stream.Rest.{TooLarge}
use Rattle.mysql_replies.specs.declared.fault.ReplyFault.{ReplyFault}
use Rattle.mysql_replies.specs.declared.fault.ReplyFault.TheVariants as faults
use Rattle.mysql_replies.specs.declared.state.ReplyState.{ReplyState}
use Rattle.mysql_replies.specs.Reply.{Answer, OpenReply, Payload, ReplySoFar, GoingOn, Answered, PayloadsDecide}
use Rattle.mysql_replies.specs.Bytes.{numbers_left, numbered, after_numbered, NumberedPayloadsDecide}
use Rattle.mysql_replies.specs.States.{IsAwaiting, open_reply, faulted, reply_so_far, UnlessMemory, StateGoesOn}
use Rattle.mysql_replies.specs.States.{NumberedStateGoesOn}
use Rattle.mysql_replies.proofs.Finishing.{end_large, stops}
use Rattle.mysql_replies.proofs.GoingOn.{decides_answered}

numbered_nil : (count : ℕ) → numbered count [] ≡ []
numbered_nil count = take-nil (numbers_left count)

after_nil : (count : ℕ) (rest : Rest) → after_numbered count [] rest ≡ rest
after_nil count rest = let e : nat_le 0 (numbers_left count) ≡ true = grind (arith, nat_tests) in rw e refl

pub decides_none : (s : ReplySoFar) (rest : Rest) (answer : Answer) →
    PayloadsDecide s [] rest answer → NumberedPayloadsDecide s [] rest answer
decides_none (GoingOn s) rest answer h =
    subst (λ left. PayloadsDecide (GoingOn s) (numbered s.count []) left answer)
    (sym (after_nil s.count rest))
    (subst (λ payloads. PayloadsDecide (GoingOn s) payloads rest answer)
    (sym (numbered_nil s.count)) h)
decides_none (Answered known) rest answer h = h

-- One payload of those that can be numbered.
one_fewer : (count : ℕ) → count + 1 < 2 ^ 64 → numbers_left count ≡ suc (numbers_left (count + 1))
one_fewer count h = omega arith

numbered_cons : (count : ℕ) (payload : Payload) (z : List Payload) → count + 1 < 2 ^ 64 →
    numbered count (payload ∷ z) ≡ payload ∷ numbered (count + 1) z
numbered_cons count payload z h = rw (one_fewer count h) refl

after_cons : (count : ℕ) (payload : Payload) (z : List Payload) (rest : Rest) → count + 1 < 2 ^ 64 →
    after_numbered count (payload ∷ z) rest ≡ after_numbered (count + 1) z rest
after_cons count payload z rest h =
    let e : nat_le (length (payload ∷ z)) (numbers_left count) ≡
    nat_le (length z) (numbers_left (count + 1)) =
    rw (one_fewer count h) (leb-suc-suc (length z) (numbers_left (count + 1))) in
    ap (λ b. if b then rest else TooLarge) e

over_numbered : (s : OpenReply) (payload : Payload) (after : ReplySoFar) → s.count + 1 < 2 ^ 64 →
    ((z : List Payload) (rest : Rest) (answer : Answer) → PayloadsDecide after z rest answer →
    PayloadsDecide (GoingOn s) (payload ∷ z) rest answer)
    → (z : List Payload) (rest : Rest) (answer : Answer) →
    PayloadsDecide after (numbered (s.count + 1) z) (after_numbered (s.count + 1) z rest)
    answer → NumberedPayloadsDecide (GoingOn s) (payload ∷ z) rest answer
over_numbered s payload after room goes z rest answer h =
    subst (λ payloads. PayloadsDecide (GoingOn s) payloads
    (after_numbered s.count (payload ∷ z) rest) answer)
    (sym (numbered_cons s.count payload z room))
    (subst (λ left. PayloadsDecide (GoingOn s) (payload ∷ numbered (s.count + 1) z) left answer)
    (sym (after_cons s.count payload z rest room))
    (goes (numbered (s.count + 1) z) (after_numbered (s.count + 1) z rest) answer h))

decides_numbered : (after : OpenReply) (fault : Option ReplyFault) (count : ℕ) →
    (fault ≡ None → after.count ≡ count) → (z : List Payload) (rest : Rest) (answer : Answer) →
    NumberedPayloadsDecide (faulted after fault) z rest answer →
    PayloadsDecide (faulted after fault) (numbered count z) (after_numbered count z rest) answer
decides_numbered after None count same z rest answer h =
    subst (λ n. PayloadsDecide (GoingOn after) (numbered n z) (after_numbered n z rest) answer)
    (same refl) h
decides_numbered after (Some fault) count same z rest answer h =
    decides_answered _ (numbered count z) (after_numbered count z rest) answer h

-- What a payload leads to, as far as payloads can be numbered.
pub goes_over_numbered : (before after : ReplyState) (payload : Payload) → before.fault ≡ None →
    before.count + 1 < 2 ^ 64 → (after.fault ≡ None → after.count ≡ before.count + 1) →
    StateGoesOn before payload after → NumberedStateGoesOn before payload after
goes_over_numbered before after payload going room counted goes z rest answer h =
    subst (λ f. NumberedPayloadsDecide (faulted (open_reply before) f) (payload ∷ z) rest answer) (sym going)
    (over_numbered (open_reply before) payload (reply_so_far after) room
    (λ y r a k. subst (λ f. PayloadsDecide (faulted (open_reply before) f) (payload ∷ y) r a) going (goes y r a k))
    z rest answer (decides_numbered (open_reply after) after.fault (before.count + 1) counted z rest answer h))

none_left : (count : ℕ) → count ≡ 18446744073709551615 → numbers_left count ≡ 0
none_left count h = omega arith

-- A payload that can't be numbered is too large.
pub too_large : (before after : ReplyState) (payload : Payload) → before.fault ≡ None → after ≡
    record before { fault = Some faults.TooLarge } → before.count ≡ 18446744073709551615 →
    IsAwaiting before → NumberedStateGoesOn before payload after
too_large before after payload going is last some z rest answer h =
    let k = subst (λ s. NumberedPayloadsDecide (reply_so_far s) z rest answer) is h in
    let none : numbered before.count (payload ∷ z) ≡ [] = rw (none_left before.count last) refl in
    let left : after_numbered before.count (payload ∷ z) rest ≡ TooLarge =
    rw (none_left before.count last, leb-suc-zero (length z)) refl in
    let stopped = stops before TooLarge answer (ap (λ a. a.results) k) (ap (λ a. a.progress) k)
    (ap (λ a. a.end) k ∙ end_large before some) in
    subst (λ f. NumberedPayloadsDecide (faulted (open_reply before) f) (payload ∷ z) rest answer) (sym going)
    (subst (λ payloads. PayloadsDecide (GoingOn (open_reply before)) payloads
    (after_numbered before.count (payload ∷ z) rest) answer) (sym none)
    (subst (λ l. PayloadsDecide (GoingOn (open_reply before)) [] l answer) (sym left) stopped))

-- The same, unless memory ran out.
pub numbered_unless : (before after : ReplyState) (payload : Payload) (r : Result Unit ReplyFault) →
    before.fault ≡ None → before.count + 1 < 2 ^ 64 →
    OnOk r ((after.fault ≡ None) × (after.count ≡ before.count + 1)) →
    IfErr r (λ fault. after.fault ≡ Some fault) →
    UnlessMemory r (StateGoesOn before payload after) →
    UnlessMemory r (NumberedStateGoesOn before payload after)
numbered_unless before after payload (Ok x) going room ok wrong goes =
    goes_over_numbered before after payload going room (λ e. ok.1) goes
numbered_unless before after payload (Err faults.Memory) going room ok wrong goes = tt
numbered_unless before after payload (Err fault) going room ok wrong goes =
    goes_over_numbered before after payload going room (λ e. cc) goes
