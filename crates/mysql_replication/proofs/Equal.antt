-- When sets are equal.
use Rattle.std.proofs.Common.{◌≡◌, ℕ, ◌&&◌, ◌↔◌, Bool, true, false, true≢false, nat_eq, List, [], ◌∷◌, Option, Some}
use Rattle.std.proofs.Common.{None, IsTrue, refl, sym, ap, ◌∙◌, eq-eqb}
use Rattle.std.proofs.lemmas.Bool.{eqb-true}
use Rattle.std.specs.Cmp.Lexicographic.{pointwise}
use Rattle.std.specs.Option.{option_eq}
use Rattle.mysql_replication.specs.Sids.{SidParts}
use Rattle.mysql_replication.specs.declared.interval.GnoInterval.{GnoInterval}

-- A test that tells whether two values are equal.
pub record Tells {X : Type 0} (test : X → X → Bool) : Type 0 where
  pub equal : (x y : X) → test x y ≡ true → x ≡ y
  pub itself : (x : X) → test x x ≡ true

two : (a b : Bool) → a && b ≡ true → (a ≡ true) × (b ≡ true)
two true b h = (refl, h)
two false b h = absurd (true≢false (sym h))

pub numbers : Tells nat_eq
numbers = record { equal = eqb-true; itself = λ n. eq-eqb n n refl }

equal_lists : {X : Type 0} (test : X → X → Bool) → Tells test → (xs ys : List X) → pointwise test xs ys ≡ true → xs ≡ ys
equal_lists test t [] [] h = refl
equal_lists test t [] (y ∷ ys) h = absurd (true≢false (sym h))
equal_lists test t (x ∷ xs) [] h = absurd (true≢false (sym h))
equal_lists test t (x ∷ xs) (y ∷ ys) h =
    let parts = two (test x y) (pointwise test xs ys) h in
    let first = t.equal x y parts.0 in
    let others = equal_lists test t xs ys parts.1 in
    cc

list_itself : {X : Type 0} (test : X → X → Bool) → Tells test → (xs : List X) → pointwise test xs xs ≡ true
list_itself test t [] = refl
list_itself test t (x ∷ xs) = rw (t.itself x) (list_itself test t xs)

pub lists : {X : Type 0} (test : X → X → Bool) → Tells test → Tells (pointwise test)
lists test t = record { equal = equal_lists test t; itself = list_itself test t }

equal_options : {X : Type 0} (test : X → X → Bool) → Tells test → (x y : Option X) → option_eq test x y ≡ true → x ≡ y
equal_options test t None None h = refl
equal_options test t None (Some y) h = absurd (true≢false (sym h))
equal_options test t (Some x) None h = absurd (true≢false (sym h))
equal_options test t (Some x) (Some y) h = ap Some (t.equal x y h)

option_itself : {X : Type 0} (test : X → X → Bool) → Tells test → (x : Option X) → option_eq test x x ≡ true
option_itself test t None = refl
option_itself test t (Some x) = t.itself x

pub options : {X : Type 0} (test : X → X → Bool) → Tells test → Tells (option_eq test)
options test t = record { equal = equal_options test t; itself = option_itself test t }

-- The test of intervals, by their ends.
abbrev pub interval_eq : GnoInterval → GnoInterval → Bool
interval_eq a b = nat_eq a.start b.start && nat_eq a.end b.end

equal_intervals : (a b : GnoInterval) → interval_eq a b ≡ true → a ≡ b
equal_intervals a b h =
    let parts = two (nat_eq a.start b.start) (nat_eq a.end b.end) h in
    let start = ap (λ (n : ℕ). interval n a.end) (eqb-true a.start b.start parts.0) in
    let end = ap (λ (n : ℕ). interval b.start n) (eqb-true a.end b.end parts.1) in
    start ∙ end where
      interval : ℕ → ℕ → GnoInterval
      interval start end = record { start = start; end = end }

interval_itself : (a : GnoInterval) → interval_eq a a ≡ true
interval_itself a = rw (eq-eqb a.start a.start refl) (eq-eqb a.end a.end refl)

pub intervals : Tells interval_eq
intervals = record { equal = equal_intervals; itself = interval_itself }

-- The test of sets, by their parts.
abbrev pub sid_eq : SidParts → SidParts → Bool
sid_eq a b = pointwise nat_eq a.uuid b.uuid &&
    (option_eq (pointwise nat_eq) a.tag b.tag && pointwise interval_eq a.intervals b.intervals)

equal_sids : (a b : SidParts) → sid_eq a b ≡ true → a ≡ b
equal_sids a b h =
    let parts = two (pointwise nat_eq a.uuid b.uuid) (option_eq (pointwise nat_eq) a.tag b.tag &&
    pointwise interval_eq a.intervals b.intervals) h in
    let others = two (option_eq (pointwise nat_eq) a.tag b.tag)
    (pointwise interval_eq a.intervals b.intervals) parts.1 in
    let uuid = (lists nat_eq numbers).equal a.uuid b.uuid parts.0 in
    let tag = (options (pointwise nat_eq) (lists nat_eq numbers)).equal a.tag b.tag others.0 in
    let all = (lists interval_eq intervals).equal a.intervals b.intervals others.1 in
    ap (λ (x : List ℕ). sid x a.tag a.intervals) uuid ∙
    ap (λ (x : Option (List ℕ)). sid b.uuid x a.intervals) tag ∙
    ap (λ (x : List GnoInterval). sid b.uuid b.tag x) all where
      sid : List ℕ → Option (List ℕ) → List GnoInterval → SidParts
      sid uuid tag intervals = record { uuid = uuid; tag = tag; intervals = intervals }

sid_itself : (a : SidParts) → sid_eq a a ≡ true
sid_itself a =
    rw (
      (lists nat_eq numbers).itself a.uuid,
      (options (pointwise nat_eq) (lists nat_eq numbers)).itself a.tag,
      (lists interval_eq intervals).itself a.intervals,
    ) refl

pub sids : Tells sid_eq
sids = record { equal = equal_sids; itself = sid_itself }

-- What such a test answers says whether two values are equal.
pub answers : {X : Type 0} (test : X → X → Bool) → Tells test → (x y : X) (answer : Bool) → answer ≡
    test x y → IsTrue answer ↔ (x ≡ y)
answers test t x y answer h =
    (λ yes. t.equal x y (sym h ∙ yes), λ same. h ∙ (ap (λ z. test x z) (sym same) ∙ t.itself x))
