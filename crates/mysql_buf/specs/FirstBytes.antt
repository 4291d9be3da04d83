-- What stands in the first bytes of a list: enough bytes or too few.
use Rattle.std.proofs.Common.{◌≡◌, ℕ, ◌<◌, ◌≤◌, inl, inr, List, length, drop, Some, None, refl}
use Rattle.std.proofs.lemmas.Bool.{cases_lt, le-ltb, lt-ltb}
use Rattle.mysql_buf.specs.Reading.{first}

-- where n bytes are there, what they hold stands first
pub first-enough : {X : Type 0} (n : ℕ) (value : List ℕ → X) (bytes : List ℕ) → n ≤ length bytes →
    first n value bytes ≡ Some (value bytes, drop n bytes)
unfolding first
first-enough n value bytes h = rw (le-ltb (length bytes) n h) refl

-- where fewer bytes are there, nothing stands
pub first-short : {X : Type 0} (n : ℕ) (value : List ℕ → X) (bytes : List ℕ) → length bytes < n →
    first n value bytes ≡ None
unfolding first
first-short n value bytes h = rw (lt-ltb (length bytes) n h) refl

-- what stands first is what the n bytes hold
pub first-some : {X : Type 0} (n : ℕ) (value : List ℕ → X) (bytes : List ℕ) (p : X × List ℕ) →
    first n value bytes ≡ Some p
    → (n ≤ length bytes) × (p ≡ (value bytes, drop n bytes))
first-some n value bytes p h = elim (cases_lt (length bytes) n) [
  | inl less ↦ let none = first-short n value bytes less in absurd (cc)
  | inr enough ↦ let some = first-enough n value bytes enough in (enough, cc)
]
