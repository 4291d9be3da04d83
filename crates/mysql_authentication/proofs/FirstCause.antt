-- Where there is no first cause, each test holds.
use Rattle.std.proofs.Common.{◌≡◌, Bool, true, false, List, [], ◌∷◌, Option, None, Some, refl, not}
use Rattle.mysql_authentication.specs.Written.{first_cause, same, unless}
use Rattle.mysql_authentication.specs.declared.refusal.LoginRefusal.{LoginRefusal}

pub passed : (a : Bool) (A : LoginRefusal) → unless a A ≡ None → a ≡ true
passed true A h = refl
passed false A h = cc

pub both_passed : (a b : Bool) (A B : LoginRefusal) → first_cause (unless a A ∷ unless b B ∷ []) ≡
    None → (a ≡ true) × (b ≡ true)
both_passed true b A B h = go b B h where
  go : (b : Bool) (B : LoginRefusal) → first_cause (unless b B ∷ []) ≡ None → (true ≡ true) × (b ≡ true)
  go true B h = (refl, refl)
  go false B h = cc
both_passed false b A B h = cc

pub three_passed : (a b c : Bool) (A B C : LoginRefusal) →
    first_cause (unless a A ∷ unless b B ∷ unless c C ∷ []) ≡ None →
    (a ≡ true) × (b ≡ true) × (c ≡ true)
three_passed true true true A B C h = (refl, refl, refl)
three_passed true true false A B C h = cc
three_passed true false c A B C h = cc
three_passed false b c A B C h = cc

-- the first of some, and the others
pub none_of_two : (one two : Option LoginRefusal) → first_cause (one ∷ two ∷ []) ≡ None → (one ≡ None) × (two ≡ None)
none_of_two None None h = (refl, refl)
none_of_two None (Some b) h = cc
none_of_two (Some a) two h = cc

-- the first test, and what is left of the others
pub first_passed : (a : Bool) (A : LoginRefusal) (others : List (Option LoginRefusal)) →
    first_cause (unless a A ∷ others) ≡ None →
    (a ≡ true) × (first_cause others ≡ None)
first_passed true A others h = (refl, h)
first_passed false A others h = cc

pub seven_passed : (a b c d e f g : Bool) (A B C D E F G : LoginRefusal)
    → first_cause (unless a A ∷ unless b B ∷ unless c C ∷ unless d D ∷ unless e E ∷ unless f F ∷ unless g G ∷ []) ≡ None
    → (a ≡ true) × (b ≡ true) × (c ≡ true) × (d ≡ true) × (e ≡ true) × (f ≡ true) × (g ≡ true)
seven_passed a b c d e f g A B C D E F G h =
    let one = first_passed a A (unless b B ∷ unless c C ∷ unless d D ∷ unless e E ∷ unless f F ∷ unless g G ∷ []) h in
    let two = first_passed b B (unless c C ∷ unless d D ∷ unless e E ∷ unless f F ∷ unless g G ∷ []) one.1 in
    let three = first_passed c C (unless d D ∷ unless e E ∷ unless f F ∷ unless g G ∷ []) two.1 in
    let four = first_passed d D (unless e E ∷ unless f F ∷ unless g G ∷ []) three.1 in
    let rest = three_passed e f g E F G four.1 in
    (one.0, two.0, three.0, four.0, rest.0, rest.1, rest.2)

pub cons_none : (one : Option LoginRefusal) (others : List (Option LoginRefusal)) → first_cause (one ∷ others) ≡ None →
    (one ≡ None) × (first_cause others ≡ None)
cons_none None others h = (refl, h)
cons_none (Some cause) others h = cc

-- a test, a cause, and five tests more
pub fields_passed : (a c d e f g : Bool) (A C D E F G : LoginRefusal) (one : Option LoginRefusal)
    → first_cause (unless a A ∷ one ∷ unless c C ∷ unless d D ∷ unless e E ∷ unless f F ∷ unless g G ∷ []) ≡ None
    → (a ≡ true) × (one ≡ None) × (c ≡ true) × (d ≡ true) × (e ≡ true) × (f ≡ true) × (g ≡ true)
fields_passed a c d e f g A C D E F G one h =
    let first = first_passed a A (one ∷ unless c C ∷ unless d D ∷ unless e E ∷ unless f F ∷ unless g G ∷ []) h in
    let second = cons_none one (unless c C ∷ unless d D ∷ unless e E ∷ unless f F ∷ unless g G ∷ []) first.1 in
    let third = first_passed c C (unless d D ∷ unless e E ∷ unless f F ∷ unless g G ∷ []) second.1 in
    let fourth = first_passed d D (unless e E ∷ unless f F ∷ unless g G ∷ []) third.1 in
    let rest = three_passed e f g E F G fourth.1 in
    (first.0, second.0, third.0, fourth.0, rest.0, rest.1, rest.2)

-- what a test says of another that is known
pub same-true : (test : Bool) → same test true ≡ true → test ≡ true
same-true true h = refl
same-true false h = h

pub same-false : (test : Bool) → same test false ≡ true → test ≡ false
same-false true h = cc
same-false false h = refl

pub not-true : (test : Bool) → not test ≡ true → test ≡ false
not-true true h = cc
not-true false h = refl
