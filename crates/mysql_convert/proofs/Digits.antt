-- Rows of digits, one byte after the other.
use Rattle.std.proofs.Common.{◌≡◌, ℕ, ◌+◌, ◌-◌, ◌*◌, ◌≤◌, ◌<◌, true, false, List, [], ◌∷◌, length, drop, get_or, refl}
use Rattle.std.proofs.Common.{sym, ap, ◌∙◌, arith, le_trans, Bool, Option, Some, None, IfSome, ◌^◌, drop-cons, add-one}
use Rattle.std.proofs.Common.{if◌then◌else◌}
use Rattle.std.proofs.Math.Nat.{pow-le-pow_right}
use Rattle.std.proofs.lemmas.List.{drop_all}
use Rattle.mysql_queries.specs.Literals.{is_digit}
use Rattle.mysql_convert.specs.Numbers.{digits_number}
use Rattle.mysql_convert.specs.IntegerLaws.{digits_after, digits_number-after}

by_digit : (t : Bool) (n m x : ℕ) (xs : List ℕ) → n ≤ x → (digits_after x xs ≡ Some m → x ≤ m) →
    (if t then digits_after x xs else None) ≡ Some m → n ≤ m
by_digit true n m x xs l g h = le_trans l (g h)
by_digit false n m x xs l g h = absurd (cc)

pub grows : (n m : ℕ) (xs : List ℕ) → digits_after n xs ≡ Some m → n ≤ m
grows n m [] e = let f : n ≡ m = cc in omega (arith, f)
grows n m (b ∷ xs) e = by_digit (is_digit b) n m (n * 10 + (b - 0x30)) xs (omega arith)
    (grows (n * 10 + (b - 0x30)) m xs) e

pub begun : (xs : List ℕ) → 0 < length xs → digits_number xs ≡ digits_after 0 xs
begun [] h = absurd (omega arith)
begun (b ∷ xs) h = digits_number-after b xs

pub one_more : (n : ℕ) (xs : List ℕ) (i : ℕ) → i < length xs → is_digit (get_or xs i 0) ≡ true →
    digits_after n (drop i xs) ≡ digits_after (n * 10 + (get_or xs i 0 - 0x30)) (drop (i + 1) xs)
one_more n xs i h d = rw (add-one, drop-cons xs i 0, d) refl

all_grow : (n k : ℕ) (xs : List ℕ) → k ≤ n → (o : Option ℕ) → digits_after n xs ≡ o → IfSome o (λ m. k ≤ m)
all_grow n k xs h None e = tt
all_grow n k xs h (Some m) e = le_trans h (grows n m xs e)

-- where the number of the first digits is large, the number of all of them is
pub large : (n k : ℕ) (xs : List ℕ) (i : ℕ) → i < length xs → is_digit (get_or xs i 0) ≡ true →
    digits_after n (drop i xs) ≡ digits_after 0 xs → k ≤ n * 10 + (get_or xs i 0 - 0x30) →
    IfSome (digits_number xs) (λ m. k ≤ m)
large n k xs i h d e l =
    all_grow (n * 10 + (get_or xs i 0 - 0x30)) k (drop (i + 1) xs) l (digits_number xs)
    (sym (one_more n xs i h d) ∙ e ∙ sym (begun xs (omega (arith, h))))

-- all bytes are read
pub ended : (n : ℕ) (xs : List ℕ) (i : ℕ) → length xs ≤ i → 0 < length xs →
    digits_after n (drop i xs) ≡ digits_after 0 xs → digits_number xs ≡ Some n
ended n xs i l h e = begun xs h ∙ sym e ∙ ap (digits_after n) (drop_all i xs l)

-- a number of at most eighteen digits
pub eighteen : (n i : ℕ) → n < 10 ^ i → i ≤ 18 → n < 10 ^ 18
eighteen n i l h = omega (arith, l, pow-le-pow_right {n = 10} (omega arith) h)
