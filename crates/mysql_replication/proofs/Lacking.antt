-- Characters that a list lacks, and where it is cut then.
use Rattle.std.proofs.Common.{◌≡◌, ℕ, ◌+◌, Bool, true, false, List, [], ◌∷◌, ◌++◌, length, length-append, drop, get_or}
use Rattle.std.proofs.Common.{Some, None, refl, arith, All, ◌==◌, nat_lt, append_assoc}
use Rattle.std.specs.List.{list_all, position_or_len}
use Rattle.std.proofs.Math.Seq.{get_or-append_seam}
use Rattle.std.proofs.lemmas.Bool.Decides.{nat_tests}
use Rattle.std.proofs.lemmas.List.{drop_at, get_or_append_left, take_at}
use Rattle.std.proofs.lemmas.List.Sums.{AllPass-from_list_all, position_or_len_is}
use Rattle.mysql_replication.specs.Intervals.{around_hyphen, is_hyphen}

-- No element is this one.
abbrev pub Lacks : ℕ → List ℕ → Type 0
Lacks c xs = All (λ x. (x == c) ≡ false) xs

pub lacks_from : (q : ℕ → Bool) (c : ℕ) → ((x : ℕ) → q x ≡ true → (x == c) ≡ false) →
    (xs : List ℕ) → list_all q xs ≡ true → Lacks c xs
lacks_from q c h xs all k d within = h (get_or xs k d) (AllPass-from_list_all q xs all k d within)

hyphen_missing : (xs : List ℕ) → Lacks 45 xs → position_or_len is_hyphen xs ≡ length xs
hyphen_missing xs lacks =
    position_or_len_is is_hyphen xs (length xs) 0 (omega arith) (λ k h. lacks k 0 h)
    (λ h. absurd (omega arith))

pub around_no_hyphen : (xs : List ℕ) → Lacks 45 xs → around_hyphen xs ≡ None
unfolding around_hyphen
around_no_hyphen xs lacks = let e = hyphen_missing xs lacks in grind (arith, nat_tests)

hyphen_between : (xs ys : List ℕ) → Lacks 45 xs → position_or_len is_hyphen (xs ++ 45 ∷ ys) ≡ length xs
hyphen_between xs ys lacks =
    let long : length (xs ++ 45 ∷ ys) ≡ length xs + length (45 ∷ ys) = length-append xs (45 ∷ ys) in
    position_or_len_is is_hyphen (xs ++ 45 ∷ ys) (length xs) 0 (omega (arith, long))
    (λ k h. rw (get_or_append_left xs (45 ∷ ys) 0 k h) (lacks k 0 h)) (λ h. rw (get_or-append_seam xs 45 ys 0) refl)

past_one : (xs ys : List ℕ) (y : ℕ) → drop (length xs + 1) (xs ++ y ∷ ys) ≡ ys
past_one xs ys y =
    let one : length (xs ++ y ∷ []) ≡ length xs + 1 = length-append xs (y ∷ []) in
    let e : (xs ++ y ∷ []) ++ ys ≡ xs ++ y ∷ ys = append_assoc xs (y ∷ []) ys in
    rw (← e) (drop_at (xs ++ y ∷ []) ys (length xs + 1) one)

pub around_one_hyphen : (xs ys : List ℕ) → Lacks 45 xs → around_hyphen (xs ++ 45 ∷ ys) ≡ Some (xs, ys)
unfolding around_hyphen
around_one_hyphen xs ys lacks =
    let at = hyphen_between xs ys lacks in
    let long : length (xs ++ 45 ∷ ys) ≡ length xs + length (45 ∷ ys) = length-append xs (45 ∷ ys) in
    let within : nat_lt (length xs) (length (xs ++ 45 ∷ ys)) ≡ true = grind (arith, nat_tests) in
    rw (at, within, take_at xs (45 ∷ ys) (length xs) refl, past_one xs ys 45) refl
