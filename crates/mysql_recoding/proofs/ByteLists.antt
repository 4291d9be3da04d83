-- Lists of bytes: their parts, and what is put together from them.
use Rattle.std.proofs.Common.{ℕ, zero, suc, ◌+◌, ◌<◌, Bool, true, false, List, [], ◌∷◌, ◌++◌, take, drop, replicate}
use Rattle.std.proofs.Common.{if◌then◌else◌, arith}
use Rattle.std.specs.List.{AllByRecursion, flat_map}
use Rattle.std.specs.Str.{IsAscii}
use Rattle.std.proofs.lemmas.List.{get_or-drop}
use Rattle.mysql_wire.specs.Bytes.{AreBytes}

pub no_bytes : AreBytes []
no_bytes i = omega arith

pub bytes_cons : (b : ℕ) (xs : List ℕ) → b < 256 → AreBytes xs → AreBytes (b ∷ xs)
bytes_cons b xs h t zero = h
bytes_cons b xs h t (suc i) = t i

pub one_byte : (b : ℕ) → b < 256 → AreBytes (b ∷ [])
one_byte b h = bytes_cons b [] h no_bytes

-- what stands behind the first byte
pub bytes_tail : (b : ℕ) (xs : List ℕ) → AreBytes (b ∷ xs) → AreBytes xs
bytes_tail b xs h i = h (suc i)

pub bytes_append : (xs ys : List ℕ) → AreBytes xs → AreBytes ys → AreBytes (xs ++ ys)
bytes_append [] ys h k = k
bytes_append (x ∷ xs) ys h k = bytes_cons x (xs ++ ys) (h 0) (bytes_append xs ys (bytes_tail x xs h) k)

pub bytes_front : (xs ys : List ℕ) → AreBytes (xs ++ ys) → AreBytes xs
bytes_front [] ys h = no_bytes
bytes_front (x ∷ xs) ys h = bytes_cons x xs (h 0) (bytes_front xs ys (bytes_tail x (xs ++ ys) h))

pub bytes_behind : (xs ys : List ℕ) → AreBytes (xs ++ ys) → AreBytes ys
bytes_behind [] ys h = h
bytes_behind (x ∷ xs) ys h = bytes_behind xs ys (bytes_tail x (xs ++ ys) h)

pub bytes_drop : (n : ℕ) (xs : List ℕ) → AreBytes xs → AreBytes (drop n xs)
bytes_drop n xs h i = omega (arith, h (n + i), get_or-drop n xs i 0)

pub bytes_take : (n : ℕ) (xs : List ℕ) → AreBytes xs → AreBytes (take n xs)
bytes_take zero xs h = no_bytes
bytes_take (suc n) [] h = no_bytes
bytes_take (suc n) (x ∷ xs) h = bytes_cons x (take n xs) (h 0) (bytes_take n xs (bytes_tail x xs h))

pub bytes_replicate : (n b : ℕ) → b < 256 → AreBytes (replicate n b)
bytes_replicate zero b h = no_bytes
bytes_replicate (suc n) b h = bytes_cons b (replicate n b) h (bytes_replicate n b h)

-- the parts of bytes are bytes
pub parts_are_bytes : {X : Type 0} (f : X → List ℕ) (xs : List X) → AreBytes (flat_map f xs) →
    AllByRecursion (λ x. AreBytes (f x)) xs
parts_are_bytes f [] h = tt
parts_are_bytes f (x ∷ xs) h = (
  bytes_front (f x) (flat_map f xs) h,
  parts_are_bytes f xs (bytes_behind (f x) (flat_map f xs) h),
)

-- a choice of bytes
pub bytes_if : (t : Bool) (xs ys : List ℕ) → AreBytes xs → AreBytes ys → AreBytes (if t then xs else ys)
bytes_if true xs ys h k = h
bytes_if false xs ys h k = k

pub ascii_bytes : (xs : List ℕ) → IsAscii xs → AreBytes xs
ascii_bytes xs h i = omega (arith, h i)
