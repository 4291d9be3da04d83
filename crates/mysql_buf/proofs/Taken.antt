-- What is read of a stream in steps stands there as one.
use Rattle.std.proofs.Common.{◌≡◌, ℕ, ◌≤◌, IfOk, List, [], ◌∷◌, length, take, drop, get_or, Option, Some, None, Result}
use Rattle.std.proofs.Common.{Ok, Err, Vec, refl, sym, ap, arith, length-append}
use Rattle.std.proofs.lemmas.List.{take_at, drop_at}
use Rattle.std.specs.declared.alloc.Global.{Global}
use Rattle.std.specs.Io.KnownBytes.{Consumes}
use Rattle.byteorder.specs.Endian.{ReadsNumber, little_number}
use Rattle.mysql_buf.specs.FirstBytes.{first-enough}
use Rattle.mysql_buf.specs.Reading.{little_at}
use Rattle.mysql_buf.specs.Streams.{Takes, begun_lenenc_int_at, begun_lenenc_str_at}

-- a first byte that says how many bytes follow, and these
pub takes_marked : (b n : ℕ) → ((bs : List ℕ) → begun_lenenc_int_at (b ∷ bs) ≡ little_at n bs) →
    (old mid new : Option (List ℕ)) (x : ℕ)
    → Consumes old mid (b ∷ []) → ReadsNumber little_number n mid new x → Takes begun_lenenc_int_at old new x
takes_marked b n marks None mid new x h k = tt
takes_marked b n marks (Some xs) None new x h k = absurd h
takes_marked b n marks (Some xs) (Some ys) None x h k = absurd k
takes_marked b n marks (Some []) (Some ys) (Some zs) x h k = absurd (cc)
takes_marked b n marks (Some (y ∷ xs)) (Some ys) (Some zs) x h k =
    let same : y ≡ b = ap (λ l. get_or l 0 0) h in
    let rest : ys ≡ xs = sym (ap (drop 1) h) in
    let enough : n ≤ length xs = rw (← rest) (k.0) in
    let number : little_number n xs ≡ x = rw (← rest) (sym (k.1)) in
    let left : drop n xs ≡ zs = rw (← rest) (sym (k.2)) in
    rw (same, marks xs, first-enough n (little_number n) xs enough, number, left) refl

-- the same for a read that may be refused
pub takes_marked_if_ok : {E : Type 0} (b n : ℕ) →
    ((bs : List ℕ) → begun_lenenc_int_at (b ∷ bs) ≡ little_at n bs) →
    (old mid new : Option (List ℕ)) (r : Result ℕ E)
    → Consumes old mid (b ∷ []) → IfOk r (ReadsNumber little_number n mid new) →
    IfOk r (Takes begun_lenenc_int_at old new)
takes_marked_if_ok b n marks old mid new (Ok x) h k = takes_marked b n marks old mid new x h k
takes_marked_if_ok b n marks old mid new (Err e) h k = tt

-- a number, and then so many bytes
pub takes_counted : (old mid new : Option (List ℕ)) (n : ℕ) (text : List ℕ) → length text ≡ n
    → Takes begun_lenenc_int_at old mid n → Consumes mid new text → Takes begun_lenenc_str_at old new text
takes_counted None mid new n text len h k = tt
takes_counted (Some xs) None new n text len h k = absurd h
takes_counted (Some xs) (Some ys) None n text len h k = absurd k
takes_counted (Some xs) (Some ys) (Some zs) n text len h k =
    let enough : n ≤ length ys = omega (arith, ap length k, length-append text zs) in
    let taken : take n ys ≡ text = rw k (take_at text zs n len) in
    let left : drop n ys ≡ zs = rw k (drop_at text zs n len) in
    rw (h, first-enough n (take n) ys enough, taken, left) refl

-- the same for a read that may be refused
pub takes_counted_if_ok : {E : Type 0} (old mid new : Option (List ℕ)) (n : ℕ) (r : Result (Vec ℕ Global) E)
    → Takes begun_lenenc_int_at old mid n → IfOk r (λ text. length text.items ≡ n) →
    IfOk r (λ text. Consumes mid new text.items)
    → IfOk r (λ text. Takes begun_lenenc_str_at old new text.items)
takes_counted_if_ok old mid new n (Ok x) h len k = takes_counted old mid new n x.items len h k
takes_counted_if_ok old mid new n (Err e) h len k = tt
