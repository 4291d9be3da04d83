-- Parts of a text by places.
use Rattle.std.proofs.Common.{append-nil, length-drop, ◌≡◌, ◌≢◌, ℕ, ◌+◌, ◌≤◌, ◌<◌, Bool, true, List, [], ◌∷◌, ◌++◌}
use Rattle.std.proofs.Common.{length, take, drop, get_or, refl, sym, ap, ◌∙◌, arith, add-one, drop-cons}
use Rattle.std.proofs.Common.{take-append-drop, append_assoc, subst, drop_of_length-le, flat_map, inl, inr, slice_range}
use Rattle.std.proofs.Common.{◌-◌, drop-drop}
use Rattle.std.specs.List.{AllByRecursion}
use Rattle.std.proofs.lemmas.List.{append_cancel_right}
use Rattle.mysql_queries.specs.Tokens.{Inside, Byte, Escape, inside_bytes, IsInside, IsQuoted, Closes, backslash}
use Rattle.mysql_queries.specs.Tokens.{is_name_byte, colon, star, slash, IsBlockComment}
use Rattle.mysql_queries.specs.Scanning.{PartAt, ClosesAt}
use Rattle.mysql_queries.specs.Tokens.{EndsBlock, HasNoEnd}
use Rattle.mysql_queries.proofs.SomeToken.{one_more}

pub drop_one : (t : List ℕ) (i : ℕ) → i < length t → drop i t ≡ get_or t i 0 ∷ drop (i + 1) t
drop_one t i h = rw (add-one, drop-cons t i 0) refl

pub drop_two : (t : List ℕ) (i : ℕ) → i + 1 < length t → drop i t ≡ get_or t i 0 ∷ get_or t (i + 1) 0 ∷ drop (i + 2) t
drop_two t i h =
    let a : i < length t = omega arith in
    let e : i + 1 + 1 ≡ i + 2 = omega arith in
    drop_one t i a ∙ ap (λ y. get_or t i 0 ∷ y) (drop_one t (i + 1) h) ∙
    ap (λ n. get_or t i 0 ∷ get_or t (i + 1) 0 ∷ drop n t) e

-- what is before a rest, by its place
pub front_is : (t front : List ℕ) (n : ℕ) → t ≡ front ++ drop n t → take n t ≡ front
front_is t front n e = append_cancel_right (take n t) front (drop n t) (take-append-drop n t ∙ e)

-- what is left from a place on, cut at a later one
pub cut_at : (t : List ℕ) (from end : ℕ) → from ≤ end → drop from t ≡ slice_range t from end ++ drop end t
cut_at t from end h =
    let e : from + (end - from) ≡ end = omega arith in
    sym (take-append-drop (end - from) (drop from t)) ∙
    ap (λ y. take (end - from) (drop from t) ++ y) (drop-drop (end - from) from t ∙
    ap (λ n. drop n t) e)

pub drop_end : (t : List ℕ) (n : ℕ) → length t ≤ n → drop n t ≡ []
drop_end t n h = drop_of_length-le t h

pub escape_at : (escapes : Bool) (q : ℕ) (t : List ℕ) (i : ℕ) → get_or t i 0 ≡ backslash → escapes ≡
    true → i + 1 < length t → PartAt escapes q t i 2
escape_at escapes q t i e n h = (
  Escape (get_or t (i + 1) 0),
  n,
  refl,
  drop_two t i h ∙
      ap (λ b. b ∷ get_or t (i + 1) 0 ∷ drop (i + 2) t) e,
  omega arith,
)

pub byte_at : (escapes : Bool) (q : ℕ) (t : List ℕ) (i : ℕ) → get_or t i 0 ≢ q →
    (escapes ≡ true → get_or t i 0 ≢ backslash) → i < length t → PartAt escapes q t i 1
byte_at escapes q t i n m h = (Byte (get_or t i 0), (n, m), refl, drop_one t i h, omega arith)

-- parts and what closes them, up to a rest
pub record InsideTo (escapes : Bool) (q : ℕ) (text rest : List ℕ) : Type 0 where
  pub parts : List Inside
  pub closing : List ℕ
  pub inside : AllByRecursion (IsInside escapes q) parts
  pub joined : text ≡ flat_map (inside_bytes q) parts ++ (closing ++ rest)
  pub closes : Closes escapes q closing rest

one_part_more : (escapes : Bool) (q : ℕ) (u : Inside) (x y rest : List ℕ) → IsInside escapes q u →
    y ≡ inside_bytes q u ++ x → InsideTo escapes q x rest → InsideTo escapes q y rest
one_part_more escapes q u x y rest i e o = record {
  parts = u ∷ o.parts;
  closing = o.closing;
  inside = (i, o.inside);
  joined = e ∙ ap (λ z. inside_bytes q u ++ z) o.joined ∙
      sym (append_assoc (inside_bytes q u) (flat_map (inside_bytes q) o.parts) (o.closing ++ rest));
  closes = o.closes;
}

-- what goes on at a place so far goes on from the start
abbrev pub GoesOn : (escapes : Bool) → ℕ → List ℕ → ℕ → Type 0
GoesOn escapes q t at = (rest : List ℕ) → InsideTo escapes q (drop at t) rest → InsideTo escapes q (drop 1 t) rest

pub goes_on_more : (escapes : Bool) (q : ℕ) (t : List ℕ) (at n : ℕ) → GoesOn escapes q t at →
    PartAt escapes q t at n → GoesOn escapes q t (at + n)
goes_on_more escapes q t at n g h rest o =
    g rest (one_part_more escapes q h.0 (drop (at + n) t) (drop at t) rest h.1 h.3 o)

-- a quoted token, from its parts
quoted_from : (escapes : Bool) (q : ℕ) (t : List ℕ) (n : ℕ) → 0 < length t → get_or t 0 0 ≡ q →
    InsideTo escapes q (drop 1 t) (drop n t) → IsQuoted escapes q (take n t) (drop n t)
quoted_from escapes q [] n h e o = absurd (omega arith)
quoted_from escapes q (b ∷ x) n h e o =
    let body : List ℕ = flat_map (inside_bytes q) o.parts in
    let j : b ∷ x ≡ (q ∷ (body ++ o.closing)) ++ drop n (b ∷ x) = ap (λ y. y ∷ x) e ∙
    ap (λ y. q ∷ y) (o.joined ∙ sym (append_assoc body o.closing (drop n (b ∷ x)))) in
    record {
      parts = o.parts;
      closing = o.closing;
      inside = o.inside;
      spelled =
          front_is (b ∷ x) (q ∷ (body ++ o.closing)) n j;
      closes = o.closes;
    }

pub quoted_closed : (escapes : Bool) (q : ℕ) (t : List ℕ) (i : ℕ) → 0 < length t → get_or t 0 0 ≡
    q → i < length t → GoesOn escapes q t i → ClosesAt escapes q t i →
    IsQuoted escapes q (take (i + 1) t) (drop (i + 1) t)
quoted_closed escapes q t i h e l g k =
    quoted_from escapes q t (i + 1) h e
    (g (drop (i + 1) t) (record {
      parts = [];
      closing = get_or t i 0 ∷ [];
      inside = tt;
      joined =
          drop_one t i l;
      closes = k;
    }))

pub quoted_open : (escapes : Bool) (q : ℕ) (t : List ℕ) (i : ℕ) → 0 < length t → get_or t 0 0 ≡ q →
    length t ≤ i → GoesOn escapes q t i → IsQuoted escapes q (take i t) (drop i t)
quoted_open escapes q t i h e l g =
    quoted_from escapes q t i h e
    (g (drop i t) (record {
      parts = [];
      closing = [];
      inside = tt;
      joined = refl;
      closes =
          inr (drop_end t i l, inl refl);
    }))

pub all_more : (P : ℕ → Type 0) (xs : List ℕ) (x : ℕ) → AllByRecursion P xs → P x → AllByRecursion P (xs ++ x ∷ [])
all_more P [] x h k = (k, tt)
all_more P (y ∷ xs) x h k = (h.0, all_more P xs x h.1 k)

-- a colon and bytes of a name come before a place
pub record NameTo (t : List ℕ) (i : ℕ) : Type 0 where
  pub name : List ℕ
  pub front : take i t ≡ colon ∷ name
  pub bytes : AllByRecursion (λ b. is_name_byte b ≡ true) name

-- what stands inside a comment and what ends it, up to a rest
pub record BlockTo (text rest : List ℕ) : Type 0 where
  pub inside : List ℕ
  pub closing : List ℕ
  pub joined : text ≡ inside ++ (closing ++ rest)
  pub ends : EndsBlock inside closing rest

abbrev pub BlockGoesOn : List ℕ → ℕ → Type 0
BlockGoesOn t at = (rest : List ℕ) → BlockTo (drop at t) rest → BlockTo (drop 2 t) rest

one_byte_more : (b c : ℕ) (x rest : List ℕ) → (b ≡ star → c ≢ slash) → BlockTo (c ∷ x) rest → BlockTo (b ∷ c ∷ x) rest
one_byte_more b c x rest n o =
    record {
      inside = b ∷ o.inside;
      closing = o.closing;
      joined = ap (λ y. b ∷ y) o.joined;
      ends =
          one_more b c x o.inside o.closing rest o.joined n o.ends;
    }

next_two : (t : List ℕ) (i : ℕ) → i + 1 < length t → drop (i + 1) t ≡ get_or t (i + 1) 0 ∷ drop (i + 2) t
next_two t i h = let e : i + 1 + 1 ≡ i + 2 = omega arith in drop_one t (i + 1) h ∙
    ap (λ n. get_or t (i + 1) 0 ∷ drop n t) e

pub block_more : (t : List ℕ) (i : ℕ) → i + 1 < length t → BlockGoesOn t i →
    (get_or t i 0 ≡ star → get_or t (i + 1) 0 ≢ slash) → BlockGoesOn t (i + 1)
block_more t i h g n rest o =
    let k : BlockTo (get_or t (i + 1) 0 ∷ drop (i + 2) t) rest = subst (λ y. BlockTo y rest) (next_two t i h) o in
    g rest (subst (λ y. BlockTo y rest) (sym (drop_two t i h))
    (one_byte_more (get_or t i 0) (get_or t (i + 1) 0) (drop (i + 2) t) rest n k))

block_from : (t : List ℕ) (n : ℕ) → 2 ≤ length t → get_or t 0 0 ≡ slash → get_or t 1 0 ≡ star →
    BlockTo (drop 2 t) (drop n t) → IsBlockComment (take n t) (drop n t)
block_from [] n h e f o = absurd (omega arith)
block_from (b ∷ []) n h e f o = absurd (omega arith)
block_from (b ∷ c ∷ x) n h e f o =
    let j : b ∷ c ∷ x ≡ (slash ∷ star ∷ (o.inside ++ o.closing)) ++ drop n (b ∷ c ∷ x) =
    ap (λ y. y ∷ c ∷ x) e ∙ ap (λ y. slash ∷ y ∷ x) f ∙
    ap (λ y. slash ∷ star ∷ y) (o.joined ∙
    sym (append_assoc o.inside o.closing (drop n (b ∷ c ∷ x)))) in
    record {
      inside = o.inside;
      closing = o.closing;
      spelled =
          front_is (b ∷ c ∷ x) (slash ∷ star ∷ (o.inside ++ o.closing)) n j;
      ends = o.ends;
    }

pub block_closed : (t : List ℕ) (i : ℕ) → 2 ≤ length t → get_or t 0 0 ≡ slash → get_or t 1 0 ≡
    star → i + 1 < length t → BlockGoesOn t i → get_or t i 0 ≡ star → get_or t (i + 1) 0 ≡ slash →
    IsBlockComment (take (i + 2) t) (drop (i + 2) t)
block_closed t i h e f l g b c = block_from t (i + 2) h e f (g (drop (i + 2) t) (record {
  inside = [];
  closing = star ∷ slash ∷ [];
  joined = drop_two t i l ∙ ap (λ y. y ∷ get_or t (i + 1) 0 ∷ drop (i + 2) t) b ∙ ap (λ y. star ∷ y ∷ drop (i + 2) t) c;
  ends = inl (refl, tt);
}))

short_no_end : (x : List ℕ) → length x ≤ 1 → HasNoEnd x
short_no_end [] h = tt
short_no_end (b ∷ []) h = tt
short_no_end (b ∷ c ∷ x) h = absurd (omega arith)

pub block_open : (t : List ℕ) (i : ℕ) → 2 ≤ length t → get_or t 0 0 ≡ slash → get_or t 1 0 ≡ star →
    length t ≤ i + 1 → BlockGoesOn t i → IsBlockComment (take (length t) t) (drop (length t) t)
block_open t i h e f l g =
    let d : drop (length t) t ≡ [] = drop_end t (length t) (omega arith) in
    block_from t (length t) h e f (g (drop (length t) t) (record {
      inside = drop i t;
      closing = [];
      joined = sym (append-nil (drop i t)) ∙ ap (λ y. drop i t ++ y) (sym d);
      ends = inr (refl, short_no_end (drop i t) (omega (arith, length-drop i t)), d);
    }))
