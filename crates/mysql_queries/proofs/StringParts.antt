-- What was read of a literal in single quotes.
use Rattle.std.proofs.Common.{◌≡◌, ◌≢◌, ℕ, Bool, zero, suc, ◌+◌, ◌-◌, ◌≤◌, ◌<◌, length-drop, List, [], ◌∷◌, ◌++◌}
use Rattle.std.proofs.Common.{length, take, drop, get_or, refl, sym, ap, ◌∙◌, inl, inr, append_assoc, append-nil, arith}
use Rattle.std.proofs.Common.{subst, flat_map, take-append-drop}
use Rattle.std.specs.List.{AllByRecursion}
use Rattle.mysql_queries.specs.Tokens.{Byte, Inside, inside_bytes, IsInside, IsQuoted, Closes, single_quote}
use Rattle.mysql_queries.specs.Literals.{IsString, inside_content}
use Rattle.mysql_queries.specs.Scanning.{ClosesAt, IsPartAt, IsRun}
use Rattle.mysql_queries.proofs.Quotes.{one_inside}
use Rattle.mysql_queries.proofs.Cuts.{front_is, drop_one, drop_end}
use Rattle.mysql_queries.proofs.OneContent.{no_backslash}
use Rattle.mysql_queries.proofs.PlaceLists.{to_end}

pub record StringTo (escapes : Bool) (t : List ℕ) (i : ℕ) (items : List ℕ) : Type 0 where
  pub parts : List Inside
  pub inside : AllByRecursion (IsInside escapes single_quote) parts
  pub front : take i t ≡ single_quote ∷ flat_map (inside_bytes single_quote) parts
  pub read : items ≡ flat_map inside_content parts

pub string_first : (escapes : Bool) (t : List ℕ) → 0 < length t → get_or t 0 0 ≡ single_quote → StringTo escapes t 1 []
string_first escapes [] h e = absurd (omega arith)
string_first escapes (b ∷ x) h e = record { parts = []; inside = tt; front = ap (λ y. y ∷ []) e; read = refl }

all_join : (P : Inside → Type 0) (xs : List Inside) (x : Inside) → AllByRecursion P xs → P x →
    AllByRecursion P (xs ++ x ∷ [])
all_join P [] x h k = (k, tt)
all_join P (y ∷ xs) x h k = (h.0, all_join P xs x h.1 k)

flat_join : (f : Inside → List ℕ) (xs : List Inside) (x : Inside) → flat_map f (xs ++ x ∷ []) ≡ flat_map f xs ++ f x
flat_join f [] x = append-nil (f x)
flat_join f (y ∷ xs) x = ap (λ z. f y ++ z) (flat_join f xs x) ∙ sym (append_assoc (f y) (flat_map f xs) (f x))

-- the text, from what was read and what is left
whole : (escapes : Bool) (t : List ℕ) (i : ℕ) (items : List ℕ) (o : StringTo escapes t i items) →
    t ≡ (single_quote ∷ flat_map (inside_bytes single_quote) o.parts) ++ drop i t
whole escapes t i items o = sym (take-append-drop i t) ∙ ap (λ y. y ++ drop i t) o.front

pub string_more : (escapes : Bool) (t : List ℕ) (i : ℕ) (items : List ℕ) (u : Inside) →
    StringTo escapes t i items → IsPartAt escapes t i u →
    StringTo escapes t (i + length (inside_bytes single_quote u)) (items ++ inside_content u)
string_more escapes t i items u o h =
    let n : ℕ = i + length (inside_bytes single_quote u) in
    let body : List ℕ = flat_map (inside_bytes single_quote) o.parts in
    let joined : flat_map (inside_bytes single_quote) (o.parts ++ u ∷ []) ≡ body ++
    inside_bytes single_quote u = flat_join (inside_bytes single_quote) o.parts u in
    let text : t ≡ (single_quote ∷ flat_map (inside_bytes single_quote) (o.parts ++ u ∷ [])) ++
    drop (i + length (inside_bytes single_quote u)) t =
    whole escapes t i items o ∙ ap (λ y. (single_quote ∷ body) ++ y) h.1 ∙
    ap (λ y. single_quote ∷ y)
    (sym (append_assoc body (inside_bytes single_quote u)
    (drop (i + length (inside_bytes single_quote u)) t)))
    ∙ ap (λ y. (single_quote ∷ y) ++ drop (i + length (inside_bytes single_quote u)) t) (sym joined) in
    record {
      parts = o.parts ++ u ∷ [];
      inside = all_join (IsInside escapes single_quote) o.parts u o.inside h.0;
      front = front_is t (single_quote ∷ flat_map (inside_bytes single_quote) (o.parts ++ u ∷ []))
          (i + length (inside_bytes single_quote u)) text;
      read = ap (λ y. y ++ inside_content u) o.read ∙ sym (flat_join inside_content o.parts u);
    }

-- bytes that stand for themselves
pub string_further : (escapes : Bool) (t : List ℕ) (i : ℕ) (items : List ℕ) (n : ℕ) →
    StringTo escapes t i items → i + n ≤ length t → IsRun escapes (take n (drop i t)) →
    StringTo escapes t (i + n) (items ++ take n (drop i t))
string_further escapes t i items zero o l h = let e : i + zero ≡ i = omega arith in rw (e, append-nil items) o
string_further escapes t i items (suc n) o l h =
    let b : ℕ = get_or t i 0 in
    let d : drop i t ≡ b ∷ drop (i + 1) t = drop_one t i (omega (arith, l)) in
    let run : IsRun escapes (b ∷ take n (drop (i + 1) t)) = subst (λ y. IsRun escapes (take (suc n) y)) d h in
    let one : StringTo escapes t (i + 1) (items ++ b ∷ []) =
    string_more escapes t i items (Byte b) o (run.0, d, omega (arith, l)) in
    let all : StringTo escapes t (i + 1 + n) ((items ++ b ∷ []) ++ take n (drop (i + 1) t)) =
    string_further escapes t (i + 1) (items ++ b ∷ []) n one (omega (arith, l)) run.1 in
    let e : i + 1 + n ≡ i + suc n = omega arith in
    subst (λ k. StringTo escapes t k (items ++ take (suc n) (drop i t))) e
    (subst (λ y. StringTo escapes t (i + 1 + n) y)
    (append_assoc items (b ∷ []) (take n (drop (i + 1) t)) ∙
    ap (λ y. items ++ take (suc n) y) (sym d)) all)

-- the same of the run at the front of what is left
pub string_on : (escapes : Bool) (t : List ℕ) (at : ℕ) (items new : List ℕ) (n : ℕ) →
    StringTo escapes t at items → at ≤ length t → n ≤ length (take (length t - at) (drop at t)) →
    IsRun escapes (take n (take (length t - at) (drop at t)))
    → new ≡ items ++ take n (take (length t - at) (drop at t)) → (at + n ≤ length t) × StringTo escapes t (at + n) new
string_on escapes t at items new n o l m r e =
    let s : take (length t - at) (drop at t) ≡ drop at t = to_end t at in
    let some : n ≤ length (drop at t) = subst (λ y. n ≤ length y) s m in
    let fits : at + n ≤ length t = omega (arith, some, l, length-drop at t) in (
      fits,
      subst (StringTo escapes t (at + n)) (sym (e ∙ ap (λ y. items ++ take n y) s))
          (string_further escapes t at items n o fits (subst (λ y. IsRun escapes (take n y)) s r)),
    )

-- nothing closes the literal
abbrev pub IsNoString : Bool → List ℕ → Type 0
IsNoString escapes t = (run rest bytes : List ℕ) → t ≡ run ++ rest →
    IsQuoted escapes single_quote run rest → IsString escapes run bytes → ⊥

pub no_string : (escapes : Bool) (t : List ℕ) (i : ℕ) (items : List ℕ)
    (o : StringTo escapes t i items) (c : List ℕ) → drop i t ≡ c ++ [] →
    Closes escapes single_quote c [] → c ≢ single_quote ∷ [] → IsNoString escapes t
no_string escapes t i items o c d k n run rest bytes e q s =
    let mine : List ℕ = flat_map (inside_bytes single_quote) o.parts in
    let text : t ≡ single_quote ∷ (mine ++ (c ++ [])) = whole escapes t i items o ∙
    ap (λ y. (single_quote ∷ mine) ++ y) d in
    let quoted : t ≡ single_quote ∷ (flat_map (inside_bytes single_quote) q.parts ++ (q.closing ++ rest)) =
    e ∙ ap (λ y. y ++ rest) q.spelled ∙
    ap (λ y. single_quote ∷ y)
    (append_assoc (flat_map (inside_bytes single_quote) q.parts) q.closing rest) in
    let string : t ≡ single_quote ∷ (flat_map (inside_bytes single_quote) s.parts ++ (single_quote ∷ rest)) =
    e ∙ ap (λ y. y ++ rest) s.spelled ∙
    ap (λ y. single_quote ∷ y)
    (append_assoc (flat_map (inside_bytes single_quote) s.parts) (single_quote ∷ []) rest) in
    let same : mine ++ (c ++ []) ≡ flat_map (inside_bytes single_quote) q.parts ++
    (q.closing ++ rest) = tail (sym text ∙ quoted) in
    let a : (o.parts ≡ q.parts) × (c ≡ q.closing) × ([] ≡ rest) =
    one_inside escapes single_quote no_backslash o.parts q.parts o.inside q.inside c []
    q.closing rest k q.closes same in
    let same2 : mine ++ (c ++ []) ≡ flat_map (inside_bytes single_quote) s.parts ++ ((single_quote ∷ []) ++ []) =
    tail (sym text ∙ string) ∙ ap (λ y. flat_map (inside_bytes single_quote) s.parts ++ (single_quote ∷ y)) (sym a.2) in
    n (one_inside escapes single_quote no_backslash o.parts s.parts o.inside s.inside c []
    (single_quote ∷ []) [] k (inl (refl, tt)) same2).1
  where
    tail : {x y : List ℕ} → single_quote ∷ x ≡ single_quote ∷ y → x ≡ y
    tail h = cc

pub string_open : (escapes : Bool) (t : List ℕ) (i : ℕ) (items : List ℕ) →
    StringTo escapes t i items → length t ≤ i → IsNoString escapes t
string_open escapes t i items o l = no_string escapes t i items o [] (drop_end t i l) (inr (refl, inl refl)) (λ e. cc)

pub string_cut : (escapes : Bool) (t : List ℕ) (i : ℕ) (items : List ℕ) →
    StringTo escapes t i items → i < length t → get_or t i 0 ≢ single_quote →
    ClosesAt escapes single_quote t i → IsNoString escapes t
string_cut escapes t i items o l n (inl k) = absurd (n (let e : get_or t i 0 ∷ [] ≡ single_quote ∷ [] = k.0 in cc))
string_cut escapes t i items o l n (inr k) =
    no_string escapes t i items o (get_or t i 0 ∷ []) (drop_one t i l ∙
    ap (λ y. get_or t i 0 ∷ y) k.0) (inr (refl, k.1)) (λ e. n (cc))
