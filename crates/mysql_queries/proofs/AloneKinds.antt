-- The kind of a token by itself, and bytes that are tokens by themselves.
use Rattle.std.specs.List.{prefix_len}
use Rattle.std.proofs.Common.{◌⊎◌, drop, append-nil, arith}
use Rattle.std.proofs.Common.{◌≡◌, ℕ, Bool, true, false, cond, not, ◌&&◌, ◌||◌, ◌==◌, List, [], ◌∷◌, ◌++◌, refl, sym}
use Rattle.std.proofs.Common.{ap, ◌∙◌, inl, inr, subst}
use Rattle.mysql_queries.specs.Tokens.{Kind, Quoted, LineComment, BlockComment, Opening, Closing, Name, Mark, Plain}
use Rattle.mysql_queries.specs.Tokens.{kind_of, HasShape, IsToken, IsBlockComment, EndsBlock, AtLineEnd, is_quote}
use Rattle.mysql_queries.specs.Tokens.{is_digit, is_simple, is_simple_byte, begins_end, exclamation, comment_start}
use Rattle.mysql_queries.specs.Tokens.{comment_end, hash, dash, slash, star, colon, question, goes_on_as_dashes}
use Rattle.mysql_queries.specs.Tokens.{goes_on_as_block, goes_on_as_opening, goes_on_as_closing, goes_on_as_name}
use Rattle.mysql_queries.specs.Scanning.{is_plain}
use Rattle.mysql_queries.specs.Queries.{is_name_kind, is_name, is_place}
use Rattle.mysql_queries.specs.PlaceKinds.{is_place_kind}
use Rattle.mysql_bytes.specs.declared.mode.Mode.{Mode}
use Rattle.mysql_queries.proofs.FirstBytes.{and_true, bool_tells, kind_tells, same_number, Tells}
use Rattle.mysql_queries.proofs.OneToken.{not_empty}
use Rattle.mysql_queries.proofs.Prefixes.{behind_more, behind_stop}
use Rattle.mysql_queries.proofs.Filled.{place_begins, name_is_place}

plain_choice : (b : ℕ) (q h d s a c m k l o e n : Bool) → not (q || h || d || s || a || c || m) ≡ true
    → cond q (Quoted b) (cond (h || (d && k)) LineComment
    (cond (s && l) BlockComment
    (cond (s && o) Opening (cond (a && e) Closing (cond (c && n) Name (cond m Mark Plain)))))) ≡
    Plain
plain_choice b true h d s a c m k l o e n r = cc
plain_choice b false true d s a c m k l o e n r = cc
plain_choice b false false true s a c m k l o e n r = cc
plain_choice b false false false true a c m k l o e n r = cc
plain_choice b false false false false true c m k l o e n r = cc
plain_choice b false false false false false true m k l o e n r = cc
plain_choice b false false false false false false true k l o e n r = cc
plain_choice b false false false false false false false k l o e n r = refl

pub plain_kind : (b : ℕ) (x : List ℕ) → is_plain b ≡ true → kind_of (b ∷ x) ≡ Plain
plain_kind b x e = plain_choice b (is_quote b) (b == hash) (b == dash) (b == slash) (b == star)
    (b == colon) (b == question) (goes_on_as_dashes x) (goes_on_as_block x) (goes_on_as_opening x)
    (goes_on_as_closing x) (goes_on_as_name x) e

-- a plain byte is a token before any rest
pub plain_token : (m : Mode) (b : ℕ) (x : List ℕ) → is_plain b ≡ true → IsToken m (b ∷ []) x
plain_token m b x e = subst (λ k. HasShape m k (b ∷ []) x) (sym (plain_kind b x e)) (b, refl)

-- and no placeholder
pub plain_no_place : (b : ℕ) → is_plain b ≡ true → is_place (b ∷ []) ≡ false
plain_no_place b e = ap is_place_kind (plain_kind b [] e)

colon_stays : (x r : List ℕ) → is_place (colon ∷ x) ≡ true → kind_of (colon ∷ (x ++ r)) ≡ kind_of (colon ∷ x)
colon_stays [] r h = cc
colon_stays (c ∷ x) r h = refl

-- what is a placeholder by itself is of the same kind before a rest
place_stays : (t r : List ℕ) → is_place t ≡ true → kind_of (t ++ r) ≡ kind_of t
place_stays [] r h = cc
place_stays (b ∷ x) r h = elim (place_begins b x h) [
  | inl e ↦ (let p : is_place (colon ∷ x) ≡ true = subst (λ c. is_place (c ∷ x) ≡ true) e h in
      ap (λ c. kind_of (c ∷ (x ++ r))) e ∙ colon_stays x r p ∙ sym (ap (λ c. kind_of (c ∷ x)) e))
  | inr e ↦ (ap (λ c. kind_of (c ∷ (x ++ r))) e ∙ sym (ap (λ c. kind_of (c ∷ x)) e))
]

-- THE KIND OF A TOKEN BY ITSELF IS ITS KIND WHERE IT STANDS

quoted_stays : (b : ℕ) (x : List ℕ) → is_quote b ≡ true → kind_of (b ∷ x) ≡ Quoted b
quoted_stays b x h = rw h refl

dashes_stay : (x r : List ℕ) → goes_on_as_dashes (x ++ r) ≡ true → AtLineEnd r → goes_on_as_dashes x ≡ true
dashes_stay [] [] h e = cc
dashes_stay [] (c ∷ []) h e = let f : c ≡ dash = same_number c dash h in absurd (omega (arith, e, f))
dashes_stay [] (c ∷ d ∷ r) h e = let f : c ≡ dash =
    same_number c dash (and_true (c == dash) _ h).0 in absurd (omega (arith, e, f))
dashes_stay (c ∷ []) [] h e = h
dashes_stay (c ∷ []) (d ∷ r) h e = (and_true (c == dash) _ h).0
dashes_stay (c ∷ d ∷ x) r h e = h

line_stays : (b : ℕ) (x : List ℕ) → (b ≡ hash) ⊎ ((b ≡ dash) × (goes_on_as_dashes x ≡ true)) →
    kind_of (b ∷ x) ≡ LineComment
line_stays b x (inl e) = ap (λ c. kind_of (c ∷ x)) e
line_stays b x (inr (e, h)) = ap (λ c. kind_of (c ∷ x)) e ∙ rw h refl

-- what stands behind simple bytes
abbrev behind_simple : List ℕ → List ℕ
behind_simple x = drop (prefix_len is_simple_byte x) x

second_stays : (e : ℕ) (i r : List ℕ) → begins_end (e ∷ ((i ++ comment_end) ++ r)) ≡ true →
    begins_end (e ∷ (i ++ comment_end)) ≡ true
second_stays e [] r h = h
second_stays e (f ∷ i) r h = h

end_stays : (i r : List ℕ) → begins_end (behind_simple ((i ++ comment_end) ++ r)) ≡ true →
    begins_end (behind_simple (i ++ comment_end)) ≡ true
end_stays [] r h = refl
end_stays (e ∷ i) r h = elim (bool_tells (is_simple_byte e)) [
  | inl s ↦ (let k : begins_end (behind_simple ((i ++ comment_end) ++ r)) ≡ true =
      ap begins_end (sym (behind_more is_simple_byte e ((i ++ comment_end) ++ r) s)) ∙ h in
      ap begins_end (behind_more is_simple_byte e (i ++ comment_end) s) ∙ end_stays i r k)
  | inr s ↦ (let k : begins_end (e ∷ ((i ++ comment_end) ++ r)) ≡ true =
      ap begins_end (sym (behind_stop is_simple_byte e ((i ++ comment_end) ++ r) s)) ∙ h in
      ap begins_end (behind_stop is_simple_byte e (i ++ comment_end) s) ∙ second_stays e i r k)
]

closed_simple : (c : ℕ) (z i r : List ℕ) → c ≡ exclamation → c ∷ z ≡ i ++ comment_end →
    is_simple (z ++ r) ≡ true → is_simple z ≡ true
closed_simple c z [] r e j h = let f : c ≡ star = cc in absurd (omega (arith, e, f))
closed_simple c z (d ∷ []) r e j h =
    let f : z ≡ comment_end = cc in
    let k : is_simple (comment_end ++ r) ≡ true = subst (λ y. is_simple (y ++ r) ≡ true) f h in cc
closed_simple c z (d ∷ g ∷ i) r e j h =
    let f : z ≡ g ∷ (i ++ comment_end) = cc in
    let k : is_simple ((g ∷ (i ++ comment_end)) ++ r) ≡ true = subst (λ y. is_simple (y ++ r) ≡ true) f h in
    let l : (is_digit g ≡ true) × (begins_end (behind_simple ((i ++ comment_end) ++ r)) ≡ true) =
    and_true (is_digit g) _ k in
    subst (λ y. is_simple y ≡ true) (sym f) (rw l.0 (end_stays i r l.1))

simple_stays : (c : ℕ) (z i cl r : List ℕ) → c ≡ exclamation → c ∷ z ≡ i ++ cl → EndsBlock i cl r →
    is_simple (z ++ r) ≡ true → is_simple z ≡ true
simple_stays c z i cl r e j (inl k) h = closed_simple c z i r e (j ∙ ap (λ y. i ++ y) k.0) h
simple_stays c z i cl r e j (inr k) h = subst (λ y. is_simple y ≡ true) (ap (λ y. z ++ y) k.2 ∙ append-nil z) h

inside_stays : (y i cl r : List ℕ) → y ≡ i ++ cl → EndsBlock i cl r →
    goes_on_as_block (star ∷ (y ++ r)) ≡ true → goes_on_as_block (star ∷ y) ≡ true
inside_stays [] i cl r e k h = refl
inside_stays (c ∷ z) i cl r e k h = elim (bool_tells (c == exclamation)) [
  | inr n ↦ (rw n refl)
  | inl n ↦ (let l : is_simple (z ++ r) ≡ true = rw n at h in
      let m : is_simple z ≡ true = simple_stays c z i cl r (same_number c exclamation n) e k l in rw (n, m) refl)
]

pub block_kind : (x : List ℕ) → goes_on_as_block x ≡ true → kind_of (slash ∷ x) ≡ BlockComment
block_kind x h = rw h refl

block_stays : (t r : List ℕ) → IsBlockComment t r → kind_of (t ++ r) ≡ BlockComment → kind_of t ≡ BlockComment
block_stays t r i e =
    let y : List ℕ = i.inside ++ i.closing in
    let f : kind_of (slash ∷ star ∷ (y ++ r)) ≡ BlockComment =
    subst (λ u. kind_of (u ++ r) ≡ BlockComment) i.spelled e in
    let g : Tells slash (star ∷ (y ++ r)) BlockComment =
    subst (Tells slash (star ∷ (y ++ r))) f (kind_tells slash (star ∷ (y ++ r))) in
    ap kind_of i.spelled ∙ block_kind (star ∷ y) (inside_stays y i.inside i.closing r refl i.ends g.1)

no_more : (p : Bool) → (p && false) ≡ false
no_more true = refl
no_more false = refl

abbrev chain : ℕ → (q h d s a c m k l o e n : Bool) → Kind
chain b q h d s a c m k l o e n =
    cond q (Quoted b) (cond (h || (d && k)) LineComment
    (cond (s && l) BlockComment
    (cond (s && o) Opening (cond (a && e) Closing (cond (c && n) Name (cond m Mark Plain))))))

chain_end : (b : ℕ) (d s a c : Bool) → chain b false false d s a c false false false false false false ≡ Plain
chain_end b d s a c = rw (no_more d, no_more s, no_more a, no_more c) refl

plain_choices : (b : ℕ) (q h d s a c m k l o e n : Bool) → chain b q h d s a c m k l o e n ≡ Plain →
    chain b q h d s a c m false false false false false ≡ Plain
plain_choices b true h d s a c m k l o e n r = cc
plain_choices b false true d s a c m k l o e n r = cc
plain_choices b false false d s a c false k l o e n r = chain_end b d s a c
plain_choices b false false d s a c true k l o e n r = absurd (marked (d && k) (s && l) (s && o) (a && e) (c && n) r)
  where
    marked : (u v w x y : Bool) →
        cond u LineComment (cond v BlockComment
        (cond w Opening (cond x Closing (cond y Name Mark)))) ≡ Plain → ⊥
    marked true v w x y e = cc
    marked false true w x y e = cc
    marked false false true x y e = cc
    marked false false false true y e = cc
    marked false false false false true e = cc
    marked false false false false false e = cc

plain_stays : (b : ℕ) (r : List ℕ) → kind_of (b ∷ r) ≡ Plain → kind_of (b ∷ []) ≡ Plain
plain_stays b r h = plain_choices b (is_quote b) (b == hash) (b == dash) (b == slash) (b == star)
    (b == colon) (b == question) (goes_on_as_dashes r) (goes_on_as_block r) (goes_on_as_opening r)
    (goes_on_as_closing r) (goes_on_as_name r) h

pub kind_alone : (m : Mode) (t r : List ℕ) → IsToken m t r → kind_of t ≡ kind_of (t ++ r)
kind_alone m t r i = by t (kind_of (t ++ r)) refl i
  where
    by : (t : List ℕ) (k : Kind) → kind_of (t ++ r) ≡ k → HasShape m k t r → kind_of t ≡ kind_of (t ++ r)
    by [] k e h = absurd (not_empty m r (subst (λ l. HasShape m l [] r) (sym e) h))
    by (b ∷ x) (Quoted q) e h =
        let f : Tells b (x ++ r) (Quoted q) = subst (Tells b (x ++ r)) e (kind_tells b (x ++ r)) in
        quoted_stays b x f.1 ∙ sym (quoted_stays b (x ++ r) f.1)
    by (b ∷ x) LineComment e h =
        let f : Tells b (x ++ r) LineComment = subst (Tells b (x ++ r)) e (kind_tells b (x ++ r)) in
        line_stays b x (elim f [ inl k ↦ inl k | inr k ↦ inr (k.0, dashes_stay x r k.1 h.1) ]) ∙ sym e
    by (b ∷ x) BlockComment e h = block_stays (b ∷ x) r h e ∙ sym e
    by (b ∷ x) Opening e h = ap kind_of h ∙ sym e
    by (b ∷ x) Closing e h = ap kind_of h ∙ sym e
    by (b ∷ x) Name e h = sym (place_stays (b ∷ x) r (name_is_place (b ∷ x) r e h))
    by (b ∷ x) Mark e h = ap kind_of h ∙ sym e
    by (b ∷ x) Plain e h =
        let f : x ≡ [] = (let g : b ∷ x ≡ h.0 ∷ [] = h.1 in cc) in
        let k : kind_of (b ∷ r) ≡ Plain = subst (λ y. kind_of (b ∷ (y ++ r)) ≡ Plain) f e in
        ap (λ y. kind_of (b ∷ y)) f ∙ plain_stays b r k ∙ sym e

-- whether a token is a placeholder, by its kind where it stands
pub token_place : (m : Mode) (t r : List ℕ) → IsToken m t r → is_place t ≡ is_place_kind (kind_of (t ++ r))
token_place m t r i = ap is_place_kind (kind_alone m t r i)

pub token_name : (m : Mode) (t r : List ℕ) → IsToken m t r → is_name t ≡ is_name_kind (kind_of (t ++ r))
token_name m t r i = ap is_name_kind (kind_alone m t r i)
