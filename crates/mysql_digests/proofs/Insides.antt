-- Texts that differ inside strings and comments alone.
use Rattle.std.proofs.Common.{◌≡◌, ℕ, Bool, true, false, not, ◌&&◌, ◌||◌, ◌==◌, ◌⊎◌, List, [], ◌∷◌, ◌++◌, refl, sym, ap}
use Rattle.std.proofs.Common.{◌∙◌, inl, inr, subst, flat_map}
use Rattle.std.proofs.lemmas.Bool.Decides.{eqb_tells}
use Rattle.std.specs.List.{concat}
use Rattle.mysql_queries.specs.Alone.{begins, begins_dollar_quote, begins_for_mariadb, is_opening, is_opening_kind}
use Rattle.mysql_queries.specs.Alone.{is_tag_byte, last_of}
use Rattle.mysql_queries.specs.Tokens.{Kind, Quoted, LineComment, BlockComment, Opening, Closing, Name, Mark, Plain}
use Rattle.mysql_queries.specs.Tokens.{kind_of, HasShape, IsToken, AreTokens, AtLineEnd, inside_bytes, is_quote}
use Rattle.mysql_queries.specs.Tokens.{quotes_identifier, bracket, dollar, slash, star, hash, dash, single_quote}
use Rattle.mysql_queries.specs.Tokens.{double_quote, backtick, line_feed}
use Rattle.mysql_bytes.specs.declared.mode.Mode.{Mode}
use Rattle.mysql_digests.specs.Digest.{Lexeme, Gap, Value, agreed, is_cut, is_disputed, lexemes_of, with_token}
use Rattle.mysql_digests.specs.Laws.{DifferInside, is_string_kind, is_comment_kind}
use Rattle.mysql_queries.proofs.FirstBytes.{bool_tells, or_cases, same_number, HasQuote, kind_has_quote, Tells}
use Rattle.mysql_queries.proofs.FirstBytes.{kind_tells}
use Rattle.mysql_digests.proofs.FirstTokens.{not_empty}
use Rattle.mysql_digests.proofs.Disputes.{LastAlike, disputed_same, ends_tag, is_dollar, is_safe, mariadb_own, names}
use Rattle.mysql_digests.proofs.Disputes.{plain_single, safe_undisputed, tag_more, tag_plain, tag_stop}
use Rattle.mysql_digests.proofs.Lexing.{agreed_end, agreed_on, cut_end, cut_on}
use Rattle.mysql_digests.proofs.TokenKinds.{kind_stays, not_equal}

no_form : {A : Type 0} → true ≡ false → A
no_form e = cc

not_true : (p : Bool) → not p ≡ true → p ≡ false
not_true true h = cc
not_true false h = refl

pub string_value : (mode : Mode) (k : Kind) (t : List ℕ) (ls : List Lexeme) →
    is_string_kind mode k ≡ true → with_token mode k t ls ≡ Value ∷ ls
string_value mode (Quoted q) t ls h = rw (not_true (quotes_identifier mode q) h) refl
string_value mode LineComment t ls h = cc
string_value mode BlockComment t ls h = cc
string_value mode Opening t ls h = cc
string_value mode Closing t ls h = cc
string_value mode Name t ls h = cc
string_value mode Mark t ls h = cc
string_value mode Plain t ls h = cc

pub comment_gap : (mode : Mode) (k : Kind) (t : List ℕ) (ls : List Lexeme) → is_comment_kind k ≡
    true → with_token mode k t ls ≡ Gap ∷ ls
comment_gap mode (Quoted q) t ls h = cc
comment_gap mode LineComment t ls h = refl
comment_gap mode BlockComment t ls h = refl
comment_gap mode Opening t ls h = cc
comment_gap mode Closing t ls h = cc
comment_gap mode Name t ls h = cc
comment_gap mode Mark t ls h = cc
comment_gap mode Plain t ls h = cc

-- a quoted token or a comment
abbrev pub has_inside : Kind → Bool
has_inside (Quoted q) = true
has_inside LineComment = true
has_inside BlockComment = true
has_inside Opening = false
has_inside Closing = false
has_inside Name = false
has_inside Mark = false
has_inside Plain = false

string_inside : (m : Mode) (k : Kind) → is_string_kind m k ≡ true → has_inside k ≡ true
string_inside m (Quoted q) h = refl
string_inside m LineComment h = cc
string_inside m BlockComment h = cc
string_inside m Opening h = cc
string_inside m Closing h = cc
string_inside m Name h = cc
string_inside m Mark h = cc
string_inside m Plain h = cc

comment_inside : (k : Kind) → is_comment_kind k ≡ true → has_inside k ≡ true
comment_inside (Quoted q) h = cc
comment_inside LineComment h = refl
comment_inside BlockComment h = refl
comment_inside Opening h = cc
comment_inside Closing h = cc
comment_inside Name h = cc
comment_inside Mark h = cc
comment_inside Plain h = cc

-- each byte with which one begins is no byte of a name
by_quote : (P : ℕ → Type 0) → P single_quote → P double_quote → P backtick → (b : ℕ) → is_quote b ≡ true → P b
by_quote P p q r b h = elim (or_cases ((b == single_quote) || (b == double_quote)) (b == backtick) h) [
  | inr e ↦ subst P (sym (same_number b backtick e)) r
  | inl f ↦ elim (or_cases (b == single_quote) (b == double_quote) f) [
    | inl e ↦ subst P (sym (same_number b single_quote e)) p
    | inr e ↦ subst P
        (sym (same_number b double_quote e)) q
  ]
]

by_first : (P : ℕ → Type 0) (b : ℕ) (x : List ℕ) (k : Kind) → P single_quote → P double_quote →
    P backtick → P hash → P dash → P slash → Tells b x k → has_inside k ≡ true → P b
by_first P b x (Quoted q) p1 p2 p3 p4 p5 p6 t h = by_quote P p1 p2 p3 b t.1
by_first P b x LineComment p1 p2 p3 p4 p5 p6 t h = elim t [ inl e ↦ subst P (sym e) p4 | inr e ↦ subst P (sym e.0) p5 ]
by_first P b x BlockComment p1 p2 p3 p4 p5 p6 t h = subst P (sym t.0) p6
by_first P b x Opening p1 p2 p3 p4 p5 p6 t h = cc
by_first P b x Closing p1 p2 p3 p4 p5 p6 t h = cc
by_first P b x Name p1 p2 p3 p4 p5 p6 t h = cc
by_first P b x Mark p1 p2 p3 p4 p5 p6 t h = cc
by_first P b x Plain p1 p2 p3 p4 p5 p6 t h = cc

first_names : (b : ℕ) (x : List ℕ) → has_inside (kind_of (b ∷ x)) ≡ true → names b ≡ false
first_names b x h = by_first (λ c. names c ≡ false) b x (kind_of (b ∷ x)) refl refl refl refl refl
    refl (kind_tells b x) h

first_tag : (b : ℕ) (x : List ℕ) → has_inside (kind_of (b ∷ x)) ≡ true → is_tag_byte b ≡ false
first_tag b x h = by_first (λ c. is_tag_byte c ≡ false) b x (kind_of (b ∷ x)) refl refl refl refl
    refl refl (kind_tells b x) h

first_dollar : (b : ℕ) (x : List ℕ) → has_inside (kind_of (b ∷ x)) ≡ true → is_dollar b ≡ false
first_dollar b x h = by_first (λ c. is_dollar c ≡ false) b x (kind_of (b ∷ x)) refl refl refl refl
    refl refl (kind_tells b x) h

first_bracket : (b : ℕ) (x : List ℕ) → has_inside (kind_of (b ∷ x)) ≡ true → (b == bracket) ≡ false
first_bracket b x h = by_first (λ c. (c == bracket) ≡ false) b x (kind_of (b ∷ x)) refl refl refl
    refl refl refl (kind_tells b x) h

string_safe : (m : Mode) (t : List ℕ) → is_string_kind m (kind_of t) ≡ true → begins is_safe t ≡ true
string_safe m [] h = cc
string_safe m (b ∷ x) h = by (kind_of (b ∷ x)) (kind_tells b x) h
  where
    by : (k : Kind) → Tells b x k → is_string_kind m k ≡ true → is_safe b ≡ true
    by (Quoted q) t h = by_quote (λ c. is_safe c ≡ true) refl refl refl b t.1
    by LineComment t h = cc
    by BlockComment t h = cc
    by Opening t h = cc
    by Closing t h = cc
    by Name t h = cc
    by Mark t h = cc
    by Plain t h = cc

comment_no_opening : (k : Kind) → is_comment_kind k ≡ true → is_opening_kind k ≡ false
comment_no_opening (Quoted q) h = cc
comment_no_opening LineComment h = refl
comment_no_opening BlockComment h = refl
comment_no_opening Opening h = cc
comment_no_opening Closing h = cc
comment_no_opening Name h = cc
comment_no_opening Mark h = cc
comment_no_opening Plain h = cc

-- a comment is what servers disagree about where MariaDB runs it
comment_disputed : (m : Mode) (last : ℕ) (t : List ℕ) (ts : List (List ℕ)) →
    IsToken m t (concat ts) → is_comment_kind (kind_of t) ≡ true → is_disputed last t ts ≡
    begins_for_mariadb t
comment_disputed m last [] ts i h = cc
comment_disputed m last (b ∷ x) ts i h =
    let k : has_inside (kind_of (b ∷ x)) ≡ true = comment_inside (kind_of (b ∷ x)) h in
    ap (λ p. ((p || begins_dollar_quote last (b ∷ (x ++ concat ts))) ||
    begins_for_mariadb (b ∷ (x ++ concat ts))) || is_opening (b ∷ x)) (first_bracket b x k)
    ∙ ap (λ p. ((p && not (names last) && ends_tag (x ++ concat ts)) ||
    begins_for_mariadb (b ∷ (x ++ concat ts))) || is_opening (b ∷ x)) (first_dollar b x k)
    ∙ ap (λ p. begins_for_mariadb (b ∷ (x ++ concat ts)) || p) (comment_no_opening (kind_of (b ∷ x)) h)
    ∙ or_false (begins_for_mariadb (b ∷ (x ++ concat ts))) ∙ mariadb_own m (b ∷ x) (concat ts) i
  where
    or_false : (p : Bool) → (p || false) ≡ p
    or_false true = refl
    or_false false = refl

last_append : (last q : ℕ) (x : List ℕ) → last_of last (x ++ q ∷ []) ≡ q
last_append last q [] = refl
last_append last q (b ∷ x) = last_append b q x

last_two : (last p q : ℕ) (x : List ℕ) → last_of last (x ++ p ∷ q ∷ []) ≡ q
last_two last p q [] = refl
last_two last p q (b ∷ x) = last_two b p q x

line_quiet : (r : List ℕ) → AtLineEnd r → begins is_dollar r ≡ false
line_quiet [] h = refl
line_quiet (b ∷ r) h = ap is_dollar h

-- behind such a token no name goes on, or no dollar comes
quiet_shape : (m : Mode) (k : Kind) (last : ℕ) (t r : List ℕ) → HasShape m k t r → HasQuote k →
    has_inside k ≡ true → (names (last_of last t) ≡ false) ⊎ (begins is_dollar r ≡ false)
quiet_shape m (Quoted q) last t r s g h = elim s.closes [
  | inl c ↦ (let body : List ℕ = flat_map (inside_bytes q) s.parts in
      let e : last_of last t ≡ q = ap (last_of last) s.spelled ∙
      ap (λ y. last_of last (q ∷ (body ++ y))) c.0 ∙ last_append q q body in
      inl (ap names e ∙ by_quote (λ c. names c ≡ false) refl refl refl q g))
  | inr c ↦ inr (ap (begins is_dollar) c.0)
]
quiet_shape m LineComment last t r s g h = inr (line_quiet r s.1)
quiet_shape m BlockComment last t r s g h = elim s.ends [
  | inl c ↦ inl (ap names (ap (last_of last) s.spelled ∙
      ap (λ y. last_of last (slash ∷ star ∷ (s.inside ++ y))) c.0 ∙
      last_two star star slash s.inside))
  | inr c ↦ inr (ap (begins is_dollar) c.2)
]
quiet_shape m Opening last t r s g h = cc
quiet_shape m Closing last t r s g h = cc
quiet_shape m Name last t r s g h = cc
quiet_shape m Mark last t r s g h = cc
quiet_shape m Plain last t r s g h = cc

quiet_behind : (m : Mode) (last : ℕ) (t r : List ℕ) → IsToken m t r → has_inside (kind_of t) ≡
    true → (names (last_of last t) ≡ false) ⊎ (begins is_dollar r ≡ false)
quiet_behind m last t r i h = let k : kind_of t ≡ kind_of (t ++ r) = kind_stays m t r i in
    quiet_shape m (kind_of (t ++ r)) last t r i (kind_has_quote (t ++ r)) (sym (ap has_inside k) ∙
    h)

-- a dollar comes first in both
dollar_first : (m : Mode) (ts us : List (List ℕ)) → AreTokens m ts → AreTokens m us →
    DifferInside m ts us → begins is_dollar (concat ts) ≡ begins is_dollar (concat us)
dollar_first m [] [] i k h = refl
dollar_first m [] (o ∷ us) i k h = elim h [ ]
dollar_first m (t ∷ ts) [] i k h = elim h [ ]
dollar_first m ([] ∷ ts) (o ∷ us) i k h = absurd (not_empty m (concat ts) i.0)
dollar_first m ((b ∷ x) ∷ ts) ([] ∷ us) i k h = absurd (not_empty m (concat us) k.0)
dollar_first m ((b ∷ x) ∷ ts) ((c ∷ y) ∷ us) i k (inl e, h) = ap (begins is_dollar) e
dollar_first m ((b ∷ x) ∷ ts) ((c ∷ y) ∷ us) i k (inr (inl (p, q)), h) =
    first_dollar b x (string_inside m (kind_of (b ∷ x)) p) ∙
    sym (first_dollar c y (string_inside m (kind_of (c ∷ y)) q))
dollar_first m ((b ∷ x) ∷ ts) ((c ∷ y) ∷ us) i k (inr (inr (p, q, g)), h) =
    first_dollar b x (comment_inside (kind_of (b ∷ x)) p) ∙
    sym (first_dollar c y (comment_inside (kind_of (c ∷ y)) q))

-- a dollar comes behind a name in both
tags_differ : (m : Mode) (ts us : List (List ℕ)) → AreTokens m ts → AreTokens m us →
    DifferInside m ts us → ends_tag (concat ts) ≡ ends_tag (concat us)
tags_differ m [] [] i k h = refl
tags_differ m [] (o ∷ us) i k h = elim h [ ]
tags_differ m (t ∷ ts) [] i k h = elim h [ ]
tags_differ m ([] ∷ ts) (o ∷ us) i k h = absurd (not_empty m (concat ts) i.0)
tags_differ m ((b ∷ x) ∷ ts) ([] ∷ us) i k h = absurd (not_empty m (concat us) k.0)
tags_differ m ((b ∷ x) ∷ ts) ((c ∷ y) ∷ us) i k (inl e, h) = elim (bool_tells (is_tag_byte b)) [
  | inl t ↦ (let n : x ≡ [] = plain_single m b x (concat ts) i.0 (tag_plain b t) in
      ap (λ z. ends_tag (b ∷ (z ++ concat ts))) n ∙ tag_more b (concat ts) t ∙
      tags_differ m ts us i.1 k.1 h ∙ sym (tag_more b (concat us) t) ∙
      sym (ap (λ z. ends_tag (b ∷ (z ++ concat us))) n) ∙ ap (λ z. ends_tag (z ++ concat us)) e)
  | inr t ↦ tag_stop b (x ++ concat ts) t ∙ sym (tag_stop b (x ++ concat us) t) ∙ ap (λ z. ends_tag (z ++ concat us)) e
]
tags_differ m ((b ∷ x) ∷ ts) ((c ∷ y) ∷ us) i k (inr (inl (p, q)), h) =
    let kb = string_inside m (kind_of (b ∷ x)) p in
    let kc = string_inside m (kind_of (c ∷ y)) q in
    tag_stop b (x ++ concat ts) (first_tag b x kb) ∙ first_dollar b x kb ∙
    sym (first_dollar c y kc) ∙ sym (tag_stop c (y ++ concat us) (first_tag c y kc))
tags_differ m ((b ∷ x) ∷ ts) ((c ∷ y) ∷ us) i k (inr (inr (p, q, g)), h) =
    let kb = comment_inside (kind_of (b ∷ x)) p in
    let kc = comment_inside (kind_of (c ∷ y)) q in
    tag_stop b (x ++ concat ts) (first_tag b x kb) ∙ first_dollar b x kb ∙
    sym (first_dollar c y kc) ∙ sym (tag_stop c (y ++ concat us) (first_tag c y kc))

-- behind two tokens with an inside
alike_behind : (m : Mode) (last other : ℕ) (t o : List ℕ) (ts us : List (List ℕ)) →
    AreTokens m (t ∷ ts) → AreTokens m (o ∷ us) → has_inside (kind_of t) ≡ true →
    has_inside (kind_of o) ≡ true → DifferInside m ts us →
    LastAlike (last_of last t) (last_of other o) (concat ts)
alike_behind m last other t o ts us i k h g d = elim (quiet_behind m last t (concat ts) i.0 h) [
  | inr e ↦ inr e
  | inl e ↦ elim (quiet_behind m other o (concat us) k.0 g) [
    | inl f ↦ inl (e ∙ sym f)
    | inr f ↦ inr (dollar_first m ts us i.1 k.1 d ∙ f)
  ]
]

last_kept : (m : Mode) (last other : ℕ) (t r : List ℕ) → IsToken m t r → last_of last t ≡ last_of other t
last_kept m last other [] r i = absurd (not_empty m r i)
last_kept m last other (b ∷ x) r i = refl

-- what stands in both, up to where servers disagree
abbrev pub InsideSame : Mode → ℕ → ℕ → List (List ℕ) → List (List ℕ) → Type 0
InsideSame m last other ts us = (lexemes_of m (agreed last ts) ≡ lexemes_of m (agreed other us)) ×
    (is_cut last ts ≡ is_cut other us)

-- one token more of each, which make the same
more_same : (m : Mode) (last other : ℕ) (t o : List ℕ) (ts us : List (List ℕ)) (disputed : Bool) →
    is_disputed last t ts ≡ disputed → is_disputed other o us ≡ disputed
    → (disputed ≡ false → (ls : List Lexeme) → with_token m (kind_of t) t ls ≡
    with_token m (kind_of o) o ls) → InsideSame m (last_of last t) (last_of other o) ts us →
    InsideSame m last other (t ∷ ts) (o ∷ us)
more_same m last other t o ts us true d e f s = (
  ap (lexemes_of m) (agreed_end last t ts d ∙ sym (agreed_end other o us e)),
  cut_end last t ts d ∙ sym (cut_end other o us e),
)
more_same m last other t o ts us false d e f s = (
  ap (lexemes_of m) (agreed_on last t ts d) ∙ ap (with_token m (kind_of t) t) s.0 ∙
      f refl (lexemes_of m (agreed (last_of other o) us)) ∙
      sym (ap (lexemes_of m) (agreed_on other o us e)),
  cut_on last t ts d ∙ s.1 ∙ sym (cut_on other o us e),
)

pub inside_same : (m : Mode) (last other : ℕ) (ts us : List (List ℕ)) → AreTokens m ts →
    AreTokens m us → LastAlike last other (concat ts) → DifferInside m ts us →
    InsideSame m last other ts us
inside_same m last other [] [] i k l h = (refl, refl)
inside_same m last other [] (o ∷ us) i k l h = elim h [ ]
inside_same m last other (t ∷ ts) [] i k l h = elim h [ ]
inside_same m last other (t ∷ ts) (o ∷ us) i k l (inl e, h) =
    let both : AreTokens m (t ∷ us) = subst (λ y. AreTokens m (y ∷ us)) (sym e) k in
    let same : is_disputed last t ts ≡ is_disputed other t us =
    disputed_same m last other t ts us i.0 both.0 l (λ d. tags_differ m ts us i.1 both.1 h) in
    subst (λ y. InsideSame m last other (t ∷ ts) (y ∷ us)) e
    (more_same m last other t t ts us (is_disputed last t ts) refl (sym same) (λ d ls. refl)
    (inside_same m (last_of last t) (last_of other t) ts us i.1 both.1
    (inl (ap names (last_kept m last other t (concat ts) i.0))) h))
inside_same m last other (t ∷ ts) (o ∷ us) i k l (inr (inl (p, q)), h) =
    more_same m last other t o ts us false (safe_undisputed last t ts (string_safe m t p))
    (safe_undisputed other o us (string_safe m o q))
    (λ d ls. string_value m (kind_of t) t ls p ∙ sym (string_value m (kind_of o) o ls q))
    (inside_same m (last_of last t) (last_of other o) ts us i.1 k.1
    (alike_behind m last other t o ts us i k (string_inside m (kind_of t) p)
    (string_inside m (kind_of o) q) h) h)
inside_same m last other (t ∷ ts) (o ∷ us) i k l (inr (inr (p, q, g)), h) =
    more_same m last other t o ts us (begins_for_mariadb t) (comment_disputed m last t ts i.0 p)
    (comment_disputed m other o us k.0 q ∙ sym g) (λ d ls. comment_gap m (kind_of t) t ls p ∙
    sym (comment_gap m (kind_of o) o ls q))
    (inside_same m (last_of last t) (last_of other o) ts us i.1 k.1
    (alike_behind m last other t o ts us i k (comment_inside (kind_of t) p)
    (comment_inside (kind_of o) q) h) h)
