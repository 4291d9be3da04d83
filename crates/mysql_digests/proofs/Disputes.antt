-- Where servers disagree about tokens, in a text over a query and in one that differs inside strings.
use Rattle.std.proofs.Common.{if◌then◌else◌, ◌≡◌, ◌≢◌, ℕ, Bool, true, false, not, ◌&&◌, ◌||◌, ◌==◌, ◌⊎◌, List, [], ◌∷◌}
use Rattle.std.proofs.Common.{◌++◌, drop, refl, sym, ap, ◌∙◌, inl, inr, subst, append-nil, flat_map, arith}
use Rattle.std.proofs.lemmas.Bool.Decides.{eqb_tells, nat_tests}
use Rattle.std.specs.List.{AllByRecursion, concat, prefix_len}
use Rattle.mysql_queries.specs.Alone.{begins, begins_dollar_quote, begins_for_mariadb, is_opening, is_opening_kind}
use Rattle.mysql_queries.specs.Alone.{is_tag_byte, last_of}
use Rattle.mysql_queries.specs.Queries.{is_joining, is_place, Replaces}
use Rattle.mysql_queries.specs.Tokens.{Kind, Quoted, LineComment, BlockComment, Opening, Closing, Name, Mark, Plain}
use Rattle.mysql_queries.specs.Tokens.{kind_of, HasShape, IsToken, AreTokens, IsBlockComment, IsQuoted, AtLineEnd}
use Rattle.mysql_queries.specs.Tokens.{Inside, inside_bytes, has_escapes, is_quote, comment_start, line_feed}
use Rattle.mysql_queries.specs.Tokens.{single_quote, double_quote, backtick, quotes_identifier, bracket, dollar, slash}
use Rattle.mysql_queries.specs.Tokens.{star, hash, dash, exclamation, colon, question}
use Rattle.mysql_bytes.specs.declared.content.Content.{Content}
use Rattle.mysql_bytes.specs.declared.mode.Mode.{Mode}
use Rattle.mysql_bytes.specs.declared.spelling.Spelling.{Spelling}
use Rattle.mysql_queries.specs.Scanning.{is_plain}
use Rattle.mysql_digests.specs.Digest.{is_disputed, agreed, is_cut}
use Rattle.mysql_queries.proofs.Filled.{AloneFrom, place_begins}
use Rattle.mysql_queries.proofs.Follow.{BeginsApart}
use Rattle.mysql_queries.proofs.Prefixes.{behind_more}
use Rattle.mysql_queries.proofs.FirstBytes.{and_true, bool_tells, kind_tells, or_cases, same_number, Tells}
use Rattle.mysql_digests.proofs.FirstTokens.{not_empty}
use Rattle.mysql_digests.proofs.Lexing.{agreed_on, cut_on, disputed_byte, no_mariadb}
use Rattle.mysql_digests.proofs.LiteralForms.{or_first, or_last}
use Rattle.mysql_digests.proofs.TokenKinds.{apart_bytes, not_equal, kind_stays, plain_by, plain_kind}

no_form : {A : Type 0} → true ≡ false → A
no_form e = cc

-- MARIADB'S COMMENTS

mariadb_kind : (text : List ℕ) → begins_for_mariadb text ≡ true → kind_of text ≡ BlockComment
mariadb_kind [] h = cc
mariadb_kind (a ∷ []) h = cc
mariadb_kind (a ∷ b ∷ []) h = cc
mariadb_kind (a ∷ b ∷ c ∷ []) h = cc
mariadb_kind (a ∷ b ∷ c ∷ d ∷ text) h =
    let e3 = and_true ((a == slash) && (b == star) && (c == 0x4d)) (d == exclamation) h in
    let e2 = and_true ((a == slash) && (b == star)) (c == 0x4d) e3.0 in
    let e1 = and_true (a == slash) (b == star) e2.0 in
    let fa : a ≡ slash = same_number a slash e1.0 in
    let fb : b ≡ star = same_number b star e1.1 in
    let fc : c ≡ 0x4d = same_number c 0x4d e2.1 in
    ap (λ y. kind_of (y ∷ b ∷ c ∷ d ∷ text)) fa ∙ ap (λ y. kind_of (slash ∷ y ∷ c ∷ d ∷ text)) fb ∙
    ap (λ y. kind_of (slash ∷ star ∷ y ∷ d ∷ text)) fc

block_own : (inside closing r : List ℕ) → (closing ≡ star ∷ slash ∷ []) →
    begins_for_mariadb ((slash ∷ star ∷ (inside ++ closing)) ++ r) ≡
    begins_for_mariadb (slash ∷ star ∷ (inside ++ closing))
block_own inside closing r e =
    ap (λ y. begins_for_mariadb ((slash ∷ star ∷ (inside ++ y)) ++ r)) e ∙ by inside ∙
    sym (ap (λ y. begins_for_mariadb (slash ∷ star ∷ (inside ++ y))) e)
  where
    by : (inside : List ℕ) → begins_for_mariadb ((slash ∷ star ∷ (inside ++ star ∷ slash ∷ [])) ++
        r) ≡ begins_for_mariadb (slash ∷ star ∷ (inside ++ star ∷ slash ∷ []))
    by [] = refl
    by (i ∷ []) = refl
    by (i ∷ j ∷ inside) = refl

-- a token tells by itself whether it begins so
pub mariadb_own : (m : Mode) (t r : List ℕ) → IsToken m t r → begins_for_mariadb (t ++ r) ≡ begins_for_mariadb t
mariadb_own m [] r i = absurd (not_empty m r i)
mariadb_own m (b ∷ x) r i = by (kind_of (b ∷ (x ++ r))) refl (kind_tells b (x ++ r)) i
  where
    opened : (r : List ℕ) → begins_for_mariadb (comment_start ++ r) ≡ begins_for_mariadb comment_start
    opened [] = refl
    opened (c ∷ r) = refl

    others : b ≢ slash → begins_for_mariadb (b ∷ (x ++ r)) ≡ begins_for_mariadb (b ∷ x)
    others n = no_mariadb b (x ++ r) n ∙ sym (no_mariadb b x n)

    other_than : (c : ℕ) → b ≡ c → (c == slash) ≡ false → begins_for_mariadb (b ∷ (x ++ r)) ≡ begins_for_mariadb (b ∷ x)
    other_than c e h = others (λ f. no_form (sym (ap (λ y. y == slash) (sym e ∙ f)) ∙ h))

    block : IsBlockComment (b ∷ x) r → begins_for_mariadb (b ∷ (x ++ r)) ≡ begins_for_mariadb (b ∷ x)
    block s = elim s.ends [
      | inl e ↦ ap (λ y. begins_for_mariadb (y ++ r)) s.spelled ∙
          block_own s.inside s.closing r e.0 ∙ sym (ap begins_for_mariadb s.spelled)
      | inr e ↦ ap (λ y. begins_for_mariadb (b ∷ (x ++ y))) e.2 ∙ ap begins_for_mariadb (append-nil (b ∷ x))
    ]

    plain : kind_of (b ∷ (x ++ r)) ≡ Plain → x ≡ [] → begins_for_mariadb (b ∷ (x ++ r)) ≡ begins_for_mariadb (b ∷ x)
    plain k e = elim (bool_tells (begins_for_mariadb (b ∷ (x ++ r)))) [
      | inl h ↦ (let z : BlockComment ≡ Plain = sym (mariadb_kind (b ∷ (x ++ r)) h) ∙ k in cc)
      | inr h ↦ h ∙ sym (ap (λ y. begins_for_mariadb (b ∷ y)) e)
    ]

    by : (k : Kind) → kind_of (b ∷ (x ++ r)) ≡ k → Tells b (x ++ r) k → HasShape m k (b ∷ x) r →
        begins_for_mariadb (b ∷ (x ++ r)) ≡ begins_for_mariadb (b ∷ x)
    by (Quoted q) k t s = others (λ e. let z : true ≡ false = sym t.1 ∙ ap is_quote e in cc)
    by LineComment k t s = elim t [ inl e ↦ other_than hash e refl | inr e ↦ other_than dash e.0 refl ]
    by BlockComment k t s = block s
    by Opening k t s = ap (λ y. begins_for_mariadb (y ++ r)) s ∙ opened r ∙ sym (ap begins_for_mariadb s)
    by Closing k t s = other_than star t.0 refl
    by Name k t s = other_than colon t.0 refl
    by Mark k t s = other_than question t refl
    by Plain k t s = plain k (let q : b ∷ x ≡ s.0 ∷ [] = s.1 in cc)

-- DOLLAR QUOTES

-- a byte of a name
abbrev pub names : ℕ → Bool
names last = is_tag_byte last || (last == dollar)

abbrev pub is_dollar : ℕ → Bool
is_dollar c = c == dollar

-- a dollar comes first behind a name
abbrev pub ends_tag : List ℕ → Bool
ends_tag y = begins is_dollar (drop (prefix_len is_tag_byte y) y)

pub tag_more : (c : ℕ) (y : List ℕ) → is_tag_byte c ≡ true → ends_tag (c ∷ y) ≡ ends_tag y
tag_more c y h = ap (begins is_dollar) (behind_more is_tag_byte c y h)

pub tag_stop : (c : ℕ) (y : List ℕ) → is_tag_byte c ≡ false → ends_tag (c ∷ y) ≡ is_dollar c
tag_stop c y h = rw h refl

pub tag_plain : (b : ℕ) → is_tag_byte b ≡ true → is_plain b ≡ true
tag_plain b h = plain_by is_tag_byte b h refl refl refl refl refl refl refl refl refl

tag_joins : (b : ℕ) → is_tag_byte b ≡ true → is_joining b ≡ true
tag_joins b h = grind (arith, nat_tests)

-- a token that begins with a plain byte is that byte
pub plain_single : (m : Mode) (c : ℕ) (y r : List ℕ) → IsToken m (c ∷ y) r → is_plain c ≡ true → y ≡ []
plain_single m c y r i p =
    let s : HasShape m Plain (c ∷ y) r = subst (λ k. HasShape m k (c ∷ y) r) (plain_kind c (y ++ r) p) i in
    let q : c ∷ y ≡ s.0 ∷ [] = s.1 in cc

pub tags_replaced : (m : Mode) (sp : Spelling) (last : ℕ) (ts : List (List ℕ)) (cs : List Content)
    (us : List (List ℕ)) → AreTokens m ts → AloneFrom last ts → Replaces m sp ts cs us →
    is_joining last ≡ true → ends_tag (concat ts) ≡ ends_tag (concat us)
tags_replaced m sp last [] cs us i a h j = ap (λ y. ends_tag (concat y)) (sym h.1)
tags_replaced m sp last ([] ∷ ts) cs us i a h j = absurd (not_empty m (concat ts) i.0)
tags_replaced m sp last ((c ∷ y) ∷
    ts) cs us i a (inr (p, content, next, literal, literals, others, ec, l, k, e, h)) j =
    no_form (sym j ∙ (a.0 p).0.0)
tags_replaced m sp last ((c ∷ y) ∷ ts) cs us i a (inl (p, others, e, h)) j = elim (bool_tells (is_tag_byte c)) [
  | inl t ↦ (let n : y ≡ [] = plain_single m c y (concat ts) i.0 (tag_plain c t) in
      let deeper : ends_tag (concat ts) ≡ ends_tag (concat others) =
      tags_replaced m sp (last_of c y) ts cs others i.1 a.1 h
      (ap (λ x. is_joining (last_of c x)) n ∙ tag_joins c t) in
      ap (λ x. ends_tag (c ∷ (x ++ concat ts))) n ∙ tag_more c (concat ts) t ∙ deeper ∙
      sym (tag_more c (concat others) t) ∙
      sym (ap (λ x. ends_tag (c ∷ (x ++ concat others))) n) ∙
      sym (ap (λ x. ends_tag (concat x)) e))
  | inr t ↦ tag_stop c (y ++ concat ts) t ∙ sym (tag_stop c (y ++ concat others) t) ∙
      sym (ap (λ x. ends_tag (concat x)) e)
]

-- what is read behind one of two bytes is read alike behind the other
abbrev pub LastAlike : ℕ → ℕ → List ℕ → Type 0
LastAlike last other rest = (names last ≡ names other) ⊎ (begins is_dollar rest ≡ false)

no_quote : (last b : ℕ) (y : List ℕ) → (b == dollar) ≡ false → begins_dollar_quote last (b ∷ y) ≡ false
no_quote last b y n = rw n refl

pub dollar_same : (m : Mode) (last other b : ℕ) (x : List ℕ) (ts us : List (List ℕ)) →
    IsToken m (b ∷ x) (concat ts) → LastAlike last other (b ∷ (x ++ concat ts)) →
    (b ≡ dollar → ends_tag (concat ts) ≡ ends_tag (concat us))
    → begins_dollar_quote last (b ∷ (x ++ concat ts)) ≡ begins_dollar_quote other (b ∷ (x ++ concat us))
dollar_same m last other b x ts us i l tags = elim (eqb_tells b dollar) [
  | inr n ↦ no_quote last b (x ++ concat ts) n.0 ∙ sym (no_quote other b (x ++ concat us) n.0)
  | inl e ↦ elim l [
    | inr f ↦ no_form (sym e.0 ∙ f)
    | inl n ↦ (let z : x ≡ [] = plain_single m b x (concat ts) i (ap is_plain e.1) in
        ap (λ y. begins_dollar_quote last (b ∷ (y ++ concat ts))) z
        ∙ ap (λ p. (b == dollar) && not p && ends_tag (concat ts)) n ∙
        ap (λ p. (b == dollar) && not (names other) && p) (tags e.1)
        ∙ sym (ap (λ y. begins_dollar_quote other (b ∷ (y ++ concat us))) z))
  ]
]

-- servers disagree about a token before some tokens as before others
pub disputed_same : (m : Mode) (last other : ℕ) (t : List ℕ) (ts us : List (List ℕ)) →
    IsToken m t (concat ts) → IsToken m t (concat us) → LastAlike last other (t ++ concat ts) →
    (begins is_dollar t ≡ true → ends_tag (concat ts) ≡ ends_tag (concat us))
    → is_disputed last t ts ≡ is_disputed other t us
disputed_same m last other [] ts us i k l tags = absurd (not_empty m (concat ts) i)
disputed_same m last other (b ∷ x) ts us i k l tags =
    ap (λ d. ((b == bracket) || d || begins_for_mariadb (b ∷ (x ++ concat ts))) ||
    is_opening (b ∷ x)) (dollar_same m last other b x ts us i l (λ e. tags (ap is_dollar e)))
    ∙ ap (λ d. ((b == bracket) || begins_dollar_quote other (b ∷ (x ++ concat us)) || d) ||
    is_opening (b ∷ x)) (mariadb_own m (b ∷ x) (concat ts) i ∙
    sym (mariadb_own m (b ∷ x) (concat us) k))

-- WHAT NO SERVER READS OTHERWISE

-- a byte with which nothing begins about which servers disagree
abbrev pub is_safe : ℕ → Bool
is_safe b = not ((b == bracket) || (b == dollar) || (b == slash))

pub safe_undisputed : (last : ℕ) (t : List ℕ) (ts : List (List ℕ)) → begins is_safe t ≡ true →
    is_disputed last t ts ≡ false
safe_undisputed last [] ts h = cc
safe_undisputed last (b ∷ x) ts h = elim (bool_tells (is_disputed last (b ∷ x) ts)) [
  | inr n ↦ n
  | inl d ↦ elim (disputed_byte last b x ts d) [
    | inl e ↦ no_form (sym h ∙ ap is_safe e)
    | inr e ↦ elim e [ inl f ↦ no_form (sym h ∙ ap is_safe f) | inr f ↦ no_form (sym h ∙ ap is_safe f) ]
  ]
]

-- the last byte of tokens, or the one before
abbrev pub last_of_all : ℕ → List (List ℕ) → ℕ
last_of_all last [] = last
last_of_all last (t ∷ ts) = last_of_all (last_of last t) ts

pub safe_agreed : (last : ℕ) (front ts : List (List ℕ)) → AllByRecursion (λ t. begins is_safe t ≡ true) front
    → (agreed last (front ++ ts) ≡ front ++ agreed (last_of_all last front) ts) ×
    (is_cut last (front ++ ts) ≡ is_cut (last_of_all last front) ts)
safe_agreed last [] ts h = (refl, refl)
safe_agreed last (t ∷ front) ts h =
    let u : is_disputed last t (front ++ ts) ≡ false = safe_undisputed last t (front ++ ts) h.0 in
    let o = safe_agreed (last_of last t) front ts h.1 in
    (agreed_on last t (front ++ ts) u ∙ ap (λ y. t ∷ y) o.0, cut_on last t (front ++ ts) u ∙ o.1)

-- behind a placeholder that stands alone
pub apart_no_dollar : (r : List ℕ) → BeginsApart r → begins is_dollar r ≡ false
apart_no_dollar [] a = refl
apart_no_dollar (b ∷ r) a = not_equal b dollar (λ e. no_form (sym (ap is_joining e) ∙ a))

pub place_safe : (t : List ℕ) → is_place t ≡ true → begins is_safe t ≡ true
place_safe [] h = cc
place_safe (b ∷ x) h = elim (place_begins b x h) [ inl e ↦ ap is_safe e | inr e ↦ ap is_safe e ]
