-- What stands in a text over a query makes the pieces that the query makes.
use Rattle.std.proofs.Common.{if◌then◌else◌, ◌≡◌, ◌≢◌, ℕ, Bool, true, false, ◌&&◌, ◌||◌, ◌==◌, ◌⊎◌, List, [], ◌∷◌, ◌++◌}
use Rattle.std.proofs.Common.{refl, sym, ap, ◌∙◌, inl, inr, subst, flat_map}
use Rattle.std.proofs.lemmas.Bool.Decides.{eqb_tells}
use Rattle.std.specs.List.{concat}
use Rattle.mysql_queries.specs.Laws.{OneTokens}
use Rattle.mysql_queries.specs.LiteralRuns.{EndsBefore}
use Rattle.mysql_queries.specs.Queries.{is_joining, is_name_kind, is_mark_kind, is_place, Replaces}
use Rattle.mysql_queries.specs.Tokens.{Kind, Quoted, LineComment, BlockComment, Opening, Closing, Name, Mark, Plain}
use Rattle.mysql_queries.specs.Tokens.{kind_of, HasShape, IsToken, AreTokens, IsQuoted, dollar, is_quote}
use Rattle.mysql_queries.specs.Tokens.{quotes_identifier, has_escapes, inside_bytes, dash, colon, question}
use Rattle.mysql_bytes.specs.declared.content.Content.{Content}
use Rattle.mysql_bytes.specs.declared.mode.Mode.{Mode}
use Rattle.mysql_bytes.specs.declared.spelling.Spelling.{Spelling}
use Rattle.mysql_digests.specs.Digest.{Lexeme, Gap, Value, Word, Operator, Identifier, Byte, Piece, agreed, is_cut}
use Rattle.mysql_digests.specs.Digest.{is_disputed, with_operator_byte, with_word_byte, with_byte, with_bytes}
use Rattle.mysql_digests.specs.Digest.{with_token, with_value, with_lexeme, lexemes_of, pieces_behind, is_left_out}
use Rattle.mysql_digests.specs.Digest.{before_next, may_sign, is_exponent, is_power, is_string_prefix, digit_follows}
use Rattle.mysql_digests.specs.Digest.{value_follows, is_blank, is_word_byte, is_operator_byte}
use Rattle.mysql_digests.specs.declared.left_out.Before.{Before}
use Rattle.mysql_digests.specs.declared.left_out.Before.TheVariants.{Apart, Joined, Exponent, Power}
use Rattle.mysql_queries.proofs.Filled.{AloneFrom}
use Rattle.mysql_queries.proofs.Follow.{BeginsApart, IsApart}
use Rattle.mysql_queries.specs.Alone.{begins, last_of}
use Rattle.mysql_queries.specs.Scanning.{is_plain}
use Rattle.mysql_queries.proofs.FirstBytes.{and_true, bool_tells, same_number, HasQuote, kind_has_quote, Tells}
use Rattle.mysql_queries.proofs.FirstBytes.{kind_tells}
use Rattle.mysql_digests.proofs.FirstTokens.{not_empty}
use Rattle.mysql_digests.proofs.Forms.{Forms, IsForm, literal_forms}
use Rattle.mysql_digests.proofs.Disputes.{LastAlike, apart_no_dollar, disputed_same, ends_tag, is_dollar, last_of_all}
use Rattle.mysql_digests.proofs.Disputes.{names, place_safe, plain_single, safe_agreed, safe_undisputed, tags_replaced}
use Rattle.mysql_digests.proofs.Lexing.{NoWord, agreed_end, agreed_on, cut_end, cut_on, no_word_tokens, operator_step}
use Rattle.mysql_digests.proofs.Lexing.{word_step}
use Rattle.mysql_digests.proofs.LiteralForms.{or_first, or_last}
use Rattle.mysql_digests.proofs.TokenKinds.{kind_stays}

-- no placeholder that stands alone comes right behind it
abbrev pub holds_off : Lexeme → Bool
holds_off Gap = false
holds_off Value = true
holds_off (Word bytes) = true
holds_off (Operator bytes) = false
holds_off (Identifier bytes) = true
holds_off (Byte b) = is_joining b || (b == dash)

-- what comes behind it makes no difference to it
abbrev pub Alike : Lexeme → List Lexeme → List Lexeme → Type 0
Alike l ls rest = (before : Before) → (is_left_out before l ls ≡ is_left_out before l rest) ×
    (before_next before l ls ≡ before_next before l rest)

-- Both lists go on alike, up to a value, in whose place the second has a form of one. None comes
-- where it is held off.
abbrev pub Same : (held_off : Bool) → List Lexeme → List Lexeme → Type 0
Same held_off [] ms = ms ≡ []
Same held_off (l ∷ ls) ms =
    ((rest : List Lexeme) × (ms ≡ l ∷ rest) × Alike l ls rest × Same (holds_off l) ls rest)
    ⊎ ((held_off ≡ false) × (l ≡ Value) × (form : List Lexeme) × IsForm form ×
    (rest : List Lexeme) × (ms ≡ form ++ rest) × Same true ls rest)

byte_apart : (p d : Bool) (b : ℕ) (ls : List Lexeme) (before : Before) → p || d ≡ false →
    (if is_exponent before && d && digit_follows ls then Power else (if p then Joined else Apart)) ≡
    Apart
byte_apart true d b ls before h = cc
byte_apart false true b ls before h = cc
byte_apart false false b ls Apart h = refl
byte_apart false false b ls Joined h = refl
byte_apart false false b ls Exponent h = refl
byte_apart false false b ls Power h = refl

apart_behind : (before : Before) (l : Lexeme) (ls : List Lexeme) → holds_off l ≡ false → before_next before l ls ≡ Apart
apart_behind before Gap ls h = refl
apart_behind before Value ls h = cc
apart_behind before (Word w) ls h = cc
apart_behind before (Operator w) ls h = refl
apart_behind before (Identifier w) ls h = cc
apart_behind before (Byte b) ls h = byte_apart (is_joining b) (b == dash) b ls before h

no_form : {A : Type 0} → true ≡ false → A
no_form e = cc

-- so both make the same pieces
pub same_pieces : (before : Before) (held_off : Bool) → (held_off ≡ false → before ≡ Apart) →
    (s : List Piece) (ls ms : List Lexeme) → Same held_off ls ms → pieces_behind before s ls ≡
    pieces_behind before s ms
same_pieces before held_off a s [] ms h = sym (ap (pieces_behind before s) h)
same_pieces before held_off a s (l ∷ ls) ms (inl (rest, e, g, k)) =
    ap (λ t. pieces_behind (before_next before l ls) (if t then s else with_lexeme l s) ls) (g before).0
    ∙ ap (λ n. pieces_behind n (if is_left_out before l rest then s else with_lexeme l s) ls) (g before).1
    ∙ same_pieces (before_next before l rest) (holds_off l) (apart_behind before l rest)
    (if is_left_out before l rest then s else with_lexeme l s) ls rest k
    ∙ sym (ap (pieces_behind before s) e)
same_pieces before held_off a s (l ∷ ls) ms (inr (f, v, form, i, rest, e, k)) =
    ap (λ y. pieces_behind y s (l ∷ ls)) (a f) ∙ ap (λ y. pieces_behind Apart s (y ∷ ls)) v ∙
    same_pieces Joined true (λ p. no_form p) (with_value s) ls rest k ∙ sym (i.pieces s rest)
    ∙ sym (ap (λ y. pieces_behind y s (form ++ rest)) (a f)) ∙ sym (ap (pieces_behind before s) e)

digit_head : (l : Lexeme) (x y : List Lexeme) → digit_follows (l ∷ x) ≡ digit_follows (l ∷ y)
digit_head Gap x y = refl
digit_head Value x y = refl
digit_head (Word []) x y = refl
digit_head (Word (b ∷ w)) x y = refl
digit_head (Operator w) x y = refl
digit_head (Identifier w) x y = refl
digit_head (Byte b) x y = refl

digit_same : (ls ms : List Lexeme) → Same true ls ms → digit_follows ls ≡ digit_follows ms
digit_same [] ms h = sym (ap digit_follows h)
digit_same (l ∷ ls) ms (inl (rest, e, g, k)) = digit_head l ls rest ∙ sym (ap digit_follows e)
digit_same (l ∷ ls) ms (inr h) = no_form h.0

value_head : (l : Lexeme) (x y : List Lexeme) → value_follows (l ∷ x) ≡ value_follows (l ∷ y)
value_head Gap x y = refl
value_head Value x y = refl
value_head (Word w) x y = refl
value_head (Operator w) x y = refl
value_head (Identifier w) x y = refl
value_head (Byte b) x y = refl

value_same : (ls ms : List Lexeme) → Same true ls ms → value_follows ls ≡ value_follows ms
value_same [] ms h = sym (ap value_follows h)
value_same (l ∷ ls) ms (inl (rest, e, g, k)) = value_head l ls rest ∙ sym (ap value_follows e)
value_same (l ∷ ls) ms (inr h) = no_form h.0

word_kept : (joined : Bool) (b : ℕ) (ls ms : List Lexeme) → Same true ls ms →
    Same joined (with_word_byte b ls) (with_word_byte b ms)
word_kept joined b [] ms h = inl ([], ap (with_word_byte b) h, (λ j. (refl, refl)), refl)
word_kept joined b (Gap ∷ ls) ms (inl (rest, e, g, k)) =
    inl (Gap ∷ rest, ap (with_word_byte b) e, (λ j. (refl, refl)), inl (rest, refl, g, k))
word_kept joined b (Value ∷ ls) ms (inl (rest, e, g, k)) =
    inl (Value ∷ rest, ap (with_word_byte b) e, (λ j. (refl, refl)), inl (rest, refl, g, k))
word_kept joined b (Word w ∷ ls) ms (inl (rest, e, g, k)) =
    inl (
      rest,
      ap (with_word_byte b) e,
      (λ j. (ap (λ v. is_power j || (is_string_prefix (b ∷ w) && v)) (value_same ls rest k), refl)),
      k,
    )
word_kept joined b (Operator w ∷ ls) ms (inl (rest, e, g, k)) =
    inl (Operator w ∷ rest, ap (with_word_byte b) e, (λ j. (refl, refl)), inl (rest, refl, g, k))
word_kept joined b (Identifier w ∷ ls) ms (inl (rest, e, g, k)) =
    inl (Identifier w ∷ rest, ap (with_word_byte b) e, (λ j. (refl, refl)), inl (rest, refl, g, k))
word_kept joined b (Byte c ∷ ls) ms (inl (rest, e, g, k)) =
    inl (Byte c ∷ rest, ap (with_word_byte b) e, (λ j. (refl, refl)), inl (rest, refl, g, k))
word_kept joined b (l ∷ ls) ms (inr h) = no_form h.0

operator_kept : (joined : Bool) (b : ℕ) (ls ms : List Lexeme) → Same false ls ms →
    Same joined (with_operator_byte b ls) (with_operator_byte b ms)
operator_kept joined b [] ms h = inl ([], ap (with_operator_byte b) h, (λ j. (refl, refl)), refl)
operator_kept joined b (Gap ∷ ls) ms (inl (rest, e, g, k)) =
    inl (Gap ∷ rest, ap (with_operator_byte b) e, (λ j. (refl, refl)), inl (rest, refl, g, k))
operator_kept joined b (Value ∷ ls) ms (inl (rest, e, g, k)) =
    inl (Value ∷ rest, ap (with_operator_byte b) e, (λ j. (refl, refl)), inl (rest, refl, g, k))
operator_kept joined b (Word w ∷ ls) ms (inl (rest, e, g, k)) =
    inl (Word w ∷ rest, ap (with_operator_byte b) e, (λ j. (refl, refl)), inl (rest, refl, g, k))
operator_kept joined b (Operator w ∷ ls) ms (inl (rest, e, g, k)) =
    inl (rest, ap (with_operator_byte b) e, (λ j. (refl, refl)), k)
operator_kept joined b (Identifier w ∷ ls) ms (inl (rest, e, g, k)) =
    inl (
      Identifier w ∷ rest,
      ap (with_operator_byte b) e,
      (λ j. (refl, refl)),
      inl (rest, refl, g, k),
    )
operator_kept joined b (Byte c ∷ ls) ms (inl (rest, e, g, k)) =
    inl (Byte c ∷ rest, ap (with_operator_byte b) e, (λ j. (refl, refl)), inl (rest, refl, g, k))
operator_kept joined b (l ∷ ls) ms (inr (f, v, form, i, rest, e, k)) =
    subst (λ y. Same joined (with_operator_byte b (y ∷ ls)) (with_operator_byte b ms)) (sym v)
    (inl (
      form ++ rest,
      ap (with_operator_byte b) e ∙ i.apart b rest,
      (λ j. (refl, refl)),
      inr (refl, refl, form, i, rest, refl, k),
    ))

no_word_same : (ls ms : List Lexeme) → Same true ls ms → NoWord ls → NoWord ms
no_word_same [] ms h n = subst NoWord (sym h) tt
no_word_same (l ∷ ls) ms (inl (rest, e, g, k)) n = subst NoWord (sym e) n
no_word_same (l ∷ ls) ms (inr h) n = no_form h.0

-- a placeholder comes first
abbrev pub begins_place : List (List ℕ) → Bool
begins_place [] = false
begins_place (t ∷ ts) = is_place t

place_kind : (b : ℕ) (x : List ℕ) (k : Kind) → Tells b x k → is_name_kind k || is_mark_kind k ≡
    true → (b ≡ colon) ⊎ (b ≡ question)
place_kind b x (Quoted q) h e = cc
place_kind b x LineComment h e = cc
place_kind b x BlockComment h e = cc
place_kind b x Opening h e = cc
place_kind b x Closing h e = cc
place_kind b x Name h e = inl h.0
place_kind b x Mark h e = inr h
place_kind b x Plain h e = cc

place_begins : (b : ℕ) (x : List ℕ) → is_place (b ∷ x) ≡ true → (b ≡ colon) ⊎ (b ≡ question)
place_begins b x h = place_kind b x (kind_of (b ∷ x)) (kind_tells b x) h

place_joins : (b : ℕ) (x : List ℕ) → is_place (b ∷ x) ≡ true → is_joining b ≡ true
place_joins b x h = elim (place_begins b x h) [ inl e ↦ ap is_joining e | inr e ↦ ap is_joining e ]

-- behind a placeholder that stands alone comes none
apart_no_place : (m : Mode) (ts : List (List ℕ)) → AreTokens m ts → BeginsApart (concat ts) → begins_place ts ≡ false
apart_no_place m [] i a = refl
apart_no_place m ([] ∷ ts) i a = absurd (not_empty m (concat ts) i.0)
apart_no_place m ((b ∷ x) ∷ ts) i a = elim (bool_tells (is_place (b ∷ x))) [
  | inl p ↦ no_form (sym (place_joins b x p) ∙ a)
  | inr p ↦ p
]

apart_no_word : (r : List ℕ) → BeginsApart r → EndsBefore is_word_byte r
apart_no_word [] a = tt
apart_no_word (b ∷ r) a = rw a refl

value_kind : (m : Mode) (k : Kind) (t : List ℕ) (ls : List Lexeme) → is_name_kind k ||
    is_mark_kind k ≡ true → with_token m k t ls ≡ Value ∷ ls
value_kind m (Quoted q) t ls h = cc
value_kind m LineComment t ls h = cc
value_kind m BlockComment t ls h = cc
value_kind m Opening t ls h = cc
value_kind m Closing t ls h = cc
value_kind m Name t ls h = refl
value_kind m Mark t ls h = refl
value_kind m Plain t ls h = cc

-- what is the same behind a token, whatever joins
abbrev pub SameBehind : Bool → List Lexeme → List Lexeme → Type 0
SameBehind place ls ms = (j : Bool) → (place ≡ true → j ≡ false) → Same j ls ms

and_none : (p d e : Bool) → (p && false && d) ≡ (p && false && e)
and_none true d e = refl
and_none false d e = refl

dash_alike : (b : ℕ) (p : Bool) (ls ms : List Lexeme) (place : Bool) → SameBehind place ls ms →
    (place ≡ true → IsApart b) → (p && (b == dash) && digit_follows ls) ≡
    (p && (b == dash) && digit_follows ms)
dash_alike b p ls ms place same apart = elim (eqb_tells b dash) [
  | inl e ↦ ap (λ d. p && (b == dash) && d) (digit_same ls ms (same true (λ q. absurd ((apart q).1 e.1))))
  | inr e ↦ (ap (λ d. p && d && digit_follows ls) e.0 ∙
      and_none p (digit_follows ls) (digit_follows ms) ∙
      sym (ap (λ d. p && d && digit_follows ms) e.0))
]

byte_alike : (b : ℕ) (ls ms : List Lexeme) (place : Bool) → SameBehind place ls ms →
    (place ≡ true → IsApart b) → Alike (Byte b) ls ms
byte_alike b ls ms place same apart before = (
  dash_alike b (may_sign before) ls ms place same apart,
  ap (λ d. if d then Power else (if is_joining b then Joined else Apart))
      (dash_alike b (is_exponent before) ls ms place same apart),
)

or_none : (p d : Bool) → p ≡ false → d ≡ false → (p || d) ≡ false
or_none p d h k = rw (h, k) refl

no_dash : (b : ℕ) → b ≢ dash → (b == dash) ≡ false
no_dash b n = elim (eqb_tells b dash) [ inl e ↦ absurd (n e.1) | inr e ↦ e.0 ]

off_apart : (b : ℕ) → IsApart b → holds_off (Byte b) ≡ false
off_apart b a = or_none (is_joining b) (b == dash) a.0 (no_dash b a.1)

byte_kept : (joined : Bool) (b : ℕ) (ls ms : List Lexeme) (place : Bool) → SameBehind place ls ms →
    (place ≡ true → IsApart b) → Same joined (with_byte b ls) (with_byte b ms)
byte_kept joined b ls ms place same apart = elim (bool_tells (is_word_byte b)) [
  | inl w ↦ subst (λ y. Same joined y (with_byte b ms)) (sym (word_step b ls w))
      (subst (Same joined (with_word_byte b ls)) (sym (word_step b ms w))
      (word_kept joined b ls ms (same true (λ p. no_form (sym (and_true (is_joining b) _ w).0 ∙ (apart p).0)))))
  | inr w ↦ elim (bool_tells (is_operator_byte b)) [
    | inl o ↦ subst (λ y. Same joined y (with_byte b ms)) (sym (operator_step b ls o))
        (subst (Same joined (with_operator_byte b ls)) (sym (operator_step b ms o))
        (operator_kept joined b ls ms (same false (λ p. refl))))
    | inr o ↦ elim (bool_tells (is_blank b)) [
      | inl k ↦ (let e : (x : List Lexeme) → with_byte b x ≡ Gap ∷ x = λ x. rw (w, o, k) refl in
          subst (λ y. Same joined y (with_byte b ms)) (sym (e ls))
          (inl (ms, e ms, (λ j. (refl, refl)), same false (λ p. refl))))
      | inr k ↦ (let e : (x : List Lexeme) → with_byte b x ≡ Byte b ∷ x = λ x. rw (w, o, k) refl in
          subst (λ y. Same joined y (with_byte b ms)) (sym (e ls))
          (inl (
            ms,
            e ms,
            byte_alike b ls ms place same apart,
            same (holds_off (Byte b)) (λ p. off_apart b (apart p)),
          )))
    ]
  ]
]

last_append : (last q : ℕ) (x : List ℕ) → last_of last (x ++ q ∷ []) ≡ q
last_append last q [] = refl
last_append last q (b ∷ x) = last_append b q x

-- no placeholder that stands alone comes behind a quoted token
quoted_no_place : (m : Mode) (q last : ℕ) (t : List ℕ) (ts : List (List ℕ)) → is_quote q ≡ true →
    IsQuoted (has_escapes m q) q t (concat ts) → AreTokens m ts →
    (begins_place ts ≡ true → IsApart (last_of last t)) → begins_place ts ≡ true → ⊥
quoted_no_place m q last t [] k h i a p = cc
quoted_no_place m q last t ([] ∷ ts) k h i a p = not_empty m (concat ts) i.0
quoted_no_place m q last t ((b ∷ x) ∷ ts) k h i a p = elim h.closes [
  | inl c ↦ (let body : List ℕ = flat_map (inside_bytes q) h.parts in
      let e : last_of last t ≡ q = ap (last_of last) h.spelled ∙
      ap (λ y. last_of last (q ∷ (body ++ y))) c.0 ∙ last_append q q body in
      let j : is_joining q ≡ true = or_first _ _ (or_last _ (is_quote q) k) in
      no_form (sym j ∙ sym (ap is_joining e) ∙ (a p).0))
  | inr c ↦ (let e : b ∷ (x ++ concat ts) ≡ [] = c.0 in cc)
]

quoted_kept : (joined c : Bool) (t : List ℕ) (ls ms : List Lexeme) → Same true ls ms →
    Same joined ((if c then Identifier t else Value) ∷ ls) ((if c then Identifier t else Value) ∷
    ms)
quoted_kept joined true t ls ms h = inl (ms, refl, (λ j. (refl, refl)), h)
quoted_kept joined false t ls ms h = inl (ms, refl, (λ j. (refl, refl)), h)

token_kept : (m : Mode) (joined : Bool) (last : ℕ) (k : Kind) (t : List ℕ) (ts : List (List ℕ))
    (ls ms : List Lexeme) → HasQuote k → HasShape m k t (concat ts) → AreTokens m ts →
    is_name_kind k || is_mark_kind k ≡ false
    → SameBehind (begins_place ts) ls ms → (begins_place ts ≡ true → IsApart (last_of last t)) →
    Same joined (with_token m k t ls) (with_token m k t ms)
token_kept m joined last (Quoted q) t ts ls ms hq h i p same apart =
    quoted_kept joined (quotes_identifier m q) t ls ms
    (same true (λ e. absurd (quoted_no_place m q last t ts hq h i apart e)))
token_kept m joined last LineComment t ts ls ms hq h i p same apart =
    inl (ms, refl, (λ j. (refl, refl)), same false (λ e. refl))
token_kept m joined last BlockComment t ts ls ms hq h i p same apart =
    inl (ms, refl, (λ j. (refl, refl)), same false (λ e. refl))
token_kept m joined last Opening t ts ls ms hq h i p same apart =
    inl (ms, refl, (λ j. (refl, refl)), same false (λ e. refl))
token_kept m joined last Closing t ts ls ms hq h i p same apart =
    inl (ms, refl, (λ j. (refl, refl)), same false (λ e. refl))
token_kept m joined last Name t ts ls ms hq h i p same apart = no_form p
token_kept m joined last Mark t ts ls ms hq h i p same apart = no_form p
token_kept m joined last Plain t ts ls ms hq (b, h) i p same apart =
    subst (λ y. Same joined (with_bytes y ls) (with_bytes y ms)) (sym h)
    (byte_kept joined b ls ms (begins_place ts) same (λ e. subst (λ y. IsApart (last_of last y)) h (apart e)))

apart_before : (last : ℕ) (ts : List (List ℕ)) → AloneFrom last ts → begins_place ts ≡ true → IsApart last
apart_before last [] a e = cc
apart_before last (t ∷ ts) a e = (a.0 e).0

tokens_behind : (m : Mode) (front ts : List (List ℕ)) → AreTokens m (front ++ ts) → AreTokens m ts
tokens_behind m [] ts i = i
tokens_behind m (t ∷ front) ts i = tokens_behind m front ts i.1

-- servers agree about a text over a query up to where they agree about the query
pub record SoFarSame (m : Mode) (place : Bool) (last other : ℕ) (ts us : List (List ℕ)) : Type 0 where
  pub lexemes : SameBehind place (lexemes_of m (agreed last ts)) (lexemes_of m (agreed other us))
  pub cut : is_cut last ts ≡ is_cut other us

none_same : (j : Bool) (ls ms : List Lexeme) → ls ≡ [] → ms ≡ [] → Same j ls ms
none_same j ls ms e f = subst (λ y. Same j y ms) (sym e) f

last_kept : (m : Mode) (last other : ℕ) (t r : List ℕ) → IsToken m t r → last_of last t ≡ last_of other t
last_kept m last other [] r i = absurd (not_empty m r i)
last_kept m last other (b ∷ x) r i = refl

tags_kept : (m : Mode) (sp : Spelling) (last : ℕ) (t : List ℕ) (ts : List (List ℕ))
    (cs : List Content) (us : List (List ℕ)) → IsToken m t (concat ts) → AreTokens m ts →
    AloneFrom (last_of last t) ts → Replaces m sp ts cs us → begins is_dollar t ≡ true →
    ends_tag (concat ts) ≡ ends_tag (concat us)
tags_kept m sp last [] ts cs us i k a h d = cc
tags_kept m sp last (b ∷ x) ts cs us i k a h d =
    let e : b ≡ dollar = same_number b dollar d in
    let n : x ≡ [] = plain_single m b x (concat ts) i (ap is_plain e) in
    tags_replaced m sp (last_of b x) ts cs us k a h (ap (λ y. is_joining (last_of b y)) n ∙ ap is_joining e)

pub same_tokens : (m : Mode) (sp : Spelling) (one : OneTokens) (last other : ℕ) (ts : List (List ℕ))
    (cs : List Content) (us : List (List ℕ)) → AreTokens m ts → AreTokens m us → AloneFrom last ts →
    LastAlike last other (concat ts) → Replaces m sp ts cs us →
    SoFarSame m (begins_place ts) last other ts us
same_tokens m sp one last other [] cs us i iu a la h = record {
  lexemes = λ j g. ap (λ y. lexemes_of m (agreed other y)) h.1;
  cut = sym (ap (is_cut other) h.1);
}
same_tokens m sp one last other (t ∷ ts) cs us i iu a la (inl (p, others, e, h)) =
    let both : AreTokens m (t ∷ others) = subst (AreTokens m) e iu in
    let same : is_disputed last t ts ≡ is_disputed other t others =
    disputed_same m last other t ts others i.0 both.0 la
    (tags_kept m sp last t ts cs others i.0 i.1 a.1 h) in
    subst (λ y. SoFarSame m (is_place t) last other (t ∷ ts) y) (sym e) (elim (bool_tells (is_disputed last t ts)) [
      | inl d ↦ record {
        lexemes = λ j g. none_same j (lexemes_of m (agreed last (t ∷ ts)))
            (lexemes_of m (agreed other (t ∷ others))) (ap (lexemes_of m) (agreed_end last t ts d))
            (ap (lexemes_of m) (agreed_end other t others (sym same ∙ d)));
        cut = cut_end last t ts d ∙ sym (cut_end other t others (sym same ∙ d));
      }
      | inr d ↦ (let s : SoFarSame m (begins_place ts) (last_of last t) (last_of other t) ts
          others = same_tokens m sp one (last_of last t) (last_of other t) ts cs others i.1 both.1
          a.1 (inl (ap names (last_kept m last other t (concat ts) i.0))) h in
          let k : kind_of t ≡ kind_of (t ++ concat ts) = kind_stays m t (concat ts) i.0 in
          record {
            lexemes = λ j g. subst (λ y. Same j y (lexemes_of m (agreed other (t ∷ others))))
                (sym (ap (lexemes_of m) (agreed_on last t ts d)))
                (subst (λ y. Same j (lexemes_of m (t ∷ agreed (last_of last t) ts)) y)
                (sym (ap (lexemes_of m) (agreed_on other t others (sym same ∙ d))))
                (token_kept m j last (kind_of t) t ts (lexemes_of m (agreed (last_of last t) ts))
                (lexemes_of m (agreed (last_of other t) others)) (kind_has_quote t)
                (subst (λ y. HasShape m y t (concat ts)) (sym k) i.0) i.1 p s.lexemes
                (apart_before (last_of last t) ts a.1)));
            cut = cut_on last t ts d ∙ s.cut ∙ sym (cut_on other t others (sym same ∙ d));
          })
    ])
same_tokens m sp one last other (t ∷ ts) cs us i iu a la
    (inr (p, content, next, literal, literals, others, ec, l, k, e, h)) =
    let d : is_disputed last t ts ≡ false = safe_undisputed last t ts (place_safe t p) in
    let f : Forms m literals = literal_forms m sp one literal content literals l k in
    let o = safe_agreed other literals others f.safe in
    let free : BeginsApart (concat ts) = (a.0 p).1 in
    let after : ℕ = last_of_all other literals in
    let s : SoFarSame m (begins_place ts) (last_of last t) after ts others =
    same_tokens m sp one (last_of last t) after ts next others i.1
    (tokens_behind m literals others (subst (AreTokens m) e iu)) a.1
    (inr (apart_no_dollar (concat ts) free)) h in
    let no_place : begins_place ts ≡ false = apart_no_place m ts i.1 free in
    let ls : List Lexeme = lexemes_of m (agreed (last_of last t) ts) in
    let ms : List Lexeme = lexemes_of m (agreed after others) in
    let same : Same true ls ms = s.lexemes true (λ b. no_form (sym b ∙ no_place)) in
    let no_word : NoWord ls =
    no_word_tokens m (last_of last t) (concat ts) ts (record { joined = refl; each = i.1 })
    (apart_no_word (concat ts) free) in
    let whole : lexemes_of m (agreed other us) ≡ f.form ++ ms =
    ap (λ y. lexemes_of m (agreed other y)) e ∙ ap (lexemes_of m) o.0 ∙
    f.stands (agreed after others) (no_word_same ls ms same no_word) in
    record {
      lexemes = λ j g. subst (λ y. Same j y (lexemes_of m (agreed other us)))
          (sym (ap (lexemes_of m) (agreed_on last t ts d) ∙ value_kind m (kind_of t) t ls p))
          (inr (g p, refl, f.form, f.is, ms, whole, same));
      cut = cut_on last t ts d ∙ s.cut ∙ sym o.1 ∙ sym (ap (is_cut other) e);
    }
