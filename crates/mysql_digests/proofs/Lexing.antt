-- What stands at the front of a text, by its bytes and by its first token.
use Rattle.std.proofs.Common.{if◌then◌else◌, cond, not, ◌≡◌, ◌≢◌, ◌⊎◌, ◌&&◌, ◌||◌, ◌==◌, ◌-◌, ◌≤◌, ℕ, zero, suc, Bool}
use Rattle.std.proofs.Common.{true, false, get_or, length-take-le, List, [], ◌∷◌, ◌++◌, map, take, drop, slice_index}
use Rattle.std.proofs.Common.{refl, sym, ap, ◌∙◌, inl, inr, subst, take-append-drop, ◌<◌, length, arith, ◌+◌, nat_lt}
use Rattle.std.proofs.lemmas.Bool.Decides.{nat_tests}
use Rattle.std.specs.List.{AllByRecursion, concat}
use Rattle.mysql_queries.specs.LiteralRuns.{EndsBefore}
use Rattle.mysql_queries.specs.Literals.{is_digit}
use Rattle.mysql_queries.specs.Scanning.{is_plain}
use Rattle.mysql_queries.specs.Tokens.{Kind, Quoted, LineComment, BlockComment, Opening, Closing, Name, Mark, Plain}
use Rattle.mysql_queries.specs.Tokens.{kind_of, HasShape, IsToken, HasTokens, quotes_identifier, bracket, dollar, slash}
use Rattle.mysql_queries.specs.Tokens.{star, exclamation, goes_on_as_block, goes_on_as_opening}
use Rattle.mysql_queries.specs.Alone.{begins, begins_dollar_quote, begins_for_mariadb, is_opening, is_opening_kind}
use Rattle.mysql_queries.specs.Alone.{is_read_otherwise, is_tag_byte, last_of}
use Rattle.mysql_bytes.specs.declared.mode.Mode.{Mode}
use Rattle.mysql_digests.specs.Digest.{Lexeme, Gap, Value, Word, Operator, Identifier, Byte, with_word_byte}
use Rattle.mysql_digests.specs.Digest.{with_operator_byte, with_byte, with_bytes, with_token, lexemes_of, agreed}
use Rattle.mysql_digests.specs.Digest.{is_cut, is_disputed, is_blank, is_word_byte, is_operator_byte, digit_follows}
use Rattle.mysql_digests.specs.Digest.{value_follows}
use Rattle.mysql_digests.specs.Lexemes.{BeginsWith, EndsWord, begins_disputed, first_is_digit, first_is_value}
use Rattle.mysql_digests.specs.Lexemes.{is_value_kind}
use Rattle.mysql_queries.proofs.FirstBytes.{and_true, bool_tells, kind_tells, or_cases, same_number, Tells}
use Rattle.mysql_queries.proofs.PlaceLists.{last_token}
use Rattle.mysql_digests.proofs.FirstTokens.{not_empty}
use Rattle.mysql_digests.proofs.TokenKinds.{apart_bytes, not_equal, blank_plain, kind_stays, plain_kind, plain_token}
use Rattle.mysql_digests.proofs.TokenKinds.{word_plain, operator_plain, digit_word, operator_no_word}

or_first : (p q : Bool) → p ≡ true → (p || q) ≡ true
or_first true q h = refl
or_first false q h = cc

or_last : (p q : Bool) → q ≡ true → (p || q) ≡ true
or_last true q h = refl
or_last false q h = h

pub before_or_here : (k i : ℕ) → k < i + 1 → (k < i) ⊎ (k ≡ i)
before_or_here k i h = elim (bool_tells (nat_lt k i))
    [ inl e ↦ inl (grind (arith, nat_tests)) | inr e ↦ inr (grind (arith, nat_tests)) ]

-- a token before a rest that has tokens
pub front : (m : Mode) (t r : List ℕ) (tokens : List (List ℕ)) → IsToken m t r →
    HasTokens m r tokens → HasTokens m (t ++ r) (t ∷ tokens)
front m t r tokens i h = record {
  joined = ap (λ y. t ++ y) h.joined;
  each =
      (subst (IsToken m t) (sym h.joined) i, h.each);
}

-- servers agree about a token where they agree about what begins the text there
pub undisputed : (m : Mode) (last : ℕ) (t r : List ℕ) (tokens : List (List ℕ)) → IsToken m t r →
    HasTokens m r tokens → begins_disputed last (t ++ r) ≡ false → is_disputed last t tokens ≡ false
undisputed m last t r tokens i h d =
    ap (λ y. is_read_otherwise last (t ++ y) || is_opening t) h.joined ∙
    ap (λ k. is_read_otherwise last (t ++ r) || is_opening_kind k) (kind_stays m t r i) ∙ d

pub disputed_there : (m : Mode) (last : ℕ) (t : List ℕ) (ts : List (List ℕ)) →
    IsToken m t (concat ts) → begins_disputed last (t ++ concat ts) ≡ is_disputed last t ts
disputed_there m last t ts i =
    ap (λ k. is_read_otherwise last (t ++ concat ts) || is_opening_kind k)
    (sym (kind_stays m t (concat ts) i))

pub agreed_on : (last : ℕ) (t : List ℕ) (ts : List (List ℕ)) → is_disputed last t ts ≡ false →
    agreed last (t ∷ ts) ≡ t ∷ agreed (last_of last t) ts
agreed_on last t ts d = rw d refl

pub agreed_end : (last : ℕ) (t : List ℕ) (ts : List (List ℕ)) → is_disputed last t ts ≡ true → agreed last (t ∷ ts) ≡ []
agreed_end last t ts d = rw d refl

pub cut_end : (last : ℕ) (t : List ℕ) (ts : List (List ℕ)) → is_disputed last t ts ≡ true → is_cut last (t ∷ ts) ≡ true
cut_end last t ts d = rw d refl

pub cut_on : (last : ℕ) (t : List ℕ) (ts : List (List ℕ)) → is_disputed last t ts ≡ false →
    is_cut last (t ∷ ts) ≡ is_cut (last_of last t) ts
cut_on last t ts d = rw d refl

-- a token that is one lexeme
pub token_lexeme : (m : Mode) (k : Kind) (last next : ℕ) (t r : List ℕ) (l : Lexeme) →
    IsToken m t r → kind_of (t ++ r) ≡ k → ((ls : List Lexeme) → with_token m k t ls ≡ l ∷ ls) →
    begins_disputed last (t ++ r) ≡ false → next ≡ last_of last t →
    BeginsWith m last (t ++ r) l next r
token_lexeme m k last next t r l i e f d n tokens h =
    let u : is_disputed last t tokens ≡ false = undisputed m last t r tokens i h d in (
      t ∷ tokens,
      front m t r tokens i h,
      ap (lexemes_of m) (agreed_on last t tokens u) ∙
          ap (λ (y : Kind). with_token m y t (lexemes_of m (agreed (last_of last t) tokens)))
          (kind_stays m t r i ∙ e) ∙ f (lexemes_of m (agreed (last_of last t) tokens))
          ∙ ap (λ j. l ∷ lexemes_of m (agreed j tokens)) (sym n),
      cut_on last t tokens u ∙ ap (λ j. is_cut j tokens) (sym n),
    )

-- bytes, each by itself
abbrev pub singles : List ℕ → List (List ℕ)
singles bytes = map (λ b. b ∷ []) bytes

pub singles_tokens : (m : Mode) (run r : List ℕ) (tokens : List (List ℕ)) →
    AllByRecursion (λ b. is_plain b ≡ true) run → HasTokens m r tokens →
    HasTokens m (run ++ r) (singles run ++ tokens)
singles_tokens m [] r tokens p h = h
singles_tokens m (b ∷ run) r tokens p h =
    front m (b ∷ []) (run ++ r) (singles run ++ tokens) (plain_token m b (run ++ r) p.0)
    (singles_tokens m run r tokens p.1 h)

-- servers agree about each of plain bytes, behind a byte
abbrev pub Calm : ℕ → List ℕ → List ℕ → Type 0
Calm last [] r = Unit {0}
Calm last (b ∷ run) r = (is_read_otherwise last (b ∷ (run ++ r)) ≡ false) × Calm b run r

pub singles_agreed : (m : Mode) (last : ℕ) (run r : List ℕ) (tokens : List (List ℕ)) →
    AllByRecursion (λ b. is_plain b ≡ true) run → Calm last run r → HasTokens m r tokens
    → (agreed last (singles run ++ tokens) ≡ singles run ++ agreed (last_of last run) tokens) ×
    (is_cut last (singles run ++ tokens) ≡ is_cut (last_of last run) tokens)
singles_agreed m last [] r tokens p c h = (refl, refl)
singles_agreed m last (b ∷ run) r tokens p c h =
    let k : HasTokens m (run ++ r) (singles run ++ tokens) = singles_tokens m run r tokens p.1 h in
    let d : begins_disputed last (b ∷ (run ++ r)) ≡ false =
    ap (λ x. x || is_opening_kind (kind_of (b ∷ (run ++ r)))) c.0 ∙
    ap is_opening_kind (plain_kind b (run ++ r) p.0) in
    let u : is_disputed last (b ∷ []) (singles run ++ tokens) ≡ false =
    undisputed m last (b ∷ []) (run ++ r) (singles run ++
    tokens) (plain_token m b (run ++ r) p.0) k d in
    let o = singles_agreed m b run r tokens p.1 c.1 h in (
      agreed_on last (b ∷ []) (singles run ++ tokens) u ∙ ap (λ y. (b ∷ []) ∷ y) o.0,
      cut_on last (b ∷ []) (singles run ++ tokens) u ∙ o.1,
    )

pub singles_lexemes : (m : Mode) (run : List ℕ) (tokens : List (List ℕ)) →
    AllByRecursion (λ b. is_plain b ≡ true) run → lexemes_of m (singles run ++ tokens) ≡
    with_bytes run (lexemes_of m tokens)
singles_lexemes m [] tokens p = refl
singles_lexemes m (b ∷ run) tokens p =
    ap (λ (y : Kind). with_token m y (b ∷ []) (lexemes_of m (singles run ++ tokens)))
    (plain_kind b [] p.0) ∙ ap (with_byte b) (singles_lexemes m run tokens p.1)

-- no word comes first, or no operator
abbrev pub IsNoWord : Lexeme → Type 0
IsNoWord Gap = Unit {0}
IsNoWord Value = Unit {0}
IsNoWord (Word bytes) = ⊥
IsNoWord (Operator bytes) = Unit {0}
IsNoWord (Identifier bytes) = Unit {0}
IsNoWord (Byte b) = Unit {0}

abbrev pub NoWord : List Lexeme → Type 0
NoWord [] = Unit {0}
NoWord (l ∷ ls) = IsNoWord l

abbrev pub NoOperator : List Lexeme → Type 0
NoOperator ls = (b : ℕ) → with_operator_byte b ls ≡ Operator (b ∷ []) ∷ ls

pub no_word_first : (b : ℕ) (ls : List Lexeme) → NoWord ls → with_word_byte b ls ≡ Word (b ∷ []) ∷ ls
no_word_first b [] h = refl
no_word_first b (Gap ∷ ls) h = refl
no_word_first b (Value ∷ ls) h = refl
no_word_first b (Word x ∷ ls) h = absurd h
no_word_first b (Operator x ∷ ls) h = refl
no_word_first b (Identifier x ∷ ls) h = refl
no_word_first b (Byte x ∷ ls) h = refl

pub word_step : (b : ℕ) (ls : List Lexeme) → is_word_byte b ≡ true → with_byte b ls ≡ with_word_byte b ls
word_step b ls h = rw h refl

pub operator_step : (b : ℕ) (ls : List Lexeme) → is_operator_byte b ≡ true → with_byte b ls ≡ with_operator_byte b ls
operator_step b ls h = rw (operator_no_word b h, h) refl

pub word_bytes : (b : ℕ) (run : List ℕ) (ls : List Lexeme) →
    AllByRecursion (λ c. is_word_byte c ≡ true) (b ∷ run) → NoWord ls → with_bytes (b ∷ run) ls ≡
    Word (b ∷ run) ∷ ls
word_bytes b [] ls p n = word_step b ls p.0 ∙ no_word_first b ls n
word_bytes b (c ∷ run) ls p n = ap (with_byte b) (word_bytes c run ls p.1 n) ∙ word_step b (Word (c ∷ run) ∷ ls) p.0

pub operator_bytes : (b : ℕ) (run : List ℕ) (ls : List Lexeme) →
    AllByRecursion (λ c. is_operator_byte c ≡ true) (b ∷ run) → NoOperator ls →
    with_bytes (b ∷ run) ls ≡ Operator (b ∷ run) ∷ ls
operator_bytes b [] ls p n = operator_step b ls p.0 ∙ n b
operator_bytes b (c ∷ run) ls p n = ap (with_byte b) (operator_bytes c run ls p.1 n) ∙
    operator_step b (Operator (c ∷ run) ∷ ls) p.0

-- what is no word and no operator
abbrev pub IsSingle : Lexeme → Type 0
IsSingle Gap = Unit {0}
IsSingle Value = Unit {0}
IsSingle (Word bytes) = ⊥
IsSingle (Operator bytes) = ⊥
IsSingle (Identifier bytes) = Unit {0}
IsSingle (Byte b) = Unit {0}

-- a fact of what a plain byte makes, by its class
byte_first : (P : List Lexeme → Type 0) (b : ℕ) (ls : List Lexeme) →
    (is_word_byte b ≡ true → P (with_word_byte b ls)) →
    (is_word_byte b ≡ false → is_operator_byte b ≡ true → P (with_operator_byte b ls))
    → (is_word_byte b ≡ false → (l : Lexeme) → IsSingle l → P (l ∷ ls)) → P (with_byte b ls)
byte_first P b ls f g h = elim (bool_tells (is_word_byte b)) [
  | inl w ↦ subst P (sym (word_step b ls w)) (f w)
  | inr w ↦ elim (bool_tells (is_operator_byte b)) [
    | inl o ↦ subst P (sym (operator_step b ls o)) (g w o)
    | inr o ↦ elim (bool_tells (is_blank b)) [
      | inl k ↦ (let e : with_byte b ls ≡ Gap ∷ ls = rw (w, o, k) refl in subst P (sym e) (h w Gap tt))
      | inr k ↦ (let e : with_byte b ls ≡ Byte b ∷ ls = rw (w, o, k) refl in subst P (sym e) (h w (Byte b) tt))
    ]
  ]
]

quoted_first : (P : List Lexeme → Type 0) (c : Bool) (t : List ℕ) (ls : List Lexeme) →
    ((l : Lexeme) → IsSingle l → P (l ∷ ls)) → P ((if c then Identifier t else Value) ∷ ls)
quoted_first P true t ls h = h (Identifier t) tt
quoted_first P false t ls h = h Value tt

other_first : (P : List Lexeme → Type 0) (m : Mode) (k : Kind) (b : ℕ) (x r : List ℕ)
    (ls : List Lexeme) → HasShape m k (b ∷ x) r → is_word_byte b ≡ false →
    (is_operator_byte b ≡ true → P (with_operator_byte b ls))
    → ((l : Lexeme) → IsSingle l → P (l ∷ ls)) → P (with_token m k (b ∷ x) ls)
other_first P m (Quoted q) b x r ls i w g h = quoted_first P (quotes_identifier m q) (b ∷ x) ls h
other_first P m LineComment b x r ls i w g h = h Gap tt
other_first P m BlockComment b x r ls i w g h = h Gap tt
other_first P m Opening b x r ls i w g h = h Gap tt
other_first P m Closing b x r ls i w g h = h Gap tt
other_first P m Name b x r ls i w g h = h Value tt
other_first P m Mark b x r ls i w g h = h Value tt
other_first P m Plain b x r ls (c, e) w g h =
    let f : x ≡ [] = cc in
    subst (λ y. P (with_bytes (b ∷ y) ls)) (sym f)
    (byte_first P b ls (λ k. let z : true ≡ false = sym k ∙ w in
    cc) (λ k o. g o) (λ k l s. h l s))

-- a fact of what a token makes, by the class of its first byte
pub token_first : (P : List Lexeme → Type 0) (m : Mode) (b : ℕ) (x r : List ℕ) (ls : List Lexeme) →
    IsToken m (b ∷ x) r → (is_word_byte b ≡ true → P (with_word_byte b ls)) →
    (is_word_byte b ≡ false → is_operator_byte b ≡ true → P (with_operator_byte b ls))
    → (is_word_byte b ≡ false → (l : Lexeme) → IsSingle l → P (l ∷ ls)) → P (with_token m (kind_of (b ∷ x)) (b ∷ x) ls)
token_first P m b x r ls i f g h = elim (bool_tells (is_word_byte b)) [
  | inl w ↦ (let k : kind_of (b ∷ (x ++ r)) ≡ Plain = plain_kind b (x ++ r) (word_plain b w) in
      let s : HasShape m Plain (b ∷ x) r = subst (λ y. HasShape m y (b ∷ x) r) k i in
      let e : x ≡ [] = (let q : b ∷ x ≡ s.0 ∷ [] = s.1 in cc) in
      let n : with_token m (kind_of (b ∷ x)) (b ∷ x) ls ≡ with_word_byte b ls =
      ap (λ y. with_token m y (b ∷ x) ls) (plain_kind b x (word_plain b w)) ∙
      ap (λ y. with_bytes (b ∷ y) ls) e ∙ word_step b ls w in
      subst P (sym n) (f w))
  | inr w ↦ other_first P m (kind_of (b ∷ x)) b x r ls
      (subst (λ y. HasShape m y (b ∷ x) r) (sym (kind_stays m (b ∷ x) r i)) i) w (g w) (h w)
]

operator_no_word_first : (b : ℕ) (ls : List Lexeme) → NoWord (with_operator_byte b ls)
operator_no_word_first b [] = tt
operator_no_word_first b (Gap ∷ ls) = tt
operator_no_word_first b (Value ∷ ls) = tt
operator_no_word_first b (Word x ∷ ls) = tt
operator_no_word_first b (Operator x ∷ ls) = tt
operator_no_word_first b (Identifier x ∷ ls) = tt
operator_no_word_first b (Byte x ∷ ls) = tt

word_no_operator_first : (b : ℕ) (ls : List Lexeme) → NoOperator (with_word_byte b ls)
word_no_operator_first b [] c = refl
word_no_operator_first b (Gap ∷ ls) c = refl
word_no_operator_first b (Value ∷ ls) c = refl
word_no_operator_first b (Word x ∷ ls) c = refl
word_no_operator_first b (Operator x ∷ ls) c = refl
word_no_operator_first b (Identifier x ∷ ls) c = refl
word_no_operator_first b (Byte x ∷ ls) c = refl

single_no_word : (ls : List Lexeme) (l : Lexeme) → IsSingle l → NoWord (l ∷ ls)
single_no_word ls Gap s = tt
single_no_word ls Value s = tt
single_no_word ls (Word x) s = absurd s
single_no_word ls (Operator x) s = absurd s
single_no_word ls (Identifier x) s = tt
single_no_word ls (Byte x) s = tt

single_no_operator : (ls : List Lexeme) (l : Lexeme) → IsSingle l → NoOperator (l ∷ ls)
single_no_operator ls Gap s b = refl
single_no_operator ls Value s b = refl
single_no_operator ls (Word x) s b = absurd s
single_no_operator ls (Operator x) s b = absurd s
single_no_operator ls (Identifier x) s b = refl
single_no_operator ls (Byte x) s b = refl

-- a fact of what stands in a text behind a byte, as far as servers agree
pub agreed_first : (P : List Lexeme → Type 0) (m : Mode) (last b : ℕ) (x : List ℕ)
    (ts : List (List ℕ)) → (is_disputed last (b ∷ x) ts ≡ true → P []) →
    P (with_token m (kind_of (b ∷ x)) (b ∷ x) (lexemes_of m (agreed (last_of b x) ts))) →
    P (lexemes_of m (agreed last ((b ∷ x) ∷ ts)))
agreed_first P m last b x ts f g = elim (bool_tells (is_disputed last (b ∷ x) ts)) [
  | inl d ↦ subst P (sym (ap (lexemes_of m) (agreed_end last (b ∷ x) ts d))) (f d)
  | inr d ↦ subst P (sym (ap (lexemes_of m) (agreed_on last (b ∷ x) ts d))) g
]

pub no_word_tokens : (m : Mode) (last : ℕ) (r : List ℕ) (tokens : List (List ℕ)) →
    HasTokens m r tokens → EndsBefore is_word_byte r → NoWord (lexemes_of m (agreed last tokens))
no_word_tokens m last r [] h e = tt
no_word_tokens m last r ([] ∷ tokens) h e = absurd (not_empty m (concat tokens) h.each.0)
no_word_tokens m last r ((b ∷ x) ∷ tokens) h e =
    let n : is_word_byte b ≡ false = subst (EndsBefore is_word_byte) (sym h.joined) e in
    let ls : List Lexeme = lexemes_of m (agreed (last_of b x) tokens) in
    agreed_first NoWord m last b x tokens (λ d. tt)
    (token_first NoWord m b x (concat tokens) ls h.each.0 (λ w. let z : true ≡ false = sym w ∙ n in
    cc) (λ w o. operator_no_word_first b ls) (λ w l s. single_no_word ls l s))

-- where a dollar quote begins servers disagree
dollar_ends : (m : Mode) (last : ℕ) (r : List ℕ) (tokens : List (List ℕ)) → HasTokens m r tokens →
    begins_dollar_quote last r ≡ true → NoWord (lexemes_of m (agreed last tokens))
dollar_ends m last r [] h e = tt
dollar_ends m last r (t ∷ tokens) h e =
    let f : begins_dollar_quote last (t ++ concat tokens) ≡ true = ap (begins_dollar_quote last) h.joined ∙ e in
    let d : is_disputed last t tokens ≡ true =
    or_first _ (is_opening t)
    (or_first _ (begins_for_mariadb (t ++ concat tokens))
    (or_last (begins (λ c. c == bracket) (t ++ concat tokens))
    (begins_dollar_quote last (t ++ concat tokens)) f)) in
    subst NoWord (sym (ap (lexemes_of m) (agreed_end last t tokens d))) tt

pub word_ends : (m : Mode) (last : ℕ) (r : List ℕ) (tokens : List (List ℕ)) → HasTokens m r tokens →
    EndsWord last r → NoWord (lexemes_of m (agreed last tokens))
word_ends m last r tokens h (inl e) = no_word_tokens m last r tokens h e
word_ends m last r tokens h (inr e) = dollar_ends m last r tokens h e

pub no_operator_tokens : (m : Mode) (last : ℕ) (r : List ℕ) (tokens : List (List ℕ)) →
    HasTokens m r tokens → EndsBefore is_operator_byte r →
    NoOperator (lexemes_of m (agreed last tokens))
no_operator_tokens m last r [] h e = λ b. refl
no_operator_tokens m last r ([] ∷ tokens) h e = absurd (not_empty m (concat tokens) h.each.0)
no_operator_tokens m last r ((b ∷ x) ∷ tokens) h e =
    let n : is_operator_byte b ≡ false = subst (EndsBefore is_operator_byte) (sym h.joined) e in
    let ls : List Lexeme = lexemes_of m (agreed (last_of b x) tokens) in
    agreed_first NoOperator m last b x tokens (λ d c. refl)
    (token_first NoOperator m b x (concat tokens) ls h.each.0 (λ w. word_no_operator_first b ls)
    (λ w o. let z : true ≡ false = sym o ∙ n in cc) (λ w l s. single_no_operator ls l s))

digit_word_first : (b : ℕ) (ls : List Lexeme) → digit_follows (with_word_byte b ls) ≡ is_digit b
digit_word_first b [] = refl
digit_word_first b (Gap ∷ ls) = refl
digit_word_first b (Value ∷ ls) = refl
digit_word_first b (Word x ∷ ls) = refl
digit_word_first b (Operator x ∷ ls) = refl
digit_word_first b (Identifier x ∷ ls) = refl
digit_word_first b (Byte x ∷ ls) = refl

digit_operator_first : (b : ℕ) (ls : List Lexeme) → digit_follows (with_operator_byte b ls) ≡ false
digit_operator_first b [] = refl
digit_operator_first b (Gap ∷ ls) = refl
digit_operator_first b (Value ∷ ls) = refl
digit_operator_first b (Word x ∷ ls) = refl
digit_operator_first b (Operator x ∷ ls) = refl
digit_operator_first b (Identifier x ∷ ls) = refl
digit_operator_first b (Byte x ∷ ls) = refl

digit_single_first : (ls : List Lexeme) (l : Lexeme) → IsSingle l → digit_follows (l ∷ ls) ≡ false
digit_single_first ls Gap s = refl
digit_single_first ls Value s = refl
digit_single_first ls (Word x) s = absurd s
digit_single_first ls (Operator x) s = absurd s
digit_single_first ls (Identifier x) s = refl
digit_single_first ls (Byte x) s = refl

no_digit : (b : ℕ) → is_word_byte b ≡ false → is_digit b ≡ false
no_digit b w = elim (bool_tells (is_digit b))
    [ inl d ↦ (let z : true ≡ false = sym (digit_word b d) ∙ w in cc) | inr d ↦ d ]

-- what begins where servers disagree
pub disputed_byte : (last b : ℕ) (x : List ℕ) (ts : List (List ℕ)) → is_disputed last (b ∷ x) ts ≡
    true → (b ≡ bracket) ⊎ ((b ≡ dollar) ⊎ (b ≡ slash))
disputed_byte last b x ts d = elim (or_cases (is_read_otherwise last (b ∷ (x ++ concat ts))) (is_opening (b ∷ x)) d) [
  | inr o ↦ inr (inr (opened (kind_of (b ∷ x)) (kind_tells b x) o))
  | inl r ↦ elim (or_cases ((b == bracket) || begins_dollar_quote last (b ∷ (x ++ concat ts)))
      (begins_for_mariadb (b ∷ (x ++ concat ts))) r) [
        | inr m ↦ inr (inr (mariadb b (x ++ concat ts) m))
        | inl q ↦ elim (or_cases (b == bracket) (begins_dollar_quote last (b ∷ (x ++ concat ts))) q) [
          | inl e ↦ inl (same_number b bracket e)
          | inr e ↦ inr (inl (same_number b dollar
              (and_true (b == dollar) _
              (and_true ((b == dollar) && not (is_tag_byte last || (last == dollar))) _ e).0).0))
        ]
      ]
]
  where
    opened : (k : Kind) → Tells b x k → is_opening_kind k ≡ true → b ≡ slash
    opened (Quoted q) t h = cc
    opened LineComment t h = cc
    opened BlockComment t h = cc
    opened Opening t h = t.0
    opened Closing t h = cc
    opened Name t h = cc
    opened Mark t h = cc
    opened Plain t h = cc

    mariadb : (b : ℕ) (y : List ℕ) → begins_for_mariadb (b ∷ y) ≡ true → b ≡ slash
    mariadb b [] h = cc
    mariadb b (c ∷ []) h = cc
    mariadb b (c ∷ d ∷ []) h = cc
    mariadb b (c ∷ d ∷ e ∷ y) h =
        same_number b slash (and_true (b == slash) (c == star)
        (and_true ((b == slash) && (c == star)) (d == 0x4d)
        (and_true ((b == slash) && (c == star) && (d == 0x4d)) (e == exclamation) h).0).0).0

disputed_no_digit : (b : ℕ) → (b ≡ bracket) ⊎ ((b ≡ dollar) ⊎ (b ≡ slash)) → false ≡ is_digit b
disputed_no_digit b (inl e) = rw e refl
disputed_no_digit b (inr (inl e)) = rw e refl
disputed_no_digit b (inr (inr e)) = rw e refl

-- a digit comes first in a text where it comes first in what stands there
pub digit_tokens : (m : Mode) (last : ℕ) (r : List ℕ) (tokens : List (List ℕ)) →
    HasTokens m r tokens → digit_follows (lexemes_of m (agreed last tokens)) ≡ first_is_digit r
digit_tokens m last r [] h = ap first_is_digit h.joined
digit_tokens m last r ([] ∷ tokens) h = absurd (not_empty m (concat tokens) h.each.0)
digit_tokens m last r ((b ∷ x) ∷ tokens) h =
    let ls : List Lexeme = lexemes_of m (agreed (last_of b x) tokens) in
    agreed_first (λ l. digit_follows l ≡ is_digit b) m last b x tokens
    (λ d. disputed_no_digit b (disputed_byte last b x tokens d))
    (token_first (λ l. digit_follows l ≡ is_digit b) m b x (concat tokens) ls h.each.0 (λ w. digit_word_first b ls)
    (λ w o. digit_operator_first b ls ∙ sym (no_digit b w)) (λ w l s. digit_single_first ls l s ∙ sym (no_digit b w)))
    ∙ ap first_is_digit h.joined

value_byte_first : (b : ℕ) (ls : List Lexeme) → value_follows (with_byte b ls) ≡ false
value_byte_first b ls = elim (bool_tells (is_word_byte b)) [
  | inl w ↦ ap value_follows (word_step b ls w) ∙ in_word ls
  | inr w ↦ elim (bool_tells (is_operator_byte b)) [
    | inl o ↦ ap value_follows (operator_step b ls o) ∙ in_operator ls
    | inr o ↦ elim (bool_tells (is_blank b)) [
      | inl k ↦ rw (w, o, k) refl
      | inr k ↦ rw (w, o, k) refl
    ]
  ]
]
  where
    in_word : (ls : List Lexeme) → value_follows (with_word_byte b ls) ≡ false
    in_word [] = refl
    in_word (Gap ∷ ls) = refl
    in_word (Value ∷ ls) = refl
    in_word (Word x ∷ ls) = refl
    in_word (Operator x ∷ ls) = refl
    in_word (Identifier x ∷ ls) = refl
    in_word (Byte x ∷ ls) = refl

    in_operator : (ls : List Lexeme) → value_follows (with_operator_byte b ls) ≡ false
    in_operator [] = refl
    in_operator (Gap ∷ ls) = refl
    in_operator (Value ∷ ls) = refl
    in_operator (Word x ∷ ls) = refl
    in_operator (Operator x ∷ ls) = refl
    in_operator (Identifier x ∷ ls) = refl
    in_operator (Byte x ∷ ls) = refl

value_quoted_first : (c : Bool) (t : List ℕ) (ls : List Lexeme) →
    value_follows ((if c then Identifier t else Value) ∷ ls) ≡ not c
value_quoted_first true t ls = refl
value_quoted_first false t ls = refl

value_kind_first : (m : Mode) (k : Kind) (t r : List ℕ) (ls : List Lexeme) → HasShape m k t r →
    value_follows (with_token m k t ls) ≡ is_value_kind m k
value_kind_first m (Quoted q) t r ls h = value_quoted_first (quotes_identifier m q) t ls
value_kind_first m LineComment t r ls h = refl
value_kind_first m BlockComment t r ls h = refl
value_kind_first m Opening t r ls h = refl
value_kind_first m Closing t r ls h = refl
value_kind_first m Name t r ls h = refl
value_kind_first m Mark t r ls h = refl
value_kind_first m Plain t r ls (b, h) = ap (λ y. value_follows (with_bytes y ls)) h ∙ value_byte_first b ls

slash_no_value : (m : Mode) (l o : Bool) → false ≡ is_value_kind m (cond l BlockComment (cond o Opening Plain))
slash_no_value m true o = refl
slash_no_value m false true = refl
slash_no_value m false false = refl

disputed_no_value : (m : Mode) (b : ℕ) (y : List ℕ) → (b ≡ bracket) ⊎ ((b ≡ dollar) ⊎ (b ≡ slash)) →
    false ≡ is_value_kind m (kind_of (b ∷ y))
disputed_no_value m b y (inl e) = sym (ap (λ c. is_value_kind m (kind_of (c ∷ y))) e)
disputed_no_value m b y (inr (inl e)) = sym (ap (λ c. is_value_kind m (kind_of (c ∷ y))) e)
disputed_no_value m b y (inr (inr e)) =
    slash_no_value m (goes_on_as_block y) (goes_on_as_opening y) ∙
    sym (ap (λ c. is_value_kind m (kind_of (c ∷ y))) e)

-- a value comes first in a text where it comes first in what stands there
pub value_tokens : (m : Mode) (last : ℕ) (r : List ℕ) (tokens : List (List ℕ)) →
    HasTokens m r tokens → value_follows (lexemes_of m (agreed last tokens)) ≡ first_is_value m r
value_tokens m last r [] h = ap (first_is_value m) h.joined
value_tokens m last r ([] ∷ tokens) h = absurd (not_empty m (concat tokens) h.each.0)
value_tokens m last r ((b ∷ x) ∷ tokens) h =
    let ls : List Lexeme = lexemes_of m (agreed (last_of b x) tokens) in
    let k : kind_of (b ∷ x) ≡ kind_of (b ∷ (x ++ concat tokens)) = kind_stays m (b ∷ x) (concat tokens) h.each.0 in
    agreed_first (λ l. value_follows l ≡ is_value_kind m (kind_of (b ∷ (x ++ concat tokens)))) m
    last b x tokens (λ d. disputed_no_value m b (x ++
    concat tokens) (disputed_byte last b x tokens d))
    (value_kind_first m (kind_of (b ∷ x)) (b ∷ x) (concat tokens) ls
    (subst (λ y. HasShape m y (b ∷ x) (concat tokens)) (sym k) h.each.0) ∙
    ap (is_value_kind m) k)
    ∙ ap (first_is_value m) h.joined

pub all_plain : (run : List ℕ) → AllByRecursion (λ b. is_word_byte b ≡ true) run →
    AllByRecursion (λ b. is_plain b ≡ true) run
all_plain [] p = tt
all_plain (b ∷ run) p = (word_plain b p.0, all_plain run p.1)

all_plain_operators : (run : List ℕ) → AllByRecursion (λ b. is_operator_byte b ≡ true) run →
    AllByRecursion (λ b. is_plain b ≡ true) run
all_plain_operators [] p = tt
all_plain_operators (b ∷ run) p = (operator_plain b p.0, all_plain_operators run p.1)

pub no_mariadb : (b : ℕ) (x : List ℕ) → b ≢ slash → begins_for_mariadb (b ∷ x) ≡ false
no_mariadb b [] n = refl
no_mariadb b (c ∷ []) n = refl
no_mariadb b (c ∷ d ∷ []) n = refl
no_mariadb b (c ∷ d ∷ e ∷ x) n = rw (not_equal b slash n) refl

-- nothing but a dollar quote is read otherwise that begins with a byte of a word
calm_word : (last b : ℕ) (y : List ℕ) → is_word_byte b ≡ true → begins_dollar_quote last (b ∷ y) ≡
    false → is_read_otherwise last (b ∷ y) ≡ false
calm_word last b y w d = rw (
  not_equal b bracket (apart_bytes is_word_byte b bracket w refl),
  d,
) (no_mariadb b y (apart_bytes is_word_byte b slash w refl))

calm_operator : (last b : ℕ) (y : List ℕ) → is_operator_byte b ≡ true → is_read_otherwise last (b ∷ y) ≡ false
calm_operator last b y w =
    rw (
      not_equal b bracket (apart_bytes is_operator_byte b bracket w refl),
      not_equal b dollar (apart_bytes is_operator_byte b dollar w refl),
    )
    (no_mariadb b y (apart_bytes is_operator_byte b slash w refl))

calm_operators : (last : ℕ) (run r : List ℕ) → AllByRecursion (λ b. is_operator_byte b ≡ true) run → Calm last run r
calm_operators last [] r p = tt
calm_operators last (b ∷ run) r p = (calm_operator last b (run ++ r) p.0, calm_operators b run r p.1)

word_lexeme : (m : Mode) (last : ℕ) (run r : List ℕ) → 0 < length run →
    AllByRecursion (λ b. is_word_byte b ≡ true) run → Calm last run r →
    EndsWord (last_of last run) r → BeginsWith m last (run ++ r) (Word run) (last_of last run) r
word_lexeme m last [] r s p c e tokens h = absurd (omega arith)
word_lexeme m last (b ∷ run) r s p c e tokens h =
    let o = singles_agreed m last (b ∷ run) r tokens (all_plain (b ∷ run) p) c h in (
      singles (b ∷ run) ++ tokens,
      singles_tokens m (b ∷ run) r tokens (all_plain (b ∷ run) p) h,
      ap (lexemes_of m) o.0 ∙ singles_lexemes m (b ∷ run) (agreed (last_of b run) tokens)
          (all_plain (b ∷ run) p) ∙
          word_bytes b run (lexemes_of m (agreed (last_of b run) tokens)) p
          (word_ends m (last_of b run) r tokens h e),
      o.1,
    )

operator_lexeme : (m : Mode) (last : ℕ) (run r : List ℕ) → 0 < length run →
    AllByRecursion (λ b. is_operator_byte b ≡ true) run → EndsBefore is_operator_byte r →
    BeginsWith m last (run ++ r) (Operator run) (last_of last run) r
operator_lexeme m last [] r s p e tokens h = absurd (omega arith)
operator_lexeme m last (b ∷ run) r s p e tokens h =
    let o = singles_agreed m last (b ∷ run) r tokens (all_plain_operators (b ∷ run) p)
    (calm_operators last (b ∷ run) r p) h in (
      singles (b ∷ run) ++ tokens,
      singles_tokens m (b ∷ run) r tokens (all_plain_operators (b ∷ run) p) h,
      ap (lexemes_of m) o.0 ∙ singles_lexemes m (b ∷ run) (agreed (last_of b run) tokens)
          (all_plain_operators (b ∷ run) p) ∙
          operator_bytes b run (lexemes_of m (agreed (last_of b run) tokens)) p
          (no_operator_tokens m (last_of b run) r tokens h e),
      o.1,
    )

-- the same of a text's first bytes
some_taken : (n : ℕ) (text : List ℕ) → 0 < n → 0 < length text → 0 < length (take n text)
some_taken zero text h k = absurd (omega arith)
some_taken (suc n) [] h k = absurd (omega arith)
some_taken (suc n) (b ∷ text) h k = omega arith

-- words in which no dollar quote begins
calm_words : (last : ℕ) (run r : List ℕ) → AllByRecursion (λ b. is_word_byte b ≡ true) run →
    begins_dollar_quote last (run ++ r) ≡ false
    → ((k : ℕ) → 0 < k → k < length run →
    begins_dollar_quote (get_or (run ++ r) (k - 1) 0) (drop k (run ++ r)) ≡ false) →
    Calm last run r
calm_words last [] r p d f = tt
calm_words last (b ∷ []) r p d f = (calm_word last b r p.0 d, tt)
calm_words last (b ∷ c ∷ run) r p d f =
    let here : begins_dollar_quote b (c ∷ (run ++ r)) ≡ false = f 1 (omega arith) (omega arith) in
    (calm_word last b (c ∷ (run ++ r)) p.0 d, calm_words b (c ∷ run) r p.1 here (λ k some below. onward k some below))
  where
    onward : (k : ℕ) → 0 < k → k < length (c ∷ run) →
        begins_dollar_quote (get_or (c ∷ (run ++ r)) (k - 1) 0) (drop k (c ∷ (run ++ r))) ≡ false
    onward zero some below = absurd (omega arith)
    onward (suc k) some below =
        let g : begins_dollar_quote (get_or (b ∷ c ∷ (run ++ r)) (suc (suc k) - 1) 0)
        (drop (suc (suc k)) (b ∷ c ∷ (run ++ r))) ≡ false =
        f (suc (suc k)) (omega arith) (omega arith) in
        let i : suc (suc k) - 1 ≡ suc k = omega arith in
        let j : suc k - 1 ≡ k = omega arith in
        ap (λ n. begins_dollar_quote (get_or (c ∷ (run ++ r)) n 0) (drop (suc k) (c ∷ (run ++ r))))
        j ∙ sym (ap (λ n. begins_dollar_quote (get_or (b ∷ c ∷ (run ++ r)) n 0)
        (drop (suc (suc k)) (b ∷ c ∷ (run ++ r)))) i) ∙ g

no_dollar_quote : (last : ℕ) (text : List ℕ) → begins_disputed last text ≡ false → begins_dollar_quote last text ≡ false
no_dollar_quote last text d = elim (bool_tells (begins_dollar_quote last text)) [
  | inr n ↦ n
  | inl e ↦ (let f : begins_disputed last text ≡ true =
      or_first _ (is_opening_kind (kind_of text))
      (or_first _ (begins_for_mariadb text)
      (or_last (begins (λ c. c == bracket) text) (begins_dollar_quote last text) e)) in
      let z : true ≡ false = sym f ∙ d in cc)
]

pub word_begins : (m : Mode) (last : ℕ) (text : List ℕ) (n : ℕ) → 0 < n → n ≤ length text →
    begins_disputed last text ≡ false → AllByRecursion (λ b. is_word_byte b ≡ true) (take n text)
    → ((k : ℕ) → 0 < k → k < n → begins_dollar_quote (get_or text (k - 1) 0) (drop k text) ≡
    false) → EndsWord (get_or text (n - 1) 0) (drop n text) →
    BeginsWith m last text (Word (take n text)) (get_or text (n - 1) 0) (drop n text)
word_begins m last text n s k d p f e =
    let run : List ℕ = take n text in
    let r : List ℕ = drop n text in
    let whole : run ++ r ≡ text = take-append-drop n text in
    let size : length run ≡ n = length-take-le n text k in
    let end : last_of last run ≡ get_or text (n - 1) 0 = last_token text n last s k in
    let dollar : begins_dollar_quote last (run ++ r) ≡ false =
    no_dollar_quote last (run ++ r) (ap (begins_disputed last) whole ∙ d) in
    let c : Calm last run r =
    calm_words last run r p dollar
    (λ j some below. subst (λ y. begins_dollar_quote (get_or y (j - 1) 0) (drop j y) ≡
    false) (sym whole) (f j some (omega (arith, size, below)))) in
    subst (λ y. BeginsWith m last y (Word run) (get_or text (n - 1) 0) r) whole
    (subst (λ y. BeginsWith m last (run ++ r) (Word run) y r) end
    (word_lexeme m last run r (omega (arith, size, s)) p c
    (subst (λ y. EndsWord y r) (sym end) e)))

pub operator_begins : (m : Mode) (last : ℕ) (text : List ℕ) (n : ℕ) → 0 < n → n ≤ length text →
    AllByRecursion (λ b. is_operator_byte b ≡ true) (take n text) →
    EndsBefore is_operator_byte (drop n text) →
    BeginsWith m last text (Operator (take n text)) (get_or text (n - 1) 0) (drop n text)
operator_begins m last text n s k p e =
    let size : length (take n text) ≡ n = length-take-le n text k in
    subst (λ y. BeginsWith m last y (Operator (take n text)) (get_or text (n - 1) 0) (drop n text))
    (take-append-drop n text)
    (subst (λ y. BeginsWith m last (take n text ++ drop n text) (Operator (take n text)) y
    (drop n text)) (last_token text n last s k)
    (operator_lexeme m last (take n text) (drop n text) (omega (arith, size, s)) p e))

pub token_begins : (m : Mode) (k : Kind) (last : ℕ) (text : List ℕ) (n : ℕ) (l : Lexeme) → 0 < n →
    n ≤ length text → IsToken m (take n text) (drop n text) → k ≡ kind_of text →
    ((ls : List Lexeme) → with_token m k (take n text) ls ≡ l ∷ ls) → begins_disputed last text ≡
    false → BeginsWith m last text l (get_or text (n - 1) 0) (drop n text)
token_begins m k last text n l s b i e f d =
    subst (λ y. BeginsWith m last y l (get_or text (n - 1) 0) (drop n text)) (take-append-drop n text)
    (token_lexeme m k last (get_or text (n - 1) 0) (take n text) (drop n text) l i
    (ap kind_of (take-append-drop n text) ∙
    sym e) f (ap (begins_disputed last) (take-append-drop n text) ∙
    d) (sym (last_token text n last s b)))

-- a quoted token, by its quote
pub quoted_begins : (m : Mode) (quote last : ℕ) (text : List ℕ) (n : ℕ) (identifier : Bool) →
    0 < n → n ≤ length text → IsToken m (take n text) (drop n text) → Quoted quote ≡ kind_of text →
    identifier ≡ quotes_identifier m quote → begins_disputed last text ≡ false
    → BeginsWith m last text (if identifier then Identifier (take n text) else Value)
    (get_or text (n - 1) 0) (drop n text)
quoted_begins m quote last text n identifier s b i e f d =
    token_begins m (Quoted quote) last text n
    (if identifier then Identifier (take n text) else Value) s b i e
    (λ ls. ap (λ c. (if c then Identifier (take n text) else Value) ∷ ls) (sym f)) d

-- a plain byte that is no blank and of no word and no operator
byte_lexeme : (b : ℕ) (ls : List Lexeme) → is_word_byte b ≡ false → is_operator_byte b ≡ false →
    is_blank b ≡ false → with_byte b ls ≡ Byte b ∷ ls
byte_lexeme b ls w o k = rw (w, o, k) refl

blank_lexeme : (b : ℕ) (ls : List Lexeme) → is_word_byte b ≡ false → is_operator_byte b ≡ false →
    is_blank b ≡ true → with_byte b ls ≡ Gap ∷ ls
blank_lexeme b ls w o k = rw (w, o, k) refl

first_is : (text : List ℕ) (n c : ℕ) → take n text ≡ c ∷ [] → 0 < length text → slice_index text 0 ≡ c
first_is [] n c e h = absurd (omega arith)
first_is (b ∷ text) n c e h =
    let f : b ∷ text ≡ c ∷ drop n (b ∷ text) = sym (take-append-drop n (b ∷ text)) ∙
    ap (λ y. y ++ drop n (b ∷ text)) e in
    cc

pub plain_begins : (m : Mode) (last : ℕ) (text : List ℕ) (n : ℕ) → 0 < length text → 0 < n →
    n ≤ length text → begins_disputed last text ≡ false → IsToken m (take n text) (drop n text) →
    Plain ≡ kind_of text → is_word_byte (slice_index text 0) ≡ false →
    is_operator_byte (slice_index text 0) ≡ false → is_blank (slice_index text 0) ≡ false
    → BeginsWith m last text (Byte (slice_index text 0)) (get_or text (n - 1) 0) (drop n text)
plain_begins m last text n s some b d i e w o k =
    let j : kind_of (take n text ++ drop n text) ≡ Plain = ap kind_of (take-append-drop n text) ∙ sym e in
    let h : HasShape m Plain (take n text) (drop n text) = subst (λ y. HasShape m y (take n text) (drop n text)) j i in
    let f : take n text ≡ slice_index text 0 ∷ [] = h.1 ∙ ap (λ c. c ∷ []) (sym (first_is text n h.0 h.1 s)) in
    token_begins m Plain last text n (Byte (slice_index text 0)) some b i e
    (λ ls. ap (λ t. with_bytes t ls) f ∙ byte_lexeme (slice_index text 0) ls w o k) d

pub blank_begins : (m : Mode) (last : ℕ) (text : List ℕ) → 0 < length text →
    begins_disputed last text ≡ false → is_word_byte (slice_index text 0) ≡ false →
    is_operator_byte (slice_index text 0) ≡ false → is_blank (slice_index text 0) ≡ true →
    BeginsWith m last text Gap (get_or text (1 - 1) 0) (drop 1 text)
blank_begins m last [] s d w o k = absurd (omega arith)
blank_begins m last (b ∷ text) s d w o k =
    let p : is_plain b ≡ true = blank_plain b k in
    token_lexeme m Plain last b (b ∷ []) text Gap (plain_token m b text p) (plain_kind b text p)
    (λ ls. blank_lexeme b ls w o k) d refl
