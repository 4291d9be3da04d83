-- Texts that a query's tokens and contents make.
use Rattle.std.proofs.Common.{◌≡◌, ◌≢◌, ℕ, Bool, true, false, not, ◌&&◌, ◌||◌, ◌==◌, ◌⊎◌, List, [], ◌∷◌, ◌++◌, refl}
use Rattle.std.proofs.Common.{sym, ap, ◌∙◌, inl, inr, append_assoc, arith, subst}
use Rattle.std.specs.List.{concat, AllByRecursion}
use Rattle.mysql_queries.specs.Tokens.{Kind, Quoted, LineComment, BlockComment, Opening, Closing, Name, Mark, Plain}
use Rattle.mysql_queries.specs.Tokens.{kind_of, comment_start, star, is_digit, is_simple_byte, IsName, HasShape}
use Rattle.mysql_queries.specs.Tokens.{IsToken, AreTokens, HasTokens, AtNameEnd, colon, question, dash, is_name_start}
use Rattle.mysql_queries.specs.Tokens.{is_name_byte}
use Rattle.mysql_queries.specs.Literals.{IsLiteral}
use Rattle.mysql_queries.specs.Sql.{Sql}
use Rattle.mysql_bytes.specs.declared.mode.Mode.{Mode}
use Rattle.mysql_bytes.specs.declared.content.Content.{Content}
use Rattle.mysql_queries.specs.Queries.{is_name_kind, is_mark_kind, is_place, Replaces, is_joining, stands_alone}
use Rattle.mysql_queries.specs.Queries.{stands_apart, place_at, places_behind, places_of, AllAlone, servers_agree}
use Rattle.mysql_queries.specs.Alone.{agree_at, begins, is_closing, is_opening, is_run, is_run_token, is_closing_kind}
use Rattle.mysql_queries.specs.Alone.{last_of, meets_string}
use Rattle.mysql_queries.specs.declared.placeholders.Place.{Place}
use Rattle.std.specs.List.{prefix_len}
use Rattle.std.proofs.Common.{◌+◌, ◌-◌, drop, length, get_or, slice_index, length-append}
use Rattle.std.proofs.Math.Seq.{get_or-append_seam}
use Rattle.std.proofs.lemmas.Bool.Decides.{nat_tests}
use Rattle.mysql_queries.proofs.FirstBytes.{and_true, bool_tells, kind_tells, or_cases, Tells}
use Rattle.mysql_queries.proofs.OneToken.{not_empty}
use Rattle.mysql_queries.proofs.Prefixes.{behind_stop}
use Rattle.mysql_queries.proofs.Follow.{BeginsFixed, IsApart, Agrees, agree_front, fixed_same, IsNoName, token_same}
use Rattle.mysql_queries.proofs.Follow.{or_first, not_equal, BeginsApart}
use Rattle.mysql_queries.proofs.Spellings.{BeginNoComment, LiteralStart, literal_start, LiteralTokens, literal_tokens}
use Rattle.mysql_bytes.specs.declared.spelling.Spelling.{Spelling}

-- a text that is tokens with literals for the placeholders
abbrev pub Spells : Mode → Spelling → List (List ℕ) → List Content → List ℕ → Type 0
Spells m sp [] contents text = (contents ≡ []) × (text ≡ [])
Spells m sp (token ∷ tokens) contents text =
    ((is_place token ≡ false) × (rest : List ℕ) × (text ≡ token ++ rest) × Spells m sp tokens contents rest)
    ⊎ ((is_place token ≡ true) × (content : Content) × (next : List Content) × (spelling : List ℕ) × (rest : List ℕ)
    × (contents ≡ content ∷ next) × IsLiteral m sp spelling content × (text ≡ spelling ++ rest) ×
    Spells m sp tokens next rest)

-- a placeholder begins with a colon or is a question mark
place_kind : (b : ℕ) (x : List ℕ) (k : Kind) → Tells b x k → is_name_kind k || is_mark_kind k ≡
    true → (b ≡ colon) ⊎ (b ≡ question)
place_kind b x (Quoted q) h e = cc
place_kind b x LineComment h e = cc
place_kind b x BlockComment h e = cc
place_kind b x Opening h e = cc
place_kind b x Closing h e = cc
place_kind b x Name h e = inl h.0
place_kind b x Mark h e = inr h
place_kind b x Plain h e = cc

pub place_begins : (b : ℕ) (x : List ℕ) → is_place (b ∷ x) ≡ true → (b ≡ colon) ⊎ (b ≡ question)
place_begins b x h = place_kind b x (kind_of (b ∷ x)) (kind_tells b x) h

name_kind : (c : ℕ) (x : List ℕ) → is_name_start c ≡ true → kind_of (colon ∷ c ∷ x) ≡ Name
name_kind c x h = rw h refl

start_is_byte : (c : ℕ) → is_name_start c ≡ true → is_name_byte c ≡ true
start_is_byte c h = or_first _ _ h

-- a name is a placeholder by itself
name_alone : (name r : List ℕ) → kind_of ((colon ∷ name) ++ r) ≡ Name → AtNameEnd r → is_place (colon ∷ name) ≡ true
name_alone [] [] e h = cc
name_alone [] (c ∷ r) e h =
    let t : Tells colon (c ∷ r) Name = subst (Tells colon (c ∷ r)) e (kind_tells colon (c ∷ r)) in
    let f : true ≡ false = sym (start_is_byte c t.1) ∙ h in cc
name_alone (c ∷ name) r e h =
    let t : Tells colon (c ∷ (name ++ r)) Name =
    subst (Tells colon (c ∷ (name ++ r))) e (kind_tells colon (c ∷ (name ++ r))) in
    ap (λ k. is_name_kind k || is_mark_kind k) (name_kind c name t.1)

pub name_is_place : (t r : List ℕ) → kind_of (t ++ r) ≡ Name → IsName t r → is_place t ≡ true
name_is_place t r e n = subst (λ y. is_place y ≡ true) (sym n.spelled)
    (name_alone n.name r (subst (λ y. kind_of (y ++ r) ≡ Name) n.spelled e) n.ends)

no_name_kind : (m : Mode) (t r : List ℕ) (k : Kind) → kind_of (t ++ r) ≡ k → HasShape m k t r →
    is_place t ≡ false → IsNoName k
no_name_kind m t r (Quoted q) e i h = tt
no_name_kind m t r LineComment e i h = tt
no_name_kind m t r BlockComment e i h = tt
no_name_kind m t r Opening e i h = tt
no_name_kind m t r Closing e i h = tt
no_name_kind m t r Name e i h = let f : true ≡ false = sym (name_is_place t r e i) ∙ h in cc
no_name_kind m t r Mark e i h = tt
no_name_kind m t r Plain e i h = tt

-- a token that is no placeholder is no name where it stands
pub no_name : (m : Mode) (t r : List ℕ) → IsToken m t r → is_place t ≡ false → IsNoName (kind_of (t ++ r))
no_name m t r i h = no_name_kind m t r (kind_of (t ++ r)) refl i h

-- before the first byte of a text stands, as it were, a space
abbrev pub space : ℕ
space = 0x20

-- each placeholder stands alone, behind this byte
abbrev pub AloneFrom : ℕ → List (List ℕ) → Type 0
AloneFrom last [] = Unit {0}
AloneFrom last (token ∷ tokens) =
    (is_place token ≡ true → IsApart last × BeginsApart (concat tokens)) ×
    AloneFrom (last_of last token) tokens

concat_append : (xs ys : List (List ℕ)) → concat (xs ++ ys) ≡ concat xs ++ concat ys
concat_append [] ys = refl
concat_append (x ∷ xs) ys = ap (λ z. x ++ z) (concat_append xs ys) ∙ sym (append_assoc x (concat xs) (concat ys))

-- the last byte of a front, by its place
last_index : (b : ℕ) (x y : List ℕ) → get_or (b ∷ (x ++ y)) (length x) 0 ≡ last_of b x
last_index b [] y = refl
last_index b (c ∷ x) y = last_index c x y

last_more : (last : ℕ) (x y : List ℕ) → last_of last (x ++ y) ≡ last_of (last_of last x) y
last_more last [] y = refl
last_more last (b ∷ x) y = last_more b x y

pub not_true : (p : Bool) → not p ≡ true → p ≡ false
not_true true h = cc
not_true false h = refl

not_same : (b c : ℕ) → (b == c) ≡ false → b ≢ c
not_same b c h e = grind (arith, nat_tests)

is_free : (b : ℕ) → (not (is_joining b) && not (b == dash)) ≡ true → IsApart b
is_free b h = let e : (not (is_joining b) ≡ true) × (not (b == dash) ≡ true) =
    and_true (not (is_joining b)) (not (b == dash)) h in
    (not_true (is_joining b) e.0, not_same b dash (not_true (b == dash) e.1))

free_before : (before y : List ℕ) →
    ((length before == 0) || (not (is_joining (slice_index (before ++ y) (length before - 1))) &&
    not (slice_index (before ++ y) (length before - 1) == dash))) ≡ true →
    IsApart (last_of space before)
free_before [] y h = (refl, λ e. absurd (omega arith))
free_before (b ∷ x) y h =
    let p : length (b ∷ x) - 1 ≡ length x = omega arith in
    let e : slice_index ((b ∷ x) ++ y) (length (b ∷ x) - 1) ≡ last_of b x =
    ap (slice_index ((b ∷ x) ++ y)) p ∙ last_index b x y in
    let n : (length (b ∷ x) == 0) ≡ false = not_equal (length (b ∷ x)) 0 (λ k. absurd (omega arith)) in
    elim (or_cases _ _ h) [
      | inl k ↦ absurd (let f : true ≡ false = sym k ∙ n in cc)
      | inr k ↦ is_free (last_of b x) (subst (λ c. (not (is_joining c) && not (c == dash)) ≡ true) e k)
    ]

pub free_after : (front after : List ℕ) (end : ℕ) → end ≡ length front →
    ((end == length (front ++ after)) || not (is_joining (slice_index (front ++ after) end))) ≡
    true → BeginsApart after
free_after front [] end f h = tt
free_after front (b ∷ x) end f h =
    let n : (end == length (front ++ b ∷ x)) ≡ false =
    not_equal end (length (front ++ b ∷ x))
    (λ k. absurd (omega (arith, length-append front (b ∷ x)))) in
    let e : slice_index (front ++ b ∷ x) end ≡ b = ap (slice_index (front ++ b ∷ x)) f ∙
    get_or-append_seam front b x 0 in
    elim (or_cases _ _ h) [
      | inl k ↦ absurd (let g : true ≡ false = sym k ∙ n in cc)
      | inr k ↦ sym (ap is_joining e) ∙ not_true (is_joining (slice_index (front ++ b ∷ x) end)) k
    ]

apart_there : (before t after q : List ℕ) → q ≡ before ++ (t ++ after) →
    stands_apart q (length before) (length before + length t) ≡ true →
    IsApart (last_of space before) × BeginsApart after
apart_there before t after q e h =
    let a : stands_apart (before ++ (t ++ after)) (length before) (length before + length t) ≡
    true = subst (λ y. stands_apart y (length before) (length before + length t) ≡ true) e h in
    let b : stands_apart ((before ++ t) ++ after) (length before) (length before + length t) ≡
    true = subst (λ y. stands_apart y (length before) (length before + length t) ≡ true) (e ∙
    sym (append_assoc before t after)) h in (
      free_before before (t ++ after) (and_true _ _ a).0,
      free_after (before ++ t) after (length before + length t) (sym (length-append before t))
          (and_true _ _ b).1,
    )

-- what a placeholder that stands alone says
pub record SaysAlone (g : Bool) (query : List ℕ) (start end : ℕ) (before : List (List ℕ)) : Type 0 where
  pub apart : stands_apart query start end ≡ true
  pub no_opening : begins is_opening before ≡ false
  pub agree : g ≡ true

pub says_alone : (m : Mode) (agree : Bool) (query : List ℕ) (start end : ℕ)
    (before behind : List (List ℕ)) → stands_alone m agree query start end before behind ≡ true →
    SaysAlone agree query start end before
says_alone m agree query start end before behind h = by
    (stands_apart query start end) (begins is_opening before) (meets_string m before)
    (meets_string m behind) agree h refl refl refl
  where
    by : (a o s t g : Bool) → (a && not o && not s && not t && g) ≡ true →
        stands_apart query start end ≡ a → begins is_opening before ≡ o → agree ≡ g →
        SaysAlone agree query start end before
    by a o s t g k e f i =
        let k1 = and_true (a && not o && not s && not t) g k in
        let k2 = and_true (a && not o && not s) (not t) k1.0 in
        let k3 = and_true (a && not o) (not s) k2.0 in
        let k4 = and_true a (not o) k3.0 in
        record { apart = e ∙ k4.0; no_opening = f ∙ not_true o k4.1; agree = i ∙ k1.1 }

abbrev pub AreAlone : List Place → Type 0
AreAlone places = AllByRecursion (λ place. place.alone ≡ true) places

alone_after : (q : Sql) (agree : Bool) (bs : List (List ℕ)) (before : List ℕ) (ts : List (List ℕ)) →
    q.text ≡ before ++ concat ts → AreAlone (places_behind q agree bs (length before) ts) →
    AloneFrom (last_of space before) ts
alone_after q agree bs before [] e h = tt
alone_after q agree bs before (t ∷ ts) e h =
    let last : last_of space (before ++ t) ≡ last_of (last_of space before) t = last_more space before t in
    let f : q.text ≡ (before ++ t) ++ concat ts = e ∙ sym (append_assoc before t (concat ts)) in
    let n : length before + length t ≡ length (before ++ t) = sym (length-append before t) in
    let later : AreAlone (places_behind q agree (t ∷ bs) (length before + length t) ts) →
    AloneFrom (last_of (last_of space before) t) ts = λ k.
    subst (λ b. AloneFrom b ts) last
    (alone_after q agree (t ∷ bs) (before ++
    t) ts f (subst (λ m. AreAlone (places_behind q agree (t ∷ bs) m ts)) n k)) in
    elim (bool_tells (is_place t)) [
      | inl p ↦ (let k : AreAlone (place_at q agree bs (length before) t ts ∷
          places_behind q agree (t ∷ bs) (length before + length t) ts) = rw p at h in (
            (λ _. apart_there before t (concat ts) q.text e
                (says_alone q.mode agree q.text (length before) (length before + length t) bs ts
                k.0).apart),
            later k.1,
          ))
      | inr p ↦ (let k : AreAlone (places_behind q agree (t ∷ bs) (length before + length t) ts) = rw p at h in
          ((λ r. absurd (let g : true ≡ false = sym r ∙ p in cc)), later k))
    ]

pub alone_from : (q : Sql) (ts : List (List ℕ)) → HasTokens q.mode q.text ts → AllAlone q → AloneFrom space ts
alone_from q ts h a = alone_after q (servers_agree 0 ts) [] [] ts (sym h.joined) (a (places_of q ts) (ts, h, refl))

-- SERVERS AGREE

-- behind each `/*!` no digit and no placeholder comes first
abbrev pub FixedFrom : List (List ℕ) → Type 0
FixedFrom [] = Unit {0}
FixedFrom (t ∷ ts) = (is_opening t ≡ true → BeginsFixed (concat ts)) × FixedFrom ts

-- no token is a placeholder
abbrev pub HasNoPlace : List (List ℕ) → Type 0
HasNoPlace ts = AllByRecursion (λ t. is_place t ≡ false) ts

-- where a placeholder stands alone servers agree about the query
pub agrees_or_none : (q : Sql) (agree : Bool) (bs : List (List ℕ)) (start : ℕ)
    (ts : List (List ℕ)) → AreAlone (places_behind q agree bs start ts) → (agree ≡ true) ⊎
    HasNoPlace ts
agrees_or_none q agree bs start [] h = inr tt
agrees_or_none q agree bs start (t ∷ ts) h = elim (bool_tells (is_place t)) [
  | inl p ↦ (let k : AreAlone (place_at q agree bs start t ts ∷
      places_behind q agree (t ∷ bs) (start + length t) ts) = rw p at h in
      inl (says_alone q.mode agree q.text start (start + length t) bs ts k.0).agree)
  | inr p ↦ (let k : AreAlone (places_behind q agree (t ∷ bs) (start + length t) ts) = rw p at h in
      elim (agrees_or_none q agree (t ∷ bs) (start + length t) ts k) [ inl a ↦ inl a | inr n ↦ inr (p, n) ])
]

simple_no_place : (b : ℕ) → is_simple_byte b ≡ true → (b ≢ colon) × (b ≢ question)
simple_no_place b h = (
  (λ e. let f : true ≡ false = sym h ∙ ap is_simple_byte e in cc),
  λ e. let f : true ≡ false = sym h ∙ ap is_simple_byte e in cc,
)

closing_first : (b : ℕ) (t : List ℕ) → is_closing (b ∷ t) ≡ true → b ≡ star
closing_first b t h = by (kind_of (b ∷ t)) (kind_tells b t) h
  where
    by : (k : Kind) → Tells b t k → is_closing_kind k ≡ true → b ≡ star
    by (Quoted q) e h = cc
    by LineComment e h = cc
    by BlockComment e h = cc
    by Opening e h = cc
    by Closing e h = e.0
    by Name e h = cc
    by Mark e h = cc
    by Plain e h = cc

star_no_place : (b : ℕ) → b ≡ star → (b ≢ colon) × (b ≢ question)
star_no_place b e = ((λ f. absurd (omega arith)), λ f. absurd (omega arith))

-- what a comment without a version begins with, where that is no placeholder
run_fixed : (m : Mode) (ts : List (List ℕ)) → AreTokens m ts → is_run ts ≡ true →
    begins is_place ts ≡ false → BeginsFixed (concat ts)
run_fixed m [] i h p = tt
run_fixed m ([] ∷ ts) i h p = absurd (not_empty m (concat ts) i.0)
run_fixed m ((b ∷ t) ∷ ts) i h p =
    let k : (not (is_digit b) ≡ true) ×
    (begins is_closing (drop (prefix_len is_run_token ((b ∷ t) ∷ ts)) ((b ∷ t) ∷ ts)) ≡ true) =
    and_true (not (is_digit b)) _ h in
    elim (bool_tells (is_simple_byte b)) [
      | inl s ↦ (let n = simple_no_place b s in (not_true (is_digit b) k.0, n.0, n.1))
      | inr s ↦ (let n : is_run_token (b ∷ t) ≡ false = rw (p, s) refl in
          let c : is_closing (b ∷ t) ≡ true =
          ap (begins is_closing) (sym (behind_stop is_run_token (b ∷ t) ts n)) ∙ k.1 in
          let o = star_no_place b (closing_first b t c) in (not_true (is_digit b) k.0, o.0, o.1))
    ]

agree_opening : (last : ℕ) (t : List ℕ) (ts : List (List ℕ)) → agree_at last t ts ≡ true →
    is_opening t ≡ true → is_run ts ≡ true
agree_opening last t ts h o = let k : (not (is_opening t) || is_run ts) ≡ true =
    (and_true _ (not (is_opening t) || is_run ts) h).1 in rw o at k

-- behind what begins a comment no placeholder stands alone
first_no_place : (q : Sql) (agree : Bool) (t : List ℕ) (bs : List (List ℕ)) (start : ℕ)
    (ts : List (List ℕ)) → is_opening t ≡ true →
    AreAlone (places_behind q agree (t ∷ bs) start ts) → begins is_place ts ≡ false
first_no_place q agree t bs start [] o h = refl
first_no_place q agree t bs start (u ∷ ts) o h = elim (bool_tells (is_place u)) [
  | inl p ↦ (let k : AreAlone (place_at q agree (t ∷ bs) start u ts ∷
      places_behind q agree (u ∷ t ∷ bs) (start + length u) ts) = rw p at h in
      let n : is_opening t ≡ false =
      (says_alone q.mode agree q.text start (start + length u) (t ∷ bs) ts k.0).no_opening in
      let f : true ≡ false = sym o ∙ n in cc)
  | inr p ↦ p
]

fixed_from : (q : Sql) (agree : Bool) (bs : List (List ℕ)) (start last : ℕ) (ts : List (List ℕ)) →
    AreTokens q.mode ts → servers_agree last ts ≡ true →
    AreAlone (places_behind q agree bs start ts) → FixedFrom ts
fixed_from q agree bs start last [] i g h = tt
fixed_from q agree bs start last (t ∷ ts) i g h =
    let k : AreAlone (places_behind q agree (t ∷ bs) (start + length t) ts) = elim (bool_tells (is_place t)) [
      | inl p ↦ (let l : AreAlone (place_at q agree bs start t ts ∷
          places_behind q agree (t ∷ bs) (start + length t) ts) = rw p at h in l.1)
      | inr p ↦ (let l : AreAlone (places_behind q agree (t ∷ bs) (start + length t) ts) = rw p at h in l)
    ] in
    let a : (agree_at last t ts ≡ true) × (servers_agree (last_of last t) ts ≡ true) =
    and_true (agree_at last t ts) _ g in (
      (λ o. run_fixed q.mode ts i.1 (agree_opening last t ts a.0 o)
          (first_no_place q agree t bs (start + length t) ts o k)),
      fixed_from q agree (t ∷ bs) (start + length t) (last_of last t) ts i.1 a.1 k,
    )

-- of a query whose placeholders stand alone: behind each `/*!` no digit and no placeholder comes first,
-- or it has no placeholder
pub fixed_or_none : (q : Sql) (ts : List (List ℕ)) → HasTokens q.mode q.text ts → AllAlone q →
    FixedFrom ts ⊎ HasNoPlace ts
fixed_or_none q ts h a =
    let k : AreAlone (places_of q ts) = a (places_of q ts) (ts, h, refl) in
    elim (agrees_or_none q (servers_agree 0 ts) [] 0 ts k) [
      | inl g ↦ inl (fixed_from q (servers_agree 0 ts) [] 0 0 ts h.each g k)
      | inr n ↦ inr n
    ]

-- the query and the text go on alike up to a placeholder
place_agrees : (m : Mode) (last : ℕ) (t x s y : List ℕ) → IsToken m t x → is_place t ≡ true →
    IsApart last → LiteralStart s → Agrees last (t ++ x) (s ++ y)
place_agrees m last [] x s y i p a l = absurd (not_empty m x i)
place_agrees m last (b ∷ t) x s y i p a l =
    subst (λ z. Agrees last ((b ∷ t) ++ x) (z ++ y)) (sym l.joined)
    (inr (record {
      apart = a;
      place = place_begins b t p;
      no_star = l.no_star;
      no_mark =
          l.no_mark;
      no_slash = l.no_slash;
    }))

pub text_agrees : (m : Mode) (sp : Spelling) (ts : List (List ℕ)) (last : ℕ) (cs : List Content)
    (text : List ℕ) → AreTokens m ts → AloneFrom last ts → Spells m sp ts cs text →
    Agrees last (concat ts) text
text_agrees m sp [] last cs text i a h = subst (Agrees last []) (sym h.1) tt
text_agrees m sp (t ∷ ts) last cs text i a (inl (p, r, e, h)) =
    subst (Agrees last (t ++ concat ts)) (sym e)
    (agree_front last t (concat ts) r (text_agrees m sp ts (last_of last t) cs r i.1 a.1 h))
text_agrees m sp (t ∷ ts) last cs text i a (inr (p, c, next, s, r, e, l, f, h)) =
    subst (Agrees last (t ++ concat ts)) (sym f)
    (place_agrees m last t (concat ts) s r i.0 p (a.0 p).0 (literal_start m sp s c l))

-- what follows a placeholder begins apart, in the query and in the text
apart_same : (last : ℕ) (x y : List ℕ) → Agrees last x y → BeginsApart x → BeginsApart y
apart_same last [] [] h a = tt
apart_same last [] (c ∷ y) h a = elim h [ ]
apart_same last (b ∷ x) [] h a = elim h [ ]
apart_same last (b ∷ x) (c ∷ y) (inl h) a = sym (ap is_joining h.0) ∙ a
apart_same last (b ∷ x) (c ∷ y) (inr h) a = elim h.place [
  | inl e ↦ (let f : true ≡ false = sym (ap is_joining e) ∙ a in cc)
  | inr e ↦ (let f : true ≡ false = sym (ap is_joining e) ∙ a in cc)
]

pub rest_apart : (m : Mode) (sp : Spelling) (ts : List (List ℕ)) (last : ℕ) (cs : List Content)
    (text : List ℕ) → AreTokens m ts → AloneFrom last ts → Spells m sp ts cs text →
    BeginsApart (concat ts) → BeginsApart text
rest_apart m sp ts last cs text i a h b = apart_same last (concat ts) text (text_agrees m sp ts last cs text i a h) b

-- the tokens of the text
pub record Lexed (m : Mode) (sp : Spelling) (ts : List (List ℕ)) (cs : List Content) (text : List ℕ) : Type 0 where
  pub tokens : List (List ℕ)
  pub has : HasTokens m text tokens
  pub replaces : Replaces m sp ts cs tokens

-- what begins a comment whose inside is read, by its kind where it stands
pub opening_there : (m : Mode) (t r : List ℕ) → IsToken m t r → kind_of (t ++ r) ≡ Opening → is_opening t ≡ true
opening_there m t r i e = let u : t ≡ comment_start = subst (λ k. HasShape m k t r) e i in ap is_opening u

lexed_token : (m : Mode) (sp : Spelling) (t : List ℕ) (ts : List (List ℕ)) (last : ℕ)
    (cs : List Content) (text r : List ℕ) → AreTokens m (t ∷ ts) → AloneFrom last (t ∷ ts) →
    FixedFrom (t ∷ ts) → is_place t ≡ false → text ≡ t ++ r → Spells m sp ts cs r →
    Lexed m sp ts cs r → Lexed m sp (t ∷ ts) cs text
lexed_token m sp t ts last cs text r i a x p e h o = record {
  tokens = t ∷ o.tokens;
  has = record {
    joined = ap (λ y. t ++ y) o.has.joined ∙ sym e;
    each = (
      token_same m last t (concat ts) (concat o.tokens) (no_name m t (concat ts) i.0 p)
          (λ k. x.0 (opening_there m t (concat ts) i.0 k))
          (subst (Agrees (last_of last t) (concat ts)) (sym o.has.joined)
          (text_agrees m sp ts (last_of last t) cs r i.1 a.1 h)) i.0,
      o.has.each,
    );
  };
  replaces = inl (p, o.tokens, refl, o.replaces);
}

lexed_place : (m : Mode) (sp : Spelling) (t : List ℕ) (ts : List (List ℕ)) (last : ℕ)
    (cs : List Content) (text : List ℕ) (c : Content) (next : List Content) (s r : List ℕ) →
    AreTokens m (t ∷ ts) → AloneFrom last (t ∷ ts) → is_place t ≡ true
    → cs ≡ c ∷ next → IsLiteral m sp s c → text ≡ s ++ r → Spells m sp ts next r →
    Lexed m sp ts next r → Lexed m sp (t ∷ ts) cs text
lexed_place m sp t ts last cs text c next s r i a p e l f h o =
    let k : LiteralTokens m s = literal_tokens m sp s c l in
    let b : BeginsApart r = rest_apart m sp ts (last_of last t) next r i.1 a.1 h (a.0 p).1 in
    record {
      tokens = k.tokens ++ o.tokens;
      has = record {
        joined = concat_append k.tokens o.tokens ∙ ap (λ y. y ++ concat o.tokens) k.has.joined ∙
            ap (λ y. s ++ y) o.has.joined ∙ sym f;
        each = k.stay o.tokens o.has.each (subst BeginsApart (sym o.has.joined) b);
      };
      replaces = inr (p, c, next, s, k.tokens, o.tokens, e, l, k.has, refl, o.replaces);
    }

pub lexed : (m : Mode) (sp : Spelling) (ts : List (List ℕ)) (last : ℕ) (cs : List Content)
    (text : List ℕ) → AreTokens m ts → AloneFrom last ts → FixedFrom ts → Spells m sp ts cs text →
    Lexed m sp ts cs text
lexed m sp [] last cs text i a x h =
    record { tokens = []; has = record { joined = sym h.1; each = tt }; replaces = (h.0, refl) }
lexed m sp (t ∷ ts) last cs text i a x (inl (p, r, e, h)) =
    lexed_token m sp t ts last cs text r i a x p e h
    (lexed m sp ts (last_of last t) cs r i.1 a.1 x.1 h)
lexed m sp (t ∷ ts) last cs text i a x (inr (p, c, next, s, r, e, l, f, h)) =
    lexed_place m sp t ts last cs text c next s r i a p e l f h
    (lexed m sp ts (last_of last t) next r i.1 a.1 x.1 h)

fixed_append : (xs ys : List (List ℕ)) → BeginNoComment xs → FixedFrom ys → FixedFrom (xs ++ ys)
fixed_append [] ys n h = h
fixed_append (x ∷ xs) ys n h = ((λ o. let f : true ≡ false = sym o ∙ n.0 in cc), fixed_append xs ys n.1 h)

-- behind each `/*!` of the text no digit and no placeholder comes first
pub fixed_lexed : (m : Mode) (sp : Spelling) (ts : List (List ℕ)) (last : ℕ) (cs : List Content)
    (text : List ℕ) (i : AreTokens m ts) (a : AloneFrom last ts) (x : FixedFrom ts)
    (h : Spells m sp ts cs text) → FixedFrom (lexed m sp ts last cs text i a x h).tokens
unfolding lexed lexed_token lexed_place
fixed_lexed m sp [] last cs text i a x h = tt
fixed_lexed m sp (t ∷ ts) last cs text i a x (inl (p, r, e, h)) =
    let o : Lexed m sp ts cs r = lexed m sp ts (last_of last t) cs r i.1 a.1 x.1 h in
    let g : Agrees (last_of last t) (concat ts) (concat o.tokens) =
    subst (Agrees (last_of last t) (concat ts)) (sym o.has.joined)
    (text_agrees m sp ts (last_of last t) cs r i.1 a.1 h) in (
      (λ k. fixed_same (last_of last t) (concat ts) (concat o.tokens) g (x.0 k)),
      fixed_lexed m sp ts (last_of last t) cs r i.1 a.1 x.1 h,
    )
fixed_lexed m sp (t ∷ ts) last cs text i a x (inr (p, c, next, s, r, e, l, f, h)) =
    fixed_append (literal_tokens m sp s c l).tokens
    (lexed m sp ts (last_of last t) next r i.1 a.1 x.1 h).tokens
    (literal_tokens m sp s c l).no_opening
    (fixed_lexed m sp ts (last_of last t) next r i.1 a.1 x.1 h)

-- without a placeholder the text is the tokens themselves
pub spells_itself : (m : Mode) (sp : Spelling) (ts : List (List ℕ)) (cs : List Content)
    (text : List ℕ) → HasNoPlace ts → Spells m sp ts cs text → (text ≡ concat ts) ×
    Replaces m sp ts cs ts
spells_itself m sp [] cs text n h = (h.1, (h.0, refl))
spells_itself m sp (t ∷ ts) cs text n (inl (p, r, e, h)) =
    let o : (r ≡ concat ts) × Replaces m sp ts cs ts = spells_itself m sp ts cs r n.1 h in
    (e ∙ ap (λ y. t ++ y) o.0, inl (p, ts, refl, o.1))
spells_itself m sp (t ∷ ts) cs text n (inr x) = let f : true ≡ false = sym x.0 ∙ n.0 in cc

pub lexed_none : (m : Mode) (sp : Spelling) (ts : List (List ℕ)) (cs : List Content)
    (text : List ℕ) → AreTokens m ts → HasNoPlace ts → Spells m sp ts cs text →
    Lexed m sp ts cs text
lexed_none m sp ts cs text i n h =
    let o : (text ≡ concat ts) × Replaces m sp ts cs ts = spells_itself m sp ts cs text n h in
    record { tokens = ts; has = record { joined = sym o.0; each = i }; replaces = o.1 }

-- the text joins what replaces the tokens
pub spells_joined : (m : Mode) (sp : Spelling) (ts : List (List ℕ)) (cs : List Content)
    (us : List (List ℕ)) → Replaces m sp ts cs us → Spells m sp ts cs (concat us)
spells_joined m sp [] cs us h = (h.0, ap concat h.1)
spells_joined m sp (t ∷ ts) cs us (inl (p, others, e, h)) =
    inl (p, concat others, ap concat e, spells_joined m sp ts cs others h)
spells_joined m sp (t ∷ ts) cs us (inr (p, c, next, s, ls, others, e, l, k, f, h)) =
    inr (
      p,
      c,
      next,
      s,
      concat others,
      e,
      l,
      ap concat f ∙ concat_append ls others ∙
          ap (λ y. y ++ concat others) k.joined,
      spells_joined m sp ts next others h,
    )
