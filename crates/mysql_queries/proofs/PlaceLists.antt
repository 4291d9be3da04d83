-- The placeholders so far, and those of what is left.
use Rattle.std.proofs.Common.{◌≡◌, ◌≢◌, ℕ, zero, suc, ◌+◌, ◌-◌, ◌<◌, ◌≤◌, Bool, true, false, not, ◌&&◌, ◌||◌, ◌==◌}
use Rattle.std.proofs.Common.{if◌then◌else◌, List, [], ◌∷◌, ◌++◌, length, take, drop, map, get_or, slice_index, refl}
use Rattle.std.proofs.Common.{sym, ap, ◌∙◌, inl, inr, arith, take-append-drop, append_assoc, append-nil, subst}
use Rattle.std.proofs.Common.{length-take-le, length-drop, drop-drop, take_all}
use Rattle.std.specs.List.{concat, list_all}
use Rattle.std.proofs.Common.{Global, Vec, Result, Ok, Err, IfOk}
use Rattle.mysql_queries.specs.Tokens.{HasTokens, IsToken, Kind, Mark, Plain, kind_of, slash, dollar, bracket}
use Rattle.mysql_queries.specs.Tokens.{question}
use Rattle.mysql_queries.specs.Alone.{agree_at, begins, begins_dollar_quote, begins_for_mariadb, is_blank, is_left_out}
use Rattle.mysql_queries.specs.Alone.{is_left_out_kind, is_name_kind, is_opening, is_opening_kind, is_read_otherwise}
use Rattle.mysql_queries.specs.Alone.{is_string, is_string_kind, last_of, meets_string, servers_agree, stands_alone}
use Rattle.mysql_queries.specs.Alone.{stands_apart}
use Rattle.mysql_queries.specs.Queries.{is_place, place_at, places_behind, places_of, HasPlaces}
use Rattle.mysql_queries.specs.PlaceKinds.{is_place_kind}
use Rattle.mysql_queries.specs.Placing.{not_alone, place_between}
use Rattle.mysql_queries.specs.Scanning.{is_plain, is_quiet}
use Rattle.mysql_queries.specs.Sql.{Sql}
use Rattle.mysql_queries.specs.declared.alone.SoFar.{SoFar}
use Rattle.mysql_queries.specs.declared.placeholders.Place.{Place}
use Rattle.mysql_bytes.specs.declared.mode.Mode.{Mode}
use Rattle.mysql_queries.proofs.AloneKinds.{kind_alone, plain_kind, plain_token, plain_no_place, token_place}
use Rattle.mysql_queries.proofs.AloneKinds.{token_name}
use Rattle.mysql_queries.proofs.Cuts.{drop_end, drop_one}
use Rattle.mysql_queries.proofs.FirstBytes.{and_true, bool_tells}
use Rattle.mysql_queries.proofs.Follow.{and_false, not_equal}
use Rattle.mysql_queries.proofs.Spellings.{apart_bytes}

-- With the tokens of what is left from a place on behind these tokens, of which the last comes first:
-- the query's tokens, its placeholders as if servers agreed, and whether they agree.
pub record Goes (query : Sql) (at : ℕ) (so_far : SoFar) (found : List Place)
    (before rest : List (List ℕ)) : Type 0 where
  pub all : List (List ℕ)
  pub has : HasTokens query.mode query.text all
  pub places : places_behind query true [] 0 all ≡ found ++ places_behind query true before at rest
  pub agree : servers_agree 0 all ≡ (so_far.agree && servers_agree so_far.last rest)

-- how far the placeholders have come
pub record Come (query : Sql) (at : ℕ) (so_far : SoFar) (found : List Place) : Type 0 where
  pub before : List (List ℕ)
  pub opening : so_far.opening ≡ begins is_opening before
  pub string : so_far.string ≡ meets_string query.mode before
  pub goes_on : (rest : List (List ℕ)) → HasTokens query.mode (drop at query.text) rest →
      Goes query at so_far found before rest

pub come_first : (query : Sql) (so_far : SoFar) → so_far.last ≡ 0 → so_far.opening ≡ false →
    so_far.string ≡ false → so_far.agree ≡ true → Come query 0 so_far []
come_first query so_far l o s a = record {
  before = [];
  opening = o;
  string = s;
  goes_on = λ rest h. record {
    all = rest;
    has = h;
    places = refl;
    agree =
        sym (ap (λ g. g && servers_agree so_far.last rest) a ∙ ap (λ b. servers_agree b rest) l);
  };
}

with_token : (query : Sql) (at len : ℕ) (rest : List (List ℕ)) →
    IsToken query.mode (take len (drop at query.text)) (drop len (drop at query.text)) →
    HasTokens query.mode (drop (at + len) query.text) rest →
    HasTokens query.mode (drop at query.text) (take len (drop at query.text) ∷ rest)
with_token query at len rest i h =
    let e : concat rest ≡ drop len (drop at query.text) = h.joined ∙ sym (drop-drop len at query.text) in
    record {
      joined = ap (λ y. take len (drop at query.text) ++ y) e ∙
          take-append-drop len (drop at query.text);
      each =
          (subst (IsToken query.mode (take len (drop at query.text))) (sym e) i, h.each);
    }

token_len : (query : List ℕ) (at len : ℕ) → at + len ≤ length query → length (take len (drop at query)) ≡ len
token_len query at len h = length-take-le len (drop at query) (omega (arith, length-drop at query))

and_assoc : (p q r : Bool) → (p && (q && r)) ≡ ((p && q) && r)
and_assoc true q r = refl
and_assoc false q r = refl

and_end : (p : Bool) → (p && true) ≡ p
and_end true = refl
and_end false = refl

-- the last byte of a token, by its place
last_there : (last : ℕ) (t : List ℕ) → 0 < length t → last_of last t ≡ get_or t (length t - 1) 0
last_there last [] h = absurd (omega arith)
last_there last (b ∷ []) h = refl
last_there last (b ∷ c ∷ t) h =
    let n : length (b ∷ c ∷ t) - 1 ≡ suc (length (c ∷ t) - 1) = omega arith in
    last_there b (c ∷ t) (omega arith) ∙ ap (λ k. get_or (b ∷ c ∷ t) k 0) (sym n)

get_take : (x : List ℕ) (n k : ℕ) → k < n → get_or (take n x) k 0 ≡ get_or x k 0
get_take [] zero k h = refl
get_take [] (suc n) k h = refl
get_take (b ∷ x) zero k h = absurd (omega arith)
get_take (b ∷ x) (suc n) zero h = refl
get_take (b ∷ x) (suc n) (suc k) h = get_take x n k (omega arith)

pub last_token : (x : List ℕ) (len last : ℕ) → 0 < len → len ≤ length x →
    last_of last (take len x) ≡ get_or x (len - 1) 0
last_token x len last s h =
    let n : length (take len x) ≡ len = length-take-le len x h in
    last_there last (take len x) (omega (arith, n)) ∙ ap (λ k. get_or (take len x) (k - 1) 0) n ∙
    get_take x len (len - 1) (omega arith)

-- what is told of the state behind a token
pub record Behind (mode : Mode) (so_far next : SoFar) (kind : Kind) (token : List ℕ) (rest : List ℕ) : Type 0 where
  pub last : next.last ≡ last_of so_far.last token
  pub opening : next.opening ≡ is_opening_kind kind
  pub string : next.string ≡ (if is_left_out_kind kind token then so_far.string else is_string_kind mode kind)
  pub agree : (behind : List (List ℕ)) → HasTokens mode rest behind → next.agree ≡
      (so_far.agree && agree_at so_far.last token behind)

-- the placeholders behind one more token
abbrev pub MoreFound : Sql → ℕ → ℕ → List (List ℕ) → List Place → List Place → Type 0
MoreFound query at len before found more = (rest : List (List ℕ)) →
    HasTokens query.mode (drop (at + len) query.text) rest →
    found ++ places_behind query true before at (take len (drop at query.text) ∷ rest) ≡ more ++
    places_behind query true (take len (drop at query.text) ∷ before) (at + len) rest

come_token : (query : Sql) (at len : ℕ) (so_far next : SoFar) (found more : List Place)
    (kind : Kind) (c : Come query at so_far found)
    → IsToken query.mode (take len (drop at query.text)) (drop len (drop at query.text)) → kind ≡
    kind_of (take len (drop at query.text))
    → Behind query.mode so_far next kind (take len (drop at query.text))
    (drop (at + len) query.text) → MoreFound query at len c.before found more →
    Come query (at + len) next more
come_token query at len so_far next found more kind c i e b m = record {
  before = t ∷ c.before;
  opening = b.opening ∙ ap is_opening_kind e;
  string = b.string ∙ ap (λ s. if is_left_out_kind kind t then s else is_string_kind query.mode
      kind) c.string ∙ ap (λ k. if is_left_out_kind k t then meets_string query.mode c.before else
      is_string_kind query.mode k) e;
  goes_on = λ rest h.
      let g : Goes query at so_far found c.before (t ∷ rest) =
      c.goes_on (t ∷ rest) (with_token query at len rest i h) in
      record {
        all = g.all;
        has = g.has;
        places = g.places ∙ m rest h;
        agree = g.agree ∙ and_assoc so_far.agree (agree_at so_far.last t rest)
            (servers_agree (last_of so_far.last t) rest)
            ∙ ap (λ p. p && servers_agree (last_of so_far.last t) rest) (sym (b.agree rest h)) ∙
            ap (λ l. next.agree && servers_agree l rest) (sym b.last);
      };
}
  where
    t : List ℕ
    t = take len (drop at query.text)

more_same : (query : Sql) (at len : ℕ) (before : List (List ℕ)) (found : List Place) →
    at + len ≤ length query.text → is_place (take len (drop at query.text)) ≡ false →
    MoreFound query at len before found found
more_same query at len before found l p rest h =
    let n : length (take len (drop at query.text)) ≡ len = token_len query.text at len l in
    rw (p, n) refl

more_place : (query : Sql) (at len : ℕ) (before : List (List ℕ)) (found : List Place)
    (place : Place) → at + len ≤ length query.text → is_place (take len (drop at query.text)) ≡ true
    → ((rest : List (List ℕ)) → HasTokens query.mode (drop (at + len) query.text) rest → place ≡
    place_at query true before at (take len (drop at query.text)) rest)
    → MoreFound query at len before found (found ++ place ∷ [])
more_place query at len before found place l p f rest h =
    let t : List ℕ = take len (drop at query.text) in
    let n : length t ≡ len = token_len query.text at len l in
    let e : places_behind query true before at (t ∷ rest) ≡ place_at query true before at t rest ∷
    places_behind query true (t ∷ before) (at + length t) rest = rw p refl in
    let k : places_behind query true before at (t ∷ rest) ≡ place ∷
    places_behind query true (t ∷ before) (at + len) rest =
    e ∙ ap (λ o. o ∷ places_behind query true (t ∷ before) (at + length t) rest) (sym (f rest h)) ∙
    ap (λ j. place ∷ places_behind query true (t ∷ before) (at + j) rest) n in
    ap (λ y. found ++ y) k ∙ sym
    (append_assoc found (place ∷ []) (places_behind query true (t ∷ before) (at + len) rest))

-- a placeholder, by its parts
abbrev place_with : ℕ → ℕ → Bool → Bool → Place
place_with start end name alone = record { start = start; end = end; name = name; alone = alone }

same_place : (query : Sql) (at len : ℕ) (so_far : SoFar) (kind : Kind)
    (before rest : List (List ℕ)) → at + len ≤ length query.text → is_name_kind kind ≡
    is_name_kind (kind_of (take len (drop at query.text)))
    → so_far.opening ≡ begins is_opening before → so_far.string ≡ meets_string query.mode before
    → place_between query.text kind at (at + len) so_far.opening so_far.string
    (meets_string query.mode rest) ≡
    place_at query true before at (take len (drop at query.text)) rest
same_place query at len so_far kind before rest l e o s =
    let t : List ℕ = take len (drop at query.text) in
    let n : length t ≡ len = token_len query.text at len l in
    ap (λ x. place_with at (at + len) x (stands_apart query.text at (at + len) &&
    not so_far.opening && not so_far.string && not (meets_string query.mode rest))) e
    ∙ ap (λ x. place_with at (at + len) (is_name_kind (kind_of t))
    (stands_apart query.text at (at + len) && not x && not so_far.string &&
    not (meets_string query.mode rest))) o
    ∙ ap (λ x. place_with at (at + len) (is_name_kind (kind_of t))
    (stands_apart query.text at (at + len) && not (begins is_opening before) && not x &&
    not (meets_string query.mode rest))) s
    ∙ ap (λ x. place_with at (at + len) (is_name_kind (kind_of t)) x)
    (sym (and_end (stands_apart query.text at (at + len) && not (begins is_opening before) &&
    not (meets_string query.mode before) && not (meets_string query.mode rest))))
    ∙ ap (λ j. place_with at (at + j) (is_name_kind (kind_of t))
    (stands_alone query.mode true query.text at (at + j) before rest)) (sym n)

-- a token by its kind where it stands
kind_there : (m : Mode) (query : List ℕ) (at len : ℕ) (kind : Kind) →
    IsToken m (take len (drop at query)) (drop len (drop at query)) → kind ≡
    kind_of (drop at query) → kind ≡ kind_of (take len (drop at query))
kind_there m query at len kind i e = e ∙ ap kind_of (sym (take-append-drop len (drop at query))) ∙
    sym (kind_alone m (take len (drop at query)) (drop len (drop at query)) i)

pub come_place : (query : Sql) (at len : ℕ) (so_far next : SoFar) (found : List Place) (kind : Kind)
    (place : Place) → at + len ≤ length query.text → Come query at so_far found →
    IsToken query.mode (take len (drop at query.text)) (drop len (drop at query.text))
    → kind ≡ kind_of (drop at query.text) →
    Behind query.mode so_far next kind (take len (drop at query.text))
    (drop (at + len) query.text) → is_place_kind kind ≡ true
    → ((behind : List (List ℕ)) → HasTokens query.mode (drop (at + len) query.text) behind → place ≡
    place_between query.text kind at (at + len) so_far.opening so_far.string
    (meets_string query.mode behind))
    → Come query (at + len) next (found ++ place ∷ [])
come_place query at len so_far next found kind place l c i e b p f =
    let k : kind ≡ kind_of (take len (drop at query.text)) = kind_there query.mode query.text at len kind i e in
    come_token query at len so_far next found (found ++ place ∷ []) kind c i k b
    (more_place query at len c.before found place l (sym (ap is_place_kind k) ∙
    p) (λ rest h. f rest h ∙ same_place query at len so_far kind c.before rest l
    (ap is_name_kind k) c.opening c.string))

pub come_none : (query : Sql) (at len : ℕ) (so_far next : SoFar) (found : List Place)
    (kind : Kind) → at + len ≤ length query.text → Come query at so_far found →
    IsToken query.mode (take len (drop at query.text)) (drop len (drop at query.text))
    → kind ≡ kind_of (drop at query.text) →
    Behind query.mode so_far next kind (take len (drop at query.text))
    (drop (at + len) query.text) → is_place_kind kind ≡ false → Come query (at + len) next found
come_none query at len so_far next found kind l c i e b p =
    let k : kind ≡ kind_of (take len (drop at query.text)) = kind_there query.mode query.text at len kind i e in
    come_token query at len so_far next found found kind c i k b
    (more_same query at len c.before found l (sym (ap is_place_kind k) ∙ p))

-- QUIET BYTES

quiet_parts : (b : ℕ) → is_quiet b ≡ true → (is_plain b ≡ true) × (b ≢ bracket) × (b ≢ dollar) × (b ≢ slash)
quiet_parts b h = (
  (and_true (is_plain b) _ h).0,
  (λ e. apart_bytes is_quiet b bracket h refl e),
  (λ e. apart_bytes is_quiet b dollar h refl e),
  λ e. apart_bytes is_quiet b slash h refl e,
)

no_dollar : (last b : ℕ) (x : List ℕ) → b ≢ dollar → begins_dollar_quote last (b ∷ x) ≡ false
no_dollar last b x n = rw (not_equal b dollar n) refl

no_mariadb : (b : ℕ) (x : List ℕ) → b ≢ slash → begins_for_mariadb (b ∷ x) ≡ false
no_mariadb b [] n = refl
no_mariadb b (c ∷ []) n = refl
no_mariadb b (c ∷ d ∷ []) n = refl
no_mariadb b (c ∷ d ∷ e ∷ x) n = rw (not_equal b slash n) refl

quiet_alike : (last b : ℕ) (x : List ℕ) → is_quiet b ≡ true → is_read_otherwise last (b ∷ x) ≡ false
quiet_alike last b x h =
    let q = quiet_parts b h in
    rw (not_equal b bracket q.1, not_equal b dollar q.2) (no_mariadb b x q.3)

quiet_agrees : (last b : ℕ) (behind : List (List ℕ)) → is_quiet b ≡ true → agree_at last (b ∷ []) behind ≡ true
quiet_agrees last b behind h =
    let e : is_opening (b ∷ []) ≡ false = ap is_opening_kind (plain_kind b [] (quiet_parts b h).0) in
    rw (quiet_alike last b (concat behind) h, e) refl

-- QUESTION MARKS

mark_agrees : (last : ℕ) (behind : List (List ℕ)) → agree_at last (question ∷ []) behind ≡ true
mark_agrees last behind = rw (no_mariadb question (concat behind) (λ e. absurd (omega (arith, e)))) refl

-- a question mark is a placeholder, whatever follows it
pub come_mark : (query : Sql) (at : ℕ) (so_far next : SoFar) (found : List Place) (place : Place) →
    at < length query.text → get_or query.text at 0 ≡ question → Come query at so_far found →
    next.last ≡ question → next.opening ≡ false → next.string ≡ false → next.agree ≡ so_far.agree
    → ((behind : List (List ℕ)) → HasTokens query.mode (drop (at + 1) query.text) behind → place ≡
    place_between query.text Mark at (at + 1) so_far.opening so_far.string
    (meets_string query.mode behind))
    → Come query (at + 1) next (found ++ place ∷ [])
come_mark query at so_far next found place h e c l o s a f =
    let d : drop at query.text ≡ question ∷ drop (at + 1) query.text =
    drop_one query.text at h ∙ ap (λ b. b ∷ drop (at + 1) query.text) e in
    let t : take 1 (drop at query.text) ≡ question ∷ [] = ap (take 1) d in
    let i : IsToken query.mode (take 1 (drop at query.text)) (drop 1 (drop at query.text)) =
    subst (λ y. IsToken query.mode y (drop 1 (drop at query.text))) (sym t) refl in
    come_place query at 1 so_far next found Mark place (omega arith) c i (sym (ap kind_of d))
    (subst (λ y. Behind query.mode so_far next Mark y (drop (at + 1) query.text)) (sym t) (record {
      last = l;
      opening = o;
      string = s;
      agree = λ behind _. a ∙ sym (and_end so_far.agree) ∙
          ap (λ g. so_far.agree && g) (sym (mark_agrees so_far.last behind));
    })) refl f

if_and : (p q : Bool) → (if p then q else false) ≡ (q && p)
if_and true true = refl
if_and true false = refl
if_and false true = refl
if_and false false = refl

-- the state behind quiet bytes
abbrev behind_one : SoFar → ℕ → SoFar
behind_one so_far b = record { last = b; opening = false; string = so_far.string && is_blank b; agree = so_far.agree }

abbrev pub behind_all : SoFar → List ℕ → SoFar
behind_all so_far [] = so_far
behind_all so_far (b ∷ bytes) = behind_all (behind_one so_far b) bytes

come_quiet : (query : Sql) (at : ℕ) (so_far : SoFar) (found : List Place) → at < length query.text →
    is_quiet (get_or query.text at 0) ≡ true → Come query at so_far found →
    Come query (at + 1) (behind_one so_far (get_or query.text at 0)) found
come_quiet query at so_far found h p c =
    let b : ℕ = get_or query.text at 0 in
    let e : drop at query.text ≡ b ∷ drop (at + 1) query.text = drop_one query.text at h in
    let t : take 1 (drop at query.text) ≡ b ∷ [] = ap (take 1) e in
    let q : is_plain b ≡ true = (quiet_parts b p).0 in
    let i : IsToken query.mode (take 1 (drop at query.text)) (drop 1 (drop at query.text)) =
    subst (λ y. IsToken query.mode y (drop 1 (drop at query.text))) (sym t)
    (plain_token query.mode b (drop 1 (drop at query.text)) q) in
    come_token query at 1 so_far (behind_one so_far b) found found Plain c i
    (sym (plain_kind b [] q) ∙ ap kind_of (sym t))
    (subst (λ y. Behind query.mode so_far (behind_one so_far b) Plain y (drop (at + 1) query.text)) (sym t) (record {
      last = refl;
      opening = refl;
      string = sym (if_and (is_blank b) so_far.string);
      agree = λ behind _. sym (and_end so_far.agree) ∙
          ap (λ g. so_far.agree && g) (sym (quiet_agrees so_far.last b behind p));
    }))
    (more_same query at 1 c.before found (omega arith) (ap is_place t ∙ plain_no_place b q))

come_run : (query : Sql) (at n : ℕ) (so_far : SoFar) (found : List Place) →
    at + n ≤ length query.text →
    ((k : ℕ) → at ≤ k → k < at + n → is_quiet (get_or query.text k 0) ≡ true) →
    Come query at so_far found
    → Come query (at + n) (behind_all so_far (take n (drop at query.text))) found
come_run query at zero so_far found l p c = let e : at ≡ at + 0 = omega arith in
    subst (λ m. Come query m so_far found) e c
come_run query at (suc n) so_far found l p c =
    let e : at + 1 + n ≡ at + suc n = omega arith in
    let b : ℕ = get_or query.text at 0 in
    let d : drop at query.text ≡ b ∷ drop (at + 1) query.text = drop_one query.text at (omega arith) in
    let f : take (suc n) (drop at query.text) ≡ b ∷ take n (drop (at + 1) query.text) = ap (take (suc n)) d in
    subst (λ y. Come query (at + suc n) (behind_all so_far y) found) (sym f)
    (subst (λ m. Come query m (behind_all (behind_one so_far b) (take n (drop (at + 1) query.text))) found) e
    (come_run query (at + 1) n (behind_one so_far b) found (omega arith)
    (λ k from below. p k (omega arith) (omega arith))
    (come_quiet query at so_far found (omega arith) (p at (omega arith) (omega arith)) c)))

-- what is told of the state behind quiet bytes
pub record BehindQuiet (so_far next : SoFar) (bytes : List ℕ) : Type 0 where
  pub none : length bytes ≡ 0 → next ≡ so_far
  pub last : 0 < length bytes → next.last ≡ slice_index bytes (length bytes - 1)
  pub opening : 0 < length bytes → next.opening ≡ false
  pub string : next.string ≡ (so_far.string && list_all is_blank bytes)
  pub agree : next.agree ≡ so_far.agree

abbrev so_far_with : ℕ → Bool → Bool → Bool → SoFar
so_far_with last opening string agree = record { last = last; opening = opening; string = string; agree = agree }

all_of_it : (so_far : SoFar) (b : ℕ) (bytes : List ℕ) → behind_all so_far (b ∷ bytes) ≡
    so_far_with (last_of b bytes) false (so_far.string && list_all is_blank (b ∷ bytes))
    so_far.agree
all_of_it so_far b [] = ap (λ s. so_far_with b false (so_far.string && s) so_far.agree) (sym (and_end (is_blank b)))
all_of_it so_far b (c ∷ bytes) =
    all_of_it (behind_one so_far b) c bytes
    ∙ ap (λ s. so_far_with (last_of c bytes) false s so_far.agree)
    (sym (and_assoc so_far.string (is_blank b) (list_all is_blank (c ∷ bytes))))

behind_bytes : (so_far next : SoFar) (bytes : List ℕ) → BehindQuiet so_far next bytes → next ≡ behind_all so_far bytes
behind_bytes so_far next [] h = h.none refl
behind_bytes so_far next (b ∷ bytes) h =
    let some : 0 < length (b ∷ bytes) = omega arith in
    ap (λ l. so_far_with l next.opening next.string next.agree) (h.last some ∙ sym (last_there 0 (b ∷ bytes) some))
    ∙ ap (λ o. so_far_with (last_of b bytes) o next.string next.agree) (h.opening some)
    ∙ ap (λ s. so_far_with (last_of b bytes) false s next.agree) h.string
    ∙ ap (λ a. so_far_with (last_of b bytes) false (so_far.string && list_all is_blank (b ∷ bytes)) a) h.agree
    ∙ sym (all_of_it so_far b bytes)

pub come_up_to : (query : Sql) (at end : ℕ) (so_far next : SoFar) (found : List Place) → at ≤ end →
    end ≤ length query.text → ((k : ℕ) → at ≤ k → k < end → is_quiet (get_or query.text k 0) ≡ true)
    → BehindQuiet so_far next (take (end - at) (drop at query.text)) → Come query at so_far found →
    Come query end next found
come_up_to query at end so_far next found o l p b c =
    let e : at + (end - at) ≡ end = omega arith in
    subst (λ s. Come query end s found) (sym (behind_bytes so_far next (take (end - at) (drop at query.text)) b))
    (subst (λ m. Come query m (behind_all so_far (take (end - at) (drop at query.text))) found) e
    (come_run query at (end - at) so_far found (omega arith)
    (λ k from below. p k from (omega arith)) c))

-- THE WHOLE

none_stands : (query : Sql) (before : List (List ℕ)) (start : ℕ) (ts : List (List ℕ)) →
    places_behind query false before start ts ≡
    map not_alone (places_behind query true before start ts)
none_stands query before start [] = refl
none_stands query before start (t ∷ ts) = elim (bool_tells (is_place t)) [
  | inl p ↦ (let e : place_at query false before start t ts ≡ not_alone (place_at query true before start t ts) =
      ap (λ x. place_with start (start + length t) (is_name_kind (kind_of t)) x)
      (none (stands_apart query.text start (start + length t) &&
      not (begins is_opening before) && not (meets_string query.mode before) &&
      not (meets_string query.mode ts))) in
      rw p (ap (λ o. o ∷ places_behind query false (t ∷ before) (start + length t) ts) e ∙
      ap (λ y. not_alone (place_at query true before start t ts) ∷
      y) (none_stands query (t ∷ before) (start + length t) ts)))
  | inr p ↦ (rw p (none_stands query (t ∷ before) (start + length t) ts))
]
  where
    none : (p : Bool) → (p && false) ≡ false
    none true = refl
    none false = refl

goes_to_end : (query : Sql) (at : ℕ) (so_far : SoFar) (found : List Place) →
    length query.text ≤ at → (c : Come query at so_far found) →
    Goes query at so_far found c.before []
goes_to_end query at so_far found l c = c.goes_on [] (record { joined = sym (drop_end query.text at l); each = tt })

pub come_all : (query : Sql) (at : ℕ) (so_far : SoFar) (found : List Place) →
    length query.text ≤ at → Come query at so_far found → so_far.agree ≡ true →
    HasPlaces query found
come_all query at so_far found l c a =
    let g : Goes query at so_far found c.before [] = goes_to_end query at so_far found l c in
    let e : servers_agree 0 g.all ≡ true = g.agree ∙ ap (λ p. p && true) a in
    (g.all, g.has, sym (append-nil found) ∙ sym g.places ∙ ap (λ p. places_behind query p [] 0 g.all) (sym e))

pub come_apart : (query : Sql) (at : ℕ) (so_far : SoFar) (found : List Place) →
    length query.text ≤ at → Come query at so_far found → so_far.agree ≡ false →
    HasPlaces query (map not_alone found)
come_apart query at so_far found l c a =
    let g : Goes query at so_far found c.before [] = goes_to_end query at so_far found l c in
    let e : servers_agree 0 g.all ≡ false = g.agree ∙ ap (λ p. p && true) a in (
      g.all,
      g.has,
      ap (map not_alone) (sym (append-nil found) ∙ sym g.places) ∙
          sym (none_stands query [] 0 g.all) ∙ ap (λ p. places_behind query p [] 0 g.all) (sym e),
    )

-- a slice to the end, as the code has it
pub to_end : (query : List ℕ) (at : ℕ) → take (length query - at) (drop at query) ≡ drop at query
to_end query at = take_all (length query - at) (drop at query) (omega (arith, length-drop at query))

pub kind_of_end : (query : List ℕ) (at : ℕ) → kind_of (take (length query - at) (drop at query)) ≡
    kind_of (drop at query)
kind_of_end query at = ap kind_of (to_end query at)

pub token_there : (m : Mode) (query : List ℕ) (at len : ℕ) →
    IsToken m (take len (take (length query - at) (drop at query)))
    (drop len (take (length query - at) (drop at query))) →
    IsToken m (take len (drop at query)) (drop len (drop at query))
token_there m query at len h = subst (λ y. IsToken m (take len y) (drop len y)) (to_end query at) h

-- what is told of the state behind a token, of a slice to the end
pub behind_there : (m : Mode) (text : List ℕ) (at len : ℕ) (so_far next : SoFar) (kind : Kind)
    (left : List ℕ) → left ≡ drop at text → 0 < len → len ≤ length (drop at text) → next.last ≡
    get_or left (len - 1) 0 → next.opening ≡ is_opening_kind kind
    → next.string ≡ (if is_left_out_kind kind (take len left) then so_far.string else is_string_kind m kind)
    → ((behind : List (List ℕ)) → HasTokens m (drop len left) behind → next.agree ≡
    (so_far.agree && agree_at so_far.last (take len left) behind))
    → Behind m so_far next kind (take len (drop at text)) (drop (at + len) text)
behind_there m text at len so_far next kind left e s h l o t a = record {
  last = l ∙ ap (λ y. get_or y (len - 1) 0) e ∙ sym (last_token (drop at text) len so_far.last s h);
  opening = o;
  string = t ∙ ap (λ y. if is_left_out_kind kind (take len y) then so_far.string else is_string_kind m kind) e;
  agree = λ behind k.
      let f : drop len left ≡ drop (at + len) text = ap (drop len) e ∙ drop-drop len at text in
      a behind (subst (λ y. HasTokens m y behind) (sym f) k) ∙
      ap (λ y. so_far.agree && agree_at so_far.last (take len y) behind) e;
}

-- what a list of placeholders of which none stands alone says
pub apart_places : {E : Type 0} (query : Sql) (found copied : List Place)
    (r : Result (Vec Place Global) E) → copied ≡ found → HasPlaces query (map not_alone found) →
    IfOk r (λ v. v.items ≡ map not_alone copied) → IfOk r (λ v. HasPlaces query v.items)
apart_places query found copied (Ok v) c h e = subst (HasPlaces query) (sym (e ∙ ap (map not_alone) c)) h
apart_places query found copied (Err x) c h e = tt
