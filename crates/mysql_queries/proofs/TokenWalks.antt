-- What a walk over the tokens of a text finds, token by token.
use Rattle.std.proofs.Common.{◌≡◌, ℕ, zero, suc, ◌+◌, ◌<◌, ◌≤◌, Bool, true, false, not, ◌&&◌, ◌||◌, ◌==◌, List, [], ◌∷◌}
use Rattle.std.proofs.Common.{◌++◌, length, take, drop, get_or, slice_index, refl, sym, ap, ◌∙◌, inl, inr, arith, subst}
use Rattle.std.proofs.Common.{take-append-drop, drop-drop, length-drop, append-nil}
use Rattle.std.specs.List.{concat, prefix_len}
use Rattle.std.proofs.Common.{◌-◌, ◌≢◌, take_all}
use Rattle.mysql_queries.specs.Tokens.{HasTokens, IsToken, HasShape, Kind, Quoted, LineComment, BlockComment, Opening}
use Rattle.mysql_queries.specs.Tokens.{Closing, Name, Mark, Plain, kind_of, is_digit, is_simple_byte, bracket, dollar}
use Rattle.mysql_queries.specs.Tokens.{slash, star, hash, dash, colon, question}
use Rattle.mysql_queries.specs.Alone.{agree_at, begins, begins_dollar_quote, is_closing, is_closing_kind, is_left_out}
use Rattle.mysql_queries.specs.Alone.{is_left_out_kind, is_opening, is_opening_kind, is_place, is_read_otherwise}
use Rattle.mysql_queries.specs.Scanning.{is_plain, is_quiet}
use Rattle.mysql_queries.specs.Alone.{is_blank, is_run, is_run_token, is_string, is_string_kind, meets_string}
use Rattle.mysql_queries.specs.PlaceKinds.{is_place_kind}
use Rattle.mysql_bytes.specs.declared.mode.Mode.{Mode}
use Rattle.mysql_queries.proofs.AloneKinds.{kind_alone, plain_kind}
use Rattle.mysql_queries.proofs.Cuts.{drop_end, drop_one}
use Rattle.mysql_queries.proofs.FirstBytes.{Tells, and_true, bool_tells, kind_tells}
use Rattle.mysql_queries.proofs.Follow.{and_false, not_equal}
use Rattle.mysql_queries.proofs.OneToken.{not_empty}
use Rattle.mysql_queries.proofs.Prefixes.{behind_more, behind_stop}
use Rattle.mysql_queries.proofs.Readings.{one_tokens, some_tokens}

-- the tokens of a text from a place on go on with a token there
pub token_before : (m : Mode) (text : List ℕ) (at len : ℕ) (rest : List (List ℕ)) →
    IsToken m (take len (drop at text)) (drop len (drop at text)) →
    HasTokens m (drop (at + len) text) rest →
    HasTokens m (drop at text) (take len (drop at text) ∷ rest)
token_before m text at len rest i h =
    let e : concat rest ≡ drop len (drop at text) = h.joined ∙ sym (drop-drop len at text) in
    record {
      joined = ap (λ y. take len (drop at text) ++ y) e ∙
          take-append-drop len (drop at text);
      each =
          (subst (IsToken m (take len (drop at text))) (sym e) i, h.each);
    }

-- a token by its kind where it stands
pub kind_found : (m : Mode) (text : List ℕ) (at len : ℕ) (kind : Kind) →
    IsToken m (take len (drop at text)) (drop len (drop at text)) → kind ≡ kind_of (drop at text) →
    kind ≡ kind_of (take len (drop at text))
kind_found m text at len kind i e = e ∙ ap kind_of (sym (take-append-drop len (drop at text))) ∙
    sym (kind_alone m (take len (drop at text)) (drop len (drop at text)) i)

-- A walk over tokens has come to a place: what is asked of all tokens is what is asked of those left.
pub record Walk {A : Type 0} (m : Mode) (ask : List (List ℕ) → A) (text : List ℕ) (at : ℕ)
    (rest : List (List ℕ)) : Type 0 where
  pub all : List (List ℕ)
  pub has : HasTokens m text all
  pub same : ask all ≡ ask rest

abbrev pub Walks : {A : Type 0} → Mode → (List (List ℕ) → A) → List ℕ → ℕ → Type 0
Walks m ask text at = (rest : List (List ℕ)) → HasTokens m (drop at text) rest → Walk m ask text at rest

pub walk_first : {A : Type 0} (m : Mode) (ask : List (List ℕ) → A) (text : List ℕ) → Walks m ask text 0
walk_first m ask text rest h = record { all = rest; has = h; same = refl }

pub walk_on : {A : Type 0} (m : Mode) (ask : List (List ℕ) → A) (text : List ℕ) (at len : ℕ) →
    IsToken m (take len (drop at text)) (drop len (drop at text))
    → ((rest : List (List ℕ)) → ask (take len (drop at text) ∷ rest) ≡ ask rest) →
    Walks m ask text at → Walks m ask text (at + len)
walk_on m ask text at len i f w rest h =
    let o : Walk m ask text at (take len (drop at text) ∷ rest) =
    w (take len (drop at text) ∷ rest) (token_before m text at len rest i h) in
    record { all = o.all; has = o.has; same = o.same ∙ f rest }

-- what is asked of the tokens of the text
pub walked : {A : Type 0} (m : Mode) (ask : List (List ℕ) → A) (text : List ℕ) (at : ℕ)
    (rest tokens : List (List ℕ)) → Walks m ask text at → HasTokens m (drop at text) rest →
    HasTokens m text tokens → ask tokens ≡ ask rest
walked m ask text at rest tokens w h k =
    let o : Walk m ask text at rest = w rest h in
    ap ask (one_tokens m text tokens o.all k o.has) ∙ o.same

-- what is asked at a token
pub walked_to : {A : Type 0} (m : Mode) (ask : List (List ℕ) → A) (text : List ℕ) (at len : ℕ)
    (a : A) → IsToken m (take len (drop at text)) (drop len (drop at text))
    → ((rest : List (List ℕ)) → ask (take len (drop at text) ∷ rest) ≡ a) → Walks m ask text at →
    (tokens : List (List ℕ)) → HasTokens m text tokens → ask tokens ≡ a
walked_to m ask text at len a i f w tokens k =
    let r : (rest : List (List ℕ)) × HasTokens m (drop (at + len) text) rest = some_tokens m (drop (at + len) text) in
    walked m ask text at (take len (drop at text) ∷ r.0) tokens w (token_before m text at len r.0 i r.1) k ∙ f r.0

pub none_left : (m : Mode) (text : List ℕ) (at : ℕ) → length text ≤ at → HasTokens m (drop at text) []
none_left m text at l = record { joined = sym (drop_end text at l); each = tt }

-- a slice to the end, as the code has it
pub to_end : (text : List ℕ) (at : ℕ) → take (length text - at) (drop at text) ≡ drop at text
to_end text at = take_all (length text - at) (drop at text) (omega (arith, length-drop at text))

pub kind_to_end : (kind : Kind) (text : List ℕ) (at : ℕ) → kind ≡
    kind_of (take (length text - at) (drop at text)) → kind ≡ kind_of (drop at text)
kind_to_end kind text at e = e ∙ ap kind_of (to_end text at)

pub token_to_end : (m : Mode) (text : List ℕ) (at len : ℕ) →
    IsToken m (take len (take (length text - at) (drop at text)))
    (drop len (take (length text - at) (drop at text))) →
    IsToken m (take len (drop at text)) (drop len (drop at text))
token_to_end m text at len h = subst (λ z. IsToken m (take len z) (drop len z)) (to_end text at) h

pub short : (text : List ℕ) (at len : ℕ) → at < length text →
    len ≤ length (take (length text - at) (drop at text)) → at + len ≤ length text
short text at len l h = let k : len ≤ length (drop at text) =
    subst (λ y. len ≤ length y) (to_end text at) h in omega (arith, k, length-drop at text)

-- the first token of what is left, and the others
pub record FirstLeft (m : Mode) (text : List ℕ) (at : ℕ) : Type 0 where
  pub token : List ℕ
  pub others : List (List ℕ)
  pub has : HasTokens m (drop at text) (token ∷ others)
  pub len : ℕ
  pub some : 0 < len
  pub is : token ≡ take len (drop at text)
  pub there : IsToken m (take len (drop at text)) (drop len (drop at text))

take_front : (x y : List ℕ) → take (length x) (x ++ y) ≡ x
take_front [] y = refl
take_front (b ∷ x) y = ap (λ z. b ∷ z) (take_front x y)

drop_front : (x y : List ℕ) → drop (length x) (x ++ y) ≡ y
drop_front [] y = refl
drop_front (b ∷ x) y = drop_front x y

some_length : (m : Mode) (t r : List ℕ) → IsToken m t r → 0 < length t
some_length m [] r i = absurd (not_empty m r i)
some_length m (b ∷ t) r i = omega arith

pub first_left : (m : Mode) (text : List ℕ) (at : ℕ) → at < length text → FirstLeft m text at
first_left m text at l = let o : (ts : List (List ℕ)) × HasTokens m (drop at text) ts =
    some_tokens m (drop at text) in by o.0 o.1
  where
    by : (ts : List (List ℕ)) → HasTokens m (drop at text) ts → FirstLeft m text at
    by [] h = let n : length (drop at text) ≡ 0 = sym (ap length h.joined) in
        absurd (omega (arith, n, l, length-drop at text))
    by (t ∷ ts) h =
        let e : take (length t) (drop at text) ≡ t = ap (take (length t)) (sym h.joined) ∙ take_front t (concat ts) in
        let f : drop (length t) (drop at text) ≡ concat ts = ap (drop (length t)) (sym h.joined) ∙
        drop_front t (concat ts) in
        record {
          token = t;
          others = ts;
          has = h;
          len = length t;
          some = some_length m t (concat ts) h.each.0;
          is = sym e;
          there = subst (λ y. IsToken m y (drop (length t) (drop at text))) (sym e)
              (subst (IsToken m t) (sym f) h.each.0);
        }

-- STRINGS

pub left_out_more : (m : Mode) (t : List ℕ) (rest : List (List ℕ)) → is_left_out t ≡ true →
    meets_string m (t ∷ rest) ≡ meets_string m rest
left_out_more m t rest h = rw h refl

pub meets_here : (m : Mode) (t : List ℕ) (rest : List (List ℕ)) → is_left_out t ≡ false →
    meets_string m (t ∷ rest) ≡ is_string m t
meets_here m t rest h = rw h refl

-- at a token that stands for something
pub meets_at : (m : Mode) (text : List ℕ) (at : ℕ) (kind : Kind) (left : Bool) → at < length text →
    kind ≡ kind_of (drop at text) →
    ((len : ℕ) → 0 < len → left ≡ is_left_out_kind kind (take len (drop at text))) → left ≡ false
    → Walks m (meets_string m) text at → (tokens : List (List ℕ)) → HasTokens m text tokens →
    is_string_kind m kind ≡ meets_string m tokens
meets_at m text at kind left l e f n w tokens k =
    let o : FirstLeft m text at = first_left m text at l in
    let g : kind ≡ kind_of o.token = kind_found m text at o.len kind o.there e ∙ ap kind_of (sym o.is) in
    let out : is_left_out o.token ≡ false = sym (ap (λ j. is_left_out_kind j o.token) g) ∙
    ap (is_left_out_kind kind) o.is ∙ sym (f o.len o.some) ∙ n in
    ap (is_string_kind m) g ∙ sym (meets_here m o.token o.others out) ∙
    sym (walked m (meets_string m) text at (o.token ∷ o.others) tokens w o.has k)

pub meets_on : (m : Mode) (text : List ℕ) (at len : ℕ) (kind : Kind) (left : Bool) → 0 < len →
    IsToken m (take len (drop at text)) (drop len (drop at text)) → kind ≡ kind_of (drop at text) →
    ((len : ℕ) → 0 < len → left ≡ is_left_out_kind kind (take len (drop at text))) → left ≡ true
    → Walks m (meets_string m) text at → Walks m (meets_string m) text (at + len)
meets_on m text at len kind left s i e f n w =
    let t : List ℕ = take len (drop at text) in
    let g : kind ≡ kind_of t = kind_found m text at len kind i e in
    let out : is_left_out t ≡ true = sym (ap (λ j. is_left_out_kind j t) g) ∙ sym (f len s) ∙ n in
    walk_on m (meets_string m) text at len i (λ rest. left_out_more m t rest out) w

pub meets_none : (m : Mode) (text : List ℕ) (at : ℕ) → length text ≤ at →
    Walks m (meets_string m) text at → (tokens : List (List ℕ)) → HasTokens m text tokens → false ≡
    meets_string m tokens
meets_none m text at l w tokens k = sym (walked m (meets_string m) text at [] tokens w (none_left m text at l) k)

-- a quiet byte that is no blank stands for something, and is no string
pub meets_standing : (m : Mode) (text : List ℕ) (tokens : List (List ℕ)) → 0 < length text →
    (is_quiet (get_or text 0 0) && not (is_blank (get_or text 0 0))) ≡ true → HasTokens m text tokens →
    false ≡ meets_string m tokens
meets_standing m [] tokens l s h = absurd (omega (arith, l))
meets_standing m (b ∷ x) tokens l s h =
    let e : (is_quiet b ≡ true) × (not (is_blank b) ≡ true) = and_true (is_quiet b) (not (is_blank b)) s in
    let p : is_plain b ≡ true = (and_true (is_plain b) _ e.0).0 in
    meets_at m (b ∷ x) 0 Plain false l (sym (plain_kind b x p)) (left (not_true (is_blank b) e.1)) refl
    (walk_first m (meets_string m) (b ∷ x)) tokens h
  where
    not_true : (p : Bool) → not p ≡ true → false ≡ p
    not_true true k = cc
    not_true false k = refl

    left : false ≡ is_blank b → (len : ℕ) → 0 < len → false ≡ is_left_out_kind Plain (take len (b ∷ x))
    left k zero l = absurd (omega arith)
    left k (suc len) l = k

-- COMMENTS WITHOUT A VERSION

-- what stands behind placeholders and simple bytes
abbrev pub behind_run : List (List ℕ) → List (List ℕ)
behind_run ts = drop (prefix_len is_run_token ts) ts

pub run_more : (t : List ℕ) (rest : List (List ℕ)) → is_run_token t ≡ true → behind_run (t ∷ rest) ≡ behind_run rest
run_more t rest h = behind_more is_run_token t rest h

pub run_here : (t : List ℕ) (rest : List (List ℕ)) → is_run_token t ≡ false → behind_run (t ∷ rest) ≡ t ∷ rest
run_here t rest h = behind_stop is_run_token t rest h

-- a simple byte is a token by itself, and so is one that is none and no placeholder
pub first_of_token : (m : Mode) (text : List ℕ) (at len : ℕ) → at < length text →
    IsToken m (take len (drop at text)) (drop len (drop at text)) →
    begins is_simple_byte (take len (drop at text)) ≡ is_simple_byte (get_or text at 0)
first_of_token m text at zero h i = absurd (not_empty m (drop zero (drop at text)) i)
first_of_token m text at (suc len) h i = ap (λ y. begins is_simple_byte (take (suc len) y)) (drop_one text at h)

pub first_closing : (m : Mode) (t : List ℕ) (r : List ℕ) → IsToken m t r → is_closing t ≡
    is_closing_kind (kind_of (t ++ r))
first_closing m t r i = ap is_closing_kind (kind_alone m t r i)

pub begins_closing : (m : Mode) (text : List ℕ) (tokens : List (List ℕ)) → HasTokens m text tokens →
    begins is_closing tokens ≡ is_closing_kind (kind_of text)
begins_closing m text [] h = ap (λ y. is_closing_kind (kind_of y)) h.joined
begins_closing m text (t ∷ ts) h = first_closing m t (concat ts) h.each.0 ∙
    ap (λ y. is_closing_kind (kind_of y)) h.joined

-- a token of placeholders and simple bytes, by its kind and its first byte
run_token : (m : Mode) (text : List ℕ) (at len : ℕ) (kind : Kind) → at < length text →
    IsToken m (take len (drop at text)) (drop len (drop at text)) → kind ≡ kind_of (drop at text)
    → is_run_token (take len (drop at text)) ≡ (is_place_kind kind || is_simple_byte (get_or text at 0))
run_token m text at len kind l i e =
    let g : kind ≡ kind_of (take len (drop at text)) = kind_found m text at len kind i e in
    ap (λ p. p || begins is_simple_byte (take len (drop at text))) (sym (ap is_place_kind g)) ∙
    ap (λ s. is_place_kind kind || s) (first_of_token m text at len l i)

pub run_stops : (m : Mode) (text : List ℕ) (at : ℕ) (kind : Kind) → at < length text → kind ≡
    kind_of (drop at text) → is_place_kind kind ≡ false → is_simple_byte (get_or text at 0) ≡ false
    → Walks m behind_run text at → (tokens : List (List ℕ)) → HasTokens m text tokens →
    HasTokens m (drop at text) (behind_run tokens)
run_stops m text at kind l e p s w tokens k =
    let o : FirstLeft m text at = first_left m text at l in
    let n : is_run_token o.token ≡ false = ap is_run_token o.is ∙
    run_token m text at o.len kind l o.there e ∙
    ap (λ q. q || is_simple_byte (get_or text at 0)) p ∙ s in
    let f : behind_run tokens ≡ o.token ∷ o.others =
    walked m behind_run text at (o.token ∷ o.others) tokens w o.has k ∙
    run_here o.token o.others n in
    subst (HasTokens m (drop at text)) (sym f) o.has

pub run_goes_on : (m : Mode) (text : List ℕ) (at len : ℕ) (kind : Kind) → at < length text →
    IsToken m (take len (drop at text)) (drop len (drop at text)) → kind ≡ kind_of (drop at text) →
    (is_place_kind kind || is_simple_byte (get_or text at 0)) ≡ true
    → Walks m behind_run text at → Walks m behind_run text (at + len)
run_goes_on m text at len kind l i e p w =
    walk_on m behind_run text at len i
    (λ rest. run_more (take len (drop at text)) rest (run_token m text at len kind l i e ∙ p)) w

pub run_ends : (m : Mode) (text : List ℕ) (at : ℕ) → length text ≤ at → Walks m behind_run text at →
    (tokens : List (List ℕ)) → HasTokens m text tokens →
    HasTokens m (drop at text) (behind_run tokens)
run_ends m text at l w tokens k =
    subst (HasTokens m (drop at text))
    (sym (walked m behind_run text at [] tokens w (none_left m text at l) k))
    (none_left m text at l)

-- a comment without a version, by what stands behind its placeholders and simple bytes
pub run_is : (m : Mode) (text : List ℕ) (n : ℕ) (tokens : List (List ℕ)) (closing : Bool) →
    HasTokens m text tokens → begins is_digit text ≡ false →
    HasTokens m (drop n text) (behind_run tokens) → closing ≡
    is_closing_kind (kind_of (drop n text)) → closing ≡ is_run tokens
run_is m text n tokens closing h d k e =
    e ∙ sym (begins_closing m (drop n text) (behind_run tokens) k) ∙
    ap (λ b. not b && begins is_closing (behind_run tokens))
    (sym (ap (begins is_digit) h.joined ∙ d))

pub no_run : (m : Mode) (text : List ℕ) (tokens : List (List ℕ)) → HasTokens m text tokens →
    begins is_digit text ≡ true → false ≡ is_run tokens
no_run m text tokens h d =
    ap (λ b. not b && begins is_closing (behind_run tokens))
    (sym (ap (begins is_digit) h.joined ∙ d))

-- WHERE SERVERS AGREE

pub agree_is : (m : Mode) (last : ℕ) (text : List ℕ) (len : ℕ) (kind : Kind)
    (behind : List (List ℕ)) → kind ≡ kind_of text → IsToken m (take len text) (drop len text) →
    HasTokens m (drop len text) behind
    → (not (is_read_otherwise last text) && (not (is_opening_kind kind) || is_run behind)) ≡
    agree_at last (take len text) behind
agree_is m last text len kind behind e i h =
    let whole : text ≡ take len text ++ concat behind =
    sym (ap (λ y. take len text ++ y) h.joined ∙ take-append-drop len text) in
    let g : kind ≡ kind_of (take len text) = e ∙ ap kind_of (sym (take-append-drop len text)) ∙
    sym (kind_alone m (take len text) (drop len text) i) in
    ap (λ y. not (is_read_otherwise last y) && (not (is_opening_kind kind) || is_run behind)) whole
    ∙ ap (λ k. not (is_read_otherwise last (take len text ++ concat behind)) &&
    (not (is_opening_kind k) || is_run behind)) g
