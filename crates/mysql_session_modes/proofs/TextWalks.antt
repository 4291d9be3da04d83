-- What a walk over the tokens of a text finds.
use Rattle.std.proofs.Common.{◌≡◌, ◌==◌, ◌+◌, ◌-◌, ◌≤◌, ◌<◌, Bool, true, false, ℕ, List, [], ◌∷◌, length, take, drop}
use Rattle.std.proofs.Common.{refl, sym, ap, ◌∙◌, arith, subst, eq-eqb, length-append, length-drop, drop-drop}
use Rattle.std.proofs.lemmas.Bool.{ne_eqb}
use Rattle.std.specs.List.{concat}
use Rattle.mysql_bytes.specs.declared.mode.Mode.{Mode}
use Rattle.mysql_queries.specs.Tokens.{HasTokens, IsToken, Kind, kind_of}
use Rattle.mysql_queries.proofs.OneToken.{not_empty}
use Rattle.mysql_queries.proofs.Prefixes.{behind_more, behind_stop}
use Rattle.mysql_queries.proofs.Readings.{some_tokens}
use Rattle.mysql_queries.proofs.TokenWalks.{Walks, kind_found, kind_to_end, none_left, to_end, token_before}
use Rattle.mysql_queries.proofs.TokenWalks.{token_to_end, walk_on, walked, walked_to}
use Rattle.mysql_session_modes.specs.Texts.{behind_skipped, is_doubtful, is_one_statement, is_semicolon, is_skipped}

-- what is left of a text, as the code has it
abbrev pub left : List ℕ → ℕ → List ℕ
left text at = take (length text - at) (drop at text)

-- what is asked of a token by its kind where it stands
pub by_kind : (test : Kind → List ℕ → Bool) (m : Mode) (text : List ℕ) (at len : ℕ) (kind : Kind) (b : Bool) →
    IsToken m (take len (left text at)) (drop len (left text at)) → kind ≡ kind_of (left text at) →
    b ≡ test kind (take len (left text at)) → test (kind_of (take len (drop at text))) (take len (drop at text)) ≡ b
by_kind test m text at len kind b i e h =
    let g : kind ≡ kind_of (take len (drop at text)) =
    kind_found m text at len kind (token_to_end m text at len i) (kind_to_end kind text at e) in
    ap (λ k. test k (take len (drop at text))) (sym g) ∙ ap (λ y. test kind (take len y)) (sym (to_end text at)) ∙ sym h

-- WHAT IS LEFT OUT

pub skip_stops : (m : Mode) (text : List ℕ) (at len : ℕ) →
    IsToken m (take len (drop at text)) (drop len (drop at text)) →
    is_skipped (take len (drop at text)) ≡ false
    → Walks m behind_skipped text at → (tokens : List (List ℕ)) → HasTokens m text tokens →
    HasTokens m (drop at text) (behind_skipped tokens)
skip_stops m text at len i n w tokens k =
    let r : (rest : List (List ℕ)) × HasTokens m (drop (at + len) text) rest = some_tokens m (drop (at + len) text) in
    let h : HasTokens m (drop at text) (take len (drop at text) ∷ r.0) = token_before m text at len r.0 i r.1 in
    let f : behind_skipped tokens ≡ take len (drop at text) ∷ r.0 =
    walked m behind_skipped text at (take len (drop at text) ∷ r.0) tokens w h k ∙
    behind_stop is_skipped (take len (drop at text)) r.0 n in
    subst (HasTokens m (drop at text)) (sym f) h

pub skip_goes_on : (m : Mode) (text : List ℕ) (at len : ℕ) →
    IsToken m (take len (drop at text)) (drop len (drop at text)) →
    is_skipped (take len (drop at text)) ≡ true
    → Walks m behind_skipped text at → Walks m behind_skipped text (at + len)
skip_goes_on m text at len i y w =
    walk_on m behind_skipped text at len i
    (λ rest. behind_more is_skipped (take len (drop at text)) rest y) w

pub skip_ends : (m : Mode) (text : List ℕ) (at : ℕ) → length text ≤ at →
    Walks m behind_skipped text at → (tokens : List (List ℕ)) → HasTokens m text tokens →
    HasTokens m (drop at text) (behind_skipped tokens)
skip_ends m text at l w tokens k =
    subst (HasTokens m (drop at text))
    (sym (walked m behind_skipped text at [] tokens w (none_left m text at l) k))
    (none_left m text at l)

some_bytes : (m : Mode) (t r : List ℕ) → IsToken m t r → 0 < length t
some_bytes m [] r i = absurd (not_empty m r i)
some_bytes m (b ∷ t) r i = omega arith

-- nothing is left but what is left out
pub none_behind : (m : Mode) (text : List ℕ) (end : ℕ) (rest : List (List ℕ)) → end ≤ length text →
    HasTokens m (drop end text) rest →
    (end == length text) ≡ (length rest == 0)
none_behind m text end [] l h =
    let none : length (drop end text) ≡ 0 = sym (ap length h.joined) in
    eq-eqb end (length text) (omega (arith, none, length-drop end text))
none_behind m text end (t ∷ ts) l h =
    let some : 0 < length t = some_bytes m t (concat ts) h.each.0 in
    let joined : length (concat (t ∷ ts)) ≡ length (drop end text) = ap length h.joined in
    let more : length (concat (t ∷ ts)) ≡ length t + length (concat ts) = length-append t (concat ts) in
    ne_eqb end (length text) (λ e. omega (arith, e, some, joined, more, length-drop end text)) ∙
    sym (ne_eqb (length (t ∷ ts)) 0 (λ e. omega (arith, e)))

-- ONE STATEMENT

ends_here : (t : List ℕ) (rest : List (List ℕ)) → is_semicolon t ≡ true →
    is_one_statement (t ∷ rest) ≡ (length (behind_skipped rest) == 0)
ends_here t rest h = rw h refl

doubted_here : (t : List ℕ) (rest : List (List ℕ)) → is_semicolon t ≡ false → is_doubtful t ≡ true →
    is_one_statement (t ∷ rest) ≡ false
doubted_here t rest h d = rw (h, d) refl

same_behind : (t : List ℕ) (rest : List (List ℕ)) → is_semicolon t ≡ false → is_doubtful t ≡ false →
    is_one_statement (t ∷ rest) ≡ is_one_statement rest
same_behind t rest h d = rw (h, d) refl

-- what is left behind a token, as the code has it
left_behind : (text : List ℕ) (at len : ℕ) → left (left text at) len ≡ drop (at + len) text
left_behind text at len = to_end (left text at) len ∙ ap (drop len) (to_end text at) ∙
    drop-drop len at text ∙ ap (λ n. drop n text) (omega arith)

pub one_ends : (m : Mode) (text : List ℕ) (at len : ℕ) (b : Bool) →
    IsToken m (take len (drop at text)) (drop len (drop at text)) →
    is_semicolon (take len (drop at text)) ≡ true
    → ((behind : List (List ℕ)) → HasTokens m (left (left text at) len) behind → b ≡
    (length (behind_skipped behind) == 0))
    → Walks m is_one_statement text at → (tokens : List (List ℕ)) → HasTokens m text tokens → b ≡
    is_one_statement tokens
one_ends m text at len b i y f w tokens k =
    let r : (rest : List (List ℕ)) × HasTokens m (drop (at + len) text) rest = some_tokens m (drop (at + len) text) in
    let h : HasTokens m (drop at text) (take len (drop at text) ∷ r.0) = token_before m text at len r.0 i r.1 in
    f r.0 (subst (λ y. HasTokens m y r.0) (sym (left_behind text at len)) r.1) ∙
    sym (ends_here (take len (drop at text)) r.0 y)
    ∙ sym (walked m is_one_statement text at (take len (drop at text) ∷ r.0) tokens w h k)

pub one_doubted : (m : Mode) (text : List ℕ) (at len : ℕ) →
    IsToken m (take len (drop at text)) (drop len (drop at text)) →
    is_semicolon (take len (drop at text)) ≡ false → is_doubtful (take len (drop at text)) ≡ true
    → Walks m is_one_statement text at → (tokens : List (List ℕ)) → HasTokens m text tokens →
    false ≡ is_one_statement tokens
one_doubted m text at len i n d w tokens k =
    sym (walked_to m is_one_statement text at len false i
    (λ rest. doubted_here (take len (drop at text)) rest n d) w tokens k)

pub one_goes_on : (m : Mode) (text : List ℕ) (at len : ℕ) →
    IsToken m (take len (drop at text)) (drop len (drop at text)) →
    is_semicolon (take len (drop at text)) ≡ false → is_doubtful (take len (drop at text)) ≡ false
    → Walks m is_one_statement text at → Walks m is_one_statement text (at + len)
one_goes_on m text at len i n d w =
    walk_on m is_one_statement text at len i
    (λ rest. same_behind (take len (drop at text)) rest n d) w

pub one_at_end : (m : Mode) (text : List ℕ) (at : ℕ) → length text ≤ at →
    Walks m is_one_statement text at → (tokens : List (List ℕ)) → HasTokens m text tokens → true ≡
    is_one_statement tokens
one_at_end m text at l w tokens k = sym (walked m is_one_statement text at [] tokens w (none_left m text at l) k)
