-- How far a digest has come.
use Rattle.std.proofs.Common.{if◌then◌else◌, ◌≡◌, ℕ, ◌+◌, ◌<◌, ◌≤◌, Bool, true, false, List, [], ◌∷◌, length, take}
use Rattle.std.proofs.Common.{drop, refl, sym, ap, ◌∙◌, arith, subst, drop-drop, length-drop, drop_of_length-le}
use Rattle.mysql_queries.specs.Tokens.{HasTokens}
use Rattle.mysql_bytes.specs.declared.mode.Mode.{Mode}
use Rattle.mysql_digests.specs.Digest.{Lexeme, Piece, agreed, is_cut, is_disputed, lexemes_of, pieces_behind}
use Rattle.mysql_digests.specs.Digest.{is_left_out, before_next, with_lexeme, with_rest, without_last, with_spaces}
use Rattle.mysql_digests.specs.Digest.{IsDigest}
use Rattle.mysql_digests.specs.Held.{Holds}
use Rattle.mysql_digests.specs.Lexemes.{BeginsWith, begins_disputed, lexeme_view}
use Rattle.mysql_queries.specs.Laws.{SomeTokens}
use Rattle.mysql_digests.proofs.Lexing.{agreed_end, cut_end, disputed_there}
use Rattle.mysql_digests.specs.declared.left_out.Before.{Before}
use Rattle.mysql_digests.specs.declared.left_out.Before.TheVariants.{Apart}
use Rattle.mysql_digests.specs.declared.lexemes.Found.{Found}
use Rattle.mysql_digests.specs.declared.pieces.Pieces.{Pieces}

-- With the tokens of what is left from a place on, behind a byte, the pieces so far and theirs are
-- those of the text, as far as servers agree.
pub record Come (mode : Mode) (text : List ℕ) (at last : ℕ) (before : Before) (held : Pieces) : Type 0 where
  pub pieces : List Piece
  pub holds : Holds pieces held
  pub so_far : (tokens : List (List ℕ)) → HasTokens mode (drop at text) tokens →
      (all : List (List ℕ)) × HasTokens mode text all ×
      (pieces_behind Apart [] (lexemes_of mode (agreed 0 all)) ≡
      pieces_behind before pieces (lexemes_of mode (agreed last tokens))) ×
      (is_cut 0 all ≡ is_cut last tokens)

pub come_more : (mode : Mode) (text : List ℕ) (at n last behind : ℕ) (before next : Before)
    (left : Bool) (l : Lexeme) (held later : Pieces) → (c : Come mode text at last before held) →
    BeginsWith mode last (drop at text) l behind (drop n (drop at text))
    → ((tokens : List (List ℕ)) → HasTokens mode (drop n (drop at text)) tokens → left ≡
    is_left_out before l (lexemes_of mode (agreed behind tokens)))
    → ((tokens : List (List ℕ)) → HasTokens mode (drop n (drop at text)) tokens → next ≡
    before_next before l (lexemes_of mode (agreed behind tokens)))
    → ((pieces : List Piece) → Holds pieces held →
    Holds (if left then pieces else with_lexeme l pieces) later) →
    Come mode text (at + n) behind next later
come_more mode text at n last behind before next left l held later c begins lefts nexts holds = record {
  pieces = if left then c.pieces else with_lexeme l c.pieces;
  holds = holds c.pieces c.holds;
  so_far = λ tokens t.
      let k : HasTokens mode (drop n (drop at text)) tokens =
      subst (λ y. HasTokens mode y tokens) (sym (drop-drop n at text)) t in
      let o = begins tokens k in
      let p = c.so_far o.0 o.1 in
      let ls : List Lexeme = lexemes_of mode (agreed behind tokens) in (
        p.0,
        p.1,
        p.2 ∙ ap (pieces_behind before c.pieces) o.2
            ∙ ap (λ s. pieces_behind (before_next before l ls)
            (if s then c.pieces else with_lexeme l c.pieces) ls) (sym (lefts tokens k))
            ∙ ap (λ j. pieces_behind j (if left then c.pieces else with_lexeme l c.pieces) ls) (sym (nexts tokens k)),
        p.3 ∙ o.3,
      );
}

-- the same with the parts of the text as the code cuts them
pub come_on : (mode : Mode) (text : List ℕ) (at n last behind : ℕ) (before next : Before)
    (left : Bool) (what : Found) (held added later : Pieces) (rest bytes after : List ℕ) →
    Come mode text at last before held
    → BeginsWith mode last rest (lexeme_view what (take n rest)) behind (drop n rest)
    → ((j : ℕ) (tokens : List (List ℕ)) → HasTokens mode after tokens → left ≡
    is_left_out before (lexeme_view what bytes) (lexemes_of mode (agreed j tokens)))
    → ((j : ℕ) (tokens : List (List ℕ)) → HasTokens mode after tokens → next ≡
    before_next before (lexeme_view what bytes) (lexemes_of mode (agreed j tokens)))
    → ((pieces : List Piece) → Holds pieces held →
    Holds (if left then pieces else with_lexeme (lexeme_view what bytes) pieces) added)
    → later ≡ added → rest ≡ drop at text → bytes ≡ take n rest → after ≡ drop n rest →
    Come mode text (at + n) behind next later
come_on mode text at n last behind before next left what held added later rest bytes after c begins
    lefts nexts holds same er eb ea =
    let b : bytes ≡ take n (drop at text) = eb ∙ ap (take n) er in
    let a : after ≡ drop n (drop at text) = ea ∙ ap (drop n) er in
    come_more mode text at n last behind before next left (lexeme_view what (take n (drop at text))) held later c
    (subst (λ y. BeginsWith mode last y (lexeme_view what (take n y)) behind (drop n y)) er begins)
    (λ tokens h. lefts behind tokens (subst (λ y. HasTokens mode y tokens) (sym a) h) ∙
    ap (λ y. is_left_out before (lexeme_view what y) (lexemes_of mode (agreed behind tokens)))
    b)
    (λ tokens h. nexts behind tokens (subst (λ y. HasTokens mode y tokens) (sym a) h) ∙
    ap (λ y. before_next before (lexeme_view what y) (lexemes_of mode (agreed behind tokens)))
    b)
    (λ pieces h. subst (λ y. Holds
    (if left then pieces else with_lexeme (lexeme_view what y) pieces) later) b
    (subst (Holds (if left then pieces else with_lexeme (lexeme_view what bytes) pieces))
    (sym same) (holds pieces h)))

digest_by : (mode : Mode) (text : List ℕ) (before : Before) (last : ℕ) (pieces : List Piece)
    (tokens all : List (List ℕ)) (digest : List ℕ) (cut : Bool) → HasTokens mode text all
    → pieces_behind Apart [] (lexemes_of mode (agreed 0 all)) ≡
    pieces_behind before pieces (lexemes_of mode (agreed last tokens)) → is_cut 0 all ≡
    is_cut last tokens
    → agreed last tokens ≡ [] → is_cut last tokens ≡ cut → digest ≡
    without_last (with_spaces (with_rest cut pieces)) → IsDigest mode text digest
digest_by mode text before last pieces tokens all digest cut h p c a b e = (
  all,
  h,
  e ∙ ap (λ y. without_last (with_spaces (with_rest y pieces))) (sym (c ∙ b)) ∙
      ap (λ y. without_last (with_spaces (with_rest (is_cut 0 all) y)))
      (sym (p ∙ ap (λ y. pieces_behind before pieces (lexemes_of mode y)) a)),
)

-- to the end of the text
pub come_all : (mode : Mode) (text : List ℕ) (at last : ℕ) (before : Before) (held : Pieces)
    (digest : List ℕ) → length text ≤ at → Come mode text at last before held →
    ((pieces : List Piece) → Holds pieces held → digest ≡ without_last (with_spaces pieces)) →
    IsDigest mode text digest
come_all mode text at last before held digest l c e =
    let o = c.so_far [] (record { joined = sym (drop_of_length-le text l); each = tt }) in
    digest_by mode text before last c.pieces [] o.0 digest false o.1 o.2 o.3 refl refl (e c.pieces c.holds)

-- up to what servers disagree about
pub come_to : SomeTokens →
    (mode : Mode) (text : List ℕ) (at last : ℕ) (before : Before) (held later : Pieces)
    (digest : List ℕ) → at < length text → Come mode text at last before held →
    begins_disputed last (drop at text) ≡ true
    → ((pieces : List Piece) → Holds pieces held → Holds (with_rest true pieces) later) →
    ((pieces : List Piece) → Holds pieces later → digest ≡ without_last (with_spaces pieces)) →
    IsDigest mode text digest
come_to some mode text at last before held later digest l c d rest e =
    let s : (ts : List (List ℕ)) × HasTokens mode (drop at text) ts = some mode (drop at text) in
    by s.0 s.1
  where
    by : (ts : List (List ℕ)) → HasTokens mode (drop at text) ts → IsDigest mode text digest
    by [] h = let n : length (drop at text) ≡ 0 = sym (ap length h.joined) in
        absurd (omega (arith, n, l, length-drop at text))
    by (t ∷ ts) h =
        let o = c.so_far (t ∷ ts) h in
        let f : is_disputed last t ts ≡ true = sym (disputed_there mode last t ts h.each.0) ∙
        ap (begins_disputed last) h.joined ∙ d in
        digest_by mode text before last c.pieces (t ∷ ts) o.0 digest true o.1 o.2 o.3
        (agreed_end last t ts f) (cut_end last t ts f)
        (e (with_rest true c.pieces) (rest c.pieces c.holds))
