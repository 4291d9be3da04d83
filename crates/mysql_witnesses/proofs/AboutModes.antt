-- The mode and the character set that a connection knows.
use Rattle.std.proofs.Common.{◌≡◌, ◌&&◌, Bool, true, false, List, [], ◌∷◌, ◌++◌, ℕ, None, refl, sym, ap, ◌∙◌}
use Rattle.std.proofs.Common.{subst, inl, suc, length, arith, true≢false}
use Rattle.std.proofs.lemmas.Bool.{ne_eqb}
use Rattle.bitflags.proofs.OnLiterals.{bitflags_on_literals}
use Rattle.mysql_bytes.specs.declared.mode.Mode.{Mode}
use Rattle.mysql_queries.specs.Tokens.{Byte, HasShape, HasTokens, IsToken, Kind, Opening, Plain, comment_start, kind_of}
use Rattle.std.specs.Prelude.{codes, if◌then◌else◌}
use Rattle.std.specs.List.{concat}
use Rattle.mysql_session_modes.specs.SessionModes.{is_one, is_safe, kept_by, mode_behind_tokens, mode_read}
use Rattle.mysql_session_modes.specs.SessionModes.{unknown_mode}
use Rattle.mysql_session_modes.specs.Texts.{ends_at_semicolon, first_word, has_word, is_one_statement, is_word_at}
use Rattle.mysql_session_modes.specs.Texts.{word_of}
use Rattle.mysql_session_modes.specs.Told.{mode_behind_ok}
use Rattle.mysql_session_modes.specs.declared.session_mode.SessionMode.{SessionMode}
use Rattle.mysql_witnesses.specs.Modes.{BackslashesHideNothing, BeginningsTellNothing, PingsLeaveBoth}
use Rattle.mysql_witnesses.specs.Modes.{SetStatementsCountForNothing, SetsForget}
use Rattle.mysql_witnesses.specs.Modes.{StatusesTellNothing, TextsKeep, ToldInVain, TwoAreTwo, UnsafeSets}

pub statuses_tell_nothing : StatusesTellNothing
unfolding mode_behind_ok
statuses_tell_nothing s status = refl

pub beginnings_tell_nothing : BeginningsTellNothing
beginnings_tell_nothing = record {
  login = λ at said old new h. h;
  change = λ at login old new h. h;
  reset = λ at old new h. h;
}

-- whatever the text is taken for
forgets_mode : (one : Bool) (s : SessionMode) (kept : SessionMode) → kept.mode ≡ None →
    (if one then kept else unknown_mode).mode ≡ None
forgets_mode true s kept h = h
forgets_mode false s kept h = refl

forgets_set : (one : Bool) (s : SessionMode) (kept : SessionMode) → kept.is_safe_set ≡ None →
    (if one then kept else unknown_mode).is_safe_set ≡ None
forgets_set true s kept h = h
forgets_set false s kept h = refl

mode_set : (s : SessionMode) → (kept_by (codes "SET") (codes "SET @@sql_mode=''") s).mode ≡ None
unfolding has_word is_word_at
mode_set s = refl

set_set : (s : SessionMode) → (kept_by (codes "SET") (codes "SET NAMES gbk") s).is_safe_set ≡ None
unfolding has_word is_word_at
set_set s = refl

-- A text that begins with `S` has its first word at its front, however it is read.
module _ (rest : List ℕ) where
  begins_so : (token : List ℕ) (tokens : List (List ℕ)) →
      first_word ((0x53 ∷ token) ∷ tokens) ≡ word_of (0x53 ∷ (token ++ concat tokens))
  begins_so token tokens = refl

  same_byte : {b : ℕ} {bytes : List ℕ} → b ∷ bytes ≡ 0x53 ∷ rest → b ≡ 0x53
  same_byte e = cc

  not_empty : (m : Mode) (text : List ℕ) → text ≡ 0x53 ∷ rest → IsToken m [] text → ⊥
  not_empty m text e is =
      let its : IsToken m [] (0x53 ∷ rest) = subst (λ (t : List ℕ). IsToken m [] t) e is in
      let none = its.1 in cc

  word_first : (m : Mode) (tokens : List (List ℕ)) → HasTokens m (0x53 ∷ rest) tokens →
      first_word tokens ≡ word_of (0x53 ∷ rest)
  word_first m [] h = let none = h.joined in absurd cc
  word_first m ([] ∷ tokens) h = absurd (not_empty m (concat tokens) h.joined h.each.0)
  word_first m ((b ∷ token) ∷ tokens) h =
      let is : b ≡ 0x53 = same_byte h.joined in
      ap (λ (x : ℕ). first_word ((x ∷ token) ∷ tokens)) is ∙ begins_so token tokens
      ∙ ap word_of (ap (λ (x : ℕ). x ∷ (token ++ concat tokens)) (sym is) ∙ h.joined)

pub sets_forget : SetsForget
unfolding mode_behind_tokens
sets_forget = record {
  mode = λ old new h. ap (λ (s : SessionMode). s.mode) h.2
      ∙ forgets_mode (is_one h.0 (codes "SET @@sql_mode=''") old) old
      (kept_by (first_word h.0) (codes "SET @@sql_mode=''") old)
      (subst (λ (word : List ℕ). (kept_by word (codes "SET @@sql_mode=''") old).mode ≡ None)
      (sym (word_first (codes "ET @@sql_mode=''") (mode_read old) h.0 h.1)) (mode_set old));
  set = λ old new h. ap (λ (s : SessionMode). s.is_safe_set) h.2
      ∙ forgets_set (is_one h.0 (codes "SET NAMES gbk") old) old
      (kept_by (first_word h.0) (codes "SET NAMES gbk") old)
      (subst (λ (word : List ℕ). (kept_by word (codes "SET NAMES gbk") old).is_safe_set ≡ None)
      (sym (word_first (codes "ET NAMES gbk") (mode_read old) h.0 h.1)) (set_set old));
  refused = λ at error old new h. h;
}

pub set_statements_count_for_nothing : SetStatementsCountForNothing
unfolding mode_behind_tokens has_word is_word_at
set_statements_count_for_nothing s tokens = refl

pub told_in_vain : ToldInVain
unfolding bitflags_on_literals
told_in_vain = record {
  uncounted = λ value known. refl;
  unreadable = λ known. refl;
  further = λ s state. both_false s.counts;
  silent = λ known. refl;
} where
  both_false : (b : Bool) → (b && false) ≡ false
  both_false true = refl
  both_false false = refl

-- a token of one byte that a text begins with
record PlainFirst (m : Mode) (byte : ℕ) (rest : List ℕ) (tokens : List (List ℕ)) : Type 0 where
  more : List (List ℕ)
  is : tokens ≡ (byte ∷ []) ∷ more
  behind : HasTokens m rest more

plain_first : (m : Mode) (byte : ℕ) (rest : List ℕ) (tokens : List (List ℕ)) → kind_of (byte ∷ rest) ≡ Plain →
    HasTokens m (byte ∷ rest) tokens → PlainFirst m byte rest tokens
plain_first m byte rest [] plain h = let none = h.joined in absurd cc
plain_first m byte rest (token ∷ more) plain h =
    let shape : HasShape m Plain token (concat more) =
    subst (λ (kind : Kind). HasShape m kind token (concat more)) (ap kind_of h.joined ∙ plain) h.each.0 in
    let joined : shape.0 ∷ concat more ≡ byte ∷ rest = ap (λ (t : List ℕ). t ++ concat more) (sym shape.1) ∙ h.joined in
    record {
      more = more;
      is = ap (λ (t : List ℕ). t ∷ more) (shape.1 ∙ ap (λ (b : ℕ). b ∷ []) (firsts joined));
      behind = record { joined = rests joined; each = h.each.1 };
    }
  where
    firsts : {a b : ℕ} {xs ys : List ℕ} → a ∷ xs ≡ b ∷ ys → a ≡ b
    firsts e = cc

    rests : {a b : ℕ} {xs ys : List ℕ} → a ∷ xs ≡ b ∷ ys → xs ≡ ys
    rests e = cc

-- a text that begins with `/*!` of a comment that isn't simple
opening_first : (m : Mode) (text : List ℕ) (tokens : List (List ℕ)) → kind_of text ≡ Opening → HasTokens m text tokens →
    is_one_statement tokens ≡ false
opening_first m text [] opens h = let none = ap kind_of h.joined ∙ opens in absurd cc
opening_first m text (token ∷ more) opens h =
    let shape : HasShape m Opening token (concat more) =
    subst (λ (kind : Kind). HasShape m kind token (concat more)) (ap kind_of h.joined ∙ opens) h.each.0 in
    ap (λ (t : List ℕ). is_one_statement (t ∷ more)) shape ∙ opened more
  where
    opened : (more : List (List ℕ)) → is_one_statement (comment_start ∷ more) ≡ false
    opened more = refl

abbrev its_rest : List ℕ
its_rest = codes "/*!9'*/;SET @@sql_mode=ansi -- '"

hidden_one : (m : Mode) (tokens : List (List ℕ)) → HasTokens m (0x44 ∷ 0x4f ∷ its_rest) tokens →
    is_one_statement tokens ≡ false
hidden_one m tokens h =
    let one = plain_first m 0x44 (0x4f ∷ its_rest) tokens refl h in
    let two = plain_first m 0x4f its_rest one.more refl one.behind in
    ap is_one_statement one.is ∙ ap is_one_statement two.is ∙ opening_first m its_rest two.more refl two.behind

-- not one statement by its tokens, nor by its bytes
not_one : (text : List ℕ) (tokens : List (List ℕ)) (s : SessionMode) → ends_at_semicolon text ≡ false →
    is_one_statement tokens ≡ false → is_one tokens text s ≡ false
not_one text tokens s bytes one = rw (bytes, one) (neither (is_safe s))
  where
    neither : (safe : Bool) → (safe && false) ≡ false
    neither true = refl
    neither false = refl

nothing_kept : (one : Bool) (kept : SessionMode) → one ≡ false → (if one then kept else unknown_mode).mode ≡ None
nothing_kept true kept e = absurd (true≢false e)
nothing_kept false kept e = refl

pub two_are_two : TwoAreTwo
unfolding is_word_at mode_behind_tokens
two_are_two = record {
  behind = λ rest. ne_eqb (suc (length rest)) 0 (λ e. omega (arith, e));
  version = λ rest. refl;
  mariadb = λ rest. refl;
  opening = λ rest. refl;
  dollar = λ rest. refl;
  hidden = λ old new h. ap (λ (s : SessionMode). s.mode) h.2
      ∙ nothing_kept (is_one h.0 (0x44 ∷ 0x4f ∷ its_rest) old) (kept_by (first_word h.0) (0x44 ∷ 0x4f ∷ its_rest) old)
      (not_one (0x44 ∷ 0x4f ∷ its_rest) h.0 old refl (hidden_one (mode_read old) h.0 h.1));
  left_out = refl;
}

pub backslashes_hide_nothing : BackslashesHideNothing
backslashes_hide_nothing = record {
  joined = refl;
  each = (
    record {
      parts = Byte 0x5c ∷ [];
      closing = 0x27 ∷ [];
      inside = ((λ e. cc, λ e. absurd cc), tt);
      spelled = refl;
      closes = inl (refl, λ e. cc);
    },
    ((0x3b, refl), ((0x53, refl), tt)),
  );
}

pub unsafe_sets : UnsafeSets
unsafe_sets = record {
  gbk = refl;
  unknown = refl;
  swe7 = refl;
  any_case = refl;
  mode = λ mode. refl;
  set = refl;
}

pub pings_leave_both : PingsLeaveBoth
pings_leave_both at old new h = h

pub texts_keep : TextsKeep
unfolding mode_behind_tokens
texts_keep = record {
  mode = λ old new h. ap (λ (s : SessionMode). s.mode) h.2
      ∙ ap (λ (word : List ℕ). (kept_by word (codes "SELECT 1") old).mode)
      (word_first (codes "ELECT 1") (mode_read old) h.0 h.1);
  set = λ old new h. ap (λ (s : SessionMode). s.is_safe_set) h.2
      ∙ ap (λ (word : List ℕ). (kept_by word (codes "SELECT 1") old).is_safe_set)
      (word_first (codes "ELECT 1") (mode_read old) h.0 h.1);
}
