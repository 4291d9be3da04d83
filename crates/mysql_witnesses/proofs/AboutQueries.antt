-- Tokens, placeholders and texts of a few bytes.
use Rattle.std.proofs.Common.{◌≡◌, ℕ, true, false, List, [], ◌∷◌, ◌++◌, codes, refl, sym, ap, subst, inl, inr, ◌∙◌, ◌<◌}
use Rattle.std.proofs.Common.{arith}
use Rattle.std.specs.List.{AllByRecursion}
use Rattle.mysql_queries.specs.Laws.{OnePlaces, OneTokens}
use Rattle.mysql_queries.specs.Literals.{IsLiteral, is_digit}
use Rattle.mysql_queries.specs.Queries.{Alternates, pieces_of, places_of}
use Rattle.mysql_queries.specs.Sql.{default_mode, read_by_default, read_in}
use Rattle.mysql_bytes.specs.declared.spelling.Spelling.TheVariants.{Hexadecimal, Quoted}
use Rattle.mysql_queries.specs.Tokens.{Byte, HasTokens}
use Rattle.mysql_bytes.specs.declared.content.Content.{Content}
use Rattle.mysql_bytes.specs.declared.content.Content.TheVariants.{Null, Number, Bytes}
use Rattle.mysql_witnesses.specs.Queries.{HintsAreComments, IdentifiersHaveNoEscapes, OthersPartServers}
use Rattle.mysql_witnesses.specs.Queries.{PiecesFollowLiteralsAtOnce, QuotesMakeNoSimpleComment, SimpleCommentsPartNone}
use Rattle.mysql_witnesses.specs.Queries.{ansi_quotes, quoted_backslash}

-- ---- an identifier

quoted_tokens : List (List ℕ)
quoted_tokens = (0x22 ∷ 0x5c ∷ 0x22 ∷ []) ∷ (0x20 ∷ []) ∷ (0x3f ∷ []) ∷ []

has_quoted : HasTokens ansi_quotes quoted_backslash quoted_tokens
unfolding quoted_tokens
has_quoted = record {
  joined = refl;
  each = (
    record {
      parts = Byte 0x5c ∷ [];
      closing = 0x22 ∷ [];
      inside = ((λ e. absurd (omega arith), λ k e. let f : false ≡ true = k in cc), tt);
      spelled = refl;
      closes = inl (refl, λ e. absurd (omega arith));
    },
    ((0x20, refl), (refl, tt)),
  );
}

pub identifiers_have_no_escapes : OnePlaces → IdentifiersHaveNoEscapes
unfolding quoted_tokens
identifiers_have_no_escapes one places has =
    one (read_in ansi_quotes quoted_backslash) places
    (places_of (read_in ansi_quotes quoted_backslash) quoted_tokens) has (
      quoted_tokens,
      has_quoted,
      refl,
    )

-- ---- comments

-- `/*+?*/?`
hint_tokens : List (List ℕ)
hint_tokens = codes "/*+?*/" ∷ codes "?" ∷ []

has_hint : HasTokens default_mode (codes "/*+?*/?") hint_tokens
unfolding hint_tokens
has_hint = record {
  joined = refl;
  each = (
    record {
      inside = codes "+?";
      closing = codes "*/";
      spelled = refl;
      ends =
          inl (refl, ((λ e. absurd (omega arith)), ((λ e. absurd (omega arith)), tt)));
    },
    (refl, tt),
  );
}

pub hints_are_comments : OnePlaces → HintsAreComments
unfolding hint_tokens
hints_are_comments one places has =
    one (read_by_default (codes "/*+?*/?")) places
    (places_of (read_by_default (codes "/*+?*/?")) hint_tokens) has (
      hint_tokens,
      has_hint,
      refl,
    )

-- `/*!9'*/?'`
quote_tokens : List (List ℕ)
quote_tokens = codes "/*!" ∷ codes "9" ∷ codes "'*/?'" ∷ []

has_quote : HasTokens default_mode (codes "/*!9'*/?'") quote_tokens
unfolding quote_tokens
has_quote = record {
  joined = refl;
  each = (
    refl,
    (
      (0x39, refl),
      (
        record {
          parts = Byte 0x2a ∷ Byte 0x2f ∷ Byte 0x3f ∷ [];
          closing = 0x27 ∷ [];
          inside = (
            ((λ e. absurd (omega arith)), λ k e. absurd (omega arith)),
            (
              ((λ e. absurd (omega arith)), λ k e. absurd (omega arith)),
              (((λ e. absurd (omega arith)), λ k e. absurd (omega arith)), tt),
            ),
          );
          spelled = refl;
          closes = inl (refl, tt);
        },
        tt,
      ),
    ),
  );
}

pub quotes_make_no_simple_comment : OnePlaces → QuotesMakeNoSimpleComment
unfolding quote_tokens
quotes_make_no_simple_comment one places has =
    one (read_by_default (codes "/*!9'*/?'")) places
    (places_of (read_by_default (codes "/*!9'*/?'")) quote_tokens) has (
      quote_tokens,
      has_quote,
      refl,
    )

-- `/*!9*b*/?`
other_tokens : List (List ℕ)
other_tokens = codes "/*!" ∷ codes "9" ∷ codes "*" ∷ codes "b" ∷ codes "*/" ∷ codes "?" ∷ []

has_other : HasTokens default_mode (codes "/*!9*b*/?") other_tokens
unfolding other_tokens
has_other = record { joined = refl; each = (refl, ((0x39, refl), ((0x2a, refl), ((0x62, refl), (refl, (refl, tt)))))) }

pub others_part_servers : OnePlaces → OthersPartServers
unfolding other_tokens
others_part_servers one places has =
    one (read_by_default (codes "/*!9*b*/?")) places
    (places_of (read_by_default (codes "/*!9*b*/?")) other_tokens) has (
      other_tokens,
      has_other,
      refl,
    )

-- `/*!9b*/?` and `/*!*/?`
version_tokens : List (List ℕ)
version_tokens = codes "/*!9b*/" ∷ codes "?" ∷ []

has_version : HasTokens default_mode (codes "/*!9b*/?") version_tokens
unfolding version_tokens
has_version = record {
  joined = refl;
  each = (
    record {
      inside = codes "!9b";
      closing = codes "*/";
      spelled = refl;
      ends =
          inl (
            refl,
            (
              (λ e. absurd (omega arith)),
              ((λ e. absurd (omega arith)), ((λ e. absurd (omega arith)), tt)),
            ),
          );
    },
    (refl, tt),
  );
}

run_tokens : List (List ℕ)
run_tokens = codes "/*!" ∷ codes "*/" ∷ codes "?" ∷ []

has_run : HasTokens default_mode (codes "/*!*/?") run_tokens
unfolding run_tokens
has_run = record { joined = refl; each = (refl, (refl, (refl, tt))) }

pub simple_comments_part_none : OnePlaces → SimpleCommentsPartNone
unfolding version_tokens run_tokens
simple_comments_part_none one = record {
  version = λ places has. one (read_by_default (codes "/*!9b*/?")) places
      (places_of (read_by_default (codes "/*!9b*/?")) version_tokens) has (
        version_tokens,
        has_version,
        refl,
      );
  none = λ places has. one (read_by_default (codes "/*!*/?")) places
      (places_of (read_by_default (codes "/*!*/?")) run_tokens) has (run_tokens, has_run, refl);
}

-- ---- a text over a query

two_marks : List (List ℕ)
two_marks = (0x3f ∷ []) ∷ (0x20 ∷ []) ∷ (0x3f ∷ []) ∷ []

has_marks : HasTokens default_mode (codes "? ?") two_marks
unfolding two_marks
has_marks = record { joined = refl; each = (refl, ((0x20, refl), (refl, tt))) }

other_first : (a b : ℕ) (x y : List ℕ) → a ∷ x ≡ b ∷ y → a < b → ⊥
other_first a b x y e n = let f : a ≡ b = cc in absurd (omega arith)

no_digits : (d : List ℕ) → AllByRecursion (λ b. is_digit b ≡ true) d → d ≡ 0x31 ∷ 0x78 ∷ [] → ⊥
no_digits [] h e = cc
no_digits (a ∷ []) h e = cc
no_digits (a ∷ b ∷ d) h e = let g : b ≡ 0x78 = cc in let k : true ≡ false = sym h.1.0 ∙ ap is_digit g in cc

no_literal : (content : Content) → IsLiteral default_mode Quoted (0x31 ∷ 0x78 ∷ []) content → ⊥
no_literal Null h = cc
no_literal (Number z) h = elim h.value [
  | inl k ↦ no_digits h.digits h.are.each (sym k.0)
  | inr k ↦ other_first 0x2d 0x31 h.digits (0x78 ∷ []) (sym k.0) (omega arith)
]
no_literal (Bytes bytes) (inl h) = other_first 0x27 0x31 _ (0x78 ∷ []) (sym h.spelled) (omega arith)
no_literal (Bytes bytes) (inr (inl h)) = other_first 0x30 0x31 _ (0x78 ∷ []) (sym h.spelled) (omega arith)
no_literal (Bytes bytes) (inr (inr h)) = let e : Quoted ≡ Hexadecimal = h.allowed in cc

-- a literal that a space follows in `1x 2` is `1x`
behind : (spelling rest after : List ℕ) (content : Content) → 0x31 ∷ 0x78 ∷ 0x20 ∷ 0x32 ∷ [] ≡
    spelling ++ rest → rest ≡ 0x20 ∷ after
    → IsLiteral default_mode Quoted spelling content → ⊥
behind [] rest after content e f h = let g : 0x31 ∷ 0x78 ∷ 0x20 ∷ 0x32 ∷ [] ≡ 0x20 ∷ after = e ∙
    f in let n : ◌≡◌ {A = ℕ} 0x31 0x20 = cc in absurd (omega arith)
behind (a ∷ []) rest after content e f h =
    let g : 0x78 ∷ 0x20 ∷ 0x32 ∷ [] ≡ 0x20 ∷ after =
    (let k : 0x78 ∷ 0x20 ∷ 0x32 ∷ [] ≡ rest = cc in k ∙ f) in let n : ◌≡◌ {A = ℕ} 0x78 0x20 =
    cc in absurd (omega arith)
behind (a ∷ b ∷ []) rest after content e f h =
    no_literal content (subst (λ (l : List ℕ). IsLiteral default_mode Quoted l content) (let k : a ∷
    b ∷ [] ≡ 0x31 ∷ 0x78 ∷ [] = cc in k) h)
behind (a ∷ b ∷ c ∷ []) rest after content e f h =
    let g : 0x32 ∷ [] ≡ 0x20 ∷ after = (let k : 0x32 ∷ [] ≡ rest = cc in k ∙ f) in
    let n : ◌≡◌ {A = ℕ} 0x32 0x20 = cc in absurd (omega arith)
behind (a ∷ b ∷ c ∷ d ∷ s) rest after content e f h =
    let k : [] ≡ s ++ rest = cc in let g : [] ≡ s ++ (0x20 ∷ after) = k ∙ ap (λ r. s ++ r) f in nothing s g
  where
    nothing : (s : List ℕ) → [] ≡ s ++ (0x20 ∷ after) → ⊥
    nothing [] e = cc
    nothing (a ∷ s) e = cc

far : (contents : List Content) →
    Alternates default_mode Quoted (pieces_of ((0x3f ∷ []) ∷ (0x20 ∷ []) ∷ (0x3f ∷ []) ∷ []))
    contents (codes "1x 2") → ⊥
far [] h = h
far (content ∷ []) h = h.4
far (content ∷ next ∷ contents) h = behind h.0 h.1 _ content h.3 h.4.3 h.2

pub pieces_follow_literals_at_once : OneTokens → PiecesFollowLiteralsAtOnce
unfolding two_marks
pieces_follow_literals_at_once one contents h =
    far contents (subst (λ (t : List (List ℕ)). Alternates default_mode Quoted (pieces_of t) contents (codes "1x 2"))
    (one default_mode (codes "? ?") h.tokens two_marks h.has has_marks) h.alternates)
