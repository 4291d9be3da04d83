-- A text has at most one list of tokens.
use Rattle.std.proofs.Common.{◌≡◌, ◌≢◌, ℕ, true, false, List, [], ◌∷◌, ◌++◌, refl, sym, ap, ◌∙◌, append_assoc, subst}
use Rattle.std.proofs.Common.{flat_map}
use Rattle.std.specs.List.{concat}
use Rattle.mysql_queries.specs.Tokens.{Kind, Quoted, LineComment, BlockComment, Opening, Closing, Name, Mark, Plain}
use Rattle.mysql_queries.specs.Tokens.{kind_of, comment_start, comment_end, HasShape, IsToken, AreTokens, has_escapes}
use Rattle.mysql_queries.specs.Tokens.{AtLineEnd, AtNameEnd, is_name_byte, line_feed, star, slash, colon, question}
use Rattle.mysql_queries.specs.Tokens.{inside_bytes}
use Rattle.mysql_bytes.specs.declared.mode.Mode.{Mode}
use Rattle.mysql_queries.proofs.Quotes.{one_inside}
use Rattle.mysql_queries.proofs.Comments.{one_comment}
use Rattle.mysql_queries.proofs.Runs.{one_run, EndsRun}
use Rattle.mysql_queries.proofs.FirstBytes.{HasQuote, kind_has_quote, quote_no_backslash}

line_end : (r : List ℕ) → AtLineEnd r → EndsRun (λ b. b ≢ line_feed) r
line_end [] h = tt
line_end (b ∷ r) h = λ n. n h

name_end : (r : List ℕ) → AtNameEnd r → EndsRun (λ b. is_name_byte b ≡ true) r
name_end [] h = tt
name_end (b ∷ r) h = λ e. let f : true ≡ false = sym e ∙ h in cc

pub one_shape : (m : Mode) (k : Kind) → HasQuote k → (t r u s : List ℕ) → HasShape m k t r →
    HasShape m k u s → t ++ r ≡ u ++ s → (t ≡ u) × (r ≡ s)
one_shape m (Quoted q) hq t r u s i j h =
    let h' : q ∷ ((flat_map (inside_bytes q) i.parts ++ i.closing) ++ r) ≡ q ∷
    ((flat_map (inside_bytes q) j.parts ++ j.closing) ++ s) = rw (i.spelled, j.spelled) at h in
    let h2 : (flat_map (inside_bytes q) i.parts ++ i.closing) ++ r ≡
    (flat_map (inside_bytes q) j.parts ++ j.closing) ++ s = cc in
    let o : (i.parts ≡ j.parts) × (i.closing ≡ j.closing) × (r ≡ s) =
    one_inside (has_escapes m q) q (quote_no_backslash q hq) i.parts j.parts i.inside j.inside
    i.closing r j.closing s i.closes j.closes (sym (append_assoc _ i.closing r) ∙ h2 ∙
    append_assoc _ j.closing s) in
    let e : flat_map (inside_bytes q) i.parts ++ i.closing ≡ flat_map (inside_bytes q) j.parts ++
    j.closing = rw (o.0, o.1) refl in
    (i.spelled ∙ ap (λ x. q ∷ x) e ∙ sym j.spelled, o.2)
one_shape m LineComment hq t r u s i j h = one_run _ t u r s i.0 j.0 (line_end r i.1) (line_end s j.1) h
one_shape m BlockComment hq t r u s i j h =
    let h' : slash ∷ star ∷ ((i.inside ++ i.closing) ++ r) ≡ slash ∷ star ∷
    ((j.inside ++ j.closing) ++ s) = rw (i.spelled, j.spelled) at h in
    let h2 : (i.inside ++ i.closing) ++ r ≡ (j.inside ++ j.closing) ++ s = cc in
    let o : (i.inside ≡ j.inside) × (i.closing ≡ j.closing) × (r ≡ s) =
    one_comment i.inside i.closing r j.inside j.closing s i.ends j.ends
    (sym (append_assoc i.inside i.closing r) ∙ h2 ∙ append_assoc j.inside j.closing s) in
    let e : i.inside ++ i.closing ≡ j.inside ++ j.closing = rw (o.0, o.1) refl in
    (i.spelled ∙ ap (λ x. slash ∷ star ∷ x) e ∙ sym j.spelled, o.2)
one_shape m Opening hq t r u s i j h =
    let h' : comment_start ++ r ≡ comment_start ++ s = rw (i, j) at h in (i ∙ sym j, cc)
one_shape m Closing hq t r u s i j h =
    let h' : comment_end ++ r ≡ comment_end ++ s = rw (i, j) at h in (i ∙ sym j, cc)
one_shape m Name hq t r u s i j h =
    let h' : colon ∷ (i.name ++ r) ≡ colon ∷ (j.name ++ s) = rw (i.spelled, j.spelled) at h in
    let h2 : i.name ++ r ≡ j.name ++ s = cc in
    let o : (i.name ≡ j.name) × (r ≡ s) =
    one_run (λ b. is_name_byte b ≡ true) i.name j.name r s i.bytes j.bytes (name_end r i.ends)
    (name_end s j.ends) h2 in
    (i.spelled ∙ ap (λ x. colon ∷ x) o.0 ∙ sym j.spelled, o.1)
one_shape m Mark hq t r u s i j h =
    let h' : question ∷ r ≡ question ∷ s = rw (i, j) at h in (i ∙ sym j, cc)
one_shape m Plain hq t r u s (b, i) (c, j) h =
    let h' : b ∷ r ≡ c ∷ s = rw (i, j) at h in
    let e : b ≡ c = cc in
    (i ∙ ap (λ x. x ∷ []) e ∙ sym j, cc)

-- two first tokens of one text are one
pub one_token : (m : Mode) (t r u s : List ℕ) → IsToken m t r → IsToken m u s → t ++ r ≡ u ++ s → (t ≡ u) × (r ≡ s)
one_token m t r u s i j h =
    one_shape m (kind_of (t ++ r)) (kind_has_quote (t ++ r)) t r u s i
    (subst (λ (x : List ℕ). HasShape m (kind_of x) u s) (sym h) j) h

-- a token has bytes
pub not_empty : (m : Mode) (r : List ℕ) → IsToken m [] r → ⊥
not_empty m r i = shape_not_empty m r (kind_of r) refl i
  where
    shape_not_empty : (m : Mode) (r : List ℕ) (k : Kind) → kind_of r ≡ k → HasShape m k [] r → ⊥
    shape_not_empty m r (Quoted q) e h = let x = h.spelled in cc
    shape_not_empty m [] LineComment e h = cc
    shape_not_empty m (b ∷ r) LineComment e h = let e' : kind_of (line_feed ∷ r) ≡ LineComment = rw h.1 at e in cc
    shape_not_empty m r BlockComment e h = let x = h.spelled in cc
    shape_not_empty m r Opening e h = cc
    shape_not_empty m r Closing e h = cc
    shape_not_empty m r Name e h = let x = h.spelled in cc
    shape_not_empty m r Mark e h = cc
    shape_not_empty m r Plain e (b, h) = cc

pub one_list : (m : Mode) (ts us : List (List ℕ)) → AreTokens m ts → AreTokens m us → concat ts ≡ concat us → ts ≡ us
one_list m [] [] i j h = refl
one_list m [] ([] ∷ us) i j h = absurd (not_empty m (concat us) j.0)
one_list m [] ((b ∷ u) ∷ us) i j h = cc
one_list m ([] ∷ ts) us i j h = absurd (not_empty m (concat ts) i.0)
one_list m ((b ∷ t) ∷ ts) [] i j h = cc
one_list m ((b ∷ t) ∷ ts) (u ∷ us) i j h =
    let o : (b ∷ t ≡ u) × (concat ts ≡ concat us) = one_token m (b ∷ t) (concat ts) u (concat us) i.0 j.0 h in
    let e : ts ≡ us = one_list m ts us i.1 j.1 o.1 in cc
