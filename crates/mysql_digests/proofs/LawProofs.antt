-- The laws of digests.
use Rattle.std.proofs.Common.{◌≡◌, ℕ, Bool, true, false, not, List, [], ◌∷◌, refl, sym, ap, ◌∙◌, inl, inr, arith}
use Rattle.mysql_queries.specs.Laws.{OneTokens, SomeTokens, SlicedIsLexed}
use Rattle.mysql_queries.specs.Queries.{Lexes}
use Rattle.mysql_queries.specs.Tokens.{AreTokens, HasTokens}
use Rattle.mysql_bytes.specs.declared.mode.Mode.{Mode}
use Rattle.mysql_digests.specs.Digest.{agreed, digest_of, is_cut, lexemes_of, pieces_behind, with_rest, with_spaces}
use Rattle.mysql_digests.specs.Digest.{without_last}
use Rattle.mysql_digests.specs.Laws.{OneDigest, SomeDigest, TextHasItsQuerysDigest, TextsHaveOneDigest}
use Rattle.mysql_digests.specs.Laws.{InsidesAreNotTold, RestIsNotTold}
use Rattle.mysql_digests.specs.declared.left_out.Before.TheVariants.{Apart}
use Rattle.std.specs.List.{concat}
use Rattle.mysql_queries.proofs.Filled.{AloneFrom, alone_from, space}
use Rattle.mysql_digests.proofs.FirstTokens.{not_empty}
use Rattle.mysql_digests.proofs.Insides.{InsideSame, inside_same}
use Rattle.mysql_digests.proofs.Same.{SoFarSame, begins_place, same_pieces, same_tokens}

pub some_digest : SomeTokens → SomeDigest
some_digest some mode text =
    let o : (tokens : List (List ℕ)) × HasTokens mode text tokens = some mode text in
    (digest_of mode o.0, (o.0, o.1, refl))

pub one_digest : OneTokens → OneDigest
one_digest one mode text digest other (tokens, h, e) (others, k, f) = e ∙
    ap (digest_of mode) (one mode text tokens others h k) ∙ sym f

-- before the first byte there is as little a name as behind a space
alone_zero : (m : Mode) (ts : List (List ℕ)) → AreTokens m ts → AloneFrom space ts → AloneFrom 0 ts
alone_zero m [] i a = tt
alone_zero m ([] ∷ ts) i a = absurd (not_empty m (concat ts) i.0)
alone_zero m ((b ∷ x) ∷ ts) i a = (λ p. ((refl, λ e. absurd (omega arith)), (a.0 p).1), a.1)

digest_same : (mode : Mode) (ts us : List (List ℕ)) →
    pieces_behind Apart [] (lexemes_of mode (agreed 0 ts)) ≡
    pieces_behind Apart [] (lexemes_of mode (agreed 0 us)) → is_cut 0 ts ≡ is_cut 0 us →
    digest_of mode ts ≡ digest_of mode us
digest_same mode ts us e c =
    ap (λ y. without_last (with_spaces (with_rest (is_cut 0 ts) y))) e ∙
    ap (λ y. without_last (with_spaces
    (with_rest y (pieces_behind Apart [] (lexemes_of mode (agreed 0 us)))))) c

pub querys_digest : OneTokens → SlicedIsLexed → TextHasItsQuerysDigest
querys_digest one lexed query text digest contents alone slices (tokens, h, e) =
    let x : Lexes query text contents = lexed query text contents alone slices in
    let s : SoFarSame query.mode (begins_place x.tokens) 0 0 x.tokens x.replaced =
    same_tokens query.mode query.spelling one 0 0 x.tokens contents x.replaced x.has.each
    x.text_has.each (alone_zero query.mode x.tokens x.has.each
    (alone_from query x.tokens x.has alone)) (inl refl) x.replaces in
    let same : pieces_behind Apart [] (lexemes_of query.mode (agreed 0 x.tokens)) ≡
    pieces_behind Apart [] (lexemes_of query.mode (agreed 0 x.replaced)) =
    same_pieces Apart false (λ p. refl) [] (lexemes_of query.mode (agreed 0 x.tokens))
    (lexemes_of query.mode (agreed 0 x.replaced)) (s.lexemes false (λ p. refl)) in (
      x.tokens,
      x.has,
      e ∙ ap (digest_of query.mode)
          (one query.mode text tokens x.replaced h x.text_has) ∙
          sym (digest_same query.mode x.tokens x.replaced same s.cut),
    )

pub texts_digest : OneTokens → SlicedIsLexed → TextsHaveOneDigest
texts_digest one lexed query text other digest another contents others alone slices more h k =
    one_digest one query.mode query.text digest another
    (querys_digest one lexed query text digest contents alone slices h)
    (querys_digest one lexed query other another others alone more k)

pub insides_not_told : OneTokens → InsidesAreNotTold
insides_not_told one mode text other digest tokens others h k d (found, j, e) =
    let s : InsideSame mode 0 0 tokens others = inside_same mode 0 0 tokens others h.each k.each (inl refl) d in (
      others,
      k,
      e ∙ ap (digest_of mode) (one mode text found tokens j h) ∙
          digest_same mode tokens others (ap (pieces_behind Apart []) s.0) s.1,
    )

pub rest_not_told : OneTokens → RestIsNotTold
rest_not_told one mode text other digest tokens others h k a c (found, j, e) = (
  others,
  k,
  e ∙ ap (digest_of mode) (one mode text found tokens j h) ∙
      digest_same mode tokens others (ap (λ y. pieces_behind Apart [] (lexemes_of mode y)) a) c,
)
