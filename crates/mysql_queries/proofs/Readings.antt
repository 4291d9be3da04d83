-- A query's pieces with literals between, and the tokens of a text, are one reading.
use Rattle.std.proofs.Common.{◌≡◌, ℕ, List, sym, ap, ◌∙◌, subst, length, le_refl}
use Rattle.mysql_queries.specs.Laws.{SomeTokens, OneTokens, OneContent, LexedIsSliced, SlicedIsLexed, OneReading}
use Rattle.mysql_queries.specs.Laws.{OnePlaces, LiteralIsRun}
use Rattle.mysql_queries.specs.Queries.{places_of}
use Rattle.mysql_queries.specs.LiteralRuns.{EndsBefore}
use Rattle.mysql_queries.specs.Queries.{is_joining}
use Rattle.mysql_queries.proofs.Follow.{BeginsApart}
use Rattle.mysql_queries.proofs.LiteralsAreRuns.{literal_is_run}
use Rattle.std.proofs.Common.{[], ◌∷◌}
use Rattle.mysql_queries.proofs.OneToken.{one_list}
use Rattle.mysql_queries.proofs.SomeToken.{some_list}
use Rattle.mysql_queries.proofs.Filled.{Spells, alone_from, fixed_or_none, space, lexed, lexed_none, Lexed}
use Rattle.mysql_queries.proofs.Filled.{spells_joined}
use Rattle.std.proofs.Common.{inl, inr}
use Rattle.mysql_queries.proofs.Pieces.{pieces_spell, spelled_pieces}
use Rattle.mysql_queries.proofs.OneContent.{one_content, one_filling}

pub some_tokens : SomeTokens
some_tokens m text = some_list m (length text) text (le_refl (length text))

pub one_tokens : OneTokens
one_tokens m text tokens others h k = one_list m tokens others h.each k.each (h.joined ∙ sym k.joined)

pub content_once : OneContent
content_once = one_content

pub lexed_is_sliced : LexedIsSliced
lexed_is_sliced query text contents h = record {
  tokens = h.tokens;
  has = h.has;
  alternates = spelled_pieces query.mode query.spelling h.tokens contents text
      (subst (Spells query.mode query.spelling h.tokens contents) h.text_has.joined
      (spells_joined query.mode query.spelling h.tokens contents h.replaced h.replaces));
}

pub sliced_is_lexed : SlicedIsLexed
sliced_is_lexed query text contents a h =
    let k : Spells query.mode query.spelling h.tokens contents text =
    pieces_spell query.mode query.spelling h.tokens contents text h.alternates in
    let o : Lexed query.mode query.spelling h.tokens contents text = elim (fixed_or_none query h.tokens h.has a) [
      | inl x ↦ lexed query.mode query.spelling h.tokens space contents text h.has.each
          (alone_from query h.tokens h.has a) x k
      | inr n ↦ lexed_none query.mode query.spelling h.tokens contents text h.has.each n k
    ] in
    record { tokens = h.tokens; has = h.has; replaced = o.tokens; text_has = o.has; replaces = o.replaces }

pub read_once : OneReading
read_once query text contents others a h k =
    let e : k.tokens ≡ h.tokens = one_tokens query.mode query.text k.tokens h.tokens k.has h.has in
    one_filling query.mode query.spelling h.tokens space contents others text h.has.each
    (alone_from query h.tokens h.has a)
    (pieces_spell query.mode query.spelling h.tokens contents text h.alternates)
    (subst (λ t. Spells query.mode query.spelling t others text) e
    (pieces_spell query.mode query.spelling k.tokens others text k.alternates))

pub one_places : OnePlaces
one_places query places others h k = h.2 ∙
    ap (places_of query) (one_tokens query.mode query.text h.0 k.0 h.1 k.1) ∙ sym k.2

begins_apart : (r : List ℕ) → EndsBefore is_joining r → BeginsApart r
begins_apart [] h = tt
begins_apart (b ∷ r) h = h

pub runs_are_read : LiteralIsRun
runs_are_read m sp literal rest content h a = literal_is_run m sp literal content rest h (begins_apart rest a)
