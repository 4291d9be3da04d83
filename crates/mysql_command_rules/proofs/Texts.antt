-- A text that is a query's pieces with literals between them, by where the pieces begin and end.
use Rattle.std.proofs.Common.{◌≡◌, ℕ, zero, suc, ◌+◌, List, [], ◌∷◌, ◌++◌, length, map, drop, refl, sym, ap, ◌∙◌, arith}
use Rattle.std.proofs.Common.{subst, append_assoc}
use Rattle.std.specs.Prelude.{replicate, slice_index, slice_index_or, slice_range}
use Rattle.std.specs.List.{AllZip, flat_map, join_with_byte, range_with_len}
use Rattle.std.proofs.lemmas.List.{append-nil, length-replicate, take_rest}
use Rattle.mysql_values.specs.Sql.{Sql}
use Rattle.mysql_values.specs.Tokens.{HasTokens, question}
use Rattle.mysql_values.specs.Literals.{IsLiteral}
use Rattle.mysql_values.specs.Laws.{OnePlaces, PiecesAreSlices}
use Rattle.mysql_values.specs.Queries.{Alternates, HasPlaces, IsParsed, Slices, interleaved, pieces_of, places_of}
use Rattle.mysql_values.specs.Queries.{slices_between}
use Rattle.mysql_values.specs.Content.{Content}
use Rattle.mysql_values.specs.Place.{Place}
use Rattle.mysql_values.specs.Mode.{Mode}
use Rattle.mysql_values.specs.Spelling.{Spelling}

-- a piece of a text from this start on
abbrev pub piece_from : List ℕ → ℕ → List Place → ℕ → List ℕ
piece_from text start places i =
    slice_range text (slice_index (start ∷ map (λ place. place.end) places) i)
    (slice_index (map (λ place. place.start) places ++ length text ∷ []) i)

-- the pieces, each with the literal behind it
abbrev pub filled_from : List ℕ → ℕ → List Place → List (List ℕ) → List ℕ
filled_from text start places literals =
    flat_map (λ i. piece_from text start places i ++ slice_index_or literals i [])
    (range_with_len 0 (length places + 1))

moved : (F G : ℕ → List ℕ) → ((i : ℕ) → G (suc i) ≡ F i) → (a n : ℕ) →
    flat_map G (range_with_len (suc a) n) ≡ flat_map F (range_with_len a n)
moved F G same a zero = refl
moved F G same a (suc n) =
    let next : suc a + 1 ≡ suc (a + 1) = omega arith in
    ap (λ (k : ℕ). G (suc a) ++ flat_map G (range_with_len k n)) next
    ∙ ap (λ (l : List ℕ). l ++ flat_map G (range_with_len (suc (a + 1)) n)) (same a)
    ∙ ap (λ (l : List ℕ). F a ++ l) (moved F G same (a + 1) n)

laid : (text : List ℕ) (start : ℕ) (places : List Place) (literals : List (List ℕ)) →
    length literals ≡ length places → interleaved (slices_between text start places) literals ≡
    filled_from text start places literals
laid text start [] [] e =
    let last : List ℕ = slice_range text start (length text) in
    append-nil (drop start text) ∙ sym (append-nil (last ++ []) ∙ append-nil last ∙ take_rest text start)
laid text start [] (l ∷ ls) e = absurd (omega (arith, e))
laid text start (p ∷ ps) [] e = absurd (omega (arith, e))
laid text start (p ∷ ps) (l ∷ ls) e =
    let first : List ℕ = slice_range text start p.start in
    let count : suc (length ps + 1) ≡ suc (length ps) + 1 = omega arith in
    ap (λ (r : List ℕ). first ++ (l ++ r)) (laid text p.end ps ls (omega (arith, e)))
    ∙ sym (append_assoc first l (filled_from text p.end ps ls))
    ∙ ap (λ (r : List ℕ). (first ++ l) ++
    r) (sym (moved (λ i. piece_from text p.end ps i ++ slice_index_or ls i [])
    (λ i. piece_from text start (p ∷ ps) i ++ slice_index_or (l ∷ ls) i []) (λ i. refl) 0
    (length ps + 1)))
    ∙ ap (λ (k : ℕ). flat_map (λ i. piece_from text start (p ∷ ps) i ++
    slice_index_or (l ∷ ls) i []) (range_with_len 0 k)) count

-- ---- literals between pieces

record Between (mode : Mode) (spelling : Spelling) (pieces : List (List ℕ))
    (contents : List Content) (text : List ℕ) : Type 0 where
  literals : List (List ℕ)
  count : suc (length literals) ≡ length pieces
  each : AllZip (IsLiteral mode spelling) literals contents
  spelled : text ≡ interleaved pieces literals

between : (m : Mode) (sp : Spelling) (pieces : List (List ℕ)) (contents : List Content)
    (text : List ℕ) → Alternates m sp pieces contents text → Between m sp pieces contents text
between m sp [] contents text h = absurd h
between m sp (piece ∷ []) [] text h =
    record { literals = []; count = refl; each = tt; spelled = h ∙ sym (append-nil piece) }
between m sp (piece ∷ []) (x ∷ xs) text h = absurd h
between m sp (piece ∷ next ∷ pieces) [] text h = absurd h
between m sp (piece ∷ next ∷ pieces) (x ∷ xs) text h =
    let others = between m sp (next ∷ pieces) xs h.1 h.4 in
    record {
      literals = h.0 ∷ others.literals;
      count = omega (arith, others.count);
      each = (h.2, others.each);
      spelled = h.3 ∙ ap (λ (l : List ℕ). piece ++ (h.0 ++ l)) others.spelled;
    }

alternates : (m : Mode) (sp : Spelling) (pieces literals : List (List ℕ))
    (contents : List Content) → length pieces ≡ suc (length literals) →
    AllZip (IsLiteral m sp) literals contents →
    Alternates m sp pieces contents (interleaved pieces literals)
alternates m sp [] ls xs e each = absurd (omega (arith, e))
alternates m sp (piece ∷ []) [] [] e each = append-nil piece
alternates m sp (piece ∷ []) [] (x ∷ xs) e each = absurd each
alternates m sp (piece ∷ []) (l ∷ ls) xs e each = absurd (omega (arith, e))
alternates m sp (piece ∷ next ∷ pieces) [] xs e each = absurd (omega (arith, e))
alternates m sp (piece ∷ next ∷ pieces) (l ∷ ls) [] e each = absurd each
alternates m sp (piece ∷ next ∷ pieces) (l ∷ ls) (x ∷ xs) e each =
    (l, interleaved (next ∷ pieces) ls, each.0, refl, alternates m sp (next ∷ pieces) ls xs (omega (arith, e)) each.1)

length_slices : (text : List ℕ) (start : ℕ) (places : List Place) →
    length (slices_between text start places) ≡ suc (length places)
length_slices text start [] = refl
length_slices text start (p ∷ ps) = omega (arith, length_slices text p.end ps)

-- ---- of a query

pieces_are : OnePlaces → PiecesAreSlices →
    (query : Sql) (places : List Place) (tokens : List (List ℕ)) → HasPlaces query places →
    HasTokens query.mode query.text tokens → pieces_of tokens ≡ slices_between query.text 0 places
pieces_are one slices query places tokens are has =
    slices query tokens has ∙
    ap (λ (ps : List Place). slices_between query.text 0 ps)
    (one query (places_of query tokens) places (tokens, has, refl) are)

join_marks : (pieces : List (List ℕ)) (n : ℕ) → length pieces ≡ suc n →
    join_with_byte question pieces ≡ interleaved pieces (replicate n (question ∷ []))
join_marks [] n e = absurd (omega (arith, e))
join_marks (x ∷ []) zero e = sym (append-nil x)
join_marks (x ∷ []) (suc n) e = absurd (omega (arith, e))
join_marks (x ∷ y ∷ pieces) zero e = absurd (omega (arith, e))
join_marks (x ∷ y ∷ pieces) (suc n) e =
    ap (λ (l : List ℕ). x ++ (question ∷ l)) (join_marks (y ∷ pieces) n (omega (arith, e)))

-- the query with a question mark for each placeholder
pub parsed_is : OnePlaces → PiecesAreSlices →
    (query : Sql) (parsed : List ℕ) (places : List Place) → HasPlaces query places →
    IsParsed query parsed → parsed ≡
    filled_from query.text 0 places (replicate (length places) (question ∷ []))
parsed_is one slices query parsed places are is =
    is.2 ∙ ap (λ (ps : List (List ℕ)). join_with_byte question ps) (pieces_are one slices query places is.0 are is.1)
    ∙ join_marks (slices_between query.text 0 places) (length places) (length_slices query.text 0 places)
    ∙ laid query.text 0 places (replicate (length places) (question ∷ []))
    (length-replicate (length places) (question ∷ []))

-- a text with these literals between the pieces
pub record Filling (query : Sql) (places : List Place) (text : List ℕ) (contents : List Content) : Type 0 where
  pub literals : List (List ℕ)
  pub count : length literals ≡ length places
  pub each : AllZip (IsLiteral query.mode query.spelling) literals contents
  pub spelled : text ≡ filled_from query.text 0 places literals

pub filling_of : OnePlaces → PiecesAreSlices →
    (query : Sql) (places : List Place) (text : List ℕ) (contents : List Content) →
    HasPlaces query places → Slices query text contents → Filling query places text contents
filling_of one slices query places text contents are is =
    let found = between query.mode query.spelling (slices_between query.text 0 places) contents text
    (subst (λ (ps : List (List ℕ)). Alternates query.mode query.spelling ps contents text)
    (pieces_are one slices query places is.tokens are is.has) is.alternates) in
    let count : length found.literals ≡ length places = omega (arith, found.count, length_slices query.text 0 places) in
    record {
      literals = found.literals;
      count = count;
      each = found.each;
      spelled = found.spelled ∙
          laid query.text 0 places found.literals count;
    }

pub slices_of : OnePlaces → PiecesAreSlices →
    (query : Sql) (places : List Place) (text : List ℕ) (contents : List Content) →
    HasPlaces query places → Filling query places text contents → Slices query text contents
slices_of one slices query places text contents are is =
    let back : text ≡ interleaved (slices_between query.text 0 places) is.literals = is.spelled ∙
    sym (laid query.text 0 places is.literals is.count) in
    record {
      tokens = are.0;
      has = are.1;
      alternates = subst (λ (t : List ℕ). Alternates query.mode query.spelling (pieces_of are.0) contents t) (sym back)
          (subst (λ (ps : List (List ℕ)). Alternates query.mode query.spelling ps contents
          (interleaved (slices_between query.text 0 places) is.literals))
          (sym (pieces_are one slices query places are.0 are are.1))
          (alternates query.mode query.spelling (slices_between query.text 0 places) is.literals
          contents (omega (arith, is.count, length_slices query.text 0 places)) is.each));
    }
