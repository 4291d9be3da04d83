-- Writing a query with question marks and listing its names, placeholder by placeholder.
use Rattle.std.proofs.Common.{◌≡◌, ℕ, ◌+◌, ◌<◌, true, false, ◌||◌, inl, inr, List, [], ◌∷◌, ◌++◌, length, drop, get_or}
use Rattle.std.proofs.Common.{slice_range, refl, sym, ap, ◌∙◌, append_assoc, subst, arith}
use Rattle.std.specs.List.{concat, join_with_byte}
use Rattle.mysql_queries.specs.Tokens.{question, IsToken, AreTokens, HasShape, kind_of, Kind, Quoted, LineComment}
use Rattle.mysql_queries.specs.Tokens.{BlockComment, Opening, Closing, Name, Mark, Plain}
use Rattle.mysql_queries.specs.Queries.{is_name_kind, is_mark_kind, is_name, is_place, before_first, pieces_of}
use Rattle.mysql_queries.specs.Queries.{slices_between, HasPlaces, IsParsed}
use Rattle.mysql_queries.specs.Parsed.{names_of, names_at, HasNames}
use Rattle.mysql_queries.specs.Sql.{Sql}
use Rattle.mysql_bytes.specs.declared.mode.Mode.{Mode}
use Rattle.mysql_queries.specs.declared.placeholders.Place.{Place}
use Rattle.mysql_queries.proofs.FirstBytes.{bool_tells, Tells, kind_tells}
use Rattle.mysql_queries.proofs.OneToken.{not_empty}
use Rattle.mysql_queries.proofs.QuerySlices.{next_place, no_place, pieces_are_slices, names_are_slices}

-- slices joined by question marks
abbrev pub marked : List ℕ → ℕ → List Place → List ℕ
marked query at places = join_with_byte question (slices_between query at places)

join_first : (query slice : List ℕ) (at : ℕ) (places : List Place) →
    join_with_byte question (slice ∷ slices_between query at places) ≡ slice ++ question ∷
    marked query at places
join_first query slice at [] = refl
join_first query slice at (p ∷ places) = refl

-- one placeholder more
pub marked_more : (query : List ℕ) (at : ℕ) (places : List Place) (k : ℕ) → k < length places
    → marked query at (drop k places) ≡ slice_range query at (get_or places k no_place).start ++
    question ∷ marked query (get_or places k no_place).end (drop (k + 1) places)
marked_more query at places k h =
    ap (marked query at) (next_place places k h) ∙
    join_first query (slice_range query at (get_or places k no_place).start)
    (get_or places k no_place).end (drop (k + 1) places)

pub parsed_marked : (query : Sql) (parsed : List ℕ) (places : List Place) → HasPlaces query places →
    parsed ≡ marked query.text 0 places → IsParsed query parsed
parsed_marked query parsed places h e = (
  h.0,
  h.1,
  e ∙ ap (join_with_byte question) (ap (slices_between query.text 0) h.2 ∙
      sym (pieces_are_slices query h.0 h.1)),
)

pub has_names : (query : Sql) (names : List (List ℕ)) (places : List Place) →
    HasPlaces query places → names ≡ names_at query.text places → HasNames query names
has_names query names places h e = (h.0, h.1, e ∙ ap (names_at query.text) h.2 ∙ sym (names_are_slices query h.0 h.1))

-- one name more, or none
pub name_more : (query : List ℕ) (places : List Place) (k : ℕ) → k < length places →
    (get_or places k no_place).name ≡ true
    → names_at query (drop k places) ≡
    drop 1 (slice_range query (get_or places k no_place).start (get_or places k no_place).end) ∷
    names_at query (drop (k + 1) places)
name_more query places k h e = ap (names_at query) (next_place places k h) ∙ rw e refl

pub name_skipped : (query : List ℕ) (places : List Place) (k : ℕ) → k < length places →
    (get_or places k no_place).name ≡ false → names_at query (drop k places) ≡
    names_at query (drop (k + 1) places)
name_skipped query places k h e = ap (names_at query) (next_place places k h) ∙ rw e refl

pub some_piece : (ts : List (List ℕ)) → (first : List ℕ) × (later : List (List ℕ)) × (pieces_of ts ≡ first ∷ later)
some_piece [] = ([], [], refl)
some_piece (t ∷ ts) = elim (bool_tells (is_place t)) [
  | inl p ↦ ([], pieces_of ts, rw p refl)
  | inr p ↦ (let o : (first : List ℕ) × (later : List (List ℕ)) × (pieces_of ts ≡ first ∷ later) =
      some_piece ts in (t ++ o.0, o.1, rw p (ap (before_first t) o.2)))
]

mark_kind : (k : Kind) → is_name_kind k || is_mark_kind k ≡ true → is_name_kind k ≡ false → k ≡ Mark
mark_kind (Quoted q) h n = cc
mark_kind LineComment h n = cc
mark_kind BlockComment h n = cc
mark_kind Opening h n = cc
mark_kind Closing h n = cc
mark_kind Name h n = cc
mark_kind Mark h n = refl
mark_kind Plain h n = cc

-- a placeholder that is no name is a question mark
mark_token : (m : Mode) (t r : List ℕ) → IsToken m t r → is_place t ≡ true → is_name t ≡ false → t ≡ question ∷ []
mark_token m [] r i p n = absurd (not_empty m r i)
mark_token m (b ∷ x) r i p n =
    let e : b ≡ question = subst (Tells b x) (mark_kind (kind_of (b ∷ x)) p n) (kind_tells b x) in
    let f : kind_of (b ∷ (x ++ r)) ≡ Mark = ap (λ c. kind_of (c ∷ (x ++ r))) e in
    subst (λ k. HasShape m k (b ∷ x) r) f i

join_front : (t first : List ℕ) (later : List (List ℕ)) →
    join_with_byte question ((t ++ first) ∷ later) ≡ t ++ join_with_byte question (first ∷ later)
join_front t first [] = refl
join_front t first (x ∷ later) = append_assoc t first (question ∷ join_with_byte question (x ∷ later))

marks_joined : (m : Mode) (ts : List (List ℕ)) → AreTokens m ts → names_of ts ≡ [] →
    join_with_byte question (pieces_of ts) ≡ concat ts
marks_joined m [] i n = refl
marks_joined m (t ∷ ts) i n = elim (bool_tells (is_name t)) [
  | inl d ↦ (let k : drop 1 t ∷ names_of ts ≡ [] = rw d at n in cc)
  | inr d ↦ (let k : names_of ts ≡ [] = rw d at n in
      let later : join_with_byte question (pieces_of ts) ≡ concat ts = marks_joined m ts i.1 k in
      let o : (first : List ℕ) × (rest : List (List ℕ)) × (pieces_of ts ≡ first ∷ rest) = some_piece ts in
      let joined : join_with_byte question (o.0 ∷ o.1) ≡ concat ts = ap (join_with_byte question) (sym o.2) ∙ later in
      elim (bool_tells (is_place t)) [
        | inl p ↦ (let e : t ≡ question ∷ [] = mark_token m t (concat ts) i.0 p d in
            rw p (ap (λ ys. join_with_byte question ([] ∷ ys)) o.2 ∙ ap (λ y. question ∷ y) joined ∙
            ap (λ y. y ++ concat ts) (sym e)))
        | inr p ↦ (rw p (ap (λ ys. join_with_byte question (before_first t ys)) o.2 ∙
            join_front t o.0 o.1 ∙ ap (λ y. t ++ y) joined))
      ])
]

-- a query without names is parsed as it is
pub parsed_as_it_is : (query : Sql) (places : List Place) → HasPlaces query places →
    names_at query.text places ≡ [] → IsParsed query query.text
parsed_as_it_is query places h n =
    let k : names_of h.0 ≡ [] = names_are_slices query h.0 h.1 ∙ ap (names_at query.text) (sym h.2) ∙ n in
    (h.0, h.1, sym h.1.joined ∙ sym (marks_joined query.mode h.0 h.1.each k))

pub none_left : {A : Type 0} → (xs : List A) → length xs ≡ 0 → xs ≡ []
none_left [] h = refl
none_left (x ∷ xs) h = absurd (omega (arith, h))
