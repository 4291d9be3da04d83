-- A text of a query whose placeholders stand alone is read as contents, or as none.
use Rattle.std.proofs.Common.{◌≡◌, ◌≢◌, ℕ, true, ◌⊎◌, List, [], ◌∷◌, ◌++◌, length, take, drop, slice_range, refl, sym}
use Rattle.std.proofs.Common.{ap, ◌∙◌, inl, inr, subst, nat_eq}
use Rattle.std.specs.List.{AllByRecursion}
use Rattle.std.specs.Cmp.Lexicographic.{pointwise}
use Rattle.mysql_queries.specs.Laws.{TextIsDecided}
use Rattle.mysql_queries.specs.Tokens.{HasTokens}
use Rattle.mysql_queries.specs.Queries.{Alternates, HasPlaces, places_of, slices_between}
use Rattle.mysql_bytes.specs.declared.content.Content.{Content}
use Rattle.mysql_bytes.specs.declared.mode.Mode.{Mode}
use Rattle.mysql_queries.specs.declared.placeholders.Place.{Place}
use Rattle.mysql_queries.proofs.FirstBytes.{bool_tells}
use Rattle.mysql_queries.proofs.LiteralDecided.{literal_tells, list_tells}
use Rattle.mysql_queries.specs.Queries.{InOrder}
use Rattle.mysql_queries.proofs.QuerySlices.{places_in_order}
use Rattle.mysql_queries.proofs.Readings.{some_tokens}
use Rattle.mysql_queries.proofs.TextReading.{FirstRead, first_read, read_before, run_there, same_read, piece_found}
use Rattle.mysql_queries.proofs.TextReading.{piece_missing, sliced, unsliced}
use Rattle.mysql_queries.proofs.OneContent.{same_rest}
use Rattle.mysql_bytes.specs.declared.spelling.Spelling.{Spelling}

-- what stands at the front of a text, or that it doesn't
front_tells : (piece text : List ℕ) → ((behind : List ℕ) × (text ≡ piece ++ behind)) ⊎
    ((behind : List ℕ) → text ≡ piece ++ behind → ⊥)
front_tells piece text = elim (bool_tells (pointwise nat_eq (take (length piece) text) piece)) [
  | inl h ↦ inl (drop (length piece) text, piece_found text piece (drop (length piece) text) h refl)
  | inr h ↦ inr (piece_missing text piece h)
]

-- the contents that a text is read as from a place of the query on
abbrev Read : Mode → Spelling → List ℕ → ℕ → List Place → List ℕ → Type 0
Read m sp query at places text = (contents : List Content) ×
    Alternates m sp (slices_between query at places) contents text

abbrev NotRead : Mode → Spelling → List ℕ → ℕ → List Place → List ℕ → Type 0
NotRead m sp query at places text = (contents : List Content) →
    Alternates m sp (slices_between query at places) contents text → ⊥

last_tells : (m : Mode) (sp : Spelling) (query : List ℕ) (at : ℕ) (text : List ℕ) →
    Read m sp query at [] text ⊎ NotRead m sp query at [] text
last_tells m sp query at text = elim (list_tells text (drop at query)) [ inl e ↦ inl ([], e) | inr n ↦ inr (none n) ]
  where
    none : text ≢ drop at query → NotRead m sp query at [] text
    none n [] h = n h
    none n (c ∷ contents) h = elim h [ ]

read_tells : (m : Mode) (sp : Spelling) (query : List ℕ) (at : ℕ) (places : List Place) →
    InOrder query at places → AllByRecursion (λ place. place.alone ≡ true) places →
    (text : List ℕ) → Read m sp query at places text ⊎ NotRead m sp query at places text
read_tells m sp query at [] o a text = last_tells m sp query at text
read_tells m sp query at (p ∷ places) o a text = elim (front_tells (slice_range query at p.start) text) [
  | inr n ↦ inr (λ contents h. let r : FirstRead m sp query at p places contents text =
      first_read m sp query at p places contents text h in n (r.spelling ++ r.rest) r.joined)
  | inl f ↦ elim (literal_tells m sp f.0) [
    | inr n ↦ inr (λ contents h.
        let r : FirstRead m sp query at p places contents text = first_read m sp query at p places contents text h in
        n r.spelling r.rest r.content
        (same_rest (slice_range query at p.start) f.0 (r.spelling ++ r.rest) (sym f.1 ∙
        r.joined)) (run_there m sp query at p places contents text o a.0 r) r.literal)
    | inl l ↦ (let joined : text ≡ slice_range query at p.start ++ (l.run ++ l.rest) = f.1 ∙
        ap (λ y. slice_range query at p.start ++ y) l.joined in
        elim (read_tells m sp query p.end places o.5 a.1 l.rest) [
          | inl k ↦ inl (
            l.content ∷ k.0,
            read_before m sp query at p places l.content k.0 text l.run l.rest l.literal joined
                k.1,
          )
          | inr k ↦ inr (λ contents h.
              let r : FirstRead m sp query at p places contents text =
              first_read m sp query at p places contents text h in
              k r.next (subst (Alternates m sp (slices_between query p.end places) r.next)
              (same_read m sp query at p places contents text l.run l.rest l.content o a.0
              joined l.is_run l.literal r) r.after))
        ])
  ]
]

pub text_is_decided : TextIsDecided
text_is_decided query a text =
    let t : (tokens : List (List ℕ)) × HasTokens query.mode query.text tokens = some_tokens query.mode query.text in
    let places : List Place = places_of query t.0 in
    let has : HasPlaces query places = (t.0, t.1, refl) in
    elim (read_tells query.mode query.spelling query.text 0 places
    (places_in_order query places has) (a places has) text) [
      | inl k ↦ inl (k.0, sliced query text places k.0 has k.1)
      | inr k ↦ inr (λ contents h. k contents (unsliced query text places contents has h))
    ]
