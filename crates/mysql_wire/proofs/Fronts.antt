-- What stands whole in a front of framings.
use Rattle.std.proofs.Common.{◌≡◌, inl, inr, ℕ, ◌+◌, ◌<◌, ◌≤◌, List, [], ◌∷◌, ◌++◌, length, take, drop, refl, ap, sym}
use Rattle.std.proofs.Common.{◌∙◌, subst, append_assoc, arith, length-append, take-take}
use Rattle.std.proofs.lemmas.List.{take_at, drop_at, take-append-drop, take-append-le}
use Rattle.std.proofs.lemmas.Bool.{cases_lt}
use Rattle.std.specs.List.{AllByRecursion}
use Rattle.mysql_wire.specs.Framing.{framing}
use Rattle.mysql_wire.specs.Stream.{Numbering, first_number, after_all, framings, IsRest, Rest, StandWhole}
use Rattle.mysql_wire.specs.Laws.{FrontsSplit, OneCountStandsWhole}
use Rattle.mysql_wire.proofs.Unique.{framing_no_rest}
use Rattle.mysql_wire.proofs.GoingOn.{framings-append, prefix_has_no_fault}

all_behind : (P : List ℕ → Type 0) (ps qs : List (List ℕ)) → AllByRecursion P (ps ++ qs) → AllByRecursion P qs
all_behind P [] qs a = a
all_behind P (p ∷ ps) qs a = all_behind P ps qs a.1

-- what stands at the front of a longer list
front_of : (front rest back more : List ℕ) → rest ++ back ≡ front ++ more →
    length front ≤ length rest → rest ≡ front ++ drop (length front) rest
front_of front rest back more e fits =
    sym (take-append-drop (length front) rest)
    ∙ ap (λ k. k ++ drop (length front) rest) (sym (take-append-le (length front) rest back fits) ∙
    ap (take (length front)) e ∙ take_at front more (length front) refl)

-- the next payload doesn't stand whole in what a rest is
next_is_cut : (limit id : ℕ) (payload rest_bytes back more : List ℕ) (rest : Rest) →
    length payload ≤ limit → rest_bytes ++ back ≡ framing payload id ++ more →
    IsRest limit id rest_bytes rest →
    length rest_bytes < length (framing payload id)
next_is_cut limit id payload rest_bytes back more rest within e r =
    elim (cases_lt (length rest_bytes) (length (framing payload id))) [
      | inl short ↦ short
      | inr long ↦ absurd (framing_no_rest limit id payload
          (drop (length (framing payload id)) rest_bytes) rest_bytes rest within
          (front_of (framing payload id) rest_bytes back more e long) r)
    ]

-- after so many payloads a rest follows, which holds none of the later ones
cut_in : (limit : ℕ) (numbering : Numbering) (ps later : List (List ℕ)) (front rest_bytes back : List ℕ) (rest : Rest) →
    AllByRecursion (λ payload. length payload ≤ limit) (ps ++ later) →
    framings (ps ++ later) numbering ≡ front ++ back → front ≡ framings ps numbering ++
    rest_bytes →
    IsRest limit (first_number (after_all ps numbering)) rest_bytes rest →
    length ps < length (ps ++ later) →
    length front < length (framings (take (length ps + 1) (ps ++ later)) numbering)
cut_in limit numbering ps [] front rest_bytes back rest a e f r more = absurd (omega (arith, more, length-append ps []))
cut_in limit numbering ps (q ∷ later) front rest_bytes back rest a e f r more =
    let here = framings ps numbering in
    let there = framings (q ∷ later) (after_all ps numbering) in
    let id = first_number (after_all ps numbering) in
    let same : here ++ there ≡ here ++ (rest_bytes ++ back) =
    sym (framings-append ps (q ∷ later) numbering) ∙ e ∙ ap (λ k. k ++ back) f ∙ append_assoc here rest_bytes back in
    let tails : there ≡ rest_bytes ++ back =
    sym (drop_at here there (length here) refl) ∙ ap (drop (length here)) same ∙
    drop_at here (rest_bytes ++ back) (length here) refl in
    let short = next_is_cut limit id q rest_bytes back _ rest
    (all_behind (λ payload. length payload ≤ limit) ps (q ∷ later) a).0 (sym tails) r in
    let taken : take (length ps + 1) (ps ++ q ∷ later) ≡ ps ++ q ∷ [] = take_one ps q later in
    let written : framings (take (length ps + 1) (ps ++ q ∷ later)) numbering ≡ here ++
    (framing q id ++ []) = ap (λ k. framings k numbering) taken ∙
    framings-append ps (q ∷ []) numbering in
    omega (
      arith,
      short,
      ap length f,
      length-append here rest_bytes,
      ap length written,
      length-append here (framing q id ++ []),
      length-append (framing q id) [],
    )
  where
    take_one : (xs : List (List ℕ)) (y : List ℕ) (ys : List (List ℕ)) →
        take (length xs + 1) (xs ++ y ∷ ys) ≡ xs ++ y ∷ []
    take_one xs y ys = ap (take (length xs + 1)) (sym (append_assoc xs (y ∷ []) ys)) ∙
        take_at (xs ++ y ∷ []) ys (length xs + 1) (omega (arith, length-append xs (y ∷ [])))

stands : (limit : ℕ) (numbering : Numbering) (payloads : List (List ℕ))
    (front rest_bytes back : List ℕ) (ps later : List (List ℕ)) (rest : Rest) →
    AllByRecursion (λ payload. length payload ≤ limit) payloads → framings payloads numbering ≡
    front ++ back → front ≡ framings ps numbering ++ rest_bytes →
    IsRest limit (first_number (after_all ps numbering)) rest_bytes rest → payloads ≡ ps ++ later →
    StandWhole numbering payloads front (length ps) × (ps ≡ take (length ps) payloads)
stands limit numbering payloads front rest_bytes back ps later rest a e f r is =
    let first : take (length ps) payloads ≡ ps = ap (take (length ps)) is ∙ take_at ps later (length ps) refl in (
      record {
        few = omega (arith, ap length is, length-append ps later);
        inside = omega (
          arith,
          ap (λ k. length (framings k numbering)) first,
          ap length f,
          length-append (framings ps numbering) rest_bytes,
        );
        most = λ more. subst (λ k. length front < length (framings (take (length ps + 1) k) numbering)) (sym is)
            (cut_in limit numbering ps later front rest_bytes back rest
            (subst (AllByRecursion (λ payload. length payload ≤ limit)) is a)
            (ap (λ k. framings k numbering) (sym is) ∙ e) f r
            (subst (λ k. length ps < length k) is more));
      },
      sym first,
    )

pub fronts_split : FrontsSplit
fronts_split limit numbering payloads front back split a e s =
    let first = prefix_has_no_fault limit numbering payloads front back split a e s in
    let found = stands limit numbering payloads front split.rest_bytes back split.payloads first.1
    split.rest a e s.joined s.ends first.2 in
    (first.0, found.0, found.1)

-- fewer payloads take no more bytes
fewer : (numbering : Numbering) (payloads : List (List ℕ)) (count more : ℕ) → count ≤ more →
    length (framings (take count payloads) numbering) ≤ length
    (framings (take more payloads) numbering)
fewer numbering payloads count more h =
    let both : take more payloads ≡ take count payloads ++ drop count (take more payloads) =
    sym (take-append-drop count (take more payloads)) ∙
    ap (λ k. k ++ drop count (take more payloads)) (take-take count more payloads h) in
    let written = ap (λ k. framings k numbering) both ∙
    framings-append (take count payloads) (drop count (take more payloads)) numbering in
    omega (
      arith,
      ap length written,
      length-append (framings (take count payloads) numbering)
          (framings (drop count (take more payloads)) (after_all (take count payloads) numbering)),
    )

not_fewer : (numbering : Numbering) (payloads : List (List ℕ)) (front : List ℕ) (count other : ℕ) →
    StandWhole numbering payloads front count → StandWhole numbering payloads front other →
    count < other → ⊥
not_fewer numbering payloads front count other s t less =
    omega (
      arith,
      s.most (omega (arith, less, t.few)),
      t.inside,
      fewer numbering payloads (count + 1) other (omega (arith, less)),
    )

pub one_count_stands_whole : OneCountStandsWhole
one_count_stands_whole numbering payloads front count other s t =
    elim (cases_lt count other) [
      | inl less ↦ absurd (not_fewer numbering payloads front count other s t less)
      | inr many ↦
          elim (cases_lt other count) [
            | inl less ↦ absurd (not_fewer numbering payloads front other count t s less)
            | inr few ↦ omega (arith, many, few)
          ]
    ]
