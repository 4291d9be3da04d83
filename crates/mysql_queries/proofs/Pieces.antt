-- A text of pieces with literals between is one of tokens with literals for the placeholders.
use Rattle.std.proofs.Common.{◌≡◌, ℕ, true, false, List, [], ◌∷◌, ◌++◌, refl, sym, ap, ◌∙◌, inl, inr, append_assoc}
use Rattle.std.proofs.Common.{subst}
use Rattle.mysql_queries.specs.Literals.{IsLiteral}
use Rattle.mysql_bytes.specs.declared.content.Content.{Content}
use Rattle.mysql_bytes.specs.declared.mode.Mode.{Mode}
use Rattle.mysql_queries.specs.Queries.{is_place, before_first, pieces_of, Alternates}
use Rattle.mysql_queries.proofs.FirstBytes.{bool_tells}
use Rattle.mysql_queries.proofs.Filled.{Spells}
use Rattle.mysql_bytes.specs.declared.spelling.Spelling.{Spelling}
use Rattle.mysql_queries.proofs.QueryWritten.{some_piece}

pieces_at_place : (t : List ℕ) (ts : List (List ℕ)) → is_place t ≡ true → pieces_of (t ∷ ts) ≡ [] ∷ pieces_of ts
pieces_at_place t ts h = rw h refl

pieces_at_token : (t : List ℕ) (ts : List (List ℕ)) → is_place t ≡ false → pieces_of (t ∷ ts) ≡
    before_first t (pieces_of ts)
pieces_at_token t ts h = rw h refl

front_off : (m : Mode) (sp : Spelling) (t q : List ℕ) (qs : List (List ℕ)) (cs : List Content)
    (text : List ℕ) → Alternates m sp ((t ++ q) ∷ qs) cs text → (r : List ℕ) × (text ≡ t ++ r) ×
    Alternates m sp (q ∷ qs) cs r
front_off m sp t q [] [] text h = (q, h, refl)
front_off m sp t q [] (c ∷ cs) text h = elim h [ ]
front_off m sp t q (n ∷ qs) [] text h = elim h [ ]
front_off m sp t q (n ∷ qs) (c ∷ cs) text (s, r, l, e, k) =
    (q ++ (s ++ r), e ∙ append_assoc t q (s ++ r), (s, r, l, refl, k))

front_on : (m : Mode) (sp : Spelling) (t q : List ℕ) (qs : List (List ℕ)) (cs : List Content)
    (text r : List ℕ) → text ≡ t ++ r → Alternates m sp (q ∷ qs) cs r →
    Alternates m sp ((t ++ q) ∷ qs) cs text
front_on m sp t q [] [] text r e h = e ∙ ap (λ y. t ++ y) h
front_on m sp t q [] (c ∷ cs) text r e h = elim h [ ]
front_on m sp t q (n ∷ qs) [] text r e h = elim h [ ]
front_on m sp t q (n ∷ qs) (c ∷ cs) text r e (s, x, l, f, k) =
    (s, x, l, e ∙ ap (λ y. t ++ y) f ∙ sym (append_assoc t q (s ++ x)), k)

-- a literal comes after an empty first piece
literal_off : (m : Mode) (sp : Spelling) (q : List ℕ) (qs : List (List ℕ)) (cs : List Content)
    (text : List ℕ) → Alternates m sp ([] ∷ q ∷ qs) cs text
    → (content : Content) × (next : List Content) × (spelling : List ℕ) × (rest : List ℕ) ×
    (cs ≡ content ∷ next) × IsLiteral m sp spelling content × (text ≡ spelling ++ rest) ×
    Alternates m sp (q ∷ qs) next rest
literal_off m sp q qs [] text h = elim h [ ]
literal_off m sp q qs (c ∷ cs) text (s, r, l, e, k) = (c, cs, s, r, refl, l, e, k)

pub pieces_spell : (m : Mode) (sp : Spelling) (ts : List (List ℕ)) (cs : List Content)
    (text : List ℕ) → Alternates m sp (pieces_of ts) cs text → Spells m sp ts cs text
pieces_spell m sp [] [] text h = (refl, h)
pieces_spell m sp [] (c ∷ cs) text h = elim h [ ]
pieces_spell m sp (t ∷ ts) cs text h =
    let o : (p : List ℕ) × (ps : List (List ℕ)) × (pieces_of ts ≡ p ∷ ps) = some_piece ts in
    elim (bool_tells (is_place t)) [
      | inl p ↦ (let k : Alternates m sp ([] ∷ o.0 ∷ o.1) cs text =
          subst (λ y. Alternates m sp y cs text) (pieces_at_place t ts p ∙ ap (λ y. [] ∷ y) o.2)
          h in
          let l : (content : Content) × (next : List Content) × (spelling : List ℕ) ×
          (rest : List ℕ) × (cs ≡ content ∷ next) × IsLiteral m sp spelling content ×
          (text ≡ spelling ++ rest) × Alternates m sp (o.0 ∷ o.1) next rest =
          literal_off m sp o.0 o.1 cs text k in
          inr (
            p,
            l.0,
            l.1,
            l.2,
            l.3,
            l.4,
            l.5,
            l.6,
            pieces_spell m sp ts l.1 l.3 (subst (λ y. Alternates m sp y l.1 l.3) (sym o.2) l.7),
          ))
      | inr p ↦ (let k : Alternates m sp ((t ++ o.0) ∷ o.1) cs text =
          subst (λ y. Alternates m sp y cs text) (pieces_at_token t ts p ∙ ap (before_first t) o.2)
          h in
          let l : (r : List ℕ) × (text ≡ t ++ r) × Alternates m sp (o.0 ∷ o.1) cs r =
          front_off m sp t o.0 o.1 cs text k in
          inl (p, l.0, l.1, pieces_spell m sp ts cs l.0 (subst (λ y. Alternates m sp y cs l.0) (sym o.2) l.2)))
    ]

literal_on : (m : Mode) (sp : Spelling) (q : List ℕ) (qs : List (List ℕ)) (cs : List Content)
    (text : List ℕ) (c : Content) (next : List Content) (s r : List ℕ) → cs ≡ c ∷ next →
    IsLiteral m sp s c → text ≡ s ++ r → Alternates m sp (q ∷ qs) next r →
    Alternates m sp ([] ∷ q ∷ qs) cs text
literal_on m sp q qs cs text c next s r e l f k =
    subst (λ y. Alternates m sp ([] ∷ q ∷ qs) y text) (sym e) (s, r, l, f, k)

pub spelled_pieces : (m : Mode) (sp : Spelling) (ts : List (List ℕ)) (cs : List Content)
    (text : List ℕ) → Spells m sp ts cs text → Alternates m sp (pieces_of ts) cs text
spelled_pieces m sp [] cs text h = subst (λ y. Alternates m sp ([] ∷ []) y text) (sym h.0) h.1
spelled_pieces m sp (t ∷ ts) cs text (inl (p, r, e, h)) =
    let o : (q : List ℕ) × (qs : List (List ℕ)) × (pieces_of ts ≡ q ∷ qs) = some_piece ts in
    subst (λ y. Alternates m sp y cs text) (sym (pieces_at_token t ts p ∙ ap (before_first t) o.2))
    (front_on m sp t o.0 o.1 cs text r e
    (subst (λ y. Alternates m sp y cs r) o.2 (spelled_pieces m sp ts cs r h)))
spelled_pieces m sp (t ∷ ts) cs text (inr (p, c, next, s, r, e, l, f, h)) =
    let o : (q : List ℕ) × (qs : List (List ℕ)) × (pieces_of ts ≡ q ∷ qs) = some_piece ts in
    subst (λ y. Alternates m sp y cs text) (sym (pieces_at_place t ts p ∙ ap (λ y. [] ∷ y) o.2))
    (literal_on m sp o.0 o.1 cs text c next s r e l f
    (subst (λ y. Alternates m sp y next r) o.2 (spelled_pieces m sp ts next r h)))
