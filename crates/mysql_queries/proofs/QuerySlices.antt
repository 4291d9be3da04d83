-- The pieces and the names of a query are its slices between and at its placeholders.
use Rattle.std.proofs.Common.{◌≡◌, ◌≢◌, ℕ, zero, suc, Bool, ◌+◌, ◌-◌, ◌≤◌, ◌<◌, true, false, List, [], ◌∷◌, ◌++◌}
use Rattle.std.proofs.Common.{length, take, drop, get_or, slice_range, refl, sym, ap, ◌∙◌, inl, inr, append_assoc}
use Rattle.std.proofs.Common.{arith, subst, length-append}
use Rattle.std.specs.List.{concat}
use Rattle.std.proofs.Math.Seq.{get_or-append_seam}
use Rattle.mysql_queries.specs.Tokens.{IsToken, AreTokens}
use Rattle.mysql_queries.specs.Queries.{BeginsPlace, InOrder, before_first, is_name, is_place, pieces_of, places_behind}
use Rattle.mysql_queries.specs.Queries.{places_of, servers_agree, slices_between}
use Rattle.mysql_queries.proofs.Filled.{says_alone}
use Rattle.mysql_queries.specs.Laws.{NamesAreSlices, PiecesAreSlices, PlacesInOrder}
use Rattle.mysql_queries.specs.Parsed.{names_of, names_at}
use Rattle.mysql_queries.specs.Sql.{Sql}
use Rattle.mysql_queries.specs.declared.placeholders.Place.{Place}
use Rattle.mysql_queries.proofs.FirstBytes.{bool_tells}
use Rattle.mysql_queries.proofs.OneToken.{not_empty}
use Rattle.mysql_queries.proofs.Filled.{place_begins}

in_order_before : (query : List ℕ) (start from : ℕ) (ps : List Place) → start ≤ from →
    InOrder query from ps → InOrder query start ps
in_order_before query start from [] l h = tt
in_order_before query start from (p ∷ ps) l h = let f : from ≤ p.start = h.0 in (omega arith, h.1, h.2, h.3, h.4, h.5)

pub drop_front : (before y : List ℕ) → drop (length before) (before ++ y) ≡ y
drop_front [] y = refl
drop_front (b ∷ before) y = drop_front before y

begins_there : (before t y : List ℕ) → t ≢ [] → is_place t ≡ true →
    BeginsPlace (get_or (before ++ (t ++ y)) (length before) 0)
begins_there before [] y n h = absurd (n refl)
begins_there before (b ∷ t) y n h =
    subst BeginsPlace (sym (get_or-append_seam before b (t ++ y) 0)) (place_begins b t h)

pub in_order : (q : Sql) (agree : Bool) (bs : List (List ℕ)) (before : List ℕ)
    (ts : List (List ℕ)) → q.text ≡ before ++ concat ts → AreTokens q.mode ts →
    InOrder q.text (length before) (places_behind q agree bs (length before) ts)
in_order q agree bs before [] e i = tt
in_order q agree bs before (t ∷ ts) e i =
    let f : q.text ≡ (before ++ t) ++ concat ts = e ∙ sym (append_assoc before t (concat ts)) in
    let n : length (before ++ t) ≡ length before + length t = length-append before t in
    let k : InOrder q.text (length before + length t)
    (places_behind q agree (t ∷ bs) (length before + length t) ts) =
    subst (λ m. InOrder q.text m (places_behind q agree (t ∷ bs) m ts)) n
    (in_order q agree (t ∷ bs) (before ++ t) ts f i.1) in
    let size : length q.text ≡ length before + (length t + length (concat ts)) = ap length e ∙
    length-append before (t ++ concat ts) ∙
    ap (λ m. length before + m) (length-append t (concat ts)) in
    let some : t ≢ [] = λ h. not_empty q.mode (concat ts) (subst (λ y. IsToken q.mode y (concat ts)) h i.0) in
    let more : 0 < length t = nonempty t some in
    elim (bool_tells (is_place t)) [
      | inl p ↦ (rw p (
        omega arith,
        omega arith,
        omega (arith, size),
        subst (λ y. BeginsPlace (get_or y (length before) 0)) (sym e) (begins_there before t (concat ts) some p),
        (λ a. (says_alone q.mode agree q.text (length before) (length before + length t) bs ts a).apart),
        k,
      ))
      | inr p ↦ (rw p (in_order_before q.text (length before) (length before + length t)
          (places_behind q agree (t ∷ bs) (length before + length t) ts) (omega arith) k))
    ]
  where
    nonempty : (t : List ℕ) → t ≢ [] → 0 < length t
    nonempty [] h = absurd (h refl)
    nonempty (b ∷ t) h = omega arith

pub take_front : (t y : List ℕ) (k : ℕ) → take (length t + k) (t ++ y) ≡ t ++ take k y
take_front [] y k = ap (λ n. take n y) (omega arith)
take_front (b ∷ t) y k = let n : length (b ∷ t) + k ≡ suc (length t + k) = omega arith in
    rw n (ap (λ z. b ∷ z) (take_front t y k))

-- a slice that begins earlier by a token
first_slice : (q t : List ℕ) (n m : ℕ) (ps : List Place) → drop n q ≡ t ++ drop m q → m ≡
    n + length t → InOrder q m ps → before_first t (slices_between q m ps) ≡ slices_between q n ps
first_slice q t n m [] e l h = ap (λ y. y ∷ []) (sym e)
first_slice q t n m (p ∷ ps) e l h =
    let from : m ≤ p.start = h.0 in
    let k : p.start - n ≡ length t + (p.start - m) = omega (arith, l, from) in
    let f : take (p.start - n) (drop n q) ≡ t ++ take (p.start - m) (drop m q) =
    ap (λ i. take i (drop n q)) k ∙ ap (take (length t + (p.start - m))) e ∙
    take_front t (drop m q) (p.start - m) in
    ap (λ y. y ∷ slices_between q p.end ps) (sym f)

-- the rest of the query behind a front
pub behind : (before y q : List ℕ) → q ≡ before ++ y → drop (length before) q ≡ y
behind before y q e = ap (drop (length before)) e ∙ drop_front before y

pub pieces_at : (q : Sql) (agree : Bool) (bs : List (List ℕ)) (before : List ℕ)
    (ts : List (List ℕ)) → q.text ≡ before ++ concat ts → AreTokens q.mode ts → pieces_of ts ≡
    slices_between q.text (length before) (places_behind q agree bs (length before) ts)
pieces_at q agree bs before [] e i = ap (λ y. y ∷ []) (sym (behind before [] q.text e))
pieces_at q agree bs before (t ∷ ts) e i =
    let f : q.text ≡ (before ++ t) ++ concat ts = e ∙ sym (append_assoc before t (concat ts)) in
    let n : length (before ++ t) ≡ length before + length t = length-append before t in
    let m : ℕ = length before + length t in
    let k : pieces_of ts ≡ slices_between q.text m (places_behind q agree (t ∷ bs) m ts) =
    subst (λ j. pieces_of ts ≡ slices_between q.text j (places_behind q agree (t ∷ bs) j ts)) n
    (pieces_at q agree (t ∷ bs) (before ++ t) ts f i.1) in
    let o : InOrder q.text m (places_behind q agree (t ∷ bs) m ts) =
    subst (λ j. InOrder q.text j (places_behind q agree (t ∷ bs) j ts)) n
    (in_order q agree (t ∷ bs) (before ++ t) ts f i.1) in
    let later : drop m q.text ≡ concat ts = ap (λ j. drop j q.text) (sym n) ∙
    behind (before ++ t) (concat ts) q.text f in
    let here : drop (length before) q.text ≡ t ++ drop m q.text =
    behind before (t ++ concat ts) q.text e ∙ ap (λ y. t ++ y) (sym later) in
    elim (bool_tells (is_place t)) [
      | inl p ↦ (let z : length before - length before ≡ 0 = omega arith in
          rw p (ap (λ ys. [] ∷ ys) k ∙
          ap (λ j. take j (drop (length before) q.text) ∷
          slices_between q.text m (places_behind q agree (t ∷ bs) m ts)) (sym z)))
      | inr p ↦ (rw p (ap (before_first t) k ∙
          first_slice q.text t (length before) m (places_behind q agree (t ∷ bs) m ts) here refl o))
    ]

pub no_name_token : (t : List ℕ) → is_place t ≡ false → is_name t ≡ false
no_name_token t h = elim (bool_tells (is_name t)) [
  | inl p ↦ (let f : is_place t ≡ true = rw p refl in let g : true ≡ false = sym f ∙ h in
      cc)
  | inr p ↦ p
]

pub take_all_front : (t y : List ℕ) → take (length t) (t ++ y) ≡ t
take_all_front [] y = refl
take_all_front (b ∷ t) y = ap (λ z. b ∷ z) (take_all_front t y)

-- the slice at a token
pub token_slice : (q t rest : List ℕ) (n : ℕ) → drop n q ≡ t ++ rest → slice_range q n (n + length t) ≡ t
token_slice q t rest n e = ap (λ j. take j (drop n q)) (omega-minus n (length t)) ∙
    ap (take (length t)) e ∙ take_all_front t rest
  where
    omega-minus : (a b : ℕ) → a + b - a ≡ b
    omega-minus a b = omega arith

pub names_there : (q : Sql) (agree : Bool) (bs : List (List ℕ)) (before : List ℕ)
    (ts : List (List ℕ)) → q.text ≡ before ++ concat ts → AreTokens q.mode ts → names_of ts ≡
    names_at q.text (places_behind q agree bs (length before) ts)
names_there q agree bs before [] e i = refl
names_there q agree bs before (t ∷ ts) e i =
    let f : q.text ≡ (before ++ t) ++ concat ts = e ∙ sym (append_assoc before t (concat ts)) in
    let n : length (before ++ t) ≡ length before + length t = length-append before t in
    let m : ℕ = length before + length t in
    let k : names_of ts ≡ names_at q.text (places_behind q agree (t ∷ bs) m ts) =
    subst (λ j. names_of ts ≡ names_at q.text (places_behind q agree (t ∷ bs) j ts)) n
    (names_there q agree (t ∷ bs) (before ++ t) ts f i.1) in
    let here : drop 1 (slice_range q.text (length before) m) ≡ drop 1 t =
    ap (drop 1) (token_slice q.text t (concat ts) (length before)
    (behind before (t ++ concat ts) q.text e)) in
    elim (bool_tells (is_place t)) [
      | inl p ↦ elim (bool_tells (is_name t)) [
        | inl r ↦ (rw (p, r) (ap (λ ys. drop 1 t ∷ ys) k ∙
            ap (λ y. y ∷ names_at q.text (places_behind q agree (t ∷ bs) m ts)) (sym here)))
        | inr r ↦ (rw (p, r) k)
      ]
      | inr p ↦ (let r : is_name t ≡ false = no_name_token t p in rw (p, r) k)
    ]

-- what stands where the code looks past the last placeholder
abbrev pub no_place : Place
no_place = record { start = 0; end = 0; name = false; alone = false }

-- a placeholder, and the later ones behind it
pub record Next (query : List ℕ) (at : ℕ) (p : Place) (ps : List Place) : Type 0 where
  pub from : at ≤ p.start
  pub some : p.start < p.end
  pub in_range : p.end ≤ length query
  pub before : p.start ≤ length query
  pub rest : InOrder query p.end ps

pub next_place : (places : List Place) (k : ℕ) → k < length places → drop k places ≡
    get_or places k no_place ∷ drop (k + 1) places
next_place [] k h = absurd (omega arith)
next_place (p ∷ places) zero h = refl
next_place (p ∷ places) (suc k) h = let e : suc k + 1 ≡ suc (k + 1) = omega arith in
    rw e (next_place places k (omega arith))

pub next_in_order : (query : List ℕ) (at : ℕ) (places : List Place) (k : ℕ) → k < length places →
    InOrder query at (drop k places) →
    Next query at (get_or places k no_place) (drop (k + 1) places)
next_in_order query at places k h o =
    let n : InOrder query at (get_or places k no_place ∷ drop (k + 1) places) =
    subst (InOrder query at) (next_place places k h) o in
    let a : (get_or places k no_place).start < (get_or places k no_place).end = n.1 in
    let b : (get_or places k no_place).end ≤ length query = n.2 in
    record { from = n.0; some = n.1; in_range = n.2; before = omega arith; rest = n.5 }

pub places_in_order : PlacesInOrder
places_in_order query places h =
    subst (InOrder query.text 0) (sym h.2)
    (in_order query (servers_agree 0 h.0) [] [] h.0 (sym h.1.joined) h.1.each)

pub no_places_left : (places : List Place) (k : ℕ) → length places ≤ k → drop k places ≡ []
no_places_left [] zero h = refl
no_places_left [] (suc k) h = refl
no_places_left (p ∷ places) zero h = absurd (omega arith)
no_places_left (p ∷ places) (suc k) h = no_places_left places k (omega arith)

pub pieces_are_slices : PiecesAreSlices
pieces_are_slices query tokens h = pieces_at query (servers_agree 0 tokens) [] [] tokens (sym h.joined) h.each

pub names_are_slices : NamesAreSlices
names_are_slices query tokens h = names_there query (servers_agree 0 tokens) [] [] tokens (sym h.joined) h.each
