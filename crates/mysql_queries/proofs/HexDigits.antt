-- Rows of hexadecimal digits.
use Rattle.std.proofs.Common.{◌≡◌, ◌≢◌, ℕ, ◌+◌, ◌-◌, ◌*◌, ◌≤◌, ◌<◌, true, false, ◌==◌, List, [], ◌∷◌, ◌++◌, length}
use Rattle.std.proofs.Common.{take, drop, get_or, slice_range, refl, sym, ap, ◌∙◌, arith, subst, drop-drop}
use Rattle.std.proofs.Common.{append_assoc, length-drop, length-take-le}
use Rattle.mysql_queries.specs.Literals.{is_hex, hex_value, SpellsInHex, IsHexLiteral}
use Rattle.mysql_queries.specs.LiteralRuns.{EndsBefore, IsHexRun, begins_hex}
use Rattle.mysql_queries.proofs.FirstBytes.{and_true, same_number}
use Rattle.mysql_queries.proofs.Runs.{EndsRun, one_run}
use Rattle.mysql_queries.proofs.Cuts.{all_more, cut_at, drop_one, drop_two, front_is}
use Rattle.mysql_queries.proofs.LiteralsAreRuns.{all_hex}

pub slice_is : (t front : List ℕ) (from end : ℕ) → from ≤ end → drop from t ≡ front ++ drop end t →
    slice_range t from end ≡ front
slice_is t front from end l h =
    let e : from + (end - from) ≡ end = omega arith in
    front_is (drop from t) front (end - from) (h ∙
    ap (λ y. front ++ y) (ap (λ n. drop n t) (sym e) ∙ sym (drop-drop (end - from) from t)))

slice_two : (t : List ℕ) (from i : ℕ) → from ≤ i → i + 1 < length t → slice_range t from (i + 2) ≡
    slice_range t from i ++ get_or t i 0 ∷ get_or t (i + 1) 0 ∷ []
slice_two t from i l h = slice_is t (slice_range t from i ++ get_or t i 0 ∷ get_or t (i + 1) 0 ∷
    []) from (i + 2) (omega arith)
    (cut_at t from i l ∙ ap (λ y. slice_range t from i ++ y) (drop_two t i h) ∙
    sym (append_assoc (slice_range t from i) (get_or t i 0 ∷ get_or t (i + 1) 0 ∷
    []) (drop (i + 2) t)))

spells_join : (ds bs : List ℕ) (m n v : ℕ) → SpellsInHex ds bs → is_hex m ≡ true → is_hex n ≡ true →
    v ≡ 16 * hex_value m + hex_value n → SpellsInHex (ds ++ m ∷ n ∷ []) (bs ++ v ∷ [])
spells_join [] [] m n v h k l e = (k, l, e, tt)
spells_join [] (b ∷ bs) m n v h k l e = elim h [ ]
spells_join (x ∷ []) bs m n v h k l e = elim h [ ]
spells_join (x ∷ y ∷ ds) [] m n v h k l e = elim h [ ]
spells_join (x ∷ y ∷ ds) (b ∷ bs) m n v h k l e = (h.0, h.1, h.2, spells_join ds bs m n v h.3 k l e)

pub spells_more : (t items : List ℕ) (i v : ℕ) → 2 ≤ i → i + 1 < length t →
    SpellsInHex (slice_range t 2 i) items → is_hex (get_or t i 0) ≡ true →
    is_hex (get_or t (i + 1) 0) ≡ true → v ≡
    16 * hex_value (get_or t i 0) + hex_value (get_or t (i + 1) 0)
    → SpellsInHex (slice_range t 2 (i + 2)) (items ++ v ∷ [])
spells_more t items i v f l h k m e =
    subst (λ y. SpellsInHex y (items ++ v ∷ [])) (sym (slice_two t 2 i f l))
    (spells_join (slice_range t 2 i) items (get_or t i 0) (get_or t (i + 1) 0) v h k m e)

pub hex_front : (t : List ℕ) → begins_hex t ≡ true → (t ≡ 0x30 ∷ 0x78 ∷ drop 2 t) × (2 ≤ length t)
hex_front [] h = cc
hex_front (a ∷ []) h = cc
hex_front (a ∷ b ∷ x) h =
    let e : a ≡ 0x30 = same_number a 0x30 (and_true (a == 0x30) (b == 0x78) h).0 in
    let f : b ≡ 0x78 = same_number b 0x78 (and_true (a == 0x30) (b == 0x78) h).1 in
    (ap (λ y. y ∷ b ∷ x) e ∙ ap (λ y. 0x30 ∷ y ∷ x) f, omega arith)

pub hex_ends : (r : List ℕ) → EndsBefore is_hex r → EndsRun (λ b. is_hex b ≡ true) r
hex_ends [] h = tt
hex_ends (b ∷ r) h = λ e. let f : true ≡ false = sym e ∙ h in cc

pub ends_at : (t : List ℕ) (i : ℕ) → (i < length t → is_hex (get_or t i 0) ≡ false) → EndsBefore is_hex (drop i t)
ends_at t i h = by_case (drop i t) refl
  where
    by_case : (r : List ℕ) → drop i t ≡ r → EndsBefore is_hex r
    by_case [] e = tt
    by_case (b ∷ r) e =
        let l : i < length t = omega (arith, length-drop i t, ap length e) in
        let g : get_or t i 0 ∷ drop (i + 1) t ≡ b ∷ r = sym (drop_one t i l) ∙ e in
        let f : get_or t i 0 ≡ b = cc in
        subst (λ c. is_hex c ≡ false) f (h l)

front_two : (t : List ℕ) (i : ℕ) → begins_hex t ≡ true → 2 ≤ i → take i t ≡ 0x30 ∷ 0x78 ∷ slice_range t 2 i
front_two t i b f = front_is t (0x30 ∷ 0x78 ∷ slice_range t 2 i) i ((hex_front t b).0 ∙
    ap (λ y. 0x30 ∷ 0x78 ∷ y) (cut_at t 2 i f))

pub hex_run : (t items : List ℕ) (i : ℕ) → begins_hex t ≡ true → 2 ≤ i →
    SpellsInHex (slice_range t 2 i) items → EndsBefore is_hex (drop i t) →
    IsHexRun (take i t) (drop i t)
hex_run t items i b f h e =
    record {
      digits = slice_range t 2 i;
      each = all_hex (slice_range t 2 i) items h;
      spelled =
          front_two t i b f;
      ends = e;
    }

some_bytes : (ds bs : List ℕ) → SpellsInHex ds bs → ds ≢ [] → bs ≢ []
some_bytes [] bs h n e = n refl
some_bytes (x ∷ []) bs h n e = h
some_bytes (x ∷ y ∷ ds) [] h n e = h
some_bytes (x ∷ y ∷ ds) (b ∷ bs) h n e = cc

odd_digits : (ds bs : List ℕ) (x : ℕ) (cs : List ℕ) → SpellsInHex ds bs → SpellsInHex (ds ++ x ∷ []) cs → ⊥
odd_digits [] bs x cs h k = k
odd_digits (a ∷ []) bs x cs h k = h
odd_digits (a ∷ b ∷ ds) [] x cs h k = h
odd_digits (a ∷ b ∷ ds) (y ∷ bs) x [] h k = k
odd_digits (a ∷ b ∷ ds) (y ∷ bs) x (c ∷ cs) h k = odd_digits ds bs x cs h.3 k.3

pub hex_read : (t items : List ℕ) (i : ℕ) → begins_hex t ≡ true → 2 ≤ i → i ≤ length t → i ≢ 2 →
    SpellsInHex (slice_range t 2 i) items → IsHexLiteral (take i t) items
hex_read t items i b f l n h =
    record {
      digits = slice_range t 2 i;
      spelled = front_two t i b f;
      spells = h;
      some =
          some_bytes (slice_range t 2 i) items h
          (λ e. absurd (omega (
            arith,
            ap length e,
            length-take-le (i - 2) (drop 2 t) (omega (arith, length-drop 2 t)),
            length-drop 2 t,
          )));
    }

-- a run of such digits is no literal
abbrev pub IsNoHex : List ℕ → Type 0
IsNoHex t = (run rest bytes : List ℕ) → t ≡ run ++ rest → IsHexRun run rest → IsHexLiteral run bytes → ⊥

rest_of : (t run rest bytes : List ℕ) → begins_hex t ≡ true → t ≡ run ++ rest →
    (k : IsHexLiteral run bytes) → drop 2 t ≡ k.digits ++ rest
rest_of t run rest bytes b e k = same_tail (sym (hex_front t b).0 ∙ e ∙ ap (λ y. y ++ rest) k.spelled)
  where
    same_tail : {x y : List ℕ} → 0x30 ∷ 0x78 ∷ x ≡ 0x30 ∷ 0x78 ∷ y → x ≡ y
    same_tail h = cc

pub hex_odd : (t items : List ℕ) (i : ℕ) → begins_hex t ≡ true → 2 ≤ i → i < length t →
    is_hex (get_or t i 0) ≡ true → EndsBefore is_hex (drop (i + 1) t) →
    SpellsInHex (slice_range t 2 i) items → IsNoHex t
hex_odd t items i b f l x e h run rest bytes j r k =
    let ds : List ℕ = slice_range t 2 i in
    let text : drop 2 t ≡ (slice_range t 2 i ++ get_or t i 0 ∷ []) ++ drop (i + 1) t =
    cut_at t 2 i f ∙ ap (λ y. slice_range t 2 i ++ y) (drop_one t i l) ∙
    sym (append_assoc (slice_range t 2 i) (get_or t i 0 ∷ []) (drop (i + 1) t)) in
    let o : (k.digits ≡ slice_range t 2 i ++ get_or t i 0 ∷ []) × (rest ≡ drop (i + 1) t) =
    one_run (λ c. is_hex c ≡ true) k.digits (slice_range t 2 i ++ get_or t i 0 ∷
    []) rest (drop (i + 1) t) (all_hex k.digits bytes k.spells)
    (all_more (λ c. is_hex c ≡ true) (slice_range t 2 i) (get_or t i 0)
    (all_hex (slice_range t 2 i) items h) x)
    (hex_ends rest r.ends) (hex_ends (drop (i + 1) t) e) (sym (rest_of t run rest bytes b j k) ∙ text) in
    odd_digits (slice_range t 2 i) items (get_or t i 0) bytes h (subst (λ d. SpellsInHex d bytes) o.0 k.spells)
