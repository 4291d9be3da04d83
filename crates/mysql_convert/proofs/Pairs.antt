-- Pairs of a name and what is as_value, put into a map one after another.
use Rattle.std.proofs.Common.{◌≡◌, ℕ, ◌+◌, ◌<◌, Bool, true, false, cond, ◌||◌, List, [], ◌∷◌, ◌++◌, map, length, Option}
use Rattle.std.proofs.Common.{Some, None, is_some, is_none, unwrap_or, refl, sym, ap, ◌∙◌, arith, subst, nat_eq}
use Rattle.std.proofs.Common.{if◌then◌else◌, Vec, take, drop, get_or, add-one, drop-cons, suc, length-take-le}
use Rattle.std.proofs.lemmas.List.{take_more, map-append, length-map}
use Rattle.mysql_convert.specs.Sets.{set_cause, too_long}
use Rattle.mysql_convert.specs.Sets.Parts.{ByName}
use Rattle.mysql_values.specs.declared.params.SetError.TheVariants.{Redefined}
use Rattle.std.specs.Option.{option_map, option_or}
use Rattle.std.specs.List.{list_any, position_from}
use Rattle.std.specs.Cmp.Lexicographic.{pointwise, nat_list_eq_equiv}
use Rattle.std.specs.Map.{lookup, KeepsOthers}
use Rattle.std.specs.declared.alloc.Global.{Global}
use Rattle.mysql_cells.specs.declared.value.Value.{Value}
use Rattle.mysql_cells.specs.declared.value.Value.TheVariants.{NULL}
use Rattle.mysql_values.specs.Params.{value_named}
use Rattle.mysql_convert.specs.Sets.{first_redefined, part_named}

abbrev same : List ℕ → List ℕ → Bool
same = pointwise nat_eq

abbrev Pair : Type 0
Pair = List ℕ × Option Value

abbrev pub names : List Pair → List (List ℕ)
names pairs = map (λ pair. pair.0) pairs

abbrev pub parts : List Pair → List (Option Value)
parts pairs = map (λ pair. pair.1) pairs

-- what is too long stands as NULL
abbrev pub filled : List Pair → List Pair
filled pairs = map (λ pair. (pair.0, Some (unwrap_or pair.1 NULL))) pairs

abbrev Entries : Type 0
Entries = List (Vec ℕ Global × Value)

pub looked_up : (name : List ℕ) (entries : Entries) → value_named name entries ≡
    lookup (λ key. same name key.items) entries
looked_up name [] = refl
looked_up name (entry ∷ entries) = ap (λ o. cond (same name entry.0.items) (Some entry.1) o) (looked_up name entries)

-- names that are the same find the same
same_found : (name other : List ℕ) (entries : Entries) → same name other ≡ true →
    value_named name entries ≡ value_named other entries
same_found name other [] h = refl
same_found name other (entry ∷ entries) h =
    rw (nat_list_eq_equiv.congr name other entry.0.items h)
    (ap (λ o. cond (same other entry.0.items) (Some entry.1) o)
    (same_found name other entries h))

others : (name : List ℕ) (key : Vec ℕ Global) (old new : Entries) → same name key.items ≡ false →
    KeepsOthers (λ x y. same x.items y.items) (λ k. same key.items k.items) old new →
    lookup (λ k. same name k.items) new ≡ lookup (λ k. same name k.items) old
unfolding KeepsOthers
others name key old new e k =
    k (λ other. same name other.items) (λ x y t. nat_list_eq_equiv.congr name x.items y.items t)
    apart
  where
    apart : (x : Vec ℕ Global) → same key.items x.items ≡ true → same name x.items ≡ false
    apart x t = nat_list_eq_equiv.symm name x.items ∙
        sym (nat_list_eq_equiv.congr key.items x.items name t) ∙
        nat_list_eq_equiv.symm key.items name ∙ e

by_name : (t : Bool) (name : List ℕ) (key : Vec ℕ Global) (value : Value) (old new : Entries) →
    same name key.items ≡ t → lookup (λ k. same key.items k.items) new ≡ Some value →
    KeepsOthers (λ x y. same x.items y.items) (λ k. same key.items k.items) old new
    → value_named name new ≡ (if t then Some value else value_named name old)
by_name true name key value old new e h k = same_found name key.items new e ∙ looked_up key.items new ∙ h
by_name false name key value old new e h k =
    looked_up name new ∙ others name key old new e k ∙ sym (looked_up name old)

-- an entry is put
pub put : (name : List ℕ) (key : Vec ℕ Global) (value : Value) (old new : Entries) →
    lookup (λ k. same key.items k.items) new ≡ Some value →
    KeepsOthers (λ x y. same x.items y.items) (λ k. same key.items k.items) old new
    → value_named name new ≡ (if same name key.items then Some value else value_named name old)
put name key value old new h k = by_name (same name key.items) name key value old new refl h k

is_among : (name : List ℕ) (pairs : List Pair) → list_any (same name) (names pairs) ≡
    is_some (part_named name (filled pairs))
is_among name [] = refl
is_among name (pair ∷ pairs) =
    at_head (same name pair.0) (unwrap_or pair.1 NULL) (list_any (same name) (names pairs))
    (part_named name (filled pairs)) (is_among name pairs)
  where
    at_head : (t : Bool) (value : Value) (among : Bool) (found : Option Value) → among ≡
        is_some found → (t || among) ≡ is_some (if t then Some value else found)
    at_head true value among found h = refl
    at_head false value among found h = h

one_more : (name : List ℕ) (pairs : List Pair) (pair : Pair) →
    part_named name (filled (pairs ++ pair ∷ [])) ≡
    option_or (part_named name (filled pairs))
    (if same name pair.0 then Some (unwrap_or pair.1 NULL) else None)
one_more name [] pair = refl
one_more name (head ∷ pairs) pair =
    at_head (same name head.0) (unwrap_or head.1 NULL)
    (part_named name (filled (pairs ++ pair ∷ []))) (part_named name (filled pairs))
    (if same name pair.0 then Some (unwrap_or pair.1 NULL) else None) (one_more name pairs pair)
  where
    at_head : (t : Bool) (value : Value) (all found last : Option Value) → all ≡
        option_or found last → (if t then Some value else all) ≡
        option_or (if t then Some value else found) last
    at_head true value all found last h = refl
    at_head false value all found last h = h

-- what holds once some pairs are put and others are left
pub record Kept (done left all : List Pair) (entries : Entries) (long : Option ℕ) : Type 0 where
  pub redefined : first_redefined (names done) (names left) ≡ first_redefined [] (names all)
  pub too_long : position_from is_none 0 (parts all) ≡ option_or long (position_from is_none (length done) (parts left))
  pub looked : (name : List ℕ) → value_named name entries ≡ part_named name (filled done)
  pub whole : long ≡ None → filled done ≡ done

names_more : (done : List Pair) (pair : Pair) → names (done ++ pair ∷ []) ≡ names done ++ pair.0 ∷ []
names_more [] pair = refl
names_more (head ∷ done) pair = ap (λ others. head.0 ∷ others) (names_more done pair)

count_more : (done : List Pair) (pair : Pair) → length (done ++ pair ∷ []) ≡ length done + 1
count_more [] pair = refl
count_more (head ∷ done) pair = let e : length (done ++ pair ∷ []) ≡ length done + 1 =
    count_more done pair in omega (arith, e)

filled_more : (done : List Pair) (pair : Pair) → filled done ≡ done → is_none pair.1 ≡ false →
    filled (done ++ pair ∷ []) ≡ done ++ pair ∷ []
filled_more [] (name, None) h e = absurd (cc)
filled_more [] (name, Some value) h e = refl
filled_more (head ∷ done) pair h e =
    let first : (head.0, Some (unwrap_or head.1 NULL)) ≡ head = cc in
    let others : filled done ≡ done = cc in
    let r : filled (done ++ pair ∷ []) ≡ done ++ pair ∷ [] = filled_more done pair others e in
    cc

none_among : (done left all : List Pair) (pair : Pair) (old : Entries) (long : Option ℕ) →
    Kept done (pair ∷ left) all old long → list_any (same pair.0) (names done) ≡
    is_some (value_named pair.0 old)
none_among done left all pair old long k = is_among pair.0 done ∙ ap is_some (sym (k.looked pair.0))

longer : (long rest : Option ℕ) (t : Bool) (place : ℕ) → option_or long (cond t (Some place) rest) ≡
    option_or (option_or long (if t then Some place else None)) rest
longer None rest true place = refl
longer None rest false place = refl
longer (Some n) rest t place = refl

or_none : (o : Option Value) → option_or o None ≡ o
or_none None = refl
or_none (Some value) = refl

looked_more : (t : Bool) (done : List Pair) (name : List ℕ) (pair : Pair) (old : Option Value) →
    same name pair.0 ≡ t → old ≡ part_named name (filled done) → (t ≡ true → old ≡ None)
    → (if t then Some (unwrap_or pair.1 NULL) else old) ≡ part_named name (filled (done ++ pair ∷ []))
looked_more true done name pair old e h n = rw (one_more name done pair, ← h, n refl, e) refl
looked_more false done name pair old e h n = rw (one_more name done pair, ← h, e, or_none old) refl

whole_more : (long : Option ℕ) (done : List Pair) (pair : Pair) (place : ℕ) →
    (long ≡ None → filled done ≡ done) →
    option_or long (if is_none pair.1 then Some place else None) ≡ None →
    filled (done ++ pair ∷ []) ≡ done ++ pair ∷ []
whole_more (Some n) done pair place h e = absurd (cc)
whole_more None done (name, None) place h e = absurd (cc)
whole_more None done (name, Some value) place h e = filled_more done (name, Some value) (h refl) refl

-- one pair more is put
put_pair : (done left all : List Pair) (pair : Pair) (old new : Entries) (long : Option ℕ)
    (value : Value) → value ≡ unwrap_or pair.1 NULL → value_named pair.0 old ≡ None
    → ((other : List ℕ) → value_named other new ≡ (if same other pair.0 then Some value else value_named other old))
    → Kept done (pair ∷ left) all old long →
    Kept (done ++ pair ∷ []) left all new
    (option_or long (if is_none pair.1 then Some (length done) else None))
put_pair done left all pair old new long value v absent h k = record {
  redefined = rw (names_more done pair)
      (sym (ap (λ t. if t then Some pair.0 else first_redefined (names done ++ pair.0 ∷
      []) (names left)) (none_among done left all pair old long k ∙ ap is_some absent)) ∙
      k.redefined);
  too_long = rw (count_more done pair) (k.too_long ∙
      longer long (position_from is_none (length done + 1) (parts left)) (is_none pair.1)
      (length done));
  looked = λ name. h name ∙
      rw v (looked_more (same name pair.0) done name pair (value_named name old) refl
      (k.looked name) (λ t. same_found name pair.0 old t ∙ absent));
  whole = whole_more long done pair (length done) k.whole;
}

repeated_pair : (done left all : List Pair) (pair : Pair) (old : Entries) (long : Option ℕ)
    (value : Value) → Kept done (pair ∷ left) all old long → value_named pair.0 old ≡ Some value →
    first_redefined [] (names all) ≡ Some pair.0
repeated_pair done left all pair old long value k h =
    sym k.redefined ∙ ap (λ t. if t then Some pair.0 else first_redefined (names done ++ pair.0 ∷
    []) (names left)) (none_among done left all pair old long k ∙ ap is_some h)

item_next : {T : Type 0} (xs : List T) (i : ℕ) (x : T) → i < length xs → x ≡ get_or xs i x →
    drop i xs ≡ x ∷ drop (i + 1) xs
item_next xs i x l e = rw add-one (drop-cons xs i x l ∙ ap (λ y. y ∷ drop (suc i) xs) (sym e))

item_last : {T : Type 0} (xs : List T) (i : ℕ) (x : T) → i < length xs → x ≡ get_or xs i x →
    take (i + 1) xs ≡ take i xs ++ x ∷ []
item_last xs i x l e = take_more xs i x l ∙ ap (λ y. take i xs ++ y ∷ []) (sym e)

-- after the pair at a place is put
pub next : {T : Type 0} (f : T → Pair) (xs : List T) (i : ℕ) (x : T) (old new : Entries)
    (long : Option ℕ) (value : Value)
    → i < length xs → x ≡ get_or xs i x → value ≡ unwrap_or (f x).1 NULL → value_named (f x).0 old ≡ None
    → ((other : List ℕ) → value_named other new ≡ (if same other (f x).0 then Some value else value_named other old))
    → Kept (map f (take i xs)) (map f (drop i xs)) (map f xs) old long
    → Kept (map f (take (i + 1) xs)) (map f (drop (i + 1) xs)) (map f xs) new
    (option_or long (if is_none (f x).1 then Some i else None))
next f xs i x old new long value l e v absent h k =
    let left : map f (drop i xs) ≡ f x ∷ map f (drop (i + 1) xs) = ap (map f) (item_next xs i x l e) in
    let done : map f (take (i + 1) xs) ≡ map f (take i xs) ++ f x ∷ [] =
    ap (map f) (item_last xs i x l e) ∙ map-append f (take i xs) (x ∷ []) in
    let count : length (map f (take i xs)) ≡ i = length-map (take i xs) f ∙ length-take-le i xs (omega (arith, l)) in
    let before : Kept (map f (take i xs)) (f x ∷ map f (drop (i + 1) xs)) (map f xs) old long =
    subst (λ ys. Kept (map f (take i xs)) ys (map f xs) old long) left k in
    let after : Kept (map f (take i xs) ++ f x ∷ []) (map f (drop (i + 1) xs)) (map f xs) new
    (option_or long (if is_none (f x).1 then Some (length (map f (take i xs))) else None)) =
    put_pair (map f (take i xs)) (map f (drop (i + 1) xs)) (map f xs) (f x) old new long value v absent h before in
    rw done (subst (λ m. Kept (map f (take i xs) ++ f x ∷ []) (map f (drop (i + 1) xs)) (map f xs)
    new (option_or long (if is_none (f x).1 then Some m else None))) count after)

-- where the name at a place stands already, it is the first that does
pub again : {T : Type 0} (f : T → Pair) (xs : List T) (i : ℕ) (x : T) (old : Entries)
    (long : Option ℕ) (value : Value) → i < length xs → x ≡ get_or xs i x
    → Kept (map f (take i xs)) (map f (drop i xs)) (map f xs) old long → value_named (f x).0 old ≡
    Some value → set_cause (ByName (map f xs)) ≡ Some (Redefined (f x).0)
again f xs i x old long value l e k h =
    let left : map f (drop i xs) ≡ f x ∷ map f (drop (i + 1) xs) = ap (map f) (item_next xs i x l e) in
    let before : Kept (map f (take i xs)) (f x ∷ map f (drop (i + 1) xs)) (map f xs) old long =
    subst (λ ys. Kept (map f (take i xs)) ys (map f xs) old long) left k in
    ap (λ o. option_or (option_map (λ name. Redefined name) o) (too_long 0 (parts (map f xs))))
    (repeated_pair (map f (take i xs)) (map f (drop (i + 1) xs)) (map f xs) (f x) old long value
    before h)

pub is_absent : (o : Option Value) → is_some o ≡ false → o ≡ None
is_absent None h = refl
is_absent (Some value) h = let e : true ≡ false = h in cc

pub present : (o : Option Value) → is_some o ≡ true → (value : Value) × (o ≡ Some value)
present None h = let e : false ≡ true = h in cc
present (Some value) h = (value, refl)
