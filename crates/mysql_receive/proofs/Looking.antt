-- What is in force behind payloads, one after another, is what is found by looking back over them.
use Rattle.std.proofs.Common.{◌≡◌, ℕ, Bool, true, false, cond, List, [], ◌∷◌, ◌++◌, Option, Some, None, refl, sym, ap}
use Rattle.std.proofs.Common.{◌∙◌, append_assoc}
use Rattle.std.specs.Prelude.{◌||◌, unwrap_or}
use Rattle.std.specs.List.{list_any, filter_map, flat_map, last_or, cons_option, All, AllByRecursion}
use Rattle.std.specs.Option.{option_to_list}
use Rattle.std.proofs.lemmas.List.Elements.{filter_map-append, recursion_from_All}
use Rattle.std.proofs.lemmas.List.Concat.{flat_map-append}
use Rattle.std.proofs.lemmas.List.{append-nil}
use Rattle.mysql_receive.specs.Layout.{Types}
use Rattle.mysql_receive.specs.Query.{Statement}
use Rattle.mysql_receive.specs.InForce.{StatementState, after, state_after}
use Rattle.mysql_receive.specs.LookingBack.{said_by, last_said, speaks_of_prepared, speaks_of_types, speaks_of_place}
use Rattle.mysql_receive.specs.LookingBack.{is_end, since, joined, waiting_for, looking_back}
use Rattle.mysql_receive.specs.Laws.{LastWordCounts}
use Rattle.mysql_receive.proofs.Stepping.{back_once}

last_or-append : {A : Type 0} (o : Option A) (xs ys : List A) → last_or o (xs ++ ys) ≡ last_or (last_or o xs) ys
last_or-append o [] ys = refl
last_or-append o (x ∷ xs) ys = last_or-append (Some x) xs ys

-- behind some element the default isn't looked at
last-default : {A : Type 0} (x : A) (ys : List A) (d e : A) → unwrap_or (last_or (Some x) ys) d ≡
    unwrap_or (last_or (Some x) ys) e
last-default x [] d e = refl
last-default x (y ∷ ys) d e = last-default y ys d e

last-from : {A : Type 0} (o : Option A) (ys : List A) (d : A) → unwrap_or (last_or o ys) d ≡
    unwrap_or (last_or None ys) (unwrap_or o d)
last-from o [] d = refl
last-from o (y ∷ ys) d = last-default y ys d (unwrap_or o d)

pub last_said-append : {A : Type 0} (says : List ℕ → Option A) (d : A) (xs ys : List (List ℕ)) →
    last_said says d (xs ++ ys) ≡ last_said says (last_said says d xs) ys
last_said-append says d xs ys =
    ap (λ l. unwrap_or (last_or None l) d) (filter_map-append says xs ys)
    ∙ ap (λ o. unwrap_or o d) (last_or-append None (filter_map says xs) (filter_map says ys))
    ∙ last-from (last_or None (filter_map says xs)) (filter_map says ys) d

-- ---- since

or-true : (b : Bool) → (b || true) ≡ true
or-true true = refl
or-true false = refl

or-false : (b : Bool) → (b || false) ≡ b
or-false true = refl
or-false false = refl

any-append : {A : Type 0} (p : A → Bool) (xs ys : List A) → list_any p (xs ++ ys) ≡ (list_any p xs || list_any p ys)
any-append p [] ys = refl
any-append p (x ∷ xs) ys =
    elim (p x) as (λ b. (b || list_any p (xs ++ ys)) ≡ ((b || list_any p xs) || list_any p ys))
    [ true ↦ refl | false ↦ any-append p xs ys ]

-- with an end in the second part, only the second part counts
pub since-append_some : {A : Type 0} (p : A → Bool) (xs ys : List A) → list_any p ys ≡ true →
    since p (xs ++ ys) ≡ since p ys
since-append_some p [] ys h = refl
since-append_some p (x ∷ xs) ys h =
    let any : list_any p (x ∷ (xs ++ ys)) ≡ true = any-append p (x ∷ xs) ys ∙
    ap (λ b. list_any p (x ∷ xs) || b) h ∙ or-true (list_any p (x ∷ xs)) in
    ap (λ b. cond b (since p (xs ++ ys)) (x ∷ (xs ++ ys))) any ∙ since-append_some p xs ys h

pub since-none : {A : Type 0} (p : A → Bool) (ys : List A) → list_any p ys ≡ false → since p ys ≡ ys
since-none p [] h = refl
since-none p (y ∷ ys) h = ap (λ b. cond b (since p ys) (y ∷ ys)) h

-- with none there, all of the second part stands behind what counts of the first
pub since-append_none : {A : Type 0} (p : A → Bool) (xs ys : List A) → list_any p ys ≡ false →
    since p (xs ++ ys) ≡ since p xs ++ ys
since-append_none p [] ys h = since-none p ys h
since-append_none {A = A} p (x ∷ xs) ys h =
    let same : list_any p (x ∷ (xs ++ ys)) ≡ list_any p (x ∷ xs) = any-append p (x ∷ xs) ys ∙
    ap (λ b. list_any p (x ∷ xs) || b) h ∙ or-false (list_any p (x ∷ xs)) in
    ap (λ b. cond b (since p (xs ++ ys)) (x ∷ (xs ++ ys))) same ∙
    cases (list_any p (x ∷ xs)) (since p (xs ++ ys)) (since-append_none p xs ys h)
  where
    cases : (b : Bool) (l : List A) → l ≡ since p xs ++ ys → cond b l (x ∷ (xs ++ ys)) ≡
        cond b (since p xs) (x ∷ xs) ++ ys
    cases true l e = e
    cases false l e = refl

-- ---- long data

joined-append : (ps qs : List (List ℕ)) → joined (option_to_list (joined ps) ++ qs) ≡ joined (ps ++ qs)
joined-append [] qs = refl
joined-append (p ∷ ps) qs =
    ap (λ l. Some l) (append_assoc p (flat_map (λ part. part) ps) (flat_map (λ part. part) qs) ∙
    ap (λ (l : List ℕ). p ++ l) (sym (flat_map-append (λ part. part) ps qs)))

pub waiting_for-append : (c : Statement) (before : Option (List ℕ)) (xs ys : List (List ℕ))
    (place : ℕ) → waiting_for c before (xs ++ ys) place ≡
    waiting_for c (waiting_for c before xs place) ys place
waiting_for-append c before xs ys place = by_cases (list_any is_end ys) refl
  where
    data_of : List (List ℕ) → List (List ℕ)
    data_of l = filter_map (said_by (speaks_of_place c place)) l

    by_cases : (b : Bool) → list_any is_end ys ≡ b → waiting_for c before (xs ++ ys) place ≡
        waiting_for c (waiting_for c before xs place) ys place
    by_cases true h =
        let any : list_any is_end (xs ++ ys) ≡ true = any-append is_end xs ys ∙
        ap (λ b. list_any is_end xs || b) h ∙ or-true (list_any is_end xs) in
        ap (λ b. joined (option_to_list (cond b None before) ++ data_of (since is_end (xs ++ ys)))) any
        ∙ ap (λ l. joined (data_of l)) (since-append_some is_end xs ys h)
        ∙ sym (ap (λ b. joined (option_to_list (cond b None (waiting_for c before xs place)) ++
        data_of (since is_end ys))) h)
    by_cases false h =
        let any : list_any is_end (xs ++ ys) ≡ list_any is_end xs = any-append is_end xs ys ∙
        ap (λ b. list_any is_end xs || b) h ∙ or-false (list_any is_end xs) in
        let kept = option_to_list (cond (list_any is_end xs) None before) in
        ap (λ b. joined (option_to_list (cond b None before) ++ data_of (since is_end (xs ++ ys)))) any
        ∙ ap (λ l. joined (kept ++ data_of l)) (since-append_none is_end xs ys h)
        ∙ ap (λ l. joined (kept ++ l)) (filter_map-append (said_by (speaks_of_place c place)) (since is_end xs) ys)
        ∙ ap (λ l. joined l) (sym (append_assoc kept (data_of (since is_end xs)) (data_of ys)))
        ∙ sym (joined-append (kept ++ data_of (since is_end xs)) (data_of ys))
        ∙ sym (ap (λ b. joined (option_to_list (cond b None (waiting_for c before xs place)) ++
        data_of (since is_end ys))) h
        ∙ ap (λ l. joined (option_to_list (waiting_for c before xs place) ++ data_of l)) (since-none is_end ys h))

looking_back_append : (c : Statement) (s : StatementState) (xs ys : List (List ℕ)) →
    looking_back c s (xs ++ ys) ≡ looking_back c (looking_back c s xs) ys
looking_back_append c s xs ys = λ i. record {
  prepared = last_said-append (said_by (speaks_of_prepared c)) s.prepared xs ys i;
  types = last_said-append (said_by (speaks_of_types c)) s.types xs ys i;
  long_data = λ place. waiting_for-append c (s.long_data place) xs ys place i;
}

-- before any payload what held before is in force
looking_back_nil : (c : Statement) (s : StatementState) → looking_back c s [] ≡ s
looking_back_nil c s = λ i. record {
  prepared = s.prepared;
  types = s.types;
  long_data =
      λ place. one (s.long_data place) i;
}
  where
    one : (o : Option (List ℕ)) → joined (option_to_list o ++ []) ≡ o
    one None = refl
    one (Some x) = ap (λ l. Some l) (append-nil x)

-- what is in force is what is found by looking back
looks_back : (c : Statement) (s : StatementState) (payloads : List (List ℕ)) →
    state_after c s payloads ≡ looking_back c s payloads
looks_back c s [] = sym (looking_back_nil c s)
looks_back c s (payload ∷ payloads) =
    looks_back c (after c s payload) payloads
    ∙ ap (λ (t : StatementState). looking_back c t payloads) (sym (back_once c s payload))
    ∙ sym (looking_back_append c s (payload ∷ []) payloads)

-- behind two lists it is what is in force behind the second, from the first on
pub state_after_append : (c : Statement) (s : StatementState) (xs ys : List (List ℕ)) →
    state_after c s (xs ++ ys) ≡ state_after c (state_after c s xs) ys
state_after_append c s [] ys = refl
state_after_append c s (x ∷ xs) ys = state_after_append c (after c s x) xs ys

-- ---- the last word

silent : {A : Type 0} (says : List ℕ → Option A) (later : List (List ℕ)) →
    AllByRecursion (λ other. says other ≡ None) later → filter_map says later ≡ []
silent says [] h = refl
silent says (x ∷ xs) h = ap (λ o. cons_option o (filter_map says xs)) h.0 ∙ silent says xs h.1

last_seam : {A : Type 0} (o : Option A) (xs : List A) (y : A) → last_or o (xs ++ y ∷ []) ≡ Some y
last_seam o [] y = refl
last_seam o (x ∷ xs) y = last_seam (Some x) xs y

last_word : (says : List ℕ → Option (Option Types)) (before word : Option Types)
    (earlier later : List (List ℕ)) (payload : List ℕ) → says payload ≡ Some word →
    All (λ other. says other ≡ None) later → last_said says before (earlier ++ payload ∷ later) ≡
    word
last_word says before word earlier later payload e none =
    let tail : filter_map says (payload ∷ later) ≡ word ∷ [] =
    ap (λ o. cons_option o (filter_map says later)) e ∙
    ap (λ l. word ∷ l) (silent says later
    (recursion_from_All (λ other. says other ≡ None) later none)) in
    let all : filter_map says (earlier ++ payload ∷ later) ≡ filter_map says earlier ++ word ∷ [] =
    filter_map-append says earlier (payload ∷ later) ∙
    ap (λ (l : List (Option Types)). filter_map says earlier ++ l) tail in
    ap (λ l. unwrap_or (last_or None l) before) all ∙
    ap (λ o. unwrap_or o before) (last_seam None (filter_map says earlier) word)

pub last_word_counts : LastWordCounts
last_word_counts = record { word = last_word; back = looks_back }
