-- Lists of objects, and the parameter sets that are made of them.
use Rattle.std.proofs.Common.{◌≡◌, ◌≢◌, inl, inr, ℕ, suc, ◌+◌, ◌-◌, ◌<◌, ◌≤◌, List, [], ◌∷◌, ◌++◌, length, map, take}
use Rattle.std.proofs.Common.{drop, get_or, Option, Some, None, Result, Ok, Err, refl, sym, ◌∙◌, ap, add-one, drop-cons}
use Rattle.std.proofs.Common.{is_none}
use Rattle.std.specs.List.{filter_map, position_from}
use Rattle.std.specs.Option.{option_map, option_or}
use Rattle.std.proofs.lemmas.List.{append-nil, drop_all, length-map, map-append, take-append-drop, take_more}
use Rattle.std.proofs.lemmas.Option.{slice_get-map, slice_get_read}
use Rattle.std.specs.Prelude.{MatchResult}
use Rattle.mysql_values.specs.Sql.{Sql}
use Rattle.mysql_values.specs.Value.{Value}
use Rattle.mysql_values.specs.declared.params.Params.{Params}
use Rattle.mysql_values.specs.declared.params.Params.TheVariants.{Empty, Named, Positional}
use Rattle.mysql_values.specs.declared.params.ParamsError.TheVariants.{Confusion}
use Rattle.mysql_values.specs.declared.params.ParamsConfusionError.TheVariants.{PositionalParamsForNamedQuery}
use Rattle.mysql_values.specs.declared.params.SetError.{SetError}
use Rattle.mysql_values.specs.declared.params.SetError.TheVariants as set_error
use Rattle.mysql_values.specs.Parsed.{names_of}
use Rattle.mysql_convert.specs.Sets.{IsMadeOf, too_long}
use Rattle.mysql_convert.specs.Sets.Parts.{InOrder}
use Rattle.mysql_receive.specs.Query.{Statement, place_count, statement_of}
use Rattle.mysql_command_rules.specs.declared.refusal.Refusal.{Refusal}
use Rattle.mysql_command_rules.specs.declared.refusal.Refusal.TheVariants as refusals
use Rattle.mysql_command_rules.specs.declared.road.Road.{Road}
use Rattle.mysql_session.specs.Objects.{AreMade, all_given_by_objects, given_by_objects, given_in_order, unless_refused}
use Rattle.mysql_session.specs.Laws.{MadeSetsGiveTheSame}
use Rattle.mysql_command_rules.specs.Sets.{Given, all_given, given_by, given_up_to, values_of}
use Rattle.mysql_command_rules.specs.Sent.{whole_command}
use Rattle.mysql_command_rules.specs.Cause.{cause_of, first_of_sets, query_cause, set_cause, sets_cause}
use Rattle.mysql_command_rules.specs.Reading.{SentReadable}
use Rattle.mysql_command_rules.specs.Sending.{RefusesGiven, SendsGiven}
use Rattle.mysql_command_rules.specs.MadeSets.{IsSetAt, given_by_made}
use Rattle.mysql_session.specs.Made.{AreLeft, AreMadeUpTo}

-- ---- one list

none_long : (place : ℕ) (values : List Value) → position_from is_none place (map Some values) ≡ None
none_long place [] = refl
none_long place (value ∷ values) = none_long (place + 1) values

all_there : (values : List Value) → filter_map (λ object. object) (map Some values) ≡ values
all_there [] = refl
all_there (value ∷ values) = ap (λ l. value ∷ l) (all_there values)

-- objects that all have values give them
objects_give : (names : List (List ℕ)) (values : List Value) →
    given_by_objects names (map Some values) ≡ given_in_order names values
objects_give names values =
    ap (λ (found : Option ℕ). unless_refused (option_map (λ at. set_error.TooLong at) found)
    (given_in_order names (filter_map (λ object. object) (map Some values))))
    (none_long 0 values)
    ∙ ap (λ (l : List Value). given_in_order names l) (all_there values)

without_names : (values : List Value) → given_in_order [] values ≡ Ok values
without_names [] = refl
without_names (value ∷ values) = refl

with_names : (name : List ℕ) (names : List (List ℕ)) (values : List Value) → values ≢ [] →
    given_in_order (name ∷ names) values ≡
    Err (set_error.Params (Confusion PositionalParamsForNamedQuery))
with_names name names [] some = absurd (some refl)
with_names name names (value ∷ values) some = refl

-- a set that is made of objects gives what they give
made_gives : (names : List (List ℕ)) (objects : List (Option Value)) (params : Params) →
    IsMadeOf (InOrder objects) params → given_by names params ≡ given_by_objects names objects
made_gives names objects Empty made = sym (ap (λ (l : List (Option Value)). given_by_objects names l) made)
made_gives [] objects (Positional list) made =
    sym (ap (λ (l : List (Option Value)). given_by_objects [] l) made.1 ∙
    objects_give [] list.items ∙ without_names list.items)
made_gives (name ∷ names) objects (Positional list) made =
    sym (ap (λ (l : List (Option Value)). given_by_objects (name ∷ names) l) made.1 ∙
    objects_give (name ∷ names) list.items ∙
    with_names name names list.items
    (λ none. made.0 (made.1 ∙ ap (λ (l : List Value). map Some l) none)))
made_gives names objects (Named entries) made = absurd made

-- objects that are refused give nothing
refused_give : (names : List (List ℕ)) (objects : List (Option Value)) (error : SetError) →
    too_long 0 objects ≡ Some error → given_by_objects names objects ≡ Err error
refused_give names objects error long =
    ap (λ (found : Option SetError). unless_refused found
    (given_in_order names (filter_map (λ object. object) objects))) long

-- ---- all lists

all_made_give : (names : List (List ℕ)) (lists : List (List (Option Value))) (sets : List Params) →
    AreMade lists sets → map (given_by names) sets ≡ map (given_by_objects names) lists
all_made_give names [] [] made = refl
all_made_give names [] (params ∷ sets) made = absurd made
all_made_give names (objects ∷ lists) [] made = absurd made
all_made_give names (objects ∷ lists) (params ∷ sets) made =
    ap (λ g. g ∷ map (given_by names) sets) (made_gives names objects params made.0) ∙
    ap (λ l. given_by_objects names objects ∷ l) (all_made_give names lists sets made.1)

pub made_sets_give_the_same : MadeSetsGiveTheSame
made_sets_give_the_same lists sets made names = all_made_give names lists sets made

-- ---- making them

one_more : (lists : List (List (Option Value))) (sets : List Params) (objects : List (Option Value))
    (params : Params) → AreMade lists sets → IsMadeOf (InOrder objects) params →
    AreMade (lists ++ objects ∷ []) (sets ++ params ∷ [])
one_more [] [] objects params made here = (here, tt)
one_more [] (other ∷ sets) objects params made here = absurd made
one_more (list ∷ lists) [] objects params made here = absurd made
one_more (list ∷ lists) (other ∷ sets) objects params made here =
    (made.0, one_more lists sets objects params made.1 here)

pub made_next : {T : Type 0} (f : T → List (Option Value)) (xs : List T) (i : ℕ) (x : T)
    (sets : List Params) (params : Params) → i < length xs → x ≡ get_or xs i x
    → AreMade (map f (take i xs)) sets → IsMadeOf (InOrder (f x)) params →
    AreMade (map f (take (i + 1) xs)) (sets ++ params ∷ [])
made_next f xs i x sets params inside is made here =
    let lists : map f (take (i + 1) xs) ≡ map f (take i xs) ++ f x ∷ [] =
    ap (map f) (take_more xs i x inside ∙ ap (λ y. take i xs ++ y ∷ []) (sym is)) ∙
    map-append f (take i xs) (x ∷ []) in
    rw lists (one_more (map f (take i xs)) sets (f x) params made here)

in_parts : {T : Type 0} (f : T → List (Option Value)) (xs : List T) (i : ℕ) → map f xs ≡
    map f (take i xs) ++ map f (drop i xs)
in_parts f xs i = ap (map f) (sym (take-append-drop i xs)) ∙ map-append f (take i xs) (drop i xs)

pub made_before : {T : Type 0} (f : T → List (Option Value)) (xs : List T) (i : ℕ) (x : T)
    (sets : List Params) (error : SetError) → i < length xs → x ≡ get_or xs i x
    → AreMade (map f (take i xs)) sets → too_long 0 (f x) ≡ Some error → AreMadeUpTo (map f xs) sets (Some error)
made_before f xs i x sets error inside is made long =
    let left : drop i xs ≡ x ∷ drop (i + 1) xs =
    rw add-one (drop-cons xs i x inside ∙ ap (λ y. y ∷ drop (suc i) xs) (sym is)) in
    record {
      front = map f (take i xs);
      left = f x ∷ map f (drop (i + 1) xs);
      parts = in_parts f xs i ∙ ap (λ l. map f (take i xs) ++ map f l) left;
      made = made;
      rest = long;
    }

pub made_all : {T : Type 0} (f : T → List (Option Value)) (xs : List T) (i : ℕ)
    (sets : List Params) → length xs ≤ i → AreMade (map f (take i xs)) sets →
    AreMadeUpTo (map f xs) sets None
made_all f xs i sets passed made = record {
  front = map f (take i xs);
  left = [];
  parts = in_parts f xs i ∙ ap (λ l. map f (take i xs) ++ map f l) (drop_all i xs passed);
  made = made;
  rest = refl;
}

-- ---- one at a time

-- what is made of a list gives what its objects give
made_or_refused : (names : List (List ℕ)) (objects : List (Option Value))
    (made : Result Params SetError) →
    MatchResult made (λ params. IsMadeOf (InOrder objects) params) (λ error. too_long 0 objects ≡
    Some error)
    → given_by_objects names objects ≡ given_by_made names made
made_or_refused names objects (Ok params) made = sym (made_gives names objects params made)
made_or_refused names objects (Err error) long = refused_give names objects error long

-- lists of objects give as much as they are
pub as_many : {L : Type 0} (f : L → List (Option Value)) (lists : List L) (names : List (List ℕ)) →
    length (all_given_by_objects (map f lists) names) ≡ length lists
as_many f lists names = length-map (map f lists) (given_by_objects names) ∙ length-map lists f

-- the set that is made of the list of this number
pub set_at : {L : Type 0} (f : L → List (Option Value)) (lists : List L) (number : ℕ) (list : L)
    (made : Result Params SetError) → number < length lists → list ≡ get_or lists number list
    → MatchResult made (λ params. IsMadeOf (InOrder (f list)) params)
    (λ error. too_long 0 (f list) ≡ Some error) →
    IsSetAt (all_given_by_objects (map f lists)) number made
set_at f lists number list made inside is this = λ names.
    slice_get-map (given_by_objects names) (map f lists) number
    ∙ ap (option_map (given_by_objects names)) (slice_get-map f lists number ∙
    ap (option_map f) (slice_get_read lists (length lists) number list refl inside is))
    ∙ ap Some (made_or_refused names (f list) made this)

-- ---- causes

-- the first cause of sets of which one gives nothing is found before those behind it
first_refused : (cause : ℕ → Given → Option Refusal) (error : SetError) (refusal : ℕ → Refusal) →
    ((k : ℕ) → cause k (Err error) ≡ Some (refusal k))
    → (n : ℕ) (front : List Given) → (first : Refusal) ×
    ((later : List Given) → first_of_sets cause n (front ++ Err error ∷ later) ≡ Some first)
first_refused cause error refusal is n [] =
    (refusal n, λ later. ap (λ c. option_or c (first_of_sets cause (n + 1) later)) (is n))
first_refused cause error refusal is n (given ∷ front) =
    by (cause n given) refl (first_refused cause error refusal is (n + 1) front)
  where
    by : (here : Option Refusal) → cause n given ≡ here → (first : Refusal) ×
        ((later : List Given) → first_of_sets cause (n + 1) (front ++ Err error ∷ later) ≡
        Some first)
        → (first : Refusal) × ((later : List Given) →
        option_or (cause n given) (first_of_sets cause (n + 1) (front ++ Err error ∷ later)) ≡
        Some first)
    by None same behind = (
      behind.0,
      λ later. ap (λ c. option_or c (first_of_sets cause (n + 1) (front ++ Err error ∷ later)))
          same ∙ behind.1 later,
    )
    by (Some first) same behind = (
      first,
      λ later. ap (λ c. option_or c
          (first_of_sets cause (n + 1) (front ++ Err error ∷ later))) same,
    )

-- behind a cause of one set those of all together don't count
same_first : (against_query here there some other : Option Refusal) (first : Refusal) → here ≡
    Some first → there ≡ Some first
    → option_or against_query (option_or here some) ≡ option_or against_query (option_or there other)
same_first against_query here there some other first one two = rw (one, two) refl

-- sets of which one gives nothing are not all values
none_stopped : (given : List Given) (error : SetError) (values : List (List Value)) → given ++
    Err error ∷ [] ≡ map Ok values → ⊥
none_stopped [] error [] all = cc
none_stopped [] error (first ∷ values) all = cc
none_stopped (given ∷ others) error [] all = cc
none_stopped (given ∷ others) error (first ∷ values) all =
    let behind : others ++ Err error ∷ [] ≡ map Ok values = cc in none_stopped others error values behind

-- ---- sending them

-- what is sent of sets is sent of others that give the same
abbrev same_sends : (road : Road) (query : Sql) (id limit : ℕ) (old new : List ℕ)
    (given others : List (List ℕ) → List Given) →
    ((names : List (List ℕ)) → given names ≡ others names)
    → SendsGiven road query given id limit old new → SendsGiven road query others id limit old new
same_sends road query id limit old new given others same s = record {
  tokens = s.tokens;
  has = s.has;
  values = s.values;
  given = sym (same (names_of s.tokens)) ∙ s.given;
  none = ap (λ l. cause_of road (statement_of query s.tokens id) limit l) (sym (same (names_of s.tokens))) ∙ s.none;
  sent = s.sent;
  are_sent = s.are_sent;
  appended = s.appended;
}

same_sent : (road : Road) (query : Sql) (id limit : ℕ) (old new : List ℕ)
    (given others : List (List ℕ) → List Given) →
    ((names : List (List ℕ)) → given names ≡ others names)
    → SentReadable road query given id limit old new → SentReadable road query others id limit old new
same_sent road query id limit old new given others same s =
    record {
      sends = same_sends road query id limit old new given others same s.sends;
      readable =
          s.readable;
    }

module _ (road : Road) (query : Sql) (lists : List (List (Option Value))) (sets : List Params) (id limit : ℕ) where
  -- what the lists give, by those of which sets were made
  given_in_parts : (stop : Option SetError) (m : AreMadeUpTo lists sets stop)
      (names : List (List ℕ)) → all_given_by_objects lists names ≡ all_given sets names ++
      map (given_by_objects names) m.left
  given_in_parts stop m names =
      ap (λ l. map (given_by_objects names) l) m.parts ∙ map-append (given_by_objects names) m.front m.left
      ∙ ap (λ l. l ++ map (given_by_objects names) m.left) (sym (all_made_give names m.front sets m.made))

  -- where sets are made of all lists, they give the same
  same_given : (m : AreMadeUpTo lists sets None) (names : List (List ℕ)) → all_given sets names ≡
      all_given_by_objects lists names
  same_given m names = sym (given_in_parts None m names ∙
      ap (λ l. all_given sets names ++ map (given_by_objects names) l) m.rest ∙
      append-nil (all_given sets names))

  -- sets up to one that gives nothing have the cause of all lists
  same_cause : (stop : Option SetError) (m : AreMadeUpTo lists sets stop) (statement : Statement)
      (names : List (List ℕ))
      → cause_of road statement limit (given_up_to sets stop names) ≡
      cause_of road statement limit (all_given_by_objects lists names)
  same_cause None m statement names = ap (λ l. cause_of road statement limit l) (same_given m names)
  same_cause (Some error) m statement names = by m.left m.rest (given_in_parts (Some error) m names)
    where
      by : (left : List (List (Option Value))) → AreLeft (Some error) left →
          all_given_by_objects lists names ≡ all_given sets names ++
          map (given_by_objects names) left
          → cause_of road statement limit (given_up_to sets (Some error) names) ≡
          cause_of road statement limit (all_given_by_objects lists names)
      by [] rest parts = absurd rest
      by (objects ∷ left) rest parts =
          let cause : ℕ → Given → Option Refusal =
          set_cause (whole_command road statement) (place_count statement.query) (limit - 4) in
          let whole : all_given_by_objects lists names ≡ all_given sets names ++ Err error ∷
          map (given_by_objects names) left =
          parts ∙ ap (λ (g : Given). all_given sets names ++ g ∷ map (given_by_objects names) left)
          (refused_give names objects error rest) in
          let first = first_refused cause error (λ k. refusals.Params k error) (λ k. refl) 0 (all_given sets names) in
          same_first (query_cause road statement (limit - 4))
          (first_of_sets cause 0 (given_up_to sets (Some error) names))
          (first_of_sets cause 0 (all_given_by_objects lists names))
          (option_or (sets_cause road statement (limit - 4) (values_of (given_up_to sets (Some error) names))) None)
          (option_or (sets_cause road statement (limit - 4) (values_of (all_given_by_objects lists names))) None)
          first.0 (first.1 []) (ap (λ l. first_of_sets cause 0 l) whole ∙ first.1 (map (given_by_objects names) left))

  -- why the made sets are refused is why the lists are
  pub refused : (stop : Option SetError) (m : AreMadeUpTo lists sets stop) (refusal : Refusal) →
      RefusesGiven road query (given_up_to sets stop) id limit refusal →
      RefusesGiven road query (all_given_by_objects lists) id limit refusal
  refused stop m refusal (inl memory) = inl memory
  refused stop m refusal (inr c) = inr record {
    tokens = c.tokens;
    has = c.has;
    first = sym (same_cause stop m (statement_of query c.tokens id) (names_of c.tokens)) ∙ c.first;
  }

  -- what was sent of the made sets was sent of the lists, which all made sets
  pub sent : (stop : Option SetError) (old new : List ℕ) → AreMadeUpTo lists sets stop →
      SentReadable road query (given_up_to sets stop) id limit old new
      → SentReadable road query (all_given_by_objects lists) id limit old new
  sent None old new m s = same_sent road query id limit old new (all_given sets)
      (all_given_by_objects lists) (same_given m) s
  sent (Some error) old new m s =
      absurd (none_stopped (all_given sets (names_of s.sends.tokens)) error s.sends.values
      s.sends.given)
