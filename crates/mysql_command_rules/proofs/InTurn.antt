-- Sets that are sent one after another, each by packets of its own.
use Rattle.std.proofs.Common.{◌≡◌, ℕ, ◌+◌, ◌-◌, ◌<◌, ◌≤◌, List, [], ◌∷◌, ◌++◌, length, map, take, drop, get_or, suc}
use Rattle.std.proofs.Common.{Option, Some, None, Ok, refl, sym, ◌∙◌, ap, subst, arith, inl, inr, append_assoc, add-one}
use Rattle.std.proofs.Common.{drop-cons, length-take, take-append-drop}
use Rattle.std.specs.Prelude.{slice_get}
use Rattle.std.specs.List.{flat_map}
use Rattle.std.specs.Option.{option_map, option_or}
use Rattle.std.proofs.lemmas.Grind.{flat_map-append}
use Rattle.std.proofs.lemmas.List.{append-nil, map-append, take-take, take_all, take_at, take_more}
use Rattle.std.proofs.lemmas.Option.{get_or_from_slice_get, slice_get-map, slice_get_read, slice_get_within}
use Rattle.mysql_wire.specs.Framing.{framing}
use Rattle.mysql_wire.specs.Stream.{framings}
use Rattle.mysql_wire.specs.Stream.Numbering.{EachFromZero}
use Rattle.mysql_values.specs.Sql.{Sql}
use Rattle.mysql_values.specs.Laws.{OneTokens}
use Rattle.mysql_values.specs.Parsed.{names_of}
use Rattle.mysql_values.specs.Value.{Value}
use Rattle.mysql_receive.specs.Query.{Statement, place_count, statement_of}
use Rattle.mysql_command_rules.specs.declared.refusal.Refusal.{Refusal}
use Rattle.mysql_command_rules.specs.declared.road.Road.{Road}
use Rattle.mysql_command_rules.specs.declared.road.Road.TheVariants.{Text, Execute, Bulk}
use Rattle.mysql_command_rules.specs.Cause.{cause_of, first_of_sets, query_cause, set_cause, sets_cause}
use Rattle.mysql_command_rules.specs.InTurn.{AllAreSent, FrontsStay, ListsGive, MadeInTurn, QueriesAreRefused}
use Rattle.mysql_command_rules.specs.InTurn.{QueriesBegin, SentInTurn}
use Rattle.mysql_command_rules.specs.OneSet.{AppendsOne, AppendsSet, GivesAt, IsApart, RefusesOne, cause_of_set}
use Rattle.mysql_command_rules.specs.OneSet.{first_sets, front_of, one_set}
use Rattle.mysql_command_rules.specs.Reading.{IsReadable, SentReadable}
use Rattle.mysql_command_rules.specs.Sending.{RefusesGiven}
use Rattle.mysql_command_rules.specs.Sent.{AreSent, SentPayload, as_execution, as_text, payloads_of, prepare_of}
use Rattle.mysql_command_rules.specs.Sent.{stream_of, whole_command}
use Rattle.mysql_command_rules.specs.Sets.{GiveTheSame, Given, given_by, values_of}
use Rattle.mysql_command_rules.proofs.Held.{all_append}

-- ---- first causes

none_first : {X : Type 0} (first rest : Option X) → option_or first rest ≡ None → first ≡ None
none_first None rest none = refl
none_first (Some x) rest none = cc

none_rest : {X : Type 0} (first rest : Option X) → option_or first rest ≡ None → rest ≡ None
none_rest None rest none = none
none_rest (Some x) rest none = cc

either_first : {X : Type 0} (a b c : Option X) → option_or a (option_or b c) ≡ option_or (option_or a b) c
either_first None b c = refl
either_first (Some x) b c = refl

none_of_three : {X : Type 0} (a b c : Option X) → a ≡ None → b ≡ None → c ≡ None →
    option_or a (option_or b (option_or c None)) ≡ None
none_of_three a b c first second third = rw (first, second, third) refl

first_is : {X : Type 0} (a b : Option X) (x : X) → a ≡ Some x → option_or a b ≡ Some x
first_is a b x some = rw some refl

some_second : {X : Type 0} (a b c : Option X) (x : X) → a ≡ None → b ≡ Some x → option_or a (option_or b c) ≡ Some x
some_second a b c x none some = rw (none, some) refl

-- the first of causes is one where the others are none, and is then the first of any
some_first : {X : Type 0} (a b c : Option X) (x : X) →
    option_or a (option_or None (option_or None None)) ≡ Some x → option_or a (option_or b c) ≡
    Some x
some_first None b c x some = cc
some_first (Some y) b c x some = some

-- a set behind others that are no cause
behind_none : (cause first more : Option Refusal) → first ≡ None →
    option_or first (option_or cause more) ≡ option_or cause more
behind_none cause first more none = rw none refl

alone : (cause : Option Refusal) → option_or cause None ≡ cause
alone None = refl
alone (Some refusal) = refl

-- the first cause over sets and others behind them
first_of_append : (cause : ℕ → Given → Option Refusal) (n : ℕ) (sets others : List Given) →
    first_of_sets cause n (sets ++ others) ≡
    option_or (first_of_sets cause n sets) (first_of_sets cause (n + length sets) others)
first_of_append cause n [] others = ap (λ m. first_of_sets cause m others) (omega arith)
first_of_append cause n (given ∷ sets) others =
    let at : n + 1 + length sets ≡ n + length (given ∷ sets) = omega arith in
    ap (λ o. option_or (cause n given) o) (first_of_append cause (n + 1) sets others)
    ∙ either_first (cause n given) (first_of_sets cause (n + 1) sets) (first_of_sets cause (n + 1 + length sets) others)
    ∙ ap (λ m. option_or (option_or (cause n given) (first_of_sets cause (n + 1) sets))
    (first_of_sets cause m others)) at

-- ---- what is sent

-- nothing speaks against all sets together
none_together : (road : Road) → IsApart road →
    (statement : Statement) (room : ℕ) (sets : List (List Value)) →
    sets_cause road statement room sets ≡ None
none_together Text apart statement room sets = refl
none_together Execute apart statement room sets = refl
none_together Bulk apart statement room sets = absurd apart

flat_more : {X A : Type 0} (f : X → List A) (xs : List X) (x : X) → flat_map f xs ++ f x ≡ flat_map f (xs ++ x ∷ [])
flat_more f xs x = ap (λ l. flat_map f xs ++ l) (sym (append-nil (f x))) ∙ sym (flat_map-append f xs (x ∷ []))

-- nothing is sent of no sets but what stands before all
sent_before : (road : Road) → IsApart road → (statement : Statement) (room : ℕ) →
    AreSent road statement room [] (front_of road statement)
sent_before Text apart statement room = refl
sent_before Execute apart statement room = refl
sent_before Bulk apart statement room = absurd apart

-- one more set is sent
sent_more : (road : Road) → IsApart road →
    (statement : Statement) (room : ℕ) (sets : List (List Value)) (values : List Value)
    (sent : List SentPayload) → AreSent road statement room sets sent
    → AreSent road statement room (sets ++ values ∷ []) (sent ++ one_set road statement values)
sent_more Text apart statement room sets values sent are =
    ap (λ l. l ++ as_text statement values) are ∙ flat_more (as_text statement) sets values
sent_more Execute apart statement room sets values sent are =
    ap (λ l. l ++ as_execution statement values) are ∙
    ap (λ l. prepare_of statement ∷ l) (flat_more (as_execution statement) sets values)
sent_more Bulk apart statement room sets values sent are = absurd apart

-- framings that are each numbered from 0 stand apart
framings_append : (ps qs : List (List ℕ)) → framings (ps ++ qs) EachFromZero ≡
    framings ps EachFromZero ++ framings qs EachFromZero
framings_append [] qs = refl
framings_append (p ∷ ps) qs = ap (λ l. framing p 0 ++ l) (framings_append ps qs) ∙
    sym (append_assoc (framing p 0) (framings ps EachFromZero) (framings qs EachFromZero))

-- the bytes of what is sent behind others
stream_append : (first second : List SentPayload) → stream_of (first ++ second) ≡ stream_of first ++ stream_of second
stream_append first second =
    ap (λ ps. framings ps EachFromZero) (map-append (λ s. s.payload) first second) ∙
    framings_append (payloads_of first) (payloads_of second)

-- ---- before the first set

begin : QueriesBegin
begin road apart query sets id limit old new tokens has none put =
    let statement : Statement = statement_of query tokens id in
    record {
      sends = record {
        tokens = tokens;
        has = has;
        values = [];
        given = refl;
        none = none_of_three (query_cause road statement (limit - 4)) None _ none refl
            (none_together road apart statement (limit - 4) []);
        sent = front_of road statement;
        are_sent = sent_before road apart statement (limit - 4);
        appended = put;
      };
      readable = tt;
    }

refused : QueriesAreRefused
refused road query sets id limit refusal tokens has this =
    inr (record {
      tokens = tokens;
      has = has;
      first =
          first_is (query_cause road (statement_of query tokens id) (limit - 4)) _ refusal this;
    })

-- ---- one set behind others

module _ (once : OneTokens) (road : Road) (apart : IsApart road) (query : Sql)
    (sets : List (List ℕ) → List Given) (id limit number : ℕ) (given : List (List ℕ) →
    Given) (at : GivesAt sets number given)
    (old out : List ℕ) (s : SentReadable road query (first_sets number sets) id limit old out) where
  abbrev statement : Statement
  statement = statement_of query s.sends.tokens id

  abbrev names : List (List ℕ)
  names = names_of s.sends.tokens

  abbrev cause : ℕ → Given → Option Refusal
  cause = set_cause (whole_command road statement) (place_count statement.query) (limit - 4)

  abbrev before : List Given
  before = take number (sets names)

  abbrev behind : List Given
  behind = drop (number + 1) (sets names)

  inside : number < length (sets names)
  inside = slice_get_within (sets names) number (given names) (at names)

  is_there : get_or (sets names) number (given names) ≡ given names
  is_there = get_or_from_slice_get (sets names) number (given names) (given names) (at names)

  -- the sets up to it
  up_to : take (number + 1) (sets names) ≡ before ++ given names ∷ []
  up_to = take_more (sets names) number (given names) inside ∙ ap (λ g. before ++ g ∷ []) is_there

  -- all sets
  around : before ++ given names ∷ behind ≡ sets names
  around =
      let here : drop number (sets names) ≡ given names ∷ behind =
      drop-cons (sets names) number (given names) inside ∙
      ap (λ g. g ∷ drop (suc number) (sets names)) is_there ∙
      ap (λ n. given names ∷ drop n (sets names)) (sym (add-one number)) in
      ap (λ l. before ++ l) (sym here) ∙ take-append-drop number (sets names)

  -- how many stand before it
  many : length before ≡ number
  many = omega (arith, inside, length-take number (sets names))

  no_query_cause : query_cause road statement (limit - 4) ≡ None
  no_query_cause = none_first (query_cause road statement (limit - 4)) _ s.sends.none

  no_set_cause : first_of_sets cause 0 before ≡ None
  no_set_cause = none_first (first_of_sets cause 0 before) _
      (none_rest (query_cause road statement (limit - 4)) _ s.sends.none)

  -- the first cause of the sets before it, of itself, and of others behind it, is that of the later ones
  cause_behind : (others : List Given) → first_of_sets cause 0 (before ++ given names ∷ others) ≡
      option_or (cause number (given names)) (first_of_sets cause (number + 1) others)
  cause_behind others =
      let at_number : 0 + length before ≡ number = omega (arith, many) in
      first_of_append cause 0 before (given names ∷ others)
      ∙ ap (λ n. option_or (first_of_sets cause 0 before) (first_of_sets cause n (given names ∷ others))) at_number
      ∙ behind_none (cause number (given names)) (first_of_sets cause 0 before)
      (first_of_sets cause (number + 1) others) no_set_cause

  more : (new : List ℕ) → AppendsOne road query id limit number given out new →
      SentReadable road query (first_sets (number + 1) sets) id limit old new
  more new appends =
      let a : AppendsSet road statement limit number (given names) out new =
      subst (λ (t : List (List ℕ)). AppendsSet road (statement_of query t id) limit number
      (given (names_of t)) out new)
      (once query.mode query.text appends.0 s.sends.tokens appends.1 s.sends.has) appends.2 in
      let none : first_of_sets cause 0 (take (number + 1) (sets names)) ≡ None =
      ap (λ g. first_of_sets cause 0 g) up_to ∙ cause_behind [] ∙
      alone (cause number (given names)) ∙ ap (λ g. cause number g) a.gives ∙ a.none in
      record {
        sends = record {
          tokens = s.sends.tokens;
          has = s.sends.has;
          values = s.sends.values ++ a.values ∷ [];
          given = up_to ∙ ap (λ l. l ++ given names ∷ []) s.sends.given ∙
              ap (λ g. map Ok s.sends.values ++ g ∷ []) a.gives ∙
              sym (map-append Ok s.sends.values (a.values ∷ []));
          none = none_of_three (query_cause road statement (limit - 4))
              (first_of_sets cause 0 (take (number + 1) (sets names))) _ no_query_cause none
              (none_together road apart statement (limit - 4) _);
          sent = s.sends.sent ++ one_set road statement a.values;
          are_sent = sent_more road apart statement (limit - 4) s.sends.values a.values s.sends.sent s.sends.are_sent;
          appended = a.appended ∙ ap (λ l. l ++ stream_of (one_set road statement a.values)) s.sends.appended
              ∙ append_assoc old (stream_of s.sends.sent) (stream_of (one_set road statement a.values))
              ∙ ap (λ l. old ++ l) (sym (stream_append s.sends.sent (one_set road statement a.values)));
        };
        readable = all_append (IsReadable road statement.query) s.sends.values (a.values ∷
            []) s.readable (a.readable, tt);
      }

  -- it is refused, whichever stand behind it
  refused_with : (refusal : Refusal) → cause number (given names) ≡ Some refusal →
      (others : List (List ℕ) → List Given) (rest : List Given) → others names ≡ before ++
      given names ∷ rest
      → RefusesGiven road query others id limit refusal
  refused_with refusal this others rest are =
      let first : first_of_sets cause 0 (others names) ≡ Some refusal =
      ap (λ g. first_of_sets cause 0 g) are ∙ cause_behind rest ∙
      first_is (cause number (given names)) (first_of_sets cause (number + 1) rest) refusal
      this in
      inr (record {
        tokens = s.sends.tokens;
        has = s.sends.has;
        first = some_second (query_cause road statement (limit - 4))
            (first_of_sets cause 0 (others names)) _ refusal no_query_cause first;
      })

  refused_more : (refusal : Refusal) → RefusesOne road query id limit number given refusal →
      RefusesGiven road query sets id limit refusal ×
      RefusesGiven road query (first_sets (number + 1) sets) id limit refusal
  refused_more refusal (inl memory) = (inl memory, inl memory)
  refused_more refusal (inr r) =
      let this : cause number (given names) ≡ Some refusal =
      subst (λ (t : List (List ℕ)). cause_of_set road (statement_of query t id) limit number
      (given (names_of t)) ≡ Some refusal)
      (once query.mode query.text r.0 s.sends.tokens r.1 s.sends.has) r.2 in (
        refused_with refusal this sets behind (sym around),
        refused_with refusal this (first_sets (number + 1) sets) [] up_to,
      )

-- ---- behind the last set

-- what is said over sets is said over others that give the same
pub over_same : (road : Road) (query : Sql) (sets others : List (List ℕ) →
    List Given) (id limit : ℕ) (old new : List ℕ) → GiveTheSame sets others →
    SentReadable road query sets id limit old new
    → SentReadable road query others id limit old new
over_same road query sets others id limit old new same s = record {
  sends = record {
    tokens = s.sends.tokens;
    has = s.sends.has;
    values = s.sends.values;
    given = sym (same (names_of s.sends.tokens)) ∙ s.sends.given;
    none = ap (λ g. cause_of road (statement_of query s.sends.tokens id) limit g)
        (sym (same (names_of s.sends.tokens))) ∙ s.sends.none;
    sent = s.sends.sent;
    are_sent = s.sends.are_sent;
    appended = s.sends.appended;
  };
  readable = s.readable;
}

-- and what refuses them
pub refused_same : (road : Road) (query : Sql) (sets others : List (List ℕ) →
    List Given) (id limit : ℕ) (refusal : Refusal) → GiveTheSame sets others →
    RefusesGiven road query sets id limit refusal
    → RefusesGiven road query others id limit refusal
refused_same road query sets others id limit refusal same (inl memory) = inl memory
refused_same road query sets others id limit refusal same (inr why) = inr (record {
  tokens = why.tokens;
  has = why.has;
  first = ap (λ g. cause_of road (statement_of query why.tokens id) limit g)
      (sym (same (names_of why.tokens))) ∙ why.first;
})

all : AllAreSent
all road query sets id limit number old new passed s =
    over_same road query (first_sets number sets) sets id limit old new
    (λ names. take_all number (sets names) (passed names)) s

-- what stood before stays in front
front_length : (old out : List ℕ) → take (length old) out ≡ old → length old ≤ length out
front_length old out same = omega (arith, length-take (length old) out, ap length same)

kept : FrontsStay
kept road query sets id limit old mid new s stays =
    let before : take (length old) mid ≡ old = ap (λ l. take (length old) l) s.sends.appended ∙
    take_at old (stream_of s.sends.sent) (length old) refl in
    sym (take-take (length old) (length mid) new (front_length old mid before)) ∙
    ap (λ l. take (length old) l) stays ∙ before

-- the set of a number in a list
of_list : ListsGive
of_list sets number params inside is names =
    slice_get-map (given_by names) sets number ∙
    ap (λ o. option_map (given_by names) o)
    (slice_get_read sets (length sets) number params refl inside is)

-- a query that is refused without sets is refused with any
pub refused_with_any : (road : Road) → IsApart road →
    (query : Sql) (sets : List (List ℕ) → List Given) (id limit : ℕ) (refusal : Refusal) →
    RefusesGiven road query (λ names. []) id limit refusal
    → RefusesGiven road query sets id limit refusal
refused_with_any road apart query sets id limit refusal (inl memory) = inl memory
refused_with_any road apart query sets id limit refusal (inr why) =
    let statement : Statement = statement_of query why.tokens id in
    let first : option_or (query_cause road statement (limit - 4))
    (option_or None (option_or None None)) ≡ Some refusal =
    ap (λ c. option_or (query_cause road statement (limit - 4)) (option_or None (option_or c None)))
    (sym (none_together road apart statement (limit - 4) [])) ∙ why.first in
    let sets_first : Option Refusal =
    first_of_sets (set_cause (whole_command road statement) (place_count statement.query)
    (limit - 4)) 0 (sets (names_of why.tokens)) in
    let together : Option Refusal =
    option_or (sets_cause road statement (limit - 4) (values_of (sets (names_of why.tokens))))
    None in
    inr (record {
      tokens = why.tokens;
      has = why.has;
      first =
          some_first (query_cause road statement (limit - 4)) sets_first together refusal first;
    })

-- ---- the law

pub sent_in_turn : OneTokens → SentInTurn
sent_in_turn once = record {
  begin = begin;
  refused = refused;
  more = λ road apart query sets id limit number old mid new given at s appends. more once road
      apart query sets id limit number given at old mid s new appends;
  refused_more = λ road apart query sets id limit number old mid given at s refusal why.
      refused_more once road apart query sets id limit number given at old mid s refusal why;
  all = all;
  kept = kept;
  of_list = of_list;
}

-- ---- sets that are made

pub made_in_turn : MadeInTurn
made_in_turn = record {
  begin = λ given. record { sets = []; give = λ names. refl };
  more = λ given number params at m. record {
    sets = m.sets ++ params ∷ [];
    give = λ names.
        let inside : number < length (given names) =
        slice_get_within (given names) number (given_by names params) (at names) in
        let is_there : get_or (given names) number (given_by names params) ≡ given_by names params =
        get_or_from_slice_get (given names) number (given_by names params)
        (given_by names params) (at names) in
        map-append (given_by names) m.sets (params ∷ []) ∙ ap (λ l. l ++ given_by names params ∷ []) (m.give names)
        ∙ sym (take_more (given names) number (given_by names params) inside ∙
        ap (λ g. take number (given names) ++ g ∷ []) is_there);
  };
  all = λ given number passed m. record {
    sets = m.sets;
    give = λ names. m.give names ∙
        take_all number (given names) (passed names);
  };
}
