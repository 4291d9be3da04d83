-- From a text that is bound to the query that is sent, and from why none is bound to the refusal.
use Rattle.std.proofs.Common.{◌≡◌, ◌⊎◌, ℕ, ◌+◌, ◌-◌, ◌<◌, ◌≤◌, ◌==◌, Bool, true, false, nat_lt, List, [], ◌∷◌, ◌++◌}
use Rattle.std.proofs.Common.{length, map, take, drop, Option, Some, None, Result, Ok, Err, refl, sym, ◌∙◌, ap, subst}
use Rattle.std.proofs.Common.{inl, inr, if◌then◌else◌, unwrap_or, append_assoc, arith, length-drop}
use Rattle.std.specs.Prelude.{IfErr, OnOk}
use Rattle.std.proofs.lemmas.Bool.{le-ltb, lt-ltb}
use Rattle.std.proofs.lemmas.List.{take_at}
use Rattle.std.proofs.Math.Seq.{drop-append-add}
use Rattle.std.specs.Option.{option_map, option_or}
use Rattle.std.specs.Result.{result_map_both}
use Rattle.mysql_wire.specs.Framing.{framing}
use Rattle.mysql_values.specs.Sql.{Sql}
use Rattle.mysql_values.specs.Value.{Value}
use Rattle.mysql_values.specs.Values.{content_of, first_float}
use Rattle.mysql_values.specs.declared.params.Params.{Params}
use Rattle.mysql_values.specs.declared.params.ParamsError.{ParamsError}
use Rattle.mysql_values.specs.declared.params.SetError.{SetError}
use Rattle.mysql_values.specs.declared.params.SetError.TheVariants as set_error
use Rattle.mysql_values.specs.declared.bind.BindError.{BindError}
use Rattle.mysql_values.specs.declared.bind.BindError.TheVariants as bind_error
use Rattle.mysql_values.specs.Tokens.{HasTokens}
use Rattle.mysql_values.specs.Place.{Place}
use Rattle.mysql_values.specs.Queries.{HasPlaces, first_not_alone, interleaved, is_mixed, pieces_of, places_of}
use Rattle.mysql_values.specs.Laws.{OneTokens, PiecesAreSlices}
use Rattle.mysql_values.specs.Params.{IsMeaning, values_over}
use Rattle.mysql_values.specs.Parsed.{names_of}
use Rattle.mysql_values.specs.Binding.{Binds, IsBound, IsBindCause, alone_cause, given_cause as bound_cause}
use Rattle.mysql_values.specs.Binding.{literals_in, values_cause}
use Rattle.mysql_receive.specs.Reading.{TextReadsAs}
use Rattle.mysql_receive.specs.Query.{statement_of}
use Rattle.mysql_command_rules.specs.declared.refusal.Refusal.{Refusal}
use Rattle.mysql_command_rules.specs.declared.refusal.Refusal.TheVariants as refusals
use Rattle.mysql_command_rules.specs.declared.road.Road.TheVariants.{Text}
use Rattle.mysql_command_rules.specs.Cause.{cause_if, places_cause, set_cause}
use Rattle.mysql_command_rules.specs.Commands.{query_command}
use Rattle.mysql_command_rules.specs.InTurn.{SentInTurn}
use Rattle.mysql_command_rules.specs.MadeSets.{IsSetAt}
use Rattle.mysql_command_rules.specs.OneSet.{AppendsOne, RefusesOne, cause_of_set, first_sets}
use Rattle.mysql_command_rules.specs.Reading.{IsReadable, SentReadable}
use Rattle.mysql_command_rules.specs.Sending.{RefusesGiven}
use Rattle.mysql_command_rules.specs.Sent.{query_text_of, whole_command}
use Rattle.mysql_command_rules.specs.Sets.{Given, given_by}
use Rattle.mysql_send.specs.Refusing.{refusal_by}
use Rattle.mysql_send.proofs.Lists.{first_is, gives_values, one_framed}

-- ---- what a call answers

-- what holds of each number where a call answers
pub where_ok : {E X : Type 0} (P : X → Type 0) (answer : Result (Unit {0}) E) (x : X) →
    OnOk answer ((x : X) → P x) → OnOk answer (P x)
where_ok P (Ok done) x holds = holds x
where_ok P (Err error) x holds = tt

pub where_err : {E X : Type 0} (P : E → X → Type 0) (answer : Result (Unit {0}) E) (x : X) →
    IfErr answer (λ e. (x : X) → P e x) → IfErr answer (λ e. P e x)
where_err P (Ok done) x holds = tt
where_err P (Err error) x holds = holds x

-- ---- a set that is not made

-- why no set is made is a refusal of all
pub not_made : SentInTurn →
    (query : Sql) (sets : List (List ℕ) → List Given) (id limit number : ℕ) (old out : List ℕ) →
    SentReadable Text query (first_sets number sets) id limit old out
    → (refusal : Refusal) → (refusal ≡ refusals.Memory) ⊎
    ((error : SetError) × IsSetAt sets number (Err error) ×
    (refusal ≡ refusals.Params number error)) → RefusesGiven Text query sets id limit refusal
not_made law query sets id limit number old out s refusal (inl memory) = inl memory
not_made law query sets id limit number old out s refusal (inr why) =
    (law.refused_more Text tt query sets id limit number old out (λ names. Err why.0) why.1 s
    refusal (inr (s.sends.tokens, s.sends.has, ap Some (sym why.2)))).0

-- ---- placeholders

-- and else there is none
pub no_cause : (query : Sql) (places : List Place) → HasPlaces query places → is_mixed places ≡
    false → first_not_alone places ≡ None
    → (tokens : List (List ℕ)) × HasTokens query.mode query.text tokens × (places_cause (places_of query tokens) ≡ None)
no_cause query places has one alone = (has.0, has.1, ap (λ p. places_cause p) (sym has.2) ∙ rw (one, alone) refl)

-- ---- one set

-- an answer has one value
one_value : {X E : Type 0} (answer : Result X E) (x y : X) → answer ≡ Ok x → answer ≡ Ok y → x ≡ y
one_value (Ok z) x y first second =
    let one : z ≡ x = cc in
    let other : z ≡ y = cc in
    sym one ∙ other
one_value (Err error) x y first second = cc

-- literals that are all there have these texts
literal_texts : (found : List (Option (List ℕ))) (literals : List (List ℕ)) → found ≡
    map Some literals → map (λ literal. unwrap_or literal []) found ≡ literals
literal_texts found literals same =
    ap (λ (l : List (Option (List ℕ))). map (λ literal. unwrap_or literal []) l) same ∙
    themselves literals
  where
    themselves : (literals : List (List ℕ)) → map (λ literal. unwrap_or literal []) (map Some literals) ≡ literals
    themselves [] = refl
    themselves (literal ∷ literals) = ap (λ (l : List (List ℕ)). literal ∷ l) (themselves literals)

-- what is wrong with values, by the refusals of sending
as_refusal : (set count : ℕ) (values : List Value) →
    values_cause (refusals.WrongCount set) (λ place. refusals.Float set place) count values ≡
    option_map (λ error. refusal_by set error)
    (values_cause bind_error.WrongCount (λ place. bind_error.Float place) count values)
as_refusal set count values = by (length values == count) (first_float values)
  where
    by : (same : Bool) (found : Option ℕ) →
        (if same then option_map (λ place. refusals.Float set place) found else Some
        (refusals.WrongCount set))
        ≡ option_map (λ error. refusal_by set error)
        (if same then option_map (λ place. bind_error.Float place) found else Some
        bind_error.WrongCount)
    by true None = refl
    by true (Some place) = refl
    by false found = refl

-- where placeholders are of one kind and stand alone, what is behind them counts
behind_places : (mixed : Bool) (apart : Option ℕ) (rest : Option BindError) → mixed ≡ false →
    apart ≡ None → (if mixed then Some bind_error.Mixed else alone_cause apart rest) ≡ rest
behind_places mixed apart rest one alone = rw (one, alone) refl

-- the refusal of a set in place of the error of binding it
set_refusal : (command : List Value → List ℕ) (count room set : ℕ)
    (over : Result (List Value) ParamsError) (error : BindError) → bound_cause count over ≡
    Some error
    → set_cause command count room set
    (result_map_both (λ (v : List Value). v) (λ error. set_error.Params error) over) ≡
    Some (refusal_by set error)
set_refusal command count room set (Err fault) error is =
    let e : bind_error.Params fault ≡ error = cc in ap (λ x. Some (refusal_by set x)) e
set_refusal command count room set (Ok values) error is =
    first_is (values_cause (refusals.WrongCount set) (λ place. refusals.Float set place) count
    values) (cause_if (nat_lt room (length (command values))) (refusals.PacketTooLarge set))
    (refusal_by set error)
    (as_refusal set count values ∙ ap (λ c. option_map (λ error. refusal_by set error) c) is)

-- the size is the cause, or none is
by_size : (first : Option Refusal) (long : Bool) (refusal : Refusal) → first ≡ None →
    option_or first (cause_if long refusal) ≡ cause_if long refusal
by_size first long refusal none = rw none refl

-- room for a header, and the command's byte
abbrev pub room_and_command : List ℕ
room_and_command = 0 ∷ 0 ∷ 0 ∷ 0 ∷ 3 ∷ []

module _ (slices : PiecesAreSlices) (once : OneTokens) (query : Sql) (places : List Place)
    (has : HasPlaces query places) (one : is_mixed places ≡ false) (alone : first_not_alone places ≡
    None)
    (params : Params) (set limit id : ℕ) where
  abbrev pub given : List (List ℕ) → Given
  given names = given_by names params

  -- the placeholders that were found are those of the tokens
  places_are : (tokens : List (List ℕ)) → HasTokens query.mode query.text tokens → places ≡ places_of query tokens
  places_are tokens are = has.2 ∙ ap (λ t. places_of query t) (once query.mode query.text has.0 tokens has.1 are)

  behind : (tokens : List (List ℕ)) → HasTokens query.mode query.text tokens →
      (rest : Option BindError) →
      (if is_mixed (places_of query tokens) then Some bind_error.Mixed else alone_cause
      (first_not_alone (places_of query tokens)) rest) ≡ rest
  behind tokens are rest =
      behind_places (is_mixed (places_of query tokens)) (first_not_alone (places_of query tokens))
      rest (ap is_mixed (sym (places_are tokens are)) ∙
      one) (ap first_not_alone (sym (places_are tokens are)) ∙ alone)

  -- why no text is bound for a set is a refusal of it
  pub refused : (error : BindError) → (error ≡ bind_error.Memory) ⊎ IsBindCause query params error →
      RefusesOne Text query id limit set given (refusal_by set error)
  refused error (inl memory) = inl (ap (λ e. refusal_by set e) memory)
  refused error (inr b) =
      let count : ℕ = length (places_of query b.0) in
      let this : bound_cause count (values_over (names_of b.0) params) ≡ Some error =
      sym (behind b.0 b.1 (bound_cause count (values_over (names_of b.0) params))) ∙ b.2 in
      inr (
        b.0,
        b.1,
        set_refusal (whole_command Text (statement_of query b.0 id)) count (limit - 4)
            set (values_over (names_of b.0) params) error this,
      )

  module _ (text : List ℕ) (b : IsBound query params text) where
    abbrev command : List Value → List ℕ
    command = whole_command Text (statement_of query b.tokens id)

    -- the text that was bound is the text of the query with the set's values
    same_text : text ≡ query_text_of (statement_of query b.tokens id).query b.values
    same_text =
        let found : List (Option (List ℕ)) = literals_in query b.values in
        b.spelled ∙ ap (λ l. interleaved (pieces_of b.tokens) l) (sym (literal_texts found b.literals b.each))
        ∙ ap (λ pieces. interleaved pieces (map (λ literal. unwrap_or literal []) found)) (slices query b.tokens b.has)

    gives : given_by (names_of b.tokens) params ≡ Ok b.values
    gives = gives_values (names_of b.tokens) params b.values b.over

    -- its size alone can be a cause
    set_by_size : cause_of_set Text (statement_of query b.tokens id) limit set (Ok b.values) ≡
        cause_if (nat_lt (limit - 4) (length (command b.values))) (refusals.PacketTooLarge set)
    set_by_size =
        let count : ℕ = length (places_of query b.tokens) in
        let good : bound_cause count (Ok b.values) ≡ None =
        sym (behind b.tokens b.has (bound_cause count (Ok b.values))) ∙ b.none in
        by_size (values_cause (refusals.WrongCount set) (λ place. refusals.Float set place) count
        b.values) (nat_lt (limit - 4) (length (command b.values))) (refusals.PacketTooLarge set)
        (as_refusal set count b.values ∙ ap (λ c. option_map (λ error. refusal_by set error) c) good)

    -- a command within the limit has no cause
    set_none : length (query_command text) ≤ limit - 4 →
        cause_of_set Text (statement_of query b.tokens id) limit set (Ok b.values) ≡ None
    set_none short =
        let fits : nat_lt (limit - 4) (length (command b.values)) ≡ false =
        subst (λ (t : List ℕ). nat_lt (limit - 4) (length (query_command t)) ≡
        false) same_text (le-ltb _ _ short) in
        set_by_size ∙ ap (λ long. cause_if long (refusals.PacketTooLarge set)) fits

    -- and one past it is too large
    too_large : limit - 4 < length (query_command text) →
        RefusesOne Text query id limit set given (refusals.PacketTooLarge set)
    too_large long =
        let passes : nat_lt (limit - 4) (length (command b.values)) ≡ true =
        subst (λ (t : List ℕ). nat_lt (limit - 4) (length (query_command t)) ≡
        true) same_text (lt-ltb _ _ long) in
        inr (
          b.tokens,
          b.has,
          ap (λ g. cause_of_set Text (statement_of query b.tokens id) limit set
              g) gives ∙ set_by_size ∙ ap (λ long. cause_if long (refusals.PacketTooLarge set))
              passes,
        )

  module _ (start : ℕ) (old mid new : List ℕ) (at : start ≡ length old) (room : mid ≡ old ++
      room_and_command) (b : Binds query params mid new) where
    -- what is bound behind the room stands behind what stood before
    behind_room : new ≡ old ++ (0 ∷ 0 ∷ 0 ∷ 0 ∷ 3 ∷ b.text)
    behind_room = b.appended ∙ ap (λ l. l ++ b.text) room ∙ append_assoc old room_and_command b.text

    front_kept : take start new ≡ old
    front_kept = ap (λ n. take n new) at ∙ ap (λ l. take (length old) l) behind_room ∙
        take_at old (0 ∷ 0 ∷ 0 ∷ 0 ∷ 3 ∷ b.text) (length old) refl

    -- behind the room stands the command
    command_behind : drop (start + 4) new ≡ query_command b.text
    command_behind = ap (λ n. drop (n + 4) new) at ∙ ap (λ l. drop (length old + 4) l) behind_room ∙
        drop-append-add old (0 ∷ 0 ∷ 0 ∷ 0 ∷ 3 ∷ b.text) 4

    pub kept_before : take (length old) new ≡ old
    kept_before = ap (λ n. take n new) (sym at) ∙ front_kept

    -- what its text reads as is what its values hold
    readable : IsReadable Text (statement_of query b.bound.tokens id).query b.bound.values
    readable =
        let m : IsMeaning query params b.contents = b.meaning in
        let over : values_over (names_of b.bound.tokens) params ≡ Ok m.values =
        ap (λ t. values_over (names_of t) params)
        (once query.mode query.text b.bound.tokens m.tokens b.bound.has m.has) ∙ m.over in
        let same : m.values ≡ b.bound.values =
        one_value (values_over (names_of b.bound.tokens) params) m.values b.bound.values over
        b.bound.over in (
          b.contents,
          ap (λ v. map content_of v) (sym same) ∙ m.each,
          subst (λ (l : List ℕ). TextReadsAs query l b.contents) (same_text b.text b.bound) (b.sliced, b.lexed),
        )

    -- the query of a set that is bound behind room for its header, and framed there
    pub framed_query : length new - start ≤ limit → (out : List ℕ) → out ≡ take start new ++
        framing (drop (start + 4) new) 0 → AppendsOne Text query id limit set given old out
    framed_query short out put =
        let fits : length (query_command b.text) ≤ limit - 4 =
        omega (arith, short, at, ap length (sym command_behind), length-drop (start + 4) new) in
        let whole : out ≡ old ++ framing (query_command b.text) 0 = put ∙
        ap (λ l. l ++ framing (drop (start + 4) new) 0) front_kept ∙
        ap (λ l. old ++ framing l 0) command_behind in (
          b.bound.tokens,
          b.bound.has,
          record {
            values = b.bound.values;
            gives = gives b.text b.bound;
            none = set_none b.text b.bound fits;
            readable = readable;
            appended = one_framed old out
                (whole_command Text (statement_of query b.bound.tokens id) b.bound.values) (whole ∙
                ap (λ l. old ++ framing (query_command l) 0) (same_text b.text b.bound));
          },
        )

    -- one that is too long with its header
    pub refused_behind : 4 ≤ limit → limit < length new - start →
        RefusesOne Text query id limit set given (refusals.PacketTooLarge set)
    refused_behind some long =
        too_large b.text b.bound (omega (
          arith,
          some,
          long,
          at,
          ap length (sym command_behind),
          length-drop (start + 4) new,
        ))
