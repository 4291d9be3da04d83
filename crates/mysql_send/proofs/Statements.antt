-- A query's statement: its prepare, and the executions of its sets.
use Rattle.std.proofs.Common.{◌≡◌, ◌==◌, ◌⊎◌, ℕ, ◌+◌, ◌-◌, ◌<◌, ◌≤◌, nat_lt, Bool, true, false, List, [], ◌∷◌, ◌++◌}
use Rattle.std.proofs.Common.{length, map, take, drop, Option, Some, None, Result, Ok, Err, refl, sym, ◌∙◌, ap, subst}
use Rattle.std.proofs.Common.{inl, inr, arith, append_assoc}
use Rattle.std.specs.Prelude.{IfErr, OnOk, Vec}
use Rattle.std.specs.declared.alloc.Global.{Global}
use Rattle.std.specs.Option.{option_or}
use Rattle.std.proofs.lemmas.Bool.{eqb-true, le-ltb, lt-ltb}
use Rattle.std.proofs.lemmas.List.{append-nil, map-id, take_at}
use Rattle.std.proofs.Math.Seq.{drop-append-add}
use Rattle.mysql_wire.specs.Framing.{framing}
use Rattle.mysql_wire.specs.Stream.{framings}
use Rattle.mysql_wire.specs.Stream.Numbering.{EachFromZero}
use Rattle.mysql_values.specs.Sql.{Sql}
use Rattle.mysql_values.specs.Laws.{OneTokens}
use Rattle.mysql_values.specs.Params.{values_over}
use Rattle.mysql_values.specs.Parsed.{Parsed, names_of}
use Rattle.mysql_values.specs.Queries.{is_mixed, places_of}
use Rattle.mysql_values.specs.Tokens.{HasTokens}
use Rattle.mysql_values.specs.Value.{Value}
use Rattle.mysql_values.specs.declared.params.Params.{Params}
use Rattle.mysql_values.specs.declared.params.Params.TheVariants.{Positional}
use Rattle.mysql_values.specs.declared.params.ParamsError.TheVariants as params_error
use Rattle.mysql_values.specs.declared.params.SetError.{SetError}
use Rattle.mysql_values.specs.declared.params.SetError.TheVariants as set_error
use Rattle.mysql_receive.specs.Query.{Statement, statement_of}
use Rattle.mysql_command_rules.specs.declared.refusal.Refusal.{Refusal}
use Rattle.mysql_command_rules.specs.declared.refusal.Refusal.TheVariants as refusals
use Rattle.mysql_command_rules.specs.declared.road.Road.TheVariants.{Execute}
use Rattle.mysql_command_rules.specs.Cause.{cause_if, first_of_sets, max_places, prepare_cause, set_cause}
use Rattle.mysql_command_rules.specs.Commands.{prepare_command}
use Rattle.mysql_command_rules.specs.InTurn.{SentInTurn}
use Rattle.mysql_command_rules.specs.MadeSets.{IsSetAt}
use Rattle.mysql_command_rules.specs.OneSet.{AppendsOne, RefusesOne, first_sets}
use Rattle.mysql_command_rules.specs.Reading.{SentReadable}
use Rattle.mysql_command_rules.specs.Sending.{RefusesGiven}
use Rattle.mysql_command_rules.specs.Sent.{as_execution, payloads_of}
use Rattle.mysql_command_rules.specs.Sets.{Given, all_given_in_places, given_by}
use Rattle.mysql_send.specs.Executions.{AppendsExecution, AppendsMore, RefusesExecution, RefusesMore}
use Rattle.mysql_send.specs.Executions.{execution_payloads, whole_execution}
use Rattle.mysql_send.specs.Laws.{FurtherSetsAreSent}
use Rattle.mysql_send.specs.Statement.{AppendsPrepare, IsStatement, RefusesPrepare}
use Rattle.mysql_send.proofs.FurtherSets.{behind_pieces}
use Rattle.mysql_send.proofs.Lists.{gives_values, on_err, on_ok}

-- ---- its prepare

-- where nothing speaks against it
prepare_none : (mixed many long : Bool) → mixed ≡ false → many ≡ false → long ≡ false →
    option_or (cause_if mixed refusals.Mixed)
    (option_or (cause_if many refusals.TooManyPlaces)
    (option_or (cause_if long refusals.PrepareTooLarge) None)) ≡ None
prepare_none mixed many long one few short = rw (one, few, short) refl

-- the length of the prepare is, where they are few enough
too_long_cause : (mixed many long : Bool) (rest : Option Refusal) → mixed ≡ false → many ≡ false → long ≡ true →
    option_or (cause_if mixed refusals.Mixed)
    (option_or (cause_if many refusals.TooManyPlaces)
    (option_or (cause_if long refusals.PrepareTooLarge) rest)) ≡ Some refusals.PrepareTooLarge
too_long_cause mixed many long rest one few over = rw (one, few, over) refl

-- room for a header, and the command's byte
abbrev pub room_and_command : List ℕ
room_and_command = 0 ∷ 0 ∷ 0 ∷ 0 ∷ 22 ∷ []

-- the payload behind room for its header, framed there
framed_prepare : (parsed old mid more new : List ℕ) (start : ℕ) → start ≡ length old → mid ≡ old ++
    (0 ∷ 0 ∷ 0 ∷ 0 ∷ 22 ∷ []) → more ≡ mid ++ parsed → new ≡ take start more ++
    framing (drop (start + 4) more) 0
    → new ≡ old ++ framing (prepare_command parsed) 0
framed_prepare parsed old mid more new start at room put framed =
    let whole : more ≡ old ++ (0 ∷ 0 ∷ 0 ∷ 0 ∷ 22 ∷ parsed) = put ∙ ap (λ l. l ++ parsed) room ∙
    append_assoc old (0 ∷ 0 ∷ 0 ∷ 0 ∷ 22 ∷ []) parsed in
    let front : take start more ≡ old = ap (λ n. take n more) at ∙
    ap (λ l. take (length old) l) whole ∙
    take_at old (0 ∷ 0 ∷ 0 ∷ 0 ∷ 22 ∷ parsed) (length old) refl in
    let behind : drop (start + 4) more ≡ prepare_command parsed = ap (λ n. drop (n + 4) more) at ∙
    ap (λ l. drop (length old + 4) l) whole ∙
    drop-append-add old (0 ∷ 0 ∷ 0 ∷ 0 ∷ 22 ∷ parsed) 4 in
    framed ∙ ap (λ l. l ++ framing (drop (start + 4) more) 0) front ∙ ap (λ l. old ++ framing l 0) behind

module _ (query : Sql) (parsed : Parsed) (places : ℕ) (s : IsStatement query parsed places) (id room : ℕ) where
  abbrev statement : Statement
  statement = statement_of query s.tokens id

  module _ (few : places ≤ max_places) where
    few_enough : nat_lt max_places (length (places_of query s.tokens)) ≡ false
    few_enough = subst (λ (n : ℕ). nat_lt max_places n ≡ false) s.count (le-ltb max_places places few)

    -- a prepare that is too long
    pub too_long : room ≤ length parsed.query → RefusesPrepare query id room refusals.PrepareTooLarge
    too_long over =
        inr (
          s.tokens,
          s.has,
          too_long_cause (is_mixed (places_of query s.tokens))
              (nat_lt max_places (length (places_of query s.tokens)))
              (nat_lt room (length (prepare_command statement.query.parsed))) _ s.one_kind
              few_enough
              (subst (λ (l : List ℕ). nat_lt room (length (prepare_command l)) ≡
              true) s.query_is (lt-ltb room (length (prepare_command parsed.query))
              (omega (arith, over)))),
        )

    -- one that is not
    pub prepared : length parsed.query < room → (old mid more new : List ℕ) (start : ℕ) → start ≡
        length old → mid ≡ old ++ (0 ∷ 0 ∷ 0 ∷ 0 ∷ 22 ∷ []) → more ≡ mid ++ parsed.query
        → new ≡ take start more ++ framing (drop (start + 4) more) 0 → AppendsPrepare query id room old new
    prepared short old mid more new start at front put framed = (
      s.tokens,
      s.has,
      prepare_none (is_mixed (places_of query s.tokens))
          (nat_lt max_places (length (places_of query s.tokens)))
          (nat_lt room (length (prepare_command statement.query.parsed))) s.one_kind few_enough
          (subst (λ (l : List ℕ). nat_lt room (length (prepare_command l)) ≡
          false) s.query_is (le-ltb room (length (prepare_command parsed.query))
          (omega (arith, short)))),
      framed_prepare parsed.query old mid more new start at front put framed ∙
          ap (λ l. old ++ framing (prepare_command l) 0) s.query_is ∙
          ap (λ l. old ++ l) (sym (append-nil _)),
    )

-- it begins the stream of its sets
pub begins : SentInTurn →
    (query : Sql) (sets : List (List ℕ) → List Given) (id limit : ℕ) (old new : List ℕ) →
    AppendsPrepare query id (limit - 4) old new →
    SentReadable Execute query (first_sets 0 sets) id limit old new
begins law query sets id limit old new p = law.begin Execute tt query sets id limit old new p.0 p.1 p.2 p.3

-- ---- one set

-- what is said over a number and a count is said over equal ones
pub said_over : (P : ℕ → ℕ → Type 0) (number id count places : ℕ) → number ≡ id → count ≡ places →
    P number count → P id places
said_over P number id count places one many holds =
    subst (λ (n : ℕ). P id n) many (subst (λ (n : ℕ). P n count) one holds)

-- the payloads of one set
payloads_of_set : (s : Statement) (values : List Value) → payloads_of (as_execution s values) ≡
    execution_payloads s.id values
payloads_of_set s values = behind_pieces _ _

-- a list over no names gives the values that lie in it
pub list_in_order : {T : Type 0} (name_of : T → List ℕ) (lent : List T) (names : List (List ℕ))
    (params : Params) (list : Vec Value Global) (values : List Value) (empty : Bool) → params ≡
    Positional list → map name_of lent ≡ names
    → empty ≡ (length lent == 0) → empty ≡ true → values ≡ list.items → values_over names params ≡
    Ok (map (λ (value : Value). value) values)
list_in_order name_of [] names params list values empty is named none here lie =
    subst (λ (ns : List (List ℕ)). values_over ns params ≡ Ok (map (λ (value : Value). value) values)) named
    (subst (λ (p : Params). values_over [] p ≡ Ok (map (λ (value : Value). value) values)) (sym is)
    (ap (λ (l : List Value). Ok l) (sym (map-id values ∙ lie))))
list_in_order name_of (name ∷ lent) names params list values empty is named none here lie =
    absurd (omega (arith, eqb-true (length (name ∷ lent)) 0 (sym none ∙ here)))

module _ (query : Sql) (parsed : Parsed) (places : ℕ) (s : IsStatement query parsed places)
    (id limit set : ℕ) (params : Params) where
  abbrev pub given : List (List ℕ) → Given
  given names = given_by names params

  module _ (values : List Value) (over : values_over parsed.names params ≡ Ok values) where
    gives : given_by (names_of s.tokens) params ≡ Ok values
    gives = gives_values (names_of s.tokens) params values
        (ap (λ names. values_over names params) (sym s.names_are) ∙ over)

    -- the execution of a set that gives these values
    pub one_execution : (old new : List ℕ) →
        AppendsExecution id (record { places = places; bytes = limit - 4 }) set values old new →
        AppendsOne Execute query id limit set given old new
    one_execution old new a = (
      s.tokens,
      s.has,
      record {
        values = values;
        gives = gives;
        none = subst (λ (n : ℕ). set_cause (whole_execution id) n (limit - 4) set (Ok values) ≡ None) s.count a.none;
        readable = a.fit;
        appended = a.appended ∙ ap (λ ps. old ++ framings ps EachFromZero)
            (sym (payloads_of_set (statement_of query s.tokens id) values));
      },
    )

    -- it is refused
    pub one_refused : (refusal : Refusal) →
        RefusesExecution id (record { places = places; bytes = limit - 4 }) set values refusal →
        RefusesOne Execute query id limit set given refusal
    one_refused refusal (inl memory) = inl memory
    one_refused refusal (inr this) =
        inr (
          s.tokens,
          s.has,
          ap (λ g. set_cause (whole_execution id)
              (length (places_of query s.tokens)) (limit - 4) set g) gives ∙
              subst (λ (n : ℕ). set_cause (whole_execution id) n (limit - 4) set (Ok values) ≡
              Some refusal) s.count this,
        )

    -- what is answered of it, where the id and the count are the statement's
    pub one_put : (answer : Result (Unit {0}) Refusal) (number count : ℕ) (old new : List ℕ) →
        number ≡ id → count ≡ places →
        OnOk answer (AppendsExecution number (record { places = count; bytes = limit - 4 }) set
        values old new)
        → OnOk answer (AppendsOne Execute query id limit set given old new)
    one_put answer number count old new one many put =
        on_ok answer (λ a. one_execution old new
        (said_over (λ n count. AppendsExecution n (record { places = count; bytes = limit - 4 })
        set values old new) number id count places one many a)) put

    pub one_not_put : (answer : Result (Unit {0}) Refusal) (number count : ℕ) → number ≡ id →
        count ≡ places → IfErr answer
        (RefusesExecution number (record { places = count; bytes = limit - 4 }) set values)
        → IfErr answer (RefusesOne Execute query id limit set given)
    one_not_put answer number count one many why =
        on_err answer (λ refusal this. one_refused refusal
        (said_over (λ n count. RefusesExecution n (record { places = count; bytes = limit - 4 })
        set values refusal) number id count places one many this)) why

-- ---- a set that is not made

-- why no set is made is a refusal of all
pub not_made : SentInTurn →
    (query : Sql) (sets : List (List ℕ) → List Given) (id limit number : ℕ) (old out : List ℕ) →
    SentReadable Execute query (first_sets number sets) id limit old out
    → (refusal : Refusal) → (refusal ≡ refusals.Memory) ⊎
    ((error : SetError) × IsSetAt sets number (Err error) ×
    (refusal ≡ refusals.Params number error)) → RefusesGiven Execute query sets id limit refusal
not_made law query sets id limit number old out s refusal (inl memory) = inl memory
not_made law query sets id limit number old out s refusal (inr why) =
    (law.refused_more Execute tt query sets id limit number old out (λ names. Err why.0) why.1 s
    refusal (inr (s.sends.tokens, s.sends.has, ap Some (sym why.2)))).0

-- ---- sets of values

-- no sets
abbrev no_sets : List (List ℕ) → List Given
no_sets names = []

some_second : (a b c : Option Refusal) (x : Refusal) → a ≡ None → b ≡ Some x → option_or a (option_or b c) ≡ Some x
some_second a b c x none some = rw (none, some) refl

module _ (once : OneTokens) (query : Sql) (parsed : Parsed) (places : ℕ)
    (s : IsStatement query parsed places) (id limit : ℕ) (sets : List (List Value))
    (old mid : List ℕ) (p : AppendsPrepare query id (limit - 4) old mid) where
  same : (tokens : List (List ℕ)) → HasTokens query.mode query.text tokens → places ≡ length (places_of query tokens)
  same tokens has = s.count ∙
      ap (λ t. length (places_of query t)) (once query.mode query.text s.tokens tokens s.has has)

  -- they are sent behind the prepare
  pub all_sent : SentInTurn → FurtherSetsAreSent → (new : List ℕ) →
      AppendsMore id (record { places = places; bytes = limit - 4 }) 0 sets mid new →
      SentReadable Execute query (all_given_in_places sets) id limit old new
  all_sent law further new a =
      let before : SentReadable Execute query (first_sets 0 no_sets) id limit old mid =
      begins law query no_sets id limit old mid p in
      further query (first_sets 0 no_sets) id limit 0 sets old mid new before refl
      (subst (λ (n : ℕ). AppendsMore id (record { places = n; bytes = limit - 4 }) 0 sets mid
      new) (same before.sends.tokens before.sends.has) a)

  -- or refused
  pub all_refused : (refusal : Refusal) →
      RefusesMore id (record { places = places; bytes = limit - 4 }) 0 sets refusal →
      RefusesGiven Execute query (all_given_in_places sets) id limit refusal
  all_refused refusal (inl memory) = inl memory
  all_refused refusal (inr this) = inr (record {
    tokens = p.0;
    has = p.1;
    first = some_second (prepare_cause (statement_of query p.0 id).query (limit - 4)) _ _ refusal p.2
        (subst (λ (n : ℕ). first_of_sets (set_cause (whole_execution id) n (limit - 4)) 0
        (map (λ (set : List Value). Ok set) sets) ≡ Some refusal) (same p.0 p.1) this);
  })
