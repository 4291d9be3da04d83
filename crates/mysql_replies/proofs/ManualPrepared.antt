-- The answer to a prepare is whole only of the payloads that the manual has as a prepared statement.
use Rattle.std.proofs.Common.{◌≡◌, ℕ, zero, suc, ◌+◌, List, [], ◌∷◌, ◌++◌, length, Bool, true, false, Option, Some}
use Rattle.std.proofs.Common.{None, refl, ap, sym, subst, arith, ◌∙◌, if◌then◌else◌, append_assoc, length-append}
use Rattle.std.proofs.lemmas.Bool.{true≢false}
use Rattle.std.proofs.lemmas.List.{append-nil}
use Rattle.mysql_columns.specs.Columns.{ColumnDefinition}
use Rattle.mysql_ok_packets.specs.OkPackets.{OkPacket}
use Rattle.mysql_server_packets.specs.Packets.{PrepareOk}
use Rattle.mysql_reply_events.specs.Events.{Awaited, Event, Payload, ReplySoFar}
use Rattle.mysql_reply_events.specs.Events.Awaited.{Columns, ColumnsEnd, First, Nothing}
use Rattle.mysql_reply_events.specs.Events.Group.{Parameters, Statement}
use Rattle.mysql_reply_events.specs.Readings.{deprecate_eof}
use Rattle.mysql_reply_events.specs.Table.{after_columns, after_statement, in_place, statement_columns}
use Rattle.mysql_reply_events.specs.declared.context.Context.{Context}
use Rattle.mysql_replies.specs.Together.{ErrorResult, NoPart, Outcome, PreparedResult, Put, StatementPart, listed}
use Rattle.mysql_replies.specs.Reply.{is_over}
use Rattle.mysql_replies.specs.Manual as manual
use Rattle.mysql_replies.specs.Manual.{AreColumns, IsColumnGroup, IsColumnPacket, IsEofDue, IsResult, group, is_prepare}
use Rattle.mysql_replies.proofs.Fitting.{OnStep}
use Rattle.mysql_replies.proofs.Came.{Came, came_behind, goes_on_by, has_step, none_behind, none_is_some, some_is}
use Rattle.mysql_replies.proofs.Came.{with_event}
use Rattle.mysql_replies.proofs.ManualLeads.{came_with, column_put, parameter_put, prepared_came, stands}
use Rattle.mysql_replies.proofs.ManualLeads.{statement_came, with_none}
use Rattle.mysql_replies.proofs.ManualFound.{ColumnIs, EofIs, Follow, StatementIs, column_found, column_is, eof_found}
use Rattle.mysql_replies.proofs.ManualFound.{eof_is, error_packet, statement_found, statement_packet}
use Rattle.mysql_replies.proofs.ManualOnly.{HasFirst, due_eof, has_one}

-- WHAT IS LEFT OF A STATEMENT

-- Its last columns, and the EOF that is due.
pub record ColumnsLeft (c : Context) (statement : PrepareOk) (parameters : List ColumnDefinition)
    (n : ℕ) (earlier : List ColumnDefinition) (payloads : List Payload) (found : List Outcome)
    : Type 0 where
  pub front : List Payload
  pub back : List Payload
  pub cut : payloads ≡ front ++ back
  pub columns : List ColumnDefinition
  pub are : AreColumns c front columns
  pub many : length columns ≡ n
  pub says : Option OkPacket
  pub due : IsEofDue c (earlier ++ columns) back says
  pub prepared : found ≡ PreparedResult statement parameters (earlier ++ columns) ∷ []

-- The EOF that is due behind its parameters, and its columns.
pub record ParametersEnd (c : Context) (statement : PrepareOk) (parameters : List ColumnDefinition)
    (payloads : List Payload) (found : List Outcome) : Type 0 where
  pub end : List Payload
  pub second : List Payload
  pub cut : payloads ≡ end ++ second
  pub says : Option OkPacket
  pub due : IsEofDue c parameters end says
  pub columns : List ColumnDefinition
  pub tells : Option OkPacket
  pub are : IsColumnGroup c statement.num_columns second columns tells
  pub prepared : found ≡ PreparedResult statement parameters columns ∷ []

pub record ParametersLeft (c : Context) (statement : PrepareOk) (n : ℕ)
    (earlier : List ColumnDefinition) (payloads : List Payload) (found : List Outcome) : Type 0
  where
    pub front : List Payload
    pub back : List Payload
    pub cut : payloads ≡ front ++ back
    pub parameters : List ColumnDefinition
    pub are : AreColumns c front parameters
    pub many : length parameters ≡ n
    pub end : ParametersEnd c statement (earlier ++ parameters) back found

-- WHERE A STATEMENT STANDS

pub data Place : Type 0 where
  at_parameters : PrepareOk → ℕ → List ColumnDefinition → Place
  at_parameters_end : PrepareOk → List ColumnDefinition → Place
  at_columns : PrepareOk → List ColumnDefinition → ℕ → List ColumnDefinition → Place
  at_columns_end : PrepareOk → List ColumnDefinition → List ColumnDefinition → Place
  at_nothing : Place

abbrev pub came_at : Option (List ColumnDefinition) → List Outcome → Place → Came
came_at before results (at_parameters statement n parameters) =
    stands (Columns (Parameters statement.num_columns true) n []) before results
    (StatementPart statement parameters [])
came_at before results (at_parameters_end statement parameters) =
    stands (ColumnsEnd (Parameters statement.num_columns true) true) before results
    (StatementPart statement parameters [])
came_at before results (at_columns statement parameters n columns) =
    stands (Columns Statement n columns) before results (StatementPart statement parameters columns)
came_at before results (at_columns_end statement parameters columns) =
    stands (ColumnsEnd Statement true) before results (StatementPart statement parameters columns)
came_at before results at_nothing = stands Nothing before results NoPart

abbrev pub Fair : Context → Place → Type 0
Fair c (at_parameters statement n parameters) = length parameters + n + 1 ≡ statement.num_params
Fair c (at_parameters_end statement parameters) = HasFirst parameters × (deprecate_eof c ≡ false) ×
    (length parameters ≡ statement.num_params)
Fair c (at_columns statement parameters n columns) = length parameters ≡ statement.num_params
Fair c (at_columns_end statement parameters columns) = HasFirst columns × (deprecate_eof c ≡ false)
Fair c at_nothing = Unit {0}

abbrev pub Left : Context → Place → List Payload → List Outcome → Type 0
Left c (at_parameters statement n parameters) payloads found =
    ParametersLeft c statement (n + 1) parameters payloads found
Left c (at_parameters_end statement parameters) payloads found = ParametersEnd c statement parameters payloads found
Left c (at_columns statement parameters n columns) payloads found =
    ColumnsLeft c statement parameters (n + 1) columns payloads found
Left c (at_columns_end statement parameters columns) payloads found = (says : Option OkPacket) ×
    IsEofDue c columns payloads says × (found ≡ PreparedResult statement parameters columns ∷ [])
Left c at_nothing payloads found = (payloads ≡ []) × (found ≡ [])

pub record Was (c : Context) (place : Place) (payloads : List Payload) (results : List Outcome)
    (end : Came) : Type 0 where
  pub found : List Outcome
  pub left : Left c place payloads found
  pub whole : end.results ++ listed end.part ≡ results ++ found

is_over_at : (before : Option (List ColumnDefinition)) (results : List Outcome) (place : Place)
    (y : Came) → came_at before results place ≡ y → is_over y.so_far.awaited ≡ true →
    is_over (came_at before results place).so_far.awaited ≡ true
is_over_at before results place y is over = ap (λ (k : Came). is_over k.so_far.awaited) is ∙ over

nothing_was : (c : Context) (before : Option (List ColumnDefinition)) (results : List Outcome)
    (place : Place) (y : Came) → came_at before results place ≡ y → is_over y.so_far.awaited ≡
    true → Was c place [] results y
nothing_was c before results (at_parameters statement n parameters) y is over =
    absurd (true≢false (sym (is_over_at before results (at_parameters statement n parameters) y is
    over)))
nothing_was c before results (at_parameters_end statement parameters) y is over =
    absurd (true≢false (sym (is_over_at before results (at_parameters_end statement parameters) y is
    over)))
nothing_was c before results (at_columns statement parameters n columns) y is over =
    absurd (true≢false (sym (is_over_at before results (at_columns statement parameters n columns) y
    is over)))
nothing_was c before results (at_columns_end statement parameters columns) y is over =
    absurd (true≢false (sym (is_over_at before results (at_columns_end statement parameters columns)
    y is over)))
nothing_was c before results at_nothing y is over =
    record {
      found = [];
      left = (refl, refl);
      whole =
          ap (λ (k : Came). k.results ++ listed k.part) (sym is);
    }

was_same : (c : Context) (place other_place : Place) (payload : Payload) (payloads : List Payload)
    (results : List Outcome) (end : Came) →
    ((found : List Outcome) → Left c place payloads found →
    Left c other_place (payload ∷ payloads) found) → Was c place payloads results end →
    Was c other_place (payload ∷ payloads) results end
was_same c place other_place payload payloads results end each was =
    record { found = was.found; left = each was.found was.left; whole = was.whole }

abbrev pub Rest : Context → List Payload → Came → Type 0
Rest c payloads y = (before : Option (List ColumnDefinition)) (results : List Outcome)
    (place : Place) → Fair c place → came_behind c (Some (came_at before results place)) payloads ≡
    Some y → Was c place payloads results y

-- THE COLUMNS

-- The columns of a statement from their first one, or none.
pub record ColumnsWere (c : Context) (statement : PrepareOk) (n : ℕ)
    (parameters : List ColumnDefinition) (payloads : List Payload) (results : List Outcome)
    (end : Came) : Type 0 where
  pub columns : List ColumnDefinition
  pub tells : Option OkPacket
  pub are : IsColumnGroup c n payloads columns tells
  pub whole : end.results ++ listed end.part ≡ results ++ PreparedResult statement parameters columns ∷ []

-- Nothing is left behind a statement that is whole.
prepared_whole : (c : Context) (payloads : List Payload) (y : Came) (statement : PrepareOk)
    (parameters columns : List ColumnDefinition) (before : Option (List ColumnDefinition))
    (results : List Outcome) → Rest c payloads y →
    came_behind c (Some (prepared_came statement parameters columns before results)) payloads ≡
    Some y →
    (payloads ≡ []) × (y.results ++ listed y.part ≡ results ++ PreparedResult statement parameters columns ∷ [])
prepared_whole c payloads y statement parameters columns before results rest goes =
    let was = rest before (results ++ PreparedResult statement parameters columns ∷ []) at_nothing tt goes in (
      was.left.0,
      was.whole ∙ ap
          (λ (k : List Outcome). (results ++ PreparedResult statement parameters columns ∷ []) ++
          k) was.left.1 ∙ append-nil (results ++ PreparedResult statement parameters columns ∷ []),
    )

columns_group_of : (c : Context) (statement : PrepareOk) (parameters : List ColumnDefinition)
    (n : ℕ) (payloads : List Payload) (found : List Outcome)
    (left : ColumnsLeft c statement parameters n [] payloads found) →
    IsColumnGroup c n payloads left.columns left.says
columns_group_of c statement parameters n payloads found left =
    subst (λ (k : List Payload). IsColumnGroup c n k left.columns left.says) (sym left.cut)
    (subst (λ (k : ℕ). IsColumnGroup c k (left.front ++ left.back) left.columns left.says) left.many
    (group left.front left.back left.are left.due))

columns_were : (c : Context) (statement : PrepareOk) (n : ℕ) (parameters : List ColumnDefinition)
    (payloads : List Payload) (y : Came) (before : Option (List ColumnDefinition))
    (results : List Outcome) → length parameters ≡ statement.num_params → Rest c payloads y →
    came_behind c (Some (statement_came statement parameters [] before results
    (statement_columns c n true))) payloads ≡ Some y →
    ColumnsWere c statement n parameters payloads results y
columns_were c statement zero parameters payloads y before results all rest goes =
    let whole = prepared_whole c payloads y statement parameters [] before results rest goes in
    record {
      columns = [];
      tells = None;
      are = subst (λ (k : List Payload). IsColumnGroup c 0 k [] None) (sym whole.0) (group [] [] tt manual.no_columns);
      whole = whole.1;
    }
columns_were c statement (suc n) parameters payloads y before results all rest goes =
    let was = rest before results (at_columns statement parameters n []) all
    (ap (λ (k : Option Came). came_behind c k payloads)
    (sym (with_none (Columns Statement n []) before results
    (StatementPart statement parameters []))) ∙ goes) in
    record {
      columns = was.left.columns;
      tells = was.left.says;
      are = subst (λ (k : ℕ). IsColumnGroup c k payloads was.left.columns was.left.says)
          (omega arith) (columns_group_of c statement parameters (n + 1) payloads was.found
          was.left);
      whole = was.whole ∙ ap (λ (k : List Outcome). results ++ k) was.left.prepared;
    }

last_column_back : (c : Context) (b : Bool) (statement : PrepareOk)
    (parameters earlier : List ColumnDefinition) (column : ColumnDefinition) (payload : Payload)
    (payloads : List Payload) (y : Came) (results : List Outcome) → deprecate_eof c ≡ b →
    IsColumnPacket c payload column → Rest c payloads y →
    came_behind c (Some (statement_came statement parameters (earlier ++ column ∷
    []) (Some (earlier ++ column ∷ [])) results
    (if b then Nothing else ColumnsEnd Statement true))) payloads ≡ Some y →
    Was c (at_columns statement parameters 0 earlier) (payload ∷ payloads) results y
last_column_back c true statement parameters earlier column payload payloads y results due is rest goes =
    let all : List ColumnDefinition = earlier ++ column ∷ [] in
    let whole = prepared_whole c payloads y statement parameters all (Some all) results rest goes in
    record {
      found = PreparedResult statement parameters all ∷ [];
      left = record {
        front = payload ∷ [];
        back = [];
        cut = ap (λ (k : List Payload). payload ∷ k) whole.0;
        columns = column ∷ [];
        are = (is, tt);
        many = omega arith;
        says = None;
        due = manual.deprecated due;
        prepared = refl;
      };
      whole = whole.1;
    }
last_column_back c false statement parameters earlier column payload payloads y results due is rest goes =
    let all : List ColumnDefinition = earlier ++ column ∷ [] in
    was_same c (at_columns_end statement parameters all) (at_columns statement parameters 0 earlier)
    payload payloads results y
    (λ found left. record {
      front = payload ∷ [];
      back = payloads;
      cut = refl;
      columns = column ∷ [];
      are = (is, tt);
      many = omega arith;
      says = left.0;
      due = left.1;
      prepared = left.2;
    })
    (rest (Some all) results (at_columns_end statement parameters all) (
      has_one earlier column,
      due,
    ) (ap (λ (k : Option Came). came_behind c k payloads)
    (sym (with_none (ColumnsEnd Statement true) (Some all) results
    (StatementPart statement parameters all))) ∙ goes))

column_back : (c : Context) (statement : PrepareOk) (parameters : List ColumnDefinition) (n : ℕ)
    (earlier : List ColumnDefinition) (payload : Payload) (payloads : List Payload) (y : Came)
    (before : Option (List ColumnDefinition)) (results : List Outcome) (event : Event)
    (next : ReplySoFar) → length parameters ≡ statement.num_params → Rest c payloads y →
    ColumnIs c (record { awaited = Columns Statement n earlier; columns = before }) Statement n
    earlier payload event next →
    came_behind c (Some (with_event
    (stands (Columns Statement n earlier) before results
    (StatementPart statement parameters earlier)) event next)) payloads ≡ Some y →
    Was c (at_columns statement parameters n earlier) (payload ∷ payloads) results y
column_back c statement parameters zero earlier payload payloads y before results event next all
    rest (column_is found is) goes =
    let columns : List ColumnDefinition = earlier ++ found.column ∷ [] in
    last_column_back c (deprecate_eof c) statement parameters earlier found.column payload payloads
    y results refl is rest
    (ap (λ (k : Put). came_behind c
    (Some (came_with results (record {
      awaited = after_columns c Statement true;
      columns =
          Some columns;
    }) k)) payloads)
    (sym (column_put statement parameters earlier found.column (after_columns c Statement true)
    all)) ∙ goes)
column_back c statement parameters (suc n) earlier payload payloads y before results event next all
    rest (column_is found is) goes =
    let columns : List ColumnDefinition = earlier ++ found.column ∷ [] in
    let later : Awaited = Columns Statement n columns in
    was_same c (at_columns statement parameters n columns)
    (at_columns statement parameters (suc n) earlier) payload payloads results y
    (λ listed_there left. record {
      front = payload ∷ left.front;
      back = left.back;
      cut = ap (λ (k : List Payload). payload ∷ k) left.cut;
      columns = found.column ∷ left.columns;
      are = (is, left.are);
      many = let many = left.many in omega (arith, many);
      says = left.says;
      due = subst (λ (k : List ColumnDefinition). IsEofDue c k left.back left.says)
          (append_assoc earlier (found.column ∷ []) left.columns) left.due;
      prepared = left.prepared ∙
          ap (λ (k : List ColumnDefinition). PreparedResult statement parameters k ∷
          []) (append_assoc earlier (found.column ∷ []) left.columns);
    })
    (rest before results (at_columns statement parameters n columns) all
    (ap (λ (k : Option Came). came_behind c k payloads)
    (sym (with_none later before results (StatementPart statement parameters columns)))
    ∙ ap (λ (k : Put). came_behind c
    (Some (came_with results (record { awaited = later; columns = before }) k)) payloads)
    (sym (column_put statement parameters earlier found.column later all)) ∙ goes))

columns_end_back : (c : Context) (statement : PrepareOk)
    (parameters columns : List ColumnDefinition) (payload : Payload) (payloads : List Payload)
    (y : Came) (before : Option (List ColumnDefinition)) (results : List Outcome) (event : Event)
    (next : ReplySoFar) → HasFirst columns → deprecate_eof c ≡ false → Rest c payloads y →
    EofIs c (record { awaited = ColumnsEnd Statement true; columns = before }) Statement true
    payload event next → came_behind c
    (Some (with_event (stands (ColumnsEnd Statement true) before results
    (StatementPart statement parameters columns)) event next)) payloads ≡ Some y →
    Was c (at_columns_end statement parameters columns) (payload ∷ payloads) results y
columns_end_back c statement parameters columns payload payloads y before results event next some
    due rest (eof_is {says = says} is) goes =
    let whole = prepared_whole c payloads y statement parameters columns before results rest goes in
    record {
      found = PreparedResult statement parameters columns ∷ [];
      left = (
        Some says,
        subst (λ (k : List Payload). IsEofDue c columns (payload ∷ k) (Some says))
            (sym whole.0) (due_eof c columns payload says some due is),
        refl,
      );
      whole = whole.1;
    }

-- THE PARAMETERS

-- The columns behind the last parameter, or behind the EOF.
parameters_end_of : (c : Context) (statement : PrepareOk) (parameters : List ColumnDefinition)
    (end second : List Payload) (says : Option OkPacket) (results : List Outcome) (y : Came) →
    IsEofDue c parameters end says →
    (were : ColumnsWere c statement statement.num_columns parameters second results y) →
    ParametersEnd c statement parameters (end ++
    second) (PreparedResult statement parameters were.columns ∷ [])
parameters_end_of c statement parameters end second says results y due were = record {
  end = end;
  second = second;
  cut = refl;
  says = says;
  due = due;
  columns = were.columns;
  tells = were.tells;
  are = were.are;
  prepared = refl;
}

last_parameter : (c : Context) (statement : PrepareOk) (earlier : List ColumnDefinition)
    (column : ColumnDefinition) (payload : Payload) (payloads : List Payload)
    (found : List Outcome) → IsColumnPacket c payload column →
    ParametersEnd c statement (earlier ++ column ∷ []) payloads found →
    ParametersLeft c statement (0 + 1) earlier (payload ∷ payloads) found
last_parameter c statement earlier column payload payloads found is end = record {
  front = payload ∷ [];
  back = payloads;
  cut = refl;
  parameters = column ∷ [];
  are = (is, tt);
  many = omega arith;
  end = end;
}

last_parameter_back : (c : Context) (b : Bool) (statement : PrepareOk)
    (earlier : List ColumnDefinition) (column : ColumnDefinition) (payload : Payload)
    (payloads : List Payload) (y : Came) (before : Option (List ColumnDefinition))
    (results : List Outcome) → deprecate_eof c ≡ b → length earlier + 1 ≡ statement.num_params →
    IsColumnPacket c payload column → Rest c payloads y →
    came_behind c (Some (statement_came statement (earlier ++ column ∷ []) [] before results
    (if b then statement_columns c statement.num_columns true else ColumnsEnd
    (Parameters statement.num_columns true) true))) payloads ≡ Some y →
    Was c (at_parameters statement 0 earlier) (payload ∷ payloads) results y
last_parameter_back c true statement earlier column payload payloads y before results due many is rest goes =
    let all : List ColumnDefinition = earlier ++ column ∷ [] in
    let were = columns_were c statement statement.num_columns all payloads y before results
    (omega (arith, many, length-append earlier (column ∷ []))) rest goes in
    record {
      found = PreparedResult statement all were.columns ∷ [];
      left = last_parameter c statement earlier column payload payloads _ is
          (parameters_end_of c statement all [] payloads None results y (manual.deprecated due)
          were);
      whole = were.whole;
    }
last_parameter_back c false statement earlier column payload payloads y before results due many is rest goes =
    let all : List ColumnDefinition = earlier ++ column ∷ [] in
    was_same c (at_parameters_end statement all) (at_parameters statement 0 earlier) payload payloads results y
    (λ found left. last_parameter c statement earlier column payload payloads found is left)
    (rest before results (at_parameters_end statement all) (
      has_one earlier column,
      due,
      omega (arith, many, length-append earlier (column ∷ [])),
    )
    (ap (λ (k : Option Came). came_behind c k payloads)
    (sym (with_none (ColumnsEnd (Parameters statement.num_columns true) true) before results
    (StatementPart statement all []))) ∙ goes))

parameter_back : (c : Context) (statement : PrepareOk) (n : ℕ) (earlier : List ColumnDefinition)
    (payload : Payload) (payloads : List Payload) (y : Came)
    (before : Option (List ColumnDefinition)) (results : List Outcome) (event : Event)
    (next : ReplySoFar) → length earlier + n + 1 ≡ statement.num_params → Rest c payloads y →
    ColumnIs c (record {
      awaited = Columns (Parameters statement.num_columns true) n [];
      columns =
          before;
    }) (Parameters statement.num_columns true) n [] payload event next →
    came_behind c (Some (with_event
    (stands (Columns (Parameters statement.num_columns true) n []) before results
    (StatementPart statement earlier [])) event next)) payloads ≡ Some y →
    Was c (at_parameters statement n earlier) (payload ∷ payloads) results y
parameter_back c statement zero earlier payload payloads y before results event next many rest
    (column_is found is) goes =
    let later : Awaited = after_columns c (Parameters statement.num_columns true) true in
    last_parameter_back c (deprecate_eof c) statement earlier found.column payload payloads y before
    results refl (omega (arith, many)) is rest
    (ap (λ (k : Put). came_behind c
    (Some (came_with results (record { awaited = later; columns = before }) k)) payloads)
    (sym (parameter_put statement earlier found.column later (omega (arith, many)))) ∙ goes)
parameter_back c statement (suc n) earlier payload payloads y before results event next many rest
    (column_is found is) goes =
    let all : List ColumnDefinition = earlier ++ found.column ∷ [] in
    let later : Awaited = Columns (Parameters statement.num_columns true) n [] in
    was_same c (at_parameters statement n all) (at_parameters statement (suc n) earlier) payload payloads results y
    (λ listed_there left. record {
      front = payload ∷ left.front;
      back = left.back;
      cut = ap (λ (k : List Payload). payload ∷ k) left.cut;
      parameters = found.column ∷ left.parameters;
      are = (is, left.are);
      many = let many = left.many in omega (arith, many);
      end = subst (λ (k : List ColumnDefinition). ParametersEnd c statement k left.back
          listed_there) (append_assoc earlier (found.column ∷ []) left.parameters) left.end;
    })
    (rest before results (at_parameters statement n all)
    (omega (arith, many, length-append earlier (found.column ∷ [])))
    (ap (λ (k : Option Came). came_behind c k payloads)
    (sym (with_none later before results (StatementPart statement all [])))
    ∙ ap (λ (k : Put). came_behind c
    (Some (came_with results (record { awaited = later; columns = before }) k)) payloads)
    (sym (parameter_put statement earlier found.column later (omega (arith, many)))) ∙ goes))

parameters_end_back : (c : Context) (statement : PrepareOk) (parameters : List ColumnDefinition)
    (payload : Payload) (payloads : List Payload) (y : Came)
    (before : Option (List ColumnDefinition)) (results : List Outcome) (event : Event)
    (next : ReplySoFar) → HasFirst parameters → deprecate_eof c ≡ false → length parameters ≡
    statement.num_params → Rest c payloads y →
    EofIs c (record {
      awaited = ColumnsEnd (Parameters statement.num_columns true) true;
      columns =
          before;
    }) (Parameters statement.num_columns true) true payload event next →
    came_behind c (Some (with_event
    (stands (ColumnsEnd (Parameters statement.num_columns true) true) before results
    (StatementPart statement parameters [])) event next)) payloads ≡ Some y →
    Was c (at_parameters_end statement parameters) (payload ∷ payloads) results y
parameters_end_back c statement parameters payload payloads y before results event next some due all
    rest (eof_is {says = says} is) goes =
    let were = columns_were c statement statement.num_columns parameters payloads y before results all rest goes in
    record {
      found = PreparedResult statement parameters were.columns ∷ [];
      left = parameters_end_of c statement parameters (payload ∷ []) payloads (Some says) results y
          (due_eof c parameters payload says some due is) were;
      whole = were.whole;
    }

back : (c : Context) (payloads : List Payload) (y : Came) → is_over y.so_far.awaited ≡ true → Rest c payloads y
back c [] y over before results place fair is = nothing_was c before results place y (some_is _ y is) over
back c (payload ∷ payloads) y over before results (at_parameters statement n parameters) fair is =
    let x : Came = came_at before results (at_parameters statement n parameters) in
    let e = has_step c x y (in_place c x.so_far x.so_far.awaited payload) payloads is in
    parameter_back c statement n parameters payload payloads y before results e.0.0 e.0.1 fair (back c payloads y over)
    (subst (OnStep (ColumnIs c x.so_far (Parameters statement.num_columns true) n [] payload)) e.1
    (column_found c x.so_far (Parameters statement.num_columns true) n [] payload))
    (goes_on_by c x y _ e.0 payloads e.1 is)
back c (payload ∷ payloads) y over before results (at_parameters_end statement parameters) fair is =
    let x : Came = came_at before results (at_parameters_end statement parameters) in
    let e = has_step c x y (in_place c x.so_far x.so_far.awaited payload) payloads is in
    parameters_end_back c statement parameters payload payloads y before results e.0.0 e.0.1 fair.0
    fair.1 fair.2 (back c payloads y over)
    (subst (OnStep (EofIs c x.so_far (Parameters statement.num_columns true) true payload)) e.1
    (eof_found c x.so_far (Parameters statement.num_columns true) true payload))
    (goes_on_by c x y _ e.0 payloads e.1 is)
back c (payload ∷ payloads) y over before results (at_columns statement parameters n columns) fair is =
    let x : Came = came_at before results (at_columns statement parameters n columns) in
    let e = has_step c x y (in_place c x.so_far x.so_far.awaited payload) payloads is in
    column_back c statement parameters n columns payload payloads y before results e.0.0 e.0.1 fair
    (back c payloads y over)
    (subst (OnStep (ColumnIs c x.so_far Statement n columns payload)) e.1
    (column_found c x.so_far Statement n columns payload))
    (goes_on_by c x y _ e.0 payloads e.1 is)
back c (payload ∷ payloads) y over before results (at_columns_end statement parameters columns) fair is =
    let x : Came = came_at before results (at_columns_end statement parameters columns) in
    let e = has_step c x y (in_place c x.so_far x.so_far.awaited payload) payloads is in
    columns_end_back c statement parameters columns payload payloads y before results e.0.0 e.0.1
    fair.0 fair.1 (back c payloads y over)
    (subst (OnStep (EofIs c x.so_far Statement true payload)) e.1
    (eof_found c x.so_far Statement true payload)) (goes_on_by c x y _ e.0 payloads e.1 is)
back c (payload ∷ payloads) y over before results at_nothing fair is =
    absurd (none_is_some y (sym (none_behind c payloads) ∙ is))

-- THE STATEMENT

-- The parameters from their first one, or none, and the columns.
pub record StatementWas (c : Context) (statement : PrepareOk) (n : ℕ) (payloads : List Payload)
    (end : Came) : Type 0 where
  pub first : List Payload
  pub second : List Payload
  pub cut : payloads ≡ first ++ second
  pub parameters : List ColumnDefinition
  pub columns : List ColumnDefinition
  pub says : Option OkPacket
  pub tells : Option OkPacket
  pub one : IsColumnGroup c n first parameters says
  pub two : IsColumnGroup c statement.num_columns second columns tells
  pub whole : end.results ++ listed end.part ≡ PreparedResult statement parameters columns ∷ []

statement_was : (c : Context) (statement : PrepareOk) (n : ℕ) (payloads : List Payload) (y : Came)
    (before : Option (List ColumnDefinition)) → n ≡ statement.num_params → Rest c payloads y →
    came_behind c (Some (statement_came statement [] [] before []
    (after_statement c n statement.num_columns true))) payloads ≡ Some y →
    StatementWas c statement n payloads y
statement_was c statement zero payloads y before many rest goes =
    let were = columns_were c statement statement.num_columns [] payloads y before [] many rest goes in
    record {
      first = [];
      second = payloads;
      cut = refl;
      parameters = [];
      columns = were.columns;
      says = None;
      tells = were.tells;
      one = group [] [] tt manual.no_columns;
      two = were.are;
      whole = were.whole;
    }
statement_was c statement (suc n) payloads y before many rest goes =
    let was = rest before [] (at_parameters statement n []) (omega (arith, many)) goes in
    let left = was.left in
    let end = left.end in
    record {
      first = left.front ++ end.end;
      second = end.second;
      cut = left.cut ∙ ap (λ (k : List Payload). left.front ++ k) end.cut ∙
          sym (append_assoc left.front end.end end.second);
      parameters = left.parameters;
      columns = end.columns;
      says = end.says;
      tells = end.tells;
      one = subst (λ (k : ℕ). IsColumnGroup c k (left.front ++ end.end) left.parameters end.says)
          (let all = left.many in omega (arith, all)) (group left.front end.end left.are end.due);
      two = end.are;
      whole = was.whole ∙ end.prepared;
    }

-- Nothing is left behind an error.
error_whole : (c : Context) (payload : Payload) (payloads : List Payload) (y : Came)
    (results : List Outcome) (before : Option (List ColumnDefinition)) → Rest c payloads y →
    IsResult c (payload ∷ []) results false →
    came_behind c (Some (stands Nothing before results NoPart)) payloads ≡ Some y →
    IsResult c (payload ∷ payloads) (y.results ++ listed y.part) false
error_whole c payload payloads y results before rest is goes =
    let was = rest before results at_nothing tt goes in
    let same : y.results ++ listed y.part ≡ results = was.whole ∙
    ap (λ (k : List Outcome). results ++ k) was.left.1 ∙ append-nil results in
    subst (λ (k : List Payload). IsResult c (payload ∷ k) (y.results ++ listed y.part) false)
    (sym was.left.0) (subst (λ (k : List Outcome). IsResult c (payload ∷ []) k false) (sym same)
    is)

first_back : (c : Context) (payload : Payload) (payloads : List Payload) (y : Came)
    (before : Option (List ColumnDefinition)) (event : Event) (next : ReplySoFar) →
    is_prepare c.kind ≡ true → Rest c payloads y →
    StatementIs c (record { awaited = First; columns = before }) payload event next →
    came_behind c (Some (with_event (stands First before [] NoPart) event next)) payloads ≡
    Some y → IsResult c (payload ∷ payloads) (y.results ++ listed y.part) false
first_back c payload payloads y before event next kind rest (error_packet {error = error} is) goes =
    error_whole c payload payloads y (ErrorResult error ∷ []) before rest (manual.error is) goes
first_back c payload payloads y before event next kind rest
    (statement_packet {statement = statement} header reads) goes =
    let was = statement_was c statement statement.num_params payloads y before refl rest goes in
    subst (λ (k : List Payload). IsResult c (payload ∷ k) (y.results ++ listed y.part) false) (sym was.cut)
    (subst (λ (k : List Outcome). IsResult c (payload ∷ was.first ++ was.second) k false)
    (sym was.whole) (manual.prepared was.first was.second kind header reads was.one was.two))

-- A reply has a first payload.
pub prepared_back : (c : Context) (before : Option (List ColumnDefinition))
    (payloads : List Payload) (y : Came) → is_prepare c.kind ≡ true → Follow c →
    is_over y.so_far.awaited ≡ true →
    came_behind c (Some (stands First before [] NoPart)) payloads ≡ Some y →
    IsResult c payloads (y.results ++ listed y.part) false
prepared_back c before [] y kind follow over is =
    absurd (true≢false (sym (ap (λ (k : Came). is_over k.so_far.awaited) (some_is _ y is) ∙ over)))
prepared_back c before (payload ∷ payloads) y kind follow over is =
    let x : Came = stands First before [] NoPart in
    let e = has_step c x y (in_place c x.so_far First payload) payloads is in
    first_back c payload payloads y before e.0.0 e.0.1 kind (back c payloads y over)
    (subst (OnStep (StatementIs c x.so_far payload)) e.1
    (statement_found c x.so_far payload kind follow)) (goes_on_by c x y _ e.0 payloads e.1 is)
