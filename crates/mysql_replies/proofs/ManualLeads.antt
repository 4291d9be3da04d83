-- What the payloads of a result in the manual's words lead to: what it lists, and whether another one follows.
use Rattle.std.proofs.Common.{◌≡◌, ℕ, ◌+◌, ◌-◌, ◌<◌, List, [], ◌∷◌, ◌++◌, length, Bool, true, false, Option, Some, None}
use Rattle.std.proofs.Common.{refl, ap, sym, subst, arith, ◌∙◌, if◌then◌else◌, append_assoc, length-append}
use Rattle.std.specs.Prelude.{◌&&◌, nat_lt}
use Rattle.std.proofs.lemmas.Bool.{true≢false, false_from_ne_true, lt-ltb, ltb-true}
use Rattle.std.proofs.lemmas.List.{append-nil}
use Rattle.mysql_columns.specs.Columns.{ColumnDefinition}
use Rattle.mysql_ok_packets.specs.OkPackets.{OkPacket, more_results_exist}
use Rattle.mysql_server_packets.specs.Packets.{PrepareOk}
use Rattle.mysql_rows.specs.Rows.{Row}
use Rattle.mysql_reply_events.specs.Events.{Awaited, Payload, ReplySoFar}
use Rattle.mysql_reply_events.specs.Events.Awaited.{Columns, ColumnsEnd, FileData, First, Nothing, Rows}
use Rattle.mysql_reply_events.specs.Events.Group.{Parameters, ResultSet, Statement}
use Rattle.mysql_row_refs.specs.Lines.{begins_with}
use Rattle.mysql_reply_events.specs.Readings.{deprecate_eof, prepared_at}
use Rattle.mysql_reply_events.specs.Table.{after_columns, after_result, after_statement, cursor_exists, has_results}
use Rattle.mysql_reply_events.specs.Table.{is_execution, statement_columns}
use Rattle.mysql_reply_events.specs.declared.context.Context.{Context}
use Rattle.mysql_replies.specs.Together.{ErrorResult, FileResult, NoPart, OkResult, Outcome, Part, PreparedResult, Put}
use Rattle.mysql_replies.specs.Together.{RowsPart, RowsResult, SetPart, StatementPart, listed, set_at, set_behind}
use Rattle.mysql_replies.specs.Together.{statement_at, statement_with}
use Rattle.mysql_replies.specs.Reply.{is_over}
use Rattle.mysql_replies.specs.Manual as manual
use Rattle.mysql_replies.specs.Manual.{AreColumns, AreRows, EndedRows, IsColumnGroup, IsColumnPacket, IsCount, IsEof}
use Rattle.mysql_replies.specs.Manual.{IsEofDue, IsResult, Reads, group, is_prepare, opens_cursor}
use Rattle.mysql_replies.proofs.Came.{Came, and_then, by_event, came_behind, came_by}
use Rattle.mysql_replies.proofs.ManualReadings.{column_event, count_event, eof_event, error_event, file_event, if_false}
use Rattle.mysql_replies.proofs.ManualReadings.{if_true, ok_event, prepared_event, row_event, terminator_event}

-- What is put is there behind these results.
abbrev pub came_with : List Outcome → ReplySoFar → Put → Came
came_with results next put = record { so_far = next; results = results ++ put.results; part = put.part }

abbrev pub stands : Awaited → Option (List ColumnDefinition) → List Outcome → Part → Came
stands awaited columns results part =
    record {
      so_far = record { awaited = awaited; columns = columns };
      results = results;
      part =
          part;
    }

-- No result more.
pub with_none : (awaited : Awaited) (columns : Option (List ColumnDefinition))
    (results : List Outcome) (part : Part) → Some (stands awaited columns (results ++ []) part) ≡
    Some (stands awaited columns results part)
with_none awaited columns results part =
    ap (λ (k : List Outcome). Some (stands awaited columns k part)) (append-nil results)

-- COLUMNS OF A RESULT SET

-- Behind the last column, and the EOF that is due.
abbrev pub set_columns_at : Context → List ColumnDefinition → List Outcome → Came
set_columns_at c columns results =
    stands (after_columns c ResultSet true) (Some columns) results
    (set_at true columns (after_columns c ResultSet true))

columns_lead : (c : Context) (before : Option (List ColumnDefinition)) (results : List Outcome)
    (earlier : List ColumnDefinition) (payload : Payload) (payloads : List Payload)
    (column : ColumnDefinition) (columns : List ColumnDefinition) →
    IsColumnPacket c payload column → AreColumns c payloads columns →
    came_behind c (Some (stands (Columns ResultSet (length columns) earlier) before results
    (SetPart true))) (payload ∷ payloads) ≡
    Some (set_columns_at c (earlier ++ column ∷ columns) results)
columns_lead c before results earlier payload [] column [] is are =
    by_event c (stands (Columns ResultSet 0 earlier) before results (SetPart true)) payload _ _
    (column_event c (record { awaited = Columns ResultSet 0 earlier; columns = before })
    ResultSet 0 earlier payload column is)
    ∙ ap (λ (k : ColumnDefinition). Some (set_columns_at c (earlier ++ k ∷ []) (results ++ []))) (sym is.listed)
    ∙ ap (λ (k : List Outcome). Some (set_columns_at c (earlier ++ column ∷ []) k)) (append-nil results)
columns_lead c before results earlier payload [] column (next ∷ columns) is are = absurd are
columns_lead c before results earlier payload (following ∷ payloads) column [] is are = absurd are
columns_lead c before results earlier payload (following ∷ payloads) column (next ∷ columns) is are =
    let one : came_by c (Some
    (stands (Columns ResultSet (length (next ∷ columns)) earlier) before results
    (SetPart true))) payload ≡
    Some (stands (Columns ResultSet (length columns) (earlier ++ column ∷ [])) before results
    (SetPart true)) =
    by_event c (stands (Columns ResultSet (length (next ∷ columns)) earlier) before results
    (SetPart true)) payload _ _
    (column_event c (record {
      awaited =
          Columns ResultSet (length (next ∷ columns)) earlier;
      columns = before;
    }) ResultSet
    (length (next ∷ columns)) earlier payload column is)
    ∙ ap (λ (k : ColumnDefinition). Some
    (stands (Columns ResultSet (length columns) (earlier ++ k ∷ [])) before (results ++
    []) (SetPart true))) (sym is.listed)
    ∙ with_none _ _ results _ in
    ap (λ (k : Option Came). came_behind c k (following ∷ payloads)) one
    ∙ columns_lead c before results (earlier ++ column ∷ []) following payloads next columns are.0 are.1
    ∙ ap (λ (k : List ColumnDefinition). Some (set_columns_at c k results))
    (append_assoc earlier (column ∷ []) (next ∷ columns))

-- A result set whose rows are due, or are fetched from a cursor.
abbrev pub set_by : Context → Bool → List ColumnDefinition → List Outcome → OkPacket → Came
set_by c true columns results ok =
    stands (after_result c ok) (Some columns) (results ++ RowsResult columns [] (Some ok) ∷
    []) NoPart
set_by c false columns results ok = stands (Rows true) (Some columns) results (RowsPart columns [])

cursor_by : (c : Context) (b : Bool) (columns : List ColumnDefinition) (results : List Outcome) (ok : OkPacket) →
    came_with results (record { awaited = if b then First else Nothing; columns = Some columns })
    (set_behind true columns ok (if b then First else Nothing)) ≡
    stands (if b then First else Nothing) (Some columns) (results ++
    RowsResult columns [] (Some ok) ∷ []) NoPart
cursor_by c true columns results ok = refl
cursor_by c false columns results ok = refl

pub set_end : (c : Context) (cursor : Bool) (columns : List ColumnDefinition) (results : List Outcome) (ok : OkPacket) →
    Some (came_with results (record {
      awaited =
          if cursor then after_result c ok else Rows true;
      columns = Some columns;
    })
    (set_behind true columns ok (if cursor then after_result c ok else Rows true))) ≡
    Some (set_by c cursor columns results ok)
set_end c true columns results ok =
    ap Some (cursor_by c (has_results c.kind && more_results_exist ok.status_flags) columns results
    ok)
set_end c false columns results ok = with_none _ _ results _

eof_leads : (c : Context) (columns : List ColumnDefinition) (results : List Outcome)
    (payload : Payload) (says : OkPacket) → deprecate_eof c ≡ false → IsEof payload says →
    came_behind c (Some (set_columns_at c columns results)) (payload ∷ []) ≡
    Some (set_by c (opens_cursor c (Some says)) columns results says)
eof_leads c columns results payload says due is =
    let at : after_columns c ResultSet true ≡ ColumnsEnd ResultSet true = if_false (deprecate_eof c) _ _ due in
    ap (λ (a : Awaited). came_by c (Some (stands a (Some columns) results (set_at true columns a))) payload) at
    ∙ by_event c (stands (ColumnsEnd ResultSet true) (Some columns) results (SetPart true)) payload
    _ _ (eof_event c (record { awaited = ColumnsEnd ResultSet true; columns = Some columns })
    ResultSet true payload says is)
    ∙ set_end c (is_execution c.kind && cursor_exists says) columns results says

-- No EOF is due.
rows_at_once : (c : Context) (columns : List ColumnDefinition) (results : List Outcome) →
    deprecate_eof c ≡ true → Some (set_columns_at c columns results) ≡
    Some (stands (Rows true) (Some columns) results (RowsPart columns []))
rows_at_once c columns results due =
    ap (λ (a : Awaited). Some (stands a (Some columns) results (set_at true columns a)))
    (if_true (deprecate_eof c) _ _ due)

-- What a result set is behind its columns.
abbrev pub set_said : Context → Option OkPacket → List ColumnDefinition → List Outcome → Came
set_said c None columns results = stands (Rows true) (Some columns) results (RowsPart columns [])
set_said c (Some ok) columns results = set_by c (opens_cursor c (Some ok)) columns results ok

end_leads : (c : Context) (columns : List ColumnDefinition) (results : List Outcome)
    (end : List Payload) (says : Option OkPacket) → 0 < length columns →
    IsEofDue c columns end says →
    came_behind c (Some (set_columns_at c columns results)) end ≡ Some (set_said c says columns results)
end_leads c columns results end says some manual.no_columns = absurd (omega (arith, some))
end_leads c columns results end says some (manual.deprecated due) = rows_at_once c columns results due
end_leads c columns results end says some
    (manual.eof {first = first} {others = others} {payload = payload} {says = ok} due is) =
    eof_leads c (first ∷ others) results payload ok due is

-- The columns of a result set, behind its count.
some_columns_lead : (c : Context) (before : Option (List ColumnDefinition)) (results : List Outcome)
    (n : ℕ) (payloads : List Payload) (columns : List ColumnDefinition) → n ≡ length columns →
    0 < n → AreColumns c payloads columns →
    came_behind c (Some (stands (Columns ResultSet (n - 1) []) before results (SetPart true)))
    payloads ≡ Some (set_columns_at c columns results)
some_columns_lead c before results n [] [] is some are = absurd (omega (arith, is, some))
some_columns_lead c before results n [] (column ∷ columns) is some are = absurd are
some_columns_lead c before results n (payload ∷ payloads) [] is some are = absurd are
some_columns_lead c before results n (payload ∷ payloads) (column ∷ columns) is some are =
    let fewer : n - 1 ≡ length columns = omega (arith, is) in
    ap (λ (k : ℕ). came_behind c
    (Some (stands (Columns ResultSet k []) before results (SetPart true))) (payload ∷ payloads))
    fewer
    ∙ columns_lead c before results [] payload payloads column columns are.0 are.1

group_leads : (c : Context) (before : Option (List ColumnDefinition)) (results : List Outcome)
    (n : ℕ) (payloads : List Payload) (columns : List ColumnDefinition) (says : Option OkPacket) →
    0 < n → IsColumnGroup c n payloads columns says →
    came_behind c (Some (stands (Columns ResultSet (n - 1) []) before results (SetPart true)))
    payloads ≡ Some (set_said c says columns results)
group_leads c before results n payloads columns says some (group front end are due) =
    and_then c _ (Some (set_columns_at c columns results)) _ front end
    (some_columns_lead c before results (length columns) front columns refl some are)
    (end_leads c columns results end says some due)

set_leads : (c : Context) (before : Option (List ColumnDefinition)) (results : List Outcome) (n : ℕ)
    (count : Payload) (payloads : List Payload) (columns : List ColumnDefinition)
    (says : Option OkPacket) → has_results c.kind ≡ true → IsCount c count n →
    IsColumnGroup c n payloads columns says →
    came_behind c (Some (stands First before results NoPart)) (count ∷ payloads) ≡
    Some (set_said c says columns results)
set_leads c before results n count payloads columns says kind is are =
    ap (λ (k : Option Came). came_behind c k payloads)
    (by_event c (stands First before results NoPart) count _ _
    (count_event c (record { awaited = First; columns = before }) count n kind is) ∙
    with_none _ _ results _)
    ∙ group_leads c before results n payloads columns says is.some are

due_rows : (c : Context) (says : Option OkPacket) (columns : List ColumnDefinition)
    (results : List Outcome) → opens_cursor c says ≡ false → set_said c says columns results ≡
    stands (Rows true) (Some columns) results (RowsPart columns [])
due_rows c None columns results denied = refl
due_rows c (Some ok) columns results denied = ap (λ (b : Bool). set_by c b columns results ok) denied

-- Behind the columns of a result set its rows are due.
pub due_set_leads : (c : Context) (before : Option (List ColumnDefinition)) (results : List Outcome)
    (n : ℕ) (count : Payload) (payloads : List Payload) (columns : List ColumnDefinition)
    (says : Option OkPacket) → has_results c.kind ≡ true → IsCount c count n →
    IsColumnGroup c n payloads columns says → opens_cursor c says ≡ false →
    came_behind c (Some (stands First before results NoPart)) (count ∷ payloads) ≡
    Some (stands (Rows true) (Some columns) results (RowsPart columns []))
due_set_leads c before results n count payloads columns says kind is are denied =
    set_leads c before results n count payloads columns says kind is are ∙
    ap Some (due_rows c says columns results denied)

-- ROWS

pub rows_lead : (c : Context) (columns : List ColumnDefinition) (results : List Outcome)
    (these : List Row) (payloads : List Payload) (rows : List Row) →
    AreRows c columns payloads rows →
    came_behind c (Some (stands (Rows true) (Some columns) results (RowsPart columns these)))
    payloads ≡ Some (stands (Rows true) (Some columns) results
    (RowsPart columns (these ++ rows)))
rows_lead c columns results these [] [] are =
    ap (λ (k : List Row). Some (stands (Rows true) (Some columns) results (RowsPart columns k)))
    (sym (append-nil these))
rows_lead c columns results these [] (row ∷ rows) are = absurd are
rows_lead c columns results these (payload ∷ payloads) [] are = absurd are
rows_lead c columns results these (payload ∷ payloads) (row ∷ rows) are =
    let one : came_by c (Some (stands (Rows true) (Some columns) results (RowsPart columns these)))
    payload ≡ Some (stands (Rows true) (Some columns) results
    (RowsPart columns (these ++ row ∷ []))) =
    by_event c (stands (Rows true) (Some columns) results (RowsPart columns these)) payload _ _
    (row_event c (Rows true) columns payload row are.0) ∙ with_none _ _ results _ in
    ap (λ (k : Option Came). came_behind c k payloads) one
    ∙ rows_lead c columns results (these ++ row ∷ []) payloads rows are.1
    ∙ ap (λ (k : List Row). Some (stands (Rows true) (Some columns) results (RowsPart columns k)))
    (append_assoc these (row ∷ []) rows)

-- RESULTS

-- Behind a result another one is due, or nothing more of the server.
abbrev pub Closes : Bool → Came → Type 0
Closes true x = (x.so_far.awaited ≡ First) × (x.part ≡ NoPart)
Closes false x = is_over x.so_far.awaited ≡ true

-- What payloads lead to behind these results: these more, of which the last is whole.
pub record Leads (c : Context) (x : Came) (payloads : List Payload) (results : List Outcome)
    (more : Bool) : Type 0 where
  pub end : Came
  pub is : came_behind c (Some x) payloads ≡ Some end
  pub whole : end.results ≡ x.results ++ results
  pub no_part : listed end.part ≡ []
  pub closes : Closes more end

closes_by : (kind more : Bool) (columns : Option (List ColumnDefinition)) (results : List Outcome) →
    kind ≡ true → Closes more
    (stands (if kind && more then First else Nothing) columns results NoPart)
closes_by true true columns results is = (refl, refl)
closes_by true false columns results is = refl
closes_by false more columns results is = absurd (true≢false (sym is))

ended_leads : (c : Context) (columns : List ColumnDefinition) (results : List Outcome)
    (payloads : List Payload) (found : List Outcome) (more : Bool) → has_results c.kind ≡ true →
    EndedRows c columns payloads found more →
    Leads c (stands (Rows true) (Some columns) results (RowsPart columns [])) payloads found more
ended_leads c columns results payloads found more kind
    (manual.terminated front {rows = rows} {last = last} {ok = ok} are is) = record {
      end = stands (after_result c ok) (Some columns) (results ++ RowsResult columns rows (Some ok) ∷ []) NoPart;
      is = and_then c _ (Some (stands (Rows true) (Some columns) results (RowsPart columns rows))) _
          front (last ∷ []) (rows_lead c columns results [] front rows are)
          (by_event c (stands (Rows true) (Some columns) results (RowsPart columns rows)) last _ _
          (terminator_event c (record { awaited = Rows true; columns = Some columns }) true last ok
          is));
      whole = refl;
      no_part = refl;
      closes = closes_by (has_results c.kind) (more_results_exist ok.status_flags) (Some columns) _ kind;
    }
ended_leads c columns results payloads found more kind
    (manual.failed front {rows = rows} {last = last} {error = error} are is) = record {
      end = stands Nothing (Some columns) (results ++ RowsResult columns rows None ∷ ErrorResult error ∷ []) NoPart;
      is = and_then c _ (Some (stands (Rows true) (Some columns) results (RowsPart columns rows))) _
          front (last ∷ []) (rows_lead c columns results [] front rows are)
          (by_event c (stands (Rows true) (Some columns) results (RowsPart columns rows)) last _ _
          (error_event c (record { awaited = Rows true; columns = Some columns }) last error _ is));
      whole = refl;
      no_part = refl;
      closes = refl;
    }

-- Others behind payloads that lead there.
leads_behind : (c : Context) (x y : Came) (front back : List Payload) (results : List Outcome)
    (more : Bool) → came_behind c (Some x) front ≡ Some y → y.results ≡ x.results →
    Leads c y back results more → Leads c x (front ++ back) results more
leads_behind c x y front back results more first same leads = record {
  end = leads.end;
  is = and_then c (Some x) (Some y) (Some leads.end) front back first leads.is;
  whole = leads.whole ∙ ap (λ (k : List Outcome). k ++ results) same;
  no_part = leads.no_part;
  closes = leads.closes;
}

-- STATEMENTS

abbrev pub statement_came : PrepareOk → List ColumnDefinition → List ColumnDefinition →
    Option (List ColumnDefinition) → List Outcome → Awaited → Came
statement_came statement parameters columns before results awaited =
    came_with results (record { awaited = awaited; columns = before })
    (statement_at statement parameters columns awaited)

-- One column of the parameters.
pub parameter_put : (statement : PrepareOk) (parameters : List ColumnDefinition)
    (column : ColumnDefinition) (awaited : Awaited) → length parameters < statement.num_params →
    statement_with statement parameters [] column awaited ≡
    statement_at statement (parameters ++ column ∷ []) [] awaited
parameter_put statement parameters column awaited fewer =
    if_true (nat_lt (length parameters) statement.num_params) _ _
    (lt-ltb (length parameters) statement.num_params fewer)

parameters_lead : (c : Context) (statement : PrepareOk) (m : ℕ)
    (before : Option (List ColumnDefinition)) (results : List Outcome)
    (earlier : List ColumnDefinition) (payload : Payload) (payloads : List Payload)
    (column : ColumnDefinition) (columns : List ColumnDefinition) →
    length earlier + length columns + 1 ≡ statement.num_params → IsColumnPacket c payload column →
    AreColumns c payloads columns →
    came_behind c (Some (stands (Columns (Parameters m true) (length columns) []) before results
    (StatementPart statement earlier []))) (payload ∷ payloads) ≡
    Some (statement_came statement (earlier ++ column ∷ columns) [] before results
    (after_columns c (Parameters m true) true))
parameters_lead c statement m before results earlier payload [] column [] many is are =
    by_event c (stands (Columns (Parameters m true) 0 []) before results
    (StatementPart statement earlier [])) payload _ _
    (column_event c (record { awaited = Columns (Parameters m true) 0 []; columns = before })
    (Parameters m true) 0 [] payload column is)
    ∙ ap (λ (k : ColumnDefinition). Some
    (came_with results (record {
      awaited = after_columns c (Parameters m true) true;
      columns =
          before;
    }) (statement_with statement earlier [] k
    (after_columns c (Parameters m true) true)))) (sym is.listed)
    ∙ ap (λ (k : Put). Some (came_with results
    (record { awaited = after_columns c (Parameters m true) true; columns = before }) k))
    (parameter_put statement earlier column (after_columns c (Parameters m true) true)
    (omega (arith, many)))
parameters_lead c statement m before results earlier payload [] column (next ∷ columns) many is are = absurd are
parameters_lead c statement m before results earlier payload (following ∷ payloads) column [] many is are = absurd are
parameters_lead c statement m before results earlier payload (following ∷ payloads) column (next ∷
    columns) many is are =
    let x : Came = stands (Columns (Parameters m true) (length (next ∷ columns)) []) before results
    (StatementPart statement earlier []) in
    let later : Awaited = Columns (Parameters m true) (length columns) [] in
    let one : came_by c (Some x) payload ≡
    Some (stands later before results (StatementPart statement (earlier ++ column ∷ []) [])) =
    by_event c x payload _ _ (column_event c x.so_far (Parameters m true) (length (next ∷ columns))
    [] payload column is)
    ∙ ap (λ (k : ColumnDefinition). Some
    (came_with results (record { awaited = later; columns = before })
    (statement_with statement earlier [] k later))) (sym is.listed)
    ∙ ap (λ (k : Put). Some (came_with results (record { awaited = later; columns = before }) k))
    (parameter_put statement earlier column later (omega (arith, many)))
    ∙ with_none _ _ results _ in
    ap (λ (k : Option Came). came_behind c k (following ∷ payloads)) one
    ∙ parameters_lead c statement m before results (earlier ++ column ∷ []) following payloads next
    columns (omega (arith, many, length-append earlier (column ∷ []))) are.0 are.1
    ∙ ap (λ (k : List ColumnDefinition). Some
    (statement_came statement k [] before results (after_columns c (Parameters m true) true)))
    (append_assoc earlier (column ∷ []) (next ∷ columns))

parameters_end : (c : Context) (statement : PrepareOk) (m : ℕ)
    (before : Option (List ColumnDefinition)) (results : List Outcome)
    (parameters : List ColumnDefinition) (end : List Payload) (says : Option OkPacket) →
    0 < length parameters → IsEofDue c parameters end says →
    came_behind c (Some (statement_came statement parameters [] before results
    (after_columns c (Parameters m true) true))) end ≡
    Some (statement_came statement parameters [] before results (statement_columns c m true))
parameters_end c statement m before results parameters end says some manual.no_columns = absurd (omega (arith, some))
parameters_end c statement m before results parameters end says some (manual.deprecated due) =
    ap (λ (a : Awaited). Some (statement_came statement parameters [] before results a))
    (if_true (deprecate_eof c) _ _ due)
parameters_end c statement m before results parameters end says some
    (manual.eof {payload = payload} {says = ok} due is) =
    let x : Came = statement_came statement parameters [] before results (ColumnsEnd (Parameters m true) true) in
    ap (λ (a : Awaited). came_by c (Some (statement_came statement parameters [] before results a))
    payload) (if_false (deprecate_eof c) _ _ due)
    ∙ by_event c x payload _ _ (eof_event c x.so_far (Parameters m true) true payload ok is)
    ∙ ap (λ (k : List Outcome). Some
    (statement_came statement parameters [] before k (statement_columns c m true)))
    (append-nil results)

-- The parameters of a statement, behind its packet.
parameters_group : (c : Context) (statement : PrepareOk) (n m : ℕ)
    (before : Option (List ColumnDefinition)) (results : List Outcome) (payloads : List Payload)
    (parameters : List ColumnDefinition) (says : Option OkPacket) → n ≡ statement.num_params →
    IsColumnGroup c n payloads parameters says →
    came_behind c (Some (statement_came statement [] [] before results
    (after_statement c n m true))) payloads ≡
    Some (statement_came statement parameters [] before results (statement_columns c m true))
parameters_group c statement n m before results payloads parameters says many
    (group front end are due) = by_parameters front parameters end says are due many where
      by_parameters : (front : List Payload) (parameters : List ColumnDefinition) (end : List Payload)
          (says : Option OkPacket) → AreColumns c front parameters → IsEofDue c parameters end says →
          length parameters ≡ statement.num_params →
          came_behind c (Some (statement_came statement [] [] before results
          (after_statement c (length parameters) m true))) (front ++ end) ≡
          Some (statement_came statement parameters [] before results (statement_columns c m true))
      by_parameters [] [] end says are manual.no_columns many = refl
      by_parameters [] [] end says are (manual.deprecated due) many = refl
      by_parameters [] (column ∷ columns) end says are due many = absurd are
      by_parameters (payload ∷ front) [] end says are due many = absurd are
      by_parameters (payload ∷ front) (column ∷ columns) end says are due many =
          and_then c (Some (statement_came statement [] [] before results
          (Columns (Parameters m true) (length columns) [])))
          (Some (statement_came statement (column ∷ columns) [] before results
          (after_columns c (Parameters m true) true)))
          (Some (statement_came statement (column ∷ columns) [] before results
          (statement_columns c m true))) (payload ∷ front) end
          (ap (λ (k : Option Came). came_behind c k (payload ∷ front))
          (with_none (Columns (Parameters m true) (length columns) []) before results
          (StatementPart statement [] [])) ∙
          parameters_lead c statement m before results [] payload front column columns
          (omega (arith, many)) are.0 are.1)
          (parameters_end c statement m before results (column ∷ columns) end says (omega arith) due)

-- One column of the statement.
pub column_put : (statement : PrepareOk) (parameters columns : List ColumnDefinition)
    (column : ColumnDefinition) (awaited : Awaited) → length parameters ≡ statement.num_params →
    statement_with statement parameters columns column awaited ≡
    statement_at statement parameters (columns ++ column ∷ []) awaited
column_put statement parameters columns column awaited all =
    if_false (nat_lt (length parameters) statement.num_params) _ _
    (false_from_ne_true _ (λ less. let fewer =
    ltb-true (length parameters) statement.num_params less in omega (arith, all, fewer)))

statement_columns_lead : (c : Context) (statement : PrepareOk)
    (before : Option (List ColumnDefinition)) (results : List Outcome)
    (parameters earlier : List ColumnDefinition) (payload : Payload) (payloads : List Payload)
    (column : ColumnDefinition) (columns : List ColumnDefinition) →
    length parameters ≡ statement.num_params → IsColumnPacket c payload column → AreColumns c payloads columns →
    came_behind c (Some (stands (Columns Statement (length columns) earlier) before results
    (StatementPart statement parameters earlier))) (payload ∷ payloads) ≡
    Some (statement_came statement parameters (earlier ++ column ∷
    columns) (Some (earlier ++ column ∷ columns)) results (after_columns c Statement true))
statement_columns_lead c statement before results parameters earlier payload [] column [] all is are =
    by_event c (stands (Columns Statement 0 earlier) before results
    (StatementPart statement parameters earlier)) payload _ _
    (column_event c (record { awaited = Columns Statement 0 earlier; columns = before })
    Statement 0 earlier payload column is)
    ∙ ap (λ (k : ColumnDefinition). Some
    (came_with results (record {
      awaited = after_columns c Statement true;
      columns =
          Some (earlier ++ k ∷ []);
    })
    (statement_with statement parameters earlier k (after_columns c Statement true))))
    (sym is.listed)
    ∙ ap (λ (k : Put). Some (came_with results
    (record {
      awaited = after_columns c Statement true;
      columns =
          Some (earlier ++ column ∷ []);
    }) k))
    (column_put statement parameters earlier column (after_columns c Statement true) all)
statement_columns_lead c statement before results parameters earlier payload [] column (next ∷
    columns) all is are = absurd are
statement_columns_lead c statement before results parameters earlier payload (following ∷
    payloads) column [] all is are = absurd are
statement_columns_lead c statement before results parameters earlier payload (following ∷
    payloads) column (next ∷ columns) all is are =
    let x : Came = stands (Columns Statement (length (next ∷ columns)) earlier) before results
    (StatementPart statement parameters earlier) in
    let one : came_by c (Some x) payload ≡
    Some (stands (Columns Statement (length columns) (earlier ++ column ∷ [])) before results
    (StatementPart statement parameters (earlier ++ column ∷ []))) =
    by_event c x payload _ _ (column_event c x.so_far Statement (length (next ∷ columns)) earlier payload column is)
    ∙ ap (λ (k : ColumnDefinition). Some
    (came_with results (record {
      awaited =
          Columns Statement (length columns) (earlier ++ k ∷ []);
      columns = before;
    })
    (statement_with statement parameters earlier k
    (Columns Statement (length columns) (earlier ++ k ∷ []))))) (sym is.listed)
    ∙ ap (λ (k : Put). Some (came_with results
    (record {
      awaited = Columns Statement (length columns) (earlier ++ column ∷ []);
      columns =
          before;
    }) k)) (column_put statement parameters earlier column
    (Columns Statement (length columns) (earlier ++ column ∷ [])) all)
    ∙ with_none _ _ results _ in
    ap (λ (k : Option Came). came_behind c k (following ∷ payloads)) one
    ∙ statement_columns_lead c statement before results parameters (earlier ++ column ∷
    []) following payloads next columns all are.0 are.1
    ∙ ap (λ (k : List ColumnDefinition). Some
    (statement_came statement parameters k (Some k) results (after_columns c Statement true)))
    (append_assoc earlier (column ∷ []) (next ∷ columns))

-- The statement is whole.
abbrev pub prepared_came : PrepareOk → List ColumnDefinition → List ColumnDefinition →
    Option (List ColumnDefinition) → List Outcome → Came
prepared_came statement parameters columns before results =
    stands Nothing before (results ++ PreparedResult statement parameters columns ∷ []) NoPart

columns_end : (c : Context) (statement : PrepareOk) (before : Option (List ColumnDefinition))
    (results : List Outcome) (parameters columns : List ColumnDefinition) (end : List Payload)
    (says : Option OkPacket) → 0 < length columns → IsEofDue c columns end says →
    came_behind c (Some (statement_came statement parameters columns before results
    (after_columns c Statement true))) end ≡
    Some (prepared_came statement parameters columns before results)
columns_end c statement before results parameters columns end says some manual.no_columns = absurd (omega (arith, some))
columns_end c statement before results parameters columns end says some (manual.deprecated due) =
    ap (λ (a : Awaited). Some (statement_came statement parameters columns before results a))
    (if_true (deprecate_eof c) _ _ due)
columns_end c statement before results parameters columns end says some
    (manual.eof {payload = payload} {says = ok} due is) =
    let x : Came = statement_came statement parameters columns before results (ColumnsEnd Statement true) in
    ap (λ (a : Awaited). came_by c
    (Some (statement_came statement parameters columns before results a)) payload)
    (if_false (deprecate_eof c) _ _ due)
    ∙ by_event c x payload _ _ (eof_event c x.so_far Statement true payload ok is)
    ∙ ap (λ (k : List Outcome). Some (prepared_came statement parameters columns before k)) (append-nil results)

-- The columns of a statement, and its end.
columns_group : (c : Context) (statement : PrepareOk) (n : ℕ)
    (before : Option (List ColumnDefinition)) (results : List Outcome) (payloads : List Payload)
    (parameters columns : List ColumnDefinition) (says : Option OkPacket) → length parameters ≡
    statement.num_params → IsColumnGroup c n payloads columns says →
    (stand : Option (List ColumnDefinition)) ×
    (came_behind c (Some (statement_came statement parameters [] before results
    (statement_columns c n true))) payloads ≡
    Some (prepared_came statement parameters columns stand results))
columns_group c statement n before results payloads parameters columns says all
    (group front end are due) = by_columns front columns end says are due where
      by_columns : (front : List Payload) (columns : List ColumnDefinition) (end : List Payload)
          (says : Option OkPacket) → AreColumns c front columns → IsEofDue c columns end says →
          (stand : Option (List ColumnDefinition)) ×
          (came_behind c (Some (statement_came statement parameters [] before results
          (statement_columns c (length columns) true))) (front ++ end) ≡
          Some (prepared_came statement parameters columns stand results))
      by_columns [] [] end says are manual.no_columns = (before, refl)
      by_columns [] [] end says are (manual.deprecated due) = (before, refl)
      by_columns [] (column ∷ columns) end says are due = absurd are
      by_columns (payload ∷ front) [] end says are due = absurd are
      by_columns (payload ∷ front) (column ∷ columns) end says are due = (
        Some (column ∷ columns),
        and_then c (Some (statement_came statement parameters [] before results
            (Columns Statement (length columns) [])))
            (Some (statement_came statement parameters (column ∷ columns) (Some (column ∷ columns))
            results (after_columns c Statement true)))
            (Some (prepared_came statement parameters (column ∷ columns) (Some (column ∷ columns))
            results)) (payload ∷ front) end
            (ap (λ (k : Option Came). came_behind c k (payload ∷ front))
            (with_none (Columns Statement (length columns) []) before results
            (StatementPart statement parameters [])) ∙
            statement_columns_lead c statement before results parameters [] payload front column
            columns all are.0 are.1)
            (columns_end c statement (Some (column ∷ columns)) results parameters (column ∷
            columns) end says (omega arith) due),
      )

group_length : (c : Context) (n : ℕ) (payloads : List Payload) (columns : List ColumnDefinition)
    (says : Option OkPacket) → IsColumnGroup c n payloads columns says → length columns ≡ n
group_length c n payloads columns says (group front end are due) = refl

prepared_leads : (c : Context) (before : Option (List ColumnDefinition)) (results : List Outcome)
    (packet : Payload) (statement : PrepareOk) (first second : List Payload)
    (parameters columns : List ColumnDefinition) (says tells : Option OkPacket) →
    is_prepare c.kind ≡ true → begins_with 0 packet ≡ true →
    Reads (prepared_at c packet) (statement, true) →
    IsColumnGroup c statement.num_params first parameters says →
    IsColumnGroup c statement.num_columns second columns tells →
    Leads c (stands First before results NoPart) (packet ∷ first ++
    second) (PreparedResult statement parameters columns ∷ []) false
prepared_leads c before results packet statement first second parameters columns says tells kind begins reads one two =
    let one_is : came_by c (Some (stands First before results NoPart)) packet ≡
    Some (statement_came statement [] [] before results
    (after_statement c statement.num_params statement.num_columns true)) =
    by_event c (stands First before results NoPart) packet _ _
    (prepared_event c (record { awaited = First; columns = before }) packet statement kind
    begins reads) in
    let front = parameters_group c statement statement.num_params statement.num_columns before
    results first parameters says refl one in
    let back = columns_group c statement statement.num_columns before results second parameters
    columns tells (group_length c statement.num_params first parameters says one) two in
    record {
      end = prepared_came statement parameters columns back.0 results;
      is = ap (λ (k : Option Came). came_behind c k (first ++ second)) one_is ∙
          and_then c _ (Some (statement_came statement parameters [] before results
          (statement_columns c statement.num_columns true))) _ first second front back.1;
      whole = refl;
      no_part = refl;
      closes = refl;
    }

-- What there is of a result before its first payload: nothing, where the manual has one.
pub record FitsKind (c : Context) (part : Part) : Type 0 where
  pub nothing : listed part ≡ []
  pub results : has_results c.kind ≡ true → part ≡ NoPart
  pub prepare : is_prepare c.kind ≡ true → part ≡ NoPart

from_part : (c : Context) (before : Option (List ColumnDefinition)) (results : List Outcome)
    (part : Part) (payloads : List Payload) (found : List Outcome) (more : Bool) → part ≡ NoPart →
    Leads c (stands First before results NoPart) payloads found more →
    Leads c (stands First before results part) payloads found more
from_part c before results part payloads found more is leads =
    subst (λ (k : Part). Leads c (stands First before results k) payloads found more) (sym is) leads

pub result_leads : (c : Context) (before : Option (List ColumnDefinition)) (results : List Outcome)
    (part : Part) (payloads : List Payload) (found : List Outcome) (more : Bool) → FitsKind c part →
    IsResult c payloads found more → Leads c (stands First before results part) payloads found more
result_leads c before results part payloads found more fits (manual.ok {payload = payload} {ok = ok} kind is) =
    from_part c before results part payloads found more (fits.results kind) (record {
      end = stands (after_result c ok) before (results ++ OkResult ok ∷ []) NoPart;
      is = by_event c (stands First before results NoPart) payload _ _
          (ok_event c (record { awaited = First; columns = before }) payload ok kind is);
      whole = refl;
      no_part = refl;
      closes = closes_by (has_results c.kind) (more_results_exist ok.status_flags) before _ kind;
    })
result_leads c before results part payloads found more fits
    (manual.error {payload = payload} {error = error} is) = record {
      end = stands Nothing before (results ++ (listed part ++ ErrorResult error ∷ [])) NoPart;
      is = by_event c (stands First before results part) payload _ _
          (error_event c (record { awaited = First; columns = before }) payload error _ is);
      whole = ap (λ (k : List Outcome). results ++ (k ++ ErrorResult error ∷ [])) fits.nothing;
      no_part = refl;
      closes = refl;
    }
result_leads c before results part payloads found more fits (manual.file {name = name} kind) =
    from_part c before results part payloads found more (fits.results kind) (record {
      end = stands FileData before (results ++ FileResult name ∷ []) NoPart;
      is = by_event c (stands First before results NoPart) (251 ∷
          name) _ _ (file_event c (record { awaited = First; columns = before }) name kind);
      whole = refl;
      no_part = refl;
      closes = refl;
    })
result_leads c before results part payloads found more fits
    (manual.rows {count = count} {n = n} these rows {columns = columns} {says = says} {listed =
    here} {more = others} kind is are denied ended) =
    from_part c before results part payloads found more (fits.results kind)
    (leads_behind c (stands First before results NoPart)
    (stands (Rows true) (Some columns) results (RowsPart columns [])) (count ∷
    these) rows here others
    (due_set_leads c before results n count these columns says kind is are denied) refl
    (ended_leads c columns results rows here others kind ended))
result_leads c before results part payloads found more fits
    (manual.cursor {count = count} {n = n} these {columns = columns} {ok = ok} kind is are cursor) =
    from_part c before results part payloads found more (fits.results kind) (record {
      end = stands (after_result c ok) (Some columns) (results ++ RowsResult columns [] (Some ok) ∷ []) NoPart;
      is = set_leads c before results n count these columns (Some ok) kind is are ∙
          ap (λ (b : Bool). Some (set_by c b columns results ok)) cursor;
      whole = refl;
      no_part = refl;
      closes = closes_by (has_results c.kind) (more_results_exist ok.status_flags) (Some columns) _ kind;
    })
result_leads c before results part payloads found more fits
    (manual.prepared {packet = packet} {statement = statement} first second {parameters =
    parameters} {columns = columns} {says = says} {tells = tells} kind begins reads one two) =
    from_part c before results part payloads found more (fits.prepare kind)
    (prepared_leads c before results packet statement first second parameters columns says tells
    kind begins reads one two)
