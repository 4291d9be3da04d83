-- Results against which nothing speaks are results one after another, as the manual has them.
use Rattle.std.proofs.Common.{◌≡◌, ℕ, ◌+◌, ◌<◌, ◌==◌, ◌&&◌, Bool, true, false, not, if◌then◌else◌, List, [], ◌∷◌, ◌++◌}
use Rattle.std.proofs.Common.{length, map, nat_lt, Some, None, refl, sym, ap, subst, ◌∙◌, arith, append_assoc}
use Rattle.std.proofs.Common.{append-nil}
use Rattle.std.proofs.lemmas.Bool.{ltb-false}
use Rattle.std.proofs.lemmas.Grind.{flat_map-append}
use Rattle.mysql_columns.specs.Columns.{ColumnDefinition}
use Rattle.mysql_ok_packets.specs.OkPackets.{OkPacket, more_results_exist}
use Rattle.mysql_ok_packets.specs.Written.{is_named_status}
use Rattle.mysql_server_packets.specs.Packets.{IsPrepareOk, PrepareOk, ServerError, local_infile}
use Rattle.mysql_rows.specs.Rows.{Row}
use Rattle.mysql_reply_events.specs.declared.context.Context.{Context}
use Rattle.mysql_replies.specs.Together.{ErrorResult, FieldsResult, FileResult, LineResult, OkResult, Outcome}
use Rattle.mysql_replies.specs.Together.{PreparedResult, RawRowsResult, RowsResult}
use Rattle.mysql_reply_events.specs.Readings.{mariadb, protocol}
use Rattle.mysql_reply_events.specs.Table.{has_results}
use Rattle.mysql_replies.specs.Manual.{is_prepare}
use Rattle.mysql_replies.specs.Manual.{AreResults, EndedRows, IsResult, error, failed, file, followed, last, ok}
use Rattle.mysql_replies.specs.Manual.{prepared, rows, terminated}
use Rattle.mysql_reply_writer.specs.declared.refusal.ReplyRefusal.TheVariants as refusals
use Rattle.mysql_reply_writer.specs.Fits.{ColumnsFit, OkFits, StepFits, StepsFit}
use Rattle.mysql_reply_writer.specs.Refusals.{OpenRows, Writing, after_step, after_steps, cause_if, count_cause}
use Rattle.mysql_reply_writer.specs.Refusals.{end_cause, first_cause, kind_cause, place_cause, steps_cause}
use Rattle.mysql_reply_writer.specs.Written.{ColumnsStep, EndStep, ErrorStep, FileStep, OkStep, PreparedStep, RowStep}
use Rattle.mysql_reply_writer.specs.Written.{Step, UnwrittenStep, as_read, columns_follow, count_payload, counting}
use Rattle.mysql_reply_writer.specs.Written.{end_steps, error_written, group_payloads, is_some_result, result_steps}
use Rattle.mysql_reply_writer.specs.Written.{results_read, results_steps, row_read, saying, step_payloads}
use Rattle.mysql_reply_writer.specs.Written.{steps_payloads, terminator_payload, terminator_read}
use Rattle.mysql_reply_writer.proofs.Causes.{Allowed, allowed, first_fits, neither, unless}
use Rattle.mysql_reply_writer.proofs.Groups.{is_group, no_cursor}
use Rattle.mysql_reply_writer.proofs.Payloads.{is_count, is_error, is_ok, is_terminator, statement_header}
use Rattle.mysql_reply_writer.proofs.Payloads.{statement_reads, terminator_status, writable}
use Rattle.mysql_reply_writer.proofs.Segments.{RowsDone, RowsReadBack, going, rows_done}
use Rattle.mysql_reply_writer.proofs.Status.{says_more}

is_true : (b : Bool) → not b ≡ false → b ≡ true
is_true true h = refl
is_true false h = absurd cc

some_columns : {X : Type 0} (xs : List X) → (length xs == 0) ≡ false → 0 < length xs
some_columns [] h = absurd cc
some_columns (x ∷ xs) h = omega arith

-- ---- results of one step

ok_result : (w : Writing) (more : Bool) (p : OkPacket) (steps : List Step) → OkFits p → Allowed w (OkStep more p) steps
    → IsResult w.context (step_payloads w.context (OkStep more p)) (as_read w.context more (OkResult p) ∷ []) more
ok_result w more p steps fit a =
    let x = neither _ _ a.checks in
    let y = neither _ _ x.1 in
    let z = neither _ _ y.1 in
    let kind = is_true (has_results w.context.kind)
    (unless (not (has_results w.context.kind)) (refusals.WrongKind w.results) y.0) in
    let named = is_true (is_named_status p.status_flags)
    (unless (not (is_named_status p.status_flags)) (refusals.Status w.results) z.0) in
    subst (λ (says : Bool). IsResult w.context (step_payloads w.context (OkStep more p))
    (as_read w.context more (OkResult p) ∷ []) says) (says_more more p.status_flags)
    (ok kind (is_ok w.context (saying more p) (writable more p fit named)))

error_result : (w : Writing) (e : ServerError) → StepFits (ErrorStep e)
    → IsResult w.context (step_payloads w.context (ErrorStep e))
    (ErrorResult (error_written (protocol w.context) e) ∷ []) false
error_result w e fit = error (is_error w.context e fit)

file_bytes : (name : List ℕ) → local_infile name ≡ 251 ∷ name
unfolding local_infile
file_bytes name = ap (λ (l : List ℕ). 251 ∷ l) (append-nil name)

file_result : (w : Writing) (name : List ℕ) (steps : List Step) → Allowed w (FileStep name) steps
    → IsResult w.context (step_payloads w.context (FileStep name)) (FileResult name ∷ []) false
file_result w name steps a =
    let x = neither _ _ a.checks in
    let y = neither _ _ x.1 in
    subst (λ (payload : List ℕ). IsResult w.context (payload ∷ []) (FileResult name ∷ []) false) (sym (file_bytes name))
    (file (is_true (has_results w.context.kind)
    (unless (not (has_results w.context.kind)) (refusals.WrongKind w.results) y.0)))

pub few_columns : (w : Writing) (columns : List ColumnDefinition) → count_cause w columns ≡ None →
    length columns < 65536
few_columns w columns h =
    omega (
      arith,
      ltb-false 65535 (length columns)
          (unless (nat_lt 65535 (length columns)) (refusals.TooManyColumns w.results) h),
    )

pub columns_few : (w : Writing) (columns : List ColumnDefinition) (steps : List Step) →
    Allowed w (ColumnsStep columns) steps → length columns < 65536
columns_few w columns steps a =
    let x = neither (place_cause w)
    (first_cause (kind_cause w (not (has_results w.context.kind)) ∷
    cause_if (length columns == 0) (refusals.NoColumns w.results) ∷ count_cause w columns ∷ []))
    a.checks in
    let y = neither (kind_cause w (not (has_results w.context.kind)))
    (first_cause (cause_if (length columns == 0) (refusals.NoColumns w.results) ∷
    count_cause w columns ∷ [])) x.1 in
    let z = neither (cause_if (length columns == 0) (refusals.NoColumns w.results))
    (first_cause (count_cause w columns ∷ [])) y.1 in
    few_columns w columns (neither (count_cause w columns) None z.1).0

prepared_result : (w : Writing) → mariadb w.context ≡ 0 →
    (s : PrepareOk) (parameters columns : List ColumnDefinition) (steps : List Step) →
    StepFits (PreparedStep s parameters columns)
    → Allowed w (PreparedStep s parameters columns) steps
    → IsResult w.context (step_payloads w.context (PreparedStep s parameters columns))
    (PreparedResult (counting s parameters columns) parameters columns ∷ []) false
prepared_result w plain s parameters columns steps fit a =
    let x = neither _ _ a.checks in
    let y = neither _ _ x.1 in
    let z = neither _ _ y.1 in
    let u = neither _ _ z.1 in
    let kind = is_true (is_prepare w.context.kind)
    (unless (not (is_prepare w.context.kind)) (refusals.WrongKind w.results) y.0) in
    let p = few_columns w parameters z.0 in
    let q = few_columns w columns u.0 in
    let counted : IsPrepareOk (counting s parameters columns) = record {
      statement_id = fit.0.statement_id;
      num_columns = omega (arith, q);
      num_params = omega (arith, p);
      warning_count = fit.0.warning_count;
    } in
    prepared (group_payloads w.context parameters) (group_payloads w.context columns) kind
    (statement_header (counting s parameters columns) (columns_follow w.context))
    (statement_reads w.context (counting s parameters columns) counted)
    (is_group w.context plain parameters fit.1) (is_group w.context plain columns fit.2)

-- ---- rows

-- rows to their end, as a result
rows_result : (w : Writing) → mariadb w.context ≡ 0 →
    (columns : List ColumnDefinition) (ended : List (List ℕ)) (listed : List Outcome) (more : Bool)
    (steps : List Step)
    → ColumnsFit columns → Allowed w (ColumnsStep columns) steps → EndedRows w.context columns ended listed more
    → IsResult w.context (count_payload w.context (length columns) ∷
    group_payloads w.context columns ++ ended) listed more
rows_result w plain columns ended listed more steps fit a end =
    let x = neither _ _ a.checks in
    let y = neither _ _ x.1 in
    let z = neither _ _ y.1 in
    let u = neither _ _ z.1 in
    let some = some_columns columns (unless (length columns == 0) (refusals.NoColumns w.results) z.0) in
    rows (group_payloads w.context columns) ended
    (is_true (has_results w.context.kind)
    (unless (not (has_results w.context.kind)) (refusals.WrongKind w.results) y.0))
    (is_count w.context (length columns) plain some (few_columns w columns u.0))
    (is_group w.context plain columns fit) (no_cursor w.context columns) end

-- a writing behind the columns of rows
abbrev opened : Writing → List ColumnDefinition → OpenRows
opened w columns = record { columns = columns; count = 0 }

abbrev opened_at : Writing → List ColumnDefinition → ℕ
opened_at w columns = w.payloads + length (step_payloads w.context (ColumnsStep columns))

terminated_rows : (w : Writing) (columns : List ColumnDefinition) (these : List Row) (more : Bool)
    (p : OkPacket) (rest : List Step)
    (d : RowsDone w columns these (EndStep more p ∷ rest) (opened w columns) (opened_at w columns)) → OkFits p
    → EndedRows w.context columns (steps_payloads w.context (map (RowStep columns) these) ++
    step_payloads w.context (EndStep more p))
    (RowsResult columns (map (row_read w.context columns) these)
    (Some (terminator_read w.context (saying more p))) ∷ []) more
terminated_rows w columns these more p rest d fit =
    let v = going w d.later d.count in
    let a = allowed v (EndStep more p) rest d.allowed in
    let x = neither _ _ a.checks in
    let y = neither _ _ x.1 in
    let named = is_true (is_named_status p.status_flags)
    (unless (not (is_named_status p.status_flags)) (refusals.Status w.results) y.0) in
    let size = first_fits _ d.count (terminator_payload w.context (saying more p)) [] a.sizes in
    subst (λ (says : Bool). EndedRows w.context columns
    (steps_payloads w.context (map (RowStep columns) these) ++
    step_payloads w.context (EndStep more p))
    (RowsResult columns (map (row_read w.context columns) these)
    (Some (terminator_read w.context (saying more p))) ∷ []) says)
    (ap more_results_exist (terminator_status w.context (saying more p)) ∙ says_more more p.status_flags)
    (terminated (steps_payloads w.context (map (RowStep columns) these)) d.are_rows
    (is_terminator w.context (saying more p) w.limit (writable more p fit named) size.0))

-- ---- what can't follow

-- what is read alone isn't written
pub unwritten_none : (w : Writing) (steps : List Step) → steps_cause w (UnwrittenStep ∷ steps) ≡ None → ⊥
unwritten_none w steps h =
    let a = allowed w UnwrittenStep steps h in
    let x = neither (place_cause w) (Some (refusals.WrongKind w.results)) a.checks in let no = x.1 in cc

over_none : (w : Writing) (more : Bool) (r : Outcome) (steps : List Step) → w.over ≡ true →
    steps_cause w (result_steps more r ++ steps) ≡ None → ⊥
over_none w more (OkResult p) steps over h =
    let a = allowed w (OkStep more p) steps h in
    let x = neither _ _ a.checks in let y = neither _ _ x.0 in let no =
    unless w.over (refusals.AfterEnd w.results) y.0 in cc
over_none w more (RowsResult columns these end) steps over h =
    let a = allowed w (ColumnsStep columns) ((map (RowStep columns) these ++ end_steps more end) ++ steps) h in
    let x = neither _ _ a.checks in let y = neither _ _ x.0 in let no =
    unless w.over (refusals.AfterEnd w.results) y.0 in cc
over_none w more (PreparedResult s parameters columns) steps over h =
    let a = allowed w (PreparedStep s parameters columns) steps h in
    let x = neither _ _ a.checks in let y = neither _ _ x.0 in let no =
    unless w.over (refusals.AfterEnd w.results) y.0 in cc
over_none w more (ErrorResult e) steps over h =
    let a = allowed w (ErrorStep e) steps h in
    let x = neither _ _ a.checks in let no = unless w.over (refusals.AfterEnd w.results) x.0 in cc
over_none w more (FileResult name) steps over h =
    let a = allowed w (FileStep name) steps h in
    let x = neither _ _ a.checks in let y = neither _ _ x.0 in let no =
    unless w.over (refusals.AfterEnd w.results) y.0 in cc
over_none w more (RawRowsResult these end) steps over h = unwritten_none w steps h
over_none w more (FieldsResult these end) steps over h = unwritten_none w steps h
over_none w more (LineResult text) steps over h = unwritten_none w steps h

-- a result other than an error can't follow rows that go on
abbrev is_error_result : Outcome → Bool
is_error_result (ErrorResult e) = true
is_error_result r = false

open_none : (w : Writing) (open_rows : OpenRows) (n : ℕ) (more : Bool) (r : Outcome)
    (steps : List Step) → is_error_result r ≡ false
    → steps_cause (going w open_rows n) (result_steps more r ++ steps) ≡ None → ⊥
open_none w open_rows n more (OkResult p) steps other h =
    let a = allowed (going w open_rows n) (OkStep more p) steps h in
    let x = neither _ _ a.checks in let y = neither _ _ x.0 in let no =
    unless true (refusals.NotEnded w.results) y.1 in cc
open_none w open_rows n more (RowsResult columns these end) steps other h =
    let a = allowed (going w open_rows n) (ColumnsStep columns)
    ((map (RowStep columns) these ++ end_steps more end) ++ steps) h in
    let x = neither _ _ a.checks in let y = neither _ _ x.0 in let no =
    unless true (refusals.NotEnded w.results) y.1 in cc
open_none w open_rows n more (PreparedResult s parameters columns) steps other h =
    let a = allowed (going w open_rows n) (PreparedStep s parameters columns) steps h in
    let x = neither _ _ a.checks in let y = neither _ _ x.0 in let no =
    unless true (refusals.NotEnded w.results) y.1 in cc
open_none w open_rows n more (ErrorResult e) steps other h = cc
open_none w open_rows n more (FileResult name) steps other h =
    let a = allowed (going w open_rows n) (FileStep name) steps h in
    let x = neither _ _ a.checks in let y = neither _ _ x.0 in let no =
    unless true (refusals.NotEnded w.results) y.1 in cc
open_none w open_rows n more (RawRowsResult these end) steps other h = unwritten_none (going w open_rows n) steps h
open_none w open_rows n more (FieldsResult these end) steps other h = unwritten_none (going w open_rows n) steps h
open_none w open_rows n more (LineResult text) steps other h = unwritten_none (going w open_rows n) steps h

-- ---- lists

-- the steps of rows with others behind them
rows_apart : (c : Context) (columns : List ColumnDefinition) (these : List Row) (ends rest : List Step)
    → steps_payloads c ((ColumnsStep columns ∷ map (RowStep columns) these ++ ends) ++ rest)
    ≡ (count_payload c (length columns) ∷ group_payloads c columns ++
    (steps_payloads c (map (RowStep columns) these) ++ steps_payloads c ends)) ++
    steps_payloads c rest
rows_apart c columns these ends rest =
    flat_map-append (step_payloads c) (ColumnsStep columns ∷ map (RowStep columns) these ++ ends) rest
    ∙ ap (λ l. (count_payload c (length columns) ∷ group_payloads c columns ++ l) ++
    steps_payloads c rest) (flat_map-append (step_payloads c) (map (RowStep columns) these)
    ends)

-- the steps of rows behind their columns, in the order in which they are read
in_order : (columns : List ColumnDefinition) (these : List Row) (ends rest : List Step)
    → (map (RowStep columns) these ++ ends) ++ rest ≡ map (RowStep columns) these ++ (ends ++ rest)
in_order columns these ends rest = append_assoc (map (RowStep columns) these) ends rest

pub fit_apart : (xs ys : List Step) → StepsFit (xs ++ ys) → StepsFit xs × StepsFit ys
fit_apart [] ys h = (tt, h)
fit_apart (x ∷ xs) ys h = let p = fit_apart xs ys h.1 in ((h.0, p.0), p.1)

-- ---- results one after another

unended : (w : Writing) (open_rows : OpenRows) (n : ℕ) → w.over ≡ false → end_cause (going w open_rows n) ≡ None → ⊥
unended w open_rows n over h = go w.over over h where
  go : (b : Bool) → b ≡ false →
      (if b then None else if w.results == 0 &&
      not true then Some refusals.NoResults else Some (refusals.NotEnded w.results)) ≡ None → ⊥
  go true e k = cc
  go false e k = end (w.results == 0) k where
    end : (b : Bool) → (if b && false then Some refusals.NoResults else Some (refusals.NotEnded w.results)) ≡ None → ⊥
    end true k = cc
    end false k = cc

-- rows that were done, from the steps of a result and those behind it
rows_behind_columns : RowsReadBack →
    (w : Writing) (columns : List ColumnDefinition) (these : List Row) (ends rest : List Step)
    → StepsFit ((ColumnsStep columns ∷ map (RowStep columns) these ++ ends) ++ rest)
    → steps_cause w ((ColumnsStep columns ∷ map (RowStep columns) these ++ ends) ++ rest) ≡ None
    → Allowed w (ColumnsStep columns) (map (RowStep columns) these ++ (ends ++ rest)) ×
    RowsDone w columns these (ends ++ rest) (opened w columns) (opened_at w columns) ×
    ColumnsFit columns × StepsFit (ends ++ rest)
rows_behind_columns back w columns these ends rest fit h =
    let same = in_order columns these ends rest in
    let k : steps_cause w (ColumnsStep columns ∷ map (RowStep columns) these ++ (ends ++ rest)) ≡
    None = subst (λ (steps : List Step). steps_cause w (ColumnsStep columns ∷ steps) ≡
    None) same h in
    let fits : StepsFit (map (RowStep columns) these ++ (ends ++ rest)) =
    subst (λ (steps : List Step). StepsFit steps) same fit.1 in
    let p = fit_apart (map (RowStep columns) these) (ends ++ rest) fits in
    let a = allowed w (ColumnsStep columns) (map (RowStep columns) these ++ (ends ++ rest)) k in
    (a, rows_done back w columns these (ends ++ rest) (opened w columns) (opened_at w columns) p.0 a.rest, fit.0, p.1)

-- where the writing stands behind them
standing_behind : (w : Writing) (columns : List ColumnDefinition) (these : List Row) (ends rest : List Step)
    (d : RowsDone w columns these (ends ++ rest) (opened w columns) (opened_at w columns))
    → after_steps w ((ColumnsStep columns ∷ map (RowStep columns) these ++ ends) ++ rest) ≡
    after_steps (going w d.later d.count) (ends ++ rest)
standing_behind w columns these ends rest d =
    ap (λ (steps : List Step). after_steps w (ColumnsStep columns ∷ steps))
    (in_order columns these ends rest) ∙ d.so_far

pub results_good : RowsReadBack → (w : Writing) → mariadb w.context ≡ 0 → (results : List Outcome) →
    w.over ≡ false → is_some_result results ≡ true → StepsFit (results_steps results)
    → steps_cause w (results_steps results) ≡ None → end_cause (after_steps w (results_steps results)) ≡ None
    → AreResults w.context (steps_payloads w.context (results_steps results)) (results_read w.context results)
results_good back w plain [] over some fit h e = absurd cc
results_good back w plain (OkResult p ∷ []) over some fit h e =
    last (ok_result w false p [] fit.0 (allowed w (OkStep false p) [] h))
results_good back w plain (OkResult p ∷ r ∷ rs) over some fit h e =
    let a = allowed w (OkStep true p) (results_steps (r ∷ rs)) h in
    followed (step_payloads w.context (OkStep true p))
    (steps_payloads w.context (results_steps (r ∷ rs))) (as_read w.context true (OkResult p) ∷
    []) (results_read w.context (r ∷ rs))
    (ok_result w true p (results_steps (r ∷ rs)) fit.0 a)
    (results_good back (after_step w (OkStep true p)) plain (r ∷ rs) refl refl fit.1 a.rest e)
results_good back w plain (PreparedResult s parameters columns ∷ []) over some fit h e =
    subst (λ (payloads : List (List ℕ)). AreResults w.context payloads
    (results_read w.context (PreparedResult s parameters columns ∷ [])))
    (sym (append-nil (step_payloads w.context (PreparedStep s parameters columns))))
    (last (prepared_result w plain s parameters columns [] fit.0 (allowed w (PreparedStep s parameters columns) [] h)))
results_good back w plain (PreparedResult s parameters columns ∷ r ∷ rs) over some fit h e =
    let a = allowed w (PreparedStep s parameters columns) (results_steps (r ∷ rs)) h in
    absurd (over_none (after_step w (PreparedStep s parameters columns)) (is_some_result rs) r
    (results_steps rs) refl a.rest)
results_good back w plain (ErrorResult x ∷ []) over some fit h e = last (error_result w x fit.0)
results_good back w plain (ErrorResult x ∷ r ∷ rs) over some fit h e =
    let a = allowed w (ErrorStep x) (results_steps (r ∷ rs)) h in
    absurd (over_none (after_step w (ErrorStep x)) (is_some_result rs) r (results_steps rs) refl a.rest)
results_good back w plain (FileResult name ∷ []) over some fit h e =
    last (file_result w name [] (allowed w (FileStep name) [] h))
results_good back w plain (FileResult name ∷ r ∷ rs) over some fit h e =
    let a = allowed w (FileStep name) (results_steps (r ∷ rs)) h in
    absurd (over_none (after_step w (FileStep name)) (is_some_result rs) r (results_steps rs) refl a.rest)
results_good back w plain (RowsResult columns these (Some p) ∷ []) over some fit h e =
    let x = rows_behind_columns back w columns these (EndStep false p ∷ []) [] fit h in
    let ended = terminated_rows w columns these false p [] x.1 x.3.0 in
    subst (λ (payloads : List (List ℕ)). AreResults w.context payloads
    (results_read w.context (RowsResult columns these (Some p) ∷ [])))
    (sym (rows_apart w.context columns these (EndStep false p ∷ []) [] ∙
    append-nil (count_payload w.context (length columns) ∷ group_payloads w.context columns ++
    (steps_payloads w.context (map (RowStep columns) these) ++
    steps_payloads w.context (EndStep false p ∷ [])))))
    (last (rows_result w plain columns _ _ false (map (RowStep columns) these ++ (EndStep false p ∷ [])) x.2 x.0 ended))
results_good back w plain (RowsResult columns these (Some p) ∷ r ∷ rs) over some fit h e =
    let rest = results_steps (r ∷ rs) in
    let x = rows_behind_columns back w columns these (EndStep true p ∷ []) rest fit h in
    let v = going w x.1.later x.1.count in
    let a = allowed v (EndStep true p) rest x.1.allowed in
    let ended = terminated_rows w columns these true p rest x.1 x.3.0 in
    let end : end_cause (after_steps (after_step v (EndStep true p)) rest) ≡ None =
    subst (λ (u : Writing). end_cause u ≡
    None) (standing_behind w columns these (EndStep true p ∷ []) rest x.1) e in
    subst (λ (payloads : List (List ℕ)). AreResults w.context payloads
    (results_read w.context (RowsResult columns these (Some p) ∷ r ∷ rs)))
    (sym (rows_apart w.context columns these (EndStep true p ∷ []) rest))
    (followed _ (steps_payloads w.context rest)
    (as_read w.context true (RowsResult columns these (Some p)) ∷
    []) (results_read w.context (r ∷ rs))
    (rows_result w plain columns _ _ true (map (RowStep columns) these ++ (EndStep true p ∷ rest)) x.2 x.0 ended)
    (results_good back (after_step v (EndStep true p)) plain (r ∷ rs) refl refl x.3.1 a.rest end))
results_good back w plain (RowsResult columns these None ∷ []) over some fit h e =
    let x = rows_behind_columns back w columns these [] [] fit h in
    absurd (unended w x.1.later x.1.count over
    (subst (λ (u : Writing). end_cause u ≡ None) (standing_behind w columns these [] [] x.1) e))
results_good back w plain (RowsResult columns these None ∷ ErrorResult y ∷ []) over some fit h e =
    let x = rows_behind_columns back w columns these [] (ErrorStep y ∷ []) fit h in
    subst (λ (payloads : List (List ℕ)). AreResults w.context payloads
    (results_read w.context (RowsResult columns these None ∷ ErrorResult y ∷ [])))
    (sym (rows_with_error w.context columns these y))
    (last (rows_result w plain columns _ _ false (map (RowStep columns) these ++ (ErrorStep y ∷ [])) x.2 x.0
    (failed (steps_payloads w.context (map (RowStep columns) these)) x.1.are_rows (is_error w.context y x.3.0)))) where
      rows_with_error : (c : Context) (columns : List ColumnDefinition) (these : List Row) (y : ServerError)
          → steps_payloads c ((ColumnsStep columns ∷ map (RowStep columns) these ++ []) ++ (ErrorStep y ∷ []))
          ≡ count_payload c (length columns) ∷ group_payloads c columns ++
          (steps_payloads c (map (RowStep columns) these) ++ step_payloads c (ErrorStep y))
      rows_with_error c columns these y =
          ap (λ (steps : List Step). steps_payloads c (ColumnsStep columns ∷ steps))
          (in_order columns these [] (ErrorStep y ∷ []))
          ∙ ap (λ l. count_payload c (length columns) ∷ group_payloads c columns ++
          l) (flat_map-append (step_payloads c) (map (RowStep columns) these) (ErrorStep y ∷
          []))
results_good back w plain (RowsResult columns these None ∷ ErrorResult y ∷ r ∷ rs) over some fit h e =
    let rest = ErrorStep y ∷ results_steps (r ∷ rs) in
    let x = rows_behind_columns back w columns these [] rest fit h in
    let v = going w x.1.later x.1.count in
    let a = allowed v (ErrorStep y) (results_steps (r ∷ rs)) x.1.allowed in
    absurd (over_none (after_step v (ErrorStep y)) (is_some_result rs) r (results_steps rs) refl a.rest)
results_good back w plain (RowsResult columns these None ∷ OkResult p ∷ rs) over some fit h e =
    let x = rows_behind_columns back w columns these [] (results_steps (OkResult p ∷ rs)) fit h in
    absurd (open_none w x.1.later x.1.count (is_some_result rs) (OkResult p) (results_steps rs) refl x.1.allowed)
results_good back w plain (RowsResult columns these None ∷ RowsResult others more end ∷ rs) over some fit h e =
    let x = rows_behind_columns back w columns these [] (results_steps (RowsResult others more end ∷ rs)) fit h in
    absurd (open_none w x.1.later x.1.count (is_some_result rs) (RowsResult others more end)
    (results_steps rs) refl x.1.allowed)
results_good back w plain (RowsResult columns these None ∷ PreparedResult s parameters others ∷ rs) over some fit h e =
    let x = rows_behind_columns back w columns these []
    (results_steps (PreparedResult s parameters others ∷ rs)) fit h in
    absurd (open_none w x.1.later x.1.count (is_some_result rs) (PreparedResult s parameters others)
    (results_steps rs) refl x.1.allowed)
results_good back w plain (RowsResult columns these None ∷ FileResult name ∷ rs) over some fit h e =
    let x = rows_behind_columns back w columns these [] (results_steps (FileResult name ∷ rs)) fit h in
    absurd (open_none w x.1.later x.1.count (is_some_result rs) (FileResult name) (results_steps rs) refl x.1.allowed)
results_good back w plain (RowsResult columns these None ∷ RawRowsResult others end ∷ rs) over some fit h e =
    let x = rows_behind_columns back w columns these [] (results_steps (RawRowsResult others end ∷ rs)) fit h in
    absurd (unwritten_none (going w x.1.later x.1.count) (results_steps rs) x.1.allowed)
results_good back w plain (RowsResult columns these None ∷ FieldsResult fields end ∷ rs) over some fit h e =
    let x = rows_behind_columns back w columns these [] (results_steps (FieldsResult fields end ∷ rs)) fit h in
    absurd (unwritten_none (going w x.1.later x.1.count) (results_steps rs) x.1.allowed)
results_good back w plain (RowsResult columns these None ∷ LineResult text ∷ rs) over some fit h e =
    let x = rows_behind_columns back w columns these [] (results_steps (LineResult text ∷ rs)) fit h in
    absurd (unwritten_none (going w x.1.later x.1.count) (results_steps rs) x.1.allowed)
results_good back w plain (RawRowsResult these end ∷ rs) over some fit h e =
    absurd (unwritten_none w (results_steps rs) h)
results_good back w plain (FieldsResult fields end ∷ rs) over some fit h e =
    absurd (unwritten_none w (results_steps rs) h)
results_good back w plain (LineResult text ∷ rs) over some fit h e = absurd (unwritten_none w (results_steps rs) h)
