-- A reply against which nothing speaks is a whole reply, and framed it is one that was framed.
use Rattle.std.proofs.Common.{◌≡◌, ℕ, ◌+◌, Bool, true, false, if◌then◌else◌, List, [], ◌∷◌, ◌++◌, length, map, None}
use Rattle.std.proofs.Common.{Some, refl, sym, ap, subst, ◌∙◌, arith}
use Rattle.std.specs.List.{AllByRecursion, flat_map}
use Rattle.std.proofs.lemmas.Grind.{flat_map-append}
use Rattle.std.proofs.lemmas.List.Folds.{flat_map-map}
use Rattle.mysql_server_packets.specs.Packets.{Progress, ProgressReport, err_packet}
use Rattle.mysql_wire.specs.Stream.{framings}
use Rattle.mysql_wire.specs.Stream.Numbering.{OnFrom}
use Rattle.mysql_rows.specs.Rows.{Row}
use Rattle.mysql_columns.specs.Columns.{ColumnDefinition}
use Rattle.mysql_reply_events.specs.declared.context.Context.{Context}
use Rattle.mysql_replies.specs.Together.{ErrorResult, FieldsResult, FileResult, LineResult, OkResult, Outcome}
use Rattle.mysql_replies.specs.Together.{PreparedResult, RawRowsResult, RowsResult}
use Rattle.mysql_reply_events.specs.Readings.{has_report_form, is_binary, mariadb, protocol}
use Rattle.mysql_replies.specs.Manual.{IsFramedReply, IsWholeReply, WithoutReports, nothing, other, report}
use Rattle.mysql_reply_writer.specs.declared.refusal.ReplyRefusal.TheVariants as refusals
use Rattle.mysql_reply_writer.specs.Fits.{StepFits, StepsFit}
use Rattle.mysql_reply_writer.specs.Refusals.{Writing, after_step, after_steps, cause_if, cells_cause, end_cause}
use Rattle.mysql_reply_writer.specs.Refusals.{error_number, first_cause, nothing_written, over_cause, reads_as_report}
use Rattle.mysql_reply_writer.specs.Refusals.{refusal_of, rows_cause, steps_cause}
use Rattle.mysql_reply_writer.specs.Written.{ColumnsStep, EndStep, ErrorStep, FileStep, OkStep, PreparedStep}
use Rattle.mysql_reply_writer.specs.Written.{ReportStep, RowStep, Step, UnwrittenStep, cells_payload, columns_follow}
use Rattle.mysql_reply_writer.specs.Written.{counting, error_written, is_some_result, reply_payloads, reply_steps}
use Rattle.mysql_reply_writer.specs.Written.{report_written, reports_read, result_steps, results_read, results_steps}
use Rattle.mysql_reply_writer.specs.Written.{saying, step_payloads, steps_payloads, tells_progress}
use Rattle.mysql_reply_writer.proofs.Causes.{Allowed, all_both, allowed, neither, steps_few, steps_within, unless}
use Rattle.mysql_reply_writer.proofs.Forms.{NoForms, count_no_form, error_no_form, file_no_form, group_no_forms}
use Rattle.mysql_reply_writer.proofs.Forms.{ok_no_form, no_form, report_form, statement_no_form, terminator_no_form}
use Rattle.mysql_reply_writer.proofs.Payloads.{is_report_of}
use Rattle.mysql_reply_writer.proofs.Results.{columns_few, fit_apart, results_good, unwritten_none}
use Rattle.mysql_reply_writer.proofs.Segments.{RowsReadBack, row_is_read}

-- steps but progress reports
abbrev IsOther : Step → Type 0
IsOther (ReportStep r) = ⊥
IsOther step = Unit {0}

rows_other : (columns : List ColumnDefinition) (these : List Row) →
    AllByRecursion (λ step. IsOther step) (map (RowStep columns) these)
rows_other columns [] = tt
rows_other columns (row ∷ rows) = (tt, rows_other columns rows)

result_other : (more : Bool) (r : Outcome) → AllByRecursion (λ step. IsOther step) (result_steps more r)
result_other more (OkResult p) = (tt, tt)
result_other more (RowsResult columns these None) = (
  tt,
  all_both (λ step. IsOther step) (map (RowStep columns) these) [] (rows_other columns these)
      tt,
)
result_other more (RowsResult columns these (Some p)) = (
  tt,
  all_both (λ step. IsOther step) (map (RowStep columns) these) (EndStep more p ∷
      []) (rows_other columns these) (tt, tt),
)
result_other more (PreparedResult s parameters columns) = (tt, tt)
result_other more (ErrorResult e) = (tt, tt)
result_other more (FileResult name) = (tt, tt)
result_other more (RawRowsResult these end) = (tt, tt)
result_other more (FieldsResult fields end) = (tt, tt)
result_other more (LineResult text) = (tt, tt)

results_other : (results : List Outcome) → AllByRecursion (λ step. IsOther step) (results_steps results)
results_other [] = tt
results_other (r ∷ rs) = all_both (λ step. IsOther step) (result_steps (is_some_result rs) r)
    (results_steps rs) (result_other (is_some_result rs) r) (results_other rs)

-- no payload of such a step has a report's form
step_forms : RowsReadBack → (w : Writing) (step : Step) (steps : List Step) → IsOther step →
    StepFits step → Allowed w step steps → NoForms w.context (step_payloads w.context step)
step_forms back w (ReportStep r) steps is fit a = absurd is
step_forms back w (OkStep more p) steps is fit a = (ok_no_form w.context (saying more p), tt)
step_forms back w (ColumnsStep columns) steps is fit a =
    (count_no_form w.context (length columns) (columns_few w columns steps a), group_no_forms w.context columns)
step_forms back w (RowStep columns row) steps is fit a =
    let x = neither (rows_cause w) (first_cause (cells_cause w columns row.cells ∷ [])) a.checks in
    let y = neither (cells_cause w columns row.cells) None x.1 in (
      no_form w.context (cells_payload (is_binary w.context.kind) columns row.cells)
          (row_is_read back w columns row fit y.0).no_error,
      tt,
    )
step_forms back w (EndStep more p) steps is fit a = (terminator_no_form w.context (saying more p), tt)
step_forms back w (ErrorStep e) steps is fit a =
    let cause = cause_if (reads_as_report w.context e) (refusals.ReadsAsReport (error_number w)) in
    let x = neither (over_cause w) (first_cause (cause ∷ [])) a.checks in
    let y = neither cause None x.1 in (
      error_no_form w.context (error_written (protocol w.context) e) fit.error_code
          (unless (reads_as_report w.context e) (refusals.ReadsAsReport (error_number w)) y.0),
      tt,
    )
step_forms back w (FileStep name) steps is fit a = (file_no_form w.context name, tt)
step_forms back w (PreparedStep s parameters columns) steps is fit a = (
  statement_no_form w.context (counting s parameters columns) (columns_follow w.context),
  all_both (λ payload. has_report_form w.context payload ≡
      false) _ _ (group_no_forms w.context parameters) (group_no_forms w.context columns),
)
step_forms back w UnwrittenStep steps is fit a = tt

steps_forms : RowsReadBack → (w : Writing) (steps : List Step) →
    AllByRecursion (λ step. IsOther step) steps → StepsFit steps → steps_cause w steps ≡ None
    → NoForms w.context (steps_payloads w.context steps)
steps_forms back w [] is fit h = tt
steps_forms back w (step ∷ steps) is fit h =
    let a = allowed w step steps h in
    all_both (λ payload. has_report_form w.context payload ≡ false) (step_payloads w.context step)
    (steps_payloads w.context steps)
    (step_forms back w step steps is.0 fit.0 a) (steps_forms back (after_step w step) steps is.1 fit.1 a.rest)

-- payloads of results are without reports
without : (c : Context) (payloads : List (List ℕ)) → NoForms c payloads → WithoutReports c payloads [] payloads
without c [] h = nothing
without c (payload ∷ payloads) h = other h.0 (without c payloads h.1)

-- progress reports before the others
with_reports : (c : Context) (d : Bool) → tells_progress c ≡ d →
    (progress : List ProgressReport) (next : List ℕ) (others : List (List ℕ))
    → StepsFit (map ReportStep progress) → WithoutReports c (next ∷ others) [] (next ∷ others)
    → WithoutReports c (flat_map (λ r. if d then err_packet (Progress (report_written r)) ∷
    [] else []) progress ++ next ∷ others) (if d then map report_written progress else [])
    (next ∷ others)
with_reports c true e [] next others fit h = h
with_reports c false e [] next others fit h = h
with_reports c true e (r ∷ rs) next others fit h =
    report (report_form c (report_written r) e) (is_report_of r fit.0) (with_reports c true e rs next others fit.1 h)
with_reports c false e (r ∷ rs) next others fit h = with_reports c false e rs next others fit.1 h

with_all : (c : Context) (progress : List ProgressReport) (payloads : List (List ℕ)) → (payloads ≡ [] → ⊥)
    → StepsFit (map ReportStep progress) → WithoutReports c payloads [] payloads
    → WithoutReports c (flat_map (λ r. step_payloads c (ReportStep r)) progress ++
    payloads) (reports_read c progress) payloads
with_all c progress [] some fit h = absurd (some refl)
with_all c progress (next ∷ others) some fit h = with_reports c (tells_progress c) refl progress next others fit h

-- the payloads of progress reports and then others
reports_apart : (c : Context) (progress : List ProgressReport) (steps : List Step)
    → steps_payloads c (map ReportStep progress ++ steps) ≡
    flat_map (λ r. step_payloads c (ReportStep r)) progress ++ steps_payloads c steps
reports_apart c progress steps =
    flat_map-append (step_payloads c) (map ReportStep progress) steps
    ∙ ap (λ l. l ++ steps_payloads c steps) (flat_map-map (step_payloads c) ReportStep progress)

-- a result has payloads
some_payloads : (c : Context) (r : Outcome) (rs : List Outcome) → (w : Writing) →
    steps_cause w (results_steps (r ∷ rs)) ≡ None → steps_payloads c (results_steps (r ∷ rs)) ≡ [] →
    ⊥
some_payloads c (OkResult p) rs w can h = cc
some_payloads c (RowsResult columns these end) rs w can h = cc
some_payloads c (PreparedResult s parameters columns) rs w can h = cc
some_payloads c (ErrorResult e) rs w can h = cc
some_payloads c (FileResult name) rs w can h = cc
some_payloads c (RawRowsResult these end) rs w can h = unwritten_none w (results_steps rs) can
some_payloads c (FieldsResult fields end) rs w can h = unwritten_none w (results_steps rs) can
some_payloads c (LineResult text) rs w can h = unwritten_none w (results_steps rs) can

-- the same writing with another number of payloads
abbrev numbered_on : Writing → ℕ → Writing
numbered_on w n = record {
  context = w.context;
  limit = w.limit;
  payloads = n;
  results =
      w.results;
  rows = w.rows;
  over = w.over;
}

record Reported (w : Writing) (n : ℕ) (progress : List ProgressReport) (steps : List Step) : Type 0 where
  count : ℕ
  allowed : steps_cause (numbered_on w count) steps ≡ None
  so_far : after_steps (numbered_on w n) (map ReportStep progress ++ steps) ≡ after_steps (numbered_on w count) steps

reported : (w : Writing) (n : ℕ) (progress : List ProgressReport) (steps : List Step) →
    steps_cause (numbered_on w n) (map ReportStep progress ++ steps) ≡ None
    → Reported w n progress steps
reported w n [] steps h = record { count = n; allowed = h; so_far = refl }
reported w n (r ∷ rs) steps h =
    let a = allowed (numbered_on w n) (ReportStep r) (map ReportStep rs ++ steps) h in
    let later = reported w (n + length (step_payloads w.context (ReportStep r))) rs steps a.rest in
    record { count = later.count; allowed = later.allowed; so_far = later.so_far }

pub is_whole : RowsReadBack →
    (c : Context) (limit : ℕ) (results : List Outcome) (progress : List ProgressReport) →
    mariadb c ≡ 0 → StepsFit (reply_steps results progress)
    → refusal_of c limit results progress ≡ None →
    IsWholeReply c (reply_payloads c results progress) (results_read c results)
    (reports_read c progress)
is_whole back c limit [] progress plain fit h = absurd cc
is_whole back c limit (r ∷ rs) progress plain fit h =
    let w = nothing_written c limit in
    let steps = results_steps (r ∷ rs) in
    let p = neither (steps_cause w (map ReportStep progress ++ steps))
    (end_cause (after_steps w (map ReportStep progress ++ steps))) h in
    let x = reported w 0 progress steps p.0 in
    let fits = fit_apart (map ReportStep progress) steps fit in
    let end : end_cause (after_steps (numbered_on w x.count) steps) ≡ None =
    subst (λ (u : Writing). end_cause u ≡ None) x.so_far p.1 in
    let good = results_good back (numbered_on w x.count) plain (r ∷ rs) refl refl fits.1 x.allowed end in
    let forms = steps_forms back (numbered_on w x.count) steps (results_other (r ∷ rs)) fits.1 x.allowed in
    record {
      others = steps_payloads c steps;
      without_reports = subst (λ (payloads : List (List ℕ)). WithoutReports c payloads
          (reports_read c progress) (steps_payloads c steps)) (sym (reports_apart c progress steps))
          (with_all c progress (steps_payloads c steps)
          (some_payloads c r rs (numbered_on w x.count) x.allowed) fits.0
          (without c (steps_payloads c steps) forms));
      results = good;
    }

pub is_framed : RowsReadBack →
    (c : Context) (first_id limit : ℕ) (results : List Outcome) (progress : List ProgressReport) →
    mariadb c ≡ 0 → StepsFit (reply_steps results progress)
    → refusal_of c limit results progress ≡ None
    → IsFramedReply c first_id limit
    (framings (reply_payloads c results progress) (OnFrom first_id)) (results_read c results)
    (reports_read c progress)
is_framed back c first_id limit [] progress plain fit h = absurd cc
is_framed back c first_id limit (r ∷ rs) progress plain fit h =
    let w = nothing_written c limit in
    let steps = reply_steps (r ∷ rs) progress in
    let p = neither (steps_cause w steps) (end_cause (after_steps w steps)) h in
    record {
      payloads = reply_payloads c (r ∷ rs) progress;
      whole = is_whole back c limit (r ∷ rs) progress plain fit h;
      few = omega (arith, steps_few w steps (omega arith) p.0);
      within = steps_within w steps p.0;
      framed = refl;
    }
