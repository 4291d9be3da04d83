-- A list of payloads that the manual has as a whole reply has the answer that it lists.
use Rattle.std.proofs.Common.{◌≡◌, ℕ, ◌+◌, List, [], ◌∷◌, ◌++◌, true, false, Option, Some, None, refl, ap, sym, ◌∙◌}
use Rattle.std.proofs.Common.{append_assoc}
use Rattle.std.proofs.lemmas.Bool.{true≢false}
use Rattle.std.proofs.lemmas.List.{append-nil}
use Rattle.mysql_columns.specs.Columns.{ColumnDefinition}
use Rattle.mysql_server_packets.specs.Packets.{ProgressReport}
use Rattle.mysql_wire.specs.Stream.Rest.{Empty}
use Rattle.mysql_reply_events.specs.Events.{Payload}
use Rattle.mysql_reply_events.specs.Events.Awaited.{First}
use Rattle.mysql_reply_events.specs.Table.{has_results, in_place}
use Rattle.mysql_reply_events.specs.declared.context.Context.{Context}
use Rattle.mysql_reply_events.specs.declared.context.ReplyKind.{ReplyKind}
use Rattle.mysql_reply_events.specs.declared.context.ReplyKind.TheVariants as kinds
use Rattle.mysql_replies.specs.Together.{NoPart, Outcome, Part, first_part, listed}
use Rattle.mysql_replies.specs.Reply.{GoingOn, after_all, answer_behind, end_behind}
use Rattle.mysql_replies.specs.Manual as manual
use Rattle.mysql_replies.specs.Manual.{AreResults, EachSuchListIsWhole, WithoutReports, is_prepare}
use Rattle.mysql_replies.proofs.Came.{Came, and_then, behind_other, behind_report, came_behind, due_in, goes_on_by}
use Rattle.mysql_replies.proofs.Came.{has_step, opened, some_is, with_event}
use Rattle.mysql_replies.proofs.ManualLeads.{Closes, FitsKind, Leads, result_leads, stands}

-- What a reply begins with.
abbrev pub began : Context → Came
began c = stands First None [] (first_part c.kind None)

nothing_listed : (kind : ReplyKind) → listed (first_part kind None) ≡ []
nothing_listed kinds.Text = refl
nothing_listed kinds.Binary = refl
nothing_listed kinds.Prepare = refl
nothing_listed kinds.Plain = refl
nothing_listed kinds.Line = refl
nothing_listed kinds.FieldList = refl
nothing_listed kinds.Fetch = refl

no_part_of_results : (kind : ReplyKind) → has_results kind ≡ true → first_part kind None ≡ NoPart
no_part_of_results kinds.Text is = refl
no_part_of_results kinds.Binary is = refl
no_part_of_results kinds.Prepare is = refl
no_part_of_results kinds.Plain is = refl
no_part_of_results kinds.Line is = refl
no_part_of_results kinds.FieldList is = absurd (true≢false (sym is))
no_part_of_results kinds.Fetch is = absurd (true≢false (sym is))

no_part_of_prepare : (kind : ReplyKind) → is_prepare kind ≡ true → first_part kind None ≡ NoPart
no_part_of_prepare kinds.Text is = refl
no_part_of_prepare kinds.Binary is = refl
no_part_of_prepare kinds.Prepare is = refl
no_part_of_prepare kinds.Plain is = refl
no_part_of_prepare kinds.Line is = refl
no_part_of_prepare kinds.FieldList is = absurd (true≢false (sym is))
no_part_of_prepare kinds.Fetch is = absurd (true≢false (sym is))

pub began_fits : (c : Context) → FitsKind c (first_part c.kind None)
began_fits c = record {
  nothing = nothing_listed c.kind;
  results =
      no_part_of_results c.kind;
  prepare = no_part_of_prepare c.kind;
}

pub no_part_fits : (c : Context) → FitsKind c NoPart
no_part_fits c = record { nothing = refl; results = λ is. refl; prepare = λ is. refl }

-- Behind a result that another one follows.
pub began_anew : (x : Came) → Closes true x → x ≡ stands First x.so_far.columns x.results NoPart
began_anew x closes = λ i. record {
  so_far =
      record { awaited = closes.0 i; columns = x.so_far.columns };
  results = x.results;
  part =
      closes.1 i;
}

-- Results one after another.
results_lead : (c : Context) (before : Option (List ColumnDefinition)) (results : List Outcome)
    (part : Part) (payloads : List Payload) (found : List Outcome) → FitsKind c part →
    AreResults c payloads found → Leads c (stands First before results part) payloads found false
results_lead c before results part payloads found fits (manual.last is) =
    result_leads c before results part payloads found false fits is
results_lead c before results part payloads found fits (manual.followed front back here rest is are) =
    let one = result_leads c before results part front here true fits is in
    let two = results_lead c one.end.so_far.columns one.end.results NoPart back rest (no_part_fits c) are in
    record {
      end = two.end;
      is = and_then c _ (Some one.end) (Some two.end) front back one.is
          (ap (λ (k : Came). came_behind c (Some k) back) (began_anew one.end one.closes) ∙ two.is);
      whole = two.whole ∙ ap (λ (k : List Outcome). k ++ rest) one.whole ∙ append_assoc results here rest;
      no_part = two.no_part;
      closes = two.closes;
    }

-- With the reports among the payloads.
pub whole_behind : (c : Context) (payloads others : List Payload) (reports : List ProgressReport) →
    WithoutReports c payloads reports others →
    (x y : Came) (progress : List ProgressReport) (count : ℕ) → came_behind c (Some x) others ≡
    Some y →
    (n : ℕ) × (after_all (GoingOn (opened c x progress count)) payloads ≡ GoingOn (opened c y (progress ++ reports) n))
whole_behind c payloads others reports manual.nothing x y progress count is = (
  count,
  ap (λ (k : Came). GoingOn (opened c k progress count)) (some_is x y is) ∙
      ap (λ (k : List ProgressReport). GoingOn (opened c y k count)) (sym (append-nil progress)),
)
whole_behind c payloads others reports
    (manual.other {payload = payload} {payloads = later} {others = left} denied without) x y
    progress count is =
    let e = has_step c x y (in_place c x.so_far x.so_far.awaited payload) left is in
    let next : Came = with_event x e.0.0 e.0.1 in
    let goes = whole_behind c later left reports without next y progress (count + 1)
    (goes_on_by c x y (in_place c x.so_far x.so_far.awaited payload) e.0 left e.1 is) in
    (goes.0, ap (λ s. after_all s later) (behind_other c x progress count payload e.0.0 e.0.1 denied e.1) ∙ goes.1)
whole_behind c payloads others reports
    (manual.report {payload = payload} {next = next} {payloads = later} {others = left} {report =
    said} {reports = more} form reads without) x y progress count is =
    let e = has_step c x y (in_place c x.so_far x.so_far.awaited next) left is in
    let due = due_in c x.so_far x.so_far.awaited next e.0 e.1 in
    let goes = whole_behind c later (next ∷ left) more without x y (progress ++ said ∷ []) (count + 1) is in (
      goes.0,
      ap (λ s. after_all s later)
          (behind_report c x progress count payload said due form reads) ∙ goes.1 ∙
          ap (λ (k : List ProgressReport). GoingOn (opened c y k goes.0))
          (append_assoc progress (said ∷ []) more),
    )

pub each_such_list : EachSuchListIsWhole
each_such_list c payloads found reports is =
    let leads = results_lead c None [] (first_part c.kind None) is.others found (began_fits c) is.results in
    let goes = whole_behind c payloads is.others reports is.without_reports (began c) leads.end [] 0 leads.is in
    let results : leads.end.results ++ listed leads.end.part ≡ found =
    ap (λ (k : List Outcome). leads.end.results ++ k) leads.no_part ∙
    append-nil leads.end.results ∙ leads.whole in
    sym (ap (λ s. answer_behind s Empty) goes.1 ∙
    (λ i. record {
      results = results i;
      progress = reports;
      end =
          end_behind (leads.closes i) goes.0 Empty;
    }))
