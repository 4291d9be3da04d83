use Rattle.std.proofs.Common.{◌≡◌, ◌-◌, ℕ, List, Ok, Err, length, drop, sym, ap, subst, ◌∙◌, arith}
use Rattle.std.proofs.lemmas.List.{take_rest}
use Rattle.mysql_ok_packets.specs.Views.{ok_packet_view}
use Rattle.mysql_ok_packets.specs.Written.{or_empty}
use Rattle.mysql_ok_packets.specs.SessionStates.{state_at}
use Rattle.mysql_ok_packets.specs.SessionStateViews.{state_view}
use Rattle.mysql_c_replies.specs.States.{ShowsChangeAt}
use Rattle.mysql_c_replies.proofs.States.{bad_shown, next_is, ok_shown, over_shown}
use Rattle.mysql_c_replies.proofs.shown.show_state.Goals as goal

pub returns-then-position-bytes : goal.returns-then-position-bytes
returns-then-position-bytes c =
    let same = ap (λ (l : List ℕ). length l) c.states_in-bytes.ensures in
    over_shown (ok_packet_view c.args.ok.now).session_state_info c.args.position.now c.args.kind.now
    c.args.len.now (omega (arith, same))

pub returns-in_default : goal.returns-in_default
returns-in_default c =
    let same = ap (λ (l : List ℕ). length l) c.states_in-bytes.ensures in
    let known : state_at (drop c.args.position.now
    (or_empty (ok_packet_view c.args.ok.now).session_state_info)) ≡ Err c.in_default.field-0 =
    ap (λ (l : List ℕ). state_at (drop c.args.position.now l)) (sym c.states_in-bytes.ensures)
    ∙ ap (λ (l : List ℕ). state_at l)
    (sym (take_rest c.states_in-bytes.result.now c.args.position.now)) ∙
    c.in_default.ensures.0 in
    bad_shown (ok_packet_view c.args.ok.now).session_state_info c.args.position.now c.args.kind.now
    c.args.len.now c.in_default.field-0 (omega (arith, same)) known

pub overflow_sub-position : goal.overflow_sub-position
overflow_sub-position c =
    let known = ap (λ (l : List ℕ). state_at l)
    (sym (take_rest c.states_in-bytes.result.now c.args.position.now)) ∙ c.in-Ok.ensures in
    let next = next_is c.states_in-bytes.result.now c.args.position.now (state_view c.in-Ok.change)
    c.parse-read.new.self.0.now known in
    omega (arith, next.1)

pub returns : goal.returns
returns c =
    let same = ap (λ (l : List ℕ). length l) c.states_in-bytes.ensures in
    let known : state_at (drop c.args.position.now
    (or_empty (ok_packet_view c.args.ok.now).session_state_info)) ≡
    Ok (state_view c.in-Ok.change, c.parse-read.new.self.0.now) =
    ap (λ (l : List ℕ). state_at (drop c.args.position.now l)) (sym c.states_in-bytes.ensures)
    ∙ ap (λ (l : List ℕ). state_at l)
    (sym (take_rest c.states_in-bytes.result.now c.args.position.now)) ∙ c.in-Ok.ensures in
    let shown = ok_shown (ok_packet_view c.args.ok.now).session_state_info c.args.position.now
    c.from.result (length c.data_ref-2.result.now)
    (state_view c.in-Ok.change) c.parse-read.new.self.0.now (omega (arith, same)) known (cc)
    (ap (λ (l : List ℕ). length l) c.data_ref-2.ensures) in
    subst (λ (n : ℕ). ShowsChangeAt (ok_packet_view c.args.ok.now).session_state_info
    c.args.position.now 0 (n - length c.parse-read.new.self.0.now) c.from.result
    (length c.data_ref-2.result.now)) (sym same) shown
