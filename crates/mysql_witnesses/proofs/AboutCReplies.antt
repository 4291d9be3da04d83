-- Changes of the session's state, and readers of replies.
use Rattle.std.proofs.Common.{◌≡◌, ℕ, ◌≤◌, List, [], ◌∷◌, length, drop, ap, ◌∙◌, refl, arith, length-drop}
use Rattle.mysql_buf.specs.Reading.{first}
use Rattle.mysql_replies.specs.Reply.{Answered, GoingOn, ReplySoFar}
use Rattle.mysql_replies.specs.Taking.{reports_in, without_reports, without_results}
use Rattle.mysql_ok_packets.specs.SessionStates.{state_at}
use Rattle.mysql_witnesses.specs.CReplies.{ChangesEndBehindTheirData, NoKindIsNoReader, TakenResultsTakeTheReports}

behind_four : (bytes : List ℕ) (next : ℕ) → length bytes ≡ 7 → 1 ∷ 1 ∷ 0 ∷ [] ≡ drop next bytes → next ≤ 7 → next ≡ 4
behind_four bytes next l e h = let n = ap length e ∙ length-drop next bytes in omega arith

pub changes_end_behind_their_data : ChangesEndBehindTheirData
unfolding state_at first
changes_end_behind_their_data next type len h =
    behind_four (1 ∷ 2 ∷ 1 ∷ 0x61 ∷ 1 ∷ 1 ∷ 0 ∷ []) next (omega arith) h.2 h.4

pub taken_results_take_the_reports : TakenResultsTakeTheReports
taken_results_take_the_reports number old new h = ap (λ r. reports_in r.so_far) h.1.1 ∙
    none (without_results old.reader.so_far)
  where
    none : (s : ReplySoFar) → reports_in (without_reports s) ≡ []
    none (GoingOn s) = refl
    none (Answered answer) = refl

pub no_kind_is_no_reader : NoKindIsNoReader
no_kind_is_no_reader capabilities first limit made h = h.0
