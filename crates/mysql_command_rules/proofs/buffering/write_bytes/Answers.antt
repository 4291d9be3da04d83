use Rattle.std.proofs.Common.{◌≡◌, ℕ, ◌-◌, List, ◌++◌, length, take, drop, sym, ap, ◌∙◌, append_assoc, take-append-drop}
use Rattle.std.proofs.lemmas.List.{take_rest}
use Rattle.std.proofs.KnownBytes.{Appends-kept, Appends-trans}
use Rattle.mysql_command_rules.proofs.buffering.write_bytes.Goals.{in-Ok, in-Err+else-ne}
use Rattle.mysql_command_rules.proofs.buffering.write_bytes.Goals as goal

-- what was written moves to the front
moves_front : (all done rest : List ℕ) (n : ℕ) → all ≡ done ++ rest → all ≡ (done ++ take n rest) ++
    take (length rest - n) (drop n rest)
moves_front all done rest n split =
    split ∙ ap (λ l. done ++ l) (sym (take-append-drop n rest)) ∙
    sym (append_assoc done (take n rest) (drop n rest)) ∙
    ap (λ l. (done ++ take n rest) ++ l) (sym (take_rest rest n))

pub writes-preserved : goal.writes-preserved
writes-preserved g c =
    let (done, split, appended) = c.writes.invariant in
    let rest = c.writes.rest.now in
    elim c.match-write.branch [
      | in-Ok w ↦ (
        done ++ take w.in-Ok.count rest,
        moves_front _ done rest w.in-Ok.count split ∙
            ap (λ l. (done ++ take w.in-Ok.count rest) ++ l) (sym (ap (λ r. r.now) w.rest-is)),
        Appends-trans _ _ _ _ _ appended w.in-Ok.ensures.bytes,
      )
      | in-Err+else-ne w ↦ (
        done,
        split ∙ ap (λ l. done ++ l) (sym (ap (λ r. r.now) w.rest-is)),
        Appends-kept _ _ _ _ appended w.in-Err.ensures.bytes,
      )
    ]
