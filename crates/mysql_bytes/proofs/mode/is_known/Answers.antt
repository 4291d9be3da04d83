use Rattle.std.proofs.Common.{◌≡◌, ◌∙◌, ◌||◌, Bool, true, false, sym}
use Rattle.mysql_bytes.specs.Modes.{is_one_of, modes_of_other_things, modes_with_ansi_quotes, modes_without_escapes}
use Rattle.mysql_bytes.proofs.mode.is_known.Goals as goal
use Rattle.mysql_bytes.proofs.mode.is_known.Goals.{then-is_listed, else-is_listed}

last_of_three : (a b c r : Bool) → a ≡ false → b ≡ false → r ≡ c → r ≡ (a || b || c)
last_of_three a b c r e f g = rw (e, f) g

pub returns-else-is_listed-2 : goal.returns-else-is_listed-2
returns-else-is_listed-2 c =
    let name = c.args.name.now in
    let first : is_one_of modes_without_escapes name ≡ false = elim c.if-is_listed.branch [
      | then-is_listed w ↦ sym c.is_listed.ensures ∙ sym w.value-is ∙ c.if-is_listed-2.false
      | else-is_listed w ↦ sym w.if-is_listed.ensures
    ] in
    let second : is_one_of modes_with_ansi_quotes name ≡ false = elim c.if-is_listed.branch [
      | then-is_listed w ↦ absurd (let f : true ≡ false = w.if-is_listed.ensures ∙
          sym c.is_listed.ensures ∙ sym w.value-is ∙ c.if-is_listed-2.false in cc)
      | else-is_listed w ↦ sym w.is_listed-else-is_listed.ensures ∙ sym w.value-is ∙ c.if-is_listed-2.false
    ] in
    last_of_three (is_one_of modes_without_escapes name) (is_one_of modes_with_ansi_quotes name)
    (is_one_of modes_of_other_things name)
    c.is_listed-else-is_listed-2.result first second c.is_listed-else-is_listed-2.ensures
