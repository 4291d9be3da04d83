use Rattle.std.proofs.Common.{◌≡◌, ◌∙◌, ◌≢◌, ◌<◌, true, false, length, get_or, arith, sym}
use Rattle.std.proofs.lemmas.Bool.Decides.{nat_tests}
use Rattle.mysql_queries.specs.Tokens.{single_quote}
use Rattle.mysql_queries.proofs.Fronts.{no_number, IsNoIntroduced, IsNoNull}
use Rattle.mysql_queries.proofs.Introduced.{none_by}
use Rattle.mysql_queries.proofs.literals.literal_len.Goals as goal
use Rattle.mysql_queries.proofs.literals.literal_len.Goals.{else-not-is_empty-via-then-not-is_empty+else-text-eq39}
use Rattle.mysql_queries.proofs.literals.literal_len.Goals.{else-not-is_empty-via-else-not-is_empty}
use Rattle.mysql_queries.proofs.literals.literal_len.Goals.{then-matches+in_ok-len-3+in_default-2, else-matches}
use Rattle.mysql_queries.proofs.literals.literal_len.Goals.{in-Hexadecimal, in_default}

pub returns-in-None-read_number-clause-none : goal.returns-in-None-read_number-clause-none
returns-in-None-read_number-clause-none c =
    let no_null : IsNoNull c.args.text.now = λ p. let f : false ≡ true = c.if-null_first.ensures.1 p in cc in
    let no_quote : 0 < length c.args.text.now → get_or c.args.text.now 0 0 ≢ single_quote =
    λ some e. elim c.else-not-is_empty.branch [
      | else-not-is_empty-via-then-not-is_empty+else-text-eq39 w ↦ w.if-text-eq39.false e
      | else-not-is_empty-via-else-not-is_empty w ↦ absurd
          (grind (arith, nat_tests, w.if-not-is_empty.false, c.is_empty.ensures))
    ] in
    let none : IsNoIntroduced c.args.spelling c.args.text.now =
    none_by c.args.spelling c.args.text.now (λ e. elim c.if-matches.branch [
      | then-matches+in_ok-len-3+in_default-2 w ↦ rw w.in_default-2.is at w.in_ok-len-3.ensures.none
      | else-matches w ↦ elim c.match-matches.branch [
        | in-Hexadecimal v ↦ absurd (let f : true ≡ false = sym v.matches-is ∙ w.if-matches.false in cc)
        | in_default v ↦ absurd (v.in_default.not-Hexadecimal e)
      ]
    ]) in
    no_number c.args.mode c.args.spelling c.args.text.now no_null no_quote
    (sym c.if-hex_first.ensures) c.in-None-read_number.ensures.none none
