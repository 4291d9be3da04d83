use Rattle.std.proofs.Common.{inr, refl, subst, sym, ℕ}
use Rattle.mysql_values.specs.Sql.{read_by}
use Rattle.mysql_c_commands.specs.Recoding.{IsWhyNoRecoder}
use Rattle.mysql_c_commands.proofs.recoder.recoder_new.Goals as goal

pub returns-in-Err : goal.returns-in-Err
returns-in-Err c =
    let number = c.number-in-Err.ensures in
    rw (sym c.in-Some.ensures)
    (record {
      made = λ zero. absurd (c.in-Err.ensures.cause.1 (cc));
      kept = λ other. refl;
      small = λ low. let is = c.in-Err.ensures.small low in cc;
      cause = inr (subst (λ (n : ℕ). IsWhyNoRecoder
          (read_by c.in-Some.mode c.in-Some.spelling c.args.query.now) c.args.id c.args.limit n)
          (sym number) c.in-Err.ensures.cause.0);
    })
