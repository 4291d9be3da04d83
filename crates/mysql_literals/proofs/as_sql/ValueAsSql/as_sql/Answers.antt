use Rattle.std.proofs.Common.{[], Ok, ap, subst}
use Rattle.mysql_literals.specs.AsSql.{PutsSql}
use Rattle.mysql_literals.specs.Literals.{sql_of}
use Rattle.mysql_literals.proofs.SqlTexts.{put_is_utf8, sign_kept}
use Rattle.mysql_literals.proofs.as_sql.ValueAsSql.as_sql.Goals as goal

pub from_utf8_unchecked-requires : goal.from_utf8_unchecked-requires
from_utf8_unchecked-requires c =
    let text = c.put_sql.new.out.items in
    put_is_utf8 c.args.no_backslash_escape c.args.self.now text c.fields_fit.ensures
    (subst (λ sql. PutsSql sql [] text (Ok tt))
    (ap (sql_of c.args.no_backslash_escape) (sign_kept c.args.self.now))
    (rw c.new-text.ensures.items at c.in_ok-put_sql.ensures.text))
