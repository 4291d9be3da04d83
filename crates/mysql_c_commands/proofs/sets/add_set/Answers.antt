use Rattle.std.proofs.Common.{inl, inr}
use Rattle.mysql_c_commands.proofs.sets.add_set.Goals as goal

pub returns-in-Ok : goal.returns-in-Ok
returns-in-Ok c =
    elim c.put_set.ensures [
      | inl put ↦ inl (
        put.0,
        record {
          values = c.in-Ok.values;
          describe =
              c.in-Ok.ensures.ok;
          more = put.1;
          open_stays = put.2;
        },
      )
      | inr refused ↦ inr (inl refused)
    ]
