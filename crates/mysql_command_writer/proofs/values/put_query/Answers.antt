use Rattle.std.proofs.Common.{◌≡◌, ◌==◌, true, false, refl, sym, ◌∙◌, length}
use Rattle.std.specs.Option.{option_copied}
use Rattle.mysql_executions.specs.Types.{has_query_attributes}
use Rattle.mysql_command_writer.proofs.WithValues.{attributed, not_agreed}
use Rattle.mysql_command_writer.proofs.values.put_query.Goals as goal

pub returns-then-has_query_attributes : goal.returns-then-has_query_attributes
returns-then-has_query_attributes c =
    let asks : has_query_attributes c.args.capabilities ≡ true =
    sym c.has_query_attributes.ensures ∙ c.if-has_query_attributes.true in
    attributed c.attributes_read_back.ensures c.args.capabilities (option_copied c.args.parameters)
    c.args.attributes.now c.args.sql.now c.args.out.now.items c.put_attributed.new.out.items c.put_attributed.result
    asks c.put_attributed.ensures

pub returns-then-not-is_empty : goal.returns-then-not-is_empty
returns-then-not-is_empty c =
    let asks : has_query_attributes c.args.capabilities ≡ false =
    sym c.has_query_attributes.ensures ∙ c.if-has_query_attributes.false in
    let some : (length c.args.attributes.now == 0) ≡ false = sym c.is_empty.ensures ∙ c.if-not-is_empty.true in
    (refl, λ _. (rw asks refl, not_agreed c.args.capabilities c.args.attributes.now asks some))
