use Rattle.std.proofs.Common.{◌+◌, ◌-◌, length, arith}
use Rattle.mysql_queries.proofs.Introduced.{behind_len, introduced_read, introduced_run, none_behind}
use Rattle.mysql_queries.proofs.hexadecimal.read_introduced.Goals as goal

pub returns-in-None-clause-none : goal.returns-in-None-clause-none
returns-in-None-clause-none c =
    let found = c.in-Some.ensures.found in
    none_behind c.args.text.now found.0 c.in-Some.literal.now found.1 found.2
    (rw c.in-None.is at c.in_ok-len.ensures.none)

pub returns-in-Some-2-clause-run : goal.returns-in-Some-2-clause-run
returns-in-Some-2-clause-run c =
    let found = c.in-Some.ensures.found in
    introduced_run c.args.text.now found.0 c.in-Some.literal.now
    (length c.args.text.now - length c.in-Some.literal.now + c.in-Some-2.len) c.in-Some-2.len
    found.1 found.2
    (omega (arith, behind_len c.args.text.now found.0 c.in-Some.literal.now found.2))
    (rw c.in-Some-2.is at c.in_ok-len.ensures.run)

pub returns-in-Some-2-clause-content : goal.returns-in-Some-2-clause-content
returns-in-Some-2-clause-content c =
    let found = c.in-Some.ensures.found in
    introduced_read c.args.text.now found.0 c.in-Some.literal.now _
    (length c.args.text.now - length c.in-Some.literal.now + c.in-Some-2.len) c.in-Some-2.len
    found.1 found.2
    (omega (arith, behind_len c.args.text.now found.0 c.in-Some.literal.now found.2))
    (rw c.in-Some-2.is at c.in_ok-len.ensures.content)
