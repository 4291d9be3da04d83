use Rattle.std.proofs.Common.{◌≡◌, ◌^◌, length, true, false, refl, sym, ◌∙◌, arith, ap, nat_lt}
use Rattle.std.proofs.Common.{subst}
use Rattle.std.proofs.lemmas.Bool.{ltb-false, ltb-true}
use Rattle.std.specs.List.{AllByRecursion}
use Rattle.std.specs.Option.{option_copied}
use Rattle.mysql_const.specs.BinlogDumpFlags.{binlog_dump_flags}
use Rattle.mysql_field_constants.specs.Flags.{are_named}
use Rattle.mysql_replication.specs.Blocks.{IsSid, block_bytes}
use Rattle.mysql_replication.specs.Packets.{whole_binlog_dump_gtid}
use Rattle.mysql_replication.specs.Views.{binlog_dump_gtid_view}
use Rattle.mysql_command_writer.proofs.GtidDumps.{HasGtidParts, gtids_read, long_names, long_sids, nameless_gtids}
use Rattle.mysql_command_writer.proofs.testing.test_binlog_dump_gtid.Goals as goal

pub returns-then-not-have_names : goal.returns-then-not-have_names
returns-then-not-have_names c =
    let p = binlog_dump_gtid_view c.args.request.now in
    let named : are_named binlog_dump_flags p.flags ≡ false =
    ap (are_named binlog_dump_flags) (sym c.flags.ensures) ∙ sym c.have_names.ensures ∙ c.if-not-have_names.true in
    let parts : HasGtidParts p = record {
      flags = omega arith;
      server_id = omega arith;
      pos = omega arith;
      sids = subst (AllByRecursion IsSid) c.sids.ensures c.sids_are.ensures;
    } in
    λ _. (rw named refl, nameless_gtids c.args.capabilities (option_copied c.args.parameters) p parts named)

pub returns-then-not-branch : goal.returns-then-not-branch
returns-then-not-branch c =
    let p = binlog_dump_gtid_view c.args.request.now in
    let named : are_named binlog_dump_flags p.flags ≡ true =
    ap (are_named binlog_dump_flags) (sym c.flags.ensures) ∙ sym c.have_names.ensures ∙ c.if-not-have_names.false in
    let short : nat_lt (length (block_bytes p.sids)) (2 ^ 32) ≡ false =
    sym c.in_ok-has_short_block.ensures ∙ c.if-not-branch.true in
    let parts : HasGtidParts p = record {
      flags = omega arith;
      server_id = omega arith;
      pos = omega arith;
      sids = subst (AllByRecursion IsSid) c.sids.ensures c.sids_are.ensures;
    } in
    λ _. (
      rw named refl,
      long_sids c.args.capabilities (option_copied c.args.parameters) p parts named
          (ltb-false (length (block_bytes p.sids)) (2 ^ 32) short),
    )

pub returns-then-not-is_whole : goal.returns-then-not-is_whole
returns-then-not-is_whole c =
    let p = binlog_dump_gtid_view c.args.request.now in
    let named : are_named binlog_dump_flags p.flags ≡ true =
    ap (are_named binlog_dump_flags) (sym c.flags.ensures) ∙ sym c.have_names.ensures ∙ c.if-not-have_names.false in
    let short : nat_lt (length (block_bytes p.sids)) (2 ^ 32) ≡ true =
    sym c.in_ok-has_short_block.ensures ∙ c.if-not-branch.false in
    let whole : whole_binlog_dump_gtid p ≡ false = sym c.is_whole.ensures ∙ c.if-not-is_whole.true in
    let parts : HasGtidParts p = record {
      flags = omega arith;
      server_id = omega arith;
      pos = omega arith;
      sids = subst (AllByRecursion IsSid) c.sids.ensures c.sids_are.ensures;
    } in
    λ _. (
      rw named refl,
      long_names c.args.capabilities (option_copied c.args.parameters) p parts named
          (ltb-false (length p.filename) (2 ^ 32) whole)
          (ltb-true (length (block_bytes p.sids)) (2 ^ 32) short),
    )

pub returns : goal.returns
returns c =
    let p = binlog_dump_gtid_view c.args.request.now in
    let named : are_named binlog_dump_flags p.flags ≡ true =
    ap (are_named binlog_dump_flags) (sym c.flags.ensures) ∙ sym c.have_names.ensures ∙ c.if-not-have_names.false in
    let short : nat_lt (length (block_bytes p.sids)) (2 ^ 32) ≡ true =
    sym c.in_ok-has_short_block.ensures ∙ c.if-not-branch.false in
    let whole : whole_binlog_dump_gtid p ≡ true = sym c.is_whole.ensures ∙ c.if-not-is_whole.false in
    let parts : HasGtidParts p = record {
      flags = omega arith;
      server_id = omega arith;
      pos = omega arith;
      sids = subst (AllByRecursion IsSid) c.sids.ensures c.sids_are.ensures;
    } in
    gtids_read c.args.capabilities (option_copied c.args.parameters) p parts named
    (ltb-true (length p.filename) (2 ^ 32) whole)
    (ltb-true (length (block_bytes p.sids)) (2 ^ 32) short)
