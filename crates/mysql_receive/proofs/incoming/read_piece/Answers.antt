use Rattle.std.proofs.Common.{arith, rules, ◌++◌, []}
use Rattle.mysql_wire.specs.Incoming.{codec_by}
use Rattle.mysql_receive.specs.Views.{statement_view}
use Rattle.mysql_receive.proofs.Splits.{bytes_append}
use Rattle.mysql_receive.proofs.Progressing.{behind_none, waits_fed, waits_open, piece_reads, piece_fed}
use Rattle.mysql_receive.proofs.incoming.read_piece.Goals as goal

pub returns-then-take_within : goal.returns-then-take_within
returns-then-take_within c =
    let laws = c.reader_laws.ensures in
    let r = c.args.packets.now in
    let k = statement_view c.args.statement.now in
    let piece = c.args.piece.now in
    let behind = behind_none laws k r.limit c.args.progress.now (r.bytes ++ piece) (codec_by r)
    (r.bytes ++ piece) [] (piece_reads laws r piece c.requires.open) in
    record {
      fed = piece_fed k r.limit c.args.progress.now r.bytes piece _
          (waits_fed laws k r.limit c.args.progress.now (r.bytes ++ piece) r c.take_within.new.self
          piece [] c.args.progress.now c.requires.open.number behind
          c.if-take_within.ensures.waits c.if-take_within.ensures.used);
      is_open = waits_open laws k r.limit c.args.progress.now (r.bytes ++
          piece) r c.take_within.new.self piece [] c.args.progress.now
          (bytes_append r.bytes piece c.requires.open.bytes
          (λ i. omega (arith, c.type_inv.piece i))) c.requires.open.number behind
          c.if-take_within.ensures.waits c.if-take_within.ensures.used;
      stopped = search rules;
      limit = search rules;
    }
