use Rattle.std.proofs.Common.{rules, arith, ◌≡◌, ◌++◌, [], subst, ap, ◌∙◌, Err, refl}
use Rattle.std.proofs.lemmas.Result.{err_from_is_err_and}
use Rattle.mysql_wire.specs.Incoming.{Incoming, codec_by}
use Rattle.mysql_receive.specs.Views.{statement_view}
use Rattle.mysql_receive.specs.Steps.{ReadOne, OneBy}
use Rattle.mysql_receive.proofs.Splits.{bytes_append}
use Rattle.mysql_receive.proofs.Progressing.{behind_none, behind_next, placed_next, waits_fed, waits_open, refused_fed}
use Rattle.mysql_receive.proofs.Progressing.{payload_fed, piece_reads, piece_fed}
use Rattle.mysql_receive.proofs.incoming.read_payloads.Goals as goal

pub packets-init : goal.packets-init
packets-init c =
    let r = c.args.packets.now in
    record {
      behind = behind_none c.reader_laws.ensures (statement_view c.args.statement.now) r.limit
          c.args.progress.now (r.bytes ++ c.args.piece.now) (codec_by r) (r.bytes ++
          c.args.piece.now) []
          (piece_reads c.reader_laws.ensures r c.args.piece.now c.requires.open);
      limit = refl;
      number = c.requires.open.number;
    }

pub packets-preserved : goal.packets-preserved
packets-preserved c =
    let left : (c.read_in_place.new.self ≡ c.packets.packets) ×
    (c.read_in_place.new.piece ≡ c.packets.rest) = search rules in
    let h = rw (left.0, left.1) at (rw c.in-Ok-true.field-0-test at c.in-Ok-true.ensures.ok) in
    let k = statement_view c.args.statement.now in
    let r = c.args.packets.now in
    let one : ReadOne k c.packets.progress c.advance.new.self.payload c.read_one-in-Ok-true.new.self =
    subst (λ l. ReadOne k c.packets.progress l c.read_one-in-Ok-true.new.self) c.payload.ensures
    c.in_ok-read_one-in-Ok-true.ensures.by in
    record {
      behind = behind_next c.reader_laws.ensures k r.limit c.args.progress.now (r.bytes ++
          c.args.piece.now) c.packets.packets c.advance.new.self c.reset_seq_id-in-Ok-true.new.self
          c.packets.rest.now c.advance.new.piece.now
          c.packets.progress c.read_one-in-Ok-true.new.self c.packets.invariant.behind h
          c.reset_seq_id-in-Ok-true.ensures one;
      limit = ap (λ (x : Incoming). x.limit) c.reset_seq_id-in-Ok-true.ensures ∙ h.limit ∙ c.packets.invariant.limit;
      number = ap (λ (x : Incoming). x.number) c.reset_seq_id-in-Ok-true.ensures;
    }

pub packets-preserved-in-Some : goal.packets-preserved-in-Some
packets-preserved-in-Some c =
    let h = c.in-Some.ensures.found in
    let k = statement_view c.args.statement.now in
    let r = c.args.packets.now in
    record {
      behind = placed_next c.reader_laws.ensures k r.limit c.args.progress.now (r.bytes ++
          c.args.piece.now) c.packets.packets c.read_in_place.new.self c.reset_seq_id.new.self
          c.packets.rest.now c.read_in_place.new.piece.now
          c.in-Some.payload.now c.packets.progress c.read_one.new.self c.packets.invariant.behind h
          c.reset_seq_id.ensures c.in_ok-read_one.ensures.by;
      limit = ap (λ (x : Incoming). x.limit) c.reset_seq_id.ensures ∙ h.limit ∙ c.packets.invariant.limit;
      number = ap (λ (x : Incoming). x.number) c.reset_seq_id.ensures;
    }

pub returns-in_err-read_one : goal.returns-in_err-read_one
returns-in_err-read_one c =
    let h = c.in-Some.ensures.found in
    let p = err_from_is_err_and c.from_residual.result c.from_residual.ensures.1 in
    let k = statement_view c.args.statement.now in
    let r = c.args.packets.now in
    let e = c.in_err-read_one.field-0.0 in
    let stopped : c.read_in_place.new.self.bytes ≡ [] = search rules in
    let limit : c.read_in_place.new.self.limit ≡ r.limit = h.limit ∙ c.packets.invariant.limit in
    rw (p.1, p.2)
    (record {
      fed = piece_fed k r.limit c.args.progress.now r.bytes c.args.piece.now _
          (payload_fed c.reader_laws.ensures k r.limit c.args.progress.now (r.bytes ++
          c.args.piece.now) (codec_by c.packets.packets) (c.packets.packets.bytes ++
          c.packets.rest.now) [] (codec_by c.read_in_place.new.self)
          (c.read_in_place.new.self.bytes ++ c.read_in_place.new.piece.now) c.in-Some.payload.now
          c.read_in_place.new.self.bytes c.packets.progress c.read_one.new.self e
          (bytes_append r.bytes c.args.piece.now c.requires.open.bytes (λ i. omega (arith, c.type_inv.piece i)))
          c.packets.invariant.behind h c.in_err-read_one.ensures.by c.in_err-read_one.ensures.sets
          c.in_err-read_one.ensures.count);
      is_open = tt;
      stopped = stopped;
      limit = limit;
    })

pub returns-in_err-read_one-in-Ok-true : goal.returns-in_err-read_one-in-Ok-true
returns-in_err-read_one-in-Ok-true c =
    let left : (c.read_in_place.new.self ≡ c.packets.packets) ×
    (c.read_in_place.new.piece ≡ c.packets.rest) = search rules in
    let h = rw (left.0, left.1) at (rw c.in-Ok-true.field-0-test at c.in-Ok-true.ensures.ok) in
    let p = err_from_is_err_and c.from_residual-in_err-read_one-in-Ok-true.result
    c.from_residual-in_err-read_one-in-Ok-true.ensures.1 in
    let k = statement_view c.args.statement.now in
    let r = c.args.packets.now in
    let e = c.in_err-read_one-in-Ok-true.field-0.0 in
    let one : OneBy k c.packets.progress c.advance.new.self.payload c.read_one-in-Ok-true.new.self (Err e) =
    subst (λ l. OneBy k c.packets.progress l c.read_one-in-Ok-true.new.self (Err e))
    c.payload.ensures c.in_err-read_one-in-Ok-true.ensures.by in
    let stopped : c.advance.new.self.bytes ≡ [] = search rules in
    let limit : c.advance.new.self.limit ≡ r.limit = h.limit ∙ c.packets.invariant.limit in
    rw (p.1, p.2)
    (record {
      fed = piece_fed k r.limit c.args.progress.now r.bytes c.args.piece.now _
          (payload_fed c.reader_laws.ensures k r.limit c.args.progress.now (r.bytes ++
          c.args.piece.now) (codec_by c.packets.packets) (c.packets.packets.bytes ++
          c.packets.rest.now) [] (codec_by c.advance.new.self)
          (c.advance.new.self.bytes ++ c.advance.new.piece.now) c.advance.new.self.payload
          c.advance.new.self.bytes c.packets.progress c.read_one-in-Ok-true.new.self e
          (bytes_append r.bytes c.args.piece.now c.requires.open.bytes (λ i. omega (arith, c.type_inv.piece i)))
          c.packets.invariant.behind h one c.in_err-read_one-in-Ok-true.ensures.sets
          c.in_err-read_one-in-Ok-true.ensures.count);
      is_open = tt;
      stopped = stopped;
      limit = limit;
    })

pub returns-in-Ok-false : goal.returns-in-Ok-false
returns-in-Ok-false c =
    let left : (c.read_in_place.new.self ≡ c.packets.packets) ×
    (c.read_in_place.new.piece ≡ c.packets.rest) = search rules in
    let w = rw (left.0, left.1) at (rw c.in-Ok-false.field-0-test at c.in-Ok-false.ensures.ok) in
    let same : c.advance.new.self ≡
    record c.read_in_place.new.self {
      bytes = c.read_in_place.new.self.bytes ++
          c.read_in_place.new.piece.now;
      payload = [];
    } = search rules in
    let k = statement_view c.args.statement.now in
    let r = c.args.packets.now in
    let limit : c.advance.new.self.limit ≡ r.limit =
    ap (λ (x : Incoming). x.limit) (rw (left.0, left.1) at same) ∙ c.packets.invariant.limit in
    record {
      fed = piece_fed k r.limit c.args.progress.now r.bytes c.args.piece.now _
          (waits_fed c.reader_laws.ensures k r.limit c.args.progress.now (r.bytes ++
          c.args.piece.now) c.packets.packets c.advance.new.self c.packets.rest.now
          c.advance.new.piece.now c.packets.progress
          c.packets.invariant.number c.packets.invariant.behind w (rw (left.0, left.1) at same));
      is_open = waits_open c.reader_laws.ensures k r.limit c.args.progress.now (r.bytes ++
          c.args.piece.now) c.packets.packets c.advance.new.self c.packets.rest.now
          c.advance.new.piece.now c.packets.progress
          (bytes_append r.bytes c.args.piece.now c.requires.open.bytes
          (λ i. omega (arith, c.type_inv.piece i))) c.packets.invariant.number
          c.packets.invariant.behind w (rw (left.0, left.1) at same);
      stopped = tt;
      limit = limit;
    }

pub returns-in-Err : goal.returns-in-Err
returns-in-Err c =
    let left : (c.read_in_place.new.self ≡ c.packets.packets) ×
    (c.read_in_place.new.piece ≡ c.packets.rest) = search rules in
    let refused = rw (left.0, left.1) at c.in-Err.ensures.refused in
    let k = statement_view c.args.statement.now in
    let r = c.args.packets.now in
    let stopped : c.advance.new.self.bytes ≡ [] = search rules in
    let limit : c.advance.new.self.limit ≡ r.limit = search rules in
    rw c.read_error_of.ensures
    (record {
      fed = piece_fed k r.limit c.args.progress.now r.bytes c.args.piece.now _
          (refused_fed c.reader_laws.ensures k r.limit c.args.progress.now (r.bytes ++
          c.args.piece.now) (codec_by c.packets.packets) (codec_by c.advance.new.self)
          (c.packets.packets.bytes ++ c.packets.rest.now) [] c.advance.new.self.bytes
          c.in-Err.error c.packets.progress
          (bytes_append r.bytes c.args.piece.now c.requires.open.bytes
          (λ i. omega (arith, c.type_inv.piece i))) c.packets.invariant.behind refused);
      is_open = tt;
      stopped = stopped;
      limit = limit;
    })
