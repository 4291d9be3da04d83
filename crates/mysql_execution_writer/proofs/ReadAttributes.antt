-- Attributes of a query that were read can be written, and are read again as they are.
use Rattle.std.proofs.Common.{◌==◌, true}
use Rattle.std.specs.Prelude.{◌||◌}
use Rattle.mysql_buf.specs.Reading.{lenenc_int_at}
use Rattle.mysql_cells.specs.TypedCells.{ReadCellsAreWritten}
use Rattle.mysql_executions.specs.Attributes.{query_attributes_at}
use Rattle.mysql_executions.specs.Executions.{attributes_at, binding_at}
use Rattle.mysql_executions.specs.Fields.{◌>>=◌, ◌>>◌, must}
use Rattle.mysql_executions.specs.Types.{types_at}
use Rattle.mysql_execution_writer.specs.Laws.{ReadAttributesAreWritten}
use Rattle.mysql_execution_writer.proofs.ReadExecutions.{binding_left}
use Rattle.mysql_execution_writer.proofs.ReadTypes.{all_types_left, bind_some, lenenc_left, must_then}
use Rattle.mysql_execution_writer.proofs.ReadValues.{attributes_left}

pub read_attributes_are_written : ReadCellsAreWritten → ReadAttributesAreWritten
unfolding query_attributes_at
read_attributes_are_written written bytes text attributes are e =
    let k = bind_some (lenenc_int_at bytes)
    (λ count. lenenc_int_at count.1 >>= λ sets. must (sets.0 == 1) >>
    (binding_at count.0 sets.1 >>= λ binding. must (binding.bound || (count.0 == 0)) >>
    (types_at true count.0 binding.rest >>= λ types. attributes_at binding.nulls 0 types.0
    types.1))) (attributes, text) e in
    let s = bind_some (lenenc_int_at k.0.1)
    (λ sets. must (sets.0 == 1) >>
    (binding_at k.0.0 sets.1 >>= λ binding. must (binding.bound || (k.0.0 == 0)) >>
    (types_at true k.0.0 binding.rest >>= λ types. attributes_at binding.nulls 0 types.0 types.1)))
    (attributes, text) k.2 in
    let m = must_then (s.0.0 == 1) (binding_at k.0.0 s.0.1 >>= λ binding. must (binding.bound || (k.0.0 == 0)) >>
    (types_at true k.0.0 binding.rest >>= λ types. attributes_at binding.nulls 0 types.0 types.1))
    (attributes, text) s.2 in
    let b = bind_some (binding_at k.0.0 s.0.1)
    (λ binding. must (binding.bound ||
    (k.0.0 == 0)) >> (types_at true k.0.0 binding.rest >>= λ types. attributes_at binding.nulls
    0 types.0 types.1)) (attributes, text) m.1 in
    let n = must_then (b.0.bound ||
    (k.0.0 == 0)) (types_at true k.0.0 b.0.rest >>= λ types. attributes_at b.0.nulls 0 types.0
    types.1) (attributes, text) b.2 in
    let t = bind_some (types_at true k.0.0 b.0.rest)
    (λ types. attributes_at b.0.nulls 0 types.0 types.1) (attributes, text) n.1 in
    let left = binding_left k.0.0 s.0.1 b.0 (lenenc_left k.0.1 s.0 (lenenc_left bytes k.0 are k.1) s.1) b.1 in
    let types = all_types_left true k.0.0 b.0.rest t.0 left.left t.1 in
    let h = attributes_left written true b.0.nulls 0 t.0.0 t.0.1 text attributes types.left types.names t.2 in
    (h.can, h.same)
