-- The bits of the columns.
use Rattle.std.proofs.Common.{ℕ, List, ap, ◌∙◌}
use Rattle.mysql_field_lists.specs.NullBitmap.{bits_from}
use Rattle.mysql_field_lists.proofs.null_bitmap.NullBitmap.iter.Goals as goal
use Rattle.mysql_field_lists.proofs.Bits.{columns_of}

pub returns : goal.returns
returns g c =
    c.new.ensures
    ∙ ap (λ (bytes : List ℕ). bits_from bytes c.BIT_OFFSET.result c.args.columns) c.as_slice.ensures
    ∙ ap (λ (offset : ℕ). bits_from (g.U.AsSlice.items c.args.self.now.0) offset c.args.columns) c.BIT_OFFSET.ensures
    ∙ columns_of g.T.SerializationSide.BIT_OFFSET (g.U.AsSlice.items c.args.self.now.0) c.args.columns
