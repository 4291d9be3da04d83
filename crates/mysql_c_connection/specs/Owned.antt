-- What a handle owns.
use Rattle.std.specs.Prelude.{◌≡◌}
use base.Fml.{Fml, ftrue, fex}
use base.Stored.{Coded}
use denote.RawPtr.{Ptr, block_ptr, null_ptr}
use Rattle.std.specs.Box.Ownership.{box_owns}
use Rattle.std.specs.Global.{Global}
use Rattle.std.specs.contracts.impls.GlobalAllocator.TheImpl.{ghosts}
use Rattle.mysql_c_connection.specs.declared.object.Object.TheVariants.{Empty}
use Rattle.mysql_c_connection.specs.contracts.object.Object.{the_row}

-- A null pointer stands for the empty object and owns nothing; any other owns what a box of the object does.
abbrev pub handle_owns : Global → Ptr → the_row.Denot → Fml
handle_owns alloc null_ptr object = fex (object ≡ Empty) (λ _. ftrue)
handle_owns alloc (block_ptr b o) object = box_owns (ghosts.dealloc_token alloc) the_row (block_ptr b o) object

-- How the object is stored.
abbrev pub object_coded : Coded the_row.Denot
object_coded = the_row.coded
