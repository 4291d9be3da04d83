-- The handle and the parts own what a box at the same types owns; a null handle owns its fields alone.
use mathlib.Core.List.{[]}
use lib.Dec.{T, lit<}
use mir.Syntax.{impl, tnil, dnil}
use mir.Val.{Val, vnull, vstruct, vnil, vcons, has_ty, WT}
use denote.Signature.{Slot, plain}
use denote.RattleType.{RattleType}
use Rattle.core.proofs.alloc.Calls.{α, Fits}
use Rattle.std_alloc.proofs.BoxSteps.Form.{Bx, box_ty}
use Rattle.std_alloc.proofs.ResultValues.{and_tt}
use Rattle.std_heap.specs.contracts.Global as Heap
use Rattle.std_heap.specs.contracts.GlobalAllocator.TheImpl.{ghosts, dict}
use Rattle.std_heap.proofs.Global.TheLaws as heap
use Rattle.mysql_c_connection.specs.contracts.object.Object as Object
use Rattle.mysql_c_connection.proofs.object.Object.TheLaws as object
use Rattle.mysql_c_handles.specs.contracts.parts.Parts as Parts
use Rattle.mysql_c_connection.specs.contracts.handle.Handle as Handle

abbrev pub E : Bx
E = record {
  row = Object.the_row;
  laws = object.the_row_laws;
  al =
      record {
        row = Heap.the_row;
        laws = heap.the_row_laws;
        g = ghosts;
        d = dict;
        drops =
            impl [] tnil dnil;
      };
}

abbrev pub ThePartsRow : RattleType
ThePartsRow = Parts.the_row Object.the_row Heap.the_row ghosts

abbrev pub FromParts : Slot 0
FromParts = plain (λ _. ThePartsRow)

abbrev pub FromHandle : Slot 0
FromHandle = plain (λ _. Handle.the_row)

abbrev pub FromGlobal : Slot 0
FromGlobal = plain (λ _. Heap.the_row)

-- the machine value of a null handle
abbrev pub null_word : Val → Val
null_word hv = vstruct (vcons vnull (vcons hv vnil))

pub null_typed : (hv : Val) → Fits E.al hv → T (has_ty (box_ty E) (null_word hv)) × WT (null_word hv)
null_typed hv fa = (and_tt (has_ty (α E.al) hv) fa.0, (record { fits = lit< tt }, (fa.1, tt)))
