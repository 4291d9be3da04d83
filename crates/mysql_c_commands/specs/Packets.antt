-- What the calls on readers of packets, and the framing of a payload, say of the object that a handle stands for.
use Rattle.std.specs.Prelude.{◌≡◌, ◌≢◌, ◌<◌, ◌≤◌, ◌⊎◌, ℕ, Bool, true, false, List, [], ◌++◌, length, drop, IfSome}
use Rattle.mysql_receive.specs.declared.fault.StreamFault.TheVariants as fault
use Rattle.mysql_wire.specs.Codec.{error_of}
use Rattle.mysql_wire.specs.Framing.{framing, number_after}
use Rattle.mysql_wire.specs.Incoming.{Incoming, ReadsOn, RefusesOn}
use Rattle.mysql_wire.specs.declared.codec.PacketCodecError.{PacketCodecError}
use Rattle.mysql_wire.specs.declared.codec.PacketCodecError.TheVariants as wire
use Rattle.mysql_c_handles.specs.Bytes.{IsBytes}
use Rattle.mysql_c_handles.specs.Codes.{Stays, code_number}
use Rattle.mysql_c_handles.specs.declared.code.Code.{Code}
use Rattle.mysql_c_handles.specs.declared.code.Code.TheVariants as code
use Rattle.mysql_c_handles.specs.declared.object.Object.{Object}
use Rattle.mysql_c_handles.specs.declared.object.Object.TheVariants as object

-- the object is a reader of packets that holds what is said
abbrev pub IsPackets : Object → (Incoming → Type 0) → Type 0
IsPackets (object.Packets r) Says = Says r
IsPackets held Says = ⊥

-- Of a reader of packets what is said. Any other object stays, and the number says why.
abbrev pub OfPackets : Object → ℕ → Object → (Incoming → Type 0) → Type 0
OfPackets (object.Packets r) number new Says = Says r
OfPackets held number new Says = Stays held number new

-- the answer that an error of a reader has
abbrev pub wire_code : PacketCodecError → Code
wire_code wire.PacketTooLarge = code.Stream fault.TooLarge
wire_code wire.PacketsOutOfSync = code.Stream fault.OutOfSync
wire_code other = code.Memory

-- A piece is read as far as the end of the next packet. Where none stands whole all of it was used.
pub record ReadsTo (old : Incoming) (piece : List ℕ) (used : ℕ) (whole : Bool) (new : Incoming) : Type 0 where
  pub reads : ReadsOn old piece whole new (drop used piece)
  pub within : used ≤ length piece
  pub ends : whole ≡ true → (new.bytes ≡ []) × (0 < used)
  pub waits : whole ≡ false → (used ≡ length piece) × (new ≡ record old { bytes = old.bytes ++ piece; payload = [] })

-- An error is answered, which a reader keeps to.
pub record Fails (old : Incoming) (piece : List ℕ) (number : ℕ) (new : Incoming) : Type 0 where
  pub error : PacketCodecError
  pub refuses : RefusesOn old piece new error
  pub answers : number ≡ code_number (wire_code error)
  pub lets_go : new ≡ record old { bytes = []; payload = []; refused = new.refused }

-- what a reader does with a piece
pub record IsReadOn (piece : List ℕ) (used : ℕ) (whole : Bool) (number : ℕ) (old new : Incoming) : Type 0 where
  pub done : number ≡ code_number code.Done → ReadsTo old piece used whole new
  pub failed : number ≢ code_number code.Done → Fails old piece number new
  pub stays : IfSome old.refused (λ refusal. (number ≡ code_number (wire_code (error_of refusal))) × (new ≡ old))

-- what the reader that the handle stands for does with a piece
abbrev pub IsReadOnIn : List ℕ → ℕ → Bool → ℕ → Object → Incoming → Type 0
IsReadOnIn piece used whole number new old = IsPackets new (IsReadOn piece used whole number old)

-- The payload that stands whole is shown, and stays.
abbrev pub ShowsPayload : ℕ → ℕ → Object → Incoming → Type 0
ShowsPayload number len new old = (number ≡ code_number code.Done) × (len ≡ length old.payload) ×
    IsPackets new (λ r. r ≡ old)

-- The next packet begins at the number 0; where one is begun nothing changes.
abbrev pub Restarts : ℕ → Incoming → Incoming → Type 0
Restarts number old new =
    ((number ≡ code_number code.Done) × (old.bytes ≡ []) × (new ≡ record old { number = 0 }))
    ⊎ ((number ≡ code_number code.Unfinished) × (old.bytes ≢ []) × (new ≡ old))

-- the next packet of the reader that the handle stands for begins at the number 0
abbrev pub RestartsIn : ℕ → Object → Incoming → Type 0
RestartsIn number new old = IsPackets new (Restarts number old)

-- The framing of a payload from a number on stands behind the old bytes, and the number goes on; or
-- nothing changes, and the answer says why.
abbrev pub Frames : List ℕ → ℕ → ℕ → ℕ → ℕ → List ℕ → List ℕ → Type 0
Frames payload limit id next number old new =
    ((number ≡ code_number code.Done) × (length payload ≤ limit) ×
    (new ≡ old ++ framing payload id) × (next ≡ number_after payload id))
    ⊎ ((number ≡ code_number (code.Stream fault.TooLarge)) × (limit < length payload) × (new ≡ old) × (next ≡ id))
    ⊎ ((number ≡ code_number code.Memory) × (length payload ≤ limit) × (new ≡ old) × (next ≡ id))

-- a framing stands behind the bytes that the handle stands for, or nothing changes
abbrev pub FramesIn : List ℕ → ℕ → ℕ → ℕ → ℕ → Object → List ℕ → Type 0
FramesIn payload limit id next number new old = IsBytes new (Frames payload limit id next number old)
