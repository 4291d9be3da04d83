-- What C sees of contents and of the end of a stream.
use Rattle.std.specs.Prelude.{◌≡◌, ◌⊎◌, ℕ, ℤ, FitsSigned, length, pos}
use Rattle.std.specs.Int.{FitsUnsigned, w64}
use Rattle.mysql_values.specs.Content.{Content}
use Rattle.mysql_values.specs.Content.TheVariants as content
use Rattle.mysql_receive.specs.declared.audit.End.{End}
use Rattle.mysql_receive.specs.declared.audit.End.TheVariants as ending
use Rattle.mysql_c_commands.specs.declared.shown.ShownContent.{ShownContent}
use Rattle.mysql_c_handles.specs.declared.shown.ShownEnd.{ShownEnd}
use Rattle.mysql_c_handles.specs.declared.code.Code.TheVariants.{OutOfRange}
use Rattle.mysql_c_handles.specs.Codes.{code_number, fault_number}

-- A number is shown as itself: with a sign (kind 1) where it fits 64 bits with one, else without a
-- sign (kind 2); one that fits neither is out of range.
abbrev pub ShowsNumber : ℤ → ℕ → ShownContent → Type 0
ShowsNumber z number shown =
    ((number ≡ 0) × (shown.kind ≡ 1) × (shown.int ≡ z))
    ⊎ ((number ≡ 0) × (shown.kind ≡ 2) × (pos shown.uint ≡ z) × ¬ (FitsSigned w64 z))
    ⊎ ((number ≡ code_number OutOfRange) × ¬ (FitsSigned w64 z) × ¬ (FitsUnsigned w64 z))

-- NULL is kind 0, a number 1 or 2, bytes 3
abbrev pub Shows : Content → ℕ → ShownContent → Type 0
Shows content.Null number shown = (number ≡ 0) × (shown.kind ≡ 0)
Shows (content.Number z) number shown = ShowsNumber z number shown
Shows (content.Bytes bytes) number shown = (number ≡ 0) × (shown.kind ≡ 3) × (shown.len ≡ length bytes)

-- whole is kind 0, a packet that isn't whole 1, long data that waits 2, a fault 3
abbrev pub end_kind : End → ℕ
end_kind ending.Whole = 0
end_kind ending.UnfinishedPacket = 1
end_kind ending.WaitingPieces = 2
end_kind (ending.Fault payload fault) = 3

-- an end by its kind, a fault with its payload and its number; other ends have 0 there
abbrev pub end_shown : End → ShownEnd
end_shown (ending.Fault payload fault) = record { kind = 3; fault = fault_number fault; payload = payload }
end_shown end = record { kind = end_kind end; fault = 0; payload = 0 }
