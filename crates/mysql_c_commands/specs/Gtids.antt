-- The sets of global transaction identifiers that a text names, and a replica's request by them.
-- MySQL Reference Manual, "GTID Sets"; MySQL: Client/Server Protocol, "COM_BINLOG_DUMP_GTID".
use Rattle.std.specs.Prelude.{◌≡◌, ◌⊎◌, ◌==◌, ℕ, Bool, List, [], ◌∷◌, Result, Ok, Err}
use Rattle.std.specs.List.{slice_split}
use Rattle.std.specs.Str.{IsUtf8, trim}
use Rattle.mysql_replication.specs.Sids.{SidParts, sid_of}
use Rattle.mysql_replication.specs.declared.error.SidError.{SidError}
use Rattle.mysql_fields.specs.Wire.{◌>>=◌}
use Rattle.mysql_c_handles.specs.Codes.{code_number}
use Rattle.mysql_c_handles.specs.declared.code.Code.TheVariants.{BadPacket, Memory}
use Rattle.mysql_c_handles.specs.declared.object.Object.{Object}
use Rattle.mysql_c_commands.specs.Putting.{Puts}

-- is this byte a comma?
abbrev pub is_comma : ℕ → Bool
is_comma byte = byte == 44

-- the fields of a text, between its commas
abbrev pub fields_of : List ℕ → List (List ℕ)
fields_of text = slice_split is_comma text

-- the sets that fields name, each with white space around it or without
abbrev pub sids_between : List (List ℕ) → Result (List SidParts) SidError
sids_between [] = Ok []
sids_between (field ∷ fields) = do
  sid ← sid_of (trim field)
  sids ← sids_between fields
  Ok (sid ∷ sids)

-- the sets of a text without white space around it: none of no text
abbrev pub sids_of_trimmed : List ℕ → Result (List SidParts) SidError
sids_of_trimmed [] = Ok []
sids_of_trimmed (byte ∷ text) = sids_between (fields_of (byte ∷ text))

-- the sets that a text names
abbrev pub sids_of : List ℕ → Result (List SidParts) SidError
sids_of text = sids_of_trimmed (trim text)

-- The bytes are no text of sets.
abbrev pub NamesNoSids : List ℕ → Type 0
NamesNoSids text = ¬ IsUtf8 text ⊎ ((e : SidError) × (sids_of text ≡ Err e))

-- The packet of the sets that a text names is put; or nothing changes, and the number says why.
abbrev pub PutsBySids : List ℕ → (List SidParts → List ℕ) → Object → ℕ → Object → Type 0
PutsBySids text written old number new =
    ((sids : List SidParts) × (sids_of text ≡ Ok sids) × Puts (written sids) old number new)
    ⊎ ((number ≡ code_number BadPacket) × NamesNoSids text × (new ≡ old))
    ⊎ ((number ≡ code_number Memory) × (new ≡ old))
