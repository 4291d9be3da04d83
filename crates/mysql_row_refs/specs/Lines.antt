-- What stands in a row's place: a row, or an error or a terminator.
-- MySQL: Client/Server Protocol, "Text Resultset", "ERR_Packet", "EOF_Packet" and "OK_Packet".
use Rattle.std.specs.Prelude.{◌==◌, ◌&&◌, ℕ, nat_lt, Bool, true, false, List, [], ◌∷◌, length, if◌then◌else◌}

-- whether a payload begins with a byte
abbrev pub begins_with : ℕ → List ℕ → Bool
begins_with b [] = false
begins_with b (first ∷ rest) = first == b

-- a payload that begins with fe is a terminator below this length: the OK packet that stands there
-- without EOF packets, or the EOF packet
abbrev pub terminator_limit : Bool → ℕ
terminator_limit deprecates_eof = if deprecates_eof then 16777215 else 9

-- a payload in a row's place is a row: it begins no error and is no terminator
abbrev pub is_row : Bool → List ℕ → Bool
is_row deprecates_eof payload =
    if begins_with 255 payload then false
    else if begins_with 254 payload && nat_lt (length payload) (terminator_limit deprecates_eof) then false
    else true
