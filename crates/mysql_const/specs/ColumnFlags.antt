-- The flags of columns. All 16 bits have names.
-- MySQL: Client/Server Protocol, "Column Definition Flags".
use Rattle.std.specs.Prelude.{ℕ, List, [], ◌∷◌, codes}

-- the table: each flag's name and bit
abbrev pub column_flags : List (List ℕ × ℕ)
column_flags =
    (codes "NOT_NULL_FLAG", 1)
    ∷ (codes "PRI_KEY_FLAG", 2)
    ∷ (codes "UNIQUE_KEY_FLAG", 4)
    ∷ (codes "MULTIPLE_KEY_FLAG", 8)
    ∷ (codes "BLOB_FLAG", 0x10)
    ∷ (codes "UNSIGNED_FLAG", 0x20)
    ∷ (codes "ZEROFILL_FLAG", 0x40)
    ∷ (codes "BINARY_FLAG", 0x80)
    ∷ (codes "ENUM_FLAG", 0x100)
    ∷ (codes "AUTO_INCREMENT_FLAG", 0x200)
    ∷ (codes "TIMESTAMP_FLAG", 0x400)
    ∷ (codes "SET_FLAG", 0x800)
    ∷ (codes "NO_DEFAULT_VALUE_FLAG", 0x1000)
    ∷ (codes "ON_UPDATE_NOW_FLAG", 0x2000)
    ∷ (codes "PART_KEY_FLAG", 0x4000)
    ∷ (codes "NUM_FLAG", 0x8000)
    ∷ []
