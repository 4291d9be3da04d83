-- What plugins send.
-- (MySQL: Client/Server Protocol, "Authentication Methods"; MariaDB: "Pluggable Authentication".)
-- A reading takes bytes from the front: x.0 is what was read and x.1 the bytes left; the first refusal counts.
use Rattle.std.specs.Prelude.{ℕ, List, [], ◌∷◌, ◌++◌}

-- the data of a plugin, by its kind
pub data PluginData : Type 0 where
  Old : List ℕ → PluginData
  Native : List ℕ → PluginData
  Sha2 : List ℕ → PluginData
  Ed25519 : List ℕ → PluginData
  Parsec : List ℕ → PluginData
  Clear : List ℕ → PluginData

-- its bytes
abbrev pub data_bytes : PluginData → List ℕ
data_bytes (Old bytes) = bytes
data_bytes (Native bytes) = bytes
data_bytes (Sha2 bytes) = bytes
data_bytes (Ed25519 bytes) = bytes
data_bytes (Parsec bytes) = bytes
data_bytes (Clear bytes) = bytes

-- the bytes that are written: a zero stands behind the old plugin's and behind a password in clear text
abbrev pub data_written : PluginData → List ℕ
data_written (Old bytes) = bytes ++ 0 ∷ []
data_written (Native bytes) = bytes
data_written (Sha2 bytes) = bytes
data_written (Ed25519 bytes) = bytes
data_written (Parsec bytes) = bytes
data_written (Clear bytes) = bytes ++ 0 ∷ []
