-- Authentication plugins: their names, and what they need beside the first data.
-- (MySQL: Client/Server Protocol, "Authentication Methods"; MariaDB: "Pluggable Authentication".)
use Rattle.std.specs.Prelude.{◌≡◌, ℕ, ◌*◌, ◌-◌, ◌^◌, ◌==◌, nat_le, ◌&&◌, if◌then◌else◌, List, [], ◌∷◌, codes, drop}
use Rattle.std.specs.Prelude.{length, replicate, slice_index_or, take, Option, None, Some, Ok}
use Rattle.std.specs.Str.{bytes_eq}
use Rattle.mysql_fields.specs.Wire.{Reading}

-- a text less one trailing zero
abbrev pub without_zero : List ℕ → List ℕ
without_zero text = if slice_index_or text (length text - 1) 1 == 0 then take (length text - 1) text else text

-- A plugin: one that has a name of its own, PARSEC with its iterations and its salt, or another by its name.
pub data Plugin : Type 0 where
  OldPassword : Plugin
  NativePassword : Plugin
  CachingSha2 : Plugin
  ClearPassword : Plugin
  Ed25519 : Plugin
  Parsec : ℕ → List ℕ → Plugin
  Other : List ℕ → Plugin

-- the plugin's name
abbrev pub plugin_name : Plugin → List ℕ
plugin_name OldPassword = codes "mysql_old_password"
plugin_name NativePassword = codes "mysql_native_password"
plugin_name CachingSha2 = codes "caching_sha2_password"
plugin_name ClearPassword = codes "mysql_clear_password"
plugin_name Ed25519 = codes "client_ed25519"
plugin_name (Parsec iterations salt) = codes "parsec"
plugin_name (Other name) = name

-- the first of some plugins that has this name, else the plugin that is known by its name alone
abbrev pub named_among : List Plugin → List ℕ → Plugin
named_among [] name = Other name
named_among (plugin ∷ plugins) name = if bytes_eq name (plugin_name plugin) then plugin else named_among plugins name

-- the plugins that have names of their own; nothing is known of PARSEC's iterations and salt
abbrev pub known_plugins : List Plugin
known_plugins = OldPassword ∷ NativePassword ∷ CachingSha2 ∷ ClearPassword ∷ Ed25519 ∷ Parsec 0 (replicate 18 0) ∷ []

-- the plugin of a name
abbrev pub plugin_named : List ℕ → Plugin
plugin_named name = named_among known_plugins name

-- all bytes to the end, less one trailing zero, are a name
abbrev pub plugin_at : List ℕ → Reading Plugin
plugin_at bytes = Ok (plugin_named (without_zero bytes), [])

-- A server's packet for PARSEC: `P`, a factor of at most 20 and 18 bytes of salt; the iterations
-- are 1024 times two to the factor. (MariaDB: "Authentication Plugin - PARSEC".)
abbrev pub parsec_salt : List ℕ → Option (ℕ × List ℕ)
parsec_salt packet =
    if (length packet == 20) && (slice_index_or packet 0 0 == 80) && nat_le (slice_index_or packet 1 0) 20
    then Some (1024 * 2 ^ slice_index_or packet 1 0, drop 2 packet) else None

-- PARSEC by an iterations and a salt
abbrev pub parsec_of : Option (ℕ × List ℕ) → Option Plugin
parsec_of None = None
parsec_of (Some p) = Some (Parsec p.0 p.1)

-- a plugin after a server's packet: PARSEC takes its iterations and its salt from it, and no other plugin takes one
abbrev pub with_data : List ℕ → Plugin → Option Plugin
with_data packet (Parsec iterations salt) = parsec_of (parsec_salt packet)
with_data packet OldPassword = None
with_data packet NativePassword = None
with_data packet CachingSha2 = None
with_data packet ClearPassword = None
with_data packet Ed25519 = None
with_data packet (Other name) = None

-- a plugin that takes nothing from a packet is as it was
abbrev pub Keeps : List ℕ → Plugin → Plugin → Type 0
Keeps packet old new = (with_data packet old ≡ None) × (new ≡ old)
