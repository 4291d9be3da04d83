-- The first packet, where it has one chunk.
-- (MySQL: Client/Server Protocol, "Protocol Basics: MySQL Packets" and "Sequence ID".)
use Rattle.std.specs.Prelude.{◌≡◌, ℕ, ◌+◌, ◌≤◌, List, length, take, drop}
use Rattle.mysql_wire.specs.Framing.{max_payload_len}
use Rattle.mysql_wire.specs.FirstPacket.{Found, Short, TooLarge, OutOfSync, Whole}
use Rattle.mysql_wire.specs.FirstPacket.{next_number}

-- a packet of one chunk with this number was found: this payload, which stands behind its header
pub record IsOneChunk (found : Found) (number : ℕ) (bytes payload : List ℕ) : Type 0 where
  pub is : found ≡ Whole payload (next_number number) (drop (4 + length payload) bytes)
  pub stands : payload ≡ drop 4 (take (4 + length payload) bytes)
  pub within : 4 + length payload ≤ length bytes

-- no packet of one chunk was found: none that stands whole, or one whose payload fills a chunk
abbrev pub HasOtherChunks : Found → Type 0
HasOtherChunks Short = Unit {0}
HasOtherChunks TooLarge = Unit {0}
HasOtherChunks (OutOfSync number) = Unit {0}
HasOtherChunks (Whole payload next rest) = max_payload_len ≤ length payload
