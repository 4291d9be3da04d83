-- What is used of the first packet of a stream.
use Rattle.mysql_wire.specs.FirstPacketLaws.{PacketsStay, PacketsTakeBytes, RestsFollow}

pub record PacketLaws : Type 0 where
  pub stay : PacketsStay
  pub take : PacketsTakeBytes
  pub follow : RestsFollow
