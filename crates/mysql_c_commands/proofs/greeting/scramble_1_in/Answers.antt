use Rattle.std.proofs.Common.{◌+◌, length, take, drop, ap, sym, ◌∙◌, arith}
use Rattle.mysql_handshake.specs.HandshakeViews.{handshake_view}
use Rattle.mysql_c_commands.proofs.Scrambles.{scramble_in}
use Rattle.mysql_c_commands.proofs.greeting.scramble_1_in.Goals as goal

pub eight_from-requires : goal.eight_from-requires
eight_from-requires c =
    let stands = scramble_in c.args.payload.now c.requires.0 (handshake_view c.args.packet.now) c.requires.1 in
    let version = ap length c.server_version_ref.ensures in
    omega (arith, stands.0)

pub returns : goal.returns
returns c =
    let stands = scramble_in c.args.payload.now c.requires.0 (handshake_view c.args.packet.now) c.requires.1 in
    let version = ap length c.server_version_ref.ensures in
    c.eight_from.ensures ∙ ap (λ n. take 8 (drop (n + 6) c.args.payload.now)) version ∙ sym stands.1
