use Rattle.std.proofs.Common.{refl}
use Rattle.std.proofs.lemmas.Str.Ascii.{trim_ascii_is}
use Rattle.mysql_bytes.specs.Modes.{behind_blanks}
use Rattle.mysql_bytes.proofs.mode.within.Goals as goal

pub returns : goal.returns
returns c = trim_ascii_is c.args.name.now c.trim_ascii.result.now (behind_blanks c.args.name.now)
    refl c.trim_ascii.ensures.value
