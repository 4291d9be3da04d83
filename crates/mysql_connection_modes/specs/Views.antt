-- What values of the crate's types stand for.
use Rattle.mysql_connection_modes.specs.Modes.{Effect}
use Rattle.mysql_connection_modes.specs.Modes as modes
use Rattle.mysql_connection_modes.specs.declared.modes.Effect.{Effect as Held}
use Rattle.mysql_connection_modes.specs.declared.modes.Effect.TheVariants.{Anything, ByStatement, ByText, Nothing}

abbrev pub effect_view : Held → Effect
effect_view Nothing = modes.Nothing
effect_view ByText = modes.ByText
effect_view ByStatement = modes.ByStatement
effect_view Anything = modes.Anything
