-- Sets have one meaning.
use Rattle.std.proofs.Common.{◌≡◌, List, map, Ok, sym, ◌∙◌, ap}
use Rattle.mysql_values.specs.Laws.{OneTokens}
use Rattle.mysql_values.specs.Parsed.{names_of}
use Rattle.mysql_values.specs.Value.{Value}
use Rattle.mysql_values.specs.Values.{content_of}
use Rattle.mysql_command_rules.specs.Laws.{RoadsReadEqually}
use Rattle.mysql_command_rules.specs.Reading.{AreMeanings}
use Rattle.mysql_command_rules.specs.Sets.{Given}
use Rattle.mysql_command_rules.proofs.Held.{map_tells, one_contents}

-- values that are given
abbrev values_given : List Value → Given
values_given values = Ok values

one_given : (xs ys : List Value) → values_given xs ≡ values_given ys → xs ≡ ys
one_given xs ys same = cc

pub read_equally : OneTokens → RoadsReadEqually
read_equally once query sets others id limit other_id other_limit stream other contents
    other_contents give first second =
    let m : AreMeanings query sets contents = first.meanings in
    let n : AreMeanings query others other_contents = second.meanings in
    let gives : map values_given m.values ≡ map values_given n.values = sym m.given ∙
    ap (λ tokens. sets (names_of tokens))
    (once query.mode query.text m.tokens n.tokens m.has n.has) ∙ give (names_of n.tokens) ∙
    n.given in
    one_contents contents other_contents (sym m.each ∙
    ap (λ l. map (map content_of) l)
    (map_tells values_given one_given m.values n.values gives) ∙ n.each)
