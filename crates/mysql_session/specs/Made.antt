-- Parameter sets that are made of lists of objects: what a private step of sending promises.
-- MySQL: Client/Server Protocol, "COM_STMT_EXECUTE".
use Rattle.std.specs.Prelude.{◌≡◌, List, [], ◌∷◌, ◌++◌, Option, None, Some}
use Rattle.mysql_values.specs.Value.{Value}
use Rattle.mysql_values.specs.declared.params.Params.{Params}
use Rattle.mysql_values.specs.declared.params.SetError.{SetError}
use Rattle.mysql_convert.specs.Sets.{too_long}
use Rattle.mysql_session.specs.Objects.{AreMade}

-- the lists that are left: none, or the first one is refused
abbrev pub AreLeft : Option SetError → List (List (Option Value)) → Type 0
AreLeft None left = left ≡ []
AreLeft (Some error) [] = ⊥
AreLeft (Some error) (objects ∷ left) = too_long 0 objects ≡ Some error

-- sets are made of the lists of objects up to the first that is refused
pub record AreMadeUpTo (lists : List (List (Option Value))) (sets : List Params)
    (refusal : Option SetError) : Type 0 where
  pub front : List (List (Option Value))
  pub left : List (List (Option Value))
  pub parts : lists ≡ front ++ left
  pub made : AreMade front sets
  pub rest : AreLeft refusal left
