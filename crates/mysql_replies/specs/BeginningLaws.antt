-- Fronts of results behind results that stand.
use Rattle.std.specs.Prelude.{List, [], ◌∷◌, ◌++◌}
use Rattle.mysql_replies.specs.Together.{Outcome}
use Rattle.mysql_replies.specs.Beginnings.{IsFrontOf, first}

pub front_behind : (before front results : List Outcome) → IsFrontOf front results →
    IsFrontOf (before ++ front) (before ++ results)
front_behind [] front results is = is
front_behind (result ∷ before) front results is = first (front_behind before front results is)
