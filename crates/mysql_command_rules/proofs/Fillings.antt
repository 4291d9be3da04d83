-- A COM_QUERY's text reads as the contents that the query is filled with.
use Rattle.std.proofs.Common.{◌≡◌, ℕ, true, List, [], ◌∷◌, subst}
use Rattle.std.specs.List.{AllByRecursion, list_all}
use Rattle.std.proofs.lemmas.Bool.{and_parts}
use Rattle.mysql_values.specs.Place.{Place}
use Rattle.mysql_values.specs.Queries.{AllAlone}
use Rattle.mysql_values.specs.Laws.{OnePlaces, PiecesAreSlices, SlicedIsLexed}
use Rattle.mysql_receive.specs.Query.{Query, IsQuery, all_alone}
use Rattle.mysql_receive.specs.Reading.{Set, TextReadsAs}
use Rattle.mysql_command_rules.specs.Manual.{IsFilled, with_marks}
use Rattle.mysql_command_rules.proofs.Texts.{filling_of, slices_of, parsed_is}

-- The laws of queries that fillings rest on.
pub record QueryLaws : Type 0 where
  pub one_places : OnePlaces
  pub pieces : PiecesAreSlices
  pub lexed : SlicedIsLexed

pub each_alone : (places : List Place) → list_all (λ place. place.alone) places ≡ true →
    AllByRecursion (λ place. place.alone ≡ true) places
each_alone [] h = tt
each_alone (x ∷ xs) h = let p = and_parts x.alone (list_all (λ place. place.alone) xs) h in (p.0, each_alone xs p.1)

all_are_alone : OnePlaces → (q : Query) → IsQuery q → all_alone q ≡ true → AllAlone q.sql
all_are_alone one q is h places has =
    subst (λ (ps : List Place). AllByRecursion (λ place. place.alone ≡ true) ps)
    (one q.sql q.places places is.places has) (each_alone q.places h)

pub marks_are : QueryLaws → (q : Query) → IsQuery q → q.parsed ≡ with_marks q
marks_are laws q is = parsed_is laws.one_places laws.pieces q.sql q.parsed q.places is.places is.parsed

pub filled_of : QueryLaws → (q : Query) (text : List ℕ) (set : Set) → IsQuery q → all_alone q ≡
    true → TextReadsAs q.sql text set → IsFilled q text set
filled_of laws q text set is alone reads =
    let filling = filling_of laws.one_places laws.pieces q.sql q.places text set is.places reads.0 in
    record {
      alone = alone;
      literals = filling.literals;
      count = filling.count;
      each =
          filling.each;
      spelled = filling.spelled;
    }

pub text_of : QueryLaws → (q : Query) (text : List ℕ) (set : Set) → IsQuery q →
    IsFilled q text set → TextReadsAs q.sql text set
text_of laws q text set is filled =
    let slices = slices_of laws.one_places laws.pieces q.sql q.places text set is.places
    (record { literals = filled.literals; count = filled.count; each = filled.each; spelled = filled.spelled }) in
    (slices, laws.lexed q.sql text set (all_are_alone laws.one_places q is filled.alone) slices)
