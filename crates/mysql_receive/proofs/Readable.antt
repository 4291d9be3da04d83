-- What the laws of texts say of a query.
use Rattle.std.proofs.Common.{◌≡◌, ℕ, Bool, true, false, ◌⊎◌, inl, inr, List, [], ◌∷◌, refl, subst}
use Rattle.std.specs.Prelude.{◌&&◌}
use Rattle.std.specs.List.{AllByRecursion, list_all}
use Rattle.mysql_values.specs.Content.{Content}
use Rattle.mysql_values.specs.Place.{Place}
use Rattle.mysql_values.specs.Queries.{Slices, AllAlone}
use Rattle.mysql_values.specs.Laws.{TextIsDecided, OneReading, OnePlaces, SlicedIsLexed}
use Rattle.mysql_receive.specs.Query.{Query, IsQuery, all_alone}
use Rattle.mysql_receive.specs.Reading.{TextReadsAs}

-- where each placeholder stands alone, a text has one list of contents or none
pub record IsReadable (q : Query) : Type 0 where
  pub decided : all_alone q ≡ true → (text : List ℕ) →
      ((contents : List Content) × TextReadsAs q.sql text contents) ⊎
      ((contents : List Content) → Slices q.sql text contents → ⊥)
  pub one : all_alone q ≡ true → (text : List ℕ) (xs ys : List Content) → Slices q.sql text xs →
      Slices q.sql text ys → xs ≡ ys

and_both : (a b : Bool) → (a && b) ≡ true → (a ≡ true) × (b ≡ true)
and_both true b h = (refl, h)
and_both false b h = absurd cc

pub each_alone : (places : List Place) → list_all (λ place. place.alone) places ≡ true →
    AllByRecursion (λ place. place.alone ≡ true) places
each_alone [] h = tt
each_alone (x ∷ xs) h = let p = and_both x.alone (list_all (λ place. place.alone) xs) h in (p.0, each_alone xs p.1)

all_are_alone : OnePlaces → (q : Query) → IsQuery q → all_alone q ≡ true → AllAlone q.sql
all_are_alone one_places q is h places has =
    subst (λ (ps : List Place). AllByRecursion (λ place. place.alone ≡ true) ps)
    (one_places q.sql q.places places is.places has) (each_alone q.places h)

pub readable : TextIsDecided → OneReading → SlicedIsLexed → OnePlaces → (q : Query) → IsQuery q → IsReadable q
readable decided one lexed places q is = record {
  decided = λ h text. elim (decided q.sql (all_are_alone places q is h) text) [
    | inl found ↦ inl (found.0, (found.1, lexed q.sql text found.0 (all_are_alone places q is h) found.1))
    | inr none ↦ inr none
  ];
  one = λ h text xs ys p r. one q.sql text xs ys (all_are_alone places q is h) p r;
}
