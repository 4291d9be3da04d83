use Rattle.std.proofs.Common.{◌≡◌, ◌≢◌, ◌++◌, List, ℕ, IfSome, MatchOption, None, Option, Some, inl, inr, refl}
use Rattle.std.proofs.lemmas.Bool.Decides.{Decides-eqb}
use Rattle.std.proofs.lemmas.Slice.Eq.{strip_prefix_is}
use denote.Ref.{Bor}
use Rattle.mysql_queries.specs.Literals.{IsIntroducer, binary_introducer, text_introducer}
use Rattle.mysql_queries.proofs.TextReading.{piece_found}
use Rattle.mysql_queries.proofs.hexadecimal.behind_introducer.Goals as goal

found_second : (text : List ℕ) (r : Option (Bor (List ℕ))) →
    MatchOption r ((rest : List ℕ) → text ≢ binary_introducer ++ rest) (λ x. text ≡
    binary_introducer ++ x.now)
    → IfSome r (λ rest. (introducer : List ℕ) × IsIntroducer introducer × (text ≡ introducer ++ rest.now))
found_second text None m = tt
found_second text (Some rest) m = (binary_introducer, inr refl, m)

pub returns-in-Some-clause-found : goal.returns-in-Some-clause-found
returns-in-Some-clause-found c = (
  text_introducer,
  inl refl,
  piece_found c.args.text.now text_introducer c.in-Some.rest.now c.in-Some.ensures.cases.0
      c.in-Some.ensures.cases.1,
)

pub returns-in-None-clause-found : goal.returns-in-None-clause-found
returns-in-None-clause-found c =
    found_second c.args.text.now c.strip_prefix-in-None.result
    (strip_prefix_is Decides-eqb c.args.text.now binary_introducer c.strip_prefix-in-None.result
    c.strip_prefix-in-None.ensures.cases)
