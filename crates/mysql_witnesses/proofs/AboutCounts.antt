-- Counts that differ are named.
use Rattle.std.proofs.Common.{◌≡◌, ℕ, List, length, Option, Some, Ok, Err, refl, sym, ap, ◌∙◌}
use Rattle.std.proofs.Common.{arith}
use Rattle.mysql_connection_machine.specs.declared.sets_refusal.SetsRefusal.TheVariants as refusals
use Rattle.mysql_queries.specs.Laws.{OnePlaces}
use Rattle.mysql_session.specs.declared.wrong_count.WrongCount.{WrongCount as Wrong}
use Rattle.mysql_values.specs.Place.{Place}
use Rattle.mysql_witnesses.specs.Counts.{AnotherCountIsTold, RowsOfAnotherCountAreNamed, SetsOfAnotherCountAreNotPut}
use Rattle.mysql_witnesses.specs.Counts.{ValuesOfAnotherCountAreNamed}

one_is_not_two : ◌≡◌ {A = Option ℕ} (Some 1) (Some 2) → ⊥
one_is_not_two e = cc

number_in : (n m : ℕ) → ◌≡◌ {A = Option ℕ} (Some n) (Some m) → n ≡ m
number_in n m e = cc

pub sets_are_not_put : SetsOfAnotherCountAreNotPut
sets_are_not_put old new packets before behind (Ok used) one puts = absurd (one_is_not_two (sym one ∙ puts.0))
sets_are_not_put old new packets before behind (Err refusals.UnknownStatement) one puts =
    let e = sym one ∙ puts.0 in absurd (cc e)
sets_are_not_put old new packets before behind (Err (refusals.WrongCount count)) one puts =
    (ap (λ (n : ℕ). Err (refusals.WrongCount n)) (number_in count 1 (sym puts.0 ∙ one)), puts.2.0, puts.2.1)
sets_are_not_put old new packets before behind (Err (refusals.Packets refusal)) one puts =
    absurd (one_is_not_two (sym one ∙ puts.0))

pub values_are_named : ValuesOfAnotherCountAreNamed
values_are_named capabilities s e one values = rw (values, one) refl

pub rows_are_named : RowsOfAnotherCountAreNamed
rows_are_named capabilities s e one rows = rw (rows, one) refl

pub another_count_is_told : OnePlaces → AnotherCountIsTold
another_count_is_told law query places (Ok done) has two checks =
    let same : checks.0 ≡ places = law query checks.0 places checks.1 has in
    let n = ap (λ (l : List Place). length l) same in
    absurd (omega (arith, n, two, checks.2))
another_count_is_told law query places (Err wrong) has two checks =
    let same : checks.0 ≡ places = law query checks.0 places checks.1 has in
    let n : length checks.0 ≡ 2 = ap (λ (l : List Place). length l) same ∙ two in
    ap (λ (w : Wrong). Err w) (checks.3 ∙ ap (λ (m : ℕ). record { places = m; parameters = 1 }) n)
