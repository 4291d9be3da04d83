-- Sets of a statement that were appended in two calls are appended as in one.
use Rattle.std.proofs.Common.{◌≡◌, ℕ, ◌+◌, Bool, true, false, List, [], ◌∷◌, ◌++◌, Option, Some, None, Ok, length, map}
use Rattle.std.proofs.Common.{refl, ap, subst, ◌∙◌}
use Rattle.std.specs.Prelude.{◌==◌, if◌then◌else◌, nat_lt}
use Rattle.std.specs.List.{AllByRecursion}
use Rattle.std.specs.Option.{option_map, option_or}
use Rattle.mysql_cells.specs.Values.{first_float}
use Rattle.mysql_command_rules.proofs.Contents.{neither}
use Rattle.mysql_command_rules.proofs.Held.{all_append}
use Rattle.mysql_command_rules.specs.Cause.{cause_if, first_of_sets, set_cause}
use Rattle.mysql_command_rules.specs.declared.refusal.Refusal.{Refusal}
use Rattle.mysql_command_rules.specs.declared.refusal.Refusal.TheVariants as refusals
use Rattle.mysql_connection_contents.specs.Deliveries.{FurtherSetsJoin}
use Rattle.mysql_queries.specs.Laws.{OneTokens}
use Rattle.mysql_send.specs.Executions.{AppendsMore, limits_of, whole_execution}
use Rattle.mysql_values.specs.Values.{FitsFields}
use Rattle.mysql_values.specs.Binding.{values_cause}
use Rattle.mysql_values.specs.Queries.{places_of}
use Rattle.mysql_values.specs.Value.{Value}

-- ---- no cause speaks against a set, whichever number it has

values_none : (test : Bool) (found : Option ℕ) (n m : ℕ) →
    (if test then option_map (λ (place : ℕ). refusals.Float n place) found else Some
    (refusals.WrongCount n)) ≡ None
    → (if test then option_map (λ (place : ℕ). refusals.Float m place) found else Some (refusals.WrongCount m)) ≡ None
values_none true None n m h = refl
values_none true (Some place) n m h = absurd cc
values_none false found n m h = absurd cc

length_none : (test : Bool) (n m : ℕ) → cause_if test (refusals.PacketTooLarge n) ≡ None →
    cause_if test (refusals.PacketTooLarge m) ≡ None
length_none true n m h = absurd cc
length_none false n m h = refl

both_none : (a b : Option Refusal) → a ≡ None → b ≡ None → option_or a b ≡ None
both_none a b p q = ap (λ (o : Option Refusal). option_or o b) p ∙ q

module _ (command : List Value → List ℕ) (places room : ℕ) where
  set_none : (n m : ℕ) (values : List Value) → set_cause command places room n (Ok values) ≡ None →
      set_cause command places room m (Ok values) ≡ None
  set_none n m values h =
      let long = nat_lt room (length (command values)) in
      let parts = neither (values_cause (refusals.WrongCount n)
      (λ (place : ℕ). refusals.Float n place) places values)
      (cause_if long (refusals.PacketTooLarge n)) h in
      both_none (values_cause (refusals.WrongCount m) (λ (place : ℕ). refusals.Float m place) places
      values) (cause_if long (refusals.PacketTooLarge m))
      (values_none (length values == places) (first_float values) n m parts.0) (length_none long n m parts.1)

  abbrev NoCause : ℕ → List (List Value) → Type 0
  NoCause n sets = first_of_sets (set_cause command places room) n (map Ok sets) ≡ None

  renumbered : (n m : ℕ) (sets : List (List Value)) → NoCause n sets → NoCause m sets
  renumbered n m [] h = refl
  renumbered n m (values ∷ sets) h =
      let parts = neither (set_cause command places room n (Ok values))
      (first_of_sets (set_cause command places room) (n + 1) (map Ok sets)) h in
      both_none (set_cause command places room m (Ok values))
      (first_of_sets (set_cause command places room) (m + 1) (map Ok sets))
      (set_none n m values parts.0) (renumbered (n + 1) (m + 1) sets parts.1)

  joined : (n m : ℕ) (sets more : List (List Value)) → NoCause n sets → NoCause m more → NoCause n (sets ++ more)
  joined n m [] more h k = renumbered m n more k
  joined n m (values ∷ sets) more h k =
      let parts = neither (set_cause command places room n (Ok values))
      (first_of_sets (set_cause command places room) (n + 1) (map Ok sets)) h in
      both_none (set_cause command places room n (Ok values))
      (first_of_sets (set_cause command places room) (n + 1) (map Ok (sets ++ more))) parts.0
      (joined (n + 1) m sets more parts.1 k)

-- ---- all of them

pub further_sets_join : OneTokens → FurtherSetsJoin
further_sets_join one query limit first later sets more old new before behind a b =
    let same : b.tokens ≡ a.tokens = one query.sql.mode query.sql.text b.tokens a.tokens b.has a.has in
    let other : AppendsMore query.id (limits_of (places_of query.sql a.tokens) limit) later more before behind =
    subst (λ (tokens : List (List ℕ)). AppendsMore query.id
    (limits_of (places_of query.sql tokens) limit) later more before behind) same b.appends in
    let limits = limits_of (places_of query.sql a.tokens) limit in record {
      tokens = a.tokens;
      has = a.has;
      few = a.few;
      appends = record {
        none = joined (whole_execution query.id) limits.places limits.bytes first later sets more
            a.appends.none other.none;
        fit = all_append (λ (set : List Value). AllByRecursion (λ (value : Value). FitsFields value)
            set) sets more a.appends.fit other.fit;
        appended = refl;
      };
    }
