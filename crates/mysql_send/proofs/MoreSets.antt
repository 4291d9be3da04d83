-- The steps of sending sets of values one after another, of which the first has any number.
use Rattle.std.proofs.Common.{◌≡◌, ℕ, ◌+◌, List, ◌∷◌, ◌++◌, length, map, take, drop, Option, Ok, sym, ◌∙◌, ap, subst}
use Rattle.std.proofs.Common.{arith, inl, inr, append_assoc, Global, Vec}
use Rattle.std.specs.List.{AllByRecursion, flat_map}
use Rattle.std.specs.Option.{option_or}
use Rattle.std.proofs.lemmas.List.{drop-map, take-append-le}
use Rattle.mysql_wire.specs.Stream.{framings}
use Rattle.mysql_wire.specs.Stream.Numbering.{EachFromZero}
use Rattle.mysql_values.specs.Values.{FitsFields}
use Rattle.mysql_values.specs.Value.{Value}
use Rattle.mysql_command_rules.specs.declared.refusal.Refusal.{Refusal}
use Rattle.mysql_command_rules.specs.Cause.{first_of_sets, set_cause}
use Rattle.mysql_command_rules.specs.Sets.{Given}
use Rattle.mysql_send.specs.Executions.{AppendsExecution, Limits, RefusesExecution, RefusesMore, execution_payloads}
use Rattle.mysql_send.specs.Executions.{whole_execution}
use Rattle.mysql_send.proofs.Lists.{first_is, framings-append, front_length}

-- the values' numbers fit their fields
abbrev pub Fit : List Value → Type 0
Fit values = AllByRecursion (λ value. FitsFields value) values

-- what a list of values gives
abbrev given : List Value → Given
given values = Ok values

-- the first cause of sets of values that are numbered on from here
abbrev causes_from : ℕ → Limits → ℕ → List (List Value) → Option Refusal
causes_from id limits number sets =
    first_of_sets (set_cause (whole_execution id) limits.places limits.bytes) number
    (map given sets)

-- the framings of their executions
abbrev framed : ℕ → List (List Value) → List ℕ
framed id sets = framings (flat_map (execution_payloads id) sets) EachFromZero

-- so many sets were sent, each with no cause: what is left to send goes on from what stands
pub record MoreSent (id : ℕ) (limits : Limits) (first : ℕ) (sets : List (List Value))
    (old out : List ℕ) (i : ℕ) : Type 0 where
  pub causes : causes_from id limits (first + i) (drop i sets) ≡ causes_from id limits first sets
  pub fit : AllByRecursion Fit (drop i sets) → AllByRecursion Fit sets
  pub bytes : out ++ framed id (drop i sets) ≡ old ++ framed id sets
  pub kept : take (length old) out ≡ old

-- the lists of values of sets, from one of them on
pub values_here : (sets : List (Vec Value Global)) (i : ℕ) (set : Vec Value Global) → drop i sets ≡
    set ∷ drop (i + 1) sets
    → drop i (map (λ (set : Vec Value Global). set.items) sets) ≡ set.items ∷
    drop (i + 1) (map (λ (set : Vec Value Global). set.items) sets)
values_here sets i set here =
    drop-map (λ (set : Vec Value Global). set.items) i sets
    ∙ ap (map (λ (set : Vec Value Global). set.items)) here
    ∙ ap (λ l. set.items ∷ l) (sym (drop-map (λ (set : Vec Value Global). set.items) (i + 1) sets))

module _ (id : ℕ) (limits : Limits) (first : ℕ) (sets : List (List Value)) (old out : List ℕ)
    (i : ℕ) (s : MoreSent id limits first sets old out i) where
  module _ (set : List Value) (here : drop i sets ≡ set ∷ drop (i + 1) sets) where
    -- the first cause from this set on
    from_here : causes_from id limits first sets ≡
        option_or (set_cause (whole_execution id) limits.places limits.bytes (first + i) (Ok set))
        (causes_from id limits (first + (i + 1)) (drop (i + 1) sets))
    from_here =
        sym s.causes ∙ ap (λ l. causes_from id limits (first + i) l) here
        ∙ ap (λ (number : ℕ). option_or
        (set_cause (whole_execution id) limits.places limits.bytes (first + i) (Ok set))
        (causes_from id limits number (drop (i + 1) sets))) (omega arith)

    -- one more set was sent
    pub sent_next : (new : List ℕ) → AppendsExecution id limits (first + i) set out new →
        MoreSent id limits first sets old new (i + 1)
    sent_next new a =
        record {
          causes = sym (from_here ∙
              ap (λ c. option_or c (causes_from id limits (first + (i + 1)) (drop (i + 1) sets)))
              a.none);
          fit = λ each. s.fit (subst (λ (l : List (List Value)). AllByRecursion Fit l) (sym here) (a.fit, each));
          bytes = ap (λ l. l ++ framed id (drop (i + 1) sets)) a.appended
              ∙ append_assoc out (framings (execution_payloads id set) EachFromZero) (framed id (drop (i + 1) sets))
              ∙ ap (λ l. out ++ l) (sym
              (framings-append (execution_payloads id set)
              (flat_map (execution_payloads id) (drop (i + 1) sets))))
              ∙ ap (λ l. out ++ framed id l) (sym here)
              ∙ s.bytes;
          kept = ap (λ l. take (length old) l) a.appended ∙
              take-append-le (length old) out (framings (execution_payloads id set) EachFromZero)
              (front_length old out s.kept) ∙ s.kept;
        }

    -- a set is refused
    pub refused_at : (refusal : Refusal) → RefusesExecution id limits (first + i) set refusal →
        RefusesMore id limits first sets refusal
    refused_at refusal (inl memory) = inl memory
    refused_at refusal (inr this) =
        inr (from_here ∙ first_is _ (causes_from id limits (first + (i + 1)) (drop (i + 1) sets))
        refusal this)
