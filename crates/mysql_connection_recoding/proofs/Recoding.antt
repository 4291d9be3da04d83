-- What recoded commands say, and which types count.
use Rattle.std.proofs.Common.{◌≡◌, ℕ, ◌<◌, Bool, true, false, List, [], ◌∷◌, length, map, Option, Some, None, Ok, refl}
use Rattle.std.proofs.Common.{sym, ap, ◌∙◌, arith}
use Rattle.std.specs.Prelude.{◌==◌}
use Rattle.std.specs.Option.{ok_or, option_map}
use Rattle.std.proofs.lemmas.Bool.Decides.{nat_tests}
use Rattle.mysql_commands.specs.Commands.{BulkExecute, Close, Command, Execute, Fetch, LongData, Other, ResetStatement}
use Rattle.mysql_connection_recoding.specs.Agreement.{sets_of}
use Rattle.mysql_executions.specs.Fields.{◌>>◌, must}
use Rattle.mysql_executions.specs.InForce.{InForce, types_that_count}
use Rattle.mysql_executions.specs.Types.{unnamed}
use Rattle.mysql_executions.specs.declared.types.ParameterType.{ParameterType}
use Rattle.mysql_values.specs.Content.{Content}
use Rattle.mysql_connection_recoding.specs.declared.refusal.RecodingRefusal.{RecodingRefusal}
use Rattle.mysql_connection_recoding.specs.declared.refusal.RecodingRefusal.TheVariants.{UnknownStatement}
use Rattle.mysql_connection_recoding.specs.Laws.{RecodedCommandsSayTheSame, TypesCountThere}
use Rattle.mysql_connection_recoding.specs.Recoding.{bulk_there, execution_there, id_there, nameless, types_there}

-- ---- sets

-- a command by whichever id says the same
by_any_id : (found : Option ℕ) (make : ℕ → Command) (refusal : RecodingRefusal) (other : Command)
    (sets : List (List (Option Content))) → ((id : ℕ) → sets_of (make id) ≡ sets) →
    ok_or (option_map make found) refusal ≡ Ok other → sets_of other ≡ sets
by_any_id (Some id) make refusal other sets says is =
    (let same : make id ≡ other = cc in ap sets_of (sym same) ∙ says id)
by_any_id None make refusal other sets says is = absurd cc

pub recoded_commands_say_the_same : RecodedCommandsSayTheSame
recoded_commands_say_the_same in_force ids (Execute e) other is =
    by_any_id (id_there ids e.statement) (execution_there in_force e) (UnknownStatement e.statement)
    other (sets_of (Execute e)) (λ id. refl) is
recoded_commands_say_the_same in_force ids (BulkExecute e) other is =
    by_any_id (id_there ids e.statement) (bulk_there in_force e) (UnknownStatement e.statement)
    other (sets_of (BulkExecute e)) (λ id. refl) is
recoded_commands_say_the_same in_force ids (LongData id place bytes) other is =
    by_any_id (id_there ids id) (λ there. LongData there place bytes) (UnknownStatement id) other []
    (λ there. refl) is
recoded_commands_say_the_same in_force ids (Close id) other is =
    by_any_id (id_there ids id) Close (UnknownStatement id) other [] (λ there. refl) is
recoded_commands_say_the_same in_force ids (ResetStatement id) other is =
    by_any_id (id_there ids id) ResetStatement (UnknownStatement id) other [] (λ there. refl) is
recoded_commands_say_the_same in_force ids (Fetch id rows) other is =
    by_any_id (id_there ids id) (λ there. Fetch there rows) (UnknownStatement id) other []
    (λ there. refl) is
recoded_commands_say_the_same in_force ids (Other payload) other is = absurd cc
recoded_commands_say_the_same in_force ids command other is = (let same : command ≡ other = cc in ap sets_of (sym same))

-- ---- types

unnamed_nameless : (types : List ParameterType) → unnamed (map nameless types) ≡ types
unnamed_nameless [] = refl
unnamed_nameless (t ∷ types) = ap (λ l. t ∷ l) (unnamed_nameless types)

where_tested : (test : Bool) (types counted : List ParameterType) → (must test >> Some types) ≡
    Some counted → (test ≡ true) × (types ≡ counted)
where_tested true types counted is = (refl, cc)
where_tested false types counted is = absurd cc

not_zero : (count : ℕ) → 0 < count → (0 == count) ≡ true → ⊥
not_zero count some is = grind (arith, nat_tests)

in_force_there : (there : InForce) (count : ℕ) (types counted : List ParameterType) → 0 < count →
    (must (length types == count) >> Some types) ≡ Some counted →
    types_that_count there (types_there types None) ≡ Some counted
in_force_there there count [] counted some is = absurd (not_zero count some (where_tested (0 == count) [] counted is).0)
in_force_there there count (t ∷ types) counted some is =
    ap Some (unnamed_nameless (t ∷ types) ∙
    (where_tested (length (t ∷ types) == count) (t ∷ types) counted is).1)

pub types_count_there : TypesCountThere
types_count_there here there (Some own) counted some is = is
types_count_there here there None counted some is = in_force_there there here.count here.types counted some is
