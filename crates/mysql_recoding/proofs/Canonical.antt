-- What recoding appends, in closed form.
use Rattle.std.proofs.Common.{◌≡◌, ℕ, List, ◌∷◌, ◌++◌, ◌∙◌, ap}
use Rattle.std.specs.List.{flat_map}
use Rattle.std.proofs.lemmas.List.{append_cancel_left}
use Rattle.mysql_values.specs.Sql.{Sql}
use Rattle.mysql_wire.specs.Stream.{framings}
use Rattle.mysql_wire.specs.Stream.Numbering.{EachFromZero}
use Rattle.mysql_receive.specs.Reading.{Set}
use Rattle.mysql_receive.specs.Query.{Statement, statement_of}
use Rattle.mysql_command_rules.specs.Sent.{as_execution, payloads_of, prepare_of}
use Rattle.mysql_recoding.specs.Causes.{values_of_sets}
use Rattle.mysql_recoding.specs.Recoding.{Recodes}

-- the framings of a prepare and of the executions of sets
abbrev pub canonical : Statement → List Set → List ℕ
canonical statement sets =
    framings (payloads_of (prepare_of statement ∷
    flat_map (as_execution statement) (values_of_sets sets))) EachFromZero

pub recoded : (query : Sql) (id limit : ℕ) (stream old new : List ℕ)
    (is : Recodes query id limit stream old new) → new ≡ old ++
    canonical (statement_of query is.tokens id) is.audit.sets
recoded query id limit stream old new is = is.appended ∙
    ap (λ sent. old ++ framings (payloads_of sent) EachFromZero) is.are_sent

-- what stands behind what stood before
pub appended : (query : Sql) (id limit : ℕ) (stream old new : List ℕ)
    (is : Recodes query id limit stream old (old ++ new)) → new ≡
    framings (payloads_of is.sent) EachFromZero
appended query id limit stream old new is =
    append_cancel_left old new (framings (payloads_of is.sent) EachFromZero) is.appended

pub appended_form : (query : Sql) (id limit : ℕ) (stream old new : List ℕ)
    (is : Recodes query id limit stream old (old ++ new)) → new ≡
    canonical (statement_of query is.tokens id) is.audit.sets
appended_form query id limit stream old new is =
    append_cancel_left old new (canonical (statement_of query is.tokens id) is.audit.sets)
    (recoded query id limit stream old (old ++ new) is)
