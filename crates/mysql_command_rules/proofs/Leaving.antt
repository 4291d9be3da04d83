-- What is in force behind one command.
use Rattle.std.proofs.Common.{◌≡◌, ℕ, zero, suc, ◌+◌, ◌<◌, arith, true, false, List, ◌∷◌, Option, Some, None, Result}
use Rattle.std.proofs.Common.{Ok, refl, ap, ◌∙◌}
use Rattle.std.specs.Prelude.{is_some, bytes_eq, ◌||◌}
use Rattle.std.specs.List.{list_any, range_with_len}
use Rattle.std.proofs.lemmas.Bool.{or_from, or_parts, true≢false}
use Rattle.std.specs.Option.{option_and_then, option_or}
use Rattle.std.specs.Result.{result_ok}
use Rattle.std.proofs.lemmas.Slice.Eq.{bytes_eq-Decides}
use Rattle.mysql_const.specs.Commands.{command_number}
use Rattle.mysql_const.specs.declared.command.Command.TheVariants.{COM_STMT_PREPARE, COM_STMT_SEND_LONG_DATA}
use Rattle.mysql_const.specs.declared.command.Command.TheVariants.{COM_STMT_EXECUTE, COM_STMT_BULK_EXECUTE}
use Rattle.mysql_receive.specs.declared.fault.StreamFault.{StreamFault}
use Rattle.mysql_receive.specs.Layout.{Types, PlaceData, ExecuteHead, BulkHead, place_data_at, execute_head, bulk_head}
use Rattle.mysql_receive.specs.InForce.{StatementState, after, with_sent, freshly_prepared, with_types, with_data}
use Rattle.mysql_receive.specs.InForce.{without_data, more_data, is_waiting}
use Rattle.mysql_receive.specs.Query.{Statement, place_count}
use Rattle.mysql_command_rules.specs.Manual.{NoneWaits}

pub behind_prepare : (c : Statement) (s : StatementState) (body : List ℕ) → body ≡ c.query.parsed →
    after c s (command_number COM_STMT_PREPARE ∷ body) ≡ freshly_prepared
behind_prepare c s body is =
    let same : bytes_eq body c.query.parsed ≡ true = (bytes_eq-Decides body c.query.parsed).1 is in
    λ i. record { prepared = ap (λ b. b || s.prepared) same i; types = None; long_data = λ place. None }

-- the payload's own types, else those in force
types_behind : {Head : Type 0} (own : Head → Option Types) (r : Result Head StreamFault)
    (head : Head) (before types : Option Types) → r ≡ Ok head → option_or (own head) before ≡ types
    → option_or (option_and_then own (result_ok r)) before ≡ types
types_behind {Head = Head} own r head before types is count =
    ap (λ (q : Result Head StreamFault). option_or (option_and_then own (result_ok q)) before) is ∙
    count

pub behind_execute : (c : Statement) (s : StatementState) (body : List ℕ) (head : ExecuteHead)
    (types : Option Types) → execute_head c body ≡ Ok head → option_or head.own s.types ≡ types →
    after c s (command_number COM_STMT_EXECUTE ∷ body) ≡ without_data (with_types s types)
behind_execute c s body head types is count =
    ap (λ (o : Option Types). without_data (with_types s o))
    (types_behind (λ (h : ExecuteHead). h.own) (execute_head c body) head s.types types is count)

pub behind_bulk : (c : Statement) (s : StatementState) (body : List ℕ) (head : BulkHead)
    (types : Option Types) → bulk_head c body ≡ Ok head → option_or head.own s.types ≡ types →
    after c s (command_number COM_STMT_BULK_EXECUTE ∷ body) ≡ with_types s types
behind_bulk c s body head types is count =
    ap (with_types s) (types_behind (λ (h : BulkHead). h.own) (bulk_head c body) head s.types types
    is count)

pub behind_data : (c : Statement) (s : StatementState) (body : List ℕ) (sent : PlaceData) →
    place_data_at c body ≡ Ok sent →
    after c s (command_number COM_STMT_SEND_LONG_DATA ∷ body) ≡
    with_data s (more_data s.long_data sent.place sent.bytes)
behind_data c s body sent e = ap (with_sent s) e

-- ---- whether data waits

any_waits : (f : ℕ → Option (List ℕ)) (a n : ℕ) → ((i : ℕ) → i < n → f (a + i) ≡ None) →
    list_any (λ place. is_some (f place)) (range_with_len a n) ≡ false
any_waits f a zero each = refl
any_waits f a (suc n) each =
    let here : f a ≡ None = ap (λ (k : ℕ). f k) (omega arith) ∙ each 0 (omega arith) in
    or_from (is_some (f a)) (list_any (λ place. is_some (f place)) (range_with_len (a + 1) n))
    (ap (λ (o : Option (List ℕ)). is_some o) here)
    (any_waits f (a + 1) n (λ i below. ap (λ (k : ℕ). f k) (omega arith) ∙ each (suc i) (omega (arith, below))))

is_none : (o : Option (List ℕ)) → is_some o ≡ false → o ≡ None
is_none None e = refl
is_none (Some x) e = absurd (true≢false e)

waits_none : (f : ℕ → Option (List ℕ)) (a n : ℕ) →
    list_any (λ place. is_some (f place)) (range_with_len a n) ≡ false → (i : ℕ) → i < n →
    f (a + i) ≡ None
waits_none f a zero e i below = absurd (omega (arith, below))
waits_none f a (suc n) e zero below =
    ap (λ (k : ℕ). f k) (omega arith) ∙
    is_none (f a) (or_parts (is_some (f a))
    (list_any (λ place. is_some (f place)) (range_with_len (a + 1) n)) e).0
waits_none f a (suc n) e (suc i) below =
    ap (λ (k : ℕ). f k) (omega arith) ∙
    waits_none f (a + 1) n (or_parts (is_some (f a))
    (list_any (λ place. is_some (f place)) (range_with_len (a + 1) n)) e).1 i
    (omega (arith, below))

pub is_not_waiting : (c : Statement) (s : StatementState) → NoneWaits c s → is_waiting c s ≡ false
is_not_waiting c s each =
    any_waits s.long_data 0 (place_count c.query)
    (λ i below. ap (λ (k : ℕ). s.long_data k) (omega arith) ∙ each i below)

pub none_waits : (c : Statement) (s : StatementState) → is_waiting c s ≡ false → NoneWaits c s
none_waits c s e place below = ap (λ (k : ℕ). s.long_data k) (omega arith) ∙
    waits_none s.long_data 0 (place_count c.query) e place below
