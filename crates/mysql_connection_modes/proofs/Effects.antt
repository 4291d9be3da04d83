-- What a command may change is told by its number, but of a query that may have attributes.
use Rattle.std.proofs.Common.{◌≡◌, ◌==◌, ◌||◌, ℕ, Bool, true, false, not, List, [], ◌∷◌, Option, Some, None, Ok}
use Rattle.std.proofs.Common.{Err, length, refl, sym, ap, subst, ◌∙◌, eqb-true}
use Rattle.std.specs.Prelude.{nat_eq, if◌then◌else◌}
use Rattle.std.specs.List.{list_any}
use Rattle.std.specs.Option.{option_map}
use Rattle.mysql_commands.specs.Commands as commands
use Rattle.mysql_commands.specs.Commands.{Command, Layout, all_of, by_statement, command_at, fetch_at, field_list_at}
use Rattle.mysql_commands.specs.Commands.{first_of, laid_out, layouts, level_at}
use Rattle.mysql_commands.specs.Commands.{long_data_at, or_other}
use Rattle.mysql_const.specs.Tables.{entry_of}
use Rattle.mysql_const.specs.declared.capabilities.Capabilities.{Capabilities}
use Rattle.mysql_executions.specs.Bulks.{bulk_execution_at}
use Rattle.mysql_executions.specs.Attributes.{query_attributes_at}
use Rattle.mysql_executions.specs.Executions.{execution_at}
use Rattle.mysql_executions.specs.declared.types.Attribute.{Attribute}
use Rattle.mysql_executions.specs.InForce.{InForce}
use Rattle.mysql_executions.specs.Types.{has_query_attributes}
use Rattle.mysql_fields.specs.Forms.{fixed_number_at}
use Rattle.mysql_fields.specs.Texts.{null_text_at}
use Rattle.mysql_fields.specs.Wire.{Reading, ◌>>=◌}
use Rattle.mysql_login.specs.ChangedUsers.{change_in_force_at}
use Rattle.mysql_replication.specs.Packets.{binlog_dump_at, binlog_dump_gtid_at, register_slave_at, table_dump_at}
use Rattle.mysql_connection_modes.specs.Modes.{Anything, BehindCommand, BehindEffect, ByStatement, ByText, Effect}
use Rattle.mysql_connection_modes.specs.Modes.{Nothing, body_of, effect_by, effect_of, effect_of_payload}
use Rattle.mysql_connection_modes.specs.Modes as modes
use Rattle.mysql_connection_modes.specs.Modes.{is_plain, quiet_numbers}
use Rattle.mysql_connection_rules.specs.Standing.{Standing}
use Rattle.mysql_connection_rules.specs.Steps.{parameters_in_question}
use Rattle.mysql_connection_state.specs.Follows.{command_said}
use Rattle.mysql_session_modes.specs.declared.session_mode.SessionMode.{SessionMode}

-- what was read of a command's bytes has the effect of its number
abbrev Agrees : ℕ → Option Command → Type 0
Agrees number None = Unit {0}
Agrees number (Some command) = effect_of command ≡ effect_by number

abbrev AgreesAll : ℕ → Layout → Type 0
AgreesAll number layout = (bytes : List ℕ) → Agrees number (layout bytes)

-- where a reading makes the command itself
abbrev Reads : ℕ → Reading Command → Type 0
Reads number (Ok x) = effect_of x.0 ≡ effect_by number
Reads number (Err e) = Unit {0}

whole : (number : ℕ) (command : Command) (none : Bool) → effect_of command ≡ effect_by number →
    Agrees number (option_map (λ (c : Command). c) (if none then Some command else None))
whole number command true h = h
whole number command false h = tt

read_all : (number : ℕ) (read : Reading Command) → Reads number read →
    Agrees number (option_map (λ (c : Command). c) (all_of read))
read_all number (Err e) h = tt
read_all number (Ok x) h = whole number x.0 (length x.1 == 0) h

bound : {X : Type 0} (number : ℕ) (read : Reading X) (f : X × List ℕ → Reading Command) →
    ((x : X × List ℕ) → Reads number (f x)) →
    Reads number (read >>= f)
bound number (Ok x) f h = h x
bound number (Err e) f h = tt

made : {X : Type 0} (number : ℕ) (command : X → Command) → ((x : X) → effect_of (command x) ≡ effect_by number) →
    (read : Option X) → Agrees number (option_map command read)
made number command h None = tt
made number command h (Some x) = h x

by_parameters : {X : Type 0} (number : ℕ) (command : X → Command) (read_at : InForce → List ℕ → Option X) →
    ((x : X) → effect_of (command x) ≡ effect_by number) → (parameters : Option InForce) →
    AgreesAll number (by_statement command read_at parameters)
by_parameters number command read_at h None bytes = tt
by_parameters number command read_at h (Some p) bytes = made number command h (read_at p bytes)

alone_agrees : (number : ℕ) (command : Command) → effect_of command ≡ effect_by number → (none : Bool) →
    Agrees number (if none then Some command else None)
alone_agrees number command h true = h
alone_agrees number command h false = tt

queries_agree : (attributes : Bool) (bytes : List ℕ) (read : Option (List Attribute × List ℕ)) →
    Agrees 0x03 (if attributes then option_map (λ query. commands.Query query.0 query.1) read else
    Some (commands.Query [] bytes))
queries_agree true bytes read =
    made 0x03 (λ (query : List Attribute × List ℕ). commands.Query query.0 query.1) (λ x. refl) read
queries_agree false bytes read = refl

-- ---- the table

also : {A B : Type 0} → A → B → A × B
also one others = (one, others)

abbrev AllAgree : List (ℕ × Layout) → Type 0
AllAgree [] = Unit {0}
AllAgree (row ∷ rows) = AgreesAll row.0 row.1 × AllAgree rows

table_agrees : (capabilities : Capabilities) (parameters : Option InForce) → AllAgree (layouts capabilities parameters)
table_agrees capabilities parameters =
    also (λ bytes. alone_agrees 0x01 commands.Quit refl (length bytes == 0))
    (also (λ bytes. refl)
    (also (λ bytes. queries_agree (has_query_attributes capabilities) bytes (query_attributes_at bytes))
    (also (λ bytes. read_all 0x04 (field_list_at bytes) (bound 0x04 (null_text_at bytes) _ (λ table. refl)))
    (also (λ bytes. refl)
    (also (λ bytes. refl)
    (also (λ bytes. made 0x07 commands.Refresh (λ x. refl) (all_of (fixed_number_at 1 bytes)))
    (also (λ bytes. made 0x08 commands.Shutdown (λ x. refl) (all_of (level_at bytes)))
    (also (λ bytes. alone_agrees 0x09 commands.Statistics refl (length bytes == 0))
    (also (λ bytes. alone_agrees 0x0a commands.ProcessInfo refl (length bytes == 0))
    (also (λ bytes. made 0x0c commands.ProcessKill (λ x. refl) (all_of (fixed_number_at 4 bytes)))
    (also (λ bytes. alone_agrees 0x0d commands.Debug refl (length bytes == 0))
    (also (λ bytes. alone_agrees 0x0e commands.Ping refl (length bytes == 0))
    (also (λ bytes. made 0x11 commands.ChangeUser (λ x. refl)
    (first_of (change_in_force_at capabilities.protocol.0 (0x11 ∷ bytes))))
    (also (λ bytes. made 0x12 commands.BinlogDump (λ x. refl) (all_of (binlog_dump_at (0x12 ∷ bytes))))
    (also (λ bytes. made 0x13 commands.TableDump (λ x. refl) (all_of (table_dump_at (0x13 ∷ bytes))))
    (also (λ bytes. made 0x15 commands.RegisterSlave (λ x. refl) (all_of (register_slave_at (0x15 ∷ bytes))))
    (also (λ bytes. refl)
    (also (by_parameters 0x17 commands.Execute (execution_at capabilities) (λ x. refl) parameters)
    (also (λ bytes. read_all 0x18 (long_data_at bytes)
    (bound 0x18 (fixed_number_at 4 bytes) _
    (λ id. bound 0x18 (fixed_number_at 2 id.1) _ (λ place. refl))))
    (also (λ bytes. made 0x19 commands.Close (λ x. refl) (all_of (fixed_number_at 4 bytes)))
    (also (λ bytes. made 0x1a commands.ResetStatement (λ x. refl) (all_of (fixed_number_at 4 bytes)))
    (also (λ bytes. made 0x1b commands.SetOption (λ x. refl) (all_of (fixed_number_at 2 bytes)))
    (also (λ bytes. read_all 0x1c (fetch_at bytes)
    (bound 0x1c (fixed_number_at 4 bytes) _
    (λ id. bound 0x1c (fixed_number_at 4 id.1) _ (λ rows. refl))))
    (also (λ bytes. made 0x1e commands.BinlogDumpGtid (λ x. refl) (all_of (binlog_dump_gtid_at (0x1e ∷ bytes))))
    (also (λ bytes. alone_agrees 0x1f commands.ResetConnection refl (length bytes == 0))
    (also (λ bytes. refl)
    (also (by_parameters 0xfa commands.BulkExecute (bulk_execution_at capabilities) (λ x. refl)
    parameters) tt)))))))))))))))))))))))))))

-- what a row tells of the bytes, where there is one
abbrev told : Option Layout → List ℕ → Option Command
told None bytes = None
told (Some layout) bytes = layout bytes

-- it is this row, or one of the others
of_row : (row : ℕ × Layout) (rows : List (ℕ × Layout)) (number : ℕ) (bytes : List ℕ) → AgreesAll row.0 row.1 →
    Agrees number (told (entry_of nat_eq rows number) bytes) → (same : Bool) → nat_eq number row.0 ≡ same →
    Agrees number (told (if same then Some row.1 else entry_of nat_eq rows number) bytes)
of_row row rows number bytes h others true e =
    subst (λ (n : ℕ). Agrees n (row.1 bytes)) (sym (eqb-true number row.0 e)) (h bytes)
of_row row rows number bytes h others false e = others

found : (rows : List (ℕ × Layout)) → AllAgree rows → (number : ℕ) (bytes : List ℕ) →
    Agrees number (told (entry_of nat_eq rows number) bytes)
found [] h number bytes = tt
found (row ∷ rows) h number bytes =
    of_row row rows number bytes h.0 (found rows h.1 number bytes) (nat_eq number row.0) refl

told_is : (row : Option Layout) (bytes : List ℕ) →
    (elim row [ None ↦ None | Some layout ↦ layout bytes ]) ≡ told row bytes
told_is None bytes = refl
told_is (Some layout) bytes = refl

said_agrees : (capabilities : Capabilities) (parameters : Option InForce) (number : ℕ) (bytes : List ℕ) →
    Agrees number (laid_out capabilities parameters number bytes)
said_agrees capabilities parameters number bytes =
    subst (Agrees number) (sym (told_is (entry_of nat_eq (layouts capabilities parameters) number) bytes))
    (found (layouts capabilities parameters) (table_agrees capabilities parameters) number bytes)

-- ---- payloads

by_other : (number : ℕ) (body : List ℕ) (said : Option Command) → (number == 0x03) ≡ false → Agrees number said →
    effect_of (or_other (number ∷ body) said) ≡ effect_by number
by_other number body None other h = rw other refl
by_other number body (Some command) other h = h

-- the text counts for nothing where the effect isn't by it
text_free : (s : Standing) (quiet third execution : Bool) (one another : List ℕ)
    (old new : SessionMode) → third ≡ false →
    BehindEffect s (if quiet then Nothing else if third then ByText else if execution then
    ByStatement else Anything) one old new →
    BehindEffect s (if quiet then Nothing else if third then ByText else if execution then
    ByStatement else Anything) another old new
text_free s true third execution one another old new e h = h
text_free s false true execution one another old new e h = absurd cc
text_free s false false true one another old new e h = h
text_free s false false false one another old new e h = h

query_is : (capabilities : Capabilities) (parameters : Option InForce) (body : List ℕ) →
    has_query_attributes capabilities ≡ false →
    command_at capabilities parameters (0x03 ∷ body) ≡ commands.Query [] body
query_is capabilities parameters body none = rw none refl

no_attributes : (attributes : Bool) → (not true || not attributes) ≡ true → attributes ≡ false
no_attributes true h = absurd cc
no_attributes false h = refl

pub by_number : (before after : Standing) (payload : List ℕ) (old new : SessionMode) → is_plain before payload ≡ true →
    BehindEffect after (effect_of_payload payload) (body_of payload) old new →
    BehindCommand after (command_said before payload) old new
by_number before after [] old new plain h = h
by_number before after (number ∷ body) old new plain h = go (number == 0x03) refl
  where
    go : (query : Bool) → (number == 0x03) ≡ query → BehindCommand after (command_said before (number ∷ body)) old new
    go true e =
        let is : number ≡ 0x03 = eqb-true number 0x03 e in
        let none : has_query_attributes before.capabilities ≡ false =
        no_attributes (has_query_attributes before.capabilities)
        (ap (λ (b : Bool). not b || not (has_query_attributes before.capabilities)) (sym e) ∙
        plain) in
        let behind : BehindEffect after (effect_by 0x03) body old new =
        subst (λ (n : ℕ). BehindEffect after (effect_by n) body old new) is h in
        let here : (parameters : Option InForce) →
        BehindCommand after (command_at before.capabilities parameters (0x03 ∷ body)) old new =
        λ parameters. subst (λ (c : Command). BehindCommand after c old new)
        (sym (query_is before.capabilities parameters body none)) behind in
        subst (λ (n : ℕ). BehindCommand after (command_said before (n ∷ body)) old new) (sym is)
        (here (parameters_in_question before.statements (0x03 ∷ body)))
    go false e =
        let parameters = parameters_in_question before.statements (number ∷ body) in
        let command = command_at before.capabilities parameters (number ∷ body) in
        let same : effect_of command ≡ effect_by number =
        by_other number body (laid_out before.capabilities parameters number body) e
        (said_agrees before.capabilities parameters number body) in
        subst (λ (effect : Effect). BehindEffect after effect (modes.text_of command) old new) (sym same)
        (text_free after (list_any (nat_eq number) quiet_numbers) (number == 0x03)
        ((number == 0x17) || (number == 0xfa)) body (modes.text_of command) old new e h)
