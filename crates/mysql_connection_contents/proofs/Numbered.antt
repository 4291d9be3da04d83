-- What a command does to statements goes by its number.
use Rattle.std.proofs.Common.{◌≡◌, ℕ, Bool, true, false, List, [], ◌∷◌, Option, Some, None, Ok, Err, length, refl, sym}
use Rattle.std.proofs.Common.{ap, subst, arith}
use Rattle.std.specs.Prelude.{◌==◌, ◌||◌, if◌then◌else◌, nat_eq}
use Rattle.std.specs.List.{AllByRecursion}
use Rattle.std.specs.Option.{option_map}
use Rattle.std.proofs.lemmas.Bool.Decides.{nat_tests}
use Rattle.mysql_buf.specs.Reading.{little_at}
use Rattle.mysql_commands.specs.Commands.{BinlogDump, BinlogDumpGtid, BulkExecute, ChangeUser, Close, Command, Debug}
use Rattle.mysql_commands.specs.Commands.{Execute, Fetch, FieldList, Layout, LongData, Other, Ping, ProcessInfo}
use Rattle.mysql_commands.specs.Commands.{ProcessKill, Query, Quit, Refresh, RegisterSlave, ResetConnection}
use Rattle.mysql_commands.specs.Commands.{ResetStatement, SetOption, Shutdown, Statistics, TableDump}
use Rattle.mysql_commands.specs.Commands.{all_of, by_statement, command_at, fetch_at, field_list_at, first_of, layouts}
use Rattle.mysql_commands.specs.Commands.{level_at, long_data_at, or_other, query_at}
use Rattle.mysql_commands.specs.Replies.{statement_of}
use Rattle.mysql_const.specs.Tables.{entry_of}
use Rattle.mysql_const.specs.declared.capabilities.Capabilities.{Capabilities}
use Rattle.mysql_executions.specs.Attributes.{query_attributes_at}
use Rattle.mysql_executions.specs.Bulks.{bulk_execution_at}
use Rattle.mysql_executions.specs.Executions.{execution_at}
use Rattle.mysql_executions.specs.InForce.{InForce}
use Rattle.mysql_login.specs.ChangedUsers.{ChangeUserFields, change_in_force_at}
use Rattle.mysql_replication.specs.Packets as replica
use Rattle.mysql_executions.specs.Types.{has_query_attributes}
use Rattle.mysql_executions.specs.declared.types.Attribute.{Attribute}
use Rattle.mysql_fields.specs.Forms.{fixed_number_at}
use Rattle.mysql_fields.specs.Texts.{null_text_at}
use Rattle.mysql_fields.specs.Wire.{Reading, or_end, ◌>>=◌}
use Rattle.mysql_connection_contents.specs.Shown.{begins_anew, changes_user, closes, executes, prepares}
use Rattle.mysql_connection_contents.proofs.Commands.{none_of_four, same_id}

-- ---- commands that do nothing to statements

-- one that may execute, or doesn't
pub record Plain (runs : Bool) (command : Command) : Type 0 where
  pub user : changes_user command ≡ false
  pub anew : begins_anew command ≡ false
  pub text : prepares command ≡ None
  pub gone : closes command ≡ None
  pub mute : runs ≡ false → executes command ≡ None

plain_if : {runs : Bool} (test : Bool) (payload : List ℕ) (command : Command) →
    Plain runs (Other payload) → Plain runs command →
    Plain runs (or_other payload (if test then Some command else None))
plain_if true payload command other its = its
plain_if false payload command other its = other

plain_map : {X : Type 0} {runs : Bool} (make : X → Command) (o : Option X) (payload : List ℕ) →
    Plain runs (Other payload) → ((x : X) → Plain runs (make x)) →
    Plain runs (or_other payload (option_map make o))
plain_map make None payload other its = other
plain_map make (Some x) payload other its = its x

abbrev IsPlainReading : Reading Command → Type 0
IsPlainReading (Ok x) = Plain false x.0
IsPlainReading (Err e) = Unit {0}

plain_read : (read : Reading Command) (payload : List ℕ) → Plain false (Other payload) →
    IsPlainReading read → Plain false (or_other payload (option_map (λ c. c) (all_of read)))
plain_read (Err e) payload other its = other
plain_read (Ok x) payload other its = plain_by (length x.1 == 0)
  where
    plain_by : (test : Bool) → Plain false (or_other payload (option_map (λ c. c) (if test then Some x.0 else None)))
    plain_by true = its
    plain_by false = other

field_list_plain : (read : Reading (List ℕ)) (bytes : List ℕ) → null_text_at bytes ≡ read →
    IsPlainReading (field_list_at bytes)
field_list_plain (Ok table) bytes e =
    subst IsPlainReading (sym
    (ap (λ (r : Reading (List ℕ)). r >>= (λ (x : List ℕ × List ℕ). Ok (FieldList x.0 x.1, []))) e))
    (record { user = refl; anew = refl; text = refl; gone = refl; mute = λ e. refl })
field_list_plain (Err x) bytes e =
    subst IsPlainReading (sym
    (ap (λ (r : Reading (List ℕ)). r >>= (λ (x : List ℕ × List ℕ). Ok (FieldList x.0 x.1, []))) e))
    tt

fetched : (id : ℕ × List ℕ) (read : Reading ℕ) → fixed_number_at 4 id.1 ≡ read →
    IsPlainReading (fixed_number_at 4 id.1 >>=
    (λ (rows : ℕ × List ℕ). Ok (Fetch id.0 rows.0, rows.1)))
fetched id (Ok rows) e = subst IsPlainReading
    (sym (ap (λ (r : Reading ℕ). r >>= (λ (x : ℕ × List ℕ). Ok (Fetch id.0 x.0, x.1))) e))
    (record { user = refl; anew = refl; text = refl; gone = refl; mute = λ e. refl })
fetched id (Err x) e = subst IsPlainReading
    (sym (ap (λ (r : Reading ℕ). r >>= (λ (x : ℕ × List ℕ). Ok (Fetch id.0 x.0, x.1))) e)) tt

fetch_plain : (read : Reading ℕ) (bytes : List ℕ) → fixed_number_at 4 bytes ≡ read → IsPlainReading (fetch_at bytes)
fetch_plain (Ok id) bytes e =
    subst IsPlainReading (sym
    (ap (λ (r : Reading ℕ). r >>=
    (λ (x : ℕ × List ℕ). fixed_number_at 4 x.1 >>=
    (λ (rows : ℕ × List ℕ). Ok (Fetch x.0 rows.0, rows.1)))) e))
    (fetched id (fixed_number_at 4 id.1) refl)
fetch_plain (Err x) bytes e =
    subst IsPlainReading (sym
    (ap (λ (r : Reading ℕ). r >>=
    (λ (x : ℕ × List ℕ). fixed_number_at 4 x.1 >>=
    (λ (rows : ℕ × List ℕ). Ok (Fetch x.0 rows.0, rows.1)))) e)) tt

placed : (id : ℕ × List ℕ) (read : Reading ℕ) → fixed_number_at 2 id.1 ≡ read →
    IsPlainReading (fixed_number_at 2 id.1 >>=
    (λ (place : ℕ × List ℕ). Ok (LongData id.0 place.0 place.1, [])))
placed id (Ok place) e = subst IsPlainReading
    (sym (ap (λ (r : Reading ℕ). r >>= (λ (x : ℕ × List ℕ). Ok (LongData id.0 x.0 x.1, []))) e))
    (record { user = refl; anew = refl; text = refl; gone = refl; mute = λ e. refl })
placed id (Err x) e = subst IsPlainReading
    (sym (ap (λ (r : Reading ℕ). r >>= (λ (x : ℕ × List ℕ). Ok (LongData id.0 x.0 x.1, []))) e)) tt

long_data_plain : (read : Reading ℕ) (bytes : List ℕ) → fixed_number_at 4 bytes ≡ read →
    IsPlainReading (long_data_at bytes)
long_data_plain (Ok id) bytes e =
    subst IsPlainReading (sym
    (ap (λ (r : Reading ℕ). r >>=
    (λ (x : ℕ × List ℕ). fixed_number_at 2 x.1 >>=
    (λ (place : ℕ × List ℕ). Ok (LongData x.0 place.0 place.1, [])))) e))
    (placed id (fixed_number_at 2 id.1) refl)
long_data_plain (Err x) bytes e =
    subst IsPlainReading (sym
    (ap (λ (r : Reading ℕ). r >>=
    (λ (x : ℕ × List ℕ). fixed_number_at 2 x.1 >>=
    (λ (place : ℕ × List ℕ). Ok (LongData x.0 place.0 place.1, [])))) e)) tt

-- ---- the table

-- the four numbers that do something
abbrev pub is_special : ℕ → Bool
is_special n = (n == 0x11) || ((n == 0x16) || ((n == 0x19) || (n == 0x1f)))

-- the two that execute
abbrev pub is_execution : ℕ → Bool
is_execution n = (n == 0x17) || (n == 0xfa)

abbrev RowPlain : ℕ × Layout → Type 0
RowPlain row = is_special row.0 ≡ false → (body : List ℕ) →
    Plain (is_execution row.0) (or_other (row.0 ∷ body) (row.1 body))

abbrev Layouts : Type 0
Layouts = List (ℕ × Layout)

other_plain : {runs : Bool} (number : ℕ) (body : List ℕ) → (number == 0x11) ≡ false →
    (number == 0x19) ≡ false → (number == 0x1f) ≡ false → Plain runs (Other (number ∷ body))
other_plain number body user gone anew =
    record {
      user = user;
      anew = anew;
      text = refl;
      gone =
          ap (λ (b : Bool). if b then statement_of (number ∷ body) else None) gone;
      mute = λ e. refl;
    }

-- by the row that stands first, or those behind it
row_plain : (number : ℕ) (body : List ℕ) (row : ℕ × Layout) (rows : Layouts) (test : Bool) →
    nat_eq number row.0 ≡ test → is_special number ≡ false → RowPlain row
    → Plain (is_execution number)
    (or_other (number ∷ body)
    (elim (entry_of nat_eq rows number) [ None ↦ None | Some layout ↦ layout body ]))
    → Plain (is_execution number)
    (or_other (number ∷ body)
    (elim (if test then Some row.1 else entry_of nat_eq rows number)
    [ None ↦ None | Some layout ↦ layout body ]))
row_plain number body row rows true is special its later =
    let same : row.0 ≡ number = grind (arith, nat_tests) in
    subst (λ (n : ℕ). Plain (is_execution n) (or_other (n ∷ body) (row.1 body))) same
    (its (subst (λ (n : ℕ). is_special n ≡ false) (sym same) special) body)
row_plain number body row rows false is special its later = later

found_plain : (number : ℕ) (body : List ℕ) (rows : Layouts) → is_special number ≡ false → AllByRecursion RowPlain rows
    → Plain (is_execution number)
    (or_other (number ∷ body)
    (elim (entry_of nat_eq rows number) [ None ↦ None | Some layout ↦ layout body ]))
found_plain number body [] special all =
    let none = none_of_four (number == 0x11) (number == 0x16) (number == 0x19) (number == 0x1f)
    special in other_plain number body none.0 none.2 none.3
found_plain number body (row ∷ rows) special all =
    row_plain number body row rows (nat_eq number row.0) refl special all.0
    (found_plain number body rows special all.1)

query_plain : (capabilities : Capabilities) (body : List ℕ) (test : Bool) →
    has_query_attributes capabilities ≡ test →
    Plain false (or_other (0x03 ∷ body) (query_at capabilities body))
query_plain capabilities body true e =
    subst (λ (b : Bool). Plain false
    (or_other (0x03 ∷ body) (if b then option_map
    (λ (query : List Attribute × List ℕ). Query query.0 query.1) (query_attributes_at body) else
    Some (Query [] body)))) (sym e)
    (plain_map (λ (query : List Attribute × List ℕ). Query query.0 query.1)
    (query_attributes_at body) (0x03 ∷ body) (other_plain 0x03 body refl refl refl)
    (λ x. record { user = refl; anew = refl; text = refl; gone = refl; mute = λ e. refl }))
query_plain capabilities body false e =
    subst (λ (b : Bool). Plain false
    (or_other (0x03 ∷ body) (if b then option_map
    (λ (query : List Attribute × List ℕ). Query query.0 query.1) (query_attributes_at body) else
    Some (Query [] body)))) (sym e)
    (record { user = refl; anew = refl; text = refl; gone = refl; mute = λ e. refl })

execution_plain : (parameters : Option InForce) (body : List ℕ) (capabilities : Capabilities) →
    Plain true (or_other (0x17 ∷
    body) (by_statement Execute (execution_at capabilities) parameters body))
execution_plain None body capabilities = other_plain 0x17 body refl refl refl
execution_plain (Some p) body capabilities =
    plain_map Execute (execution_at capabilities p body) (0x17 ∷
    body) (other_plain 0x17 body refl refl refl)
    (λ x. record { user = refl; anew = refl; text = refl; gone = refl; mute = λ e. absurd (cc e) })

bulk_plain : (parameters : Option InForce) (body : List ℕ) (capabilities : Capabilities) →
    Plain true (or_other (0xfa ∷
    body) (by_statement BulkExecute (bulk_execution_at capabilities) parameters body))
bulk_plain None body capabilities = other_plain 0xfa body refl refl refl
bulk_plain (Some p) body capabilities =
    plain_map BulkExecute (bulk_execution_at capabilities p body) (0xfa ∷
    body) (other_plain 0xfa body refl refl refl)
    (λ x. record { user = refl; anew = refl; text = refl; gone = refl; mute = λ e. absurd (cc e) })

command_rows : (capabilities : Capabilities) (parameters : Option InForce) →
    AllByRecursion RowPlain (layouts capabilities parameters)
command_rows capabilities parameters = (
  λ special body. plain_if (length body == 0) (0x01 ∷
      body) Quit (other_plain 0x01 body refl refl refl)
      (record { user = refl; anew = refl; text = refl; gone = refl; mute = λ e. refl }),
  (
    λ special body. record { user = refl; anew = refl; text = refl; gone = refl; mute = λ e. refl },
    (
      λ special body. query_plain capabilities body (has_query_attributes capabilities) refl,
      (
        λ special body. plain_read (field_list_at body) (0x04 ∷
            body) (other_plain 0x04 body refl refl refl)
            (field_list_plain (null_text_at body) body refl),
        (
          λ special body. record { user = refl; anew = refl; text = refl; gone = refl; mute = λ e. refl },
          (
            λ special body. record { user = refl; anew = refl; text = refl; gone = refl; mute = λ e. refl },
            (
              λ special body. plain_map Refresh (all_of (fixed_number_at 1 body)) (0x07 ∷
                  body) (other_plain 0x07 body refl refl refl)
                  (λ x. record {
                    user = refl;
                    anew = refl;
                    text = refl;
                    gone = refl;
                    mute =
                        λ e. refl;
                  }),
              (
                λ special body. plain_map Shutdown (all_of (level_at body)) (0x08 ∷
                    body) (other_plain 0x08 body refl refl refl)
                    (λ x. record {
                      user = refl;
                      anew = refl;
                      text = refl;
                      gone = refl;
                      mute =
                          λ e. refl;
                    }),
                (
                  λ special body. plain_if (length body == 0) (0x09 ∷
                      body) Statistics (other_plain 0x09 body refl refl refl)
                      (record {
                        user = refl;
                        anew = refl;
                        text = refl;
                        gone = refl;
                        mute =
                            λ e. refl;
                      }),
                  (
                    λ special body. plain_if (length body == 0) (0x0a ∷
                        body) ProcessInfo (other_plain 0x0a body refl refl refl)
                        (record {
                          user = refl;
                          anew = refl;
                          text = refl;
                          gone = refl;
                          mute =
                              λ e. refl;
                        }),
                    (
                      λ special body. plain_map ProcessKill (all_of (fixed_number_at 4 body))
                          (0x0c ∷ body) (other_plain 0x0c body refl refl refl)
                          (λ x. record {
                            user = refl;
                            anew = refl;
                            text = refl;
                            gone = refl;
                            mute =
                                λ e. refl;
                          }),
                      (
                        λ special body. plain_if (length body == 0) (0x0d ∷
                            body) Debug (other_plain 0x0d body refl refl refl)
                            (record {
                              user = refl;
                              anew = refl;
                              text = refl;
                              gone = refl;
                              mute =
                                  λ e. refl;
                            }),
                        (
                          λ special body. plain_if (length body == 0) (0x0e ∷
                              body) Ping (other_plain 0x0e body refl refl refl)
                              (record {
                                user = refl;
                                anew = refl;
                                text = refl;
                                gone = refl;
                                mute =
                                    λ e. refl;
                              }),
                          (
                            λ special. absurd cc,
                            (
                              λ special body. plain_map BinlogDump
                                  (all_of (replica.binlog_dump_at (0x12 ∷ body))) (0x12 ∷
                                  body) (other_plain 0x12 body refl refl refl)
                                  (λ x. record {
                                    user = refl;
                                    anew = refl;
                                    text = refl;
                                    gone =
                                        refl;
                                    mute = λ e. refl;
                                  }),
                              (
                                λ special body. plain_map TableDump
                                    (all_of (replica.table_dump_at (0x13 ∷ body))) (0x13 ∷
                                    body) (other_plain 0x13 body refl refl refl)
                                    (λ x. record {
                                      user = refl;
                                      anew = refl;
                                      text = refl;
                                      gone =
                                          refl;
                                      mute = λ e. refl;
                                    }),
                                (
                                  λ special body. plain_map RegisterSlave
                                      (all_of (replica.register_slave_at (0x15 ∷ body))) (0x15 ∷
                                      body) (other_plain 0x15 body refl refl refl)
                                      (λ x. record {
                                        user = refl;
                                        anew = refl;
                                        text = refl;
                                        gone =
                                            refl;
                                        mute = λ e. refl;
                                      }),
                                  (
                                    λ special. absurd cc,
                                    (
                                      λ special body. execution_plain parameters body capabilities,
                                      (
                                        λ special body. plain_read (long_data_at body) (0x18 ∷
                                            body) (other_plain 0x18 body refl refl refl)
                                            (long_data_plain (fixed_number_at 4 body) body refl),
                                        (
                                          λ special. absurd cc,
                                          (
                                            λ special body. plain_map ResetStatement
                                                (all_of (fixed_number_at 4 body)) (0x1a ∷
                                                body) (other_plain 0x1a body refl refl refl)
                                                (λ x. record {
                                                  user = refl;
                                                  anew = refl;
                                                  text =
                                                      refl;
                                                  gone = refl;
                                                  mute = λ e. refl;
                                                }),
                                            (
                                              λ special body. plain_map SetOption
                                                  (all_of (fixed_number_at 2 body)) (0x1b ∷
                                                  body) (other_plain 0x1b body refl refl refl)
                                                  (λ x. record {
                                                    user = refl;
                                                    anew = refl;
                                                    text =
                                                        refl;
                                                    gone = refl;
                                                    mute = λ e. refl;
                                                  }),
                                              (
                                                λ special body. plain_read (fetch_at body) (0x1c ∷
                                                    body) (other_plain 0x1c body refl refl refl)
                                                    (fetch_plain (fixed_number_at 4 body) body
                                                    refl),
                                                (
                                                  λ special body. plain_map BinlogDumpGtid
                                                      (all_of (replica.binlog_dump_gtid_at (0x1e ∷
                                                      body))) (0x1e ∷ body) (other_plain 0x1e body
                                                      refl refl refl) (λ x. record {
                                                        user =
                                                            refl;
                                                        anew = refl;
                                                        text = refl;
                                                        gone =
                                                            refl;
                                                        mute = λ e. refl;
                                                      }),
                                                  (
                                                    λ special. absurd cc,
                                                    (
                                                      λ special body. record {
                                                        user = refl;
                                                        anew =
                                                            refl;
                                                        text = refl;
                                                        gone = refl;
                                                        mute =
                                                            λ e. refl;
                                                      },
                                                      (
                                                        λ special body. bulk_plain parameters body capabilities,
                                                        tt,
                                                      ),
                                                    ),
                                                  ),
                                                ),
                                              ),
                                            ),
                                          ),
                                        ),
                                      ),
                                    ),
                                  ),
                                ),
                              ),
                            ),
                          ),
                        ),
                      ),
                    ),
                  ),
                ),
              ),
            ),
          ),
        ),
      ),
    ),
  ),
)

-- a command with none of the four numbers
pub plain_command : (capabilities : Capabilities) (parameters : Option InForce) (number : ℕ)
    (body : List ℕ) → is_special number ≡ false →
    Plain (is_execution number) (command_at capabilities parameters (number ∷ body))
plain_command capabilities parameters number body special =
    found_plain number body (layouts capabilities parameters) special
    (command_rows capabilities parameters)

-- ---- the four

pub change_is : (capabilities : Capabilities) (parameters : Option InForce) (body : List ℕ) →
    changes_user (command_at capabilities parameters (0x11 ∷ body)) ≡ true
change_is capabilities parameters body =
    changed_by (first_of (change_in_force_at capabilities.protocol.0 (0x11 ∷ body)))
  where
    changed_by : (o : Option ChangeUserFields) → changes_user (or_other (0x11 ∷ body) (option_map ChangeUser o)) ≡ true
    changed_by None = refl
    changed_by (Some x) = refl

pub record Anew (command : Command) : Type 0 where
  pub mute : executes command ≡ None
  pub user : changes_user command ≡ false
  pub anew : begins_anew command ≡ true
  pub text : prepares command ≡ None
  pub gone : closes command ≡ None

anew_so : (test : Bool) (body : List ℕ) → Anew (or_other (0x1f ∷ body) (if test then Some ResetConnection else None))
anew_so true body = record { user = refl; anew = refl; text = refl; gone = refl; mute = refl }
anew_so false body = record { user = refl; anew = refl; text = refl; gone = refl; mute = refl }

pub anew_is : (capabilities : Capabilities) (parameters : Option InForce) (body : List ℕ) →
    Anew (command_at capabilities parameters (0x1f ∷ body))
anew_is capabilities parameters body = anew_so (length body == 0) body

pub record Closing (payload : List ℕ) (command : Command) : Type 0 where
  pub user : changes_user command ≡ false
  pub anew : begins_anew command ≡ false
  pub text : prepares command ≡ None
  pub gone : closes command ≡ statement_of payload
  pub mute : executes command ≡ None

closing_all : (x : ℕ × List ℕ) (test : Bool) (body : List ℕ) → little_at 4 body ≡ Some x →
    Closing (0x19 ∷ body) (or_other (0x19 ∷
    body) (option_map Close (if test then Some x.0 else None)))
closing_all x true body e =
    record {
      user = refl;
      anew = refl;
      text = refl;
      gone =
          sym (ap (λ (o : Option (ℕ × List ℕ)). option_map (λ (id : ℕ × List ℕ). id.0) o) e);
      mute =
          refl;
    }
closing_all x false body e = record { user = refl; anew = refl; text = refl; gone = refl; mute = refl }

closing_by : (o : Option (ℕ × List ℕ)) (body : List ℕ) → little_at 4 body ≡ o →
    Closing (0x19 ∷ body) (or_other (0x19 ∷ body) (option_map Close (all_of (or_end o))))
closing_by None body e = record { user = refl; anew = refl; text = refl; gone = refl; mute = refl }
closing_by (Some x) body e = closing_all x (length x.1 == 0) body e

pub closing_is : (capabilities : Capabilities) (parameters : Option InForce) (body : List ℕ) →
    Closing (0x19 ∷ body) (command_at capabilities parameters (0x19 ∷ body))
closing_is capabilities parameters body = closing_by (little_at 4 body) body refl

-- neither do those that do something
change_mute : (capabilities : Capabilities) (parameters : Option InForce) (body : List ℕ) →
    executes (command_at capabilities parameters (0x11 ∷ body)) ≡ None
change_mute capabilities parameters body =
    changed_by (first_of (change_in_force_at capabilities.protocol.0 (0x11 ∷ body)))
  where
    changed_by : (o : Option ChangeUserFields) → executes (or_other (0x11 ∷ body) (option_map ChangeUser o)) ≡ None
    changed_by None = refl
    changed_by (Some x) = refl

abbrev Mute : Capabilities → Option InForce → List ℕ → ℕ → Type 0
Mute capabilities parameters body number = executes (command_at capabilities parameters (number ∷ body)) ≡ None

mute_by : (capabilities : Capabilities) (parameters : Option InForce) (number : ℕ) (body : List ℕ)
    (a b c d : Bool) → (number == 0x11) ≡ a → (number == 0x16) ≡ b → (number == 0x19) ≡ c →
    (number == 0x1f) ≡ d
    → is_execution number ≡ false → Mute capabilities parameters body number
mute_by capabilities parameters number body true b c d x y z w mute =
    subst (Mute capabilities parameters body) (sym (same_id number 0x11 x))
    (change_mute capabilities parameters body)
mute_by capabilities parameters number body false true c d x y z w mute =
    subst (Mute capabilities parameters body) (sym (same_id number 0x16 y)) refl
mute_by capabilities parameters number body false false true d x y z w mute =
    subst (Mute capabilities parameters body) (sym (same_id number 0x19 z))
    (closing_is capabilities parameters body).mute
mute_by capabilities parameters number body false false false true x y z w mute =
    subst (Mute capabilities parameters body) (sym (same_id number 0x1f w))
    (anew_is capabilities parameters body).mute
mute_by capabilities parameters number body false false false false x y z w mute =
    (plain_command capabilities parameters number body (λ i. x i || (y i || (z i || w i)))).mute
    mute

-- a command by any other number than the two that execute
pub mute_command : (capabilities : Capabilities) (parameters : Option InForce) (number : ℕ)
    (body : List ℕ) → is_execution number ≡ false →
    executes (command_at capabilities parameters (number ∷ body)) ≡ None
mute_command capabilities parameters number body mute =
    mute_by capabilities parameters number body (number == 0x11) (number == 0x16) (number == 0x19)
    (number == 0x1f) refl refl refl refl mute
