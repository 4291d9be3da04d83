-- Commands, as they read and as they are laid out.
use Rattle.std.proofs.Common.{◌≡◌, ℕ, ◌<◌, ◌^◌, true, List, [], ◌∷◌, ◌++◌, length, Option, Some, None, Ok, refl, sym}
use Rattle.std.proofs.Common.{ap, ◌∙◌, arith, subst}
use Rattle.std.specs.Prelude.{◌==◌, nat_lt}
use Rattle.std.specs.List.{concat}
use Rattle.std.proofs.lemmas.Bool.{eqb-true, ltb-true, lt-ltb}
use Rattle.byteorder.specs.Endian.{little_bytes}
use Rattle.mysql_const.specs.Commands.{command_named, command_number}
use Rattle.mysql_const.specs.Tables.{IsTable}
use Rattle.mysql_const.specs.declared.command.Command.{Command as Name}
use Rattle.mysql_const.specs.declared.command.Command.TheVariants.{COM_QUERY, COM_STMT_PREPARE, COM_STMT_SEND_LONG_DATA}
use Rattle.mysql_const.specs.declared.command.Command.TheVariants.{COM_STMT_EXECUTE, COM_STMT_BULK_EXECUTE}
use Rattle.mysql_const.specs.declared.command.Command.TheVariants.{COM_STMT_RESET, COM_STMT_CLOSE}
use Rattle.mysql_wire.specs.Bytes.{AreBytes}
use Rattle.mysql_buf.specs.NumberLaws.{little-reads_back}
use Rattle.mysql_receive.specs.declared.fault.StreamFault.TheVariants.{NotPrepared, WrongId, BadPlace}
use Rattle.mysql_receive.specs.Fields.{must}
use Rattle.mysql_receive.specs.Query.{IsQuery, Statement, place_count}
use Rattle.mysql_receive.specs.Layout.{PlaceData, command_by, id_at, place_data_at}
use Rattle.mysql_receive.specs.InForce.{StatementState, nothing_yet, after, freshly_prepared, with_types, with_data}
use Rattle.mysql_receive.specs.InForce.{without_data, more_data}
use Rattle.mysql_receive.specs.Reading.{Set, CommandReadsAs, PayloadReadsAs, prepared_data, long_data_at}
use Rattle.mysql_receive.specs.Reading.{statement_alone_at}
use Rattle.mysql_command_rules.specs.Manual as manual
use Rattle.mysql_command_rules.specs.Manual.{with_marks, IsPrepared, IsCommand}
use Rattle.mysql_command_rules.proofs.Binds.{bind_ok, must_ok, number_behind}
use Rattle.mysql_command_rules.proofs.Numbers.{bytes_behind, little_taken}
use Rattle.mysql_command_rules.proofs.Executes.{id_taken, id_given, execute_taken, execute_given}
use Rattle.mysql_command_rules.proofs.Leaving.{behind_prepare, behind_data, behind_execute, behind_bulk, is_not_waiting}
use Rattle.mysql_command_rules.proofs.Leaving.{none_waits}
use Rattle.mysql_command_rules.proofs.Bulks.{bulk_taken, bulk_given}
use Rattle.mysql_command_rules.proofs.Fillings.{QueryLaws, filled_of, text_of, marks_are}

-- ---- long data

record HasData (c : Statement) (s : StatementState) (body : List ℕ) : Type 0 where
  prepared : IsPrepared c s
  place : ℕ
  bytes : List ℕ
  known : place < place_count c.query
  fits : place < 2 ^ 16
  joined : body ≡ little_bytes 4 c.id ++ (little_bytes 2 place ++ bytes)

data_taken : (c : Statement) (s : StatementState) (body : List ℕ) (sent : PlaceData) →
    AreBytes body → s.prepared ≡ true → place_data_at c body ≡ Ok sent → HasData c s body
data_taken c s body sent are prepared e =
    let a = bind_ok (id_at c body) _ sent e in
    let b = number_behind BadPlace BadPlace 2 (λ n. nat_lt n (place_count c.query)) a.0
    (λ place. Ok (record { place = place.0; bytes = place.1 })) sent a.2 in
    let id = id_taken c body a.0 are a.1 in
    let place = little_taken 2 a.0 b.0 (bytes_behind (little_bytes 4 c.id) a.0 body id.joined are) b.1 in
    record {
      prepared = record { prepared = prepared; id = id.fits };
      place = b.0.0;
      bytes = b.0.1;
      known = ltb-true b.0.0 (place_count c.query) b.2;
      fits = place.0;
      joined = id.joined ∙ ap (λ (l : List ℕ). little_bytes 4 c.id ++ l) place.1;
    }

long_data_taken : (c : Statement) (s : StatementState) (body : List ℕ) (sets : List Set) →
    AreBytes body → long_data_at c s body ≡ Ok sets → HasData c s body × (sets ≡ [])
unfolding long_data_at prepared_data
long_data_taken c s body sets are e =
    let a = bind_ok (prepared_data c s body) _ sets e in
    let b = bind_ok (must NotPrepared s.prepared) _ a.0 a.1 in
    (data_taken c s body a.0 are (must_ok NotPrepared s.prepared b.0 b.1) b.2, cc)

data_given : (c : Statement) (place : ℕ) (bytes : List ℕ) → c.id < 2 ^ 32 →
    place < place_count c.query → place < 2 ^ 16 →
    place_data_at c (little_bytes 4 c.id ++ (little_bytes 2 place ++ bytes)) ≡
    Ok (record { place = place; bytes = bytes })
data_given c place bytes lt known fits =
    rw (
      id_given c (little_bytes 2 place ++ bytes) lt,
      little-reads_back 2 place bytes fits,
      lt-ltb place (place_count c.query) known,
    ) refl

long_data_given : (c : Statement) (s : StatementState) (place : ℕ) (bytes : List ℕ) →
    IsPrepared c s → place < place_count c.query → place < 2 ^ 16 →
    long_data_at c s (little_bytes 4 c.id ++ (little_bytes 2 place ++ bytes)) ≡ Ok []
unfolding long_data_at prepared_data
long_data_given c s place bytes is known fits =
    let prepared = is.prepared in
    rw (prepared, data_given c place bytes is.id known fits) refl

-- ---- reset and close

none_left : (rest : List ℕ) → (length rest == 0) ≡ true → rest ≡ []
none_left [] e = refl
none_left (b ∷ rest) e = absurd (omega (arith, eqb-true (length (b ∷ rest)) 0 e))

alone_taken : (c : Statement) (s : StatementState) (body : List ℕ) (sets : List Set) →
    AreBytes body → statement_alone_at c s body ≡ Ok sets → IsPrepared c s ×
    (body ≡ little_bytes 4 c.id) × (sets ≡ [])
unfolding statement_alone_at
alone_taken c s body sets are e =
    let a = bind_ok (must NotPrepared s.prepared) _ sets e in
    let b = bind_ok (id_at c body) _ sets a.2 in
    let d = bind_ok (must WrongId (length b.0 == 0)) _ sets b.2 in
    let id = id_taken c body b.0 are b.1 in (
      record { prepared = must_ok NotPrepared s.prepared a.0 a.1; id = id.fits },
      id.joined ∙ ap (λ (l : List ℕ). little_bytes 4 c.id ++
          l) (none_left b.0 (must_ok WrongId (length b.0 == 0) d.0 d.1)),
      cc,
    )

alone_given : (c : Statement) (s : StatementState) → IsPrepared c s →
    statement_alone_at c s (little_bytes 4 c.id) ≡ Ok []
unfolding statement_alone_at
alone_given c s is = let prepared = is.prepared in rw (prepared, id_given c [] is.id) refl

-- ---- each command that is laid out reads, and leaves in force what it says

pub each_reads : QueryLaws →
    (c : Statement) (s : StatementState) (payload : List ℕ) (sets : List Set)
    (behind : StatementState) → IsQuery c.query → IsCommand c s payload sets behind →
    PayloadReadsAs c s payload sets × (after c s payload ≡ behind)
each_reads laws c s payload sets behind is (manual.query text {set = set} filled) =
    ((filled.alone, (set, text_of laws c.query text set is filled, refl)), refl)
each_reads laws c s payload sets behind is (manual.prepare few) =
    let same = sym (marks_are laws c.query is) in
    ((same, few, refl), behind_prepare c s (with_marks c.query) same)
each_reads laws c s payload sets behind is (manual.long_data place bytes prepared known fits) = (
  long_data_given c s place bytes prepared known fits,
  behind_data c s (little_bytes 4 c.id ++ (little_bytes 2 place ++ bytes))
      (record { place = place; bytes = bytes }) (data_given c place bytes prepared.id known fits),
)
each_reads laws c s payload sets behind is (manual.execute parameters {set = set} {types = types} prepared are) =
    let h = execute_given c s parameters set types prepared are in (
      (set, h.reads, refl),
      behind_execute c s (little_bytes 4 c.id ++ (0 ∷ (little_bytes 4 1 ++ parameters)))
          (record { nulls = h.head.0; own = h.own; cells = h.head.1 }) types h.head.2 h.types_count,
    )
each_reads laws c s payload sets behind is
    (manual.bulk bound rows {types = types} {sets = held} prepared waits there some are all) =
    let h = bulk_given c s bound rows types held prepared (is_not_waiting c s waits) there some are all in (
      h.reads,
      behind_bulk c s (little_bytes 4 c.id ++ (bound ++ concat rows))
          (record { own = h.own; rows = h.head.0 }) (Some types) h.head.1 h.types_count,
    )
each_reads laws c s payload sets behind is (manual.reset prepared) = (alone_given c s prepared, refl)
each_reads laws c s payload sets behind is (manual.close prepared) = (alone_given c s prepared, refl)

-- ---- and no other payload

-- the payload is laid out as a command, whatever it leaves in force
abbrev Laid : Statement → StatementState → List ℕ → List Set → Type 0
Laid c s payload sets = (behind : StatementState) × IsCommand c s payload sets behind

module _ (laws : QueryLaws) (c : Statement) (s : StatementState) (is : IsQuery c.query) where
  query_laid : (text : List ℕ) (sets : List Set) →
      CommandReadsAs c s (command_by (Some COM_QUERY)) text sets →
      Laid c s (command_number COM_QUERY ∷ text) sets
  query_laid text sets h = subst (λ (xs : List Set). Laid c s (command_number COM_QUERY ∷ text) xs)
      (sym h.1.2) (s, manual.query text (filled_of laws c.query text h.1.0 is h.0 h.1.1))

  prepare_laid : (body : List ℕ) (sets : List Set) →
      CommandReadsAs c s (command_by (Some COM_STMT_PREPARE)) body sets →
      Laid c s (command_number COM_STMT_PREPARE ∷ body) sets
  prepare_laid body sets h =
      subst (λ (xs : List Set). Laid c s (command_number COM_STMT_PREPARE ∷ body) xs) (sym h.2)
      (subst (λ (l : List ℕ). Laid c s (command_number COM_STMT_PREPARE ∷ l) [])
      (sym (h.0 ∙ marks_are laws c.query is)) (freshly_prepared, manual.prepare h.1))

  long_data_laid : (body : List ℕ) (sets : List Set) → AreBytes body → long_data_at c s body ≡
      Ok sets → Laid c s (command_number COM_STMT_SEND_LONG_DATA ∷ body) sets
  long_data_laid body sets are h =
      let (sent, none) = long_data_taken c s body sets are h in
      subst (λ (xs : List Set). Laid c s (command_number COM_STMT_SEND_LONG_DATA ∷ body) xs) (sym none)
      (subst (λ (l : List ℕ). Laid c s (command_number COM_STMT_SEND_LONG_DATA ∷ l) []) (sym sent.joined) (
        with_data s (more_data s.long_data sent.place sent.bytes),
        manual.long_data sent.place sent.bytes sent.prepared sent.known sent.fits,
      ))

  execute_laid : (body : List ℕ) (sets : List Set) → AreBytes body →
      CommandReadsAs c s (command_by (Some COM_STMT_EXECUTE)) body sets →
      Laid c s (command_number COM_STMT_EXECUTE ∷ body) sets
  execute_laid body sets are h =
      let taken = execute_taken c s body h.0 are h.1 in
      subst (λ (xs : List Set). Laid c s (command_number COM_STMT_EXECUTE ∷ body) xs) (sym h.2)
      (subst (λ (l : List ℕ). Laid c s (command_number COM_STMT_EXECUTE ∷ l) (h.0 ∷ [])) (sym taken.joined)
      (without_data (with_types s taken.types), manual.execute taken.parameters taken.prepared taken.are))

  bulk_laid : (body : List ℕ) (sets : List Set) → AreBytes body →
      CommandReadsAs c s (command_by (Some COM_STMT_BULK_EXECUTE)) body sets →
      Laid c s (command_number COM_STMT_BULK_EXECUTE ∷ body) sets
  bulk_laid body sets are h =
      let taken = bulk_taken c s body sets are h in
      subst (λ (l : List ℕ). Laid c s (command_number COM_STMT_BULK_EXECUTE ∷ l) sets) (sym taken.joined) (
        with_types s (Some taken.types),
        manual.bulk taken.bound taken.rows taken.prepared (none_waits c s taken.none_waits)
            taken.places taken.some taken.are_types taken.are_rows,
      )

  reset_laid : (body : List ℕ) (sets : List Set) → AreBytes body → statement_alone_at c s body ≡
      Ok sets → Laid c s (command_number COM_STMT_RESET ∷ body) sets
  reset_laid body sets are h =
      let (prepared, joined, none) = alone_taken c s body sets are h in
      subst (λ (xs : List Set). Laid c s (command_number COM_STMT_RESET ∷ body) xs) (sym none)
      (subst (λ (l : List ℕ). Laid c s (command_number COM_STMT_RESET ∷ l) []) (sym joined)
      (without_data s, manual.reset prepared))

  close_laid : (body : List ℕ) (sets : List Set) → AreBytes body → statement_alone_at c s body ≡
      Ok sets → Laid c s (command_number COM_STMT_CLOSE ∷ body) sets
  close_laid body sets are h =
      let (prepared, joined, none) = alone_taken c s body sets are h in
      subst (λ (xs : List Set). Laid c s (command_number COM_STMT_CLOSE ∷ body) xs) (sym none)
      (subst (λ (l : List ℕ). Laid c s (command_number COM_STMT_CLOSE ∷ l) []) (sym joined)
      (nothing_yet, manual.close prepared))

  -- by the name of the first byte
  laid : (table : IsTable command_number command_named) (b : ℕ) (body : List ℕ) (sets : List Set)
      (name : Option Name) → command_named b ≡ name → AreBytes body →
      CommandReadsAs c s (command_by name) body sets → Laid c s (b ∷ body) sets
  laid table b body sets None e are h = absurd h
  laid table b body sets (Some COM_QUERY) e are h =
      subst (λ (n : ℕ). Laid c s (n ∷ body) sets) (sym (table.1 b COM_QUERY e))
      (query_laid body sets h)
  laid table b body sets (Some COM_STMT_PREPARE) e are h =
      subst (λ (n : ℕ). Laid c s (n ∷ body) sets) (sym (table.1 b COM_STMT_PREPARE e))
      (prepare_laid body sets h)
  laid table b body sets (Some COM_STMT_SEND_LONG_DATA) e are h =
      subst (λ (n : ℕ). Laid c s (n ∷ body) sets) (sym (table.1 b COM_STMT_SEND_LONG_DATA e))
      (long_data_laid body sets are h)
  laid table b body sets (Some COM_STMT_EXECUTE) e are h =
      subst (λ (n : ℕ). Laid c s (n ∷ body) sets) (sym (table.1 b COM_STMT_EXECUTE e))
      (execute_laid body sets are h)
  laid table b body sets (Some COM_STMT_BULK_EXECUTE) e are h =
      subst (λ (n : ℕ). Laid c s (n ∷ body) sets) (sym (table.1 b COM_STMT_BULK_EXECUTE e))
      (bulk_laid body sets are h)
  laid table b body sets (Some COM_STMT_RESET) e are h =
      subst (λ (n : ℕ). Laid c s (n ∷ body) sets) (sym (table.1 b COM_STMT_RESET e))
      (reset_laid body sets are h)
  laid table b body sets (Some COM_STMT_CLOSE) e are h =
      subst (λ (n : ℕ). Laid c s (n ∷ body) sets) (sym (table.1 b COM_STMT_CLOSE e))
      (close_laid body sets are h)
  laid table b body sets (Some other) e are h = absurd h

  payload_laid : IsTable command_number command_named → (payload : List ℕ) (sets : List Set) →
      AreBytes payload → PayloadReadsAs c s payload sets → Laid c s payload sets
  payload_laid table [] sets are h = absurd h
  payload_laid table (b ∷ body) sets are h =
      laid table b body sets (command_named b) refl (bytes_behind (b ∷ []) body (b ∷ body) refl are)
      h

  pub only_reads : IsTable command_number command_named → (payload : List ℕ) (sets : List Set) →
      AreBytes payload → PayloadReadsAs c s payload sets →
      IsCommand c s payload sets (after c s payload)
  only_reads table payload sets are h =
      let (behind, command) = payload_laid table payload sets are h in
      subst (λ (t : StatementState). IsCommand c s payload sets t)
      (sym (each_reads laws c s payload sets behind is command).1) command
