-- What was read is put, row by row of the table of commands.
use Rattle.std.proofs.Common.{◌≡◌, ◌==◌, ◌<◌, ◌^◌, ℕ, nat_eq, Bool, true, false, if◌then◌else◌, List, [], ◌∷◌, ◌++◌}
use Rattle.std.proofs.Common.{length, ◌%◌, Option, Some, None, Ok, Err, refl, sym, ap, ◌∙◌, subst, arith}
use Rattle.std.proofs.lemmas.Bool.{eqb-true}
use Rattle.std.specs.List.{AllByRecursion}
use Rattle.std.specs.Option.{option_map}
use Rattle.byteorder.specs.Endian.{little_bytes}
use Rattle.mysql_buf.specs.Bytes.{AreBytes}
use Rattle.mysql_const.specs.Tables.{entry_of}
use Rattle.mysql_const.specs.declared.capabilities.Capabilities.{Capabilities}
use Rattle.mysql_login.proofs.FieldsRead.{left_bytes, name_read, number_read}
use Rattle.mysql_execution_writer.specs.Laws.{ReadAttributesAreWritten, ReadBulksAreWritten, ReadExecutionsAreWritten}
use Rattle.mysql_executions.specs.Attributes.{query_attributes_at}
use Rattle.mysql_executions.specs.Bulks.{BulkExecution, bulk_execution_at}
use Rattle.mysql_executions.specs.Executions.{Execution, execution_at}
use Rattle.mysql_executions.specs.InForce.{InForce}
use Rattle.mysql_executions.specs.Types.{has_query_attributes}
use Rattle.mysql_executions.specs.declared.types.Attribute.{Attribute}
use Rattle.mysql_fields.specs.Forms.{fixed_number_at}
use Rattle.mysql_fields.specs.Laws.{bind_ok, fixed_number_at-back, ok_same}
use Rattle.mysql_fields.specs.Wire.{Reading, ◌>>=◌}
use Rattle.mysql_commands.specs.Commands.{Command, Layout, all_of, alone, command_at, fields, first_of, layouts}
use Rattle.mysql_commands.specs.Commands.{or_other, said}
use Rattle.mysql_commands.specs.Commands.{Quit, Query, FieldList, Shutdown}
use Rattle.mysql_commands.specs.Commands.{LongData}
use Rattle.mysql_commands.specs.Commands.{Fetch, Other}
use Rattle.mysql_commands.specs.Commands.{BulkExecute, Execute, by_statement, fetch_at, field_list_at, level_at}
use Rattle.mysql_commands.specs.Commands.{long_data_at, query_at}
use Rattle.mysql_fields.specs.Texts.{null_text_at}
use Rattle.mysql_command_writer.proofs.FieldLists.{cut}
use Rattle.mysql_command_writer.proofs.ReadAgain.{last_number-back}
use Rattle.mysql_command_writer.specs.Laws.{IsOwn}

-- BYTES

pub tail_bytes : (b : ℕ) (bytes : List ℕ) → AreBytes (b ∷ bytes) → AreBytes bytes
tail_bytes b bytes small = left_bytes 1 (b ∷ bytes) small

-- LAYOUTS

-- the command that was read
abbrev value_of : Reading Command → Command
value_of (Ok x) = x.0
value_of (Err e) = Quit

no_bytes : (bytes : List ℕ) → (length bytes == 0) ≡ true → bytes ≡ []
no_bytes [] h = refl
no_bytes (b ∷ bytes) h = absurd (omega (arith, eqb-true (length (b ∷ bytes)) 0 h))

-- a reading that stands
abbrev pub ok_of : {X : Type 0} → X × List ℕ → Reading X
ok_of x = Ok x

all_by : {X : Type 0} (x : X × List ℕ) (b : Bool) (f : X → Command) (c : Command) → (length x.1 == 0) ≡ b →
    option_map f (if b then Some x.0 else None) ≡ Some c → (y : X) × (x ≡ (y, [])) × (f y ≡ c)
all_by {X} x true f c e h = (x.0, ap (λ (rest : List ℕ). (x.0, rest)) (no_bytes x.1 e), cc)
all_by {X} x false f c e h = absurd cc

-- what is read of all bytes
pub all_read : {X : Type 0} (r : Reading X) (f : X → Command) (c : Command) → option_map f (all_of r) ≡ Some c →
    (x : X) × (r ≡ Ok (x, [])) × (f x ≡ c)
all_read {X} (Err e) f c h = absurd cc
all_read {X} (Ok x) f c h =
    let part = all_by x (length x.1 == 0) f c refl h in
    (part.0, ap (λ (y : X × List ℕ). ok_of y) part.1, part.2)

-- what is read of the front
pub first_read : {X : Type 0} (r : Reading X) (f : X → Command) (c : Command) → option_map f (first_of r) ≡ Some c →
    (x : X × List ℕ) × (r ≡ Ok x) × (f x.0 ≡ c)
first_read {X} (Err e) f c h = absurd cc
first_read {X} (Ok x) f c h = (x, refl, cc)

-- a command without fields
pub alone_own : (P : Command → Type 0) (command c : Command) (bytes : List ℕ) → P command →
    alone command bytes ≡ Some c →
    P c
alone_own P command c bytes p h = go (length bytes == 0) h where
  go : (b : Bool) → (if b then Some command else None) ≡ Some c → P c
  go true e = let same : command ≡ c = cc in subst P same p
  go false e = absurd cc

pub some_own : (P : Command → Type 0) (command c : Command) → P command → Some command ≡ Some c → P c
some_own P command c p h = let same : command ≡ c = cc in subst P same p

-- a number alone
pub number_own : (P : Command → Type 0) (n : ℕ) (f : ℕ → Command) (bytes : List ℕ) (c : Command) → AreBytes bytes →
    ((x : ℕ) → x < 256 ^ n → P (f x)) → fields f (fixed_number_at n) bytes ≡ Some c → P c
number_own P n f bytes c small p h =
    let read = all_read (fixed_number_at n bytes) f c h in
    subst P read.2 (p read.0 (number_read n bytes (read.0, []) small read.1).0)

-- THE TABLE

-- what is read by a row is its own
abbrev pub RowIsOwn : Capabilities → Option InForce → ℕ × Layout → Type 0
RowIsOwn capabilities parameters row = (bytes : List ℕ) (c : Command) → AreBytes (row.0 ∷ bytes) →
    row.1 bytes ≡ Some c → IsOwn capabilities parameters c

-- the first row of a table, or another
first_or : (R : ℕ × Layout → Type 0) (row : ℕ × Layout) (number : ℕ) (layout : Layout) (found : Option Layout)
    (b : Bool) → nat_eq number row.0 ≡ b → R row → (found ≡ Some layout → R (number, layout)) →
    (if b then Some row.1 else found) ≡ Some layout → R (number, layout)
first_or R row number layout found true e first later h =
    let same : row.0 ≡ number = sym (eqb-true number row.0 e) in
    let lies : row.1 ≡ layout = cc in
    subst (λ (l : Layout). R (number, l)) lies (subst (λ (n : ℕ). R (n, row.1)) same first)
first_or R row number layout found false e first later h = later h

-- a row that stands in a table of such is such
row_of : (R : ℕ × Layout → Type 0) (table : List (ℕ × Layout)) (number : ℕ) (layout : Layout) →
    AllByRecursion R table → entry_of nat_eq table number ≡ Some layout → R (number, layout)
row_of R [] number layout all h = absurd cc
row_of R (row ∷ rows) number layout all h =
    first_or R row number layout (entry_of nat_eq rows number) (nat_eq number row.0) refl all.0
    (row_of R rows number layout all.1) h

-- what is said by a row that was found
abbrev by_row : Option Layout → List ℕ → Option Command
by_row found bytes = elim found [ None ↦ None | Some layout ↦ layout bytes ]

other_own : (capabilities : Capabilities) (parameters : Option InForce) (payload : List ℕ) →
    said capabilities parameters payload ≡ None → IsOwn capabilities parameters (Other payload)
other_own capabilities parameters payload h = (ap (or_other payload) h, refl)

own_of : (capabilities : Capabilities) (parameters : Option InForce) (payload : List ℕ) (c : Option Command) →
    said capabilities parameters payload ≡ c →
    ((command : Command) → c ≡ Some command → IsOwn capabilities parameters command) →
    IsOwn capabilities parameters (or_other payload c)
own_of capabilities parameters payload None h each = other_own capabilities parameters payload h
own_of capabilities parameters payload (Some command) h each = each command refl

pub read_own : (capabilities : Capabilities) (parameters : Option InForce) →
    AllByRecursion (RowIsOwn capabilities parameters) (layouts capabilities parameters) → (payload : List ℕ) →
    AreBytes payload → IsOwn capabilities parameters (command_at capabilities parameters payload)
read_own capabilities parameters all [] small = (refl, refl)
read_own capabilities parameters all (number ∷ bytes) small =
    own_of capabilities parameters (number ∷ bytes) (said capabilities parameters (number ∷ bytes)) refl
    (go (entry_of nat_eq (layouts capabilities parameters) number) refl) where
      go : (found : Option Layout) → entry_of nat_eq (layouts capabilities parameters) number ≡ found →
          (command : Command) → by_row found bytes ≡ Some command → IsOwn capabilities parameters command
      go None e command h = absurd cc
      go (Some layout) e command h =
          row_of (RowIsOwn capabilities parameters) (layouts capabilities parameters) number layout all e bytes command
          small h

-- ROWS

-- a level, or none
pub shutdown_own : (capabilities : Capabilities) (parameters : Option InForce) (bytes : List ℕ) (c : Command) →
    AreBytes (8 ∷ bytes) → fields Shutdown level_at bytes ≡ Some c → IsOwn capabilities parameters c
shutdown_own capabilities parameters [] c small h =
    some_own (IsOwn capabilities parameters) (Shutdown None) c (refl, refl) h
shutdown_own capabilities parameters (b ∷ bytes) c small h =
    let read = all_read (level_at (b ∷ bytes)) Shutdown c h in
    let same : Some b ≡ read.0 =
    ap (λ (x : Option ℕ × List ℕ). x.0) (ok_same (Some b, bytes) (read.0, []) read.1) in
    let low : b < 256 = small 1 in
    let whole : b % 256 ≡ b = omega arith in
    let own : IsOwn capabilities parameters (Shutdown (Some b)) = (ap (λ (n : ℕ). Shutdown (Some n)) whole, refl) in
    subst (IsOwn capabilities parameters) read.2
    (subst (λ (level : Option ℕ). IsOwn capabilities parameters (Shutdown level)) same own)

pub field_list_own : (capabilities : Capabilities) (parameters : Option InForce) (bytes : List ℕ) (c : Command) →
    fields (λ c. c) field_list_at bytes ≡ Some c → IsOwn capabilities parameters c
field_list_own capabilities parameters bytes c h =
    let read = all_read (field_list_at bytes) (λ c. c) c h in
    let name = bind_ok (null_text_at bytes) (λ table. ok_of (FieldList table.0 table.1, [])) (read.0, []) read.1 in
    let is : FieldList name.0.0 name.0.1 ≡ c = ap (λ (r : Reading Command). value_of r) name.2 ∙ read.2 in
    let reads = cut capabilities parameters name.0.0 name.0.1 ∙
    ap (λ (table : List ℕ). FieldList table name.0.1) (name_read bytes name.0 name.1).0 in
    subst (IsOwn capabilities parameters) is (reads, refl)

-- a query, by the law of attributes
pub query_own : ReadAttributesAreWritten → (capabilities : Capabilities) (parameters : Option InForce) (bytes : List ℕ)
    (c : Command) → AreBytes bytes → query_at capabilities bytes ≡ Some c → IsOwn capabilities parameters c
query_own law capabilities parameters bytes c small h = go (has_query_attributes capabilities) refl h where
  found : has_query_attributes capabilities ≡ true → (r : Option (List Attribute × List ℕ)) →
      query_attributes_at bytes ≡ r → option_map (λ query. Query query.0 query.1) r ≡ Some c →
      IsOwn capabilities parameters c
  found asks None e g = absurd cc
  found asks (Some query) e g =
      let part = law bytes query.1 query.0 small e in
      let same : Query query.0 query.1 ≡ c = cc in
      subst (IsOwn capabilities parameters) same
      (rw (asks, part.0) refl, ap (λ (attributes : List Attribute). Query attributes query.1) part.1)

  go : (b : Bool) → has_query_attributes capabilities ≡ b →
      (if b then option_map (λ query. Query query.0 query.1) (query_attributes_at bytes) else Some (Query [] bytes)) ≡
      Some c → IsOwn capabilities parameters c
  go true asks g = found asks (query_attributes_at bytes) refl g
  go false asks g =
      let same : Query [] bytes ≡ c = cc in
      subst (IsOwn capabilities parameters) same (rw asks refl, refl)

-- an execution, by its law
pub execute_own : ReadExecutionsAreWritten →
    (capabilities : Capabilities) (parameters : Option InForce) (bytes : List ℕ)
    (c : Command) → AreBytes bytes →
    by_statement Execute (execution_at capabilities) parameters bytes ≡ Some c → IsOwn capabilities parameters c
execute_own law capabilities None bytes c small h = absurd cc
execute_own law capabilities (Some s) bytes c small h = go (execution_at capabilities s bytes) refl h where
  go : (r : Option Execution) → execution_at capabilities s bytes ≡ r → option_map Execute r ≡ Some c →
      IsOwn capabilities (Some s) c
  go None e g = absurd cc
  go (Some execution) e g =
      let part = law capabilities s bytes execution small e in
      let same : Execute execution ≡ c = cc in
      subst (IsOwn capabilities (Some s)) same (part.0, ap (λ (x : Execution). Execute x) part.1)

pub bulk_own : ReadBulksAreWritten → (capabilities : Capabilities) (parameters : Option InForce) (bytes : List ℕ)
    (c : Command) → AreBytes bytes →
    by_statement BulkExecute (bulk_execution_at capabilities) parameters bytes ≡ Some c →
    IsOwn capabilities parameters c
bulk_own law capabilities None bytes c small h = absurd cc
bulk_own law capabilities (Some s) bytes c small h = go (bulk_execution_at capabilities s bytes) refl h where
  go : (r : Option BulkExecution) → bulk_execution_at capabilities s bytes ≡ r → option_map BulkExecute r ≡ Some c →
      IsOwn capabilities (Some s) c
  go None e g = absurd cc
  go (Some execution) e g =
      let part = law capabilities s bytes execution small e in
      let same : BulkExecute execution ≡ c = cc in
      subst (IsOwn capabilities (Some s)) same (part.0, ap (λ (x : BulkExecution). BulkExecute x) part.1)

-- a piece of a parameter
pub long_data_own : (capabilities : Capabilities) (parameters : Option InForce) (bytes : List ℕ) (c : Command) →
    AreBytes bytes → fields (λ c. c) long_data_at bytes ≡ Some c → IsOwn capabilities parameters c
long_data_own capabilities parameters bytes c small h =
    let read = all_read (long_data_at bytes) (λ c. c) c h in
    let id = bind_ok (fixed_number_at 4 bytes) (λ id. fixed_number_at 2 id.1 >>=
    λ place. ok_of (LongData id.0 place.0 place.1, [])) (read.0, []) read.1 in
    let place = bind_ok (fixed_number_at 2 id.0.1)
    (λ place. ok_of (LongData id.0.0 place.0 place.1, [])) (read.0, []) id.2 in
    let first = number_read 4 bytes id.0 small id.1 in
    let second = number_read 2 id.0.1 place.0 first.1 place.1 in
    let is : LongData id.0.0 place.0.0 place.0.1 ≡ c = ap (λ (r : Reading Command). value_of r) place.2 ∙ read.2 in
    subst (IsOwn capabilities parameters) is (
      rw (
        fixed_number_at-back 4 id.0.0 (little_bytes 2 place.0.0 ++ place.0.1) first.0,
        fixed_number_at-back 2 place.0.0 place.0.1 second.0,
      ) refl,
      refl,
    )

-- an id and a number of rows
pub fetch_own : (capabilities : Capabilities) (parameters : Option InForce) (bytes : List ℕ) (c : Command) →
    AreBytes bytes → fields (λ c. c) fetch_at bytes ≡ Some c → IsOwn capabilities parameters c
fetch_own capabilities parameters bytes c small h =
    let read = all_read (fetch_at bytes) (λ c. c) c h in
    let id = bind_ok (fixed_number_at 4 bytes) (λ id. fixed_number_at 4 id.1 >>=
    λ rows. ok_of (Fetch id.0 rows.0, rows.1)) (read.0, []) read.1 in
    let rows = bind_ok (fixed_number_at 4 id.0.1) (λ rows. ok_of (Fetch id.0.0 rows.0, rows.1)) (read.0, []) id.2 in
    let first = number_read 4 bytes id.0 small id.1 in
    let second = number_read 4 id.0.1 rows.0 first.1 rows.1 in
    let is : Fetch id.0.0 rows.0.0 ≡ c = ap (λ (r : Reading Command). value_of r) rows.2 ∙ read.2 in
    subst (IsOwn capabilities parameters) is (
      rw (
        fixed_number_at-back 4 id.0.0 (little_bytes 4 rows.0.0) first.0,
        last_number-back 4 rows.0.0 second.0,
      ) refl,
      refl,
    )
