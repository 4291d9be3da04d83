-- Bulk executions: the head, and the rows.
use Rattle.std.proofs.Common.{◌≡◌, ◌⊎◌, inl, inr, ℕ, ◌<◌, ◌^◌, Bool, true, false, List, [], ◌∷◌, ◌++◌, length, Option}
use Rattle.std.proofs.Common.{Some, None, Result, Ok, refl, sym, ap, ◌∙◌, arith, subst, append_assoc, length-append}
use Rattle.std.specs.Prelude.{◌==◌, ◌||◌, nat_lt, nat_le, not, if◌then◌else◌}
use Rattle.std.specs.List.{AllZip, concat}
use Rattle.std.specs.Option.{option_or}
use Rattle.std.proofs.lemmas.Bool.{eqb-true, eqb-false, ne_eqb, leb-true, ltb-true, lt-ltb, or_cases, not-true}
use Rattle.byteorder.specs.Endian.{little_bytes}
use Rattle.mysql_wire.specs.Bytes.{AreBytes}
use Rattle.mysql_const.specs.FlagSets.{contains}
use Rattle.mysql_buf.specs.NumberLaws.{little-reads_back}
use Rattle.mysql_wire.specs.Wire.{◌>>=◌}
use Rattle.mysql_values.specs.Content.{Content}
use Rattle.mysql_values.specs.Content.TheVariants as content
use Rattle.mysql_receive.specs.declared.fault.StreamFault.{StreamFault}
use Rattle.mysql_receive.specs.declared.fault.StreamFault.TheVariants.{NotPrepared, BadBulk, Indicator, NoRows}
use Rattle.mysql_receive.specs.declared.fault.StreamFault.TheVariants.{PiecesBeforeBulk}
use Rattle.mysql_receive.specs.declared.param_type.ParamType.{ParamType}
use Rattle.mysql_receive.specs.Fields.{must}
use Rattle.mysql_receive.specs.Query.{Statement, place_count}
use Rattle.mysql_receive.specs.Layout.{Types, BulkHead, are_bulk_flags, id_at, send_types_to_server, types_at}
use Rattle.mysql_receive.specs.Layout.{bulk_head}
use Rattle.mysql_receive.specs.InForce.{StatementState, is_waiting}
use Rattle.mysql_receive.specs.Reading.{Set, content_at, types_in_force, column_at, columns_at, row_at, RowsAt}
use Rattle.mysql_receive.specs.Reading.{bulk_rows, BulkReadsAs}
use Rattle.mysql_command_rules.specs.Manual as manual
use Rattle.mysql_command_rules.specs.Manual.{SideBySide, AreTypes, AreBulkBound, IsColumn, IsRow, type_bytes}
use Rattle.mysql_command_rules.specs.Manual.{IsPrepared}
use Rattle.mysql_command_rules.proofs.Binds.{bind_ok, bind_from, must_ok, if_then, number_behind}
use Rattle.mysql_command_rules.proofs.Numbers.{Taken, taken_as, behind_front, bytes_behind, byte_given, byte_taken}
use Rattle.mysql_command_rules.proofs.Numbers.{little_taken}
use Rattle.mysql_command_rules.proofs.Values.{content_taken, content_given}
use Rattle.mysql_command_rules.proofs.Beside.{Said, beside_none, beside_more, beside_first, beside_others}
use Rattle.mysql_command_rules.proofs.Types.{types_taken, types_given}
use Rattle.mysql_command_rules.proofs.Executes.{id_taken, id_given, counted_types}

-- ---- columns

abbrev read : Content × List ℕ → Result (Content × List ℕ) StreamFault
read p = Ok p

column_taken : (t : ParamType) (bytes : List ℕ) (p : Content × List ℕ) → AreBytes bytes →
    column_at t bytes ≡ Ok p → Taken (IsColumn t) bytes p
column_taken t bytes p are e =
    let a = number_behind BadBulk Indicator 1 (λ n. nat_le n 1) bytes
    (λ indicator. if indicator.0 == 1 then read (content.Null, indicator.1) else content_at
    BadBulk t indicator.1) p e in
    let first = byte_taken bytes a.0 a.1 in
    let low = leb-true a.0.0 1 a.2 in
    if_then (a.0.0 == 1) (Ok (content.Null, a.0.1)) (content_at BadBulk t a.0.1) (Ok p)
    (λ t h. nothing a.0.1 (first ∙ ap (λ (n : ℕ). n ∷ a.0.1) (eqb-true a.0.0 1 t)) h)
    (λ f h.
    let not_one = eqb-false a.0.0 1 f in
    let none : a.0.0 ≡ 0 = omega (arith, low, not_one) in
    something a.0.1 (first ∙ ap (λ (n : ℕ). n ∷ a.0.1) none) h)
    a.3
  where
    nothing : (rest : List ℕ) → bytes ≡ 1 ∷ rest → read (content.Null, rest) ≡ read p → Taken (IsColumn t) bytes p
    nothing rest joined h =
        let same : (content.Null, rest) ≡ p = cc in
        taken_as (IsColumn t) bytes (
          content.Null,
          rest,
        ) p same (record { part = 1 ∷ []; joined = joined; is = manual.null })

    something : (rest : List ℕ) → bytes ≡ 0 ∷ rest → content_at BadBulk t rest ≡ Ok p → Taken (IsColumn t) bytes p
    something rest joined h =
        let taken = content_taken BadBulk t rest p (bytes_behind (0 ∷ []) rest bytes joined are) h in
        record {
          part = 0 ∷ taken.part;
          joined = joined ∙
              ap (λ (l : List ℕ). 0 ∷ l) taken.joined;
          is = manual.some taken.part taken.is;
        }

column_given : (t : ParamType) (column : List ℕ) (held : Content) (rest : List ℕ) →
    IsColumn t column held → column_at t (column ++ rest) ≡ Ok (held, rest)
column_given t column held rest manual.null = rw (byte_given 1 rest) refl
column_given t column held rest (manual.some cell is) =
    rw (byte_given 0 (cell ++ rest)) (content_given BadBulk t cell held rest is)

column_length : (t : ParamType) (column : List ℕ) (held : Content) → IsColumn t column held → 0 < length column
column_length t column held manual.null = omega arith
column_length t column held (manual.some cell is) = omega arith

-- ---- rows

-- the same of each place
abbrev columns_said : Said
columns_said = λ place. IsColumn

-- columns one after another
record AreColumns (types : Types) (part : List ℕ) (set : Set) : Type 0 where
  columns : List (List ℕ)
  each : SideBySide columns_said types columns set
  joined : part ≡ concat columns

columns_taken : (types : Types) (bytes : List ℕ) (p : Set × List ℕ) → AreBytes bytes →
    columns_at types bytes ≡ Ok p → Taken (AreColumns types) bytes p
unfolding columns_at
columns_taken [] bytes p are e =
    let same : ([], bytes) ≡ p = cc in
    taken_as (AreColumns []) bytes (
      [],
      bytes,
    ) p same (record {
      part = [];
      joined = refl;
      is =
          record { columns = []; each = beside_none columns_said; joined = refl };
    })
columns_taken (t ∷ types) bytes p are e =
    let a = bind_ok (column_at t bytes) _ p e in
    let b = bind_ok (columns_at types a.0.1) _ p a.2 in
    let first = column_taken t bytes a.0 are a.1 in
    let others = columns_taken types a.0.1 b.0 (bytes_behind first.part a.0.1 bytes first.joined are) b.1 in
    let same : (a.0.0 ∷ b.0.0, b.0.1) ≡ p = cc in
    taken_as (AreColumns (t ∷ types)) bytes (a.0.0 ∷ b.0.0, b.0.1) p same (record {
      part = first.part ++ others.part;
      joined = first.joined ∙ ap (λ (l : List ℕ). first.part ++ l) others.joined ∙
          sym (append_assoc first.part others.part b.0.1);
      is = record {
        columns = first.part ∷ others.is.columns;
        each = beside_more columns_said t types first.part others.is.columns a.0.0 b.0.0 first.is others.is.each;
        joined = ap (λ (l : List ℕ). first.part ++ l) others.is.joined;
      };
    })

columns_given : (types : Types) (columns : List (List ℕ)) (set : Set) (rest : List ℕ) →
    SideBySide columns_said types columns set → columns_at types (concat columns ++ rest) ≡
    Ok (set, rest)
unfolding columns_at
columns_given [] [] [] rest all = refl
columns_given [] [] (x ∷ set) rest all = absurd (omega (arith, all.content_count))
columns_given [] (column ∷ columns) set rest all = absurd (omega (arith, all.part_count))
columns_given (t ∷ types) [] set rest all = absurd (omega (arith, all.part_count))
columns_given (t ∷ types) (column ∷ columns) [] rest all = absurd (omega (arith, all.content_count))
columns_given (t ∷ types) (column ∷ columns) (held ∷ set) rest all =
    ap (λ (l : List ℕ). columns_at (t ∷ types) l) (append_assoc column (concat columns) rest)
    ∙ bind_from (column_at t (column ++ (concat columns ++ rest))) _ (
      held,
      concat columns ++
          rest,
    ) (Ok (held ∷ set, rest))
    (column_given t column held (concat columns ++
    rest) (beside_first columns_said t types column columns held set all))
    (bind_from (columns_at types (concat columns ++ rest)) _ (set, rest) (Ok (held ∷ set, rest))
    (columns_given types columns set rest
    (beside_others columns_said t types column columns held set all)) refl)

row_taken : (types : Types) (bytes : List ℕ) (p : Set × List ℕ) → AreBytes bytes →
    row_at types bytes ≡ Ok p → Taken (IsRow types) bytes p
row_taken [] bytes p are e = absurd cc
row_taken (t ∷ types) bytes p are e =
    let taken = columns_taken (t ∷ types) bytes p are e in
    record {
      part = taken.part;
      joined = taken.joined;
      is =
          record {
            some = omega arith;
            columns = taken.is.columns;
            each = taken.is.each;
            joined =
                taken.is.joined;
          };
    }

row_given : (types : Types) (row : List ℕ) (set : Set) (rest : List ℕ) → IsRow types row set →
    row_at types (row ++ rest) ≡ Ok (set, rest)
row_given [] row set rest is = absurd (omega (arith, is.some))
row_given (t ∷ types) row set rest is =
    ap (λ (l : List ℕ). columns_at (t ∷ types) (l ++ rest)) is.joined ∙
    columns_given (t ∷ types) is.columns set rest is.each

first_length : (types : Types) (columns : List (List ℕ)) (set : Set) → 0 < length types →
    SideBySide columns_said types columns set → 0 < length (concat columns)
first_length [] columns set some all = absurd (omega (arith, some))
first_length (t ∷ types) [] set some all = absurd (omega (arith, all.part_count))
first_length (t ∷ types) (column ∷ columns) [] some all = absurd (omega (arith, all.content_count))
first_length (t ∷ types) (column ∷ columns) (held ∷ set) some all =
    omega (
      arith,
      length-append column (concat columns),
      column_length t column held (beside_first columns_said t types column columns held set all),
    )

row_length : (types : Types) (row : List ℕ) (set : Set) → IsRow types row set → 0 < length row
row_length types row set is = omega (arith, ap length is.joined, first_length types is.columns set is.some is.each)

rows_taken : (types : Types) (sets : List Set) (bytes : List ℕ) → AreBytes bytes →
    RowsAt types bytes sets [] → (rows : List (List ℕ)) × (bytes ≡ concat rows) ×
    AllZip (IsRow types) rows sets
rows_taken types [] bytes are at = ([], at, tt)
rows_taken types (set ∷ sets) bytes are at =
    let first = row_taken types bytes (set, at.0) are at.1 in
    let others = rows_taken types sets at.0 (bytes_behind first.part at.0 bytes first.joined are) at.2 in
    (first.part ∷ others.0, first.joined ∙ ap (λ (l : List ℕ). first.part ++ l) others.1, (first.is, others.2))

rows_given : (types : Types) (rows : List (List ℕ)) (sets : List Set) →
    AllZip (IsRow types) rows sets → RowsAt types (concat rows) sets []
rows_given types [] [] all = refl
rows_given types [] (set ∷ sets) all = absurd all
rows_given types (row ∷ rows) [] all = absurd all
rows_given types (row ∷ rows) (set ∷ sets) all =
    (concat rows, row_given types row set (concat rows) all.0, rows_given types rows sets all.1)

rows_length : (types : Types) (rows : List (List ℕ)) (sets : List Set) → 0 < length rows →
    AllZip (IsRow types) rows sets → 0 < length (concat rows)
rows_length types [] sets some all = absurd (omega (arith, some))
rows_length types (row ∷ rows) [] some all = absurd all
rows_length types (row ∷ rows) (set ∷ sets) some all =
    omega (arith, length-append row (concat rows), row_length types row set all.0)

-- where bytes are left, there is a row
rows_there : (rows : List (List ℕ)) (left bytes : List ℕ) → 0 < length left → left ≡ bytes → bytes ≡
    concat rows → 0 < length rows
rows_there [] left bytes some same joined = omega (arith, some, ap length same, ap length joined)
rows_there (row ∷ rows) left bytes some same joined = omega arith

-- ---- the head

flag_cases : (f : ℕ) → are_bulk_flags f ≡ true → (f ≡ 0) ⊎ ((f ≡ 64) ⊎ ((f ≡ 128) ⊎ (f ≡ 192)))
flag_cases f test = elim (or_cases (f == 0 || f == 64 || f == 128) (f == 192) test) [
  | inr d ↦ inr (inr (inr (eqb-true f 192 d)))
  | inl abc ↦ elim (or_cases (f == 0 || f == 64) (f == 128) abc) [
    | inr c ↦ inr (inr (inl (eqb-true f 128 c)))
    | inl ab ↦ elim (or_cases (f == 0) (f == 64) ab) [
      | inr b ↦ inr (inl (eqb-true f 64 b))
      | inl a ↦ inl (eqb-true f 0 a)
    ]
  ]
]

-- the flags and the types
record HasBound (c : Statement) (body : List ℕ) (head : BulkHead) : Type 0 where
  bound : List ℕ
  joined : body ≡ little_bytes 4 c.id ++ (bound ++ head.rows)
  is : (s : StatementState) (types : Types) → option_or head.own s.types ≡ Some types → AreBulkBound c s bound types

abbrev found : BulkHead → Result BulkHead StreamFault
found head = Ok head

-- behind the flags
abbrev behind_flags : Statement → ℕ → List ℕ → Result BulkHead StreamFault
behind_flags c f rest =
    if not (contains f send_types_to_server) then found (record { own = None; rows = rest })
    else (types_at BadBulk (place_count c.query) rest >>= λ types. found
    (record { own = Some types.0; rows = types.1 }))

old_bound : (c : Statement) (body rest : List ℕ) (head : BulkHead) (results : Bool) → body ≡
    little_bytes 4 c.id ++ (little_bytes 2 (if results then 64 else 0) ++ rest) →
    found (record { own = None; rows = rest }) ≡ found head → HasBound c body head
old_bound c body rest head results joined e =
    let made : BulkHead = record { own = None; rows = rest } in
    let same : made ≡ head = cc in
    subst (λ (h : BulkHead). HasBound c body h) same
    (record {
      bound = little_bytes 2 (if results then 64 else 0);
      joined = joined;
      is =
          λ s types is. manual.kept results types is;
    })

new_bound : (c : Statement) (body rest : List ℕ) (head : BulkHead) (results : Bool) → body ≡
    little_bytes 4 c.id ++ (little_bytes 2 (if results then 192 else 128) ++ rest) →
    (types_at BadBulk (place_count c.query) rest >>= λ types. found
    (record { own = Some types.0; rows = types.1 })) ≡ found head → HasBound c body head
new_bound c body rest head results joined e =
    let a = bind_ok (types_at BadBulk (place_count c.query) rest) _ head e in
    let taken = types_taken BadBulk (place_count c.query) rest a.0 a.1 in
    let made : BulkHead = record { own = Some a.0.0; rows = a.0.1 } in
    let same : made ≡ head = cc in
    subst (λ (h : BulkHead). HasBound c body h) same (record {
      bound = little_bytes 2 (if results then 192 else 128) ++ type_bytes a.0.0;
      joined = joined ∙ ap (λ (l : List ℕ). little_bytes 4 c.id ++
          (little_bytes 2 (if results then 192 else 128) ++ l)) (taken.joined ∙
          ap (λ (l : List ℕ). l ++ a.0.1) taken.is.spelled);
      is = λ s types is. let one : a.0.0 ≡ types = cc in
          subst (λ (ts : Types). AreBulkBound c s (little_bytes 2 (if results then 192 else 128) ++
          type_bytes a.0.0) ts) one (manual.anew results a.0.0 taken.is.are);
    })

bound_taken : (c : Statement) (body : List ℕ) (head : BulkHead) → AreBytes body → bulk_head c body ≡
    Ok head → (c.id < 2 ^ 32) × HasBound c body head
unfolding bulk_head
bound_taken c body head are e =
    let a = bind_ok (id_at c body) _ head e in
    let b = number_behind BadBulk BadBulk 2 are_bulk_flags a.0 (λ flags. behind_flags c flags.0 flags.1) head a.2 in
    let id = id_taken c body a.0 are a.1 in
    let flags = little_taken 2 a.0 b.0 (bytes_behind (little_bytes 4 c.id) a.0 body id.joined are) b.1 in
    let joined : body ≡ little_bytes 4 c.id ++ (little_bytes 2 b.0.0 ++ b.0.1) = id.joined ∙
    ap (λ (l : List ℕ). little_bytes 4 c.id ++ l) flags.1 in
    (id.fits, by b.0.0 b.0.1 joined b.3 (flag_cases b.0.0 b.2))
  where
    by : (f : ℕ) (rest : List ℕ) → body ≡ little_bytes 4 c.id ++ (little_bytes 2 f ++ rest) →
        behind_flags c f rest ≡ found head → ((f ≡ 0) ⊎ ((f ≡ 64) ⊎ ((f ≡ 128) ⊎ (f ≡ 192)))) →
        HasBound c body head
    by f rest joined e (inl is) =
        old_bound c body rest head false (joined ∙
        ap (λ (g : ℕ). little_bytes 4 c.id ++ (little_bytes 2 g ++ rest)) is)
        (ap (λ (g : ℕ). behind_flags c g rest) (sym is) ∙ e)
    by f rest joined e (inr (inl is)) =
        old_bound c body rest head true (joined ∙
        ap (λ (g : ℕ). little_bytes 4 c.id ++ (little_bytes 2 g ++ rest)) is)
        (ap (λ (g : ℕ). behind_flags c g rest) (sym is) ∙ e)
    by f rest joined e (inr (inr (inl is))) =
        new_bound c body rest head false (joined ∙
        ap (λ (g : ℕ). little_bytes 4 c.id ++ (little_bytes 2 g ++ rest)) is)
        (ap (λ (g : ℕ). behind_flags c g rest) (sym is) ∙ e)
    by f rest joined e (inr (inr (inr is))) =
        new_bound c body rest head true (joined ∙
        ap (λ (g : ℕ). little_bytes 4 c.id ++ (little_bytes 2 g ++ rest)) is)
        (ap (λ (g : ℕ). behind_flags c g rest) (sym is) ∙ e)

-- the head that is read where these types count
record GivesHead (c : Statement) (s : StatementState) (body rows : List ℕ) (types : Types) : Type 0 where
  own : Option Types
  head : bulk_head c body ≡ Ok (record { own = own; rows = rows })
  types_count : option_or own s.types ≡ Some types

kept_given : (c : Statement) (results : Bool) (rows : List ℕ) → c.id < 2 ^ 32 →
    bulk_head c (little_bytes 4 c.id ++ (little_bytes 2 (if results then 64 else 0) ++ rows)) ≡
    found (record { own = None; rows = rows })
unfolding bulk_head
kept_given c true rows lt =
    rw (id_given c (little_bytes 2 64 ++ rows) lt, little-reads_back 2 64 rows (omega arith)) refl
kept_given c false rows lt =
    rw (id_given c (little_bytes 2 0 ++ rows) lt, little-reads_back 2 0 rows (omega arith)) refl

anew_given : (c : Statement) (results : Bool) (types : Types) (rows : List ℕ) → c.id < 2 ^ 32 →
    AreTypes (place_count c.query) types →
    bulk_head c (little_bytes 4 c.id ++
    (little_bytes 2 (if results then 192 else 128) ++ (type_bytes types ++ rows))) ≡
    found (record { own = Some types; rows = rows })
unfolding bulk_head
anew_given c true types rows lt are =
    rw (
      id_given c (little_bytes 2 192 ++ (type_bytes types ++ rows)) lt,
      little-reads_back 2 192 (type_bytes types ++ rows) (omega arith),
      types_given BadBulk (place_count c.query) types rows are,
    ) refl
anew_given c false types rows lt are =
    rw (
      id_given c (little_bytes 2 128 ++ (type_bytes types ++ rows)) lt,
      little-reads_back 2 128 (type_bytes types ++ rows) (omega arith),
      types_given BadBulk (place_count c.query) types rows are,
    ) refl

bound_given : (c : Statement) (s : StatementState) (bound rows : List ℕ) (types : Types) →
    c.id < 2 ^ 32 → AreBulkBound c s bound types →
    GivesHead c s (little_bytes 4 c.id ++ (bound ++ rows)) rows types
bound_given c s bound rows types lt (manual.anew results own are) =
    record { own = Some own; head = anew_given c results own rows lt are; types_count = refl }
bound_given c s bound rows types lt (manual.kept results old is) =
    record { own = None; head = kept_given c results rows lt; types_count = is }

-- ---- bulks

-- what a bulk's payload is behind its first byte
pub record HasRows (c : Statement) (s : StatementState) (body : List ℕ) (sets : List Set) : Type 0 where
  pub prepared : IsPrepared c s
  pub none_waits : is_waiting c s ≡ false
  pub places : 0 < place_count c.query
  pub bound : List ℕ
  pub rows : List (List ℕ)
  pub some : 0 < length rows
  pub types : Types
  pub are_types : AreBulkBound c s bound types
  pub are_rows : AllZip (IsRow types) rows sets
  pub joined : body ≡ little_bytes 4 c.id ++ (bound ++ concat rows)

pub bulk_taken : (c : Statement) (s : StatementState) (body : List ℕ) (sets : List Set) →
    AreBytes body → BulkReadsAs c s body sets → HasRows c s body sets
unfolding bulk_rows
bulk_taken c s body sets are reads =
    let both : Types × List ℕ = (reads.types, reads.bytes) in
    let a = bind_ok (must NotPrepared s.prepared) _ both reads.found in
    let b = bind_ok (must PiecesBeforeBulk (not (is_waiting c s))) _ both a.2 in
    let d = bind_ok (must BadBulk (nat_lt 0 (place_count c.query))) _ both b.2 in
    let head = bind_ok (bulk_head c body) _ both d.2 in
    let types = bind_ok (types_in_force c s head.0.own) _ both head.2 in
    let some = bind_ok (must NoRows (nat_lt 0 (length head.0.rows))) _ both types.2 in
    let there = ltb-true 0 (place_count c.query) (must_ok BadBulk (nat_lt 0 (place_count c.query)) d.0 d.1) in
    let (fits, bound) = bound_taken c body head.0 are head.1 in
    let same : (types.0, head.0.rows) ≡ both = cc in
    let same_types : types.0 ≡ reads.types = ap (λ (p : Types × List ℕ). p.0) same in
    let same_bytes : head.0.rows ≡ reads.bytes = ap (λ (p : Types × List ℕ). p.1) same in
    let joined : body ≡ (little_bytes 4 c.id ++ bound.bound) ++ reads.bytes = bound.joined ∙
    ap (λ (l : List ℕ). (little_bytes 4 c.id ++ bound.bound) ++ l) same_bytes in
    let rows = rows_taken reads.types sets reads.bytes
    (bytes_behind (little_bytes 4 c.id ++ bound.bound) reads.bytes body joined are)
    reads.rows in
    let no : (place_count c.query == 0) ≡ false = ne_eqb (place_count c.query) 0 (λ e. omega (arith, there, e)) in
    record {
      prepared = record { prepared = must_ok NotPrepared s.prepared a.0 a.1; id = fits };
      none_waits = not-true (is_waiting c s) (must_ok PiecesBeforeBulk (not (is_waiting c s)) b.0 b.1);
      places = there;
      bound = bound.bound;
      rows = rows.0;
      some = rows_there rows.0 head.0.rows reads.bytes
          (ltb-true 0 (length head.0.rows)
          (must_ok NoRows (nat_lt 0 (length head.0.rows)) some.0 some.1)) same_bytes rows.1;
      types = reads.types;
      are_types = bound.is s reads.types
          (counted_types c s head.0.own reads.types no (types.1 ∙
          ap (λ (ts : Types). Ok ts) same_types));
      are_rows = rows.2;
      joined = behind_front (little_bytes 4 c.id ++ bound.bound) reads.bytes (concat rows.0) body joined rows.1;
    }

-- what is read of a bulk that is laid out: its sets, and its head by which types are in force
pub record BulkReads (c : Statement) (s : StatementState) (body : List ℕ) (sets : List Set)
    (types : Types) : Type 0 where
  pub reads : BulkReadsAs c s body sets
  pub own : Option Types
  pub head : (rows : List ℕ) × (bulk_head c body ≡ Ok (record { own = own; rows = rows }))
  pub types_count : option_or own s.types ≡ Some types

pub bulk_given : (c : Statement) (s : StatementState) (bound : List ℕ) (rows : List (List ℕ))
    (types : Types) (sets : List Set) → IsPrepared c s → is_waiting c s ≡ false →
    0 < place_count c.query → 0 < length rows → AreBulkBound c s bound types →
    AllZip (IsRow types) rows sets →
    BulkReads c s (little_bytes 4 c.id ++ (bound ++ concat rows)) sets types
unfolding bulk_rows
bulk_given c s bound rows types sets is waits there some are all =
    let head = bound_given c s bound (concat rows) types is.id are in
    let no_zero : (place_count c.query == 0) ≡ false = ne_eqb (place_count c.query) 0 (λ e. omega (arith, there, e)) in
    let more = rows_length types rows sets some all in
    let prepared = is.prepared in
    record {
      reads = record {
        types = types;
        bytes = concat rows;
        found = rw (
          prepared,
          waits,
          lt-ltb 0 (place_count c.query) there,
          head.head,
          no_zero,
          head.types_count,
          lt-ltb 0 (length (concat rows)) more,
        ) refl;
        rows = rows_given types rows sets all;
      };
      own = head.own;
      head = (concat rows, head.head);
      types_count = head.types_count;
    }
