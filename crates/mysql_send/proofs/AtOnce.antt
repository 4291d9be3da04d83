-- Sets whose rows one bulk request holds.
use Rattle.std.proofs.Common.{◌≡◌, ℕ, ◌+◌, ◌*◌, ◌<◌, ◌≤◌, Bool, true, List, [], ◌∷◌, ◌++◌, length, map, take, drop}
use Rattle.std.proofs.Common.{Option, None, Result, Ok, Err, refl, sym, ◌∙◌, ap, arith, append_assoc, length-append}
use Rattle.std.specs.Prelude.{IfOk}
use Rattle.std.specs.List.{flat_map}
use Rattle.std.specs.Option.{option_map}
use Rattle.std.proofs.lemmas.List.{drop_at, take_all, take_at}
use Rattle.byteorder.specs.Endian.{little_bytes}
use Rattle.byteorder.specs.Numbers.{length-bytes_low_first}
use Rattle.mysql_wire.specs.Framing.{framing}
use Rattle.mysql_values.specs.declared.params.Params.{Params}
use Rattle.mysql_bulk_builder.specs.Bulk.{bulk_command, param_type_bytes}
use Rattle.mysql_bulk_builder.specs.Causes.{first_some, mixed_kinds, row_too_large}
use Rattle.mysql_bulk_builder.specs.Cut.{Row, rows_size}
use Rattle.mysql_bulk_builder.specs.KindLaws.{WholeHasNoneTooLarge}
use Rattle.mysql_bulk_builder.specs.TypedCut.{Part, Typed}
use Rattle.mysql_bulk_builder.specs.TypedRequests.{typing_of}
use Rattle.mysql_bulk_builder.specs.TypedCutLaws.{WholeIsTight}
use Rattle.mysql_bulk_builder.specs.ValueTypes.{first_values}
use Rattle.mysql_command_rules.specs.declared.refusal.Refusal.TheVariants as refusals
use Rattle.mysql_command_rules.specs.Commands.{bulk_request}
use Rattle.mysql_command_rules.specs.Laws.{RequestsHaveTheirSize}
use Rattle.mysql_command_rules.specs.Sets.{given_by, given_up_to}
use Rattle.mysql_send.specs.BulkSets.{AppendsAll, AppendsRows, front_bytes, request_flags, request_types, row_bytes}
use Rattle.mysql_send.specs.BulkSets.{types_by}
use Rattle.mysql_send.proofs.RequestBytes.{command_is}
use Rattle.mysql_send.proofs.SentRequests.{types_are}
use Rattle.mysql_send.proofs.SetRows.{RowsSoFar}
use Rattle.mysql_send.specs.Executions.{Limits}
use Rattle.mysql_send.proofs.Lists.{one_framed}

-- what holds where both answers are yes
pub both_yes : {E P Q R : Type 0} (answer : Result Bool E) → (P → Q → R) →
    IfOk answer (λ yes. yes ≡ true → P) → IfOk answer (λ yes. yes ≡ true → Q) →
    IfOk answer (λ yes. yes ≡ true → R)
both_yes (Ok b) step one two = λ yes. step (one yes) (two yes)
both_yes (Err e) step one two = tt

-- ---- row by row

-- so many sets gave rows, which were appended, and no column of them mixes kinds
pub record AtOnce (names : List (List ℕ)) (limits : Limits) (sets : List Params) (i : ℕ)
    (firsts : Row) (old new : List ℕ) : Type 0 where
  pub rows : List Row
  pub given : RowsSoFar names limits sets rows i
  pub one_kind : mixed_kinds rows ≡ None
  pub firsts_are : firsts ≡ first_values limits.places rows
  pub bytes : new ≡ old ++ flat_map row_bytes rows

-- ---- one request

-- the part that takes all rows
abbrev pub whole : List Row → Part
whole rows = record { typing = Typed; count = length rows }

-- neither cause holds
neither : (mixed : Option (ℕ × ℕ)) (large : Option ℕ) → mixed ≡ None → large ≡ None →
    first_some (option_map (λ at. refusals.MixedKinds at.0 at.1) mixed ∷
    option_map (λ set. refusals.RowTooLarge set) large ∷ []) ≡ None
neither mixed large none nor = rw (none, nor) refl

-- the request of all rows
whole_request : (id columns : ℕ) (rows : List Row) (firsts : Row) → firsts ≡
    first_values columns rows → front_bytes id true firsts ++ flat_map row_bytes rows ≡
    bulk_request id columns rows 0 Typed (length rows)
whole_request id columns rows firsts are =
    let all : rows ≡ take (0 + length rows) rows = sym (take_all (0 + length rows) rows (omega arith)) in
    let these : rows ≡ take (length rows) (drop 0 rows) = sym (take_all (length rows) rows (omega arith)) in
    command_is id true firsts rows
    ∙ ap (λ (l : Row). bulk_command id (request_flags Typed) (types_by true l) rows) are
    ∙ ap (λ types. bulk_command id (request_flags Typed) types rows) (types_are true columns rows)
    ∙ ap (λ (l : List Row). bulk_command id (request_flags Typed) (request_types Typed columns l) rows) all
    ∙ ap (λ (l : List Row). bulk_command id (request_flags Typed)
    (request_types Typed columns (take (0 + length rows) rows)) l) these

-- rows that are there
some_rows : (names : List (List ℕ)) (sets : List Params) (rows : List Row) →
    map (given_by names) sets ≡ map Ok rows → 0 < length sets → 0 < length rows
some_rows names [] rows gives some = absurd (omega arith)
some_rows names (params ∷ sets) [] gives some = absurd cc
some_rows names (params ∷ sets) (row ∷ rows) gives some = omega arith

-- the request of all sets was appended
pub all_appended : RequestsHaveTheirSize → WholeIsTight → WholeHasNoneTooLarge →
    (id : ℕ) (limits : Limits) (names : List (List ℕ)) (sets : List Params) (firsts : Row)
    (mid out old new : List ℕ) → 0 < length sets →
    (a : AppendsRows limits (given_up_to sets None names) firsts mid out) →
    length (front_bytes id true firsts ++ flat_map row_bytes a.rows) ≤ limits.bytes → new ≡
    old ++ framing (front_bytes id true firsts ++ flat_map row_bytes a.rows) 0 →
    AppendsAll id limits (given_up_to sets None names) old new
all_appended sizes tight none_large id limits names sets firsts mid out old new some a short put =
    let is : front_bytes id true firsts ++ flat_map row_bytes a.rows ≡
    bulk_request id limits.places a.rows 0 Typed (length a.rows) =
    whole_request id limits.places a.rows firsts a.firsts_are in
    let fits : 7 + 2 * limits.places + rows_size a.rows 0 (length a.rows) ≤ limits.bytes =
    omega (arith, short, ap length is, sizes id limits.places a.rows 0 Typed (length a.rows)) in
    record {
      rows = a.rows;
      gives = a.gives;
      sent = record {
        none = neither (mixed_kinds a.rows) (row_too_large limits.bytes limits.places a.rows)
            a.one_kind (none_large limits.bytes limits.places a.rows fits);
        cut = whole a.rows ∷ [];
        tight = tight limits.bytes limits.places a.rows (some_rows names sets a.rows a.gives.gives some) fits;
        appended = one_framed old new (bulk_request id limits.places a.rows 0 Typed (length a.rows))
            (put ∙ ap (λ l. old ++ framing l 0) is);
      };
    }

-- ---- what is written last

-- two bytes for each type
types_length : (firsts : Row) → length (flat_map param_type_bytes (types_by true firsts)) ≡ 2 * length firsts
types_length [] = refl
types_length (first ∷ firsts) = omega (arith, types_length firsts)

-- the bytes that stand before the rows
pub front_length : (id : ℕ) (firsts : Row) → length (front_bytes id true firsts) ≡ 7 + 2 * length firsts
front_length id firsts =
    let types = flat_map param_type_bytes (types_by true firsts) in
    omega (
      arith,
      length-append (little_bytes 4 id)
          (little_bytes 2 (request_flags (typing_of true)) ++ types),
      length-append (little_bytes 2 (request_flags (typing_of true))) types,
      length-bytes_low_first 0 4 id,
      length-bytes_low_first 0 2 0x80,
      types_length firsts,
    )

-- the front is written over as many bytes
pub front_written : (start n : ℕ) (bytes front out new : List ℕ) → bytes ≡ front → length front ≡
    n → new ≡ take start out ++ (bytes ++ drop (start + length bytes) out) → new ≡ take start out ++
    (front ++ drop (start + n) out)
front_written start n bytes front out new is len put =
    put ∙ ap (λ l. take start out ++ (l ++ drop (start + length l) out)) is ∙
    ap (λ k. take start out ++ (front ++ drop (start + k) out)) len

module _ (start n : ℕ) (old blank rows out : List ℕ) (is_start : start ≡
    length old) (room : length blank ≡ n) (are : out ≡ (old ++ blank) ++ rows) where
  -- how long it is
  pub length_behind : length out ≡ start + n + length rows
  length_behind = omega (
    arith,
    is_start,
    room,
    ap length are,
    length-append (old ++ blank) rows,
    length-append old blank,
  )

  -- what stood before it
  pub before_room : take start out ≡ old
  before_room = ap (λ l. take start l) (are ∙ append_assoc old blank rows) ∙
      take_at old (blank ++ rows) start (sym is_start)

  -- the rows stand behind it
  pub behind_room : drop (start + n) out ≡ rows
  behind_room = ap (λ l. drop (start + n) l) are ∙
      drop_at (old ++ blank) rows (start + n)
      (omega (arith, is_start, room, length-append old blank))

  -- the request is finished
  pub finished : (new front : List ℕ) → new ≡ take start out ++
      framing (front ++ drop (start + n) out) 0 → new ≡ old ++ framing (front ++ rows) 0
  finished new front put = put ∙
      ap (λ l. l ++ framing (front ++ drop (start + n) out) 0) before_room ∙
      ap (λ l. old ++ framing (front ++ l) 0) behind_room
