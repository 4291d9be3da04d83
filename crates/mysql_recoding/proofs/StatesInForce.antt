-- What is in force behind payloads of bytes: a type for each placeholder, and long data that are bytes.
use Rattle.std.proofs.Common.{◌≡◌, ℕ, zero, suc, ◌+◌, ◌/◌, Bool, true, false, List, [], ◌∷◌, ◌++◌, length, Option, Some}
use Rattle.std.proofs.Common.{None, Result, Ok, Err, if◌then◌else◌, refl, ap, subst}
use Rattle.std.specs.Prelude.{◌==◌, ◌||◌, nat_le, nat_lt, not, unwrap_or}
use Rattle.std.specs.Int.RustNames.{bit_and}
use Rattle.std.specs.Option.{option_and_then, option_or}
use Rattle.std.specs.Result.{result_ok}
use Rattle.mysql_wire.specs.Bytes.{AreBytes}
use Rattle.mysql_wire.specs.Reading as buffer
use Rattle.mysql_wire.specs.Wire.{◌>>=◌}
use Rattle.mysql_receive.specs.declared.fault.StreamFault.{StreamFault}
use Rattle.mysql_receive.specs.declared.fault.StreamFault.TheVariants.{BadBulk, BadExecute, BadPlace, BadType, WrongId}
use Rattle.mysql_receive.specs.declared.param_type.ParamType.{ParamType}
use Rattle.mysql_receive.specs.Fields.{bytes_or, number_or, must}
use Rattle.mysql_receive.specs.Query.{Statement, place_count}
use Rattle.mysql_receive.specs.Layout.{BulkHead, Command, ExecuteHead, PlaceData, Types, are_bulk_flags, binding_at}
use Rattle.mysql_receive.specs.Layout.{bulk_head, command_of, execute_head, id_at, is_type, place_data_at}
use Rattle.mysql_receive.specs.Layout.{send_types_to_server, type_at, types_at}
use Rattle.mysql_receive.specs.Layout as layout
use Rattle.mysql_receive.specs.InForce.{StatementState, after, after_command, bulk_types, execute_types, more_data}
use Rattle.mysql_receive.specs.InForce.{nothing_yet, with_sent}
use Rattle.mysql_recoding.proofs.ByteLists.{bytes_append, bytes_tail}
use Rattle.mysql_recoding.proofs.CarriedCells.{Leaves, bind_ok, bytes_leave, leaves, number_leaves, ok_same, read}
use Rattle.mysql_recoding.proofs.CarriedCells.{some_is, some_same}

-- ---- fields

pub number_rest : (f : StreamFault) (n : ℕ) (bytes : List ℕ) (p : ℕ × List ℕ) → AreBytes bytes →
    number_or f n bytes ≡ Ok p → AreBytes p.1
number_rest f n bytes p h e = (number_leaves n bytes p h (some_is (buffer.little_at n bytes) f p e)).1

bytes_rest : (f : StreamFault) (n : ℕ) (bytes : List ℕ) (p : List ℕ × List ℕ) → AreBytes bytes →
    bytes_or f n bytes ≡ Ok p → AreBytes p.1
bytes_rest f n bytes p h e = (bytes_leave n bytes p h (some_is (buffer.bytes_at n bytes) f p e)).1

id_rest : (c : Statement) (bytes rest : List ℕ) → AreBytes bytes → id_at c bytes ≡ Ok rest → AreBytes rest
id_rest c bytes rest h e =
    let a = bind_ok (number_or WrongId 4 bytes) (λ id. must WrongId (id.0 == c.id) >>= λ _. Ok id.1) rest e in
    let b = bind_ok (must WrongId (a.0.0 == c.id)) (λ _. Ok a.0.1) rest a.2 in
    subst AreBytes (ok_same {F = StreamFault} a.0.1 rest b.2) (number_rest WrongId 4 bytes a.0 h a.1)

-- ---- types

-- there are so many of these types
abbrev pub HasCount : ℕ → Types → Type 0
HasCount n types = length types ≡ n

left_bytes : (t : ParamType) (rest : List ℕ) (p : ParamType × List ℕ) → AreBytes rest →
    read {F = StreamFault} (t, rest) ≡ read p → AreBytes p.1
left_bytes t rest p h e = subst (λ (q : ParamType × List ℕ). AreBytes q.1) (ok_same {F = StreamFault} (t, rest) p e) h

type_rest : (short : StreamFault) (bytes : List ℕ) (p : ParamType × List ℕ) → AreBytes bytes →
    type_at short bytes ≡ Ok p → AreBytes p.1
type_rest short bytes p h e =
    let a = bind_ok (number_or short 1 bytes)
    (λ t. must BadType (is_type t.0) >>= λ _. number_or short 1 t.1 >>= λ flags. flagged t.0
    flags) p e in
    let b = bind_ok (must BadType (is_type a.0.0))
    (λ _. number_or short 1 a.0.1 >>= λ flags. flagged a.0.0 flags) p a.2 in
    let d = bind_ok (number_or short 1 a.0.1) (λ flags. flagged a.0.0 flags) p b.2 in
    let g = bind_ok (must BadType (d.0.0 == 0 || d.0.0 == 128))
    (λ _. Ok (record { number = a.0.0; unsigned = d.0.0 == 128 }, d.0.1)) p d.2 in
    left_bytes (record { number = a.0.0; unsigned = d.0.0 == 128 }) d.0.1 p
    (number_rest short 1 a.0.1 d.0 (number_rest short 1 bytes a.0 h a.1) d.1) g.2
  where
    flagged : ℕ → ℕ × List ℕ → Result (ParamType × List ℕ) StreamFault
    flagged number flags = must BadType (flags.0 == 0 || flags.0 == 128) >>= λ _. Ok
        (record { number = number; unsigned = flags.0 == 128 }, flags.1)

types_leave : (short : StreamFault) (n : ℕ) (bytes : List ℕ) (p : Types × List ℕ) → AreBytes bytes →
    types_at short n bytes ≡ Ok p → Leaves (HasCount n) p
unfolding types_at
types_leave short zero bytes p h e = leaves {F = StreamFault} (HasCount zero) [] bytes p refl h e
types_leave short (suc n) bytes p h e =
    let a = bind_ok (type_at short bytes)
    (λ first. types_at short n first.1 >>= λ others. Ok (first.0 ∷ others.0, others.1)) p e in
    let b = bind_ok (types_at short n a.0.1) (λ others. Ok (a.0.0 ∷ others.0, others.1)) p a.2 in
    let later = types_leave short n a.0.1 b.0 (type_rest short bytes a.0 h a.1) b.1 in
    leaves {F = StreamFault} (HasCount (suc n)) (a.0.0 ∷ b.0.0) b.0.1 p (ap (λ k. suc k) later.0) later.1 b.2

-- ---- heads

-- so many types, if any
abbrev pub OwnCount : ℕ → Option Types → Type 0
OwnCount n own = (types : Types) → own ≡ Some types → HasCount n types

none_own : (n : ℕ) → OwnCount n None
none_own n types e = absurd cc

some_own : (n : ℕ) (types : Types) → HasCount n types → OwnCount n (Some types)
some_own n types h others e = subst (HasCount n) (some_same types others e) h

pub record IsHead (n : ℕ) (own : Option Types) (rest : List ℕ) : Type 0 where
  pub own_count : OwnCount n own
  pub rest_bytes : AreBytes rest

binding_head : (n : ℕ) (bytes : List ℕ) (head : ExecuteHead) → AreBytes bytes → binding_at n bytes ≡
    Ok head → IsHead n head.own head.cells
unfolding binding_at
binding_head n bytes head h e =
    let a = bind_ok (bytes_or BadExecute ((n + 7) / 8) bytes)
    (λ nulls. number_or BadExecute 1 nulls.1 >>= λ bound. must BadExecute (nat_le bound.0 1) >>=
    λ _. bound_as nulls.0 (bound.0 == 0) bound.1) head e in
    let b = bind_ok (number_or BadExecute 1 a.0.1)
    (λ bound. must BadExecute (nat_le bound.0 1) >>= λ _. bound_as a.0.0 (bound.0 == 0) bound.1)
    head a.2 in
    let d = bind_ok (must BadExecute (nat_le b.0.0 1)) (λ _. bound_as a.0.0 (b.0.0 == 0) b.0.1) head b.2 in
    by a.0.0 (b.0.0 == 0) b.0.1
    (number_rest BadExecute 1 a.0.1 b.0 (bytes_rest BadExecute ((n + 7) / 8) bytes a.0 h a.1)
    b.1) d.2
  where
    bound_as : List ℕ → Bool → List ℕ → Result ExecuteHead StreamFault
    bound_as nulls none rest =
        if none then Ok (record { nulls = nulls; own = None; cells = rest }) else
        (types_at BadExecute n rest >>= λ types. Ok
        (record { nulls = nulls; own = Some types.0; cells = types.1 }))

    by : (nulls : List ℕ) (none : Bool) (rest : List ℕ) → AreBytes rest → bound_as nulls none rest ≡
        Ok head → IsHead n head.own head.cells
    by nulls true rest k f =
        subst (λ (x : ExecuteHead). IsHead n x.own x.cells)
        (ok_same {F = StreamFault} (record { nulls = nulls; own = None; cells = rest }) head f)
        (record { own_count = none_own n; rest_bytes = k })
    by nulls false rest k f =
        let a = bind_ok (types_at BadExecute n rest)
        (λ types. Ok (record { nulls = nulls; own = Some types.0; cells = types.1 })) head f in
        let b = types_leave BadExecute n rest a.0 k a.1 in
        subst (λ (x : ExecuteHead). IsHead n x.own x.cells)
        (ok_same {F = StreamFault} (record { nulls = nulls; own = Some a.0.0; cells = a.0.1 })
        head a.2) (record { own_count = some_own n a.0.0 b.0; rest_bytes = b.1 })

pub execute_is_head : (c : Statement) (body : List ℕ) (head : ExecuteHead) → AreBytes body →
    execute_head c body ≡ Ok head → IsHead (place_count c.query) head.own head.cells
unfolding execute_head
execute_is_head c body head h e =
    let a = bind_ok (id_at c body)
    (λ rest. number_or BadExecute 1 rest >>= λ cursor. must BadExecute (cursor.0 == 0) >>= λ _.
    number_or BadExecute 4 cursor.1 >>= λ count. counted count) head e in
    let b = bind_ok (number_or BadExecute 1 a.0)
    (λ cursor. must BadExecute (cursor.0 == 0) >>= λ _. number_or BadExecute 4 cursor.1 >>=
    λ count. counted count) head a.2 in
    let d = bind_ok (must BadExecute (b.0.0 == 0))
    (λ _. number_or BadExecute 4 b.0.1 >>= λ count. counted count) head b.2 in
    let g = bind_ok (number_or BadExecute 4 b.0.1) (λ count. counted count) head d.2 in
    let k = bind_ok (must BadExecute (g.0.0 == 1)) (λ _. bound (place_count c.query == 0) g.0.1) head g.2 in
    let cursor = number_rest BadExecute 1 a.0 b.0 (id_rest c body a.0 h a.1) b.1 in
    by (place_count c.query == 0) g.0.1 (number_rest BadExecute 4 b.0.1 g.0 cursor g.1) k.2
  where
    bound : Bool → List ℕ → Result ExecuteHead StreamFault
    bound none rest = if none then Ok (record { nulls = []; own = None; cells = rest }) else
        binding_at (place_count c.query) rest

    counted : ℕ × List ℕ → Result ExecuteHead StreamFault
    counted count = must BadExecute (count.0 == 1) >>= λ _. bound (place_count c.query == 0) count.1

    by : (none : Bool) (rest : List ℕ) → AreBytes rest → bound none rest ≡ Ok head →
        IsHead (place_count c.query) head.own head.cells
    by true rest k f =
        subst (λ (x : ExecuteHead). IsHead (place_count c.query) x.own x.cells)
        (ok_same {F = StreamFault} (record { nulls = []; own = None; cells = rest }) head f)
        (record { own_count = none_own (place_count c.query); rest_bytes = k })
    by false rest k f = binding_head (place_count c.query) rest head k f

-- no types are sent
abbrev untyped : ℕ → Bool
untyped flags = not (bit_and flags send_types_to_server == send_types_to_server)

pub bulk_is_head : (c : Statement) (body : List ℕ) (head : BulkHead) → AreBytes body →
    bulk_head c body ≡ Ok head → IsHead (place_count c.query) head.own head.rows
unfolding bulk_head
bulk_is_head c body head h e =
    let a = bind_ok (id_at c body) (λ rest. number_or BadBulk 2 rest >>= λ flags. flagged flags) head e in
    let b = bind_ok (number_or BadBulk 2 a.0) (λ flags. flagged flags) head a.2 in
    let d = bind_ok (must BadBulk (are_bulk_flags b.0.0)) (λ _. typed (untyped b.0.0) b.0.1) head b.2 in
    by (untyped b.0.0) b.0.1 (number_rest BadBulk 2 a.0 b.0 (id_rest c body a.0 h a.1) b.1) d.2
  where
    typed : Bool → List ℕ → Result BulkHead StreamFault
    typed none rest = if none then Ok (record { own = None; rows = rest }) else
        (types_at BadBulk (place_count c.query) rest >>= λ types. Ok
        (record { own = Some types.0; rows = types.1 }))

    flagged : ℕ × List ℕ → Result BulkHead StreamFault
    flagged flags = must BadBulk (are_bulk_flags flags.0) >>= λ _. typed (untyped flags.0) flags.1

    by : (none : Bool) (rest : List ℕ) → AreBytes rest → typed none rest ≡ Ok head →
        IsHead (place_count c.query) head.own head.rows
    by true rest k f =
        subst (λ (x : BulkHead). IsHead (place_count c.query) x.own x.rows)
        (ok_same {F = StreamFault} (record { own = None; rows = rest }) head f)
        (record { own_count = none_own (place_count c.query); rest_bytes = k })
    by false rest k f =
        let a = bind_ok (types_at BadBulk (place_count c.query) rest)
        (λ types. Ok (record { own = Some types.0; rows = types.1 })) head f in
        let b = types_leave BadBulk (place_count c.query) rest a.0 k a.1 in
        subst (λ (x : BulkHead). IsHead (place_count c.query) x.own x.rows)
        (ok_same {F = StreamFault} (record { own = Some a.0.0; rows = a.0.1 }) head a.2)
        (record { own_count = some_own (place_count c.query) a.0.0 b.0; rest_bytes = b.1 })

-- ---- types and long data behind a command

-- those of a head, where it has any
head_types : {Head : Type 0} (n : ℕ) (own : Head → Option Types) (r : Result Head StreamFault) →
    ((head : Head) → r ≡ Ok head → OwnCount n (own head)) →
    OwnCount n (option_and_then own (result_ok r))
head_types n own (Err f) each = none_own n
head_types n own (Ok head) each = each head refl

-- and else those before
own_or : (n : ℕ) (own before : Option Types) → OwnCount n own → OwnCount n before → OwnCount n (option_or own before)
own_or n None before h k = k
own_or n (Some types) before h k = h

-- the data that are sent are bytes
sent_bytes : (c : Statement) (body : List ℕ) (sent : PlaceData) → AreBytes body →
    place_data_at c body ≡ Ok sent → AreBytes sent.bytes
sent_bytes c body sent h e =
    let a = bind_ok (id_at c body)
    (λ rest. number_or BadPlace 2 rest >>= λ place. must BadPlace
    (nat_lt place.0 (place_count c.query)) >>= λ _. Ok
    (record { place = place.0; bytes = place.1 })) sent e in
    let b = bind_ok (number_or BadPlace 2 a.0)
    (λ place. must BadPlace (nat_lt place.0 (place_count c.query)) >>= λ _. Ok
    (record { place = place.0; bytes = place.1 })) sent a.2 in
    let d = bind_ok (must BadPlace (nat_lt b.0.0 (place_count c.query)))
    (λ _. Ok (record { place = b.0.0; bytes = b.0.1 })) sent b.2 in
    subst (λ (x : PlaceData). AreBytes x.bytes)
    (ok_same {F = StreamFault} (record { place = b.0.0; bytes = b.0.1 }) sent d.2)
    (number_rest BadPlace 2 a.0 b.0 (id_rest c body a.0 h a.1) b.1)

-- what waits for each place are bytes
abbrev WaitAsBytes : (ℕ → Option (List ℕ)) → Type 0
WaitAsBytes waiting = (place : ℕ) (data_bytes : List ℕ) → waiting place ≡ Some data_bytes → AreBytes data_bytes

more_waits : (waiting : ℕ → Option (List ℕ)) (place : ℕ) (bytes : List ℕ) → AreBytes bytes →
    WaitAsBytes waiting → WaitAsBytes (more_data waiting place bytes)
more_waits waiting place bytes are wait other data_bytes e = by (place == other) (waiting other) (wait other) e
  where
    by : (t : Bool) (o : Option (List ℕ)) → ((x : List ℕ) → o ≡ Some x → AreBytes x) →
        (if t then Some (unwrap_or o [] ++ bytes) else o) ≡ Some data_bytes → AreBytes data_bytes
    by true None h f = subst AreBytes (some_same ([] ++ bytes) data_bytes f) are
    by true (Some x) h f = subst AreBytes (some_same (x ++ bytes) data_bytes f) (bytes_append x bytes (h x refl) are)
    by false o h f = h data_bytes f

-- the types in force are as many as the placeholders, and the long data that wait are bytes
pub record IsInForce (c : Statement) (s : StatementState) : Type 0 where
  pub types : OwnCount (place_count c.query) s.types
  pub long_data : WaitAsBytes s.long_data

pub nothing_in_force : (c : Statement) → IsInForce c nothing_yet
nothing_in_force c = record { types = none_own (place_count c.query); long_data = λ place data_bytes e. absurd cc }

sent_stays : (c : Statement) (s : StatementState) (body : List ℕ)
    (r : Result PlaceData StreamFault) → place_data_at c body ≡ r → AreBytes body → IsInForce c s →
    IsInForce c (with_sent s r)
sent_stays c s body (Err f) e h is = is
sent_stays c s body (Ok sent) e h is =
    record {
      types = is.types;
      long_data =
          more_waits s.long_data sent.place sent.bytes (sent_bytes c body sent h e) is.long_data;
    }

command_stays : (c : Statement) (s : StatementState) (k : Command) (body : List ℕ) → AreBytes body →
    IsInForce c s → IsInForce c (after_command c s k body)
command_stays c s layout.Text body h is = is
command_stays c s layout.Prepare body h is =
    record { types = none_own (place_count c.query); long_data = λ place data_bytes e. absurd cc }
command_stays c s layout.LongData body h is = sent_stays c s body (place_data_at c body) refl h is
command_stays c s layout.Execute body h is = record {
  types = own_or (place_count c.query) (execute_types c body) s.types
      (head_types (place_count c.query) (λ (head : ExecuteHead). head.own) (execute_head c body)
      (λ head e. (execute_is_head c body head h e).own_count)) is.types;
  long_data = λ place data_bytes e. absurd cc;
}
command_stays c s layout.Bulk body h is = record {
  types = own_or (place_count c.query) (bulk_types c body) s.types
      (head_types (place_count c.query) (λ (head : BulkHead). head.own) (bulk_head c body)
      (λ head e. (bulk_is_head c body head h e).own_count)) is.types;
  long_data = is.long_data;
}
command_stays c s layout.Reset body h is = record { types = is.types; long_data = λ place data_bytes e. absurd cc }
command_stays c s layout.Close body h is = nothing_in_force c
command_stays c s layout.Other body h is = is

-- a payload of bytes keeps it so
pub stays_in_force : (c : Statement) (s : StatementState) (payload : List ℕ) → AreBytes payload →
    IsInForce c s → IsInForce c (after c s payload)
stays_in_force c s [] h is = is
stays_in_force c s (b ∷ body) h is = command_stays c s (command_of b) body (bytes_tail b body h) is
