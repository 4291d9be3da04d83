-- Byte strings that are sent as long data wait for their places.
use Rattle.std.proofs.Common.{◌≡◌, ◌≢◌, ℕ, ◌+◌, ◌^◌, ◌<◌, ◌≤◌, true, List, [], ◌∷◌, ◌++◌, length, map, nat_lt, Option}
use Rattle.std.proofs.Common.{Some, None, Result, Ok, refl, ◌∙◌, ap, arith}
use Rattle.std.specs.Prelude.{if◌then◌else◌, unwrap_or}
use Rattle.std.proofs.lemmas.Bool.{eq-eqb, lt-ltb, ne_eqb}
use Rattle.std.proofs.lemmas.List.{append-nil}
use Rattle.byteorder.specs.Endian.{little_bytes}
use Rattle.mysql_const.specs.Commands.{command_number}
use Rattle.mysql_const.specs.declared.command.Command.TheVariants.{COM_STMT_SEND_LONG_DATA}
use Rattle.mysql_values.specs.Value.{Value}
use Rattle.mysql_values.specs.Value.TheVariants.{Bytes}
use Rattle.mysql_wire.specs.Wire.{◌>>=◌}
use Rattle.mysql_stmt.specs.Commands.{long_data}
use Rattle.mysql_receive.specs.declared.fault.StreamFault.{StreamFault}
use Rattle.mysql_receive.specs.declared.fault.StreamFault.TheVariants.{BadPlace, NotPrepared}
use Rattle.mysql_receive.specs.Fields.{number_or, must}
use Rattle.mysql_receive.specs.InForce.{StatementState, after, more_data, state_after, with_sent}
use Rattle.mysql_receive.specs.Layout.{PlaceData, id_at, place_data_at}
use Rattle.mysql_receive.specs.Query.{Statement, place_count}
use Rattle.mysql_receive.specs.Reading.{PayloadReadsAs, long_data_at, prepared_data}
use Rattle.mysql_command_rules.specs.Commands.{pieces_from}
use Rattle.mysql_command_rules.specs.Sent.{SentPayload, on_the_way, payloads_of}
use Rattle.mysql_command_rules.proofs.Executions.{Wait}
use Rattle.mysql_command_rules.proofs.FieldsRead.{id_front, number_front}
use Rattle.mysql_command_rules.proofs.ReadEach.{ReadFrom}
use Rattle.mysql_command_rules.proofs.Binds.{bind_from}

-- ---- a piece

-- the bytes of a place as long data
piece : ℕ → ℕ → List ℕ → List ℕ
piece id place bytes = long_data (record { stmt_id = id; place = place; bytes = bytes })

-- what stands behind the first byte of long data
body_of : ℕ → ℕ → List ℕ → List ℕ
body_of id place bytes = little_bytes 4 id ++ (little_bytes 2 place ++ bytes)

-- a piece is its first byte and what stands behind it
piece_is : (id place : ℕ) (bytes : List ℕ) → piece id place bytes ≡
    command_number COM_STMT_SEND_LONG_DATA ∷ body_of id place bytes
unfolding piece body_of long_data
piece_is id place bytes =
    ap (λ l. command_number COM_STMT_SEND_LONG_DATA ∷
    (little_bytes 4 id ++ (little_bytes 2 place ++ l))) (append-nil bytes)

-- what stands behind the first byte is read as the place and the bytes
piece_read : (c : Statement) (id place : ℕ) (bytes : List ℕ) → id < 2 ^ 32 → c.id ≡ id →
    place < 65536 → place < place_count c.query → place_data_at c (body_of id place bytes) ≡
    Ok (record { place = place; bytes = bytes })
unfolding body_of
piece_read c id place bytes small same low inside =
    bind_from (id_at c (little_bytes 4 id ++ (little_bytes 2 place ++ bytes)))
    (λ rest. number_or BadPlace 2 rest >>= λ place. must BadPlace
    (nat_lt place.0 (place_count c.query)) >>= λ known. Ok
    (record { place = place.0; bytes = place.1 }))
    (little_bytes 2 place ++ bytes) (Ok (record { place = place; bytes = bytes }))
    (id_front c id (little_bytes 2 place ++ bytes) small same)
    (bind_from (number_or BadPlace 2 (little_bytes 2 place ++ bytes))
    (λ place. must BadPlace (nat_lt place.0 (place_count c.query)) >>= λ known. Ok
    (record { place = place.0; bytes = place.1 }))
    (place, bytes) (Ok (record { place = place; bytes = bytes }))
    (number_front BadPlace 2 place bytes (omega (arith, low)))
    (ap (λ b. must BadPlace b >>= λ known. Ok (record { place = place; bytes = bytes }))
    (lt-ltb place (place_count c.query) inside)))

-- ---- what waits behind a piece

-- what is in force behind a piece for a place
data_behind : (c : Statement) (s : StatementState) (body : List ℕ) (place k : ℕ) (bytes : List ℕ) →
    place_data_at c body ≡ Ok (record { place = place; bytes = bytes })
    → (after c s (command_number COM_STMT_SEND_LONG_DATA ∷ body)).long_data k ≡ more_data s.long_data place bytes k
data_behind c s body place k bytes read = ap (λ (r : Result PlaceData StreamFault). (with_sent s r).long_data k) read

prepared_behind : (c : Statement) (s : StatementState) (body : List ℕ) (place : ℕ)
    (bytes : List ℕ) → place_data_at c body ≡ Ok (record { place = place; bytes = bytes })
    → (after c s (command_number COM_STMT_SEND_LONG_DATA ∷ body)).prepared ≡ s.prepared
prepared_behind c s body place bytes read = ap (λ (r : Result PlaceData StreamFault). (with_sent s r).prepared) read

-- a piece of another place leaves what waited
kept_by : (waiting : ℕ → Option (List ℕ)) (place k : ℕ) (bytes : List ℕ) → place ≢ k →
    more_data waiting place bytes k ≡ waiting k
kept_by waiting place k bytes other =
    ap (λ b. if b then Some (unwrap_or (waiting k) [] ++ bytes) else waiting k)
    (ne_eqb place k other)

-- where nothing waited, the bytes of a piece of this place wait
waits_by : (waiting : ℕ → Option (List ℕ)) (place : ℕ) (bytes : List ℕ) → waiting place ≡ None →
    more_data waiting place bytes place ≡ Some bytes
waits_by waiting place bytes none =
    ap (λ b. if b then Some (unwrap_or (waiting place) [] ++ bytes) else waiting place)
    (eq-eqb place place refl) ∙
    ap (λ (o : Option (List ℕ)). Some (unwrap_or o [] ++ bytes)) none

-- a piece reads as no set, and its bytes wait for its place
record AfterPiece (c : Statement) (s : StatementState) (place : ℕ) (bytes payload : List ℕ) : Type 0 where
  reads : PayloadReadsAs c s payload []
  prepared : (after c s payload).prepared ≡ true
  kept : (k : ℕ) → place ≢ k → (after c s payload).long_data k ≡ s.long_data k
  waits : s.long_data place ≡ None → (after c s payload).long_data place ≡ Some bytes

-- ---- pieces

-- pieces read as no set, and so much waits behind them for each of the values, as before for the places before theirs
pub record AfterPieces (c : Statement) (s : StatementState) (place : ℕ) (values : List Value)
    (sent : List SentPayload) : Type 0 where
  pub reads : ReadFrom c s sent
  pub prepared : (state_after c s (payloads_of sent)).prepared ≡ true
  pub kept : (k : ℕ) → k < place → (state_after c s (payloads_of sent)).long_data k ≡ s.long_data k
  pub waits : Wait (state_after c s (payloads_of sent)).long_data place true values

module _ (c : Statement) (id : ℕ) (small : id < 2 ^ 32) (same : c.id ≡ id) where
  -- what stands behind the first byte reads as no set
  body_reads : (s : StatementState) (place : ℕ) (bytes : List ℕ) → s.prepared ≡ true →
      place < 65536 → place < place_count c.query → long_data_at c s (body_of id place bytes) ≡
      Ok []
  unfolding long_data_at prepared_data
  body_reads s place bytes prepared low inside =
      let read : place_data_at c (body_of id place bytes) ≡
      Ok (record { place = place; bytes = bytes }) =
      piece_read c id place bytes small same low inside in
      bind_from (must NotPrepared s.prepared >>= λ known. place_data_at c (body_of id place bytes))
      (λ piece. Ok []) (record { place = place; bytes = bytes }) (Ok [])
      (bind_from (must NotPrepared s.prepared) (λ known. place_data_at c (body_of id place bytes)) 0
      (Ok (record { place = place; bytes = bytes })) (ap (λ b. must NotPrepared b) prepared)
      read) refl

  -- a piece by its bytes
  plain_piece : (s : StatementState) (place : ℕ) (bytes : List ℕ) → s.prepared ≡ true →
      place < 65536 → place < place_count c.query
      → AfterPiece c s place bytes (command_number COM_STMT_SEND_LONG_DATA ∷ body_of id place bytes)
  plain_piece s place bytes prepared low inside =
      let read : place_data_at c (body_of id place bytes) ≡
      Ok (record { place = place; bytes = bytes }) =
      piece_read c id place bytes small same low inside in
      record {
        reads = body_reads s place bytes prepared low inside;
        prepared = prepared_behind c s (body_of id place bytes) place bytes read ∙ prepared;
        kept = λ k other. data_behind c s (body_of id place bytes) place k bytes read ∙
            kept_by s.long_data place k bytes other;
        waits = λ none. data_behind c s (body_of id place bytes) place place bytes read ∙
            waits_by s.long_data place bytes none;
      }

  -- a piece of a place that the query has
  after_long_data : (s : StatementState) (place : ℕ) (bytes : List ℕ) → s.prepared ≡ true →
      place < 65536 → place < place_count c.query →
      AfterPiece c s place bytes (piece id place bytes)
  after_long_data s place bytes prepared low inside =
      rw (piece_is id place bytes) (plain_piece s place bytes prepared low inside)

  -- behind a piece for each byte string, from a state in which nothing waits for the places of the values
  pub after_pieces : (s : StatementState) (place : ℕ) (values : List Value) → s.prepared ≡ true →
      ((k : ℕ) → place ≤ k → s.long_data k ≡ None) → place + length values ≤ 65536 →
      place + length values ≤ place_count c.query
      → AfterPieces c s place values (map on_the_way (pieces_from id place values))
  unfolding pieces_from piece
  after_pieces s place [] prepared none low inside =
      record { reads = tt; prepared = prepared; kept = λ k below. refl; waits = tt }
  after_pieces s place (Bytes bytes ∷ values) prepared none low inside =
      let t : StatementState = after c s (piece id place bytes) in
      let first : AfterPiece c s place bytes (piece id place bytes) =
      after_long_data s place bytes prepared (omega arith) (omega arith) in
      let later : AfterPieces c t (place + 1) values (map on_the_way (pieces_from id (place + 1) values)) =
      after_pieces t (place + 1) values first.prepared (λ k above. first.kept k (omega arith) ∙
      none k (omega arith)) (omega arith) (omega arith) in
      record {
        reads = (first.reads, later.reads);
        prepared = later.prepared;
        kept = λ k below. later.kept k (omega arith) ∙ first.kept k (omega arith);
        waits = (later.kept place (omega arith) ∙ first.waits (none place (omega arith)), later.waits);
      }
  after_pieces s place (value ∷ values) prepared none low inside =
      let later : AfterPieces c s (place + 1) values (map on_the_way (pieces_from id (place + 1) values)) =
      after_pieces s (place + 1) values prepared (λ k above. none k (omega arith)) (omega arith) (omega arith) in
      record {
        reads = later.reads;
        prepared = later.prepared;
        kept = λ k below. later.kept k (omega arith);
        waits = (later.kept place (omega arith) ∙ none place (omega arith), later.waits);
      }
