-- What the bytes of a bulk request are made of.
use Rattle.std.proofs.Common.{◌≡◌, ℕ, ◌≤◌, Bool, true, false, List, [], ◌∷◌, ◌++◌, length, map, take, Result, Ok, Err}
use Rattle.std.proofs.Common.{refl, sym, ◌∙◌, ap, append_assoc, Bor}
use Rattle.std.specs.Prelude.{OnOk}
use Rattle.std.specs.List.{flat_map}
use Rattle.std.proofs.lemmas.List.{append-nil, map-append, take_all}
use Rattle.std.proofs.lemmas.List.Folds.{flat_map-map}
use Rattle.std.proofs.lemmas.Grind.{flat_map-append}
use Rattle.byteorder.specs.Endian.{little_bytes}
use Rattle.mysql_values.specs.Value.{Value}
use Rattle.mysql_bulk_builder.specs.Bulk.{all_values, bulk_command, bulk_execution, param_type_bytes, param_value_bytes}
use Rattle.mysql_bulk_builder.specs.Bulk.{param_value_of, type_of_value}
use Rattle.mysql_bulk_builder.specs.Cut.{Row}
use Rattle.mysql_bulk_builder.specs.RowLists.{row_in, rows_in}
use Rattle.mysql_bulk_builder.specs.TypedRequests.{typing_of}
use Rattle.mysql_send.specs.BulkSets.{front_bytes, request_flags, row_bytes, types_by, types_bytes}

-- all elements are passed
pub passed : {X : Type 0} (f : X → List ℕ) (xs : List X) (i : ℕ) (old new : List ℕ) →
    length xs ≤ i → new ≡ old ++ flat_map f (take i xs) → new ≡ old ++ flat_map f xs
passed f xs i old new le put = put ∙ ap (λ l. old ++ flat_map f l) (take_all i xs le)

-- bytes of the values behind references
pub over_refs : (f : Value → List ℕ) (values : List (Bor Value)) (old new : List ℕ) → new ≡ old ++
    flat_map (λ value. f value.now) values → new ≡ old ++ flat_map f (row_in values)
over_refs f values old new put = put ∙
    ap (λ l. old ++ l) (sym (flat_map-map f (λ (value : Bor Value). value.now) values))

-- the same of rows
pub over_rows : (f : Row → List ℕ) (rows : List (Bor (List (Bor Value)))) (old new : List ℕ) → new ≡
    old ++ flat_map (λ row. f (row_in row.now)) rows → new ≡ old ++ flat_map f (rows_in rows)
over_rows f rows old new put = put ∙
    ap (λ l. old ++ l) (sym (flat_map-map f (λ (row : Bor (List (Bor Value))). row_in row.now)
    rows))

-- the bytes of rows one after another
all_bytes : (rows : List Row) → flat_map param_value_bytes (map param_value_of (all_values rows)) ≡
    flat_map row_bytes rows
all_bytes [] = refl
all_bytes (row ∷ rows) =
    ap (λ l. flat_map param_value_bytes l) (map-append param_value_of row (all_values rows))
    ∙ flat_map-append param_value_bytes (map param_value_of row) (map param_value_of (all_values rows))
    ∙ ap (λ l. l ++ flat_map param_value_bytes (map param_value_of (all_values rows)))
    (flat_map-map param_value_bytes param_value_of row)
    ∙ ap (λ l. row_bytes row ++ l) (all_bytes rows)

-- its parts: the number, the id, the flags, the types, the values
command_parts : (id : ℕ) (typed : Bool) (firsts : List Value) (rows : List Row) →
    bulk_command id (request_flags (typing_of typed)) (types_by typed firsts) rows
    ≡ (250 ∷ []) ++ (little_bytes 4 id ++
    (little_bytes 2 (request_flags (typing_of typed)) ++
    (flat_map param_type_bytes (types_by typed firsts) ++
    (flat_map param_value_bytes (map param_value_of (all_values rows)) ++ []))))
unfolding bulk_execution
command_parts id true firsts rows = refl
command_parts id false firsts rows = refl

-- the types of values
pub types_of_values : (values : List Value) → types_bytes values ≡ flat_map param_type_bytes (types_by true values)
types_of_values values = sym (flat_map-map param_type_bytes (λ value. type_of_value value) values)

-- the rows behind what stands before them
pub command_is : (id : ℕ) (typed : Bool) (firsts : List Value) (rows : List Row) →
    front_bytes id typed firsts ++ flat_map row_bytes rows ≡
    bulk_command id (request_flags (typing_of typed)) (types_by typed firsts) rows
command_is id typed firsts rows =
    let flags = little_bytes 2 (request_flags (typing_of typed)) in
    let types = flat_map param_type_bytes (types_by typed firsts) in
    let values = flat_map row_bytes rows in
    append_assoc (250 ∷ []) (little_bytes 4 id ++ (flags ++ types)) values
    ∙ ap (λ l. (250 ∷ []) ++ l) (append_assoc (little_bytes 4 id) (flags ++ types) values
    ∙ ap (λ l. little_bytes 4 id ++ l) (append_assoc flags types values ∙
    ap (λ l. flags ++ (types ++ l)) (sym (all_bytes rows) ∙
    sym (append-nil (flat_map param_value_bytes (map param_value_of (all_values rows)))))))
    ∙ sym (command_parts id typed firsts rows)

-- a request whose rows were appended behind what stands before them
pub put_whole : {E : Type 0} (answer : Result (Unit {0}) E) (id : ℕ) (typed : Bool)
    (firsts : List Value) (rows : List Row) (old front new : List ℕ) →
    front ≡ old ++ front_bytes id typed firsts →
    OnOk answer (new ≡ front ++ flat_map row_bytes rows) →
    OnOk answer (new ≡ old ++
    bulk_command id (request_flags (typing_of typed)) (types_by typed firsts) rows)
put_whole (Err e) id typed firsts rows old front new is_front put = tt
put_whole (Ok done) id typed firsts rows old front new is_front put =
    put ∙ ap (λ l. l ++ flat_map row_bytes rows) is_front ∙
    append_assoc old (front_bytes id typed firsts) (flat_map row_bytes rows) ∙
    ap (λ l. old ++ l) (command_is id typed firsts rows)

-- the flags of a typed request, and its types behind them
pub flags_and_types : {E : Type 0} (answer : Result (Unit {0}) E) (typed : Bool)
    (firsts : List Value) (old one new : List ℕ) → typed ≡ true → one ≡ old ++ little_bytes 2 128 →
    OnOk answer (new ≡ one ++ types_bytes firsts) →
    OnOk answer (new ≡ old ++
    (little_bytes 2 (request_flags (typing_of typed)) ++
    flat_map param_type_bytes (types_by typed firsts)))
flags_and_types (Err e) typed firsts old one new is_typed is_one put = tt
flags_and_types (Ok done) false firsts old one new is_typed is_one put = absurd cc
flags_and_types (Ok done) true firsts old one new is_typed is_one put =
    put ∙ ap (λ l. l ++ types_bytes firsts) is_one ∙
    append_assoc old (little_bytes 2 128) (types_bytes firsts) ∙
    ap (λ l. old ++ (little_bytes 2 128 ++ l)) (types_of_values firsts)
