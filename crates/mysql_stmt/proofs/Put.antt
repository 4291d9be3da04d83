-- An execution that is appended part by part.
use Rattle.std.proofs.Common.{◌≡◌, ℕ, ◌==◌, Bool, false, List, [], ◌∷◌, ◌++◌, length, map, Result, Ok, Err, ◌∙◌, ap}
use Rattle.std.proofs.Common.{append_assoc}
use Rattle.std.specs.Prelude.{OnOk, is_err}
use Rattle.std.specs.List.{flat_map}
use Rattle.byteorder.specs.Endian.{little_bytes}
use Rattle.mysql_fields.specs.Wire.{Appends}
use Rattle.mysql_cells.specs.declared.value.Value.{Value}
use Rattle.mysql_stmt.specs.Executions.{execute_command, execution, null_bitmap, parameters, sent_cell, type_bytes}
use Rattle.mysql_stmt.proofs.Lists.{over_lent, some_parameters}

-- what follows where bytes are appended
pub where_appended : {E P : Type 0} (result : Result (Unit {0}) E) (old new bytes : List ℕ) →
    (new ≡ old ++ bytes → P) → Appends result old new bytes → OnOk result P
where_appended (Ok done) old new bytes step put = step put
where_appended (Err error) old new bytes step put = tt

regroup : (old bitmap types cells : List ℕ) → (((old ++ bitmap) ++ 1 ∷ []) ++ types) ++ cells ≡
    old ++ (bitmap ++ 1 ∷ (types ++ cells))
regroup old bitmap types cells = simp append_assoc

-- bitmap, mark, types and cells
pub parameters_put : {T : Type 0} (lent : T → Value) (values : List T) (apart : Bool)
    (old first second third new bitmap : List ℕ) → false ≡ (length values == 0) → first ≡ old ++
    bitmap → second ≡ first ++ 1 ∷ []
    → third ≡ second ++ flat_map (λ value. type_bytes (lent value)) values → new ≡ third ++
    flat_map (λ value. sent_cell apart (lent value)) values → new ≡ old ++
    parameters bitmap (map lent values) apart
parameters_put lent values apart old first second third new bitmap some a b c d =
    let types : List ℕ = flat_map (λ value. type_bytes (lent value)) values in
    let cells : List ℕ = flat_map (λ value. sent_cell apart (lent value)) values in
    d ∙ ap (λ l. l ++ cells) (c ∙ ap (λ l. l ++ types) (b ∙ ap (λ l. l ++ 1 ∷ []) a)) ∙ regroup old bitmap types cells
    ∙ ap (λ l. old ++ (bitmap ++ 1 ∷ (l ++ cells))) (over_lent lent type_bytes values)
    ∙ ap (λ l. old ++ (bitmap ++ 1 ∷ (flat_map type_bytes (map lent values) ++ l)))
    (over_lent lent (sent_cell apart) values)
    ∙ ap (λ l. old ++ l) (some_parameters lent bitmap values apart some)

-- the head, and what is carried of the values
pub parts_put : (id : ℕ) (values : List Value) (apart : Bool) (old mid new head : List ℕ) → head ≡
    23 ∷ (little_bytes 4 id ++ 0 ∷ little_bytes 4 1) → mid ≡ old ++ head
    → new ≡ mid ++ parameters (null_bitmap values) values apart → new ≡ old ++ execute_command id values apart
unfolding execution
parts_put id values apart old mid new head is put behind =
    behind ∙ ap (λ l. l ++ parameters (null_bitmap values) values apart) (put ∙ ap (λ l. old ++ l) is)
    ∙ append_assoc old (23 ∷ (little_bytes 4 id ++ 0 ∷ little_bytes 4 1)) (parameters (null_bitmap values) values apart)

-- the same, where what is carried isn't refused
pub execution_put : {E : Type 0} (id : ℕ) (values : List Value) (apart : Bool)
    (result : Result (Unit {0}) E) (old mid new head : List ℕ) → is_err result ≡ false → head ≡ 23 ∷
    (little_bytes 4 id ++ 0 ∷ little_bytes 4 1) → mid ≡ old ++ head
    → OnOk result (new ≡ mid ++ parameters (null_bitmap values) values apart) →
    Appends result old new (execute_command id values apart)
execution_put id values apart (Ok done) old mid new head none is put behind =
    parts_put id values apart old mid new head is put behind
execution_put id values apart (Err error) old mid new head none is put behind = cc
