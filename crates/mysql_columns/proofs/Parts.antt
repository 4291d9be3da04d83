-- The parts of bytes that stand one after another.
use Rattle.std.proofs.Common.{◌≡◌, ℕ, min, List, [], length, take, drop, slice_range, ◌-◌, ap, arith, sym, ◌∙◌}
use Rattle.std.proofs.Common.{length-take}
use Rattle.std.proofs.lemmas.List.{take_min, drop_min, take_all, drop_all, nil_from_length}
use Rattle.std.proofs.lemmas.Slice.{between_is}
use Rattle.mysql_columns.specs.declared.names.HeldNames.{HeldNames}
use Rattle.mysql_columns.specs.Views.{held_view, no_names}

pub clamped : (bytes : List ℕ) (start end : ℕ) →
    slice_range bytes (min start (min end (length bytes))) (min end (length bytes)) ≡ slice_range bytes start end
clamped bytes start end =
    between_is bytes (min start (min end (length bytes))) (min end (length bytes))
    ∙ ap (drop (min start (min end (length bytes)))) (take_min end bytes)
    ∙ ap (λ k. drop (min start k) (take end bytes)) (sym (length-take end bytes))
    ∙ drop_min start (take end bytes)
    ∙ sym (between_is bytes start end)

none_of : (bytes : List ℕ) (start end : ℕ) → bytes ≡ [] → slice_range bytes start end ≡ []
none_of bytes start end none =
    ap (λ (left : List ℕ). slice_range left start end) none
    ∙ ap (take (end - start)) (drop_all start [] (omega arith)) ∙ take_all (end - start) [] (omega arith)

-- Of no bytes each part is empty.
pub nothing_held : (held : HeldNames) → length held.bytes.items ≡ 0 → held_view held ≡ no_names
nothing_held held none =
    let bytes : List ℕ = held.bytes.items in
    let nil : bytes ≡ [] = nil_from_length bytes none in
    let a = none_of bytes 0 held.schema_end nil in
    let b = none_of bytes held.schema_end held.table_end nil in
    let c = none_of bytes held.table_end held.org_table_end nil in
    let d = none_of bytes held.org_table_end held.name_end nil in
    let e = none_of bytes held.name_end (length bytes) nil in
    cc
