-- Dates and times in their shortest form: the front of the whole form.
use Rattle.std.proofs.Common.{◌≡◌, ℕ, ◌+◌, Bool, true, false, cond, List, [], ◌∷◌, ◌++◌, get_or, take, refl, ap, ◌∙◌}
use Rattle.std.proofs.Common.{add-one, if◌then◌else◌, is_ok, Result, Ok, Err}
use Rattle.std.specs.Int.{w16, w32, from_bool, to_le_bytes}
use Rattle.mysql_fields.specs.Wire.{Appends}
use Rattle.mysql_cells.specs.Cells.{date_cell, date_size, time_cell, time_size}

front_of : (n size : ℕ) (xs : List ℕ) → n ≡ size → take (n + 1) (size ∷ xs) ≡ size ∷ take size xs
front_of n size xs e = rw (e, add-one) refl

pub date_front : (year month day hour minute second micros n size : ℕ) (ys us : List ℕ) → n ≡ size →
    size ≡ date_size year month day hour minute second micros →
    ys ≡ to_le_bytes w16 year → us ≡ to_le_bytes w32 micros →
    take (n + 1) (size ∷ get_or ys 0 0 ∷ get_or ys 1 0 ∷ month ∷ day ∷ hour ∷ minute ∷ second ∷
    get_or us 0 0 ∷ get_or us 1 0 ∷ get_or us 2 0 ∷ get_or us 3 0 ∷ []) ≡
    date_cell year month day hour minute second micros
date_front year month day hour minute second micros n size ys us e is y u =
    (λ i. take (n + 1) (size ∷ get_or (y i) 0 0 ∷ get_or (y i) 1 0 ∷ month ∷ day ∷ hour ∷ minute ∷
    second ∷ get_or (u i) 0 0 ∷ get_or (u i) 1 0 ∷ get_or (u i) 2 0 ∷ get_or (u i) 3 0 ∷ []))
    ∙ front_of n size (to_le_bytes w16 year ++ month ∷ day ∷ hour ∷ minute ∷ second ∷ to_le_bytes w32 micros) e
    ∙ ap (λ (s : ℕ). s ∷ take s (to_le_bytes w16 year ++ month ∷ day ∷ hour ∷ minute ∷ second ∷
    to_le_bytes w32 micros)) is

pub sign_byte : (negative : Bool) → from_bool negative ≡ cond negative 1 0
sign_byte true = refl
sign_byte false = refl

pub time_front : (sign days hours minutes seconds micros n size : ℕ) (negative : Bool)
    (ds us : List ℕ) → n ≡ size → size ≡ time_size days hours minutes seconds micros →
    sign ≡ cond negative 1 0 → ds ≡ to_le_bytes w32 days → us ≡ to_le_bytes w32 micros →
    take (n + 1) (size ∷ sign ∷ get_or ds 0 0 ∷ get_or ds 1 0 ∷ get_or ds 2 0 ∷ get_or ds 3 0 ∷
    hours ∷ minutes ∷ seconds ∷ get_or us 0 0 ∷ get_or us 1 0 ∷ get_or us 2 0 ∷ get_or us 3 0 ∷
    []) ≡ time_cell negative days hours minutes seconds micros
time_front sign days hours minutes seconds micros n size negative ds us e is s d u =
    (λ i. take (n + 1) (size ∷ s i ∷ get_or (d i) 0 0 ∷ get_or (d i) 1 0 ∷ get_or (d i) 2 0 ∷
    get_or (d i) 3 0 ∷ hours ∷ minutes ∷ seconds ∷ get_or (u i) 0 0 ∷ get_or (u i) 1 0 ∷
    get_or (u i) 2 0 ∷ get_or (u i) 3 0 ∷ []))
    ∙ front_of n size (cond negative 1 0 ∷ to_le_bytes w32 days ++ hours ∷ minutes ∷ seconds ∷ to_le_bytes w32 micros) e
    ∙ ap (λ (k : ℕ). k ∷ take k (cond negative 1 0 ∷ to_le_bytes w32 days ++ hours ∷ minutes ∷
    seconds ∷ to_le_bytes w32 micros)) is

-- what is appended or refused
pub appended : {E : Type 0} (r : Result (Unit {0}) E) (old new bytes : List ℕ) → new ≡
    (if is_ok r then old ++ bytes else old) → Appends r old new bytes
appended (Ok _) old new bytes e = e
appended (Err _) old new bytes e = e
