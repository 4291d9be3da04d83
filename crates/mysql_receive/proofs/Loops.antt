-- Loops that read one thing after another.
use Rattle.std.proofs.Common.{◌≡◌, ℕ, suc, ◌-◌, ◌+◌, ◌≤◌, ◌<◌, List, [], ◌∷◌, ◌++◌, length, drop, Bool, true, false}
use Rattle.std.proofs.Common.{Option, Result, Ok, Err, refl, sym, ap, ◌∙◌, append_assoc, arith, get_or, add-one}
use Rattle.std.proofs.Common.{drop-cons}
use Rattle.std.specs.Prelude.{◌==◌, ◌||◌}
use Rattle.std.specs.List.{list_any, range_with_len}
use Rattle.std.proofs.lemmas.Bool.{eqb-true}
use Rattle.std.proofs.lemmas.List.{append-nil, drop_all}
use Rattle.mysql_receive.specs.declared.fault.StreamFault.{StreamFault}
use Rattle.mysql_receive.specs.declared.read_error.ReadError.{ReadError}
use Rattle.mysql_receive.specs.declared.read_error.ReadError.TheVariants as read_error
use Rattle.mysql_wire.specs.Wire.{◌>>=◌}
use Rattle.mysql_receive.specs.Layout.{Types, type_at, types_at}
use Rattle.mysql_receive.specs.declared.fault.StreamFault.TheVariants.{BadExecute}
use Rattle.mysql_receive.specs.declared.param_type.ParamType.{ParamType}
use Rattle.mysql_values.specs.Content.{Content}
use Rattle.mysql_receive.specs.Reading.{Set, parameter_at, set_at, column_at, columns_at}
use Rattle.mysql_receive.specs.Views.{Fails}
use Rattle.mysql_field_lists.specs.NullBitmap.{is_null_at}

-- what was read before, and what is still read
abbrev pub with_front : {A : Type 0} → List A → Result (List A × List ℕ) StreamFault →
    Result (List A × List ℕ) StreamFault
with_front before read = read >>= λ x. Ok (before ++ x.0, x.1)

regroup : {A : Type 0} (before : List A) (n : A) (read : Result (List A × List ℕ) StreamFault) →
    with_front before (read >>= λ x. Ok (n ∷ x.0, x.1)) ≡ with_front (before ++ n ∷ []) read
regroup {A = A} before n (Ok x) = ap (λ (ns : List A). Ok (ns, x.1)) (simp append_assoc)
regroup before n (Err f) = refl

pub types_go_on : (before : Types) (short : StreamFault) (count i : ℕ) (bytes : List ℕ)
    (n : ParamType) (after : List ℕ) (total : Result (Types × List ℕ) StreamFault) → i < count →
    type_at short bytes ≡ Ok (n, after)
    → with_front before (types_at short (count - i) bytes) ≡ total →
    with_front (before ++ n ∷ []) (types_at short (count - (i + 1)) after) ≡ total
unfolding types_at
types_go_on before short count i bytes n after total lt h so_far =
    let k : count - i ≡ suc (count - (i + 1)) = omega arith in
    let one : with_front before (types_at short (count - i) bytes) ≡
    with_front (before ++ n ∷ []) (types_at short (count - (i + 1)) after) =
    rw (k, h) (regroup before n (types_at short (count - (i + 1)) after)) in
    sym one ∙ so_far

pub types_end : (e : ReadError) (before : Types) (short : StreamFault) (count i : ℕ)
    (bytes : List ℕ) (total : Result (Types × List ℕ) StreamFault) → i < count →
    Fails e (type_at short bytes)
    → with_front before (types_at short (count - i) bytes) ≡ total → Fails e total
unfolding types_at
types_end read_error.Memory before short count i bytes total lt h so_far = tt
types_end (read_error.Fault f) before short count i bytes total lt h so_far =
    let k : count - i ≡ suc (count - (i + 1)) = omega arith in
    let one : with_front before (types_at short (count - i) bytes) ≡ Err f = rw (k, h) refl in
    sym so_far ∙ one

pub types_done : (before : Types) (short : StreamFault) (count i : ℕ) (bytes : List ℕ)
    (total : Result (Types × List ℕ) StreamFault) → count ≤ i →
    with_front before (types_at short (count - i) bytes) ≡ total → total ≡ Ok (before, bytes)
unfolding types_at
types_done before short count i bytes total le so_far =
    let k : count - i ≡ 0 = omega arith in
    let one : with_front before (types_at short (count - i) bytes) ≡ Ok (before, bytes) =
    rw k (ap (λ (ns : Types). Ok (ns, bytes)) (append-nil before)) in
    sym so_far ∙ one

-- ---- the places of an execute

-- what was read before, and what is still read to the end
abbrev pub behind : {A : Type 0} → List A → Result (List A) StreamFault → Result (List A) StreamFault
behind before read = read >>= λ x. Ok (before ++ x)

pub behind_nothing : {A : Type 0} (read : Result (List A) StreamFault) → behind [] read ≡ read
behind_nothing (Ok x) = refl
behind_nothing (Err f) = refl

behind_one : {A : Type 0} (before : List A) (n : A) (read : Result (List A) StreamFault) →
    behind before (read >>= λ x. Ok (n ∷ x)) ≡ behind (before ++ n ∷ []) read
behind_one {A = A} before n (Ok x) = ap (λ (ns : List A). Ok ns) (simp append_assoc)
behind_one before n (Err f) = refl

module _ (pieces : ℕ → Option (List ℕ)) (nulls : List ℕ) (types : List ParamType) (total : Result Set StreamFault) where
  pub set_goes_on : (before : Set) (place : ℕ) (t : ParamType) (null : Bool) (rest : List ℕ)
      (n : Content) (after : List ℕ) → drop place types ≡ t ∷ drop (place + 1) types
      → null ≡ is_null_at 0 nulls place → parameter_at (pieces place) null t rest ≡ Ok (n, after)
      → behind before (set_at pieces nulls place (drop place types) rest) ≡ total →
      behind (before ++ n ∷ [])
      (set_at pieces nulls (place + 1) (drop (place + 1) types) after) ≡ total
  unfolding set_at
  set_goes_on before place t null rest n after e bit h so_far =
      let here : parameter_at (pieces place) (is_null_at 0 nulls place) t rest ≡ Ok (n, after) =
      ap (λ b. parameter_at (pieces place) b t rest) (sym bit) ∙ h in
      let one : behind before (set_at pieces nulls place (drop place types) rest) ≡
      behind (before ++ n ∷ [])
      (set_at pieces nulls (place + 1) (drop (place + 1) types) after) =
      rw (e, here) (behind_one before n (set_at pieces nulls (place + 1) (drop (place + 1) types) after)) in
      sym one ∙ so_far

  pub set_ends : (r : ReadError) (before : Set) (place : ℕ) (t : ParamType) (null : Bool)
      (rest : List ℕ) → drop place types ≡ t ∷ drop (place + 1) types
      → null ≡ is_null_at 0 nulls place → Fails r (parameter_at (pieces place) null t rest)
      → behind before (set_at pieces nulls place (drop place types) rest) ≡ total → Fails r total
  unfolding set_at
  set_ends read_error.Memory before place t null rest e bit h so_far = tt
  set_ends (read_error.Fault f) before place t null rest e bit h so_far =
      let here : parameter_at (pieces place) (is_null_at 0 nulls place) t rest ≡ Err f =
      ap (λ b. parameter_at (pieces place) b t rest) (sym bit) ∙ h in
      let one : behind before (set_at pieces nulls place (drop place types) rest) ≡ Err f = rw (e, here) refl in
      sym so_far ∙ one

  pub set_done : (before : Set) (place : ℕ) (rest : List ℕ) → length types ≤ place → true ≡
      (length rest == 0) → behind before (set_at pieces nulls place (drop place types) rest) ≡
      total → total ≡ Ok before
  unfolding set_at
  set_done before place (b ∷ rest) past e so_far = absurd (omega (arith, eqb-true (length (b ∷ rest)) 0 (sym e)))
  set_done before place [] past e so_far =
      let none : drop place types ≡ [] = drop_all place types past in
      let one : behind before (set_at pieces nulls place (drop place types) []) ≡ Ok before =
      rw none (ap (λ (ns : Set). Ok ns) (append-nil before)) in
      sym so_far ∙ one

  pub set_left : (before : Set) (place : ℕ) (rest : List ℕ) → length types ≤ place → false ≡
      (length rest == 0) → behind before (set_at pieces nulls place (drop place types) rest) ≡
      total → total ≡ Err BadExecute
  unfolding set_at
  set_left before place [] past e so_far = absurd cc
  set_left before place (b ∷ rest) past e so_far =
      let none : drop place types ≡ [] = drop_all place types past in
      let one : behind before (set_at pieces nulls place (drop place types) (b ∷ rest)) ≡
      Err BadExecute = rw none refl in
      sym so_far ∙ one

-- the element that stands first of what is left
pub at_place : (types : List ParamType) (place : ℕ) (t : ParamType) → place < length types →
    drop place types ≡ get_or types place t ∷ drop (place + 1) types
at_place types place t lt = rw add-one (drop-cons types place t lt)

-- ---- the columns of a row

module _ (types : List ParamType) (total : Result (Set × List ℕ) StreamFault) where
  pub columns_go_on : (before : Set) (i : ℕ) (t : ParamType) (rest : List ℕ) (n : Content)
      (after : List ℕ) → drop i types ≡ t ∷ drop (i + 1) types → column_at t rest ≡ Ok (n, after)
      → with_front before (columns_at (drop i types) rest) ≡ total →
      with_front (before ++ n ∷ []) (columns_at (drop (i + 1) types) after) ≡ total
  unfolding columns_at
  columns_go_on before i t rest n after e h so_far =
      let one : with_front before (columns_at (drop i types) rest) ≡
      with_front (before ++ n ∷ []) (columns_at (drop (i + 1) types) after) =
      rw (e, h) (regroup before n (columns_at (drop (i + 1) types) after)) in
      sym one ∙ so_far

  pub columns_end : (r : ReadError) (before : Set) (i : ℕ) (t : ParamType) (rest : List ℕ) →
      drop i types ≡ t ∷ drop (i + 1) types → Fails r (column_at t rest)
      → with_front before (columns_at (drop i types) rest) ≡ total → Fails r total
  unfolding columns_at
  columns_end read_error.Memory before i t rest e h so_far = tt
  columns_end (read_error.Fault f) before i t rest e h so_far =
      let one : with_front before (columns_at (drop i types) rest) ≡ Err f = rw (e, h) refl in
      sym so_far ∙ one

  pub columns_done : (before : Set) (i : ℕ) (rest : List ℕ) → length types ≤ i →
      with_front before (columns_at (drop i types) rest) ≡ total → total ≡ Ok (before, rest)
  unfolding columns_at
  columns_done before i rest past so_far =
      let none : drop i types ≡ [] = drop_all i types past in
      let one : with_front before (columns_at (drop i types) rest) ≡ Ok (before, rest) =
      rw none (ap (λ (ns : Set). Ok (ns, rest)) (append-nil before)) in
      sym so_far ∙ one

-- ---- a test of the places from one on

pub any_goes_on : (p : ℕ → Bool) (i n : ℕ) (total : Bool) → i < n → false ≡ p i →
    list_any p (range_with_len i (n - i)) ≡ total →
    list_any p (range_with_len (i + 1) (n - (i + 1))) ≡ total
any_goes_on p i n total lt fails so_far =
    let k : n - i ≡ suc (n - (i + 1)) = omega arith in
    let one : list_any p (range_with_len i (n - i)) ≡
    list_any p (range_with_len (i + 1) (n - (i + 1))) =
    ap (λ (m : ℕ). list_any p (range_with_len i m)) k ∙
    ap (λ b. b || list_any p (range_with_len (i + 1) (n - (i + 1)))) (sym fails) in
    sym one ∙ so_far

-- a type where there is none
abbrev pub zero_type : ParamType
zero_type = record { number = 0; unsigned = false }
