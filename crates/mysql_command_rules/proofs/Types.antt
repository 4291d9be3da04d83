-- Types as they are sent.
use Rattle.std.proofs.Common.{◌≡◌, ℕ, zero, suc, Bool, true, false, List, [], ◌∷◌, ◌++◌, length, Result, Ok, refl, sym}
use Rattle.std.proofs.Common.{ap, ◌∙◌, arith, inl, inr, subst, append_assoc}
use Rattle.std.specs.Prelude.{IsTrue, ◌==◌, ◌||◌, if◌then◌else◌}
use Rattle.std.specs.List.{AllByRecursion}
use Rattle.std.proofs.lemmas.Bool.{eqb-true, or_cases}
use Rattle.mysql_receive.specs.declared.fault.StreamFault.{StreamFault}
use Rattle.mysql_receive.specs.declared.fault.StreamFault.TheVariants.{BadType}
use Rattle.mysql_receive.specs.declared.param_type.ParamType.{ParamType}
use Rattle.mysql_receive.specs.Fields.{◌>>◌, must, number_or}
use Rattle.mysql_wire.specs.Wire.{◌>>=◌}
use Rattle.mysql_receive.specs.Layout.{Types, is_type, type_at, types_at}
use Rattle.mysql_command_rules.specs.Manual.{AreTypes, type_bytes}
use Rattle.mysql_command_rules.proofs.Binds.{bind_ok, bind_from, number_behind}
use Rattle.mysql_command_rules.proofs.Numbers.{Taken, taken_as, byte_given, byte_taken}

-- the two bytes of a type
record IsType (part : List ℕ) (t : ParamType) : Type 0 where
  number : IsTrue (is_type t.number)
  spelled : part ≡ type_bytes (t ∷ [])

flag_is : (f : ℕ) → (f == 0 || f == 128) ≡ true → f ≡ (if f == 128 then 128 else 0)
flag_is f test = elim (or_cases (f == 0) (f == 128) test) [
  | inl none ↦ subst (λ (n : ℕ). n ≡ (if n == 128 then 128 else 0)) (sym (eqb-true f 0 none)) refl
  | inr set ↦ subst (λ (n : ℕ). n ≡ (if n == 128 then 128 else 0)) (sym (eqb-true f 128 set)) refl
]

-- behind the type's number
abbrev flags_behind : StreamFault → ℕ × List ℕ → Result (ParamType × List ℕ) StreamFault
flags_behind short t = number_or short 1 t.1 >>= λ flags. must BadType (flags.0 == 0 ||
    flags.0 == 128) >> Ok (record { number = t.0; unsigned = flags.0 == 128 }, flags.1)

type_taken : (short : StreamFault) (bytes : List ℕ) (p : ParamType × List ℕ) → type_at short bytes ≡
    Ok p → Taken IsType bytes p
type_taken short bytes p e =
    let a = number_behind short BadType 1 is_type bytes (λ t. flags_behind short t) p e in
    let d = number_behind short BadType 1 (λ f. f == 0 ||
    f == 128) a.0.1 (λ flags. Ok (
      record { number = a.0.0; unsigned = flags.0 == 128 },
      flags.1,
    )) p a.3 in
    let first = byte_taken bytes a.0 a.1 in
    let second = byte_taken a.0.1 d.0 d.1 in
    let made : ParamType = record { number = a.0.0; unsigned = d.0.0 == 128 } in
    let same : (made, d.0.1) ≡ p = cc in
    taken_as IsType bytes (made, d.0.1) p same (record {
      part = a.0.0 ∷ d.0.0 ∷ [];
      joined = first ∙ ap (λ (l : List ℕ). a.0.0 ∷ l) second;
      is = record {
        number = a.2;
        spelled = ap (λ (n : ℕ). a.0.0 ∷ n ∷ []) (flag_is d.0.0 d.2);
      };
    })

type_given : (short : StreamFault) (t : ParamType) (rest : List ℕ) → IsTrue (is_type t.number) →
    type_at short (t.number ∷ (if t.unsigned then 128 else 0) ∷ rest) ≡ Ok (t, rest)
type_given short t rest is = by t.unsigned
  where
    by : (unsigned : Bool) → type_at short (t.number ∷ (if unsigned then 128 else 0) ∷ rest) ≡
        Ok (record { number = t.number; unsigned = unsigned }, rest)
    by true = rw (byte_given t.number (128 ∷ rest), is, byte_given 128 rest) refl
    by false = rw (byte_given t.number (0 ∷ rest), is, byte_given 0 rest) refl

-- as many types, and their bytes
pub record HasTypes (count : ℕ) (part : List ℕ) (types : Types) : Type 0 where
  pub are : AreTypes count types
  pub spelled : part ≡ type_bytes types

pub types_taken : (short : StreamFault) (count : ℕ) (bytes : List ℕ) (p : Types × List ℕ) →
    types_at short count bytes ≡ Ok p → Taken (HasTypes count) bytes p
unfolding types_at
types_taken short zero bytes p e =
    let same : ([], bytes) ≡ p = cc in
    taken_as (HasTypes 0) bytes (
      [],
      bytes,
    ) p same (record {
      part = [];
      joined = refl;
      is =
          record { are = record { all = refl; each = tt }; spelled = refl };
    })
types_taken short (suc count) bytes p e =
    let a = bind_ok (type_at short bytes) _ p e in
    let b = bind_ok (types_at short count a.0.1) _ p a.2 in
    let first = type_taken short bytes a.0 a.1 in
    let others = types_taken short count a.0.1 b.0 b.1 in
    let same : (a.0.0 ∷ b.0.0, b.0.1) ≡ p = cc in
    taken_as (HasTypes (suc count)) bytes (a.0.0 ∷ b.0.0, b.0.1) p same (record {
      part = first.part ++ others.part;
      joined = first.joined ∙ ap (λ (l : List ℕ). first.part ++ l) others.joined ∙
          sym (append_assoc first.part others.part b.0.1);
      is = record {
        are = record { all = omega (arith, others.is.are.all); each = (first.is.number, others.is.are.each) };
        spelled = ap (λ (l : List ℕ). l ++ others.part) first.is.spelled ∙
            ap (λ (l : List ℕ). type_bytes (a.0.0 ∷ []) ++ l) others.is.spelled;
      };
    })

all_given : (short : StreamFault) (types : Types) (rest : List ℕ) →
    AllByRecursion (λ t. IsTrue (is_type t.number)) types →
    types_at short (length types) (type_bytes types ++ rest) ≡ Ok (types, rest)
unfolding types_at
all_given short [] rest each = refl
all_given short (t ∷ types) rest each =
    bind_from (type_at short (type_bytes (t ∷ types) ++ rest)) _ (
      t,
      type_bytes types ++
          rest,
    ) (Ok (t ∷ types, rest)) (type_given short t (type_bytes types ++ rest) each.0)
    (bind_from (types_at short (length types) (type_bytes types ++ rest)) _ (
      types,
      rest,
    ) (Ok (t ∷ types, rest)) (all_given short types rest each.1) refl)

pub types_given : (short : StreamFault) (count : ℕ) (types : Types) (rest : List ℕ) →
    AreTypes count types → types_at short count (type_bytes types ++ rest) ≡ Ok (types, rest)
types_given short count types rest are =
    ap (λ (n : ℕ). types_at short n (type_bytes types ++ rest)) (sym are.all) ∙ all_given short types rest are.each
