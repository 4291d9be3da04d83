-- What stands behind what was read are bytes, and types that were read can be written.
use Rattle.std.proofs.Common.{◌≡◌, ℕ, zero, suc, ◌+◌, ◌<◌, ◌==◌, Bool, true, false, List, [], ◌∷◌, length, drop, Option}
use Rattle.std.proofs.Common.{Some, None, refl, sym, subst, ap}
use Rattle.std.specs.Prelude.{◌&&◌, ◌||◌, IfSome, if◌then◌else◌, is_some, nat_lt, unwrap_or}
use Rattle.std.specs.List.{list_all}
use Rattle.std.specs.Option.{option_map}
use Rattle.std.proofs.lemmas.List.{get_or-drop}
use Rattle.mysql_buf.specs.Bytes.{AreBytes}
use Rattle.mysql_buf.specs.FirstBytes.{first-some}
use Rattle.mysql_buf.specs.Reading.{bytes_at, first, lenenc_int_at, little_at, then_at}
use Rattle.mysql_const.specs.ColumnTypes.{column_type_named}
use Rattle.mysql_const.specs.declared.column_type.ColumnType.{ColumnType}
use Rattle.mysql_executions.specs.declared.types.BoundType.{BoundType}
use Rattle.mysql_executions.specs.Fields.{◌>>=◌, ◌>>◌, must, number_at}
use Rattle.mysql_executions.specs.Types.{TypesRead, name_at, own_types_at, sign_named, type_at, types_at, types_read}
use Rattle.mysql_executions.specs.Types.{with_type}
use Rattle.mysql_execution_writer.specs.Cells.{fits_name}

-- ---- readings one after another

pub bind_some : {A B : Type 0} (r : Option A) (f : A → Option B) (y : B) → (r >>= f) ≡ Some y →
    (x : A) × (r ≡ Some x) × (f x ≡ Some y)
bind_some (Some x) f y e = (x, refl, e)
bind_some None f y e = absurd cc

pub must_then : {B : Type 0} (b : Bool) (next : Option B) (y : B) → (must b >> next) ≡ Some y →
    (b ≡ true) × (next ≡ Some y)
must_then true next y e = (refl, e)
must_then false next y e = absurd cc

pub some_is : {A : Type 0} (x y : A) → Some x ≡ Some y → x ≡ y
some_is x y e = cc

pub and_both : (x y : Bool) → x ≡ true → y ≡ true → (x && y) ≡ true
and_both true y e h = h
and_both false y e h = absurd cc

-- ---- bytes that are left

dropped : (n : ℕ) (bytes : List ℕ) → AreBytes bytes → AreBytes (drop n bytes)
dropped n bytes are = λ i. subst (λ x. x < 256) (sym (get_or-drop n bytes i 0)) (are (n + i))

pub first_left : {X : Type 0} (n : ℕ) (value : List ℕ → X) (bytes : List ℕ) (found : X × List ℕ) →
    AreBytes bytes → first n value bytes ≡ Some found → AreBytes found.1
first_left n value bytes found are e =
    subst AreBytes (sym (ap (λ p. p.1) (first-some n value bytes found e).1)) (dropped n bytes are)

pub lenenc_left : (bytes : List ℕ) (p : ℕ × List ℕ) → AreBytes bytes → lenenc_int_at bytes ≡ Some p → AreBytes p.1
lenenc_left [] p are e = absurd (cc)
lenenc_left (b ∷ bytes) p are e = by (nat_lt b 251) (b == 252) (b == 253) (b == 254) e
  where
    behind : AreBytes bytes
    behind = dropped 1 (b ∷ bytes) are

    by : (one two three eight : Bool) →
        (if one then Some (b, bytes) else if two then little_at 2 bytes else if three then little_at
        3 bytes else if eight then little_at 8 bytes else Some (0, bytes)) ≡ Some p → AreBytes p.1
    by true two three eight e = let is : bytes ≡ p.1 = cc in subst AreBytes is behind
    by false true three eight e = first_left 2 _ bytes p behind e
    by false false true eight e = first_left 3 _ bytes p behind e
    by false false false true e = first_left 8 _ bytes p behind e
    by false false false false e = let is : bytes ≡ p.1 = cc in subst AreBytes is behind

text_left : (count : Option (ℕ × List ℕ)) (found : List ℕ × List ℕ) →
    ((p : ℕ × List ℕ) → count ≡ Some p → AreBytes p.1) → then_at count bytes_at ≡ Some found →
    AreBytes found.1
text_left None found left e = absurd (cc)
text_left (Some p) found left e = first_left p.0 _ p.1 found (left p refl) e

-- ---- types

pub record IsType (named : Bool) (t : BoundType) (rest : List ℕ) : Type 0 where
  pub name : fits_name named t ≡ true
  pub left : AreBytes rest

abbrev one : {X : Type 0} → X × List ℕ → Option (X × List ℕ)
one p = Some p

same_pair : {X : Type 0} (p q : X × List ℕ) → one p ≡ one q → p ≡ q
same_pair p q e = cc

pub same_first : {X : Type 0} (p q : X × List ℕ) → one p ≡ one q → p.0 ≡ q.0
same_first {X = X} p q e = ap (λ (r : X × List ℕ). r.0) (same_pair p q e)

pub same_left : {X : Type 0} (p q : X × List ℕ) → one p ≡ one q → p.1 ≡ q.1
same_left {X = X} p q e = ap (λ (r : X × List ℕ). r.1) (same_pair p q e)

name_left : (named : Bool) (bytes : List ℕ) (found : List ℕ × List ℕ) → AreBytes bytes →
    name_at named bytes ≡ Some found → ((named || (length found.0 == 0)) ≡ true) × AreBytes found.1
name_left true bytes found are e = (refl, text_left (lenenc_int_at bytes) found (λ p is. lenenc_left bytes p are is) e)
name_left false bytes found are e = (
  ap (λ (name : List ℕ). length name == 0) (sym (same_first ([], bytes) found e)),
  subst AreBytes (same_left ([], bytes) found e) are,
)

abbrev made : ColumnType → Bool → List ℕ × List ℕ → BoundType × List ℕ
made column_type unsigned name = (
  record {
    parameter_type = record { column_type = column_type; unsigned = unsigned };
    name =
        name.0;
  },
  name.1,
)

abbrev ended : ColumnType → Bool → List ℕ × List ℕ → Option (BoundType × List ℕ)
ended column_type unsigned name = Some (made column_type unsigned name)

pub type_left : (named : Bool) (bytes : List ℕ) (t : BoundType) (rest : List ℕ) → AreBytes bytes →
    type_at named bytes ≡ Some (t, rest) → IsType named t rest
unfolding type_at
type_left named bytes t rest are e =
    let a = bind_some (number_at 1 bytes)
    (λ number. column_type_named number.0 >>= λ column_type. number_at 1 number.1 >>= λ flags.
    sign_named flags.0 >>= λ unsigned. name_at named flags.1 >>= λ name. ended column_type
    unsigned name) (t, rest) e in
    let b = bind_some (column_type_named a.0.0)
    (λ column_type. number_at 1 a.0.1 >>= λ flags. sign_named flags.0 >>= λ unsigned. name_at
    named flags.1 >>= λ name. ended column_type unsigned name) (t, rest) a.2 in
    let d = bind_some (number_at 1 a.0.1)
    (λ flags. sign_named flags.0 >>= λ unsigned. name_at named flags.1 >>= λ name. ended b.0
    unsigned name) (t, rest) b.2 in
    let f = bind_some (sign_named d.0.0)
    (λ unsigned. name_at named d.0.1 >>= λ name. ended b.0 unsigned name) (t, rest) d.2 in
    let g = bind_some (name_at named d.0.1) (λ name. ended b.0 f.0 name) (t, rest) f.2 in
    let left = first_left 1 _ a.0.1 d.0 (first_left 1 _ bytes a.0 are a.1) d.1 in
    let name = name_left named d.0.1 g.0 left g.1 in
    let is = same_first (made b.0 f.0 g.0) (t, rest) g.2 in
    record {
      name = subst (λ (t : BoundType). fits_name named t ≡ true) is name.0;
      left = subst AreBytes (same_left (made b.0 f.0 g.0) (t, rest) g.2) name.1;
    }

-- types that were read: so many, each with a name that fits, and what is left
pub record AreTypes (named : Bool) (n : ℕ) (found : List BoundType) (rest : List ℕ) : Type 0 where
  pub count : length found ≡ n
  pub names : list_all (fits_name named) found ≡ true
  pub left : AreBytes rest

abbrev behind_one : (named : Bool) → ℕ → Option (BoundType × List ℕ) → TypesRead
behind_one named n read =
    unwrap_or (option_map (λ first. with_type first.0 (types_read named n first.1)) read)
    (record { found = []; rest = None })

types_more : (named : Bool) (n : ℕ) (bytes rest : List ℕ) → AreBytes bytes →
    ((later : List ℕ) → AreBytes later → (types_read named n later).rest ≡ Some rest →
    AreTypes named n (types_read named n later).found rest)
    → (read : Option (BoundType × List ℕ)) → type_at named bytes ≡ read →
    (behind_one named n read).rest ≡ Some rest →
    AreTypes named (suc n) (behind_one named n read).found rest
types_more named n bytes rest are known None is e = absurd cc
types_more named n bytes rest are known (Some first) is e =
    let own = type_left named bytes first.0 first.1 are is in
    let later = known first.1 own.left e in
    record {
      count = ap suc later.count;
      names = and_both (fits_name named first.0)
          (list_all (fits_name named) (types_read named n first.1).found) own.name later.names;
      left = later.left;
    }

pub types_left : (named : Bool) (n : ℕ) (bytes rest : List ℕ) → AreBytes bytes →
    (types_read named n bytes).rest ≡ Some rest →
    AreTypes named n (types_read named n bytes).found rest
unfolding types_read
types_left named zero bytes rest are e =
    record { count = refl; names = refl; left = subst AreBytes (some_is bytes rest e) are }
types_left named (suc n) bytes rest are e =
    types_more named n bytes rest are
    (λ later are_later h. types_left named n later rest are_later h) (type_at named bytes) refl e

-- so many types
pub all_types_left : (named : Bool) (n : ℕ) (bytes : List ℕ) (types : List BoundType × List ℕ) →
    AreBytes bytes → types_at named n bytes ≡ Some types → AreTypes named n types.0 types.1
all_types_left named n bytes types are e =
    let a = bind_some (types_read named n bytes).rest (λ rest. one ((types_read named n bytes).found, rest)) types e in
    let same : ((types_read named n bytes).found, a.0) ≡ types =
    same_pair ((types_read named n bytes).found, a.0) types a.2 in
    subst (λ (p : List BoundType × List ℕ). AreTypes named n p.0 p.1) same (types_left named n bytes a.0 are a.1)

-- the types that a command carries
pub record AreOwn (named bound : Bool) (n : ℕ) (own : Option (List BoundType)) (rest : List ℕ) : Type 0 where
  pub some : is_some own ≡ bound
  pub count : IfSome own (λ types. length types ≡ n)
  pub names : list_all (fits_name named) (unwrap_or own []) ≡ true
  pub left : AreBytes rest

pub own_left : (bound named : Bool) (n : ℕ) (bytes : List ℕ) (own : Option (List BoundType) ×
    List ℕ) → AreBytes bytes → own_types_at bound named n bytes ≡ Some own →
    AreOwn named bound n own.0 own.1
own_left false named n bytes own are e =
    subst (λ (p : Option (List BoundType) × List ℕ). AreOwn named false n p.0 p.1)
    (same_pair (None, bytes) own e)
    (record { some = refl; count = tt; names = refl; left = are })
own_left true named n bytes own are e =
    let a = bind_some (types_at named n bytes) (λ types. one (Some types.0, types.1)) own e in
    let types = all_types_left named n bytes a.0 are a.1 in
    subst (λ (p : Option (List BoundType) × List ℕ). AreOwn named true n p.0 p.1)
    (same_pair (Some a.0.0, a.0.1) own a.2)
    (record { some = refl; count = types.count; names = types.names; left = types.left })
