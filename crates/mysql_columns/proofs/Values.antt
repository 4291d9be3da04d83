-- The values of metadata, looked at one after another.
use Rattle.std.proofs.Common.{◌≡◌, ◌≢◌, ◌==◌, ◌<◌, ◌-◌, ℕ, zero, suc, if◌then◌else◌, List, Some, None, Ok, Err, refl}
use Rattle.std.proofs.Common.{ap, ◌∙◌, arith, eq-eqb}
use Rattle.std.proofs.lemmas.Bool.{ne_eqb}
use Rattle.mysql_fields.specs.declared.error.WireError.{WireError}
use Rattle.mysql_columns.specs.Extended.{first_of_kind, if_of_kind, metadata_value_at}

-- what is no value ends them
pub no_value : (kind most : ℕ) (bytes : List ℕ) (e : WireError) → metadata_value_at bytes ≡ Err e →
    first_of_kind kind most bytes ≡ None
unfolding first_of_kind
no_value kind zero bytes e cut = refl
no_value kind (suc most) bytes e cut = ap (λ r. if_of_kind kind r (first_of_kind kind most)) cut

pub no_more : (kind most : ℕ) (bytes : List ℕ) → most ≡ 0 → first_of_kind kind most bytes ≡ None
unfolding first_of_kind
no_more kind most bytes none = ap (λ k. first_of_kind kind k bytes) none

one_value : (kind most own : ℕ) (text bytes rest : List ℕ) → 0 < most → metadata_value_at bytes ≡
    Ok ((own, text), rest) →
    first_of_kind kind most bytes ≡ (if own == kind then Some text else first_of_kind kind (most - 1) rest)
unfolding first_of_kind
one_value kind zero own text bytes rest some is = absurd (omega arith)
one_value kind (suc most) own text bytes rest some is =
    let less : most ≡ suc most - 1 = omega arith in
    ap (λ r. if_of_kind kind r (first_of_kind kind most)) is ∙
    ap (λ (k : ℕ). if own == kind then Some text else first_of_kind kind k rest) less

-- a value is of the kind, or another one
pub its_value : (kind most own : ℕ) (text bytes rest : List ℕ) → 0 < most → own ≡ kind →
    metadata_value_at bytes ≡ Ok ((own, text), rest) →
    first_of_kind kind most bytes ≡ Some text
its_value kind most own text bytes rest some same is =
    one_value kind most own text bytes rest some is ∙
    ap (λ b. if b then Some text else first_of_kind kind (most - 1) rest) (eq-eqb own kind same)

pub other_value : (kind most own : ℕ) (text bytes rest : List ℕ) → 0 < most → own ≢ kind →
    metadata_value_at bytes ≡ Ok ((own, text), rest) →
    first_of_kind kind most bytes ≡ first_of_kind kind (most - 1) rest
other_value kind most own text bytes rest some other is =
    one_value kind most own text bytes rest some is ∙
    ap (λ b. if b then Some text else first_of_kind kind (most - 1) rest)
    (ne_eqb own kind other)
