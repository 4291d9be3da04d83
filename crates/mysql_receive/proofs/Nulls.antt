-- The bits of an execute's bitmap, walked place by place.
use Rattle.std.proofs.Common.{◌≡◌, ℕ, ◌+◌, ◌*◌, ◌/◌, ◌%◌, ◌^◌, ◌<◌, ◌≤◌, ◌⊎◌, Bool, false, List, length, drop, get_or}
use Rattle.std.proofs.Common.{refl, sym, ap, ◌∙◌, arith, inl, inr}
use Rattle.std.proofs.Math.Nat.{zero-div}
use Rattle.std.proofs.lemmas.Bool.{cases_lt}
use Rattle.std.proofs.lemmas.Grind.{get_or_after_one}
use Rattle.std.proofs.lemmas.List.{get_or_past}
use Rattle.std.proofs.lemmas.List.FromFn.{get_or-map-range_with_len, length-map-range_with_len}
use Rattle.mysql_field_lists.specs.NullBitmap.{is_null_at, nulls_of}

-- what is left to walk says of each place from this one on to the last whether it is null
abbrev pub SayNulls : List Bool → List ℕ → ℕ → ℕ → Type 0
SayNulls bits nulls place end = (k : ℕ) → place + k < end → get_or bits k false ≡ is_null_at 0 nulls (place + k)

-- behind the bytes no bit stands
no_bit : (nulls : List ℕ) (place : ℕ) → 8 * length nulls ≤ place → is_null_at 0 nulls place ≡ false
no_bit nulls place past =
    rw (
      get_or_past nulls ((0 + place) / 8) 0 (omega (arith, past)),
      zero-div (2 ^ ((0 + place) % 8)),
    ) refl

pub say_all : (nulls : List ℕ) (count end : ℕ) → (count < end → count ≡ 8 * length nulls) →
    SayNulls (nulls_of 0 nulls count) nulls 0 end
say_all nulls count end all k lt = by_count (cases_lt k count)
  where
    by_count : ((k < count) ⊎ (count ≤ k)) → get_or (nulls_of 0 nulls count) k false ≡ is_null_at 0 nulls (0 + k)
    by_count (inl few) = get_or-map-range_with_len (is_null_at 0 nulls) 0 count k (0 + k) false few refl
    by_count (inr past) =
        get_or_past (nulls_of 0 nulls count) k false
        (omega (arith, past, length-map-range_with_len (is_null_at 0 nulls) 0 count))
        ∙ sym (no_bit nulls (0 + k) (omega (arith, past, lt, all)))

pub say_others : (bits : List Bool) (nulls : List ℕ) (place end : ℕ) →
    SayNulls bits nulls place end → SayNulls (drop 1 bits) nulls (place + 1) end
say_others bits nulls place end says k lt =
    get_or_after_one bits k false ∙ says (1 + k) (omega (arith, lt)) ∙
    ap (λ (n : ℕ). is_null_at 0 nulls n) (omega arith)

pub says_of : (nulls : List ℕ) (bits : List Bool) (place end : ℕ) (bit : Bool) → place < end →
    SayNulls bits nulls place end → bit ≡ get_or bits 0 false → bit ≡ is_null_at 0 nulls place
says_of nulls bits place end bit lt says is = is ∙ says 0 (omega (arith, lt)) ∙
    ap (λ (n : ℕ). is_null_at 0 nulls n) (omega arith)
