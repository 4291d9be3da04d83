-- One bit of a bitmap is written.
use Rattle.std.proofs.Common.{◌≡◌, ◌<◌, ◌/◌, ◌%◌, ◌==◌, ◌⊎◌, inl, inr, ℕ, Bool, true, false, cond, List, length, refl}
use Rattle.std.proofs.Common.{ap, ◌∙◌, sym, arith, slice_index, slice_set}
use Rattle.std.specs.Int.{bit_at}
use Rattle.std.proofs.lemmas.Bool.{cases_eq, eq-eqb, ne_eqb}
use Rattle.std.proofs.lemmas.List.{length-set, get_or-set_same, get_or-set_other}
use Rattle.mysql_field_lists.specs.NullBitmap.{has_bit, SetsBit}

pub sets_bit : (bytes : List ℕ) (number byte : ℕ) (value : Bool) → number / 8 < length bytes
    → ((other : ℕ) → other < 8 → bit_at byte other ≡
    cond (other == number % 8) (cond value 1 0) (bit_at (slice_index bytes (number / 8)) other))
    → SetsBit bytes (slice_set bytes (number / 8) byte) number value
sets_bit bytes number byte value inside wrote =
    record {
      len = length-set bytes (number / 8) byte;
      bits =
          λ other there. at other (cases_eq (other / 8) (number / 8));
    }
  where
    -- a bit of the byte that was written
    here : (other : ℕ) → other / 8 ≡ number / 8 →
        (cond (other % 8 == number % 8) (cond value 1 0)
        (bit_at (slice_index bytes (number / 8)) (other % 8)) == 1) ≡
        cond (other == number) value (has_bit bytes other)
    here other same = by_rest (cases_eq other number)
      where
        by_value : (value : Bool) → (cond value 1 0 == 1) ≡ value
        by_value true = refl
        by_value false = refl

        by_rest : ((other ≡ number) ⊎ (other ≡ number → ⊥)) →
            (cond (other % 8 == number % 8) (cond value 1 0)
            (bit_at (slice_index bytes (number / 8)) (other % 8)) == 1) ≡
            cond (other == number) value (has_bit bytes other)
        by_rest (inl equal) = rw (eq-eqb other number equal)
            (rw (eq-eqb (other % 8) (number % 8) (ap (λ n. n % 8) equal)) (by_value value))
        by_rest (inr apart) = rw (ne_eqb other number apart)
            (rw (ne_eqb (other % 8) (number % 8) (λ e. apart (omega (arith, same, e))))
            (rw same refl))

    at : (other : ℕ) → ((other / 8 ≡ number / 8) ⊎ (other / 8 ≡ number / 8 → ⊥)) →
        has_bit (slice_set bytes (number / 8) byte) other ≡
        cond (other == number) value (has_bit bytes other)
    at other (inl same) =
        ap (λ n. bit_at (slice_index (slice_set bytes (number / 8) byte) n) (other % 8) == 1) same
        ∙ ap (λ b. bit_at b (other % 8) == 1) (get_or-set_same bytes (number / 8) byte 0 inside)
        ∙ ap (λ n. n == 1) (wrote (other % 8) (omega arith))
        ∙ here other same
    at other (inr apart) =
        ap (λ b. bit_at b (other % 8) == 1) (get_or-set_other bytes (number / 8) (other / 8) byte 0 apart)
        ∙ sym (ap (λ b. cond b value (has_bit bytes other))
        (ne_eqb other number (λ equal. apart (ap (λ n. n / 8) equal))))
