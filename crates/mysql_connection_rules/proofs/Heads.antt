-- The first five bytes of a stream: what they tell stays with more bytes behind.
use Rattle.std.proofs.Common.{◌≡◌, ℕ, ◌+◌, Bool, true, false, List, [], ◌∷◌, ◌++◌, ◌⊎◌, inl, inr, length}
use Rattle.std.proofs.Common.{refl, sym, ap, ◌∙◌, arith, add-one, take, drop}
use Rattle.std.specs.Prelude.{nat_le, nat_lt, slice_index_or, ◌==◌, ◌&&◌, not, ◌/◌}
use Rattle.std.proofs.lemmas.Bool.Decides.{nat_tests}
use Rattle.mysql_wire.specs.FirstPacket.{Found, Short, TooLarge, by_tests, announced, packet_by}
use Rattle.mysql_wire.specs.FirstPacket.{first_packet, next_number}
use Rattle.mysql_wire.specs.Framing.{max_payload_len}
use Rattle.mysql_connection_rules.specs.Standing.{Standing}
use Rattle.mysql_connection_rules.specs.Streams.{has_number, has_no_bytes, is_early}
use Rattle.mysql_connection_rules.proofs.PutHeads.{and_no, reaches_five, reaches_four}

-- ---- four bytes

number_at : (number a b c d : ℕ) (bytes : List ℕ) → has_number number (a ∷ b ∷ c ∷ d ∷ bytes) ≡ (d == number)
number_at number a b c d bytes = ap (λ (t : Bool). t && (d == number)) (reaches_four a b c d bytes)

-- the number that stands first stays
pub number_stays : (number : ℕ) (bytes piece : List ℕ) → has_number number bytes ≡ true →
    has_number number (bytes ++ piece) ≡ true
number_stays number [] piece h = absurd (cc h)
number_stays number (a ∷ []) piece h = absurd (cc h)
number_stays number (a ∷ b ∷ []) piece h = absurd (cc h)
number_stays number (a ∷ b ∷ c ∷ []) piece h = absurd (cc h)
number_stays number (a ∷ b ∷ c ∷ d ∷ bytes) piece h =
    number_at number a b c d (bytes ++ piece) ∙ sym (number_at number a b c d bytes) ∙ h

-- ---- five bytes

-- by the test that there are five bytes
abbrev early_by : Standing → (long : Bool) → (a b c d e : ℕ) → Bool
early_by s long a b c d e =
    s.answers && ((long && (not (has_no_bytes (a ∷ b ∷ c ∷ [])) && (e == 255))) && nat_lt d s.number)

early_at : (s : Standing) (a b c d e : ℕ) (bytes : List ℕ) →
    is_early s (a ∷ b ∷ c ∷ d ∷ e ∷ bytes) ≡ early_by s true a b c d e
early_at s a b c d e bytes = ap (λ (t : Bool). early_by s t a b c d e) (reaches_five a b c d e bytes)

-- ---- an error whose number is below the one that is due

-- What more bytes change: nothing of whether an error stands first and of its number; or less than
-- a packet stood there; or a payload past the limit does, whatever number is due.
abbrev pub Grows : (limit : ℕ) → Standing → (bytes more : List ℕ) → Type 0
Grows limit s bytes more =
    ((is_early s more ≡ is_early s bytes) ×
    (is_early s bytes ≡ true → slice_index_or more 3 0 ≡ slice_index_or bytes 3 0))
    ⊎ ((is_early s bytes ≡ false) × (first_packet limit s.number bytes ≡ Short))
    ⊎ ((is_early s bytes ≡ false) × (first_packet limit s.number bytes ≡ TooLarge) ×
    ((number : ℕ) → first_packet limit number more ≡ TooLarge))

abbrev pub header_found : (limit number a b c d : ℕ) → (bytes : List ℕ) → (long whole : Bool) → Found
header_found limit number a b c d bytes long whole =
    by_tests long whole (d == number) (announced a b c == max_payload_len) d
    (take (announced a b c) bytes) (next_number number) (drop (announced a b c) bytes)
    (packet_by (limit / max_payload_len) limit (0 + announced a b c) (next_number number)
    (drop (announced a b c) bytes))

pub header_at : (limit number a b c d : ℕ) (bytes : List ℕ) → first_packet limit number (a ∷ b ∷ c ∷ d ∷ bytes)
    ≡ header_found limit number a b c d bytes (nat_lt limit (0 + announced a b c))
    (nat_le (announced a b c) (length bytes))
header_at limit number a b c d bytes =
    ap (λ (n : ℕ). packet_by n limit 0 number (a ∷ b ∷ c ∷ d ∷ bytes))
    (add-one (limit / max_payload_len))

-- a header past the limit tells so by itself, and one of which a byte is missing that the packet is no whole one
long_found : (limit number a b c d : ℕ) (bytes : List ℕ) → nat_lt limit (0 + announced a b c) ≡
    true → first_packet limit number (a ∷ b ∷ c ∷ d ∷ bytes) ≡ TooLarge
long_found limit number a b c d bytes p =
    header_at limit number a b c d bytes ∙
    ap (λ (t : Bool). header_found limit number a b c d bytes t
    (nat_le (announced a b c) (length bytes))) p

short_found : (limit number a b c d : ℕ) (bytes : List ℕ) → nat_lt limit (0 + announced a b c) ≡
    false → nat_le (announced a b c) (length bytes) ≡ false
    → first_packet limit number (a ∷ b ∷ c ∷ d ∷ bytes) ≡ Short
short_found limit number a b c d bytes p q = header_at limit number a b c d bytes ∙
    (λ i. header_found limit number a b c d bytes (p i) (q i))

-- a packet of no bytes carries no error
no_bytes_said : (a b c : ℕ) → nat_le (announced a b c) 0 ≡ true → has_no_bytes (a ∷ b ∷ c ∷ []) ≡ true
no_bytes_said a b c q = grind (arith, nat_tests)

abbrev early_where : Standing → (five none carried : Bool) → ℕ → Bool
early_where s five none carried d = s.answers && ((five && (not none && carried)) && nat_lt d s.number)

never_early : (s : Standing) (five carried : Bool) (d : ℕ) → early_where s five true carried d ≡ false
never_early s five carried d = ap (λ (t : Bool). s.answers && (t && nat_lt d s.number)) (and_no five) ∙ and_no s.answers

none_early : (s : Standing) (a b c d : ℕ) (bytes : List ℕ) → nat_le (announced a b c) 0 ≡ true →
    is_early s (a ∷ b ∷ c ∷ d ∷ bytes) ≡ false
none_early s a b c d bytes q =
    ap (λ (t : Bool). early_where s (nat_lt 4 (length (a ∷ b ∷ c ∷ d ∷ bytes))) t
    (slice_index_or bytes 0 0 == 255) d) (no_bytes_said a b c q)
    ∙ never_early s (nat_lt 4 (length (a ∷ b ∷ c ∷ d ∷ bytes))) (slice_index_or bytes 0 0 == 255) d

-- four bytes alone
four_grow : (limit a b c d : ℕ) (s : Standing) (piece : List ℕ) (long whole : Bool) →
    nat_lt limit (0 + announced a b c) ≡ long → nat_le (announced a b c) 0 ≡ whole
    → Grows limit s (a ∷ b ∷ c ∷ d ∷ []) (a ∷ b ∷ c ∷ d ∷ piece)
four_grow limit a b c d s piece true whole p q =
    inr (inr (
      and_no s.answers,
      long_found limit s.number a b c d [] p,
      λ number. long_found limit number a b c d piece p,
    ))
four_grow limit a b c d s piece false false p q =
    inr (inl (and_no s.answers, short_found limit s.number a b c d [] p q))
four_grow limit a b c d s piece false true p q = inl (none_early s a b c d piece q ∙ sym (and_no s.answers), λ h. refl)

pub early_grows : (limit : ℕ) (s : Standing) (bytes piece : List ℕ) → Grows limit s bytes (bytes ++ piece)
early_grows limit s [] piece =
    inr (inl (
      and_no s.answers,
      ap (λ (n : ℕ). packet_by n limit 0 s.number []) (add-one (limit / max_payload_len)),
    ))
early_grows limit s (a ∷ []) piece =
    inr (inl (
      and_no s.answers,
      ap (λ (n : ℕ). packet_by n limit 0 s.number (a ∷ [])) (add-one (limit / max_payload_len)),
    ))
early_grows limit s (a ∷ b ∷ []) piece =
    inr (inl (
      and_no s.answers,
      ap (λ (n : ℕ). packet_by n limit 0 s.number (a ∷ b ∷ []))
          (add-one (limit / max_payload_len)),
    ))
early_grows limit s (a ∷ b ∷ c ∷ []) piece =
    inr (inl (
      and_no s.answers,
      ap (λ (n : ℕ). packet_by n limit 0 s.number (a ∷ b ∷ c ∷ []))
          (add-one (limit / max_payload_len)),
    ))
early_grows limit s (a ∷ b ∷ c ∷ d ∷ []) piece =
    four_grow limit a b c d s piece (nat_lt limit (0 + announced a b c))
    (nat_le (announced a b c) 0) refl refl
early_grows limit s (a ∷ b ∷ c ∷ d ∷ e ∷ bytes) piece =
    inl (early_at s a b c d e (bytes ++ piece) ∙ sym (early_at s a b c d e bytes), λ h. refl)
