-- A UUID's text holds no colon, and is read back.
use Rattle.std.proofs.Common.{◌≡◌, ℕ, ◌+◌, ◌*◌, ◌<◌, Bool, true, false, List, [], length, get_or, slice_index, take}
use Rattle.std.proofs.Common.{drop, All, Option, Some, None, Result, Ok, Err, refl, sym, ◌∙◌, ap, arith, inl, is_some}
use Rattle.std.proofs.Common.{is_ok, true≢false, unwrap_or, ◌==◌, ◌&&◌, cond}
use Rattle.std.specs.List.{list_all}
use Rattle.std.specs.Option.{ok_or}
use Rattle.std.proofs.lemmas.Bool.Decides.{nat_tests}
use Rattle.std.proofs.lemmas.List.Sums.{AllPass-from_list_all}
use Rattle.uuid.specs.Text.{by_index, byte_of_digits, digit_place, has_hyphens, has_urn_prefix, hex_digit}
use Rattle.uuid.specs.Text.{hyphenated_text, is_hex_digit, is_hyphen_place, lower, nibble, parsed, parsed_braced}
use Rattle.uuid.specs.Text.{parsed_hyphenated, parsed_simple, parsed_urn, digits_of, value_of}
use Rattle.uuid.proofs.RoundTrips.{parses_hyphenated}
use Rattle.uuid.proofs.TextLemmas.{by_index_at, by_index_length, nibble_small}
use Rattle.mysql_replication.specs.Sids.{uuid_of}
use Rattle.mysql_replication.specs.declared.error.SidError.{SidError}
use Rattle.mysql_replication.specs.declared.error.SidError.TheVariants.{BadUuid}
use Rattle.mysql_replication.proofs.Lacking.{Lacks}

none_is_not_some : (u : List ℕ) → None ≡ Some u → ⊥
none_is_not_some u h = absurd (true≢false (sym (ap (λ (o : Option (List ℕ)). is_some o) h)))

err_is_not_ok : (u : List ℕ) → Err BadUuid ≡ Ok u → ⊥
err_is_not_ok u h = absurd (true≢false (sym (ap (λ (r : Result (List ℕ) SidError). is_ok r) h)))

abbrev ok_part : Result (List ℕ) SidError → List ℕ
ok_part (Ok u) = u
ok_part (Err e) = []

-- Sixteen bytes.
pub record IsUuid (bytes : List ℕ) : Type 0 where
  pub long : length bytes ≡ 16
  pub small : All (λ b. b < 256) bytes

hex_is_no_colon : (d : ℕ) → d < 16 → (hex_digit lower d == 58) ≡ false
hex_is_no_colon d small = grind (arith, nat_tests)

place_is_no_colon : (b : Bool) (d : ℕ) → d < 16 → (cond b 45 (hex_digit lower d) == 58) ≡ false
place_is_no_colon true d small = refl
place_is_no_colon false d small = hex_is_no_colon d small

pub uuid_lacks_colon : (bytes : List ℕ) → Lacks 58 (hyphenated_text lower bytes)
uuid_lacks_colon bytes k d within =
    let long : length (hyphenated_text lower bytes) ≡ 36 = by_index_length 36 _ in
    let under : k < 36 = omega (arith, long, within) in
    rw (by_index_at 36 (λ j. cond (is_hyphen_place j) 45 (hex_digit lower (nibble bytes (digit_place j)))) k d under)
    (place_is_no_colon (is_hyphen_place k) (nibble bytes (digit_place k)) (nibble_small bytes (digit_place k)))

pub uuid_reads_back : (bytes : List ℕ) → IsUuid bytes → uuid_of (hyphenated_text lower bytes) ≡ Ok bytes
unfolding uuid_of
uuid_reads_back bytes is =
    ap (λ (o : Option (List ℕ)). ok_or o BadUuid)
    (sym (parses_hyphenated lower bytes (inl refl) is.long is.small))

hex_value_small : (c : ℕ) → is_hex_digit c ≡ true → value_of c < 16
hex_value_small c h = grind (arith, nat_tests)

byte_small : (x y : ℕ) → x < 16 → y < 16 → x * 16 + y < 256
byte_small x y h k = omega arith

simple_is_uuid : (a b : Bool) (hex u : List ℕ) → (length hex == 32) ≡ a → list_all is_hex_digit hex ≡ b
    → cond (a && b) (Some (by_index 16 (byte_of_digits hex))) None ≡ Some u → IsUuid u
simple_is_uuid false b hex u len all h = absurd (none_is_not_some u h)
simple_is_uuid true false hex u len all h = absurd (none_is_not_some u h)
simple_is_uuid true true hex u len all h =
    let same : by_index 16 (byte_of_digits hex) ≡ u = ap (λ (o : Option (List ℕ)). unwrap_or o []) h in
    let long : length hex ≡ 32 = grind (arith, nat_tests) in
    let digits : (k : ℕ) → k < 32 → value_of (get_or hex k 0) < 16 = λ k within.
    hex_value_small (get_or hex k 0) (AllPass-from_list_all is_hex_digit hex all k 0 (omega (arith, long, within))) in
    record {
      long = ap length (sym same) ∙ by_index_length 16 _;
      small = λ k d within.
          let under : k < 16 = let e = ap length same in let f =
          by_index_length 16 (byte_of_digits hex) in omega (arith, e, f, within) in
          rw (← same, by_index_at 16 (byte_of_digits hex) k d under)
          (byte_small _ _ (digits (2 * k) (omega arith)) (digits (2 * k + 1) (omega arith)));
    }

where_some : (b : Bool) (o : Option (List ℕ)) (u : List ℕ) → cond b o None ≡ Some u → o ≡ Some u
where_some true o u h = h
where_some false o u h = absurd (none_is_not_some u h)

parsed_simple_is : (hex u : List ℕ) → parsed_simple hex ≡ Some u → IsUuid u
parsed_simple_is hex u h = simple_is_uuid (length hex == 32) (list_all is_hex_digit hex) hex u refl refl h

parsed_hyphenated_is : (s u : List ℕ) → parsed_hyphenated s ≡ Some u → IsUuid u
parsed_hyphenated_is s u h =
    parsed_simple_is (digits_of s) u
    (where_some ((length s == 36) && has_hyphens s) (parsed_simple (digits_of s)) u h)

by_length : {P : Type 0} (a b d e : Bool) (w x y z : Option (List ℕ)) (u : List ℕ) →
    cond a w (cond b x (cond d y (cond e z None))) ≡ Some u
    → (w ≡ Some u → P) → (x ≡ Some u → P) → (y ≡ Some u → P) → (z ≡ Some u → P) → P
by_length true b d e w x y z u h p q r s = p h
by_length false true d e w x y z u h p q r s = q h
by_length false false true e w x y z u h p q r s = r h
by_length false false false e w x y z u h p q r s = s (where_some e z u h)

-- What a text of a UUID is read as has sixteen bytes.
parsed_is : (s u : List ℕ) → parsed s ≡ Some u → IsUuid u
parsed_is s u h =
    by_length (length s == 32) (length s == 36) (length s == 38) (length s == 45) (parsed_simple s)
    (parsed_hyphenated s) (parsed_braced s) (parsed_urn s) u h
    (λ k. parsed_simple_is s u k) (λ k. parsed_hyphenated_is s u k)
    (λ k. parsed_hyphenated_is (take 36 (drop 1 s)) u
    (where_some ((length s == 38) && (slice_index s 0 == 123) && (slice_index s 37 == 125))
    (parsed_hyphenated (take 36 (drop 1 s))) u k))
    (λ k. parsed_hyphenated_is (drop 9 s) u
    (where_some ((length s == 45) && has_urn_prefix s) (parsed_hyphenated (drop 9 s)) u k))

given_uuid : (o : Option (List ℕ)) (u : List ℕ) → ok_or o BadUuid ≡ Ok u → o ≡ Some u
given_uuid None u h = absurd (err_is_not_ok u h)
given_uuid (Some v) u h = ap Some (ap (λ (r : Result (List ℕ) SidError). ok_part r) h)

pub uuid_is : (s u : List ℕ) → uuid_of s ≡ Ok u → IsUuid u
unfolding uuid_of
uuid_is s u h = parsed_is s u (given_uuid (parsed s) u h)
