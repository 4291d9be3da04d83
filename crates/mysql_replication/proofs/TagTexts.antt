-- What a tag's text holds.
use Rattle.std.proofs.Common.{◌≡◌, ℕ, ◌<◌, Bool, true, false, true≢false, is_some, List, [], ◌∷◌, length, get_or, inl}
use Rattle.std.proofs.Common.{inr, Option, Some, None, refl, sym, ◌∙◌, ap, arith, not, ◌==◌, cond, nat_lt}
use Rattle.std.specs.List.{find, list_all}
use Rattle.std.specs.Str.{chars, IsAscii, IsUtf8}
use Rattle.std.proofs.lemmas.Bool.Decides.{nat_tests}
use Rattle.std.proofs.lemmas.Bool.{cases_lt}
use Rattle.std.proofs.lemmas.List.{get_or_past}
use Rattle.std.proofs.lemmas.List.Sums.{AllPass-from_list_all}
use Rattle.std.proofs.lemmas.Str.{encodes-IsAscii, encodes-chars}
use Rattle.mysql_replication.specs.Sids.{begins_with_digit}
use Rattle.mysql_replication.specs.Tags.{begins_tag, fault_of_chars, fault_of_others, goes_on_tag, is_digit, tag_fault}
use Rattle.mysql_replication.specs.declared.tag.InvalidTag.{InvalidTag}
use Rattle.mysql_replication.specs.declared.tag.InvalidTag.TheVariants.{Empty, TooLong, InvalidFirstChar, InvalidChar}
use Rattle.mysql_replication.proofs.Lacking.{Lacks, lacks_from}

some_is_not_none : {A : Type 0} (x : A) → Some x ≡ None → ⊥
some_is_not_none x h = absurd (true≢false (ap (λ o. is_some o) h))

going_on : (b : Bool) (c : ℕ) (xs : List ℕ) → goes_on_tag c ≡ b →
    fault_of_others (cond (not b) (Some c) (find (λ other. not (goes_on_tag other)) xs)) ≡ None
    → (fault_of_others (find (λ other. not (goes_on_tag other)) xs) ≡ None) × (goes_on_tag c ≡ true)
going_on true c xs e h = (h, e)
going_on false c xs e h = absurd (some_is_not_none (InvalidChar c) h)

none_found : (xs : List ℕ) → fault_of_others (find (λ other. not (goes_on_tag other)) xs) ≡ None →
    list_all goes_on_tag xs ≡ true
none_found [] h = refl
none_found (c ∷ xs) h =
    let p = going_on (goes_on_tag c) c xs refl h in
    rw (p.1, none_found xs p.0) refl

beginning : (b : Bool) (c : ℕ) (xs : List ℕ) → begins_tag c ≡ b
    → cond b (fault_of_others (find (λ other. not (goes_on_tag other)) xs)) (Some (InvalidFirstChar c)) ≡ None
    → (fault_of_others (find (λ other. not (goes_on_tag other)) xs) ≡ None) × (begins_tag c ≡ true)
beginning true c xs e h = (h, e)
beginning false c xs e h = absurd (some_is_not_none (InvalidFirstChar c) h)

begun_goes_on : (c : ℕ) → begins_tag c ≡ true → goes_on_tag c ≡ true
begun_goes_on c h = rw h refl

-- Characters without a fault may all stand in a tag.
all_go_on : (cs : List ℕ) → fault_of_chars cs ≡ None → list_all goes_on_tag cs ≡ true
all_go_on [] h = refl
all_go_on (c ∷ cs) h =
    let p = beginning (begins_tag c) c cs refl h in
    rw (begun_goes_on c p.1, none_found cs p.0) refl

going_is_ascii : (c : ℕ) → goes_on_tag c ≡ true → c < 128
going_is_ascii c h = grind (arith, nat_tests)

ascii : (cs : List ℕ) → list_all goes_on_tag cs ≡ true → IsAscii cs
ascii cs h i =
    elim (cases_lt i (length cs)) [
      | inl under ↦ going_is_ascii (get_or cs i 0) (AllPass-from_list_all goes_on_tag cs h i 0 under)
      | inr over ↦ rw (get_or_past cs i 0 over) (omega arith)
    ]

short : (a b : Bool) (text : List ℕ) (r : Option InvalidTag) →
    cond a (Some Empty) (cond b (Some (TooLong (length text))) r) ≡ None → (a ≡ false) ×
    (b ≡ false) × (r ≡ None)
short true b text r h = absurd (some_is_not_none Empty h)
short false true text r h = absurd (some_is_not_none (TooLong (length text)) h)
short false false text r h = (refl, refl, h)

-- A tag's text is that of its characters.
pub chars_of_tag : (text : List ℕ) → IsUtf8 text → tag_fault text ≡ None → text ≡ chars text
chars_of_tag text valid h =
    let p = short (length text == 0) (nat_lt 32 (length text)) text (fault_of_chars (chars text)) h in
    sym (encodes-chars text valid) ∙ encodes-IsAscii (chars text) (ascii (chars text) (all_go_on (chars text) p.2))

going_is_no_colon : (c : ℕ) → goes_on_tag c ≡ true → (c == 58) ≡ false
going_is_no_colon c h = grind (arith, nat_tests)

pub tag_lacks_colon : (text : List ℕ) → IsUtf8 text → tag_fault text ≡ None → Lacks 58 text
tag_lacks_colon text valid h =
    let p = short (length text == 0) (nat_lt 32 (length text)) text (fault_of_chars (chars text)) h in
    let all : list_all goes_on_tag text ≡ true = rw (chars_of_tag text valid h) (all_go_on (chars text) p.2) in
    lacks_from goes_on_tag 58 going_is_no_colon text all

begun_is_no_digit : (c : ℕ) → begins_tag c ≡ true → is_digit c ≡ false
begun_is_no_digit c h = grind (arith, nat_tests)

no_digit_ahead : (text : List ℕ) → fault_of_chars text ≡ None → begins_with_digit text ≡ false
no_digit_ahead [] h = refl
no_digit_ahead (c ∷ cs) h = begun_is_no_digit c (beginning (begins_tag c) c cs refl h).1

pub tag_begins_with_no_digit : (text : List ℕ) → IsUtf8 text → tag_fault text ≡ None → begins_with_digit text ≡ false
tag_begins_with_no_digit text valid h =
    let p = short (length text == 0) (nat_lt 32 (length text)) text (fault_of_chars (chars text)) h in
    let e : begins_with_digit (chars text) ≡ false = no_digit_ahead (chars text) p.2 in
    ap begins_with_digit (chars_of_tag text valid h) ∙ e
