-- The fault of a text's characters, read from its front.
use Rattle.std.proofs.Common.{◌≡◌, Option, not, sym, ◌∙◌, ap, arith, ℕ, ◌≤◌, ◌<◌, length, length-append, true, List}
use Rattle.std.proofs.Common.{◌++◌, ◌+◌}
use Rattle.std.specs.Char.{encode_utf8}
use Rattle.std.specs.List.{find}
use Rattle.std.specs.Str.{chars, IsUtf8}
use Rattle.std.proofs.lemmas.Str.{chars_past_char, length-encode, len_utf8_bounds}
use Rattle.std.proofs.lemmas.Bool.Decides.{nat_tests}
use Rattle.mysql_replication.specs.Tags.{begins_tag, goes_on_tag, tag_fault, fault_of_chars, fault_of_others}

-- A text of at most 32 bytes that is not empty is at fault where its characters are.
pub tag_fault_of_chars : (text : List ℕ) → 0 < length text → length text ≤ 32 → tag_fault text ≡
    fault_of_chars (chars text)
tag_fault_of_chars text some few = grind (arith, nat_tests)

-- Where the first character may begin a tag, the fault is that of those behind it.
pub tag_fault_behind : (text rest : List ℕ) (c : ℕ) (r : Option ℕ) → IsUtf8 text → text ≡
    encode_utf8 c ++ rest → length text ≤ 32
    → begins_tag c ≡ true → r ≡ find (λ other. not (goes_on_tag other)) (chars rest) →
    tag_fault text ≡ fault_of_others r
tag_fault_behind text rest c r valid splits few begins found =
    let long : length text ≡ length (encode_utf8 c) + length rest = ap length splits ∙
    length-append (encode_utf8 c) rest in
    let first = length-encode c in
    let bounds = len_utf8_bounds c in
    let some : 0 < length text = omega (arith, long, first, bounds) in
    tag_fault_of_chars text some few ∙
    ap fault_of_chars (chars_past_char text rest c valid splits) ∙
    (rw begins (ap fault_of_others (sym found)))
