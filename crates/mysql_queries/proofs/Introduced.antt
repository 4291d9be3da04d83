-- A literal in hexadecimal behind the introducer that a text begins with, or none.
use Rattle.std.proofs.Common.{◌≡◌, ℕ, suc, ◌+◌, true, false, List, [], ◌∷◌, ◌++◌, length, take, drop, refl, sym, ap}
use Rattle.std.proofs.Common.{◌∙◌, append_assoc, arith, subst, length-append}
use Rattle.mysql_queries.specs.Literals.{IsHexLiteral, IsIntroduced, IsIntroducer}
use Rattle.mysql_queries.specs.LiteralRuns.{IsHexRun, IsIntroducedRun, begins_hex}
use Rattle.mysql_bytes.specs.declared.spelling.Spelling.{Spelling}
use Rattle.mysql_bytes.specs.declared.spelling.Spelling.TheVariants.{Hexadecimal, Quoted}
use Rattle.mysql_queries.proofs.Fronts.{IsNoIntroduced, no_introduced}
use Rattle.mysql_queries.proofs.HexDigits.{IsNoHex}
use Rattle.mysql_queries.proofs.OneContent.{one_introducer}
use Rattle.mysql_queries.proofs.QuerySlices.{take_front}

-- the rest behind the same introducer
there : (t introducer rest run after : List ℕ) → IsIntroducer introducer → t ≡ introducer ++ rest →
    t ≡ run ++ after → (r : IsIntroducedRun Hexadecimal run after) → rest ≡ r.literal ++ after
there t introducer rest run after is e j r =
    (one_introducer introducer r.introducer rest (r.literal ++ after) is r.is (sym e ∙ j ∙
    ap (λ y. y ++ after) r.spelled ∙ append_assoc r.introducer r.literal after)).1

same_literal : (run after bytes : List ℕ) (r : IsIntroducedRun Hexadecimal run after) →
    (h : IsIntroduced Hexadecimal run bytes) → h.literal ≡ r.literal
same_literal run after bytes r h =
    (one_introducer h.introducer r.introducer h.literal r.literal h.is r.is (sym h.spelled ∙
    r.spelled)).1

-- none stands there where none stands behind the introducer
pub none_behind : (t introducer rest : List ℕ) → IsIntroducer introducer → t ≡ introducer ++ rest →
    IsNoHex rest → IsNoIntroduced Hexadecimal t
none_behind t introducer rest is e n run after bytes j r h =
    n r.literal after bytes (there t introducer rest run after is e j r) r.hexadecimal
    (subst (λ y. IsHexLiteral y bytes) (same_literal run after bytes r h) h.hexadecimal)

-- nor where no introducer comes first
pub none_without : (t : List ℕ) →
    ((introducer rest : List ℕ) → IsIntroducer introducer → t ≡ introducer ++ rest → ⊥) →
    IsNoIntroduced Hexadecimal t
none_without t n run after bytes j r h =
    n r.introducer (r.literal ++ after) r.is (j ∙ ap (λ y. y ++ after) r.spelled ∙
    append_assoc r.introducer r.literal after)

-- none stands there where byte strings are in quotes, and where they aren't by what is known then
pub none_by : (sp : Spelling) (t : List ℕ) → (sp ≡ Hexadecimal → IsNoIntroduced Hexadecimal t) → IsNoIntroduced sp t
none_by Quoted t h = no_introduced t
none_by Hexadecimal t h = h refl

-- a text that doesn't begin with `0x` begins with no literal in hexadecimal
pub none_first : (t : List ℕ) → begins_hex t ≡ false → IsNoHex t
none_first t b run after bytes j r h = let f : true ≡ false =
    sym (ap begins_hex (j ∙ ap (λ y. y ++ after) r.spelled)) ∙ b in cc

drop_front_more : (t y : List ℕ) (k : ℕ) → drop (length t + k) (t ++ y) ≡ drop k y
drop_front_more [] y k = ap (λ n. drop n y) (omega arith)
drop_front_more (b ∷ t) y k = let n : length (b ∷ t) + k ≡ suc (length t + k) = omega arith in
    rw n (drop_front_more t y k)

taken : (t introducer rest : List ℕ) (n len : ℕ) → t ≡ introducer ++ rest → n ≡
    length introducer + len → take n t ≡ introducer ++ take len rest
taken t introducer rest n len e m = ap (λ k. take k t) m ∙ ap (take (length introducer + len)) e ∙
    take_front introducer rest len

dropped : (t introducer rest : List ℕ) (n len : ℕ) → t ≡ introducer ++ rest → n ≡
    length introducer + len → drop n t ≡ drop len rest
dropped t introducer rest n len e m = ap (λ k. drop k t) m ∙ ap (drop (length introducer + len)) e ∙
    drop_front_more introducer rest len

pub introduced_run : (t introducer rest : List ℕ) (n len : ℕ) → IsIntroducer introducer → t ≡
    introducer ++ rest → n ≡ length introducer + len → IsHexRun (take len rest) (drop len rest) →
    IsIntroducedRun Hexadecimal (take n t) (drop n t)
introduced_run t introducer rest n len is e m h = record {
  allowed = refl;
  introducer = introducer;
  literal = take len rest;
  is = is;
  spelled = taken t introducer rest n len e m;
  hexadecimal = subst (IsHexRun (take len rest)) (sym (dropped t introducer rest n len e m)) h;
}

pub introduced_read : (t introducer rest bytes : List ℕ) (n len : ℕ) → IsIntroducer introducer → t ≡
    introducer ++ rest → n ≡ length introducer + len → IsHexLiteral (take len rest) bytes →
    IsIntroduced Hexadecimal (take n t) bytes
introduced_read t introducer rest bytes n len is e m h = record {
  allowed = refl;
  introducer = introducer;
  literal = take len rest;
  is = is;
  spelled = taken t introducer rest n len e m;
  hexadecimal = h;
}

pub behind_len : (t introducer rest : List ℕ) → t ≡ introducer ++ rest → length t ≡ length introducer + length rest
behind_len t introducer rest e = ap length e ∙ length-append introducer rest
