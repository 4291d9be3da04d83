-- Which literal stands at the front of a text.
use Rattle.std.proofs.Common.{◌≡◌, ◌≢◌, ℕ, Bool, ◌≤◌, ◌<◌, true, false, List, [], ◌∷◌, ◌++◌, length, take, get_or, map}
use Rattle.std.proofs.Common.{codes, refl, sym, ap, ◌∙◌, inl, inr, arith, subst, ℤ}
use Rattle.mysql_queries.specs.Tokens.{has_escapes, IsQuoted, single_quote, dash}
use Rattle.mysql_queries.specs.Literals.{lower, is_digit, AreDigits, IsNumber, IsString, IsHexLiteral, IsIntroduced}
use Rattle.mysql_queries.specs.Literals.{IsLiteral}
use Rattle.mysql_bytes.specs.declared.content.Content.{Content}
use Rattle.mysql_bytes.specs.declared.content.Content.TheVariants.{Null, Number, Bytes}
use Rattle.mysql_bytes.specs.declared.mode.Mode.{Mode}
use Rattle.mysql_queries.specs.LiteralRuns.{begins_hex, IsDigitRun, IsHexRun, IsIntroducedRun, IsLiteralRun}
use Rattle.mysql_queries.specs.LiteralViews.{IsNoLiteral}
use Rattle.mysql_queries.proofs.OneContent.{dash_sort, digits_sort, hex_sort, introduced_is, introduced_sort, null_sort}
use Rattle.mysql_queries.proofs.OneContent.{number_sort, second_sort, sort_of, string_sort}
use Rattle.mysql_queries.proofs.HexDigits.{IsNoHex}
use Rattle.mysql_queries.proofs.StringParts.{IsNoString}
use Rattle.mysql_bytes.specs.declared.spelling.Spelling.{Spelling}
use Rattle.mysql_bytes.specs.declared.spelling.Spelling.TheVariants.{Hexadecimal, Quoted}

quoted_sort : (escapes : Bool) (run rest : List ℕ) → IsQuoted escapes single_quote run rest → sort_of run ≡ 0
unfolding sort_of
quoted_sort escapes run rest q = rw q.spelled refl

hex_run_sort : (run rest : List ℕ) → IsHexRun run rest → sort_of run ≡ 2
unfolding sort_of second_sort
hex_run_sort run rest h = rw h.spelled refl

digit_run_sort : (run rest : List ℕ) → IsDigitRun run rest → sort_of run ≡ 3
digit_run_sort run rest h = elim h.spelled [
  | inl k ↦ subst (λ y. sort_of y ≡ 3) (sym k) (digits_sort h.digits h.each)
  | inr k ↦ subst (λ y. sort_of y ≡ 3) (sym k) (dash_sort h.digits h.each)
]

introduced_run_sort : (sp : Spelling) (run rest : List ℕ) → IsIntroducedRun sp run rest → sort_of run ≡ 4
introduced_run_sort sp run rest h =
    subst (λ y. sort_of y ≡ 4) (sym h.spelled) (introduced_sort h.introducer h.literal h.is)

-- a run and the literal that it is
pub data Front (escapes : Bool) (sp : Spelling) : List ℕ → List ℕ → Type 0 where
  null : {run rest : List ℕ} → map lower run ≡ codes "null" → Front escapes sp run rest
  string : {run rest : List ℕ} (bytes : List ℕ) → IsQuoted escapes single_quote run rest →
      IsString escapes run bytes → Front escapes sp run rest
  hexadecimal : {run rest : List ℕ} (bytes : List ℕ) → IsHexRun run rest → IsHexLiteral run bytes →
      Front escapes sp run rest
  number : {run rest : List ℕ} (z : ℤ) → IsDigitRun run rest → IsNumber run z → Front escapes sp run rest
  introduced : {run rest : List ℕ} (bytes : List ℕ) → IsIntroducedRun sp run rest →
      IsIntroduced sp run bytes → Front escapes sp run rest

apart : {escapes : Bool} {sp : Spelling} {run rest : List ℕ} (m n : ℕ) → sort_of run ≡ m →
    sort_of run ≡ n → m ≢ n → Front escapes sp run rest
apart m n e f k = absurd (k (sym e ∙ f))

pub front : (mode : Mode) (sp : Spelling) (run rest : List ℕ) (content : Content) →
    IsLiteralRun mode sp run rest → IsLiteral mode sp run content →
    Front (has_escapes mode single_quote) sp run rest
front mode sp run rest Null h l = null l
front mode sp run rest (Number z) (inl h) l =
    apart 1 3 (null_sort run h) (number_sort run z l) (λ e. absurd (omega arith))
front mode sp run rest (Number z) (inr (inl h)) l =
    apart 0 3 (quoted_sort (has_escapes mode single_quote) run rest h) (number_sort run z l)
    (λ e. absurd (omega arith))
front mode sp run rest (Number z) (inr (inr (inl h))) l =
    apart 2 3 (hex_run_sort run rest h) (number_sort run z l) (λ e. absurd (omega arith))
front mode sp run rest (Number z) (inr (inr (inr (inl h)))) l = number z h l
front mode sp run rest (Number z) (inr (inr (inr (inr h)))) l =
    apart 4 3 (introduced_run_sort sp run rest h) (number_sort run z l) (λ e. absurd (omega arith))
front mode sp run rest (Bytes b) (inl h) (inl l) =
    apart 1 0 (null_sort run h) (string_sort (has_escapes mode single_quote) run b l)
    (λ e. absurd (omega arith))
front mode sp run rest (Bytes b) (inl h) (inr (inl l)) =
    apart 1 2 (null_sort run h) (hex_sort run b l) (λ e. absurd (omega arith))
front mode sp run rest (Bytes b) (inl h) (inr (inr l)) =
    apart 1 4 (null_sort run h) (introduced_is sp run b l) (λ e. absurd (omega arith))
front mode sp run rest (Bytes b) (inr (inl h)) (inl l) = string b h l
front mode sp run rest (Bytes b) (inr (inl h)) (inr (inl l)) =
    apart 0 2 (quoted_sort (has_escapes mode single_quote) run rest h) (hex_sort run b l)
    (λ e. absurd (omega arith))
front mode sp run rest (Bytes b) (inr (inl h)) (inr (inr l)) =
    apart 0 4 (quoted_sort (has_escapes mode single_quote) run rest h) (introduced_is sp run b l)
    (λ e. absurd (omega arith))
front mode sp run rest (Bytes b) (inr (inr (inl h))) (inl l) =
    apart 2 0 (hex_run_sort run rest h) (string_sort (has_escapes mode single_quote) run b l)
    (λ e. absurd (omega arith))
front mode sp run rest (Bytes b) (inr (inr (inl h))) (inr (inl l)) = hexadecimal b h l
front mode sp run rest (Bytes b) (inr (inr (inl h))) (inr (inr l)) =
    apart 2 4 (hex_run_sort run rest h) (introduced_is sp run b l) (λ e. absurd (omega arith))
front mode sp run rest (Bytes b) (inr (inr (inr (inl h)))) (inl l) =
    apart 3 0 (digit_run_sort run rest h) (string_sort (has_escapes mode single_quote) run b l)
    (λ e. absurd (omega arith))
front mode sp run rest (Bytes b) (inr (inr (inr (inl h)))) (inr (inl l)) =
    apart 3 2 (digit_run_sort run rest h) (hex_sort run b l) (λ e. absurd (omega arith))
front mode sp run rest (Bytes b) (inr (inr (inr (inl h)))) (inr (inr l)) =
    apart 3 4 (digit_run_sort run rest h) (introduced_is sp run b l) (λ e. absurd (omega arith))
front mode sp run rest (Bytes b) (inr (inr (inr (inr h)))) (inl l) =
    apart 4 0 (introduced_run_sort sp run rest h)
    (string_sort (has_escapes mode single_quote) run b l) (λ e. absurd (omega arith))
front mode sp run rest (Bytes b) (inr (inr (inr (inr h)))) (inr (inl l)) =
    apart 4 2 (introduced_run_sort sp run rest h) (hex_sort run b l) (λ e. absurd (omega arith))
front mode sp run rest (Bytes b) (inr (inr (inr (inr h)))) (inr (inr l)) = introduced b h l

-- the four letters come first
null_text : (t run rest : List ℕ) → t ≡ run ++ rest → map lower run ≡ codes "null" →
    (4 ≤ length t) × (map lower (take 4 t) ≡ codes "null")
null_text t [] rest e h = cc
null_text t (a ∷ []) rest e h = cc
null_text t (a ∷ b ∷ []) rest e h = cc
null_text t (a ∷ b ∷ c ∷ []) rest e h = cc
null_text t (a ∷ b ∷ c ∷ d ∷ []) rest e h =
    subst (λ y. (4 ≤ length y) × (map lower (take 4 y) ≡ codes "null")) (sym e) (omega arith, h)
null_text t (a ∷ b ∷ c ∷ d ∷ f ∷ x) rest e h = cc

quoted_text : (escapes : Bool) (t run rest : List ℕ) → t ≡ run ++ rest →
    IsQuoted escapes single_quote run rest → (0 < length t) × (get_or t 0 0 ≡ single_quote)
quoted_text escapes t run rest e q =
    subst (λ y. (0 < length y) × (get_or y 0 0 ≡ single_quote))
    (sym (e ∙ ap (λ y. y ++ rest) q.spelled)) (omega arith, refl)

hex_text : (t run rest : List ℕ) → t ≡ run ++ rest → IsHexRun run rest → begins_hex t ≡ true
hex_text t run rest e h = subst (λ y. begins_hex y ≡ true) (sym (e ∙ ap (λ y. y ++ rest) h.spelled)) refl

number_text : (t run rest : List ℕ) (z : ℤ) → t ≡ run ++ rest → IsNumber run z → get_or t 0 0 ≡ single_quote → ⊥
number_text t run rest z e h q = elim h.value [
  | inl k ↦ first h.digits h.are (subst (λ y. get_or y 0 0 ≡ single_quote) (e ∙ ap (λ y. y ++ rest) k.0) q)
  | inr k ↦ (let f : get_or (dash ∷ (h.digits ++ rest)) 0 0 ≡ single_quote =
      subst (λ y. get_or y 0 0 ≡ single_quote) (e ∙ ap (λ y. y ++ rest) k.0) q in
      absurd (omega (arith, f)))
]
  where
    first : (digits : List ℕ) → AreDigits digits → get_or (digits ++ rest) 0 0 ≡ single_quote → ⊥
    first [] d f = d.some refl
    first (b ∷ digits) d f = let g : true ≡ false = sym d.each.0 ∙ ap is_digit f in cc

-- an introducer comes first
introduced_text : (sp : Spelling) (t run rest : List ℕ) → t ≡ run ++ rest →
    IsIntroducedRun sp run rest → (0 < length t) × (get_or t 0 0 ≡ 0x5f) × (begins_hex t ≡ false)
introduced_text sp t run rest e h = elim h.is [
  | inl k ↦ subst (λ y. (0 < length y) × (get_or y 0 0 ≡ 0x5f) × (begins_hex y ≡ false))
      (sym (e ∙ ap (λ y. y ++ rest) (h.spelled ∙ ap (λ y. y ++ h.literal) k))) (
        omega arith,
        refl,
        refl,
      )
  | inr k ↦ subst (λ y. (0 < length y) × (get_or y 0 0 ≡ 0x5f) × (begins_hex y ≡ false))
      (sym (e ∙ ap (λ y. y ++ rest) (h.spelled ∙ ap (λ y. y ++ h.literal) k))) (
        omega arith,
        refl,
        refl,
      )
]

hex_no_quote : (t : List ℕ) → begins_hex t ≡ true → get_or t 0 0 ≡ single_quote → ⊥
hex_no_quote [] h q = cc
hex_no_quote (a ∷ []) h q = cc
hex_no_quote (a ∷ b ∷ x) h q = let e : begins_hex (single_quote ∷ b ∷ x) ≡ true =
    subst (λ c. begins_hex (c ∷ b ∷ x) ≡ true) q h in cc

-- the four letters of NULL do not come first
abbrev pub IsNoNull : List ℕ → Type 0
IsNoNull t = (4 ≤ length t) × (map lower (take 4 t) ≡ codes "null") → ⊥

pub no_quoted : (mode : Mode) (sp : Spelling) (t : List ℕ) → IsNoNull t → get_or t 0 0 ≡
    single_quote → IsNoString (has_escapes mode single_quote) t → IsNoLiteral mode sp t
no_quoted mode sp t n q h run rest content e r l = elim (front mode sp run rest content r l) [
  | null k ↦ n (null_text t run rest e k)
  | string bytes k s ↦ h run rest bytes e k s
  | hexadecimal bytes k s ↦ hex_no_quote t (hex_text t run rest e k) q
  | number z k s ↦ number_text t run rest z e s q
  | introduced bytes k s ↦ (let f : 0x5f ≡ single_quote =
      sym (introduced_text sp t run rest e k).1 ∙ q in absurd (omega (arith, f)))
]

pub no_hexadecimal : (mode : Mode) (sp : Spelling) (t : List ℕ) → IsNoNull t →
    (0 < length t → get_or t 0 0 ≢ single_quote) → begins_hex t ≡ true → IsNoHex t →
    IsNoLiteral mode sp t
no_hexadecimal mode sp t n q b h run rest content e r l = elim (front mode sp run rest content r l) [
  | null k ↦ n (null_text t run rest e k)
  | string bytes k s ↦ q (quoted_text (has_escapes mode single_quote) t run rest e k).0
      (quoted_text (has_escapes mode single_quote) t run rest e k).1
  | hexadecimal bytes k s ↦ h run rest bytes e k s
  | number z k s ↦ (let f : true ≡ false = sym b ∙ ap begins_hex e ∙ k.other in cc)
  | introduced bytes k s ↦ (let f : true ≡ false = sym b ∙ (introduced_text sp t run rest e k).2 in cc)
]

-- no run at the front of the text is a literal behind an introducer
abbrev pub IsNoIntroduced : Spelling → List ℕ → Type 0
IsNoIntroduced sp t = (run rest bytes : List ℕ) → t ≡ run ++ rest → IsIntroducedRun sp run rest →
    IsIntroduced sp run bytes → ⊥

-- where byte strings are in quotes none is
pub no_introduced : (t : List ℕ) → IsNoIntroduced Quoted t
no_introduced t run rest bytes e r h = quoted_no_hexadecimal r.allowed
  where
    quoted_no_hexadecimal : Quoted ≡ Hexadecimal → ⊥
    quoted_no_hexadecimal e = cc

pub no_number : (mode : Mode) (sp : Spelling) (t : List ℕ) → IsNoNull t →
    (0 < length t → get_or t 0 0 ≢ single_quote) → begins_hex t ≡ false →
    ((run rest : List ℕ) (z : ℤ) → t ≡ run ++ rest → IsDigitRun run rest → IsNumber run z → ⊥) →
    IsNoIntroduced sp t → IsNoLiteral mode sp t
no_number mode sp t n q b h i run rest content e r l = elim (front mode sp run rest content r l) [
  | null k ↦ n (null_text t run rest e k)
  | string bytes k s ↦ q (quoted_text (has_escapes mode single_quote) t run rest e k).0
      (quoted_text (has_escapes mode single_quote) t run rest e k).1
  | hexadecimal bytes k s ↦ (let f : true ≡ false = sym (hex_text t run rest e k) ∙ b in cc)
  | number z k s ↦ h run rest z e k s
  | introduced bytes k s ↦ i run rest bytes e k s
]
