-- Each text begins with a literal or with none.
use Rattle.std.proofs.Common.{◌≡◌, ◌≢◌, ℕ, ◌+◌, ◌*◌, ◌^◌, ◌≤◌, ◌<◌, Bool, true, false, ◌⊎◌, List, [], ◌∷◌, ◌++◌, length}
use Rattle.std.proofs.Common.{take, drop, map, flat_map, codes, refl, sym, ap, ◌∙◌, inl, inr, append_assoc, arith}
use Rattle.std.proofs.Common.{subst, take-append-drop, ℤ, pos, neg_ℤ, nat_lt, nat_eq, get_or}
use Rattle.std.specs.List.{AllByRecursion}
use Rattle.std.specs.Cmp.Lexicographic.{pointwise, same_text, other_text}
use Rattle.std.proofs.lemmas.Bool.Decides.{nat_tests, eqb_tells}
use Rattle.mysql_queries.specs.Tokens.{has_escapes, inside_bytes, single_quote, backslash, dash}
use Rattle.mysql_queries.specs.Literals.{lower, is_digit, is_hex, hex_value, digits_value, inside_content, IsNumber}
use Rattle.mysql_queries.specs.Literals.{IsHexLiteral, IsIntroducer, SpellsInHex, IsLiteral, text_introducer}
use Rattle.mysql_queries.specs.Literals.{binary_introducer}
use Rattle.mysql_bytes.specs.declared.mode.Mode.{Mode}
use Rattle.mysql_queries.specs.LiteralRuns.{EndsBefore, begins_hex, IsDigitRun, IsHexRun, IsLiteralRun}
use Rattle.mysql_queries.specs.LiteralViews.{IsNoLiteral}
use Rattle.mysql_bytes.specs.declared.content.Content.{Content}
use Rattle.mysql_bytes.specs.declared.content.Content.TheVariants.{Null, Number, Bytes}
use Rattle.mysql_queries.proofs.FirstBytes.{bool_tells}
use Rattle.mysql_queries.proofs.SomeToken.{InsideOf, some_inside, RunOf, some_run, Begins}
use Rattle.mysql_queries.proofs.Runs.{one_run}
use Rattle.mysql_queries.proofs.Decimals.{ends_run}
use Rattle.mysql_queries.proofs.HexDigits.{hex_front, IsNoHex}
use Rattle.mysql_queries.proofs.StringParts.{StringTo, IsNoString, no_string}
use Rattle.mysql_queries.proofs.Fronts.{IsNoIntroduced, IsNoNull, no_introduced, no_quoted, no_hexadecimal, no_number}
use Rattle.mysql_queries.proofs.Introduced.{none_behind, none_first, none_without}
use Rattle.mysql_queries.proofs.OneRead.{dash_no_digit, one_hex_run}
use Rattle.mysql_queries.proofs.QuerySlices.{drop_front, take_all_front}
use Rattle.mysql_bytes.specs.declared.spelling.Spelling.{Spelling}
use Rattle.mysql_bytes.specs.declared.spelling.Spelling.TheVariants.{Hexadecimal, Quoted}

-- the literal at the front of a text
pub record LiteralAt (mode : Mode) (sp : Spelling) (text : List ℕ) : Type 0 where
  pub run : List ℕ
  pub rest : List ℕ
  pub content : Content
  pub joined : text ≡ run ++ rest
  pub is_run : IsLiteralRun mode sp run rest
  pub literal : IsLiteral mode sp run content

pub list_tells : (x y : List ℕ) → (x ≡ y) ⊎ (x ≢ y)
list_tells x y = elim (bool_tells (pointwise nat_eq x y))
    [ inl h ↦ inl (same_text x y (sym h)) | inr h ↦ inr (other_text x y (sym h)) ]

below_tells : (a b : ℕ) → (a < b) ⊎ (b ≤ a)
below_tells a b = elim (bool_tells (nat_lt a b))
    [ inl h ↦ inl (grind (arith, nat_tests)) | inr h ↦ inr (grind (arith, nat_tests)) ]

ends_before : (test : ℕ → Bool) (r : List ℕ) → Begins (λ b. test b ≡ false) r → EndsBefore test r
ends_before test [] h = tt
ends_before test (b ∷ r) h = h

-- a text that begins with a single quote
string_tells : (mode : Mode) (sp : Spelling) (x : List ℕ) → LiteralAt mode sp (single_quote ∷ x) ⊎
    IsNoString (has_escapes mode single_quote) (single_quote ∷ x)
string_tells mode sp x =
    let o : InsideOf (has_escapes mode single_quote) single_quote x =
    some_inside (has_escapes mode single_quote) single_quote (length x) x (omega arith) in
    let body : List ℕ = flat_map (inside_bytes single_quote) o.parts in
    let front : List ℕ = single_quote ∷ body in
    let text : single_quote ∷ x ≡ front ++ (o.closing ++ o.rest) = ap (λ y. single_quote ∷ y) o.joined in
    let read : StringTo (has_escapes mode single_quote) (single_quote ∷
    x) (length front) (flat_map inside_content o.parts) = record {
      parts = o.parts;
      inside = o.inside;
      front = ap (take (length front)) text ∙ take_all_front front (o.closing ++ o.rest);
      read = refl;
    } in
    elim o.closes [
      | inl k ↦ inl (record {
        run = single_quote ∷ (body ++ single_quote ∷ []);
        rest = o.rest;
        content = Bytes (flat_map inside_content o.parts);
        joined = text ∙ ap (λ y. front ++ (y ++ o.rest)) k.0 ∙
            ap (λ y. single_quote ∷ y) (sym (append_assoc body (single_quote ∷ []) o.rest));
        is_run = inr (inl (record {
          parts = o.parts;
          closing = single_quote ∷ [];
          inside =
              o.inside;
          spelled = refl;
          closes = inl (refl, k.1);
        }));
        literal = inl (record { parts = o.parts; inside = o.inside; spelled = refl; read = refl });
      })
      | inr k ↦ inr (no_string (has_escapes mode single_quote) (single_quote ∷
          x) (length front) (flat_map inside_content o.parts) read o.closing
          (ap (drop (length front)) text ∙ drop_front front (o.closing ++ o.rest) ∙ ap (λ y. o.closing ++ y) k.0)
          (inr (refl, k.1))
          (λ e. elim k.1 [
            | inl c ↦ (let f : [] ≡ single_quote ∷ [] = sym c ∙ e in
                cc)
            | inr c ↦ (let f : backslash ∷ [] ≡ single_quote ∷ [] = sym c.0 ∙ e in
                let g : backslash ≡ single_quote = cc in absurd (omega (arith, g)))
          ]))
    ]

-- digits in pairs
pairs_tell : (digits : List ℕ) → AllByRecursion (λ b. is_hex b ≡ true) digits →
    ((bytes : List ℕ) × SpellsInHex digits bytes) ⊎
    ((bytes : List ℕ) → SpellsInHex digits bytes → ⊥)
pairs_tell [] h = inl ([], tt)
pairs_tell (a ∷ []) h = inr (λ bytes k. k)
pairs_tell (a ∷ b ∷ digits) h = elim (pairs_tell digits h.1.1) [
  | inl k ↦ inl ((16 * hex_value a + hex_value b) ∷ k.0, (h.0, h.1.0, refl, k.1))
  | inr k ↦ inr (none a b digits k)
]
  where
    none : (a b : ℕ) (digits : List ℕ) → ((bytes : List ℕ) → SpellsInHex digits bytes → ⊥) →
        (bytes : List ℕ) → SpellsInHex (a ∷ b ∷ digits) bytes → ⊥
    none a b digits k [] s = s
    none a b digits k (c ∷ bytes) s = k bytes s.3

-- a text that begins with `0x`
record HexAt (text : List ℕ) : Type 0 where
  run : List ℕ
  rest : List ℕ
  bytes : List ℕ
  joined : text ≡ run ++ rest
  is_run : IsHexRun run rest
  literal : IsHexLiteral run bytes

hex_only : (t : List ℕ) → begins_hex t ≡ true → HexAt t ⊎ IsNoHex t
hex_only t b =
    let o : RunOf (λ c. is_hex c ≡ true) (λ c. is_hex c ≡ false) (drop 2 t) =
    some_run _ _ (λ c. bool_tells (is_hex c)) (drop 2 t) in
    let run : List ℕ = 0x30 ∷ 0x78 ∷ o.run in
    let text : t ≡ run ++ o.rest = (hex_front t b).0 ∙ ap (λ y. 0x30 ∷ 0x78 ∷ y) o.joined in
    let here : IsHexRun run o.rest =
    record {
      digits = o.run;
      each = o.each;
      spelled = refl;
      ends =
          ends_before is_hex o.rest o.ends;
    } in
    elim (pairs_tell o.run o.each) [
      | inl k ↦ elim (list_tells k.0 []) [
        | inl e ↦ inr (λ other rest bytes j r h. same run other o.rest rest here r (sym text ∙
            j) h (λ ds s. h.some (empty o.run k.0 bytes k.1 e
            (subst (λ d. SpellsInHex d bytes) ds s))))
        | inr e ↦ inl (record {
          run = run;
          rest = o.rest;
          bytes = k.0;
          joined = text;
          is_run =
              here;
          literal = record { digits = o.run; spelled = refl; spells = k.1; some = e };
        })
      ]
      | inr k ↦ inr (λ other rest bytes j r h. same run other o.rest rest here r (sym text ∙
          j) h (λ ds s. k bytes (subst (λ d. SpellsInHex d bytes) ds s)))
    ]
  where
    -- the digits of a literal there are the run's
    same : (run other rest after : List ℕ) → {bytes : List ℕ} → (h : IsHexRun run rest) →
        IsHexRun other after → run ++ rest ≡ other ++ after → (l : IsHexLiteral other bytes) →
        ((l.digits ≡ h.digits) → SpellsInHex l.digits bytes → ⊥) → ⊥
    same run other rest after h k e l n =
        let f : run ≡ other = one_hex_run run rest other after e h k in
        let g : 0x30 ∷ 0x78 ∷ l.digits ≡ 0x30 ∷ 0x78 ∷ h.digits = sym l.spelled ∙ sym f ∙ h.spelled in
        n (cc) l.spells

    empty : (digits bytes others : List ℕ) → SpellsInHex digits bytes → bytes ≡ [] →
        SpellsInHex digits others → others ≡ []
    empty [] bytes [] h e k = refl
    empty [] bytes (c ∷ others) h e k = elim k [ ]
    empty (x ∷ []) bytes others h e k = elim h [ ]
    empty (x ∷ y ∷ digits) [] others h e k = elim h [ ]
    empty (x ∷ y ∷ digits) (b ∷ bytes) others h e k = cc

hex_tells : (mode : Mode) (sp : Spelling) (t : List ℕ) → begins_hex t ≡ true → LiteralAt mode sp t ⊎ IsNoHex t
hex_tells mode sp t b = elim (hex_only t b) [
  | inl k ↦ inl (record {
    run = k.run;
    rest = k.rest;
    content = Bytes k.bytes;
    joined =
        k.joined;
    is_run = inr (inr (inl k.is_run));
    literal = inr (inl k.literal);
  })
  | inr n ↦ inr n
]

-- no row of digits there is a number
abbrev pub IsNoNumber : List ℕ → Type 0
IsNoNumber t = (run rest : List ℕ) (z : ℤ) → t ≡ run ++ rest → IsDigitRun run rest → IsNumber run z → ⊥

same_digits : (digits rest others after : List ℕ) → AllByRecursion (λ b. is_digit b ≡ true) digits →
    EndsBefore is_digit rest → AllByRecursion (λ b. is_digit b ≡ true) others →
    EndsBefore is_digit after → digits ++ rest ≡ others ++ after → others ≡ digits
same_digits digits rest others after h k i j e =
    sym (one_run (λ b. is_digit b ≡ true) digits others rest after h i (ends_run rest k)
    (ends_run after j) e).0

negative_tells : (mode : Mode) (sp : Spelling) (x : List ℕ) → begins_hex (dash ∷ x) ≡ false →
    LiteralAt mode sp (dash ∷ x) ⊎ IsNoNumber (dash ∷ x)
negative_tells mode sp x b =
    let o : RunOf (λ c. is_digit c ≡ true) (λ c. is_digit c ≡ false) x =
    some_run _ _ (λ c. bool_tells (is_digit c)) x in
    let ends : EndsBefore is_digit o.rest = ends_before is_digit o.rest o.ends in
    let text : dash ∷ x ≡ (dash ∷ o.run) ++ o.rest = ap (λ y. dash ∷ y) o.joined in
    let only : (run rest : List ℕ) (z : ℤ) → dash ∷ x ≡ run ++ rest → IsDigitRun run rest →
    IsNumber run z → (o.run ≢ []) × (digits_value o.run ≤ 2 ^ 63) =
    λ run rest z e r h. elim h.value [
      | inl v ↦ absurd (dash_no_digit h.digits rest x h.are (e ∙ ap (λ y. y ++ rest) v.0))
      | inr v ↦ (let f : dash ∷ (o.run ++ o.rest) ≡ dash ∷ (h.digits ++ rest) = sym text ∙ e ∙
          ap (λ y. y ++ rest) v.0 in
          let g : o.run ++ o.rest ≡ h.digits ++ rest = cc in
          let s : h.digits ≡ o.run = same_digits o.run o.rest h.digits rest o.each ends h.are.each r.ends g in
          ((λ n. h.are.some (s ∙ n)), subst (λ d. digits_value d ≤ 2 ^ 63) s v.2))
    ] in
    elim (list_tells o.run []) [
      | inl e ↦ inr (λ run rest z j r h. (only run rest z j r h).0 e)
      | inr e ↦ elim (below_tells (2 ^ 63) (digits_value o.run)) [
        | inl k ↦ inr (λ run rest z j r h. let m : digits_value o.run ≤ 2 ^ 63 =
            (only run rest z j r h).1 in absurd (omega (arith, m, k)))
        | inr k ↦ inl (record {
          run = dash ∷ o.run;
          rest = o.rest;
          content = Number (neg_ℤ (pos (digits_value o.run)));
          joined = text;
          is_run = inr (inr (inr (inl
              (record {
                digits = o.run;
                each = o.each;
                spelled = inr refl;
                ends = ends;
                other =
                    subst (λ y. begins_hex y ≡ false) text b;
              }))));
          literal = record { digits = o.run; are = record { each = o.each; some = e }; value = inr (refl, refl, k) };
        })
      ]
    ]

positive_tells : (mode : Mode) (sp : Spelling) (t : List ℕ) → begins_hex t ≡ false →
    ((x : List ℕ) → t ≡ dash ∷ x → ⊥) → LiteralAt mode sp t ⊎ IsNoNumber t
positive_tells mode sp t b d =
    let o : RunOf (λ c. is_digit c ≡ true) (λ c. is_digit c ≡ false) t =
    some_run _ _ (λ c. bool_tells (is_digit c)) t in
    let ends : EndsBefore is_digit o.rest = ends_before is_digit o.rest o.ends in
    let only : (run rest : List ℕ) (z : ℤ) → t ≡ run ++ rest → IsDigitRun run rest →
    IsNumber run z → (o.run ≢ []) × (digits_value o.run < 2 ^ 64) =
    λ run rest z e r h. elim h.value [
      | inl v ↦ (let s : h.digits ≡ o.run =
          same_digits o.run o.rest h.digits rest o.each ends h.are.each r.ends (sym o.joined ∙ e ∙
          ap (λ y. y ++ rest) v.0) in
          ((λ n. h.are.some (s ∙ n)), subst (λ y. digits_value y < 2 ^ 64) s v.2))
      | inr v ↦ absurd (d (h.digits ++ rest) (e ∙ ap (λ y. y ++ rest) v.0))
    ] in
    elim (list_tells o.run []) [
      | inl e ↦ inr (λ run rest z j r h. (only run rest z j r h).0 e)
      | inr e ↦ elim (below_tells (digits_value o.run) (2 ^ 64)) [
        | inl k ↦ inl (record {
          run = o.run;
          rest = o.rest;
          content = Number (pos (digits_value o.run));
          joined = o.joined;
          is_run = inr (inr (inr (inl
              (record {
                digits = o.run;
                each = o.each;
                spelled = inl refl;
                ends = ends;
                other =
                    subst (λ y. begins_hex y ≡ false) o.joined b;
              }))));
          literal = record { digits = o.run; are = record { each = o.each; some = e }; value = inl (refl, refl, k) };
        })
        | inr k ↦ inr (λ run rest z j r h. let m : digits_value o.run < 2 ^ 64 =
            (only run rest z j r h).1 in absurd (omega (arith, m, k)))
      ]
    ]

number_tells : (mode : Mode) (sp : Spelling) (t : List ℕ) → begins_hex t ≡ false → LiteralAt mode sp t ⊎ IsNoNumber t
number_tells mode sp [] b = positive_tells mode sp [] b (λ x e. cc)
number_tells mode sp (c ∷ x) b = elim (eqb_tells c dash) [
  | inl e ↦ subst (λ y. LiteralAt mode sp (y ∷ x) ⊎ IsNoNumber (y ∷ x)) (sym e.1)
      (negative_tells mode sp x (subst (λ y. begins_hex (y ∷ x) ≡ false) e.1 b))
  | inr e ↦ positive_tells mode sp (c ∷ x) b (λ y f. e.1 (cc))
]

-- what follows an introducer, or that none comes first
introducer_tells : (introducer t : List ℕ) → ((rest : List ℕ) × (t ≡ introducer ++ rest)) ⊎
    ((rest : List ℕ) → t ≡ introducer ++ rest → ⊥)
introducer_tells introducer t = elim (list_tells (take (length introducer) t) introducer) [
  | inl e ↦ inl (
    drop (length introducer) t,
    sym (take-append-drop (length introducer) t) ∙
        ap (λ y. y ++ drop (length introducer) t) e,
  )
  | inr n ↦ inr (λ rest e. n (ap (take (length introducer)) e ∙ take_all_front introducer rest))
]

-- behind an introducer a literal in hexadecimal stands, or none does
behind_tells : (mode : Mode) (introducer t rest : List ℕ) → IsIntroducer introducer → t ≡
    introducer ++ rest → LiteralAt mode Hexadecimal t ⊎ IsNoIntroduced Hexadecimal t
behind_tells mode introducer t rest is e = elim (bool_tells (begins_hex rest)) [
  | inl b ↦ elim (hex_only rest b) [
    | inl k ↦ inl (record {
      run = introducer ++ k.run;
      rest = k.rest;
      content = Bytes k.bytes;
      joined = e ∙ ap (λ y. introducer ++ y) k.joined ∙ sym (append_assoc introducer k.run k.rest);
      is_run = inr (inr (inr (inr
          (record {
            allowed = refl;
            introducer = introducer;
            literal = k.run;
            is = is;
            spelled =
                refl;
            hexadecimal = k.is_run;
          }))));
      literal = inr (inr (record {
        allowed = refl;
        introducer = introducer;
        literal = k.run;
        is =
            is;
        spelled = refl;
        hexadecimal = k.literal;
      }));
    })
    | inr n ↦ inr (none_behind t introducer rest is e n)
  ]
  | inr b ↦ inr (none_behind t introducer rest is e (none_first rest b))
]

introduced_tells : (mode : Mode) (sp : Spelling) (t : List ℕ) → LiteralAt mode sp t ⊎ IsNoIntroduced sp t
introduced_tells mode Quoted t = inr (no_introduced t)
introduced_tells mode Hexadecimal t = elim (introducer_tells text_introducer t) [
  | inl f ↦ behind_tells mode text_introducer t f.0 (inl refl) f.1
  | inr m ↦ elim (introducer_tells binary_introducer t) [
    | inl g ↦ behind_tells mode binary_introducer t g.0 (inr refl) g.1
    | inr n ↦ inr (none_without t (λ introducer rest is e. elim is [
      | inl i ↦ m rest (e ∙ ap (λ y. y ++ rest) i)
      | inr i ↦ n rest (e ∙ ap (λ y. y ++ rest) i)
    ]))
  ]
]

other_tells : (mode : Mode) (sp : Spelling) (t : List ℕ) → IsNoNull t →
    (0 < length t → get_or t 0 0 ≢ single_quote) → LiteralAt mode sp t ⊎ IsNoLiteral mode sp t
other_tells mode sp t n q = elim (bool_tells (begins_hex t)) [
  | inl b ↦ elim (hex_tells mode sp t b) [ inl k ↦ inl k | inr k ↦ inr (no_hexadecimal mode sp t n q b k) ]
  | inr b ↦ elim (introduced_tells mode sp t) [
    | inl k ↦ inl k
    | inr i ↦ elim (number_tells mode sp t b) [ inl k ↦ inl k | inr k ↦ inr (no_number mode sp t n q b k i) ]
  ]
]

no_null_tells : (mode : Mode) (sp : Spelling) (t : List ℕ) → IsNoNull t → LiteralAt mode sp t ⊎ IsNoLiteral mode sp t
no_null_tells mode sp [] n = other_tells mode sp [] n (λ h. absurd (omega arith))
no_null_tells mode sp (c ∷ x) n = elim (eqb_tells c single_quote) [
  | inl e ↦ elim (string_tells mode sp x) [
    | inl k ↦ inl (subst (λ y. LiteralAt mode sp (y ∷ x)) (sym e.1) k)
    | inr k ↦ inr (no_quoted mode sp (c ∷
        x) n e.1 (subst (λ y. IsNoString (has_escapes mode single_quote) (y ∷ x)) (sym e.1) k))
  ]
  | inr e ↦ other_tells mode sp (c ∷ x) n (λ _. e.1)
]

-- what stands at the front of a text is a literal, or none is
pub literal_tells : (mode : Mode) (sp : Spelling) (t : List ℕ) → LiteralAt mode sp t ⊎ IsNoLiteral mode sp t
literal_tells mode sp t = elim (list_tells (map lower (take 4 t)) (codes "null")) [
  | inl e ↦ inl (record {
    run = take 4 t;
    rest = drop 4 t;
    content = Null;
    joined =
        sym (take-append-drop 4 t);
    is_run = inl e;
    literal = e;
  })
  | inr e ↦ no_null_tells mode sp t (λ h. e h.1)
]
