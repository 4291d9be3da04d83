-- The contents of a text: as many as the query's placeholders, and each one that a command can carry.
use Rattle.std.proofs.Common.{◌≡◌, ℕ, ℤ, zero, suc, pos, ◌+◌, ◌^◌, ◌<◌, ◌≤◌, Bool, true, false, cond, List, [], ◌∷◌}
use Rattle.std.proofs.Common.{◌++◌, length, flat_map, refl, sym, subst, inl, inr, arith}
use Rattle.std.specs.Prelude.{◌==◌, ◌||◌, FitsSigned, neg_ℤ}
use Rattle.std.specs.Int.{w64}
use Rattle.std.specs.List.{AllByRecursion}
use Rattle.std.proofs.lemmas.Bool.Decides.{nat_tests}
use Rattle.mysql_wire.specs.Bytes.{AreBytes}
use Rattle.mysql_values.specs.Mode.{Mode}
use Rattle.mysql_values.specs.Spelling.{Spelling}
use Rattle.mysql_values.specs.Sql.{Sql}
use Rattle.mysql_values.specs.Content.{Content}
use Rattle.mysql_values.specs.Content.TheVariants as content
use Rattle.mysql_values.specs.Queries.{Alternates, before_first, is_place, pieces_of, places_behind, places_of}
use Rattle.mysql_values.specs.Queries.{servers_agree}
use Rattle.mysql_values.specs.Literals.{IsLiteral, IsNumber, IsString, SpellsInHex, digits_value, escaped, hex_value}
use Rattle.mysql_values.specs.Literals.{inside_content, is_hex}
use Rattle.mysql_values.specs.Tokens.{Byte, Doubled, Escape, Inside, backslash, has_escapes, inside_bytes, single_quote}
use Rattle.mysql_recoding.specs.Laws.{IsCarried}
use Rattle.mysql_recoding.proofs.ByteLists.{bytes_append, bytes_behind, bytes_cons, bytes_front, bytes_tail, no_bytes}
use Rattle.mysql_recoding.proofs.ByteLists.{one_byte}

-- ---- numbers

negative_fits : (n : ℕ) → n ≤ 2 ^ 63 → FitsSigned w64 (neg_ℤ (pos n))
negative_fits zero h = record { sfits = omega arith }
negative_fits (suc n) h = record { sfits = omega arith }

number_carried : (spelling : List ℕ) (z : ℤ) → IsNumber spelling z → IsCarried (content.Number z)
number_carried spelling z is = elim is.value [
  | inl positive ↦ inr (digits_value is.digits, positive.1, positive.2)
  | inr negative ↦ inl (subst (FitsSigned w64) (sym negative.1) (negative_fits (digits_value is.digits) negative.2))
]

-- ---- strings

escaped_bytes : (b : ℕ) → b < 256 → AreBytes (escaped b)
escaped_bytes b h = by (b == 0x30) (b == 0x62) (b == 0x6e) (b == 0x72) (b == 0x74) (b == 0x5a)
    ((b == 0x25) || (b == 0x5f))
  where
    by : (p q r s t u v : Bool) →
        AreBytes (cond p (0x00 ∷ [])
        (cond q (0x08 ∷ []) (cond r (0x0a ∷
        []) (cond s (0x0d ∷ []) (cond t (0x09 ∷
        []) (cond u (0x1a ∷ []) (cond v (backslash ∷ b ∷ []) (b ∷ []))))))))
    by true q r s t u v = one_byte 0x00 (omega arith)
    by false true r s t u v = one_byte 0x08 (omega arith)
    by false false true s t u v = one_byte 0x0a (omega arith)
    by false false false true t u v = one_byte 0x0d (omega arith)
    by false false false false true u v = one_byte 0x09 (omega arith)
    by false false false false false true v = one_byte 0x1a (omega arith)
    by false false false false false false true = bytes_cons backslash (b ∷ []) (omega arith) (one_byte b h)
    by false false false false false false false = one_byte b h

part_bytes : (part : Inside) → AreBytes (inside_bytes single_quote part) → AreBytes (inside_content part)
part_bytes (Byte b) h = h
part_bytes (Escape b) h = escaped_bytes b (h 1)
part_bytes Doubled h = one_byte single_quote (omega arith)

parts_bytes : (parts : List Inside) → AreBytes (flat_map (inside_bytes single_quote) parts) →
    AreBytes (flat_map inside_content parts)
parts_bytes [] h = no_bytes
parts_bytes (part ∷ parts) h =
    let front = bytes_front (inside_bytes single_quote part) (flat_map (inside_bytes single_quote) parts) h in
    let behind = bytes_behind (inside_bytes single_quote part) (flat_map (inside_bytes single_quote) parts) h in
    bytes_append (inside_content part) (flat_map inside_content parts) (part_bytes part front)
    (parts_bytes parts behind)

string_carried : (e : Bool) (spelling bytes : List ℕ) → AreBytes spelling → IsString e spelling bytes → AreBytes bytes
string_carried e spelling bytes h is =
    let inside : List ℕ = flat_map (inside_bytes single_quote) is.parts in
    let quoted : AreBytes (single_quote ∷ (inside ++ single_quote ∷ [])) = subst AreBytes is.spelled h in
    subst AreBytes (sym is.read)
    (parts_bytes is.parts (bytes_front inside (single_quote ∷
    []) (bytes_tail single_quote (inside ++ single_quote ∷ []) quoted)))

-- ---- hexadecimal

digit_small : (b : ℕ) → is_hex b ≡ true → hex_value b < 16
digit_small b h = grind (arith, nat_tests)

hex_bytes : (digits bytes : List ℕ) → SpellsInHex digits bytes → AreBytes bytes
hex_bytes [] [] h = no_bytes
hex_bytes [] (b ∷ bytes) h = elim h [ ]
hex_bytes (x ∷ []) bytes h = elim h [ ]
hex_bytes (x ∷ y ∷ digits) [] h = elim h [ ]
hex_bytes (x ∷ y ∷ digits) (b ∷ bytes) h =
    bytes_cons b bytes (omega (arith, h.2, digit_small x h.0, digit_small y h.1)) (hex_bytes digits bytes h.3)

-- ---- literals

pub literal_carried : (m : Mode) (sp : Spelling) (spelling : List ℕ) (held : Content) →
    AreBytes spelling → IsLiteral m sp spelling held → IsCarried held
literal_carried m sp spelling content.Null h is = tt
literal_carried m sp spelling (content.Number z) h is = number_carried spelling z is
literal_carried m sp spelling (content.Bytes bytes) h is = elim is [
  | inl string ↦ string_carried (has_escapes m single_quote) spelling bytes h string
  | inr other ↦ elim other [
    | inl hexadecimal ↦ hex_bytes hexadecimal.digits bytes hexadecimal.spells
    | inr introduced ↦ hex_bytes introduced.hexadecimal.digits bytes introduced.hexadecimal.spells
  ]
]

-- ---- texts

-- one content fewer than pieces, each of a literal in the text
pub text_carried : (m : Mode) (sp : Spelling) (pieces : List (List ℕ)) (contents : List Content)
    (text : List ℕ) → AreBytes text → Alternates m sp pieces contents text →
    (length pieces ≡ length contents + 1) × AllByRecursion IsCarried contents
text_carried m sp [] contents text h is = elim is [ ]
text_carried m sp (piece ∷ []) [] text h is = (omega arith, tt)
text_carried m sp (piece ∷ []) (held ∷ contents) text h is = elim is [ ]
text_carried m sp (piece ∷ next ∷ pieces) [] text h is = elim is [ ]
text_carried m sp (piece ∷ next ∷ pieces) (held ∷ contents) text h is =
    let spelling : List ℕ = is.0 in
    let rest : List ℕ = is.1 in
    let behind : AreBytes (spelling ++ rest) = bytes_behind piece (spelling ++ rest) (subst AreBytes is.3 h) in
    let later = text_carried m sp (next ∷ pieces) contents rest (bytes_behind spelling rest behind) is.4 in
    let count = later.0 in
    (omega (arith, count), (literal_carried m sp spelling held (bytes_front spelling rest behind) is.2, later.1))

-- ---- placeholders

before_first_length : (token : List ℕ) (pieces : List (List ℕ)) (n : ℕ) → length pieces ≡ n + 1 →
    length (before_first token pieces) ≡ n + 1
before_first_length token [] n e = absurd (omega arith)
before_first_length token (piece ∷ pieces) n e = e

-- one piece more than placeholders
pieces_behind_length : (query : Sql) (agree : Bool) (before : List (List ℕ)) (start : ℕ)
    (tokens : List (List ℕ)) → length (pieces_of tokens) ≡
    length (places_behind query agree before start tokens) + 1
pieces_behind_length query agree before start [] = refl
pieces_behind_length query agree before start (token ∷ tokens) =
    by (is_place token) (pieces_behind_length query agree (token ∷ before) (start + length token)
    tokens) refl
  where
    by : (place : Bool) → length (pieces_of tokens) ≡
        length (places_behind query agree (token ∷ before) (start + length token) tokens) + 1 →
        is_place token ≡ place
        → length (pieces_of (token ∷ tokens)) ≡ length (places_behind query agree before start (token ∷ tokens)) + 1
    by true later e = rw e (omega (arith, later))
    by false later e = rw e (before_first_length token (pieces_of tokens)
        (length (places_behind query agree (token ∷ before) (start + length token) tokens)) later)

pub pieces_length : (query : Sql) (tokens : List (List ℕ)) → length (pieces_of tokens) ≡
    length (places_of query tokens) + 1
pieces_length query tokens = pieces_behind_length query (servers_agree 0 tokens) [] 0 tokens
