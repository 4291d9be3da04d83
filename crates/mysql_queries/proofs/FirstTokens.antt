-- What a text's kind says of its front, and what makes its first bytes a token.
use Rattle.std.proofs.Common.{◌≡◌, ℕ, zero, suc, ◌<◌, List, [], ◌∷◌, length, take, drop, slice_index, refl, sym, arith}
use Rattle.std.proofs.Common.{subst, take-append-drop}
use Rattle.mysql_queries.specs.Tokens.{Kind, Quoted, kind_of, HasShape, IsToken}
use Rattle.mysql_bytes.specs.declared.mode.Mode.{Mode}
use Rattle.mysql_queries.proofs.FirstBytes.{Tells, kind_tells}
use Rattle.mysql_queries.proofs.OneToken.{not_empty}

-- bytes of the shape that the text's kind asks for are a token
pub token_of : (m : Mode) (kind : Kind) (text : List ℕ) (end : ℕ) → kind ≡ kind_of text →
    HasShape m kind (take end text) (drop end text) → IsToken m (take end text) (drop end text)
token_of m kind text end e h =
    subst (λ x. HasShape m (kind_of x) (take end text) (drop end text))
    (sym (take-append-drop end text))
    (subst (λ k. HasShape m k (take end text) (drop end text)) e h)

pub token_some : (m : Mode) (text : List ℕ) (end : ℕ) → IsToken m (take end text) (drop end text) → 0 < end
token_some m text zero h = absurd (not_empty m text h)
token_some m text (suc end) h = omega arith

tells : (b : ℕ) (x : List ℕ) (kind : Kind) → kind ≡ kind_of (b ∷ x) → Tells b x kind
tells b x kind e = subst (Tells b x) (sym e) (kind_tells b x)

pub quote_first : (text : List ℕ) (quote : ℕ) → 0 < length text → Quoted quote ≡ kind_of text →
    slice_index text 0 ≡ quote
quote_first [] quote some e = absurd (omega arith)
quote_first (b ∷ x) quote some e = sym (tells b x (Quoted quote) e).0

pub one_byte : (text : List ℕ) → 0 < length text → (b : ℕ) × (take 1 text ≡ b ∷ [])
one_byte [] some = absurd (omega arith)
one_byte (b ∷ x) some = (b, refl)
