-- Eight bytes at a time behind a front.
use Rattle.std.proofs.Common.{◌≡◌, ℕ, List, [], ◌∷◌, ◌++◌, length, get_or, refl, ap, ◌∙◌, arith, append_assoc}

-- eight bytes are those at their places
all_eight : (bytes : List ℕ) → length bytes ≡ 8 → get_or bytes 0 0 ∷ get_or bytes 1 0 ∷
    get_or bytes 2 0 ∷ get_or bytes 3 0 ∷ get_or bytes 4 0 ∷ get_or bytes 5 0 ∷ get_or bytes 6 0 ∷
    get_or bytes 7 0 ∷ [] ≡ bytes
all_eight [] l = absurd (omega arith)
all_eight (a ∷ []) l = absurd (omega arith)
all_eight (a ∷ b ∷ []) l = absurd (omega arith)
all_eight (a ∷ b ∷ c ∷ []) l = absurd (omega arith)
all_eight (a ∷ b ∷ c ∷ d ∷ []) l = absurd (omega arith)
all_eight (a ∷ b ∷ c ∷ d ∷ e ∷ []) l = absurd (omega arith)
all_eight (a ∷ b ∷ c ∷ d ∷ e ∷ f ∷ []) l = absurd (omega arith)
all_eight (a ∷ b ∷ c ∷ d ∷ e ∷ f ∷ g ∷ []) l = absurd (omega arith)
all_eight (a ∷ b ∷ c ∷ d ∷ e ∷ f ∷ g ∷ h ∷ []) l = refl
all_eight (a ∷ b ∷ c ∷ d ∷ e ∷ f ∷ g ∷ h ∷ x ∷ bytes) l = absurd (omega arith)

together : (a b c d e f g h : ℕ) (old : List ℕ) →
    (((((((old ++ a ∷ []) ++ b ∷ []) ++ c ∷ []) ++ d ∷ []) ++ e ∷ []) ++ f ∷ []) ++ g ∷ []) ++ h ∷
    [] ≡ old ++ a ∷ b ∷ c ∷ d ∷ e ∷ f ∷ g ∷ h ∷ []
together a b c d e f g h old = simp append_assoc

-- a byte more behind a front
behind : (old front new : List ℕ) (byte : ℕ) → new ≡ old ++ byte ∷ [] → old ≡ front → new ≡ front ++ byte ∷ []
behind old front new byte put is = put ∙ ap (λ (l : List ℕ). l ++ byte ∷ []) is

-- one after another
pub eight_pushed : (bytes old first second third fourth fifth sixth seventh new : List ℕ) →
    length bytes ≡ 8 → first ≡ old ++ get_or bytes 0 0 ∷ [] → second ≡ first ++ get_or bytes 1 0 ∷
    []
    → third ≡ second ++ get_or bytes 2 0 ∷ [] → fourth ≡ third ++ get_or bytes 3 0 ∷ [] → fifth ≡
    fourth ++ get_or bytes 4 0 ∷ [] → sixth ≡ fifth ++ get_or bytes 5 0 ∷ []
    → seventh ≡ sixth ++ get_or bytes 6 0 ∷ [] → new ≡ seventh ++ get_or bytes 7 0 ∷ [] → new ≡ old ++ bytes
eight_pushed bytes old first second third fourth fifth sixth seventh new eight one two three four five six seven last =
    behind seventh _ new (get_or bytes 7 0) last
    (behind sixth _ seventh (get_or bytes 6 0) seven
    (behind fifth _ sixth (get_or bytes 5 0) six
    (behind fourth _ fifth (get_or bytes 4 0) five
    (behind third _ fourth (get_or bytes 3 0) four
    (behind second _ third (get_or bytes 2 0) three
    (behind first _ second (get_or bytes 1 0) two one))))))
    ∙ together (get_or bytes 0 0) (get_or bytes 1 0) (get_or bytes 2 0) (get_or bytes 3 0)
    (get_or bytes 4 0) (get_or bytes 5 0) (get_or bytes 6 0) (get_or bytes 7 0) old
    ∙ ap (λ (l : List ℕ). old ++ l) (all_eight bytes eight)
