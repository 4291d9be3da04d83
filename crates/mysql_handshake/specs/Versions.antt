-- Versions of servers, as texts. (MySQL Reference Manual, "Which MySQL Version and Distribution to
-- Install"; MariaDB: "Connecting", 'Initial handshake packet', the prefix `5.5.5-`.)
use Rattle.std.specs.Prelude.{◌≡◌, ◌≤◌, ◌⊎◌, ℕ, nat_le, ◌&&◌, Bool, true, false, List, [], ◌∷◌, ◌++◌, codes, length}
use Rattle.std.specs.Prelude.{Option, None, Some, ⊤}
use Rattle.std.specs.List.{AllByRecursion}
use Rattle.std.specs.Str.Parse.{digits_value}

-- a decimal digit
abbrev pub is_digit : ℕ → Bool
is_digit c = nat_le 48 c && nat_le c 57

-- one digit or more, and at most so many
pub record IsGroup (most : ℕ) (digits : List ℕ) : Type 0 where
  pub some : 1 ≤ length digits
  pub few : length digits ≤ most
  pub each : AllByRecursion (λ c. is_digit c ≡ true) digits

-- no digit stands first
abbrev pub NoDigitFirst : List ℕ → Type 0
NoDigitFirst [] = ⊤
NoDigitFirst (c ∷ text) = is_digit c ≡ false

-- a text begins with three groups of digits, with dots between, the last as long as it can be: the
-- numbers that they write, and the text behind
pub record BeginsWith (text : List ℕ) (version : ℕ × ℕ × ℕ) (rest : List ℕ) : Type 0 where
  pub major : List ℕ
  pub minor : List ℕ
  pub patch : List ℕ
  pub spelled : text ≡ major ++ codes "." ++ minor ++ codes "." ++ patch ++ rest
  pub is_major : IsGroup 2 major
  pub is_minor : IsGroup 2 minor
  pub is_patch : IsGroup 3 patch
  pub whole : (length patch ≡ 3) ⊎ NoDigitFirst rest
  pub numbers : version ≡ (digits_value 10 major, digits_value 10 minor, digits_value 10 patch)

-- this version is what a text begins with
abbrev pub IsVersion : List ℕ → ℕ × ℕ × ℕ → Type 0
IsVersion text version = (rest : List ℕ) × BeginsWith text version rest

-- this version is what a text begins with, and MariaDB's name stands behind it
abbrev pub IsMarked : List ℕ → ℕ × ℕ × ℕ → Type 0
IsMarked text version = (rest : List ℕ) × BeginsWith text version (codes "-MariaDB" ++ rest)

-- the version of a MariaDB server; `5.5.5-` may stand before it
abbrev pub IsMariadbVersion : List ℕ → ℕ × ℕ × ℕ → Type 0
IsMariadbVersion text version =
    ((tail : List ℕ) × (text ≡ codes "5.5.5-" ++ tail) × IsMarked tail version) ⊎
    IsMarked text version

-- the one value that this holds of, or none where it holds of none
abbrev pub IsTheOne : {X : Type 0} → (X → Type 0) → Option X → Type 0
IsTheOne {X} Is None = (x : X) → ¬ (Is x)
IsTheOne {X} Is (Some x) = Is x × ((y : X) → Is y → y ≡ x)
