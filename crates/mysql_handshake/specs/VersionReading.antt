-- How a version is read from the front of a text. No public contract cites these.
-- (MySQL Reference Manual, "Which MySQL Version and Distribution to Install".)
use Rattle.std.specs.Prelude.{ℕ, ◌==◌, nat_eq, min, if◌then◌else◌, List, [], ◌∷◌, codes, drop, take, Option, None, Some}
use Rattle.std.specs.List.{prefix_len, starts_with}
use Rattle.std.specs.Option.{option_map}
use Rattle.std.specs.Str.Parse.{digits_value}
use Rattle.mysql_handshake.specs.Versions.{is_digit}

infixl 10 ◌>>=◌
abbrev pub ◌>>=◌ : {A B : Type 0} → Option A → (A → Option B) → Option B
None >>= f = None
(Some x) >>= f = f x

-- a number and the text behind it
abbrev pub Found : Type 0
Found = ℕ × List ℕ

-- a version and the text behind it
abbrev pub FoundVersion : Type 0
FoundVersion = (ℕ × ℕ × ℕ) × List ℕ

-- how many digits a text begins with, as far as `most`
unfoldable pub digits_len : ℕ → List ℕ → ℕ
digits_len most text = min most (prefix_len is_digit text)

-- the number that these digits write and the text behind them, where there is a digit
unfoldable pub number_at : ℕ → List ℕ → Option Found
number_at most text = if digits_len most text == 0 then None else Some
    (digits_value 10 (take (digits_len most text) text), drop (digits_len most text) text)

-- the text behind a dot
abbrev pub after_dot : List ℕ → Option (List ℕ)
after_dot [] = None
after_dot (c ∷ text) = if c == 46 then Some text else None

-- the number that the text behind a dot begins with, and the text behind it
abbrev pub number_after_dot : ℕ → List ℕ → Option Found
number_after_dot most text = after_dot text >>= number_at most

-- the numbers of a version
abbrev pub with_patch : Found → Found → Found → Option FoundVersion
with_patch major minor patch = Some ((major.0, minor.0, patch.0), patch.1)

abbrev pub with_minor : Found → Found → Option FoundVersion
with_minor major minor = number_after_dot 3 minor.1 >>= with_patch major minor

abbrev pub with_major : Found → Option FoundVersion
with_major major = number_after_dot 2 major.1 >>= with_minor major

-- three numbers of at most two, two and three digits, with dots between, and the text behind them
unfoldable pub version_at : List ℕ → Option FoundVersion
version_at text = number_at 2 text >>= with_major

-- the version that a text begins with
abbrev pub version_of : List ℕ → Option (ℕ × ℕ × ℕ)
version_of text = option_map (λ p. p.0) (version_at text)

-- a version, where MariaDB's name is behind it
abbrev pub if_marked : FoundVersion → Option (ℕ × ℕ × ℕ)
if_marked found = if starts_with nat_eq found.1 (codes "-MariaDB") then Some found.0 else None

-- the version that a text begins with, where MariaDB's name is behind it
unfoldable pub marked_version : List ℕ → Option (ℕ × ℕ × ℕ)
marked_version text = version_at text >>= if_marked

-- the first that is there
abbrev pub first_of : {X : Type 0} → Option X → Option X → Option X
first_of None other = other
first_of (Some x) other = Some x

-- the version of a MariaDB server; `5.5.5-` may stand before it
unfoldable pub mariadb_version : List ℕ → Option (ℕ × ℕ × ℕ)
mariadb_version text =
    if starts_with nat_eq text (codes "5.5.5-") then first_of (marked_version (drop 6 text)) (marked_version text)
    else marked_version text
