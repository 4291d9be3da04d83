-- Numbers of variable length, as the tags of transaction ids have them: each byte of a short one
-- holds seven bits of the number. (MySQL: Source Code Documentation, "mysql::serialization",
-- "Variable-length integer".)
use Rattle.std.specs.Prelude.{ℕ, ◌+◌, ◌-◌, ◌*◌, ◌/◌, ◌^◌, ◌==◌, nat_lt, if◌then◌else◌, List, [], ◌∷◌, Option, None}
use Rattle.std.specs.Int.{w8, trailing_ones}
use Rattle.byteorder.specs.Endian.{little_bytes, little_number}
use Rattle.mysql_buf.specs.Reading.{first, little_at}

-- how many bytes a number takes: the fewest that hold it with seven bits each, and 9 from 2 ^ 56 on
abbrev pub varlen_size : ℕ → ℕ
varlen_size n =
    if nat_lt n (2 ^ 7) then 1
    else if nat_lt n (2 ^ 14) then 2
    else if nat_lt n (2 ^ 21) then 3
    else if nat_lt n (2 ^ 28) then 4
    else if nat_lt n (2 ^ 35) then 5
    else if nat_lt n (2 ^ 42) then 6
    else if nat_lt n (2 ^ 49) then 7
    else if nat_lt n (2 ^ 56) then 8
    else 9

-- the number behind a zero and size - 1 ones, which are the lowest bits
unfoldable pub marked : ℕ → ℕ → ℕ
marked size n = n * 2 ^ size + (2 ^ (size - 1) - 1)

-- the shortest spelling of a number: the number so marked; from 2 ^ 56 on ff and eight bytes
abbrev pub varlen : ℕ → List ℕ
varlen n = if nat_lt n (2 ^ 56) then little_bytes (varlen_size n) (marked (varlen_size n) n) else 255 ∷ little_bytes 8 n

-- a number whose first byte is b: as many bytes follow as b has low one bits; the value stands
-- above those ones and the zero
abbrev pub short_at : ℕ → List ℕ → Option (ℕ × List ℕ)
short_at b bytes = first (trailing_ones w8 b + 1)
    (λ bytes. little_number (trailing_ones w8 b + 1) bytes / 2 ^ (trailing_ones w8 b + 1)) bytes

-- a short number; after ff it is eight bytes
abbrev pub varlen_at : List ℕ → Option (ℕ × List ℕ)
varlen_at [] = None
varlen_at (b ∷ bs) = if b == 255 then little_at 8 bs else short_at b (b ∷ bs)
