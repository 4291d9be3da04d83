-- Fields that were written are read at the front of bytes.
use Rattle.std.proofs.Common.{◌≡◌, ℕ, ◌^◌, ◌<◌, ◌==◌, List, ◌∷◌, ◌++◌, length, Ok, sym, ◌∙◌, ap, arith}
use Rattle.std.specs.Option.{ok_or}
use Rattle.std.proofs.lemmas.Bool.{eq-eqb}
use Rattle.byteorder.specs.Endian.{little_bytes, little_number}
use Rattle.mysql_buf.specs.FirstBytes.{first-enough}
use Rattle.mysql_buf.specs.NumberLaws.{bytes_at-append, little-reads_back}
use Rattle.mysql_wire.specs.Wire.{◌>>=◌}
use Rattle.mysql_receive.specs.declared.fault.StreamFault.{StreamFault}
use Rattle.mysql_receive.specs.declared.fault.StreamFault.TheVariants.{WrongId}
use Rattle.mysql_receive.specs.Fields.{bytes_or, number_or, must}
use Rattle.mysql_receive.specs.Layout.{id_at}
use Rattle.mysql_receive.specs.Query.{Statement}
use Rattle.mysql_command_rules.proofs.Binds.{bind_from}

-- so many bytes stand first
pub bytes_front : (f : StreamFault) (n : ℕ) (xs ys : List ℕ) → length xs ≡ n → bytes_or f n (xs ++ ys) ≡ Ok (xs, ys)
bytes_front f n xs ys is = ap (λ k. bytes_or f k (xs ++ ys)) (sym is) ∙ ap (λ o. ok_or o f) (bytes_at-append xs ys)

-- a number that was written stands first
pub number_front : (f : StreamFault) (n x : ℕ) (ys : List ℕ) → x < 256 ^ n →
    number_or f n (little_bytes n x ++ ys) ≡ Ok (x, ys)
number_front f n x ys small = ap (λ o. ok_or o f) (little-reads_back n x ys small)

-- the first byte is a number
pub byte_front : (f : StreamFault) (b : ℕ) (ys : List ℕ) → number_or f 1 (b ∷ ys) ≡ Ok (b, ys)
byte_front f b ys =
    let n : little_number 1 (b ∷ ys) ≡ b = omega arith in
    ap (λ o. ok_or o f) (first-enough 1 (little_number 1) (b ∷ ys) (omega arith)) ∙ ap (λ k. Ok (k, ys)) n

-- the statement's id that was written is read
pub id_front : (c : Statement) (id : ℕ) (rest : List ℕ) → id < 2 ^ 32 → c.id ≡ id →
    id_at c (little_bytes 4 id ++ rest) ≡ Ok rest
id_front c id rest small same =
    bind_from (number_or WrongId 4 (little_bytes 4 id ++ rest))
    (λ n. must WrongId (n.0 == c.id) >>= λ known. Ok n.1) (id, rest) (Ok rest)
    (number_front WrongId 4 id rest (omega (arith, small)))
    (ap (λ b. must WrongId b >>= λ known. Ok rest) (eq-eqb id c.id (sym same)))
