-- A command that was written is read back, and has five bytes.
use Rattle.std.proofs.Common.{◌≡◌, ℕ, ◌^◌, ◌<◌, List, [], ◌∷◌, ◌++◌, drop, Some, Ok, refl, ap, ◌∙◌, append_assoc, arith}
use Rattle.std.specs.List.{concat}
use Rattle.byteorder.specs.Endian.{little_bytes}
use Rattle.mysql_fields.specs.Forms.{fixed_number_at}
use Rattle.mysql_fields.specs.Laws.{done_rest, eaten_first, eats-then, from_block-enough, from_block-sized}
use Rattle.mysql_fields.specs.Laws.{fixed_number_at-back, fixed_number_at-sized}
use Rattle.mysql_fields.specs.Wire.{IsSized, ◌>>=◌}
use Rattle.mysql_field_constants.specs.ConstantLaws.{constant_at-back, constant_at-sized}
use Rattle.mysql_field_constants.specs.Constants.{constant_at}
use Rattle.mysql_stmt.specs.Commands.{IsId, alone, alone_at, alone_fields_at}

-- fields, and what follows them
abbrev pub before : List (List ℕ) → List ℕ → List ℕ
before [] rest = rest
before (field ∷ fields) rest = field ++ before fields rest

pub joined_before : (fields : List (List ℕ)) (rest : List ℕ) → concat fields ++ rest ≡ before fields rest
joined_before [] rest = refl
joined_before (field ∷ fields) rest = append_assoc field (concat fields) rest ∙
    ap (λ (later : List ℕ). field ++ later) (joined_before fields rest)

alone_fields_at-back : (number id : ℕ) (rest : List ℕ) → number < 256 ^ 1 → IsId id →
    alone_fields_at number (alone number id ++ rest) ≡ Ok (id, rest)
unfolding alone alone_fields_at
alone_fields_at-back number id rest small h =
    let after = little_bytes 4 id ++ rest in
    ap (alone_fields_at number) (joined_before (little_bytes 1 number ∷ little_bytes 4 id ∷ []) rest)
    ∙ rw (constant_at-back 1 number after small, fixed_number_at-back 4 id rest h) refl

pub alone_at-back : (number id : ℕ) (rest : List ℕ) → number < 256 ^ 1 → IsId id →
    alone_at number (alone number id ++ rest) ≡ Ok (id, rest)
unfolding alone alone_at
alone_at-back number id rest small h =
    from_block-enough 5 (alone_fields_at number) (alone number id ++ rest) (omega arith) ∙
    alone_fields_at-back number id rest small h

alone_eats : (number : ℕ) (bytes rest : List ℕ) (id : ℕ) → alone_fields_at number bytes ≡
    Ok (id, rest) → rest ≡ drop 5 bytes
unfolding alone_fields_at
alone_eats number bytes rest id =
    eats-then 1 4 bytes (constant_at 1 number bytes)
    (λ header. fixed_number_at 4 header.1 >>= λ found. Ok (found.0, found.1)) rest id
    (eaten_first 1 (constant_at 1 number) bytes (constant_at-sized 1 number))
    (λ x b. eats-then 4 0 b (fixed_number_at 4 b) (λ found. Ok (found.0, found.1)) rest id
    (eaten_first 4 (fixed_number_at 4) b (fixed_number_at-sized 4))
    (λ y c. done_rest y id c rest))

pub alone_at-sized : (number : ℕ) → IsSized (Some 5) (alone_at number)
unfolding alone_at
alone_at-sized number = from_block-sized 5 (alone_fields_at number)
    (λ bytes rest id. alone_eats number bytes rest id)
