-- Fields that were written are read again.
use Rattle.std.proofs.Common.{◌≡◌, ℕ, ◌<◌, ◌^◌, [], Ok, sym, ap, ◌∙◌, append-nil}
use Rattle.byteorder.specs.Endian.{little_bytes}
use Rattle.mysql_fields.specs.Forms.{fixed_number_at}
use Rattle.mysql_fields.specs.Laws.{fixed_number_at-back}

-- a number with nothing behind it
pub last_number-back : (n x : ℕ) → x < 256 ^ n → fixed_number_at n (little_bytes n x) ≡ Ok (x, [])
last_number-back n x h = ap (fixed_number_at n) (sym (append-nil (little_bytes n x))) ∙ fixed_number_at-back n x [] h
