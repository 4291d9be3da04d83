-- Where the first scramble stands in the payload of a greeting.
use Rattle.std.proofs.Common.{◌≡◌, ℕ, ◌+◌, ◌-◌, ◌≤◌, nat_lt, Bool, true, false, List, length, take, drop, Some, None}
use Rattle.std.proofs.Common.{Result, Ok, Err, if◌then◌else◌, refl, sym, ◌∙◌, ap, arith, lit≤}
use Rattle.std.proofs.lemmas.Bool.Decides.{nat_tests}
use Rattle.std.proofs.lemmas.List.{drop-drop, drop-take, length-drop, length-take-le, take-take}
use Rattle.std.specs.List.{after_first, before_first, position_or_len}
use Rattle.mysql_buf.specs.Reading.{first, is_zero}
use Rattle.mysql_handshake.specs.Handshakes.{FixedFields, HandshakeFields, block_at, fixed_at, flags_at, handshake_at}
use Rattle.mysql_handshake.specs.Handshakes.{name_at, scramble_at}
use Rattle.mysql_fields.specs.Forms.{bytes_at, fixed_number_at}
use Rattle.mysql_fields.specs.Laws.{ok_same}
use Rattle.mysql_fields.specs.Wire.{or_end, ◌>>=◌}
use Rattle.mysql_fields.specs.declared.error.WireError.{WireError}
use Rattle.mysql_fields.specs.Texts.{null_text_at}
use Rattle.mysql_field_constants.specs.Constants.{skipped_at}

there : {X : Type 0} (b : Bool) (x y : X) → or_end (if b then None else Some y) ≡ Ok x → (b ≡ false) × (x ≡ y)
there true x y h = cc
there false x y h = (refl, cc)

-- what is read of the first n bytes
first_is : {X : Type 0} (n : ℕ) (value : List ℕ → X) (bytes : List ℕ) (x : X × List ℕ) →
    or_end (first n value bytes) ≡ Ok x
    → (n ≤ length bytes) × (x ≡ (value bytes, drop n bytes))
unfolding first
first_is n value bytes x h =
    let p = there (nat_lt (length bytes) n) x (value bytes, drop n bytes) h in
    (grind (arith, nat_tests, p.0), p.1)

allowed : {X : Type 0} (b : Bool) (e : WireError) (x y : X) → (if b then Ok y else Err e) ≡ Ok x → (b ≡ true) × (x ≡ y)
allowed true e x y h = (refl, cc)
allowed false e x y h = cc

-- what is left behind a text that a zero ends
text_is : (bytes : List ℕ) (x : List ℕ × List ℕ) → null_text_at bytes ≡ Ok x
    → (length x.0 + 1 ≤ length bytes) × (x.1 ≡ drop (length x.0 + 1) bytes)
text_is bytes x h =
    let p = allowed (nat_lt (position_or_len is_zero bytes) (length bytes)) _ x
    (before_first is_zero bytes, after_first is_zero bytes) h in
    let within : position_or_len is_zero bytes + 1 ≤ length bytes = grind (arith, nat_tests, p.0) in
    let e : length x.0 ≡ position_or_len is_zero bytes = ap (λ q. length q.0) p.1 ∙
    length-take-le (position_or_len is_zero bytes) bytes (omega arith) in
    (omega arith, ap (λ q. q.1) p.1 ∙ ap (λ n. drop (n + 1) bytes) (sym e))

-- what holds of each first value and what is read behind it
behind : {A B : Type 0} (P : Type 0) (r : Result A WireError) (next : A → Result B WireError)
    (y : B) → ((x : A) → r ≡ Ok x → next x ≡ Ok y → P)
    → (r >>= next) ≡ Ok y → P
behind P (Ok x) next y each h = each x refl h
behind P (Err e) next y each h = cc

-- the first scramble among the fields of fixed length
scramble_of : (block rest : List ℕ) (f : FixedFields) → fixed_at block ≡ Ok (f, rest) →
    f.scramble_1 ≡ take 8 (drop 4 block)
unfolding fixed_at
scramble_of block rest f =
    let P : Type 0 = f.scramble_1 ≡ take 8 (drop 4 block) in
    behind P (fixed_number_at 4 block) _ (f, rest) (λ id e1.
    behind P (bytes_at 8 id.1) _ (f, rest) (λ scramble e2.
    behind P (skipped_at 1 scramble.1) _ (f, rest) (λ filler e3.
    behind P (flags_at filler.1) _ (f, rest) (λ flags e4.
    behind P (fixed_number_at 1 flags.1) _ (f, rest) (λ len e5.
    behind P (skipped_at 6 len.1) _ (f, rest) (λ reserved e6.
    behind P (fixed_number_at 4 reserved.1) _ (f, rest) (λ mariadb e7 h.
    let behind_id = first_is 4 _ block id e1 in
    let read = first_is 8 (take 8) id.1 scramble e2 in
    ap (λ q. q.0.scramble_1) (sym (ok_same _ (f, rest) h)) ∙ ap (λ q. q.0) read.1 ∙
    ap (λ q. take 8 q.1) behind_id.1)))))))

-- the first scramble in a payload that reads as a greeting
abbrev pub ScrambleStands : List ℕ → HandshakeFields → Type 0
ScrambleStands bytes g =
    (length g.server_version + 14 ≤ length bytes) × (g.scramble_1 ≡ take 8 (drop (length g.server_version + 6) bytes))

-- behind the version, the fields of fixed length
in_block : (bytes rest : List ℕ) (f : FixedFields) → block_at bytes ≡ Ok (f, rest) →
    (31 ≤ length bytes) × (f.scramble_1 ≡ take 8 (drop 4 bytes))
unfolding block_at
in_block bytes rest f =
    let P : Type 0 = (31 ≤ length bytes) × (f.scramble_1 ≡ take 8 (drop 4 bytes)) in
    behind P (bytes_at 31 bytes) _ (f, rest) (λ block e1.
    behind P (fixed_at block.0) _ (f, rest) (λ fixed e2 h.
    let whole = first_is 31 (take 31) bytes block e1 in
    let same : fixed.0 ≡ f = ap (λ q. q.0) (ok_same _ (f, rest) h) in
    let stands = scramble_of block.0 fixed.1 fixed.0 e2 in (
      whole.0,
      ap (λ x. x.scramble_1) (sym same) ∙ stands ∙ ap (λ q. take 8 (drop 4 q.0)) whole.1 ∙
          ap (take 8) (drop-take 4 27 bytes) ∙ take-take 8 27 (drop 4 bytes) (lit≤ tt),
    )))

pub scramble_in : (bytes rest : List ℕ) (g : HandshakeFields) → handshake_at bytes ≡ Ok (g, rest) →
    ScrambleStands bytes g
unfolding handshake_at
scramble_in bytes rest g =
    let P : Type 0 = ScrambleStands bytes g in
    behind P (fixed_number_at 1 bytes) _ (g, rest) (λ protocol e1.
    behind P (null_text_at protocol.1) _ (g, rest) (λ server e2.
    behind P (block_at server.1) _ (g, rest) (λ fixed e3.
    behind P (scramble_at fixed.0.capabilities fixed.0.data_length fixed.1) _ (g, rest) (λ scramble e4.
    behind P (name_at fixed.0.capabilities scramble.1) _ (g, rest) (λ name e5 h.
    let same = ok_same _ (g, rest) h in
    let after_protocol = first_is 1 _ bytes protocol e1 in
    let after_server = text_is protocol.1 server e2 in
    let stands = in_block server.1 fixed.1 fixed.0 e3 in
    let version : length server.0 ≡ length g.server_version = ap (λ q. length q.0.server_version) same in
    let left : protocol.1 ≡ drop 1 bytes = ap (λ q. q.1) after_protocol.1 in
    let block : server.1 ≡ drop (1 + (length server.0 + 1)) bytes = after_server.1 ∙
    ap (drop (length server.0 + 1)) left ∙ drop-drop (length server.0 + 1) 1 bytes in
    let lengths : length server.1 ≡ length bytes - (1 + (length server.0 + 1)) = ap length block ∙
    length-drop (1 + (length server.0 + 1)) bytes in
    let place : 1 + (length server.0 + 1) + 4 ≡ length g.server_version + 6 = omega arith in (
      omega (arith, stands.0),
      ap (λ q. q.0.scramble_1) (sym same) ∙ stands.1 ∙ ap (λ b. take 8 (drop 4 b)) block ∙
          ap (take 8) (drop-drop 4 (1 + (length server.0 + 1)) bytes)
          ∙ ap (λ n. take 8 (drop n bytes)) place,
    ))))))
