use Rattle.std.proofs.Common.{◌≡◌, ◌≤◌, ◌∙◌, ℕ, List, [], ◌∷◌, ◌++◌, OnOk, Result, Ok, Err, take, ap, append_assoc}
use Rattle.std.specs.Int.{to_le_bytes, w64}
use Rattle.byteorder.specs.Endian.{little_bytes}
use Rattle.byteorder.proofs.Bytes.{take-bytes_low_first}
use Rattle.mysql_buf.proofs.buf_mut.put_marked.Goals as goal

-- a byte and then the low bytes of a number
marked : {X E : Type 0} (r : Result X E) (old reserved first new : List ℕ) (mark count number : ℕ) →
    count ≤ 8 → reserved ≡ old → first ≡ reserved ++ (mark ∷ [])
    → OnOk r (new ≡ first ++ take count (to_le_bytes w64 number)) →
    OnOk r (new ≡ old ++ (mark ∷ little_bytes count number))
marked (Ok x) old reserved first new mark count number few kept put rest =
    rest ∙ ap (λ l. first ++ l) (take-bytes_low_first 0 8 count number few) ∙
    ap (λ l. l ++ little_bytes count number) (put ∙ ap (λ l. l ++ (mark ∷ [])) kept) ∙
    append_assoc old (mark ∷ []) (little_bytes count number)
marked (Err e) old reserved first new mark count number few kept put rest = tt

pub returns-clause-ok : goal.returns-clause-ok
returns-clause-ok g c =
    marked c.put_uint_le.result (g.B.BufMut.written c.args.buf.now)
    (g.B.BufMut.written c.reserve.new.self) (g.B.BufMut.written c.put_u8.new.self)
    (g.B.BufMut.written c.put_uint_le.new.self)
    c.args.mark c.args.count c.args.number c.requires c.in_ok-reserve.ensures.kept
    c.in_ok-put_u8.ensures.ok c.put_uint_le.ensures.ok
