use Rattle.std.proofs.Common.{◌≡◌, ℕ, ◌≤◌, ◌+◌, List, [], None, length, refl, ap, sym, subst, ◌∙◌}
use Rattle.mysql_wire.specs.Incoming.{bytes_kept, codec_by}
use Rattle.mysql_wire.proofs.Reading.{held_between}
use Rattle.mysql_replies.specs.Holding.{ReaderState, fault_of}
use Rattle.mysql_replies.specs.States.{reader_state}
use Rattle.mysql_replies.proofs.Kept.{kept_within}
use Rattle.mysql_replies.proofs.reader.ReplyReader.kept.Goals as goal

came : (c : goal.After-kept) → c.kept.result ≡
    bytes_kept (length (reader_state c.self.inside.parts.state c.self.inside.parts.packets).bytes)
came c = c.kept.ensures ∙
    ap (λ (bytes : List ℕ). bytes_kept (length bytes))
    (sym (held_between (codec_by c.self.inside.parts.packets) c.self.inside.parts.packets.bytes []
    refl refl))

pub returns-clause-bytes : goal.returns-clause-bytes
returns-clause-bytes c = subst (λ (reader : ReaderState). c.kept.result ≡
    bytes_kept (length reader.bytes)) c.self.view_is (came c)

pub returns-clause-within : goal.returns-clause-within
returns-clause-within c =
    subst (λ (reader : ReaderState). fault_of reader.so_far ≡ None → c.kept.result ≤ reader.limit + 3) c.self.view_is
    (λ none. subst (λ n. n ≤ c.self.inside.parts.packets.limit + 3) (sym (came c))
    (kept_within c.self.inside.parts.state c.self.inside.parts.packets c.self.invariant none))
