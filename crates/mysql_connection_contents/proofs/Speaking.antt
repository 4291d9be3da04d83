-- Payloads that are put are spoken.
use Rattle.std.proofs.Common.{◌≡◌, ℕ, List, [], ◌∷◌, ◌++◌, refl, sym, ap, subst, ◌∙◌, append_assoc, append-nil}
use Rattle.mysql_connection_rules.specs.Puts.{packets_for}
use Rattle.mysql_connection_contents.specs.Contents.{Spoken}
use Rattle.mysql_connection_contents.specs.Records.{HasSpoken, PutsSpoken, spoken_by}
use Rattle.mysql_connection_contents.specs.Records.HasSpoken.{puts}
use Rattle.mysql_connection_machine.specs.Machines.{Machine}
use Rattle.mysql_connection_rules.specs.Streams.{Piece, Streams, World, grow}
use Rattle.mysql_connection_rules.specs.declared.side.Side.{Side}
use Rattle.mysql_connection_rules.specs.declared.side.Side.TheVariants.{Client, Server}
use Rattle.mysql_connection_contents.specs.PacketLaws.{PacketsAreSpoken}

-- ---- a stream that grows

pub grow_none : (own : Side) (s : Streams) → grow own (Piece []) s ≡ s
grow_none Client s = ap (λ (l : List ℕ). record {
  client = record { read = s.client.read; bytes = l; closed = s.client.closed };
  server = s.server;
}) (append-nil s.client.bytes)
grow_none Server s = ap (λ (l : List ℕ). record {
  client = s.client;
  server = record { read = s.server.read; bytes = l; closed = s.server.closed };
}) (append-nil s.server.bytes)

pub grow_more : (own : Side) (first more : List ℕ) (s : Streams) →
    grow own (Piece more) (grow own (Piece first) s) ≡ grow own (Piece (first ++ more)) s
grow_more Client first more s = ap (λ (l : List ℕ). record {
  client = record { read = s.client.read; bytes = l; closed = s.client.closed };
  server = s.server;
}) (append_assoc s.client.bytes first more)
grow_more Server first more s = ap (λ (l : List ℕ). record {
  client = s.client;
  server = record { read = s.server.read; bytes = l; closed = s.server.closed };
}) (append_assoc s.server.bytes first more)

-- ---- payload by payload

unfoldable pub packets_are_spoken : PacketsAreSpoken
packets_are_spoken own other begun streams xs old new [] before behind spoken done = record {
  said = [];
  bytes = [];
  payloads_are = refl;
  its_own = tt;
  appended = sym (append-nil before ∙ done.1);
  spoken = subst (λ (s : Streams). HasSpoken own other begun s (xs ++ []) new.world) (sym (grow_none own streams))
      (subst (λ (l : List Spoken). HasSpoken own other begun streams l new.world) (sym (append-nil xs))
      (subst (λ (w : World). HasSpoken own other begun streams xs w) (ap (λ (m : Machine). m.world) done.0) spoken));
}
packets_are_spoken own other begun streams xs old new (payload ∷ payloads) before behind spoken done =
    let put = done.2.puts.0 in
    let written = put.1.written in
    let x = spoken_by old.world put.0 payload in
    let packets = packets_for put.0 old.world.standing payload in
    let one : PutsSpoken old.world x done.0.world = record {
      after = written.after;
      standing = refl;
      its_own = refl;
      number = refl;
      says = put.1.says;
      may = written.may;
      goes = written.goes;
    } in
    let more = packets_are_spoken own other begun (grow own (Piece packets) streams) (xs ++ x ∷ []) done.0 new payloads
    done.1 behind (puts x spoken put.1.its_own one) done.3 in record {
      said = x ∷ more.said;
      bytes = packets ++ more.bytes;
      payloads_are = ap (λ (l : List (List ℕ)). payload ∷ l) more.payloads_are;
      its_own = (put.1.its_own, more.its_own);
      appended = more.appended ∙ ap (λ (l : List ℕ). l ++ more.bytes) written.appended ∙
          append_assoc before packets more.bytes;
      spoken = subst (λ (s : Streams). HasSpoken own other begun s (xs ++ x ∷ more.said) new.world)
          (grow_more own packets more.bytes streams)
          (subst (λ (l : List Spoken). HasSpoken own other begun
          (grow own (Piece more.bytes) (grow own (Piece packets) streams)) l new.world)
          (append_assoc xs (x ∷ []) more.said) more.spoken);
    }
