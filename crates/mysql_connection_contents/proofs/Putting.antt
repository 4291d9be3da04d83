-- What a machine put and took is what is heard of its streams.
use Rattle.std.proofs.Common.{◌≡◌, ℕ, ◌<◌, ◌≤◌, true, List, [], ◌∷◌, ◌++◌, Some, Ok, length, refl, sym, ap}
use Rattle.std.proofs.Common.{subst, ◌∙◌}
use Rattle.std.specs.Prelude.{◌&&◌}
use Rattle.std.proofs.lemmas.List.{map-append}
use Rattle.mysql_wire.specs.FirstPacket.{Whole, first_packet}
use Rattle.mysql_wire.specs.FirstPacketLaws.{FramingsAreFound, PacketsStay, StaysBy}
use Rattle.mysql_connection_rules.specs.declared.side.Side.{Side}
use Rattle.mysql_connection_rules.specs.declared.side.Side.TheVariants.{Client, Server}
use Rattle.mysql_connection_rules.specs.Events.{Event, side_of}
use Rattle.mysql_connection_rules.specs.Events as events
use Rattle.mysql_connection_rules.specs.Standing.{Standing}
use Rattle.mysql_connection_rules.specs.Steps.{step, turn}
use Rattle.mysql_connection_rules.specs.Streams.{Beginning, Coming, End, Piece, Streams, World, come, limit_of, moved}
use Rattle.mysql_connection_rules.specs.Streams.{start, stream_of}
use Rattle.mysql_connection_rules.specs.AgreementLaws.{NumbersAreBytes, PutsAreRead}
use Rattle.mysql_connection_rules.specs.PuttingMachines.{HadAs, HadOrPut, Puts}
use Rattle.mysql_connection_rules.specs.PuttingMachines.HadAs.{fresh_as, comes_as, ends_as, takes_as, puts_as}
use Rattle.mysql_connection_rules.specs.PuttingMachines.HadOrPut.{fresh as fresh_too, comes as comes_too}
use Rattle.mysql_connection_rules.specs.PuttingMachines.HadOrPut.{takes as takes_too, puts as puts_too}
use Rattle.mysql_connection_rules.specs.Puts.{is_due, is_free, is_turn, number_for, packets_for, past}
use Rattle.mysql_connection_rules.proofs.OneStep.{longer_for, moved_on}
use Rattle.mysql_connection_rules.proofs.Putting.{both, free_by, moved_is, turn_is, whole_found}
use Rattle.mysql_connection_contents.specs.Contents.{Heard, Spoken, events_of}
use Rattle.mysql_wire.specs.Framing.{framing, number_after}
use Rattle.mysql_connection_contents.specs.Records.{HasSpoken, MachinesHearWhatTheyPut, PutsSpoken}
use Rattle.mysql_connection_contents.specs.Records.HasSpoken.{fresh, comes, ends, takes, puts}
use Rattle.mysql_connection_contents.proofs.Farewells.{no_last_words}

-- ---- more bytes behind

module _ (stay : PacketsStay) where
  -- a packet that was found is found with more bytes behind it
  packet_on : (limit number : ℕ) (bytes piece payload : List ℕ) (next : ℕ) (rest : List ℕ) →
      first_packet limit number bytes ≡ Whole payload next rest →
      first_packet limit number (bytes ++ piece) ≡ Whole payload next (rest ++ piece)
  packet_on limit number bytes piece payload next rest is =
      subst (λ found. StaysBy piece found (first_packet limit number (bytes ++ piece))) is
      (stay limit number bytes piece)

  found_on : (w : World) (own side : Side) (coming : Coming) (payload : List ℕ) (next : ℕ)
      (rest : List ℕ) → first_packet (limit_of own w.limits) w.standing.number
      (stream_of own w.unread).bytes ≡ Whole payload next rest
      → first_packet (limit_of own w.limits) w.standing.number
      (stream_of own (come side coming w).unread).bytes ≡
      Whole payload next (longer_for own side coming rest)
  found_on w Client Client (Piece piece) payload next rest is =
      packet_on w.limits.client w.standing.number w.unread.client.bytes piece payload next rest is
  found_on w Client Client End payload next rest is = is
  found_on w Client Server coming payload next rest is = is
  found_on w Server Client coming payload next rest is = is
  found_on w Server Server (Piece piece) payload next rest is =
      packet_on w.limits.server w.standing.number w.unread.server.bytes piece payload next rest is
  found_on w Server Server End payload next rest is = is

  -- what was heard is heard with more bytes behind it
  pub heard_on : (side : Side) (coming : Coming) (xs : List Spoken) (w last : World) →
      Heard w xs last → Heard (come side coming w) xs (come side coming last)
  heard_on side coming [] w last h = ap (come side coming) h
  heard_on side coming (x ∷ xs) w last h =
      let mid = h.1.0 in
      let rest = h.1.1 in
      let later = heard_on side coming xs (moved w x.side x.number rest mid) last h.1.5 in (
        h.0,
        (
          mid,
          longer_for x.side side coming rest,
          h.1.2,
          found_on w x.side side coming x.payload x.number rest h.1.3,
          h.1.4,
          subst (λ v. Heard v xs (come side coming last)) (sym (moved_on w x.side side coming x.number rest mid)) later,
        ),
      )

one_more : (xs : List Spoken) (w mid last : World) (x : Spoken) → Heard w xs mid →
    Heard mid (x ∷ []) last → Heard w (xs ++ x ∷ []) last
one_more [] w mid last x h more = subst (λ v. Heard v (x ∷ []) last) (sym h) more
one_more (y ∷ xs) w mid last x h more = (
  h.0,
  (
    h.1.0,
    h.1.1,
    h.1.2,
    h.1.3,
    h.1.4,
    one_more xs (moved w y.side y.number h.1.1 h.1.0) mid last x h.1.5 more,
  ),
)

-- ---- a payload that is put

-- an event that is no last words is due where it is its side's turn
record Usual (w : World) (event : Event) : Type 0 where
  none : (stream_of (side_of event) w.unread).bytes ≡ []
  its : turn w.standing.phase ≡ Some (side_of event)
  number : number_for event w.standing ≡ w.standing.number

usual_by : (w : World) (event : Event) →
    (is_free (stream_of (side_of event) w.unread) &&
    is_turn (side_of event) (turn w.standing.phase)) ≡ true → number_for event w.standing ≡
    w.standing.number → Usual w event
usual_by w event due number =
    let stream = stream_of (side_of event) w.unread in
    let parts = both (is_free stream) (is_turn (side_of event) (turn w.standing.phase)) due in
    record {
      none = (free_by stream.closed stream.bytes parts.0).1;
      its =
          turn_is (side_of event) (turn w.standing.phase) parts.1;
      number = number;
    }

usual : (w : World) (event : Event) (payload : List ℕ) (after : Standing) →
    step w.standing payload ≡ Ok (event, after) → is_due w event ≡ true → Usual w event
usual w (events.Greeting said) payload after says due = usual_by w (events.Greeting said) due refl
usual w (events.Response said) payload after says due = usual_by w (events.Response said) due refl
usual w (events.Authentication said) payload after says due = usual_by w (events.Authentication said) due refl
usual w (events.Answer bytes) payload after says due = usual_by w (events.Answer bytes) due refl
usual w (events.Asked command) payload after says due = usual_by w (events.Asked command) due refl
usual w (events.Replied said) payload after says due = usual_by w (events.Replied said) due refl
usual w (events.FileData bytes) payload after says due = usual_by w (events.FileData bytes) due refl
usual w (events.Farewell error) payload after says due = absurd (no_last_words error w.standing payload after says)

module _ (found : FramingsAreFound) where
  found_put : (w : World) (side : Side) (payload : List ℕ) → w.standing.number < 256 →
      (stream_of side w.unread).bytes ≡ [] → length payload ≤ limit_of side w.limits
      → first_packet (limit_of side w.limits) w.standing.number
      (stream_of side (come side (Piece (framing payload w.standing.number)) w).unread).bytes ≡
      Whole payload (number_after payload w.standing.number) []
  found_put w Client payload byte none within =
      whole_found found w.limits.client w.standing.number w.unread.client.bytes payload none byte
      within
  found_put w Server payload byte none within =
      whole_found found w.limits.server w.standing.number w.unread.server.bytes payload none byte
      within

  -- by the side whose event it is
  heard_of : (old : World) (x : Spoken) (new : World) (side : Side) → side ≡ side_of x.event →
      old.standing.number < 256 → (p : PutsSpoken old x new) → Usual old x.event → x.side ≡ side
      → Heard (come side (Piece (packets_for x.event old.standing x.payload)) old) (x ∷ []) new
  heard_of old x new side its byte p u same =
      let n = old.standing.number in
      let none : (stream_of side old.unread).bytes ≡ [] =
      subst (λ t. (stream_of t old.unread).bytes ≡ []) (sym its) u.none in
      let within : length x.payload ≤ limit_of side old.limits =
      subst (λ t. length x.payload ≤ limit_of t old.limits) (sym its) p.may.within in
      let due : turn old.standing.phase ≡ Some side = u.its ∙ ap Some (sym its) in
      let there : first_packet (limit_of side old.limits) n
      (stream_of side (come side (Piece (framing x.payload n)) old).unread).bytes ≡
      Whole x.payload x.number [] =
      found_put old side x.payload byte none within ∙ ap (λ k. Whole x.payload k []) (sym p.number) in
      let goes : moved (come side (Piece (framing x.payload n)) old) side x.number [] p.after ≡ new =
      moved_is old side x.number (framing x.payload n) p.after none
      ∙ ap (λ t. past old t x.number (framing x.payload n) p.after) its
      ∙ ap (λ k. past old (side_of x.event) k (framing x.payload n) p.after) p.number
      ∙ ap (λ k. past old (side_of x.event) (number_after x.payload k) (framing x.payload k) p.after) (sym u.number)
      ∙ sym p.goes in
      let by_side : Heard (come side (Piece (framing x.payload n)) old) (x ∷ []) new = (
        p.standing,
        (
          p.after,
          [],
          due ∙ ap Some (sym same),
          subst (λ t. first_packet (limit_of t old.limits) n
              (stream_of t (come side (Piece (framing x.payload n)) old).unread).bytes ≡
              Whole x.payload x.number []) (sym same) there,
          p.says,
          subst (λ t. moved (come side (Piece (framing x.payload n)) old) t x.number [] p.after ≡ new) (sym same) goes,
        ),
      ) in
      subst (λ k. Heard (come side (Piece (framing x.payload k)) old) (x ∷ []) new) (sym u.number) by_side

-- ---- all of it

pub had_too : (own other : Side) (begun : Beginning) (put : List Event) (streams : Streams)
    (events : List Event) (held : World) → HadAs own other begun put streams events held →
    HadOrPut begun streams events held
had_too own other begun put streams events held fresh_as = fresh_too
had_too own other begun put streams events held
    (comes_as {streams = before} {old = old} coming had is_open e) =
    comes_too other coming (had_too own other begun put before events old had) is_open e
had_too own other begun put streams events held
    (ends_as {streams = before} {old = old} had is_open e) =
    comes_too own End (had_too own other begun put before events old had) is_open e
had_too own other begun put streams events held (takes_as {events = front} {old = old} had e) =
    takes_too (had_too own other begun put streams front old had) e
had_too own other begun put streams events held
    (puts_as {put = earlier} {streams = before} {events = front} {old = old} bytes had e) =
    puts_too own bytes (had_too own other begun earlier before front old had) e

-- a machine that has put and taken these payloads
pub record Speaks (own other : Side) (begun : Beginning) (streams : Streams) (xs : List Spoken)
    (held : World) : Type 0 where
  pub put : List Event
  pub had : HadAs own other begun put streams (events_of xs) held
  pub heard : Heard (start begun streams) xs held

pub events_behind : (xs : List Spoken) (x : Spoken) → events_of (xs ++ x ∷ []) ≡ events_of xs ++ x.event ∷ []
events_behind xs x = map-append (λ (y : Spoken). y.event) xs (x ∷ [])

module _ (stay : PacketsStay) (found : FramingsAreFound) (reads : PutsAreRead)
    (numbers : NumbersAreBytes) (own other : Side) (begun : Beginning)
    (small : begun.first.number < 256) where
  pub speaks : (streams : Streams) (xs : List Spoken) (held : World) →
      HasSpoken own other begun streams xs held → Speaks own other begun streams xs held
  speaks streams xs held fresh = record { put = []; had = fresh_as; heard = refl }
  speaks streams xs held (comes {streams = before} {old = old} coming had is_open e) =
      let s = speaks before xs old had in
      record {
        put = s.put;
        had = comes_as coming s.had is_open e;
        heard = subst (Heard (start begun streams) xs) (sym e)
            (heard_on stay other coming xs (start begun before) old s.heard);
      }
  speaks streams xs held (ends {streams = before} {old = old} had is_open e) =
      let s = speaks before xs old had in
      record {
        put = s.put;
        had = ends_as s.had is_open e;
        heard = subst (Heard (start begun streams) xs) (sym e)
            (heard_on stay own End xs (start begun before) old s.heard);
      }
  speaks streams xs held (takes {xs = front} {old = old} x had t) =
      let s = speaks streams front old had in
      record {
        put = s.put;
        had = subst (λ l. HadAs own other begun s.put streams l held) (sym (events_behind front x))
            (takes_as s.had t.takes);
        heard = one_more front (start begun streams) old held x s.heard t.heard;
      }
  speaks streams xs held (puts {streams = before} {xs = front} {old = old} x had same p) =
      let s = speaks before front old had in
      let bytes = packets_for x.event old.standing x.payload in
      let byte : old.standing.number < 256 =
      numbers begun before (events_of front) old small
      (had_too own other begun s.put before (events_of front) old s.had) in
      let its : own ≡ side_of x.event = sym same ∙ p.its_own in
      let read : Puts old x.event own bytes held =
      subst (λ t. Puts old x.event t bytes held) (sym its)
      (subst (Puts old x.event (side_of x.event) bytes) (sym p.goes)
      (reads old x.event x.payload p.after byte p.may)) in
      record {
        put = s.put ++ x.event ∷ [];
        had = subst (λ l. HadAs own other begun (s.put ++ x.event ∷ []) streams l held)
            (sym (events_behind front x)) (puts_as bytes s.had read);
        heard = one_more front (start begun streams) (come own (Piece bytes) old) held x
            (heard_on stay own (Piece bytes) front (start begun before) old s.heard)
            (heard_of found old x held own its byte p (usual old x.event x.payload p.after p.says p.may.due) same);
      }

pub machines_hear_what_they_put : PacketsStay → FramingsAreFound → PutsAreRead → NumbersAreBytes →
    MachinesHearWhatTheyPut
machines_hear_what_they_put stay found reads numbers own other begun streams xs held small had =
    (speaks stay found reads numbers own other begun small streams xs held had).heard
