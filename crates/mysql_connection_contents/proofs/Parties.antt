-- Whose calls these are: anybody's, or those of one side, of which nothing is unread.
use Rattle.std.proofs.Common.{◌≡◌, ◌⊎◌, ◌<◌, inl, inr, ℕ, true, false, List, [], ◌∷◌, ◌++◌, refl, sym, ap, subst, ◌∙◌}
use Rattle.std.specs.Prelude.{not}
use Rattle.std.specs.List.{list_all}
use Rattle.mysql_connection_contents.proofs.Histories.{Keeps, MayDo, both_true, written_puts}
use Rattle.mysql_connection_contents.specs.Calls.{Done, feeds_other, is_by}
use Rattle.mysql_connection_rules.proofs.Agreeing.{had_too, other_kept}
use Rattle.mysql_connection_rules.proofs.Packets.{PacketLaws}
use Rattle.mysql_connection_rules.proofs.Quiet.{next_quiet}
use Rattle.mysql_connection_rules.proofs.Running.{had_runs, runs-closed}
use Rattle.mysql_connection_rules.specs.AgreementLaws.{NumbersAreBytes, PutsAreRead}
use Rattle.mysql_connection_rules.specs.Events.{Event, side_of}
use Rattle.mysql_connection_rules.specs.Laws.{PositionsStay}
use Rattle.mysql_connection_rules.specs.Machines.{IsOpen}
use Rattle.mysql_connection_rules.specs.Puts.{is_of, packets_for, same_side}
use Rattle.mysql_connection_rules.specs.PuttingMachines.{HadAs, HadOrPut, Puts, comes_as, ends_as, puts_as, takes_as}
use Rattle.mysql_connection_rules.specs.PuttingMachines.HadOrPut.{comes, puts, takes}
use Rattle.mysql_connection_rules.specs.Streams.{Beginning, Coming, End, Piece, Stream, Streams, World, come, grow}
use Rattle.mysql_connection_rules.specs.Streams.{start, stream_of}
use Rattle.mysql_connection_rules.specs.declared.side.Side.{Side}
use Rattle.mysql_connection_rules.specs.declared.side.Side.TheVariants.{Client, Server}

-- ---- sides

pub other_of : (own other side : Side) → same_side own other ≡ false → not (same_side own side) ≡ true → side ≡ other
other_of Client Client side a b = absurd (cc a)
other_of Client Server Client a b = absurd (cc b)
other_of Client Server Server a b = refl
other_of Server Client Client a b = refl
other_of Server Client Server a b = absurd (cc b)
other_of Server Server side a b = absurd (cc a)

pub own_of : (own side : Side) → same_side own side ≡ true → side ≡ own
own_of Client Client e = refl
own_of Client Server e = absurd (cc e)
own_of Server Client e = absurd (cc e)
own_of Server Server e = refl

pub whose : (own other side : Side) → same_side own other ≡ false → (side ≡ own) ⊎ (side ≡ other)
whose Client Client side a = absurd (cc a)
whose Client Server Client a = inl refl
whose Client Server Server a = inr refl
whose Server Client Client a = inr refl
whose Server Client Server a = inl refl
whose Server Server side a = absurd (cc a)

-- ---- anybody

pub any_keeps : PacketLaws → NumbersAreBytes → PutsAreRead → (begun : Beginning) →
    begun.first.number < 256 →
    Keeps (λ call. Unit {0}) (λ event. true) (λ put s ev w. HadOrPut begun s ev w)
any_keeps packets numbers reads begun small = record {
  closed = λ put s ev w had side. runs-closed packets (start begun s) ev w
      (had_runs packets begun s ev w (had_too begun s ev w had)) side;
  small = λ put s ev w had. numbers begun s ev w small had;
  comes = λ put s ev old side piece fed had is_open. comes {old = old} side (Piece piece) had is_open refl;
  ends = λ put s ev old side had is_open. comes {old = old} side End had is_open refl;
  takes = λ put s ev old event new had is. takes {old = old} had is;
  puts = λ put s ev old event payload new before behind said had written.
      puts {old = old} (side_of event) (packets_for event old.standing payload) had
      (written_puts reads old event payload new before behind (numbers begun s ev old small had)
      written);
}

all_true : (events : List Event) → list_all (λ event. true) events ≡ true
all_true [] = refl
all_true (event ∷ events) = all_true events

pub anybody_may : (calls : List Done) → MayDo (λ call. Unit {0}) (λ event. true) calls
anybody_may [] = tt
anybody_may (done ∷ calls) = (tt, all_true done.put, anybody_may calls)

-- ---- one side

-- What one side put and had of the other, and nothing of its own is unread.
abbrev pub IsOf : (own other : Side) → Beginning → List Event → Streams → List Event → World → Type 0
IsOf own other begun put s ev w = HadAs own other begun put s ev w × HadOrPut begun s ev w ×
    ((stream_of own w.unread).bytes ≡ [])

module _ (packets : PacketLaws) (positions : PositionsStay) (numbers : NumbersAreBytes)
    (reads : PutsAreRead) (own other : Side) (apart : same_side own other ≡
    false) (begun : Beginning) (small : begun.first.number < 256) where
  come_of : (put : List Event) (s : Streams) (ev : List Event) (old : World) (side : Side)
      (coming : Coming) → side ≡ other → IsOf own other begun put s ev old → IsOpen old side →
      IsOf own other begun put (grow side coming s) ev (come side coming old)
  come_of put s ev old side coming its had is_open =
      subst (λ (x : Side). IsOf own other begun put (grow x coming s) ev (come x coming old)) (sym its) (
        comes_as {old = old} coming had.0 (subst (IsOpen old) its is_open) refl,
        comes {old = old} other coming had.1 (subst (IsOpen old) its is_open) refl,
        ap (λ (x : Stream). x.bytes) (other_kept own other coming old apart) ∙ had.2,
      )

  end_kept : (side : Side) (w : World) → (stream_of side (come side End w).unread).bytes ≡
      (stream_of side w.unread).bytes
  end_kept Client w = refl
  end_kept Server w = refl

  end_of : (put : List Event) (s : Streams) (ev : List Event) (old : World) (side : Side) → side ≡
      own → IsOf own other begun put s ev old → IsOpen old side →
      IsOf own other begun put (grow side End s) ev (come side End old)
  end_of put s ev old side its had is_open =
      subst (λ (x : Side). IsOf own other begun put (grow x End s) ev (come x End old)) (sym its) (
        ends_as {old = old} had.0 (subst (IsOpen old) its is_open) refl,
        comes {old = old} own End had.1 (subst (IsOpen old) its is_open) refl,
        end_kept own old ∙
            had.2,
      )

  ends_of : (put : List Event) (s : Streams) (ev : List Event) (old : World) (side : Side) →
      IsOf own other begun put s ev old → IsOpen old side →
      IsOf own other begun put (grow side End s) ev (come side End old)
  ends_of put s ev old side had is_open = elim (whose own other side apart) [
    | inl its ↦ end_of put s ev old side its had is_open
    | inr its ↦ come_of put s ev old side End its had is_open
  ]

  put_of : (put : List Event) (s : Streams) (ev : List Event) (old : World) (event : Event)
      (side : Side) (bytes : List ℕ) (new : World) → side ≡ own →
      IsOf own other begun put s ev old → Puts old event side bytes new
      → IsOf own other begun (put ++ event ∷ []) (grow side (Piece bytes) s) (ev ++ event ∷ []) new
  put_of put s ev old event side bytes new its had is =
      let mine = subst (λ (x : Side). Puts old event x bytes new) its is in
      subst (λ (x : Side). IsOf own other begun (put ++ event ∷ []) (grow x (Piece bytes) s) (ev ++
      event ∷ []) new) (sym its)
      (puts_as {old = old} bytes had.0 mine, puts {old = old} own bytes had.1 mine, mine.used)

  pub side_keeps : Keeps (λ call. feeds_other own call ≡
      true) (is_of own) (λ put s ev w. IsOf own other begun put s ev w)
  side_keeps = let any = any_keeps packets numbers reads begun small in record {
    closed = λ put s ev w had side. any.closed put s ev w had.1 side;
    small = λ put s ev w had. any.small put s ev w had.1;
    comes = λ put s ev old side piece fed had is_open. come_of put s ev old side (Piece piece)
        (other_of own other side apart fed) had is_open;
    ends = ends_of;
    takes = λ put s ev old event new had is. (
      takes_as {old = old} had.0 is,
      takes {old = old} had.1 is,
      (next_quiet positions old own event new had.2 is).none,
    );
    puts = λ put s ev old event payload new before behind said had written.
        put_of put s ev old event (side_of event) (packets_for event old.standing payload) new
        (own_of own (side_of event) said) had
        (written_puts reads old event payload new before behind (any.small put s ev old had.1) written);
  }

pub side_may : (own : Side) (calls : List Done) → list_all (is_by own) calls ≡ true →
    MayDo (λ call. feeds_other own call ≡ true) (is_of own) calls
side_may own [] h = tt
side_may own (done ∷ calls) h =
    let both = both_true (is_by own done) (list_all (is_by own) calls) h in
    let its = both_true (feeds_other own done.call) (list_all (is_of own) done.put) both.0 in
    (its.0, its.1, side_may own calls both.1)
