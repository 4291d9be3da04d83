-- Runs: one after another, over more bytes, that there is one, and that it is one.
use Rattle.std.proofs.Common.{◌≡◌, ℕ, ◌+◌, ◌<◌, zero, suc, Bool, true, false, List, [], ◌∷◌, ◌++◌, ◌⊎◌, inl, inr, refl}
use Rattle.std.proofs.Common.{sym, ap, subst, ◌∙◌, arith}
use Rattle.std.proofs.lemmas.List.{append-nil}
use Rattle.mysql_server_packets.specs.Packets.{ServerError}
use Rattle.mysql_connection_rules.specs.declared.side.Side.{Side}
use Rattle.mysql_connection_rules.specs.declared.side.Side.TheVariants.{Client, Server}
use Rattle.mysql_connection_rules.specs.Events.{Event, Farewell}
use Rattle.mysql_connection_rules.specs.Streams.{Beginning, Stream, Streams, stream_of, with_stream, Coming, Piece, End}
use Rattle.mysql_connection_rules.specs.Streams.{grow, World, start, come, Failure, Next, Waits, Says, Fails, next}
use Rattle.mysql_connection_rules.specs.Runs.{Runs, IsLast, IsRun, HasCome}
use Rattle.mysql_connection_rules.specs.Machines.{IsOpen, Had, fresh, comes, takes}
use Rattle.mysql_connection_rules.specs.Laws.{RunExists, RunIsOne, PiecesAreTheRun, FrontsReadOn, EndAddsLastWords}
use Rattle.mysql_connection_rules.specs.Laws.{ServersEndChangesNothing, unread_length}
use Rattle.mysql_connection_rules.proofs.OneStep.{next_on-says, next_on-fails}
use Rattle.mysql_connection_rules.proofs.Packets.{PacketLaws}
use Rattle.mysql_connection_rules.proofs.Going.{next_goes}
use Rattle.mysql_connection_rules.proofs.Ending.{EndsBy, next_ends, next_still}

-- ---- one run after another

pub runs-append : (w : World) (xs ys : List Event) (mid last : World) → Runs w xs mid →
    Runs mid ys last → Runs w (xs ++ ys) last
runs-append w [] ys mid last h k = subst (λ (v : World). Runs v ys last) (sym h) k
runs-append w (x ∷ xs) ys mid last h k = (h.0, h.1, runs-append h.0 xs ys mid last h.2 k)

-- a run ends no stream
pub runs-closed : PacketLaws → (w : World) (events : List Event) (last : World) →
    Runs w events last → (side : Side) → (stream_of side last.unread).closed ≡
    (stream_of side w.unread).closed
runs-closed packets w [] last h side = ap (λ (v : World). (stream_of side v.unread).closed) (sym h)
runs-closed packets w (event ∷ events) last h side = runs-closed packets h.0 events last h.2 side ∙
    ((next_goes packets w event h.0 h.1).streams side).closed

pub runs-come : PacketLaws →
    (w : World) (events : List Event) (last : World) (side : Side) (coming : Coming) →
    IsOpen w side → Runs w events last → Runs (come side coming w) events (come side coming last)
runs-come packets w [] last side coming is_open h = ap (come side coming) h
runs-come packets w (event ∷ events) last side coming is_open h = (
  come side coming h.0,
  next_on-says packets.stay w side coming event h.0 is_open h.1,
  runs-come packets h.0 events last side coming
      (((next_goes packets w event h.0 h.1).streams side).closed ∙ is_open) h.2,
)

-- ---- one run

one_next : (w : World) (x y : Event) (v u : World) → next w ≡ Says x v → next w ≡ Says y u → (x ≡ y) × (v ≡ u)
one_next w x y v u p q = let e : Says x v ≡ Says y u = sym p ∙ q in (cc e, cc e)

cons_same : (x y : Event) (xs ys : List Event) → x ≡ y → xs ≡ ys → x ∷ xs ≡ y ∷ ys
cons_same x y xs ys p q = cc

-- an event is no end
not_last : (w : World) (event : Event) (mid : World) → next w ≡ Says event mid → IsLast (next w) → ⊥
not_last w event mid e stop = subst IsLast e stop

-- a run and one that ends are the same up to the first one's end
pub runs-split : (w : World) (xs ys : List Event) (mid last : World) → Runs w xs mid →
    Runs w ys last → IsLast (next last)
    → (more : List Event) × (xs ++ more ≡ ys) × Runs mid more last
runs-split w [] ys mid last h k stop = (ys, refl, subst (λ (v : World). Runs v ys last) h k)
runs-split w (x ∷ xs) [] mid last h k stop =
    absurd (not_last w x h.0 h.1 (subst (λ (v : World). IsLast (next v)) (sym k) stop))
runs-split w (x ∷ xs) (y ∷ ys) mid last h k stop =
    let same = one_next w x y h.0 k.0 h.1 k.1 in
    let rest = runs-split h.0 xs ys mid last h.2 (subst (λ (v : World). Runs v ys last) (sym same.1) k.2) stop in
    (rest.0, cons_same x y (xs ++ rest.0) ys same.0 rest.1, rest.2)

none_left : (w : World) (events : List Event) (last : World) → Runs w events last →
    IsLast (next w) → (events ≡ []) × (w ≡ last)
none_left w [] last h stop = (refl, h)
none_left w (event ∷ events) last h stop = absurd (not_last w event h.0 h.1 stop)

pub run_is_one_from : (w : World) (xs ys : List Event) (last end : World) → Runs w xs last →
    IsLast (next last) → Runs w ys end → IsLast (next end) → (xs ≡ ys) × (last ≡ end)
run_is_one_from w xs ys last end h stop k halt =
    let rest = runs-split w xs ys last end h k halt in
    let none = none_left last rest.0 end rest.2 stop in
    (sym (append-nil xs) ∙ ap (λ (l : List Event). xs ++ l) (sym none.0) ∙ rest.1, none.1)

pub run_is_one : RunIsOne
run_is_one begun streams events others last end h k =
    run_is_one_from (start begun streams) events others last end h.runs h.ends k.runs k.ends

-- ---- there is a run

unfoldable pub HasRun : World → Type 0
HasRun w = (events : List Event) × (last : World) × Runs w events last × IsLast (next last)

pub run_by : (w : World) (n : Next) → next w ≡ n →
    ((event : Event) (mid : World) → next w ≡ Says event mid → HasRun mid) → HasRun w
unfolding HasRun
run_by w Waits e go = ([], w, refl, subst IsLast (sym e) tt)
run_by w (Fails failure) e go = ([], w, refl, subst IsLast (sym e) tt)
run_by w (Says event mid) e go =
    let rest = go event mid e in
    (event ∷ rest.0, rest.1, (mid, e, rest.2), rest.3)

run_within : PacketLaws → (n : ℕ) (w : World) → unread_length w < n → HasRun w
run_within packets zero w h = absurd (omega arith)
run_within packets (suc n) w h =
    run_by w (next w) refl (λ event mid e. run_within packets n mid (let less =
    (next_goes packets w event mid e).takes in omega arith))

pub run_exists : PacketLaws → RunExists
unfolding HasRun
run_exists packets begun streams =
    let run = run_within packets (unread_length (start begun streams) + 1) (start begun streams) (omega arith) in
    (run.0, run.1, record { runs = run.2; ends = run.3 })

-- ---- what a machine has had

step-runs : (w : World) (event : Event) (mid : World) → next w ≡ Says event mid → Runs w (event ∷ []) mid
step-runs w event mid e = (mid, e, refl)

come-runs : PacketLaws → (w : World) (events : List Event) (old : World) (side : Side)
    (coming : Coming) → Runs w events old → IsOpen old side →
    Runs (come side coming w) events (come side coming old)
come-runs packets w events old side coming h is_open =
    runs-come packets w events old side coming (sym (runs-closed packets w events old h side) ∙
    is_open) h

-- The whole streams that came run by the events that were taken to what is held.
pub had_runs : PacketLaws →
    (begun : Beginning) (streams : Streams) (events : List Event) (held : World) →
    Had begun streams events held → Runs (start begun streams) events held
had_runs packets begun streams events held fresh = refl
had_runs packets begun streams events held (comes {streams = before} {old = old} side coming had is_open e) =
    subst (λ (v : World). Runs (start begun streams) events v) (sym e)
    (come-runs packets (start begun before) events old side coming
    (had_runs packets begun before events old had) is_open)
had_runs packets begun streams events held (takes {events = front} {old = old} {event = event} had e) =
    runs-append (start begun streams) front (event ∷
    []) old held (had_runs packets begun streams front old had) (step-runs old event held e)

pub pieces_are_the_run : PacketLaws → PiecesAreTheRun
pieces_are_the_run packets begun streams taken left events held last end had more stop run =
    run_is_one_from (start begun streams) (taken ++ left) events last end
    (runs-append (start begun streams) taken left held last
    (had_runs packets begun streams taken held had) more) stop run.runs run.ends

-- ---- fronts

-- the rest of the streams comes, each part of one that is open
abbrev pub come_all : List (Side × Coming) → World → World
come_all [] w = w
come_all (part ∷ parts) w = come_all parts (come part.0 part.1 w)

abbrev pub MayCome : List (Side × Coming) → World → Type 0
MayCome [] w = Unit {0}
MayCome (part ∷ parts) w = IsOpen w part.0 × MayCome parts (come part.0 part.1 w)

-- what ran runs on, and a fault stays
pub runs-on : PacketLaws →
    (parts : List (Side × Coming)) (w : World) (events : List Event) (last : World) →
    MayCome parts w → Runs w events last
    → Runs (come_all parts w) events (come_all parts last) ×
    ((failure : Failure) → next last ≡ Fails failure → next (come_all parts last) ≡
    Fails failure)
runs-on packets [] w events last may h = (h, λ failure e. e)
runs-on packets (part ∷ parts) w events last may h =
    let rest = runs-on packets parts (come part.0 part.1 w) events (come part.0 part.1 last) may.1
    (runs-come packets w events last part.0 part.1 may.0 h) in (
      rest.0,
      λ failure e. rest.1 failure
          (next_on-fails packets.stay last part.0 part.1 failure
          (runs-closed packets w events last h part.0 ∙ may.0) e),
    )

-- what is still to come of a stream
abbrev pub parts_of : Side → List ℕ → Bool → Bool → List (Side × Coming)
parts_of side more true whole_closed = []
parts_of side more false true = (side, Piece more) ∷ (side, End) ∷ []
parts_of side more false false = (side, Piece more) ∷ []

abbrev pub set_stream : Side → Stream → World → World
set_stream side stream w =
    record { limits = w.limits; standing = w.standing; unread = with_stream side stream w.unread }

same_stream : (side : Side) (w : World) (whole : Stream) → stream_of side w.unread ≡ whole → w ≡ set_stream side whole w
same_stream Client w whole e =
    λ i. record {
      limits = w.limits;
      standing = w.standing;
      unread =
          record { client = e i; server = w.unread.server };
    }
same_stream Server w whole e =
    λ i. record {
      limits = w.limits;
      standing = w.standing;
      unread =
          record { client = w.unread.client; server = e i };
    }

-- with all its bytes, as they are closed
abbrev with_all : Side → World → ℕ → List ℕ → Bool → World
with_all side w read bytes closed = set_stream side (record { read = read; bytes = bytes; closed = closed }) w

all_came : (side : Side) (w : World) (whole : Stream) (read : ℕ) (bytes : List ℕ) (closed : Bool) →
    read ≡ whole.read → bytes ≡ whole.bytes → closed ≡ whole.closed
    → with_all side w read bytes closed ≡ set_stream side whole w
all_came side w whole read bytes closed r b c = λ i. with_all side w (r i) (b i) (c i)

ended : (side : Side) (w : World) (whole : Stream) (more : List ℕ) → whole.closed ≡ true →
    (stream_of side w.unread).read ≡ whole.read
    → (stream_of side w.unread).bytes ++ more ≡ whole.bytes →
    come side End (come side (Piece more) w) ≡ set_stream side whole w
ended Client w whole more c r e =
    all_came Client w whole w.unread.client.read (w.unread.client.bytes ++ more) true r e (sym c)
ended Server w whole more c r e =
    all_came Server w whole w.unread.server.read (w.unread.server.bytes ++ more) true r e (sym c)

piece_came : (side : Side) (w : World) (whole : Stream) (more : List ℕ) →
    (stream_of side w.unread).closed ≡ whole.closed → (stream_of side w.unread).read ≡ whole.read
    → (stream_of side w.unread).bytes ++ more ≡ whole.bytes → come side (Piece more) w ≡ set_stream side whole w
piece_came Client w whole more c r e =
    all_came Client w whole w.unread.client.read (w.unread.client.bytes ++
    more) w.unread.client.closed r e c
piece_came Server w whole more c r e =
    all_came Server w whole w.unread.server.read (w.unread.server.bytes ++
    more) w.unread.server.closed r e c

pub still_open : (side : Side) (w : World) (piece : List ℕ) → IsOpen w side → IsOpen (come side (Piece piece) w) side
still_open Client w piece h = h
still_open Server w piece h = h

pub whole_comes : (side : Side) (w : World) (whole : Stream) (more : List ℕ)
    (closed whole_closed : Bool) → (stream_of side w.unread).closed ≡ closed → whole.closed ≡
    whole_closed
    → (stream_of side w.unread).read ≡ whole.read → (stream_of side w.unread).bytes ++ more ≡
    whole.bytes → (closed ≡ true → stream_of side w.unread ≡ whole)
    → (come_all (parts_of side more closed whole_closed) w ≡ set_stream side whole w) ×
    MayCome (parts_of side more closed whole_closed) w
whole_comes side w whole more true whole_closed p q r e all = (same_stream side w whole (all refl), tt)
whole_comes side w whole more false true p q r e all =
    (ended side w whole more q r e, (p, (still_open side w more p, tt)))
whole_comes side w whole more false false p q r e all = (piece_came side w whole more (p ∙ sym q) r e, (p, tt))

-- what ran over fronts of the streams runs over the whole streams, and a fault stays
pub front_runs : PacketLaws →
    (begun : Beginning) (front whole : Streams) (events : List Event) (last : World) →
    HasCome front whole → Runs (start begun front) events last
    → (mid : World) × Runs (start begun whole) events mid ×
    ((failure : Failure) → next last ≡ Fails failure → next mid ≡ Fails failure)
front_runs packets begun front whole events last come h =
    let w = start begun front in
    let half = start begun (record { client = whole.client; server = front.server }) in
    let a = come.client in
    let b = come.server in
    let c = whole_comes Client w whole.client a.bytes.0 front.client.closed whole.client.closed refl
    refl a.read a.bytes.1 a.all in
    let s = whole_comes Server half whole.server b.bytes.0 front.server.closed whole.server.closed
    refl refl b.read b.bytes.1 b.all in
    let one = runs-on packets (parts_of Client a.bytes.0 front.client.closed whole.client.closed) w events last c.1 h in
    let mid = come_all (parts_of Client a.bytes.0 front.client.closed whole.client.closed) last in
    let two = runs-on packets (parts_of Server b.bytes.0 front.server.closed whole.server.closed)
    half events mid s.1 (subst (λ (v : World). Runs v events mid) c.0 one.0) in
    let end = come_all (parts_of Server b.bytes.0 front.server.closed whole.server.closed) mid in
    (end, subst (λ (v : World). Runs v events end) s.0 two.0, λ failure e. two.1 failure (one.1 failure e))

pub fronts_read_on : PacketLaws → FrontsReadOn
fronts_read_on packets begun front whole events all last end come h k =
    let on = front_runs packets begun front whole events last come h.runs in
    let rest = runs-split (start begun whole) events all on.0 end on.1 k.runs k.ends in (
      (rest.0, rest.1),
      λ failure e.
          let fails = on.2 failure e in
          let none = none_left on.0 rest.0 end rest.2 (subst IsLast (sym fails) tt) in (
            sym (append-nil events) ∙ ap (λ (l : List Event). events ++ l) (sym none.0) ∙ rest.1,
            sym (ap next none.1) ∙ fails,
          ),
    )

-- ---- the end of the client's stream

-- what runs on from where bytes were waited for: nothing, or last words
by_end : (n : Next) (w : World) (more : List Event) (end : World) → next w ≡ n → EndsBy n →
    Runs w more end → (more ≡ []) ⊎ ((error : ServerError) × (more ≡ Farewell error ∷ []))
by_end n w [] end e ends h = inl refl
by_end Waits w (event ∷ more) end e ends h = absurd (not_last w event h.0 h.1 (subst IsLast (sym e) tt))
by_end (Fails failure) w (event ∷ more) end e ends h = absurd (not_last w event h.0 h.1 (subst IsLast (sym e) tt))
by_end (Says event mid) w (first ∷ more) end e ends h =
    let same = one_next w event first mid h.0 e h.1 in
    let none = none_left h.0 more end h.2 (subst IsLast (sym (ap next (sym same.1) ∙ ends.2)) tt) in
    inr (ends.0, cons_same first (Farewell ends.0) more [] (sym same.0 ∙ ends.1) none.0)

joined : (events more all : List Event) → events ++ more ≡ all → (more ≡ []) ⊎
    ((error : ServerError) × (more ≡ Farewell error ∷ []))
    → (events ≡ all) ⊎ ((error : ServerError) × (all ≡ events ++ Farewell error ∷ []))
joined events more all e (inl none) =
    inl (sym (append-nil events) ∙ ap (λ (l : List Event). events ++ l) (sym none) ∙ e)
joined events more all e (inr words) = inr (words.0, sym e ∙ ap (λ (l : List Event). events ++ l) words.1)

at_end : PacketLaws → (n : Next) (last end : World) (more : List Event) → next last ≡ n → IsLast n →
    IsOpen last Client → Runs (come Client End last) more end
    → (more ≡ []) ⊎ ((error : ServerError) × (more ≡ Farewell error ∷ []))
at_end packets Waits last end more e stop is_open h =
    by_end (next (come Client End last)) (come Client End last) more end refl (next_ends last e) h
at_end packets (Fails failure) last end more e stop is_open h =
    inl (none_left (come Client End last) more end h
    (subst IsLast (sym (next_on-fails packets.stay last Client End failure is_open e)) tt)).0
at_end packets (Says event mid) last end more e stop is_open h = absurd stop

pub end_adds_last_words : PacketLaws → EndAddsLastWords
end_adds_last_words packets begun streams events all last end is_open h k =
    let on = runs-come packets (start begun streams) events last Client End is_open h.runs in
    let rest = runs-split (start begun (grow Client End streams)) events all (come Client End last)
    end on k.runs k.ends in
    joined events rest.0 all rest.1
    (at_end packets (next last) last end rest.0 refl h.ends
    (runs-closed packets (start begun streams) events last h.runs Client ∙ is_open) rest.2)

-- ---- the end of the server's stream

still_last : PacketLaws → (n : Next) (last : World) → next last ≡ n → IsLast n →
    IsOpen last Server → IsLast (next (come Server End last))
still_last packets Waits last e stop is_open = subst IsLast (sym (next_still last e)) tt
still_last packets (Fails failure) last e stop is_open =
    subst IsLast (sym (next_on-fails packets.stay last Server End failure is_open e)) tt
still_last packets (Says event mid) last e stop is_open = absurd stop

-- what is closed is as it was
closed_same : (w : World) → w.unread.server.closed ≡ true → come Server End w ≡ w
closed_same w e = λ i. set_stream Server
    (record { read = w.unread.server.read; bytes = w.unread.server.bytes; closed = sym e i }) w

closed_runs : PacketLaws →
    (begun : Beginning) (streams : Streams) (events : List Event) (last : World) (closed : Bool) →
    streams.server.closed ≡ closed
    → IsRun begun streams events last → IsRun begun (grow Server End streams) events (come Server End last)
closed_runs packets begun streams events last false is_open h = record {
  runs = runs-come packets (start begun streams) events last Server End is_open h.runs;
  ends = still_last packets (next last) last refl h.ends
      (runs-closed packets (start begun streams) events last h.runs Server ∙ is_open);
}
closed_runs packets begun streams events last true is_closed h =
    let same = closed_same last
    (runs-closed packets (start begun streams) events last h.runs Server ∙ is_closed) in
    record {
      runs = subst (λ (v : World). Runs v events (come Server End last))
          (sym (closed_same (start begun streams) is_closed))
          (subst (λ (v : World). Runs (start begun streams) events v) (sym same) h.runs);
      ends = subst (λ (v : World). IsLast (next v)) (sym same) h.ends;
    }

pub servers_end_changes_nothing : PacketLaws → ServersEndChangesNothing
servers_end_changes_nothing packets begun streams events all last end h k =
    run_is_one begun (grow Server End streams) events all (come Server End last) end
    (closed_runs packets begun streams events last streams.server.closed refl h) k
