-- What a client's record has is a front of what is heard of both streams.
use Rattle.std.proofs.Common.{◌≡◌, ◌⊎◌, inl, inr, List, [], ◌∷◌, ◌++◌, Some, Ok, refl, sym, ap, subst, ◌∙◌}
use Rattle.std.proofs.Common.{append_assoc}
use Rattle.std.proofs.lemmas.List.{append-nil, map-append}
use Rattle.mysql_connection_contents.proofs.Farewells.{no_last_words}
use Rattle.mysql_connection_contents.proofs.Ids.{said_is}
use Rattle.mysql_connection_contents.proofs.Putting.{heard_on}
use Rattle.mysql_connection_contents.specs.Contents.{Ends, Heard, Spoken, events_of}
use Rattle.mysql_connection_rules.proofs.Running.{come_all}
use Rattle.mysql_connection_rules.specs.Events.{Event}
use Rattle.mysql_connection_rules.specs.Events.Event.{Farewell}
use Rattle.mysql_connection_rules.specs.Runs.{IsFront}
use Rattle.mysql_connection_rules.specs.Standing.{Standing}
use Rattle.mysql_connection_rules.specs.Steps.{step}
use Rattle.mysql_connection_rules.specs.Streams.{Coming, World, come, limit_of, moved, stream_of}
use Rattle.mysql_connection_rules.specs.declared.side.Side.{Side}
use Rattle.mysql_wire.specs.FirstPacket.{Whole, first_packet}
use Rattle.mysql_wire.specs.FirstPacketLaws.{PacketsStay}

-- ---- with more bytes behind

pub heard_all : PacketsStay → (parts : List (Side × Coming)) (xs : List Spoken) (w last : World) →
    Heard w xs last → Heard (come_all parts w) xs (come_all parts last)
heard_all stay [] xs w last h = h
heard_all stay (part ∷ parts) xs w last h =
    heard_all stay parts xs (come part.0 part.1 w) (come part.0 part.1 last)
    (heard_on stay part.0 part.1 xs w last h)

-- ---- what is heard of the same streams is the same

-- the one is a front of the other, or goes on behind it
abbrev FrontOrMore : List Spoken → List Spoken → Type 0
FrontOrMore xs ys = IsFront xs ys ⊎ ((z : Spoken) × (zs : List Spoken) × (xs ≡ ys ++ z ∷ zs))

record SameSpoken (w : World) (x y : Spoken) (xs ys : List Spoken) (a b : World) : Type 0 where
  world : World
  same : x ≡ y
  first : Heard world xs a
  second : Heard world ys b

same_first : (w : World) (x y : Spoken) (xs ys : List Spoken) (a b : World) → Heard w (x ∷ xs) a →
    Heard w (y ∷ ys) b → SameSpoken w x y xs ys a b
same_first w x y xs ys a b h g =
    let sides : Some x.side ≡ Some y.side = sym h.1.2 ∙ g.1.2 in
    let side : x.side ≡ y.side = cc in
    let found : Whole x.payload x.number h.1.1 ≡ Whole y.payload y.number g.1.1 =
    sym h.1.3 ∙ ap (λ (s : Side). first_packet (limit_of s w.limits) w.standing.number
    (stream_of s w.unread).bytes) side ∙ g.1.3 in
    let payload : x.payload ≡ y.payload = cc in
    let number : x.number ≡ y.number = cc in
    let rest : h.1.1 ≡ g.1.1 = cc in
    let said = said_is x.event y.event h.1.0 g.1.0 (sym h.1.4 ∙ ap (step w.standing) payload ∙ g.1.4) in
    let standing : x.standing ≡ y.standing = h.0 ∙ sym g.0 in record {
      world = moved w x.side x.number h.1.1 h.1.0;
      same = λ i. record {
        side = side i;
        number = number i;
        standing = standing i;
        payload =
            payload i;
        event = said.0 i;
      };
      first = h.1.5;
      second = subst (λ (v : World). Heard v ys b) (sym (λ i. moved w (side i) (number i) (rest i) (said.1 i))) g.1.5;
    }

same_heard : (xs ys : List Spoken) (w a b : World) → Heard w xs a → Heard w ys b → FrontOrMore xs ys
same_heard [] ys w a b h g = inl (ys, refl)
same_heard (x ∷ xs) [] w a b h g = inr (x, xs, refl)
same_heard (x ∷ xs) (y ∷ ys) w a b h g =
    let one = same_first w x y xs ys a b h g in
    elim (same_heard xs ys one.world a b one.first one.second) [
      | inl front ↦ inl (front.0, λ i. one.same i ∷ front.1 i)
      | inr more ↦ inr (more.0, more.1, λ i. one.same i ∷ more.2 i)
    ]

-- ---- it doesn't go on behind the list

cancelled : (xs ys zs : List Event) → xs ++ ys ≡ xs ++ zs → ys ≡ zs
cancelled [] ys zs h = h
cancelled (x ∷ xs) ys zs h = (let tail : xs ++ ys ≡ xs ++ zs = cc in cancelled xs ys zs tail)

said_at : (ys : List Spoken) (z : Spoken) (zs : List Spoken) (w a : World) →
    Heard w (ys ++ z ∷ zs) a → (s : Standing) × (mid : Standing) ×
    (step s z.payload ≡ Ok (z.event, mid))
said_at [] z zs w a h = (w.standing, h.1.0, h.1.4)
said_at (y ∷ ys) z zs w a h = said_at ys z zs (moved w y.side y.number h.1.1 h.1.0) a h.1.5

-- the events behind are none, or last words
none_behind : (events : List Event) (ys : List Spoken) (z : Spoken) (zs : List Spoken)
    (w a mid last : World) → Heard w (ys ++ z ∷ zs) a → Ends mid ys events last →
    IsFront (events_of (ys ++ z ∷ zs)) events → ⊥
none_behind events ys z zs w a mid last h (inl ends) front =
    let both : events_of ys ++ (z.event ∷ (events_of zs ++ front.0)) ≡ events_of ys ++ [] =
    sym (append_assoc (events_of ys) (z.event ∷ events_of zs) front.0) ∙
    ap (λ (l : List Event). l ++
    front.0) (sym (map-append (λ (x : Spoken). x.event) ys (z ∷ zs))) ∙ front.1 ∙ ends.0 ∙
    sym (append-nil (events_of ys)) in
    let none : z.event ∷ (events_of zs ++ front.0) ≡ [] =
    cancelled (events_of ys) (z.event ∷ (events_of zs ++ front.0)) [] both in
    absurd (cc none)
none_behind events ys z zs w a mid last h (inr ends) front =
    let both : events_of ys ++ (z.event ∷ (events_of zs ++ front.0)) ≡ events_of ys ++ (Farewell ends.0 ∷ []) =
    sym (append_assoc (events_of ys) (z.event ∷ events_of zs) front.0) ∙
    ap (λ (l : List Event). l ++
    front.0) (sym (map-append (λ (x : Spoken). x.event) ys (z ∷ zs))) ∙ front.1 ∙ ends.1 in
    let one : z.event ∷ (events_of zs ++ front.0) ≡ Farewell ends.0 ∷ [] =
    cancelled (events_of ys) (z.event ∷ (events_of zs ++ front.0)) (Farewell ends.0 ∷
    []) both in
    let words : z.event ≡ Farewell ends.0 = cc in
    let said = said_at ys z zs w a h in
    no_last_words ends.0 said.0 z.payload said.1 (said.2 ∙ ap (λ (e : Event). Ok (e, said.1)) words)

pub is_front : (events : List Event) (xs ys : List Spoken) (w a mid last : World) → Heard w xs a →
    Heard w ys mid → Ends mid ys events last → IsFront (events_of xs) events → IsFront xs ys
is_front events xs ys w a mid last h g ends front = elim (same_heard xs ys w a mid h g) [
  | inl it ↦ it
  | inr more ↦ absurd (none_behind events ys more.0 more.1 w a mid last
      (subst (λ (l : List Spoken). Heard w l a) more.2 h) ends
      (subst (λ (l : List Spoken). IsFront (events_of l) events) more.2 front))
]
