-- Changes of the session's state that are read one by one, by the positions where they begin, are
-- those that are read all at once.
use Rattle.std.proofs.Common.{◌≡◌, ◌==◌, ◌<◌, ◌≤◌, ◌-◌, ◌+◌, Bool, true, false, if◌then◌else◌, nat_lt, ℕ, zero, suc}
use Rattle.std.proofs.Common.{List, [], ◌∷◌, ◌++◌, length, drop, Option, Some, None, Ok, Err, refl, sym, ap, subst, ◌∙◌}
use Rattle.std.proofs.Common.{inl, inr, slice_get, arith}
use Rattle.std.proofs.lemmas.List.{drop-drop, length-drop}
use Rattle.mysql_buf.specs.FirstBytes.{first-some}
use Rattle.mysql_buf.specs.Reading.{first, little_at, lenenc_int_at, bytes_at, then_at}
use Rattle.mysql_const.specs.SessionStates.{session_state_named, session_state_number}
use Rattle.mysql_ok_packets.specs.OkPackets.{all_states_at}
use Rattle.mysql_ok_packets.specs.Written.{or_empty}
use Rattle.mysql_fields.specs.Forms.{fixed_number_at}
use Rattle.mysql_fields.specs.Laws.{bind_ok, done, eaten_first, fixed_number_at-sized, ok_same}
use Rattle.mysql_fields.specs.Wire.{Reading, or_end}
use Rattle.mysql_fields.specs.declared.error.WireError.{WireError}
use Rattle.mysql_fields.specs.Texts.{lenenc_text_at}
use Rattle.mysql_field_constants.specs.ConstantLaws.{named_at-sized}
use Rattle.mysql_field_constants.specs.Constants.{named_at}
use Rattle.mysql_field_lists.specs.Lists.{elements_at}
use Rattle.mysql_ok_packets.specs.Reading.{EatsBytes, at_most_at, to_end_at}
use Rattle.mysql_ok_packets.specs.SessionStates.{State, state_at}
use Rattle.mysql_ok_packets.specs.StateLaws.{state_at-eats}
use Rattle.mysql_c_replies.specs.States.{IsPositionOf, ShowsChange, ShowsChangeAt, ShowsNumbered}

-- the bytes behind the first so many of a list
IsRest : List ℕ → List ℕ → Type 0
IsRest rest bytes = (n : ℕ) × (n ≤ length bytes) × (rest ≡ drop n bytes)

first-rest : {X : Type 0} (n : ℕ) (value : List ℕ → X) (bytes : List ℕ) (p : X × List ℕ) →
    first n value bytes ≡ Some p → IsRest p.1 bytes
unfolding IsRest
first-rest {X} n value bytes p h =
    let part = first-some n value bytes p h in
    (n, part.0, ap (λ (q : X × List ℕ). q.1) part.1)

all-rest : (b : ℕ) (bs : List ℕ) (number : ℕ) (p : ℕ × List ℕ) → Some (number, bs) ≡ Some p → IsRest p.1 bs
unfolding IsRest
all-rest b bs number p h = let e : (number, bs) ≡ p = cc in (0, omega arith, sym (ap (λ (q : ℕ × List ℕ). q.1) e))

-- what a number's first byte leaves
tail-rest : (one two three eight : Bool) (b : ℕ) (bs : List ℕ) (p : ℕ × List ℕ)
    → (if one then Some (b, bs) else if two then little_at 2 bs else if three then little_at 3 bs
    else if eight then little_at 8 bs else Some (0, bs)) ≡ Some p
    → IsRest p.1 bs
tail-rest true two three eight b bs p h = all-rest b bs b p h
tail-rest false true three eight b bs p h = first-rest 2 _ bs p h
tail-rest false false true eight b bs p h = first-rest 3 _ bs p h
tail-rest false false false true b bs p h = first-rest 8 _ bs p h
tail-rest false false false false b bs p h = all-rest b bs 0 p h

one-more : (b : ℕ) (bs rest : List ℕ) → IsRest rest bs → IsRest rest (b ∷ bs)
unfolding IsRest
one-more b bs rest h = (suc h.0, omega (arith, h.1), h.2)

number-rest : (bytes : List ℕ) (p : ℕ × List ℕ) → lenenc_int_at bytes ≡ Some p → IsRest p.1 bytes
number-rest [] p h = absurd cc
number-rest (b ∷ bs) p h = one-more b bs p.1 (tail-rest (nat_lt b 251) (b == 252) (b == 253) (b == 254) b bs p h)

-- the rest of a rest
rest-rest : (all more rest : List ℕ) → IsRest more all → IsRest rest more → IsRest rest all
unfolding IsRest
rest-rest all more rest one two =
    let same = two.2 ∙ ap (λ (l : List ℕ). drop two.0 l) one.2 ∙ drop-drop two.0 one.0 all in
    let left : length more ≡ length all - one.0 = ap (λ (l : List ℕ). length l) one.2 ∙ length-drop one.0 all in
    (one.0 + two.0, omega (arith, one.1, two.1), same)

stands : {X : Type 0} (o : Option X) (x : X) → or_end o ≡ Ok x → o ≡ Some x
stands None x h = absurd cc
stands (Some y) x h = cc

text-rest : (bytes : List ℕ) (p : List ℕ × List ℕ) → lenenc_text_at bytes ≡ Ok p → IsRest p.1 bytes
text-rest bytes p h = go (lenenc_int_at bytes) refl h where
  go : (o : Option (ℕ × List ℕ)) → lenenc_int_at bytes ≡ o → or_end (then_at o bytes_at) ≡ Ok p → IsRest p.1 bytes
  go None e h = absurd cc
  go (Some q) e h = rest-rest bytes q.1 p.1 (number-rest bytes q e)
      (first-rest q.0 _ q.1 p (stands (bytes_at q.0 q.1) p h))

-- what a change leaves of the bytes
state-rest : (bytes : List ℕ) (p : State × List ℕ) → state_at bytes ≡ Ok p → IsRest p.1 bytes
unfolding state_at IsRest
state-rest bytes p h =
    let type = bind_ok (named_at session_state_named (fixed_number_at 1) bytes) _ p h in
    let text = bind_ok (lenenc_text_at type.0.1) _ p type.2 in
    let one = eaten_first 1 (named_at session_state_named (fixed_number_at 1)) bytes
    (named_at-sized (Some 1) session_state_named (fixed_number_at 1) (fixed_number_at-sized 1))
    type.0.0 type.0.1 type.1 in
    let s : State = record { data_type = type.0.0; content = text.0.0 } in
    let end : (s, text.0.1) ≡ p = cc (text.2) in
    let behind : text.0.1 ≡ p.1 = ap (λ (q : State × List ℕ). q.1) end in
    let eaten = state_at-eats bytes p h in
    let first : IsRest type.0.1 bytes = (1, omega (arith, eaten), one) in
    subst (λ (l : List ℕ). IsRest l bytes) behind
    (rest-rest bytes type.0.1 text.0.1 first (text-rest type.0.1 text.0 text.1))

-- where a rest begins
behind-is : (bytes rest : List ℕ) → IsRest rest bytes → (length rest ≤ length bytes) ×
    (rest ≡ drop (length bytes - length rest) bytes)
unfolding IsRest
behind-is bytes rest h =
    let left : length rest ≡ length bytes - h.0 = ap (λ (l : List ℕ). length l) h.2 ∙ length-drop h.0 bytes in
    let n : h.0 ≡ length bytes - length rest = omega (arith, h.1) in
    (omega arith, h.2 ∙ ap (λ (k : ℕ). drop k bytes) n)

-- the next position: what is left there is what the change left, and it lies further on
pub next_is : (bytes : List ℕ) (position : ℕ) (s : State) (rest : List ℕ) →
    state_at (drop position bytes) ≡ Ok (s, rest)
    → (rest ≡ drop (length bytes - length rest) bytes) × (position < length bytes - length rest)
next_is bytes position s rest h =
    let left = length-drop position bytes in
    let eaten = state_at-eats (drop position bytes) (s, rest) h in
    let one = behind-is (drop position bytes) rest (state-rest (drop position bytes) (s, rest) h) in
    let place : position + (length (drop position bytes) - length rest) ≡ length bytes - length rest = omega arith in (
      one.1 ∙ drop-drop (length (drop position bytes) - length rest) position bytes ∙
          ap (λ (k : ℕ). drop k bytes) place,
      omega arith,
    )

-- the parts of what two readings gave
ok_parts : {X : Type 0} (a b : X) (l m : List ℕ) → done (a, l) ≡ done (b, m) → (a ≡ b) × (l ≡ m)
ok_parts {X} a b l m e =
    let same = ok_same (a, l) (b, m) e in
    (ap (λ (p : X × List ℕ). p.0) same, ap (λ (p : X × List ℕ). p.1) same)

-- one more element behind those that stand first
more_elements : {Y : Type 0} (read_at : List ℕ → Reading Y) (k : ℕ) (bytes : List ℕ) (ys : List Y)
    (left : List ℕ) (y : Y) (rest : List ℕ)
    → elements_at read_at k bytes ≡ Ok (ys, left) → read_at left ≡ Ok (y, rest) →
    elements_at read_at (suc k) bytes ≡ Ok (ys ++ y ∷ [], rest)
unfolding elements_at
more_elements {Y} read_at zero bytes ys left y rest h one =
    let parts = ok_parts [] ys bytes left h in
    rw (parts.1, one) (ap (λ (l : List Y). done (l ++ y ∷ [], rest)) parts.0)
more_elements {Y} read_at (suc k) bytes ys left y rest h one =
    let first = bind_ok (read_at bytes) _ (ys, left) h in
    let others = bind_ok (elements_at read_at k first.0.1) _ (ys, left) first.2 in
    let parts = ok_parts (first.0.0 ∷ others.0.0) ys others.0.1 left others.2 in
    let known : elements_at read_at k first.0.1 ≡ Ok (others.0.0, left) = others.1 ∙
    ap (λ (l : List ℕ). done (others.0.0, l)) parts.1 in
    let next = more_elements read_at k first.0.1 others.0.0 left y rest known one in
    rw (first.1, next) (ap (λ (l : List Y). done (l ++ y ∷ [], rest)) parts.0)

-- What comes next of a list that is read to the end: nothing where no bytes are left, else what stands first in them.
IsNext : {Y : Type 0} → (List ℕ → Reading Y) → List ℕ → Option Y → Type 0
IsNext read_at [] found = found ≡ None
IsNext read_at (b ∷ bytes) None = ⊥
IsNext read_at (b ∷ bytes) (Some y) = (rest : List ℕ) × (read_at (b ∷ bytes) ≡ Ok (y, rest))

at_end : {Y : Type 0} (read_at : List ℕ → Reading Y) (m : ℕ) → at_most_at read_at m [] ≡ Ok ([], [])
unfolding at_most_at
at_end read_at zero = refl
at_end read_at (suc m) = refl

in_all : {Y : Type 0} (read_at : List ℕ → Reading Y) → EatsBytes read_at →
    (k m : ℕ) (bytes : List ℕ) (ys : List Y) (left : List ℕ) (x : List Y × List ℕ)
    → elements_at read_at k bytes ≡ Ok (ys, left) → at_most_at read_at m bytes ≡ Ok x →
    IsNext read_at left (slice_get x.0 k)
unfolding elements_at at_most_at IsNext
in_all {Y} read_at eats zero m [] ys left x h a =
    let parts = ok_parts [] ys [] left h in
    let none : x.0 ≡ [] = ap (λ (p : List Y × List ℕ). p.0) (ok_same x ([], []) (sym a ∙ at_end read_at m)) in
    subst (λ (l : List ℕ). IsNext read_at l (slice_get x.0 0)) parts.1 (ap (λ (l : List Y). slice_get l 0) none)
in_all read_at eats zero zero (b ∷ bs) ys left x h a = absurd cc
in_all {Y} read_at eats zero (suc m) (b ∷ bs) ys left x h a =
    let parts = ok_parts [] ys (b ∷ bs) left h in
    let first = bind_ok (read_at (b ∷ bs)) _ x a in
    let others = bind_ok (at_most_at read_at m first.0.1) _ x first.2 in
    let all = ok_parts (first.0.0 ∷ others.0.0) x.0 others.0.1 x.1 others.2 in
    subst (λ (l : List ℕ). IsNext read_at l (slice_get x.0 0)) parts.1
    (subst (λ (l : List Y). IsNext read_at (b ∷ bs) (slice_get l 0)) all.0 (first.0.1, first.1))
in_all read_at eats (suc k) m [] ys left x h a =
    let first = bind_ok (read_at []) _ (ys, left) h in
    let less = eats [] first.0 first.1 in
    absurd (omega arith)
in_all read_at eats (suc k) zero (b ∷ bs) ys left x h a = absurd cc
in_all {Y} read_at eats (suc k) (suc m) (b ∷ bs) ys left x h a =
    let one = bind_ok (read_at (b ∷ bs)) _ (ys, left) h in
    let rest = bind_ok (elements_at read_at k one.0.1) _ (ys, left) one.2 in
    let parts = ok_parts (one.0.0 ∷ rest.0.0) ys rest.0.1 left rest.2 in
    let first = bind_ok (read_at (b ∷ bs)) _ x a in
    let others = bind_ok (at_most_at read_at m first.0.1) _ x first.2 in
    let all = ok_parts (first.0.0 ∷ others.0.0) x.0 others.0.1 x.1 others.2 in
    let same : first.0.1 ≡ one.0.1 = ap (λ (p : Y × List ℕ). p.1) (ok_same first.0 one.0 (sym first.1 ∙ one.1)) in
    let known : elements_at read_at k one.0.1 ≡ Ok (rest.0.0, left) = rest.1 ∙
    ap (λ (l : List ℕ). done (rest.0.0, l)) parts.1 in
    let whole : at_most_at read_at m one.0.1 ≡ Ok others.0 =
    subst (λ (l : List ℕ). at_most_at read_at m l ≡ Ok others.0) same others.1 in
    let next = in_all read_at eats k m one.0.1 rest.0.0 left others.0 known whole in
    subst (λ (l : List Y). IsNext read_at left (slice_get l (suc k))) all.0 next

-- where nothing is left all was read
all_read : {Y : Type 0} (read_at : List ℕ → Reading Y) → EatsBytes read_at →
    (k m : ℕ) (bytes : List ℕ) (ys : List Y) → length bytes ≤ m
    → elements_at read_at k bytes ≡ Ok (ys, []) → at_most_at read_at m bytes ≡ Ok (ys, [])
unfolding elements_at at_most_at
all_read {Y} read_at eats zero m [] ys fits h =
    let parts = ok_parts [] ys [] [] h in
    at_end read_at m ∙ ap (λ (l : List Y). done (l, [])) parts.0
all_read read_at eats zero m (b ∷ bs) ys fits h = let parts = ok_parts [] ys (b ∷ bs) [] h in
    let no = parts.1 in absurd cc
all_read read_at eats (suc k) m [] ys fits h =
    let first = bind_ok (read_at []) _ (ys, []) h in
    let less = eats [] first.0 first.1 in
    absurd (omega arith)
all_read read_at eats (suc k) zero (b ∷ bs) ys fits h = absurd (omega arith)
all_read {Y} read_at eats (suc k) (suc m) (b ∷ bs) ys fits h =
    let first = bind_ok (read_at (b ∷ bs)) _ (ys, []) h in
    let others = bind_ok (elements_at read_at k first.0.1) _ (ys, []) first.2 in
    let parts = ok_parts (first.0.0 ∷ others.0.0) ys others.0.1 [] others.2 in
    let less = eats (b ∷ bs) first.0 first.1 in
    let known : elements_at read_at k first.0.1 ≡ Ok (others.0.0, []) = others.1 ∙
    ap (λ (l : List ℕ). done (others.0.0, l)) parts.1 in
    let rest = all_read read_at eats k m first.0.1 others.0.0 (omega arith) known in
    rw (first.1, rest) (ap (λ (l : List Y). done (l, [])) parts.0)

-- the changes of a packet, and those of its bytes
of_bytes : (states : Option (List ℕ)) → all_states_at states ≡ to_end_at state_at (or_empty states)
of_bytes None = sym (at_end state_at 0)
of_bytes (Some bytes) = refl

-- nothing is left behind the last byte
none_left : (bytes : List ℕ) (position : ℕ) → length bytes ≤ position → drop position bytes ≡ []
none_left bytes position h = empty (drop position bytes) (omega (arith, length-drop position bytes)) where
  empty : (l : List ℕ) → length l ≡ 0 → l ≡ []
  empty [] e = refl
  empty (b ∷ bs) e = absurd (omega arith)

-- The change of the number k, behind the k that take the bytes before a position: there is none
-- where no bytes are left.
over_numbered : (states : Option (List ℕ)) (position type len : ℕ) →
    length (or_empty states) ≤ position → (k : ℕ) → IsPositionOf (or_empty states) k position
    → (read : Reading (List State)) → all_states_at states ≡ read →
    ShowsNumbered read (or_empty states) k 4 position type len
unfolding IsNext
over_numbered states position type len h k here (Ok x) e =
    let none = none_left (or_empty states) position h in
    let known : elements_at state_at k (or_empty states) ≡ Ok (here.1.0, []) = here.1.1 ∙
    ap (λ (l : List ℕ). done (here.1.0, l)) none in
    let next = in_all state_at state_at-eats k (length (or_empty states)) (or_empty states) here.1.0
    [] x known (sym (of_bytes states) ∙ e) in
    rw next refl
over_numbered states position type len h k here (Err e) is =
    let none = none_left (or_empty states) position h in
    let known : elements_at state_at k (or_empty states) ≡ Ok (here.1.0, []) = here.1.1 ∙
    ap (λ (l : List ℕ). done (here.1.0, l)) none in
    let all = all_read state_at state_at-eats k (length (or_empty states)) (or_empty states)
    here.1.0 (omega arith) known in
    let no = sym is ∙ of_bytes states ∙ all in absurd cc

pub over_shown : (states : Option (List ℕ)) (position type len : ℕ) → length (or_empty states) ≤ position
    → ShowsChangeAt states position 4 position type len
over_shown states position type len h = record {
  over = λ _. (refl, refl);
  read = λ less. absurd (omega arith);
  numbered = λ k here. over_numbered states position type len h k here (all_states_at states) refl;
}

-- some bytes are left before the end
some_left : (bytes : List ℕ) (position : ℕ) → position < length bytes → (b : ℕ) × (bs : List ℕ) ×
    (drop position bytes ≡ b ∷ bs)
some_left bytes position h = some (drop position bytes) refl where
  some : (l : List ℕ) → drop position bytes ≡ l → (b : ℕ) × (bs : List ℕ) × (drop position bytes ≡ b ∷ bs)
  some [] e = let left = length-drop position bytes in let none = ap (λ (l : List ℕ). length l) e in
      absurd (omega arith)
  some (b ∷ bs) e = (b, bs, e)

-- What comes next, where bytes are left: what stands first in them.
next_first : {Y : Type 0} (read_at : List ℕ → Reading Y) (b : ℕ) (bs : List ℕ) (found : Option Y) →
    IsNext read_at (b ∷ bs) found
    → (y : Y) × (found ≡ Some y) × ((rest : List ℕ) × (read_at (b ∷ bs) ≡ Ok (y, rest)))
unfolding IsNext
next_first read_at b bs None h = absurd h
next_first read_at b bs (Some y) h = (y, refl, h)

next_in : (states : Option (List ℕ)) (position k : ℕ) → position < length (or_empty states) →
    IsPositionOf (or_empty states) k position
    → (x : List State × List ℕ) → all_states_at states ≡ Ok x
    → (y : State) × (slice_get x.0 k ≡ Some y) ×
    ((rest : List ℕ) × (state_at (drop position (or_empty states)) ≡ Ok (y, rest)))
next_in states position k less here x e =
    let left = some_left (or_empty states) position less in
    let next = in_all state_at state_at-eats k (length (or_empty states)) (or_empty states) here.1.0
    (drop position (or_empty states)) x here.1.1 (sym (of_bytes states) ∙ e) in
    let first = next_first state_at left.0 left.1 (slice_get x.0 k)
    (subst (λ (l : List ℕ). IsNext state_at l (slice_get x.0 k)) left.2 next) in
    (first.0, first.1, (first.2.0, ap (λ (l : List ℕ). state_at l) left.2 ∙ first.2.1))

bad_numbered : (states : Option (List ℕ)) (position type len : ℕ) (error : WireError) →
    position < length (or_empty states)
    → state_at (drop position (or_empty states)) ≡ Err error → (k : ℕ) → IsPositionOf (or_empty states) k position
    → (read : Reading (List State)) → all_states_at states ≡ read →
    ShowsNumbered read (or_empty states) k 9 position type len
bad_numbered states position type len error less bad k here (Ok x) e =
    let next = next_in states position k less here x e in
    let no = sym bad ∙ next.2.1 in absurd cc
bad_numbered states position type len error less bad k here (Err e) is = inr refl

-- bytes that are no change are told
pub bad_shown : (states : Option (List ℕ)) (position type len : ℕ) (error : WireError) →
    position < length (or_empty states)
    → state_at (drop position (or_empty states)) ≡ Err error → ShowsChangeAt states position 9 position type len
bad_shown states position type len error less bad = record {
  over = λ h. absurd (omega arith);
  read = λ _. rw bad (refl, refl);
  numbered = λ k here. bad_numbered states position type len error less bad k here (all_states_at states) refl;
}

ok_numbered : (states : Option (List ℕ)) (position next type len : ℕ) (s : State) (rest : List ℕ) →
    position < length (or_empty states)
    → state_at (drop position (or_empty states)) ≡ Ok (s, rest) → rest ≡
    drop next (or_empty states) → next ≤ length (or_empty states) → ShowsChange s type len
    → (k : ℕ) → IsPositionOf (or_empty states) k position
    → (read : Reading (List State)) → all_states_at states ≡ read →
    ShowsNumbered read (or_empty states) k 0 next type len
ok_numbered states position next type len s rest less one behind within shows k here read e = go read e where
  last : elements_at state_at (suc k) (or_empty states) ≡ Ok (here.1.0 ++ s ∷ [], drop next (or_empty states))
  last = more_elements state_at k (or_empty states) here.1.0 (drop position (or_empty states)) s rest here.1.1 one
      ∙ ap (λ (l : List ℕ). done (here.1.0 ++ s ∷ [], l)) behind

  moved : IsPositionOf (or_empty states) (suc k) next
  moved = (within, (here.1.0 ++ s ∷ [], last))

  go : (r : Reading (List State)) → all_states_at states ≡ r → ShowsNumbered r (or_empty states) k 0 next type len
  go (Ok x) e =
      let found = next_in states position k less here x e in
      let same : found.0 ≡ s = ap (λ (p : State × List ℕ). p.0)
      (ok_same (found.0, found.2.0) (s, rest) (sym found.2.1 ∙ one)) in
      let shown : ShowsChange found.0 type len = subst (λ (c : State). ShowsChange c type len) (sym same) shows in
      rw found.1 (refl, shown, moved)
  go (Err e) is = inl (refl, moved)

-- a change is shown, and the next position is behind it
pub ok_shown : (states : Option (List ℕ)) (position type len : ℕ) (s : State) (rest : List ℕ) →
    position < length (or_empty states)
    → state_at (drop position (or_empty states)) ≡ Ok (s, rest) → type ≡
    session_state_number s.data_type → len ≡ length s.content
    → ShowsChangeAt states position 0 (length (or_empty states) - length rest) type len
ok_shown states position type len s rest less one is_type is_len =
    let next = next_is (or_empty states) position s rest one in
    record {
      over = λ h. absurd (omega arith);
      read = λ _. rw one (refl, (is_type, is_len), next.0, next.1, omega arith);
      numbered = λ k here. ok_numbered states position (length (or_empty states) - length rest) type
          len s rest less one next.0 (omega arith) (is_type, is_len) k here (all_states_at states)
          refl;
    }
