-- Reading a text of a query piece by piece and literal by literal.
use Rattle.std.proofs.Common.{◌≡◌, ◌≢◌, ℕ, zero, suc, ◌+◌, ◌-◌, ◌≤◌, ◌<◌, true, false, not, ◌||◌, ◌==◌, List, [], ◌∷◌}
use Rattle.std.proofs.Common.{◌++◌, length, take, drop, get_or, slice_range, slice_index, refl, sym, ap, ◌∙◌, inl, inr}
use Rattle.std.proofs.Common.{append_assoc, arith, subst, length-take-le, take-append-drop, append-nil}
use Rattle.std.specs.List.{AllByRecursion}
use Rattle.std.specs.Prelude.{nat_eq}
use Rattle.std.specs.Cmp.Lexicographic.{pointwise, same_text, other_text}
use Rattle.mysql_queries.specs.Literals.{IsLiteral}
use Rattle.mysql_queries.specs.LiteralRuns.{IsLiteralRun}
use Rattle.mysql_queries.specs.LiteralViews.{IsNoLiteral}
use Rattle.mysql_queries.specs.Laws.{FilledIsRead}
use Rattle.mysql_queries.specs.Sql.{Sql}
use Rattle.mysql_queries.specs.Queries.{Alternates, AllAlone, AreLiterals, BeginsPlace, HasPlaces, InOrder, Lexes}
use Rattle.mysql_queries.specs.Queries.{Slices, interleaved, is_joining, places_of, slices_between}
use Rattle.mysql_bytes.specs.declared.content.Content.{Content}
use Rattle.mysql_bytes.specs.declared.mode.Mode.{Mode}
use Rattle.mysql_queries.specs.declared.placeholders.Place.{Place}
use Rattle.mysql_queries.proofs.FirstBytes.{and_true}
use Rattle.mysql_queries.proofs.Follow.{BeginsApart}
use Rattle.mysql_queries.proofs.Filled.{free_after}
use Rattle.mysql_queries.proofs.LiteralsAreRuns.{literal_is_run}
use Rattle.mysql_queries.proofs.OneContent.{same_rest}
use Rattle.mysql_queries.proofs.OneRead.{one_read}
use Rattle.mysql_queries.proofs.QuerySlices.{pieces_are_slices, places_in_order, take_all_front}
use Rattle.mysql_queries.proofs.Cuts.{drop_one}
use Rattle.mysql_queries.proofs.Readings.{one_places, sliced_is_lexed}
use Rattle.mysql_bytes.specs.declared.spelling.Spelling.{Spelling}

-- a piece, a literal of the first content, and what follows them
pub record FirstRead (m : Mode) (sp : Spelling) (query : List ℕ) (start : ℕ) (p : Place)
    (ps : List Place) (contents : List Content) (text : List ℕ) : Type 0 where
  pub content : Content
  pub next : List Content
  pub spelling : List ℕ
  pub rest : List ℕ
  pub are : contents ≡ content ∷ next
  pub literal : IsLiteral m sp spelling content
  pub joined : text ≡ slice_range query start p.start ++ (spelling ++ rest)
  pub after : Alternates m sp (slices_between query p.end ps) next rest

pub first_read : (m : Mode) (sp : Spelling) (query : List ℕ) (start : ℕ) (p : Place)
    (ps : List Place) (contents : List Content) (text : List ℕ) →
    Alternates m sp (slices_between query start (p ∷ ps)) contents text →
    FirstRead m sp query start p ps contents text
first_read m sp query start p [] [] text h = elim h [ ]
first_read m sp query start p [] (c ∷ cs) text h =
    record {
      content = c;
      next = cs;
      spelling = h.0;
      rest = h.1;
      are = refl;
      literal = h.2;
      joined =
          h.3;
      after = h.4;
    }
first_read m sp query start p (q ∷ ps) [] text h = elim h [ ]
first_read m sp query start p (q ∷ ps) (c ∷ cs) text h =
    record {
      content = c;
      next = cs;
      spelling = h.0;
      rest = h.1;
      are = refl;
      literal = h.2;
      joined =
          h.3;
      after = h.4;
    }

pub read_before : (m : Mode) (sp : Spelling) (query : List ℕ) (start : ℕ) (p : Place)
    (ps : List Place) (c : Content) (cs : List Content) (text spelling rest : List ℕ) →
    IsLiteral m sp spelling c → text ≡ slice_range query start p.start ++ (spelling ++ rest)
    → Alternates m sp (slices_between query p.end ps) cs rest →
    Alternates m sp (slices_between query start (p ∷ ps)) (c ∷ cs) text
read_before m sp query start p [] c cs text spelling rest l e h = (spelling, rest, l, e, h)
read_before m sp query start p (q ∷ ps) c cs text spelling rest l e h = (spelling, rest, l, e, h)

-- the byte at a place of the query, if any, joins nothing
abbrev pub IsFree : List ℕ → ℕ → Type 0
IsFree query end = ((end == length query) || not (is_joining (slice_index query end))) ≡ true

free_rest : (query : List ℕ) (end : ℕ) → end ≤ length query → IsFree query end → BeginsApart (drop end query)
free_rest query end l h =
    let n : end ≡ length (take end query) = sym (length-take-le end query l) in
    free_after (take end query) (drop end query) end n
    (subst (λ y. ((end == length y) || not (is_joining (slice_index y end))) ≡
    true) (sym (take-append-drop end query)) h)

place_joins : (b : ℕ) → BeginsPlace b → is_joining b ≡ true
place_joins b (inl e) = rw e refl
place_joins b (inr e) = rw e refl

-- the front of a rest that begins apart, up to a placeholder
front_apart : (query : List ℕ) (at end : ℕ) (x rest : List ℕ) → at ≤ end → end < length query →
    BeginsPlace (get_or query end 0) → BeginsApart (drop at query) → rest ≡
    slice_range query at end ++ x → BeginsApart rest
front_apart query at end x rest l m p a e = by_case (end - at) refl
  where
    there : drop at query ≡ get_or query at 0 ∷ drop (at + 1) query
    there = drop_one query at (omega arith)

    free : is_joining (get_or query at 0) ≡ false
    free = subst BeginsApart there a

    by_case : (k : ℕ) → end - at ≡ k → BeginsApart rest
    by_case zero h =
        let same : end ≡ at = omega arith in
        let j : is_joining (get_or query at 0) ≡ true =
        subst (λ i. is_joining (get_or query i 0) ≡
        true) same (place_joins (get_or query end 0) p) in
        let f : true ≡ false = sym j ∙ free in cc
    by_case (suc k) h =
        let f : slice_range query at end ≡ get_or query at 0 ∷ take k (drop (at + 1) query) =
        ap (λ i. take i (drop at query)) h ∙ ap (take (suc k)) there in
        subst BeginsApart (sym (e ∙ ap (λ y. y ++ x) f)) free

-- what follows a literal begins apart
rest_free : (m : Mode) (sp : Spelling) (query : List ℕ) (at : ℕ) (ps : List Place)
    (contents : List Content) (rest : List ℕ) → InOrder query at ps → at ≤ length query →
    IsFree query at → Alternates m sp (slices_between query at ps) contents rest → BeginsApart rest
rest_free m sp query at [] [] rest o l f h = subst BeginsApart (sym h) (free_rest query at l f)
rest_free m sp query at [] (c ∷ cs) rest o l f h = elim h [ ]
rest_free m sp query at (p ∷ ps) contents rest o l f h =
    let r : FirstRead m sp query at p ps contents rest = first_read m sp query at p ps contents rest h in
    let a : p.start < p.end = o.1 in
    let b : p.end ≤ length query = o.2 in
    front_apart query at p.start (r.spelling ++ r.rest) rest o.0 (omega arith) o.3 (free_rest query at l f) r.joined

free_end : (query : List ℕ) (at : ℕ) (p : Place) (ps : List Place) → InOrder query at (p ∷ ps) →
    p.alone ≡ true → IsFree query p.end
free_end query at p ps o a = (and_true _ _ (o.4 a)).1

-- the literal of a reading is the run that stands there
pub run_there : (m : Mode) (sp : Spelling) (query : List ℕ) (at : ℕ) (p : Place) (ps : List Place)
    (contents : List Content) (text : List ℕ) → InOrder query at (p ∷ ps) → p.alone ≡ true →
    (r : FirstRead m sp query at p ps contents text) → IsLiteralRun m sp r.spelling r.rest
run_there m sp query at p ps contents text o a r =
    literal_is_run m sp r.spelling r.content r.rest r.literal
    (rest_free m sp query p.end ps r.next r.rest o.5 o.2 (free_end query at p ps o a) r.after)

-- a run that is a literal behind the first piece is that of each reading
pub same_read : (m : Mode) (sp : Spelling) (query : List ℕ) (at : ℕ) (p : Place) (ps : List Place)
    (contents : List Content) (text run after : List ℕ) (c : Content) → InOrder query at (p ∷ ps) →
    p.alone ≡ true
    → text ≡ slice_range query at p.start ++ (run ++ after) → IsLiteralRun m sp run after →
    IsLiteral m sp run c → (r : FirstRead m sp query at p ps contents text) → r.rest ≡ after
same_read m sp query at p ps contents text run after c o a e i l r =
    let f : run ++ after ≡ r.spelling ++ r.rest =
    same_rest (slice_range query at p.start) (run ++ after) (r.spelling ++ r.rest) (sym e ∙
    r.joined) in
    let g : run ≡ r.spelling =
    (one_read m sp run after r.spelling r.rest c r.content f i l
    (run_there m sp query at p ps contents text o a r) r.literal).0 in
    sym (same_rest run after r.rest (f ∙ ap (λ y. y ++ r.rest) (sym g)))

-- How far a text is read: what is read of the rest goes on from what is read of the text.
pub record ReadTo (m : Mode) (sp : Spelling) (query : List ℕ) (places : List Place) (text : List ℕ)
    (at : ℕ) (left : List Place) (contents : List Content) (rest : List ℕ) : Type 0 where
  pub order : InOrder query at left
  pub in_range : at ≤ length query
  pub alone : AllByRecursion (λ place. place.alone ≡ true) left
  pub onward : (more : List Content) → Alternates m sp (slices_between query at left) more rest →
      Alternates m sp (slices_between query 0 places) (contents ++ more) text
  pub back : (all : List Content) → Alternates m sp (slices_between query 0 places) all text →
      (more : List Content) × Alternates m sp (slices_between query at left) more rest

pub read_none : (query : Sql) (places : List Place) (text : List ℕ) → HasPlaces query places →
    AllByRecursion (λ place. place.alone ≡ true) places →
    ReadTo query.mode query.spelling query.text places text 0 places [] text
read_none query places text h a = record {
  order = places_in_order query places h;
  in_range = omega arith;
  alone = a;
  onward = λ more k. k;
  back = λ all k. (all, k);
}

pub read_more : (m : Mode) (sp : Spelling) (query : List ℕ) (places : List Place) (text : List ℕ)
    (at : ℕ) (p : Place) (left : List Place) (contents : List Content) (rest run after : List ℕ)
    (c : Content)
    → ReadTo m sp query places text at (p ∷ left) contents rest → rest ≡
    slice_range query at p.start ++ (run ++ after) → IsLiteralRun m sp run after →
    IsLiteral m sp run c
    → ReadTo m sp query places text p.end left (contents ++ c ∷ []) after
read_more m sp query places text at p left contents rest run after c h e i l = record {
  order = h.order.5;
  in_range = h.order.2;
  alone = h.alone.1;
  onward = λ more k. subst (λ y. Alternates m sp (slices_between query 0 places) y text)
      (sym (append_assoc contents (c ∷ []) more))
      (h.onward (c ∷ more) (read_before m sp query at p left c more rest run after l e k));
  back = λ all k.
      let b : (more : List Content) × Alternates m sp (slices_between query at (p ∷ left)) more rest = h.back all k in
      let r : FirstRead m sp query at p left b.0 rest = first_read m sp query at p left b.0 rest b.1 in (
        r.next,
        subst (Alternates m sp (slices_between query p.end left) r.next)
            (same_read m sp query at p left b.0 rest run after c h.order h.alone.0 e i l r) r.after,
      );
}

-- no contents fit where the rest begins otherwise than the next piece
pub no_piece : (m : Mode) (sp : Spelling) (query : List ℕ) (places : List Place) (text : List ℕ)
    (at : ℕ) (p : Place) (left : List Place) (contents : List Content) (rest : List ℕ) →
    ReadTo m sp query places text at (p ∷ left) contents rest
    → ((x : List ℕ) → rest ≡ slice_range query at p.start ++ x → ⊥) → (all : List Content) →
    Alternates m sp (slices_between query 0 places) all text → ⊥
no_piece m sp query places text at p left contents rest h n all k =
    let b : (more : List Content) × Alternates m sp (slices_between query at (p ∷ left)) more rest = h.back all k in
    let r : FirstRead m sp query at p left b.0 rest = first_read m sp query at p left b.0 rest b.1 in
    n (r.spelling ++ r.rest) r.joined

-- no contents fit where no literal follows the next piece
pub no_literal : (m : Mode) (sp : Spelling) (query : List ℕ) (places : List Place) (text : List ℕ)
    (at : ℕ) (p : Place) (left : List Place) (contents : List Content) (rest behind : List ℕ) →
    ReadTo m sp query places text at (p ∷ left) contents rest
    → rest ≡ slice_range query at p.start ++ behind → IsNoLiteral m sp behind →
    (all : List Content) → Alternates m sp (slices_between query 0 places) all text → ⊥
no_literal m sp query places text at p left contents rest behind h e n all k =
    let b : (more : List Content) × Alternates m sp (slices_between query at (p ∷ left)) more rest = h.back all k in
    let r : FirstRead m sp query at p left b.0 rest = first_read m sp query at p left b.0 rest b.1 in
    let f : behind ≡ r.spelling ++ r.rest =
    same_rest (slice_range query at p.start) behind (r.spelling ++ r.rest) (sym e ∙ r.joined) in
    n r.spelling r.rest r.content f (run_there m sp query at p left b.0 rest h.order h.alone.0 r) r.literal

-- the last piece
pub last_piece : (m : Mode) (sp : Spelling) (query : List ℕ) (places : List Place) (text : List ℕ)
    (at : ℕ) (contents : List Content) (rest : List ℕ) →
    ReadTo m sp query places text at [] contents rest → rest ≡ drop at query →
    Alternates m sp (slices_between query 0 places) contents text
last_piece m sp query places text at contents rest h e =
    subst (λ y. Alternates m sp (slices_between query 0 places) y text) (append-nil contents)
    (h.onward [] e)

pub no_last_piece : (m : Mode) (sp : Spelling) (query : List ℕ) (places : List Place)
    (text : List ℕ) (at : ℕ) (contents : List Content) (rest : List ℕ) →
    ReadTo m sp query places text at [] contents rest → rest ≢ drop at query
    → (all : List Content) → Alternates m sp (slices_between query 0 places) all text → ⊥
no_last_piece m sp query places text at contents rest h n all k = let b : (more : List Content) ×
    Alternates m sp (slices_between query at []) more rest = h.back all k in n (ends b.0 rest b.1)
  where
    ends : (more : List Content) (x : List ℕ) → Alternates m sp (slices_between query at []) more x → x ≡ drop at query
    ends [] x k = k
    ends (c ∷ more) x k = elim k [ ]

-- readings by the slices between the placeholders are those by the pieces
pub sliced : (query : Sql) (text : List ℕ) (places : List Place) (contents : List Content) →
    HasPlaces query places → Alternates query.mode query.spelling
    (slices_between query.text 0 places) contents text → Slices query text contents
sliced query text places contents h k = record {
  tokens = h.0;
  has = h.1;
  alternates = subst (λ y. Alternates query.mode query.spelling y contents text)
      (ap (slices_between query.text 0) h.2 ∙ sym (pieces_are_slices query h.0 h.1)) k;
}

pub unsliced : (query : Sql) (text : List ℕ) (places : List Place) (contents : List Content) →
    HasPlaces query places → Slices query text contents →
    Alternates query.mode query.spelling (slices_between query.text 0 places) contents text
unsliced query text places contents h k =
    let e : places ≡ places_of query k.tokens =
    one_places query places (places_of query k.tokens) h (k.tokens, k.has, refl) in
    subst (λ y. Alternates query.mode query.spelling y contents text)
    (pieces_are_slices query k.tokens k.has ∙ ap (slices_between query.text 0) (sym e))
    k.alternates

pub all_alone : (query : Sql) (places : List Place) → HasPlaces query places →
    AllByRecursion (λ place. place.alone ≡ true) places → AllAlone query
all_alone query places h a others k =
    subst (AllByRecursion (λ place. place.alone ≡ true)) (one_places query places others h k) a

pub lexed_too : (query : Sql) (text : List ℕ) (places : List Place) (contents : List Content) →
    HasPlaces query places → AllByRecursion (λ place. place.alone ≡ true) places →
    Slices query text contents → Lexes query text contents
lexed_too query text places contents h a k = sliced_is_lexed query text contents (all_alone query places h a) k

-- a piece at the front of a rest, as it is tested
pub piece_found : (rest piece behind : List ℕ) → pointwise nat_eq (take (length piece) rest) piece ≡
    true → behind ≡ drop (length piece) rest → rest ≡ piece ++ behind
piece_found rest piece behind h e =
    sym (take-append-drop (length piece) rest) ∙
    ap (λ y. y ++ drop (length piece) rest)
    (same_text (take (length piece) rest) piece (sym h)) ∙ ap (λ y. piece ++ y) (sym e)

pub piece_missing : (rest piece : List ℕ) → pointwise nat_eq (take (length piece) rest) piece ≡
    false → (x : List ℕ) → rest ≡ piece ++ x → ⊥
piece_missing rest piece h x e =
    other_text (take (length piece) rest) piece (sym h) (ap (take (length piece)) e ∙
    take_all_front piece x)

-- pieces with literals between them alternate
filled_alternates : (m : Mode) (sp : Spelling) (query : List ℕ) (at : ℕ) (places : List Place)
    (literals : List (List ℕ)) (contents : List Content) → length literals ≡ length places →
    AreLiterals m sp literals contents
    → Alternates m sp (slices_between query at places) contents (interleaved (slices_between query at places) literals)
filled_alternates m sp query at [] [] [] n h = append-nil (drop at query)
filled_alternates m sp query at [] [] (c ∷ contents) n h = elim h [ ]
filled_alternates m sp query at [] (l ∷ literals) contents n h = absurd (omega (arith, n))
filled_alternates m sp query at (p ∷ places) [] contents n h = absurd (omega (arith, n))
filled_alternates m sp query at (p ∷ places) (l ∷ literals) [] n h = elim h [ ]
filled_alternates m sp query at (p ∷ places) (l ∷ literals) (c ∷ contents) n h =
    read_before m sp query at p places c contents
    (interleaved (slices_between query at (p ∷ places)) (l ∷ literals)) l
    (interleaved (slices_between query p.end places) literals) h.0 refl
    (filled_alternates m sp query p.end places literals contents (omega (arith, n)) h.1)

pub filled_is_read : FilledIsRead
filled_is_read query places literals contents h a n l =
    let text : List ℕ = interleaved (slices_between query.text 0 places) literals in
    let s : Slices query text contents =
    sliced query text places contents h
    (filled_alternates query.mode query.spelling query.text 0 places literals contents n l) in
    (s, lexed_too query text places contents h a s)
