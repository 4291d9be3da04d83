-- Writing a text of a query piece by piece and literal by literal.
use Rattle.std.proofs.Common.{◌≡◌, ℕ, zero, suc, ◌+◌, ◌≤◌, ◌<◌, Bool, true, false, List, [], ◌∷◌, ◌++◌, length, take}
use Rattle.std.proofs.Common.{drop, get_or, map, slice_range, refl, sym, ap, ◌∙◌, append_assoc, append-nil, arith}
use Rattle.std.proofs.Common.{subst, Option, Ok, Err, Some, None, is_none, take-append-drop, take_all}
use Rattle.std.specs.List.{AllByRecursion, position_from}
use Rattle.std.proofs.lemmas.List.{map-append, take_at}
use Rattle.mysql_queries.specs.Queries.{AreLiterals, InOrder, interleaved, slices_between}
use Rattle.mysql_queries.specs.Sql.{Sql}
use Rattle.mysql_cells.specs.Values.{content_of}
use Rattle.mysql_literals.specs.Literals.{literal_of}
use Rattle.mysql_literals.specs.AsSql.{HasLiteral, PutsSql}
use Rattle.mysql_literals.specs.declared.as_sql.AsSqlError.{AsSqlError}
use Rattle.mysql_literals.specs.declared.as_sql.AsSqlError.TheVariants as as_sql_error
use Rattle.mysql_values.specs.Binding.{IsFilled, literals_in}
use Rattle.mysql_bytes.specs.declared.content.Content.{Content}
use Rattle.mysql_bytes.specs.declared.mode.Mode.{Mode}
use Rattle.mysql_bytes.specs.declared.spelling.Spelling.{Spelling}
use Rattle.mysql_cells.specs.declared.value.Value.{Value}
use Rattle.mysql_cells.specs.declared.value.Value.TheVariants.{NULL, Bytes, Int, UInt, Float, Double, Date, Time}
use Rattle.mysql_queries.specs.declared.placeholders.Place.{Place}
use Rattle.mysql_values.proofs.Looked.{from_place, none_left}

-- what stands where the code looks past the last placeholder
abbrev pub no_place : Place
no_place = record { start = 0; end = 0; name = false; alone = false }

-- slices with literals between them
abbrev pub filled : List ℕ → ℕ → List Place → List (List ℕ) → List ℕ
filled query at places literals = interleaved (slices_between query at places) literals

-- one piece and one literal more
pub filled_more : (query : List ℕ) (at : ℕ) (places : List Place) (k : ℕ) (literal : List ℕ)
    (literals : List (List ℕ)) → k < length places
    → filled query at (drop k places) (literal ∷ literals) ≡
    slice_range query at (get_or places k no_place).start ++
    (literal ++ filled query (get_or places k no_place).end (drop (k + 1) places) literals)
filled_more query at places k literal literals h =
    ap (λ ps. filled query at ps (literal ∷ literals)) (from_place places k no_place h)

-- How far a text is written: the literals so far, and what goes on with others behind them.
pub record WrittenTo (query : Sql) (places : List Place) (values : List Value) (at : ℕ)
    (left : List Place) (k : ℕ) (before after : List ℕ) : Type 0 where
  pub order : InOrder query.text at left
  pub in_range : at ≤ length query.text
  pub literals : List (List ℕ)
  pub written : List ℕ
  pub each : literals_in query (take k values) ≡ map Some literals
  pub have : AllByRecursion HasLiteral (take k values)
  pub appended : after ≡ before ++ written
  pub onward : (others : List (List ℕ)) → filled query.text 0 places (literals ++ others) ≡
      written ++ filled query.text at left others

pub written_none : (query : Sql) (places : List Place) (values : List Value) (before : List ℕ) →
    InOrder query.text 0 places → WrittenTo query places values 0 places 0 before before
written_none query places values before h = record {
  order = h;
  in_range = omega arith;
  literals = [];
  written = [];
  each = refl;
  have = tt;
  appended = sym (append-nil before);
  onward = λ others. refl;
}

-- one element more of a list that is seen through a function
taken_more : {A B : Type 0} → (f : A → B) (xs : List A) (k : ℕ) (x : A) → x ≡ get_or xs k x →
    k < length xs → take (k + 1) (map f xs) ≡ take k (map f xs) ++ f x ∷ []
taken_more f [] k x e h = absurd (omega arith)
taken_more f (y ∷ xs) zero x e h = ap (λ z. f z ∷ []) (sym e)
taken_more f (y ∷ xs) (suc k) x e h = let n : suc k + 1 ≡ suc (k + 1) = omega arith in
    rw n (ap (λ zs. f y ∷ zs) (taken_more f xs k x e (omega arith)))

all_more : (P : Value → Type 0) (values : List Value) (value : Value) → AllByRecursion P values →
    P value → AllByRecursion P (values ++ value ∷ [])
all_more P [] value h k = (k, tt)
all_more P (v ∷ values) value h k = (h.0, all_more P values value h.1 k)

pub written_more : {A : Type 0} →
    (f : A → Value) (query : Sql) (places : List Place) (xs : List A) (at k : ℕ)
    (before after next text : List ℕ) (x : A) →
    WrittenTo query places (map f xs) at (drop k places) k before after → k < length places →
    k < length xs
    → x ≡ get_or xs k x → literal_of query.mode query.spelling (f x) ≡ Some text →
    HasLiteral (f x) → next ≡
    (after ++ slice_range query.text at (get_or places k no_place).start) ++ text
    → WrittenTo query places (map f xs) (get_or places k no_place).end (drop (k + 1) places) (k + 1) before next
written_more f query places xs at k before after next text x w h l e t has n =
    let p = get_or places k no_place in
    let o : InOrder query.text at (p ∷ drop (k + 1) places) =
    subst (InOrder query.text at) (from_place places k no_place h) w.order in
    let piece : List ℕ = slice_range query.text at p.start in
    let more : take (k + 1) (map f xs) ≡ take k (map f xs) ++ f x ∷ [] = taken_more f xs k x e l in
    record {
      order = o.5;
      in_range = o.2;
      literals = w.literals ++ text ∷ [];
      written = (w.written ++ piece) ++ text;
      each = ap (literals_in query) more ∙
          map-append (λ value. literal_of query.mode query.spelling value) (take k (map f xs))
          (f x ∷ []) ∙ ap (λ ys. ys ++ literal_of query.mode query.spelling (f x) ∷ []) w.each ∙
          ap (λ y. map Some w.literals ++ y ∷ []) t ∙ sym (map-append Some w.literals (text ∷ []));
      have = subst (AllByRecursion HasLiteral) (sym more) (all_more HasLiteral (take k (map f xs)) (f x) w.have has);
      appended = n ∙ ap (λ y. (y ++ piece) ++ text) w.appended ∙
          ap (λ y. y ++ text) (append_assoc before w.written piece) ∙
          append_assoc before (w.written ++ piece) text;
      onward = λ others. ap (filled query.text 0 places)
          (append_assoc w.literals (text ∷ []) others) ∙ w.onward (text ∷ others) ∙
          ap (λ y. w.written ++ y) (filled_more query.text at places k text others h)
          ∙ sym (append_assoc w.written piece (text ++
          filled query.text p.end (drop (k + 1) places) others)) ∙
          sym (append_assoc (w.written ++
          piece) text (filled query.text p.end (drop (k + 1) places) others));
    }

taken_all : {A : Type 0} → (xs : List A) (k : ℕ) → length xs ≤ k → take k xs ≡ xs
taken_all [] zero h = refl
taken_all [] (suc k) h = refl
taken_all (x ∷ xs) zero h = absurd (omega arith)
taken_all (x ∷ xs) (suc k) h = ap (λ ys. x ∷ ys) (taken_all xs k (omega arith))

pub written_end : (query : Sql) (places : List Place) (values : List Value) (at k : ℕ)
    (before after next : List ℕ) → WrittenTo query places values at (drop k places) k before after →
    length places ≤ k → length values ≡ length places
    → next ≡ after ++ drop at query.text → (text : List ℕ) × (next ≡ before ++ text) × IsFilled query places values text
written_end query places values at k before after next w h l n =
    let all : take k values ≡ values = taken_all values k (omega (arith, h, l)) in
    let onward : filled query.text 0 places w.literals ≡ w.written ++ drop at query.text =
    ap (filled query.text 0 places) (sym (append-nil w.literals)) ∙ w.onward [] ∙
    ap (λ ps. w.written ++ filled query.text at ps []) (none_left places k h) ∙
    ap (λ y. w.written ++ y) (append-nil (drop at query.text)) in (
      w.written ++ drop at query.text,
      n ∙ ap (λ y. y ++ drop at query.text) w.appended ∙ append_assoc before w.written (drop at query.text),
      record {
        literals = w.literals;
        each = ap (literals_in query) (sym all) ∙ w.each;
        have = subst (AllByRecursion HasLiteral) all w.have;
        spelled = sym onward;
      },
    )

-- the same where a refusal left a part behind
pub written_kept : {query : Sql} {places : List Place} {values : List Value} {at : ℕ}
    {left : List Place} {k : ℕ} {before after : List ℕ} →
    WrittenTo query places values at left k before after → (piece mid next : List ℕ) → mid ≡
    after ++ piece
    → take (length mid) next ≡ mid → take (length before) next ≡ before
written_kept {before} w piece mid next m t =
    let e : mid ≡ before ++ (w.written ++ piece) = m ∙ ap (λ y. y ++ piece) w.appended ∙
    append_assoc before w.written piece in
    let n : next ≡ before ++ ((w.written ++ piece) ++ drop (length mid) next) =
    sym (take-append-drop (length mid) next) ∙ ap (λ y. y ++ drop (length mid) next) (t ∙ e) ∙
    append_assoc before (w.written ++ piece) (drop (length mid) next) in
    ap (take (length before)) n ∙ take_at before ((w.written ++ piece) ++ drop (length mid) next) (length before) refl

-- what appending a value's text says
pub text_put : (sql : Option (List ℕ)) (old new : List ℕ) → PutsSql sql old new (Ok tt) →
    (text : List ℕ) × (sql ≡ Some text) × (new ≡ old ++ text)
text_put None old new h = absurd h
text_put (Some text) old new h = (text, refl, h)

pub no_text_put : (sql : Option (List ℕ)) (old new : List ℕ) (e : AsSqlError) →
    PutsSql sql old new (Err e) → e ≡ as_sql_error.Float → sql ≡ None
no_text_put None old new e h f = refl
no_text_put (Some text) old new e h f = absurd (let k : as_sql_error.Memory ≡ as_sql_error.Float = sym h.0 ∙ f in cc)

pub put_kept : (sql : Option (List ℕ)) (old new : List ℕ) (e : AsSqlError) →
    PutsSql sql old new (Err e) → take (length old) new ≡ old
put_kept None old new e h = ap (take (length old)) h.1 ∙ take_all (length old) old (omega arith)
put_kept (Some text) old new e h = h.1

-- a value with a literal has a content
has_content : (m : Mode) (spelling : Spelling) (value : Value) (text : List ℕ) →
    literal_of m spelling value ≡ Some text → (content : Content) ×
    (content_of value ≡ Some content)
has_content m spelling NULL text h = (_, refl)
has_content m spelling (Bytes bytes) text h = (_, refl)
has_content m spelling (Int z) text h = (_, refl)
has_content m spelling (UInt n) text h = (_, refl)
has_content m spelling (Float bits) text h = cc
has_content m spelling (Double bits) text h = cc
has_content m spelling (Date year month day hour minute second micros) text h = (_, refl)
has_content m spelling (Time negative days hours minutes seconds micros) text h = (_, refl)

no_literal_no_content : (m : Mode) (spelling : Spelling) (value : Value) →
    literal_of m spelling value ≡ None → content_of value ≡ None
no_literal_no_content m spelling NULL h = cc
no_literal_no_content m spelling (Bytes bytes) h = cc
no_literal_no_content m spelling (Int z) h = cc
no_literal_no_content m spelling (UInt n) h = cc
no_literal_no_content m spelling (Float bits) h = refl
no_literal_no_content m spelling (Double bits) h = refl
no_literal_no_content m spelling (Date year month day hour minute second micros) h = cc
no_literal_no_content m spelling (Time negative days hours minutes seconds micros) h = cc

abbrev is_float : Value → Bool
is_float value = is_none (content_of value)

-- the contents of values with literals
pub record Contents (query : Sql) (values : List Value) (literals : List (List ℕ)) : Type 0 where
  pub contents : List Content
  pub each : map content_of values ≡ map Some contents
  pub are : AreLiterals query.mode query.spelling literals contents
  pub count : length literals ≡ length values

pub contents_of : (query : Sql) (values : List Value) (literals : List (List ℕ)) →
    literals_in query values ≡ map Some literals → AllByRecursion HasLiteral values →
    Contents query values literals
contents_of query [] [] e h = record { contents = []; each = refl; are = tt; count = refl }
contents_of query [] (l ∷ literals) e h = cc
contents_of query (v ∷ values) [] e h = cc
contents_of query (v ∷ values) (l ∷ literals) e h =
    let first : literal_of query.mode query.spelling v ≡ Some l = cc in
    let later : literals_in query values ≡ map Some literals = cc in
    let c : (content : Content) × (content_of v ≡ Some content) = has_content query.mode query.spelling v l first in
    let o : Contents query values literals = contents_of query values literals later h.1 in
    let m : length literals ≡ length values = o.count in
    record {
      contents = c.0 ∷ o.contents;
      each = ap (λ y. y ∷ map content_of values) c.1 ∙
          ap (λ ys. Some c.0 ∷ ys) o.each;
      are =
          (h.0 query.mode query.spelling l c.0 first c.1, o.are);
      count = omega (arith, m);
    }

pub no_floats : (query : Sql) (values : List Value) (literals : List (List ℕ)) (i : ℕ) →
    literals_in query values ≡ map Some literals → position_from is_float i values ≡ None
no_floats query [] literals i e = refl
no_floats query (v ∷ values) [] i e = cc
no_floats query (v ∷ values) (l ∷ literals) i e =
    let first : literal_of query.mode query.spelling v ≡ Some l = cc in
    let later : literals_in query values ≡ map Some literals = cc in
    let c : (content : Content) × (content_of v ≡ Some content) = has_content query.mode query.spelling v l first in
    let some : is_float v ≡ false = ap is_none c.1 in
    rw some (no_floats query values literals (i + 1) later)

-- the first value that has no literal is the first float
pub float_at : {A : Type 0} →
    (query : Sql) (f : A → Value) (xs : List A) (k i : ℕ) (x : A) (literals : List (List ℕ)) →
    literals_in query (take k (map f xs)) ≡ map Some literals → k < length xs → x ≡ get_or xs k x
    → literal_of query.mode query.spelling (f x) ≡ None → position_from is_float i (map f xs) ≡ Some (i + k)
float_at query f [] k i x literals e l g n = absurd (omega arith)
float_at query f (y ∷ xs) zero i x literals e l g n =
    let none : is_float (f y) ≡ true =
    ap is_none (ap (λ z. content_of (f z)) (sym g) ∙
    no_literal_no_content query.mode query.spelling (f x) n) in
    let j : i ≡ i + zero = omega arith in
    rw none (ap Some j)
float_at query f (y ∷ xs) (suc k) i x [] e l g n = cc
float_at query f (y ∷ xs) (suc k) i x (literal ∷ literals) e l g n =
    let first : literal_of query.mode query.spelling (f y) ≡ Some literal = cc in
    let later : literals_in query (take k (map f xs)) ≡ map Some literals = cc in
    let c : (content : Content) × (content_of (f y) ≡ Some content) =
    has_content query.mode query.spelling (f y) literal first in
    let some : is_float (f y) ≡ false = ap is_none c.1 in
    let j : i + 1 + k ≡ i + suc k = omega arith in
    rw some (float_at query f xs k (i + 1) x literals later (omega arith) g n ∙ ap Some j)
