-- Sets that are written one after another: a front of what carries them is taken by the writer, and
-- the rest is buffered.
use Rattle.std.proofs.Common.{◌≡◌, ◌⊎◌, ℕ, ◌+◌, ◌-◌, ◌<◌, ◌≤◌, List, [], ◌++◌, length, map, take, get_or, inl, inr}
use Rattle.std.proofs.Common.{Option, Result, Ok, Err, refl, sym, ◌∙◌, ap, subst, arith, append_assoc}
use Rattle.std.specs.Prelude.{IfErr, OnOk}
use Rattle.std.specs.Io.KnownBytes.{Appends}
use Rattle.std.proofs.lemmas.Bool.{cases_lt}
use Rattle.std.proofs.lemmas.List.{get_or-append-add, take-map, take_all}
use Rattle.std.proofs.Math.ListN.{get_or-append}
use Rattle.std.proofs.KnownBytes.{Appends-nil, Appends-trans}
use Rattle.mysql_wire.specs.Bytes.{AreBytes}
use Rattle.mysql_values.specs.Sql.{Sql}
use Rattle.mysql_values.specs.declared.params.Params.{Params}
use Rattle.mysql_values.specs.Laws.{OneTokens}
use Rattle.mysql_command_rules.specs.declared.refusal.Refusal.{Refusal}
use Rattle.mysql_command_rules.specs.declared.road.Road.{Road}
use Rattle.mysql_command_rules.specs.declared.send_to_error.SendToError.{SendToError}
use Rattle.mysql_command_rules.specs.declared.send_to_error.SendToError.TheVariants.{Refused, Io}
use Rattle.mysql_command_rules.specs.Buffering.{Flushes, StopsAt, TakesFront}
use Rattle.mysql_command_rules.specs.InTurn.{SentInTurn}
use Rattle.mysql_command_rules.specs.OneSet.{AppendsOne, IsApart, RefusesOne, first_sets}
use Rattle.mysql_command_rules.specs.Reading.{SentReadable}
use Rattle.mysql_command_rules.specs.Sets.{GiveTheSame, Given, all_given, given_by}
use Rattle.mysql_command_rules.specs.Writing.{FailsAmong, Stops, Writes, WrittenSoFar}
use Rattle.mysql_command_rules.specs.WritingLaws.{WrittenInTurn}
use Rattle.mysql_command_rules.proofs.InTurn.{over_same, refused_same, refused_with_any, sent_in_turn}

bytes_append : (xs ys : List ℕ) → AreBytes xs → AreBytes ys → AreBytes (xs ++ ys)
bytes_append xs ys p q i = at (cases_lt i (length xs))
  where
    at : ((i < length xs) ⊎ (length xs ≤ i)) → get_or (xs ++ ys) i 0 < 256
    at (inl front) = subst (λ (n : ℕ). n < 256) (sym (get_or-append xs ys 0 i front)) (p i)
    at (inr behind) =
        let j : ℕ = i - length xs in
        let is : length xs + j ≡ i = omega arith in
        subst (λ (k : ℕ). get_or (xs ++ ys) k 0 < 256) is
        (subst (λ (n : ℕ). n < 256) (sym (get_or-append-add xs ys j 0)) (q j))

no_bytes : AreBytes []
no_bytes i = omega arith

-- the first of the sets of a list give what the first sets of the list give
first_of_list : (sets : List Params) (count : ℕ) →
    GiveTheSame (first_sets count (all_given sets)) (all_given (take count sets))
first_of_list sets count names = take-map (given_by names) count sets

module _ (road : Road) (query : Sql) (sets : List Params) (id limit number : ℕ)
    (old mid new : Option (List ℕ)) (buffered : List ℕ)
    (w : WrittenSoFar road query sets id limit old mid buffered number) where
  -- one more is sent from what was buffered, and a front of it is flushed
  on : (more left : List ℕ) →
      SentReadable road query (first_sets (number + 1) (all_given sets)) id limit [] (w.written ++
      more) → Flushes mid new more left →
      WrittenSoFar road query sets id limit old new left (number + 1)
  on more left s f = record {
    written = w.written ++ f.front;
    bytes = bytes_append w.written f.front w.bytes f.bytes;
    taken = Appends-trans old mid new w.written f.front w.taken f.taken;
    carries = subst (λ (l : List ℕ). SentReadable road query
        (first_sets (number + 1) (all_given sets)) id limit [] l)
        (ap (λ l. w.written ++ l) f.parts ∙ sym (append_assoc w.written f.front left)) s;
  }

  -- all that is buffered is written
  first_written : AreBytes buffered → Appends mid new buffered →
      Writes road query (first_sets number (all_given sets)) id limit old new
  first_written bytes taken =
      record {
        stream = w.written ++ buffered;
        bytes =
            bytes_append w.written buffered w.bytes bytes;
        taken =
            Appends-trans old mid new w.written buffered w.taken taken;
        carries = w.carries;
      }

  -- the writer fails within what is buffered, in which so many sets stand behind what it took before
  fails_in : (count : ℕ) → count ≤ length sets → (more : List ℕ) →
      SentReadable road query (first_sets count (all_given sets)) id limit [] (w.written ++ more) →
      AreBytes more → TakesFront mid new more → FailsAmong road query sets id limit old new
  fails_in count inside more s bytes f = record {
    count = count;
    inside = inside;
    within = record {
      stream = w.written ++ more;
      bytes = bytes_append w.written more w.bytes bytes;
      taken = record {
        front = w.written ++ f.front;
        back = f.back;
        taken = Appends-trans old mid new w.written f.front w.taken f.taken;
        parts = ap (λ l. w.written ++ l) f.parts ∙ sym (append_assoc w.written f.front f.back);
        untaken = f.untaken;
      };
      carries = over_same road query (first_sets count (all_given sets))
          (all_given (take count sets)) id limit [] (w.written ++ more) (first_of_list sets count)
          s;
    };
  }

-- what is written of sets is written of others that give the same
writes_same : (road : Road) (query : Sql) (sets others : List (List ℕ) → List Given) (id limit : ℕ)
    (old new : Option (List ℕ)) → GiveTheSame sets others →
    Writes road query sets id limit old new → Writes road query others id limit old new
writes_same road query sets others id limit old new same w =
    record {
      stream = w.stream;
      bytes = w.bytes;
      taken = w.taken;
      carries =
          over_same road query sets others id limit [] w.stream same w.carries;
    }

-- what is appended to what is buffered is appended to what was written with it
behind_written : (road : Road) (query : Sql) (id limit number : ℕ) (given : List (List ℕ) →
    Given) (written buffered more : List ℕ) →
    AppendsOne road query id limit number given buffered more
    → AppendsOne road query id limit number given (written ++ buffered) (written ++ more)
behind_written road query id limit number given written buffered more (tokens, has, a) = (
  tokens,
  has,
  record {
    values = a.values;
    gives = a.gives;
    none = a.none;
    readable = a.readable;
    appended = ap (λ l. written ++ l) a.appended ∙ sym (append_assoc written buffered _);
  },
)

module _ (once : OneTokens) (road : Road) (apart : IsApart road) (query : Sql) (sets : List Params)
    (id limit number : ℕ) (old mid new : Option (List ℕ)) (buffered more : List ℕ) (params : Params)
    (inside : number < length sets) (at : params ≡ get_or sets number params)
    (w : WrittenSoFar road query sets id limit old mid buffered number) where
  in_turn : SentInTurn
  in_turn = sent_in_turn once

  -- one more set is sent
  one_more : AppendsOne road query id limit number (λ names. given_by names params) buffered more →
      SentReadable road query (first_sets (number + 1) (all_given sets)) id limit [] (w.written ++
      more)
  one_more a =
      in_turn.more road apart query (all_given sets) id limit number [] (w.written ++
      buffered) (w.written ++ more) (λ names. given_by names params)
      (in_turn.of_list sets number params inside at) w.carries
      (behind_written road query id limit number (λ names. given_by names params) w.written buffered more a)

  module _ (kept : take (length buffered) more ≡ buffered) where
    refused : (refusal : Refusal) →
        RefusesOne road query id limit number (λ names. given_by names params) refusal →
        AreBytes (take (length buffered) more) → Appends mid new (take (length buffered) more)
        → Stops road query sets id limit old new (Refused refusal number)
    refused refusal why bytes taken =
        let both = in_turn.refused_more road apart query (all_given sets) id limit number []
        (w.written ++ buffered) (λ names. given_by names params)
        (in_turn.of_list sets number params inside at) w.carries refusal why in (
          both.0,
          inr (record {
            inside = inside;
            why = refused_same road query (first_sets (number + 1) (all_given sets))
                (all_given (take (number + 1) sets)) id limit refusal
                (first_of_list sets (number + 1)) both.1;
            before = writes_same road query (first_sets number (all_given sets))
                (all_given (take number sets)) id limit old new (first_of_list sets number)
                (first_written road query sets id limit number old mid new buffered w
                (subst AreBytes kept bytes)
                (subst (λ (l : List ℕ). Appends mid new l) kept taken));
          }),
        )

    stops : (put : Result (Unit {0}) Refusal) →
        OnOk put (AppendsOne road query id limit number (λ names. given_by names params) buffered
        more)
        → IfErr put (RefusesOne road query id limit number (λ names. given_by names params)) →
        (error : SendToError) → StopsAt mid new put number (length buffered) more error →
        Stops road query sets id limit old new error
    stops (Ok done) ok err (Refused refusal count) (was, same, bytes, taken) = cc
    stops (Err why) ok err (Refused refusal count) (was, same, bytes, taken) =
        let is : why ≡ refusal = cc in
        subst (λ (n : ℕ). Stops road query sets id limit old new (Refused refusal n)) (sym same)
        (refused refusal (subst (RefusesOne road query id limit number
        (λ names. given_by names params)) is err) bytes taken)
    stops (Ok done) ok err (Io error) (bytes, f) =
        fails_in road query sets id limit number old mid new buffered w (number + 1)
        (omega (arith, inside)) more (one_more ok) bytes f
    stops (Err why) ok err (Io error) (bytes, f) =
        fails_in road query sets id limit number old mid new buffered w number
        (omega (arith, inside)) buffered w.carries (subst AreBytes kept bytes)
        (subst (λ (l : List ℕ). TakesFront mid new l) kept f)

-- ---- the law

pub written_in_turn : OneTokens → WrittenInTurn
written_in_turn once = record {
  begin = λ road query sets id limit old buffered carries. record {
    written = [];
    bytes =
        no_bytes;
    taken = Appends-nil old;
    carries = carries;
  };
  refused = λ road apart query sets id limit old new kept refusal why. (
    refused_with_any road apart query (all_given sets) id limit refusal why,
    inl (record { why = why; none = refl; kept = kept }),
  );
  more = λ road apart query sets id limit number old mid new buffered more left params inside at w a f.
      on road query sets id limit number old mid new buffered w more left
      (one_more once road apart query sets id limit number old mid new buffered more params
      inside at w a) f;
  stopped = λ road apart query sets id limit number old mid new buffered more params inside at w put
      ok err kept start is error stops_at.
      stops once road apart query sets id limit number old mid new buffered more params inside at w
      kept put ok err error
      (subst (λ (n : ℕ). StopsAt mid new put number n more error) is stops_at);
  all = λ road query sets id limit number old mid new buffered passed w bytes taken.
      writes_same road query (first_sets number (all_given sets)) (all_given sets) id limit old new
      (λ names. first_of_list sets number names ∙ ap (λ l. all_given l names) (take_all number sets passed))
      (first_written road query sets id limit number old mid new buffered w bytes taken);
  failed = λ road query sets id limit number old mid new buffered inside w bytes f. fails_in road
      query sets id limit number old mid new buffered w number inside buffered w.carries bytes f;
}
