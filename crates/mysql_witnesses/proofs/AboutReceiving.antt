-- Long data, rows of a bulk request, streams of no bytes, and memory that ran out.
use Rattle.std.proofs.Common.{◌≡◌, ℕ, ◌+◌, List, [], ◌∷◌, ◌++◌, length, Result, Ok, Err, refl, sym, ap, subst, ◌∙◌}
use Rattle.std.proofs.Common.{arith, length-append}
use Rattle.std.specs.List.{flat_map}
use Rattle.mysql_buf.specs.Reading.{first}
use Rattle.mysql_receive.specs.Audit.{Ends, all_read, end_by_rest}
use Rattle.mysql_receive.specs.InForce.{StatementState, nothing_yet, state_after}
use Rattle.mysql_receive.specs.Layout.{PlaceData}
use Rattle.mysql_receive.specs.Query.{Query}
use Rattle.mysql_receive.specs.Reading.{RowsAt, Set, columns_at, long_data_at, prepared_data, row_at}
use Rattle.mysql_receive.specs.declared.audit.End.{End}
use Rattle.mysql_receive.specs.declared.audit.End.TheVariants.{Whole}
use Rattle.mysql_receive.specs.declared.fault.StreamFault.{StreamFault}
use Rattle.mysql_receive.specs.declared.param_type.ParamType.{ParamType}
use Rattle.mysql_wire.specs.Framing.{chunks, framing}
use Rattle.mysql_wire.specs.GoingOn.{FramingTakesBytes, ReaderLaws, RestsAreTold}
use Rattle.mysql_wire.specs.Stream.{IsRest, Rest, after_all, first_number, framings}
use Rattle.mysql_wire.specs.Stream.Numbering.{EachFromZero}
use Rattle.mysql_wire.specs.Stream.Rest.{Empty, Open, OutOfSync, TooLarge}
use Rattle.mysql_wire.specs.Wire.{◌>>=◌}
use Rattle.mysql_witnesses.specs.Receiving.{EachRowIsASet, EmptyStreamsAreWhole, LongDataIsNoSet}
use Rattle.mysql_witnesses.specs.Receiving.{SetsThatWereReadStay, without_places}

no_set : (sent : Result PlaceData StreamFault) (sets : List Set) →
    (sent >>= λ x. Ok []) ≡ Ok sets → sets ≡ []
no_set (Ok x) sets e = cc
no_set (Err fault) sets e = cc

pub long_data_is_no_set : LongDataIsNoSet
unfolding long_data_at
long_data_is_no_set statement state body sets e = no_set (prepared_data statement state body) sets e

-- the bytes behind a row
rest_of : Result (Set × List ℕ) StreamFault → List ℕ
rest_of (Ok x) = x.1
rest_of (Err fault) = []

behind_first : (t : ParamType) (a : Set) (rest : List ℕ) → row_at (t ∷ []) (1 ∷ 1 ∷ []) ≡ Ok (a, rest) → 1 ∷ [] ≡ rest
unfolding columns_at first rest_of
behind_first t a rest e = ap rest_of e

behind_second : (t : ParamType) (a : Set) (rest : List ℕ) → row_at (t ∷ []) (1 ∷ []) ≡ Ok (a, rest) → [] ≡ rest
unfolding columns_at first rest_of
behind_second t a rest e = ap rest_of e

-- where no byte is, no row is
none_at_the_end : (t : ParamType) (a : Set) (sets : List Set) → RowsAt (t ∷ []) [] (a ∷ sets) [] → ⊥
unfolding columns_at first
none_at_the_end t a sets h = let e = h.1 in cc

pub each_row_is_a_set : EachRowIsASet
each_row_is_a_set t [] h = cc
each_row_is_a_set t (a ∷ []) h = let e = behind_first t a h.0 h.1 in let f = h.2 in cc
each_row_is_a_set t (a ∷ b ∷ []) h = refl
each_row_is_a_set t (a ∷ b ∷ c ∷ sets) h =
    let k = subst (λ r. RowsAt (t ∷ []) r (b ∷ c ∷ sets) []) (sym (behind_first t a h.0 h.1)) h.2 in
    absurd (none_at_the_end t c sets
    (subst (λ r. RowsAt (t ∷ []) r (c ∷ sets) []) (sym (behind_second t b k.0 k.1)) k.2))

-- ---- streams of no bytes

-- no bytes have no payload, and nothing is left of them
of_nothing : FramingTakesBytes → (payloads : List (List ℕ)) (rest : List ℕ) →
    [] ≡ framings payloads EachFromZero ++ rest → (payloads ≡ []) × (rest ≡ [])
of_nothing takes [] rest e = (refl, sym e)
of_nothing takes (payload ∷ payloads) rest e =
    let later = framings payloads EachFromZero in
    absurd (omega (arith, ap length e, takes payload later 0, length-append (framing payload 0 ++ later) rest))

rest_of_nothing : RestsAreTold → (limit id : ℕ) (rest : Rest) → IsRest limit id [] rest → rest ≡ Empty
rest_of_nothing told limit id Empty h = refl
rest_of_nothing told limit id Open h = absurd (omega (arith, ((told limit id).1 []).1 h))
rest_of_nothing told limit id TooLarge h =
    absurd (omega (arith, h.ends.0, ap length h.joined, length-append (chunks h.body id h.count) h.tail))
rest_of_nothing told limit id OutOfSync h =
    absurd (omega (arith, h.ends.0, ap length h.joined, length-append (chunks h.body id h.count) h.tail))

nothing_left : (front left : List (List ℕ)) → [] ≡ front ++ left → left ≡ []
nothing_left [] left e = sym e
nothing_left (x ∷ front) left e = absurd cc

ends_whole : (query : Query) (id : ℕ) (s : StatementState) (n : ℕ) (rest : Rest) (ending : End) (left : List (List ℕ)) →
    left ≡ [] → rest ≡ Empty → Ends (without_places query id) s n rest ending left → ending ≡ Whole
ends_whole query id s n rest ending [] none e (all_read is) = is ∙ ap (end_by_rest (without_places query id) s n) e
ends_whole query id s n rest ending (x ∷ left) none e h = absurd cc

pub empty_streams_are_whole : ReaderLaws → EmptyStreamsAreWhole
empty_streams_are_whole laws query id limit audit h =
    let statement = without_places query id in
    let split = h.0 in
    let audits = h.4 in
    let each = audits.each in
    let none = of_nothing laws.takes_bytes split.payloads split.rest_bytes h.2.joined in
    let number = first_number (after_all split.payloads EachFromZero) in
    let rest = subst (λ (bytes : List ℕ). IsRest limit number bytes split.rest) none.1 h.2.ends in
    ends_whole query id (state_after statement nothing_yet each.front) (0 + length audits.reads) split.rest audit.ending
    each.left (nothing_left each.front each.left (sym none.0 ∙ each.cut))
    (rest_of_nothing laws.rests limit number split.rest rest) audits.ending

-- ---- memory that ran out

pub sets_that_were_read_stay : SetsThatWereReadStay
sets_that_were_read_stay statement limit old new piece set e short =
    let later = flat_map (λ sets. sets) short.reads in (later, short.sets ∙ ap (λ sets. sets ++ later) e)
