-- Intervals read one after another: those that stand, and what is left.
use Rattle.std.proofs.Common.{◌≡◌, ℕ, ◌+◌, ◌<◌, ◌≤◌, List, [], ◌∷◌, ◌++◌, length, drop, get_or, Result, Ok, Err, refl}
use Rattle.std.proofs.Common.{sym, ◌∙◌, ap, append_assoc, append-nil}
use Rattle.std.proofs.lemmas.List.{at_drop_more, at_drop_all}
use Rattle.mysql_replication.specs.Intervals.{interval_of, intervals_of}
use Rattle.mysql_replication.specs.Refusals.{Refuses}
use Rattle.mysql_fields.specs.Wire.{◌>>=◌}
use Rattle.mysql_replication.specs.declared.error.SidError.{SidError}
use Rattle.mysql_replication.specs.declared.error.SidError.TheVariants.{NoColon, BadUuid, Empty, BadTag, NoIntervals}
use Rattle.mysql_replication.specs.declared.error.SidError.TheVariants.{BadInterval, ZeroGno, StartNotBelowEnd}
use Rattle.mysql_replication.specs.declared.error.SidError.TheVariants.{Overflow, Memory}
use Rattle.mysql_replication.specs.declared.interval.GnoInterval.{GnoInterval}

-- Intervals behind others, unless they are refused.
abbrev pub behind : List GnoInterval → Result (List GnoInterval) SidError → Result (List GnoInterval) SidError
behind intervals (Ok others) = Ok (intervals ++ others)
behind intervals (Err e) = Err e

behind_more : (intervals : List GnoInterval) (interval : GnoInterval) (r : Result (List GnoInterval) SidError)
    → behind intervals (behind (interval ∷ []) r) ≡ behind (intervals ++ interval ∷ []) r
behind_more intervals interval (Ok others) = ap Ok (sym (append_assoc intervals (interval ∷ []) others))
behind_more intervals interval (Err e) = refl

joined : (interval : GnoInterval) (r : Result (List GnoInterval) SidError) →
    (r >>= λ intervals. Ok (interval ∷ intervals)) ≡ behind (interval ∷ []) r
joined interval (Ok others) = refl
joined interval (Err e) = refl

-- A field that is read, and the fields behind it.
read_field : (field : List ℕ) (fields : List (List ℕ)) (interval : GnoInterval) → interval_of field ≡ Ok interval
    → intervals_of (field ∷ fields) ≡ behind (interval ∷ []) (intervals_of fields)
read_field field fields interval e = rw e (joined interval (intervals_of fields))

refused_field : (field : List ℕ) (fields : List (List ℕ)) (fault : SidError) → interval_of field ≡
    Err fault → intervals_of (field ∷ fields) ≡ Err fault
refused_field field fields fault e = rw e refl

-- A turn that reads a field.
pub turn_reads : (all : List (List ℕ)) (n : ℕ) (field : List ℕ) (intervals : List GnoInterval) (interval : GnoInterval)
    → intervals_of all ≡ behind intervals (intervals_of (drop n all)) → (n < length all) ×
    (field ≡ get_or all n field) → interval_of field ≡ Ok interval
    → intervals_of all ≡ behind (intervals ++ interval ∷ []) (intervals_of (drop (n + 1) all))
turn_reads all n field intervals interval stands turn e =
    let at : interval_of (get_or all n field) ≡ Ok interval = rw (← turn.1) e in
    stands ∙ ap (behind intervals) (at_drop_more intervals_of all n field turn.0 ∙
    read_field _ (drop (n + 1) all) interval at)
    ∙ behind_more intervals interval (intervals_of (drop (n + 1) all))

-- A turn that refuses one.
pub turn_refuses : (all : List (List ℕ)) (n : ℕ) (field : List ℕ) (intervals : List GnoInterval) (fault : SidError)
    → intervals_of all ≡ behind intervals (intervals_of (drop n all)) → (n < length all) ×
    (field ≡ get_or all n field) → interval_of field ≡ Err fault
    → intervals_of all ≡ Err fault
turn_refuses all n field intervals fault stands turn e =
    let at : interval_of (get_or all n field) ≡ Err fault = rw (← turn.1) e in
    stands ∙ ap (behind intervals) (at_drop_more intervals_of all n field turn.0 ∙
    refused_field _ (drop (n + 1) all) fault at)

-- No field is left.
pub turns_end : (all : List (List ℕ)) (n : ℕ) (intervals : List GnoInterval) → intervals_of all ≡
    behind intervals (intervals_of (drop n all))
    → length all ≤ n → intervals_of all ≡ Ok intervals
turns_end all n intervals stands over = stands ∙
    ap (behind intervals) (at_drop_all intervals_of all n over) ∙ ap Ok (append-nil intervals)

-- A refusal that reading gives.
pub refuses : {Y : Type 0} (e : SidError) (read : Result Y SidError) → read ≡ Err e → Refuses e read
refuses NoColon read h = h
refuses BadUuid read h = h
refuses Empty read h = h
refuses BadTag read h = h
refuses NoIntervals read h = h
refuses BadInterval read h = h
refuses ZeroGno read h = h
refuses StartNotBelowEnd read h = h
refuses Overflow read h = h
refuses Memory read h = tt
