-- A whole text, from its parts.
use Rattle.std.proofs.Common.{◌≡◌, ℕ, ◌<◌, List, [], ◌∷◌, length, Option, Result, Ok, Err, refl, ◌∙◌, ap, arith}
use Rattle.mysql_replication.specs.Intervals.{intervals_of}
use Rattle.mysql_replication.specs.Refusals.{Refuses}
use Rattle.mysql_fields.specs.Wire.{◌>>=◌}
use Rattle.mysql_replication.specs.Sids.{SidParts, fields_of, sid_of, sid_of_fields, tag_and_intervals, uuid_of}
use Rattle.mysql_replication.specs.declared.error.SidError.{SidError}
use Rattle.mysql_replication.specs.declared.error.SidError.TheVariants.{NoColon, BadUuid, Empty, BadTag, NoIntervals}
use Rattle.mysql_replication.specs.declared.error.SidError.TheVariants.{BadInterval, ZeroGno, StartNotBelowEnd}
use Rattle.mysql_replication.specs.declared.error.SidError.TheVariants.{Overflow, Memory}
use Rattle.mysql_replication.specs.declared.interval.GnoInterval.{GnoInterval}
use Rattle.mysql_replication.proofs.Fields.{fields_some}

-- What a set takes from its first field and from those behind it.
behind_uuid : (uuid : Result (List ℕ) SidError)
    (rest : Result (Option (List ℕ) × List (List ℕ)) SidError) → Result SidParts SidError
behind_uuid uuid rest = uuid >>= λ bytes. rest >>= λ parts. intervals_of parts.1 >>= λ intervals. Ok
    (record { uuid = bytes; tag = parts.0; intervals = intervals })

from_fields : (front : List ℕ) (fields : List (List ℕ)) → 0 < length fields →
    sid_of_fields (front ∷ fields) ≡ behind_uuid (uuid_of front) (tag_and_intervals fields)
unfolding sid_of_fields behind_uuid
from_fields front [] some = absurd (omega arith)
from_fields front (field ∷ fields) some = refl

from_text : (text front rest : List ℕ) → fields_of text ≡ front ∷ fields_of rest → sid_of text ≡
    behind_uuid (uuid_of front) (tag_and_intervals (fields_of rest))
from_text text front rest cut = ap sid_of_fields cut ∙ from_fields front (fields_of rest) (fields_some rest)

pub sid_without_colon : (text : List ℕ) → fields_of text ≡ text ∷ [] → sid_of text ≡ Err NoColon
unfolding sid_of_fields
sid_without_colon text cut = ap sid_of_fields cut

pub sid_without_uuid : (text front rest : List ℕ) (e : SidError) → fields_of text ≡ front ∷
    fields_of rest → uuid_of front ≡ Err e → sid_of text ≡ Err e
unfolding behind_uuid
sid_without_uuid text front rest e cut bad = from_text text front rest cut ∙ rw bad refl

pub sid_without_tag : (text front rest uuid : List ℕ) (e : SidError) → fields_of text ≡ front ∷
    fields_of rest → uuid_of front ≡ Ok uuid
    → tag_and_intervals (fields_of rest) ≡ Err e → sid_of text ≡ Err e
unfolding behind_uuid
sid_without_tag text front rest uuid e cut read bad = from_text text front rest cut ∙ rw (read, bad) refl

pub sid_without_intervals : (text front rest uuid : List ℕ) (tag : Option (List ℕ))
    (fields : List (List ℕ)) (e : SidError) → fields_of text ≡ front ∷ fields_of rest
    → uuid_of front ≡ Ok uuid → tag_and_intervals (fields_of rest) ≡ Ok (tag, fields) →
    intervals_of fields ≡ Err e → sid_of text ≡ Err e
unfolding behind_uuid
sid_without_intervals text front rest uuid tag fields e cut read tagged bad =
    from_text text front rest cut ∙ rw (read, tagged, bad) refl

pub sid_read : (text front rest uuid : List ℕ) (tag : Option (List ℕ)) (fields : List (List ℕ))
    (intervals : List GnoInterval) → fields_of text ≡ front ∷ fields_of rest
    → uuid_of front ≡ Ok uuid → tag_and_intervals (fields_of rest) ≡ Ok (tag, fields) →
    intervals_of fields ≡ Ok intervals
    → sid_of text ≡ Ok (record { uuid = uuid; tag = tag; intervals = intervals })
unfolding behind_uuid
sid_read text front rest uuid tag fields intervals cut read tagged all =
    from_text text front rest cut ∙ rw (read, tagged, all) refl

-- A refusal of a part that is one of the whole.
pub refused_on : {X Y : Type 0} (e : SidError) (part : Result X SidError)
    (whole : Result Y SidError) → Refuses e part → (part ≡ Err e → whole ≡ Err e) → Refuses e whole
refused_on NoColon part whole h on = on h
refused_on BadUuid part whole h on = on h
refused_on Empty part whole h on = on h
refused_on BadTag part whole h on = on h
refused_on NoIntervals part whole h on = on h
refused_on BadInterval part whole h on = on h
refused_on ZeroGno part whole h on = on h
refused_on StartNotBelowEnd part whole h on = on h
refused_on Overflow part whole h on = on h
refused_on Memory part whole h on = tt
