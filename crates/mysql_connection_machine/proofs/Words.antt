-- Last words are said by their step.
use Rattle.std.proofs.Common.{◌≡◌, ℕ, Bool, true, false, List, Ok, Err, refl, if◌then◌else◌}
use Rattle.mysql_authentication.specs.Readings.{early_error_at}
use Rattle.mysql_fields.specs.Wire.{Reading}
use Rattle.mysql_server_packets.specs.Packets.{ServerError}
use Rattle.mysql_connection_rules.specs.declared.fault.Fault.TheVariants as faults
use Rattle.mysql_connection_rules.specs.declared.reason.Reason.TheVariants as reasons
use Rattle.mysql_connection_rules.specs.declared.side.Side.TheVariants.{Server}
use Rattle.mysql_connection_rules.specs.Events as events
use Rattle.mysql_connection_rules.specs.Steps.{over, says}
use Rattle.mysql_connection_rules.specs.Streams.{World, begins_error, fails, farewell, said_by}
use Rattle.mysql_connection_rules.specs.Streams.{words_or}
use Rattle.mysql_connection_state.specs.Peeks.{or_bad_error, words_step}

-- by whether the payload begins as an error, and by what is read of it
said : (w : World) (number : ℕ) (rest : List ℕ) (begins : Bool) (read : Reading ServerError) →
    (if begins then farewell w number rest read else fails w Server faults.Unasked) ≡
    said_by w Server number rest (if begins
    then says events.Farewell (λ error. over reasons.Farewell w.standing) (or_bad_error read)
    else Err faults.Unasked)
said w number rest true (Ok error) = refl
said w number rest true (Err e) = refl
said w number rest false read = refl

pub words_said : (w : World) (payload : List ℕ) (number : ℕ) (rest : List ℕ) →
    words_or w faults.Unasked payload number rest ≡
    said_by w Server number rest (words_step w.standing payload)
words_said w payload number rest =
    said w number rest (begins_error payload) (early_error_at payload)
