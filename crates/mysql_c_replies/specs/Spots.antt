-- Where writing is refused, as C sees it.
use Rattle.std.specs.Prelude.{ℕ}
use Rattle.mysql_reply_writer.specs.declared.refusal.ReplyRefusal.{ReplyRefusal}
use Rattle.mysql_reply_writer.specs.declared.refusal.ReplyRefusal.TheVariants as refusal
use Rattle.mysql_c_replies.specs.declared.spot.ShownSpot.{ShownSpot}

-- the spot of these numbers
abbrev pub spot_at : ℕ → ℕ → ℕ → ℕ → ShownSpot
spot_at result row place payload = record { result = result; row = row; place = place; payload = payload }

-- the spot of a refusal: its result, its row and its cell, or its payload, and 0 for those that it doesn't have
abbrev pub spot_of : ReplyRefusal → ShownSpot
spot_of refusal.NoResults = spot_at 0 0 0 0
spot_of (refusal.AfterEnd result) = spot_at result 0 0 0
spot_of (refusal.NotEnded result) = spot_at result 0 0 0
spot_of (refusal.NotBegun result) = spot_at result 0 0 0
spot_of (refusal.WrongKind result) = spot_at result 0 0 0
spot_of (refusal.NoColumns result) = spot_at result 0 0 0
spot_of (refusal.TooManyColumns result) = spot_at result 0 0 0
spot_of (refusal.Status result) = spot_at result 0 0 0
spot_of (refusal.ReadsAsReport result) = spot_at result 0 0 0
spot_of (refusal.CellCount result row) = spot_at result row 0 0
spot_of (refusal.NoForm result row place) = spot_at result row place 0
spot_of (refusal.PacketTooLarge payload) = spot_at 0 0 0 payload
spot_of refusal.Memory = spot_at 0 0 0 0
