-- What sending says of the objects that two handles stand for, and of what C is shown.
use Rattle.std.specs.Prelude.{◌≡◌, ◌≢◌, ◌<◌, ◌≤◌, ◌⊎◌, ◌==◌, ℕ, List, Option, Some, None, MatchOption, if◌then◌else◌}
use Rattle.mysql_values.specs.Sql.{Sql, read_by}
use Rattle.mysql_values.specs.declared.params.Params.{Params}
use Rattle.mysql_command_rules.specs.declared.refusal.Refusal.{Refusal}
use Rattle.mysql_command_rules.specs.declared.refusal.Refusal.TheVariants as refusals
use Rattle.mysql_command_rules.specs.declared.road.Road.{Road}
use Rattle.mysql_command_rules.specs.declared.road.Road.TheVariants.{Text, Execute, Bulk}
use Rattle.mysql_command_rules.specs.Sending.{RefusesGiven}
use Rattle.mysql_command_rules.specs.Sets.{all_given}
use Rattle.mysql_session.specs.Delivery.{Delivers}
use Rattle.mysql_c_handles.specs.declared.code.Code.{Code}
use Rattle.mysql_c_handles.specs.declared.code.Code.TheVariants as code
use Rattle.mysql_c_handles.specs.declared.object.Object.{Object}
use Rattle.mysql_c_handles.specs.declared.object.Object.TheVariants as object
use Rattle.mysql_c_commands.specs.declared.shown.ShownPlace.{ShownPlace}
use Rattle.mysql_c_handles.specs.Bytes.{IsBytes}
use Rattle.mysql_c_handles.specs.Codes.{Stays, code_number, misuse}
use Rattle.mysql_c_commands.specs.Modes.{flagged}

-- the road of a number
abbrev pub road_numbered : ℕ → Option Road
road_numbered number = if number == 0 then Some Text else
    (if number == 1 then Some Execute else (if number == 2 then Some Bulk else None))

-- the code of a refusal
abbrev pub refusal_code : Refusal → Code
refusal_code refusals.Memory = code.Memory
refusal_code refusals.Mixed = code.Mixed
refusal_code (refusals.NotAlone at) = code.NotAlone
refusal_code refusals.TooManyPlaces = code.TooManyPlaces
refusal_code refusals.PrepareTooLarge = code.PrepareTooLarge
refusal_code refusals.NoPlaces = code.NoPlaces
refusal_code (refusals.Params set error) = code.Params
refusal_code (refusals.WrongCount set) = code.WrongCount
refusal_code (refusals.Float set at) = code.Float
refusal_code (refusals.PacketTooLarge set) = code.PacketTooLarge
refusal_code (refusals.MixedKinds set at) = code.MixedKinds
refusal_code (refusals.RowTooLarge set) = code.RowTooLarge

-- the set and the place of a refusal, or 0 for those that it doesn't have
abbrev pub refusal_place : Refusal → ShownPlace
refusal_place (refusals.NotAlone at) = record { set = 0; place = at }
refusal_place (refusals.Params set error) = record { set = set; place = 0 }
refusal_place (refusals.WrongCount set) = record { set = set; place = 0 }
refusal_place (refusals.Float set at) = record { set = set; place = at }
refusal_place (refusals.PacketTooLarge set) = record { set = set; place = 0 }
refusal_place (refusals.MixedKinds set at) = record { set = set; place = at }
refusal_place (refusals.RowTooLarge set) = record { set = set; place = 0 }
refusal_place other = record { set = 0; place = 0 }

-- a refusal by its number, with its set and its place
abbrev pub ShowsRefusal : Refusal → ℕ → ShownPlace → Type 0
ShowsRefusal refusal number place = (number ≡ code_number (refusal_code refusal)) × (place ≡ refusal_place refusal)

-- a refusal of the sets is shown
pub record IsRefused (road : Road) (query : Sql) (sets : List Params) (id limit number : ℕ)
    (place : ShownPlace) : Type 0 where
  pub refusal : Refusal
  pub refuses : RefusesGiven road query (all_given sets) id limit refusal
  pub shows : ShowsRefusal refusal number place

-- Why nothing is sent, by the first cause: no road has the number, no mode the flags, the limit is
-- below 4, or the sets are refused.
abbrev pub IsWhy : ℕ → ℕ → List ℕ → List Params → ℕ → ℕ → ℕ → ShownPlace → Type 0
IsWhy road flags query sets id limit number place =
    MatchOption (road_numbered road) (number ≡ code_number code.NoSuchRoad)
    (λ r. MatchOption (flagged flags) (number ≡ code_number code.NoSuchMode)
    (λ told. ((number ≡ code_number code.LimitTooSmall) × (limit < 4)) ⊎
    ((4 ≤ limit) × IsRefused r (read_by told.0 told.1 query) sets id limit number place)))

-- Sets are delivered to a server in the mode that the flags tell, appended to the old bytes; or the
-- bytes stay, and the number and the place say why.
pub record Sends (road flags : ℕ) (query : List ℕ) (sets : List Params) (id limit : ℕ) (old : List ℕ)
    (number : ℕ) (place : ShownPlace) (new : List ℕ) : Type 0 where
  pub delivered : number ≡ 0 →
      MatchOption (road_numbered road) ⊥ (λ r. MatchOption (flagged flags) ⊥ (λ told. (4 ≤ limit) ×
      Delivers r (read_by told.0 told.1 query) (all_given sets) id limit old new))
  pub kept : number ≢ 0 → new ≡ old
  pub why : number ≢ 0 → IsWhy road flags query sets id limit number place

-- sets are delivered behind the bytes that a handle stands for, or these stay
abbrev pub AppendsTo : ℕ → ℕ → List ℕ → List Params → ℕ → ℕ → Object → ℕ → ShownPlace → Object → Type 0
AppendsTo road flags query sets id limit (object.Bytes old) number place new =
    IsBytes new (λ bytes. Sends road flags query sets id limit old.items number place bytes)
AppendsTo road flags query sets id limit held number place new = Stays held number new

-- the parameter sets that the other handle stands for are delivered, or the bytes stay
abbrev pub SendsFrom : ℕ → ℕ → List ℕ → ℕ → ℕ → Object → Object → ℕ → ShownPlace → Object → Type 0
SendsFrom road flags query id limit (object.Sets s) old number place new =
    AppendsTo road flags query s.sets.items id limit old number place new
SendsFrom road flags query id limit held old number place new = (number ≡ code_number (misuse held)) × (new ≡ old)
