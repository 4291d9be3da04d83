-- What the calls for C about commands exclude. bindings/c/mysql_session.h has their numbers.
-- MySQL Reference Manual, "Server SQL Modes", "Literal Values".
use Rattle.std.specs.Prelude.{◌≡◌, ℕ, true, false, List, [], ◌∷◌, Some, Ok, negsuc, Vec}
use Rattle.std.specs.declared.alloc.Global.{Global}
use Rattle.mysql_c_commands.specs.Adding.{bytes_from}
use Rattle.mysql_c_commands.specs.Modes.{flagged}
use Rattle.mysql_c_commands.specs.Sending.{Sends}
use Rattle.mysql_c_commands.specs.Sets.{TakesValueIn}
use Rattle.mysql_c_commands.specs.Shown.{Shows}
use Rattle.mysql_c_commands.specs.Texts.{bind_place}
use Rattle.mysql_c_commands.specs.declared.shown.ShownContent.{ShownContent}
use Rattle.mysql_c_commands.specs.declared.shown.ShownPlace.{ShownPlace}
use Rattle.mysql_c_handles.specs.Sets.{OfSets}
use Rattle.mysql_c_handles.specs.declared.object.Object.{Object}
use Rattle.mysql_c_handles.specs.declared.object.Object.TheVariants as object
use Rattle.mysql_bytes.specs.declared.spelling.Spelling.TheVariants.{Quoted}
use Rattle.mysql_cells.specs.declared.value.Value.{Value}
use Rattle.mysql_cells.specs.declared.value.Value.TheVariants as value
use Rattle.mysql_bytes.specs.declared.content.Content.TheVariants.{Number}
use Rattle.mysql_values.specs.declared.bind.BindError.TheVariants.{Float}
use Rattle.mysql_values.specs.declared.params.Params.{Params}

-- The flag 1 tells NO_BACKSLASH_ESCAPES, and 2 ANSI_QUOTES. Excluded: the two exchanged.
-- MySQL Reference Manual, "Server SQL Modes".
abbrev pub EachFlagTellsItsMode : Type 0
EachFlagTellsItsMode =
    (flagged 1 ≡ Some (record { no_backslash_escapes = true; ansi_quotes = false }, Quoted)) ×
    (flagged 2 ≡ Some (record { no_backslash_escapes = false; ansi_quotes = true }, Quoted))

-- Of two bytes one from the second on is the second. Excluded: one from the front.
abbrev pub BytesBeginWhereTheyAreTold : Type 0
BytesBeginWhereTheyAreTold = bytes_from (1 ∷ 2 ∷ []) 1 1 ≡ Ok (value.Bytes (2 ∷ []))

-- Of bytes, which aren't sets, a call on sets says that (3). Excluded: want of memory (1).
abbrev pub OtherObjectsAreTold : Type 0
OtherObjectsAreTold = (value : Value) (bytes : Vec ℕ Global) (number : ℕ) (new : Object) →
    OfSets (object.Bytes bytes) number new (TakesValueIn value number new) → number ≡ 3

-- The number -1 is shown with its sign, as kind 1. Excluded: a number out of range.
-- MySQL Reference Manual, "Numeric Literals".
abbrev pub NegativeNumbersAreShown : Type 0
NegativeNumbersAreShown = (number : ℕ) (shown : ShownContent) →
    Shows (Number (negsuc 0)) number shown → number ≡ 0

-- A float in the third set at place 5 is shown there. Excluded: the two exchanged.
abbrev pub SetsStandBeforePlaces : Type 0
SetsStandBeforePlaces = bind_place 3 (Float 5) ≡ record { set = 3; place = 5 }

-- By a road without a name nothing is done. Excluded: the answer 0, as if all were sent.
abbrev pub NoRoadIsNoSending : Type 0
NoRoadIsNoSending = (flags : ℕ) (query : List ℕ) (sets : List Params) (id limit : ℕ) (old new : List ℕ)
    (place : ShownPlace) →
    Sends 3 flags query sets id limit old 0 place new → ⊥
