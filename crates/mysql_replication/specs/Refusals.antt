-- Readings of a text that refuse: the first refusal that is met counts.
-- MySQL Reference Manual, "GTID Sets".
use Rattle.std.specs.Prelude.{◌≡◌, Result, Ok, Err}
use Rattle.mysql_replication.specs.declared.error.SidError.{SidError}
use Rattle.mysql_replication.specs.declared.error.SidError.TheVariants.{Memory}

-- What a function refused is what reading refuses, unless memory ran out.
abbrev pub Refuses : {Y : Type 0} → SidError → Result Y SidError → Type 0
Refuses Memory read = Unit {0}
Refuses e read = read ≡ Err e

-- What a function answered, seen by view, is what reading gives, unless memory ran out.
abbrev pub Gives : {X Y : Type 0} → (X → Y) → Result X SidError → Result Y SidError → Type 0
Gives view (Ok x) read = read ≡ Ok (view x)
Gives view (Err e) read = Refuses e read

-- What a function that takes no memory answered, seen by view, is what reading gives.
abbrev pub Answers : {X Y : Type 0} → (X → Y) → Result X SidError → Result Y SidError → Type 0
Answers view (Ok x) read = read ≡ Ok (view x)
Answers view (Err e) read = read ≡ Err e
