use Rattle.std.proofs.Common.{◌≡◌, ◌≤◌, take}
use Rattle.std.specs.Str.Parse.{digits_value}
use Rattle.mysql_handshake.proofs.versions.value_of.Given as goal

abbrev pub invariant-loop-digit : goal.invariant-loop-digit
invariant-loop-digit l = record {
  value : l.value ≡ digits_value 10 (take l.digit-index l.digits);
  none : l.digit-index ≡ 0 → l.value ≡ 0;
  one : l.digit-index ≤ 1 → l.value ≤ 9;
  two : l.digit-index ≤ 2 → l.value ≤ 99;
  three : l.value ≤ 999;
}
