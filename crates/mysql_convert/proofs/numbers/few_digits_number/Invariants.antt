use Rattle.std.proofs.Common.{◌≡◌, ◌<◌, ◌^◌, drop}
use Rattle.mysql_convert.specs.IntegerLaws.{digits_after}
use Rattle.mysql_convert.proofs.numbers.few_digits_number.Given as goal

abbrev pub invariant-loop-byte : goal.invariant-loop-byte
invariant-loop-byte l = record {
  so_far : digits_after l.n (drop l.byte-index l.digits) ≡ digits_after 0 l.digits;
  below : l.n < 10 ^ l.byte-index;
}
