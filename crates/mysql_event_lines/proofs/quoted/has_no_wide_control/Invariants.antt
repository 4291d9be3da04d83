use Rattle.std.proofs.Common.{◌≡◌, take, fold}
use Rattle.mysql_event_lines.specs.Quoted.{scan_byte}
use Rattle.mysql_event_lines.specs.declared.quoted.Scan.TheVariants.{Between}
use Rattle.mysql_event_lines.proofs.quoted.has_no_wide_control.Given as goal

abbrev pub invariant-loop-byte : goal.invariant-loop-byte
invariant-loop-byte l = l.scan ≡ fold scan_byte Between (take l.byte-index l.bytes)
