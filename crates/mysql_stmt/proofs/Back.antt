-- The laws of the commands.
use Rattle.std.proofs.Common.{lit<}
use Rattle.mysql_stmt.specs.CommandLaws.{alone_at-back}
use Rattle.mysql_stmt.specs.NullBits.{bitmap_length, null_at}
use Rattle.mysql_stmt.specs.Statements.{BitmapsSayWhichAreNull, ClosesReadBack, ResetsReadBack}

pub closes_read_back : ClosesReadBack
closes_read_back id rest = alone_at-back 25 id rest (lit< tt)

pub resets_read_back : ResetsReadBack
resets_read_back id rest = alone_at-back 26 id rest (lit< tt)

pub bitmaps_say_which_are_null : BitmapsSayWhichAreNull
bitmaps_say_which_are_null = (bitmap_length, null_at)
