-- The numbers that calls answer, and why a handle isn't of use to a call.
use Rattle.std.specs.Prelude.{◌≡◌, ℕ, Option, Some, None}
use Rattle.mysql_receive.specs.declared.fault.StreamFault.{StreamFault}
use Rattle.mysql_receive.specs.declared.fault.StreamFault.TheVariants.{TooLarge, OutOfSync, EmptyCommand, OtherCommand}
use Rattle.mysql_receive.specs.declared.fault.StreamFault.TheVariants.{TextMismatch, NotAlone, PrepareMismatch}
use Rattle.mysql_receive.specs.declared.fault.StreamFault.TheVariants.{TooManyPlaces, NotPrepared, WrongId, BadExecute}
use Rattle.mysql_receive.specs.declared.fault.StreamFault.TheVariants.{NoTypes, BadType, Float, BadPlace, BadBulk}
use Rattle.mysql_receive.specs.declared.fault.StreamFault.TheVariants.{Indicator, NoRows, PiecesBeforeBulk, Memory}
use Rattle.mysql_replies.specs.declared.fault.ReplyFault.{ReplyFault}
use Rattle.mysql_replies.specs.declared.fault.ReplyFault.TheVariants as reply
use Rattle.mysql_reply_writer.specs.declared.refusal.ReplyRefusal.{ReplyRefusal}
use Rattle.mysql_reply_writer.specs.declared.refusal.ReplyRefusal.TheVariants as refusal
use Rattle.mysql_c_handles.specs.declared.code.Code.{Code}
use Rattle.mysql_c_handles.specs.declared.code.Code.TheVariants as code
use Rattle.mysql_c_handles.specs.declared.object.Object.{Object}
use Rattle.mysql_c_handles.specs.declared.object.Object.TheVariants as object

-- the number of a fault of a stream of commands; that memory ran out has the number that it has everywhere
abbrev pub fault_number : StreamFault → ℕ
fault_number TooLarge = 100
fault_number OutOfSync = 101
fault_number EmptyCommand = 102
fault_number OtherCommand = 103
fault_number TextMismatch = 104
fault_number NotAlone = 105
fault_number PrepareMismatch = 106
fault_number TooManyPlaces = 107
fault_number NotPrepared = 108
fault_number WrongId = 109
fault_number BadExecute = 110
fault_number NoTypes = 111
fault_number BadType = 112
fault_number Float = 113
fault_number BadPlace = 114
fault_number BadBulk = 115
fault_number Indicator = 116
fault_number NoRows = 117
fault_number PiecesBeforeBulk = 118
fault_number Memory = 1

-- the number of a fault of a reply
abbrev pub reply_fault_number : ReplyFault → ℕ
reply_fault_number reply.TooLarge = 300
reply_fault_number reply.OutOfSync = 301
reply_fault_number reply.BadHeader = 302
reply_fault_number reply.BadCount = 303
reply_fault_number reply.BadColumn = 304
reply_fault_number reply.BadOk = 305
reply_fault_number reply.BadError = 306
reply_fault_number reply.BadRow = 307
reply_fault_number reply.BadTerminator = 308
reply_fault_number reply.BadPrepare = 309
reply_fault_number reply.AfterEnd = 310
reply_fault_number reply.Memory = 1

-- the number of a refusal to write a reply, without the place that it has
abbrev pub refusal_number : ReplyRefusal → ℕ
refusal_number refusal.NoResults = 400
refusal_number (refusal.AfterEnd result) = 401
refusal_number (refusal.NotEnded result) = 402
refusal_number (refusal.NotBegun result) = 403
refusal_number (refusal.WrongKind result) = 404
refusal_number (refusal.NoColumns result) = 405
refusal_number (refusal.TooManyColumns result) = 406
refusal_number (refusal.Status result) = 407
refusal_number (refusal.ReadsAsReport result) = 408
refusal_number (refusal.CellCount result row) = 409
refusal_number (refusal.NoForm result row place) = 410
refusal_number (refusal.PacketTooLarge payload) = 411
refusal_number refusal.Memory = 1

-- the number of an answer
abbrev pub code_number : Code → ℕ
code_number code.Done = 0
code_number code.Memory = 1
code_number code.EmptyHandle = 2
code_number code.OtherKind = 3
code_number code.OutOfRange = 4
code_number code.LimitTooSmall = 5
code_number code.Mixed = 6
code_number code.NoSuchRoad = 7
code_number code.NoSuchKind = 8
code_number code.BadPacket = 9
code_number code.Unfinished = 10
code_number code.NoSuchMode = 11
code_number code.NotAlone = 200
code_number code.TooManyPlaces = 201
code_number code.PrepareTooLarge = 202
code_number code.NoPlaces = 203
code_number code.Params = 204
code_number code.WrongCount = 205
code_number code.Float = 206
code_number code.PacketTooLarge = 207
code_number code.MixedKinds = 208
code_number code.RowTooLarge = 209
code_number (code.Stream fault) = fault_number fault
code_number (code.Reply fault) = reply_fault_number fault
code_number (code.Unwritten why) = refusal_number why

-- the answer of a call after which this fault is held
abbrev pub fault_code : Option StreamFault → Code
fault_code None = code.Done
fault_code (Some fault) = code.Stream fault

-- why an object of another kind is of no use to a call
abbrev pub misuse : Object → Code
misuse object.Empty = code.EmptyHandle
misuse held = code.OtherKind

-- An object of another kind stays, and the number says why.
abbrev pub Stays : Object → ℕ → Object → Type 0
Stays old number new = (number ≡ code_number (misuse old)) × (new ≡ old)
