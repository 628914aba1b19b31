-- No refusal has the number 0, so the number 0 says that a message was read. Assumes nothing.
use Prim.Native.Nat.{◌<◌}
use native.Mathlib.Omega.{arith}
use Rattle.message.specs.Refusals.{number_of}
use Rattle.message.specs.declared.refusals.Reason.{Reason}
use Rattle.message.specs.declared.refusals.Reason.TheVariants.{RoomShort, RequestLong, BlockNotLegal, FieldCut, TagNotAllowed, LengthWrong, HeadWrong, TooManyBindings, SetUpRefused, TimerRange, DatagramBroken, VersionWrong, PduWrong, NoCounterpart, TooLong, NotAscending}

pub number-sure : (r : Reason) → 0 < number_of r
number-sure RoomShort = omega arith
number-sure RequestLong = omega arith
number-sure BlockNotLegal = omega arith
number-sure FieldCut = omega arith
number-sure TagNotAllowed = omega arith
number-sure LengthWrong = omega arith
number-sure HeadWrong = omega arith
number-sure TooManyBindings = omega arith
number-sure SetUpRefused = omega arith
number-sure TimerRange = omega arith
number-sure DatagramBroken = omega arith
number-sure VersionWrong = omega arith
number-sure PduWrong = omega arith
number-sure NoCounterpart = omega arith
number-sure TooLong = omega arith
number-sure NotAscending = omega arith
