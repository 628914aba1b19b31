-- The numbers of refusals (paper 01, "Numbered returns", and the requests E2 and E11). Assumes nothing.
use Rattle.std.specs.Prelude.{ℕ}
use Rattle.message.specs.declared.refusals.Reason.{Reason}
use Rattle.message.specs.declared.refusals.Reason.TheVariants.{RoomShort, RequestLong, BlockNotLegal, FieldCut, TagNotAllowed, LengthWrong, HeadWrong, TooManyBindings, SetUpRefused, TimerRange, DatagramBroken, VersionWrong, PduWrong, NoCounterpart, TooLong, NotAscending}

-- of a call 1 to 3, of a message 4 to 8, of set-up 9, of a conversion 10, of a datagram 16 to 20, of a walk 24
abbrev pub number_of : Reason → ℕ
number_of RoomShort = 1
number_of RequestLong = 2
number_of BlockNotLegal = 3
number_of FieldCut = 4
number_of TagNotAllowed = 5
number_of LengthWrong = 6
number_of HeadWrong = 7
number_of TooManyBindings = 8
number_of SetUpRefused = 9
number_of TimerRange = 10
number_of DatagramBroken = 16
number_of VersionWrong = 17
number_of PduWrong = 18
number_of NoCounterpart = 19
number_of TooLong = 20
number_of NotAscending = 24
