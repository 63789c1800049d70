-- Document 01, 'Numbers the bench gives': the number of each reason. Assumes nothing: these are definitions.
use Rattle.std.specs.Prelude.{ℕ}
use Rattle.refusals.specs.declared.Reason.{Reason}
use Rattle.refusals.specs.declared.Reason.TheVariants.{TooLong, Cut, UnknownKind, Malformed, Oversize, Misplaced, NotThere, OwnName, WrongSize, Unfit, NoSession, NoRoom, AtEnd, WrongValue, ZeroDivisor, BadIndex, TooDeep}

abbrev pub number_of : Reason → ℕ
number_of TooLong = 1
number_of Cut = 2
number_of UnknownKind = 3
number_of Malformed = 4
number_of Oversize = 5
number_of Misplaced = 6
number_of NotThere = 7
number_of OwnName = 8
number_of WrongSize = 20
number_of Unfit = 21
number_of NoSession = 22
number_of NoRoom = 23
number_of AtEnd = 30
number_of WrongValue = 31
number_of ZeroDivisor = 32
number_of BadIndex = 33
number_of TooDeep = 34
