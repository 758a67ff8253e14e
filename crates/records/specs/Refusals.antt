-- The number that each refusal is answered with, as documents 01 and 02 have them.
use Rattle.std.specs.Prelude.{ℕ, Result, Ok, Err}
use Rattle.records.specs.declared.refusal.Refusal.{Refusal}
use Rattle.records.specs.declared.refusal.Refusal.TheVariants.{OutOfRange, NoRecord, NameTaken, ReservedOrTied, Conditions, ExpectedFull, NotVerified, PlaceOrOpenerTaken, QueueFull, QueuedAlready, ClockEarlier, TimeOutOfRange, AutomaticInManual, RoomTooSmall, CutShort, UnknownCode, BadLength, TooDeep, TooManyItems, BytesLeftOver, ShapeOrAction, MarkOrVersion, SetUp, LogCutShort}

abbrev pub number : Refusal → ℕ
number OutOfRange = 1
number NoRecord = 2
number NameTaken = 3
number ReservedOrTied = 4
number Conditions = 5
number ExpectedFull = 6
number NotVerified = 7
number PlaceOrOpenerTaken = 8
number QueueFull = 9
number QueuedAlready = 10
number ClockEarlier = 11
number TimeOutOfRange = 12
number AutomaticInManual = 13
number RoomTooSmall = 14
number CutShort = 20
number UnknownCode = 21
number BadLength = 22
number TooDeep = 23
number TooManyItems = 24
number BytesLeftOver = 25
number ShapeOrAction = 26
number MarkOrVersion = 27
number SetUp = 28
number LogCutShort = 29

-- what is answered: 0 where nothing is refused
abbrev pub answer : Result Unit Refusal → ℕ
answer (Ok u) = 0
answer (Err r) = number r
