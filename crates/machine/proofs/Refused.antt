-- A refusal is answered with a number, and never with 0.
use native.Mathlib.Omega.{arith}
use mathlib.Core.Path.{◌≡◌}
use Rattle.records.specs.declared.refusal.Refusal.{Refusal}
use Rattle.records.specs.declared.refusal.Refusal.TheVariants.{OutOfRange, NoRecord, NameTaken, ReservedOrTied, Conditions, ExpectedFull, NotVerified, PlaceOrOpenerTaken, QueueFull, QueuedAlready, ClockEarlier, TimeOutOfRange, AutomaticInManual, RoomTooSmall, CutShort, UnknownCode, BadLength, TooDeep, TooManyItems, BytesLeftOver, ShapeOrAction, MarkOrVersion, SetUp, LogCutShort}
use Rattle.records.specs.Refusals.{number}

pub never_zero : (r : Refusal) → number r ≡ 0 → ⊥
never_zero OutOfRange h = absurd (omega arith)
never_zero NoRecord h = absurd (omega arith)
never_zero NameTaken h = absurd (omega arith)
never_zero ReservedOrTied h = absurd (omega arith)
never_zero Conditions h = absurd (omega arith)
never_zero ExpectedFull h = absurd (omega arith)
never_zero NotVerified h = absurd (omega arith)
never_zero PlaceOrOpenerTaken h = absurd (omega arith)
never_zero QueueFull h = absurd (omega arith)
never_zero QueuedAlready h = absurd (omega arith)
never_zero ClockEarlier h = absurd (omega arith)
never_zero TimeOutOfRange h = absurd (omega arith)
never_zero AutomaticInManual h = absurd (omega arith)
never_zero RoomTooSmall h = absurd (omega arith)
never_zero CutShort h = absurd (omega arith)
never_zero UnknownCode h = absurd (omega arith)
never_zero BadLength h = absurd (omega arith)
never_zero TooDeep h = absurd (omega arith)
never_zero TooManyItems h = absurd (omega arith)
never_zero BytesLeftOver h = absurd (omega arith)
never_zero ShapeOrAction h = absurd (omega arith)
never_zero MarkOrVersion h = absurd (omega arith)
never_zero SetUp h = absurd (omega arith)
never_zero LogCutShort h = absurd (omega arith)
