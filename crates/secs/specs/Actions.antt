-- The row of an action, and 0 where there is none.
use Rattle.std.specs.Prelude.{ℕ, Option, Some, None}
use Rattle.secs.specs.declared.text.Action.{Action}
use Rattle.secs.specs.declared.text.Action.TheVariants as action

abbrev pub row_of_action : Action → ℕ
row_of_action action.Bind = 1
row_of_action action.CarrierNotification = 3
row_of_action action.ProceedWithCarrier = 5
row_of_action action.CancelCarrier = 6

abbrev pub row_found : Option Action → ℕ
row_found (Some a) = row_of_action a
row_found None = 0
