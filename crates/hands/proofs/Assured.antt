-- What an operator may count on holds of every run from every valid set-up.
use Prim.Native.Nat.{ℕ, ◌≤◌}
use mathlib.Core.List.{List}
use Rattle.wafers.specs.Outcome.{Brought}
use Rattle.hands.specs.Host.{Assured}
use Rattle.hands.proofs.AlarmRead.{alarm_read_fact}
use Rattle.hands.proofs.Nobody.{held_nobody}
use Rattle.hands.proofs.HeldRead.{held_read_fact}

pub assured : (P B setting timeout : ℕ) → 1 ≤ P → P ≤ 4 → B ≤ 16 → (run : List Brought) → Assured P B setting timeout run
assured P B setting timeout lo hi few run = record {
  alarm = alarm_read_fact P B setting timeout hi run;
  held = held_read_fact P B setting timeout lo hi few run;
  nobody = held_nobody P B setting timeout lo hi few run;
}
