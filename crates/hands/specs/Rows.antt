-- The rows that request P9 changes, and the one that it adds.
use Rattle.std.specs.Prelude.{ℕ, Bool, cond, ◌&&◌, List, [], ◌∷◌, eqb}
use Rattle.records.specs.Ports.{loading}
use Rattle.rules.specs.declared.row.Seen.{Seen}
use Rattle.rules.specs.Row.{Ground, when, unless, is_choice}
use Rattle.rules.specs.Inputs as base
use Rattle.prediction.specs.State.{timed}
use Rattle.wafers.specs.Outcome.{Brought, brought}
use Rattle.hands.specs.declared.alarm.Alarm.{Alarm}
use Rattle.hands.specs.Alarms.{no_alarm, is_on, is_held, raised, holding}

-- A row here: what it is refused for besides the refusals of the input below that it stands for, this input, if there is one, and what
-- becomes of the alarm of its port, before the port settles it.
pub record Row : Type 0 where
  pub grounds : List Ground
  pub stands : List Brought
  pub alarm : Alarm

-- An input that is answered below.
abbrev pub passed_on : Alarm → Brought → Row
passed_on a i = record { grounds = []; stands = i ∷ []; alarm = a }

-- the second number: 0 by hand, 1 by an automatic vehicle
abbrev pub manual : Seen → Bool
manual x = eqb x.value 0

abbrev pub automatic : Seen → Bool
automatic x = eqb x.value 1

-- the port's access mode
abbrev pub in_manual : Seen → Bool
in_manual x = eqb x.here.access 0

abbrev pub in_auto : Seen → Bool
in_auto x = eqb x.here.access 1

-- 13. LoadStart(port, 0 manual or 1 automatic) and 24. UnloadStart, the same. 13 for an automatic start in MANUAL. A manual start in AUTO
-- raises the alarm.
abbrev pub starts : Seen → Alarm → Brought → Row
starts x a i = record {
  grounds = unless (is_choice x) 1 ∷ when (automatic x && in_manual x) 13 ∷ [];
  stands = i ∷ [];
  alarm = cond (manual x && in_auto x) (raised a) a;
}

-- a load whose alarm is on
abbrev pub violated : Seen → Alarm → Bool
violated x a = loading x.here && is_on a

-- 14. LoadDone(port). 5 on a held pod. With the alarm on the pod is held: the port is still loading.
abbrev pub load_done : Seen → Alarm → Brought → Row
load_done x a i = record {
  grounds = when (is_held a) 5 ∷ [];
  stands = cond (violated x a) [] (i ∷ []);
  alarm = cond (violated x a) (holding a) a;
}

-- An input below that brings neither a clock nor wafers.
abbrev pub LoadDone : ℕ → Brought
LoadDone port = brought (timed (base.LoadDone port) 0 0) []

-- 36. Continue(port). 5 unless a pod is held there. What LoadDone did, and the alarm clears.
abbrev pub continue_row : Alarm → Brought → Row
continue_row a i = record { grounds = unless (is_held a) 5 ∷ []; stands = LoadDone i.timed.input.port ∷ []; alarm = no_alarm }

unfoldable pub row_of : ℕ → Seen → Alarm → Brought → Row
row_of n x a i =
    cond (eqb n 13) (starts x a i)
    (cond (eqb n 14) (load_done x a i)
    (cond (eqb n 24) (starts x a i)
    (cond (eqb n 36) (continue_row a i)
    (passed_on a i))))
