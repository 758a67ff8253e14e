-- What request P9 changes and adds, shown by runs: each beginning is accepted, and the endings differ in one condition.
use Rattle.std.specs.Prelude.{ℕ, Bool, true, ◌&&◌, List, [], ◌∷◌, ◌++◌, map, eqb}
use Rattle.rules.specs.declared.report.Report.{Report}
use Rattle.rules.specs.Seen.{Input, input_of}
use Rattle.rules.specs.Run.{on_port, on_name}
use Rattle.rules.specs.Inputs.{CarrierOut, CarrierIn, ChangeAccess, ChangeServiceStatus, ReserveAtPort, LoadFail, IdRead, IdReadFailed}
use Rattle.rules.specs.Inputs.{MoveIn, UnloadDone, UnloadFail, A, cancelled, stored}
use Rattle.queue.specs.Cases.{OutStart, OutDone}
use Rattle.prediction.specs.State.{timed}
use Rattle.wafers.specs.Outcome.{Brought, brought}
use Rattle.hands.specs.declared.alarm.Alarm.{Alarm}
use Rattle.hands.specs.Alarms.{no_alarm, raised, holding}
use Rattle.hands.specs.State.{Handled, start}
use Rattle.hands.specs.Rows.{LoadDone}
use Rattle.hands.specs.Outcome.{answer_in, state_after, reports_in}

-- ── Inputs ──
-- one of those before, with no clock and no wafers; a start among them is by hand
abbrev pub plain : Input → Brought
plain i = brought (timed i 0 0) []

-- who starts: the second number
abbrev pub manual : ℕ
manual = 0

abbrev pub automatic : ℕ
automatic = 1

abbrev pub LoadStart : ℕ → ℕ → Brought
LoadStart port who = plain (input_of 13 port who [] [])

abbrev pub UnloadStart : ℕ → ℕ → Brought
UnloadStart port who = plain (input_of 24 port who [] [])

abbrev pub Continue : ℕ → Brought
Continue port = plain (input_of 36 port 0 [] [])

-- ── Beginnings, all at port 1 ──
abbrev auto : List Brought
auto = plain (ChangeAccess 1 1) ∷ []

-- a load begins: in MANUAL, by hand; in AUTO by a vehicle; in AUTO by hand, with the alarm, and then the pod is held, and goes on
abbrev in_manual : List Brought
in_manual = LoadStart 1 manual ∷ []

abbrev by_vehicle : List Brought
by_vehicle = auto ++ LoadStart 1 automatic ∷ []

abbrev by_hand : List Brought
by_hand = auto ++ LoadStart 1 manual ∷ []

abbrev pod_held : List Brought
pod_held = by_hand ++ LoadDone 1 ∷ []

abbrev continued : List Brought
continued = pod_held ++ Continue 1 ∷ []

-- A is queued for the port, and its request is started, in MANUAL and in AUTO
abbrev queued : List Brought
queued = map plain (stored A 1 ++ CarrierOut A 1 ∷ [])

abbrev started : List Brought
started = queued ++ plain (OutStart 1) ∷ []

abbrev started_in_auto : List Brought
started_in_auto = queued ++ auto ++ plain (OutStart 1) ∷ []

-- A is cancelled at the port, which is READY TO UNLOAD, in MANUAL and in AUTO
abbrev to_unload : List Brought
to_unload = map plain cancelled

abbrev to_unload_in_auto : List Brought
to_unload_in_auto = to_unload ++ auto

-- its unload begins in AUTO: by a vehicle; by hand, with the alarm; and it fails
abbrev unload_by_vehicle : List Brought
unload_by_vehicle = to_unload_in_auto ++ UnloadStart 1 automatic ∷ []

abbrev unload_by_hand : List Brought
unload_by_hand = to_unload_in_auto ++ UnloadStart 1 manual ∷ []

abbrev unload_failed : List Brought
unload_failed = unload_by_hand ++ plain (UnloadFail 1) ∷ []

-- A came out of the buffer, its unload in AUTO failed, and it is about to go back
abbrev comes_back : ℕ → List Brought
comes_back who = started ++ plain (OutDone 1) ∷ auto ++ UnloadStart 1 who ∷ plain (UnloadFail 1) ∷ plain (CarrierIn A) ∷ []

-- ── A run of inputs that are accepted, and one more: its answer, its reports, and each port's alarm afterwards ──
pub record Case : Type 0 where
  pub ports : ℕ
  pub places : ℕ
  pub before : List Brought
  pub input : Brought

pub record Result : Type 0 where
  pub smooth : Bool
  pub answer : ℕ
  pub reports : List Report
  pub alarms : List Alarm

pub record Line : Type 0 where
  pub asked : Case
  pub said : Result

unfoldable pub smooth : Handled → List Brought → Bool
smooth s [] = true
smooth s (i ∷ is) = eqb (answer_in s i) 0 && smooth (state_after s i) is

unfoldable pub after : Handled → List Brought → Handled
after s [] = s
after s (i ∷ is) = after (state_after s i) is

unfoldable pub result_of : Case → Result
result_of c =
    let z = start c.ports c.places 0 0 in
    let s = after z c.before in
    let i = c.input in
    record { smooth = smooth z c.before; answer = answer_in s i; reports = reports_in s i; alarms = (state_after s i).alarms }

abbrev line : ℕ → ℕ → List Brought → Brought → ℕ → List Report → List Alarm → Line
line ports places before input answer reports alarms = record {
  asked = record { ports = ports; places = places; before = before; input = input };
  said = record { smooth = true; answer = answer; reports = reports; alarms = alarms };
}

-- one port, two places
abbrev told : List Brought → Brought → List Report → Alarm → Line
told before input reports one = line 1 2 before input 0 reports (one ∷ [])

abbrev refused : List Brought → Brought → ℕ → Alarm → Line
refused before input answer one = line 1 2 before input answer [] (one ∷ [])

-- two ports
abbrev both : List Brought → Brought → ℕ → List Report → Alarm → Alarm → Line
both before input answer reports one two = line 2 2 before input answer reports (one ∷ two ∷ [])

-- ── Alarms and reports ──
abbrev off : Alarm
off = no_alarm

abbrev on : Alarm
on = raised no_alarm

abbrev held : Alarm
held = holding on

-- the transfer state and the alarm of port 1, before and after
abbrev transfer : ℕ → ℕ → Report
transfer old new = on_port 1 1 old new

abbrev alarm : ℕ → ℕ → Report
alarm old new = on_port 9 1 old new

-- the record of A goes with its pod
abbrev leaves : List Report
leaves = transfer 3 1 ∷ on_port 4 1 1 0 ∷ on_name 5 A 4 0 ∷ on_name 6 A 1 0 ∷ on_name 7 A 1 0 ∷ []

abbrev pub cases : List Line
cases =
    -- 13. LoadStart: who starts, and the access mode; the alarm is reported last
    told auto (LoadStart 1 manual) (transfer 1 3 ∷ alarm 0 1 ∷ []) on
    ∷ told [] (LoadStart 1 manual) (transfer 1 3 ∷ []) off
    ∷ told auto (LoadStart 1 automatic) (transfer 1 3 ∷ []) off
    ∷ refused [] (LoadStart 1 automatic) 13 off
    ∷ told (auto ++ plain (ReserveAtPort 1) ∷ []) (LoadStart 1 manual) (transfer 1 3 ∷ on_port 3 1 1 0 ∷ alarm 0 1 ∷ []) on
    -- the mode of this port, not of another
    ∷ both auto (LoadStart 2 manual) 0 (on_port 1 2 1 3 ∷ []) off off
    ∷ both auto (LoadStart 2 automatic) 13 [] off off
    ∷ both (plain (ChangeAccess 2 1) ∷ []) (LoadStart 2 manual) 0 (on_port 1 2 1 3 ∷ on_port 9 2 0 1 ∷ []) off on
    -- a second number, before 4 and 5; a port, before 13
    ∷ refused auto (LoadStart 1 2) 1 off
    ∷ refused auto (LoadStart 1 256) 1 off
    ∷ refused started_in_auto (LoadStart 1 2) 1 off
    ∷ refused (auto ++ plain (ChangeServiceStatus 1 0) ∷ []) (LoadStart 1 2) 1 off
    ∷ refused [] (LoadStart 2 automatic) 1 off
    -- a request that is started, READY TO LOAD: 4 and 5 raise nothing, and come before 13
    ∷ refused started_in_auto (LoadStart 1 manual) 4 off
    ∷ refused started (LoadStart 1 automatic) 4 off
    ∷ refused queued (LoadStart 1 automatic) 13 off
    ∷ refused (auto ++ plain (ChangeServiceStatus 1 0) ∷ []) (LoadStart 1 manual) 5 off
    ∷ refused (plain (ChangeServiceStatus 1 0) ∷ []) (LoadStart 1 automatic) 5 off
    ∷ refused by_hand (LoadStart 1 manual) 5 on
    -- 14. LoadDone: held where the alarm is on, once; as in document 01 where it isn't
    ∷ told by_hand (LoadDone 1) [] held
    ∷ told in_manual (LoadDone 1) [] off
    ∷ told by_vehicle (LoadDone 1) [] off
    ∷ refused pod_held (LoadDone 1) 5 held
    ∷ refused auto (LoadDone 1) 5 off
    ∷ refused unload_by_hand (LoadDone 1) 5 on
    ∷ refused pod_held (LoadDone 0) 1 held
    ∷ both (pod_held ++ LoadStart 2 manual ∷ []) (LoadDone 2) 0 [] held off
    -- a load by hand stays in AUTO, so that no run comes to MANUAL with it
    ∷ refused by_hand (plain (ChangeAccess 1 0)) 5 on
    -- a held pod is still loading: no tag is read, it moves nowhere, and the access mode stays
    ∷ told (in_manual ++ LoadDone 1 ∷ []) (plain (IdReadFailed 1)) [] off
    ∷ refused pod_held (plain (IdReadFailed 1)) 5 held
    ∷ refused pod_held (plain (IdRead 1 A)) 5 held
    ∷ refused pod_held (plain (MoveIn 1 1)) 5 held
    ∷ refused pod_held (plain (ChangeAccess 1 0)) 5 held
    -- 36. Continue: 5 unless held there, also where the alarm is on
    ∷ told pod_held (Continue 1) (alarm 1 0 ∷ []) off
    ∷ refused by_hand (Continue 1) 5 on
    ∷ refused (by_vehicle ++ LoadDone 1 ∷ []) (Continue 1) 5 off
    ∷ refused unload_by_hand (Continue 1) 5 on
    ∷ refused continued (Continue 1) 5 off
    ∷ both pod_held (Continue 2) 5 [] held off
    ∷ refused pod_held (Continue 2) 1 held
    ∷ refused pod_held (Continue 0) 1 held
    ∷ refused pod_held (Continue 257) 1 held
    -- it does what LoadDone did
    ∷ told continued (plain (IdReadFailed 1)) [] off
    ∷ told continued (plain (IdRead 1 A)) (on_port 4 1 0 1 ∷ on_name 5 A 0 2 ∷ on_name 6 A 0 1 ∷ on_name 7 A 0 1 ∷ []) off
    ∷ refused continued (plain (MoveIn 1 1)) 7 off
    ∷ told continued (plain (ChangeAccess 1 0)) (on_port 2 1 1 0 ∷ []) off
    -- 15. LoadFail: the alarm clears, held or not
    ∷ told by_hand (plain (LoadFail 1)) (transfer 3 1 ∷ alarm 1 0 ∷ []) off
    ∷ told pod_held (plain (LoadFail 1)) (transfer 3 1 ∷ alarm 1 0 ∷ []) off
    ∷ told by_vehicle (plain (LoadFail 1)) (transfer 3 1 ∷ []) off
    ∷ both (by_hand ++ plain (ChangeAccess 2 1) ∷ LoadStart 2 manual ∷ []) (plain (LoadFail 2)) 0 (on_port 1 2 3 1 ∷ on_port 9 2 1 0 ∷ []) on off
    ∷ refused continued (plain (LoadFail 1)) 5 off
    ∷ refused (pod_held ++ plain (LoadFail 1) ∷ []) (Continue 1) 5 off
    ∷ told (pod_held ++ plain (LoadFail 1) ∷ LoadStart 1 automatic ∷ []) (LoadDone 1) [] off
    -- 24. UnloadStart: who starts, and the access mode
    ∷ told to_unload_in_auto (UnloadStart 1 manual) (transfer 2 3 ∷ alarm 0 1 ∷ []) on
    ∷ told to_unload (UnloadStart 1 manual) (transfer 2 3 ∷ []) off
    ∷ told to_unload_in_auto (UnloadStart 1 automatic) (transfer 2 3 ∷ []) off
    ∷ refused to_unload (UnloadStart 1 automatic) 13 off
    -- a second number, before 5; a port, before 13
    ∷ refused to_unload_in_auto (UnloadStart 1 2) 1 off
    ∷ refused auto (UnloadStart 1 2) 1 off
    ∷ refused to_unload (UnloadStart 2 automatic) 1 off
    -- READY TO UNLOAD: 5 raises nothing, and comes before 13
    ∷ refused auto (UnloadStart 1 manual) 5 off
    ∷ refused [] (UnloadStart 1 automatic) 5 off
    -- 26. UnloadFail: the alarm stays on
    ∷ told unload_by_hand (plain (UnloadFail 1)) (transfer 3 2 ∷ []) on
    ∷ told unload_by_vehicle (plain (UnloadFail 1)) (transfer 3 2 ∷ []) off
    -- and the next start leaves it on, whoever starts, and in MANUAL, too
    ∷ told unload_failed (UnloadStart 1 manual) (transfer 2 3 ∷ []) on
    ∷ told unload_failed (UnloadStart 1 automatic) (transfer 2 3 ∷ []) on
    ∷ told unload_failed (plain (ChangeAccess 1 0)) (on_port 2 1 1 0 ∷ []) on
    ∷ told (unload_failed ++ plain (ChangeAccess 1 0) ∷ []) (UnloadStart 1 manual) (transfer 2 3 ∷ []) on
    ∷ refused (unload_failed ++ plain (ChangeAccess 1 0) ∷ []) (UnloadStart 1 automatic) 13 on
    -- 25. UnloadDone: the alarm clears, whoever started last
    ∷ told unload_by_hand (plain (UnloadDone 1)) (leaves ++ alarm 1 0 ∷ []) off
    ∷ told unload_by_vehicle (plain (UnloadDone 1)) leaves off
    ∷ told (unload_failed ++ UnloadStart 1 automatic ∷ []) (plain (UnloadDone 1)) (leaves ++ alarm 1 0 ∷ []) off
    -- after model 8, which a fixed buffer tool has
    ∷ line 1 0 unload_by_hand (plain (UnloadDone 1)) 0 (leaves ++ on_name 8 A 1 0 ∷ alarm 1 0 ∷ []) (off ∷ [])
    -- 18. MoveIn: the alarm clears
    ∷ told (comes_back manual) (plain (MoveIn 1 1)) (transfer 3 1 ∷ on_port 4 1 1 0 ∷ alarm 1 0 ∷ []) off
    ∷ told (comes_back automatic) (plain (MoveIn 1 1)) (transfer 3 1 ∷ on_port 4 1 1 0 ∷ []) off
    ∷ []
