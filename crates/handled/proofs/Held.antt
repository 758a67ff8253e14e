-- What the bytes of a sound tool hold.
use Prim.Native.Nat.{ℕ, ◌≤◌}
use native.Mathlib.Omega.{arith}
use mathlib.Core.Path.{◌≡◌, ap, ◌∙◌}
use mathlib.Core.Bool.{true, ◌&&◌}
use mathlib.Core.List.{List, []}
use lib.ListN.{length, get_or, take, drop, get_or-eq_default}
use lib.Seq.{length-take-le}
use lib.Dec.{eqb, leb}
use borrow.Author.Tests.{eqb-true}
use Rattle.lists.specs.Lists.{every, fill}
use Rattle.lists.proofs.Bools.{and_l, and_r, and_i}
use Rattle.lists.proofs.Tables.{tail_is, getD_fill}
use Rattle.rules.specs.declared.tool.Tool.{Tool}
use Rattle.rules.specs.State.{spot_of, port_at, port_of}
use Rattle.rules.specs.Seen.{Input, narrow, see}
use Rattle.rules.specs.Held.{Held}
use Rattle.rules.proofs.Holding.{port_held, used_held}
use Rattle.rules.specs.Reports.{no_reports}
use Rattle.image.specs.Image.{tool_from, reports_from}
use Rattle.records.specs.Ports.{no_port, loading}
use Rattle.mapped.specs.Bytes.{own_in}
use Rattle.prediction.specs.Sound as prediction
use Rattle.predicted.specs.Bytes.{predicted_in}
use Rattle.predicted.proofs.Held as predicted
use Rattle.hands.specs.declared.alarm.Alarm.{Alarm}
use Rattle.hands.specs.Alarms.{no_alarm, is_on, is_held}
use Rattle.hands.specs.State.{state_of, base_of, alarm_of}
use Rattle.hands.specs.Outcome.{refused}
use Rattle.hands.specs.Sound.{is_none, sound, sound_tool}
use Rattle.hands.proofs.SoundTools.{tool_sound}
use Rattle.hands.proofs.Held.{held_loading}
use Rattle.handled.specs.Bytes.{alarms_from, handled_in, left}
use Rattle.handled.proofs.Laid.{alarms_long}

made_of : {a b : ℕ} → a ≡ 0 → b ≡ 0 → ◌≡◌ {A = Alarm} (record { on = a; held = b }) no_alarm
made_of p q = rw (p, q)

none_is : (a : Alarm) → is_none a ≡ true → a ≡ no_alarm
unfolding is_none
none_is a h = made_of (eqb-true _ 0 (and_l _ _ h)) (eqb-true _ 0 (and_r (eqb a.on 0) _ h))

module _ (m : List (List ℕ)) (h : sound_tool (handled_in m) ≡ true) where
  abbrev t : Tool
  t = tool_from (get_or m 0 [])

  abbrev pub used_in : List Alarm
  used_in = take t.used (alarms_from (own_in m))

  pub below_is : prediction.sound_tool (predicted_in m) ≡ true
  unfolding sound_tool
  below_is = and_l _ _ (and_l _ _ h)

  pub held : Held t
  held = predicted.held m below_is

  pub state_sound : sound (state_of (handled_in m)) ≡ true
  state_sound = tool_sound (handled_in m) h

  none_past : every is_none (drop t.used (alarms_from (own_in m))) ≡ true
  unfolding sound_tool
  none_past = and_r (prediction.sound_tool (predicted_in m)) _ (and_l _ _ h)

  pub none_after : alarms_from (own_in m) ≡ fill 4 no_alarm used_in
  none_after = tail_is is_none no_alarm none_is t.used (alarms_from (own_in m)) none_past ∙ ap (λ n. fill n no_alarm used_in) (alarms_long (own_in m))

  pub used_long : length used_in ≡ t.used
  used_long = let l = alarms_long (own_in m) in let f = held.few_ports in length-take-le t.used (alarms_from (own_in m)) (omega arith)

  pub ports_long : length (base_of (state_of (handled_in m))).ports ≡ t.used
  ports_long = used_held t held

  pub alarm_held : (p : ℕ) → get_or (alarms_from (own_in m)) (spot_of p) no_alarm ≡ alarm_of (state_of (handled_in m)) p
  unfolding alarm_of
  alarm_held p =
      let l = used_long in
      let f = held.few_ports in
      ap (λ l. get_or l (spot_of p) no_alarm) none_after ∙ getD_fill 4 no_alarm used_in (spot_of p) (omega arith)

  pub port_is : (p : ℕ) → port_at t p ≡ port_of (base_of (state_of (handled_in m))) p
  port_is p = port_held t held p

  -- a port that isn't the tool's has no alarm
  pub none_elsewhere : (p : ℕ) → t.used ≤ spot_of p → alarm_of (state_of (handled_in m)) p ≡ no_alarm
  unfolding alarm_of
  none_elsewhere p b = let l = used_long in get_or-eq_default used_in no_alarm (omega arith)

  -- a held port is loading with its alarm on
  pub held_is : (p : ℕ) → is_held (alarm_of (state_of (handled_in m)) p) ≡ true
      → (loading (port_of (base_of (state_of (handled_in m))) p) && is_on (alarm_of (state_of (handled_in m)) p)) ≡ true
  held_is p e = let w = held_loading (state_of (handled_in m)) state_sound p e in and_i w.still_loading w.alarm_on

  -- refused: the tool is as it was
  pub refused_is : (o : List ℕ) (r n : ℕ) → reports_from o ≡ no_reports → r ≡ n → left m o r ≡ refused (handled_in m) n
  refused_is o r n e f = rw (e, f)

  -- one of the tool's ports
  pub fits_is : (i : Input) (v w : ℕ) → v ≡ narrow i.port → w ≡ t.used
      → (leb 1 v && leb v w) ≡ (see (base_of (state_of (handled_in m))) i).isport
  unfolding see
  fits_is i v w e f = rw (e, f, ports_long)

  pub no_port_elsewhere : (p : ℕ) → t.used ≤ spot_of p → port_of (base_of (state_of (handled_in m))) p ≡ no_port
  unfolding port_of
  no_port_elsewhere p b = let l = ports_long in get_or-eq_default (base_of (state_of (handled_in m))).ports no_port (omega arith)
