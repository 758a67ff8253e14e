use Rattle.std.proofs.Common.{rules}
use native.Mathlib.Omega.{arith}
use Prim.Native.Nat.{ℕ, ◌≤◌, ◌<◌}
use mathlib.Core.Path.{◌≡◌, ap, ap₂, sym, subst, ◌∙◌}
use mathlib.Core.Bool.{cond, not}
use mathlib.Core.List.{List, []}
use lib.ListN.{length, get_or, set}
use lib.Dec.{eqb}
use borrow.Author.Tests.{eq-eqb, ne_eqb}
use Rattle.records.specs.declared.name.Name.{Name}
use Rattle.records.specs.Names.{no_name}
use Rattle.rules.specs.State.{spot_of}
use Rattle.rules.specs.Reports.{report_if}
use Rattle.image.specs.Image.{tool_from}
use Rattle.parts.specs.Told.{note_all}
use Rattle.mapped.specs.Bytes.{own_in}
use Rattle.predicted.proofs.Movers.{own_then, base_then, kept_then}
use Rattle.hands.specs.declared.alarm.Alarm.{Alarm}
use Rattle.hands.specs.Alarms.{settled}
use Rattle.hands.specs.Outcome.{alarm_change}
use Rattle.handled.specs.Bytes.{alarms_from}
use Rattle.handled.specs.Settling.{settled_at}
use Rattle.handled.proofs.settle.settle_port.Goals as goal
use Rattle.handled.proofs.settle.settle_port.Goals.{then-port-p, else-port-p}

spot_fits : (p : ℕ) → 1 ≤ p → p ≤ 4 → spot_of p < 4
spot_fits p a b = rw (ne_eqb p 0 (λ z. omega arith)) (omega arith)

told_of : {x y u v : Alarm} {n : Name} (p : ℕ) → x ≡ u → y ≡ v → n ≡ no_name
    → report_if (not (eqb x.on y.on)) 9 p n x.on y.on ≡ alarm_change p u v
told_of p a b c = rw (a, b, c)

pub put_alarm-requires : goal.put_alarm-requires
put_alarm-requires c =
    subst (λ k. k < 4) (sym c.spot_of.ensures) (spot_fits c.args.p c.requires.le_p c.requires.p_bound)

pub returns : goal.returns
returns c =
    let two : 1 < length c.args.m.now =
    search rules in
    let m : List (List ℕ) =
    c.args.m.now in
    let chosen : c.if-port-p.mine ≡ cond (eqb c.args.port c.args.p) c.args.a c.alarm_at-old.result =
    elim c.if-port-p.branch [
      | then-port-p w ↦ w.mine-is ∙ rw (eq-eqb c.args.port c.args.p w.if-port-p.true)
      | else-port-p w ↦ w.mine-is ∙ rw (ne_eqb c.args.port c.args.p w.if-port-p.false)
    ] in
    let new_is : c.settled-new.result ≡ settled_at (tool_from (get_or m 0 [])) (alarms_from (own_in m)) c.args.port c.args.a c.args.p =
    c.settled-new.ensures
    ∙ ap₂ settled c.port_at-q.ensures (chosen ∙ ap (cond (eqb c.args.port c.args.p) c.args.a) c.alarm_at-old.ensures) in
    let w = c.put_alarm.new.m in
    let l = two in record { m_unchanged = base_then m w l; m_after = ap alarms_from (own_then m w l) ∙ c.put_alarm.ensures.m_after ∙ ap₂ (set (alarms_from (own_in m))) c.spot_of.ensures new_is; o_after = c.note_if.ensures ∙ ap (note_all _) (told_of c.args.p c.alarm_at-old.ensures new_is c.none.ensures); kept_outside = kept_then m w l c.put_alarm.ensures.kept_outside }
