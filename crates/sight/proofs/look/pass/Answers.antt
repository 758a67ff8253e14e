-- From the end: what the records that are passed show, with positions from the first of them.
use native.Mathlib.Omega.{arith}
use native.Mathlib.Nat.{zero-add, add-zero}
use Prim.Native.Nat.{◌≤◌, ◌<◌, ◌+◌, ◌-◌}
use mathlib.Core.Path.{◌≡◌, sym, ◌∙◌}
use lib.ListN.{get_or}
use Rattle.lists.specs.Lists.{where_is, how_many, any}
use Rattle.lists.proofs.Loops.{back_in, ended_in}
use Rattle.records.specs.Carriers.{no_carrier}
use Rattle.rules.specs.State.{state_of, record_at}
use Rattle.rules.specs.Seen.{name_stands, tie_stands, how_many_expected, spot_taken, some_open}
use Rattle.image.specs.Image.{tool_from}
use Rattle.image.proofs.Laid.{carriers_long, record_is}
use Rattle.sight.specs.Pass.{passed, found_in}
use Rattle.sight.proofs.Passing.{gathered_in, one_expected}
use Rattle.sight.proofs.look.pass.Goals as goal

pub loop-k-init : goal.loop-k-init
unfolding where_is how_many any
loop-k-init c =
    let m = c.args.m.now in
    let l = carriers_long m in
    let q : (tool_from m).count ≤ 36 = c.requires in
    let e = c.count.ensures in (
      q,
      omega (arith, c.from-n.ensures),
      omega (arith, c.from-n.ensures),
      rw (c.from-n.ensures, e, ended_in (tool_from m).carriers (tool_from m).count (omega arith), add-zero),
    )

pub loop-k-preserved : goal.loop-k-preserved
loop-k-preserved c =
    let a = c.args in
    let m = a.m.now in
    let t = tool_from m in
    let k = c.loop-k.k in
    let l = carriers_long m in
    let v = get_or t.carriers (k - 1) no_carrier in
    let r = c.carrier_from-c.ensures ∙ sym (record_is m (k - 1) no_carrier (omega arith)) in
    let e = back_in t.carriers t.count k no_carrier (omega arith) (omega arith) (omega arith) in
    let w = c.carrier_from-c.result in
    let x = c.loop-k.p in
    let y = c.gather-p.result in
    let g = c.gather-p.ensures in
    let one : y.expected ≤ 1 + x.expected = one_expected a.name a.port a.value (k - 1) w x y g in
    let h : 0 < k = omega arith in
    (omega arith, omega arith, omega arith, gathered_in a.name a.port a.value k w v x y _ _ h g c.loop-k.invariant.3 r e)

pub returns : goal.returns
unfolding found_in passed record_at name_stands tie_stands how_many_expected spot_taken some_open
returns c =
    let a = c.args in
    let z : c.loop-k.k ≡ 0 = omega arith in
    let q : c.loop-k.p ≡ passed (state_of (tool_from a.m.now)) a.name a.port a.value = c.loop-k.invariant.3 ∙ rw z (simp zero-add) in
    rw (c.record_at-2.ensures, c.record_at.ensures, q)
