use native.Mathlib.Omega.{arith}
use Prim.Native.Nat.{◌≤◌}
use mathlib.Core.Path.{sym, ap, ◌∙◌}
use Rattle.rules.specs.Held.{Held}
use Rattle.image.specs.Image.{tool_from}
use Rattle.mapped.specs.Bytes.{own_in}
use mathlib.Core.List.{[]}
use lib.ListN.{get_or}
use Rattle.tool.proofs.Tested.{held_when, maps_tested_of, base_unsound, whole_tested}
use Rattle.tool.proofs.whole.whole_sound.Goals as goal

pub sound_maps-maps-requires : goal.sound_maps-maps-requires
sound_maps-maps-requires c =
    let held = held_when c.args.m.now (sym c.sound.ensures ∙ c.if-not-sound.false) in
    let e = c.count.ensures in
    let f = held.few_carriers in
    omega arith

pub sound_queue-queue-requires : goal.sound_queue-queue-requires
sound_queue-queue-requires c = held_when c.args.m.now (sym c.sound.ensures ∙ c.if-not-sound.false)

pub sound_predictions-predictions-requires : goal.sound_predictions-predictions-requires
sound_predictions-predictions-requires c = held_when c.args.m.now (sym c.sound.ensures ∙ c.if-not-sound.false)

pub returns-then-not-sound : goal.returns-then-not-sound
returns-then-not-sound c = base_unsound c.args.m.now (sym c.sound.ensures ∙ c.if-not-sound.true)

pub returns : goal.returns
returns c =
    let m = c.args.m.now in
    let e = maps_tested_of m (sym c.sound.ensures ∙ c.if-not-sound.false) _ (c.from.ensures ∙ c.count.ensures) _ c.sound_maps-maps.ensures in
    rw c.zeros.ensures (whole_tested m _ _ _ _ _ e c.sound_queue-queue.ensures c.sound_times-times.ensures c.sound_predictions-predictions.ensures c.sound_alarms-alarms.ensures)
