use native.Mathlib.Omega.{arith}
use mathlib.Core.Path.{◌≡◌, sym, ◌∙◌}
use mathlib.Core.Bool.{false}
use mathlib.Core.List.{[]}
use lib.ListN.{length, get_or, take}
use lib.Seq.{length-take-le}
use lib.Dec.{eqb}
use borrow.Author.Tests.{ne_eqb}
use Rattle.rules.specs.State.{state_of}
use Rattle.rules.proofs.Holding.{count_held}
use Rattle.image.specs.Image.{tool_from}
use Rattle.times.specs.Bytes.{predictions_from}
use Rattle.times.specs.Tests.{sound_predictions}
use Rattle.times.proofs.Laid.{predictions_long}
use Rattle.times.proofs.Fitting.{none_fit}
use Rattle.times.proofs.sound.sound_predictions.Goals as goal

pub returns-else-places-eq0 : goal.returns-else-places-eq0
unfolding sound_predictions
returns-else-places-eq0 c =
    let t = tool_from (get_or c.args.m.now 0 []) in
    let p = predictions_from (get_or c.args.m.now 1 []) in
    let few = c.requires.few_carriers in
    let l = predictions_long (get_or c.args.m.now 1 []) in
    let n : length (take t.count p) ≡ t.count = length-take-le t.count p (omega arith) in
    let f : eqb t.places 0 ≡ false = ne_eqb t.places 0 (λ e. c.if-places-eq0.false (c.places.ensures ∙ e)) in
    c.none_after-else-places-eq0.ensures ∙ sym (none_fit (state_of t) t.count p f (count_held t c.requires ∙ sym n))
