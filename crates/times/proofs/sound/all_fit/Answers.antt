use Rattle.std.proofs.Common.{rules, tests}
use native.Mathlib.Omega.{arith}
use mathlib.Core.Path.{refl, ◌∙◌}
use mathlib.Core.List.{[]}
use lib.ListN.{get_or}
use Rattle.std.proofs.lemmas.Iterator.{YieldsList-from_range}
use Rattle.std.proofs.lemmas.Iterator.Search.{all_from_yields_List}
use borrow.Author.Tests.{eq-eqb}
use Rattle.rules.specs.State.{record_at, state_of}
use Rattle.image.specs.Image.{tool_from}
use Rattle.image.proofs.Laid.{carriers_long}
use Rattle.prediction.specs.Predictions.{no_prediction}
use Rattle.prediction.specs.Sound.{fits}
use Rattle.times.specs.Bytes.{predictions_from}
use Rattle.times.proofs.Laid.{predictions_long}
use Rattle.times.proofs.Fitting.{each_on}
use Rattle.times.proofs.sound.all_fit.Goals as goal

pub returns : goal.returns
unfolding record_at
returns c =
    let a = c.args in
    let t = tool_from (get_or a.m.now 0 []) in
    let s = state_of t in
    let ps = predictions_from (get_or a.m.now 1 []) in
    let l = carriers_long (get_or a.m.now 0 []) in
    let j = predictions_long (get_or a.m.now 1 []) in
    all_from_yields_List (λ k. fits s (record_at t k) (get_or ps k no_prediction)) _ _ c.all.result c.all.ensures.ran (YieldsList-from_range 0 a.n a.n refl (omega arith)) (λ x b q k. search (rules, tests))
    ∙ each_on s (eq-eqb t.places 0 c.requires.m_value) (λ k. fits s (record_at t k) (get_or ps k no_prediction)) t.carriers ps a.n (omega arith) (omega arith) (λ k b. refl) 0 a.n (omega arith)
