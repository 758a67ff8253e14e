-- where the answer stands
use Prim.Native.Nat.{◌+◌}
use mathlib.Core.Path.{ap}
use Rattle.judge.proofs.Stepped.{in_order, shown_is}
use Rattle.judge.proofs.entry.shows.Goals as goal

pub slice_bounds-is_shown-count : goal.slice_bounds-is_shown-count
slice_bounds-is_shown-count c =
    let a = c.args in
    in_order a.log.now a.at (a.at + c.input_size.result) a.end (ap (λ n. a.at + n) c.input_size.ensures.value) c.requires.end_value

pub slice_bounds-is_shown-start : goal.slice_bounds-is_shown-start
slice_bounds-is_shown-start c =
    let a = c.args in
    in_order a.log.now a.at (a.at + c.input_size.result) a.end (ap (λ n. a.at + n) c.input_size.ensures.value) c.requires.end_value

pub returns : goal.returns
returns c =
    let a = c.args in
    shown_is a.log.now a.at (a.at + c.input_size.result) a.end (ap (λ n. a.at + n) c.input_size.ensures.value) c.requires.end_value
    _ _ c.is_shown.ensures
