-- the input lies within the log
use native.Mathlib.Omega.{arith}
use Prim.Native.Nat.{◌+◌, ◌≤◌}
use mathlib.Core.Path.{ap, ◌∙◌}
use lib.ListN.{length, drop}
use Rattle.rules.specs.Outcome.{outcome}
use Rattle.image.specs.Image.{tool_from}
use Rattle.logs.specs.Layout.{input_size}
use Rattle.judge.proofs.Stepped.{input_there, answer_there, given_is}
use Rattle.judge.proofs.entry.step_entry.Goals as goal

pub slice_bounds-input-end : goal.slice_bounds-input-end
slice_bounds-input-end c = let h = (let h : let a = c.args in a.at + 4 + c.byte.result + c.codes_size.result ≤ length a.log.now = let a = c.args in
    let e = answer_there a.log.now a.at c.byte-number.result c.byte.result c.codes_size.result c.byte-number.ensures.value
    c.byte.ensures.value c.codes_size.ensures.value in
    let h : a.at + input_size (drop a.at a.log.now) ≤ length a.log.now = c.requires.log_in_bounds in
    omega arith in h) in omega arith

pub slice_bounds-input-end-2 : goal.slice_bounds-input-end-2
slice_bounds-input-end-2 c = let h = (let h : let a = c.args in a.at + 4 + c.byte.result + c.codes_size.result ≤ length a.log.now = let a = c.args in
    let e = answer_there a.log.now a.at c.byte-number.result c.byte.result c.codes_size.result c.byte-number.ensures.value
    c.byte.ensures.value c.codes_size.ensures.value in
    let h : a.at + input_size (drop a.at a.log.now) ≤ length a.log.now = c.requires.log_in_bounds in
    omega arith in h) in omega arith

pub returns : goal.returns
returns c =
    let a = c.args in
    let e = c.step_sound.ensures in
    let i = input_there a.log.now a.at c.byte-number.result c.byte.result c.codes_size.result c.byte-number.ensures.value
    c.byte.ensures.value c.codes_size.ensures.value c.byte-port.result c.byte-value.result c.byte-port.ensures.value
    c.byte-value.ensures.value in
    given_is (tool_from a.tool.now) _ c.requires.tool_value _ _ _ e.m_after e.o_after (c.answer.ensures ∙ e.value) ∙ ap (outcome (tool_from a.tool.now)) i
