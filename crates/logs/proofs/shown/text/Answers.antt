use Rattle.std.proofs.Common.{rules, tests, refl, ◌∙◌, ◌+◌, ◌-◌, eqb, ap, get_or, take, drop, arith, length-drop}
use lib.Seq.{take_all, length-take-le}
use Rattle.std.specs.List.{position}
use Rattle.std.specs.Option.{unwrap_or}
use Rattle.lists.proofs.Ranges.{position_answered}
use Rattle.logs.proofs.Texts.{text_is}
use Rattle.logs.proofs.shown.text.Goals as goal

pub returns : goal.returns
returns c =
    let o = c.args.o.now in
    let from = c.args.from in
    let d = length-drop from o in
    let bytes = take (from + 16 - from) (drop from o) in
    let long = length-take-le (from + 16 - from) (drop from o) (omega arith) in
    let found = position_answered c.position.result (λ b. eqb b 0) (λ i. eqb (get_or bytes i 0) 0) bytes 0 16 refl (omega arith) (λ k b. refl) c.position.ensures.ran
    (λ x b q e. search (rules, tests))
    ∙ ap (position (λ b. eqb b 0)) (take_all 16 bytes (omega arith)) in
    let r = text_is o from (omega arith) (from + 16 - from) c.unwrap_or-n.result (omega arith) (c.unwrap_or-n.ensures ∙ ap (λ x. unwrap_or x 16) found) in
    record { value = r.0; upper_bound = r.1 }
