-- those that are passed have another name
use Rattle.std.proofs.Common.{◌≡◌, ◌+◌, not, sym, ap, ◌∙◌, arith}
use Rattle.lists.proofs.Bools.{and_i}
use Rattle.rules.specs.Sound.{other_name}
use Rattle.image.specs.Image.{carrier_start}
use Rattle.passes.specs.Passes.{record_on, word}
use Rattle.passes.proofs.Turns.{every_none, every_next, failed}
use Rattle.passes.proofs.Marks.{names_apart, names_alike}
use Rattle.passes.proofs.names.alone.Goals as goal
use Rattle.passes.proofs.names.alone.Goals.{else-word-a-via-then-word-a+else-word-b, else-word-a-via-else-word-a}

pub loop-j-init : goal.loop-j-init
loop-j-init c = sym (every_none (λ x. other_name x (record_on c.args.m.now c.args.k)) (record_on c.args.m.now))

pub returns-then-word-b : goal.returns-then-word-b
unfolding other_name
returns-then-word-b c =
    let m = c.args.m.now in
    let k = c.args.k in
    let j = c.loop-j.j in
    let low : word m (carrier_start j) ≡ word m (carrier_start k) = cc in
    let high : word m (carrier_start j + 8) ≡ word m (carrier_start k + 8) = cc in
    failed (λ x. other_name x (record_on m k)) (record_on m) c.args.n j c.loop-j-test.true
    (ap not (names_alike m (carrier_start j) (carrier_start k) c.word.ensures.by_index c.word-then-word-a.ensures.by_index
    c.word-a.ensures.by_index c.word-b.ensures.by_index low high))

pub loop-j-preserved : goal.loop-j-preserved
unfolding other_name
loop-j-preserved c =
    let m = c.args.m.now in
    let k = c.args.k in
    let j = c.loop-j.j in
    every_next (λ x. other_name x (record_on m k)) (record_on m) j
    ∙ and_i (names_apart m (carrier_start j) (carrier_start k) (λ low high. elim c.else-word-a.branch [
      | else-word-a-via-then-word-a+else-word-b w ↦ w.if-word-b.false (w.word-then-word-a.ensures.value ∙ high ∙ sym c.word-b.ensures.value)
      | else-word-a-via-else-word-a w ↦ w.if-word-a.false (c.word.ensures.value ∙ low ∙ sym c.word-a.ensures.value)
    ])) c.loop-j.invariant

pub returns : goal.returns
returns c =
    let z : c.loop-j.j ≡ c.args.n = omega arith in
    sym (rw z at c.loop-j.invariant)
