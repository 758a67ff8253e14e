-- the names that are passed differ, and each has left its mark
use Rattle.std.proofs.Common.{◌≡◌, Bool, ◌&&◌, sym, ap, ◌∙◌, ap₂, arith}
use Rattle.lists.specs.Lists.{every}
use Rattle.records.specs.declared.carrier.Carrier.{Carrier}
use Rattle.rules.specs.Sound.{other_name}
use Rattle.image.specs.Image.{table}
use Rattle.passes.specs.Passes.{record_on, mark_key, latest}
use Rattle.passes.proofs.Turns.{every_none, two_none, two_next}
use Rattle.passes.proofs.Latest.{marked_none, marked_more, latest_low, left_at}
use Rattle.passes.proofs.Marks.{marked_enough}
use Rattle.passes.proofs.names.differ.Goals as goal
use Rattle.passes.proofs.names.differ.Goals.{then-before-gt0, else-before-gt0}

pub loop-k-init : goal.loop-k-init
loop-k-init c =
    let m = c.args.m.now in
    (marked_none (mark_key m) 1024, two_none other_name (record_on m))

pub alone-ok-requires : goal.alone-ok-requires
alone-ok-requires c =
    let m = c.args.m.now in
    let k = c.loop-k.k in
    let l = latest_low (mark_key m) c.mark-h.result k in
    let r = left_at (mark_key m) 1024 k c.mark-h.result c.loop-k.marks c.loop-k.invariant.0 c.mark-h.ensures.upper_bound in
    record { k_bound = omega arith; n_bound = omega arith }

pub loop-k-preserved : goal.loop-k-preserved
loop-k-preserved c =
    let m = c.args.m.now in
    let k = c.loop-k.k in
    let h = c.mark-h.result in
    let F : Carrier → Bool = λ x. other_name x (record_on m k) in
    let b : c.from-before.result ≡ latest (mark_key m) (mark_key m k) k = c.from-before.ensures
    ∙ left_at (mark_key m) 1024 k h c.loop-k.marks c.loop-k.invariant.0 c.mark-h.ensures.upper_bound
    ∙ ap (λ v. latest (mark_key m) v k) c.mark-h.ensures.value in
    let e = ap (λ j. every F (table j (record_on m))) b ∙ marked_enough m k in
    let t = two_next other_name (record_on m) k in (
      rw (c.mark-h.ensures.value, c.loop-k.invariant.0) (marked_more (mark_key m) 1024 k),
      elim c.if-before-gt0.branch [
        | then-before-gt0 w ↦ w.ok-is ∙ ap₂ ◌&&◌ (w.alone-ok.ensures ∙ e) c.loop-k.invariant.1 ∙ sym t
        | else-before-gt0 w ↦ let z : 0 ≡ c.from-before.result = omega (arith, w.if-before-gt0.false) in
            w.ok-is ∙ ap₂ ◌&&◌ (every_none F (record_on m) ∙ ap (λ j. every F (table j (record_on m))) z ∙ e) c.loop-k.invariant.1 ∙ sym t
      ],
    )

pub returns : goal.returns
returns c =
    let z : c.loop-k.k ≡ c.args.n = omega arith in
    rw z at c.loop-k.invariant.1
