-- the three sizes
use native.Mathlib.Omega.{arith}
use mathlib.Core.Path.{◌≡◌, sym, ◌∙◌}
use mathlib.Core.Bool.{true, false}
use Rattle.image.specs.Image.{byte_at}
use Rattle.image.proofs.Laid.{used_is, places_is, count_is}
use Rattle.soundness.proofs.Verdict.{sized, size_in, size_out, judged, refused}
use Rattle.soundness.proofs.whole.sound.Goals as goal

pub returns-then-count-le-COUNT_MOST : goal.returns-then-count-le-COUNT_MOST
returns-then-count-le-COUNT_MOST c =
    let m = c.args.m.now in
    let used : c.used-used.result ≡ byte_at m 0 = c.used-used.ensures ∙ used_is m in
    let places : c.places-places.result ≡ byte_at m 1 = c.places-places.ensures ∙ places_is m in
    let count : c.count-count.result ≡ byte_at m 2 = c.count-count.ensures ∙ count_is m in
    let size : sized (byte_at m 0) (byte_at m 1) (byte_at m 2) ≡ true = size_in (byte_at m 0) (byte_at m 1) (byte_at m 2) (omega arith) (omega arith) (omega arith) (omega arith) in
    rw (
      c.differ.ensures,
      c.seats.ensures,
      c.named.ensures,
      c.fields.ensures,
      c.ports.ensures,
      c.zeros-then-count-le-COUNT_MOST.ensures,
      c.zeros.ensures,
      c.from-n.ensures,
      c.from-p.ensures,
      used,
      places,
      count,
    )
    (judged m size)

pub returns-else-used-ge1 : goal.returns-else-used-ge1
returns-else-used-ge1 c =
    let m = c.args.m.now in
    let used : c.used-used.result ≡ byte_at m 0 = c.used-used.ensures ∙ used_is m in
    let places : c.places-places.result ≡ byte_at m 1 = c.places-places.ensures ∙ places_is m in
    let count : c.count-count.result ≡ byte_at m 2 = c.count-count.ensures ∙ count_is m in
    let size : sized (byte_at m 0) (byte_at m 1) (byte_at m 2) ≡ false = size_out (byte_at m 0) (byte_at m 1) (byte_at m 2) (λ p q r s. grind arith) in
    sym (refused m size)
