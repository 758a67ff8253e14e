-- Byte by byte: what remains of the bytes that were passed is their front, of bytes that a name may have, and blanks alone follow it.
use borrow.Author.Tests.{eq-eqb, ne_eqb}
use native.Mathlib.Omega.{arith}
use Prim.Native.Nat.{ℕ, ◌+◌, ◌≤◌, ◌<◌}
use mathlib.Core.Path.{◌≡◌, sym, subst, ◌∙◌}
use mathlib.Core.List.{List}
use lib.ListN.{length, get_or}
use Rattle.lists.proofs.Bools.{not_true, not_false}
use Rattle.names.proofs.Lengths.{too_long}
use Rattle.names.proofs.Pass.{Passed, none_passed, blank_passed, byte_passed, strange, blank_elsewhere, byte_of_none}
use Rattle.names.proofs.Pass.{none_at_end, name_at_end}
use Rattle.names.proofs.check.name_length.Goals.{then-byte-ne-BLANK+else-left-i+else-byte, else-byte-ne-BLANK}
use Rattle.names.proofs.check.name_length.Goals as goal

-- the loop ends where all is passed
all_passed : (text : List ℕ) {r : ℕ} (i : ℕ) → length text ≤ i → (i ≤ length text) × Passed text r i → Passed text r (length text)
all_passed text {r} i h p = let b = p.0 in let e : i ≡ length text = omega arith in subst (Passed text r) e p.1

pub returns-then-text-gt-TEXT_MOST : goal.returns-then-text-gt-TEXT_MOST
returns-then-text-gt-TEXT_MOST c = sym (too_long c.args.text.now (omega arith))

pub loop-i-init : goal.loop-i-init
loop-i-init c = (omega arith, none_passed c.args.text.now)

pub returns-then-left-i : goal.returns-then-left-i
returns-then-left-i c =
    let text = c.args.text.now in
    let p = c.loop-i.invariant in
    let e = ne_eqb _ 0x20 c.if-byte-ne-BLANK.true in
    blank_elsewhere text (omega arith) c.loop-i.left c.loop-i.i p.1 c.if-left-i.true (omega arith) e

pub returns-then-byte : goal.returns-then-byte
returns-then-byte c =
    let text = c.args.text.now in
    let byte = get_or text c.loop-i.i 0 in
    let e = ne_eqb byte 0x20 c.if-byte-ne-BLANK.true in
    byte_of_none text (omega arith) c.loop-i.i (omega arith) e (not_true _ (sym (strange byte) ∙ c.if-byte.true))

pub loop-i-preserved : goal.loop-i-preserved
loop-i-preserved c =
    let text = c.args.text.now in
    let i = c.loop-i.i in
    let byte = get_or text i 0 in
    let l : i < length text = omega arith in
    let r = c.loop-i.left in
    let p = c.loop-i.invariant.1 in (
      omega arith,
      elim c.if-byte-ne-BLANK.branch [
        | then-byte-ne-BLANK+else-left-i+else-byte w ↦
            let h = p.within in
            let z : r ≡ i = omega (arith, w.if-left-i.false) in
            let g = not_false _ (sym (strange byte) ∙ w.if-byte.false) in
            subst (λ k. Passed text k (i + 1)) (sym w.left-is) (byte_passed text i l (subst (λ k. Passed text k i) z p) g)
        | else-byte-ne-BLANK w ↦
            subst (λ k. Passed text k (i + 1)) (sym w.left-is) (blank_passed text i l r p (eq-eqb byte 0x20 w.if-byte-ne-BLANK.false))
      ],
    )

pub returns-then-refused : goal.returns-then-refused
returns-then-refused c =
    let text = c.args.text.now in
    none_at_end text (omega arith) c.loop-i.left (all_passed text _ (omega arith) c.loop-i.invariant) c.if-refused.true

pub returns-else-refused : goal.returns-else-refused
returns-else-refused c =
    let text = c.args.text.now in
    name_at_end text (omega arith) c.loop-i.left (all_passed text _ (omega arith) c.loop-i.invariant) c.if-refused.false
