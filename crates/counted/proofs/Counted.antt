-- After every run of the whole machine from every valid set-up the pods that are here came in and didn't go out.
use Prim.Native.Nat.{ℕ, ◌+◌, ◌≤◌}
use native.Mathlib.Omega.{arith}
use mathlib.Core.Path.{◌≡◌, refl, ap, sym, ◌∙◌}
use mathlib.Core.Bool.{Bool, true, false, not, ◌&&◌}
use mathlib.Core.List.{List, [], ◌∷◌, ◌++◌}
use lib.Dec.{eqb}
use borrow.Author.Tests.{eqb-true, ne_eqb}
use Rattle.lists.specs.Lists.{how_many}
use Rattle.rules.specs.Seen.{narrow}
use Rattle.wafers.specs.Outcome.{Brought}
use Rattle.hands.specs.State.{Handled, start}
use Rattle.hands.specs.Outcome.{answer_in, reached}
use Rattle.tally.specs.Count as tally
use Rattle.tally.proofs.Lists.{one}
use Rattle.counted.specs.Count.{entries, violating, loaded, continued, came_in, Counted, Told}
use Rattle.counted.proofs.Gathered.{gathered, taken, came_taken}
use Rattle.counted.proofs.Lowered.{took, holds, keeps_or, kept, mode_kept, count_kept, mode_log, went_log}
use Rattle.counted.proofs.Held.{held_log, held_after}

-- a LoadDone that isn't held
not_held : (b v : Bool) → (b ≡ true → v ≡ false) → (b && not v) ≡ b
not_held true v f = rw (f refl)
not_held false v f = refl

module _ (P B setting timeout : ℕ) (lo : 1 ≤ P) (hi : P ≤ 4) (few : B ≤ 16) where
  abbrev begin : Handled
  begin = start P B setting timeout

  held_is : (i : Brought) (earlier : List Brought) → eqb (answer_in (reached begin earlier) i) 0 ≡ true → i.timed.input.number ≡ 14
      → violating (narrow i.timed.input.port) (entries begin earlier) ≡ holds (reached begin earlier) i
  held_is i earlier a e = sym (held_log P B setting timeout lo hi few i earlier (eqb-true _ 0 a) e)

  came : (run : List Brought) → came_in (entries begin run) ≡ tally.came_in (kept begin run)
  unfolding entries gathered loaded continued tally.came_in how_many took taken
  came [] = refl
  came (i ∷ earlier) =
      let s = reached begin earlier in
      let n = i.timed.input.number in
      let v = violating (narrow i.timed.input.port) (entries begin earlier) in
      let r = came earlier in
      keeps_or s i
      (λ l. one ((eqb (answer_in s i) 0 && eqb n 14) && not v) + loaded (entries begin earlier)
      + (one (eqb (answer_in s i) 0 && eqb n 36) + continued (entries begin earlier))
      ≡ tally.came_in (l ++ kept begin earlier))
      (record {
        refused = λ a. rw a (omega arith);
        held = λ a e h. rw (a, ap (λ k. eqb k 14) e, ap (λ k. eqb k 36) e, held_is i earlier a e ∙ h) (omega arith);
        continues = λ a e. rw (a, ap (λ k. eqb k 14) e, ap (λ k. eqb k 36) e) (omega arith);
        itself = λ a d h.
            let f = not_held (eqb n 14) v (λ e. held_is i earlier a (eqb-true n 14 e) ∙ h (eqb-true n 14 e)) in
            let t = came_taken i.timed.input (kept begin earlier) true in
            rw (a, ne_eqb n 36 d, f, t) (omega arith);
      })

  pub counted : (run : List Brought) → Counted P B setting timeout run
  counted run =
      let c = came run in
      let w = went_log begin run in
      let k = count_kept P B setting timeout lo hi few run in
      record { all = omega arith; less = omega arith }

  pub told : (run : List Brought) → Told P B setting timeout run
  told run = record {
    mode = λ p. mode_kept P B setting timeout lo hi few run p ∙ sym (mode_log begin p run);
    held = λ i a n. held_after P B setting timeout lo hi few i run a n;
  }
