-- A turn of the pass: the entry at a position is cut short, disagrees or agrees.
use Prim.Native.Nat.{ℕ, ◌+◌, ◌<◌, ◌≤◌}
use native.Mathlib.Omega.{arith}
use native.Mathlib.Numerals.{add-one}
use mathlib.Core.Path.{◌≡◌, sym, ap, ◌∙◌}
use mathlib.Core.Bool.{Bool, true, false}
use mathlib.Core.List.{List}
use lib.ListN.{length, drop, length-drop, drop_of_length-le}
use lib.Seq.{drop-drop}
use lib.Dec.{ltb}
use borrow.Author.Tests.{lt-ltb, le-ltb}
use Rattle.rules.specs.declared.report.Outcome.{Outcome}
use Rattle.logs.specs.Layout.{entry_size}
use Rattle.logs.specs.Judging.{ended, shows, judging}
use Rattle.logs.proofs.Turns.{given, file_ends, one_turn}

module _ (k at : ℕ) (o : Outcome) (m : List ℕ) where
  abbrev left : List ℕ
  left = drop at m

  pub no_more : length m ≤ at → ended 0 k at o ≡ judging k at o 0 left
  no_more h = sym (ap (judging k at o 0) (drop_of_length-le m h) ∙ file_ends k at o)

  module _ (end : ℕ) (e : end ≡ at + entry_size left) (some : at < length m) where
    is_some : 0 < length left
    is_some = let d = length-drop at m in omega arith

    pub cut_short : length m < end → ended 29 k at o ≡ judging k at o 0 left
    cut_short h =
        let d = length-drop at m in
        sym (one_turn k at o left is_some ∙ rw (lt-ltb (length left) (entry_size left) (omega arith)))

    -- what was given, and whether the entry shows it
    module _ (x : Outcome) (g : x ≡ given o left) (same : Bool) (q : same ≡ shows left (given o left)) (h : end ≤ length m) where
      whole : ltb (length left) (entry_size left) ≡ false
      whole = let d = length-drop at m in le-ltb (length left) (entry_size left) (omega arith)

      pub disagrees : same ≡ false → ended 1 k at x ≡ judging k at o 0 left
      disagrees f = ap (ended 1 k at) g ∙ sym (one_turn k at o left is_some ∙ rw (whole, sym q ∙ f))

      pub agrees : same ≡ true → judging (k + 1) end x 0 (drop end m) ≡ judging k at o 0 left
      agrees t =
          rw (g, add-one k) (sym (one_turn k at o left is_some ∙ rw (whole, sym q ∙ t, drop-drop (entry_size left) at m, sym e)))
