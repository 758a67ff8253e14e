-- Names by their lengths: what the functions hand on.
use Prim.Native.Nat.{ℕ, ◌≤◌, ◌<◌}
use native.Mathlib.Omega.{arith}
use mathlib.Core.Path.{◌≡◌, refl}
use mathlib.Core.Logic.{◌≢◌}
use mathlib.Core.Bool.{Bool, true, false, cond}
use mathlib.Core.List.{List}
use lib.ListN.{length, take, length-take}
use lib.Dec.{leb}
use borrow.Author.Tests.{leb-true, le-leb, lt-leb}
use Rattle.lists.specs.Lists.{between}
use Rattle.lists.proofs.Bools.{and_l, and_r, cond_ind}
use Rattle.records.specs.Names.{is_name}
use Rattle.names.specs.Check.{remains, refused, name_length, shortened}
use Rattle.names.proofs.Remains.{remains_front}
use Rattle.names.proofs.Given.{refused_is, passed_name, seen_front}

module _ (text : List ℕ) where
  front_short : (l : List ℕ) → take (length l) text ≡ l → length l ≤ length text
  front_short l e = let k : length l ≡ length (take (length l) text) = rw e in let h = length-take (length l) text in omega arith

  pub remains_short : length (remains text) ≤ length text
  remains_short = front_short (remains text) (remains_front text)

  pub shortened_short : length (shortened text) ≤ length text
  shortened_short = front_short (shortened text) (seen_front text)

  -- ── The check ──
  pub too_long : 32 < length text → name_length text ≡ 0
  unfolding name_length
  too_long h = rw (refused_is text, lt-leb (length text) 32 h)

  module _ (h : length text ≤ 32) where
    pub is_name_fact : is_name (remains text) ≡ true → name_length text ≡ length (remains text)
    unfolding name_length
    is_name_fact e = rw (refused_is text, le-leb (length text) 32 h, e)

    pub is_none : is_name (remains text) ≡ false → name_length text ≡ 0
    unfolding name_length
    is_none e = rw (refused_is text, le-leb (length text) 32 h, e)

  -- a name is 1 to 16 bytes
  module _ (h : is_name (remains text) ≡ true) where
    some_left : 1 ≤ length (remains text)
    unfolding is_name
    some_left = leb-true 1 _ (and_l (leb 1 (length (remains text))) _ (and_l (between 1 (length (remains text)) 16) _ h))

    few_left : length (remains text) ≤ 16
    unfolding is_name
    few_left = leb-true _ 16 (and_r (leb 1 (length (remains text))) _ (and_l (between 1 (length (remains text)) 16) _ h))

  pub sixteen : name_length text ≤ 16
  unfolding name_length
  sixteen = cond_ind (λ n. n ≤ 16) (refused text) (λ e. omega arith) (λ e. few_left (passed_name text e))

  -- ── What rows see: all of the text, or its name ──
  pub seen_whole : name_length text ≡ 0 → length (shortened text) ≡ length text
  unfolding name_length shortened
  seen_whole = go (refused text) refl
    where
      go : (w : Bool) → refused text ≡ w → cond w 0 (length (remains text)) ≡ 0 → length (cond w text (remains text)) ≡ length text
      go true e z = refl
      go false e z = let h = some_left (passed_name text e) in absurd (omega arith)

  pub seen_short : name_length text ≢ 0 → length (shortened text) ≡ name_length text
  unfolding name_length shortened
  seen_short = go (refused text)
    where
      go : (w : Bool) → cond w 0 (length (remains text)) ≢ 0 → length (cond w text (remains text)) ≡ cond w 0 (length (remains text))
      go true n = absurd (n refl)
      go false n = refl
