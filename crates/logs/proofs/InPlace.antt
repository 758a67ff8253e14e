-- What the code's turns cite: the parts of a log by their positions.
use Prim.Native.Nat.{ℕ, suc, ◌+◌}
use native.Mathlib.Omega.{arith}
use native.Mathlib.Nat.{add-zero}
use mathlib.Core.Path.{◌≡◌, refl, sym, ap, ◌∙◌}
use mathlib.Core.Bool.{Bool, true, false, cond}
use mathlib.Core.List.{List, [], ◌∷◌}
use lib.ListN.{length, drop, drop_of_length-le}
use lib.Seq.{get_or-drop, drop-drop, drop-cons}
use lib.Dec.{leb}
use borrow.Author.Tests.{leb-true, leb-false}
use Rattle.lists.specs.Lists.{between}
use Rattle.image.specs.Image.{byte_at}
use Rattle.logs.specs.Layout.{Part, Reading, head, read_head, codes_size, on_name, input_size, report_size, reports_size, answer_size, entry_size}

-- ── The head ──
-- a part of the head at a position, where the reading of what follows says so
abbrev then_part : List ℕ → ℕ → Part → Reading → Reading
then_part m at p rest =
    cond (leb (length m) at) (record { refusal = 29; at = at })
    (cond (between p.least (byte_at m at) p.greatest) rest (record { refusal = p.refusal; at = at }))

-- the parts from a position on
parts_on : (m : List ℕ) (at : ℕ) (p : Part) (ps : List Part)
    → read_head (p ∷ ps) at (drop at m) ≡ then_part m at p (read_head ps (suc at) (drop (suc at) m))
unfolding read_head
parts_on m at p ps = go (leb (length m) at) refl
  where
    stop : Bool → Reading
    stop missing =
        cond missing (record { refusal = 29; at = at })
        (cond (between p.least (byte_at m at) p.greatest) (read_head ps (suc at) (drop (suc at) m))
        (record { refusal = p.refusal; at = at }))

    go : (b : Bool) → leb (length m) at ≡ b → read_head (p ∷ ps) at (drop at m) ≡ stop b
    go true q = rw (drop_of_length-le m (leb-true (length m) at q))
    go false q = rw (drop-cons m at 0 (leb-false (length m) at q))

-- one part after the other
abbrev in_turn : List ℕ → ℕ → List Part → Reading
in_turn m at [] = record { refusal = 0; at = at }
in_turn m at (p ∷ ps) = then_part m at p (in_turn m (suc at) ps)

all_parts : (m : List ℕ) (at : ℕ) (ps : List Part) → in_turn m at ps ≡ read_head ps at (drop at m)
unfolding read_head
all_parts m at [] = refl
all_parts m at (p ∷ ps) = ap (then_part m at p) (all_parts m (suc at) ps) ∙ sym (parts_on m at p ps)

pub head_is : (m : List ℕ) → read_head head 0 m ≡ in_turn m 0 head
head_is m = sym (all_parts m 0 head)

-- ── Sizes ──
module _ (m : List ℕ) (at : ℕ) where
  byte_there : (k : ℕ) → byte_at (drop at m) k ≡ byte_at m (at + k)
  byte_there k = get_or-drop at m k 0

  first_byte : byte_at (drop at m) 0 ≡ byte_at m at
  first_byte = byte_there 0 ∙ ap (byte_at m) (add-zero at)

  pub input_size_is : 4 + byte_at m (at + 3) + codes_size (byte_at m at) ≡ input_size (drop at m)
  unfolding input_size
  input_size_is = rw (byte_there 3, first_byte)

  pub report_named : on_name (byte_at m at) ≡ true → report_size (drop at m) ≡ 4 + byte_at m (at + 1)
  unfolding report_size
  report_named e = rw (byte_there 1, first_byte, e)

  pub report_unnamed : on_name (byte_at m at) ≡ false → report_size (drop at m) ≡ 4
  unfolding report_size
  report_unnamed e = rw (first_byte, e)

  -- one report more
  pub reports_on : (n s : ℕ) → s ≡ report_size (drop at m)
      → (at + s) + reports_size n (drop (at + s) m) ≡ at + reports_size (suc n) (drop at m)
  unfolding reports_size
  reports_on n s e = rw (sym e, drop-drop s at m) (omega arith)

  pub none_more : at ≡ at + reports_size 0 (drop at m)
  unfolding reports_size
  none_more = sym (add-zero at)

  pub entry_end_is : (s : ℕ) → s ≡ input_size (drop at m)
      → (at + s + 2) + reports_size (byte_at m (at + s + 1)) (drop (at + s + 2) m) ≡ at + entry_size (drop at m)
  unfolding entry_size answer_size
  entry_end_is s e =
      let z : at + (s + 1) ≡ at + s + 1 = omega arith in
      let y : at + (s + 2) ≡ at + s + 2 = omega arith in
      rw (sym e, get_or-drop s (drop at m) 1 0, get_or-drop at m (s + 1) 0, drop-drop 2 s (drop at m), drop-drop (s + 2) at m, z, y)
      (omega arith)
