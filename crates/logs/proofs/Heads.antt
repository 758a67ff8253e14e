-- The head: what its reading says, byte by byte.
use Prim.Native.Nat.{ℕ, zero, suc, ◌+◌, ◌≤◌, ◌<◌, suc-le-suc}
use native.Mathlib.Nat.{add-zero, le_of_suc-le-suc}
use native.Mathlib.Omega.{arith}
use mathlib.Core.Path.{◌≡◌, refl, sym, ap}
use mathlib.Core.Bool.{Bool, true, false, cond, ◌&&◌}
use mathlib.Core.List.{List, [], ◌∷◌, ◌++◌}
use lib.ListN.{length, get_or, drop}
use lib.Dec.{leb}
use borrow.Author.Tests.{leb-true, le-leb}
use Rattle.lists.specs.Lists.{between}
use Rattle.lists.proofs.Bools.{and_l, and_r}
use Rattle.rules.specs.declared.tool.Setup.{Setup}
use Rattle.rules.specs.State.{in_tool, no_tool, start, set_up}
use Rattle.image.specs.Image.{byte_at}
use Rattle.logs.specs.Layout.{Part, Reading, exactly, head, read_head}
use Rattle.logs.specs.Written.{head_of}

abbrev pub good_in : Part → ℕ → Bool
good_in p b = between p.least b p.greatest

-- the part at a position
abbrev pub part_at : List Part → ℕ → Part
part_at ps k = get_or ps k (exactly 0)

-- the bytes before k are good
abbrev pub Good : List Part → List ℕ → ℕ → Type 0
Good ps m k = (j : ℕ) → j < k → good_in (part_at ps j) (byte_at m j) ≡ true

-- All of the head is there and good; or the byte at k is wrong; or the file ends at k.
pub data HeadRead (ps : List Part) (m : List ℕ) (at : ℕ) (s : Reading) : Type 0 where
  good : length ps ≤ length m → Good ps m (length ps) → s.refusal ≡ 0 → HeadRead ps m at s
  wrong : (k : ℕ) → s.at ≡ at + k → k < length ps → k < length m → Good ps m k → good_in (part_at ps k) (byte_at m k) ≡ false
      → s.refusal ≡ (part_at ps k).refusal → HeadRead ps m at s
  short : (k : ℕ) → s.at ≡ at + k → k < length ps → length m ≡ k → Good ps m k → s.refusal ≡ 29 → HeadRead ps m at s

none_yet : (ps : List Part) (m : List ℕ) → Good ps m 0
none_yet ps m j h = absurd (omega arith)

one_more : (p : Part) (ps : List Part) (b : ℕ) (m : List ℕ) (k : ℕ) → good_in p b ≡ true → Good ps m k → Good (p ∷ ps) (b ∷ m) (suc k)
one_more p ps b m k g h zero l = g
one_more p ps b m k g h (suc j) l = h j (le_of_suc-le-suc l)

later : (p : Part) (ps : List Part) (b : ℕ) (m : List ℕ) (at : ℕ) (s : Reading) → good_in p b ≡ true → HeadRead ps m (suc at) s
    → HeadRead (p ∷ ps) (b ∷ m) at s
later p ps b m at s g (good l a z) = good (suc-le-suc l) (one_more p ps b m (length ps) g a) z
later p ps b m at s g (wrong k w l n a f r) =
    wrong (suc k) (omega arith) (suc-le-suc l) (suc-le-suc n) (one_more p ps b m k g a) f r
later p ps b m at s g (short k w l e a r) = short (suc k) (omega arith) (suc-le-suc l) (ap suc e) (one_more p ps b m k g a) r

pub head_read : (ps : List Part) (m : List ℕ) (at : ℕ) → HeadRead ps m at (read_head ps at m)
unfolding read_head
head_read [] m at = good (omega arith) (none_yet [] m) refl
head_read (p ∷ ps) [] at = short 0 (sym (add-zero at)) (omega arith) refl (none_yet (p ∷ ps) []) refl
head_read (p ∷ ps) (b ∷ m) at = go (good_in p b) refl (head_read ps m (suc at))
  where
    go : (t : Bool) → good_in p b ≡ t → HeadRead ps m (suc at) (read_head ps (suc at) m)
        → HeadRead (p ∷ ps) (b ∷ m) at (cond t (read_head ps (suc at) m) (record { refusal = p.refusal; at = at }))
    go true q h = later p ps b m at _ q h
    go false q h = wrong 0 (sym (add-zero at)) (omega arith) (omega arith) (none_yet (p ∷ ps) (b ∷ m)) q refl

-- ── A good head ──
exact : (a b : ℕ) → good_in (exactly a) b ≡ true → b ≡ a
exact a b g = let l = leb-true a b (and_l _ _ g) in let h = leb-true b a (and_r (leb a b) _ g) in omega arith

-- the mark, the version, and a set-up that document 01 accepts
pub record GoodHead (m : List ℕ) : Type 0 where
  pub long : 7 ≤ length m
  pub bytes : m ≡ head_of (byte_at m 5) (byte_at m 6) ++ drop 7 m
  pub accepted : (set_up (byte_at m 5) (byte_at m 6)).answer ≡ 0

pub good_head : (m : List ℕ) → 7 ≤ length m → Good head m 7 → GoodHead m
unfolding set_up
good_head [] l g = absurd (omega arith)
good_head (a ∷ []) l g = absurd (omega arith)
good_head (a ∷ b ∷ []) l g = absurd (omega arith)
good_head (a ∷ b ∷ c ∷ []) l g = absurd (omega arith)
good_head (a ∷ b ∷ c ∷ d ∷ []) l g = absurd (omega arith)
good_head (a ∷ b ∷ c ∷ d ∷ e ∷ []) l g = absurd (omega arith)
good_head (a ∷ b ∷ c ∷ d ∷ e ∷ P ∷ []) l g = absurd (omega arith)
good_head (a ∷ b ∷ c ∷ d ∷ e ∷ P ∷ B ∷ x) l g = record {
  long = l;
  bytes =
      rw (
        exact 0x43 a (g 0 (omega arith)),
        exact 0x4D b (g 1 (omega arith)),
        exact 0x54 c (g 2 (omega arith)),
        exact 0 d (g 3 (omega arith)),
        exact 1 e (g 4 (omega arith)),
      );
  accepted = rw (g 5 (omega arith), and_r (leb 0 B) _ (g 6 (omega arith)));
}

-- every part is refused with a number
refuses : (k : ℕ) → k < 7 → 27 ≤ (part_at head k).refusal
refuses zero h = omega arith
refuses (suc zero) h = omega arith
refuses (suc (suc zero)) h = omega arith
refuses (suc (suc (suc zero))) h = omega arith
refuses (suc (suc (suc (suc zero)))) h = omega arith
refuses (suc (suc (suc (suc (suc zero))))) h = omega arith
refuses (suc (suc (suc (suc (suc (suc zero)))))) h = omega arith
refuses (suc (suc (suc (suc (suc (suc (suc k))))))) h = absurd (omega arith)

-- so is a head that is refused
pub refused_from : (m : List ℕ) → ((read_head head 0 m).refusal ≡ 0 → ⊥) → 27 ≤ (read_head head 0 m).refusal
refused_from m = go (head_read head m 0)
  where
    go : HeadRead head m 0 (read_head head 0 m) → ((read_head head 0 m).refusal ≡ 0 → ⊥) → 27 ≤ (read_head head 0 m).refusal
    go (good l g z) n = absurd (n z)
    go (wrong k w l x a f r) n = let h = refuses k l in omega arith
    go (short k w l e a r) n = omega arith

pub not_refused : (m : List ℕ) → (read_head head 0 m).refusal ≡ 0 → GoodHead m
not_refused m = go (head_read head m 0)
  where
    go : HeadRead head m 0 (read_head head 0 m) → (read_head head 0 m).refusal ≡ 0 → GoodHead m
    go (good l g z) e = good_head m l g
    go (wrong k w l n a f r) e = let h = refuses k l in absurd (omega arith)
    go (short k w l n a r) e = absurd (omega arith)

-- a set-up that document 01 accepts is in range
in_range_fact : (P B : ℕ) → (set_up P B).answer ≡ 0 → (between 1 P 4 && leb B 16) ≡ true
unfolding set_up
in_range_fact P B = go (between 1 P 4 && leb B 16)
  where
    given : Bool → Setup
    given w = cond w (record { tool = in_tool (start P B); answer = 0 }) (record { tool = no_tool; answer = 1 })

    go : (w : Bool) → (given w).answer ≡ 0 → w ≡ true
    go true z = refl
    go false z = absurd (omega arith)

-- read as it was written
pub head_back : (P B : ℕ) (x : List ℕ) → (set_up P B).answer ≡ 0 → (read_head head 0 (head_of P B ++ x)).refusal ≡ 0
unfolding read_head
head_back P B x z =
    let r = in_range_fact P B z in
    rw (and_l (between 1 P 4) _ r, le-leb 0 B (omega arith), and_r (between 1 P 4) _ r)
