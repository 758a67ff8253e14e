-- Where nothing is refused, none of the five applies.
use Prim.Native.Nat.{ℕ, zero, suc, ◌+◌, ◌≤◌, ◌<◌}
use native.Mathlib.Omega.{arith}
use mathlib.Core.Path.{◌≡◌, refl, sym, ◌∙◌}
use mathlib.Core.Bool.{Bool, true, false, ◌&&◌}
use mathlib.Core.List.{List}
use lib.ListN.{length}
use lib.Dec.{eqb, leb, ltb}
use borrow.Author.Tests.{leb-false, ltb-false, eqb-false}
use Rattle.lists.proofs.Bools.{clash, or_false_l, or_false_r}
use Rattle.std.specs.Prelude.{Result, Ok, Err}
use Rattle.std.specs.Result.{is_err}
use Rattle.records.specs.Refusals.{number, answer}
use Rattle.records.specs.declared.refusal.Refusal.{Refusal}
use Rattle.items.specs.Heads.{is_list, cut_short, unknown_code, bad_length, too_deep, too_many, lowest, refusal_of}
use Rattle.items.specs.declared.head.Head.{Head}

pub record NoneOf (cut unknown bad deep many : Bool) : Type 0 where
  pub whole : cut ≡ false
  pub known : unknown ≡ false
  pub even : bad ≡ false
  pub shallow : deep ≡ false
  pub few : many ≡ false

pub none_of : (a b c d e : Bool) → lowest a b c d e ≡ 0 → NoneOf a b c d e
unfolding lowest
none_of true b c d e h = absurd (eqb-false 20 0 refl h)
none_of false true c d e h = absurd (eqb-false 21 0 refl h)
none_of false false true d e h = absurd (eqb-false 22 0 refl h)
none_of false false false true e h = absurd (eqb-false 23 0 refl h)
none_of false false false false true h = absurd (eqb-false 24 0 refl h)
none_of false false false false false h = record { whole = refl; known = refl; even = refl; shallow = refl; few = refl }

abbrev pub Accepts : List ℕ → ℕ → Head → ℕ → ℕ → Type 0
Accepts m at h left count = NoneOf (cut_short m at h) (unknown_code h) (bad_length h) (too_deep left h) (too_many count)

module _ (m : List ℕ) (at : ℕ) (h : Head) (left count : ℕ) where
  pub accepts : refusal_of m at h left count ≡ 0 → Accepts m at h left count
  unfolding refusal_of
  accepts e = none_of (cut_short m at h) (unknown_code h) (bad_length h) (too_deep left h) (too_many count) e

  -- what is not cut short: the format byte, the length bytes, the data
  pub record Inside : Type 0 where
    pub format : at < length m
    pub lengths : h.body ≤ length m
    pub bytes : is_list h ≡ false → h.body + h.many ≤ length m

  pub inside : refusal_of m at h left count ≡ 0 → Inside
  inside e =
      let w = (accepts e).whole in
      let r = or_false_r (leb (length m) at) _ w in
      record {
        format = leb-false (length m) at (or_false_l _ _ w);
        lengths = ltb-false (length m) h.body (or_false_l _ _ r);
        bytes = λ l. ltb-false (length m) (h.body + h.many) (rw l at (or_false_r (ltb (length m) h.body) _ r));
      }

  pub has_few : (r : ℕ) → r ≡ refusal_of m at h left count → r ≡ 0 → count < 128
  has_few r q z = leb-false 128 count (accepts (sym q ∙ z)).few

  -- a list can be opened
  pub has_depth : (r : ℕ) → r ≡ refusal_of m at h left count → r ≡ 0 → is_list h ≡ true → 1 ≤ left
  has_depth r q z l = go (is_list h) left l (accepts (sym q ∙ z)).shallow
    where
      go : (b : Bool) (k : ℕ) → b ≡ true → (b && eqb k 0) ≡ false → 1 ≤ k
      go true zero e f = clash refl f
      go true (suc k) e f = omega arith
      go false k e f = clash e refl

-- ── What a test of an answer says of its number ──
pub numbered : (r : Refusal) → number r ≡ 0 → ⊥
numbered r z = grind arith

module _ (said : Result Unit Refusal) (b : Bool) (e : b ≡ is_err said) where
  pub refuses : b ≡ true → answer said ≡ 0 → ⊥
  refuses t = go said (sym e ∙ t)
    where
      go : (s : Result Unit Refusal) → is_err s ≡ true → answer s ≡ 0 → ⊥
      go (Ok u) t z = clash t refl
      go (Err r) t z = numbered r z

  pub passes : b ≡ false → said ≡ Ok tt
  passes t = go said (sym e ∙ t)
    where
      go : (s : Result Unit Refusal) → is_err s ≡ false → s ≡ Ok tt
      go (Ok tt) t = refl
      go (Err r) t = clash refl t
