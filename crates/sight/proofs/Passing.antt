-- What the pass has of the records from position k on, and one record more.
use Prim.Native.Nat.{ℕ, ◌+◌, ◌-◌, ◌≤◌, ◌<◌}
use mathlib.Core.Path.{◌≡◌, ap}
use mathlib.Core.List.{List, ◌∷◌}
use Rattle.lists.specs.Lists.{where_is, how_many, any}
use Rattle.lists.proofs.Loops.{nearer, one_more}
use Rattle.records.specs.declared.name.Name.{Name}
use Rattle.records.specs.declared.carrier.Carrier.{Carrier}
use Rattle.records.specs.Carriers.{expected, is_open}
use Rattle.rules.specs.Seen.{is_named, is_tied_to, is_in_spot}
use Rattle.sight.specs.declared.look.Passed.{Passed}
use Rattle.sight.specs.Pass.{gathered}

module _ (n : Name) (p b : ℕ) where
  abbrev pub passed_in : ℕ → List Carrier → Passed
  passed_in k l = record {
    stands = k + where_is (is_named n) l;
    holds = k + where_is (is_tied_to p) l;
    expected = how_many expected l;
    taken = any (is_in_spot b) l;
    busy = any is_open l;
  }

  pub gathered_in : (k : ℕ) (c v : Carrier) (x y : Passed) (l r : List Carrier) → 0 < k → y ≡ gathered n p b (k - 1) c x
      → x ≡ passed_in k r → c ≡ v → l ≡ v ∷ r → y ≡ passed_in (k - 1) l
  unfolding where_is how_many any
  gathered_in k c v x y l r h g e a d = rw (g, e, a, d, nearer (is_named n v) k _ h, nearer (is_tied_to p v) k _ h)

  pub one_expected : (k : ℕ) (c : Carrier) (x y : Passed) → y ≡ gathered n p b k c x → y.expected ≤ 1 + x.expected
  one_expected k c x y g = one_more (expected c) x.expected (ap (λ q. q.expected) g)
