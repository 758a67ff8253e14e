-- A name in sixteen bytes is the name of these bytes.
use Prim.Native.Nat.{ℕ, zero, suc}
use native.Mathlib.Omega.{arith}
use mathlib.Core.Path.{◌≡◌, refl, ap}
use mathlib.Core.List.{List, [], ◌∷◌}
use lib.ListN.{length}
use Rattle.lists.specs.Lists.{fill}
use Rattle.records.specs.declared.name.Name.{Name}
use Rattle.records.specs.Names.{in_bytes}

fill_all : (l : List ℕ) (n : ℕ) → length l ≡ n → fill n 0 l ≡ l
unfolding fill
fill_all [] zero e = refl
fill_all [] (suc n) e = absurd (omega arith)
fill_all (x ∷ l) zero e = absurd (omega arith)
fill_all (x ∷ l) (suc n) e = ap (λ t. x ∷ t) (fill_all l n (omega arith))

pub name_stays : (n : Name) → length n.bytes ≡ 16 → in_bytes n.bytes ≡ n
unfolding in_bytes
name_stays n e = rw (fill_all n.bytes 16 e)
