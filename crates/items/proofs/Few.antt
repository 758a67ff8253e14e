-- At most 128 items begin.
use Prim.Native.Nat.{ℕ, zero, suc, ◌+◌, ◌≤◌, ◌<◌}
use native.Mathlib.Omega.{arith}
use mathlib.Core.Path.{refl}
use mathlib.Core.List.{List}
use lib.Dec.{eqb}
use borrow.Author.Tests.{eqb-true}
use Rattle.lists.proofs.Bools.{cond_ind}
use Rattle.items.specs.Tree.{Item}
use Rattle.items.specs.Heads.{head_at, is_list, refusal_of}
use Rattle.items.specs.Reading.{Reading, read_many, read_body, read_by, read_item, refused_at}
use Rattle.items.specs.declared.head.Head.{Head}
use Rattle.items.specs.declared.head.Span.{Span}
use Rattle.items.proofs.Refusals.{has_few}

-- what reads one item lets no more than 128 begin
abbrev Few : (ℕ → ℕ → Reading (Item Span)) → Type 0
Few f = (at count : ℕ) → count ≤ 128 → (f at count).count ≤ 128

module _ (f : ℕ → ℕ → Reading (Item Span)) (few : Few f) where
  many_few : (n at count : ℕ) → count ≤ 128 → (read_many f n at count).count ≤ 128
  unfolding read_many
  many_few zero at count h = h
  many_few (suc n) at count h =
      cond_ind (λ (r : Reading (List (Item Span))). r.count ≤ 128) (eqb (f at count).refusal 0)
      (λ q. many_few n (f at count).at (f at count).count (few at count h)) (λ q. few at count h)

  body_few : (h : Head) (count : ℕ) → count < 128 → (read_body f h count).count ≤ 128
  unfolding read_body
  body_few h count l =
      let k : count + 1 ≤ 128 = omega arith in
      cond_ind (λ (r : Reading (Item Span)). r.count ≤ 128) (is_list h) (λ q. many_few h.many h.body (count + 1) k) (λ q. k)

  by_few : (left : ℕ) (m : List ℕ) → Few (read_by f left m)
  unfolding read_by
  by_few left m at count h =
      cond_ind (λ (r : Reading (Item Span)). r.count ≤ 128) (eqb (refusal_of m at (head_at m at) left count) 0)
      (λ q. body_few (head_at m at) count (has_few m at (head_at m at) left count _ refl (eqb-true _ 0 q))) (λ q. h)

pub item_few : (left : ℕ) (m : List ℕ) → Few (read_item left m)
unfolding read_item
item_few zero m = by_few (refused_at 23) (λ at count h. h) zero m
item_few (suc left) m = by_few (read_item left m) (item_few left m) (suc left) m
