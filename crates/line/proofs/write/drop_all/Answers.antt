-- From the end: of the requests that are passed those are left that are started.
use native.Mathlib.Omega.{arith}
use Prim.Native.Nat.{ℕ, suc, ◌≤◌, ◌<◌, ◌-◌}
use mathlib.Core.Path.{◌≡◌, ap, sym, ◌∙◌}
use mathlib.Core.Bool.{cond}
use mathlib.Core.List.{List}
use lib.ListN.{length, get_or, take}
use lib.Seq.{length-take-le}
use Rattle.lists.specs.Lists.{fill, shifted}
use Rattle.follow.proofs.Entries.{kept_all, kept_twice}
use Rattle.queue.specs.declared.request.Request.{Request}
use Rattle.queue.specs.Requests.{no_request, is_started}
use Rattle.line.specs.Bytes.{queue_from}
use Rattle.line.proofs.Laid.{queue_long}
use Rattle.line.proofs.Left.{left_of, here_is, left_next, count_next, some_left, left_all}
use Rattle.line.proofs.write.drop_all.Goals as goal

pub loop-k-init : goal.loop-k-init
loop-k-init c =
    let m = c.args.m.now in
    let l = take c.args.n (queue_from m) in
    let e : length l ≡ c.args.n = let q = queue_long m in let p = c.requires.n_bound in length-take-le c.args.n (queue_from m) (omega arith) in
    let a : left_of l c.args.n ≡ l = ap (left_of l) (sym e) ∙ left_all l in
    (c.requires.n_bound, omega arith, rw a (sym e), rw a c.requires.m_value, kept_all _ _ _)

-- one turn, of the request before position k
module _ (q r : List Request) (n k left : ℕ) (few : n ≤ 16) (long : length q ≡ 16) (h : 0 < k) (b : k ≤ n)
    (counted : left ≡ length (left_of (take n q) k)) (laid : r ≡ fill 16 no_request (left_of (take n q) k)) where
  abbrev l : List Request
  l = take n q

  used : length l ≡ n
  used = length-take-le n q (omega arith)

  fits : length l ≤ 16
  fits = let e = used in omega arith

  inside : k - 1 < length l
  inside = let e = used in omega arith

  same : suc (k - 1) ≡ k
  same = omega arith

  laid_so : r ≡ fill 16 no_request (left_of l (suc (k - 1)))
  laid_so = laid ∙ ap (λ i. fill 16 no_request (left_of l i)) (sym same)

  counted_so : left ≡ length (left_of l (suc (k - 1)))
  counted_so = counted ∙ ap (λ i. length (left_of l i)) (sym same)

  here : get_or r (k - 1) no_request ≡ get_or l (k - 1) no_request
  here = ap (λ r. get_or r (k - 1) no_request) laid_so ∙ here_is l fits (k - 1) inside

  some : 1 ≤ left
  some = rw counted_so (some_left l fits (k - 1) inside)

  queue_turn : cond (is_started (get_or r (k - 1) no_request)) r (shifted no_request r (k - 1)) ≡ fill 16 no_request (left_of l (k - 1))
  queue_turn = rw (here, laid_so) (left_next l fits (k - 1) inside)

  count_turn : cond (is_started (get_or r (k - 1) no_request)) left (left - 1) ≡ length (left_of l (k - 1))
  count_turn = rw (here, counted_so) (count_next l fits (k - 1) inside)

pub drop_at-left-requires : goal.drop_at-left-requires
drop_at-left-requires c =
    let a = c.args in
    let q = queue_from a.m.now in
    let i = c.loop-k.invariant in
    let h : 0 < c.loop-k.k = omega arith in record { k_bound = omega arith; le_n = some q (queue_from c.loop-k.m) a.n c.loop-k.k c.loop-k.left i.0 (queue_long a.m.now) h i.1 i.2 i.3 }

pub loop-k-preserved : goal.loop-k-preserved
loop-k-preserved c =
    let a = c.args in
    let q = queue_from a.m.now in
    let r = queue_from c.loop-k.m in
    let i = c.loop-k.invariant in
    let h : 0 < c.loop-k.k = omega arith in
    let d = c.drop_at-left.ensures in (
      omega arith,
      omega arith,
      d.value ∙ count_turn q r a.n c.loop-k.k c.loop-k.left i.0 (queue_long a.m.now) h i.1 i.2 i.3,
      d.m_after ∙ queue_turn q r a.n c.loop-k.k c.loop-k.left i.0 (queue_long a.m.now) h i.1 i.2 i.3,
      kept_twice 901 1189 _ _ _ i.4 d.kept_outside,
    )

pub returns : goal.returns
returns c =
    let z : c.loop-k.k ≡ 0 = omega arith in
    record { m_after = rw z at c.loop-k.invariant.3; value = rw z at c.loop-k.invariant.2; kept_outside = c.loop-k.invariant.4 }
