use Rattle.std.proofs.Common.{rules}
use borrow.Author.Tests.{lt-ltb, le-ltb}
use native.Mathlib.Omega.{arith}
use mathlib.Core.Path.{◌≡◌, ap, subst⁻¹, ◌∙◌}
use lib.ListN.{length}
use Rattle.follow.specs.Follow.{dropped, entries_from, KeptOutside}
use Rattle.follow.proofs.Entries.{in_order, entry_gone, gone_keeps, kept_all}
use Rattle.follow.proofs.table.entry_dropped.Goals as goal

pub overflow_mul-w : goal.overflow_mul-w
overflow_mul-w c = let a = c.args in let b = in_order a.w a.g 36 (omega arith) in omega arith

pub overflow_add-o : goal.overflow_add-o
overflow_add-o c = let a = c.args in let b = in_order a.w a.g 36 (omega arith) in omega arith

pub close_up-requires : goal.close_up-requires
close_up-requires c =
    let a = c.args in let b = in_order a.w a.g 36 (omega arith) in
    record { o_le_e = omega arith; w_bound = omega arith; e_in_bounds = search rules; m_len_bound = search rules }

pub returns-then-g-n : goal.returns-then-g-n
unfolding dropped
returns-then-g-n c =
    let a = c.args in
    let m = a.m.now in
    let l : length m ≡ 1891 = search rules in
    let e = c.close_up.ensures in record {
      w_after = rw (lt-ltb _ _ c.if-g-n.true) (ap (λ x. entries_from x a.o a.w) e
          ∙ entry_gone a.o a.w m l (omega arith) a.g (omega arith));
      kept_outside = subst⁻¹ (KeptOutside _ _ m) e (gone_keeps a.o a.w m l (omega arith) a.g (omega arith));
    }

pub returns-else-g-n : goal.returns-else-g-n
unfolding dropped
returns-else-g-n c = record { w_after = rw (le-ltb _ _ c.if-g-n.false); kept_outside = kept_all _ _ _ }
