use Rattle.std.proofs.Common.{rules}
use native.Mathlib.Omega.{arith}
use mathlib.Core.Path.{◌≡◌, ap, sym, subst⁻¹, ◌∙◌}
use lib.ListN.{length}
use lib.Seq.{set_out}
use Rattle.follow.specs.Follow.{added, entries_from, KeptOutside}
use Rattle.follow.proofs.Entries.{in_order, entries_long, entry_put, put_keeps, kept_all}
use Rattle.follow.proofs.table.entry_added.Goals as goal
use Rattle.follow.proofs.table.entry_added.Goals.{else-made-via-then-made+else-k-lt-RECORDS, else-made-via-else-made}

pub overflow_mul-w : goal.overflow_mul-w
overflow_mul-w c = let a = c.args in let b = in_order a.w a.k 36 (omega arith) in omega arith

pub overflow_add-o : goal.overflow_add-o
overflow_add-o c = let a = c.args in let b = in_order a.w a.k 36 (omega arith) in omega arith

pub put-requires : goal.put-requires
put-requires c =
    let a = c.args in let b = in_order a.w a.k 36 (omega arith) in omega arith

pub returns-then-k-lt-RECORDS : goal.returns-then-k-lt-RECORDS
unfolding added
returns-then-k-lt-RECORDS c =
    let a = c.args in
    let m = a.m.now in
    let l : length m ≡ 1891 = search rules in
    let e = c.put.ensures in record {
      w_after = rw c.if-made.true (ap (λ x. entries_from x a.o a.w) e
          ∙ entry_put a.o a.w m l c.requires.w_bound a.k c.if-k-lt-RECORDS.true a.x.now c.requires.x_len);
      kept_outside = subst⁻¹ (KeptOutside _ _ m) e (put_keeps a.o a.w m l c.requires.w_bound a.k c.if-k-lt-RECORDS.true a.x.now c.requires.x_len);
    }

pub returns-else-made : goal.returns-else-made
unfolding added
returns-else-made c =
    let a = c.args in
    let n = entries_long a.o a.w a.m.now in
    elim c.else-made.branch [
      | else-made-via-then-made+else-k-lt-RECORDS w ↦ record {
        w_after = rw w.if-made.true (sym (set_out (entries_from a.m.now a.o a.w) a.k a.x.now (omega (arith, w.if-k-lt-RECORDS.false))));
        kept_outside = kept_all _ _ _;
      }
      | else-made-via-else-made w ↦ record { w_after = rw w.if-made.false; kept_outside = kept_all _ _ _ }
    ]
