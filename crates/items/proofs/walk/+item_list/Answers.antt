-- An item that is refused, one that is data, a list; and a list's turns.
use Rattle.std.proofs.Common.{arith, ◌≡◌, ◌+◌, ◌-◌, ◌≤◌, ◌∙◌, suc, ap, sym, ◌&&◌}
use Rattle.records.specs.Refusals.{answer}
use Rattle.items.specs.Reading.{kept}
use Rattle.items.proofs.Refusals.{has_few, has_depth, refuses, passes}
use Rattle.items.proofs.Walked.{refused_is, data_is, list_is, ends, goes_on, none_left}
use Rattle.items.proofs.walk.+item_list.Goals.{list-then-walk, list-else-walk}
use Rattle.items.proofs.walk.+item_list.Goals as goal

pub item-returns-then-is_err : goal.item-returns-then-is_err
item-returns-then-is_err t c =
    let a = c.args in
    let h = c.head_at-h in
    let q = c.refusal_at-said in
    refused_is a.msg.now a.at a.count h.result h.ensures.value (answer q.result) a.left q.ensures
    (refuses q.result _ c.is_err.ensures.value c.if-is_err.true)

pub item-overflow_sub-left : goal.item-overflow_sub-left
item-overflow_sub-left t c =
    let a = c.args in
    let q = c.refusal_at-said in
    let z = ap answer (passes q.result _ c.is_err.ensures.value c.if-is_err.false) in
    has_depth a.msg.now a.at c.head_at-h.result a.left a.count (answer q.result) q.ensures z (sym c.is.ensures ∙ c.if-is.true)

pub item-overflow_add-count : goal.item-overflow_add-count
item-overflow_add-count t c =
    let a = c.args in
    let q = c.refusal_at-said in
    let z = ap answer (passes q.result _ c.is_err.ensures.value c.if-is_err.false) in
    omega (arith, has_few a.msg.now a.at c.head_at-h.result a.left a.count (answer q.result) q.ensures z)

pub item-list-requires : goal.item-list-requires
item-list-requires t c =
    let a = c.args in
    let q = c.refusal_at-said in
    let z = ap answer (passes q.result _ c.is_err.ensures.value c.if-is_err.false) in
    let l = has_depth a.msg.now a.at c.head_at-h.result a.left a.count (answer q.result) q.ensures z (sym c.is.ensures ∙ c.if-is.true) in
    (omega (arith, c.decreases, c.head_at-h.ensures.many_bound.0, l), tt)

pub item-overflow_add-result-else-is : goal.item-overflow_add-result-else-is
item-overflow_add-result-else-is t c =
    let a = c.args in
    let q = c.refusal_at-said in
    let z = ap answer (passes q.result _ c.is_err.ensures.value c.if-is_err.false) in
    omega (arith, has_few a.msg.now a.at c.head_at-h.result a.left a.count (answer q.result) q.ensures z)

pub item-returns-then-is : goal.item-returns-then-is
item-returns-then-is t c =
    let a = c.args in
    let h = c.head_at-h in
    let q = c.refusal_at-said in
    let z = ap answer (passes q.result _ c.is_err.ensures.value c.if-is_err.false) in
    let i = sym c.is.ensures ∙ c.if-is.true in
    let l : 1 ≤ a.left = has_depth a.msg.now a.at h.result a.left a.count (answer q.result) q.ensures z i in
    let d : a.left ≡ suc (a.left - 1) = omega arith in
    c.list.ensures
    ∙ list_is a.msg.now a.at a.count h.result h.ensures.value (answer q.result) a.left (a.left - 1) d q.ensures z i

pub item-returns-else-is : goal.item-returns-else-is
item-returns-else-is t c =
    let a = c.args in
    let h = c.head_at-h in
    let q = c.refusal_at-said in
    let k = passes q.result _ c.is_err.ensures.value c.if-is_err.false in
    rw (k, c.holds_one.ensures)
    (data_is a.msg.now a.at a.count h.result h.ensures.value (answer q.result) a.left q.ensures (ap answer k)
    (sym c.is.ensures ∙ c.if-is.false))

pub list-returns-then-is_err : goal.list-returns-then-is_err
list-returns-then-is_err t c =
    let a = c.args in
    let l = c.loop in
    let i = c.item-w in
    let s : a.many - l.counter ≡ suc (a.many - (l.counter + 1)) = omega arith in
    ends a.msg.now a.left l.walk.at l.walk.count l.walk.single (kept i.result) i.ensures (a.many - l.counter) _ s
    (refuses i.result.said _ c.is_err.ensures.value c.if-is_err.true)
    ∙ l.invariant.whole

pub list-loop-preserved : goal.list-loop-preserved
list-loop-preserved t c =
    let a = c.args in
    let l = c.loop in
    let i = c.item-w in
    let s : a.many - l.counter ≡ suc (a.many - (l.counter + 1)) = omega arith in
    let k = passes i.result.said _ c.is_err.ensures.value c.if-is_err.false in
    let b : c.if-walk.walk ≡ (l.walk.single && i.result.single) = elim c.if-walk.branch [
      | list-then-walk w ↦ rw w.if-walk.true w.walk-is
      | list-else-walk w ↦ rw w.if-walk.false (w.walk-is ∙ w.if-walk.false)
    ] in
    record {
      going = k;
      whole = rw b (goes_on a.msg.now a.left l.walk.at l.walk.count l.walk.single (kept i.result) i.ensures
          (a.many - l.counter) _ s (ap answer k)) ∙ l.invariant.whole;
    }

pub list-returns : goal.list-returns
list-returns t c =
    let a = c.args in
    let l = c.loop in
    let z : a.many - l.counter ≡ 0 = omega arith in
    rw l.invariant.going
    (none_left a.msg.now a.left l.walk.at l.walk.count (a.many - l.counter) l.walk.single z ∙ l.invariant.whole)
