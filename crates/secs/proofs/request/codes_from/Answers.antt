-- The codes that are passed, and those still to come.
use native.Mathlib.Omega.{arith}
use native.Mathlib.Numerals.{add-one}
use Prim.Native.Nat.{ℕ, suc, ◌+◌, ◌-◌, ◌≤◌, ◌<◌}
use mathlib.Core.Path.{◌≡◌, sym, ap, ◌∙◌}
use mathlib.Core.List.{List, [], ◌++◌, append_assoc, append-nil}
use lib.ListN.{length, get_or, take, set, length-set}
use lib.Seq.{take-suc-set, take_all}
use Rattle.items.specs.Heads.{head_at}
use Rattle.items.specs.declared.head.Head.{Head}
use Rattle.secs.specs.InPlace.{codes_at}
use Rattle.secs.proofs.request.codes_from.Goals as goal

turn : (m codes all : List ℕ) (i at v : ℕ) (h : Head) → i < length codes → i < 25 → h ≡ head_at m at → v ≡ get_or m h.body 0
    → take i codes ++ codes_at m (25 - i) at ≡ all → take (i + 1) (set codes i v) ++ codes_at m (25 - (i + 1)) (h.body + h.many) ≡ all
unfolding codes_at
turn m codes all i at v h l k e q inv =
    let s : 25 - i ≡ suc (25 - suc i) = omega arith in
    rw (add-one i, take-suc-set codes i v l, append_assoc, q, e) (rw s at inv)

whole : (m codes all : List ℕ) (i at : ℕ) → i ≡ 25 → length codes ≡ 25 → take i codes ++ codes_at m (25 - i) at ≡ all → codes ≡ all
unfolding codes_at
whole m codes all i at e l inv =
    let k : length codes ≤ 25 = omega arith in
    sym (append-nil codes) ∙ ap (λ r. r ++ []) (sym (take_all 25 codes k)) ∙ rw e at inv

pub loop-code-preserved : goal.loop-code-preserved
loop-code-preserved c =
    let h = c.head_at-h in
    let l = c.loop-code in
    record {
      whole = simp length-set l.invariant.whole;
      parts = turn c.args.msg.now l.code-items _ l.code-index l.at c.byte.result h.result (omega arith) (omega arith) h.ensures.value c.byte.ensures
          l.invariant.parts;
    }

pub returns : goal.returns
returns c =
    let l = c.loop-code in
    whole c.args.msg.now l.code-items _ l.code-index l.at (omega arith) l.invariant.whole l.invariant.parts
