-- P ports and B places, and nothing else
use native.Mathlib.Omega.{arith}
use Prim.Native.Nat.{ℕ, ◌≤◌, ◌<◌}
use mathlib.Core.Path.{◌≡◌, ap, ◌∙◌}
use mathlib.Core.Logic.{◌⊎◌, inl, inr}
use lib.ListN.{length, replicate}
use lib.Seq.{take_all}
use borrow.Author.Tests.{le-leb, lt-leb}
use Rattle.lists.specs.Lists.{fill}
use Rattle.lists.proofs.Tables.{fill_none, length_repeat}
use Rattle.records.specs.Ports.{no_port, new_port}
use Rattle.records.specs.Carriers.{no_carrier}
use Rattle.rules.specs.declared.tool.Tool.{Tool}
use Rattle.rules.specs.declared.tool.Setup.{Setup}
use Rattle.rules.specs.State.{no_tool, in_tool, set_up}
use Rattle.image.specs.Image.{tool_from}
use Rattle.machine.proofs.Fresh.{sizes_put}
use Rattle.machine.proofs.setup.setup.Goals as goal
use Rattle.machine.proofs.setup.setup.Goals.{else-p-ge1-via-then-p-ge1+then-p-le-MOST_PORTS+else-b-le-MOST_PLACES, else-p-ge1-via-then-p-ge1+else-p-le-MOST_PORTS, else-p-ge1-via-else-p-ge1}

abbrev sized : ℕ → ℕ → Tool
sized p b = record { used = p; places = b; count = 0; ports = fill 4 no_port (replicate p new_port); carriers = replicate 36 no_carrier }

accepted : (p b : ℕ) → 1 ≤ p → p ≤ 4 → b ≤ 16 → ◌≡◌ {A = Setup} record { tool = sized p b; answer = 0 } (set_up p b)
unfolding set_up in_tool
accepted p b i j k =
    let n = length_repeat p new_port in
    rw (le-leb _ _ i, le-leb _ _ j, le-leb _ _ k, take_all 4 (replicate p new_port) (omega arith), n, ← fill_none 36 no_carrier)

refused : (p b : ℕ) → (p < 1) ⊎ (((1 ≤ p) × (4 < p)) ⊎ ((1 ≤ p) × (p ≤ 4) × (16 < b)))
    → ◌≡◌ {A = Setup} record { tool = no_tool; answer = 1 } (set_up p b)
unfolding set_up
refused p b (inl i) = rw (lt-leb _ _ i)
refused p b (inr (inl (i, j))) = rw (le-leb _ _ i, lt-leb _ _ j)
refused p b (inr (inr (i, j, k))) = rw (le-leb _ _ i, le-leb _ _ j, lt-leb _ _ k)

pub returns-then-b-le-MOST_PLACES : goal.returns-then-b-le-MOST_PLACES
returns-then-b-le-MOST_PLACES c =
    let a = c.args in
    let m = c.fresh_ports.new.m in
    let l : length m ≡ 1891 = omega arith in
    let o = accepted a.p a.b c.if-p-ge1.true c.if-p-le-MOST_PORTS.true c.if-b-le-MOST_PLACES.true in
    let e : tool_from c.put.new.m ≡ sized a.p a.b =
    ap tool_from c.put.ensures ∙ sizes_put m l a.p a.b
    ∙ ap (λ t. record { used = a.p; places = a.b; count = t.count; ports = t.ports; carriers = t.carriers }) c.fresh_ports.ensures in
    record { m_after = e ∙ ap (λ x. x.tool) o; value = ap (λ x. x.answer) o }

pub returns-else-p-ge1 : goal.returns-else-p-ge1
returns-else-p-ge1 c =
    let o = refused c.args.p c.args.b (elim c.else-p-ge1.branch [
      | else-p-ge1-via-then-p-ge1+then-p-le-MOST_PORTS+else-b-le-MOST_PLACES w ↦ inr (inr (w.if-p-ge1.true, w.if-p-le-MOST_PORTS.true, w.if-b-le-MOST_PLACES.false))
      | else-p-ge1-via-then-p-ge1+else-p-le-MOST_PORTS w ↦ inr (inl (w.if-p-ge1.true, w.if-p-le-MOST_PORTS.false))
      | else-p-ge1-via-else-p-ge1 w ↦ inl w.if-p-ge1.false
    ]) in
    record { m_after = c.no_tool.ensures ∙ ap (λ x. x.tool) o; value = ap (λ x. x.answer) o }
