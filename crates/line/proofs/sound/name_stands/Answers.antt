use Rattle.std.proofs.Common.{rules, tests}
use native.Mathlib.Omega.{arith}
use mathlib.Core.Path.{◌≡◌, ap, sym, ◌∙◌}
use Prim.Native.Nat.{ℕ, ◌≤◌, ◌<◌}
use lib.ListN.{get_or, take}
use Rattle.lists.proofs.Ranges.{position_answered, where_or}
use lib.Seq.{length-take-le}
use Rattle.std.specs.List.{position}
use Rattle.records.proofs.Names.{equal_names}
use Rattle.records.specs.Names.{same_name}
use Rattle.records.specs.declared.carrier.Carrier.{Carrier}
use Rattle.records.specs.Carriers.{no_carrier}
use Rattle.rules.specs.Seen.{is_named, name_stands}
use Rattle.image.specs.Image.{tool_from, name_from, carrier_start}
use Rattle.image.proofs.Laid.{carriers_long, record_is}
use Rattle.line.proofs.sound.name_stands.Goals as goal

pub returns : goal.returns
unfolding name_stands
returns c =
    let a = c.args in
    let m = a.m.now in
    let t = tool_from m in
    let l = carriers_long m in
    let few : t.count ≤ 36 = c.requires.few_carriers in
    let n : c.from-n.result ≡ t.count = c.from-n.ensures ∙ c.count.ensures in
    let at : (k : ℕ) → k < t.count → same_name (name_from m (carrier_start k)) a.name ≡ is_named a.name (get_or t.carriers k no_carrier) =
    λ k b. ap (λ (x : Carrier). same_name x.name a.name) (sym (record_is m k no_carrier (omega arith))) in
    let e : c.position.result ≡ position (is_named a.name) (take t.count t.carriers) =
    position_answered c.position.result (is_named a.name) (λ k. same_name (name_from m (carrier_start k)) a.name) t.carriers no_carrier t.count (rw n)
    (omega arith) at c.position.ensures.ran (λ x b q e. search (rules, tests, equal_names)) in
    c.unwrap_or.ensures ∙ rw e (where_or (is_named a.name) (take t.count t.carriers) c.from-n.result (n ∙ sym (length-take-le t.count t.carriers (omega arith))))
