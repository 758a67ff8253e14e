-- What set-up writes: zeros, and the two sizes.
use Prim.Native.Nat.{ℕ, ◌+◌}
use native.Mathlib.Omega.{arith}
use mathlib.Core.Path.{◌≡◌, refl, sym, ◌∙◌}
use mathlib.Core.Bool.{Bool, true, false}
use mathlib.Core.List.{List, [], ◌∷◌}
use lib.ListN.{length, replicate, length-replicate, get_or-replicate, get_or-eq_default}
use lib.Dec.{ltb}
use lib.Seq.{sets}
use borrow.Author.Tests.{ltb-true, ltb-false}
use Rattle.records.specs.Ports.{no_port}
use Rattle.records.specs.Carriers.{no_carrier}
use Rattle.rules.specs.State.{no_tool}
use Rattle.image.specs.Image.{table, byte_at, port_from, carrier_from, port_start, carrier_start, tool_from}
use Rattle.image.proofs.Table.{table_same, table_const}
use Rattle.image.proofs.Written.{after_stays, stands_there}
use Rattle.image.proofs.Laid.{port_same, carrier_same}
use Rattle.parts.proofs.InPlace.{ports_stay, carriers_stay}

-- all zeros
pub zero_at : (n i : ℕ) → byte_at (replicate n 0) i ≡ 0
zero_at n i = go (ltb i n) refl
  where
    go : (b : Bool) → ltb i n ≡ b → byte_at (replicate n 0) i ≡ 0
    go true e = get_or-replicate {A = ℕ} n i 0 0 (ltb-true i n e)
    go false e =
        let h = ltb-false i n e in
        let l = length-replicate {A = ℕ} n 0 in
        get_or-eq_default {A = ℕ} (replicate n 0) 0 (omega arith)

empty_port : port_from (replicate 22 0) 0 ≡ no_port
unfolding table
empty_port = refl

empty_carrier : carrier_from (replicate 50 0) 0 ≡ no_carrier
unfolding table
empty_carrier = refl

-- a tool of zeros is no tool
pub nothing : (m : List ℕ) → ((i : ℕ) → byte_at m i ≡ 0) → tool_from m ≡ no_tool
unfolding tool_from
nothing m z =
    rw (
      z 0,
      z 1,
      z 2,
      table_same 4 (λ j. port_from m (port_start j)) (λ j. no_port)
          (λ j b. port_same m (replicate 22 0) (port_start j) 0 (λ i c. z (port_start j + i) ∙ sym (zero_at 22 (0 + i))) ∙ empty_port),
      table_same 36 (λ j. carrier_from m (carrier_start j)) (λ j. no_carrier)
          (λ j b. carrier_same m (replicate 50 0) (carrier_start j) 0 (λ i c. z (carrier_start j + i) ∙ sym (zero_at 50 (0 + i)))
          ∙ empty_carrier),
      table_const 4 no_port,
      table_const 36 no_carrier,
    )

-- how many ports and places there are
pub sizes_put : (m : List ℕ) → length m ≡ 1891 → (u v : ℕ)
    → tool_from (sets m 0 (u ∷ v ∷ []))
    ≡ record { used = u; places = v; count = (tool_from m).count; ports = (tool_from m).ports; carriers = (tool_from m).carriers }
unfolding tool_from
sizes_put m full u v =
    let l = u ∷ v ∷ [] in
    rw (
      stands_there m 0 l 0 (omega arith) (omega arith),
      stands_there m 0 l 1 (omega arith) (omega arith),
      after_stays m 0 l 2 (omega arith),
      ports_stay m full 0 l (omega arith),
      carriers_stay m full 0 l (omega arith),
    )
