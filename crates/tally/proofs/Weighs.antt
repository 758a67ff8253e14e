-- What an effect does to the count: it is read off its port, and off the records that go, change and follow.
use Prim.Native.Nat.{ℕ, ◌+◌}
use native.Mathlib.Omega.{arith}
use mathlib.Core.Path.{◌≡◌, refl, ap}
use mathlib.Core.Bool.{true}
use lib.Dec.{eqb}
use Rattle.records.specs.Ports.{no_port, has_pod}
use Rattle.records.specs.Carriers.{no_carrier, in_buffer}
use Rattle.rules.specs.declared.row.Effect.{Effect}
use Rattle.rules.specs.State.{State, spot_of, port_of, record_of}
use Rattle.rules.specs.Row.{enact}
use Rattle.rules.specs.Granted.{outbound}
use Rattle.rules.proofs.Apt.{Apt}
use Rattle.tally.specs.Count.{pods_at_ports, stored, pods_here}
use Rattle.tally.proofs.Lists.{one, many_set, many_after}

-- Row n brings a pod if it is LoadDone and takes one if it is UnloadDone; what else it does to its port and to records evens out.
pub record Weighs (s : State) (n : ℕ) (e : Effect) : Type 0 where
  pub even : one (has_pod e.becomes) + one (in_buffer e.next) + one (eqb n 25)
      ≡ one (has_pod (port_of s e.port)) + one (in_buffer (record_of s e.goes)) + one (in_buffer (record_of s e.changes)) + one (eqb n 14)
  -- a port that is READY TO UNLOAD or unloading has a pod
  pub full : outbound e.becomes ≡ true → has_pod e.becomes ≡ true

module _ (s : State) (e : Effect) (a : Apt s e) where
  ports_weigh : pods_at_ports (enact e s) + one (has_pod (port_of s e.port)) ≡ pods_at_ports s + one (has_pod e.becomes)
  unfolding pods_at_ports enact port_of
  ports_weigh = many_set has_pod no_port s.ports (spot_of e.port) e.becomes (λ b. ap has_pod (a.still b))

  records_weigh : stored (enact e s) + one (in_buffer (record_of s e.goes)) + one (in_buffer (record_of s e.changes))
      ≡ stored s + one (in_buffer e.next)
  unfolding stored enact record_of
  records_weigh =
      many_after in_buffer no_carrier refl e.made s.carriers e.goes e.changes e.next a.lone
      (λ m b. ap in_buffer (a.none m b)) a.apart

  pub weighed : (n : ℕ) → Weighs s n e → pods_here (enact e s) + one (eqb n 25) ≡ pods_here s + one (eqb n 14)
  weighed n w = let p = ports_weigh in let r = records_weigh in let v = w.even in omega arith
