-- Set-up, by the ports that document 01's is asked for: none where the times aren't taken.
use Prim.Native.Nat.{ℕ}
use native.Mathlib.Omega.{arith}
use mathlib.Core.Path.{◌≡◌, refl}
use mathlib.Core.Logic.{◌≢◌}
use mathlib.Core.Bool.{Bool, true, false, cond, ◌&&◌}
use lib.Dec.{eqb, leb}
use borrow.Author.Tests.{ne_eqb}
use Rattle.lists.specs.Lists.{between}
use Rattle.rules.specs.declared.tool.Setup as base-setup
use Rattle.rules.specs.State as base
use Rattle.prediction.specs.Sound.{is_span}
use Rattle.tool.specs.Whole.{Setup, fresh, set_up}

abbrev up_if : ℕ → ℕ → Bool → base-setup.Setup
up_if P B w = cond w (record { tool = base.in_tool (base.start P B); answer = 0 }) (record { tool = base.no_tool; answer = 1 })

-- refused, it is no tool
none_up : (P B : ℕ) → (base.set_up P B).answer ≢ 0 → ◌≡◌ {A = base-setup.Setup} (base.set_up P B) (record { tool = base.no_tool; answer = 1 })
unfolding base.set_up
none_up P B = go (between 1 P 4 && leb B 16)
  where
    go : (w : Bool) → (up_if P B w).answer ≢ 0 → up_if P B w ≡ record { tool = base.no_tool; answer = 1 }
    go true n = absurd (n refl)
    go false n = refl

module _ (P B setting timeout : ℕ) where
  abbrev pub ports : Bool → ℕ
  ports w = cond w P 0

  abbrev pub spans : Bool
  spans = is_span setting && is_span timeout

  no_ports : (base.set_up 0 B).answer ≡ 1
  unfolding base.set_up
  no_ports = refl

  pub accepted_is : (base.set_up (ports spans) B).answer ≡ 0
      → ◌≡◌ {A = Setup} (record { tool = fresh (base.set_up (ports spans) B).tool setting timeout; answer = 0 }) (set_up P B setting timeout)
  unfolding set_up
  accepted_is = go spans
    where
      go : (w : Bool) → (base.set_up (ports w) B).answer ≡ 0 → ◌≡◌ {A = Setup}
          (record { tool = fresh (base.set_up (ports w) B).tool setting timeout; answer = 0 })
          (cond (eqb (base.set_up P B).answer 0 && w) (record { tool = fresh (base.set_up P B).tool setting timeout; answer = 0 })
          (record { tool = fresh base.no_tool 0 0; answer = 1 }))
      go true e = rw e
      go false e = let n = no_ports in absurd (omega arith)

  pub refused_is : (base.set_up (ports spans) B).answer ≢ 0 → ◌≡◌ {A = Setup}
      (record { tool = fresh (base.set_up (ports spans) B).tool 0 0; answer = (base.set_up (ports spans) B).answer }) (set_up P B setting timeout)
  unfolding set_up
  refused_is = go spans
    where
      go : (w : Bool) → (base.set_up (ports w) B).answer ≢ 0 → ◌≡◌ {A = Setup}
          (record { tool = fresh (base.set_up (ports w) B).tool 0 0; answer = (base.set_up (ports w) B).answer })
          (cond (eqb (base.set_up P B).answer 0 && w) (record { tool = fresh (base.set_up P B).tool setting timeout; answer = 0 })
          (record { tool = fresh base.no_tool 0 0; answer = 1 }))
      go true n = rw (ne_eqb _ 0 n, none_up P B n)
      go false n = rw (none_up 0 B n) (other (eqb (base.set_up P B).answer 0))
        where
          other : (u : Bool) → ◌≡◌ {A = Setup} (record { tool = fresh base.no_tool 0 0; answer = 1 })
              (cond (u && false) (record { tool = fresh (base.set_up P B).tool setting timeout; answer = 0 })
              (record { tool = fresh base.no_tool 0 0; answer = 1 }))
          other true = refl
          other false = refl
