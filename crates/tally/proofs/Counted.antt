-- After every run from every valid set-up the pods that are here came in and didn't go out.
use Prim.Native.Nat.{ℕ, zero, suc, ◌+◌, ◌≤◌}
use native.Mathlib.Omega.{arith}
use mathlib.Core.Path.{◌≡◌, refl, sym, subst}
use mathlib.Core.Bool.{Bool, true, false, cond, ◌&&◌}
use mathlib.Core.List.{List, [], ◌∷◌}
use lib.ListN.{get_or, replicate}
use lib.Dec.{eqb}
use Rattle.lists.specs.Lists.{how_many}
use Rattle.lists.proofs.Bools.{clash, and_l}
use Rattle.records.specs.declared.port.Port.{Port}
use Rattle.records.specs.Ports.{no_port, new_port, has_pod}
use Rattle.rules.specs.declared.row.Effect.{Effect}
use Rattle.rules.specs.State.{State, start, spot_of, port_of}
use Rattle.rules.specs.Sound.{sound}
use Rattle.rules.specs.Seen.{Input}
use Rattle.rules.specs.Row.{enact}
use Rattle.rules.specs.Outcome.{row_in, answer_in, state_after}
use Rattle.rules.specs.History.{reached}
use Rattle.rules.specs.Granted.{outbound}
use Rattle.rules.proofs.Apt.{Apt, apt}
use Rattle.rules.proofs.SoundParts.{facts}
use Rattle.rules.proofs.SoundRuns.{sound_run}
use Rattle.rules.proofs.Earned.{accepted_judge}
use Rattle.rules.proofs.Lawful.{port_then_fact}
use Rattle.rules.proofs.Granted.{granted}
use Rattle.tally.specs.Count.{entries, came_in, went_out, pods_at_ports, stored, pods_here, Counted}
use Rattle.tally.proofs.Lists.{one}
use Rattle.tally.proofs.Weighs.{Weighs, weighed}
use Rattle.tally.proofs.Rows.{Pods, Full, rows_weigh}

-- ── One input ──
module _ (s : State) (i : Input) (h : sound s ≡ true) (pods : Pods s) (full : Full s) where
  abbrev e : Effect
  e = (row_in s i).effect

  module _ (a : eqb (answer_in s i) 0 ≡ true) where
    fits : Apt s e
    fits = apt s i h i.number (accepted_judge s i a)

    weighs : Weighs s i.number e
    weighs = rows_weigh s i (facts s h) pods full i.number (accepted_judge s i a)

    enact_full : Full (enact e s)
    enact_full p = subst (λ (q : Port). outbound q ≡ true → has_pod q ≡ true) (sym (port_then_fact s (facts s h) e fits p)) (go (eqb p e.port))
      where
        go : (w : Bool) → outbound (cond w e.becomes (port_of s p)) ≡ true → has_pod (cond w e.becomes (port_of s p)) ≡ true
        go true = weighs.full
        go false = full p

  full_after : Full (state_after s i)
  unfolding state_after
  full_after = go (eqb (answer_in s i) 0) refl
    where
      go : (w : Bool) → eqb (answer_in s i) 0 ≡ w → Full (cond w (enact e s) s)
      go true a = enact_full a
      go false a = full

  -- the count moves with LoadDone and UnloadDone, where they are accepted
  moves : pods_here (state_after s i) + one (eqb (answer_in s i) 0 && eqb i.number 25) ≡ pods_here s + one (eqb (answer_in s i) 0 && eqb i.number 14)
  unfolding state_after
  moves = go (eqb (answer_in s i) 0) refl
    where
      go : (w : Bool) → eqb (answer_in s i) 0 ≡ w
          → pods_here (cond w (enact e s) s) + one (w && eqb i.number 25) ≡ pods_here s + one (w && eqb i.number 14)
      go true a = weighed s e (fits a) i.number (weighs a)
      go false a = refl

-- ── Set-up ──
none_out : (n k : ℕ) → outbound (get_or (replicate n new_port) k no_port) ≡ false
none_out zero k = refl
none_out (suc n) zero = refl
none_out (suc n) (suc k) = none_out n k

no_pods : (n : ℕ) → how_many has_pod (replicate n new_port) ≡ 0
unfolding how_many
no_pods zero = refl
no_pods (suc n) = let r = no_pods n in omega arith

-- ── Runs ──
module _ (P B : ℕ) (a : 1 ≤ P) (b : P ≤ 4) (c : B ≤ 16) where
  abbrev at : List Input → State
  at run = reached (start P B) run

  pods_run : (run : List Input) → Pods (at run)
  pods_run run k l z = and_l _ _ (((granted P B a b c run).coherent k l).pod_there z)

  full_run : (run : List Input) → Full (at run)
  unfolding reached port_of
  full_run [] = λ p z. clash z (none_out P (spot_of p))
  full_run (i ∷ earlier) = full_after (at earlier) i (sound_run P B a b c earlier) (pods_run earlier) (full_run earlier)

  counts : (run : List Input) → came_in (entries (start P B) run) ≡ went_out (entries (start P B) run) + pods_here (at run)
  unfolding reached entries came_in went_out pods_at_ports stored how_many
  counts [] = sym (rw (no_pods P))
  counts (i ∷ earlier) =
      let m = moves (at earlier) i (sound_run P B a b c earlier) (pods_run earlier) (full_run earlier) in
      let r = counts earlier in
      omega arith

  pub counted : (run : List Input) → Counted P B run
  counted run = let r = counts run in record { all = r; less = omega arith }
