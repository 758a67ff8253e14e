-- Over a run of document 01: a port's access mode and whether it is loading, read off what is gathered; and the count.
use Prim.Native.Nat.{ℕ, zero, suc, ◌+◌, ◌≤◌}
use native.Mathlib.Decide.{ℕ_discrete}
use mathlib.Core.Path.{◌≡◌, refl, ap, sym, ◌∙◌}
use mathlib.Core.Bool.{Bool, true, false, cond, ◌&&◌}
use mathlib.Core.List.{List, [], ◌∷◌}
use lib.ListN.{get_or, replicate}
use lib.Dec.{eqb}
use borrow.Author.Tests.{eqb-true, eq-eqb, ne_eqb}
use Rattle.lists.specs.Lists.{how_many}
use Rattle.lists.proofs.Bools.{or_r}
use Rattle.records.specs.declared.port.Port.{Port}
use Rattle.records.specs.Ports.{no_port, new_port, loading}
use Rattle.rules.specs.declared.row.Effect.{Effect}
use Rattle.rules.specs.State.{State, start, spot_of, port_of}
use Rattle.rules.specs.Sound.{sound}
use Rattle.rules.specs.Seen.{Input, narrow, see}
use Rattle.rules.specs.Row.{enact}
use Rattle.rules.specs.Outcome.{row_in, answer_in, state_after}
use Rattle.rules.specs.History.{reached}
use Rattle.rules.proofs.Apt.{apt}
use Rattle.rules.proofs.SoundParts.{facts}
use Rattle.rules.proofs.SoundRuns.{sound_run}
use Rattle.rules.proofs.Earned.{accepted_judge}
use Rattle.rules.proofs.Lawful.{port_then_fact}
use Rattle.tally.proofs.Lists.{one}
use Rattle.tally.specs.Count.{Entry, entries, came_in, went_out}
use Rattle.counted.specs.Count.{mode_of}
use Rattle.counted.proofs.Gathered.{gathered, turns_load, taken, loading_read, mode_taken, load_taken, came_taken, went_taken}
use Rattle.counted.proofs.Ports.{Turns, rows_turn}

-- ── One input ──
module _ (s : State) (i : Input) (h : sound s ≡ true) (p : ℕ) where
  abbrev e : Effect
  e = (row_in s i).effect

  abbrev port : ℕ
  port = narrow i.port

  module _ (a : eqb (answer_in s i) 0 ≡ true) where
    turns : Turns s i (facts s h) i.number e.port e.becomes
    turns = rows_turn s i (facts s h) i.number (accepted_judge s i a)

    then_is : port_of (enact e s) p ≡ cond (eqb p e.port) e.becomes (port_of s p)
    then_is = port_then_fact s (facts s h) e (apt s i h i.number (accepted_judge s i a)) p

    -- what a row sets at the port given, and else leaves
    sets : {A : Type 0} (v : Port → A) (b : Bool) (w : A) → v e.becomes ≡ cond b w (v (port_of s e.port)) → (b ≡ true → e.port ≡ port)
        → v (port_of (enact e s) p) ≡ cond (b && eqb port p) w (v (port_of s p))
    sets v b w t o = ap v then_is ∙ go b t o
      where
        go : (b : Bool) → v e.becomes ≡ cond b w (v (port_of s e.port)) → (b ≡ true → e.port ≡ port)
            → v (cond (eqb p e.port) e.becomes (port_of s p)) ≡ cond (b && eqb port p) w (v (port_of s p))
        go true t o = at (ℕ_discrete port p)
          where
            at : Dec (port ≡ p) → v (cond (eqb p e.port) e.becomes (port_of s p)) ≡ cond (eqb port p) w (v (port_of s p))
            at (yes z) = rw (eq-eqb p e.port (sym z ∙ sym (o refl)), eq-eqb port p z) t
            at (no n) = rw (ne_eqb p e.port (λ z. n (sym (z ∙ o refl))), ne_eqb port p n)
        go false t o = at (eqb p e.port) refl
          where
            at : (d : Bool) → eqb p e.port ≡ d → v (cond d e.becomes (port_of s p)) ≡ v (port_of s p)
            at true z = t ∙ ap (λ q. v (port_of s q)) (sym (eqb-true p e.port z))
            at false z = refl

    mode_sets : (port_of (enact e s) p).access ≡ cond (eqb i.number 9 && eqb port p) (narrow i.value) (port_of s p).access
    unfolding see
    mode_sets = sets (λ q. q.access) (eqb i.number 9) (narrow i.value) turns.access (λ z. turns.here (rw z))

    load_sets : loading (port_of (enact e s) p) ≡ cond (turns_load i.number && eqb port p) (eqb i.number 13) (loading (port_of s p))
    unfolding see
    load_sets = sets loading (turns_load i.number) (eqb i.number 13) turns.load (λ z. turns.here (or_r (eqb i.number 9) z))

  mode_after : (port_of (state_after s i) p).access
      ≡ cond (eqb (answer_in s i) 0 && (eqb i.number 9 && eqb port p)) (narrow i.value) (port_of s p).access
  unfolding state_after
  mode_after = go (eqb (answer_in s i) 0) refl
    where
      go : (w : Bool) → eqb (answer_in s i) 0 ≡ w
          → (port_of (cond w (enact e s) s) p).access ≡ cond (w && (eqb i.number 9 && eqb port p)) (narrow i.value) (port_of s p).access
      go true a = mode_sets a
      go false a = refl

  load_after : loading (port_of (state_after s i) p)
      ≡ cond (eqb (answer_in s i) 0 && (turns_load i.number && eqb port p)) (eqb i.number 13) (loading (port_of s p))
  unfolding state_after
  load_after = go (eqb (answer_in s i) 0) refl
    where
      go : (w : Bool) → eqb (answer_in s i) 0 ≡ w
          → loading (port_of (cond w (enact e s) s) p)
          ≡ cond (w && (turns_load i.number && eqb port p)) (eqb i.number 13) (loading (port_of s p))
      go true a = load_sets a
      go false a = refl

-- ── Set-up ──
all_new : (n k : ℕ) → ((get_or (replicate n new_port) k no_port).access ≡ 0) × (loading (get_or (replicate n new_port) k no_port) ≡ false)
all_new zero k = (refl, refl)
all_new (suc n) zero = (refl, refl)
all_new (suc n) (suc k) = all_new n k

-- ── Runs ──
-- what an input adds after a run from s
abbrev pub adds : State → List Input → Input → List Entry
adds s earlier i = taken (eqb (answer_in (reached s earlier) i) 0) i

pub came_run : (s : State) (run : List Input) → came_in (entries s run) ≡ came_in (gathered (adds s) run)
unfolding entries gathered came_in how_many
came_run s [] = refl
came_run s (i ∷ earlier) =
    ap (λ n. one (eqb (answer_in (reached s earlier) i) 0 && eqb i.number 14) + n) (came_run s earlier) ∙ sym (came_taken i _ _)

pub went_run : (s : State) (run : List Input) → went_out (entries s run) ≡ went_out (gathered (adds s) run)
unfolding entries gathered went_out how_many
went_run s [] = refl
went_run s (i ∷ earlier) =
    ap (λ n. one (eqb (answer_in (reached s earlier) i) 0 && eqb i.number 25) + n) (went_run s earlier) ∙ sym (went_taken i _ _)

module _ (P B : ℕ) (a : 1 ≤ P) (b : P ≤ 4) (c : B ≤ 16) (p : ℕ) where
  abbrev at : List Input → State
  at run = reached (start P B) run

  pub mode_run : (run : List Input) → (port_of (at run) p).access ≡ mode_of p (gathered (adds (start P B)) run)
  unfolding reached port_of gathered mode_of
  mode_run [] = (all_new P (spot_of p)).0
  mode_run (i ∷ earlier) =
      mode_after (at earlier) i (sound_run P B a b c earlier) p
      ∙ ap (λ m. cond (eqb (answer_in (at earlier) i) 0 && (eqb i.number 9 && eqb (narrow i.port) p)) (narrow i.value) m) (mode_run earlier)
      ∙ sym (mode_taken i _ p _)

  pub load_run : (run : List Input) → loading (port_of (at run) p) ≡ loading_read p (gathered (adds (start P B)) run)
  unfolding reached port_of gathered loading_read
  load_run [] = (all_new P (spot_of p)).1
  load_run (i ∷ earlier) =
      load_after (at earlier) i (sound_run P B a b c earlier) p
      ∙ ap (λ l. cond (eqb (answer_in (at earlier) i) 0 && (turns_load i.number && eqb (narrow i.port) p)) (eqb i.number 13) l) (load_run earlier)
      ∙ sym (load_taken i _ p _)
