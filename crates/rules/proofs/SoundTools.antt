-- A tool that holds a sound state is sound: after set-up, and after every input.
use Prim.Native.Nat.{ℕ, ◌≤◌}
use native.Mathlib.Omega.{arith}
use mathlib.Core.Path.{◌≡◌, refl, ap, sym, ◌∙◌}
use mathlib.Core.Logic.{◌≢◌}
use mathlib.Core.Bool.{Bool, true, false, cond, ◌&&◌}
use mathlib.Core.List.{[]}
use lib.ListN.{length}
use lib.Seq.{take_all}
use lib.Dec.{eqb, leb}
use borrow.Author.Tests.{eqb-true, leb-true, le-leb}
use Rattle.lists.specs.Lists.{every, between, same_list}
use Rattle.lists.proofs.Bools.{and_l, and_r, and_i}
use Rattle.lists.proofs.Tables.{take_fill, rest_fill}
use Rattle.records.specs.Names.{same_name}
use Rattle.records.specs.Ports.{no_port}
use Rattle.records.specs.Carriers.{no_carrier}
use Rattle.rules.specs.declared.tool.Tool.{Tool}
use Rattle.rules.specs.declared.tool.Setup.{Setup}
use Rattle.rules.specs.declared.report.Outcome.{Outcome}
use Rattle.rules.specs.State.{State, state_of, in_tool, no_tool, start, set_up}
use Rattle.rules.specs.Sound.{in_range, sound, zero_port, zero_carrier, unused_zero, sound_tool}
use Rattle.rules.specs.Seen.{Input}
use Rattle.rules.specs.Reports.{listed, differences}
use Rattle.rules.specs.Outcome.{refused, accepted, answer_in, state_after, outcome_in, outcome}
use Rattle.rules.specs.Run.{line_of}
use Rattle.rules.proofs.Holding.{tool_sound}
use Rattle.rules.proofs.SoundParts.{facts}
use Rattle.rules.proofs.Orderly.{bounded}
use Rattle.rules.proofs.SoundRuns.{sound_after, sound_start}

no_port_zero : zero_port no_port ≡ true
unfolding zero_port same_name same_list
no_port_zero = refl

no_carrier_zero : zero_carrier no_carrier ≡ true
unfolding zero_carrier same_name same_list
no_carrier_zero = refl

-- a sound state fits the tables
module _ (s : State) (h : sound s ≡ true) where
  ports_fit : length s.ports ≤ 4
  ports_fit = (facts s h).few_ports

  carriers_fit : length s.carriers ≤ 36
  carriers_fit = let b = bounded s h in let p = (facts s h).few_ports in let q = (facts s h).few_places in omega arith

  pub held_state : state_of (in_tool s) ≡ s
  unfolding in_tool
  held_state =
      rw (
        take_all 4 s.ports ports_fit,
        take_all 36 s.carriers carriers_fit,
        take_fill 4 no_port s.ports ports_fit,
        take_fill 36 no_carrier s.carriers carriers_fit,
      )

  unused_zero_fact : unused_zero (in_tool s) ≡ true
  unfolding in_tool unused_zero
  unused_zero_fact =
      rw (take_all 4 s.ports ports_fit, take_all 36 s.carriers carriers_fit)
      (and_i (rest_fill zero_port 4 no_port s.ports no_port_zero) (rest_fill zero_carrier 36 no_carrier s.carriers no_carrier_zero))

  counts_fit : (leb (in_tool s).used 4 && leb (in_tool s).count 36) ≡ true
  unfolding in_tool
  counts_fit =
      rw (take_all 4 s.ports ports_fit, take_all 36 s.carriers carriers_fit)
      (and_i (le-leb _ 4 ports_fit) (le-leb _ 36 carriers_fit))

  pub held_sound : sound_tool (in_tool s) ≡ true
  unfolding sound_tool
  held_sound = and_i (and_i counts_fit unused_zero_fact) (rw held_state h)

-- ── Set-up ──
valid : (P B : ℕ) → (between 1 P 4 && leb B 16) ≡ true → sound (start P B) ≡ true
valid P B e =
    sound_start P B (leb-true 1 P (and_l _ _ (and_l _ _ e))) (leb-true P 4 (and_r (leb 1 P) _ (and_l _ _ e)))
    (leb-true B 16 (and_r (between 1 P 4) _ e))

-- what set-up gives where it accepts, and where not
abbrev set_up_if : ℕ → ℕ → Bool → Setup
set_up_if P B w = cond w (record { tool = in_tool (start P B); answer = 0 }) (record { tool = no_tool; answer = 1 })

pub setup_sound : (P B : ℕ) → (set_up P B).answer ≡ 0 → sound_tool (set_up P B).tool ≡ true
unfolding set_up
setup_sound P B = go (between 1 P 4 && leb B 16) refl
  where
    go : (w : Bool) → (between 1 P 4 && leb B 16) ≡ w → (set_up_if P B w).answer ≡ 0 → sound_tool (set_up_if P B w).tool ≡ true
    go true e z = held_sound (start P B) (valid P B e)
    go false e z = absurd (omega arith)

pub setup_state : (P B : ℕ) → (set_up P B).answer ≡ 0 → state_of (set_up P B).tool ≡ start P B
unfolding set_up
setup_state P B = go (between 1 P 4 && leb B 16) refl
  where
    go : (w : Bool) → (between 1 P 4 && leb B 16) ≡ w → (set_up_if P B w).answer ≡ 0 → state_of (set_up_if P B w).tool ≡ start P B
    go true e z = held_state (start P B) (valid P B e)
    go false e z = absurd (omega arith)

-- no tool isn't sound
no_tool_unsound : sound_tool no_tool ≡ false
unfolding sound_tool unused_zero every zero_port zero_carrier same_name same_list sound in_range
no_tool_unsound = refl

pub setup_refused : (P B : ℕ) → (set_up P B).answer ≢ 0 → sound_tool (set_up P B).tool ≡ false
unfolding set_up
setup_refused P B = go (between 1 P 4 && leb B 16)
  where
    go : (w : Bool) → (set_up_if P B w).answer ≢ 0 → sound_tool (set_up_if P B w).tool ≡ false
    go true n = absurd (n refl)
    go false n = no_tool_unsound

-- ── Inputs ──
module _ (t : Tool) (i : Input) (h : sound_tool t ≡ true) where
  abbrev outcome_if : Bool → Outcome
  outcome_if w = cond w (accepted (state_of t) (state_after (state_of t) i)) (refused t (answer_in (state_of t) i))

  next_sound : sound (state_after (state_of t) i) ≡ true
  next_sound = sound_after (state_of t) i (tool_sound t h)

  pub outcome_is : outcome t i ≡ outcome_if (eqb (answer_in (state_of t) i) 0)
  unfolding outcome outcome_in
  outcome_is = rw h

  -- the state that a tool holds is the one that follows
  pub outcome_state : state_of (outcome t i).tool ≡ state_after (state_of t) i
  unfolding state_after
  outcome_state = ap (λ (o : Outcome). state_of o.tool) outcome_is ∙ go (eqb (answer_in (state_of t) i) 0) refl
    where
      go : (w : Bool) → eqb (answer_in (state_of t) i) 0 ≡ w → state_of (outcome_if w).tool ≡ state_after (state_of t) i
      go true e = held_state (state_after (state_of t) i) next_sound
      go false e = rw e

  -- it answers and reports as the line of a run's table does
  pub outcome_answer : (outcome t i).answer ≡ (line_of (state_of t) i).answer
  outcome_answer = ap (λ (o : Outcome). o.answer) outcome_is ∙ go (eqb (answer_in (state_of t) i) 0) refl
    where
      go : (w : Bool) → eqb (answer_in (state_of t) i) 0 ≡ w → (outcome_if w).answer ≡ answer_in (state_of t) i
      go true e = sym (eqb-true _ 0 e)
      go false e = refl

  pub outcome_reports : (outcome t i).reports ≡ listed (line_of (state_of t) i).reports
  outcome_reports = ap (λ (o : Outcome). o.reports) outcome_is ∙ go (eqb (answer_in (state_of t) i) 0)
    where
      go : (w : Bool) → (outcome_if w).reports ≡ listed (cond w (differences (state_of t) (state_after (state_of t) i)) [])
      go true = refl
      go false = refl

  tool_after : sound_tool (outcome t i).tool ≡ true
  tool_after = rw outcome_is (go (eqb (answer_in (state_of t) i) 0))
    where
      go : (w : Bool) → sound_tool (outcome_if w).tool ≡ true
      go true = held_sound (state_after (state_of t) i) next_sound
      go false = h

pub tool_sound_after : (t : Tool) (i : Input) → sound_tool t ≡ true → sound_tool (outcome t i).tool ≡ true
tool_sound_after t i h = tool_after t i h
