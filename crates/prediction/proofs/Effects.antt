-- An accepted input changes document 01's part of the state by one effect, and whoever is placed stays placed.
use Prim.Native.Nat.{ℕ, ◌<◌}
use native.Mathlib.Omega.{arith}
use mathlib.Core.Path.{◌≡◌, refl, ap, sym, subst, ◌∙◌}
use mathlib.Core.Bool.{Bool, true, false, cond, ◌&&◌}
use mathlib.Core.List.{List, [], ◌∷◌}
use lib.ListN.{length, get_or}
use lib.Seq.{set_out}
use lib.Dec.{eqb}
use borrow.Author.Tests.{eq-eqb}
use Rattle.lists.specs.Lists.{any}
use Rattle.lists.proofs.Bools.{clash}
use Rattle.lists.proofs.Tables.{without_out}
use Rattle.records.specs.Ports.{no_port}
use Rattle.records.specs.Carriers.{no_carrier, expected}
use Rattle.rules.specs.declared.row.Effect.{Effect}
use Rattle.rules.specs.declared.row.Seen.{Seen}
use Rattle.rules.specs.State.{State, record_of}
use Rattle.rules.specs.Sound as base_sound
use Rattle.rules.specs.Seen.{Input, narrow, see}
use Rattle.rules.specs.Row as row
use Rattle.rules.specs.Row.{judge, lowest, on_port}
use Rattle.rules.proofs.Accepts.{clear}
use Rattle.rules.specs.Rows as base-rows
use Rattle.rules.specs.Inputs.{ReserveAtPort}
use Rattle.rules.proofs.Apt.{Apt, apt}
use Rattle.rules.proofs.SoundParts.{facts}
use Rattle.rules.proofs.SoundFacts.{few_ports}
use Rattle.rules.proofs.SoundRuns.{rows_keep}
use Rattle.maps.specs.State.{Mapped}
use Rattle.maps.specs.Sound as maps-sound
use Rattle.maps.specs.Rows.{codes_in}
use Rattle.maps.specs.Outcome as maps
use Rattle.maps.specs.Projection as maps-runs
use Rattle.maps.proofs.SoundRuns as maps-proofs
use Rattle.maps.proofs.Amended.{at_once, effect_is, accepted_there}
use Rattle.queue.specs.declared.request.Request.{Request}
use Rattle.queue.specs.Requests.{no_request, started_to, started_stands}
use Rattle.queue.specs.State.{Queued, base_of}
use Rattle.queue.specs.Sound.{sound}
use Rattle.queue.specs.Rows.{Row, out_done}
use Rattle.queue.specs.Dispatch.{is_under_way}
use Rattle.queue.specs.Outcome.{row_in, answers_in, answer_in, state_after, goes_in, made_in}
use Rattle.queue.proofs.Free.{none_zero}
use Rattle.queue.proofs.Below.{base_facts, state_below, apt_below}
use Rattle.queue.proofs.SoundRuns.{sound_parts, own_zero, below_zero, last_zero, cleared}
use Rattle.queue.proofs.Outs.{hands_out}
use Rattle.queue.proofs.Ended.{row_done, under_way_there, base_then, goes_then, made_then, out_apt}
use Rattle.queue.proofs.Walk.{walk}

-- a state becomes another by one effect
pub record Changes (s t : State) (goes : ℕ) (made : Bool) : Type 0 where
  pub effect : Effect
  pub apt : Apt s effect
  pub leads : t ≡ row.enact effect s
  pub goes_so : goes ≡ effect.goes
  pub made_so : made ≡ effect.made
  -- what changes comes to be expected only where it was
  pub awaits : effect.changes < length s.carriers → expected effect.next ≡ true → expected (record_of s effect.changes) ≡ true

-- ── One input below ──
module _ (s : Mapped) (i : Input) (h : maps-sound.sound s ≡ true) (a : eqb (maps.answer_in s i) 0 ≡ true) where
  abbrev x : Seen
  x = see s.base i

  abbrev Awaits : Effect → Type 0
  Awaits e = e.changes < length s.base.carriers → expected e.next ≡ true → expected (record_of s.base e.changes) ≡ true

  z : judge (base-rows.row_of i.number x).grounds ≡ 0
  z = accepted_there s i a

  awaits_below : Awaits (maps.row_in s i).effect
  awaits_below = subst Awaits (sym q) (go (eqb i.number 20 && (codes_in s i).equal)
      (rows_keep s.base i (base_facts s h) i.number z (apt s.base i (maps-proofs.sound_parts s h).base i.number z)).awaits)
    where
      q : (maps.row_in s i).effect ≡ cond (eqb i.number 20 && (codes_in s i).equal) (at_once (base-rows.row_of i.number x).effect)
          (base-rows.row_of i.number x).effect
      q = effect_is i.number x (codes_in s i)

      go : (w : Bool) → Awaits (base-rows.row_of i.number x).effect
          → Awaits (cond w (at_once (base-rows.row_of i.number x).effect) (base-rows.row_of i.number x).effect)
      go true k = k
      go false k = k

  pub one_changes : Changes s.base (maps.state_after s i).base (maps.row_in s i).effect.goes (maps.row_in s i).effect.made
  one_changes = record {
    effect = (maps.row_in s i).effect;
    apt = apt_below s i h a;
    leads = state_below s i h a;
    goes_so = refl;
    made_so = refl;
    awaits = awaits_below;
  }

-- ── None ──
module _ (s : State) (h : base_sound.sound s ≡ true) where
  abbrev nothing : Effect
  nothing = on_port (length s.carriers) 0 no_port

  nothing_is : row.enact nothing s ≡ s
  unfolding row.enact
  nothing_is =
      let n = length s.carriers in
      rw (
        set_out s.ports 4 no_port (few_ports s h),
        set_out s.carriers n no_carrier (omega arith),
        without_out s.carriers n (omega arith),
      )

  pub none_changes : Changes s s (length s.carriers) false
  none_changes = record {
    effect = nothing;
    apt = record {
      still = λ _. sym (none_zero s (facts s h));
      apart = λ b. absurd (omega arith);
      named = λ b. absurd (omega arith);
      lone = λ w. clash w refl;
      fresh = λ w. clash w refl;
      none = λ _ _. refl;
    };
    leads = sym nothing_is;
    goes_so = refl;
    made_so = refl;
    awaits = λ b. absurd (omega arith);
  }

-- ── Every input of P5's layer ──
pub started_there : (s : State) (i : Input) (q : List Request) → any (started_to (see s i).port) q ≡ true
    → any (started_to (narrow i.port)) q ≡ true
unfolding see
started_there s i q e = e

module _ (s : Queued) (i : Input) (h : sound s ≡ true) (a : answer_in s i ≡ 0) where
  abbrev Changing : Row → Type 0
  Changing r = answers_in s.mapped r.stands ≡ 0
      → Changes (base_of s) (maps-runs.reached s.mapped r.stands).base (goes_in s.mapped r.stands) (made_in s.mapped r.stands)

  mapped_sound : maps-sound.sound s.mapped ≡ true
  mapped_sound = (sound_parts s h).mapped

  none_change : answers_in s.mapped [] ≡ 0
      → Changes (base_of s) (maps-runs.reached s.mapped []).base (goes_in s.mapped []) (made_in s.mapped [])
  unfolding maps-runs.reached goes_in made_in
  none_change _ = none_changes (base_of s) (maps-proofs.sound_parts s.mapped mapped_sound).base

  one_change : (j : Input) → answers_in s.mapped (j ∷ []) ≡ 0
      → Changes (base_of s) (maps-runs.reached s.mapped (j ∷ [])).base (goes_in s.mapped (j ∷ [])) (made_in s.mapped (j ∷ []))
  unfolding maps-runs.reached goes_in made_in
  one_change j z = one_changes s.mapped j mapped_sound (last_zero s.mapped j [] z)

  after_is : base_of (state_after s i) ≡ (maps-runs.reached s.mapped (row_in s i).stands).base
  unfolding state_after
  after_is = rw a

  -- OutDone: one effect on one port and one record, which is at a port afterwards
  done_change : i.number ≡ 28 → Changes (base_of s) (base_of (state_after s i)) (goes_in s.mapped (row_in s i).stands)
      (made_in s.mapped (row_in s i).stands)
  done_change z = record {
    effect = hands_out (base_of s) p ending.name;
    apt = out_apt s i h z ending.name under_way_fact;
    leads = base_then s i h z ending.name under_way_fact;
    goes_so = goes_then s i h z ending.name under_way_fact;
    made_so = made_then s i h z ending.name under_way_fact;
    awaits = λ _ e. clash e refl;
  }
    where
      q : List Request
      q = s.queue

      p : ℕ
      p = narrow i.port

      x : Seen
      x = see (base_of s) i

      own : lowest (out_done q x i).grounds ≡ 0
      own = ap (λ (r : Row). lowest r.grounds) (sym (row_done i.number (base_of s) q x i z)) ∙ own_zero s i (eq-eqb _ 0 a)

      some : any (started_to x.port) q ≡ true
      some = let gs = (out_done q x i).grounds in (clear gs refl (cleared gs refl own)).1.0

      ending : Request
      ending = get_or q (started_stands p q) no_request

      under_way_fact : is_under_way ending.name p q ≡ true
      under_way_fact = under_way_there p q (started_there (base_of s) i q some)

  pub input_changes : Changes (base_of s) (base_of (state_after s i)) (goes_in s.mapped (row_in s i).stands)
      (made_in s.mapped (row_in s i).stands)
  input_changes = subst Here (sym after_is) (walk Changing i.number (base_of s) s.queue (see (base_of s) i) i (record {
    cancel_carrier = λ _. one_change i;
    carrier_out = λ _. none_change;
    cancel_reservation_at_port = λ _. one_change i;
    load_start = λ _. one_change i;
    open_row = λ _. one_change i;
    out_start = λ _. one_change (ReserveAtPort i.port);
    out_done = done_row;
    cancel_carrier_out = λ _. none_change;
    cancel_all_carrier_out = λ _. none_change;
    other = λ _. one_change i;
  }) (below_zero s i (eq-eqb _ 0 a)))
    where
      Here : State → Type 0
      Here t = Changes (base_of s) t (goes_in s.mapped (row_in s i).stands) (made_in s.mapped (row_in s i).stands)

      done_row : i.number ≡ 28 → Changing (out_done s.queue (see (base_of s) i) i)
      done_row z _ = subst Of (row_done i.number (base_of s) s.queue (see (base_of s) i) i z) (subst Here after_is (done_change z))
        where
          Of : Row → Type 0
          Of r = Changes (base_of s) (maps-runs.reached s.mapped r.stands).base (goes_in s.mapped r.stands) (made_in s.mapped r.stands)
