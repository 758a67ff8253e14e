-- Every input but CancelCarrier makes no port READY TO UNLOAD, or no record goes and none is made.
use Prim.Native.Nat.{ℕ, ◌≤◌}
use native.Mathlib.Omega.{arith}
use native.Mathlib.Decide.{ℕ_discrete}
use mathlib.Core.Path.{◌≡◌, refl, ap, sym, subst, ◌∙◌}
use mathlib.Core.Logic.{◌≢◌}
use mathlib.Core.Bool.{Bool, true, false, cond, ◌&&◌}
use mathlib.Core.List.{List, [], ◌∷◌}
use lib.ListN.{length, get_or}
use lib.Dec.{eqb}
use borrow.Author.Tests.{eq-eqb}
use Rattle.lists.specs.Lists.{any}
use Rattle.lists.proofs.Bools.{clash, and_l, not_true}
use Rattle.records.specs.Ports.{no_port, unbound}
use Rattle.records.specs.Fields.{tied_to}
use Rattle.rules.specs.declared.row.Seen.{Seen}
use Rattle.rules.specs.declared.row.Effect.{Effect}
use Rattle.rules.specs.State.{State, port_of}
use Rattle.rules.specs.Seen.{Input, narrow, see}
use Rattle.rules.specs.Row as row
use Rattle.rules.specs.Row.{judge, lowest, placed}
use Rattle.rules.specs.Booking.{meant, meant_port, one_pair, cancel_bind}
use Rattle.rules.specs.Rows as base-rows
use Rattle.rules.specs.Inputs.{ReserveAtPort}
use Rattle.rules.proofs.Accepts.{Clear, clear, walk_accepting, never}
use Rattle.rules.proofs.SoundParts.{Facts}
use Rattle.rules.proofs.Keep.{port_after, other_port_after}
use Rattle.rules.proofs.KeepSeen.{held_tied, held_there}
use Rattle.maps.specs.State.{Mapped}
use Rattle.maps.specs.Sound as maps-sound
use Rattle.maps.specs.Rows.{codes_in}
use Rattle.maps.specs.Outcome as maps
use Rattle.maps.specs.Projection as maps-runs
use Rattle.maps.proofs.Amended.{at_once, effect_is, accepted_there}
use Rattle.queue.specs.declared.request.Request.{Request}
use Rattle.queue.specs.Requests.{no_request, started_to, started_stands}
use Rattle.queue.specs.State.{Queued, base_of}
use Rattle.queue.specs.Sound.{sound}
use Rattle.queue.specs.Rows.{Row, out_done}
use Rattle.queue.specs.Dispatch.{is_under_way}
use Rattle.queue.specs.Outcome.{row_in, answers_in, answer_in, state_after, goes_in, made_in}
use Rattle.queue.proofs.Below.{base_facts, state_below, apt_below}
use Rattle.queue.proofs.SoundRuns.{sound_parts, own_zero, below_zero, last_zero, cleared}
use Rattle.queue.proofs.Ended.{row_done, under_way_there, goes_then, made_then}
use Rattle.queue.proofs.Walk.{walk}
use Rattle.prediction.proofs.Effects.{started_there}

-- ── The effect of a row of document 01 ──
-- no port becomes READY TO UNLOAD, and it isn't row 21; or no record goes and none is made
data MildEffect (s : State) (n : ℕ) (e : Effect) : Type 0 where
  calm : eqb n 21 ≡ false → (e.becomes.transfer ≡ 2 → (port_of s e.port).transfer ≡ 2) → MildEffect s n e
  still : length s.carriers ≤ e.goes → e.made ≡ false → MildEffect s n e

module _ (s : State) (i : Input) (f : Facts s) where
  abbrev x : Seen
  x = see s i

  -- row 2: the port that is meant is the carrier's
  meant_port_fact : (meant x).port ≢ 0 → meant_port x ≡ port_of s (meant x).port
  unfolding meant meant_port see
  meant_port_fact n = go x.blank n
    where
      go : (w : Bool) → (cond w x.held x.found).port ≢ 0 → cond w x.here x.home ≡ port_of s (cond w x.held x.found).port
      go true n = sym (ap (port_of s) (held_tied s i f (held_there s i f n)))
      go false n = refl

  meant_calm : Clear (cancel_bind x).grounds → (unbound (meant_port x)).transfer ≡ 2 → (port_of s (meant x).port).transfer ≡ 2
  unfolding one_pair
  meant_calm k e =
      let u = not_true _ (and_l _ _ (and_l _ _ (and_l _ _ k.1.1.1.1.0))) in
      rw (← meant_port_fact (λ z. clash (eq-eqb (meant x).port 0 z) u)) e

  -- row 5: a carrier that is placed leaves its port, any other leaves the transfer of the port given
  proceed_calm : (w : Bool) → (cond w no_port (tied_to x.name x.here)).transfer ≡ 2 → (port_of s (cond w 0 x.port)).transfer ≡ 2
  unfolding see
  proceed_calm true e = absurd (omega arith)
  proceed_calm false e = e

  abbrev Mildly : ℕ → Effect → Type 0
  Mildly n e = eqb n 6 ≡ false → MildEffect s n e

  mild_row : (n : ℕ) → judge (base-rows.row_of n x).grounds ≡ 0 → Mildly n (base-rows.row_of n x).effect
  unfolding see
  mild_row = walk_accepting Mildly x (record {
    bind = λ _ _. calm refl (λ e. e);
    cancel_bind = λ k _. calm refl (meant_calm k);
    carrier_notification = λ _ _. calm refl (λ e. absurd (omega arith));
    cancel_carrier_notification = λ _ _. calm refl (λ e. absurd (omega arith));
    proceed_with_carrier = λ _ _. calm refl (proceed_calm (placed x));
    cancel_carrier = λ _ z. clash refl z;
    carrier_out = λ _ _. still (omega arith) refl;
    carrier_in = λ _ _. still (omega arith) refl;
    change_access = λ _ _. still (omega arith) refl;
    change_service_status = λ _ _. still (omega arith) refl;
    reserve_at_port = λ _ _. still (omega arith) refl;
    cancel_reservation_at_port = λ _ _. still (omega arith) refl;
    load_start = λ _ _. still (omega arith) refl;
    load_done = λ _ _. still (omega arith) refl;
    load_fail = λ _ _. still (omega arith) refl;
    id_read = λ _ _. calm refl (λ e. e);
    id_read_failed = λ _ _. still (omega arith) refl;
    move_in = λ _ _. still (omega arith) refl;
    open_row = λ _ _. still (omega arith) refl;
    slot_map = λ _ _. still (omega arith) refl;
    access_start = λ _ _. still (omega arith) refl;
    access_end = λ _ _. still (omega arith) refl;
    close_row = λ _ _. still (omega arith) refl;
    unload_start = λ _ _. still (omega arith) refl;
    unload_done = λ _ _. calm refl (λ e. absurd (omega arith));
    unload_fail = λ _ _. still (omega arith) refl;
    none = λ _. never;
  })

-- ── What an input makes of a state ──
pub data Mild (n : ℕ) (s t : State) (goes : ℕ) (made : Bool) : Type 0 where
  calm : eqb n 21 ≡ false → ((p : ℕ) → (port_of t p).transfer ≡ 2 → (port_of s p).transfer ≡ 2) → Mild n s t goes made
  still : length s.carriers ≤ goes → made ≡ false → Mild n s t goes made

-- one input below
module _ (s : Mapped) (i : Input) (h : maps-sound.sound s ≡ true) (a : eqb (maps.answer_in s i) 0 ≡ true) (n : ℕ)
    (six : eqb i.number 6 ≡ false) (twenty_one : eqb i.number 21 ≡ false → eqb n 21 ≡ false) where
  abbrev e : Effect
  e = (maps.row_in s i).effect

  abbrev f : Facts s.base
  f = base_facts s h

  mild_effect : MildEffect s.base i.number e
  mild_effect =
      subst (MildEffect s.base i.number) (sym (effect_is i.number (see s.base i) (codes_in s i)))
      (go (eqb i.number 20 && (codes_in s i).equal) (mild_row s.base i f i.number (accepted_there s i a) six))
    where
      b : Effect
      b = (base-rows.row_of i.number (see s.base i)).effect

      go : (w : Bool) → MildEffect s.base i.number b → MildEffect s.base i.number (cond w (at_once b) b)
      go true (calm z k) = calm z k
      go true (still g m) = still g m
      go false k = k

  calm_ports : (e.becomes.transfer ≡ 2 → (port_of s.base e.port).transfer ≡ 2) → (p : ℕ)
      → (port_of (row.enact e s.base) p).transfer ≡ 2 → (port_of s.base p).transfer ≡ 2
  calm_ports k p = go (ℕ_discrete p e.port)
    where
      go : Dec (p ≡ e.port) → (port_of (row.enact e s.base) p).transfer ≡ 2 → (port_of s.base p).transfer ≡ 2
      go (yes z) o = rw z (k (rw (z, port_after s.base f e (apt_below s i h a)) at o))
      go (no d) o = rw (other_port_after s.base f e (apt_below s i h a) p d) at o

  one_mild : Mild n s.base (maps.state_after s i).base e.goes e.made
  one_mild = rw (state_below s i h a) (go mild_effect)
    where
      go : MildEffect s.base i.number e → Mild n s.base (row.enact e s.base) e.goes e.made
      go (calm z k) = calm (twenty_one z) (calm_ports k)
      go (still g m) = still g m

-- every input of P5's layer
module _ (s : Queued) (i : Input) (h : sound s ≡ true) (a : answer_in s i ≡ 0) (six : eqb i.number 6 ≡ false) where
  -- by inputs below
  abbrev By : List Input → Type 0
  By js = Mild i.number (base_of s) (maps-runs.reached s.mapped js).base (goes_in s.mapped js) (made_in s.mapped js)

  abbrev Of : Row → Type 0
  Of r = By r.stands

  abbrev Accepted : Row → Type 0
  Accepted r = answers_in s.mapped r.stands ≡ 0 → Of r

  none_mild : By []
  unfolding maps-runs.reached goes_in made_in
  none_mild = still (omega arith) refl

  input_mild : (j : Input) → eqb j.number 6 ≡ false → (eqb j.number 21 ≡ false → eqb i.number 21 ≡ false)
      → answers_in s.mapped (j ∷ []) ≡ 0 → By (j ∷ [])
  unfolding maps-runs.reached goes_in made_in
  input_mild j u v z = one_mild s.mapped j (sound_parts s h).mapped (last_zero s.mapped j [] z) i.number u v

  -- OutDone: nobody goes, and nobody is made
  done_mild : i.number ≡ 28 → Of (out_done s.queue (see (base_of s) i) i)
  done_mild z = still (rw goes (omega arith)) made
    where
      q : List Request
      q = s.queue

      x : Seen
      x = see (base_of s) i

      p : ℕ
      p = narrow i.port

      r : row_in s i ≡ out_done q x i
      r = row_done i.number (base_of s) q x i z

      own : lowest (out_done q x i).grounds ≡ 0
      own = ap (λ (r : Row). lowest r.grounds) (sym r) ∙ own_zero s i (eq-eqb _ 0 a)

      some : any (started_to x.port) q ≡ true
      some = let gs = (out_done q x i).grounds in (clear gs refl (cleared gs refl own)).1.0

      under_way_fact : is_under_way (get_or q (started_stands p q) no_request).name p q ≡ true
      under_way_fact = under_way_there p q (started_there (base_of s) i q some)

      goes : goes_in s.mapped (out_done q x i).stands ≡ length (base_of s).carriers
      goes = ap (λ (r : Row). goes_in s.mapped r.stands) (sym r) ∙ goes_then s i h z _ under_way_fact

      made : made_in s.mapped (out_done q x i).stands ≡ false
      made = ap (λ (r : Row). made_in s.mapped r.stands) (sym r) ∙ made_then s i h z _ under_way_fact

  not_six : {X : Type 0} → i.number ≡ 6 → X
  not_six z = clash (eq-eqb i.number 6 z) six

  itself : answers_in s.mapped (i ∷ []) ≡ 0 → By (i ∷ [])
  itself = input_mild i six (λ z. z)

  after_is : base_of (state_after s i) ≡ (maps-runs.reached s.mapped (row_in s i).stands).base
  unfolding state_after
  after_is = rw a

  pub mild : Mild i.number (base_of s) (base_of (state_after s i)) (goes_in s.mapped (row_in s i).stands)
      (made_in s.mapped (row_in s i).stands)
  mild =
      rw after_is (walk Accepted i.number (base_of s) s.queue (see (base_of s) i) i (record {
        cancel_carrier = λ z. not_six z;
        carrier_out = λ _ _. none_mild;
        cancel_reservation_at_port = λ _. itself;
        load_start = λ _. itself;
        open_row = λ _. itself;
        out_start = λ z. input_mild (ReserveAtPort i.port) refl (λ _. ap (λ n. eqb n 21) z);
        out_done = λ z _. done_mild z;
        cancel_carrier_out = λ _ _. none_mild;
        cancel_all_carrier_out = λ _ _. none_mild;
        other = λ _. itself;
      }) (below_zero s i (eq-eqb _ 0 a)))
