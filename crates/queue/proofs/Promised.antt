-- Demand 3 holds of every run from every valid set-up: P1's promise, read through the projection.
use Prim.Native.Nat.{ℕ, zero, suc, ◌≤◌, ◌<◌, ◌+◌}
use native.Mathlib.Omega.{arith}
use mathlib.Core.Path.{◌≡◌, refl, ap, sym, subst, ◌∙◌}
use mathlib.Core.Bool.{Bool, true, false, cond, ◌||◌}
use mathlib.Core.List.{List, [], ◌∷◌, ◌++◌}
use lib.ListN.{length, get_or, set}
use lib.Dec.{eqb}
use borrow.Author.Tests.{eqb-true}
use Rattle.lists.specs.Lists.{any, without}
use Rattle.lists.proofs.Bools.{clash, or_r}
use Rattle.records.specs.declared.name.Name.{Name}
use Rattle.records.specs.Names.{same_name}
use Rattle.records.specs.Carriers.{no_carrier}
use Rattle.rules.specs.declared.row.Effect.{Effect}
use Rattle.rules.specs.State.{State, record_of}
use Rattle.rules.specs.Seen.{Input, is_named, see}
use Rattle.rules.specs.Row as row
use Rattle.rules.specs.Rows as base
use Rattle.rules.specs.Inputs.{ReserveAtPort, CancelReservationAtPort, CarrierOut}
use Rattle.rules.specs.History.{Event, is_live, history}
use Rattle.rules.specs.Promise.{Live, Orderly}
use Rattle.rules.proofs.Apt.{Apt}
use Rattle.maps.specs.State as maps-state
use Rattle.maps.specs.State.{Mapped}
use Rattle.maps.specs.Sound as maps-sound
use Rattle.maps.specs.Rows as maps-rows
use Rattle.maps.specs.Outcome as maps
use Rattle.maps.specs.Projection as maps-runs
use Rattle.maps.specs.History as maps-history
use Rattle.maps.specs.Promise as maps-promise
use Rattle.maps.specs.Promise.{Earned}
use Rattle.maps.proofs.Kept.{live_at, none_live}
use Rattle.maps.proofs.SoundRuns as maps-proofs
use Rattle.maps.proofs.Promised as maps-promised
use Rattle.queue.specs.declared.request.Request.{Request}
use Rattle.queue.specs.Requests.{started_to}
use Rattle.queue.specs.State.{Queued, base_of, start}
use Rattle.queue.specs.Rows.{Row, text_of, out_done, comes_out}
use Rattle.queue.specs.Outcome.{row_in, answers_in, answer_in, enact, state_after}
use Rattle.queue.specs.Projection.{reached, stands_for, cut_down}
use Rattle.queue.specs.Promise.{events, Promise}
use Rattle.queue.proofs.Below.{state_below, apt_below}
use Rattle.queue.proofs.SoundRuns.{sound_parts, sound_start, sound_reached, last_zero, earlier_zero, below_zero}
use Rattle.queue.proofs.Projected.{below}
use Rattle.queue.proofs.Same.{Silent, silent_refused, silent_number, Same, alone, both, here, there, same_earned}
use Rattle.queue.proofs.Walk.{walk}

-- ── An input below that makes no record makes no name live ──
module _ {A : Type 0} (f : A → Bool) where
  any_without : (g : ℕ) (l : List A) → any f (without g l) ≡ true → any f l ≡ true
  unfolding any without
  any_without g [] e = e
  any_without zero (x ∷ l) e = or_r (f x) e
  any_without (suc g) (x ∷ l) e = go (f x) e (any_without g l)
    where
      go : (w : Bool) → (w || any f (without g l)) ≡ true → (any f (without g l) ≡ true → any f l ≡ true) → (w || any f l) ≡ true
      go true e r = refl
      go false e r = r e

  any_set : (l : List A) (k : ℕ) (y d : A) → (k < length l → f y ≡ f (get_or l k d)) → any f (set l k y) ≡ true → any f l ≡ true
  unfolding any
  any_set [] k y d h e = e
  any_set (x ∷ l) zero y d h e = ap (λ b. b || any f l) (sym (h (omega arith))) ∙ e
  any_set (x ∷ l) (suc k) y d h e = go (f x) e (any_set l k y d (λ b. h (omega arith)))
    where
      go : (w : Bool) → (w || any f (set l k y)) ≡ true → (any f (set l k y) ≡ true → any f l ≡ true) → (w || any f l) ≡ true
      go true e r = refl
      go false e r = r e

live_before : (s : State) (e : Effect) (n : Name) → Apt s e → e.made ≡ false → is_live (row.enact e s) n ≡ true → is_live s n ≡ true
unfolding is_live row.enact
live_before s e n a m l =
    any_set (is_named n) s.carriers e.changes e.next no_carrier (λ b. ap (λ o. same_name o n) (a.named b))
    (any_without (is_named n) e.goes _ (rw m at l))

live_below : (s : Mapped) (i : Input) (n : Name) → maps-sound.sound s ≡ true → eqb (maps.answer_in s i) 0 ≡ true
    → (maps.row_in s i).effect.made ≡ false → is_live (maps.state_after s i).base n ≡ true → is_live s.base n ≡ true
live_below s i n h a m l = live_before s.base (maps.row_in s i).effect n (apt_below s i h a) m (rw (state_below s i h a) at l)

-- rows 11, 12 and 7 make no record
module _ (s : Mapped) (port : ℕ) (name : List ℕ) where
  reserve_makes : (maps.row_in s (ReserveAtPort port)).effect.made ≡ false
  unfolding maps-rows.row_of base.row_of
  reserve_makes = refl

  cancel_makes : (maps.row_in s (CancelReservationAtPort port)).effect.made ≡ false
  unfolding maps-rows.row_of base.row_of
  cancel_makes = refl

  out_makes : (maps.row_in s (CarrierOut name port)).effect.made ≡ false
  unfolding maps-rows.row_of base.row_of
  out_makes = refl

-- ── Histories here and there ──
abbrev happens : Mapped → Input → ℕ → Event
happens s i a = record { before = s.base; input = i; answer = a }

module _ (P B : ℕ) (lo : 1 ≤ P) (hi : P ≤ 4) (few : B ≤ 16) where
  abbrev here_of : List Input → Name → List Event
  here_of run n = history n (events (start P B) run)

  abbrev there_of : List Input → Name → List Event
  there_of run n = history n (maps-history.events (maps-state.start P B) (cut_down (start P B) run))

  module _ (earlier : List Input) (i : Input) (n : Name) where
    abbrev s : Queued
    s = reached (start P B) earlier

    h : maps-sound.sound s.mapped ≡ true
    h = (sound_parts s (sound_reached (start P B) (sound_start P B lo hi few) earlier)).mapped

    abbrev Before : Type 0
    Before = is_live (base_of s) n ≡ true → Same n (there_of earlier n) (here_of earlier n)

    -- the event here, and the histories there by what the input stands for
    abbrev e : Event
    e = happens s.mapped i (answer_in s i)

    abbrev Tells : List Input → Type 0
    Tells stands =
        Same n (history n (maps-history.events (maps-state.start P B) (stands ++ cut_down (start P B) earlier)))
        (e ∷ cond (is_live (base_of s) n) (here_of earlier n) [])

    there_one : (j : Input)
        → history n (maps-history.events (maps-state.start P B) (j ∷ cut_down (start P B) earlier))
        ≡ happens s.mapped j (maps.answer_in s.mapped j) ∷ cond (is_live (base_of s) n) (there_of earlier n) []
    unfolding maps-history.events history
    there_one j = rw (below (start P B) earlier)

    there_two : (k j : Input)
        → history n (maps-history.events (maps-state.start P B) (k ∷ j ∷ cut_down (start P B) earlier))
        ≡ happens (maps.state_after s.mapped j) k (maps.answer_in (maps.state_after s.mapped j) k)
        ∷ cond (is_live (maps.state_after s.mapped j).base n)
        (happens s.mapped j (maps.answer_in s.mapped j) ∷ cond (is_live (base_of s) n) (there_of earlier n) []) []
    unfolding maps-history.events history maps-runs.reached
    there_two k j = rw (below (start P B) earlier)

    here_one : here_of (i ∷ earlier) n ≡ e ∷ cond (is_live (base_of s) n) (here_of earlier n) []
    unfolding events history
    here_one = refl

    module _ (r : Before) where
      -- an input that stands for none
      none_tells : Silent n e → is_live (base_of s) n ≡ true → Tells []
      none_tells q l = rw l (here e q (r l))

      -- an input that stands for itself: the same event
      passed_tells : answer_in s i ≡ 0 → answers_in s.mapped (i ∷ []) ≡ 0 → Tells (i ∷ [])
      unfolding maps-runs.reached
      passed_tells a z =
          let b : maps.answer_in s.mapped i ≡ 0 = eqb-true _ 0 (last_zero s.mapped i [] z) in
          rw (there_one i, a, b) (go (is_live (base_of s) n) refl)
        where
          go : (w : Bool) → is_live (base_of s) n ≡ w
              → Same n (happens s.mapped i 0 ∷ cond w (there_of earlier n) []) (happens s.mapped i 0 ∷ cond w (here_of earlier n) [])
          go true l = both (happens s.mapped i 0) (r l)
          go false l = alone (happens s.mapped i 0)

      -- OutStart
      start_tells : Silent n e → answers_in s.mapped (ReserveAtPort i.port ∷ []) ≡ 0
          → is_live (maps-runs.reached s.mapped (ReserveAtPort i.port ∷ [])).base n ≡ true → Tells (ReserveAtPort i.port ∷ [])
      unfolding maps-runs.reached
      start_tells q z l =
          let j = ReserveAtPort i.port in
          let m = live_below s.mapped j n h (last_zero s.mapped j [] z) (reserve_makes s.mapped i.port []) l in
          rw (there_one j, m) (here e q (there _ (silent_number n _ refl refl refl refl) (r m)))

      -- OutDone
      done_tells : Silent n e → (name : List ℕ) → let j = CancelReservationAtPort i.port in let k = CarrierOut name i.port in
          answers_in s.mapped (k ∷ j ∷ []) ≡ 0 → is_live (maps-runs.reached s.mapped (k ∷ j ∷ [])).base n ≡ true → Tells (k ∷ j ∷ [])
      unfolding maps-runs.reached
      done_tells q name z l =
          let j = CancelReservationAtPort i.port in
          let k = CarrierOut name i.port in
          let t = maps.state_after s.mapped j in
          let u = maps-proofs.sound_after s.mapped j h in
          let v = live_below t k n u (last_zero s.mapped k (j ∷ []) z) (out_makes t i.port name) l in
          let m = live_below s.mapped j n h (last_zero s.mapped j [] (earlier_zero s.mapped k (j ∷ []) z))
          (cancel_makes s.mapped i.port []) v in
          rw (there_two k j, v, m)
          (here e q (there _ (silent_number n _ refl refl refl refl) (there _ (silent_number n _ refl refl refl refl) (r m))))

      -- ── Row by row ──
      abbrev Told : Row → Type 0
      Told w = answers_in s.mapped w.stands ≡ 0 → is_live (maps-runs.reached s.mapped w.stands).base n ≡ true → Tells w.stands

      silent_row : (k : ℕ) → i.number ≡ k → eqb k 5 ≡ false → eqb k 6 ≡ false → eqb k 16 ≡ false → eqb k 20 ≡ false → Silent n e
      silent_row k z a b c d = silent_number n e (rw z a) (rw z b) (rw z c) (rw z d)

      nothing_tells : (k : ℕ) → i.number ≡ k → eqb k 5 ≡ false → eqb k 6 ≡ false → eqb k 16 ≡ false → eqb k 20 ≡ false
          → answers_in s.mapped [] ≡ 0 → is_live (maps-runs.reached s.mapped []).base n ≡ true → Tells []
      unfolding maps-runs.reached
      nothing_tells k z a b c d _ l = none_tells (silent_row k z a b c d) l

      out_tells : i.number ≡ 28 → Told (out_done s.queue (see (base_of s) i) i)
      unfolding maps-runs.reached
      out_tells z = go (any (started_to (see (base_of s) i).port) s.queue) (get_or s.queue _ _)
        where
          q : Silent n e
          q = silent_row 28 z refl refl refl refl

          go : (w : Bool) (t : Request) → let stands = cond w (comes_out t i) [] in
              answers_in s.mapped stands ≡ 0 → is_live (maps-runs.reached s.mapped stands).base n ≡ true → Tells stands
          go true t = done_tells q (text_of t.name)
          go false t = λ _ l. none_tells q l

      rows_tell : answer_in s i ≡ 0 → Told (row_in s i)
      rows_tell a = walk Told i.number (base_of s) s.queue (see (base_of s) i) i (record {
        cancel_carrier = λ _ z _. passed_tells a z;
        carrier_out = λ z. nothing_tells 7 z refl refl refl refl;
        cancel_reservation_at_port = λ _ z _. passed_tells a z;
        load_start = λ _ z _. passed_tells a z;
        open_row = λ _ z _. passed_tells a z;
        out_start = λ z. start_tells (silent_row 27 z refl refl refl refl);
        out_done = out_tells;
        cancel_carrier_out = λ z. nothing_tells 29 z refl refl refl refl;
        cancel_all_carrier_out = λ z. nothing_tells 30 z refl refl refl refl;
        other = λ _ z _. passed_tells a z;
      })

      same_after : is_live (base_of (state_after s i)) n ≡ true → Same n (there_of (i ∷ earlier) n) (here_of (i ∷ earlier) n)
      unfolding cut_down stands_for state_after
      same_after l = rw here_one (go (eqb (answer_in s i) 0) refl l)
        where
          go : (w : Bool) → eqb (answer_in s i) 0 ≡ w → is_live (base_of (cond w (enact (row_in s i) s) s)) n ≡ true
              → Tells (cond w (row_in s i).stands [])
          go true a l = rows_tell (eqb-true _ 0 a) (below_zero s i a) l
          go false a l = none_tells (silent_refused n e a) l

  same : (run : List Input) (n : Name) → is_live (base_of (reached (start P B) run)) n ≡ true → Same n (there_of run n) (here_of run n)
  unfolding reached
  same [] n l = clash l (none_live P B n)
  same (i ∷ earlier) n l = same_after earlier i n (same earlier n) l

  pub promised : (run : List Input) → Promise P B run
  promised run = record {
    orderly = subst (λ (t : Mapped). Orderly t.base) b p.orderly;
    few = subst (λ (t : Mapped). length t.base.carriers ≤ P + B + 16) b p.few;
    earned = λ k l.
        let c = record_of (base_of (reached (start P B) run)) k in
        same_earned _ _ c (same run c.name (live_at (base_of (reached (start P B) run)) k l)) (there_earned k l);
  }
    where
      b : maps-runs.reached (maps-state.start P B) (cut_down (start P B) run) ≡ (reached (start P B) run).mapped
      b = below (start P B) run

      p : maps-promise.Promise P B (cut_down (start P B) run)
      p = maps-promised.promised P B lo hi few (cut_down (start P B) run)

      there_earned : (k : ℕ) → Live (base_of (reached (start P B) run)) k
          → Earned (there_of run (record_of (base_of (reached (start P B) run)) k).name) (record_of (base_of (reached (start P B) run)) k)
      there_earned =
          subst (λ (t : Mapped). (k : ℕ) → Live t.base k → Earned (there_of run (record_of t.base k).name) (record_of t.base k)) b
          p.earned
