-- Demand 3 holds of every run from every valid set-up: document 01's promise, read through the projection.
use Prim.Native.Nat.{ℕ, ◌≤◌, ◌+◌}
use mathlib.Core.Path.{◌≡◌, refl, ap, sym, subst, ◌∙◌}
use mathlib.Core.Bool.{Bool, true, false, cond}
use mathlib.Core.List.{List, [], ◌∷◌, ◌++◌}
use lib.ListN.{length, get_or}
use lib.Dec.{eqb}
use Rattle.lists.proofs.Bools.{clash, and_r, and_i, or_l}
use Rattle.records.specs.declared.name.Name.{Name}
use Rattle.records.specs.Maps.{in_map}
use Rattle.records.specs.Carriers.{id_ok}
use Rattle.rules.specs.State as base
use Rattle.rules.specs.State.{record_of}
use Rattle.rules.specs.Sound as base_sound
use Rattle.rules.specs.Seen.{Input, see}
use Rattle.rules.specs.Outcome as base-outcome
use Rattle.rules.specs.History as base-history
use Rattle.rules.specs.History.{Event, is_live, history, done, verified, was_cancelled}
use Rattle.rules.specs.Promise.{Live}
use Rattle.rules.proofs.Backed.{Backed}
use Rattle.rules.proofs.Earned.{each_told}
use Rattle.rules.proofs.SoundRuns.{sound_run, few_run}
use Rattle.rules.proofs.Orderly.{orderly}
use Rattle.maps.specs.Expected.{no_map, equals}
use Rattle.maps.specs.State.{Mapped, start}
use Rattle.maps.specs.Rows.{codes_in}
use Rattle.maps.specs.Outcome.{answer_in, state_after}
use Rattle.maps.specs.Projection.{reached, equal_map, proceed, stands_for, cut_down}
use Rattle.maps.specs.History.{events, made_with, matched}
use Rattle.maps.specs.Promise.{Promise}
use Rattle.maps.proofs.Projected.{equal_ok, base_sound_run, projected, open_ok_run}
use Rattle.maps.proofs.Kept.{live_at, none_live, map_made_with}
use Rattle.maps.proofs.Happened.{e, b, p, refused_done, refused_live, same_done, same_there, done_name, five}
use Rattle.maps.proofs.Happened.{nothing_else, proceeds_only, found_lives, found_name, mid_live, after_live}
use Rattle.maps.proofs.Retold.{Retold, retold_none, retold_refused, retold_same, retold_equal}

module _ (P B : ℕ) (lo : 1 ≤ P) (hi : P ≤ 4) (few : B ≤ 16) where
  -- the history of a name here, and in document 01's run
  abbrev here : List Input → Name → List Event
  here run n = history n (events (start P B) run)

  abbrev there : List Input → Name → List Event
  there run n = history n (base-history.events (base.start P B) (cut_down (start P B) run))

  -- what document 01 has proved of each record
  backed : (run : List Input) (k : ℕ) → Live (reached (start P B) run).base k
      → Backed (there run (record_of (reached (start P B) run).base k).name) (record_of (reached (start P B) run).base k)
  unfolding record_of
  backed run =
      subst (λ u. (k : ℕ) → Live u k → Backed (there run (record_of u k).name) (record_of u k)) (projected P B lo hi few run)
      (each_told (base.start P B) refl (sound_run P B lo hi few) (cut_down (start P B) run))

  module _ (earlier : List Input) (i : Input) (n : Name) where
    abbrev s : Mapped
    s = reached (start P B) earlier

    abbrev Before : Type 0
    Before = is_live s.base n ≡ true → Retold n (there earlier n) (here earlier n)

    -- document 01's histories, by what an input stands for
    abbrev one : List Event
    one = b s i n ∷ cond (is_live s.base n) (there earlier n) []

    there_one : history n (base-history.events (base.start P B) (i ∷ cut_down (start P B) earlier)) ≡ one
    unfolding base-history.events history
    there_one = rw (projected P B lo hi few earlier)

    there_two : history n (base-history.events (base.start P B) (proceed i ∷ i ∷ cut_down (start P B) earlier))
        ≡ record {
          before = base-outcome.state_after s.base i;
          input = proceed i;
          answer = base-outcome.answer_in (base-outcome.state_after s.base i) (proceed i);
        }
        ∷ cond (is_live (base-outcome.state_after s.base i) n) one []
    unfolding base-history.events history base-history.reached
    there_two = rw (projected P B lo hi few earlier)

    here_one : here (i ∷ earlier) n ≡ e s i n ∷ cond (is_live s.base n) (here earlier n) []
    unfolding events history
    here_one = refl

    -- what an accepted input adds to both
    as_one : eqb (answer_in s i) 0 ≡ true → Before → Retold n one (e s i n ∷ cond (is_live s.base n) (here earlier n) [])
    as_one a r = go (is_live s.base n) refl
      where
        go : (w : Bool) → is_live s.base n ≡ w
            → Retold n (b s i n ∷ cond w (there earlier n) []) (e s i n ∷ cond w (here earlier n) [])
        go true l = retold_same n (b s i n) (e s i n) _ _ (same_done s i n a) (same_there s i n a) (r l)
        go false l = retold_same n (b s i n) (e s i n) _ _ (same_done s i n a) (same_there s i n a) (retold_none n)

    module _ (a : eqb (answer_in s i) 0 ≡ true) (q : equal_map s i ≡ true) (l : is_live s.base n ≡ true) (r : Before) where
      h : base_sound.sound s.base ≡ true
      h = base_sound_run P B lo hi few earlier

      abbrev k : ℕ
      k = (see s.base i).stands

      k_live : Live s.base k
      k_live = found_lives s i n a q h

      is_n : done 20 n (e s i n) ≡ true → (record_of s.base k).name ≡ n
      is_n d = found_name s i n a q h ∙ done_name s i n a q d

      found_ok : id_ok (record_of s.base k) ≡ true
      unfolding see
      found_ok = equal_ok s i h (open_ok_run P B lo hi few earlier) a q

      was_verified : done 20 n (e s i n) ≡ true → verified n (here earlier n) ≡ true
      was_verified d =
          (r l).verified (subst (λ m. verified m (there earlier m) ≡ true) (is_n d) ((backed earlier k k_live).ok_id found_ok))

      codes_equal : equals (get_or s.maps k no_map) (in_map i.codes) ≡ true
      unfolding equal_map codes_in see
      codes_equal = and_r (eqb i.number 20) _ q

      is_equal : done 20 n (e s i n) ≡ true → matched n (e s i n ∷ here earlier n) ≡ true
      unfolding matched
      is_equal d =
          or_l _ (and_i d (ap (λ m. equals m (in_map i.codes))
          (sym (map_made_with P B lo hi few earlier k k_live ∙ ap (λ m. made_with (here earlier m)) (is_n d))) ∙ codes_equal))

      as_two : Retold n (p s i n a q ∷ b s i n ∷ there earlier n) (e s i n ∷ here earlier n)
      as_two =
          let none = nothing_else s i n a q in
          let only = proceeds_only s i n a q in
          let same = same_done s i n a in
          retold_equal n (p s i n a q) (b s i n) (e s i n) (there earlier n) (here earlier n)
          (five s i n a q) (none 6 refl) (only 16 refl) (λ d. sym (same 20) ∙ d) (only 20 refl)
          (rw (same 16, same 5, none 16 refl, none 5 refl)) was_verified is_equal (r l)

    retold_after : Before → is_live (state_after s i).base n ≡ true → Retold n (there (i ∷ earlier) n) (here (i ∷ earlier) n)
    unfolding cut_down stands_for
    retold_after r l = rw here_one (go (eqb (answer_in s i) 0) refl (equal_map s i) refl)
      where
        go : (w : Bool) → eqb (answer_in s i) 0 ≡ w → (v : Bool) → equal_map s i ≡ v
            → Retold n (history n (base-history.events (base.start P B)
            (cond w (cond v (proceed i ∷ i ∷ []) (i ∷ [])) [] ++ cut_down (start P B) earlier)))
            (e s i n ∷ cond (is_live s.base n) (here earlier n) [])
        go true a true q =
            let y : is_live s.base n ≡ true = sym (after_live s i n a q (base_sound_run P B lo hi few earlier)) ∙ l in
            rw (there_two, mid_live s i n a q (base_sound_run P B lo hi few earlier), y) (as_two a q y r)
        go true a false q = rw there_one (as_one a r)
        go false a v q =
            let y : is_live s.base n ≡ true = refused_live s i n a l in
            rw y (retold_refused n (e s i n) (there earlier n) (here earlier n) (refused_done s i n 6 a) (r y))

  retold : (run : List Input) (n : Name) → is_live (reached (start P B) run).base n ≡ true
      → Retold n (there run n) (here run n)
  unfolding reached
  retold [] n l = clash l (none_live P B n)
  retold (i ∷ earlier) n l = retold_after earlier i n (retold earlier n) l

  not_cancelled : (n : Name) (d h : List Event) → Retold n d h → was_cancelled n d ≡ false
      → was_cancelled n h ≡ false
  not_cancelled n d h r z = go (was_cancelled n h) refl
    where
      go : (w : Bool) → was_cancelled n h ≡ w → w ≡ false
      go true q = clash (r.cancelled q) z
      go false q = refl

  pub promised : (run : List Input) → Promise P B run
  promised run = record {
    orderly = orderly (reached (start P B) run).base (base_sound_run P B lo hi few run);
    few = subst (λ u. length u.carriers ≤ P + B + 16) (projected P B lo hi few run) (few_run P B lo hi few (cut_down (start P B) run));
    earned = λ k l.
        let c = record_of (reached (start P B) run).base k in
        let r = retold run c.name (lives k l) in
        let g = backed run k l in
        record {
          open_verified = λ x. r.verified (g.opens x);
          buffer_verified = λ x. r.verified (g.boxed x);
          open_not_cancelled = λ x. not_cancelled c.name _ _ r (g.uncancelled (g.open_ok x));
          access_released = λ x. r.released (g.accessed x);
        };
  }
    where
      lives : (k : ℕ) → Live (reached (start P B) run).base k
          → is_live (reached (start P B) run).base (record_of (reached (start P B) run).base k).name ≡ true
      lives k l = live_at (reached (start P B) run).base k l
