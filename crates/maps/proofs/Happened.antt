-- What an input that is accepted here did there: nothing else, or for an equal map SlotMap and then ProceedWithCarrier.
use Prim.Native.Nat.{ℕ, suc, zero, ◌<◌}
use native.Mathlib.Nat.{le_of_suc-le-suc}
use native.Mathlib.Omega.{arith}
use mathlib.Core.Path.{◌≡◌, refl, ap, sym, ◌∙◌}
use mathlib.Core.Bool.{Bool, true, false, ◌&&◌, ◌||◌}
use mathlib.Core.List.{List, [], ◌∷◌}
use lib.ListN.{length, get_or, set, length-set}
use lib.Dec.{eqb}
use borrow.Author.Tests.{eq-eqb}
use Rattle.lists.specs.Lists.{any}
use Rattle.lists.proofs.Bools.{and_r, and_i}
use Rattle.lists.proofs.Tables.{without_out}
use Rattle.lists.proofs.Tests.{where_holds}
use Rattle.records.specs.declared.name.Name.{Name}
use Rattle.records.specs.declared.carrier.Carrier.{Carrier}
use Rattle.records.specs.Names.{in_bytes, same_name}
use Rattle.records.specs.Carriers.{no_carrier, with_map}
use Rattle.records.specs.Fields.{with_slot}
use Rattle.rules.specs.declared.row.Seen.{Seen}
use Rattle.rules.specs.State.{State, record_of}
use Rattle.rules.specs.Sound as base_sound
use Rattle.rules.specs.Seen.{Input, is_named, name_stands, see}
use Rattle.rules.specs.Row as row
use Rattle.rules.specs.Row.{judge, on_record}
use Rattle.rules.specs.Opening.{slot_map}
use Rattle.rules.specs.Outcome as base-outcome
use Rattle.rules.specs.History.{Event, is_live, done, announced_there}
use Rattle.rules.specs.Promise.{Live}
use Rattle.rules.proofs.Names.{name_is}
use Rattle.rules.proofs.Lowest.{row_first_is_lowest}
use Rattle.maps.specs.State.{Mapped}
use Rattle.maps.specs.Rows.{codes_in}
use Rattle.maps.specs.Outcome.{row_in, answer_in, state_after}
use Rattle.maps.specs.Projection.{equal_map, proceed}
use Rattle.maps.proofs.Amended.{at_once, row_twenty, effect_is, accepted_there, mapped_live}
use Rattle.maps.proofs.SoundRuns.{base_step}
use Rattle.maps.proofs.Projected.{equal_twenty}

-- ── A record that changes under its own name ──
any_set : {A : Type 0} (f : A → Bool) (l : List A) (k : ℕ) (y d : A) → k < length l → f y ≡ f (get_or l k d) → any f (set l k y) ≡ any f l
unfolding any
any_set f [] k y d h e = refl
any_set f (x ∷ l) zero y d h e = ap (λ b. b || any f l) e
any_set f (x ∷ l) (suc k) y d h e = ap (λ b. f x || b) (any_set f l k y d (le_of_suc-le-suc h) e)

live_still : (s : State) (n : ℕ) (k : ℕ) (c : Carrier) (m : Name) → n ≡ length s.carriers → Live s k → c.name ≡ (record_of s k).name
    → is_live (row.enact (on_record n k c) s) m ≡ is_live s m
unfolding is_live row.enact record_of
live_still s n k c m z l e =
    let w = length-set s.carriers k c in
    rw (without_out (set s.carriers k c) n (omega arith))
    (any_set (is_named m) s.carriers k c no_carrier l (ap (λ a. same_name a m) e))

-- ── An input that is accepted, and what it did ──
module _ (s : Mapped) (i : Input) (n : Name) where
  abbrev pub e : Event
  e = record { before = s.base; input = i; answer = answer_in s i }

  abbrev pub b : Event
  b = record { before = s.base; input = i; answer = base-outcome.answer_in s.base i }

  pub refused_done : (k : ℕ) → eqb (answer_in s i) 0 ≡ false → done k n e ≡ false
  unfolding done
  refused_done k a = rw a (go (eqb i.number k))
    where
      go : (w : Bool) → (w && false && same_name (in_bytes i.name) n) ≡ false
      go true = refl
      go false = refl

  pub refused_live : eqb (answer_in s i) 0 ≡ false → is_live (state_after s i).base n ≡ true
      → is_live s.base n ≡ true
  unfolding state_after
  refused_live a l = rw a at l

  module _ (a : eqb (answer_in s i) 0 ≡ true) where
    there_too : eqb (base-outcome.answer_in s.base i) 0 ≡ true
    unfolding base-outcome.answer_in
    there_too = eq-eqb _ 0 (sym (row_first_is_lowest i.number (see s.base i)) ∙ accepted_there s i a)

    pub same_done : (k : ℕ) → done k n b ≡ done k n e
    unfolding done
    same_done k = rw (there_too, a)

    pub same_there : announced_there n b ≡ announced_there n e
    unfolding announced_there
    same_there = refl

    module _ (q : equal_map s i ≡ true) where
      abbrev mid : State
      mid = base-outcome.state_after s.base i

      abbrev pub p : Event
      p = record { before = mid; input = proceed i; answer = base-outcome.answer_in mid (proceed i) }

      twenty : i.number ≡ 20
      twenty = equal_twenty s i q

      is_done_fact : same_name (in_bytes i.name) n ≡ true → done 20 n e ≡ true
      unfolding done
      is_done_fact m = and_i (and_i (eq-eqb i.number 20 twenty) a) m

      pub done_name : done 20 n e ≡ true → in_bytes i.name ≡ n
      unfolding done
      done_name d = name_is _ _ (and_r (eqb i.number 20 && eqb (answer_in s i) 0) _ d)

      pub five : done 5 n p ≡ true → done 20 n e ≡ true
      unfolding done
      five d = is_done_fact (and_r (eqb (base-outcome.answer_in mid (proceed i)) 0) _ d)

      pub nothing_else : (k : ℕ) → eqb 20 k ≡ false → done k n e ≡ false
      unfolding done
      nothing_else k d = rw (twenty, d)

      pub proceeds_only : (k : ℕ) → eqb 5 k ≡ false → done k n p ≡ false
      unfolding done
      proceeds_only k d = rw d

      -- the records keep their names
      module _ (h : base_sound.sound s.base ≡ true) where
        abbrev x : Seen
        x = see s.base i

        accepts : judge (slot_map x).grounds ≡ 0
        accepts = ap (λ r. judge r.grounds) (sym (row_twenty i.number x twenty)) ∙ accepted_there s i a

        pub found_lives : Live s.base x.stands
        found_lives = mapped_live s.base i h accepts

        pub found_name : (record_of s.base x.stands).name ≡ in_bytes i.name
        unfolding see record_of name_stands
        found_name = name_is _ _ (where_holds (is_named (in_bytes i.name)) s.base.carriers no_carrier found_lives)

        pub mid_live : is_live mid n ≡ is_live s.base n
        unfolding see
        mid_live =
            ap (λ u. is_live u n)
            (base_step s.base i (accepted_there s i a) ∙ ap (λ r. row.enact r.effect s.base) (row_twenty i.number x twenty))
            ∙ live_still s.base x.count x.stands (with_map x.map 2 x.found) n refl found_lives refl

        effect_once : (row_in s i).effect ≡ at_once (slot_map x).effect
        unfolding equal_map
        effect_once = effect_is i.number x (codes_in s i) ∙ rw (q, row_twenty i.number x twenty)

        pub after_live : is_live (state_after s i).base n ≡ is_live s.base n
        unfolding state_after see
        after_live =
            rw (a, effect_once)
            (live_still s.base x.count x.stands (with_slot 3 (with_map x.map 2 x.found)) n refl found_lives refl)
