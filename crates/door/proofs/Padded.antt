-- A padded name and the plain one are the same input, for every row; so padding the names of a run changes nothing.
use Prim.Native.Nat.{ℕ, ◌+◌, ◌≤◌}
use native.Mathlib.Omega.{arith}
use mathlib.Core.Path.{◌≡◌, refl, ap, sym, ◌∙◌}
use mathlib.Core.Bool.{Bool, true, false, not, ◌&&◌, ◌||◌}
use mathlib.Core.List.{List, [], ◌∷◌, ◌++◌, append-nil}
use lib.ListN.{length, replicate, length-append}
use lib.Dec.{eqb, leb}
use borrow.Author.Tests.{eqb-true, eqb-false, leb-true}
use Rattle.lists.proofs.Bools.{and_l, and_r, not_true}
use Rattle.records.specs.Names.{is_name}
use Rattle.rules.specs.Named.{name_missing}
use Rattle.names.specs.Check as check
use Rattle.names.specs.Check.{shortened}
use Rattle.names.proofs.Given.{seen_name, refused_padded, refused_stays, shortened_padded}
use Rattle.wafers.specs.Outcome.{Brought}
use Rattle.wafers.specs.Named.{takes_name, called}
use Rattle.hands.proofs.Named.{given_ignores, turned_away}
use Rattle.tool.specs.Whole as tool
use Rattle.tool.specs.Whole.{Whole, sound_whole, around, refused}
use Rattle.tool.proofs.Tested.{when_sound, when_not}
use Rattle.door.specs.Door.{outcome, padded, may_pad, tool_after, outcomes, padded_run, may_pad_run}

-- ── The whole tool ──
module _ (t : Whole) (i : Brought) where
  -- a row that takes no name ignores the one that it is sent
  whole_ignores : (name : List ℕ) → takes_name i.timed.input.number ≡ false → tool.outcome t (called name i) ≡ tool.outcome t i
  whole_ignores name f = go (sound_whole t) refl
    where
      go : (w : Bool) → sound_whole t ≡ w → tool.outcome t (called name i) ≡ tool.outcome t i
      go true h = sym (when_sound t (called name i) h) ∙ ap (around t) (given_ignores i name f t.layered) ∙ when_sound t i h
      go false h = sym (when_not t (called name i) h) ∙ when_not t i h

  -- a row that takes a name refuses what is none with 1
  pub whole_refuses : is_name i.timed.input.name ≡ false → takes_name i.timed.input.number ≡ true → name_missing i.timed.input ≡ false → tool.outcome t i ≡ refused t 1
  whole_refuses n k m = go (sound_whole t) refl
    where
      go : (w : Bool) → sound_whole t ≡ w → tool.outcome t i ≡ refused t 1
      go true h = sym (when_sound t i h) ∙ ap (around t) (turned_away i n k m t.layered)
      go false h = sym (when_not t i h)

-- ── The door ──
-- a text that the check refuses is refused with 1 by every row that takes a name
pub bad_name_refused : (t : Whole) (i : Brought) → takes_name i.timed.input.number ≡ true → name_missing i.timed.input ≡ false → check.refused i.timed.input.name ≡ true
    → outcome t i ≡ refused t 1
unfolding outcome
bad_name_refused t i k m e =
    let s = refused_stays i.timed.input.name e in
    rw s (whole_refuses t i (rw s at (seen_name i.timed.input.name ∙ ap not e)) k m)

-- a name that is given is given with blanks after it, too
still_given : (i : Brought) (n : ℕ) → name_missing i.timed.input ≡ false → name_missing (padded n i).timed.input ≡ false
unfolding name_missing
still_given i n = go (eqb i.timed.input.number 2)
  where
    blanks : List ℕ
    blanks = replicate n 0x20

    longer : (z w : Bool) → eqb (length i.timed.input.name) 0 ≡ z → eqb (length (i.timed.input.name ++ blanks)) 0 ≡ w → z ≡ false → w ≡ false
    longer z true e f h =
        let l = length-append i.timed.input.name blanks in
        let k : length (i.timed.input.name ++ blanks) ≡ 0 = eqb-true _ 0 f in
        absurd (eqb-false (length i.timed.input.name) 0 (e ∙ h) (omega arith))
    longer z false e f h = refl

    go : (b : Bool) → (b && eqb (length i.timed.input.name) 0) ≡ false → (b && eqb (length (i.timed.input.name ++ blanks)) 0) ≡ false
    go true h = longer _ _ refl refl h
    go false h = refl

module _ (t : Whole) (i : Brought) (n : ℕ) where
  short_enough : length i.timed.input.name + n ≤ 32 → name_missing i.timed.input ≡ false → outcome t (padded n i) ≡ outcome t i
  unfolding outcome
  short_enough l m = go (takes_name i.timed.input.number) refl (check.refused i.timed.input.name) refl
    where
      text : List ℕ
      text = i.timed.input.name ++ replicate n 0x20

      go : (k : Bool) → takes_name i.timed.input.number ≡ k → (w : Bool) → check.refused i.timed.input.name ≡ w → outcome t (padded n i) ≡ outcome t i
      go false f w e = whole_ignores t i (shortened text) f ∙ sym (whole_ignores t i (shortened i.timed.input.name) f)
      go true f true e =
          bad_name_refused t (padded n i) f (still_given i n m) (refused_padded i.timed.input.name n l ∙ e) ∙ sym (bad_name_refused t i f m e)
      go true f false e = ap (λ name. tool.outcome t (called name i)) (shortened_padded i.timed.input.name n l e)

  pub same_padded : may_pad n i ≡ true → outcome t (padded n i) ≡ outcome t i
  unfolding may_pad
  same_padded h = go (eqb n 0) refl h
    where
      go : (z : Bool) → eqb n 0 ≡ z → (z || (leb (length i.timed.input.name + n) 32 && not (name_missing i.timed.input))) ≡ true
          → outcome t (padded n i) ≡ outcome t i
      go true e h = rw (eqb-true n 0 e, append-nil i.timed.input.name)
      go false e h =
          short_enough (leb-true _ 32 (and_l (leb (length i.timed.input.name + n) 32) _ h)) (not_true _ (and_r (leb (length i.timed.input.name + n) 32) _ h))

-- ── Runs ──
-- neither the tools, nor the answers, nor the reports of a run
pub padded_run_fact : (t : Whole) (pads : List ℕ) (run : List Brought) → may_pad_run pads run ≡ true
    → outcomes t (padded_run pads run) ≡ outcomes t run
unfolding outcomes padded_run may_pad_run
padded_run_fact t [] run h = refl
padded_run_fact t (n ∷ ns) [] h = refl
padded_run_fact t (n ∷ ns) (i ∷ earlier) h =
    rw (padded_run_fact t ns earlier (and_r (may_pad n i) _ h), same_padded (tool_after t (outcomes t earlier)) i n (and_l (may_pad n i) _ h))
