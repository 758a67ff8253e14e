-- Two calls of a pair leave every byte of the tool as it was.
use Prim.Native.Nat.{ℕ}
use native.Mathlib.Omega.{arith}
use mathlib.Core.Path.{◌≡◌, refl, ap, sym, ◌∙◌}
use mathlib.Core.Bool.{Bool, true, false, cond}
use mathlib.Core.List.{List}
use lib.Dec.{eqb}
use borrow.Author.Tests.{eqb-true}
use Rattle.lists.proofs.Bools.{and_l}
use Rattle.rules.specs.Undoing.{Pair}
use Rattle.prediction.specs.State as prediction
use Rattle.predicted.proofs.Held as predicted
use Rattle.wafers.specs.Outcome.{Brought}
use Rattle.hands.specs.State.{Handled, state_of, in_tool}
use Rattle.hands.specs.Sound.{sound_tool}
use Rattle.hands.specs.Outcome.{answer_in, state_after, reports_in, Given, refused, accepted, given_in}
use Rattle.hands.proofs.SoundTools.{tool_sound}
use Rattle.undo.specs.Undoing.{TakenBack, Undoes}
use Rattle.handled.specs.Bytes.{handled_in}
use Rattle.handled.proofs.Held as handled
use Rattle.tool.specs.Whole as tool
use Rattle.tool.specs.Whole.{Whole, whole_in, sound_whole}
use Rattle.tool.proofs.Tested.{when_sound, when_not}
use Rattle.tool.proofs.Runs.{sound_after, state_after_fact}
use Rattle.door.specs.Door.{shown, outcome, padded, may_pad}
use Rattle.hawsermole.specs.Calls.{StepCall, OfBytes, state_in, ArePair, Undone}
use Rattle.hawsermole.proofs.Bytes.{same_tool, plain_call}

-- ── A sound tool in bytes holds its state, and nothing else ──
pub tool_again : (m : List (List ℕ)) → sound_tool (handled_in m) ≡ true → in_tool (state_of (handled_in m)) ≡ handled_in m
unfolding in_tool prediction.in_tool
tool_again m h =
    rw (
      predicted.queued_again m (handled.below_is m h),
      sym (predicted.none_after m (handled.below_is m h)),
      sym (handled.none_after m h),
    )

-- ── An input that is accepted ──
module _ (t : Whole) (i : Brought) (a : (tool.outcome t i).answer ≡ 0) where
  -- only a sound tool accepts
  is_sound : sound_whole t ≡ true
  is_sound = go (sound_whole t) refl
    where
      go : (w : Bool) → sound_whole t ≡ w → w ≡ true
      go true h = refl
      go false h = let e = ap (λ (o : tool.Outcome). o.answer) (when_not t i h) ∙ a in absurd (omega arith)

  given_yes : (given_in t.layered i).answer ≡ 0
  given_yes = ap (λ (o : tool.Outcome). o.answer) (when_sound t i is_sound) ∙ a

  accepts : answer_in (state_of t.layered) i ≡ 0
  unfolding given_in
  accepts = go (eqb (answer_in (state_of t.layered) i) 0) refl given_yes
    where
      given_if : Bool → Given
      given_if w = cond w (accepted (state_after (state_of t.layered) i) (reports_in (state_of t.layered) i))
          (refused t.layered (answer_in (state_of t.layered) i))

      go : (w : Bool) → eqb (answer_in (state_of t.layered) i) 0 ≡ w → (given_if w).answer ≡ 0 → answer_in (state_of t.layered) i ≡ 0
      go true e z = eqb-true _ 0 e
      go false e z = z

module _ (t : Whole) (i : Brought) (h : sound_whole t ≡ true) (a : answer_in (state_of t.layered) i ≡ 0) where
  answers : (tool.outcome t i).answer ≡ 0
  unfolding given_in
  answers = ap (λ (o : tool.Outcome). o.answer) (sym (when_sound t i h)) ∙ rw a

  leaves : (tool.outcome t i).tool ≡ record { layered = in_tool (state_after (state_of t.layered) i); unused = t.unused }
  unfolding given_in
  leaves = ap (λ (o : tool.Outcome). o.tool) (sym (when_sound t i h)) ∙ rw a

-- ── Two of a pair ──
module _ (m : List (List ℕ)) (i j : Brought) (a : (tool.outcome (whole_in m) i).answer ≡ 0) where
  abbrev t : Whole
  t = whole_in m

  abbrev between : Whole
  between = (tool.outcome t i).tool

  abbrev s : Handled
  s = state_of t.layered

  between_state : state_of between.layered ≡ state_after s i
  between_state = state_after_fact t i (is_sound t i a)

  module _ (b : TakenBack s i j) where
    again : answer_in (state_of between.layered) j ≡ 0
    again = ap (λ u. answer_in u j) between_state ∙ b.accepted

    between_sound : sound_whole between ≡ true
    between_sound = sound_after t i (is_sound t i a)

    back_accepted : (tool.outcome between j).answer ≡ 0
    back_accepted = answers between j between_sound again

    -- what no request uses stays as it is
    unused_stays : between.unused ≡ t.unused
    unused_stays = ap (λ (w : Whole). w.unused) (leaves t i (is_sound t i a) (accepts t i a))

    back_there : (tool.outcome between j).tool ≡ t
    unfolding sound_whole
    back_there =
        leaves between j between_sound again
        ∙ rw (between_state, b.back, unused_stays, tool_again m (and_l _ _ (is_sound t i a)))

module _ (p : Pair) (u : Undoes p) (before between after : List (List ℕ)) (i j : Brought) (r : ℕ) (reports reports' : List ℕ)
    (bytes : OfBytes before) (left : OfBytes after) (pair : ArePair p before i j) where
  taken_back : (tool.outcome (whole_in before) (shown i)).answer ≡ 0 → TakenBack (state_in before) (shown i) (shown j)
  unfolding sound_whole
  taken_back a =
      u (state_in before) (shown i) (shown j) (tool_sound (whole_in before).layered (and_l _ _ (is_sound (whole_in before) (shown i) a))) pair.pair pair.when
      (accepts (whole_in before) (shown i) a)

  -- where the first call is accepted
  pub two_calls : StepCall before i 0 between reports → StepCall between j r after reports' → Undone before r after
  unfolding outcome
  two_calls first second =
      let a = sym first.answered in
      let b = taken_back a in
      record {
        accepted = second.answered ∙ ap (λ w. (tool.outcome w (shown j)).answer) first.tool ∙ back_accepted before (shown i) (shown j) a b;
        bytes =
            same_tool after before left bytes
            (second.tool ∙ ap (λ w. (tool.outcome w (shown j)).tool) first.tool ∙ back_there before (shown i) (shown j) a b);
      }

  -- and so where their names are padded, each with blanks of its own
  pub padded_calls : (n k : ℕ) → may_pad n i ≡ true → may_pad k j ≡ true
      → StepCall before (padded n i) 0 between reports → StepCall between (padded k j) r after reports' → Undone before r after
  padded_calls n k f g first second = two_calls (plain_call i n f first) (plain_call j k g second)
