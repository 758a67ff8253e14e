-- What a refused input leaves: the tool as it was, and no report.
use mathlib.Core.Path.{◌≡◌, refl}
use mathlib.Core.Logic.{◌≢◌}
use mathlib.Core.Bool.{Bool, true, false, cond}
use lib.Dec.{eqb}
use Rattle.rules.specs.Reports.{no_reports}
use Rattle.wafers.specs.Outcome.{Brought}
use Rattle.hands.specs.State.{HandledTool, state_of}
use Rattle.hands.specs.Outcome as hands
use Rattle.hands.specs.Outcome.{Given, accepted, answer_in, state_after, reports_in, given_in}
use Rattle.tool.specs.Whole.{Whole, sound_whole, refused, around, Outcome, outcome}

-- what isn't answered with 0 leaves the tool, and reports nothing
given_refuses : (t : HandledTool) (i : Brought) → (given_in t i).answer ≢ 0 → ((given_in t i).tool ≡ t) × ((given_in t i).reports ≡ no_reports)
unfolding given_in
given_refuses t i = go (eqb (answer_in (state_of t) i) 0)
  where
    Refuses : Given → Type 0
    Refuses g = g.answer ≢ 0 → (g.tool ≡ t) × (g.reports ≡ no_reports)

    go : (w : Bool) → Refuses (cond w (accepted (state_after (state_of t) i) (reports_in (state_of t) i)) (hands.refused t (answer_in (state_of t) i)))
    go true n = absurd (n refl)
    go false n = (refl, refl)

abbrev pub Refuses : Whole → Outcome → Type 0
Refuses t o = o.answer ≢ 0 → (o.tool ≡ t) × (o.reports ≡ no_reports)

module _ (t : Whole) (i : Brought) where
  pub refuses : Refuses t (outcome t i)
  unfolding outcome
  refuses = go (sound_whole t)
    where
      go : (w : Bool) → Refuses t (cond w (around t (given_in t.layered i)) (refused t 1))
      go true n = let g = given_refuses t.layered i n in (rw g.0, g.1)
      go false n = (refl, refl)
