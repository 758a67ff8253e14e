-- What the door ensures of an input is what a step's call ensures of the same input.
use Prim.Native.Nat.{ℕ}
use mathlib.Core.Path.{◌≡◌, ap, ◌∙◌}
use mathlib.Core.List.{List}
use Rattle.image.specs.Image.{reports_from}
use Rattle.wafers.specs.Outcome.{Brought}
use Rattle.tool.specs.Whole.{whole_in}
use Rattle.door.specs.Door.{outcome}
use Rattle.hawsermole.specs.Calls.{StepCall}

pub stepped : {before after : List (List ℕ)} {reports : List ℕ} {answer : ℕ} {i j : Brought} → i ≡ j
    → (whole_in after ≡ (outcome (whole_in before) i).tool)
    × ((reports_from reports ≡ (outcome (whole_in before) i).reports) × (answer ≡ (outcome (whole_in before) i).answer))
    → StepCall before j answer after reports
stepped {before} e w = record {
  tool = w.0 ∙ ap (λ i. (outcome (whole_in before) i).tool) e;
  told = w.1.0 ∙ ap (λ i. (outcome (whole_in before) i).reports) e;
  answered = w.1.1 ∙ ap (λ i. (outcome (whole_in before) i).answer) e;
}
