-- What a call does to every byte: nothing where it refuses, and the same on the same bytes and input.
use Prim.Native.Nat.{ℕ}
use mathlib.Core.Path.{◌≡◌, ap, sym, ◌∙◌}
use mathlib.Core.Logic.{◌≢◌}
use mathlib.Core.Bool.{true}
use mathlib.Core.List.{List}
use lib.ListN.{replicate}
use Rattle.wafers.specs.Outcome.{Brought}
use Rattle.image.proofs.Only.{reported_byte}
use Rattle.image.proofs.Reported.{none_reported}
use Rattle.tool.specs.Whole.{whole_in}
use Rattle.tool.proofs.Only.{first_bytes, second_bytes}
use Rattle.tool.proofs.Refuses.{refuses}
use Rattle.door.specs.Door.{shown, outcome, padded, may_pad}
use Rattle.door.proofs.Padded.{same_padded}
use Rattle.bridge.proofs.Refuses.{message_refuses}
use Rattle.bridge.proofs.Exchanged.{exchange_refuses}
use Rattle.hawsermole.specs.Calls.{SetUpCall, StepCall, SecsCall, ExchangeCall, OfBytes, SameBytes, SameTool}

pub same_tool : (a b : List (List ℕ)) → OfBytes a → OfBytes b → whole_in a ≡ whole_in b → SameTool a b
same_tool a b f g e = (first_bytes a b e, second_bytes a b f g e)

-- A refused input leaves every byte of the tool as it was, and a report list of zeros.
pub refused_leaves : (before : List (List ℕ)) (i : Brought) (r : ℕ) (after : List (List ℕ)) (reports : List ℕ)
    → OfBytes before → OfBytes after → StepCall before i r after reports → r ≢ 0
    → SameTool after before × SameBytes 201 reports (replicate 201 0)
unfolding outcome
refused_leaves before i r after reports f g s n =
    let o = refuses (whole_in before) (shown i) (λ z. n (s.answered ∙ z)) in
    (same_tool after before g f (s.tool ∙ o.0), reported_byte reports (replicate 201 0) (s.told ∙ o.1 ∙ sym none_reported))

-- And so does a message that is refused, by the reader or by the tool.
pub message_leaves : (before : List (List ℕ)) (m : List ℕ) (r : ℕ) (after : List (List ℕ)) (reports : List ℕ) (items : ℕ)
    → OfBytes before → OfBytes after → SecsCall before m r after reports items → r ≢ 0
    → SameTool after before × SameBytes 201 reports (replicate 201 0)
message_leaves before m r after reports items f g s n =
    let o = message_refuses (whole_in before) m (λ z. n (s.answered ∙ z)) in
    (same_tool after before g f (s.tool ∙ o.0), reported_byte reports (replicate 201 0) (s.told ∙ o.1 ∙ sym none_reported))

-- And so does an exchange, which is also refused with 14.
pub exchange_leaves : (before : List (List ℕ)) (m room : List ℕ) (r : ℕ) (after : List (List ℕ)) (reports : List ℕ) (items : ℕ)
    (left : List ℕ) (length : ℕ)
    → OfBytes before → OfBytes after → ExchangeCall before m room r after reports items left length → r ≢ 0
    → SameTool after before × SameBytes 201 reports (replicate 201 0)
exchange_leaves before m room r after reports items left length f g s n =
    let o = exchange_refuses (whole_in before) m room (λ z. n (s.answered ∙ z)) in
    (same_tool after before g f (s.tool ∙ o.0), reported_byte reports (replicate 201 0) (s.told ∙ o.1 ∙ sym none_reported))

-- Two calls that meet the same bytes with the same input give the same answer, and leave the same bytes and the same report list.
pub same_again : (before : List (List ℕ)) (i : Brought) (r r' : ℕ) (after after' : List (List ℕ)) (reports reports' : List ℕ)
    → OfBytes after → OfBytes after' → StepCall before i r after reports → StepCall before i r' after' reports'
    → (r ≡ r') × SameTool after after' × SameBytes 201 reports reports'
same_again before i r r' after after' reports reports' f g s t = (
  s.answered ∙ sym t.answered,
  same_tool after after' f g (s.tool ∙ sym t.tool),
  reported_byte reports reports' (s.told ∙ sym t.told),
)

-- A call with a padded name is the call with the plain one.
pub plain_call : {before after : List (List ℕ)} {r : ℕ} {reports : List ℕ} (i : Brought) (n : ℕ) → may_pad n i ≡ true
    → StepCall before (padded n i) r after reports → StepCall before i r after reports
plain_call {before} i n m t =
    let p = same_padded (whole_in before) i n m in
    record { tool = t.tool ∙ ap (λ o. o.tool) p; told = t.told ∙ ap (λ o. o.reports) p; answered = t.answered ∙ ap (λ o. o.answer) p }

-- And so where the name of one is padded, and the other's plain.
pub padded_again : (before : List (List ℕ)) (i : Brought) (n r r' : ℕ) (after after' : List (List ℕ)) (reports reports' : List ℕ)
    → OfBytes after → OfBytes after' → may_pad n i ≡ true → StepCall before i r after reports → StepCall before (padded n i) r' after' reports'
    → (r ≡ r') × SameTool after after' × SameBytes 201 reports reports'
padded_again before i n r r' after after' reports reports' f g m s t =
    same_again before i r r' after after' reports reports' f g s (plain_call i n m t)

-- And so for set-up, whatever bytes it met.
pub set_up_again : (P B setting timeout r r' : ℕ) (after after' : List (List ℕ)) → OfBytes after → OfBytes after'
    → SetUpCall P B setting timeout r after → SetUpCall P B setting timeout r' after' → (r ≡ r') × SameTool after after'
set_up_again P B setting timeout r r' after after' f g s t = (s.answered ∙ sym t.answered, same_tool after after' f g (s.tool ∙ sym t.tool))

-- And so for two calls with the same message, which count the same items.
pub message_again : (before : List (List ℕ)) (m : List ℕ) (r r' : ℕ) (after after' : List (List ℕ)) (reports reports' : List ℕ) (n n' : ℕ)
    → OfBytes after → OfBytes after' → SecsCall before m r after reports n → SecsCall before m r' after' reports' n'
    → (r ≡ r') × SameTool after after' × SameBytes 201 reports reports' × (n ≡ n')
message_again before m r r' after after' reports reports' n n' f g s t = (
  s.answered ∙ sym t.answered,
  same_tool after after' f g (s.tool ∙ sym t.tool),
  reported_byte reports reports' (s.told ∙ sym t.told),
  s.counted ∙ sym t.counted,
)
