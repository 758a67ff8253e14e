-- What an exchange gives, from what its parts give.
use Prim.Native.Nat.{ℕ, ◌≤◌, ◌<◌}
use native.Mathlib.Omega.{arith}
use mathlib.Core.Path.{◌≡◌, refl, sym, ◌∙◌}
use mathlib.Core.Logic.{◌≢◌}
use mathlib.Core.Bool.{Bool, true, false, cond}
use mathlib.Core.List.{List}
use lib.ListN.{length}
use borrow.Author.Tests.{lt-ltb, le-ltb}
use Rattle.lists.proofs.Bools.{clash}
use Rattle.rules.specs.Reports.{no_reports}
use Rattle.replies.specs.Reply.{too_small, answer_in, room_after, written_in, Wrote}
use Rattle.replies.proofs.Short.{seven}
use Rattle.replies.proofs.Lent.{too_small_fact}
use Rattle.replies.proofs.Spelt.{accepted_text}
use Rattle.replies.proofs.ReadBack.{fitted, not_fitted}
use Rattle.tool.specs.Whole.{Whole, refused}
use Rattle.tool.proofs.Refuses.{Refuses}
use Rattle.bridge.specs.Bridge.{bridged}
use Rattle.bridge.specs.Exchange.{exchanged, replied}
use Rattle.bridge.proofs.Refuses.{message_refuses}

-- an exchange that is refused leaves the tool, too; one that isn't answered with 14 is what the message gives
module _ (t : Whole) (message room : List ℕ) where
  pub exchange_refuses : Refuses t (exchanged t message room)
  unfolding exchanged
  exchange_refuses = go (too_small room (replied t message))
    where
      go : (w : Bool) → Refuses t (cond w (refused t 14) (bridged t message))
      go true n = (refl, refl)
      go false n = message_refuses t message n

  pub not_fourteen : (exchanged t message room).answer ≢ 14 → exchanged t message room ≡ bridged t message
  unfolding exchanged
  not_fourteen = go (too_small room (replied t message))
    where
      go : (w : Bool) → (cond w (refused t 14) (bridged t message)).answer ≢ 14
          → cond w (refused t 14) (bridged t message) ≡ bridged t message
      go true n = absurd (n refl)
      go false n = refl

module _ (t : Whole) (message room : List ℕ) where
  abbrev text : List ℕ
  text = replied t message

  -- in less room than any reply takes
  pub no_room : length room < 7 → (refused t 14 ≡ exchanged t message room) × (room ≡ room_after room text) × (0 ≡ written_in room text)
  unfolding exchanged
  no_room l =
      let s = seven (bridged t message).answer in
      let b = lt-ltb (length room) (length text) (omega arith) in
      let w = too_small_fact room text (omega arith) in
      (rw b, w.left, w.many)

  module _ (fits told : ℕ) (after : List ℕ) (w : Wrote room text fits after told) where
    pub it_fits : fits ≡ 0 → bridged t message ≡ exchanged t message room
    unfolding exchanged answer_in
    it_fits e = rw (fitted (too_small room text) (sym w.answered ∙ e))

    -- the one refusal of a reply
    pub fourteen : fits ≢ 0 → fits ≡ 14
    unfolding answer_in
    fourteen n = w.answered ∙ rw (not_fitted (too_small room text) (λ e. n (w.answered ∙ e)))

    pub too_long : 7 ≤ length room → fits ≢ 0
        → ((bridged t message).tool ≡ t) × ((bridged t message).reports ≡ no_reports) × (refused t 14 ≡ exchanged t message room)
    unfolding exchanged answer_in
    too_long l n =
        let b : too_small room text ≡ true = not_fitted (too_small room text) (λ e. n (w.answered ∙ e)) in
        let z : (bridged t message).answer ≢ 0 = λ e. clash b (le-ltb (length room) (length text) (rw (e, accepted_text) l)) in
        let o = message_refuses t message z in
        (o.0, o.1, rw b)
