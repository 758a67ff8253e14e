-- Every run of calls keeps the promise: the bytes hold the tool of which `promised` speaks, and the answers are those that it counts.
use Prim.Native.Nat.{ℕ, ◌+◌, ◌≤◌}
use native.Mathlib.Omega.{arith}
use mathlib.Core.Path.{◌≡◌, refl, ap, sym, subst, ◌∙◌}
use mathlib.Core.Logic.{◌≢◌}
use mathlib.Core.Bool.{Bool, true, false, cond}
use mathlib.Core.List.{List, [], ◌∷◌, ◌++◌, map}
use lib.ListN.{length}
use lib.Dec.{eqb}
use borrow.Author.Tests.{eqb-true, eqb-false}
use Rattle.rules.specs.State.{record_of}
use Rattle.rules.specs.History.{Event, history}
use Rattle.rules.specs.Promise.{Live, Orderly}
use Rattle.maps.specs.Promise.{Earned}
use Rattle.prediction.specs.State.{timed}
use Rattle.wafers.specs.Outcome.{Brought, brought}
use Rattle.hands.specs.State.{Handled, base_of, HandledTool, state_of, start}
use Rattle.hands.specs.Outcome.{answer_in, state_after, reports_in, refused, accepted, given_in, reached}
use Rattle.hands.specs.Promise.{events}
use Rattle.hands.proofs.Promised.{promised}
use Rattle.tool.specs.Whole as tool
use Rattle.tool.specs.Whole.{Whole, whole_in, sound_whole, set_up, reached_whole}
use Rattle.tool.proofs.Tested.{when_sound}
use Rattle.tool.proofs.Runs.{valid, tool_sound, tool_holds}
use Rattle.door.specs.Door.{shown, outcome}
use Rattle.secs.specs.Request.{request_in}
use Rattle.bridge.specs.Bridge.{bridged}
use Rattle.bridge.proofs.Exchanged.{exchange_refuses, not_fourteen}
use Rattle.hawsermole.specs.Calls.{
  SecsCall,
  ExchangeCall,
  Sent,
  typed,
  text,
  lent,
  Call,
  Made,
  Left,
  state_in,
  read,
  taken,
  events_of,
  happened,
  Kept,
}

-- a sound tool answers as its state does
given_answer : (t : HandledTool) (i : Brought) → (given_in t i).answer ≡ answer_in (state_of t) i
unfolding given_in
given_answer t i = go (eqb (answer_in (state_of t) i) 0) refl
  where
    go : (w : Bool) → eqb (answer_in (state_of t) i) 0 ≡ w
        → (cond w (accepted (state_after (state_of t) i) (reports_in (state_of t) i)) (refused t (answer_in (state_of t) i))).answer ≡ answer_in (state_of t) i
    go true e = sym (eqb-true _ 0 e)
    go false e = refl

answer_is : (t : Whole) (i : Brought) → sound_whole t ≡ true → (tool.outcome t i).answer ≡ answer_in (state_of t.layered) i
answer_is t i h = ap (λ o. o.answer) (sym (when_sound t i h)) ∙ given_answer t.layered i

-- as the rows saw them
unfoldable pub inputs : List Call → List Brought
inputs [] = []
inputs (c ∷ earlier) = taken c.sent c.answer ++ inputs earlier

fourteen_not_0 : ◌≢◌ {A = ℕ} 14 0
fourteen_not_0 e = omega arith

-- ── What a call makes of the tool, by the inputs that rows saw: one or none ──
module _ (before : List (List ℕ)) (answer : ℕ) (after : List (List ℕ)) (reports : List ℕ) where
  -- a message whose reply had room is as one to hm_secs_step
  as_text : (m room : List ℕ) (items : ℕ) (left : List ℕ) (length : ℕ) → ExchangeCall before m room answer after reports items left length
      → eqb answer 14 ≡ false → SecsCall before m answer after reports items
  as_text m room items left length k w =
      let e = not_fourteen (whole_in before) m room (λ z. eqb-false answer 14 w (k.answered ∙ z)) in
      record {
        tool = k.tool ∙ ap (λ o. o.tool) e;
        told = k.told ∙ ap (λ o. o.reports) e;
        answered = k.answered ∙ ap (λ o. o.answer) e;
        counted = k.counted;
      }

  -- and one whose reply had none leaves the tool
  no_input : (m room : List ℕ) (items : ℕ) (left : List ℕ) (length : ℕ) → ExchangeCall before m room answer after reports items left length
      → eqb answer 14 ≡ true → whole_in after ≡ whole_in before
  no_input m room items left length k w =
      let f : answer ≡ 14 = eqb-true answer 14 w in
      k.tool ∙ (exchange_refuses (whole_in before) m room (λ z. fourteen_not_0 (sym f ∙ k.answered ∙ z))).0

  after_text : (m : List ℕ) (items : ℕ) → SecsCall before m answer after reports items → (earlier : List Brought) (t : Whole)
      → whole_in before ≡ reached_whole t earlier → whole_in after ≡ reached_whole t (read m ++ earlier)
  unfolding read outcome reached_whole bridged
  after_text m items k earlier t e = go (eqb (request_in m).refusal 0) k.tool
    where
      go : (w : Bool)
          → whole_in after
          ≡ (cond w (outcome (whole_in before) (brought (timed (request_in m).input 0 0) [])) (tool.refused (whole_in before) (request_in m).refusal)).tool
          → whole_in after ≡ reached_whole t (cond w (shown (brought (timed (request_in m).input 0 0) []) ∷ []) [] ++ earlier)
      go true q = q ∙ ap (λ t. (tool.outcome t (shown (brought (timed (request_in m).input 0 0) []))).tool) e
      go false q = q ∙ e

  tool_after : (sent : Sent) → Made before sent answer after reports → (earlier : List Brought) (t : Whole)
      → whole_in before ≡ reached_whole t earlier → whole_in after ≡ reached_whole t (taken sent answer ++ earlier)
  unfolding taken outcome reached_whole
  tool_after (typed i) k earlier t e = k.tool ∙ ap (λ t. (tool.outcome t (shown i)).tool) e
  tool_after (text m items) k earlier t e = after_text m items k earlier t e
  tool_after (lent m room items left length) k earlier t e = go (eqb answer 14) refl
    where
      go : (w : Bool) → eqb answer 14 ≡ w → whole_in after ≡ reached_whole t (cond w [] (read m) ++ earlier)
      go true q = no_input m room items left length k q ∙ e
      go false q = after_text m items (as_text m room items left length k q) earlier t e

  abbrev happens : Brought → Handled → ℕ → Event
  happens i s a = record { before = base_of s; input = i.timed.input; answer = a }

  -- an input that was answered as the tool answers is the run's next event
  event_after : (i : Brought) → answer ≡ (tool.outcome (whole_in before) i).answer → (P B setting timeout : ℕ) (earlier : List Brought)
      → sound_whole (whole_in before) ≡ true → state_in before ≡ reached (start P B setting timeout) earlier
      → happens i (state_in before) answer ∷ events (start P B setting timeout) earlier ≡ events (start P B setting timeout) (i ∷ earlier)
  unfolding events
  event_after i k P B setting timeout earlier h e =
      ap (λ a. happens i (state_in before) a ∷ events (start P B setting timeout) earlier) (k ∙ answer_is (whole_in before) i h)
      ∙ ap (λ s. happens i s (answer_in s i) ∷ events (start P B setting timeout) earlier) e

  -- the inputs that a call brought are the run's next events
  module _ (P B setting timeout : ℕ) (earlier : List Brought) (h : sound_whole (whole_in before) ≡ true)
      (e : state_in before ≡ reached (start P B setting timeout) earlier) where
    abbrev Next : List Brought → Type 0
    Next is = map (λ i. happens i (state_in before) answer) is ++ events (start P B setting timeout) earlier
        ≡ events (start P B setting timeout) (is ++ earlier)

    text_events : (m : List ℕ) (items : ℕ) → SecsCall before m answer after reports items → Next (read m)
    unfolding read outcome bridged
    text_events m items k = go (eqb (request_in m).refusal 0) k.answered
      where
        go : (w : Bool)
            → answer ≡ (cond w (outcome (whole_in before) (brought (timed (request_in m).input 0 0) [])) (tool.refused (whole_in before) (request_in m).refusal)).answer
            → Next (cond w (shown (brought (timed (request_in m).input 0 0) []) ∷ []) [])
        go true q = event_after (shown (brought (timed (request_in m).input 0 0) [])) q P B setting timeout earlier h e
        go false q = refl

    events_after : (sent : Sent) → Made before sent answer after reports → Next (taken sent answer)
    unfolding taken outcome
    events_after (typed i) k = event_after (shown i) k.answered P B setting timeout earlier h e
    events_after (text m items) k = text_events m items k
    events_after (lent m room items left length) k = go (eqb answer 14) refl
      where
        go : (w : Bool) → eqb answer 14 ≡ w → Next (cond w [] (read m))
        go true q = refl
        go false q = text_events m items (as_text m room items left length k q)

module _ (P B setting timeout : ℕ) where
  -- a run begins with a set-up that was accepted
  pub set_up_fact : (calls : List Call) (bytes : List (List ℕ)) → Left P B setting timeout calls bytes → (set_up P B setting timeout).answer ≡ 0
  unfolding Left
  set_up_fact [] bytes l = sym l.answered
  set_up_fact (c ∷ earlier) bytes l = set_up_fact earlier c.before l.0

  -- the bytes hold the tool that the definitions reach by the same inputs
  tool_is : (calls : List Call) (bytes : List (List ℕ)) → Left P B setting timeout calls bytes
      → whole_in bytes ≡ reached_whole (set_up P B setting timeout).tool (inputs calls)
  unfolding Left inputs reached_whole
  tool_is [] bytes l = l.tool
  tool_is (c ∷ earlier) bytes l =
      tool_after c.before c.answer bytes c.reports c.sent l.1 (inputs earlier) (set_up P B setting timeout).tool
      (tool_is earlier c.before l.0)

  module _ (calls : List Call) (bytes : List (List ℕ)) (l : Left P B setting timeout calls bytes) where
    sound_is : sound_whole (whole_in bytes) ≡ true
    sound_is = ap sound_whole (tool_is calls bytes l) ∙ tool_sound P B setting timeout (set_up_fact calls bytes l) (inputs calls)

    pub state_is : state_in bytes ≡ reached (start P B setting timeout) (inputs calls)
    state_is =
        ap (λ t. state_of t.layered) (tool_is calls bytes l) ∙ tool_holds P B setting timeout (set_up_fact calls bytes l) (inputs calls)

  -- what happened in the calls is what happens by the definitions
  pub events_are : (calls : List Call) (bytes : List (List ℕ)) → Left P B setting timeout calls bytes
      → happened calls ≡ events (start P B setting timeout) (inputs calls)
  unfolding Left happened inputs events
  events_are [] bytes l = refl
  events_are (c ∷ earlier) bytes l =
      ap (λ es. events_of c ++ es) (events_are earlier c.before l.0)
      ∙ events_after c.before c.answer bytes c.reports P B setting timeout (inputs earlier) (sound_is earlier c.before l.0)
      (state_is earlier c.before l.0) c.sent l.1

-- each carrier of a state has behind it what happened
abbrev Backed : Handled → List Event → Type 0
Backed s es = (k : ℕ) → Live (base_of s) k → Earned (history (record_of (base_of s) k).name es) (record_of (base_of s) k)

pub kept : (P B setting timeout : ℕ) (calls : List Call) (bytes : List (List ℕ)) → Left P B setting timeout calls bytes → Kept P B calls bytes
kept P B setting timeout calls bytes l =
    let f = valid P B setting timeout (set_up_fact P B setting timeout calls bytes l) in
    let p = promised P B setting timeout f.0 f.1 f.2 (inputs calls) in
    let s = sym (state_is P B setting timeout calls bytes l) in
    record {
      sound = sound_is P B setting timeout calls bytes l;
      orderly = subst (λ s. Orderly (base_of s)) s p.orderly;
      few = subst (λ s. length (base_of s).carriers ≤ P + B + 16) s p.few;
      earned = subst (λ s. Backed s (happened calls)) s
          (subst (Backed (reached (start P B setting timeout) (inputs calls))) (sym (events_are P B setting timeout calls bytes l)) p.earned);
    }
