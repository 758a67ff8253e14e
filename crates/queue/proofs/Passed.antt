-- What a row gives that stands for one input below: what is given there, beside the queue.
use Prim.Native.Nat.{ℕ, ◌≤◌}
use native.Mathlib.Omega.{arith}
use mathlib.Core.Path.{◌≡◌, refl, ap, sym, ◌∙◌}
use mathlib.Core.Bool.{Bool, true, false, ◌&&◌}
use mathlib.Core.List.{List, [], ◌∷◌}
use lib.ListN.{length, take, drop}
use lib.Seq.{length-take-le, take_all}
use lib.Dec.{eqb, leb}
use borrow.Author.Tests.{eqb-true, leb-true, ne_eqb}
use Rattle.lists.specs.Lists.{every, fill}
use Rattle.lists.proofs.Bools.{and_l, and_r}
use Rattle.lists.proofs.Tables.{tail_is}
use Rattle.records.specs.declared.name.Name.{Name}
use Rattle.records.specs.Names.{no_name, same_name}
use Rattle.rules.specs.Seen.{Input}
use Rattle.rules.specs.Row.{Ground, lower, lowest}
use Rattle.rules.proofs.Names.{name_is}
use Rattle.maps.specs.Sound as maps-sound
use Rattle.maps.specs.Outcome as maps
use Rattle.maps.specs.Projection as maps-runs
use Rattle.queue.specs.declared.request.Request.{Request}
use Rattle.queue.specs.Requests.{no_request}
use Rattle.queue.specs.State.{Queued, QueuedTool, state_of, in_tool}
use Rattle.queue.specs.Sound.{zero_request, sound_tool}
use Rattle.queue.specs.Rows.{row_of, passed_on}
use Rattle.queue.specs.Outcome.{row_in, answers_in, answer_in, state_after, goes_in, made_in, beside, given_in}
use Rattle.queue.proofs.Walk.{Plain}

-- a request that passes the test for zero is none
request_of : (r : Request) {n : Name} {p s : ℕ} → r.name ≡ n → r.port ≡ p → r.started ≡ s
    → r ≡ record { name = n; port = p; started = s }
request_of r a b c = rw (sym a, sym b, sym c)

zero_is : (r : Request) → zero_request r ≡ true → r ≡ no_request
unfolding zero_request
zero_is r e =
    request_of r (name_is _ _ (and_l _ _ (and_l _ _ e))) (eqb-true _ 0 (and_r (same_name r.name no_name) _ (and_l _ _ e)))
    (eqb-true _ 0 (and_r (same_name r.name no_name && eqb r.port 0) _ e))

-- ── The table of a sound tool ──
module _ (t : QueuedTool) (h : sound_tool t ≡ true) (long : length t.queue ≡ 16) where
  abbrev used : List Request
  used = take t.waiting t.queue

  first_three : (maps-sound.sound_tool t.mapped && leb t.waiting 16 && every zero_request (drop t.waiting t.queue)) ≡ true
  unfolding sound_tool
  first_three = and_l _ _ h

  pub few_waiting : t.waiting ≤ 16
  few_waiting = leb-true _ 16 (and_r (maps-sound.sound_tool t.mapped) _ (and_l _ _ first_three))

  none_after : every zero_request (drop t.waiting t.queue) ≡ true
  none_after = and_r (maps-sound.sound_tool t.mapped && leb t.waiting 16) _ first_three

  pub used_long : length used ≡ t.waiting
  used_long = let b = few_waiting in length-take-le t.waiting t.queue (omega arith)

  pub queue_held : fill 16 no_request used ≡ t.queue
  queue_held =
      ap (λ w. fill w no_request used) (sym long) ∙ sym (tail_is zero_request no_request zero_is t.waiting t.queue none_after)

  pub waiting_held : length (take 16 used) ≡ t.waiting
  waiting_held = let b = few_waiting in let e = used_long in ap length (take_all 16 used (omega arith)) ∙ used_long

  abbrev s : Queued
  s = state_of t

  -- ── A row that stands for one input below ──
  module _ (i j : Input) (gs : List Ground) (q : List Request)
      (row : row_in (state_of t) i ≡ record { grounds = gs; stands = j ∷ []; queue = q }) (clear : lowest gs ≡ 0) where
    answer_is : answer_in s i ≡ maps.answer_in s.mapped j
    unfolding answer_in answers_in lower maps-runs.reached
    answer_is = rw (row, clear)

    -- accepted there, with the queue that follows
    pub taken_given : maps.answer_in s.mapped j ≡ 0
        → beside (length (take 16 q)) (fill 16 no_request q) (maps.given_in t.mapped j) ≡ given_in t i
    unfolding given_in maps.given_in state_after in_tool goes_in made_in maps-runs.reached
    taken_given e = rw (answer_is, e, row)

    -- refused there
    pub refused_given : eqb (maps.answer_in s.mapped j) 0 ≡ false
        → beside t.waiting t.queue (maps.given_in t.mapped j) ≡ given_in t i
    unfolding given_in maps.given_in
    refused_given e = rw (answer_is, e)

  -- the queue as it is
  module _ (i : Input) (gs : List Ground) (row : row_in (state_of t) i ≡ passed_on gs used i) (clear : lowest gs ≡ 0) where
    pub passed_given : beside t.waiting t.queue (maps.given_in t.mapped i) ≡ given_in t i
    passed_given = go (eqb (maps.answer_in s.mapped i) 0) refl
      where
        go : (w : Bool) → eqb (maps.answer_in s.mapped i) 0 ≡ w → beside t.waiting t.queue (maps.given_in t.mapped i) ≡ given_in t i
        go true e = rw (waiting_held, queue_held) at (taken_given i i gs used row clear (eqb-true _ 0 e))
        go false e = refused_given i i gs used row clear e

  -- a row that the request leaves as it is
  module _ (i : Input) (p : Plain i.number) where
    plain_row : row_in (state_of t) i ≡ passed_on [] used i
    unfolding row_of
    plain_row =
        rw (
          ne_eqb i.number 6 p.not_six,
          ne_eqb i.number 7 p.not_seven,
          ne_eqb i.number 12 p.not_twelve,
          ne_eqb i.number 13 p.not_thirteen,
          ne_eqb i.number 19 p.not_nineteen,
          ne_eqb i.number 27 p.not_out_start,
          ne_eqb i.number 28 p.not_out_done,
          ne_eqb i.number 29 p.not_cancel,
          ne_eqb i.number 30 p.not_cancel_all,
        )

    pub plain_given : beside t.waiting t.queue (maps.given_in t.mapped i) ≡ given_in t i
    unfolding lowest
    plain_given = passed_given i [] plain_row refl
