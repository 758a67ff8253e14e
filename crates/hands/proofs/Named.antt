-- A row that takes no name ignores the one that it is sent; a row that takes one answers 1 where it is no name.
use Prim.Native.Nat.{ℕ}
use mathlib.Core.Path.{◌≡◌, refl, ap, sym, ◌∙◌}
use mathlib.Core.Bool.{Bool, true, false, cond}
use mathlib.Core.List.{List, [], ◌∷◌}
use lib.Dec.{eqb}
use Rattle.lists.proofs.Bools.{clash}
use Rattle.records.specs.Names.{is_name}
use Rattle.rules.specs.declared.row.Seen.{Seen}
use Rattle.rules.specs.Seen.{narrow, see}
use Rattle.rules.specs.Row.{lower, lowest}
use Rattle.rules.specs.Named as base
use Rattle.rules.specs.Named.{name_missing}
use Rattle.queue.specs.Named as queue
use Rattle.prediction.specs.State.{Predicted}
use Rattle.prediction.specs.Named as prediction
use Rattle.wafers.specs.Outcome as wafers
use Rattle.wafers.specs.Outcome.{Brought}
use Rattle.wafers.specs.Named.{takes_name, called}
use Rattle.wafers.proofs.Named as names
use Rattle.hands.specs.declared.alarm.Alarm.{Alarm}
use Rattle.hands.specs.State.{Handled, base_of, alarm_of, HandledTool, state_of}
use Rattle.hands.specs.Rows.{Row, passed_on, starts, load_done, continue_row, violated, row_of}
use Rattle.hands.specs.Outcome.{row_in, answer_below, reports_below, answer_in, state_after, reports_in, refused, given_in}
use Rattle.hands.proofs.Walk.{walk}

-- ── Ignored ──
-- two rows that answer alike, and make and tell the same
pub record Alike (s : Predicted) (r q : Row) : Type 0 where
  pub grounds : r.grounds ≡ q.grounds
  pub alarm : r.alarm ≡ q.alarm
  pub answers : answer_below s r.stands ≡ answer_below s q.stands
  pub leads : wafers.reached s r.stands ≡ wafers.reached s q.stands
  pub tells : reports_below s r.stands ≡ reports_below s q.stands

module _ (i : Brought) (name : List ℕ) (f : takes_name i.timed.input.number ≡ false) (s : Handled) where
  abbrev j : Brought
  j = called name i

  abbrev x : Seen
  x = see (base_of s) i.timed.input

  abbrev a : Alarm
  a = alarm_of s (narrow i.timed.input.port)

  -- the input as it is, or nothing
  itself_alike : (grounds : _) (alarm : Alarm) (w : Bool)
      → Alike s.predicted (record { grounds = grounds; stands = cond w [] (j ∷ []); alarm = alarm })
      (record { grounds = grounds; stands = cond w [] (i ∷ []); alarm = alarm })
  unfolding answer_below reports_below wafers.reached
  itself_alike grounds alarm true = record { grounds = refl; alarm = refl; answers = refl; leads = refl; tells = refl }
  itself_alike grounds alarm false = record {
    grounds = refl;
    alarm = refl;
    answers = names.answer_ignores i name f s.predicted;
    leads = names.state_ignores i name f s.predicted;
    tells = names.reports_ignore i name f s.predicted;
  }

  rows_alike : Alike s.predicted (row_in s j) (row_in s i)
  unfolding row_of see
  rows_alike = go (eqb i.timed.input.number 13) (eqb i.timed.input.number 14) (eqb i.timed.input.number 24) (eqb i.timed.input.number 36)
    where
      row_if : Brought → Bool → Bool → Bool → Bool → Row
      row_if k u v w z = cond u (starts x a k) (cond v (load_done x a k) (cond w (starts x a k) (cond z (continue_row a k) (passed_on a k))))

      go : (u v w z : Bool) → Alike s.predicted (row_if j u v w z) (row_if i u v w z)
      go true v w z = itself_alike _ _ false
      go false true w z = itself_alike _ _ (violated x a)
      go false false true z = itself_alike _ _ false
      go false false false true = record { grounds = refl; alarm = refl; answers = refl; leads = refl; tells = refl }
      go false false false false = itself_alike _ _ false

  answer_ignores : answer_in s j ≡ answer_in s i
  unfolding answer_in
  answer_ignores = let k = rows_alike in rw (k.grounds, k.answers)

  state_ignores : state_after s j ≡ state_after s i
  unfolding state_after
  state_ignores = let k = rows_alike in rw (answer_ignores, k.leads, k.alarm)

  reports_ignore : reports_in s j ≡ reports_in s i
  unfolding reports_in
  reports_ignore = let k = rows_alike in rw (answer_ignores, k.leads, k.alarm, k.tells)

pub given_ignores : (i : Brought) (name : List ℕ) → takes_name i.timed.input.number ≡ false
    → (t : HandledTool) → given_in t (called name i) ≡ given_in t i
unfolding given_in
given_ignores i name f t = rw (answer_ignores i name f (state_of t), state_ignores i name f (state_of t), reports_ignore i name f (state_of t))

-- ── Refused ──
module _ (i : Brought) (h : is_name i.timed.input.name ≡ false) (k : takes_name i.timed.input.number ≡ true)
    (m : name_missing i.timed.input ≡ false) where
  -- none of the rows that are other here takes a name
  other : (n : ℕ) → takes_name n ≡ false → i.timed.input.number ≡ n → ⊥
  other n e z = clash (ap takes_name (sym z) ∙ k) e

  answers : (s : Handled) → answer_in s i ≡ 1
  unfolding answer_in answer_below takes_name prediction.takes_name queue.takes_name base.takes_name lowest lower
  answers s = walk (λ r. lower (lowest r.grounds) (answer_below s.predicted r.stands) ≡ 1) i.timed.input.number
      (see (base_of s) i.timed.input) (alarm_of s (narrow i.timed.input.port)) i (record {
        load_start = λ z. absurd (other 13 refl z);
        load_done = λ z. absurd (other 14 refl z);
        unload_start = λ z. absurd (other 24 refl z);
        continue_row = λ z. absurd (other 36 refl z);
        other = names.answers i h k m s.predicted;
      })

  pub turned_away : (u : HandledTool) → given_in u i ≡ refused u 1
  unfolding given_in
  turned_away u = rw (answers (state_of u))
