-- Pods in, pods out, of a run of calls: their inputs and answers are the run's.
use Prim.Native.Nat.{ℕ, ◌+◌, ◌-◌}
use native.Mathlib.Omega.{arith}
use mathlib.Core.Path.{◌≡◌, refl, ap, sym, subst, ◌∙◌}
use mathlib.Core.List.{List, [], ◌∷◌, map}
use Rattle.rules.specs.History.{Event}
use Rattle.tally.specs.Count.{Entry, went_out, pods_here}
use Rattle.wafers.specs.Outcome.{Brought}
use Rattle.hands.specs.State.{Handled, base_of, start}
use Rattle.hands.specs.Outcome.{answer_in, reached}
use Rattle.hands.specs.Promise.{events}
use Rattle.counted.specs.Count.{entries, came_in}
use Rattle.counted.proofs.Counted.{counted}
use Rattle.tool.proofs.Runs.{valid}
use Rattle.hawsermole.specs.Calls.{Call, Left, state_in, logged, PodsCounted}
use Rattle.hawsermole.proofs.Kept.{inputs, set_up_fact, state_is, events_are}

abbrev seen : Event → Entry
seen e = record { input = e.input; answer = e.answer }

-- a run's log is what happened in it, without the states
log_is : (s : Handled) (run : List Brought) → map seen (events s run) ≡ entries s run
unfolding events entries
log_is s [] = refl
log_is s (i ∷ earlier) =
    ap (λ l. record { input = i.timed.input; answer = answer_in (reached s earlier) i } ∷ l) (log_is s earlier)

-- the same of another log and another state that are equal
counted_as : (l m : List Entry) (s u : Handled) → l ≡ m → s ≡ u
    → came_in m ≡ went_out m + pods_here (base_of u) → came_in l ≡ went_out l + pods_here (base_of s)
counted_as l m s u e f c =
    subst (λ (k : List Entry). came_in k ≡ went_out k + pods_here (base_of s)) (sym e)
    (subst (λ (w : Handled). came_in m ≡ went_out m + pods_here (base_of w)) (sym f) c)

pub pods_counted : (P B setting timeout : ℕ) (calls : List Call) (bytes : List (List ℕ)) → Left P B setting timeout calls bytes → PodsCounted calls bytes
pods_counted P B setting timeout calls bytes l =
    let f = valid P B setting timeout (set_up_fact P B setting timeout calls bytes l) in
    let run = inputs calls in
    let c = (counted P B setting timeout f.0 f.1 f.2 run).all in
    let e : logged calls ≡ entries (start P B setting timeout) run =
    ap (map seen) (events_are P B setting timeout calls bytes l) ∙ log_is (start P B setting timeout) run in
    let a = counted_as (logged calls) (entries (start P B setting timeout) run) (state_in bytes) (reached (start P B setting timeout) run) e
    (state_is P B setting timeout calls bytes l) c in
    record { all = a; less = less_of (came_in (logged calls)) (went_out (logged calls)) (pods_here (base_of (state_in bytes))) a }
  where
    less_of : (a b n : ℕ) → a ≡ b + n → a - b ≡ n
    less_of a b n e = omega arith
