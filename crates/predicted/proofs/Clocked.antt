-- What an input that brings a clock leaves: below nothing moves, and no record goes or is made.
use Prim.Native.Nat.{ℕ}
use native.Mathlib.Omega.{arith}
use mathlib.Core.Path.{◌≡◌, ap, sym, ◌∙◌}
use mathlib.Core.Bool.{true, false, cond}
use mathlib.Core.List.{List, [], ◌∷◌, ◌++◌}
use lib.ListN.{length, get_or, get_or-eq_default}
use lib.Dec.{eqb}
use Rattle.lists.proofs.Tables.{without_out}
use Rattle.rules.specs.declared.report.Report.{Report}
use Rattle.rules.specs.declared.row.Seen.{Seen}
use Rattle.rules.specs.Sound as base_sound
use Rattle.rules.specs.Seen.{see}
use Rattle.rules.specs.Reports.{differences}
use Rattle.follow.specs.Follow.{followed, KeptOutside}
use Rattle.image.proofs.Table.{table_same}
use Rattle.image.specs.Image.{tool_from}
use Rattle.line.specs.Bytes.{request_start, queue_from}
use Rattle.line.proofs.Written.{request_same}
use Rattle.mapped.specs.Bytes.{own_in}
use Rattle.queue.specs.declared.request.Request.{Request}
use Rattle.queue.specs.State as queue
use Rattle.queue.specs.State.{QueuedTool}
use Rattle.queued.specs.Bytes.{queued_in}
use Rattle.queued.proofs.Held.{maps_stay}
use Rattle.queued.proofs.Seven.{no_difference}
use Rattle.line.proofs.Changed.{kept_wider}
use Rattle.rules.specs.declared.tool.Tool.{Tool}
use Rattle.prediction.specs.declared.prediction.Prediction.{Prediction}
use Rattle.prediction.specs.declared.prediction.Times.{Times}
use Rattle.prediction.specs.Predictions.{no_prediction}
use Rattle.prediction.specs.State.{Predicted, base_of, Timed}
use Rattle.prediction.specs.Outcome as outcome
use Rattle.prediction.specs.Outcome.{is_timed, says_of, below_in, told}
use Rattle.predicted.specs.Bytes.{told_after}

-- ── Below ──
tool_of : {t u : Tool} {l k : List (List ℕ)} {v w : ℕ} {q p : List Request} → t ≡ u → l ≡ k → v ≡ w → q ≡ p
    → ◌≡◌ {A = QueuedTool} (record { mapped = record { base = t; maps = l }; waiting = v; queue = q })
    (record { mapped = record { base = u; maps = k }; waiting = w; queue = p })
tool_of a b c d = rw (a, b, c, d)

pub queued_same : (m n : List (List ℕ)) → get_or n 0 [] ≡ get_or m 0 [] → {e : ℕ} → KeptOutside 1189 e (own_in m) (own_in n) → queued_in n ≡ queued_in m
unfolding queue_from
queued_same m n same {e} k =
    tool_of (ap tool_from same) (maps_stay {e = e} (kept_wider (omega arith) (omega arith) k)) (k.before 900 (omega arith))
    (table_same 16 _ _ (λ j h. request_same (own_in n) (own_in m) (request_start j) (request_start j) (λ i l. k.before _ (omega arith))))

module _ (s : Predicted) (i : Timed) (t : is_timed i.input.number ≡ true) where
  pub after_is : (outcome.below s i).after ≡ s.queued
  unfolding below_in
  after_is = rw t

  goes_is : (outcome.below s i).goes ≡ length (base_of s).carriers
  unfolding below_in
  goes_is = rw t

  made_is : (outcome.below s i).made ≡ false
  unfolding below_in
  made_is = rw t

  pub times_is : ◌≡◌ {A = Times} (record { now = i.clock; setting = s.times.setting; timeout = s.times.timeout }) (outcome.times_then s i)
  times_is = rw t

  -- nobody's prediction goes, and none is made
  pub first_is : length s.predictions ≡ length (base_of s).carriers → s.predictions ≡ outcome.first s i
  unfolding followed
  first_is l = rw (goes_is, made_is) (sym (without_out s.predictions (length (base_of s).carriers) (omega arith)))

  -- ── Reports ──
  told_none : (n : ℕ) → n ≡ 0 → (name : _) → told name n (cond (eqb n 0) [] (0 ∷ [])) ≡ []
  unfolding told
  told_none n e name = rw e

  module _ (l : length s.predictions ≡ length (base_of s).carriers) (h : base_sound.sound (base_of s) ≡ true) where
    no_state : (get_or s.predictions (outcome.below s i).goes no_prediction).state ≡ 0
    no_state = rw goes_is (ap (λ (p : Prediction). p.state) (get_or-eq_default s.predictions no_prediction (omega arith)))

    none_gone : outcome.gone s i ≡ []
    none_gone = told_none (get_or s.predictions (outcome.below s i).goes no_prediction).state no_state _

    none_fresh : outcome.fresh s i ≡ []
    none_fresh = rw made_is

    none_differ : differences (base_of s) (outcome.after s i) ≡ []
    none_differ = ap (λ q. differences (base_of s) (queue.base_of q)) after_is ∙ no_difference (base_of s) h

    pub reports_are : told_after i.input.number (outcome.times_then s i) i.time (outcome.after s i) (outcome.first s i) (outcome.spot s i)
        ≡ differences (base_of s) (outcome.after s i) ++ outcome.eight s i
    reports_are = sym (joined _ _ none_differ none_gone none_fresh)
      where
        joined : {a b c : List Report} (d e : List Report) → a ≡ [] → b ≡ [] → c ≡ [] → a ++ (b ++ c ++ d ++ e) ≡ d ++ e
        joined d e p q r = rw (p, q, r)

  -- where the named carrier stands
  pub spot_is : (x : Seen) → x ≡ see (base_of s) i.input → cond (says_of i.input.number) x.stands x.count ≡ outcome.spot s i
  unfolding see
  spot_is x e = rw (e, after_is)
