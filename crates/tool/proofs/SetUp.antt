-- What set-up leaves, by the ports that document 01's is asked for.
use Prim.Native.Nat.{ℕ, ◌<◌}
use native.Mathlib.Omega.{arith}
use mathlib.Core.Path.{◌≡◌, ap, sym, subst, ◌∙◌}
use mathlib.Core.Logic.{◌≢◌}
use mathlib.Core.List.{List, []}
use lib.ListN.{length, get_or, set, length-set}
use lib.Seq.{get_or-set_same, get_or-set_other}
use Rattle.rules.specs.State as base
use Rattle.image.specs.Image.{tool_from, bytes_from}
use Rattle.follow.specs.Follow.{KeptOutside}
use Rattle.line.proofs.Changed.{kept_wider}
use Rattle.mapped.specs.Bytes.{own_in}
use Rattle.prediction.specs.declared.prediction.Times.{Times}
use Rattle.times.specs.Bytes.{times_from, predictions_from}
use Rattle.times.proofs.Kept.{predictions_after}
use Rattle.predicted.proofs.Clocked.{queued_same}
use Rattle.handled.specs.Bytes.{alarms_from}
use Rattle.handled.proofs.Laid.{alarms_same}
use Rattle.tool.specs.Whole.{Setup, whole_in, set_up}
use Rattle.tool.proofs.Tested.{unused_after, whole_made}
use Rattle.tool.proofs.Blank.{zeros, none_used, no_times, no_predictions_fact, no_alarms_fact, queued_made}
use Rattle.tool.proofs.Accepts.{ports, spans, accepted_is, refused_is}

-- zeros in the second block, then w in the first
module _ (m : List (List ℕ)) (two : 1 < length m) (w : List ℕ) where
  abbrev pub laid : List (List ℕ)
  laid = set (set m 1 zeros) 0 w

  pub first_is : get_or laid 0 [] ≡ w
  first_is = get_or-set_same (set m 1 zeros) 0 w [] (simp length-set (omega (arith, two)))

  pub own_is : own_in laid ≡ zeros
  own_is = get_or-set_other (set m 1 zeros) 0 1 w [] (omega arith) ∙ get_or-set_same m 1 zeros [] two

  pub long : 1 < length laid
  long = simp length-set two

module _ (P B setting timeout asked : ℕ) (asked_is : asked ≡ ports P B setting timeout (spans P B setting timeout))
    (m : List (List ℕ)) (two : 1 < length m) (w : List ℕ) (w_is : tool_from w ≡ (base.set_up asked B).tool)
    (answer : ℕ) (answer_is : answer ≡ (base.set_up asked B).answer) where
  abbrev n : List (List ℕ)
  n = laid m two w

  tool_is : tool_from (get_or n 0 []) ≡ (base.set_up (ports P B setting timeout (spans P B setting timeout)) B).tool
  tool_is = ap tool_from (first_is m two w) ∙ w_is ∙ ap (λ p. (base.set_up p B).tool) asked_is

  answered : answer ≡ (base.set_up (ports P B setting timeout (spans P B setting timeout)) B).answer
  answered = answer_is ∙ ap (λ p. (base.set_up p B).answer) asked_is

  pub refused_set_up : answer ≢ 0 → (whole_in n ≡ (set_up P B setting timeout).tool) × (answer ≡ (set_up P B setting timeout).answer)
  refused_set_up z =
      let own = own_is m two w in
      let x = refused_is P B setting timeout (λ y. z (answered ∙ y)) in
      let t = whole_made n (queued_made n tool_is own) (ap times_from own ∙ no_times)
      (ap predictions_from own ∙ no_predictions_fact) (ap alarms_from own ∙ no_alarms_fact)
      (ap (λ b. bytes_from b 1605 286) own ∙ none_used 1605 286) in
      (t ∙ ap (λ (x : Setup). x.tool) x, answered ∙ ap (λ (x : Setup). x.answer) x)

  pub accepted_set_up : answer ≡ 0 → (v : List ℕ)
      → times_from v ≡ record { now = (times_from (own_in n)).now; setting = setting; timeout = timeout }
      → KeptOutside 1193 1201 (own_in n) v
      → (whole_in (set n 1 v) ≡ (set_up P B setting timeout).tool) × (0 ≡ (set_up P B setting timeout).answer)
  accepted_set_up z v times_are after =
      let own = own_is m two w in
      let there = get_or-set_same n 1 v [] (long m two w) in
      let kept = subst (λ x. KeptOutside 1193 1201 x v) own after in
      let below : KeptOutside 1189 1201 (own_in n) (own_in (set n 1 v)) =
      subst (λ x. KeptOutside 1189 1201 (own_in n) x) (sym there) (kept_wider (omega arith) (omega arith) after) in
      let x = accepted_is P B setting timeout (sym answered ∙ z) in
      let t = whole_made (set n 1 v)
      (queued_same n (set n 1 v) (get_or-set_other n 1 0 v [] (omega arith)) below ∙ queued_made n tool_is own)
      (ap times_from there ∙ times_are
      ∙ ap (λ k. record { now = k; setting = setting; timeout = timeout }) (ap (λ b. (times_from b).now) own ∙ ap (λ (t : Times). t.now) no_times))
      (ap predictions_from there ∙ predictions_after 1193 1201 zeros v kept (omega arith) ∙ no_predictions_fact)
      (ap alarms_from there ∙ alarms_same zeros v (λ j b c. kept.after j (omega arith)) ∙ no_alarms_fact)
      (ap (λ b. bytes_from b 1605 286) there ∙ unused_after zeros v kept (omega arith) ∙ none_used 1605 286) in
      (t ∙ ap (λ (x : Setup). x.tool) x, ap (λ (x : Setup). x.answer) x)
