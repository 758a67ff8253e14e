-- Soundness: P5's, and the predictions', in the request's order.
use Rattle.std.specs.Prelude.{ℕ, Bool, true, false, not, cond, ◌&&◌, ◌||◌, List, [], ◌∷◌, drop, eqb, leb, ltb}
use Rattle.lists.specs.Lists.{between, every}
use Rattle.records.specs.declared.carrier.Carrier.{Carrier}
use Rattle.records.specs.Ports.{ready_to_unload}
use Rattle.records.specs.Carriers.{at_port}
use Rattle.rules.specs.State.{State, port_of}
use Rattle.queue.specs.Sound as queue
use Rattle.prediction.specs.declared.prediction.Prediction.{Prediction}
use Rattle.prediction.specs.Model.{waiting_for_carrier, predicted, aborted}
use Rattle.prediction.specs.declared.prediction.Times.{Times}
use Rattle.prediction.specs.State.{Predicted, base_of, PredictedTool, count_of, state_of, is_fixed}

-- seconds that a clock shows, and those that set-up takes
abbrev pub is_time : ℕ → Bool
is_time n = ltb n 4294967296

abbrev pub is_span : ℕ → Bool
is_span n = leb n 86400

unfoldable pub times_in_range : Times → Bool
times_in_range t = is_time t.now && is_span t.setting && is_span t.timeout

-- a time that is there, or 0
abbrev pub time_or_none : ℕ → ℕ → Bool
time_or_none there n = leb there 1 && is_time n && (eqb there 1 || eqb n 0)

unfoldable pub in_range : Prediction → Bool
in_range p = between 1 p.state 6 && time_or_none p.known p.tp && time_or_none p.estimated p.te

-- the port of a carrier is READY TO UNLOAD
unfoldable pub is_ready : State → Carrier → Bool
is_ready s c = at_port c && ready_to_unload (port_of s c.port)

-- only a carrier at a port has left WAITING FOR CARRIER
unfoldable pub left_at_port : Carrier → Prediction → Bool
left_at_port c p = eqb p.state waiting_for_carrier || at_port c

-- none is PREDICTED or ABORTED with its port READY TO UNLOAD
unfoldable pub not_overdue : State → Carrier → Prediction → Bool
not_overdue s c p = not ((eqb p.state predicted || eqb p.state aborted) && is_ready s c)

unfoldable pub fits : State → Carrier → Prediction → Bool
fits s c p = in_range p && left_at_port c p && not_overdue s c p

-- no prediction: all zero
unfoldable pub is_none : Prediction → Bool
is_none p = eqb p.state 0 && eqb p.known 0 && eqb p.estimated 0 && eqb p.tp 0 && eqb p.te 0

-- one for each carrier, in record order
unfoldable pub each_fits : State → List Carrier → List Prediction → Bool
each_fits s [] [] = true
each_fits s [] (p ∷ ps) = false
each_fits s (c ∷ cs) [] = false
each_fits s (c ∷ cs) (p ∷ ps) = cond (is_fixed s) (fits s c p) (is_none p) && each_fits s cs ps

unfoldable pub sound : Predicted → Bool
sound s = queue.sound s.queued && times_in_range s.times && each_fits (base_of s) (base_of s).carriers s.predictions

-- P5's tool is sound, what is unused is zero, and what is used is sound.
unfoldable pub sound_tool : PredictedTool → Bool
sound_tool t = queue.sound_tool t.queued && every is_none (drop (count_of t) t.predictions) && sound (state_of t)
