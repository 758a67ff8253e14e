-- The lines show what they are there for, and refute their pairs.
use mathlib.Core.Path.{◌≡◌, refl, ap, sym, ◌∙◌}
use mathlib.Core.Bool.{Bool, true, false, not, ◌&&◌, ◌||◌}
use lib.Dec.{eqb}
use borrow.Author.Tests.{eqb-true, eq-eqb}
use Rattle.lists.specs.Lists.{every, every_two, any, how_many, where_is, without, fill, same_list}
use Rattle.lists.proofs.Bools.{clash, and_l, and_r}
use Rattle.records.specs.Names.{is_name, in_bytes, same_name, head_or0, zero_ended, holds_name}
use Rattle.records.specs.Maps.{is_map, in_map}
use Rattle.rules.specs.State.{port_of, record_of}
use Rattle.rules.specs.Sound as base_sound
use Rattle.rules.specs.Seen.{narrow, name_stands, tie_stands, how_many_expected, spot_taken, some_open, see}
use Rattle.rules.specs.Row as row
use Rattle.rules.specs.Row.{lower, lowest, placed, unknown_pod, found_or_new}
use Rattle.rules.specs.Booking.{meant, meant_port, meant_stands, one_pair}
use Rattle.rules.specs.Verdict.{takes_unknown_pod, can_proceed, can_cancel, cancel_at, cancel_port, failed}
use Rattle.rules.specs.Reading.{elsewhere, matching, displaced}
use Rattle.rules.specs.Rows as base
use Rattle.rules.specs.Undoing.{is_pair, same_port, same_carrier, same_both, always, other_value, then_in}
use Rattle.follow.specs.Follow.{followed}
use Rattle.maps.specs.Expected.{is_expected, equals, carries, new_map}
use Rattle.maps.specs.Sound as maps-sound
use Rattle.maps.specs.Rows as maps-rows
use Rattle.maps.specs.Outcome as maps
use Rattle.maps.specs.Projection as maps-runs
use Rattle.queue.specs.Requests.{carrier_of, may_leave, only}
use Rattle.queue.specs.Sound as queue-sound
use Rattle.queue.specs.Rows as queue-rows
use Rattle.queue.specs.Outcome as queue
use Rattle.prediction.specs.Model.{next, passed, last_of}
use Rattle.prediction.specs.Predictions.{is_soon, is_late}
use Rattle.prediction.specs.State.{first_prediction}
use Rattle.prediction.specs.Sound as prediction-sound
use Rattle.prediction.specs.Sound.{is_ready}
use Rattle.prediction.specs.Outcome as prediction
use Rattle.prediction.specs.Outcome.{says_of, grounds_of, all_along, written, own_facts, all_facts, below_in}
use Rattle.wafers.specs.Outcome as wafers
use Rattle.hands.specs.Alarms.{settled}
use Rattle.hands.specs.State.{Handled, base_of, alarm_of}
use Rattle.hands.specs.Sound as sound
use Rattle.hands.specs.Rows.{row_of}
use Rattle.hands.specs.Outcome.{answer_below, answer_in, all_settled, state_after}
use Rattle.hands.specs.Cases.{smooth, after}
use Rattle.undo.specs.Undoing.{TakenBack, Undoes}
use Rattle.undo.specs.Lines.{anything, Line, given, shows, lines, Round}

computed : (every shows lines ≡ true) × Round
unfolding every every_two any how_many where_is without fill same_list is_name in_bytes same_name head_or0 zero_ended holds_name is_map in_map
    port_of record_of narrow name_stands tie_stands how_many_expected spot_taken some_open see lower lowest row.enact placed unknown_pod found_or_new
    base_sound.port_in_range base_sound.spot_in_range base_sound.status_in_range base_sound.carrier_in_range base_sound.in_range base_sound.other_name
    base_sound.tie_kept base_sound.tie_held base_sound.ties_agree base_sound.place_agrees base_sound.other_spot base_sound.few_expected
    base_sound.port_agrees base_sound.open_agrees base_sound.sound
    meant meant_port meant_stands one_pair takes_unknown_pod can_proceed can_cancel cancel_at cancel_port failed elsewhere matching displaced base.row_of
    is_pair same_port same_carrier same_both always other_value then_in followed is_expected equals carries new_map maps-sound.sound
    maps-rows.codes_in maps-rows.row_of maps.answer_in maps.state_after maps-runs.reached
    carrier_of may_leave only queue-sound.request_in_range queue-sound.carrier_stored queue-sound.other_carrier queue-sound.carrier_shut
    queue-sound.alone_there queue-sound.kept_free queue-sound.port_kept queue-sound.sound
    queue-rows.until_zero queue-rows.row_of queue.answers_in queue.answer_in queue.state_after queue.goes_in queue.made_in
    next passed last_of is_soon is_late first_prediction is_ready prediction-sound.times_in_range prediction-sound.in_range prediction-sound.left_at_port
    prediction-sound.not_overdue prediction-sound.fits prediction-sound.is_none prediction-sound.each_fits prediction-sound.sound
    says_of grounds_of prediction.answer_in all_along written own_facts all_facts below_in prediction.state_after prediction.reached
    wafers.answer_in wafers.stands_for wafers.state_after wafers.reached
    settled alarm_of sound.agrees sound.each_agrees sound.sound row_of answer_below answer_in all_settled state_after smooth after anything given shows
computed = (refl, record { accepted = refl; comes_back = refl; other_place = refl; other_tag = refl })

pub all_show : every shows lines ≡ true
all_show = computed.0

pub round : Round
round = computed.1

-- A line that shows it refutes its pair.
module _ (l : Line) (e : shows l ≡ true) (u : Undoes l.pair) where
  abbrev back : Handled
  back = state_after (state_after l.state l.input) l.undoing

  is_given : given l ≡ true
  unfolding shows
  is_given = and_l _ _ (and_l _ _ (and_l _ _ (and_l _ _ e)))

  taken : TakenBack l.state l.input l.undoing
  unfolding given
  taken =
      let a = sound.sound l.state in
      let b = is_pair l.pair l.input.timed.input l.undoing.timed.input in
      let c = l.pair.when (see (base_of l.state) l.input.timed.input) in
      u l.state l.input l.undoing (and_l a b (and_l (a && b) c (and_l (a && b && c) _ is_given)))
      (and_r a b (and_l (a && b) c (and_l (a && b && c) _ is_given))) (and_r (a && b) c (and_l (a && b && c) _ is_given))
      (eqb-true _ 0 (and_r (a && b && c) _ is_given))

  pub refuted : ⊥
  unfolding shows
  refuted =
      let g = given l in
      let a = eqb (answer_in (state_after l.state l.input) l.undoing) l.answer in
      let b = eqb (l.reads l.state) l.was in
      let c = eqb (l.reads back) l.is in
      let answered : l.answer ≡ 0 = sym (eqb-true _ _ (and_r g a (and_l (g && a) b (and_l (g && a && b) c (and_l (g && a && b && c) _ e))))) ∙ taken.accepted in
      let was = eqb-true (l.reads l.state) l.was (and_r (g && a) b (and_l (g && a && b) c (and_l (g && a && b && c) _ e))) in
      let is = eqb-true (l.reads back) l.is (and_r (g && a && b) c (and_l (g && a && b && c) _ e)) in
      let same : l.was ≡ l.is = sym was ∙ ap l.reads (sym taken.back) ∙ is in
      differ (eqb l.answer 0) (eqb l.was l.is) (eq-eqb _ 0 answered) (eq-eqb _ _ same) (and_r (g && a && b && c) _ e)
    where
      differ : (p q : Bool) → p ≡ true → q ≡ true → (not p || not q) ≡ true → ⊥
      differ true true f g d = clash d refl
      differ true false f g d = clash g refl
      differ false q f g d = clash f refl
