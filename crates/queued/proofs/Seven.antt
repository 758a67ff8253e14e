-- Seven reports are enough with the queue too; and OutDone has three: transfer, reservation and tie.
use Prim.Native.Nat.{ℕ, ◌≤◌}
use native.Mathlib.Omega.{arith}
use mathlib.Core.Path.{◌≡◌, refl, ap, sym, ◌∙◌}
use mathlib.Core.Bool.{Bool, true, false}
use mathlib.Core.List.{List, [], ◌∷◌}
use lib.ListN.{length, get_or}
use lib.Seq.{set_out}
use borrow.Author.Tests.{eqb-true, eq-eqb}
use Rattle.lists.specs.Lists.{any}
use Rattle.lists.proofs.Bools.{clash}
use Rattle.lists.proofs.Tables.{without_out}
use Rattle.records.specs.declared.name.Name.{Name}
use Rattle.records.specs.declared.port.Port.{Port}
use Rattle.records.specs.declared.carrier.Carrier.{Carrier}
use Rattle.records.specs.Names.{no_name, same_name, holds_name}
use Rattle.records.specs.Ports.{no_port, handed_out}
use Rattle.records.specs.Carriers.{no_carrier, taken_out}
use Rattle.records.specs.Fields.{with_reserved}
use Rattle.rules.specs.declared.row.Seen.{Seen}
use Rattle.rules.specs.declared.row.Effect.{Effect}
use Rattle.rules.specs.State.{State, port_of}
use Rattle.rules.specs.Sound as base_sound
use Rattle.rules.specs.Seen.{Input, name_stands, narrow, see}
use Rattle.rules.specs.Row as row
use Rattle.rules.specs.Row.{on_port, on_both, lowest}
use Rattle.rules.specs.Inputs.{ReserveAtPort}
use Rattle.rules.specs.Reports.{report_if, tie_number, differences}
use Rattle.rules.specs.Run as run
use Rattle.rules.specs.declared.report.Report.{Report}
use Rattle.rules.proofs.Names.{name_is, name_same, name_sym}
use Rattle.parts.specs.Told.{port_touched, record_touched, touched}
use Rattle.rules.proofs.Accepts.{clear}
use Rattle.rules.proofs.Apt.{Apt}
use Rattle.rules.proofs.SoundParts.{facts}
use Rattle.rules.proofs.SoundFacts.{few_ports, distinct}
use Rattle.machine.proofs.Differ.{differences_touched}
use Rattle.machine.proofs.Seven as machine
use Rattle.maps.specs.Projection as maps-runs
use Rattle.maps.proofs.SoundRuns as maps-proofs
use Rattle.mapped.proofs.Seven as mapped
use Rattle.queue.specs.declared.request.Request.{Request}
use Rattle.queue.specs.Requests.{no_request, started_to, started_stands, carrier_of}
use Rattle.queue.specs.State.{Queued, base_of}
use Rattle.queue.specs.Sound.{sound}
use Rattle.queue.specs.Rows.{Row, out_done}
use Rattle.queue.specs.Dispatch.{is_under_way, HeldFor}
use Rattle.queue.specs.Outcome.{row_in, answers_in, answer_in, state_after}
use Rattle.queue.proofs.Free.{Free, free_is, nobody, none_zero, nobody_last}
use Rattle.queue.proofs.After.{name_held}
use Rattle.queue.proofs.Outs.{hands_out}
use Rattle.queue.proofs.SoundRuns.{sound_parts, own_zero, below_zero, last_zero, cleared}
use Rattle.queue.proofs.Ended.{under_way_there, row_done, base_then, out_apt, held}
use Rattle.queue.proofs.Walk.{walk}

-- a report of a port
abbrev reported : ℕ → ℕ → ℕ → ℕ → Report
reported = run.on_port

-- ── An effect under which no record goes ──
module _ (s : State) (h : base_sound.sound s ≡ true) where
  few_reports : (e : Effect) → Apt s e → length s.carriers ≤ e.goes → length (differences s (row.enact e s)) ≤ 7
  few_reports e a g =
      rw (differences_touched s e (few_ports s h) (distinct s h) a)
      (machine.told_seven s (record { grounds = []; effect = e }) (machine.none_goes g))

  -- nothing changes
  abbrev nothing : Effect
  nothing = on_port (length s.carriers) 0 no_port

  nothing_is : row.enact nothing s ≡ s
  unfolding row.enact
  nothing_is =
      let n = length s.carriers in
      rw (
        set_out s.ports 4 no_port (few_ports s h),
        set_out s.carriers n no_carrier (omega arith),
        without_out s.carriers n (omega arith),
      )

  nothing_apt : Apt s nothing
  nothing_apt = record {
    still = λ _. sym (none_zero s (facts s h));
    apart = λ b. absurd (omega arith);
    named = λ b. absurd (omega arith);
    lone = λ w. clash w refl;
    fresh = λ w. clash w refl;
    none = λ _ _. refl;
  }

  untouched : touched no_port no_carrier no_carrier nothing ≡ []
  unfolding touched port_touched record_touched report_if tie_number
  untouched = rw (name_same no_name no_name refl)

  -- a state doesn't differ from itself
  pub no_difference : differences s s ≡ []
  no_difference =
      rw nothing_is at (differences_touched s nothing (few_ports s h) (distinct s h) nothing_apt)
      ∙ rw (none_zero s (facts s h), nobody_last s) untouched

-- ── OutDone ──
-- what its effect touches, of a port x that is kept free and a carrier w
three : (k p j : ℕ) (n : Name) (x : Port) (g w : Carrier) → x.transfer ≡ 1 → x.reserved ≡ 1 → x.tie ≡ no_name
    → same_name no_name n ≡ false → same_name n no_name ≡ false → g ≡ no_carrier
    → touched x g w (on_both k p (handed_out n (with_reserved 0 x)) j (taken_out p w))
    ≡ reported 1 p 1 2 ∷ reported 3 p 1 0 ∷ reported 4 p 0 1 ∷ []
unfolding touched port_touched record_touched report_if tie_number
three k p j n x g w t r o a b z =
    rw (
      z,
      t,
      r,
      o,
      a,
      b,
      name_same no_name no_name refl,
      eq-eqb x.access x.access refl,
      eq-eqb w.id w.id refl,
      eq-eqb w.slot w.slot refl,
      eq-eqb w.accessing w.accessing refl,
    )

module _ (s : Queued) (i : Input) (h : sound s ≡ true) (z : i.number ≡ 28) (a : answer_in s i ≡ 0) where
  abbrev q : List Request
  q = s.queue

  abbrev x : Seen
  x = see (base_of s) i

  abbrev ending : Request
  ending = get_or q (started_stands x.port q) no_request

  own : lowest (out_done q x i).grounds ≡ 0
  own = ap (λ (r : Row). lowest r.grounds) (sym (row_done i.number (base_of s) q x i z)) ∙ own_zero s i (eq-eqb _ 0 a)

  some : any (started_to x.port) q ≡ true
  some = let gs = (out_done q x i).grounds in (clear gs refl (cleared gs refl own)).1.0

  under_way_fact : is_under_way ending.name (narrow i.port) q ≡ true
  unfolding see
  under_way_fact = under_way_there (narrow i.port) q some

  base_is_sound : base_sound.sound (base_of s) ≡ true
  base_is_sound = (maps-proofs.sound_parts s.mapped (sound_parts s h).mapped).base

  done_few : length (differences (base_of s) (base_of (state_after s i))) ≤ 7
  done_few =
      rw (base_then s i h z ending.name under_way_fact)
      (few_reports (base_of s) base_is_sound (hands_out (base_of s) (narrow i.port) ending.name)
      (out_apt s i h z ending.name under_way_fact) (omega arith))

  abbrev p : ℕ
  p = narrow i.port

  abbrev n : Name
  n = ending.name

  kept : HeldFor s n p
  kept = held s h n p under_way_fact

  free : Free (port_of (base_of s) p)
  free = free_is (port_of (base_of s) p) kept.kept

  somebody : same_name n no_name ≡ false
  somebody = go (same_name n no_name) refl
    where
      go : (w : Bool) → same_name n no_name ≡ w → w ≡ false
      go true e =
          clash (name_held (base_of s) n kept.stored (facts (base_of s) base_is_sound)) (ap holds_name (name_is n no_name e) ∙ nobody)
      go false e = refl

  -- its reports: transfer, reservation and tie, in this order
  pub done_reports : differences (base_of s) (base_of (state_after s i)) ≡ reported 1 p 1 2 ∷ reported 3 p 1 0 ∷ reported 4 p 0 1 ∷ []
  unfolding carrier_of
  done_reports =
      rw (base_then s i h z n under_way_fact)
      (differences_touched (base_of s) (hands_out (base_of s) p n) (few_ports (base_of s) base_is_sound) (distinct (base_of s) base_is_sound)
      (out_apt s i h z n under_way_fact)
      ∙ three (length (base_of s).carriers) p (name_stands (base_of s) n) n (port_of (base_of s) p) _ (carrier_of (base_of s) n)
      free.ready free.reserved free.tie (name_sym no_name n ∙ somebody) somebody (nobody_last (base_of s)))

-- ── Every input ──
module _ (s : Queued) (i : Input) (h : sound s ≡ true) (a : answer_in s i ≡ 0) where
  abbrev Few : Row → Type 0
  Few r = answers_in s.mapped r.stands ≡ 0 → length (differences (base_of s) (maps-runs.reached s.mapped r.stands).base) ≤ 7

  after_is : base_of (state_after s i) ≡ (maps-runs.reached s.mapped (row_in s i).stands).base
  unfolding state_after
  after_is = rw a

  sound_base : base_sound.sound (base_of s) ≡ true
  sound_base = (maps-proofs.sound_parts s.mapped (sound_parts s h).mapped).base

  one_few : (j : Input) → answers_in s.mapped (j ∷ []) ≡ 0
      → length (differences (base_of s) (maps-runs.reached s.mapped (j ∷ [])).base) ≤ 7
  unfolding maps-runs.reached
  one_few j e = mapped.seven s.mapped j sound_base (eqb-true _ 0 (last_zero s.mapped j [] e))

  none_few : length (differences (base_of s) (maps-runs.reached s.mapped []).base) ≤ 7
  unfolding maps-runs.reached
  none_few = rw (no_difference (base_of s) sound_base) (omega arith)

  out_few : i.number ≡ 28 → Few (out_done s.queue (see (base_of s) i) i)
  out_few z _ =
      let r = row_done i.number (base_of s) s.queue (see (base_of s) i) i z in
      rw (after_is ∙ ap (λ (r : Row). (maps-runs.reached s.mapped r.stands).base) r) at (done_few s i h z a)

  pub seven : length (differences (base_of s) (base_of (state_after s i))) ≤ 7
  seven =
      rw after_is (walk Few i.number (base_of s) s.queue (see (base_of s) i) i (record {
        cancel_carrier = λ _. one_few i;
        carrier_out = λ _ _. none_few;
        cancel_reservation_at_port = λ _. one_few i;
        load_start = λ _. one_few i;
        open_row = λ _. one_few i;
        out_start = λ _. one_few (ReserveAtPort i.port);
        out_done = out_few;
        cancel_carrier_out = λ _ _. none_few;
        cancel_all_carrier_out = λ _ _. none_few;
        other = λ _. one_few i;
      }) (below_zero s i (eq-eqb _ 0 a)))
