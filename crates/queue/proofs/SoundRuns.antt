-- Every input keeps a sound state sound, and so is every state that a run reaches.
use Prim.Native.Nat.{ℕ, ◌≤◌, ◌<◌}
use native.Mathlib.Omega.{arith}
use mathlib.Core.Path.{◌≡◌, refl, sym, ◌∙◌}
use mathlib.Core.Logic.{◌≢◌}
use mathlib.Core.Bool.{Bool, true, false, not, cond}
use mathlib.Core.List.{List, [], ◌∷◌}
use lib.ListN.{length, get_or}
use lib.Dec.{eqb, leb}
use borrow.Author.Tests.{eqb-true, eqb-false, eq-eqb, leb-true, leb-false, le-leb, ltb-true}
use Rattle.lists.specs.Lists.{between, any, without}
use Rattle.lists.proofs.Bools.{clash, and_l, and_r, and_i, not_true}
use Rattle.lists.proofs.Tests.{every_at, where_holds}
use Rattle.lists.proofs.Tables.{length_fill}
use Rattle.lists.proofs.Parts.{every_gone}
use Rattle.records.specs.Names.{in_bytes, same_name}
use Rattle.records.specs.Carriers.{in_buffer}
use Rattle.rules.specs.declared.row.Seen.{Seen}
use Rattle.rules.specs.State.{port_of}
use Rattle.rules.specs.Seen.{Input, narrow, see}
use Rattle.rules.specs.Row.{Ground, judge, lower, lowest}
use Rattle.rules.specs.Inputs.{ReserveAtPort, CancelReservationAtPort, CarrierOut}
use Rattle.rules.proofs.Names.{name_same}
use Rattle.rules.proofs.Lowest.{rising_from, first_is_lowest}
use Rattle.rules.proofs.Accepts.{clear}
use Rattle.rules.proofs.SoundTests.{◌and◌}
use Rattle.maps.specs.State.{Mapped}
use Rattle.maps.specs.Sound as maps-sound
use Rattle.maps.specs.Outcome as maps
use Rattle.maps.specs.Projection as maps-runs
use Rattle.maps.proofs.SoundRuns as maps-proofs
use Rattle.queue.specs.declared.request.Request.{Request}
use Rattle.queue.specs.Requests.{no_request, new_request, is_started, started_of, started_to, carrier_of, may_leave}
use Rattle.queue.specs.Requests.{is_ready, ready_stands, started_stands}
use Rattle.queue.specs.State.{Queued, base_of, start}
use Rattle.queue.specs.Sound.{request_in_range, carrier_stored, kept_free, sound}
use Rattle.queue.specs.Rows.{Row, text_of, passed_on, cancel_carrier, carrier_out, cancel_reservation_at_port, load_start, open_row}
use Rattle.queue.specs.Rows.{out_start, comes_out, out_done, cancel_carrier_out, cancel_all_carrier_out}
use Rattle.queue.specs.Outcome.{row_in, answers_in, answer_in, enact, state_after}
use Rattle.queue.specs.Projection.{reached}
use Rattle.queue.proofs.Lines.{Line, line_none, line_without, line_only, line_added, line_begun, wide_at, stored_at, shut_at}
use Rattle.queue.proofs.Lines.{kept_at, names_at, ports_at, none_at, some_stands, differ}
use Rattle.queue.proofs.Below.{base_facts, Safe, line_below, shut_after}
use Rattle.queue.proofs.Outs.{start_frees, was_free, CanComeOut, first_zero, second_zero}
use Rattle.queue.proofs.After.{name_held}
use Rattle.queue.proofs.Texts.{text_in_bytes}
use Rattle.queue.proofs.Walk.{Plain, walk}

-- ── Soundness, part by part ──
pub record Sound (s : Queued) : Type 0 where
  pub mapped : maps-sound.sound s.mapped ≡ true
  pub line : Line (base_of s) s.queue

pub sound_parts : (s : Queued) → sound s ≡ true → Sound s
unfolding sound
sound_parts s h = record {
  mapped = search (and_l, and_r) depth 9;
  line = record {
    few = leb-true _ 16 (search (and_l, and_r) depth 9);
    ranges = search (and_l, and_r) depth 9;
    stored = search (and_l, and_r) depth 9;
    others = search (and_l, and_r) depth 9;
    shut = search (and_l, and_r) depth 9;
    alone = search (and_l, and_r) depth 9;
    kept = search (and_l, and_r) depth 9;
  };
}

pub sound_of : (s : Queued) → Sound s → sound s ≡ true
unfolding sound
sound_of s p =
    let l = p.line in
    p.mapped and le-leb _ 16 l.few and l.ranges and l.stored and l.others and l.shut and l.alone and l.kept

-- ── An answer of 0 ──
pub lower_zero : (m n : ℕ) → lower m n ≡ 0 → (m ≡ 0) × (n ≡ 0)
unfolding lower
lower_zero m n e = go (eqb m 0) refl (eqb n 0) refl (leb m n) e
  where
    go : (v : Bool) → eqb m 0 ≡ v → (w : Bool) → eqb n 0 ≡ w → (u : Bool) → cond v n (cond w m (cond u m n)) ≡ 0 → (m ≡ 0) × (n ≡ 0)
    go true a w b u e = (eqb-true m 0 a, e)
    go false a true b u e = absurd (eqb-false m 0 a e)
    go false a false b true e = absurd (eqb-false m 0 a e)
    go false a false b false e = absurd (eqb-false n 0 b e)

-- none of a row's own grounds applies
pub cleared : (gs : List Ground) → rising_from 1 gs ≡ true → lowest gs ≡ 0 → judge gs ≡ 0
cleared gs r e = first_is_lowest 1 gs (omega arith) r ∙ e

-- each input below is accepted
module _ (s : Mapped) (i : Input) (earlier : List Input) (z : answers_in s (i ∷ earlier) ≡ 0) where
  pub last_zero : eqb (maps.answer_in (maps-runs.reached s earlier) i) 0 ≡ true
  unfolding answers_in
  last_zero = eq-eqb _ 0 (lower_zero (answers_in s earlier) _ z).1

  pub earlier_zero : answers_in s earlier ≡ 0
  unfolding answers_in
  earlier_zero = (lower_zero (answers_in s earlier) _ z).0

module _ (s : Queued) (i : Input) (p : Sound s) where
  abbrev x : Seen
  x = see (base_of s) i

  abbrev q : List Request
  q = s.queue

  abbrev l : Line (base_of s) q
  l = p.line

  -- what there is to show of a row that accepts
  abbrev Keeps : Row → Type 0
  Keeps r =
      lowest r.grounds ≡ 0 → answers_in s.mapped r.stands ≡ 0 → Line (maps-runs.reached s.mapped r.stands).base r.queue

  -- ── One input below ──
  module _ (j : Input) (z : answers_in s.mapped (j ∷ []) ≡ 0) where
    accepts : eqb (maps.answer_in s.mapped j) 0 ≡ true
    unfolding maps-runs.reached
    accepts = last_zero s.mapped j [] z

    passed : ((k : ℕ) → k < length q → Safe j (get_or q k no_request)) → Line (maps-runs.reached s.mapped (j ∷ [])).base q
    unfolding maps-runs.reached
    passed safe = line_below s.mapped j p.mapped accepts q safe l

  -- a row that is no harm to any request
  harmless : (j : Input) (r : Request) → j.number ≢ 7 → j.number ≢ 12 → j.number ≢ 13 → j.number ≢ 19 → Safe j r
  harmless j r a b c d =
      record { out = λ z. absurd (a z); opens = λ _ z. absurd (d z); frees = λ _ z. absurd (b z); loads = λ _ z. absurd (c z) }

  other_keeps : Plain i.number → Keeps (passed_on [] q i)
  other_keeps n _ z = passed i z (λ k b. harmless i _ n.not_seven n.not_twelve n.not_thirteen n.not_nineteen)

  cancel_keeps : i.number ≡ 6 → Keeps (cancel_carrier q x i)
  cancel_keeps e _ z =
      line_without _ _ q (passed i z (λ k b. harmless i _ (λ o. omega arith) (λ o. omega arith) (λ o. omega arith) (λ o. omega arith)))

  -- ── Rows 12, 13 and 19 ──
  none_started : any (started_to x.port) q ≡ false → (k : ℕ) → k < length q → is_started (get_or q k no_request) ≡ true
      → narrow i.port ≢ (get_or q k no_request).port
  unfolding see
  none_started e k b t z =
      clash (and_i (eq-eqb _ _ (sym z)) t) (none_at (started_to x.port) no_request q e k b)

  other_started : any (started_of x.name) q ≡ false → (k : ℕ) → k < length q → is_started (get_or q k no_request) ≡ true
      → (get_or q k no_request).name ≢ in_bytes i.name
  unfolding see
  other_started e k b t z =
      clash (and_i (name_same _ _ z) t) (none_at (started_of x.name) no_request q e k b)

  started_safe : any (started_to x.port) q ≡ false → i.number ≢ 7 → i.number ≢ 19 → (k : ℕ) → k < length q → Safe i (get_or q k no_request)
  started_safe e a d k b = record {
    out = λ o. absurd (a o);
    opens = λ _ o. absurd (d o);
    frees = λ t _. none_started e k b t;
    loads = λ t _. none_started e k b t;
  }

  cancel_reservation_keeps : i.number ≡ 12 → Keeps (cancel_reservation_at_port q x i)
  cancel_reservation_keeps n g z =
      let gs = (cancel_reservation_at_port q x i).grounds in
      passed i z (started_safe (clear gs refl (cleared gs refl g)).0 (λ o. omega arith) (λ o. omega arith))

  load_start_keeps : i.number ≡ 13 → Keeps (load_start q x i)
  load_start_keeps n g z =
      let gs = (load_start q x i).grounds in
      passed i z (started_safe (clear gs refl (cleared gs refl g)).0 (λ o. omega arith) (λ o. omega arith))

  open_keeps : i.number ≡ 19 → Keeps (open_row q x i)
  open_keeps n g z =
      let e = (clear (open_row q x i).grounds refl (cleared (open_row q x i).grounds refl g)).0 in
      passed i z (λ k b. record {
        out = λ o. absurd (omega arith);
        opens = λ t _. other_started e k b t;
        frees = λ _ o. absurd (omega arith);
        loads = λ _ o. absurd (omega arith);
      })

  -- ── Row 7, and those that drop ──
  new_range : x.isport ≡ true → request_in_range (length (base_of s).ports) (new_request x.name x.port) ≡ true
  unfolding see request_in_range in_bytes
  new_range e = and_i (and_i (eq-eqb _ 16 (length_fill 16 0 i.name)) e) refl

  new_stored : in_buffer x.found ≡ true → carrier_stored (base_of s) (new_request x.name x.port) ≡ true
  unfolding see carrier_stored carrier_of
  new_stored e = e

  out_keeps : Keeps (carrier_out q x)
  unfolding maps-runs.reached
  out_keeps g _ =
      let c = clear (carrier_out q x).grounds refl (cleared (carrier_out q x).grounds refl g) in
      line_added (base_of s) x.name x.port q l (leb-false 16 (length q) c.1.1.1.1.0) (new_range c.1.0)
      (new_stored c.1.1.1.0) c.1.1.1.1.1.0

  cancel_out_keeps : Keeps (cancel_carrier_out q x)
  unfolding maps-runs.reached
  cancel_out_keeps _ _ = line_without (base_of s) _ q l

  cancel_all_keeps : Keeps (cancel_all_carrier_out q)
  unfolding maps-runs.reached
  cancel_all_keeps _ _ = line_only (base_of s) _ q l

  -- ── OutStart ──
  module _ (g : lowest (out_start (base_of s) q x i).grounds ≡ 0) (z : answers_in s.mapped (ReserveAtPort i.port ∷ []) ≡ 0) where
    abbrev k : ℕ
    k = ready_stands (base_of s) x.port q

    abbrev taken : Request
    taken = get_or q k no_request

    abbrev reserves : Input
    reserves = ReserveAtPort i.port

    pub taken_in : k < length q
    taken_in =
        let gs = (out_start (base_of s) q x i).grounds in
        ltb-true k (length q) (clear gs refl (cleared gs refl g)).0

    pub is_ready_fact : is_ready (base_of s) x.port taken ≡ true
    is_ready_fact = where_holds (is_ready (base_of s) x.port) q no_request taken_in

    pub taken_port : taken.port ≡ narrow i.port
    unfolding see
    taken_port = eqb-true _ _ (and_l _ _ is_ready_fact)

    taken_shut : may_leave (carrier_of (maps.state_after s.mapped reserves).base taken.name) ≡ true
    taken_shut =
        shut_after s.mapped reserves p.mapped (accepts reserves z) taken.name (stored_at (base_of s) q l k taken_in)
        (λ o. absurd (omega arith)) (λ o. absurd (omega arith)) (and_r (eqb taken.port x.port) _ is_ready_fact)

    taken_kept : kept_free (port_of (maps.state_after s.mapped reserves).base taken.port) ≡ true
    taken_kept = rw taken_port (start_frees s.mapped i.port p.mapped (accepts reserves z))

    taken_alone : (j : ℕ) → j < length q → is_started (get_or q j no_request) ≡ true → (get_or q j no_request).port ≢ taken.port
    taken_alone j b e o =
        was_free s.mapped i.port p.mapped (accepts reserves z) (rw (o ∙ taken_port) at (kept_at (base_of s) q l j b e))

    start_line : Line (maps-runs.reached s.mapped (reserves ∷ [])).base (out_start (base_of s) q x i).queue
    unfolding maps-runs.reached
    start_line =
        line_begun (maps.state_after s.mapped reserves).base k q
        (passed reserves z (λ j b. harmless reserves _ (λ o. omega arith) (λ o. omega arith) (λ o. omega arith) (λ o. omega arith)))
        taken_in taken_shut taken_kept taken_alone

  -- ── OutDone ──
  module _ (given : x.isport ≡ true) (some : any (started_to x.port) q ≡ true) where
    abbrev m : ℕ
    m = started_stands x.port q

    abbrev ending : Request
    ending = get_or q m no_request

    pub ending_in : m < length q
    ending_in = some_stands (started_to x.port) no_request q some

    is_ending : started_to x.port ending ≡ true
    is_ending = where_holds (started_to x.port) q no_request ending_in

    pub ending_port : ending.port ≡ narrow i.port
    unfolding see
    ending_port = eqb-true _ _ (and_l _ _ is_ending)

    pub ending_started : is_started ending ≡ true
    ending_started = and_r (eqb ending.port x.port) _ is_ending

    given_port : between 1 (narrow i.port) (length (base_of s).ports) ≡ true
    unfolding see
    given_port = given

    pub can_come : CanComeOut (base_of s) (narrow i.port) ending.name
    can_come = record {
      within = given_port;
      wide = wide_at (base_of s) q l m ending_in;
      stored = stored_at (base_of s) q l m ending_in;
      shut = shut_at (base_of s) q l m ending_in ending_started;
      kept = rw ending_port at (kept_at (base_of s) q l m ending_in ending_started);
    }

    abbrev ends : Input
    ends = CancelReservationAtPort i.port

    abbrev comes : Input
    comes = CarrierOut (text_of ending.name) i.port

    pub ends_zero : maps.answer_in s.mapped ends ≡ 0
    ends_zero = first_zero s.mapped i.port ending.name p.mapped can_come

    pub comes_zero : maps.answer_in (maps.state_after s.mapped ends) comes ≡ 0
    comes_zero = second_zero s.mapped i.port ending.name p.mapped can_come

    pub done_zero : answers_in s.mapped (comes_out ending i) ≡ 0
    unfolding answers_in lower maps-runs.reached
    done_zero = rw (ends_zero, comes_zero)

    -- those that are left
    abbrev rest : List Request
    rest = without m q

    other_name : (j : ℕ) → j < length rest → (get_or rest j no_request).name ≢ ending.name
    other_name j b z =
        clash (name_same _ _ z)
        (not_true _ (every_at (λ r. not (same_name r.name ending.name)) rest no_request
        (every_gone _ q m no_request (λ k a n. differ (names_at (base_of s) q l k m a ending_in n))) j b))

    other_port : (j : ℕ) → j < length rest → is_started (get_or rest j no_request) ≡ true → (get_or rest j no_request).port ≢ ending.port
    other_port j b e z =
        clash (and_i (eq-eqb _ _ (z ∙ ending_port)) e)
        (not_true _ (every_at (λ r. not (started_to (narrow i.port) r)) rest no_request
        (every_gone _ q m no_request (λ k a n. elsewhere k a n (started_to (narrow i.port) (get_or q k no_request)) refl)) j b))
      where
        elsewhere : (k : ℕ) → k < length q → k ≢ m → (w : Bool) → started_to (narrow i.port) (get_or q k no_request) ≡ w → not w ≡ true
        elsewhere k a n true e =
            absurd (ports_at (base_of s) q l k m a ending_in n (and_r (eqb (get_or q k no_request).port (narrow i.port)) _ e) ending_started
            (eqb-true _ _ (and_l _ _ e) ∙ sym ending_port))
        elsewhere k a n false e = refl

    text_is : in_bytes (text_of ending.name) ≡ ending.name
    text_is =
        text_in_bytes ending.name (name_held (base_of s) ending.name can_come.stored (base_facts s.mapped p.mapped))
        can_come.wide

    done_line : Line (maps-runs.reached s.mapped (comes_out ending i)).base rest
    unfolding maps-runs.reached
    done_line =
        line_below (maps.state_after s.mapped ends) comes (maps-proofs.sound_after s.mapped ends p.mapped)
        (eq-eqb _ 0 comes_zero) rest
        (λ j b. record {
          out = λ _ z. other_name j b (z ∙ text_is);
          opens = λ _ o. absurd (omega arith);
          frees = λ _ o. absurd (omega arith);
          loads = λ _ o. absurd (omega arith);
        })
        (line_below s.mapped ends p.mapped (eq-eqb _ 0 ends_zero) rest
        (λ j b. record {
          out = λ o. absurd (omega arith);
          opens = λ _ o. absurd (omega arith);
          frees = λ e _ z. other_port j b e (sym z ∙ sym ending_port);
          loads = λ _ o. absurd (omega arith);
        })
        (line_without (base_of s) m q l))

  done_keeps : Keeps (out_done q x i)
  done_keeps g _ =
      let c = clear (out_done q x i).grounds refl (cleared (out_done q x i).grounds refl g) in
      rw c.1.0 (done_line c.0 c.1.0)

  keeps : Keeps (row_in s i)
  keeps = walk Keeps i.number (base_of s) q x i (record {
    cancel_carrier = cancel_keeps;
    carrier_out = λ _. out_keeps;
    cancel_reservation_at_port = cancel_reservation_keeps;
    load_start = load_start_keeps;
    open_row = open_keeps;
    out_start = λ _. start_line;
    out_done = λ _. done_keeps;
    cancel_carrier_out = λ _. cancel_out_keeps;
    cancel_all_carrier_out = λ _. cancel_all_keeps;
    other = other_keeps;
  })

-- ── Together ──
pub own_zero : (s : Queued) (i : Input) → eqb (answer_in s i) 0 ≡ true → lowest (row_in s i).grounds ≡ 0
unfolding answer_in
own_zero s i a = (lower_zero _ _ (eqb-true _ 0 a)).0

pub below_zero : (s : Queued) (i : Input) → eqb (answer_in s i) 0 ≡ true → answers_in s.mapped (row_in s i).stands ≡ 0
unfolding answer_in
below_zero s i a = (lower_zero (lowest (row_in s i).grounds) _ (eqb-true _ 0 a)).1

pub sound_after : (s : Queued) (i : Input) → sound s ≡ true → sound (state_after s i) ≡ true
unfolding state_after
sound_after s i h = go (eqb (answer_in s i) 0) refl
  where
    go : (w : Bool) → eqb (answer_in s i) 0 ≡ w → sound (cond w (enact (row_in s i) s) s) ≡ true
    go true a =
        let p = sound_parts s h in
        sound_of (enact (row_in s i) s) (record {
          mapped = maps-proofs.sound_reached s.mapped p.mapped (row_in s i).stands;
          line = keeps s i p (own_zero s i a) (below_zero s i a);
        })
    go false a = h

pub sound_start : (P B : ℕ) → 1 ≤ P → P ≤ 4 → B ≤ 16 → sound (start P B) ≡ true
sound_start P B a b c =
    sound_of (start P B) (record { mapped = maps-proofs.sound_start P B a b c; line = line_none (base_of (start P B)) })

pub sound_reached : (s : Queued) → sound s ≡ true → (run : List Input) → sound (reached s run) ≡ true
unfolding reached
sound_reached s h [] = h
sound_reached s h (i ∷ earlier) = sound_after (reached s earlier) i (sound_reached s h earlier)
