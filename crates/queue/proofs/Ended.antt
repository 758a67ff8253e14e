-- OutStart takes the oldest request that is ready; a started request ends by OutDone, which is never refused for it.
use Prim.Native.Nat.{ℕ, ◌<◌}
use native.Mathlib.Omega.{arith}
use native.Mathlib.Decide.{ℕ_discrete}
use mathlib.Core.Path.{◌≡◌, refl, ap, sym, subst, ◌∙◌}
use mathlib.Core.Logic.{◌≢◌}
use mathlib.Core.Bool.{Bool, true, false, not, ◌&&◌}
use mathlib.Core.List.{List, [], ◌∷◌}
use lib.ListN.{length, get_or, set, length-set}
use lib.Seq.{get_or-set_same}
use lib.Dec.{eqb}
use borrow.Author.Tests.{eqb-true, eq-eqb}
use Rattle.lists.specs.Lists.{any, every, without}
use Rattle.lists.proofs.Bools.{clash, and_l, and_r, and_i, not_true}
use Rattle.lists.proofs.Tests.{any_here, any_gone, where_holds}
use Rattle.lists.proofs.Parts.{any_found}
use Rattle.records.specs.declared.name.Name.{Name}
use Rattle.records.specs.declared.carrier.Carrier.{Carrier}
use Rattle.records.specs.Carriers.{no_carrier, in_buffer, taken_out}
use Rattle.rules.specs.declared.row.Seen.{Seen}
use Rattle.rules.specs.declared.row.Effect.{Effect}
use Rattle.rules.specs.State.{State, record_of}
use Rattle.rules.specs.Seen.{Input, name_stands, narrow, see}
use Rattle.rules.specs.Row as row
use Rattle.rules.specs.Row.{lower, lowest}
use Rattle.rules.proofs.Names.{name_is, name_same}
use Rattle.rules.proofs.Apt.{Apt}
use Rattle.rules.proofs.SoundParts.{Facts}
use Rattle.rules.proofs.Keep.{port_after}
use Rattle.rules.specs.Inputs.{CancelReservationAtPort, CarrierOut}
use Rattle.maps.specs.Outcome as maps
use Rattle.maps.specs.Projection as maps-runs
use Rattle.queue.specs.declared.request.Request.{Request}
use Rattle.queue.specs.Requests.{no_request, begun, is_started, is_of, started_to, is_ready, is_queued, carrier_of}
use Rattle.queue.specs.Requests.{ready_stands, started_stands}
use Rattle.queue.specs.State.{Queued, base_of}
use Rattle.queue.specs.Sound.{sound}
use Rattle.queue.specs.Rows.{Row, text_of, row_of, out_start, out_done, comes_out}
use Rattle.queue.specs.Outcome.{row_in, answers_in, answer_in, enact, state_after, goes_in, made_in}
use Rattle.queue.specs.Projection.{reached}
use Rattle.queue.specs.Dispatch.{is_under_way, is_done, none_done, TakesOldest, HandedOut, HeldFor}
use Rattle.queue.proofs.Lines.{port_at, stored_at, shut_at, kept_at, names_at, ports_at, some_stands}
use Rattle.queue.proofs.Places.{first_one}
use Rattle.queue.proofs.After.{stored_live, carrier_named, found_again, stands_after}
use Rattle.queue.proofs.Below.{base_facts}
use Rattle.queue.proofs.Outs.{hands_out, spot_in, hands_out_fact, together, maps_still}
use Rattle.queue.proofs.SoundRuns.{Sound, sound_parts, sound_after, sound_reached, own_zero, below_zero, is_ready_fact, taken_in}
use Rattle.queue.proofs.SoundRuns.{ending_in, ending_port, ending_started, can_come, done_zero}
use Rattle.queue.proofs.Lined.{under_way_after}

row_start : (n : ℕ) (s : State) (q : List Request) (x : Seen) (i : Input) → n ≡ 27 → row_of n s q x i ≡ out_start s q x i
unfolding row_of
row_start n s q x i e = rw e

pub row_done : (n : ℕ) (s : State) (q : List Request) (x : Seen) (i : Input) → n ≡ 28 → row_of n s q x i ≡ out_done q x i
unfolding row_of
row_done n s q x i e = rw e

pub accepted_is : (s : Queued) (i : Input) → answer_in s i ≡ 0 → state_after s i ≡ enact (row_in s i) s
unfolding state_after
accepted_is s i a = rw a

-- ── OutStart ──
module _ (s : Queued) (i : Input) (h : sound s ≡ true) (z : i.number ≡ 27) (a : answer_in s i ≡ 0) where
  abbrev q : List Request
  q = s.queue

  abbrev x : Seen
  x = see (base_of s) i

  abbrev k : ℕ
  k = ready_stands (base_of s) x.port q

  abbrev taken : Request
  taken = get_or q k no_request

  r : row_in s i ≡ out_start (base_of s) q x i
  r = row_start i.number (base_of s) q x i z

  own : lowest (out_start (base_of s) q x i).grounds ≡ 0
  own = ap (λ (w : Row). lowest w.grounds) (sym r) ∙ own_zero s i (eq-eqb _ 0 a)

  in_line : k < length q
  in_line = taken_in s i (sound_parts s h) own (ap (λ (w : Row). answers_in s.mapped w.stands) (sym r) ∙ below_zero s i (eq-eqb _ 0 a))

  ready : is_ready (base_of s) x.port taken ≡ true
  ready = is_ready_fact s i (sound_parts s h) own (ap (λ (w : Row). answers_in s.mapped w.stands) (sym r) ∙ below_zero s i (eq-eqb _ 0 a))

  queue_then : (state_after s i).queue ≡ set q k (begun taken)
  queue_then = ap (λ (t : Queued). t.queue) (accepted_is s i a) ∙ ap (λ (w : Row). w.queue) r

  under_way_fact : is_under_way taken.name x.port (set q k (begun taken)) ≡ true
  unfolding is_under_way
  under_way_fact =
      let t : eqb taken.port x.port ≡ true = and_l _ _ ready in
      any_here (λ t. is_of taken.name t && started_to x.port t) (set q k (begun taken)) k no_request (rw length-set in_line)
      (rw (get_or-set_same q k (begun taken) no_request in_line, t, name_same taken.name taken.name refl))

  port_is : x.port ≡ narrow i.port
  unfolding see
  port_is = refl

  pub takes_oldest : TakesOldest s (narrow i.port) (ready_stands (base_of s) (narrow i.port) q) (state_after s i)
  takes_oldest = subst (λ p. TakesOldest s p (ready_stands (base_of s) p q) (state_after s i)) port_is (record {
    queued = in_line;
    ready = ready;
    oldest = first_one (is_ready (base_of s) x.port) q no_request;
    under_way = rw queue_then under_way_fact;
  })

-- ── OutDone ──
-- the request that is started to a port is under way there
pub under_way_there : (p : ℕ) (q : List Request) → any (started_to p) q ≡ true
    → is_under_way (get_or q (started_stands p q) no_request).name p q ≡ true
unfolding is_under_way
under_way_there p q some =
    let r = get_or q (started_stands p q) no_request in
    let b = some_stands (started_to p) no_request q some in
    any_here (λ t. is_of r.name t && started_to p t) q (started_stands p q) no_request b
    (and_i (name_same r.name r.name refl) (where_holds (started_to p) q no_request b))

module _ (s : Queued) (i : Input) (h : sound s ≡ true) (z : i.number ≡ 28) (n : Name)
    (e : is_under_way n (narrow i.port) s.queue ≡ true) where
  abbrev p : Sound s
  p = sound_parts s h

  abbrev line : List Request
  line = s.queue

  abbrev y : Seen
  y = see (base_of s) i

  -- it is started to the port given
  found : (j : ℕ) × (j < length line) × ((is_of n (get_or line j no_request) && started_to (narrow i.port) (get_or line j no_request)) ≡ true)
  unfolding is_under_way
  found = any_found (λ t. is_of n t && started_to (narrow i.port) t) line no_request e

  abbrev j : ℕ
  j = found.0

  abbrev its : Request
  its = get_or line j no_request

  its_name : its.name ≡ n
  its_name = name_is _ _ (and_l _ _ found.2)

  starts_there : started_to (narrow i.port) its ≡ true
  starts_there = and_r (is_of n its) _ found.2

  its_port : its.port ≡ narrow i.port
  its_port = eqb-true _ _ (and_l _ _ starts_there)

  some : any (started_to y.port) line ≡ true
  unfolding see
  some = any_here (started_to (narrow i.port)) line j no_request found.1 starts_there

  given : y.isport ≡ true
  unfolding see
  given = rw its_port at (port_at (base_of s) line p.line j found.1)

  done_row : row_in s i ≡ out_done line y i
  done_row = row_done i.number (base_of s) line y i z

  grounds_clear : lowest (out_done line y i).grounds ≡ 0
  unfolding lowest lower
  grounds_clear = rw (given, some)

  abbrev m : ℕ
  m = started_stands y.port line

  abbrev ending : Request
  ending = get_or line m no_request

  stands_then : (out_done line y i).stands ≡ comes_out ending i
  stands_then = rw some

  pub done_accepted : answer_in s i ≡ 0
  unfolding answer_in lower
  done_accepted = rw (done_row, grounds_clear, stands_then, done_zero s i p given some)

  -- the one that ends is this one
  ending_is : ending.name ≡ n
  ending_is = go (ℕ_discrete m j)
    where
      go : Dec (m ≡ j) → ending.name ≡ n
      go (yes o) = rw o its_name
      go (no o) =
          absurd (ports_at (base_of s) line p.line m j (ending_in s i p given some) found.1 o (ending_started s i p given some)
          (and_r (eqb its.port (narrow i.port)) _ starts_there) (ending_port s i p given some ∙ sym its_port))

  abbrev there : ℕ
  there = narrow i.port

  stored : in_buffer (carrier_of (base_of s) n) ≡ true
  stored = rw ending_is at (can_come s i p given some).stored

  pub base_then : base_of (state_after s i) ≡ row.enact (hands_out (base_of s) there n) (base_of s)
  unfolding maps-runs.reached
  base_then =
      ap base_of (accepted_is s i done_accepted)
      ∙ ap (λ (w : Row). (maps-runs.reached s.mapped w.stands).base) done_row
      ∙ ap (λ run. (maps-runs.reached s.mapped run).base) stands_then
      ∙ together s.mapped i.port ending.name p.mapped (can_come s i p given some)
      ∙ ap (λ n. row.enact (hands_out (base_of s) there n) (base_of s)) ending_is

  -- the maps stay; no record goes, and none is made
  pub maps_then : (state_after s i).mapped.maps ≡ s.mapped.maps
  unfolding maps-runs.reached
  maps_then =
      ap (λ (t : Queued). t.mapped.maps) (accepted_is s i done_accepted)
      ∙ ap (λ (w : Row). (maps-runs.reached s.mapped w.stands).maps) done_row
      ∙ ap (λ run. (maps-runs.reached s.mapped run).maps) stands_then
      ∙ maps_still s.mapped i.port ending.name p.mapped (can_come s i p given some)

  last_effect : (maps.row_in (maps.state_after s.mapped (CancelReservationAtPort i.port))
      (CarrierOut (text_of ending.name) i.port)).effect ≡ hands_out (base_of s) there ending.name
  last_effect = hands_out_fact s.mapped i.port ending.name p.mapped (can_come s i p given some)

  pub goes_then : goes_in s.mapped (row_in s i).stands ≡ length (base_of s).carriers
  unfolding goes_in maps-runs.reached
  goes_then =
      ap (λ (w : Row). goes_in s.mapped w.stands) done_row ∙ ap (goes_in s.mapped) stands_then
      ∙ ap (λ (e : Effect). e.goes) last_effect

  pub made_then : made_in s.mapped (row_in s i).stands ≡ false
  unfolding made_in maps-runs.reached
  made_then =
      ap (λ (w : Row). made_in s.mapped w.stands) done_row ∙ ap (made_in s.mapped) stands_then
      ∙ ap (λ (e : Effect). e.made) last_effect

  -- the effect, and the carrier at the port
  abbrev effect : Effect
  effect = hands_out (base_of s) there n

  abbrev f : Facts (base_of s)
  f = base_facts s.mapped p.mapped

  live : name_stands (base_of s) n < length (base_of s).carriers
  live = stored_live (base_of s) n stored

  pub out_apt : Apt (base_of s) effect
  unfolding carrier_of record_of
  out_apt = record {
    still = λ b. let a = spot_in there _ (can_come s i p given some).within in absurd (omega arith);
    apart = λ b. omega arith;
    named = λ _. refl;
    lone = λ w. clash w refl;
    fresh = λ w. clash w refl;
    none = λ _ b. let a = live in absurd (omega arith);
  }

  facts_then : Facts (row.enact effect (base_of s))
  facts_then = subst Facts base_then (base_facts (state_after s i).mapped (sound_parts (state_after s i) (sound_after s i h)).mapped)

  out_there : carrier_of (row.enact effect (base_of s)) n ≡ taken_out there (carrier_of (base_of s) n)
  out_there =
      let t = stands_after (base_of s) effect (name_stands (base_of s) n) live (λ o. let a = live in omega arith) in
      let u = get_or-set_same (base_of s).carriers (name_stands (base_of s) n) (taken_out there (carrier_of (base_of s) n)) no_carrier live in
      found_again (row.enact effect (base_of s)) facts_then n t.0 t.1
      (ap (λ (c : Carrier). c.name) (t.2 ∙ u) ∙ named_still) ∙ t.2 ∙ u
    where
      named_still : (carrier_of (base_of s) n).name ≡ n
      named_still = carrier_named (base_of s) n stored

  nobody_left : is_queued n (without m line) ≡ false
  nobody_left =
      any_gone (is_of n) line m no_request (λ k b o. go k b o (is_of n (get_or line k no_request)) refl)
    where
      go : (k : ℕ) → k < length line → k ≢ m → (w : Bool) → is_of n (get_or line k no_request) ≡ w → w ≡ false
      go k b o true w =
          absurd (names_at (base_of s) line p.line k m b (ending_in s i p given some) o (name_is _ _ w ∙ sym ending_is))
      go k b o false w = refl

  pub queue_left : (state_after s i).queue ≡ without m line
  queue_left = ap (λ (t : Queued). t.queue) (accepted_is s i done_accepted) ∙ ap (λ (w : Row). w.queue) done_row

  pub handed_out : HandedOut s n there (state_after s i)
  handed_out = record {
    port = rw base_then (port_after (base_of s) f effect out_apt);
    carrier = rw base_then out_there;
    free = rw queue_left nobody_left;
  }

-- what soundness says of a request that is under way
pub held : (s : Queued) → sound s ≡ true → (n : Name) (p : ℕ) → is_under_way n p s.queue ≡ true → HeldFor s n p
unfolding is_under_way
held s h n p e =
    let t = any_found (λ r. is_of n r && started_to p r) s.queue no_request e in
    let r = get_or s.queue t.0 no_request in
    let l = (sound_parts s h).line in
    let m : r.name ≡ n = name_is _ _ (and_l _ _ t.2) in
    let o = and_r (is_of n r) _ t.2 in
    let a : r.port ≡ p = eqb-true _ p (and_l _ _ o) in
    let b : is_started r ≡ true = and_r (eqb r.port p) _ o in
    record {
      stored = rw m at (stored_at (base_of s) s.queue l t.0 t.1);
      shut = rw m at (shut_at (base_of s) s.queue l t.0 t.1 b);
      kept = rw a at (kept_at (base_of s) s.queue l t.0 t.1 b);
    }

-- ── Runs ──
module _ (s : Queued) (h : sound s ≡ true) (n : Name) (p : ℕ) (e : is_under_way n p s.queue ≡ true) where
  -- from every state where a request is started it stays so, whatever is sent, until OutDone
  pub stays_under_way : (run : List Input) → none_done p run ≡ true → is_under_way n p (reached s run).queue ≡ true
  unfolding reached none_done every
  stays_under_way [] d = e
  stays_under_way (i ∷ earlier) d =
      under_way_after (reached s earlier) i n p (sound_parts (reached s earlier) (sound_reached s h earlier)).line
      (stays_under_way earlier (and_r (not (is_done p i)) _ d)) (not_true _ (and_l _ _ d))

  -- nothing takes its carrier or its port meanwhile
  pub held_meanwhile : (run : List Input) → none_done p run ≡ true → HeldFor (reached s run) n p
  held_meanwhile run d = held (reached s run) (sound_reached s h run) n p (stays_under_way run d)

  -- and OutDone is accepted then
  pub ends_by_out_done : (run : List Input) → none_done p run ≡ true → (i : Input) → is_done p i ≡ true → answer_in (reached s run) i ≡ 0
  unfolding is_done
  ends_by_out_done run d i o =
      done_accepted (reached s run) i (sound_reached s h run) (eqb-true _ 28 (and_l _ _ o)) n
      (rw (eqb-true (narrow i.port) p (and_r (eqb i.number 28) _ o)) (stays_under_way run d))

-- OutDone is never refused for a request that OutStart took.
pub never_refused : (s : Queued) (i : Input) → sound s ≡ true → i.number ≡ 27 → answer_in s i ≡ 0
    → (run : List Input) → none_done (narrow i.port) run ≡ true → (j : Input) → is_done (narrow i.port) j ≡ true
    → answer_in (reached (state_after s i) run) j ≡ 0
never_refused s i h z a run d j o =
    ends_by_out_done (state_after s i) (sound_after s i h) _ (narrow i.port) (takes_oldest s i h z a).under_way run d j o
