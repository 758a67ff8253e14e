-- Every input keeps a sound state sound, a tool as it is set up is sound, and so is every state that a run reaches.
use Prim.Native.Nat.{ℕ, zero, suc, ◌+◌, ◌≤◌}
use native.Mathlib.Omega.{arith}
use mathlib.Core.Path.{◌≡◌, refl, ◌∙◌}
use mathlib.Core.Bool.{Bool, true, false, cond}
use mathlib.Core.List.{List, [], ◌∷◌}
use lib.ListN.{length, length-set, length-replicate}
use lib.Dec.{eqb}
use borrow.Author.Tests.{eqb-true, le-leb}
use Rattle.lists.specs.Lists.{every, every_two, any, how_many, same_list}
use Rattle.lists.proofs.Bools.{cond_ind}
use Rattle.records.specs.Names.{same_name}
use Rattle.records.specs.Ports.{new_port}
use Rattle.rules.specs.declared.row.Effect.{Effect}
use Rattle.rules.specs.State.{State, port_of, start}
use Rattle.rules.specs.Sound.{port_in_range, in_range, tie_held, ties_agree, few_expected, port_agrees, sound}
use Rattle.rules.specs.Seen.{Input, see}
use Rattle.rules.specs.Row.{judge, enact}
use Rattle.rules.specs.Rows.{row_of}
use Rattle.rules.specs.Outcome.{row_in, answer_in, state_after}
use Rattle.rules.specs.History.{reached}
use Rattle.rules.specs.Promise.{Orderly}
use Rattle.rules.proofs.Lowest.{row_first_is_lowest}
use Rattle.rules.proofs.Accepts.{walk_accepting, never}
use Rattle.rules.proofs.Apt.{Apt, apt}
use Rattle.rules.proofs.SoundParts.{Facts, facts}
use Rattle.rules.proofs.Orderly.{orderly, bounded}
use Rattle.rules.proofs.Keep.{Keeps, keeps_sound}
use Rattle.rules.proofs.KeepPorts.{cancel_bind_keeps, cancel_carrier_notification_keeps, change_access_keeps}
use Rattle.rules.proofs.KeepPorts.{change_service_status_keeps, reserve_at_port_keeps}
use Rattle.rules.proofs.KeepPorts.{cancel_reservation_at_port_keeps, load_start_keeps, load_done_keeps}
use Rattle.rules.proofs.KeepPorts.{load_fail_keeps, unload_start_keeps, unload_done_keeps, unload_fail_keeps}
use Rattle.rules.proofs.KeepRecords.{carrier_in_keeps, open_keeps, slot_map_keeps, access_start_keeps, access_end_keeps, close_keeps}
use Rattle.rules.proofs.KeepArrivals.{bind_keeps, carrier_notification_keeps, carrier_out_keeps, id_read_keeps}
use Rattle.rules.proofs.KeepArrivals.{id_read_failed_keeps, move_in_keeps}
use Rattle.rules.proofs.KeepVerdict.{proceed_with_carrier_keeps, cancel_carrier_keeps}

pub rows_keep : (s : State) (i : Input) → Facts s → (n : ℕ) → judge (row_of n (see s i)).grounds ≡ 0
    → Apt s (row_of n (see s i)).effect → Keeps s (row_of n (see s i)).effect
rows_keep s i f = walk_accepting (λ _ e. Apt s e → Keeps s e) (see s i) (record {
  bind = bind_keeps s i f;
  cancel_bind = cancel_bind_keeps s i f;
  carrier_notification = carrier_notification_keeps s i f;
  cancel_carrier_notification = cancel_carrier_notification_keeps s i f;
  proceed_with_carrier = proceed_with_carrier_keeps s i f;
  cancel_carrier = cancel_carrier_keeps s i f;
  carrier_out = carrier_out_keeps s i f;
  carrier_in = carrier_in_keeps s i f;
  change_access = change_access_keeps s i f;
  change_service_status = change_service_status_keeps s i f;
  reserve_at_port = reserve_at_port_keeps s i f;
  cancel_reservation_at_port = cancel_reservation_at_port_keeps s i f;
  load_start = load_start_keeps s i f;
  load_done = load_done_keeps s i f;
  load_fail = load_fail_keeps s i f;
  id_read = id_read_keeps s i f;
  id_read_failed = id_read_failed_keeps s i f;
  move_in = move_in_keeps s i f;
  open_row = open_keeps s i f;
  slot_map = slot_map_keeps s i f;
  access_start = access_start_keeps s i f;
  access_end = access_end_keeps s i f;
  close_row = close_keeps s i f;
  unload_start = unload_start_keeps s i f;
  unload_done = unload_done_keeps s i f;
  unload_fail = unload_fail_keeps s i f;
  none = λ _. never;
})

-- one input, refused or accepted
pub sound_after : (s : State) (i : Input) → sound s ≡ true → sound (state_after s i) ≡ true
unfolding state_after answer_in
sound_after s i h = go (eqb (answer_in s i) 0) refl
  where
    go : (b : Bool) → eqb (answer_in s i) 0 ≡ b → sound (cond b (enact (row_in s i).effect s) s) ≡ true
    go true e =
        let j = row_first_is_lowest i.number (see s i) ∙ eqb-true (answer_in s i) 0 e in
        let f = facts s h in
        let a = apt s i h i.number j in
        keeps_sound s f (row_in s i).effect a (rows_keep s i f i.number j a)
    go false e = h

-- what no effect changes, no input and no run does
module _ {A : Type 0} (v : State → A) (same : (e : Effect) (s : State) → v (enact e s) ≡ v s) where
  same_after : (s : State) (i : Input) → v (state_after s i) ≡ v s
  unfolding state_after
  same_after s i = cond_ind (λ t. v t ≡ v s) (eqb (answer_in s i) 0) (λ _. same (row_in s i).effect s) (λ _. refl)

  same_reached : (s : State) (run : List Input) → v (reached s run) ≡ v s
  unfolding reached
  same_reached s [] = refl
  same_reached s (i ∷ earlier) = same_after (reached s earlier) i ∙ same_reached s earlier

-- the ports and the places of a tool stay as many as they are
as_many_ports : (e : Effect) (s : State) → length (enact e s).ports ≡ length s.ports
unfolding enact
as_many_ports e s = length-set s.ports _ _

as_many_places : (e : Effect) (s : State) → (enact e s).places ≡ s.places
unfolding enact
as_many_places e s = refl

pub ports_after : (s : State) (i : Input) → length (state_after s i).ports ≡ length s.ports
ports_after = same_after (λ s. length s.ports) as_many_ports

pub places_after : (s : State) (i : Input) → (state_after s i).places ≡ s.places
places_after = same_after (λ s. s.places) as_many_places

-- ── Runs ──
pub sound_reached : (s : State) → sound s ≡ true → (run : List Input) → sound (reached s run) ≡ true
unfolding reached
sound_reached s h [] = h
sound_reached s h (i ∷ earlier) = sound_after (reached s earlier) i (sound_reached s h earlier)

pub ports_reached : (s : State) (run : List Input) → length (reached s run).ports ≡ length s.ports
ports_reached = same_reached (λ s. length s.ports) as_many_ports

pub places_reached : (s : State) (run : List Input) → (reached s run).places ≡ s.places
places_reached = same_reached (λ s. s.places) as_many_places

-- ── Set-up ──
pub sound_start : (P B : ℕ) → 1 ≤ P → P ≤ 4 → B ≤ 16 → sound (start P B) ≡ true
unfolding sound in_range ties_agree tie_held few_expected every every_two any how_many port_in_range port_agrees port_of same_name same_list
sound_start zero B a b c = absurd (omega arith)
sound_start (suc zero) B a b c = rw (le-leb B 16 c)
sound_start (suc (suc zero)) B a b c = rw (le-leb B 16 c)
sound_start (suc (suc (suc zero))) B a b c = rw (le-leb B 16 c)
sound_start (suc (suc (suc (suc zero)))) B a b c = rw (le-leb B 16 c)
sound_start (suc (suc (suc (suc (suc P))))) B a b c = absurd (omega arith)

-- ── The promise's first half, for every run from a valid set-up ──
module _ (P B : ℕ) (a : 1 ≤ P) (b : P ≤ 4) (c : B ≤ 16) (run : List Input) where
  pub sound_run : sound (reached (start P B) run) ≡ true
  sound_run = sound_reached (start P B) (sound_start P B a b c) run

  pub orderly_run : Orderly (reached (start P B) run)
  orderly_run = orderly (reached (start P B) run) sound_run

  pub few_run : length (reached (start P B) run).carriers ≤ P + B + 16
  few_run =
      let h = bounded (reached (start P B) run) sound_run in
      let p : length (reached (start P B) run).ports ≡ P = ports_reached (start P B) run ∙ length-replicate P new_port in
      let q : (reached (start P B) run).places ≡ B = places_reached (start P B) run in
      omega arith
