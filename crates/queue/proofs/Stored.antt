-- A carrier in the buffer stays there, and stays closed and not in access, whatever is accepted but CarrierOut and Open of it.
use Prim.Native.Nat.{ℕ, ◌<◌}
use native.Mathlib.Omega.{arith}
use mathlib.Core.Path.{◌≡◌, refl, ap, sym, ◌∙◌}
use mathlib.Core.Logic.{◌≢◌}
use mathlib.Core.Bool.{Bool, true, false, not, cond}
use lib.ListN.{length}
use lib.Dec.{eqb}
use borrow.Author.Tests.{eqb-true, lt-ltb}
use Rattle.lists.proofs.Bools.{clash, and_l, and_r, or_l}
use Rattle.records.specs.declared.carrier.Carrier.{Carrier}
use Rattle.records.specs.Carriers.{expected, is_open, in_access}
use Rattle.rules.specs.declared.row.Seen.{Seen}
use Rattle.rules.specs.declared.row.Effect.{Effect}
use Rattle.rules.specs.State.{State, record_of}
use Rattle.rules.specs.Seen.{Input, see}
use Rattle.rules.specs.Row.{Row, judge, placed}
use Rattle.rules.specs.Booking.{meant, meant_stands, one_pair}
use Rattle.rules.specs.Verdict.{failed, proceed_with_carrier, cancel_carrier}
use Rattle.rules.specs.Reading.{elsewhere, displaced, id_read}
use Rattle.rules.specs.Opening.{slot_map}
use Rattle.rules.specs.Rows.{row_of}
use Rattle.rules.proofs.Accepts.{Clear, walk_accepting, never}
use Rattle.rules.proofs.SoundParts.{Facts}
use Rattle.rules.proofs.KeepSeen.{given_range, found_named, held_tied, holds_none}
use Rattle.queue.specs.Requests.{may_leave}

-- What an effect leaves to the record at j: it isn't the one that goes; the record that follows it is in the buffer too, and, unless it is
-- opened, closed and not in access if this one was.
pub record Spares (s : State) (j : ℕ) (opened : Type 0) (e : Effect) : Type 0 where
  pub here : j ≢ e.goes
  pub stored : j ≡ e.changes → e.next.place ≡ 2
  pub shut : (opened → ⊥) → j ≡ e.changes → may_leave (record_of s j) ≡ true → may_leave e.next ≡ true

module _ (s : State) (i : Input) (f : Facts s) (j : ℕ) (b : j < length s.carriers) (boxed : (record_of s j).place ≡ 2) where
  abbrev x : Seen
  x = see s i

  -- a row of this carrier, by its number
  abbrev Its : ℕ → ℕ → Type 0
  Its n k = (n ≡ k) × ((record_of s j).name ≡ x.name)

  abbrev Fine : ℕ → Row → Type 0
  Fine n r = Clear r.grounds → (Its n 7 → ⊥) → Spares s j (Its n 19) r.effect

  -- ── Which record it isn't ──
  not_count : j ≢ x.count
  unfolding see
  not_count z = omega arith

  counted : length s.carriers ≡ x.count
  unfolding see
  counted = refl

  held_is : j ≡ x.holds → x.held ≡ record_of s j
  unfolding see
  held_is z = ap (record_of s) (sym z)

  -- tied to the port given: one in the buffer is tied to none
  not_held : x.isport ≡ true → j ≢ x.holds
  not_held p z = go x.tied refl
    where
      go : (w : Bool) → x.tied ≡ w → ⊥
      go true t =
          let a = (given_range s i f p).0 in
          let q = held_tied s i f t in
          let e = ap (λ (c : Carrier). c.port) (held_is z) in
          let o = (f.records j b).stands.in_free boxed in
          omega arith
      go false t = not_count (z ∙ holds_none s i f t ∙ counted)

  -- in another place
  found_at : j ≡ x.stands → x.found.place ≡ 2
  unfolding see
  found_at z = ap (λ k. (record_of s k).place) (sym z) ∙ boxed

  found_known : j ≡ x.stands → x.known ≡ true
  unfolding see
  found_known z = lt-ltb x.stands (length s.carriers) (omega arith)

  found_placed : j ≡ x.stands → placed x ≡ true
  unfolding placed
  found_placed z = rw (found_known z, found_at z)

  found_is : j ≡ x.stands → record_of s j ≡ x.found
  unfolding see
  found_is z = ap (record_of s) z

  found_its : j ≡ x.stands → (record_of s j).name ≡ x.name
  found_its z = ap (λ (c : Carrier). c.name) (found_is z) ∙ found_named s i f (found_known z)

  not_found : (v : ℕ) → v ≢ 2 → eqb x.found.place v ≡ true → j ≢ x.stands
  not_found v n e z = n (sym (eqb-true _ v e) ∙ found_at z)

  meant_is : meant x ≡ record_of s (meant_stands x)
  unfolding see meant meant_stands
  meant_is = go x.blank
    where
      go : (w : Bool) → cond w x.held x.found ≡ record_of s (cond w x.holds x.stands)
      go true = refl
      go false = refl

  not_meant : expected (meant x) ≡ true → j ≢ meant_stands x
  not_meant e z =
      let p = eqb-true (meant x).place 0 e in
      let q = ap (λ (c : Carrier). c.place) meant_is in
      let r = ap (λ k. (record_of s k).place) z in
      omega arith

  -- ── The kinds of effect ──
  -- no record changes, and none goes but g
  none_changes : {o : Type 0} {e : Effect} → j ≢ e.goes → e.changes ≡ x.count → Spares s j o e
  none_changes g c = record {
    here = g;
    stored = λ z. absurd (not_count (z ∙ c));
    shut = λ _ z. absurd (not_count (z ∙ c));
  }

  -- another changes
  other_changes : {o : Type 0} {e : Effect} → j ≢ e.goes → j ≢ e.changes → Spares s j o e
  other_changes g c = record { here = g; stored = λ z. absurd (c z); shut = λ _ z. absurd (c z) }

  -- the one that is named changes
  named_changes : {o : Type 0} {e : Effect} → e.goes ≡ x.count → e.changes ≡ x.stands → (j ≡ x.stands → e.next.place ≡ 2)
      → ((o → ⊥) → j ≡ x.stands → may_leave x.found ≡ true → may_leave e.next ≡ true) → Spares s j o e
  named_changes g c p m = record {
    here = λ z. not_count (z ∙ g);
    stored = λ z. p (z ∙ c);
    shut = λ d z l. m d (z ∙ c) (rw (found_is (z ∙ c)) at l);
  }

  -- closed isn't open, and not in access isn't in access
  not_open : {X : Type 0} → is_open x.found ≡ true → may_leave x.found ≡ true → X
  unfolding may_leave
  not_open o l = clash (and_l (not (is_open x.found)) _ l) (rw o)

  not_accessed : {X : Type 0} → in_access x.found ≡ true → may_leave x.found ≡ true → X
  unfolding may_leave
  not_accessed o l = clash (and_r (not (is_open x.found)) _ l) (rw o)

  proceed : Fine 5 (proceed_with_carrier x)
  unfolding may_leave
  proceed _ _ = named_changes refl refl (λ z. rw (found_placed z) (found_at z)) (λ _ z l. rw (found_placed z) l)

  cancel : Fine 6 (cancel_carrier x)
  unfolding failed may_leave
  cancel _ _ =
      named_changes refl refl (λ z. rw (found_placed z) (found_at z))
      (λ _ z l. rw (found_placed z) (and_r (not (is_open x.found)) _ l))

  slot_map_fact : Fine 20 (slot_map x)
  unfolding may_leave
  slot_map_fact _ _ = named_changes refl refl found_at (λ _ _ l. l)

  id_read_fact : Fine 16 (id_read x)
  unfolding displaced elsewhere
  id_read_fact k _ =
      other_changes (goes (eqb x.holds x.stands))
      (λ z. clash (or_l _ (found_placed z)) k.1.1.0)
    where
      goes : (w : Bool) → j ≢ cond w x.count x.holds
      goes true = not_count
      goes false = not_held k.0

  pub spares : (n : ℕ) → judge (row_of n x).grounds ≡ 0 → (Its n 7 → ⊥) → Spares s j (Its n 19) (row_of n x).effect
  unfolding one_pair
  spares = walk_accepting (λ n e. (Its n 7 → ⊥) → Spares s j (Its n 19) e) x (record {
    bind = λ _ _. none_changes not_count refl;
    cancel_bind = λ k _. none_changes (not_meant (let o = k.1.1.1.1.0 in search (and_l, and_r) depth 5)) refl;
    carrier_notification = λ _ _. none_changes not_count refl;
    cancel_carrier_notification = λ k _. none_changes (not_found 0 (λ z. omega arith) (and_l _ _ k.1.1.0)) refl;
    proceed_with_carrier = proceed;
    cancel_carrier = cancel;
    carrier_out = λ _ n. other_changes not_count (λ z. n (refl, found_its z));
    carrier_in = λ k _.
        other_changes not_count (not_found 1 (λ z. omega arith) (let o = k.1.1.0 in search (and_l, and_r) depth 5));
    change_access = λ _ _. none_changes not_count refl;
    change_service_status = λ _ _. none_changes not_count refl;
    reserve_at_port = λ _ _. none_changes not_count refl;
    cancel_reservation_at_port = λ _ _. none_changes not_count refl;
    load_start = λ _ _. none_changes not_count refl;
    load_done = λ _ _. none_changes not_count refl;
    load_fail = λ _ _. none_changes not_count refl;
    id_read = id_read_fact;
    id_read_failed = λ k _. other_changes not_count (not_held k.0);
    move_in = λ k _. other_changes not_count (not_held k.0);
    open_row = λ _ _. named_changes refl refl found_at (λ n z. absurd (n (refl, found_its z)));
    slot_map = slot_map_fact;
    access_start = λ k _. named_changes refl refl found_at (λ _ _. not_open (and_l _ _ k.1.1.0));
    access_end = λ k _. named_changes refl refl found_at (λ _ _. not_accessed k.1.1.1.0);
    close_row = λ k _. named_changes refl refl found_at (λ _ _. not_open (and_l _ _ k.1.1.0));
    unload_start = λ _ _. none_changes not_count refl;
    unload_done = λ k _. none_changes (not_held k.0) refl;
    unload_fail = λ _ _. none_changes not_count refl;
    none = λ _. never;
  })
