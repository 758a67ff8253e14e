-- What each row makes of the records: row by row, each thing that a record says after was so before, or the input did it.
use Prim.Native.Nat.{ℕ, ◌<◌}
use native.Mathlib.Omega.{arith}
use mathlib.Core.Path.{◌≡◌, refl, sym, ◌∙◌}
use mathlib.Core.Logic.{◌≢◌, ◌⊎◌, inl, inr}
use mathlib.Core.Bool.{Bool, true, false, not, cond, ◌&&◌, ◌||◌}
use lib.ListN.{length, get_or}
use lib.Dec.{eqb}
use borrow.Author.Tests.{lt-ltb}
use Rattle.lists.proofs.Bools.{clash, and_r, and_i, or_l, or_false_l, or_false_r, not_true, not_false}
use Rattle.records.specs.declared.name.Name.{Name}
use Rattle.records.specs.declared.port.Port.{Port}
use Rattle.records.specs.declared.carrier.Carrier.{Carrier}
use Rattle.records.specs.Names.{in_bytes, same_name}
use Rattle.records.specs.Ports.{ready_to_unload}
use Rattle.records.specs.Carriers.{no_carrier, new_carrier, is_open, is_cancelled, at_port, id_waits, id_ok, slot_waits, slot_ok}
use Rattle.records.specs.Carriers.{placed_at, proceeded, judged_no, cancelled_by}
use Rattle.records.specs.Fields.{with_id}
use Rattle.rules.specs.declared.row.Seen.{Seen}
use Rattle.rules.specs.declared.row.Effect.{Effect}
use Rattle.rules.specs.State.{State, record_of}
use Rattle.rules.specs.Sound.{sound}
use Rattle.rules.specs.Seen.{Input, see}
use Rattle.rules.specs.Row.{Row, judge, on_port_and_gone, on_both, other_port, placed, found_or_new}
use Rattle.rules.specs.Verdict.{can_proceed, proceed_with_carrier, cancel_port, failed, cancel_carrier}
use Rattle.rules.specs.Buffer.{carrier_out, carrier_in, move_in}
use Rattle.rules.specs.Reading.{matching, id_read, id_read_failed}
use Rattle.rules.specs.Opening.{open_row, slot_map, access_start, access_end, close_row}
use Rattle.rules.specs.Rows.{row_of}
use Rattle.rules.specs.Outcome.{answer_in}
use Rattle.rules.proofs.Names.{name_is, name_same, name_sym}
use Rattle.rules.proofs.Accepts.{Accepting, walk_accepting, never}
use Rattle.rules.proofs.SoundFacts.{distinct}
use Rattle.rules.proofs.SoundParts.{facts}
use Rattle.rules.proofs.KeepSeen.{found_named}
use Rattle.rules.proofs.Apt.{no_namesake, stands_in, found_is, new_is, not_placed_new}
use Rattle.rules.proofs.Matching.{read_matches}
use Rattle.rules.proofs.Backed.{does, proves, TracesLid, Traces, Born, same_id, same_lid, same_slots}

pub record Trail (s : State) (i : Input) (n : ℕ) (e : Effect) : Type 0 where
  -- no other record than the one that changes is cancelled
  pub others : (j : ℕ) → j < length s.carriers → j ≢ e.changes → does s i n 6 (get_or s.carriers j no_carrier).name ≡ false
  pub follows : e.changes < length s.carriers → Traces s i n (get_or s.carriers e.changes no_carrier) e.next
  pub born : e.made ≡ true → Born s i n e.next

none_of : (a : Bool) {b : Bool} → b ≡ false → (a && b) ≡ false
none_of true e = e
none_of false e = refl

-- a field that can only be set to another value had this one before
not_by : (w : Bool) (v old k : ℕ) → eqb v k ≡ false → eqb (cond w v old) k ≡ true → eqb old k ≡ true
not_by true v old k n e = clash e n
not_by false v old k n e = e

module _ (s : State) (i : Input) (h : sound s ≡ true) (a : eqb (answer_in s i) 0 ≡ true) where
  abbrev x : Seen
  x = see s i

  -- an input of this number cancels nothing
  abbrev Harmless : ℕ → Type 0
  Harmless n = (m : Name) → does s i n 6 m ≡ false

  -- no record changes, and none is made
  calm : (n : ℕ) (p : ℕ) (q : Port) (k : ℕ) → Harmless n → Trail s i n (on_port_and_gone x.count p q k)
  unfolding see
  calm n p q k d = record { others = λ j _ _. d _; follows = λ b. absurd (omega arith); born = λ e. clash e refl }

  -- a record is made
  made_new : (n : ℕ) (p : ℕ) (q : Port) (c : Carrier) → Harmless n → Born s i n c
      → Trail s i n (record { port = p; becomes = q; goes = x.count; changes = x.count; next = c; made = true })
  unfolding see
  made_new n p q c d b = record { others = λ j _ _. d _; follows = λ e. absurd (omega arith); born = λ _. b }

  -- the named record changes
  named_changes : (n : ℕ) (p : ℕ) (q : Port) (c : Carrier) → Harmless n → Traces s i n x.found c
      → Trail s i n (on_both x.count p q x.stands c)
  unfolding see record_of
  named_changes n p q c d t = record { others = λ j _ _. d _; follows = λ _. t; born = λ e. clash e refl }

  -- the carrier tied to the port changes
  tied_changes : (n : ℕ) (p : ℕ) (q : Port) (c : Carrier) → Harmless n → (x.tied ≡ true → Traces s i n x.held c)
      → Trail s i n (on_both x.count p q x.holds c)
  unfolding see record_of
  tied_changes n p q c d t = record {
    others = λ j _ _. d _;
    follows = λ b. t (lt-ltb x.holds (length s.carriers) b);
    born = λ e. clash e refl;
  }

  -- the named record changes, or a new one is made
  named_or_new : (n : ℕ) (p : ℕ) (q : Port) (g : ℕ) (c : Carrier)
      → ((j : ℕ) → j < length s.carriers → j ≢ x.stands → does s i n 6 (get_or s.carriers j no_carrier).name ≡ false)
      → (x.known ≡ true → Traces s i n x.found c) → (x.known ≡ false → Born s i n c)
      → Trail s i n (record { port = p; becomes = q; goes = g; changes = x.stands; next = c; made = not x.known })
  unfolding see record_of
  named_or_new n p q g c d t b = record {
    others = d;
    follows = λ e. t (lt-ltb x.stands (length s.carriers) e);
    born = λ e. b (not_true x.known e);
  }

  -- the record found has the input's name, and no other has
  bears_name : x.known ≡ true → same_name (in_bytes i.name) x.found.name ≡ true
  unfolding see
  bears_name u = name_same _ _ (sym (found_named s i (facts s h) u))

  other_named : (j : ℕ) → j < length s.carriers → j ≢ x.stands
      → same_name (get_or s.carriers j no_carrier).name (in_bytes i.name) ≡ false
  unfolding see record_of
  other_named j b n = go x.known refl
    where
      go : (w : Bool) → x.known ≡ w → same_name (get_or s.carriers j no_carrier).name (in_bytes i.name) ≡ false
      go true u =
          let m = name_is (in_bytes i.name) x.found.name (bears_name u) in
          rw m (distinct s h j x.stands b (stands_in s i h u) n)
      go false u = no_namesake s i h u j b

  -- the input is accepted, and has the found record's name
  done_to_found : x.known ≡ true → (eqb (answer_in s i) 0 && same_name (in_bytes i.name) x.found.name) ≡ true
  done_to_found u = and_i a (bears_name u)

  -- the same of a new record
  done_to_new : (eqb (answer_in s i) 0 && same_name (in_bytes i.name) x.name) ≡ true
  unfolding see
  done_to_new = and_i a (name_same (in_bytes i.name) (in_bytes i.name) refl)

  -- ── Row by row ──
  -- what there is to show of a row that accepts, by its number
  abbrev Fine : ℕ → Row → Type 0
  Fine = Accepting (Trail s i)

  -- 1 and 3: a new record says nothing yet
  says_nothing : (n p : ℕ) → Harmless n → Born s i n (new_carrier x.name p)
  says_nothing n p d = record { ok_id = λ z. clash z refl; uncancelled = λ _. d x.name; plain = refl }

  -- 5: the ID is OK by this input, or the slot map that waited is
  proceed_with_carrier_trail : Fine 5 (proceed_with_carrier x)
  unfolding can_proceed
  proceed_with_carrier_trail k =
      named_or_new 5 _ _ _ _ (λ j _ _. refl) (λ u. kept u (placed x) k.1.1.1.1.0)
      (λ u. rw (not_placed_new s i h u, new_is s i h u) new)
    where
      id_by : x.known ≡ true → (w : Bool) → eqb (cond w 3 x.found.id) 3 ≡ true
          → (id_ok x.found ≡ true) ⊎ (proves s i 5 x.found.name ≡ true)
      id_by u true z = inr (done_to_found u)
      id_by u false z = inl z

      waits_by : (w : Bool) → eqb (cond w x.found.slot 3) 2 ≡ true
          → (slot_waits x.found ≡ true) ⊎ (does s i 5 20 x.found.name ≡ true)
      waits_by true z = inl z
      waits_by false z = clash z refl

      slot_by : x.known ≡ true → (w : Bool) → (w || (id_ok x.found && slot_waits x.found)) ≡ true
          → eqb (cond w x.found.slot 3) 3 ≡ true
          → (slot_ok x.found ≡ true) ⊎ ((slot_waits x.found ≡ true) × (does s i 5 5 x.found.name ≡ true))
      slot_by u true o z = inl z
      slot_by u false o z = inr (and_r (id_ok x.found) _ o, done_to_found u)

      kept : x.known ≡ true → (w : Bool) → (not w || can_proceed x x.found) ≡ true
          → Traces s i 5 x.found (cond w (proceeded x.found) (with_id 3 (placed_at x.port (found_or_new x))))
      kept u true o = record {
        ident = record { ok_id = id_by u (id_waits x.found); boxed = inl };
        lid = same_lid refl refl refl;
        slots = record {
          waits = waits_by (id_waits x.found);
          ok_slot = slot_by u (id_waits x.found) (and_r (not (other_port x x.found)) _ o);
          accessed = inl;
        };
      }
      kept u false o = rw (found_is s i h u) (record {
        ident = record { ok_id = λ _. inr (done_to_found u); boxed = λ z. clash z refl };
        lid = same_lid refl refl refl;
        slots = same_slots refl refl;
      })

      new : Born s i 5 (with_id 3 (placed_at x.port (new_carrier x.name 0)))
      new = record { ok_id = λ _. done_to_new; uncancelled = λ _. refl; plain = refl }

  -- 6: one record is cancelled, closed, and nothing of it is newly OK
  cancels_one : (j : ℕ) → j < length s.carriers → j ≢ x.stands → does s i 6 6 (get_or s.carriers j no_carrier).name ≡ false
  cancels_one j b n = none_of (eqb (answer_in s i) 0) (name_sym _ _ ∙ other_named j b n)

  shut_cancelled : {c after : Carrier} → is_open after ≡ false → is_cancelled after ≡ true → TracesLid s i 6 c after
  shut_cancelled p q = record { opens = λ z. clash z p; open_ok = λ z. clash z p; uncancelled = λ z. clash q z }

  cancel_carrier_trail : Fine 6 (cancel_carrier x)
  unfolding failed
  cancel_carrier_trail _ =
      named_or_new 6 _ _ _ _ cancels_one (λ u. kept (ready_to_unload (cancel_port x)) u (placed x))
      (λ u. rw (not_placed_new s i h u, new_is s i h u) (new (ready_to_unload (cancel_port x))))
    where
      kept : (y : Bool) → x.known ≡ true → (w : Bool)
          → Traces s i 6 x.found (cancelled_by y (cond w (judged_no x.found) (with_id 4 (placed_at x.port (found_or_new x)))))
      kept y u true = record {
        ident = record { ok_id = λ z. inl (not_by (id_waits x.found) 4 _ 3 refl z); boxed = inl };
        lid = shut_cancelled refl refl;
        slots = record {
          waits = λ z. inl (not_by (not (id_waits x.found) && slot_waits x.found) 4 _ 2 refl z);
          ok_slot = λ z. inl (not_by (not (id_waits x.found) && slot_waits x.found) 4 _ 3 refl z);
          accessed = inl;
        };
      }
      kept y u false = rw (found_is s i h u) (record {
        ident = record { ok_id = λ z. clash z refl; boxed = λ z. clash z refl };
        lid = shut_cancelled refl refl;
        slots = same_slots refl refl;
      })

      new : (y : Bool) → Born s i 6 (cancelled_by y (with_id 4 (placed_at x.port (new_carrier x.name 0))))
      new y = record { ok_id = λ z. clash z refl; uncancelled = λ z. clash refl z; plain = refl }

  -- 7: out of the buffer
  carrier_out_trail : Fine 7 (carrier_out x)
  carrier_out_trail _ =
      named_changes 7 _ _ _ (λ m. refl)
      (record { ident = record { ok_id = inl; boxed = λ z. clash z refl }; lid = same_lid refl refl refl; slots = same_slots refl refl })

  carrier_in_trail : Fine 8 (carrier_in x)
  carrier_in_trail _ =
      named_changes 8 _ _ _ (λ m. refl) (record { ident = same_id refl refl; lid = same_lid refl refl refl; slots = same_slots refl refl })

  -- 16: the ID is OK by a matching read
  unmatched : x.known ≡ false → matching x ≡ false
  unfolding matching
  unmatched u = rw u

  id_read_trail : Fine 16 (id_read x)
  id_read_trail k =
      named_or_new 16 _ _ _ _ (λ j _ _. refl) (λ u. rw (found_is s i h u) (kept k.0 u)) (λ u. rw (unmatched u, new_is s i h u) new)
    where
      matched : (w : Bool) → eqb (cond w 3 2) 3 ≡ true → w ≡ true
      matched true z = refl
      matched false z = z

      kept : x.isport ≡ true → x.known ≡ true → Traces s i 16 x.found (with_id (cond (matching x) 3 2) (placed_at x.port x.found))
      kept p u = record {
        ident = record {
          ok_id = λ z. inr (or_l false (and_i (done_to_found u) (read_matches s i h p u (matched (matching x) z))));
          boxed = λ z. clash z refl;
        };
        lid = same_lid refl refl refl;
        slots = same_slots refl refl;
      }

      new : Born s i 16 (with_id 2 (placed_at x.port (new_carrier x.name 0)))
      new = record { ok_id = λ z. clash z refl; uncancelled = λ _. refl; plain = refl }

  id_read_failed_trail : Fine 17 (id_read_failed x)
  id_read_failed_trail _ = tied_changes 17 _ _ _ (λ m. refl) (λ u. rw u (record {
    ident = record { ok_id = λ z. clash z refl; boxed = λ z. clash z refl };
    lid = same_lid refl refl refl;
    slots = same_slots refl refl;
  }))

  -- 18: into the buffer only with ID OK
  move_in_trail : Fine 18 (move_in x)
  move_in_trail k = tied_changes 18 _ _ _ (λ m. refl) (λ _. record {
    ident = record { ok_id = inl; boxed = λ _. inr (and_r (at_port x.held) _ k.1.1.1.0) };
    lid = same_lid refl refl refl;
    slots = same_slots refl refl;
  })

  -- 19: opened only with ID OK and not cancelled
  open_trail : Fine 19 (open_row x)
  open_trail k =
      let o = k.1.1.1.0 in
      let v = not_false (id_ok x.found) (or_false_l _ _ (or_false_l _ _ o)) in
      let w : is_cancelled x.found ≡ false = search (or_false_r) depth 2 in
      named_changes 19 _ _ _ (λ m. refl) (record {
        ident = same_id refl refl;
        lid = record { opens = λ _. inr (v, w); open_ok = λ _ z. z; uncancelled = λ z. (z, refl) };
        slots = same_slots refl refl;
      })

  -- 20: the slot map is reported
  slot_map_trail : Fine 20 (slot_map x)
  slot_map_trail k = named_changes 20 _ _ _ (λ m. refl) (record {
    ident = same_id refl refl;
    lid = same_lid refl refl refl;
    slots = record { waits = λ _. inr (done_to_found k.1.1.0); ok_slot = λ z. clash z refl; accessed = inl };
  })

  -- 21: accessed only with slot status OK
  access_start_trail : Fine 21 (access_start x)
  access_start_trail k = named_changes 21 _ _ _ (λ m. refl) (record {
    ident = same_id refl refl;
    lid = same_lid refl refl refl;
    slots = record { waits = inl; ok_slot = inl; accessed = λ _. inr k.1.1.1.0 };
  })

  access_end_trail : Fine 22 (access_end x)
  access_end_trail _ = named_changes 22 _ _ _ (λ m. refl) (record {
    ident = same_id refl refl;
    lid = same_lid refl refl refl;
    slots = record { waits = inl; ok_slot = inl; accessed = λ z. clash (not_by (eqb x.value 0) 3 4 2 refl z) refl };
  })

  -- 23: closed
  close_trail : Fine 23 (close_row x)
  close_trail _ = named_changes 23 _ _ _ (λ m. refl) (record {
    ident = same_id refl refl;
    lid = record { opens = λ z. clash z refl; open_ok = λ z. clash z refl; uncancelled = λ z. (z, refl) };
    slots = same_slots refl refl;
  })

  pub trail : (n : ℕ) → judge (row_of n x).grounds ≡ 0 → Trail s i n (row_of n x).effect
  trail = walk_accepting (Trail s i) x (record {
    bind = λ _. made_new 1 _ _ _ (λ m. refl) (says_nothing 1 x.port (λ m. refl));
    cancel_bind = λ _. calm 2 _ _ _ (λ m. refl);
    carrier_notification = λ _. made_new 3 _ _ _ (λ m. refl) (says_nothing 3 0 (λ m. refl));
    cancel_carrier_notification = λ _. calm 4 _ _ _ (λ m. refl);
    proceed_with_carrier = proceed_with_carrier_trail;
    cancel_carrier = cancel_carrier_trail;
    carrier_out = carrier_out_trail;
    carrier_in = carrier_in_trail;
    change_access = λ _. calm 9 _ _ _ (λ m. refl);
    change_service_status = λ _. calm 10 _ _ _ (λ m. refl);
    reserve_at_port = λ _. calm 11 _ _ _ (λ m. refl);
    cancel_reservation_at_port = λ _. calm 12 _ _ _ (λ m. refl);
    load_start = λ _. calm 13 _ _ _ (λ m. refl);
    load_done = λ _. calm 14 _ _ _ (λ m. refl);
    load_fail = λ _. calm 15 _ _ _ (λ m. refl);
    id_read = id_read_trail;
    id_read_failed = id_read_failed_trail;
    move_in = move_in_trail;
    open_row = open_trail;
    slot_map = slot_map_trail;
    access_start = access_start_trail;
    access_end = access_end_trail;
    close_row = close_trail;
    unload_start = λ _. calm 24 _ _ _ (λ m. refl);
    unload_done = λ _. calm 25 _ _ _ (λ m. refl);
    unload_fail = λ _. calm 26 _ _ _ (λ m. refl);
    none = λ _. never;
  })
