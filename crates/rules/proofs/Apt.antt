-- What holds of each row's effect where the row accepts: a record keeps its name, a new one's name is new, and so on.
use Prim.Native.Nat.{ℕ, ◌-◌, ◌≤◌, ◌<◌}
use native.Mathlib.Omega.{arith}
use mathlib.Core.Path.{◌≡◌, refl, ap, sym, ◌∙◌}
use mathlib.Core.Logic.{◌≢◌}
use mathlib.Core.Bool.{Bool, true, false, not, cond}
use lib.ListN.{length, get_or, get_or-eq_default}
use lib.Dec.{eqb, ltb}
use borrow.Author.Tests.{eqb-true, eqb-false, ltb-true, ltb-false, lt-ltb, le-ltb, ne_eqb}
use Rattle.lists.proofs.Bools.{clash, cond_ind, and_l, and_r, not_true, not_false}
use Rattle.lists.proofs.Tests.{nowhere}
use Rattle.records.specs.declared.port.Port.{Port}
use Rattle.records.specs.declared.carrier.Carrier.{Carrier}
use Rattle.records.specs.Names.{same_name}
use Rattle.records.specs.Ports.{no_port, to_unload}
use Rattle.records.specs.Carriers.{no_carrier, new_carrier, at_port, untied}
use Rattle.rules.specs.declared.row.Seen.{Seen}
use Rattle.rules.specs.declared.row.Effect.{Effect}
use Rattle.rules.specs.State.{State, spot_of, port_of, record_of}
use Rattle.rules.specs.Sound.{sound}
use Rattle.rules.specs.Seen.{Input, is_named, name_stands, see}
use Rattle.rules.specs.Row.{Row, judge, on_port_and_gone, on_both, placed, found_or_new}
use Rattle.rules.specs.Booking.{meant, meant_stands, one_pair, cancel_bind}
use Rattle.rules.specs.Verdict.{proceed_with_carrier, cancel_at, cancel_port, failed, cancel_carrier}
use Rattle.rules.specs.Buffer.{move_in}
use Rattle.rules.specs.Reading.{displaced, id_read, id_read_failed}
use Rattle.rules.specs.Opening.{leaves_port, close_row}
use Rattle.rules.specs.Rows.{row_of}
use Rattle.rules.proofs.Accepts.{Clear, walk_accepting, never}
use Rattle.rules.proofs.UnknownPod.{pod_there}
use Rattle.rules.proofs.SoundFacts.{port_fits_fact, placed_tied}
use Rattle.rules.proofs.SoundParts.{facts}
use Rattle.rules.proofs.KeepSeen.{given_range, found_live}

pub record Apt (s : State) (e : Effect) : Type 0 where
  -- no port changes only into itself
  pub still : length s.ports ≤ spot_of e.port → e.becomes ≡ port_of s e.port
  -- what goes isn't what changes
  pub apart : e.changes < length s.carriers → e.changes ≢ e.goes
  -- a record keeps its name
  pub named : e.changes < length s.carriers → e.next.name ≡ (get_or s.carriers e.changes no_carrier).name
  -- a new record changes no other, and its name is new
  pub lone : e.made ≡ true → length s.carriers ≤ e.changes
  pub fresh : e.made ≡ true → (j : ℕ) → j < length s.carriers → same_name (get_or s.carriers j no_carrier).name e.next.name ≡ false
  -- where none is made and none changes, there is no record
  pub none : e.made ≡ false → length s.carriers ≤ e.changes → e.next ≡ no_carrier

-- a port in range stands in the list
in_list : (p n : ℕ) → 1 ≤ p → p ≤ n → spot_of p < n
in_list p n a b = let z : spot_of p ≡ p - 1 = rw (ne_eqb p 0 (λ e. omega arith)) in omega arith

module _ (s : State) where
  -- what an effect does to its port
  abbrev Still : ℕ → Port → Type 0
  Still p q = length s.ports ≤ spot_of p → q ≡ port_of s p

  still_in : (p : ℕ) (q : Port) → 1 ≤ p → p ≤ length s.ports → Still p q
  still_in p q a b h = let z = in_list p (length s.ports) a b in absurd (omega arith)

  still_none : Still 0 no_port
  unfolding port_of
  still_none h = sym (get_or-eq_default s.ports no_port h)

  -- only a port changes, and a record may go
  port_apt : (p : ℕ) (q : Port) (k : ℕ) → Still p q → Apt s (on_port_and_gone (length s.carriers) p q k)
  port_apt p q k h = record {
    still = h;
    apart = λ b. absurd (omega arith);
    named = λ b. absurd (omega arith);
    lone = λ e. clash e refl;
    fresh = λ e. clash e refl;
    none = λ _ _. refl;
  }

  -- a port and a record change
  both_apt : (p : ℕ) (q : Port) (k : ℕ) (c : Carrier) → Still p q → k < length s.carriers
      → c.name ≡ (get_or s.carriers k no_carrier).name → Apt s (on_both (length s.carriers) p q k c)
  both_apt p q k c h b n = record {
    still = h;
    apart = λ _. omega arith;
    named = λ _. n;
    lone = λ e. clash e refl;
    fresh = λ e. clash e refl;
    none = λ _ l. absurd (omega arith);
  }

module _ (s : State) (i : Input) (h : sound s ≡ true) where
  abbrev x : Seen
  x = see s i

  -- the port given is the tool's
  given_port : x.isport ≡ true → (q : Port) → Still s x.port q
  given_port e q = let r = given_range s i (facts s h) e in still_in s x.port q r.0 r.1

  -- no record has the input's name
  pub no_namesake : x.known ≡ false → (j : ℕ) → j < length s.carriers
      → same_name (get_or s.carriers j no_carrier).name x.name ≡ false
  unfolding see name_stands
  no_namesake e = nowhere (is_named x.name) s.carriers no_carrier (ltb-false _ _ e)

  pub stands_in : x.known ≡ true → x.stands < length s.carriers
  stands_in = found_live s i (facts s h)

  -- a new record with the input's name
  new_apt : (p : ℕ) (q : Port) (c : Carrier) → Still s p q → x.known ≡ false → c.name ≡ x.name
      → Apt s (record { port = p; becomes = q; goes = length s.carriers; changes = length s.carriers; next = c; made = true })
  new_apt p q c h u n = record {
    still = h;
    apart = λ b. absurd (omega arith);
    named = λ b. absurd (omega arith);
    lone = λ _. omega arith;
    fresh = λ _ j b. rw n (no_namesake u j b);
    none = λ e. clash refl e;
  }

  -- the named record changes, or a new one is made
  named_apt : (p : ℕ) (q : Port) (g : ℕ) (c : Carrier) → Still s p q → (x.known ≡ true → x.stands ≢ g)
      → (x.known ≡ true → c.name ≡ x.found.name) → (x.known ≡ false → c.name ≡ x.name)
      → Apt s (record { port = p; becomes = q; goes = g; changes = x.stands; next = c; made = not x.known })
  unfolding see record_of
  named_apt p q g c h a n m = record {
    still = h;
    apart = λ b. a (lt-ltb x.stands (length s.carriers) b);
    named = λ b. n (lt-ltb x.stands (length s.carriers) b);
    lone = λ e. ltb-false x.stands (length s.carriers) (not_true x.known e);
    fresh = λ e j b. let u = not_true x.known e in rw (m u) (no_namesake u j b);
    none = λ e b. clash (not_false x.known e) (le-ltb x.stands (length s.carriers) b);
  }

  -- the name's record, or a new one
  pub found_is : x.known ≡ true → found_or_new x ≡ x.found
  unfolding found_or_new
  found_is e = rw e

  pub new_is : x.known ≡ false → found_or_new x ≡ new_carrier x.name 0
  unfolding found_or_new
  new_is e = rw e

  found_name : x.known ≡ true → (found_or_new x).name ≡ x.found.name
  found_name e = ap (λ (c : Carrier). c.name) (found_is e)

  new_name : x.known ≡ false → (found_or_new x).name ≡ x.name
  new_name e = ap (λ (c : Carrier). c.name) (new_is e)

  -- rows 5 and 6 keep the name, of a placed carrier and of any other
  kept_name : (c d : Carrier) → c.name ≡ x.found.name → d.name ≡ (found_or_new x).name → x.known ≡ true
      → (cond (placed x) c d).name ≡ x.found.name
  kept_name c d p q u = cond_ind (λ (c : Carrier). c.name ≡ x.found.name) (placed x) (λ _. p) (λ _. q ∙ found_name u)

  -- only the port given changes, and a record may go
  given_apt : x.isport ≡ true → (q : Port) (k : ℕ) → Apt s (on_port_and_gone x.count x.port q k)
  unfolding see
  given_apt e q k = port_apt s x.port q k (given_port e q)

  -- the named record changes, and a port may
  stands_both : (p : ℕ) (q : Port) (c : Carrier) → x.known ≡ true → Still s p q → c.name ≡ x.found.name
      → Apt s (on_both x.count p q x.stands c)
  unfolding see record_of
  stands_both p q c u t n = both_apt s p q x.stands c t (stands_in u) n

  own_fits : x.found.port ≤ length s.ports
  unfolding see
  own_fits = port_fits_fact s h x.stands

  -- a named record that is placed at a port is tied to it
  found_port : x.known ≡ true → at_port x.found ≡ true → (q : Port) → Still s x.found.port q
  unfolding see record_of
  found_port u a q = still_in s x.found.port q (placed_tied s h x.stands (stands_in u) a) own_fits

  stands_not_count : x.known ≡ true → x.stands ≢ x.count
  unfolding see
  stands_not_count u z = let b = stands_in u in omega arith

  -- ── Row by row ──
  -- what there is to show of a row that accepts
  abbrev Fine : Row → Type 0
  Fine r = Clear r.grounds → Apt s r.effect

  meant_fits : (meant x).port ≤ length s.ports
  unfolding see meant
  meant_fits =
      cond_ind (λ (c : Carrier). c.port ≤ length s.ports) x.blank
      (λ _. port_fits_fact s h x.holds) (λ _. port_fits_fact s h x.stands)

  cancel_bind_apt : Fine (cancel_bind x)
  unfolding see meant one_pair
  cancel_bind_apt k =
      let n : not (untied (meant x)) ≡ true = let o = k.1.1.1.1.0 in search (and_l, and_r) depth 5 in
      let z = eqb-false (meant x).port 0 (not_true _ n) in
      port_apt s (meant x).port _ (meant_stands x) (still_in s (meant x).port _ (omega arith) meant_fits)

  -- a placed carrier leaves its port as it is, any other goes to the port given
  pod_port : (w : Bool) → (w ≡ false → x.isport ≡ true) → (q : Port) → Still s (cond w 0 x.port) (cond w no_port q)
  pod_port true f q = still_none s
  pod_port false f q = given_port (f refl) q

  pub not_placed_new : x.known ≡ false → placed x ≡ false
  unfolding placed
  not_placed_new e = rw e

  proceed_with_carrier_apt : Fine (proceed_with_carrier x)
  proceed_with_carrier_apt k =
      let d = pod_there x k.1.1.0 k.1.1.1.0 in
      named_apt _ _ x.count _ (pod_port (placed x) (λ n. (d n).port) _) stands_not_count
      (kept_name _ _ refl refl) (λ u. rw (not_placed_new u) (new_name u))

  cancel_at_fits : (placed x ≡ false → x.isport ≡ true) → cancel_at x ≤ length s.ports
  unfolding cancel_at
  cancel_at_fits given =
      cond_ind (λ p. p ≤ length s.ports) (placed x)
      (λ _. cond_ind (λ p. p ≤ length s.ports) (at_port x.found) (λ _. own_fits) (λ _. omega arith))
      (λ n. (given_range s i (facts s h) (given n)).1)

  cancel_carrier_apt : Fine (cancel_carrier x)
  unfolding failed
  cancel_carrier_apt k =
      let d = pod_there x k.1.1.0 k.1.1.1.0 in
      named_apt _ _ x.count _ (at (eqb (cancel_at x) 0) refl (cancel_at_fits (λ n. (d n).port))) stands_not_count
      (kept_name _ _ refl refl) (λ u. rw (not_placed_new u) (new_name u))
    where
      at : (w : Bool) → eqb (cancel_at x) 0 ≡ w → cancel_at x ≤ length s.ports
          → Still s (cancel_at x) (cond w no_port (to_unload (cancel_port x)))
      at true e b = rw (eqb-true (cancel_at x) 0 e) (still_none s)
      at false e b = let z = eqb-false (cancel_at x) 0 e in still_in s (cancel_at x) _ (omega arith) b

  id_read_apt : Fine (id_read x)
  unfolding displaced
  id_read_apt k =
      named_apt x.port _ (displaced x) _ (given_port k.0 _) (other (eqb x.holds x.stands) refl) found_name new_name
    where
      other : (w : Bool) → eqb x.holds x.stands ≡ w → x.known ≡ true → x.stands ≢ cond w x.count x.holds
      other true q u n = stands_not_count u n
      other false q u n = eqb-false x.holds x.stands q (sym n)

  id_read_failed_apt : Fine (id_read_failed x)
  unfolding see record_of
  id_read_failed_apt k = record {
    still = given_port k.0 _;
    apart = λ b z. let d : x.holds < length s.carriers = b in let w : x.holds ≡ length s.carriers = z in omega arith;
    named = λ b. rw (lt-ltb x.holds (length s.carriers) b);
    lone = λ q. clash q refl;
    fresh = λ q. clash q refl;
    none = λ _ b. rw (le-ltb x.holds (length s.carriers) b);
  }

  move_in_apt : Fine (move_in x)
  unfolding see record_of
  move_in_apt k =
      both_apt s x.port _ x.holds _ (given_port k.0 _)
      (is_held (ltb x.holds (length s.carriers)) refl (and_l _ _ k.1.1.1.0)) refl
    where
      -- nothing tied is nothing verified
      is_held : (w : Bool) → ltb x.holds (length s.carriers) ≡ w
          → at_port (get_or s.carriers x.holds no_carrier) ≡ true → x.holds < length s.carriers
      is_held true q v = ltb-true x.holds (length s.carriers) q
      is_held false q v =
          clash (rw (get_or-eq_default s.carriers no_carrier (ltb-false x.holds (length s.carriers) q)) at v) refl

  close_apt : Fine (close_row x)
  close_apt k = stands_both _ _ _ k.1.0 (left (leaves_port x) refl k.1.0) refl
    where
      left : (w : Bool) → leaves_port x ≡ w → x.known ≡ true → Still s (cond w x.found.port 0) (cond w (to_unload x.home) no_port)
      left true q u = found_port u (and_l _ _ q) _
      left false q u = still_none s

  pub apt : (n : ℕ) → judge (row_of n x).grounds ≡ 0 → Apt s (row_of n x).effect
  unfolding see
  apt = walk_accepting (λ _. Apt s) x (record {
    bind = λ k. new_apt x.port _ _ (given_port k.0 _) k.1.1.0 refl;
    cancel_bind = cancel_bind_apt;
    carrier_notification = λ k. new_apt 0 no_port _ (still_none s) k.1.0 refl;
    cancel_carrier_notification = λ _. port_apt s 0 no_port x.stands (still_none s);
    proceed_with_carrier = proceed_with_carrier_apt;
    cancel_carrier = cancel_carrier_apt;
    carrier_out = λ k. stands_both x.port _ _ k.1.1.0 (given_port k.1.0 _) refl;
    carrier_in = λ k.
        stands_both x.found.port _ _ k.1.0 (found_port k.1.0 (let o = k.1.1.0 in search (and_l, and_r) depth 5) _) refl;
    change_access = λ k. given_apt k.0 _ _;
    change_service_status = λ k. given_apt k.0 _ _;
    reserve_at_port = λ k. given_apt k.0 _ _;
    cancel_reservation_at_port = λ k. given_apt k.0 _ _;
    load_start = λ k. given_apt k.0 _ _;
    load_done = λ k. given_apt k.0 _ _;
    load_fail = λ k. given_apt k.0 _ _;
    id_read = id_read_apt;
    id_read_failed = id_read_failed_apt;
    move_in = move_in_apt;
    open_row = λ k. stands_both 0 no_port _ k.1.0 (still_none s) refl;
    slot_map = λ k. stands_both 0 no_port _ k.1.1.0 (still_none s) refl;
    access_start = λ k. stands_both 0 no_port _ k.1.0 (still_none s) refl;
    access_end = λ k. stands_both 0 no_port _ k.1.1.0 (still_none s) refl;
    close_row = close_apt;
    unload_start = λ k. given_apt k.0 _ _;
    unload_done = λ k. given_apt k.0 _ _;
    unload_fail = λ k. given_apt k.0 _ _;
    none = λ _. never;
  })
