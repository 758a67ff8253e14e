-- Rows 1 to 4, 9 to 15 and 24 to 26 are lawful: announced, in service, loaded, unloaded.
use native.Mathlib.Omega.{arith}
use mathlib.Core.Path.{◌≡◌, refl, ap, sym}
use mathlib.Core.Logic.{◌≢◌}
use mathlib.Core.Bool.{Bool, true, false, not, cond, ◌&&◌}
use borrow.Author.Tests.{eqb-true, eq-eqb}
use Rattle.lists.proofs.Bools.{clash, and_l, not_true, not_false}
use Rattle.records.specs.Ports.{has_pod, ready_to_load}
use Rattle.records.specs.Fields.{with_transfer}
use Rattle.rules.specs.declared.row.Seen.{Seen}
use Rattle.rules.specs.State.{State, port_of}
use Rattle.rules.specs.Seen.{Input, see}
use Rattle.rules.specs.Booking.{bind, meant, meant_port, one_pair, cancel_bind, carrier_notification, cancel_carrier_notification}
use Rattle.rules.specs.Service.{goes_out, comes_in, change_access, change_service_status, reserve_at_port, cancel_reservation_at_port}
use Rattle.rules.specs.Transfer.{load_start, load_done, load_fail, unload_start, unload_done, unload_fail}
use Rattle.rules.proofs.Accepts.{clear}
use Rattle.rules.proofs.KeepSeen.{given_range, here_fits, held_tied, held_there, only_held}
use Rattle.rules.proofs.Lawful.{Steady, away_berth}
use Rattle.rules.proofs.LawfulShapes.{Fine, calm, gives_out, takes_in, turns_shut, Ready, facts_of}
use Rattle.rules.proofs.LawfulShapes.{low_inward, ready_inward, load_inward}
use Rattle.rules.proofs.LawfulShapes.{pod_none, pod_same, pod_moves, pod_here, port_law, at_port_fact}

module _ {s : State} {i : Input} (r : Ready s i) where
  abbrev x : Seen
  x = see s i

  -- ── 1 to 4: nothing is open of what is announced ──
  pub bind_law : Fine s i 1 (bind x)
  unfolding see
  bind_law = record {
    fine = λ e. record {
      steady = λ _ _ _ _. calm refl refl refl refl;
      turns = turns_shut (λ z. clash z refl) refl refl;
      berth = away_berth refl refl;
      pod = pod_same r x.port _ refl;
    };
  }

  meant_port_fact : (meant x).port ≢ 0 → meant_port x ≡ port_of s (meant x).port
  unfolding meant meant_port see
  meant_port_fact n = go x.blank n
    where
      go : (w : Bool) → (cond w x.held x.found).port ≢ 0 → cond w x.here x.home ≡ port_of s (cond w x.held x.found).port
      go true n = sym (ap (port_of s) (held_tied s i (facts_of r) (held_there s i (facts_of r) n)))
      go false n = refl

  pub cancel_bind_law : Fine s i 2 (cancel_bind x)
  unfolding one_pair
  cancel_bind_law = record {
    fine = λ e.
        let k = clear (cancel_bind x).grounds refl e in
        let u = not_true _ (and_l _ _ (and_l _ _ (and_l _ _ k.1.1.1.1.0))) in
        let m = meant_port_fact (λ z. clash (eq-eqb (meant x).port 0 z) u) in
        port_law r 2 _ _ (λ _ _ _ _ _. rw (← m) (calm refl refl refl refl)) (pod_same r (meant x).port _ (ap has_pod m));
  }

  pub carrier_notification_law : Fine s i 3 (carrier_notification x)
  carrier_notification_law = record {
    fine = λ e. record {
      steady = λ n. absurd (n refl);
      turns = turns_shut (λ z. clash z refl) refl refl;
      berth = away_berth refl refl;
      pod = pod_none r;
    };
  }

  pub cancel_carrier_notification_law : Fine s i 4 (cancel_carrier_notification x)
  cancel_carrier_notification_law = record { fine = λ e. port_law r 4 _ _ (λ n. absurd (n refl)) (pod_none r) }

  -- ── 9 to 15, 24 to 26: a port changes ──
  pub change_access_law : Fine s i 9 (change_access x)
  change_access_law = record { fine = λ e. at_port_fact r 9 (calm refl refl refl refl) (pod_here r _ refl) }

  pub change_service_status_law : Fine s i 10 (change_service_status x)
  change_service_status_law = record {
    fine = λ e.
        let k = clear (change_service_status x).grounds refl e in
        at_port_fact r 10 (go (goes_out x) (comes_in x) refl k.1.1.1.0) (pod_here r _ refl);
  }
    where
      go : (v w : Bool) → comes_in x ≡ w → (v && not (ready_to_load x.here)) ≡ false
          → Steady x.here (with_transfer (cond v 0 (cond w 1 x.here.transfer)) x.here)
      go true w q n = takes_in refl refl (ready_inward r (not_false _ n))
      go false true q n = let t = eqb-true x.here.transfer 0 (and_l _ _ q) in takes_in refl refl (low_inward r (omega arith))
      go false false q n = calm refl refl refl refl

  pub reserve_at_port_law : Fine s i 11 (reserve_at_port x)
  reserve_at_port_law = record { fine = λ e. at_port_fact r 11 (calm refl refl refl refl) (pod_here r _ refl) }

  pub cancel_reservation_at_port_law : Fine s i 12 (cancel_reservation_at_port x)
  cancel_reservation_at_port_law = record { fine = λ e. at_port_fact r 12 (calm refl refl refl refl) (pod_here r _ refl) }

  pub load_start_law : Fine s i 13 (load_start x)
  load_start_law = record {
    fine = λ e.
        let k = clear (load_start x).grounds refl e in
        at_port_fact r 13 (takes_in refl refl (ready_inward r k.1.0)) (pod_here r _ refl);
  }

  pub load_done_law : Fine s i 14 (load_done x)
  load_done_law = record {
    fine = λ e.
        let k = clear (load_done x).grounds refl e in
        let l = eqb-true x.here.movement 1 k.1.0 in
        at_port_fact r 14 (record {
          marked = λ z. absurd ((here_fits s i (facts_of r)).load l (eqb-true _ 1 z.0));
          out = λ z. clash z (load_inward r l);
        }) (pod_moves r 14 true _ (λ w. refl) (λ w. refl) refl k.0);
  }

  pub load_fail_law : Fine s i 15 (load_fail x)
  load_fail_law = record {
    fine = λ e.
        let k = clear (load_fail x).grounds refl e in
        at_port_fact r 15 (takes_in refl refl (load_inward r (eqb-true x.here.movement 1 k.1.0))) (pod_here r _ refl);
  }

  pub unload_start_law : Fine s i 24 (unload_start x)
  unload_start_law = record { fine = λ e. at_port_fact r 24 (gives_out refl refl refl) (pod_here r _ refl) }

  pub unload_done_law : Fine s i 25 (unload_done x)
  unload_done_law = record {
    fine = λ e.
        let k = clear (unload_done x).grounds refl e in
        port_law r 25 _ _ (λ _ j b n z. absurd (only_held s i (facts_of r) (given_range s i (facts_of r) k.0).0 j b n z))
        (pod_moves r 25 false _ (λ w. refl) (λ w. refl) refl k.0);
  }

  pub unload_fail_law : Fine s i 26 (unload_fail x)
  unload_fail_law = record { fine = λ e. at_port_fact r 26 (gives_out refl refl refl) (pod_here r _ refl) }
