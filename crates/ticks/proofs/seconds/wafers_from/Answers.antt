-- The wafers that are copied are those that were sent, and the f64 total of good ones is their ticks.
use Rattle.std.proofs.Common.{◌≡◌, ℕ, ◌/◌, ◌%◌, ◌≤◌, true, ◌&&◌, eqb, leb, List, length, sym, refl, ap, ◌∙◌, subst, arith, leb-true}
use lib.Ieee.{Float}
use Rattle.lists.proofs.Bools.{and_r}
use Rattle.ticks.specs.Times.{Counts, ticks}
use Rattle.ticks.specs.Wafers.{wafers_in, all_timely, total_of, rounded_up, wafers_from}
use Rattle.ticks.specs.declared.seconds.Sent.{Sent}
use Rattle.ticks.specs.declared.wafers.Wafer.{Wafer}
use Rattle.ticks.proofs.Timely.{counted}
use Rattle.ticks.proofs.Enough.{few_ticks, few_wafers, few_seconds, fits_is, said, said_untimely, said_misfit}
use Rattle.ticks.proofs.seconds.wafers_from.Goals as goal

-- at most so many seconds, whatever is said
most : (times : List Float) (s : Sent) → s ≡ wafers_from times → s.seconds ≤ 52428800
most times s e = rw e (few_seconds times)

module _ (times : List Float) (q : (eqb (length times % 2) 0 && leb (length times / 2) 25) ≡ true) where
  few : length times / 2 ≤ 25
  few = leb-true (length times / 2) 25 (and_r (eqb (length times % 2) 0) (leb (length times / 2) 25) q)

  module _ (ws : List Wafer) (e : ws ≡ wafers_in times) (h : all_timely ws ≡ true) (t : Float) (p : Counts t (total_of ws)) where
    timely_sent : all_timely (wafers_in times) ≡ true
    timely_sent = sym (ap all_timely e) ∙ h

    ticks_sent : ticks t ≡ total_of (wafers_in times)
    ticks_sent = counted t (total_of ws) p ∙ ap total_of e

    ready : Counts t (ticks t) × (ticks t ≤ 53687091200)
    ready =
        let b = few_ticks (wafers_in times) (few_wafers times (sym (fits_is times) ∙ q)) timely_sent in
        let z = ticks_sent in
        (subst (Counts t) (sym (counted t (total_of ws) p)) p, omega arith)

    answered : (s : ℕ) → s ≡ rounded_up (ticks t) → record { fits = true; timely = true; seconds = s } ≡ wafers_from times
    answered s k = said times (sym (fits_is times) ∙ q) timely_sent s (k ∙ ap rounded_up ticks_sent)

pub wafers_in-ws-requires : goal.wafers_in-ws-requires
wafers_in-ws-requires c = record { n_value = refl; n_bound = few c.args.times.now c.if-fits.true }

pub all_timely-good-requires : goal.all_timely-good-requires
all_timely-good-requires c = few c.args.times.now c.if-fits.true

pub total-t-requires : goal.total-t-requires
total-t-requires c =
    record { n_bound = few c.args.times.now c.if-fits.true; ws_value = sym c.all_timely-good.ensures ∙ c.if-good.true }

pub rounded_up-s-requires : goal.rounded_up-s-requires
rounded_up-s-requires c =
    let h = sym c.all_timely-good.ensures ∙ c.if-good.true in
    let r = ready c.args.times.now c.if-fits.true _ c.wafers_in-ws.ensures h c.total-t.result c.total-t.ensures.counts in
    record { counts = r.0; t_bound = r.1 }

pub returns-then-good : goal.returns-then-good
returns-then-good c =
    let times = c.args.times.now in
    let h = sym c.all_timely-good.ensures ∙ c.if-good.true in
    let t = c.total-t in
    let r = answered times c.if-fits.true _ c.wafers_in-ws.ensures h t.result t.ensures.counts _ c.rounded_up-s.ensures in
    record { value = r; seconds_bound = most times _ r }

pub returns-else-good : goal.returns-else-good
returns-else-good c =
    let times = c.args.times.now in
    let h = sym (ap all_timely c.wafers_in-ws.ensures) ∙ sym c.all_timely-good.ensures ∙ c.if-good.false in
    record { value = said_untimely times (sym (fits_is times) ∙ c.if-fits.true) h; seconds_bound = omega arith }

pub returns-else-fits : goal.returns-else-fits
returns-else-fits c = let times = c.args.times.now in record { value = said_misfit times (sym (fits_is times) ∙ c.if-fits.false); seconds_bound = omega arith }
