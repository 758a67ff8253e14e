-- What users take for granted holds of every run from every valid set-up.
use Prim.Native.Nat.{ℕ, zero, suc, ◌≤◌, ◌<◌}
use native.Mathlib.Omega.{arith}
use native.Mathlib.Decide.{ℕ_discrete}
use mathlib.Core.Path.{◌≡◌, refl, ap, ◌∙◌}
use mathlib.Core.Logic.{◌≢◌, ◌⊎◌, inl, inr}
use mathlib.Core.Bool.{Bool, true, false, not, cond, ◌&&◌, ◌||◌}
use mathlib.Core.List.{List, [], ◌∷◌}
use lib.ListN.{length, get_or, replicate, get_or-eq_default}
use lib.Dec.{eqb}
use borrow.Author.Tests.{eq-eqb}
use Rattle.lists.specs.Lists.{every_two, any}
use Rattle.lists.proofs.Bools.{clash, and_i, or_l, or_r}
use Rattle.lists.proofs.Tests.{any_here}
use Rattle.lists.proofs.Positions.{AtEach}
use Rattle.records.specs.declared.name.Name.{Name}
use Rattle.records.specs.declared.port.Port.{Port}
use Rattle.records.specs.declared.carrier.Carrier.{Carrier}
use Rattle.records.specs.Ports.{no_port, new_port, has_pod, idle, blocked}
use Rattle.records.specs.Carriers.{no_carrier, in_buffer, slot_waits, slot_ok, slot_failed}
use Rattle.rules.specs.declared.row.Effect.{Effect}
use Rattle.rules.specs.State.{State, start, spot_of, port_of, record_of}
use Rattle.rules.specs.Sound.{sound}
use Rattle.rules.specs.Seen.{Input, is_named}
use Rattle.rules.specs.Row.{enact}
use Rattle.rules.specs.Outcome.{row_in, answer_in, state_after}
use Rattle.rules.specs.History.{Event, reached, events, is_live, history, done, was_mapped, released}
use Rattle.rules.specs.Pods.{brings_pod, takes_pod, done_at, pod_brought}
use Rattle.rules.specs.Promise.{Live}
use Rattle.rules.specs.Granted.{stands_still, Granted}
use Rattle.rules.proofs.Names.{name_same}
use Rattle.rules.proofs.Apt.{Apt, apt}
use Rattle.rules.proofs.SoundParts.{Facts, facts}
use Rattle.rules.proofs.SoundRuns.{sound_run, places_reached}
use Rattle.rules.proofs.Keep.{Follows}
use Rattle.rules.proofs.Backed.{Backed}
use Rattle.rules.proofs.Earned.{accepted_judge, each_told}
use Rattle.rules.proofs.Lawful.{AllKept, pod_after, Lawful, none_lid, away_berth, two_open, each_after, port_then_fact, kept_after}
use Rattle.rules.proofs.LawfulRows.{lawful}

-- ── One input ──
module _ (s : State) (i : Input) (h : sound s ≡ true) (all : AllKept s) where
  abbrev e : Effect
  e = (row_in s i).effect

  module _ (a : eqb (answer_in s i) 0 ≡ true) where
    fits : Apt s e
    fits = apt s i h i.number (accepted_judge s i a)

    law : Lawful s i i.number e
    law = lawful (record { sounds = h; accepted = a; kept = all }) i.number (accepted_judge s i a)

  kept_input : AllKept (state_after s i)
  unfolding state_after
  kept_input = go (eqb (answer_in s i) 0) refl
    where
      go : (w : Bool) → eqb (answer_in s i) 0 ≡ w → AllKept (cond w (enact e s) s)
      go true a = kept_after s (facts s h) e (fits a) i i.number all (law a)
      go false a = all

  pod_input : (p : ℕ)
      → has_pod (port_of (state_after s i) p) ≡ pod_after i.number (eqb (answer_in s i) 0) (eqb i.port p) (has_pod (port_of s p))
  unfolding state_after
  pod_input p = go (eqb (answer_in s i) 0) refl
    where
      none : (u : Bool) → (u && false && eqb i.port p) ≡ false
      none true = refl
      none false = refl

      go : (w : Bool) → eqb (answer_in s i) 0 ≡ w
          → has_pod (port_of (cond w (enact e s) s) p) ≡ pod_after i.number w (eqb i.port p) (has_pod (port_of s p))
      go true a = ap has_pod (port_then_fact s (facts s h) e (fits a) p) ∙ rw a at ((law a).pod p)
      go false a = rw (none (brings_pod i.number), none (takes_pod i.number))

-- ── Runs ──
no_pods : (n k : ℕ) → has_pod (get_or (replicate n new_port) k no_port) ≡ false
no_pods zero k = refl
no_pods (suc n) zero = refl
no_pods (suc n) (suc k) = no_pods n k

-- a released map was reported
either : (d w v : Bool) → ((d && w) || v) ≡ true → (v ≡ true → w ≡ true) → w ≡ true
either d true v r f = refl
either true false v r f = f r
either false false v r f = f r

released_mapped : (n : Name) (h : List Event) → released n h ≡ true → was_mapped n h ≡ true
unfolding released was_mapped any
released_mapped n [] r = r
released_mapped n (e ∷ h) r = or_r (done 20 n e) (either (done 5 n e) (was_mapped n h) (released n h) r (released_mapped n h))

module _ (P B : ℕ) (sounds : (run : List Input) → sound (reached (start P B) run) ≡ true) where
  abbrev at : List Input → State
  at run = reached (start P B) run

  all_kept : (run : List Input) → AllKept (at run)
  unfolding reached record_of every_two
  all_kept [] = record { each = λ k. record { lid = none_lid B; berth = away_berth refl refl }; two = λ _. refl }
  all_kept (i ∷ earlier) = kept_input (at earlier) i (sounds earlier) (all_kept earlier)

  pods : (run : List Input) (p : ℕ) → has_pod (port_of (at run) p) ≡ pod_brought p (events (start P B) run)
  unfolding reached port_of events pod_brought done_at
  pods [] p = no_pods P (spot_of p)
  pods (i ∷ earlier) p =
      pod_input (at earlier) i (sounds earlier) (all_kept earlier) p
      ∙ ap (pod_after i.number (eqb (answer_in (at earlier) i) 0) (eqb i.port p)) (pods earlier p)

  told : (run : List Input) → AtEach (λ c. Backed (history c.name (events (start P B) run)) c) no_carrier (at run).carriers
  told = each_told (start P B) refl sounds

  -- ── A slot map that failed was reported ──
  abbrev Mapped : List Input → Carrier → Type 0
  Mapped run c = slot_failed c ≡ true → was_mapped c.name (history c.name (events (start P B) run)) ≡ true

  module _ (earlier : List Input) (i : Input) where
    abbrev s : State
    s = at earlier

    abbrev then : Effect
    then = (row_in s i).effect

    abbrev was : ℕ → Carrier
    was j = get_or s.carriers j no_carrier

    still_mapped : (j : ℕ) → j < length s.carriers → was_mapped (was j).name (history (was j).name (events (start P B) earlier)) ≡ true
        → was_mapped (was j).name (history (was j).name (events (start P B) (i ∷ earlier))) ≡ true
    unfolding events history was_mapped any is_live
    still_mapped j b m =
        rw (any_here (is_named (was j).name) s.carriers j no_carrier b (name_same _ _ refl))
        (or_r (done 20 (was j).name (record { before = s; input = i; answer = answer_in s i })) m)

    mapped_input : AtEach (Mapped earlier) no_carrier s.carriers → AtEach (Mapped (i ∷ earlier)) no_carrier (state_after s i).carriers
    unfolding state_after record_of
    mapped_input m = go (eqb (answer_in s i) 0) refl
      where
        -- a map fails where one waits, and none waits of a new record
        by : Apt s then → Follows s then → (slot_failed (was then.changes) ≡ true) ⊎ (slot_waits (was then.changes) ≡ true)
            → was_mapped then.next.name (history then.next.name (events (start P B) (i ∷ earlier))) ≡ true
        by p (inl n) z = none (rw (get_or-eq_default s.carriers no_carrier (p.lone n)) at z)
          where
            none : {X : Type 0} → (slot_failed no_carrier ≡ true) ⊎ (slot_waits no_carrier ≡ true) → X
            none (inl z) = clash z refl
            none (inr z) = clash z refl
        by p (inr b) (inl z) = rw (p.named b) (still_mapped then.changes b (m then.changes b z))
        by p (inr b) (inr z) = rw (p.named b) (still_mapped then.changes b ((told earlier then.changes b).waits z))

        go : (w : Bool) → eqb (answer_in s i) 0 ≡ w → AtEach (Mapped (i ∷ earlier)) no_carrier (cond w (enact then s) s).carriers
        go true a =
            let k = all_kept earlier in
            let t = (law s i (sounds earlier) k a).turns in
            each_after s then (Mapped (i ∷ earlier)) (λ j u z. still_mapped j u.live (m j u.live z))
            (λ n z. by (fits s i (sounds earlier) k a) n (t.fails z))
        go false a = λ j b z. still_mapped j b (m j b z)

  failed_mapped : (run : List Input) → AtEach (Mapped run) no_carrier (at run).carriers
  unfolding reached
  failed_mapped [] = λ j b. absurd (omega arith)
  failed_mapped (i ∷ earlier) = mapped_input earlier i (failed_mapped earlier)

  -- whatever its slot status says, but NOT READ
  slot_mapped_fact : (run : List Input) (k : ℕ) → Live (at run) k → (u : Bool) → slot_waits (record_of (at run) k) ≡ u
      → (w : Bool) → slot_ok (record_of (at run) k) ≡ w → ((u || w) || slot_failed (record_of (at run) k)) ≡ true
      → was_mapped (record_of (at run) k).name (history (record_of (at run) k).name (events (start P B) run)) ≡ true
  unfolding record_of
  slot_mapped_fact run k l true p w q z = (told run k l).waits p
  slot_mapped_fact run k l false p true q z = released_mapped _ _ ((told run k l).ok_slot q)
  slot_mapped_fact run k l false p false q z = failed_mapped run k l z

-- ── What is granted ──
pub granted : (P B : ℕ) → 1 ≤ P → P ≤ 4 → B ≤ 16 → (past : List Input) → Granted P B past
unfolding record_of
granted P B a b c past = record {
  one_open = λ l. two_open s kept (rw (places_reached (start P B) past) l);
  coherent = λ k l.
      let v = kept.each k in
      let t = told P B sounds past k l in
      let n : s.places ≡ B = places_reached (start P B) past in
      let r = (f.records k l).stands in
      let o = f.shown k l in
      record {
        open_id_ok = v.lid.ok_id;
        open_not_cancelled = t.open_ok;
        access_open = v.lid.access;
        open_stands = λ z. stands (port_of s (record_of s k).port) (record_of s k) (ℕ_discrete _ 2) (o (opened _ _ v.lid.access z));
        open_in_buffer = λ z m. inside (record_of s k) (ℕ_discrete _ 2) (λ y. let q = v.lid.bare z (eq-eqb _ 1 (o z y).0) in omega arith);
        open_at_port = λ z m. eq-eqb _ 1 (o z (λ y. let q = r.in_spot y in omega arith)).0;
        slot_mapped = slot_mapped_fact P B sounds past k l _ refl _ refl;
        out_at_port = λ z. and_i (v.berth.out z).0 (v.berth.out z).1;
        pod_there = λ z. let m = v.berth.marked z in and_i m.0 (ap not m.1);
      };
  pod_at_port = pods P B sounds past;
}
  where
    sounds : (run : List Input) → sound (reached (start P B) run) ≡ true
    sounds = sound_run P B a b c

    s : State
    s = reached (start P B) past

    f : Facts s
    f = facts s (sounds past)

    kept : AllKept s
    kept = all_kept P B sounds past

    opened : (u w : Bool) → (w ≡ true → u ≡ true) → (u || w) ≡ true → u ≡ true
    opened true w g z = refl
    opened false w g z = g z

    inside : (d : Carrier) → Dec (d.place ≡ 2) → (d.place ≢ 2 → ⊥) → in_buffer d ≡ true
    inside d (yes e) n = eq-eqb _ 2 e
    inside d (no e) n = absurd (n e)

    stands : (q : Port) (d : Carrier) → Dec (d.place ≡ 2) → (d.place ≢ 2 → (d.place ≡ 1) × (idle q ≡ true) × (blocked q ≡ true))
        → stands_still q d ≡ true
    stands q d (yes e) g = or_l _ (eq-eqb _ 2 e)
    stands q d (no e) g = let r = g e in or_r (in_buffer d) (and_i (and_i (eq-eqb _ 1 r.0) r.1) r.2)
