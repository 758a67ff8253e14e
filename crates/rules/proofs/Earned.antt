-- After every run each live record is backed by its history, so that an open carrier and one in the buffer was verified, an open one never
-- cancelled, and one in access released.
use Prim.Native.Nat.{ℕ, ◌<◌}
use native.Mathlib.Omega.{arith}
use mathlib.Core.Path.{◌≡◌, refl, ap, sym, subst, ◌∙◌}
use mathlib.Core.Bool.{Bool, true, false, cond, ◌&&◌}
use mathlib.Core.List.{List, [], ◌∷◌}
use lib.ListN.{length, get_or, set}
use lib.Dec.{eqb}
use borrow.Author.Tests.{eqb-true}
use Rattle.lists.specs.Lists.{without}
use Rattle.lists.proofs.Tests.{any_here, any_not}
use Rattle.lists.proofs.Positions.{AtEach, each_set, each_without, each_with_new}
use Rattle.records.specs.declared.name.Name.{Name}
use Rattle.records.specs.declared.carrier.Carrier.{Carrier}
use Rattle.records.specs.Names.{in_bytes, same_name}
use Rattle.records.specs.Carriers.{no_carrier}
use Rattle.rules.specs.declared.row.Effect.{Effect}
use Rattle.rules.specs.State.{State, start, record_of}
use Rattle.rules.specs.Sound.{sound}
use Rattle.rules.specs.Seen.{Input, is_named, see}
use Rattle.rules.specs.Row.{judge, enact}
use Rattle.rules.specs.Outcome.{row_in, answer_in, state_after}
use Rattle.rules.specs.History.{Event, reached, events, is_live, history}
use Rattle.rules.specs.Promise.{Live, Earned}
use Rattle.rules.proofs.Names.{name_same}
use Rattle.rules.proofs.Lowest.{row_first_is_lowest}
use Rattle.rules.proofs.Apt.{apt}
use Rattle.rules.proofs.Backed.{Backed, Traces, Born, does, untouched, backed_after, backed_new}
use Rattle.rules.proofs.Traces.{trail}

-- an accepted input meets none of its row's grounds
pub accepted_judge : (s : State) (i : Input) → eqb (answer_in s i) 0 ≡ true → judge (row_in s i).grounds ≡ 0
unfolding answer_in
accepted_judge s i a = row_first_is_lowest i.number (see s i) ∙ eqb-true _ 0 a

-- a refused input does nothing
refused_does : (w : Bool) {b : Bool} (c : Bool) → b ≡ false → (w && b && c) ≡ false
refused_does true c e = rw e
refused_does false c e = refl

module _ (s₀ : State) (none : s₀.carriers ≡ []) (sound_reached : (run : List Input) → sound (reached s₀ run) ≡ true) where
  -- a record is backed by its history
  abbrev Told : List Input → Carrier → Type 0
  Told run c = Backed (history c.name (events s₀ run)) c

  module _ (earlier : List Input) (i : Input) where
    abbrev s : State
    s = reached s₀ earlier

    abbrev e : Effect
    e = (row_in s i).effect

    abbrev event : Event
    event = record { before = s; input = i; answer = answer_in s i }

    longer : (m n : Name) → m ≡ n → is_live s n ≡ true
        → history m (events s₀ (i ∷ earlier)) ≡ event ∷ history n (events s₀ earlier)
    unfolding events history
    longer m n q l = subst (λ (x : Name). history x (events s₀ (i ∷ earlier)) ≡ event ∷ history n (events s₀ earlier)) (sym q) (rw l)

    told_old : (c after : Carrier) → is_live s c.name ≡ true → after.name ≡ c.name → Told earlier c → Traces s i i.number c after
        → Told (i ∷ earlier) after
    told_old c after l q b t =
        subst (λ h. Backed h after) (sym (longer after.name c.name q l))
        (backed_after s i (history c.name (events s₀ earlier)) c after q b t)

    told_new : (c : Carrier) → is_live s c.name ≡ false → Born s i i.number c → Told (i ∷ earlier) c
    unfolding events history
    told_new c l b = rw l (backed_new s i c b)

    live_at : (j : ℕ) → j < length s.carriers → is_live s (get_or s.carriers j no_carrier).name ≡ true
    unfolding is_live
    live_at j b = any_here (is_named (get_or s.carriers j no_carrier).name) s.carriers j no_carrier b (name_same _ _ refl)

    abbrev changed : List Carrier
    changed = set s.carriers e.changes e.next

    abbrev was : ℕ → Carrier
    was j = get_or s.carriers j no_carrier

    abbrev now : Carrier → Type 0
    now = Told (i ∷ earlier)

    as_it_was : (j : ℕ) → j < length s.carriers → AtEach (Told earlier) no_carrier s.carriers
        → does s i i.number 6 (was j).name ≡ false → now (was j)
    as_it_was j r b d = told_old (was j) (was j) (live_at j r) refl (b j r) (untouched s i i.number (was j) d)

    -- what one input makes of the records
    told_after : AtEach (Told earlier) no_carrier s.carriers → AtEach (Told (i ∷ earlier)) no_carrier (state_after s i).carriers
    unfolding state_after enact is_live
    told_after b = go (eqb (answer_in s i) 0) refl
      where
        go : (w : Bool) → eqb (answer_in s i) 0 ≡ w → AtEach (Told (i ∷ earlier)) no_carrier (cond w (enact e s) s).carriers
        go true a =
            let h = sound_reached earlier in
            let z = accepted_judge s i a in
            let t = trail s i h a i.number z in
            let p = apt s i h i.number z in
            each_with_new now no_carrier e.made (without e.goes changed) e.next (each_without now no_carrier changed e.goes
            (each_set now no_carrier s.carriers e.changes e.next (λ j r n. as_it_was j r b (t.others j r n))
            (λ r. told_old (was e.changes) e.next (live_at e.changes r) (p.named r) (b e.changes r) (t.follows r))))
            (λ m. told_new e.next (any_not (is_named e.next.name) s.carriers no_carrier (p.fresh m)) (t.born m))
        go false a = λ j r. as_it_was j r b (refused_does (eqb i.number 6) (same_name (in_bytes i.name) (was j).name) a)

  pub each_told : (run : List Input) → AtEach (Told run) no_carrier (reached s₀ run).carriers
  unfolding reached
  each_told [] = λ j b. absurd (let l = ap length none in omega arith)
  each_told (i ∷ earlier) = told_after earlier i (each_told earlier)

-- What the promise asks.
pub earned : (P B : ℕ) → ((run : List Input) → sound (reached (start P B) run) ≡ true) → (run : List Input) (k : ℕ)
    → Live (reached (start P B) run) k
    → Earned (history (record_of (reached (start P B) run) k).name (events (start P B) run)) (record_of (reached (start P B) run) k)
unfolding record_of
earned P B sound_reached run k l =
    let b = each_told (start P B) refl sound_reached run k l in
    record {
      open_verified = b.opens;
      buffer_verified = b.boxed;
      open_not_cancelled = λ x. b.uncancelled (b.open_ok x);
      access_released = b.accessed;
    }
