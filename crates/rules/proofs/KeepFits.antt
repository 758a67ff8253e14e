-- Ports and records stay in their bounds where fields are set within theirs.
use Prim.Native.Nat.{ℕ, ◌≤◌}
use native.Mathlib.Omega.{arith}
use mathlib.Core.Path.{◌≡◌, refl}
use mathlib.Core.Logic.{◌≢◌}
use mathlib.Core.Bool.{Bool, true, ◌||◌}
use mathlib.Core.List.{List}
use borrow.Author.Tests.{eqb-true}
use Rattle.lists.specs.Lists.{every}
use Rattle.records.specs.declared.port.Port.{Port}
use Rattle.records.specs.declared.name.Name.{Name}
use Rattle.records.specs.declared.carrier.Carrier.{Carrier}
use Rattle.records.specs.Names.{no_name, same_name, holds_name}
use Rattle.records.specs.Maps.{is_code}
use Rattle.records.specs.Fields.{with_transfer, with_access, with_reserved, tied_to, with_movement, with_pod, with_tag}
use Rattle.records.specs.Fields.{with_place, with_spot, with_port, with_opened, with_cancelled, with_came_out}
use Rattle.records.specs.Fields.{with_codes, with_id, with_slot, with_accessing}
use Rattle.records.specs.Ports.{emptied}
use Rattle.rules.proofs.Names.{name_same}
use Rattle.rules.proofs.SoundParts.{PortFits, Stands, Fits}
use Rattle.rules.proofs.Keep.{Calm}

-- ── Ports ──
-- a tie to nothing is in range
pub no_tie : (b : Bool) → (same_name no_name no_name || b) ≡ true
no_tie b = rw (name_same no_name no_name refl)

-- access, reservation, tie and tag, which no other field depends on
pub marked_fits : (q : Port) → PortFits q → {a r g : ℕ} {n : Name} → a ≤ 1 → r ≤ 1 → (same_name n no_name || holds_name n) ≡ true → g ≤ 2
    → PortFits (with_access a (with_reserved r (tied_to n (with_tag g q))))
marked_fits q h a r n g = record {
  transfer = h.transfer;
  access = a;
  reserved = r;
  tie = n;
  movement = h.movement;
  pod = h.pod;
  tag = g;
  moving = h.moving;
  low = h.low;
  load = h.load;
}

-- transfer, movement and pod, which depend on each other
pub moved_fits : (q : Port) → PortFits q → {t m p : ℕ} → t ≤ 3 → m ≤ 2 → p ≤ 1
    → (m ≢ 0 → t ≡ 3) → (t ≤ 1 → p ≢ 1) → (m ≡ 1 → p ≢ 1) → PortFits (with_transfer t (with_movement m (with_pod p q)))
moved_fits q h t m p moving low load = record {
  transfer = t;
  access = h.access;
  reserved = h.reserved;
  tie = h.tie;
  movement = m;
  pod = p;
  tag = h.tag;
  moving = moving;
  low = low;
  load = load;
}

pub emptied_fits : (q : Port) → PortFits q → PortFits (emptied q)
emptied_fits q h =
    marked_fits _
    (moved_fits q h (omega arith) (omega arith) (omega arith) (λ n. absurd (n refl)) (λ _ z. omega arith) (λ _ z. omega arith))
    h.access h.reserved (no_tie _) (omega arith)

-- what moves, or isn't BLOCKED, has no carrier that could be open
pub moving_calm : {q r : Port} → r.tie ≡ q.tie → q.movement ≢ 0 → Calm q r
moving_calm e n = record { tie = e; quiet = λ a b. absurd (n (eqb-true _ 0 a)) }

pub unblocked_calm : {q r : Port} → r.tie ≡ q.tie → q.transfer ≢ 3 → Calm q r
unblocked_calm e n = record { tie = e; quiet = λ a b. absurd (n (eqb-true _ 3 b)) }

-- ── Records ──
module _ {P B : ℕ} {c : Carrier} (h : Fits P B c) where
  pub stands_fits : {l v p : ℕ} → Stands P B l v p → Fits P B (with_place l (with_spot v (with_port p c)))
  stands_fits s = record {
    named = h.named;
    stands = s;
    opened = h.opened;
    cancelled = h.cancelled;
    cameout = h.cameout;
    map = h.map;
    id = h.id;
    slot = h.slot;
    accessing = h.accessing;
  }

  pub flags_fit : {o x m : ℕ} → o ≤ 1 → x ≤ 1 → m ≤ 1 → Fits P B (with_opened o (with_cancelled x (with_came_out m c)))
  flags_fit o x m = record {
    named = h.named;
    stands = h.stands;
    opened = o;
    cancelled = x;
    cameout = m;
    map = h.map;
    id = h.id;
    slot = h.slot;
    accessing = h.accessing;
  }

  pub states_fit : {k : List ℕ} {i t a : ℕ} → every is_code k ≡ true → (1 ≤ i) × (i ≤ 4) → (1 ≤ t) × (t ≤ 4) → (1 ≤ a) × (a ≤ 4)
      → Fits P B (with_codes k (with_id i (with_slot t (with_accessing a c))))
  states_fit k i t a = record {
    named = h.named;
    stands = h.stands;
    opened = h.opened;
    cancelled = h.cancelled;
    cameout = h.cameout;
    map = k;
    id = i;
    slot = t;
    accessing = a;
  }
