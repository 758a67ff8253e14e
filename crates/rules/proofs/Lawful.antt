-- What is kept of each record, at its port, and what an effect has to show for it.
use Prim.Native.Nat.{ℕ, zero, suc, ◌≤◌, ◌<◌, suc-le-suc}
use native.Mathlib.Nat.{le_of_suc-le-suc}
use native.Mathlib.Omega.{arith}
use native.Mathlib.Decide.{ℕ_discrete}
use mathlib.Core.Path.{◌≡◌, refl, ap, sym, ◌∙◌}
use mathlib.Core.Logic.{◌≢◌, ◌⊎◌, inl, inr}
use mathlib.Core.Bool.{Bool, true, false, cond, not, ◌&&◌, ◌||◌}
use mathlib.Core.List.{List, [], ◌∷◌}
use lib.ListN.{length, get_or, set, length-set, get_or-eq_default}
use lib.Seq.{get_or-set_same, get_or-set_other}
use lib.Dec.{eqb, ltb}
use borrow.Author.Tests.{eqb-true, eqb-false, ltb-true, ltb-false}
use Rattle.lists.specs.Lists.{every_two, without}
use Rattle.lists.proofs.Bools.{clash, and_comm}
use Rattle.lists.proofs.Tests.{two_at}
use Rattle.lists.proofs.Positions.{AtEach, each_with_new}
use Rattle.records.specs.declared.port.Port.{Port}
use Rattle.records.specs.declared.carrier.Carrier.{Carrier}
use Rattle.records.specs.Ports.{has_pod, tag_unread}
use Rattle.records.specs.Carriers.{no_carrier, is_open, at_port, came_out, id_ok, slot_waits, slot_failed, in_access}
use Rattle.rules.specs.declared.row.Effect.{Effect}
use Rattle.rules.specs.State.{State, port_of, record_of}
use Rattle.rules.specs.Seen.{Input}
use Rattle.rules.specs.Row.{enact}
use Rattle.rules.specs.Outcome.{answer_in}
use Rattle.rules.specs.Pods.{brings_pod, takes_pod}
use Rattle.rules.specs.Granted.{outbound}
use Rattle.rules.proofs.Apt.{Apt}
use Rattle.rules.proofs.SoundParts.{Facts}
use Rattle.rules.proofs.Keep.{Follows, Stays, port_after, other_port_after, two_after}

-- ── What is kept ──
-- a pod is here, and its tag isn't unread
abbrev pub Marked : Port → Type 0
Marked q = (has_pod q ≡ true) × (tag_unread q ≡ false)

-- a record by itself, of a tool with B buffer places: with a buffer none is open at a port
pub record Lid (B : ℕ) (c : Carrier) : Type 0 where
  pub ok_id : is_open c ≡ true → id_ok c ≡ true
  pub access : in_access c ≡ true → is_open c ≡ true
  pub bare : is_open c ≡ true → at_port c ≡ true → B ≡ 0

-- a record and its port: the tag of a pod whose carrier is there can't be read again, so that no read takes an open one's ID away
pub record Berth (q : Port) (c : Carrier) : Type 0 where
  pub marked : at_port c ≡ true → Marked q
  pub out : came_out c ≡ true → (at_port c ≡ true) × (outbound q ≡ true)

pub record Kept (s : State) (c : Carrier) : Type 0 where
  pub lid : Lid s.places c
  pub berth : Berth (port_of s c.port) c

-- two records aren't both open
abbrev pub one_shut : Carrier → Carrier → Bool
one_shut a b = not (is_open a && is_open b)

-- where there is no record there is nothing open
pub record AllKept (s : State) : Type 0 where
  pub each : (k : ℕ) → Kept s (record_of s k)
  pub two : 1 ≤ s.places → every_two one_shut s.carriers ≡ true

-- ── What an effect has to show ──
-- port p after it
abbrev pub port_then : State → Effect → ℕ → Port
port_then s e p = cond (eqb p e.port) e.becomes (port_of s p)

-- a port that a record may stay at: it is as marked and as outbound as it was
pub record Steady (q r : Port) : Type 0 where
  pub marked : Marked q → Marked r
  pub out : outbound q ≡ true → outbound r ≡ true

-- what is made of a record: it is open only if it was, or if no other is; its slot map fails only where it waits
pub record Turns (s : State) (c after : Carrier) : Type 0 where
  pub lid : Lid s.places after
  pub opens : is_open after ≡ true → (is_open c ≡ true) ⊎ (1 ≤ s.places → (j : ℕ) → is_open (record_of s j) ≡ false)
  pub fails : slot_failed after ≡ true → (slot_failed c ≡ true) ⊎ (slot_waits c ≡ true)

-- whether a pod is at a port, after an input of number n that was accepted or not, at this port or another
abbrev pub pod_after : ℕ → Bool → Bool → Bool → Bool
pod_after n a b w = (brings_pod n && a && b) || (not (takes_pod n && a && b) && w)

pub record Lawful (s : State) (i : Input) (n : ℕ) (e : Effect) : Type 0 where
  -- a record that stays at the port finds it steady
  pub steady : e.port ≢ 0 → (j : ℕ) → Stays s e j → (record_of s j).port ≡ e.port → Steady (port_of s e.port) e.becomes
  -- the record that follows, by itself and at its port
  pub turns : Turns s (record_of s e.changes) e.next
  pub berth : Berth (port_then s e e.next.port) e.next
  pub pod : (p : ℕ) → has_pod (port_then s e p) ≡ pod_after n (eqb (answer_in s i) 0) (eqb i.port p) (has_pod (port_of s p))

-- ── After an effect ──
pub none_lid : (B : ℕ) → Lid B no_carrier
none_lid B = record { ok_id = λ z. clash z refl; access = λ z. clash z refl; bare = λ z. clash z refl }

pub away_berth : {q : Port} {c : Carrier} → at_port c ≡ false → came_out c ≡ false → Berth q c
away_berth a b = record { marked = λ z. clash z a; out = λ z. clash z b }

-- what goes needn't have what each of the others has
each_gone : (P : Carrier → Type 0) (l : List Carrier) (g : ℕ) → ((j : ℕ) → j < length l → j ≢ g → P (get_or l j no_carrier))
    → AtEach P no_carrier (without g l)
unfolding without
each_gone P [] g h j b = absurd (omega arith)
each_gone P (x ∷ l) zero h j b = h (suc j) (suc-le-suc b) (λ e. omega arith)
each_gone P (x ∷ l) (suc g) h zero b = h 0 (omega arith) (λ e. omega arith)
each_gone P (x ∷ l) (suc g) h (suc j) b =
    each_gone P l g (λ k i n. h (suc k) (suc-le-suc i) (λ e. n (omega arith))) j (le_of_suc-le-suc b)

-- of two tests that don't both hold
not_both : (a b : Bool) → (a ≡ true → b ≡ false) → not (a && b) ≡ true
not_both true b f = rw (f refl)
not_both false b f = refl

other_shut : (a b : Bool) → not (a && b) ≡ true → a ≡ true → b ≡ false
other_shut true true e p = sym e
other_shut true false e p = refl
other_shut false b e p = clash p refl

turn_shut : (a b : Carrier) → one_shut a b ≡ true → one_shut b a ≡ true
turn_shut a b e = rw (and_comm (is_open b) (is_open a)) e

-- a test that can't hold fails
pub shut_by : {b : Bool} → (b ≡ true → ⊥) → b ≡ false
shut_by {b} n = go b refl
  where
    go : (w : Bool) → b ≡ w → w ≡ false
    go true e = absurd (n e)
    go false e = refl

-- with a buffer, two open records are one
pub two_open : (s : State) → AllKept s → 1 ≤ s.places → (j k : ℕ) → j < length s.carriers → k < length s.carriers
    → is_open (record_of s j) ≡ true → is_open (record_of s k) ≡ true → j ≡ k
unfolding record_of
two_open s all l j k a b o p = go (ltb j k) refl (ltb k j) refl
  where
    apart : (j k : ℕ) → j < k → k < length s.carriers → is_open (record_of s j) ≡ true → is_open (record_of s k) ≡ true → ⊥
    apart j k d b o p = clash p (other_shut _ _ (two_at one_shut s.carriers no_carrier (all.two l) j k d b) o)

    go : (v : Bool) → ltb j k ≡ v → (w : Bool) → ltb k j ≡ w → j ≡ k
    go true q w r = absurd (apart j k (ltb-true j k q) b o p)
    go false q true r = absurd (apart k j (ltb-true k j r) a p o)
    go false q false r = let u = ltb-false j k q in let v = ltb-false k j r in omega arith

-- what holds of each record after an effect: of those that stay, and of the one that follows
pub each_after : (s : State) (e : Effect) (P : Carrier → Type 0) → ((j : ℕ) → Stays s e j → P (record_of s j))
    → (Follows s e → P e.next) → AtEach P no_carrier (enact e s).carriers
unfolding enact record_of
each_after s e P old new =
    each_with_new P no_carrier e.made _ e.next
    (each_gone P (set s.carriers e.changes e.next) e.goes
    (λ j b n. at j (rw (length-set s.carriers e.changes e.next) at b) n (ℕ_discrete j e.changes)))
    (λ m. new (inl m))
  where
    at : (j : ℕ) → j < length s.carriers → j ≢ e.goes → Dec (j ≡ e.changes)
        → P (get_or (set s.carriers e.changes e.next) j no_carrier)
    at j b n (yes z) = rw (z, get_or-set_same s.carriers e.changes e.next no_carrier (rw z at b)) (new (inr (rw z at b)))
    at j b n (no d) =
        rw (get_or-set_other s.carriers e.changes j e.next no_carrier d) (old j (record { live = b; here = n; same = d }))

module _ (s : State) (f : Facts s) (e : Effect) (a : Apt s e) where
  pub port_then_fact : (p : ℕ) → port_of (enact e s) p ≡ port_then s e p
  port_then_fact p = go (eqb p e.port) refl
    where
      go : (w : Bool) → eqb p e.port ≡ w → port_of (enact e s) p ≡ cond w e.becomes (port_of s p)
      go true q = ap (port_of (enact e s)) (eqb-true p e.port q) ∙ port_after s f e a
      go false q = other_port_after s f e a p (eqb-false p e.port q)

  module _ (i : Input) (n : ℕ) (all : AllKept s) (w : Lawful s i n e) where
    abbrev after : State
    after = enact e s

    follows_kept : Kept after e.next
    unfolding enact
    follows_kept = record { lid = w.turns.lid; berth = rw (port_then_fact e.next.port) w.berth }

    stays_kept : (j : ℕ) → Stays s e j → Kept after (record_of s j)
    unfolding enact
    stays_kept j t = record {
      lid = (all.each j).lid;
      berth = rw (port_then_fact (record_of s j).port) (go (eqb (record_of s j).port e.port) refl);
    }
      where
        b : Berth (port_of s (record_of s j).port) (record_of s j)
        b = (all.each j).berth

        at : (record_of s j).port ≡ e.port → at_port (record_of s j) ≡ true → Steady (port_of s (record_of s j).port) e.becomes
        at q p = let l = (f.records j t.live).stands.at_tied (eqb-true _ 1 p) in rw q (w.steady (λ z. omega arith) j t q)

        go : (v : Bool) → eqb (record_of s j).port e.port ≡ v
            → Berth (cond v e.becomes (port_of s (record_of s j).port)) (record_of s j)
        go true q =
            let z = eqb-true (record_of s j).port e.port q in
            record { marked = λ p. (at z p).marked (b.marked p); out = λ p. let o = b.out p in (o.0, (at z o.0).out o.1) }
        go false q = b

    two_kept : 1 ≤ s.places → every_two one_shut after.carriers ≡ true
    unfolding record_of
    two_kept l =
        two_after s f e a one_shut turn_shut
        (λ j k t u d. not_both _ _ (λ o. shut_by (λ p. d (two_open s all l j k t.live u.live o p))))
        (λ t j u. not_both _ _ (λ o. shut_by (λ p. new t j u o (w.turns.opens p))))
      where
        none : is_open no_carrier ≡ true → ⊥
        none z = clash z refl

        new : Follows s e → (j : ℕ) → Stays s e j → is_open (record_of s j) ≡ true
            → (is_open (record_of s e.changes) ≡ true) ⊎ (1 ≤ s.places → (j : ℕ) → is_open (record_of s j) ≡ false) → ⊥
        new (inl m) j u o (inl p) = none (rw (get_or-eq_default s.carriers no_carrier (a.lone m)) at p)
        new (inr b) j u o (inl p) = u.same (two_open s all l j e.changes u.live b o p)
        new t j u o (inr p) = clash o (p l j)

    pub kept_after : AllKept after
    unfolding record_of enact
    kept_after = record { each = λ k. go k (ltb k (length after.carriers)) refl; two = two_kept }
      where
        go : (k : ℕ) (v : Bool) → ltb k (length after.carriers) ≡ v → Kept after (get_or after.carriers k no_carrier)
        go k true q = each_after s e (Kept after) stays_kept (λ _. follows_kept) k (ltb-true k (length after.carriers) q)
        go k false q =
            rw (get_or-eq_default after.carriers no_carrier (ltb-false k (length after.carriers) q))
            (record { lid = none_lid _; berth = away_berth refl refl })
