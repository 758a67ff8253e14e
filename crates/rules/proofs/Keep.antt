-- What an effect has to show so that a sound state stays sound: facts of one port and of the record that changes or is made.
use Prim.Native.Nat.{ℕ, zero, suc, ◌≤◌, ◌<◌}
use native.Mathlib.Omega.{arith}
use native.Mathlib.Decide.{ℕ_discrete}
use mathlib.Core.Path.{◌≡◌, refl, ap, sym, ◌∙◌}
use mathlib.Core.Logic.{◌≢◌, ◌⊎◌, inl, inr}
use mathlib.Core.Bool.{Bool, true, false}
use mathlib.Core.List.{List}
use lib.ListN.{length, get_or, set, length-set}
use lib.Seq.{get_or-set_same, get_or-set_other, set_out}
use lib.Dec.{eqb, ltb}
use borrow.Author.Tests.{ltb-true, ltb-false, eq-eqb, ne_eqb, le-leb}
use Rattle.lists.specs.Lists.{every, every_two, any, how_many}
use Rattle.lists.proofs.Tests.{any_other}
use Rattle.lists.proofs.Parts.{every_all, every_gone, every_new, any_earlier, any_new, two_gone, two_new, fewer_gone, fewer_set, room_new}
use Rattle.records.specs.declared.port.Port.{Port}
use Rattle.records.specs.declared.carrier.Carrier.{Carrier}
use Rattle.records.specs.Names.{no_name}
use Rattle.records.specs.Ports.{no_port, idle, blocked}
use Rattle.records.specs.Carriers.{no_carrier, expected}
use Rattle.rules.specs.declared.row.Effect.{Effect}
use Rattle.rules.specs.State.{State, spot_of, port_of, record_of}
use Rattle.rules.specs.Sound.{port_in_range, carrier_in_range, in_range, other_name, tie_kept, port_tie_held, ties_agree}
use Rattle.rules.specs.Sound.{place_agrees, other_spot, few_expected, port_agrees, open_agrees, sound}
use Rattle.rules.specs.Row.{enact}
use Rattle.rules.proofs.Apt.{Apt}
use Rattle.rules.proofs.SoundParts.{PortFits, Fits, Shown, Facts}
use Rattle.rules.proofs.SoundTests.{◌and◌, port_in_range_fact, port_agrees_fact, tie_held_fact, carrier_in_range_fact, place_agrees_fact, open_agrees_fact}
use Rattle.rules.proofs.SoundTests.{tie_kept_fact, other_name_fact, other_spot_fact, other_name_turn, other_spot_turn}

-- ── What an effect has to show ──
-- there is a record that follows: it is new, or another changes into it
abbrev pub Follows : State → Effect → Type 0
Follows s e = (e.made ≡ true) ⊎ (e.changes < length s.carriers)

-- a record that stays as it is
pub record Stays (s : State) (e : Effect) (j : ℕ) : Type 0 where
  pub live : j < length s.carriers
  pub here : j ≢ e.goes
  pub same : j ≢ e.changes

-- a port that keeps its tie, and is idle and BLOCKED if it was
pub record Calm (q r : Port) : Type 0 where
  pub tie : r.tie ≡ q.tie
  pub quiet : idle q ≡ true → blocked q ≡ true → (idle r ≡ true) × (blocked r ≡ true)

pub record Keeps (s : State) (e : Effect) : Type 0 where
  pub port : PortFits e.becomes
  -- a record that stays and is tied to the port finds it calm
  pub calm : (j : ℕ) → Stays s e j → e.port ≢ 0 → (record_of s j).port ≡ e.port → Calm (port_of s e.port) e.becomes
  -- the port's tie is held, by the record that follows or by one that stays
  pub holder : e.port ≢ 0 → e.becomes.tie ≢ no_name
      → (Follows s e × (e.next.port ≡ e.port)) ⊎ ((j : ℕ) × Stays s e j × ((record_of s j).port ≡ e.port))
  -- the record that follows
  pub fits : Follows s e → Fits (length s.ports) s.places e.next
  pub shown : Follows s e → Shown (port_of (enact e s) e.next.port) e.next
  pub kept : Follows s e → e.next.port ≢ 0 → (port_of (enact e s) e.next.port).tie ≡ e.next.name
  pub spot : Follows s e → e.next.spot ≢ 0 → (j : ℕ) → Stays s e j → (record_of s j).spot ≢ e.next.spot
  -- what changes gives up no port but this one, and comes to be expected only where it was
  pub moved : e.changes < length s.carriers → (record_of s e.changes).port ≢ 0 → (record_of s e.changes).port ≢ e.port
      → e.next.port ≡ (record_of s e.changes).port
  pub awaits : e.changes < length s.carriers → expected e.next ≡ true → expected (record_of s e.changes) ≡ true
  -- what goes has no port but this one, and there is room for what is made
  pub gone : e.goes < length s.carriers → (record_of s e.goes).port ≢ 0 → (record_of s e.goes).port ≡ e.port
  pub room : e.made ≡ true → expected e.next ≡ true → how_many expected s.carriers < 16

-- ── The ports after an effect ──
spot_suc : (k : ℕ) → spot_of (suc k) ≡ k
spot_suc k = rw (ne_eqb (suc k) 0 (λ z. omega arith)) (omega arith)

-- two ports that stand in one spot are one, but for spot 4
one_spot : (p q : ℕ) → p ≢ q → spot_of p ≡ spot_of q → 4 ≤ spot_of q
one_spot zero zero n e = absurd (n refl)
one_spot zero (suc q) n e = omega arith
one_spot (suc p) zero n e = omega arith
one_spot (suc p) (suc q) n e = absurd (n (ap suc (sym (spot_suc p) ∙ e ∙ spot_suc q)))

module _ (s : State) (f : Facts s) (e : Effect) (a : Apt s e) where
  pub port_after : port_of (enact e s) e.port ≡ e.becomes
  unfolding enact port_of
  port_after = go (ltb (spot_of e.port) (length s.ports)) refl
    where
      go : (w : Bool) → ltb (spot_of e.port) (length s.ports) ≡ w
          → get_or (set s.ports (spot_of e.port) e.becomes) (spot_of e.port) no_port ≡ e.becomes
      go true q = get_or-set_same s.ports (spot_of e.port) e.becomes no_port (ltb-true _ _ q)
      go false q =
          let b = ltb-false (spot_of e.port) (length s.ports) q in
          rw (set_out s.ports (spot_of e.port) e.becomes b) (sym (a.still b))

  pub other_port_after : (p : ℕ) → p ≢ e.port → port_of (enact e s) p ≡ port_of s p
  unfolding enact port_of
  other_port_after p n = go (ℕ_discrete (spot_of p) (spot_of e.port))
    where
      go : Dec (spot_of p ≡ spot_of e.port)
          → get_or (set s.ports (spot_of e.port) e.becomes) (spot_of p) no_port ≡ get_or s.ports (spot_of p) no_port
      go (no d) = get_or-set_other s.ports (spot_of e.port) (spot_of p) e.becomes no_port d
      go (yes z) =
          let b = one_spot p e.port n z in
          let c = f.few_ports in
          rw (set_out s.ports (spot_of e.port) e.becomes (omega arith))

  -- ── The records after an effect: those that stay, and the one that follows ──
  abbrev changed : List Carrier
  changed = set s.carriers e.changes e.next

  as_many : {j : ℕ} → j < length changed → j < length s.carriers
  as_many b = rw (length-set s.carriers e.changes e.next) at b

  changed_next : e.changes < length s.carriers → get_or changed e.changes no_carrier ≡ e.next
  changed_next = get_or-set_same s.carriers e.changes e.next no_carrier

  changed_other : (j : ℕ) → j ≢ e.changes → get_or changed j no_carrier ≡ record_of s j
  unfolding record_of
  changed_other j = get_or-set_other s.carriers e.changes j e.next no_carrier

  -- a new record changes no other
  new_stays : e.made ≡ true → (j : ℕ) → j < length s.carriers → j ≢ e.goes → Stays s e j
  new_stays m j b n = let c = a.lone m in record { live = b; here = n; same = λ z. omega arith }

  pub every_after : (t : Carrier → Bool) → ((j : ℕ) → Stays s e j → t (record_of s j) ≡ true) → (Follows s e → t e.next ≡ true)
      → every t (enact e s).carriers ≡ true
  unfolding enact
  every_after t old new =
      every_new t e.made _ e.next
      (every_gone t changed e.goes no_carrier (λ j b n. at j (as_many b) n (ℕ_discrete j e.changes)))
      (λ m. new (inl m))
    where
      at : (j : ℕ) → j < length s.carriers → j ≢ e.goes → Dec (j ≡ e.changes) → t (get_or changed j no_carrier) ≡ true
      at j b n (yes z) = rw (z, changed_next (rw z at b)) (new (inr (rw z at b)))
      at j b n (no d) = rw (changed_other j d) (old j (record { live = b; here = n; same = d }))

  pub two_after : (t : Carrier → Carrier → Bool) → ((x y : Carrier) → t x y ≡ true → t y x ≡ true)
      → ((i j : ℕ) → Stays s e i → Stays s e j → i ≢ j → t (record_of s i) (record_of s j) ≡ true)
      → (Follows s e → (j : ℕ) → Stays s e j → t (record_of s j) e.next ≡ true)
      → every_two t (enact e s).carriers ≡ true
  unfolding enact
  two_after t turn old new =
      two_new t e.made _ e.next
      (two_gone t changed e.goes no_carrier
      (λ i j l b m n. at i j l (as_many b) m n (ℕ_discrete i e.changes) (ℕ_discrete j e.changes)))
      (λ m. every_gone (λ y. t y e.next) changed e.goes no_carrier (λ j b n. last m j (new_stays m j (as_many b) n)))
    where
      next : (j : ℕ) → Stays s e j → e.changes < length s.carriers
          → t (get_or changed j no_carrier) (get_or changed e.changes no_carrier) ≡ true
      next j h c = rw (changed_next c, changed_other j h.same) (new (inr c) j h)

      at : (i j : ℕ) → i < j → j < length s.carriers → i ≢ e.goes → j ≢ e.goes → Dec (i ≡ e.changes) → Dec (j ≡ e.changes)
          → t (get_or changed i no_carrier) (get_or changed j no_carrier) ≡ true
      at i j l b m n (yes z) (yes y) = absurd (omega arith)
      at i j l b m n (yes z) (no y) = rw z (turn _ _ (next j (record { live = b; here = n; same = y }) (omega arith)))
      at i j l b m n (no z) (yes y) = rw y (next i (record { live = omega arith; here = m; same = z }) (omega arith))
      at i j l b m n (no z) (no y) =
          rw (changed_other i z, changed_other j y)
          (old i j (record { live = omega arith; here = m; same = z }) (record { live = b; here = n; same = y }) (λ q. omega arith))

      last : e.made ≡ true → (j : ℕ) → Stays s e j → t (get_or changed j no_carrier) e.next ≡ true
      last m j h = rw (changed_other j h.same) (new (inl m) j h)

  -- some record: one that stays, or the one that follows
  any_stays : (t : Carrier → Bool) (j : ℕ) → Stays s e j → t (record_of s j) ≡ true → any t (enact e s).carriers ≡ true
  unfolding enact
  any_stays t j h q =
      any_earlier t e.made _ e.next
      (any_other t changed e.goes j no_carrier (rw length-set h.live) h.here (rw (changed_other j h.same) q))

  any_follows : (t : Carrier → Bool) → Follows s e → t e.next ≡ true → any t (enact e s).carriers ≡ true
  unfolding enact
  any_follows t (inl m) q = any_new t e.made _ e.next m q
  any_follows t (inr b) q =
      any_earlier t e.made _ e.next
      (any_other t changed e.goes e.changes no_carrier (rw length-set b) (a.apart b) (rw (changed_next b) q))

  -- ── Clause by clause, where an effect shows what it has to ──
  module _ (k : Keeps s e) where
    ports_fit : (p : ℕ) → PortFits (port_of (enact e s) p)
    ports_fit p = go (ℕ_discrete p e.port)
      where
        go : Dec (p ≡ e.port) → PortFits (port_of (enact e s) p)
        go (yes z) = rw (z, port_after) k.port
        go (no d) = rw (other_port_after p d) (f.ports p)

    each_port_fits : (j : ℕ) → PortFits (get_or (enact e s).ports j no_port)
    unfolding port_of
    each_port_fits j = rw (spot_suc j) at (ports_fit (suc j))

    in_range_fact : in_range (enact e s) ≡ true
    unfolding enact in_range
    in_range_fact =
        rw length-set
        ((le-leb _ _ f.some_ports and le-leb _ _ f.few_ports) and le-leb _ _ f.few_places
        and every_all port_in_range _ no_port (λ j b. port_in_range_fact _ (each_port_fits j))
        and every_after (carrier_in_range (length s.ports) s.places)
        (λ j h. carrier_in_range_fact _ _ _ (f.records j h.live)) (λ n. carrier_in_range_fact _ _ _ (k.fits n)))

    next_other_name : Follows s e → (j : ℕ) → Stays s e j → other_name (record_of s j) e.next ≡ true
    unfolding other_name record_of
    next_other_name (inl m) j h = rw (a.fresh m j h.live)
    next_other_name (inr b) j h = other_name_fact (record_of s j) e.next (λ z. h.same (f.names j e.changes h.live b (z ∙ a.named b)))

    names_after : every_two other_name (enact e s).carriers ≡ true
    names_after =
        two_after other_name other_name_turn (λ i j h l n. other_name_fact _ _ (λ z. n (f.names i j h.live l.live z))) next_other_name

    spots_after : every_two other_spot (enact e s).carriers ≡ true
    spots_after =
        two_after other_spot other_spot_turn (λ i j h l n. other_spot_fact _ _ (λ z y. n (f.spots i j h.live l.live z y)))
        (λ n j h. other_spot_fact _ _ (λ z y. k.spot n (λ o. z (y ∙ o)) j h y))

    -- a record that stays finds its port calm
    stays_calm : (j : ℕ) → Stays s e j → (record_of s j).port ≢ 0
        → Calm (port_of s (record_of s j).port) (port_of (enact e s) (record_of s j).port)
    stays_calm j h n = go (ℕ_discrete (record_of s j).port e.port)
      where
        go : Dec ((record_of s j).port ≡ e.port) → Calm (port_of s (record_of s j).port) (port_of (enact e s) (record_of s j).port)
        go (no d) = rw (other_port_after (record_of s j).port d) (record { tie = refl; quiet = λ i b. (i, b) })
        go (yes z) = rw (z, port_after) (k.calm j h (λ y. n (z ∙ y)) z)

    stays_kept : (j : ℕ) → Stays s e j → (record_of s j).port ≢ 0 → (port_of (enact e s) (record_of s j).port).tie ≡ (record_of s j).name
    stays_kept j h n = (stays_calm j h n).tie ∙ f.kept j h.live n

    stays_shown : (j : ℕ) → Stays s e j → Shown (port_of (enact e s) (record_of s j).port) (record_of s j)
    stays_shown j h o n =
        let r = f.shown j h.live o n in
        let t = (f.records j h.live).stands.at_tied r.0 in
        let c = (stays_calm j h (λ z. omega arith)).quiet r.1 r.2 in
        (r.0, c.0, c.1)

    -- a tied port is named by a record
    module _ (p : ℕ) (l : 1 ≤ p) where
      abbrev Named : Type 0
      Named = any (λ c. eqb c.port p) (enact e s).carriers ≡ true

      named_here : p ≡ e.port
          → (Follows s e × (e.next.port ≡ e.port)) ⊎ ((j : ℕ) × Stays s e j × ((record_of s j).port ≡ e.port)) → Named
      named_here z (inl t) = any_follows (λ c. eqb c.port p) t.0 (eq-eqb _ p (t.1 ∙ sym z))
      named_here z (inr t) = any_stays (λ c. eqb c.port p) t.0 t.1 (eq-eqb _ p (t.2 ∙ sym z))

      named_there : p ≢ e.port → (j : ℕ) → j < length s.carriers → (record_of s j).port ≡ p
          → Dec (j ≡ e.goes) → Dec (j ≡ e.changes) → Named
      named_there d j b q (yes g) c =
          let u : (record_of s e.goes).port ≡ p = ap (λ i. (record_of s i).port) (sym g) ∙ q in
          absurd (d (sym u ∙ k.gone (rw g at b) (λ z. omega arith)))
      named_there d j b q (no g) (yes c) =
          let u : (record_of s e.changes).port ≡ p = ap (λ i. (record_of s i).port) (sym c) ∙ q in
          let m : e.changes < length s.carriers = rw c at b in
          any_follows (λ c. eqb c.port p) (inr m) (eq-eqb _ p (k.moved m (λ z. omega arith) (λ z. d (sym u ∙ z)) ∙ u))
      named_there d j b q (no g) (no c) = any_stays (λ c. eqb c.port p) j (record { live = b; here = g; same = c }) (eq-eqb _ p q)

      named_after : (port_of (enact e s) p).tie ≢ no_name → Named
      named_after n = go (ℕ_discrete p e.port)
        where
          go : Dec (p ≡ e.port) → Named
          go (yes z) = named_here z (k.holder (λ y. omega arith) (λ y. n (rw (z, port_after) y)))
          go (no d) =
              let t = f.held p l (λ y. n (rw (other_port_after p d) y)) in
              named_there d t.0 t.1 t.2 (ℕ_discrete t.0 e.goes) (ℕ_discrete t.0 e.changes)

      port_tie_held_fact : port_tie_held (enact e s) p ≡ true
      port_tie_held_fact = tie_held_fact _ _ named_after

    ties_after : ties_agree (enact e s) ≡ true
    unfolding ties_agree
    ties_after =
        every_after (λ c. tie_kept (port_of (enact e s) c.port) c)
        (λ j h. tie_kept_fact _ _ (stays_kept j h)) (λ n. tie_kept_fact _ _ (k.kept n))
        and (port_tie_held_fact 1 (omega arith) and port_tie_held_fact 2 (omega arith)
        and port_tie_held_fact 3 (omega arith) and port_tie_held_fact 4 (omega arith))

    few_after : few_expected (enact e s) ≡ true
    unfolding enact few_expected record_of
    few_after =
        let g = fewer_gone expected changed e.goes in
        let c = fewer_set expected s.carriers e.changes e.next no_carrier k.awaits in
        let o = f.few in
        le-leb _ 16 (room_new expected e.made _ e.next 16 (omega arith) (λ m x. let r = k.room m x in omega arith))

    pub keeps_sound : sound (enact e s) ≡ true
    unfolding sound
    keeps_sound =
        in_range_fact
        and names_after
        and ties_after
        and every_after place_agrees
        (λ j h. place_agrees_fact _ _ _ (f.records j h.live).stands) (λ n. place_agrees_fact _ _ _ (k.fits n).stands)
        and spots_after
        and few_after
        and every_all port_agrees _ no_port (λ j b. port_agrees_fact _ (each_port_fits j))
        and every_after (λ c. open_agrees (port_of (enact e s) c.port) c)
        (λ j h. open_agrees_fact _ _ (stays_shown j h)) (λ n. open_agrees_fact _ _ (k.shown n))
