-- The shapes that effects have, and what each has left to show.
use Prim.Native.Nat.{ℕ, ◌<◌}
use native.Mathlib.Omega.{arith}
use mathlib.Core.Path.{◌≡◌, refl, ap, sym, ◌∙◌}
use mathlib.Core.Logic.{◌≢◌, inl, inr}
use mathlib.Core.Bool.{true}
use lib.ListN.{length}
use lib.Dec.{eqb}
use borrow.Author.Tests.{ne_eqb}
use Rattle.lists.specs.Lists.{how_many}
use Rattle.lists.proofs.Bools.{clash}
use Rattle.records.specs.declared.port.Port.{Port}
use Rattle.records.specs.declared.carrier.Carrier.{Carrier}
use Rattle.records.specs.Names.{no_name}
use Rattle.records.specs.Ports.{no_port, idle, blocked}
use Rattle.records.specs.Carriers.{expected}
use Rattle.rules.specs.declared.row.Effect.{Effect}
use Rattle.rules.specs.State.{State, port_of, record_of}
use Rattle.rules.specs.Row.{Row, enact, on_port, on_port_and_gone, on_record, on_both}
use Rattle.rules.proofs.Accepts.{Clear}
use Rattle.rules.proofs.Apt.{Apt}
use Rattle.rules.proofs.SoundParts.{PortFits, Fits, Shown, Facts, no_port_fits}
use Rattle.rules.proofs.Orderly.{ties_differ_fact}
use Rattle.rules.proofs.Keep.{Follows, Stays, Calm, Keeps, port_after, other_port_after}

-- where a row accepts, its effect keeps a sound state sound
abbrev pub Good : State → Row → Type 0
Good s r = Clear r.grounds → Apt s r.effect → Keeps s r.effect

-- a record that stands as another: its name, its place, its spot and its port
pub record Alike (c d : Carrier) : Type 0 where
  pub name : d.name ≡ c.name
  pub place : d.place ≡ c.place
  pub spot : d.spot ≡ c.spot
  pub port : d.port ≡ c.port

-- a record comes to be tied to the port, or is so already
pub record Arrives (s : State) (e : Effect) : Type 0 where
  pub follows : Follows s e
  pub port : PortFits e.becomes
  pub fits : Fits (length s.ports) s.places e.next
  pub tied : e.next.port ≡ e.port
  pub named : e.becomes.tie ≡ e.next.name
  pub shown : Shown e.becomes e.next
  pub spot : e.next.spot ≢ 0 → (j : ℕ) → Stays s e j → (record_of s j).spot ≢ e.next.spot
  -- no other has this port, and what changes had no other
  pub alone : (j : ℕ) → Stays s e j → (record_of s j).port ≢ e.port
  pub moved : e.changes < length s.carriers → (record_of s e.changes).port ≢ 0 → (record_of s e.changes).port ≡ e.port
  pub awaits : e.changes < length s.carriers → expected e.next ≡ true → expected (record_of s e.changes) ≡ true
  pub gone : e.goes < length s.carriers → (record_of s e.goes).port ≢ 0 → (record_of s e.goes).port ≡ e.port
  pub room : e.made ≡ true → expected e.next ≡ true → how_many expected s.carriers < 16

module _ (s : State) (f : Facts s) where
  -- ── Only a port changes, and a record may go ──
  pub port_keeps : (p : ℕ) (q : Port) (k : ℕ) → PortFits q
      → ((j : ℕ) → j < length s.carriers → j ≢ k → p ≢ 0 → (record_of s j).port ≡ p → Calm (port_of s p) q)
      → (p ≢ 0 → q.tie ≢ no_name → (j : ℕ) × (j < length s.carriers) × (j ≢ k) × ((record_of s j).port ≡ p))
      → (k < length s.carriers → (record_of s k).port ≢ 0 → (record_of s k).port ≡ p)
      → Keeps s (on_port_and_gone (length s.carriers) p q k)
  port_keeps p q k h c o g = record {
    port = h;
    calm = λ j t. c j t.live t.here;
    holder = λ z y. let t = o z y in inr (t.0, record { live = t.1; here = t.2; same = λ i. let b = t.1 in omega arith }, t.3);
    fits = λ t. none t;
    shown = λ t. none t;
    kept = λ t. none t;
    spot = λ t. none t;
    moved = λ b. absurd (omega arith);
    awaits = λ b. absurd (omega arith);
    gone = g;
    room = λ e. clash e refl;
  }
    where
      none : {X : Type 0} → Follows s (on_port_and_gone (length s.carriers) p q k) → X
      none (inl m) = clash m refl
      none (inr b) = absurd (omega arith)

  -- the port keeps its tie
  pub calm_keeps : (p : ℕ) (q : Port) → PortFits q → Calm (port_of s p) q → Keeps s (on_port (length s.carriers) p q)
  calm_keeps p q h c =
      port_keeps p q (length s.carriers) h (λ _ _ _ _ _. c)
      (λ z y. let t = f.held p (omega arith) (λ w. y (c.tie ∙ w)) in (t.0, t.1, (λ i. let b = t.1 in omega arith), t.2))
      (λ b. absurd (omega arith))

  -- the port loses its tie, and no record is left that has it
  pub freed_keeps : (p : ℕ) (q : Port) (k : ℕ) → PortFits q → q.tie ≡ no_name
      → ((j : ℕ) → j < length s.carriers → j ≢ k → (record_of s j).port ≢ p)
      → (k < length s.carriers → (record_of s k).port ≢ 0 → (record_of s k).port ≡ p)
      → Keeps s (on_port_and_gone (length s.carriers) p q k)
  freed_keeps p q k h t o g = port_keeps p q k h (λ j b n _ z. absurd (o j b n z)) (λ _ y. absurd (y t)) g

  -- an untied record goes
  pub gone_keeps : (k : ℕ) → (record_of s k).port ≡ 0 → Keeps s (on_port_and_gone (length s.carriers) 0 no_port k)
  gone_keeps k z = port_keeps 0 no_port k no_port_fits (λ _ _ _ n. absurd (n refl)) (λ n. absurd (n refl)) (λ _ n. absurd (n z))

  -- ── A record changes where it stands ──
  pub record_keeps : (k : ℕ) (c : Carrier) → Apt s (on_record (length s.carriers) k c) → k < length s.carriers
      → Fits (length s.ports) s.places c → Alike (record_of s k) c → Shown (port_of s c.port) c
      → Keeps s (on_record (length s.carriers) k c)
  record_keeps k c a b h l o = record {
    port = no_port_fits;
    calm = λ _ _ n. absurd (n refl);
    holder = λ n. absurd (n refl);
    fits = λ _. h;
    shown = λ _ i n.
        let r = o i n in
        let t = h.stands.at_tied r.0 in
        let e = other_port_after s f _ a c.port (λ z. omega arith) in
        (r.0, ap idle e ∙ r.1, ap blocked e ∙ r.2);
    kept = λ _ n.
        ap (λ (q : Port). q.tie) (other_port_after s f _ a c.port n) ∙ ap (λ p. (port_of s p).tie) l.port
        ∙ f.kept k b (λ z. n (l.port ∙ z)) ∙ sym l.name;
    spot = λ _ n j t z. t.same (f.spots j k t.live b (λ y. n (sym z ∙ y)) (z ∙ l.spot));
    moved = λ _ _ _. l.port;
    awaits = λ _ t. ap (λ p. eqb p 0) (sym l.place) ∙ t;
    gone = λ b. absurd (omega arith);
    room = λ e. clash e refl;
  }

  -- ── A record comes to be tied to the port, or is so already ──
  pub arrives_keeps : (e : Effect) → Apt s e → Arrives s e → Keeps s e
  arrives_keeps e a h = record {
    port = h.port;
    calm = λ j t _ z. absurd (h.alone j t z);
    holder = λ _ _. inl (h.follows, h.tied);
    fits = λ _. h.fits;
    shown = λ _ i n.
        let r = h.shown i n in
        let z = ap (port_of (enact e s)) h.tied ∙ port_after s f e a in
        (r.0, ap idle z ∙ r.1, ap blocked z ∙ r.2);
    kept = λ _ _. ap (λ p. (port_of (enact e s) p).tie) h.tied ∙ ap (λ (q : Port). q.tie) (port_after s f e a) ∙ h.named;
    spot = λ _. h.spot;
    moved = λ b n d. absurd (d (h.moved b n));
    awaits = h.awaits;
    gone = h.gone;
    room = h.room;
  }

  -- a record changes where it stands, and so does its port
  pub both_keeps : (p : ℕ) (q : Port) (k : ℕ) (c : Carrier) → Apt s (on_both (length s.carriers) p q k c)
      → k < length s.carriers → p ≢ 0 → (record_of s k).port ≡ p
      → PortFits q → q.tie ≡ (port_of s p).tie → Fits (length s.ports) s.places c → Alike (record_of s k) c → Shown q c
      → Keeps s (on_both (length s.carriers) p q k c)
  both_keeps p q k c a b n r w t h l o = arrives_keeps _ a (record {
    follows = inr b;
    port = w;
    fits = h;
    tied = l.port ∙ r;
    named = t ∙ ap (λ p. (port_of s p).tie) (sym r) ∙ f.kept k b (λ z. n (sym r ∙ z)) ∙ sym l.name;
    shown = o;
    spot = λ n j t z. t.same (f.spots j k t.live b (λ y. n (sym z ∙ y)) (z ∙ l.spot));
    alone = λ j t z. t.same (ties_differ_fact s f j k t.live b (λ y. n (sym z ∙ y)) (z ∙ sym r));
    moved = λ _ _. r;
    awaits = λ _ t. ap (λ p. eqb p 0) (sym l.place) ∙ t;
    gone = λ b. absurd (omega arith);
    room = λ e. clash e refl;
  })

  -- ── A record leaves its port for the buffer ──
  pub leaves_keeps : (p : ℕ) (q : Port) (k : ℕ) (c : Carrier) → k < length s.carriers → p ≢ 0 → (record_of s k).port ≡ p
      → PortFits q → q.tie ≡ no_name → Fits (length s.ports) s.places c → c.place ≡ 2
      → ((j : ℕ) → j < length s.carriers → j ≢ k → (record_of s j).spot ≢ c.spot)
      → Keeps s (on_both (length s.carriers) p q k c)
  leaves_keeps p q k c b n r w t h z d = record {
    port = w;
    calm = λ j t _ z. absurd (t.same (ties_differ_fact s f j k t.live b (λ y. n (sym z ∙ y)) (z ∙ sym r)));
    holder = λ _ y. absurd (y t);
    fits = λ _. h;
    shown = λ _ _ n. absurd (n z);
    kept = λ _ n. absurd (n (h.stands.in_free z));
    spot = λ _ _ j t. d j t.live t.same;
    moved = λ _ _ d. absurd (d r);
    awaits = λ _ t. clash t (ne_eqb c.place 0 (λ y. omega arith));
    gone = λ b. absurd (omega arith);
    room = λ e. clash e refl;
  }

  -- ── A record is announced, with no tie ──
  pub announced_keeps : (c : Carrier) → Fits (length s.ports) s.places c → c.port ≡ 0 → c.spot ≡ 0 → c.opened ≡ 0
      → how_many expected s.carriers < 16
      → Keeps s (record { port = 0; becomes = no_port; goes = length s.carriers; changes = length s.carriers; next = c; made = true })
  announced_keeps c h p q o r = record {
    port = no_port_fits;
    calm = λ _ _ n. absurd (n refl);
    holder = λ n. absurd (n refl);
    fits = λ _. h;
    shown = λ _ i. clash i (ne_eqb c.opened 1 (λ z. omega arith));
    kept = λ _ n. absurd (n p);
    spot = λ _ n. absurd (n q);
    moved = λ b. absurd (omega arith);
    awaits = λ b. absurd (omega arith);
    gone = λ b. absurd (omega arith);
    room = λ _ _. r;
  }
