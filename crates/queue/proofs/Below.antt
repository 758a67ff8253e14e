-- What an input that is accepted below leaves of a carrier in the buffer and of a port that is kept free.
use Prim.Native.Nat.{ℕ, ◌<◌}
use native.Mathlib.Decide.{ℕ_discrete}
use mathlib.Core.Path.{◌≡◌, sym, subst, ◌∙◌}
use mathlib.Core.Logic.{◌≢◌}
use mathlib.Core.Bool.{Bool, true, false, cond, ◌&&◌}
use mathlib.Core.List.{List}
use lib.ListN.{length, get_or, length-set}
use lib.Dec.{eqb}
use Rattle.lists.proofs.Bools.{cond_ind}
use Rattle.records.specs.declared.name.Name.{Name}
use Rattle.records.specs.Names.{in_bytes}
use Rattle.records.specs.Carriers.{in_buffer}
use Rattle.rules.specs.declared.row.Seen.{Seen}
use Rattle.rules.specs.declared.row.Effect.{Effect}
use Rattle.rules.specs.State.{State, port_of, record_of}
use Rattle.rules.specs.Seen.{Input, name_stands, narrow, see}
use Rattle.rules.specs.Row as row
use Rattle.rules.specs.Row.{judge}
use Rattle.rules.specs.Rows as base
use Rattle.rules.proofs.Apt.{Apt}
use Rattle.rules.proofs.SoundParts.{Facts, facts}
use Rattle.rules.proofs.Keep.{port_after, other_port_after}
use Rattle.maps.specs.Expected.{carries}
use Rattle.maps.specs.State.{Mapped}
use Rattle.maps.specs.Sound as maps-sound
use Rattle.maps.specs.Rows.{codes_in}
use Rattle.maps.specs.Outcome as maps
use Rattle.maps.proofs.Amended.{at_once, grounds_are, effect_is, first_is_lowest, accepted_there, apt_amended}
use Rattle.maps.proofs.SoundRuns as maps-runs
use Rattle.queue.specs.declared.request.Request.{Request}
use Rattle.queue.specs.Requests.{no_request, is_started, carrier_of, may_leave}
use Rattle.queue.specs.Sound.{kept_free}
use Rattle.queue.proofs.Stored.{Spares, spares}
use Rattle.queue.proofs.Free.{leaves}
use Rattle.queue.proofs.After.{stored_live, stored_named, stored_place, stored_still, shut_still}
use Rattle.queue.proofs.Lines.{Line, stored_at, shut_at, kept_at, line_moved}

pub base_facts : (s : Mapped) → maps-sound.sound s ≡ true → Facts s.base
base_facts s h = facts s.base (maps-runs.sound_parts s h).base

-- a row that carries no map is answered as in document 01
pub answer_below : (s : Mapped) (i : Input) → carries i.number ≡ false
    → maps.answer_in s i ≡ judge (base.row_of i.number (see s.base i)).grounds
unfolding maps.answer_in
answer_below s i c =
    sym (first_is_lowest i.number (see s.base i) (codes_in s i))
    ∙ rw (grounds_are i.number (see s.base i) (codes_in s i), c)

at_once_spares : (s : State) (j : ℕ) (o : Type 0) (e : Effect) → Spares s j o e → Spares s j o (at_once e)
unfolding may_leave
at_once_spares s j o e k = record { here = k.here; stored = k.stored; shut = k.shut }

module _ (s : Mapped) (i : Input) (h : maps-sound.sound s ≡ true) (a : eqb (maps.answer_in s i) 0 ≡ true) where
  abbrev x : Seen
  x = see s.base i

  abbrev e : Effect
  e = (maps.row_in s i).effect

  abbrev f : Facts s.base
  f = base_facts s h

  pub state_below : (maps.state_after s i).base ≡ row.enact e s.base
  unfolding maps.state_after
  state_below = rw a

  facts_below : Facts (row.enact e s.base)
  facts_below = subst Facts state_below (base_facts (maps.state_after s i) (maps-runs.sound_after s i h))

  pub apt_below : Apt s.base e
  apt_below = apt_amended s.base i (maps-runs.sound_parts s h).base i.number (codes_in s i) (accepted_there s i a)

  -- ── A carrier in the buffer ──
  module _ (n : Name) (b : in_buffer (carrier_of s.base n) ≡ true) (out : i.number ≡ 7 → n ≢ in_bytes i.name) where
    abbrev j : ℕ
    j = name_stands s.base n

    abbrev Opens : Type 0
    Opens = (i.number ≡ 19) × ((record_of s.base j).name ≡ x.name)

    named_so : (record_of s.base j).name ≡ x.name → n ≡ in_bytes i.name
    unfolding see
    named_so z = sym (stored_named s.base n b) ∙ z

    spared : Spares s.base j Opens e
    spared =
        subst (Spares s.base j Opens) (sym (effect_is i.number x (codes_in s i)))
        (go (eqb i.number 20 && (codes_in s i).equal)
        (spares s.base i f j (stored_live s.base n b) (stored_place s.base n b) i.number (accepted_there s i a)
        (λ t. out t.0 (named_so t.1))))
      where
        go : (w : Bool) → Spares s.base j Opens (base.row_of i.number x).effect
            → Spares s.base j Opens (cond w (at_once (base.row_of i.number x).effect) (base.row_of i.number x).effect)
        go true k = at_once_spares s.base j Opens _ k
        go false k = k

    pub stored_after : in_buffer (carrier_of (maps.state_after s i).base n) ≡ true
    stored_after = rw state_below (stored_still s.base e apt_below facts_below Opens n b spared)

    pub shut_after : (i.number ≡ 19 → n ≢ in_bytes i.name) → may_leave (carrier_of s.base n) ≡ true
        → may_leave (carrier_of (maps.state_after s i).base n) ≡ true
    shut_after opens l =
        rw state_below (shut_still s.base e apt_below facts_below Opens n b spared (λ t. opens t.0 (named_so t.1)) l)

  -- ── A port that is kept free ──
  module _ (p : ℕ) (k : kept_free (port_of s.base p) ≡ true)
      (twelve : i.number ≡ 12 → narrow i.port ≢ p) (thirteen : i.number ≡ 13 → narrow i.port ≢ p) where
    abbrev Left : Effect → Type 0
    Left e = e.port ≡ p → kept_free e.becomes ≡ true

    becomes_free : Left e
    unfolding see
    becomes_free =
        let left : Left (base.row_of i.number x).effect = leaves s.base i f p k i.number (accepted_there s i a) twelve thirteen in
        subst Left (sym (effect_is i.number x (codes_in s i)))
        (cond_ind Left (eqb i.number 20 && (codes_in s i).equal) (λ _. left) (λ _. left))

    pub free_after : kept_free (port_of (maps.state_after s i).base p) ≡ true
    free_after = rw state_below (go (ℕ_discrete p e.port))
      where
        go : Dec (p ≡ e.port) → kept_free (port_of (row.enact e s.base) p) ≡ true
        go (yes z) = rw (z, port_after s.base f e apt_below) (becomes_free (sym z))
        go (no n) = rw (other_port_after s.base f e apt_below p n) k

  pub ports_below : length (maps.state_after s i).base.ports ≡ length s.base.ports
  unfolding row.enact
  ports_below = rw state_below (length-set s.base.ports _ _)

-- ── The queue under it ──
-- an input that is no harm to a request: no CarrierOut of its carrier, and, where it is started, no Open of it, and neither
-- CancelReservationAtPort nor LoadStart at its port
pub record Safe (i : Input) (r : Request) : Type 0 where
  pub out : i.number ≡ 7 → r.name ≢ in_bytes i.name
  pub opens : is_started r ≡ true → i.number ≡ 19 → r.name ≢ in_bytes i.name
  pub frees : is_started r ≡ true → i.number ≡ 12 → narrow i.port ≢ r.port
  pub loads : is_started r ≡ true → i.number ≡ 13 → narrow i.port ≢ r.port

pub line_below : (s : Mapped) (i : Input) → maps-sound.sound s ≡ true → eqb (maps.answer_in s i) 0 ≡ true → (q : List Request)
    → ((k : ℕ) → k < length q → Safe i (get_or q k no_request)) → Line s.base q → Line (maps.state_after s i).base q
line_below s i h a q safe l =
    line_moved s.base (maps.state_after s i).base q l (ports_below s i h a)
    (λ k b. stored_after s i h a _ (stored_at s.base q l k b) (safe k b).out)
    (λ k b e. shut_after s i h a _ (stored_at s.base q l k b) (safe k b).out ((safe k b).opens e) (shut_at s.base q l k b e))
    (λ k b e. free_after s i h a _ (kept_at s.base q l k b e) ((safe k b).frees e) ((safe k b).loads e))
