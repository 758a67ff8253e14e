-- A record is backed by its history: what its fields say did happen. What an input makes of a record, and a record that it makes.
use Prim.Native.Nat.{ℕ}
use mathlib.Core.Path.{◌≡◌, refl}
use mathlib.Core.Logic.{◌⊎◌, inl, inr}
use mathlib.Core.Bool.{Bool, true, false, ◌&&◌, ◌||◌}
use mathlib.Core.List.{List, [], ◌∷◌}
use lib.Dec.{eqb}
use Rattle.lists.specs.Lists.{any}
use Rattle.lists.proofs.Bools.{clash, and_i, or_l, or_r, or_false_l, or_false_r}
use Rattle.records.specs.declared.name.Name.{Name}
use Rattle.records.specs.declared.carrier.Carrier.{Carrier}
use Rattle.records.specs.Names.{in_bytes, same_name}
use Rattle.records.specs.Carriers.{in_buffer, is_open, is_cancelled, id_ok, slot_waits, slot_ok, in_access}
use Rattle.rules.specs.State.{State}
use Rattle.rules.specs.Seen.{Input}
use Rattle.rules.specs.Outcome.{answer_in}
use Rattle.rules.specs.History.{Event, done, announced_there, verifies, verified, was_cancelled, was_mapped, released}

pub record Backed (h : List Event) (c : Carrier) : Type 0 where
  pub ok_id : id_ok c ≡ true → verified c.name h ≡ true
  pub boxed : in_buffer c ≡ true → verified c.name h ≡ true
  pub opens : is_open c ≡ true → verified c.name h ≡ true
  pub open_ok : is_open c ≡ true → is_cancelled c ≡ false
  pub uncancelled : is_cancelled c ≡ false → was_cancelled c.name h ≡ false
  pub waits : slot_waits c ≡ true → was_mapped c.name h ≡ true
  pub ok_slot : slot_ok c ≡ true → released c.name h ≡ true
  pub accessed : in_access c ≡ true → released c.name h ≡ true

-- The input i, met by s, does the thing of number k to the name m: its own number n stands apart, so that this computes where n is known.
abbrev pub does : State → Input → ℕ → ℕ → Name → Bool
does s i n k m = eqb n k && eqb (answer_in s i) 0 && same_name (in_bytes i.name) m

abbrev pub proves : State → Input → ℕ → Name → Bool
proves s i n m = (does s i n 16 m && announced_there m (record { before = s; input = i; answer = answer_in s i })) || does s i n 5 m

-- What an input makes of a record: each thing that the record says after was so before, or the input did it.
-- Its ID and its place:
pub record TracesId (s : State) (i : Input) (n : ℕ) (c after : Carrier) : Type 0 where
  pub ok_id : id_ok after ≡ true → (id_ok c ≡ true) ⊎ (proves s i n c.name ≡ true)
  pub boxed : in_buffer after ≡ true → (in_buffer c ≡ true) ⊎ (id_ok c ≡ true)

-- whether it is open or cancelled:
pub record TracesLid (s : State) (i : Input) (n : ℕ) (c after : Carrier) : Type 0 where
  pub opens : is_open after ≡ true → (is_open c ≡ true) ⊎ ((id_ok c ≡ true) × (is_cancelled c ≡ false))
  pub open_ok : is_open after ≡ true → is_cancelled c ≡ false → is_cancelled after ≡ false
  pub uncancelled : is_cancelled after ≡ false → (is_cancelled c ≡ false) × (does s i n 6 c.name ≡ false)

-- its slot status and accessing:
pub record TracesSlots (s : State) (i : Input) (n : ℕ) (c after : Carrier) : Type 0 where
  pub waits : slot_waits after ≡ true → (slot_waits c ≡ true) ⊎ (does s i n 20 c.name ≡ true)
  pub ok_slot : slot_ok after ≡ true → (slot_ok c ≡ true) ⊎ ((slot_waits c ≡ true) × (does s i n 5 c.name ≡ true))
  pub accessed : in_access after ≡ true → (in_access c ≡ true) ⊎ (slot_ok c ≡ true)

pub record Traces (s : State) (i : Input) (n : ℕ) (c after : Carrier) : Type 0 where
  pub ident : TracesId s i n c after
  pub lid : TracesLid s i n c after
  pub slots : TracesSlots s i n c after

-- A record that an input makes: the input did what the record says.
pub record Born (s : State) (i : Input) (n : ℕ) (c : Carrier) : Type 0 where
  pub ok_id : id_ok c ≡ true → proves s i n c.name ≡ true
  pub uncancelled : is_cancelled c ≡ false → does s i n 6 c.name ≡ false
  pub plain : (in_buffer c || is_open c || slot_waits c || slot_ok c || in_access c) ≡ false

-- what an input leaves as it is
module _ {s : State} {i : Input} {n : ℕ} {c after : Carrier} where
  pub same_id : after.id ≡ c.id → after.place ≡ c.place → TracesId s i n c after
  same_id p q = record { ok_id = λ x. inl (rw (← p) x); boxed = λ x. inl (rw (← q) x) }

  pub same_lid : does s i n 6 c.name ≡ false → after.opened ≡ c.opened → after.cancelled ≡ c.cancelled → TracesLid s i n c after
  same_lid d p q = record { opens = λ x. inl (rw (← p) x); open_ok = λ _ x. rw q x; uncancelled = λ x. (rw (← q) x, d) }

  pub same_slots : after.slot ≡ c.slot → after.accessing ≡ c.accessing → TracesSlots s i n c after
  same_slots p q = record { waits = λ x. inl (rw (← p) x); ok_slot = λ x. inl (rw (← p) x); accessed = λ x. inl (rw (← q) x) }

-- an input that doesn't cancel a record leaves it as it is
pub untouched : (s : State) (i : Input) (n : ℕ) (c : Carrier) → does s i n 6 c.name ≡ false → Traces s i n c c
untouched s i n c d = record { ident = same_id refl refl; lid = same_lid d refl refl; slots = same_slots refl refl }

module _ (s : State) (i : Input) where
  abbrev event : Event
  event = record { before = s; input = i; answer = answer_in s i }

  -- a name's history with one event more
  module _ (h : List Event) (m : Name) where
    verified_now : proves s i i.number m ≡ true → verified m (event ∷ h) ≡ true
    unfolding verified any verifies done
    verified_now x = or_l _ x

    verified_before : verified m h ≡ true → verified m (event ∷ h) ≡ true
    unfolding verified any
    verified_before x = or_r (verifies m event) x

    never_cancelled : does s i i.number 6 m ≡ false → was_cancelled m h ≡ false → was_cancelled m (event ∷ h) ≡ false
    unfolding was_cancelled any done
    never_cancelled x y = rw (x, y)

    mapped_now : does s i i.number 20 m ≡ true → was_mapped m (event ∷ h) ≡ true
    unfolding was_mapped any done
    mapped_now x = or_l _ x

    mapped_before : was_mapped m h ≡ true → was_mapped m (event ∷ h) ≡ true
    unfolding was_mapped any
    mapped_before x = or_r (done 20 m event) x

    released_now : does s i i.number 5 m ≡ true → was_mapped m h ≡ true → released m (event ∷ h) ≡ true
    unfolding released done
    released_now x y = or_l _ (and_i x y)

    released_before : released m h ≡ true → released m (event ∷ h) ≡ true
    unfolding released
    released_before x = or_r (done 5 m event && was_mapped m h) x

  -- a record that is backed is backed after one input more
  pub backed_after : (h : List Event) (c after : Carrier) → after.name ≡ c.name → Backed h c → Traces s i i.number c after
      → Backed (event ∷ h) after
  backed_after h c after e b t = record {
    ok_id = λ x. rw e (ok_id_fact (t.ident.ok_id x));
    boxed = λ x. rw e (box (t.ident.boxed x));
    opens = λ x. rw e (open_by (t.lid.opens x));
    open_ok = λ x. t.lid.open_ok x (was_ok (t.lid.opens x));
    uncancelled = λ x. rw e (never_cancelled h c.name (t.lid.uncancelled x).1 (b.uncancelled (t.lid.uncancelled x).0));
    waits = λ x. rw e (wait (t.slots.waits x));
    ok_slot = λ x. rw e (ok_slot_fact (t.slots.ok_slot x));
    accessed = λ x. rw e (access_by (t.slots.accessed x));
  }
    where
      ok_id_fact : (id_ok c ≡ true) ⊎ (proves s i i.number c.name ≡ true) → verified c.name (event ∷ h) ≡ true
      ok_id_fact (inl x) = verified_before h c.name (b.ok_id x)
      ok_id_fact (inr x) = verified_now h c.name x

      box : (in_buffer c ≡ true) ⊎ (id_ok c ≡ true) → verified c.name (event ∷ h) ≡ true
      box (inl x) = verified_before h c.name (b.boxed x)
      box (inr x) = verified_before h c.name (b.ok_id x)

      open_by : (is_open c ≡ true) ⊎ ((id_ok c ≡ true) × (is_cancelled c ≡ false)) → verified c.name (event ∷ h) ≡ true
      open_by (inl x) = verified_before h c.name (b.opens x)
      open_by (inr x) = verified_before h c.name (b.ok_id x.0)

      was_ok : (is_open c ≡ true) ⊎ ((id_ok c ≡ true) × (is_cancelled c ≡ false)) → is_cancelled c ≡ false
      was_ok (inl x) = b.open_ok x
      was_ok (inr x) = x.1

      wait : (slot_waits c ≡ true) ⊎ (does s i i.number 20 c.name ≡ true) → was_mapped c.name (event ∷ h) ≡ true
      wait (inl x) = mapped_before h c.name (b.waits x)
      wait (inr x) = mapped_now h c.name x

      ok_slot_fact : (slot_ok c ≡ true) ⊎ ((slot_waits c ≡ true) × (does s i i.number 5 c.name ≡ true))
          → released c.name (event ∷ h) ≡ true
      ok_slot_fact (inl x) = released_before h c.name (b.ok_slot x)
      ok_slot_fact (inr x) = released_now h c.name x.1 (b.waits x.0)

      access_by : (in_access c ≡ true) ⊎ (slot_ok c ≡ true) → released c.name (event ∷ h) ≡ true
      access_by (inl x) = released_before h c.name (b.accessed x)
      access_by (inr x) = released_before h c.name (b.ok_slot x)

  -- a new record is backed by the input that made it
  pub backed_new : (c : Carrier) → Born s i i.number c → Backed (event ∷ []) c
  unfolding was_cancelled any
  backed_new c b = record {
    ok_id = λ x. verified_now [] c.name (b.ok_id x);
    boxed = λ x. clash x unboxed;
    opens = λ x. clash x shut;
    open_ok = λ x. clash x shut;
    uncancelled = λ x. never_cancelled [] c.name (b.uncancelled x) refl;
    waits = λ x. clash x not_waiting;
    ok_slot = λ x. clash x not_ok;
    accessed = λ x. clash x not_accessed;
  }
    where
      unboxed : in_buffer c ≡ false
      unboxed = let p = b.plain in search (or_false_l, or_false_r) depth 6

      shut : is_open c ≡ false
      shut = let p = b.plain in search (or_false_l, or_false_r) depth 6

      not_waiting : slot_waits c ≡ false
      not_waiting = let p = b.plain in search (or_false_l, or_false_r) depth 6

      not_ok : slot_ok c ≡ false
      not_ok = let p = b.plain in search (or_false_l, or_false_r) depth 6

      not_accessed : in_access c ≡ false
      not_accessed = let p = b.plain in search (or_false_l, or_false_r) depth 6
