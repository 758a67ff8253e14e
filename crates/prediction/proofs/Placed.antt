-- A carrier that is cancelled or comes into access is placed afterwards.
use Prim.Native.Nat.{ℕ, ◌<◌}
use native.Mathlib.Omega.{arith}
use mathlib.Core.Path.{◌≡◌, refl, ap, sym, subst, ◌∙◌}
use mathlib.Core.Bool.{Bool, true, false, cond}
use mathlib.Core.List.{List, [], ◌∷◌, ◌++◌}
use lib.ListN.{length, get_or, set, length-append}
use lib.Seq.{get_or-set_same}
use lib.Dec.{eqb}
use borrow.Author.Tests.{eqb-true, ltb-true}
use Rattle.lists.specs.Lists.{without}
use Rattle.lists.proofs.Bools.{and_l, and_r, not_true}
use Rattle.lists.proofs.Tests.{where_holds}
use Rattle.records.specs.declared.name.Name.{Name}
use Rattle.records.specs.declared.carrier.Carrier.{Carrier}
use Rattle.records.specs.Names.{in_bytes}
use Rattle.records.specs.Carriers.{no_carrier, expected, is_open, judged_no, placed_at}
use Rattle.records.specs.Fields.{with_id}
use Rattle.rules.specs.declared.row.Effect.{Effect}
use Rattle.rules.specs.declared.row.Seen.{Seen}
use Rattle.rules.specs.State.{State, record_of}
use Rattle.rules.specs.Seen.{Input, is_named, name_stands, see}
use Rattle.rules.specs.Row as row
use Rattle.rules.specs.Row.{judge, placed, found_or_new}
use Rattle.rules.specs.Verdict.{failed, cancel_carrier}
use Rattle.rules.specs.Opening.{access_start}
use Rattle.rules.specs.Rows as base-rows
use Rattle.rules.specs.Promise.{Live}
use Rattle.rules.proofs.Names.{name_is}
use Rattle.rules.proofs.Accepts.{clear}
use Rattle.rules.proofs.Apt.{Apt}
use Rattle.rules.proofs.SoundParts.{Facts}
use Rattle.maps.specs.State.{Mapped}
use Rattle.maps.specs.Sound as maps-sound
use Rattle.maps.specs.Rows as maps-rows
use Rattle.maps.specs.Outcome as maps
use Rattle.maps.proofs.SoundRuns as maps-proofs
use Rattle.maps.proofs.Amended.{accepted_there}
use Rattle.queue.specs.Requests.{carrier_of}
use Rattle.queue.proofs.After.{found_again, stands_after}
use Rattle.queue.proofs.Below.{base_facts, state_below, apt_below}

at_end : {A : Type 0} (l : List A) (x d : A) → get_or (l ++ x ∷ []) (length l) d ≡ x
at_end [] x d = refl
at_end (y ∷ l) x d = at_end l x d

record_at : (s : State) (k : ℕ) → record_of s k ≡ get_or s.carriers k no_carrier
unfolding record_of
record_at s k = refl

made_carriers : (s : State) (e : Effect) → e.made ≡ true
    → (row.enact e s).carriers ≡ without e.goes (set s.carriers e.changes e.next) ++ e.next ∷ []
unfolding row.enact
made_carriers s e m = rw m

-- the record that follows is the one of its name
module _ (s : State) (e : Effect) (a : Apt s e) (f : Facts (row.enact e s)) (n : Name) where
  changed_there : e.changes < length s.carriers → (record_of s e.changes).name ≡ n → carrier_of (row.enact e s) n ≡ e.next
  unfolding record_of
  changed_there b m =
      let t = stands_after s e e.changes b (a.apart b) in
      let u = get_or-set_same s.carriers e.changes e.next no_carrier b in
      found_again (row.enact e s) f n t.0 t.1 (ap (λ (c : Carrier). c.name) (t.2 ∙ u) ∙ a.named b ∙ m) ∙ t.2 ∙ u

  made_there : e.made ≡ true → e.next.name ≡ n → carrier_of (row.enact e s) n ≡ e.next
  made_there m q = found_again (row.enact e s) f n k live (ap (λ (c : Carrier). c.name) last ∙ q) ∙ last
    where
      rest : List Carrier
      rest = without e.goes (set s.carriers e.changes e.next)

      k : ℕ
      k = length rest

      carriers_are : (row.enact e s).carriers ≡ rest ++ e.next ∷ []
      carriers_are = made_carriers s e m

      live : Live (row.enact e s) k
      live = let l = ap length carriers_are ∙ length-append rest (e.next ∷ []) in omega arith

      last : record_of (row.enact e s) k ≡ e.next
      last = record_at (row.enact e s) k ∙ ap (λ l. get_or l k no_carrier) carriers_are ∙ at_end rest e.next no_carrier

-- ── Rows 6 and 21 ──
-- whoever is cancelled is placed
failed_placed : (x : Seen) → expected (failed x) ≡ false
unfolding failed placed
failed_placed x = go (placed x) refl
  where
    go : (w : Bool) → placed x ≡ w → expected (cond w (judged_no x.found) (with_id 4 (placed_at x.port (found_or_new x)))) ≡ false
    go true e = not_true _ (and_r x.known _ e)
    go false e = refl

module _ (s : Mapped) (i : Input) (h : maps-sound.sound s ≡ true) (a : eqb (maps.answer_in s i) 0 ≡ true) where
  abbrev x : Seen
  x = see s.base i

  abbrev e : Effect
  e = (maps.row_in s i).effect

  abbrev t : State
  t = (maps.state_after s i).base

  after : t ≡ row.enact e s.base
  after = state_below s i h a

  facts_then : Facts (row.enact e s.base)
  facts_then = subst Facts after (base_facts (maps.state_after s i) (maps-proofs.sound_after s i h))

  -- the named record, where it is known
  named_is : x.known ≡ true → (record_of s.base x.stands).name ≡ in_bytes i.name
  unfolding see name_stands record_of
  named_is k = name_is _ _ (where_holds (is_named (in_bytes i.name)) s.base.carriers no_carrier (ltb-true _ _ k))

  stands_live : x.known ≡ true → x.stands < length s.base.carriers
  unfolding see
  stands_live k = ltb-true _ _ k

  -- row 6
  module _ (z : i.number ≡ 6) where
    six : e ≡ (cancel_carrier x).effect
    unfolding maps-rows.row_of base-rows.row_of
    six = rw z

    new_named : x.known ≡ false → (cancel_carrier x).effect.next.name ≡ in_bytes i.name
    unfolding failed placed found_or_new see
    new_named k = rw k

    six_there : carrier_of t (in_bytes i.name) ≡ e.next
    six_there = ap (λ u. carrier_of u (in_bytes i.name)) after ∙ go x.known refl
      where
        go : (w : Bool) → x.known ≡ w → carrier_of (row.enact e s.base) (in_bytes i.name) ≡ e.next
        go true k =
            changed_there s.base e (apt_below s i h a) facts_then (in_bytes i.name)
            (rw six (stands_live k)) (rw six (named_is k))
        go false k = made_there s.base e (apt_below s i h a) facts_then (in_bytes i.name) (rw (six, k)) (rw six (new_named k))

    pub six_placed : expected (carrier_of t (in_bytes i.name)) ≡ false
    six_placed = rw (six_there, six) (failed_placed x)

  -- row 21
  module _ (z : i.number ≡ 21) where
    twenty_one : e ≡ (access_start x).effect
    unfolding maps-rows.row_of base-rows.row_of
    twenty_one = rw z

    accepts : judge (access_start x).grounds ≡ 0
    unfolding base-rows.row_of
    accepts = ap (λ n. judge (base-rows.row_of n x).grounds) (sym z) ∙ accepted_there s i a

    known : x.known ≡ true
    known = (clear (access_start x).grounds refl accepts).1.0

    open_found : is_open x.found ≡ true
    open_found = and_l _ _ (clear (access_start x).grounds refl accepts).1.1.0

    found_placed : expected x.found ≡ false
    unfolding see
    found_placed = go (expected x.found) refl
      where
        go : (w : Bool) → expected x.found ≡ w → w ≡ false
        go true e =
            let p = eqb-true x.found.place 0 e in
            let q = ((base_facts s h).shown x.stands (stands_live known) open_found (λ o. omega arith)).0 in
            absurd (omega arith)
        go false e = refl

    pub twenty_one_placed : expected (carrier_of t (in_bytes i.name)) ≡ false
    twenty_one_placed =
        rw (
          after,
          changed_there s.base e (apt_below s i h a) facts_then (in_bytes i.name) (rw twenty_one (stands_live known))
              (rw twenty_one (named_is known)),
          twenty_one,
        ) found_placed
