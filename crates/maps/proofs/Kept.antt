-- What a record keeps is the map that it was made with.
use Prim.Native.Nat.{ℕ, ◌≤◌}
use native.Mathlib.Omega.{arith}
use native.Mathlib.Decide.{ℕ_discrete}
use mathlib.Core.Path.{◌≡◌, refl, sym, ◌∙◌}
use mathlib.Core.Bool.{Bool, true, false, cond}
use mathlib.Core.List.{List, [], ◌∷◌}
use lib.ListN.{length, get_or, set, length-set}
use lib.Seq.{get_or-set_same, get_or-set_other}
use lib.Dec.{eqb}
use Rattle.lists.specs.Lists.{any}
use Rattle.lists.proofs.Bools.{clash}
use Rattle.lists.proofs.Tests.{any_here, any_not}
use Rattle.records.specs.declared.name.Name.{Name}
use Rattle.records.specs.declared.carrier.Carrier.{Carrier}
use Rattle.records.specs.Carriers.{no_carrier}
use Rattle.rules.specs.declared.row.Effect.{Effect}
use Rattle.rules.specs.State.{State, record_of}
use Rattle.rules.specs.Seen.{Input, is_named}
use Rattle.rules.specs.Row as row
use Rattle.rules.specs.History.{is_live, history}
use Rattle.rules.specs.Promise.{Live}
use Rattle.rules.proofs.Names.{name_same}
use Rattle.rules.proofs.Apt.{Apt}
use Rattle.follow.proofs.Beside.{Beside, beside_followed}
use Rattle.maps.specs.Expected.{no_map, new_map}
use Rattle.maps.specs.State.{Mapped, start}
use Rattle.maps.specs.Rows.{codes_in}
use Rattle.maps.specs.Outcome.{row_in, answer_in, enact, state_after}
use Rattle.maps.specs.Projection.{reached}
use Rattle.maps.specs.History.{events, made_with}
use Rattle.maps.proofs.Amended.{accepted_there, apt_amended}
use Rattle.maps.proofs.SoundRuns.{sound_parts, sound_start, sound_reached}

-- a live record's name is live
pub live_at : (s : State) (j : ℕ) → Live s j → is_live s (record_of s j).name ≡ true
unfolding is_live record_of
live_at s j b = any_here (is_named (get_or s.carriers j no_carrier).name) s.carriers j no_carrier b (name_same _ _ refl)

pub none_live : (P B : ℕ) (n : Name) → is_live (start P B).base n ≡ false
unfolding is_live any
none_live P B n = refl

module _ (P B : ℕ) (a : 1 ≤ P) (b : P ≤ 4) (c : B ≤ 16) where
  -- a record, and the map beside it
  abbrev Made : List Input → Carrier → List ℕ → Type 0
  Made run c map = map ≡ made_with (history c.name (events (start P B) run))

  -- the input that made a record stays the oldest
  oldest : (earlier : List Input) (i : Input) (n : Name) → is_live (reached (start P B) earlier).base n ≡ true
      → made_with (history n (events (start P B) (i ∷ earlier))) ≡ made_with (history n (events (start P B) earlier))
  unfolding events history made_with reached
  oldest [] i n l = clash l (none_live P B n)
  oldest (j ∷ earlier) i n l = rw l

  first_made : (earlier : List Input) (i : Input) (n : Name) → is_live (reached (start P B) earlier).base n ≡ false
      → new_map i.number i.codes ≡ made_with (history n (events (start P B) (i ∷ earlier)))
  unfolding events history made_with
  first_made earlier i n l = rw l

  module _ (earlier : List Input) (i : Input) where
    abbrev s : Mapped
    s = reached (start P B) earlier

    abbrev e : Effect
    e = (row_in s i).effect

    abbrev was : ℕ → Carrier
    was j = get_or s.base.carriers j no_carrier

    abbrev map_at : ℕ → List ℕ
    map_at j = get_or s.maps j no_map

    abbrev changed : List Carrier
    changed = set s.base.carriers e.changes e.next

    as_long : length changed ≡ length s.base.carriers
    as_long = length-set s.base.carriers e.changes e.next

    as_it_was : (j : ℕ) → Live s.base j → Made earlier (was j) (map_at j) → Made (i ∷ earlier) (was j) (map_at j)
    unfolding record_of
    as_it_was j l m = m ∙ sym (oldest earlier i (was j).name (live_at s.base j l))

    made_after : Beside (Made earlier) no_carrier no_map s.base.carriers s.maps
        → Beside (Made (i ∷ earlier)) no_carrier no_map (state_after s i).base.carriers (state_after s i).maps
    unfolding state_after row.enact is_live
    made_after m = go (eqb (answer_in s i) 0) refl
      where
        go : (w : Bool) → eqb (answer_in s i) 0 ≡ w → let u = cond w (enact e (new_map i.number i.codes) s) s in
            Beside (Made (i ∷ earlier)) no_carrier no_map u.base.carriers u.maps
        go true y =
            let h = sound_parts s (sound_reached (start P B) (sound_start P B a b c) earlier) in
            let p = apt_amended s.base i h.base i.number (codes_in s i) (accepted_there s i y) in
            beside_followed (Made (i ∷ earlier)) no_carrier no_map changed s.maps
            e.goes e.made e.next (new_map i.number i.codes) (as_long ∙ sym h.many)
            (λ j l. at j (rw as_long at l) p (ℕ_discrete j e.changes))
            (λ w. first_made earlier i e.next.name (any_not (is_named e.next.name) s.base.carriers no_carrier (p.fresh w)))
          where
            at : (j : ℕ) → Live s.base j → Apt s.base e → Dec (j ≡ e.changes)
                → Made (i ∷ earlier) (get_or changed j no_carrier) (map_at j)
            at j l p (yes z) =
                rw (z, get_or-set_same s.base.carriers e.changes e.next no_carrier (rw z at l), p.named (rw z at l))
                (as_it_was e.changes (rw z at l) (m e.changes (rw z at l)))
            at j l p (no d) = rw (get_or-set_other s.base.carriers e.changes j e.next no_carrier d) (as_it_was j l (m j l))
        go false y = λ j l. as_it_was j l (m j l)

  all_made : (run : List Input)
      → Beside (Made run) no_carrier no_map (reached (start P B) run).base.carriers (reached (start P B) run).maps
  unfolding reached
  all_made [] = λ j l. absurd (omega arith)
  all_made (i ∷ earlier) = made_after earlier i (all_made earlier)

  pub map_made_with : (run : List Input) (k : ℕ) → Live (reached (start P B) run).base k
      → get_or (reached (start P B) run).maps k no_map
      ≡ made_with (history (record_of (reached (start P B) run).base k).name (events (start P B) run))
  unfolding record_of
  map_made_with run k l = all_made run k l
