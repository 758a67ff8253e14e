-- Stored names never hold a blank: in a sound tool no record's name has one.
use Prim.Native.Nat.{ℕ}
use native.Mathlib.Omega.{arith}
use mathlib.Core.Path.{◌≡◌, refl}
use mathlib.Core.Bool.{Bool, true, false, ◌&&◌, ◌||◌}
use mathlib.Core.List.{List, [], ◌∷◌}
use lib.Dec.{eqb, leb}
use borrow.Author.Tests.{eqb-true, leb-true, ne_eqb}
use Rattle.lists.specs.Lists.{any}
use Rattle.lists.proofs.Bools.{and_l, and_r}
use Rattle.records.specs.Names.{graphic, head_or0, zero_ended, holds_name}
use Rattle.rules.specs.State.{record_of}
use Rattle.rules.specs.Promise.{Live}
use Rattle.names.specs.Check.{is_blank}
use Rattle.queue.proofs.Below.{base_facts}
use Rattle.queue.proofs.SoundRuns.{sound_parts}
use Rattle.prediction.proofs.Sounds.{queue_part}
use Rattle.hands.specs.State.{base_of, state_of}
use Rattle.hands.specs.Sound.{sound_tool}
use Rattle.hands.proofs.Sounds.{predicted_part}
use Rattle.hands.proofs.SoundTools.{tool_sound}
use Rattle.tool.specs.Whole.{Whole, sound_whole}

not_blank : (b z : ℕ) → ((eqb b 0 && eqb z 0) || graphic b) ≡ true → is_blank b ≡ false
not_blank b z h = go (eqb b 0 && eqb z 0) refl h
  where
    go : (w : Bool) → (eqb b 0 && eqb z 0) ≡ w → (w || graphic b) ≡ true → is_blank b ≡ false
    go true e h = let o = eqb-true b 0 (and_l (eqb b 0) _ e) in ne_eqb b 0x20 (λ q. omega arith)
    go false e h = let o = leb-true 0x21 b (and_l (leb 0x21 b) _ h) in ne_eqb b 0x20 (λ q. omega arith)

none_blank : (l : List ℕ) → zero_ended l ≡ true → any is_blank l ≡ false
unfolding any zero_ended
none_blank [] h = refl
none_blank (b ∷ l) h = rw (not_blank b (head_or0 l) (and_l _ _ h)) (none_blank l (and_r ((eqb b 0 && eqb (head_or0 l) 0) || graphic b) _ h))

pub stored_plain : (t : Whole) → sound_whole t ≡ true → (k : ℕ) → Live (base_of (state_of t.layered)) k
    → any is_blank (record_of (base_of (state_of t.layered)) k).name.bytes ≡ false
unfolding sound_whole holds_name
stored_plain t h k l =
    let s = state_of t.layered in
    let q = s.predicted in
    let p = sound_parts q.queued (queue_part q (predicted_part s (tool_sound t.layered (and_l (sound_tool t.layered) _ h)))) in
    none_blank _ (and_l _ _ ((base_facts q.queued.mapped p.mapped).records k l).named)
