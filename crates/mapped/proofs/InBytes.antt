-- The maps in the bytes, one by one.
use Prim.Native.Nat.{ℕ, ◌+◌, ◌*◌, ◌<◌, ◌≤◌}
use native.Mathlib.Omega.{arith}
use mathlib.Core.Path.{◌≡◌, refl, ap, ap₂, ◌∙◌}
use mathlib.Core.Logic.{◌≢◌}
use mathlib.Core.Bool.{Bool, true, false, ◌||◌}
use mathlib.Core.List.{List, [], ◌∷◌}
use lib.ListN.{length, get_or, take, drop, replicate, length-drop}
use lib.Seq.{get_or-drop, length-take-le}
use lib.Dec.{eqb}
use borrow.Author.Tests.{eqb-true, ne_eqb}
use Rattle.lists.specs.Lists.{every, fill, same_list}
use Rattle.lists.proofs.Bools.{and_l, and_r}
use Rattle.lists.proofs.Tables.{tail_is, getD_fill}
use Rattle.lists.proofs.Tests.{every_at, list_is, list_same}
use Rattle.lists.proofs.Parts.{every_all}
use Rattle.image.specs.Image.{table, byte_at, bytes_from}
use Rattle.image.proofs.Table.{table_same, length_table}
use Rattle.passes.specs.Passes.{is_zero}
use Rattle.passes.proofs.Turns.{take_table}
use Rattle.follow.specs.Follow.{entries_from}
use Rattle.follow.proofs.Entries.{entries_long, entry_is}
use Rattle.maps.specs.Expected.{is_slot, no_map, is_none, is_kept}
use Rattle.mapped.specs.Bytes.{maps_from}

pub maps_long : (m : List ℕ) → length (maps_from m) ≡ 36
maps_long m = entries_long 0 25 m

at : (k : ℕ) → 0 + 25 * k ≡ 25 * k
at k = omega arith

pub map_is : (m : List ℕ) (k : ℕ) → k < 36 → get_or (maps_from m) k no_map ≡ bytes_from m (25 * k) 25
map_is m k h = entry_is 0 25 m k h ∙ ap (λ o. bytes_from m o 25) (at k)

-- the first n
pub maps_first : (m : List ℕ) (n : ℕ) → n ≤ 36 → take n (maps_from m) ≡ table n (λ k. bytes_from m (25 * k) 25)
unfolding entries_from
maps_first m n h =
    take_table n 36 (λ k. bytes_from m (0 + 25 * k) 25) h ∙ table_same n _ _ (λ k b. ap (λ o. bytes_from m o 25) (at k))

-- ── No map after those of the records ──
zeros_are : (l : List ℕ) → every is_zero l ≡ true → l ≡ replicate (length l) 0
unfolding every
zeros_are [] e = refl
zeros_are (x ∷ l) e = ap₂ ◌∷◌ (eqb-true x 0 (and_l (eqb x 0) _ e)) (zeros_are l (and_r (eqb x 0) _ e))

module _ (m : List ℕ) (n : ℕ) (none : every is_none (drop n (maps_from m)) ≡ true) where
  none_at : (j : ℕ) → j < length (drop n (maps_from m)) → same_list (get_or (drop n (maps_from m)) j no_map) no_map ≡ true
  none_at j b =
      let l = maps_long m in
      let d = length-drop n (maps_from m) in
      let z = zeros_are (get_or (drop n (maps_from m)) j no_map) (every_at is_none (drop n (maps_from m)) no_map none j b) in
      let w : length (get_or (drop n (maps_from m)) j no_map) ≡ 25 =
      ap length (get_or-drop n (maps_from m) j no_map ∙ map_is m (n + j) (omega arith)) ∙ length_table 25 (λ i. byte_at m (25 * (n + j) + i)) in
      rw (z, w) (list_same no_map)

  pub maps_held : maps_from m ≡ fill 36 no_map (take n (maps_from m))
  maps_held =
      tail_is (λ e. same_list e no_map) no_map (λ x e. list_is x no_map e) n (maps_from m)
      (every_all (λ e. same_list e no_map) (drop n (maps_from m)) no_map none_at)
      ∙ ap (λ w. fill w no_map (take n (maps_from m))) (maps_long m)

  pub map_held : n ≤ 36 → (k : ℕ) → get_or (maps_from m) k no_map ≡ get_or (take n (maps_from m)) k no_map
  map_held f k =
      let l = maps_long m in
      let c = length-take-le n (maps_from m) (omega arith) in
      ap (λ l. get_or l k no_map) maps_held ∙ getD_fill 36 no_map (take n (maps_from m)) k (omega arith)

-- ── The first byte tells whether there is a map ──
or_none : (a : Bool) → (a || false) ≡ a
or_none true = refl
or_none false = refl

module _ (m : List ℕ) (o : ℕ) where
  first_is : byte_at m (o + 0) ≡ byte_at m o
  first_is = let z : o + 0 ≡ o = omega arith in rw z

  pub none_begins : byte_at m o ≡ 0 → is_kept (bytes_from m o 25) ≡ is_none (bytes_from m o 25)
  unfolding table every
  none_begins e = rw (first_is, e) (or_none _)

  pub slots_begin : byte_at m o ≢ 0 → is_kept (bytes_from m o 25) ≡ every is_slot (bytes_from m o 25)
  unfolding table every
  slots_begin n = rw (first_is, ne_eqb (byte_at m o) 0 n)
