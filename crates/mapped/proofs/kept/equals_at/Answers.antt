use Rattle.std.proofs.Common.{rules}
use Prim.Native.Nat.{ℕ, ◌*◌, ◌<◌}
use mathlib.Core.Path.{◌≡◌, refl}
use mathlib.Core.Bool.{false, not, ◌&&◌}
use mathlib.Core.List.{List}
use lib.ListN.{length, get_or}
use Rattle.lists.specs.Lists.{every, same_list}
use Rattle.image.specs.Image.{table, bytes_from}
use Rattle.image.proofs.Table.{is_table}
use Rattle.passes.specs.Passes.{is_zero}
use Rattle.follow.proofs.Entries.{entry_out}
use Rattle.maps.specs.Expected.{no_map, equals}
use Rattle.mapped.specs.Bytes.{maps_from}
use Rattle.mapped.proofs.InBytes.{map_is}
use Rattle.mapped.proofs.kept.equals_at.Goals as goal

equal_is : (m : List ℕ) (k : ℕ) (x : List ℕ) → k < 36 → length x ≡ 25
    → (not (every is_zero (bytes_from m (25 * k) 25)) && same_list (bytes_from m (25 * k) 25) (table 25 (λ i. get_or x i 0)))
    ≡ equals (get_or (maps_from m) k no_map) x
unfolding equals
equal_is m k x h l = rw (map_is m k h, is_table x 25 0 l)

none_equal : (x : List ℕ) → equals no_map x ≡ false
unfolding equals every
none_equal x = refl

pub returns-then-k-lt-RECORDS : goal.returns-then-k-lt-RECORDS
returns-then-k-lt-RECORDS c =
    let a = c.args in
    let l : length a.map ≡ 25 = search rules in
    rw (c.same_codes.ensures, c.zeros-none.ensures) (equal_is a.m.now a.k a.map c.if-k-lt-RECORDS.true l)

pub returns-else-k-lt-RECORDS : goal.returns-else-k-lt-RECORDS
returns-else-k-lt-RECORDS c =
    let a = c.args in
    rw (entry_out 0 25 a.m.now a.k c.if-k-lt-RECORDS.false, none_equal a.map)
