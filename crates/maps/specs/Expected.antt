-- Request P1: expected maps.
use Rattle.std.specs.Prelude.{ℕ, Bool, not, cond, ◌&&◌, ◌||◌, List, length, eqb}
use Rattle.lists.specs.Lists.{every, same_list}
use Rattle.records.specs.Maps.{in_map}
use Rattle.passes.specs.Passes.{is_zero}
use Rattle.follow.specs.Follow.{blank}

-- 1 (empty) or 3 (correctly occupied)
abbrev pub is_slot : ℕ → Bool
is_slot a = eqb a 1 || eqb a 3

-- What Bind and CarrierNotification may carry: 25 codes, each 1 or 3, or no map (length zero).
unfoldable pub is_expected : List ℕ → Bool
is_expected codes = eqb (length codes) 0 || (eqb (length codes) 25 && every is_slot codes)

-- A record keeps it as 25 bytes, which are zero where there is no map.
abbrev pub no_map : List ℕ
no_map = blank 25

abbrev pub is_none : List ℕ → Bool
is_none kept = every is_zero kept

abbrev pub is_kept : List ℕ → Bool
is_kept kept = is_none kept || every is_slot kept

-- SlotMap equals it at all 25 slots; where there is no map nothing does.
unfoldable pub equals : List ℕ → List ℕ → Bool
equals kept map = not (is_none kept) && same_list kept map

-- Bind and CarrierNotification carry a map
unfoldable pub carries : ℕ → Bool
carries number = eqb number 1 || eqb number 3

-- the map that a record is made with; rows 5, 6 and 16 make records too, and these have none
unfoldable pub new_map : ℕ → List ℕ → List ℕ
new_map number codes = cond (carries number) (in_map codes) no_map
