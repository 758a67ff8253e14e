-- What the answer says of every table, of any length and with any bytes.
use Prim.Native.Nat.{ℕ, ◌+◌, ◌<◌}
use native.Mathlib.Omega.{arith}
use mathlib.Core.Path.{◌≡◌}
use mathlib.Core.Bool.{true, false}
use mathlib.Core.List.{List, ◌++◌}
use lib.ListN.{length, get_or, take, length-append}
use lib.Seq.{length-take-le}
use borrow.Author.Tests.{lt-ltb, le-ltb}
use Rattle.lists.proofs.Tests.{nowhere, where_holds}
use Rattle.records.specs.declared.carrier.Carrier.{Carrier}
use Rattle.waiting.specs.Waiting.{waits, some_waits, first_waiting, stopped_at, found_in}
use Rattle.waiting.proofs.Where.{where_within, where_past, none_earlier, rest_unasked}

module _ (table : List Carrier) where
  -- some carrier waits: the position is one of the table's, its carrier waits, and it is the last that was read
  module _ (e : some_waits table ≡ true) where
    pub position_within : (found_in table).position < length table
    unfolding found_in stopped_at
    position_within = where_within waits table e

    pub position_waits : (d : Carrier) → waits (get_or table (found_in table).position d) ≡ true
    unfolding found_in stopped_at
    position_waits d = where_holds waits table d (where_within waits table e)

    pub read_to_it : (found_in table).read ≡ (found_in table).position + 1
    unfolding found_in stopped_at
    read_to_it = rw (lt-ltb (first_waiting table) (length table) (where_within waits table e))

    -- whatever stands after the records that were read, the answer is the same
    read_reaches : (rest : List Carrier) → first_waiting table < length (take (first_waiting table + 1) table ++ rest)
    read_reaches rest =
        let b = where_within waits table e in
        let k = length-take-le (first_waiting table + 1) table (omega arith) in
        let h = length-append (take (first_waiting table + 1) table) rest in
        omega arith

    pub rest_unread : (rest : List Carrier) → found_in (take (found_in table).read table ++ rest) ≡ found_in table
    unfolding found_in stopped_at
    rest_unread rest =
        let w = lt-ltb (first_waiting table) (length table) (where_within waits table e) in
        let r = lt-ltb (first_waiting table) _ (read_reaches rest) in
        rw (w, rest_unasked waits table rest e, r)

  -- none before the position waits
  pub none_before : (d : Carrier) (j : ℕ) → j < (found_in table).position → waits (get_or table j d) ≡ false
  unfolding found_in stopped_at
  none_before d j b = none_earlier waits table d j b

  -- none waits: the position is the length, so no record's, and all were read
  module _ (e : some_waits table ≡ false) where
    pub position_past : (found_in table).position ≡ length table
    unfolding found_in stopped_at
    position_past = where_past waits table e

    pub read_all : (found_in table).read ≡ length table
    unfolding found_in stopped_at
    read_all = rw (where_past waits table e, le-ltb (length table) (length table) (omega arith))

    pub none_waits : (d : Carrier) (j : ℕ) → j < length table → waits (get_or table j d) ≡ false
    none_waits d j b = nowhere waits table d (let h = where_past waits table e in omega arith) j b
