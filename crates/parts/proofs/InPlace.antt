-- A port or a record that is written, as the tables have it.
use Prim.Native.Nat.{ℕ, suc, ◌+◌, ◌<◌, ◌≤◌}
use native.Mathlib.Omega.{arith}
use mathlib.Core.Path.{◌≡◌, refl, ap, sym, ◌∙◌}
use mathlib.Core.Logic.{◌≢◌}
use mathlib.Core.List.{List, [], ◌∷◌}
use lib.ListN.{length, get_or, set, length-set}
use lib.Seq.{sets, length-sets, get_or-set_same, get_or-set_other}
use Rattle.records.specs.declared.port.Port.{Port}
use Rattle.records.specs.declared.carrier.Carrier.{Carrier}
use Rattle.records.specs.Carriers.{no_carrier}
use Rattle.image.specs.Image.{table, byte_at, port_from, carrier_from, port_bytes, carrier_bytes, port_start, carrier_start, tool_from, moved_up}
use Rattle.lists.specs.Lists.{shifted}
use Rattle.image.proofs.Table.{table_same, table_set, table_shifted, getD_table, length_table, is_table}
use Rattle.image.proofs.Moved.{early_stays, moves}
use Rattle.image.proofs.Written.{before_stays}
use Rattle.image.proofs.Laid.{split, port_same, carrier_same, length_port, length_carrier}
use Rattle.image.proofs.Laid.{port_there, port_early, port_late, carrier_there, carrier_early, carrier_late}
use Rattle.parts.specs.Apply.{to_ports, to_carriers}

module _ (m : List ℕ) (full : length m ≡ 1891) where
  pub port_put : (k : ℕ) (q : Port) → k < 4 → length q.tie.bytes ≡ 16
      → tool_from (sets m (port_start k) (port_bytes q)) ≡ to_ports (tool_from m) (set (tool_from m).ports k q)
  unfolding tool_from
  port_put k q b e =
      rw (
        before_stays m (port_start k) (port_bytes q) 0 (omega arith),
        before_stays m (port_start k) (port_bytes q) 1 (omega arith),
        before_stays m (port_start k) (port_bytes q) 2 (omega arith),
        table_set 4 (λ j. port_from m (port_start j)) (λ j. port_from n (port_start j)) k q
            (port_there m (port_start k) q e (omega arith)) others,
        table_same 36 (λ j. carrier_from n (carrier_start j)) (λ j. carrier_from m (carrier_start j)) records,
      )
    where
      n : List ℕ
      n = sets m (port_start k) (port_bytes q)

      others : (j : ℕ) → j < 4 → j ≢ k → port_from n (port_start j) ≡ port_from m (port_start j)
      others j c d =
          let l = length_port q e in
          split j k d (λ h. port_early m (port_start k) (port_bytes q) (port_start j) (omega arith))
          (λ h. port_late m (port_start k) (port_bytes q) (port_start j) (omega arith))

      records : (j : ℕ) → j < 36 → carrier_from n (carrier_start j) ≡ carrier_from m (carrier_start j)
      records j c = let l = length_port q e in carrier_late m (port_start k) (port_bytes q) (carrier_start j) (omega arith)

  pub carrier_put : (k : ℕ) (c : Carrier) → k < 36 → length c.name.bytes ≡ 16 → length c.map ≡ 25
      → tool_from (sets m (carrier_start k) (carrier_bytes c)) ≡ to_carriers (tool_from m) (tool_from m).count (set (tool_from m).carriers k c)
  unfolding tool_from
  carrier_put k c b e h =
      rw (
        before_stays m (carrier_start k) (carrier_bytes c) 0 (omega arith),
        before_stays m (carrier_start k) (carrier_bytes c) 1 (omega arith),
        before_stays m (carrier_start k) (carrier_bytes c) 2 (omega arith),
        table_same 4 (λ j. port_from n (port_start j)) (λ j. port_from m (port_start j)) ports,
        table_set 36 (λ j. carrier_from m (carrier_start j)) (λ j. carrier_from n (carrier_start j)) k c
            (carrier_there m (carrier_start k) c e h (omega arith)) others,
      )
    where
      n : List ℕ
      n = sets m (carrier_start k) (carrier_bytes c)

      ports : (j : ℕ) → j < 4 → port_from n (port_start j) ≡ port_from m (port_start j)
      ports j d = port_early m (carrier_start k) (carrier_bytes c) (port_start j) (omega arith)

      others : (j : ℕ) → j < 36 → j ≢ k → carrier_from n (carrier_start j) ≡ carrier_from m (carrier_start j)
      others j d u =
          let l = length_carrier c e h in
          split j k u (λ h. carrier_early m (carrier_start k) (carrier_bytes c) (carrier_start j) (omega arith))
          (λ h. carrier_late m (carrier_start k) (carrier_bytes c) (carrier_start j) (omega arith))

  -- what is written to the first three bytes leaves the tables as they are
  module _ (a : ℕ) (l : List ℕ) (head : a + length l ≤ 3) where
    pub ports_stay : table 4 (λ j. port_from (sets m a l) (port_start j)) ≡ table 4 (λ j. port_from m (port_start j))
    ports_stay = table_same 4 _ _ (λ j d. port_late m a l (port_start j) (omega arith))

    pub carriers_stay : table 36 (λ j. carrier_from (sets m a l) (carrier_start j)) ≡ table 36 (λ j. carrier_from m (carrier_start j))
    carriers_stay = table_same 36 _ _ (λ j d. carrier_late m a l (carrier_start j) (omega arith))

  -- how many records there are
  pub count_put : (v : ℕ) → tool_from (set m 2 v) ≡ to_carriers (tool_from m) v (tool_from m).carriers
  unfolding tool_from
  count_put v =
      rw (
        before_stays m 2 (v ∷ []) 0 (omega arith),
        before_stays m 2 (v ∷ []) 1 (omega arith),
        get_or-set_same m 2 v 0 (omega arith),
        ports_stay 2 (v ∷ []) (omega arith),
        carriers_stay 2 (v ∷ []) (omega arith),
      )

-- the record at k goes, and those after it move up
module _ (m : List ℕ) (k : ℕ) (b : k < 36) where
  abbrev moved : List ℕ
  moved = table 1891 (moved_up m (carrier_start k) 1841)

  moved_is : (i : ℕ) → i < 1891 → byte_at moved i ≡ moved_up m (carrier_start k) 1841 i
  moved_is i d = getD_table 1891 (moved_up m (carrier_start k) 1841) i 0 d

  head_stays : (i : ℕ) → i < carrier_start k → byte_at moved i ≡ byte_at m i
  head_stays i d = moved_is i (omega arith) ∙ early_stays m (carrier_start k) 1841 i d

  earlier : (j : ℕ) → j < k → carrier_from moved (carrier_start j) ≡ carrier_from m (carrier_start j)
  earlier j d = carrier_same moved m (carrier_start j) (carrier_start j) (λ i e. head_stays (carrier_start j + i) (omega arith))

  later : (j : ℕ) → k ≤ j → j < 35 → carrier_from moved (carrier_start j) ≡ carrier_from m (carrier_start (suc j))
  later j d e = carrier_same moved m (carrier_start j) (carrier_start (suc j)) up
    where
      up : (i : ℕ) → i < 50 → byte_at moved (carrier_start j + i) ≡ byte_at m (carrier_start (suc j) + i)
      up i h =
          let z : carrier_start j + i + 50 ≡ carrier_start (suc j) + i = omega arith in
          moved_is (carrier_start j + i) (omega arith)
          ∙ moves m (carrier_start k) 1841 (carrier_start j + i) (omega arith) (omega arith) ∙ rw z

  abbrev entry : ℕ → Carrier
  entry j = carrier_from moved (carrier_start j)

  abbrev ended : List Carrier
  ended = set (table 36 entry) 35 no_carrier

  other : (j : ℕ) → j < 35 → get_or ended j no_carrier ≡ entry j
  other j d = get_or-set_other (table 36 entry) 35 j no_carrier no_carrier (omega arith) ∙ getD_table 36 entry j no_carrier (omega arith)

  closed_up : ended ≡ shifted no_carrier (table 36 (λ j. carrier_from m (carrier_start j))) k
  closed_up =
      let l = length_table 36 entry in
      sym (is_table ended 36 no_carrier (length-set (table 36 entry) 35 no_carrier ∙ l))
      ∙ table_shifted 35 (λ j. carrier_from m (carrier_start j)) (λ j. get_or ended j no_carrier) k no_carrier b
      (λ j d. other j (omega arith) ∙ earlier j d) (λ j d e. other j e ∙ later j d e)
      (get_or-set_same (table 36 entry) 35 no_carrier no_carrier (omega arith))

  tables : to_carriers (tool_from moved) (tool_from moved).count (set (tool_from moved).carriers 35 no_carrier)
      ≡ to_carriers (tool_from m) (tool_from m).count (shifted no_carrier (tool_from m).carriers k)
  unfolding tool_from
  tables =
      rw (
        head_stays 0 (omega arith),
        head_stays 1 (omega arith),
        head_stays 2 (omega arith),
        table_same 4 (λ j. port_from moved (port_start j)) (λ j. port_from m (port_start j))
            (λ j d. port_same moved m (port_start j) (port_start j) (λ i e. head_stays (port_start j + i) (omega arith))),
        closed_up,
      )

  record_gone : tool_from (sets moved 1841 (carrier_bytes no_carrier))
      ≡ to_carriers (tool_from m) (tool_from m).count (shifted no_carrier (tool_from m).carriers k)
  record_gone = carrier_put moved (length_table 1891 (moved_up m (carrier_start k) 1841)) 35 no_carrier (omega arith) refl refl ∙ tables

  -- and there is one less
  pub removed_done : (v : ℕ) → tool_from (set (sets moved 1841 (carrier_bytes no_carrier)) 2 v)
      ≡ to_carriers (tool_from m) v (shifted no_carrier (tool_from m).carriers k)
  removed_done v =
      let l = length-sets moved 1841 (carrier_bytes no_carrier) in
      count_put (sets moved 1841 (carrier_bytes no_carrier)) (l ∙ length_table 1891 (moved_up m (carrier_start k) 1841)) v
      ∙ ap (λ t. to_carriers t v t.carriers) record_gone

-- a record more
pub pushed_done : (m : List ℕ) → length m ≡ 1891 → (k : ℕ) (c : Carrier) → k < 36 → length c.name.bytes ≡ 16 → length c.map ≡ 25
    → (v : ℕ)
    → tool_from (set (sets m (carrier_start k) (carrier_bytes c)) 2 v) ≡ to_carriers (tool_from m) v (set (tool_from m).carriers k c)
pushed_done m full k c b e h v =
    count_put (sets m (carrier_start k) (carrier_bytes c)) (length-sets m (carrier_start k) (carrier_bytes c) ∙ full) v
    ∙ ap (λ t. to_carriers t v t.carriers) (carrier_put m full k c b e h)
