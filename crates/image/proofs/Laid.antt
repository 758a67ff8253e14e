-- What the bytes that are written make of the tool.
use Prim.Native.Nat.{ℕ, ◌+◌, ◌<◌, ◌≤◌}
use native.Mathlib.Nat.{zero-add}
use native.Mathlib.Omega.{arith}
use mathlib.Core.Path.{◌≡◌, refl, ap, ◌∙◌}
use mathlib.Core.Logic.{◌≢◌}
use mathlib.Core.Bool.{Bool, true, false}
use mathlib.Core.List.{List, [], ◌∷◌, ◌++◌}
use lib.ListN.{length, get_or, length-append, get_or-eq_default}
use lib.Seq.{sets}
use lib.Dec.{ltb}
use borrow.Author.Tests.{ltb-true, ltb-false}
use Rattle.records.specs.declared.port.Port.{Port}
use Rattle.records.specs.declared.carrier.Carrier.{Carrier}
use Rattle.image.specs.Image.{byte_at, bytes_from, name_from, port_from, carrier_from, report_from, port_bytes}
use Rattle.image.specs.Image.{carrier_bytes, port_start, carrier_start, tool_from}
use Rattle.image.proofs.Table.{table_same, length_table, getD_table}
use Rattle.image.proofs.Written.{before_stays, after_stays, stands_there}
use Rattle.image.proofs.Bytes.{port_back, carrier_back}

-- of two positions one is the earlier
pub split : {X : Type 0} (j k : ℕ) → j ≢ k → (j < k → X) → (k < j → X) → X
split {X} j k d f g = go (ltb j k) refl
  where
    go : (b : Bool) → ltb j k ≡ b → X
    go true e = f (ltb-true j k e)
    go false e = let h = ltb-false j k e in g (omega arith)

module _ (m n : List ℕ) where
  -- the same bytes in another place are the same
  abbrev Alike : ℕ → ℕ → ℕ → Type 0
  Alike k o p = (i : ℕ) → i < k → byte_at m (o + i) ≡ byte_at n (p + i)

  bytes_same : (o p s k l : ℕ) → s + k ≤ l → Alike l o p → bytes_from m (o + s) k ≡ bytes_from n (p + s) k
  bytes_same o p s k l b h =
      table_same k (λ i. byte_at m (o + s + i)) (λ i. byte_at n (p + s + i))
      (λ i c. let a : o + s + i ≡ o + (s + i) = omega arith in let d : p + s + i ≡ p + (s + i) = omega arith in
      rw (a, d) (h (s + i) (omega arith)))

  first_same : (o p l : ℕ) → 0 < l → Alike l o p → byte_at m o ≡ byte_at n p
  first_same o p l b h =
      let a : o + 0 ≡ o = omega arith in let d : p + 0 ≡ p = omega arith in rw (a, d) at (h 0 b)

  name_same : (o p l : ℕ) → 16 ≤ l → Alike l o p → name_from m o ≡ name_from n p
  name_same o p l b h =
      let a : o + 0 ≡ o = omega arith in let d : p + 0 ≡ p = omega arith in
      ap (λ t. record { bytes = t }) (rw (a, d) at (bytes_same o p 0 16 l (omega arith) h))

  pub port_same : (o p : ℕ) → Alike 22 o p → port_from m o ≡ port_from n p
  port_same o p h =
      rw (
        first_same o p 22 (omega arith) h,
        h 1 (omega arith),
        h 2 (omega arith),
        bytes_same o p 3 16 22 (omega arith) h,
        h 19 (omega arith),
        h 20 (omega arith),
        h 21 (omega arith),
      )

  pub carrier_same : (o p : ℕ) → Alike 50 o p → carrier_from m o ≡ carrier_from n p
  carrier_same o p h =
      rw (
        name_same o p 50 (omega arith) h,
        h 16 (omega arith),
        h 17 (omega arith),
        h 18 (omega arith),
        h 19 (omega arith),
        h 20 (omega arith),
        h 21 (omega arith),
        bytes_same o p 22 25 50 (omega arith) h,
        h 47 (omega arith),
        h 48 (omega arith),
        h 49 (omega arith),
      )

  pub report_same : (o p : ℕ) → Alike 20 o p → report_from m o ≡ report_from n p
  report_same o p h =
      rw (
        first_same o p 20 (omega arith) h,
        h 1 (omega arith),
        bytes_same o p 2 16 20 (omega arith) h,
        h 18 (omega arith),
        h 19 (omega arith),
      )

pub length_port : (q : Port) → length q.tie.bytes ≡ 16 → length (port_bytes q) ≡ 22
unfolding port_bytes
length_port q e = let l = length-append q.tie.bytes (q.movement ∷ q.pod ∷ q.tag ∷ []) in omega arith

pub length_carrier : (c : Carrier) → length c.name.bytes ≡ 16 → length c.map ≡ 25 → length (carrier_bytes c) ≡ 50
unfolding carrier_bytes
length_carrier c e h =
    let l = length-append c.map (c.id ∷ c.slot ∷ c.accessing ∷ []) in
    let k = length-append c.name.bytes (c.place ∷ c.spot ∷ c.port ∷ c.opened ∷ c.cancelled ∷ c.cameout ∷
    (c.map ++ (c.id ∷ c.slot ∷ c.accessing ∷ []))) in
    omega arith

-- a port that is written is read back; one that lies apart stays
module _ (m : List ℕ) (o : ℕ) where
  pub port_there : (q : Port) → length q.tie.bytes ≡ 16 → o + 22 ≤ length m → port_from (sets m o (port_bytes q)) o ≡ q
  port_there q e b =
      let l = length_port q e in
      port_same (sets m o (port_bytes q)) (port_bytes q) o 0
      (λ i c. rw zero-add (stands_there m o (port_bytes q) i (omega arith) (omega arith))) ∙ port_back q e

  pub carrier_there : (c : Carrier) → length c.name.bytes ≡ 16 → length c.map ≡ 25 → o + 50 ≤ length m
      → carrier_from (sets m o (carrier_bytes c)) o ≡ c
  carrier_there c e h b =
      let l = length_carrier c e h in
      carrier_same (sets m o (carrier_bytes c)) (carrier_bytes c) o 0
      (λ i d. rw zero-add (stands_there m o (carrier_bytes c) i (omega arith) (omega arith)))
      ∙ carrier_back c e h

  -- what lies before or after is not touched
  pub port_early : (vs : List ℕ) (p : ℕ) → p + 22 ≤ o → port_from (sets m o vs) p ≡ port_from m p
  port_early vs p b = port_same (sets m o vs) m p p (λ i c. before_stays m o vs (p + i) (omega arith))

  pub port_late : (vs : List ℕ) (p : ℕ) → o + length vs ≤ p → port_from (sets m o vs) p ≡ port_from m p
  port_late vs p b = port_same (sets m o vs) m p p (λ i c. after_stays m o vs (p + i) (omega arith))

  pub carrier_early : (vs : List ℕ) (p : ℕ) → p + 50 ≤ o → carrier_from (sets m o vs) p ≡ carrier_from m p
  carrier_early vs p b = carrier_same (sets m o vs) m p p (λ i c. before_stays m o vs (p + i) (omega arith))

  pub carrier_late : (vs : List ℕ) (p : ℕ) → o + length vs ≤ p → carrier_from (sets m o vs) p ≡ carrier_from m p
  carrier_late vs p b = carrier_same (sets m o vs) m p p (λ i c. after_stays m o vs (p + i) (omega arith))

-- the first three bytes
pub used_is : (m : List ℕ) → (tool_from m).used ≡ byte_at m 0
unfolding tool_from
used_is m = refl

pub places_is : (m : List ℕ) → (tool_from m).places ≡ byte_at m 1
unfolding tool_from
places_is m = refl

pub count_is : (m : List ℕ) → (tool_from m).count ≡ byte_at m 2
unfolding tool_from
count_is m = refl

-- the tables
pub ports_long : (m : List ℕ) → length (tool_from m).ports ≡ 4
unfolding tool_from
ports_long m = length_table 4 (λ k. port_from m (port_start k))

pub carriers_long : (m : List ℕ) → length (tool_from m).carriers ≡ 36
unfolding tool_from
carriers_long m = length_table 36 (λ k. carrier_from m (carrier_start k))

pub port_is : (m : List ℕ) (k : ℕ) (d : Port) → k < 4 → get_or (tool_from m).ports k d ≡ port_from m (port_start k)
unfolding tool_from
port_is m k d b = getD_table 4 (λ k. port_from m (port_start k)) k d b

pub record_is : (m : List ℕ) (k : ℕ) (d : Carrier) → k < 36 → get_or (tool_from m).carriers k d ≡ carrier_from m (carrier_start k)
unfolding tool_from
record_is m k d b = getD_table 36 (λ k. carrier_from m (carrier_start k)) k d b

-- past their end
pub port_out : (m : List ℕ) (k : ℕ) (d : Port) → 4 ≤ k → get_or (tool_from m).ports k d ≡ d
port_out m k d b = let l = ports_long m in get_or-eq_default (tool_from m).ports d (omega arith)

pub record_out : (m : List ℕ) (k : ℕ) (d : Carrier) → 36 ≤ k → get_or (tool_from m).carriers k d ≡ d
record_out m k d b = let l = carriers_long m in get_or-eq_default (tool_from m).carriers d (omega arith)
