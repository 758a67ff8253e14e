-- Zero bytes after what is used are ports and records that are zero.
use Prim.Native.Nat.{ℕ, ◌+◌, ◌-◌, ◌*◌, ◌/◌, ◌%◌, ◌<◌, ◌≤◌}
use native.Mathlib.Omega.{arith}
use mathlib.Core.Path.{◌≡◌, ap, sym, ◌∙◌}
use mathlib.Core.Bool.{Bool, true}
use mathlib.Core.List.{List, []}
use lib.ListN.{length, get_or, drop, length-drop}
use lib.Seq.{get_or-drop}
use borrow.Author.Tests.{eq-eqb, eqb-true}
use Rattle.lists.specs.Lists.{every, same_list}
use Rattle.lists.proofs.Bools.{same_test}
use Rattle.lists.proofs.Tests.{every_at}
use Rattle.lists.proofs.Parts.{every_all}
use Rattle.records.specs.Names.{same_name}
use Rattle.rules.specs.Sound.{zero_port, zero_carrier}
use Rattle.rules.proofs.Holding.{zero_port_fact, zero_carrier_fact}
use Rattle.image.specs.Image.{table, byte_at, bytes_from, port_from, carrier_from, port_bytes, carrier_bytes, port_start, carrier_start}
use Rattle.image.proofs.Table.{getD_table, length_table}
use Rattle.image.proofs.Laid.{port_same, carrier_same}
use Rattle.image.proofs.Only.{port_spelt, carrier_spelt}
use Rattle.passes.specs.Passes.{is_zero, record_on}
use Rattle.soundness.specs.Seats.{port_on}
use Rattle.passes.proofs.Turns.{every_on, every_of, table_none}

-- what holds of a table's rest holds at each position of it
module _ {A : Type 0} (F : A → Bool) (f : ℕ → A) (n w : ℕ) where
  pub rest_on : every F (drop n (table w f)) ≡ true → (k : ℕ) → n ≤ k → k < w → F (f k) ≡ true
  rest_on e k a b =
      let z : n + (k - n) ≡ k = omega arith in
      let l = length_table w f in
      let r = every_at F (drop n (table w f)) (f 0) e (k - n) (simp length-drop (omega arith)) in
      ap F (sym (getD_table w f k (f 0) b)) ∙ rw (get_or-drop, z) at r

  rest_of : ((k : ℕ) → n ≤ k → k < w → F (f k) ≡ true) → every F (drop n (table w f)) ≡ true
  rest_of h =
      every_all F (drop n (table w f)) (f 0)
      (λ j b. let l = length_table w f in let c : j < length (table w f) - n = simp length-drop at b in
      ap F (get_or-drop n (table w f) j (f 0) ∙ getD_table w f (n + j) (f 0) (omega arith)) ∙ h (n + j) (omega arith) (omega arith))

module _ (m : List ℕ) (o : ℕ) where
  zero_at : (w : ℕ) → bytes_from m o w ≡ table w (λ _. 0) → (r : ℕ) → r < w → byte_at m (o + r) ≡ 0
  zero_at w z r h = sym (getD_table w (λ i. byte_at m (o + i)) r 0 h) ∙ ap (λ l. get_or l r 0) z ∙ getD_table w (λ _. 0) r 0 h

  carrier_bytes_zero : zero_carrier (carrier_from m o) ≡ true → (r : ℕ) → r < 50 → byte_at m (o + r) ≡ 0
  unfolding carrier_bytes
  carrier_bytes_zero e = zero_at 50 (carrier_spelt m o ∙ ap carrier_bytes (zero_carrier_fact (carrier_from m o) e) ∙ table_none 50 0)

  port_bytes_zero : zero_port (port_from m o) ≡ true → (r : ℕ) → r < 22 → byte_at m (o + r) ≡ 0
  unfolding port_bytes
  port_bytes_zero e = zero_at 22 (port_spelt m o ∙ ap port_bytes (zero_port_fact (port_from m o) e) ∙ table_none 22 0)

  bytes_zero_carrier : ((r : ℕ) → r < 50 → byte_at m (o + r) ≡ 0) → zero_carrier (carrier_from m o) ≡ true
  unfolding zero_carrier same_name same_list table
  bytes_zero_carrier h = ap zero_carrier (carrier_same m [] o 0 h)

  bytes_zero_port : ((r : ℕ) → r < 22 → byte_at m (o + r) ≡ 0) → zero_port (port_from m o) ≡ true
  unfolding zero_port same_name same_list table
  bytes_zero_port h = ap zero_port (port_same m [] o 0 h)

-- entries of w bytes, each of which is zero where its bytes are
module _ {A : Type 0} (Z : A → Bool) (m : List ℕ) (from : ℕ → A) (w : ℕ)
    (there : (o : ℕ) → Z (from o) ≡ true → (r : ℕ) → r < w → byte_at m (o + r) ≡ 0)
    (back : (o : ℕ) → ((r : ℕ) → r < w → byte_at m (o + r) ≡ 0) → Z (from o) ≡ true) where
  unused : (start : ℕ → ℕ) (n all o l : ℕ)
      → ((i : ℕ) → i < l → (n + i / w < all) × (i % w < w) × (o + i ≡ start (n + i / w) + i % w))
      → ((k r : ℕ) → n ≤ k → k < all → r < w → (w * (k - n) + r < l) × (start k + r ≡ o + (w * (k - n) + r)))
      → every Z (drop n (table all (λ k. from (start k)))) ≡ every is_zero (bytes_from m o l)
  unused start n all o l split join =
      same_test _ _
      (λ e. every_of is_zero (λ i. byte_at m (o + i)) l
      (λ i h. let x = split i h in
      eq-eqb _ 0 (ap (byte_at m) x.2 ∙ there (start (n + i / w))
      (rest_on Z (λ k. from (start k)) n all e (n + i / w) (omega arith) x.0) (i % w) x.1)))
      (λ e. rest_of Z (λ k. from (start k)) n all
      (λ k a c. back (start k) (λ r h. let x = join k r a c h in
      ap (byte_at m) x.1 ∙ eqb-true _ 0 (every_on is_zero (λ i. byte_at m (o + i)) l e (w * (k - n) + r) x.0))))

module _ (m : List ℕ) (n : ℕ) where
  pub unused_carriers : n ≤ 36
      → every zero_carrier (drop n (table 36 (record_on m))) ≡ every is_zero (bytes_from m (91 + 50 * n) (1800 - 50 * n))
  unused_carriers b =
      unused zero_carrier m (carrier_from m) 50 (carrier_bytes_zero m) (bytes_zero_carrier m) carrier_start n 36 (91 + 50 * n) (1800 - 50 * n)
      (λ i h. (omega arith, omega arith, omega arith)) (λ k r a c d. (omega arith, omega arith))

  pub unused_ports : n ≤ 4 → every zero_port (drop n (table 4 (port_on m))) ≡ every is_zero (bytes_from m (3 + 22 * n) (88 - 22 * n))
  unused_ports b =
      unused zero_port m (port_from m) 22 (port_bytes_zero m) (bytes_zero_port m) port_start n 4 (3 + 22 * n) (88 - 22 * n)
      (λ i h. (omega arith, omega arith, omega arith)) (λ k r a c d. (omega arith, omega arith))
