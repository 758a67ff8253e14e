-- The bytes say just what the tool says: two images that hold one tool are the same in every byte, and so for reports.
use Prim.Native.Nat.{ℕ, zero, suc, ◌+◌, ◌*◌, ◌-◌, ◌<◌, ◌≤◌}
use native.Mathlib.Omega.{arith}
use mathlib.Core.Path.{◌≡◌, refl, ap, sym, ◌∙◌}
use mathlib.Core.Bool.{Bool, true, false}
use mathlib.Core.List.{List, [], ◌∷◌, ◌++◌}
use lib.ListN.{length, get_or}
use lib.Seq.{ext_get_or}
use lib.Dec.{ltb}
use borrow.Author.Tests.{ltb-true, ltb-false}
use Rattle.records.specs.Ports.{no_port}
use Rattle.records.specs.Carriers.{no_carrier}
use Rattle.rules.specs.Reports.{no_report}
use Rattle.image.specs.Image.{table, byte_at, bytes_from, port_from, carrier_from, report_from, port_bytes, carrier_bytes}
use Rattle.image.specs.Image.{report_bytes, port_start, carrier_start, report_start, tool_from, reports_from}
use Rattle.image.proofs.Table.{table_same, getD_table}
use Rattle.image.proofs.Laid.{used_is, places_is, count_is, port_is, record_is}
use Rattle.image.proofs.Reported.{reported_is, item_is}

-- bytes one after the other, taken apart as a port, a carrier and a report are
port_parts : (h : ℕ → ℕ) → table 22 h ≡ h 0 ∷ h 1 ∷ h 2 ∷ (table 16 (λ i. h (3 + i)) ++ (h 19 ∷ h 20 ∷ h 21 ∷ []))
unfolding table
port_parts h = refl

carrier_parts : (h : ℕ → ℕ) → table 50 h
    ≡ table 16 h ++ (h 16 ∷ h 17 ∷ h 18 ∷ h 19 ∷ h 20 ∷ h 21 ∷ (table 25 (λ i. h (22 + i)) ++ (h 47 ∷ h 48 ∷ h 49 ∷ [])))
unfolding table
carrier_parts h = refl

report_parts : (h : ℕ → ℕ) → table 20 h ≡ h 0 ∷ h 1 ∷ (table 16 (λ i. h (2 + i)) ++ (h 18 ∷ h 19 ∷ []))
unfolding table
report_parts h = refl

module _ (m : List ℕ) (o : ℕ) where
  abbrev at : ℕ → ℕ
  at i = byte_at m (o + i)

  from_start : at 0 ≡ byte_at m o
  from_start = let e : o + 0 ≡ o = omega arith in rw e

  onward : (s n : ℕ) → table n (λ i. at (s + i)) ≡ bytes_from m (o + s) n
  onward s n = table_same n (λ i. at (s + i)) (λ i. byte_at m (o + s + i)) (λ i b. let e : o + (s + i) ≡ o + s + i = omega arith in rw e)

  pub port_spelt : table 22 at ≡ port_bytes (port_from m o)
  unfolding port_bytes
  port_spelt = port_parts at ∙ rw (from_start, onward 3 16)

  pub carrier_spelt : table 50 at ≡ carrier_bytes (carrier_from m o)
  unfolding carrier_bytes
  carrier_spelt = carrier_parts at ∙ rw (onward 22 25)

  report_spelt : table 20 at ≡ report_bytes (report_from m o)
  unfolding report_bytes
  report_spelt = report_parts at ∙ rw (from_start, onward 2 16)

-- byte i stands in one of the n entries of s bytes from o on
module _ (s : ℕ) (none : s * 0 ≡ 0) (more : (n : ℕ) → s * suc n ≡ s + s * n) (X : Type 0) where
  in_entry : (n o i : ℕ) → o ≤ i → i < o + s * n → ((k f : ℕ) → k < n → f < s → i ≡ o + s * k + f → X) → X
  in_entry zero o i a b g = absurd (omega (arith, none))
  in_entry (suc n) o i a b g =
      go (ltb i (o + s)) refl
      (λ h. in_entry n (o + s) i h (omega (arith, more n)) (λ k f c d q. g (suc k) f (omega arith) d (omega (arith, more k))))
    where
      go : (c : Bool) → ltb i (o + s) ≡ c → (o + s ≤ i → X) → X
      go true e later = let h = ltb-true i (o + s) e in g 0 (i - o) (omega arith) (omega arith) (omega (arith, none))
      go false e later = later (ltb-false i (o + s) e)

module _ (a b : List ℕ) where
  -- where the same is read, the same bytes stand
  same_bytes : {A : Type 0} (from : List ℕ → ℕ → A) (bytes : A → List ℕ) (w o : ℕ) → ((m : List ℕ) → table w (at m o) ≡ bytes (from m o))
      → from a o ≡ from b o → (f : ℕ) → f < w → byte_at a (o + f) ≡ byte_at b (o + f)
  same_bytes from bytes w o spelt p f d =
      sym (getD_table w (at a o) f 0 d) ∙ ap (λ l. get_or l f 0) (spelt a ∙ ap bytes p ∙ sym (spelt b)) ∙ getD_table w (at b o) f 0 d

  module _ (e : tool_from a ≡ tool_from b) where
    port_byte : (k f : ℕ) → k < 4 → f < 22 → byte_at a (port_start k + f) ≡ byte_at b (port_start k + f)
    port_byte k f c =
        same_bytes port_from port_bytes 22 (port_start k) (λ m. port_spelt m (port_start k))
        (sym (port_is a k no_port c) ∙ ap (λ t. get_or t.ports k no_port) e ∙ port_is b k no_port c) f

    record_byte : (k f : ℕ) → k < 36 → f < 50 → byte_at a (carrier_start k + f) ≡ byte_at b (carrier_start k + f)
    record_byte k f c =
        same_bytes carrier_from carrier_bytes 50 (carrier_start k) (λ m. carrier_spelt m (carrier_start k))
        (sym (record_is a k no_carrier c) ∙ ap (λ t. get_or t.carriers k no_carrier) e ∙ record_is b k no_carrier c) f

    pub each_byte : (i : ℕ) → i < 1891 → byte_at a i ≡ byte_at b i
    each_byte zero h = sym (used_is a) ∙ ap (λ t. t.used) e ∙ used_is b
    each_byte (suc zero) h = sym (places_is a) ∙ ap (λ t. t.places) e ∙ places_is b
    each_byte (suc (suc zero)) h = sym (count_is a) ∙ ap (λ t. t.count) e ∙ count_is b
    each_byte (suc (suc (suc j))) h = go (ltb j 88) refl
      where
        i : ℕ
        i = suc (suc (suc j))

        go : (c : Bool) → ltb j 88 ≡ c → byte_at a i ≡ byte_at b i
        go true c =
            let d = ltb-true j 88 c in
            in_entry 22 refl (λ n. omega arith) (byte_at a i ≡ byte_at b i) 4 3 i (omega arith) (omega arith)
            (λ k f p q z. rw z (port_byte k f p q))
        go false c =
            let d = ltb-false j 88 c in
            in_entry 50 refl (λ n. omega arith) (byte_at a i ≡ byte_at b i) 36 91 i (omega arith) (omega arith)
            (λ k f p q z. rw z (record_byte k f p q))

    pub one_image : length a ≡ 1891 → length b ≡ 1891 → a ≡ b
    one_image full whole = ext_get_or 0 a b (full ∙ sym whole) (λ i h. each_byte i (omega arith))

  module _ (e : reports_from a ≡ reports_from b) where
    report_byte : (k f : ℕ) → k < 10 → f < 20 → byte_at a (report_start k + f) ≡ byte_at b (report_start k + f)
    report_byte k f c =
        same_bytes report_from report_bytes 20 (report_start k) (λ m. report_spelt m (report_start k))
        (sym (item_is a k no_report c) ∙ ap (λ t. get_or t.items k no_report) e ∙ item_is b k no_report c) f

    pub reported_byte : (i : ℕ) → i < 201 → byte_at a i ≡ byte_at b i
    reported_byte zero h = sym (reported_is a) ∙ ap (λ t. t.count) e ∙ reported_is b
    reported_byte (suc j) h =
        in_entry 20 refl (λ n. omega arith) (byte_at a (suc j) ≡ byte_at b (suc j)) 10 1 (suc j) (omega arith) (omega arith)
        (λ k f p q z. rw z (report_byte k f p q))

    pub one_list : length a ≡ 201 → length b ≡ 201 → a ≡ b
    one_list full whole = ext_get_or 0 a b (full ∙ sym whole) (λ i h. reported_byte i (omega arith))
