-- A port and a carrier as bytes: how they are put together, and that they read back.
use Prim.Native.Nat.{ℕ}
use mathlib.Core.Path.{◌≡◌, refl, subst}
use mathlib.Core.List.{List, [], ◌∷◌, ◌++◌}
use lib.ListN.{length, get_or, set, replicate}
use lib.Seq.{sets}
use Rattle.records.specs.declared.port.Port.{Port}
use Rattle.records.specs.declared.carrier.Carrier.{Carrier}
use Rattle.rules.specs.declared.report.Report.{Report}
use Rattle.image.specs.Image.{table, port_from, carrier_from, port_bytes, carrier_bytes, report_from, report_bytes}
use Rattle.image.proofs.Table.{is_table}

-- a fact about a list of n numbers, from the same about every table
by_table : (P : List ℕ → Type 0) (n : ℕ) (l : List ℕ) → length l ≡ n → ((f : ℕ → ℕ) → P (table n f)) → P l
by_table P n l e h = subst P (is_table l n 0 e) (h (λ k. get_or l k 0))

pub port_made : (t a r v p g : ℕ) (n : List ℕ) → length n ≡ 16
    → set (set (set (sets (t ∷ a ∷ r ∷ replicate 19 0) 3 n) 19 v) 20 p) 21 g ≡ t ∷ a ∷ r ∷ (n ++ (v ∷ p ∷ g ∷ []))
unfolding table
port_made t a r v p g n e =
    by_table (λ n. set (set (set (sets (t ∷ a ∷ r ∷ replicate 19 0) 3 n) 19 v) 20 p) 21 g ≡ t ∷ a ∷ r ∷ (n ++ (v ∷ p ∷ g ∷ []))) 16 n e
    (λ f. refl)

-- the same where the tie is put first
pub port_written : (t a r v p g : ℕ) (n : List ℕ) → length n ≡ 16
    → set (set (set (set (set (set (sets (replicate 22 0) 3 n) 0 t) 1 a) 2 r) 19 v) 20 p) 21 g ≡ t ∷ a ∷ r ∷ (n ++ (v ∷ p ∷ g ∷ []))
unfolding table
port_written t a r v p g n e =
    by_table (λ n. set (set (set (set (set (set (sets (replicate 22 0) 3 n) 0 t) 1 a) 2 r) 19 v) 20 p) 21 g ≡ t ∷ a ∷ r ∷ (n ++ (v ∷ p ∷ g ∷ []))) 16 n e
    (λ f. refl)

pub port_back : (q : Port) → length q.tie.bytes ≡ 16 → port_from (port_bytes q) 0 ≡ q
unfolding table port_bytes
port_back q e =
    by_table (λ n. port_from (q.transfer ∷ q.access ∷ q.reserved ∷ (n ++ (q.movement ∷ q.pod ∷ q.tag ∷ []))) 0
    ≡ record {
      transfer = q.transfer;
      access = q.access;
      reserved = q.reserved;
      tie = record { bytes = n };
      movement = q.movement;
      pod = q.pod;
      tag = q.tag;
    })
    16 q.tie.bytes e (λ f. refl)

-- a carrier's bytes, when its name and its map stand in them
abbrev made : (p s o n x t i l a : ℕ) → List ℕ → List ℕ → List ℕ
made p s o n x t i l a name map =
    set (set (set (set (set (set (set (set (set
    (sets (sets (replicate 50 0) 0 name) 22 map) 16 p) 17 s) 18 o) 19 n) 20 x) 21 t) 47 i) 48 l) 49 a

abbrev spelt : (p s o n x t i l a : ℕ) → List ℕ → List ℕ → List ℕ
spelt p s o n x t i l a name map = name ++ (p ∷ s ∷ o ∷ n ∷ x ∷ t ∷ (map ++ (i ∷ l ∷ a ∷ [])))

pub carrier_made : (p s o n x t i l a : ℕ) (name map : List ℕ) → length name ≡ 16 → length map ≡ 25
    → made p s o n x t i l a name map ≡ spelt p s o n x t i l a name map
unfolding table
carrier_made p s o n x t i l a name map e h =
    by_table (λ u. made p s o n x t i l a u map ≡ spelt p s o n x t i l a u map) 16 name e
    (λ f. by_table (λ v. made p s o n x t i l a (table 16 f) v ≡ spelt p s o n x t i l a (table 16 f) v) 25 map h (λ g. refl))

abbrev called : Carrier → List ℕ → List ℕ → Carrier
called c n m = record {
  name = record { bytes = n };
  place = c.place;
  spot = c.spot;
  port = c.port;
  opened = c.opened;
  cancelled = c.cancelled;
  cameout = c.cameout;
  map = m;
  id = c.id;
  slot = c.slot;
  accessing = c.accessing;
}

pub carrier_back : (c : Carrier) → length c.name.bytes ≡ 16 → length c.map ≡ 25 → carrier_from (carrier_bytes c) 0 ≡ c
unfolding table carrier_bytes
carrier_back c e h =
    by_table (λ n. carrier_from (carrier_bytes (called c n c.map)) 0 ≡ called c n c.map) 16 c.name.bytes e
    (λ f. by_table (λ m. carrier_from (carrier_bytes (called c (table 16 f) m)) 0 ≡ called c (table 16 f) m) 25 c.map h (λ g. refl))

pub report_made : (m p o w : ℕ) (n : List ℕ) → length n ≡ 16
    → set (set (set (set (sets (replicate 20 0) 2 n) 0 m) 1 p) 18 o) 19 w ≡ m ∷ p ∷ (n ++ (o ∷ w ∷ []))
unfolding table
report_made m p o w n e =
    by_table (λ n. set (set (set (set (sets (replicate 20 0) 2 n) 0 m) 1 p) 18 o) 19 w ≡ m ∷ p ∷ (n ++ (o ∷ w ∷ []))) 16 n e (λ f. refl)

pub report_back : (r : Report) → length r.name.bytes ≡ 16 → report_from (report_bytes r) 0 ≡ r
unfolding table report_bytes
report_back r e =
    by_table (λ n. report_from (r.model ∷ r.port ∷ (n ++ (r.old ∷ r.new ∷ []))) 0
    ≡ record { model = r.model; port = r.port; name = record { bytes = n }; old = r.old; new = r.new })
    16 r.name.bytes e (λ f. refl)
