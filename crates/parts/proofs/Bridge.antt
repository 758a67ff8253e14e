-- An effect carried out on the tables is the effect carried out on the lists.
use Prim.Native.Nat.{ℕ, ◌+◌, ◌-◌, ◌≤◌}
use native.Mathlib.Omega.{arith}
use mathlib.Core.Path.{◌≡◌, refl, ap, sym, ◌∙◌}
use mathlib.Core.Bool.{Bool, true, false, cond}
use mathlib.Core.List.{List, [], ◌∷◌, ◌++◌}
use lib.ListN.{length, set, length-append, length-set}
use lib.Seq.{set_out, take_all, take-append-le}
use lib.Dec.{ltb}
use borrow.Author.Tests.{ltb-true, ltb-false}
use Rattle.lists.specs.Lists.{fill, without, with_new, shifted}
use Rattle.lists.proofs.Tables.{set_fill, push_fill, shift_fill, without_out, length_without, length_fill}
use Rattle.records.specs.declared.port.Port.{Port}
use Rattle.records.specs.declared.carrier.Carrier.{Carrier}
use Rattle.records.specs.Ports.{no_port}
use Rattle.records.specs.Carriers.{no_carrier}
use Rattle.rules.specs.declared.tool.Tool.{Tool}
use Rattle.rules.specs.declared.row.Effect.{Effect}
use Rattle.rules.specs.State.{State, state_of, in_tool, spot_of}
use Rattle.rules.specs.Held.{Held}
use Rattle.rules.specs.Row.{enact}
use Rattle.rules.proofs.Holding.{used_held, count_held}
use Rattle.parts.specs.Apply.{to_ports, to_carriers, with_port, with_record, removed, pushed, applied}

-- neither changes how many records there are
kept : (b : Bool) (u t : Tool) → u.count ≡ t.count → (cond b u t).count ≡ t.count
kept true u t e = e
kept false u t e = refl

pub count_with_port : (t : Tool) (p : ℕ) (q : Port) → (with_port t p q).count ≡ t.count
unfolding with_port
count_with_port t p q = kept (ltb (spot_of p) t.used) _ t refl

pub count_with_record : (t : Tool) (k : ℕ) (c : Carrier) → (with_record t k c).count ≡ t.count
unfolding with_record
count_with_record t k c = kept (ltb k t.count) _ t refl

-- The tool t holds the state s.
record Holds (t : Tool) (s : State) : Type 0 where
  pub used : t.used ≡ length s.ports
  pub places : t.places ≡ s.places
  pub count : t.count ≡ length s.carriers
  pub few_ports : length s.ports ≤ 4
  pub few : length s.carriers ≤ 36
  pub ports : t.ports ≡ fill 4 no_port s.ports
  pub carriers : t.carriers ≡ fill 36 no_carrier s.carriers

holds : (t : Tool) → Held t → Holds t (state_of t)
holds t h =
    let u = used_held t h in
    let n = count_held t h in
    let a = h.few_ports in
    let b = h.few_carriers in
    record {
      used = sym u;
      places = refl;
      count = sym n;
      few_ports = omega arith;
      few = omega arith;
      ports = h.ports;
      carriers = h.carriers;
    }

held_in : (t : Tool) (s : State) → Holds t s → t ≡ in_tool s
unfolding in_tool
held_in t s h =
    let a = take_all 4 s.ports h.few_ports in
    let b = take_all 36 s.carriers h.few in
    rw (a, b, ← h.used, ← h.places, ← h.count, ← h.ports, ← h.carriers)

abbrev of_ports : State → List Port → State
of_ports s l = record { ports = l; carriers = s.carriers; places = s.places }

abbrev of_carriers : State → List Carrier → State
of_carriers s l = record { ports = s.ports; carriers = l; places = s.places }

module _ (t : Tool) (s : State) (h : Holds t s) where
  port_step : (p : ℕ) (q : Port) → Holds (with_port t p q) (of_ports s (set s.ports (spot_of p) q))
  unfolding with_port
  port_step p q = go (ltb (spot_of p) t.used) refl
    where
      go : (b : Bool) → ltb (spot_of p) t.used ≡ b
          → Holds (cond b (to_ports t (set t.ports (spot_of p) q)) t) (of_ports s (set s.ports (spot_of p) q))
      go true e =
          let k = ltb-true (spot_of p) t.used e in
          let u = h.used in
          let f = h.few_ports in
          record {
            used = simp length-set u;
            places = h.places;
            count = h.count;
            few_ports = simp length-set f;
            few = h.few;
            ports = ap (λ l. set l (spot_of p) q) h.ports ∙ set_fill 4 no_port s.ports (spot_of p) q (omega arith);
            carriers = h.carriers;
          }
      go false e =
          let k = ltb-false (spot_of p) t.used e in
          let u = h.used in
          rw (set_out s.ports (spot_of p) q (omega arith)) h

  record_step : (k : ℕ) (c : Carrier) → Holds (with_record t k c) (of_carriers s (set s.carriers k c))
  unfolding with_record
  record_step k c = go (ltb k t.count) refl
    where
      go : (b : Bool) → ltb k t.count ≡ b
          → Holds (cond b (to_carriers t t.count (set t.carriers k c)) t) (of_carriers s (set s.carriers k c))
      go true e =
          let i = ltb-true k t.count e in
          let n = h.count in
          let f = h.few in
          record {
            used = h.used;
            places = h.places;
            count = simp length-set n;
            few_ports = h.few_ports;
            few = simp length-set f;
            ports = h.ports;
            carriers = ap (λ l. set l k c) h.carriers ∙ set_fill 36 no_carrier s.carriers k c (omega arith);
          }
      go false e =
          let i = ltb-false k t.count e in
          let n = h.count in
          rw (set_out s.carriers k c (omega arith)) h

  remove_step : (k : ℕ) → Holds (removed t k) (of_carriers s (without k s.carriers))
  unfolding removed
  remove_step k = go (ltb k t.count) refl
    where
      go : (b : Bool) → ltb k t.count ≡ b
          → Holds (cond b (to_carriers t (t.count - 1) (shifted no_carrier t.carriers k)) t) (of_carriers s (without k s.carriers))
      go true e =
          let i = ltb-true k t.count e in
          let n = h.count in
          let f = h.few in
          let w = length_without s.carriers k (omega arith) in
          record {
            used = h.used;
            places = h.places;
            count = omega arith;
            few_ports = h.few_ports;
            few = omega arith;
            ports = h.ports;
            carriers = ap (λ l. shifted no_carrier l k) h.carriers ∙ shift_fill 36 no_carrier s.carriers k (omega arith) (omega arith);
          }
      go false e =
          let i = ltb-false k t.count e in
          let n = h.count in
          rw (without_out s.carriers k (omega arith)) h

  push_step : (b : Bool) (c : Carrier) → pushed t b c ≡ in_tool (of_carriers s (with_new b c s.carriers))
  unfolding pushed in_tool
  push_step false c = held_in t s h
  push_step true c = go (ltb t.count 36) refl
    where
      go : (b : Bool) → ltb t.count 36 ≡ b
          → cond b (to_carriers t (t.count + 1) (set t.carriers t.count c)) t ≡ in_tool (of_carriers s (s.carriers ++ (c ∷ [])))
      go true e =
          let i = ltb-true t.count 36 e in
          let n = h.count in
          let w = length-append s.carriers (c ∷ []) in
          held_in _ _ (record {
            used = h.used;
            places = h.places;
            count = omega arith;
            few_ports = h.few_ports;
            few = omega arith;
            ports = h.ports;
            carriers =
                ap (λ l. set l t.count c) h.carriers
                ∙ ap (λ k. set (fill 36 no_carrier s.carriers) k c) h.count
                ∙ push_fill 36 no_carrier s.carriers c;
          })
      go false e = held_in t s h ∙ full
        where
          full : in_tool s ≡ in_tool (of_carriers s (s.carriers ++ (c ∷ [])))
          full =
              let i = ltb-false t.count 36 e in
              let n = h.count in
              let g = length_fill 36 no_carrier s.carriers in
              let a : fill 36 no_carrier (s.carriers ++ (c ∷ [])) ≡ fill 36 no_carrier s.carriers =
              sym (push_fill 36 no_carrier s.carriers c) ∙ set_out _ _ _ (omega arith) in
              rw (a, take-append-le 36 s.carriers (c ∷ []) (omega arith))

pub bridge : (t : Tool) → Held t → (e : Effect) → applied t e ≡ in_tool (enact e (state_of t))
unfolding enact
bridge t h e =
    let a = port_step t (state_of t) (holds t h) e.port e.becomes in
    let b = record_step _ _ a e.changes e.next in
    let d = remove_step _ _ b e.goes in
    push_step _ _ d e.made e.next
