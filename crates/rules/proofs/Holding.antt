-- What a tool that holds a state shows of it.
use Prim.Native.Nat.{ℕ, ◌≤◌}
use native.Mathlib.Omega.{arith}
use mathlib.Core.Path.{◌≡◌, ap, sym, ◌∙◌}
use mathlib.Core.Bool.{true}
use mathlib.Core.List.{List}
use lib.ListN.{length, get_or, take, drop, replicate}
use lib.Seq.{length-take-le}
use borrow.Author.Tests.{eqb-true, leb-true}
use Rattle.lists.specs.Lists.{every, fill}
use Rattle.lists.proofs.Bools.{and_l, and_r}
use Rattle.lists.proofs.Tables.{length_fill, getD_fill, tail_is}
use Rattle.lists.proofs.Tests.{list_is}
use Rattle.records.specs.declared.name.Name.{Name}
use Rattle.records.specs.declared.port.Port.{Port}
use Rattle.records.specs.declared.carrier.Carrier.{Carrier}
use Rattle.records.specs.Names.{no_name}
use Rattle.records.specs.Ports.{no_port}
use Rattle.records.specs.Carriers.{no_carrier}
use Rattle.rules.specs.declared.tool.Tool.{Tool}
use Rattle.rules.specs.State.{state_of, spot_of, port_of, record_of, port_at, record_at}
use Rattle.rules.specs.Sound.{zero_port, zero_carrier, unused_zero, sound, sound_tool}
use Rattle.rules.specs.Held.{Held}
use Rattle.rules.proofs.Names.{name_is}

-- a table of n entries of which k are used
module _ {A : Type 0} (n k : ℕ) (z : A) (l : List A) (full : l ≡ fill n z (take k l)) (few : k ≤ n) where
  used_long : length (take k l) ≡ k
  used_long = let e : length l ≡ n = ap length full ∙ length_fill n z (take k l) in length-take-le k l (omega arith)

  used_at : (j : ℕ) → get_or l j z ≡ get_or (take k l) j z
  used_at j = ap (λ m. get_or m j z) full ∙ getD_fill n z (take k l) j (let e = used_long in omega arith)

module _ (t : Tool) (h : Held t) where
  pub used_held : length (take t.used t.ports) ≡ t.used
  used_held = used_long 4 t.used no_port t.ports h.ports h.few_ports

  pub count_held : length (take t.count t.carriers) ≡ t.count
  count_held = used_long 36 t.count no_carrier t.carriers h.carriers h.few_carriers

  pub port_held : (p : ℕ) → port_at t p ≡ port_of (state_of t) p
  unfolding port_at port_of
  port_held p = used_at 4 t.used no_port t.ports h.ports h.few_ports (spot_of p)

  pub record_held : (k : ℕ) → record_at t k ≡ record_of (state_of t) k
  unfolding record_at record_of
  record_held k = used_at 36 t.count no_carrier t.carriers h.carriers h.few_carriers k

-- a port and a record that pass the test for zero are zero
port_of_fact : (q : Port) {a b c d e f : ℕ} {n : Name} → q.transfer ≡ a → q.access ≡ b → q.reserved ≡ c → q.tie ≡ n
    → q.movement ≡ d → q.pod ≡ e → q.tag ≡ f
    → q ≡ record { transfer = a; access = b; reserved = c; tie = n; movement = d; pod = e; tag = f }
port_of_fact q a b c n d e f = rw (sym a, sym b, sym c, sym n, sym d, sym e, sym f)

pub zero_port_fact : (q : Port) → zero_port q ≡ true → q ≡ no_port
unfolding zero_port
zero_port_fact q e =
    port_of_fact q
    (eqb-true _ _ (search (and_l, and_r) depth 9)) (eqb-true _ _ (search (and_l, and_r) depth 9))
    (eqb-true _ _ (search (and_l, and_r) depth 9)) (name_is q.tie no_name (search (and_l, and_r) depth 9))
    (eqb-true _ _ (search (and_l, and_r) depth 9)) (eqb-true _ _ (search (and_l, and_r) depth 9))
    (eqb-true _ _ (search (and_l, and_r) depth 9))

carrier_of : (x : Carrier) {b c d e f g i j k : ℕ} {n : Name} {m : List ℕ} → x.name ≡ n → x.place ≡ b → x.spot ≡ c
    → x.port ≡ d → x.opened ≡ e → x.cancelled ≡ f → x.cameout ≡ g → x.map ≡ m → x.id ≡ i → x.slot ≡ j → x.accessing ≡ k
    → x
    ≡ record { name = n; place = b; spot = c; port = d; opened = e; cancelled = f; cameout = g; map = m; id = i; slot = j; accessing = k }
carrier_of x n b c d e f g m i j k = rw (sym n, sym b, sym c, sym d, sym e, sym f, sym g, sym m, sym i, sym j, sym k)

pub zero_carrier_fact : (x : Carrier) → zero_carrier x ≡ true → x ≡ no_carrier
unfolding zero_carrier
zero_carrier_fact x e =
    carrier_of x (name_is x.name no_name (search (and_l, and_r) depth 13))
    (eqb-true _ _ (search (and_l, and_r) depth 13)) (eqb-true _ _ (search (and_l, and_r) depth 13))
    (eqb-true _ _ (search (and_l, and_r) depth 13)) (eqb-true _ _ (search (and_l, and_r) depth 13))
    (eqb-true _ _ (search (and_l, and_r) depth 13)) (eqb-true _ _ (search (and_l, and_r) depth 13))
    (list_is x.map (replicate 25 0) (search (and_l, and_r) depth 13))
    (eqb-true _ _ (search (and_l, and_r) depth 13)) (eqb-true _ _ (search (and_l, and_r) depth 13))
    (eqb-true _ _ (search (and_l, and_r) depth 13))

module _ (t : Tool) (ports : length t.ports ≡ 4) (carriers : length t.carriers ≡ 36) where
  pub ended_held : t.used ≤ 4 → t.count ≤ 36 → every zero_port (drop t.used t.ports) ≡ true
      → every zero_carrier (drop t.count t.carriers) ≡ true → Held t
  ended_held a b c d = record {
    few_ports = a;
    few_carriers = b;
    ports = tail_is zero_port no_port zero_port_fact t.used t.ports c ∙ ap (λ n. fill n no_port (take t.used t.ports)) ports;
    carriers =
        tail_is zero_carrier no_carrier zero_carrier_fact t.count t.carriers d
        ∙ ap (λ n. fill n no_carrier (take t.count t.carriers)) carriers;
  }

  pub sound_held : sound_tool t ≡ true → Held t
  unfolding sound_tool unused_zero
  sound_held h =
      ended_held (leb-true t.used 4 (search (and_l, and_r) depth 5)) (leb-true t.count 36 (search (and_l, and_r) depth 5))
      (search (and_l, and_r) depth 5) (search (and_l, and_r) depth 5)

pub tool_sound : (t : Tool) → sound_tool t ≡ true → sound (state_of t) ≡ true
unfolding sound_tool
tool_sound t h = search (and_l, and_r) depth 5
