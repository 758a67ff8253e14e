-- The shape by position is the shape of the tree, and so is what the tool gets.
use Prim.Native.Nat.{ℕ, zero, suc, ◌+◌, ◌≤◌}
use mathlib.Core.Path.{◌≡◌, refl, sym, ap, ◌∙◌}
use mathlib.Core.Bool.{Bool, true, false, not, cond, ◌&&◌, ◌||◌}
use mathlib.Core.List.{List, []}
use lib.ListN.{length, get_or}
use lib.Dec.{eqb}
use Rattle.lists.specs.Lists.{every}
use Rattle.lists.proofs.Bools.{clash, and_l, and_r}
use Rattle.rules.specs.Seen.{input_of}
use Rattle.maps.specs.Expected.{carries}
use Rattle.items.specs.Tree.{Item, elements, bytes_at, single}
use Rattle.items.specs.Heads.{head_at}
use Rattle.items.specs.Reading.{read_message}
use Rattle.items.specs.declared.head.Span.{Span}
use Rattle.items.proofs.Found.{data_found}
use Rattle.std.specs.Prelude.{Some, None}
use Rattle.secs.specs.declared.text.Action.{Action}
use Rattle.secs.specs.Actions.{row_of_action}
use Rattle.secs.specs.Shape.{text_of, has_parts, is_pair, carrier_name, port, attributes, has_map, map_of, is_map, row_in, in_shape, byte_of}
use Rattle.secs.specs.Request.{port_in, codes_in, input_in, sent_codes, input_from}
use Rattle.secs.specs.InPlace.{parts_at, shape_at, row_at, value_at, has_map_at, is_map_at, codes_at, taken_at}
use Rattle.secs.proofs.Placed.{and_under, span_is}
use Rattle.secs.proofs.Five.{action', name', port', Five, five, Kinds, kinds, kinds_is, row_is}
use Rattle.secs.proofs.Attributes.{list', Pair, first_pair, pairs_is, has_map_is, map_is, codes_are}

leads : (a b c d : Bool) → (a && b && c && d) ≡ true → a ≡ true
leads true b c d t = refl
leads false b c d t = t

-- with no attribute there is none
no_first : (m : List ℕ) (at : ℕ) → (head_at m at).many ≡ 0 → has_map_at m at ≡ false
unfolding has_map_at
no_first m at e = rw e

-- the codes, or none
taken_codes : (b c : Bool) (l k : List ℕ) → (c ≡ true → l ≡ k) → b ≡ c → sent_codes (cond b (Some l) None) ≡ cond c k []
taken_codes true true l k e q = e refl
taken_codes true false l k e q = clash refl q
taken_codes false true l k e q = clash q refl
taken_codes false false l k e q = refl

same_input : {a b p q : ℕ} {n k c d : List ℕ} → a ≡ b → p ≡ q → n ≡ k → c ≡ d → input_of a p 0 n c ≡ input_of b q 0 k d
same_input e f g h = rw (e, f, g, h)

module _ (m : List ℕ) (ok : (read_message m).refusal ≡ 0) where
  abbrev x : Item Span
  x = (read_message m).found

  kinds_of : has_parts x ≡ true → Kinds m
  kinds_of t = kinds m (kinds_is m ok ∙ t)

  maps_is : (k : Kinds m) → every is_pair (elements (attributes x)) ≡ true
      → (not (has_map_at m (port' m).at) || is_map_at m (value_at m (port' m).at) ((port' m).count + 4)) ≡ (not (has_map m x) || is_map (map_of x))
  maps_is k t = go (list' m).many refl
    where
      go : (n : ℕ) → (list' m).many ≡ n
          → (not (has_map_at m (port' m).at) || is_map_at m (value_at m (port' m).at) ((port' m).count + 4)) ≡ (not (has_map m x) || is_map
          (map_of x))
      go zero e =
          let a : has_map_at m (port' m).at ≡ false = no_first m (port' m).at e in
          let b : has_map m x ≡ false = sym (has_map_is m ok k t) ∙ a in
          rw (a, b)
      go (suc n) e = rw (has_map_is m ok k t, map_is m ok k (first_pair m ok k n e t))

  pub shape_is : (shape_at m (parts_at m) && single x && not (eqb (row_at m (parts_at m).action) 0)) ≡ in_shape m x
  unfolding shape_at in_shape parts_at
  shape_is =
      and_under
      (and_under (and_under (and_under (kinds_is m ok) (λ t. pairs_is m ok (kinds_of t))) (λ t. maps_is (kinds_of (and_l _ _ t)) (and_r
      (has_parts x) _ t)))
      (λ t. refl))
      (λ t. ap (λ r. not (eqb r 0)) (row_is m ok (kinds_of (leads (has_parts x) (every is_pair (elements (attributes x))) (not
      (has_map m x) || is_map (map_of x)) (single x) t))))

  -- ── Of a message in the shape: row, port, name and codes ──
  module _ (k : Kinds m) where
    abbrev f : Five m
    f = five m ok k.five

    byte_is : get_or m (head_at m (name' m).at).body 0 ≡ byte_of m (port x)
    byte_is = rw (f.parts, span_is m 5 (name' m).at (name' m).count f.port k.port)

    port_is : cond (eqb (row_at m (parts_at m).action) 3) 0 (get_or m (head_at m (name' m).at).body 0) ≡ port_in m x
    unfolding port_in
    port_is = rw (row_is m ok k, byte_is)

    name_is : bytes_at m (record { at = (head_at m (action' m).at).body; many = (head_at m (action' m).at).many }) ≡ text_of m (carrier_name x)
    name_is = rw (f.parts, span_is m 5 (action' m).at (action' m).count f.name k.name)

    module _ (t : every is_pair (elements (attributes x)) ≡ true) (c : (not (has_map m x) || is_map (map_of x)) ≡ true) where
      first_is : has_map m x ≡ true → Pair m
      first_is h = go (list' m).many refl
        where
          go : (n : ℕ) → (list' m).many ≡ n → Pair m
          go zero e = clash h (sym (has_map_is m ok k t) ∙ no_first m (port' m).at e)
          go (suc n) e = first_pair m ok k n e t

      codes_is : sent_codes (cond (carries (row_at m (parts_at m).action) && has_map_at m (port' m).at)
          (Some (codes_at m 25 (head_at m (value_at m (port' m).at)).body)) None)
          ≡ codes_in m x
      unfolding codes_in
      codes_is =
          taken_codes (carries (row_at m (parts_at m).action) && has_map_at m (port' m).at) (carries (row_in m x) && has_map m x) _ _
          (λ q.
          let h = and_r (carries (row_in m x)) _ q in
          codes_are m ok k (first_is h) (rw h at c))
          (rw (row_is m ok k, has_map_is m ok k t))

  pub record Taken : Type 0 where
    pub input : (a : Action) → row_of_action a ≡ row_at m (parts_at m).action → input_from m (taken_at m (parts_at m) a) ≡ input_in m x
    pub inside : (head_at m (parts_at m).name).body + (head_at m (parts_at m).name).many ≤ length m

  pub taken_is : in_shape m x ≡ true → Taken
  unfolding in_shape parts_at taken_at
  taken_is t =
      let a = has_parts x in
      let b = every is_pair (elements (attributes x)) in
      let c = not (has_map m x) || is_map (map_of x) in
      let t₃ = and_l (a && b && c) _ (and_l (a && b && c && single x) _ t) in
      let t₂ = and_l (a && b) _ t₃ in
      let k = kinds_of (and_l a _ t₂) in
      record {
        input = λ act q. rw q (same_input (row_is m ok k) (port_is k) (name_is k) (codes_is k (and_r a _ t₂) (and_r (a && b) _ t₃)));
        inside = (data_found m 5 (action' m).at (action' m).count (five m ok k.five).name k.name).inside;
      }
