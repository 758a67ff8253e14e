use borrow.Author.Tests.{eq-eqb, ne_eqb, le-leb, lt-leb}
use native.Mathlib.Omega.{arith}
use Prim.Native.Nat.{ℕ, ◌-◌, ◌<◌, ◌≤◌}
use mathlib.Core.Path.{◌≡◌, sym, ◌∙◌}
use mathlib.Core.Bool.{true, false, ◌||◌}
use mathlib.Core.List.{List}
use lib.ListN.{length}
use lib.Dec.{eqb}
use Rattle.std.specs.Prelude.{Option, Some, None}
use Rattle.items.specs.Formats.{BINARY, ASCII, code, format_of, size_of}
use Rattle.items.specs.Heads.{number_at}
use Rattle.items.specs.declared.formats.Format.{Format}
use Rattle.values.specs.Values.{number_of, held_in, value_in}
use Rattle.values.specs.declared.value.Value.{Value}
use Rattle.values.specs.declared.value.Value.TheVariants as held
use Rattle.values.proofs.Sizes.{size_small}
use Rattle.values.proofs.value.value_in.Goals.{then-many-size-via-then-many-size, then-many-size-via-else-many-size+then-msg-at, then-many-size-via-else-many-size+else-msg-at+then-msg-at-2}
use Rattle.values.proofs.value.value_in.Goals as goal

module _ (m : List ℕ) (c at many : ℕ) (f : Format) (e : format_of c ≡ Some f) where
  bytes : (eqb (code f) BINARY || eqb (code f) ASCII) ≡ true
      → Some (held.Bytes f (record { at = at; many = many })) ≡ value_in m c (record { at = at; many = many })
  unfolding held_in
  bytes b = rw (e, b)

  module _ (b : (eqb (code f) BINARY || eqb (code f) ASCII) ≡ false) where
    other_many : (many ≡ size_of (code f) → ⊥) → None ≡ value_in m c (record { at = at; many = many })
    unfolding held_in
    other_many n = rw (e, b, ne_eqb many (size_of (code f)) n)

    module _ (n : many ≡ size_of (code f)) where
      past : length m < at → None ≡ value_in m c (record { at = at; many = many })
      unfolding held_in
      past l = rw (e, b, eq-eqb many (size_of (code f)) n, lt-leb at (length m) l)

      module _ (l : at ≤ length m) where
        cut : length m - at < many → None ≡ value_in m c (record { at = at; many = many })
        unfolding held_in
        cut k = rw (e, b, eq-eqb many (size_of (code f)) n, le-leb at (length m) l, lt-leb many (length m - at) k)

        whole : many ≤ length m - at → (v : Option Value) → v ≡ number_of f (number_at m at many)
            → v ≡ value_in m c (record { at = at; many = many })
        unfolding held_in
        whole k v q = rw (e, b, eq-eqb many (size_of (code f)) n, le-leb at (length m) l, le-leb many (length m - at) k) q

pub returns-in_err-format : goal.returns-in_err-format
unfolding held_in
returns-in_err-format c = rw (c.from_residual.ensures, sym c.of.ensures ∙ c.in_err-format.was)

pub returns-then-is_bytes : goal.returns-then-is_bytes
returns-then-is_bytes c =
    let a = c.args in
    bytes a.msg.now a.code a.at a.many c.in_ok-format.format (sym c.of.ensures ∙ c.in_ok-format.was) (sym c.is_bytes.ensures ∙ c.if-is_bytes.true)

pub returns-then-many-size : goal.returns-then-many-size
returns-then-many-size c =
    let a = c.args in
    let f = c.in_ok-format.format in
    let e : format_of a.code ≡ Some f = sym c.of.ensures ∙ c.in_ok-format.was in
    let b : (eqb (code f) BINARY || eqb (code f) ASCII) ≡ false = sym c.is_bytes.ensures ∙ c.if-is_bytes.false in
    elim c.then-many-size.branch [
      | then-many-size-via-then-many-size w ↦
          other_many a.msg.now a.code a.at a.many f e b (λ n. w.if-many-size.true (n ∙ sym c.size.ensures))
      | then-many-size-via-else-many-size+then-msg-at w ↦
          past a.msg.now a.code a.at a.many f e b (w.if-many-size.false ∙ c.size.ensures) w.if-msg-at.true
      | then-many-size-via-else-many-size+else-msg-at+then-msg-at-2 w ↦
          cut a.msg.now a.code a.at a.many f e b (w.if-many-size.false ∙ c.size.ensures) w.if-msg-at.false w.if-msg-at-2.true
    ]

pub number-requires : goal.number-requires
number-requires c =
    let n = c.if-many-size.false ∙ c.size.ensures in
    let s = size_small (code c.in_ok-format.format) in
    (omega arith, omega arith)

pub number_of-requires : goal.number_of-requires
number_of-requires c = rw (c.if-many-size.false ∙ c.size.ensures) at c.number.ensures.upper_bound

pub returns : goal.returns
returns c =
    let a = c.args in
    let f = c.in_ok-format.format in
    let e : format_of a.code ≡ Some f = sym c.of.ensures ∙ c.in_ok-format.was in
    whole a.msg.now a.code a.at a.many f e (sym c.is_bytes.ensures ∙ c.if-is_bytes.false) (c.if-many-size.false ∙ c.size.ensures)
    c.if-msg-at.false c.if-msg-at-2.false c.number_of.result (rw c.number.ensures.value at c.number_of.ensures)
