-- The four answers to a message: 20 to 24, 25, 26, and what the tool gets.
use Prim.Native.Nat.{ℕ, ◌≤◌, ◌<◌}
use mathlib.Core.Path.{◌≡◌, refl, ap, sym, ◌∙◌}
use mathlib.Core.Bool.{Bool, true, false, not, cond, ◌&&◌}
use mathlib.Core.List.{List}
use lib.ListN.{length}
use lib.Dec.{eqb}
use borrow.Author.Tests.{eq-eqb, ne_eqb, lt-ltb, le-ltb}
use Rattle.items.specs.Reading.{read_message, Walked, walked}
use Rattle.std.specs.Prelude.{Option, None, Result, Ok, Err}
use Rattle.std.specs.Result.{is_err}
use Rattle.std.specs.Option.{ok_or}
use Rattle.records.specs.Refusals.{number}
use Rattle.records.specs.declared.refusal.Refusal.{Refusal}
use Rattle.records.specs.declared.refusal.Refusal.TheVariants as refusal
use Rattle.items.proofs.Refusals.{numbered}
use Rattle.secs.specs.declared.text.Action.{Action}
use Rattle.secs.specs.declared.text.Action.TheVariants as action
use Rattle.secs.specs.Actions.{row_of_action}
use Rattle.secs.specs.Shape.{in_shape}
use Rattle.secs.specs.Request.{refusal_in, request_in, Handed}
use Rattle.secs.specs.InPlace.{parts_at, shape_at, row_at, taken_at}
use Rattle.secs.specs.declared.parts.Parts.{Parts}
use Rattle.lists.proofs.Bools.{clash}
use Rattle.secs.proofs.Shaped.{Taken, shape_is, taken_is}

module _ (m : List ℕ) where
  not_taken : (r : Refusal) → refusal_in m ≡ number r → Handed m (record { count = (read_message m).count; said = Err r })
  unfolding request_in
  not_taken r e = record {
    refused = sym e;
    counted = refl;
    input = rw (e, ne_eqb (number r) 0 (numbered r));
    inside = tt;
  }

  taken : {o : (read_message m).refusal ≡ 0} → refusal_in m ≡ 0 → Taken m o → (a : Action) → row_of_action a ≡ row_at m (parts_at m).action
      → Handed m (record { count = (read_message m).count; said = Ok (taken_at m (parts_at m) a) })
  unfolding request_in taken_at
  taken n k a e = record {
    refused = sym n;
    counted = refl;
    input = k.input a e ∙ rw n;
    inside = k.inside;
  }

  module _ (w : Walked) (e : w ≡ walked (read_message m)) where
    pub in_reading : (r : Refusal) → w.refusal ≡ number r → Handed m (record { count = w.count; said = Err r })
    unfolding refusal_in
    in_reading r q =
        let n : (read_message m).refusal ≡ number r = rw e at q in
        rw e (not_taken r (rw (n, ne_eqb (number r) 0 (numbered r))))

    pub left_over : w.refusal ≡ 0 → w.at < length m → Handed m (record { count = w.count; said = Err refusal.BytesLeftOver })
    unfolding refusal_in
    left_over z l =
        let o : (read_message m).refusal ≡ 0 = rw e at z in
        let k : (read_message m).at < length m = rw e at l in
        rw e (not_taken refusal.BytesLeftOver (rw (eq-eqb _ 0 o, lt-ltb _ _ k)))

    module _ (z : w.refusal ≡ 0) (l : length m ≤ w.at) (p : Parts) (f : p ≡ parts_at m) (row : ℕ) (g : row ≡ row_at m p.action)
        (s : Bool)
        (h : s ≡ shape_at m p) where
      abbrev o : (read_message m).refusal ≡ 0
      o = rw e at z

      shaped : (s && w.single && not (eqb row 0)) ≡ in_shape m (read_message m).found
      shaped = rw (h, g, f, e) (shape_is m o)

      whole : refusal_in m ≡ cond (in_shape m (read_message m).found) 0 26
      unfolding refusal_in
      whole = let k : length m ≤ (read_message m).at = rw e at l in rw (eq-eqb _ 0 o, le-ltb _ _ k)

      pub other_shape : (s && w.single && not (eqb row 0)) ≡ false → Handed m (record { count = w.count; said = Err refusal.ShapeOrAction })
      other_shape t =
          let i : in_shape m (read_message m).found ≡ false = sym shaped ∙ t in
          rw e (not_taken refusal.ShapeOrAction (whole ∙ rw i))

      pub in_shape_fact : (a : Action) → row_of_action a ≡ row → (s && w.single && not (eqb row 0)) ≡ true
          → Handed m (record { count = w.count; said = Ok (taken_at m p a) })
      in_shape_fact a h t =
          let i : in_shape m (read_message m).found ≡ true = sym shaped ∙ t in
          let r : row_of_action a ≡ row_at m (parts_at m).action = rw (← f) (h ∙ g) in
          rw (f, e) (taken (whole ∙ rw i) (taken_is m o i) a r)

-- ── What a ground has said ──
abbrev Said : Result Unit Refusal → Result Unit Refusal → Type 0
Said s t = s ≡ t

pub when_refused : (b : Bool) (r e : Refusal) → Said (cond b (Err r) (Ok tt)) (Err e) → (b ≡ true) × (r ≡ e)
when_refused true r e q = (refl, cc)
when_refused false r e q = clash refl (sym (ap is_err q))

pub when_passed : (b : Bool) (r : Refusal) → Said (cond b (Err r) (Ok tt)) (Ok tt) → b ≡ false
when_passed true r q = clash refl (ap is_err q)
when_passed false r q = refl

pub unless_refused : (b : Bool) (r e : Refusal) → Said (cond b (Ok tt) (Err r)) (Err e) → (b ≡ false) × (r ≡ e)
unless_refused true r e q = clash refl (sym (ap is_err q))
unless_refused false r e q = (refl, cc)

pub unless_passed : (b : Bool) (r : Refusal) → Said (cond b (Ok tt) (Err r)) (Ok tt) → b ≡ true
unless_passed true r q = refl
unless_passed false r q = clash refl (ap is_err q)

abbrev Said_action : Result Action Refusal → Result Action Refusal → Type 0
Said_action s t = s ≡ t

pub other_refusal : (o : Option Action) (r e : Refusal) → o ≡ None → Said_action (Err e) (ok_or o r) → r ≡ e
other_refusal o r e n q = let k = rw n at q in cc

pub has_row : (a : Action) → eqb (row_of_action a) 0 ≡ false
has_row action.Bind = refl
has_row action.CarrierNotification = refl
has_row action.ProceedWithCarrier = refl
has_row action.CancelCarrier = refl
