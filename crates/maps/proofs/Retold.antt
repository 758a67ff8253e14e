-- The history of a name here, beside its history in the run of document 01 that this run stands for.
use Prim.Native.Nat.{ℕ}
use mathlib.Core.Path.{◌≡◌, refl, sym, ◌∙◌}
use mathlib.Core.Bool.{Bool, true, false, ◌&&◌, ◌||◌}
use mathlib.Core.List.{List, [], ◌∷◌}
use Rattle.lists.specs.Lists.{any}
use Rattle.lists.proofs.Bools.{clash, and_l, and_r, and_i, or_l, or_r, or_other}
use Rattle.records.specs.declared.name.Name.{Name}
use Rattle.records.specs.Maps.{in_map}
use Rattle.rules.specs.History.{Event, done, announced_there, verifies, verified, was_cancelled, was_mapped, released}
use Rattle.maps.specs.Expected.{equals}
use Rattle.maps.specs.History.{made_with, matched}

-- one of two tests holds
either : {X : Type 0} (a b : Bool) → (a || b) ≡ true → (a ≡ true → X) → (b ≡ true → X) → X
either true b e f g = f refl
either false b e f g = g e

-- What document 01's history d says is said by the history h, with an equal map beside ProceedWithCarrier.
pub record Retold (n : Name) (d h : List Event) : Type 0 where
  pub verified : verified n d ≡ true → verified n h ≡ true
  pub cancelled : was_cancelled n h ≡ true → was_cancelled n d ≡ true
  pub mapped : was_mapped n d ≡ true → was_mapped n h ≡ true
  pub released : released n d ≡ true → (released n h || matched n h) ≡ true

pub retold_none : (n : Name) → Retold n [] []
unfolding verified was_mapped released was_cancelled any
retold_none n = record {
  verified = λ e. clash e refl;
  cancelled = λ e. clash e refl;
  mapped = λ e. clash e refl;
  released = λ e. clash e refl;
}

module _ (n : Name) (e : Event) (h : List Event) where
  verified_before : verified n h ≡ true → verified n (e ∷ h) ≡ true
  unfolding verified any
  verified_before x = or_r (verifies n e) x

  mapped_before : was_mapped n h ≡ true → was_mapped n (e ∷ h) ≡ true
  unfolding was_mapped any
  mapped_before x = or_r (done 20 n e) x

  mapped_now : done 20 n e ≡ true → was_mapped n (e ∷ h) ≡ true
  unfolding was_mapped any
  mapped_now x = or_l _ x

  cancelled_before : done 6 n e ≡ false → was_cancelled n (e ∷ h) ≡ true → was_cancelled n h ≡ true
  unfolding was_cancelled any
  cancelled_before d x = or_other (done 6 n e) (any (done 6 n) h) x d

  released_before : (released n h || matched n h) ≡ true → (released n (e ∷ h) || matched n (e ∷ h)) ≡ true
  unfolding released matched
  released_before x =
      either (released n h) (matched n h) x (λ y. or_l _ (or_r (done 5 n e && was_mapped n h) y))
      (λ y. or_r (released n (e ∷ h)) (or_r (done 20 n e && equals (made_with h) (in_map e.input.codes)) y))

  released_now : done 5 n e ≡ true → was_mapped n h ≡ true → (released n (e ∷ h) || matched n (e ∷ h)) ≡ true
  unfolding released
  released_now x y = or_l _ (or_l _ (and_i x y))

-- ── A refused input: nothing was done ──
pub retold_refused : (n : Name) (e : Event) (d h : List Event) → done 6 n e ≡ false → Retold n d h → Retold n d (e ∷ h)
retold_refused n e d h q r = record {
  verified = λ x. verified_before n e h (r.verified x);
  cancelled = λ x. r.cancelled (cancelled_before n e h q x);
  mapped = λ x. mapped_before n e h (r.mapped x);
  released = λ x. released_before n e h (r.released x);
}

-- ── An input that is accepted here as there ──
module _ (n : Name) (b : Event) (e : Event) (d h : List Event)
    (same : (k : ℕ) → done k n b ≡ done k n e) (there : announced_there n b ≡ announced_there n e) (r : Retold n d h) where
  verifies_too : verifies n b ≡ true → verified n (e ∷ h) ≡ true
  unfolding verifies verified any
  verifies_too x = or_l _ (rw (same 16, same 5, there) at x)

  pub retold_same : Retold n (b ∷ d) (e ∷ h)
  unfolding verified was_mapped was_cancelled released any
  retold_same = record {
    verified = λ x. either (verifies n b) _ x verifies_too (λ y. verified_before n e h (r.verified y));
    cancelled = λ x. either (done 6 n e) _ x (λ y. or_l _ (same 6 ∙ y)) (λ y. or_r (done 6 n b) (r.cancelled y));
    mapped = λ x. either (done 20 n b) _ x (λ y. mapped_now n e h (sym (same 20) ∙ y)) (λ y. mapped_before n e h (r.mapped y));
    released = λ x. either (done 5 n b && was_mapped n d) _ x
        (λ y. released_now n e h (sym (same 5) ∙ and_l _ _ y) (r.mapped (and_r (done 5 n b) _ y)))
        (λ y. released_before n e h (r.released y));
  }

-- ── An equal map e: there a SlotMap b and then a ProceedWithCarrier p ──
module _ (n : Name) (p b : Event) (e : Event) (d h : List Event)
    (five : done 5 n p ≡ true → done 20 n e ≡ true) (not_six : done 6 n e ≡ false) (no_read : done 16 n p ≡ false)
    (twenty : done 20 n b ≡ true → done 20 n e ≡ true) (no_map_fact : done 20 n p ≡ false)
    (map-only : (done 16 n b || done 5 n b) ≡ false)
    (was_verified : done 20 n e ≡ true → verified n h ≡ true) (is_equal : done 20 n e ≡ true → matched n (e ∷ h) ≡ true)
    (r : Retold n d h) where
  by_read : verifies n p ≡ true → verified n (e ∷ h) ≡ true
  unfolding verifies
  by_read x = verified_before n e h (was_verified (five (rw no_read at x)))

  by_map : (f a : Bool) → (f || a) ≡ false → (w : Bool) → ((f && w) || a) ≡ false
  by_map true a q w = clash refl q
  by_map false a q w = q

  no_verdict : verifies n b ≡ false
  unfolding verifies
  no_verdict = by_map (done 16 n b) (done 5 n b) map-only (announced_there n b)

  no_five : (f a : Bool) → (f || a) ≡ false → a ≡ false
  no_five true a q = clash refl q
  no_five false a q = q

  pub retold_equal : Retold n (p ∷ b ∷ d) (e ∷ h)
  unfolding verified was_mapped was_cancelled released any
  retold_equal = record {
    verified = λ x. either (verifies n p) _ x by_read (λ y. verified_before n e h (r.verified (or_other _ _ y no_verdict)));
    cancelled = λ x. or_r (done 6 n p) (or_r (done 6 n b) (r.cancelled (cancelled_before n e h not_six x)));
    mapped = λ x. either (done 20 n b) _ (or_other (done 20 n p) _ x no_map_fact)
        (λ y. mapped_now n e h (twenty y)) (λ y. mapped_before n e h (r.mapped y));
    released = λ x. either (done 5 n p && was_mapped n (b ∷ d)) _ x
        (λ y. or_r (released n (e ∷ h)) (is_equal (five (and_l _ _ y))))
        (λ y. either (done 5 n b && was_mapped n d) _ y
        (λ z. clash (and_l _ _ z) (no_five (done 16 n b) (done 5 n b) map-only))
        (λ z. released_before n e h (r.released z)));
  }
