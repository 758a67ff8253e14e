-- Two histories of a name that tell the same: they differ in inputs that neither verify nor cancel the carrier, nor report its slot map.
use Prim.Native.Nat.{ℕ}
use mathlib.Core.Path.{◌≡◌, refl, ap, sym, ◌∙◌}
use mathlib.Core.Bool.{Bool, true, false, ◌&&◌, ◌||◌}
use mathlib.Core.List.{List, [], ◌∷◌}
use lib.Dec.{eqb}
use Rattle.lists.specs.Lists.{any}
use Rattle.records.specs.declared.name.Name.{Name}
use Rattle.records.specs.Names.{in_bytes, same_name}
use Rattle.records.specs.declared.carrier.Carrier.{Carrier}
use Rattle.rules.specs.History.{Event, done, verifies, verified, was_cancelled, was_mapped, released}
use Rattle.maps.specs.History.{made_with, matched}
use Rattle.maps.specs.Promise.{Earned}

-- nothing that demand 3 counts was done to the carrier
pub record Silent (n : Name) (e : Event) : Type 0 where
  pub no_proceed : done 5 n e ≡ false
  pub no_cancel : done 6 n e ≡ false
  pub no_read : done 16 n e ≡ false
  pub no_map : done 20 n e ≡ false

-- a refused input, and one of another number
done_refused : (n : Name) (e : Event) (k : ℕ) → eqb e.answer 0 ≡ false → done k n e ≡ false
unfolding done
done_refused n e k a = rw a (go (eqb e.input.number k))
  where
    go : (w : Bool) → (w && false && same_name (in_bytes e.input.name) n) ≡ false
    go true = refl
    go false = refl

pub silent_refused : (n : Name) (e : Event) → eqb e.answer 0 ≡ false → Silent n e
silent_refused n e a = record {
  no_proceed = done_refused n e 5 a;
  no_cancel = done_refused n e 6 a;
  no_read = done_refused n e 16 a;
  no_map = done_refused n e 20 a;
}

pub silent_number : (n : Name) (e : Event) → eqb e.input.number 5 ≡ false → eqb e.input.number 6 ≡ false
    → eqb e.input.number 16 ≡ false → eqb e.input.number 20 ≡ false → Silent n e
unfolding done
silent_number n e a b c d = record { no_proceed = rw a; no_cancel = rw b; no_read = rw c; no_map = rw d }

-- The histories d and h, the latest first.
pub data Same (n : Name) : List Event → List Event → Type 0 where
  alone : (e : Event) → Same n (e ∷ []) (e ∷ [])
  both : {d h : List Event} (e : Event) → Same n d h → Same n (e ∷ d) (e ∷ h)
  here : {d h : List Event} (e : Event) → Silent n e → Same n d h → Same n d (e ∷ h)
  there : {d h : List Event} (e : Event) → Silent n e → Same n d h → Same n (e ∷ d) h

-- neither is empty, so that the oldest stays the oldest
abbrev Some : List Event → Type 0
Some [] = ⊥
Some (e ∷ h) = Unit {0}

some_here : {n : Name} {d h : List Event} → Same n d h → Some h
some_here (alone e) = tt
some_here (both e r) = tt
some_here (here e q r) = tt
some_here (there e q r) = some_here r

some_there : {n : Name} {d h : List Event} → Same n d h → Some d
some_there (alone e) = tt
some_there (both e r) = tt
some_there (here e q r) = some_there r
some_there (there e q r) = tt

older : (h : List Event) (e : Event) → Some h → made_with (e ∷ h) ≡ made_with h
unfolding made_with
older [] e k = absurd k
older (f ∷ h) e k = refl

-- ── What they tell ──
module _ (n : Name) where
  same_verified : {d h : List Event} → Same n d h → verified n h ≡ verified n d
  unfolding verified verifies any
  same_verified (alone e) = refl
  same_verified (both e r) = ap (λ b. verifies n e || b) (same_verified r)
  same_verified (here e q r) = rw (q.no_read, q.no_proceed) (same_verified r)
  same_verified (there e q r) = rw (q.no_read, q.no_proceed) (same_verified r)

  same_cancelled : {d h : List Event} → Same n d h → was_cancelled n h ≡ was_cancelled n d
  unfolding was_cancelled any
  same_cancelled (alone e) = refl
  same_cancelled (both e r) = ap (λ b. done 6 n e || b) (same_cancelled r)
  same_cancelled (here e q r) = rw q.no_cancel (same_cancelled r)
  same_cancelled (there e q r) = rw q.no_cancel (same_cancelled r)

  same_mapped : {d h : List Event} → Same n d h → was_mapped n h ≡ was_mapped n d
  unfolding was_mapped any
  same_mapped (alone e) = refl
  same_mapped (both e r) = ap (λ b. done 20 n e || b) (same_mapped r)
  same_mapped (here e q r) = rw q.no_map (same_mapped r)
  same_mapped (there e q r) = rw q.no_map (same_mapped r)

  same_released : {d h : List Event} → Same n d h → released n h ≡ released n d
  unfolding released
  same_released (alone e) = refl
  same_released (both e r) = rw (same_mapped r, same_released r)
  same_released (here e q r) = rw q.no_proceed (same_released r)
  same_released (there e q r) = rw q.no_proceed (same_released r)

  same_made : {d h : List Event} → Same n d h → made_with h ≡ made_with d
  same_made (alone e) = refl
  same_made (both e r) = older _ e (some_here r) ∙ same_made r ∙ sym (older _ e (some_there r))
  same_made (here e q r) = older _ e (some_here r) ∙ same_made r
  same_made (there e q r) = same_made r ∙ sym (older _ e (some_there r))

  same_matched : {d h : List Event} → Same n d h → matched n h ≡ matched n d
  unfolding matched
  same_matched (alone e) = refl
  same_matched (both e r) = rw (same_made r, same_matched r)
  same_matched (here e q r) = rw q.no_map (same_matched r)
  same_matched (there e q r) = rw q.no_map (same_matched r)

-- what one of them earns, the other does
pub same_earned : (d h : List Event) (c : Carrier) → Same c.name d h → Earned d c → Earned h c
same_earned d h c r g = record {
  open_verified = λ o. same_verified c.name r ∙ g.open_verified o;
  buffer_verified = λ o. same_verified c.name r ∙ g.buffer_verified o;
  open_not_cancelled = λ o. same_cancelled c.name r ∙ g.open_not_cancelled o;
  access_released = λ o. rw (same_released c.name r, same_matched c.name r) (g.access_released o);
}
