-- What is left of a list that begins with another.
use Prim.Native.Nat.{ℕ, suc, ◌+◌}
use mathlib.Core.Path.{◌≡◌, refl, sym, ◌∙◌}
use mathlib.Core.Bool.{Bool, true, false, cond, ◌&&◌}
use mathlib.Core.List.{List, [], ◌∷◌, ◌++◌}
use lib.ListN.{length, take, drop}
use lib.Dec.{eqb}
use borrow.Author.Tests.{ne_eqb}
use native.Mathlib.Omega.{arith}
use lib.Pointwise.{pointwise}
use Rattle.std.proofs.Common.{Option, Some, None}
use denote.Ref.{Bor}
use Rattle.std.specs.Option.{MatchOption, option_map}
use Rattle.lists.specs.Lists.{same_list}
use Rattle.rules.specs.declared.report.Report.{Report}
use Rattle.logs.specs.Layout.{on_name}
use Rattle.logs.specs.Written.{text_of, subject_of, report}
use Rattle.logs.specs.InPlace.{after}

-- as strip_prefix finds it
pub after_is : (s p : List ℕ) → after s p ≡ cond (pointwise eqb (take (length p) s) p) (Some (drop (length p) s)) None
unfolding after
after_is [] [] = refl
after_is (x ∷ s) [] = refl
after_is [] (y ∷ p) = refl
after_is (x ∷ s) (y ∷ p) = go (eqb x y) (after_is s p)
  where
    go : (b : Bool) → after s p ≡ cond (pointwise eqb (take (length p) s) p) (Some (drop (length p) s)) None
        → cond b (after s p) None ≡ cond (b && pointwise eqb (take (length p) s) p) (Some (drop (length p) s)) None
    go true e = e
    go false e = refl

-- what is left, behind a reference
abbrev pub now_in : Option (Bor (List ℕ)) → Option (List ℕ)
now_in r = option_map (λ x. x.now) r

pub stripped : (s p : List ℕ) (r : Option (Bor (List ℕ)))
    → MatchOption r (pointwise eqb (take (length p) s) p ≡ false)
    (λ x. (pointwise eqb (take (length p) s) p ≡ true) × (x.now ≡ drop (length p) s) × (length x.now + length p ≡ length s))
    → now_in r ≡ after s p
stripped s p None h = rw (after_is s p, h)
stripped s p (Some x) h = rw (after_is s p, h.0, h.1)

pub after_nothing : (s : List ℕ) → after s [] ≡ Some s
unfolding after
after_nothing [] = refl
after_nothing (x ∷ s) = refl

-- one list after the other
pub after_both : (s a b r : List ℕ) → after s a ≡ Some r → after s (a ++ b) ≡ after r b
unfolding after
after_both s [] b r e = let h = after_nothing s in let z : s ≡ r = cc in rw z
after_both [] (x ∷ a) b r e = absurd (cc)
after_both (y ∷ s) (x ∷ a) b r e = go (eqb y x) e (after_both s a b r)
  where
    go : (t : Bool) → cond t (after s a) None ≡ Some r → (after s a ≡ Some r → after s (a ++ b) ≡ after r b)
        → cond t (after s (a ++ b)) None ≡ after r b
    go true e h = h e
    go false e h = absurd (cc)

pub after_neither : (s a b : List ℕ) → after s a ≡ None → after s (a ++ b) ≡ None
unfolding after
after_neither s [] b e = absurd (let h = after_nothing s in (cc))
after_neither [] (x ∷ a) b e = refl
after_neither (y ∷ s) (x ∷ a) b e = go (eqb y x) e (after_neither s a b)
  where
    go : (t : Bool) → cond t (after s a) None ≡ None → (after s a ≡ None → after s (a ++ b) ≡ None)
        → cond t (after s (a ++ b)) None ≡ None
    go true e h = h e
    go false e h = refl

-- nothing is left of a list that is the same
pub same_after : (s p r : List ℕ) → after s p ≡ Some r → same_list s p ≡ eqb (length r) 0
unfolding after same_list
same_after [] [] r e = let z : [] ≡ r = cc in rw (sym z)
same_after (y ∷ s) [] r e = let z : y ∷ s ≡ r = cc in rw (sym z) (sym (ne_eqb (suc (length s)) 0 (λ z. omega arith)))
same_after [] (x ∷ p) r e = absurd (cc)
same_after (y ∷ s) (x ∷ p) r e = go (eqb y x) e (same_after s p r)
  where
    go : (t : Bool) → cond t (after s p) None ≡ Some r → (after s p ≡ Some r → same_list s p ≡ eqb (length r) 0)
        → (t && same_list s p) ≡ eqb (length r) 0
    go true e h = h e
    go false e h = absurd (cc)

pub same_none : (s p : List ℕ) → after s p ≡ None → same_list s p ≡ false
unfolding after same_list
same_none s [] e = absurd (let h = after_nothing s in (cc))
same_none [] (x ∷ p) e = refl
same_none (y ∷ s) (x ∷ p) e = go (eqb y x) e (same_none s p)
  where
    go : (t : Bool) → cond t (after s p) None ≡ None → (after s p ≡ None → same_list s p ≡ false) → (t && same_list s p) ≡ false
    go true e h = h e
    go false e h = refl

pub same_shown : (s p : List ℕ) (r : Option (Bor (List ℕ))) → now_in r ≡ after s p
    → (b : Bool) → (r ≡ None → b ≡ false) → ((x : Bor (List ℕ)) → r ≡ Some x → b ≡ eqb (length x.now) 0) → b ≡ same_list s p
same_shown s p None e b f g = f refl ∙ sym (same_none s p (sym e))
same_shown s p (Some x) e b f g = g x refl ∙ sym (same_after s p x.now (sym e))

-- ── A report ──
module _ (l : List ℕ) (r : Report) where
  pub on_port : on_name r.model ≡ false → after l (report r) ≡ after l (r.model ∷ r.port ∷ r.old ∷ r.new ∷ [])
  unfolding report subject_of
  on_port e = rw e

  module _ (e : on_name r.model ≡ true) (text : List ℕ) (t : text ≡ text_of r.name) where
    named_is : report r ≡ (r.model ∷ length text ∷ []) ++ (text ++ (r.old ∷ r.new ∷ []))
    unfolding report subject_of
    named_is = rw (e, t)

    pub no_model : after l (r.model ∷ length text ∷ []) ≡ None → after l (report r) ≡ None
    no_model h = rw named_is (after_neither l _ (text ++ (r.old ∷ r.new ∷ [])) h)

    module _ (named : List ℕ) (h : after l (r.model ∷ length text ∷ []) ≡ Some named) where
      then_text : after l (report r) ≡ after named (text ++ (r.old ∷ r.new ∷ []))
      then_text = rw named_is (after_both l _ (text ++ (r.old ∷ r.new ∷ [])) named h)

      pub no_text : after named text ≡ None → after l (report r) ≡ None
      no_text g = then_text ∙ after_neither named text _ g

      pub then_ends : (told : List ℕ) → after named text ≡ Some told → after l (report r) ≡ after told (r.old ∷ r.new ∷ [])
      then_ends told g = then_text ∙ after_both named text _ told g
