-- Who stands ahead of whom, in a queue to which one comes, from which some go, or of which one is started.
use Prim.Native.Nat.{ℕ, zero, suc, ◌<◌, suc-le-suc}
use native.Mathlib.Nat.{le_of_suc-le-suc}
use native.Mathlib.Omega.{arith}
use mathlib.Core.Path.{◌≡◌, refl, ap, ◌∙◌}
use mathlib.Core.Bool.{Bool, true, false, cond, ◌&&◌, ◌||◌}
use mathlib.Core.List.{List, [], ◌∷◌, ◌++◌}
use lib.ListN.{length, get_or, set}
use Rattle.lists.specs.Lists.{any, where_is, without}
use Rattle.lists.proofs.Bools.{clash, or_l, or_r}
use Rattle.lists.proofs.Tests.{any_other}
use Rattle.lists.proofs.Parts.{any_found}
use Rattle.queue.specs.declared.request.Request.{Request}
use Rattle.queue.specs.Requests.{is_started, only, all_dropped}

module _ {A : Type 0} (f : A → Bool) where
  -- an element that is replaced by one that passes as it did
  pub where_set : (l : List A) (k : ℕ) (y d : A) → (k < length l → f y ≡ f (get_or l k d)) → where_is f (set l k y) ≡ where_is f l
  unfolding where_is
  where_set [] k y d h = refl
  where_set (x ∷ l) zero y d h = rw (h (omega arith))
  where_set (x ∷ l) (suc k) y d h = rw (where_set l k y d (λ b. h (suc-le-suc b)))

  pub some_set : (l : List A) (k : ℕ) (y d : A) → (k < length l → f y ≡ f (get_or l k d)) → any f (set l k y) ≡ any f l
  unfolding any
  some_set [] k y d h = refl
  some_set (x ∷ l) zero y d h = rw (h (omega arith))
  some_set (x ∷ l) (suc k) y d h = rw (some_set l k y d (λ b. h (suc-le-suc b)))

  -- an element is replaced by one that passes if it did
  pub some_begun : (l : List A) (k : ℕ) (y d : A) → (f (get_or l k d) ≡ true → f y ≡ true) → any f l ≡ true → any f (set l k y) ≡ true
  unfolding any
  some_begun [] k y d h e = e
  some_begun (x ∷ l) zero y d h e = go (f x) refl e
    where
      go : (w : Bool) → f x ≡ w → (w || any f l) ≡ true → (f y || any f l) ≡ true
      go true q e = or_l _ (h q)
      go false q e = or_r (f y) e
  some_begun (x ∷ l) (suc k) y d h e = go (f x) e (some_begun l k y d h)
    where
      go : (w : Bool) → (w || any f l) ≡ true → (any f l ≡ true → any f (set l k y) ≡ true) → (w || any f (set l k y)) ≡ true
      go true e r = refl
      go false e r = r e

  -- one goes that doesn't pass
  pub some_left : (l : List A) (k : ℕ) (d : A) → (k < length l → f (get_or l k d) ≡ false) → any f l ≡ true → any f (without k l) ≡ true
  some_left l k d h e =
      let t = any_found f l d e in
      any_other f l k t.0 d t.1 (λ z. clash t.2 (ap (λ j. f (get_or l j d)) z ∙ h (rw z at t.1))) t.2

  -- the first that passes is the first of all
  pub first_one : (l : List A) (d : A) (j : ℕ) → j < where_is f l → f (get_or l j d) ≡ false
  unfolding where_is
  first_one [] d j b = absurd (omega arith)
  first_one (x ∷ l) d j b = go (f x) refl j b (first_one l d)
    where
      go : (w : Bool) → f x ≡ w → (j : ℕ) → j < cond w 0 (suc (where_is f l)) → ((j : ℕ) → j < where_is f l → f (get_or l j d) ≡ false)
          → f (get_or (x ∷ l) j d) ≡ false
      go true e j b r = absurd (omega arith)
      go false e zero b r = e
      go false e (suc j) b r = r j (le_of_suc-le-suc b)

-- ── The first that passes f, before the first that passes g ──
module _ {A : Type 0} (f g : A → Bool) where
  abbrev pub Ahead : List A → Type 0
  Ahead l = where_is f l < where_is g l

  -- an element stays before what is left
  keep : (x : A) (l m : List A) → (Ahead m → Ahead l) → Ahead (x ∷ m) → Ahead (x ∷ l)
  unfolding where_is
  keep x l m r = go (f x) (g x)
    where
      go : (v w : Bool) → cond v 0 (suc (where_is f m)) < cond w 0 (suc (where_is g m))
          → cond v 0 (suc (where_is f l)) < cond w 0 (suc (where_is g l))
      go v true b = absurd (omega arith)
      go true false b = omega arith
      go false false b = suc-le-suc (r (le_of_suc-le-suc b))

  -- an element goes that doesn't pass g
  gone : (x : A) (l : List A) → g x ≡ false → Ahead l → Ahead (x ∷ l)
  unfolding where_is
  gone x l e b = rw e (go (f x))
    where
      go : (v : Bool) → cond v 0 (suc (where_is f l)) < suc (where_is g l)
      go true = omega arith
      go false = suc-le-suc b

  pub ahead_more : (l m : List A) → any g l ≡ true → Ahead (l ++ m) → Ahead l
  unfolding any where_is
  ahead_more [] m e b = clash e refl
  ahead_more (x ∷ l) m e b = go (g x) refl e (f x) b (ahead_more l m)
    where
      go : (w : Bool) → g x ≡ w → (w || any g l) ≡ true → (v : Bool)
          → cond v 0 (suc (where_is f (l ++ m))) < cond w 0 (suc (where_is g (l ++ m))) → (any g l ≡ true → Ahead (l ++ m) → Ahead l)
          → cond v 0 (suc (where_is f l)) < cond w 0 (suc (where_is g l))
      go true q e v b r = absurd (omega arith)
      go false q e true b r = omega arith
      go false q e false b r = suc-le-suc (r e (le_of_suc-le-suc b))

  pub ahead_less : (k : ℕ) (l : List A) (d : A) → (k < length l → g (get_or l k d) ≡ false) → Ahead (without k l) → Ahead l
  unfolding without
  ahead_less k [] d h b = b
  ahead_less zero (x ∷ l) d h b = gone x l (h (omega arith)) b
  ahead_less (suc k) (x ∷ l) d h b = keep x l (without k l) (ahead_less k l d (λ c. h (suc-le-suc c))) b

-- those go that aren't started, and none of them passes g
pub ahead_dropped : (f g : Request → Bool) (q : List Request) (d : Request)
    → ((j : ℕ) → j < length q → g (get_or q j d) ≡ true → is_started (get_or q j d) ≡ true) → Ahead f g (all_dropped q) → Ahead f g q
unfolding only
ahead_dropped f g [] d h b = b
ahead_dropped f g (r ∷ q) d h b = go (is_started r) refl (ahead_dropped f g q d (λ j c. h (suc j) (suc-le-suc c))) b
  where
    go : (w : Bool) → is_started r ≡ w → (Ahead f g (all_dropped q) → Ahead f g q)
        → Ahead f g (cond w (r ∷ all_dropped q) (all_dropped q)) → Ahead f g (r ∷ q)
    go true e k b = keep f g r q (all_dropped q) k b
    go false e k b = gone f g r q (waits (g r) refl) (k b)
      where
        waits : (v : Bool) → g r ≡ v → v ≡ false
        waits true o = clash (h 0 (omega arith) o) e
        waits false o = refl

-- a started one stays
pub some_started : (f : Request → Bool) (q : List Request) → any (λ r. f r && is_started r) q ≡ any f (all_dropped q)
unfolding any only
some_started f [] = refl
some_started f (r ∷ q) = go (f r) refl (is_started r) (some_started f q)
  where
    go : (v : Bool) → f r ≡ v → (w : Bool) → any (λ r. f r && is_started r) q ≡ any f (all_dropped q)
        → ((v && w) || any (λ r. f r && is_started r) q) ≡ any f (cond w (r ∷ all_dropped q) (all_dropped q))
    go true q true e = rw q
    go true q false e = e
    go false q true e = rw (q, e)
    go false q false e = e
