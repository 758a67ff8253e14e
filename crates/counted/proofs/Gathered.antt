-- What is gathered along a run, and along the run of another layer that it stands for.
use Prim.Native.Nat.{ℕ, ◌+◌, ◌≤◌}
use native.Mathlib.Omega.{arith}
use mathlib.Core.Path.{◌≡◌, refl, ap, ap₂, sym, ◌∙◌}
use mathlib.Core.Bool.{Bool, true, false, cond, ◌&&◌, ◌||◌}
use mathlib.Core.List.{List, [], ◌∷◌, ◌++◌, append_assoc, append-nil}
use lib.Dec.{eqb}
use borrow.Author.Tests.{ne_eqb}
use Rattle.lists.specs.Lists.{how_many}
use Rattle.lists.proofs.Bools.{or_false_l, or_false_r}
use Rattle.rules.specs.Seen.{Input, narrow}
use Rattle.tally.specs.Count.{Entry, came_in, went_out}
use Rattle.tally.proofs.Lists.{one}
use Rattle.counted.specs.Count.{port_in, mode_of}

-- what each input adds, which may go by those before it, the latest first
unfoldable pub gathered : {I : Type 0} → (List I → I → List Entry) → List I → List Entry
gathered own [] = []
gathered own (i ∷ earlier) = own earlier i ++ gathered own earlier

gathered_on : {I : Type 0} (own : List I → I → List Entry) (later earlier : List I)
    → gathered own (later ++ earlier) ≡ gathered (λ l i. own (l ++ earlier) i) later ++ gathered own earlier
unfolding gathered
gathered_on own [] earlier = refl
gathered_on own (i ∷ later) earlier =
    ap (λ l. own (later ++ earlier) i ++ l) (gathered_on own later earlier)
    ∙ sym (append_assoc (own (later ++ earlier) i) (gathered (λ l i. own (l ++ earlier) i) later) (gathered own earlier))

-- one input alone
pub one_gathered : {I : Type 0} (own : List I → I → List Entry) (i : I) → gathered own (i ∷ []) ≡ own [] i
unfolding gathered
one_gathered own i = append-nil (own [] i)

-- Where each input adds as much as the inputs below that it stands for, a run adds as much as the run below.
module _ {I J : Type 0} (below : List J → J → List Entry) (own : List I → I → List Entry)
    (cut : List I → List J) (stands : List I → I → List J)
    (none : cut [] ≡ []) (on : (earlier : List I) (i : I) → cut (i ∷ earlier) ≡ stands earlier i ++ cut earlier)
    (same : (earlier : List I) (i : I) → gathered (λ l j. below (l ++ cut earlier) j) (stands earlier i) ≡ own earlier i) where
  pub same_gathered : (run : List I) → gathered below (cut run) ≡ gathered own run
  unfolding gathered
  same_gathered [] = ap (gathered below) none
  same_gathered (i ∷ earlier) =
      ap (gathered below) (on earlier i) ∙ gathered_on below (stands earlier i) (cut earlier) ∙ ap₂ ◌++◌ (same earlier i) (same_gathered earlier)

-- ── What is gathered here ──
-- a load begins with LoadStart and ends with LoadDone and LoadFail; UnloadStart finds none
abbrev pub turns_load : ℕ → Bool
turns_load n = eqb n 13 || eqb n 14 || eqb n 15 || eqb n 24

-- with these four, ChangeAccess and UnloadDone
abbrev pub matters : ℕ → Bool
matters n = eqb n 9 || turns_load n || eqb n 25

abbrev pub done : Input → Entry
done i = record { input = i; answer = 0 }

-- an input that matters, if it is accepted
unfoldable pub taken : Bool → Input → List Entry
taken a i = cond (matters i.number) (cond a (done i ∷ []) []) []

pub taken_aside : (a : Bool) (i : Input) → matters i.number ≡ false → taken a i ≡ []
unfolding taken
taken_aside a i m = rw m

pub taken_refused : (i : Input) → taken false i ≡ []
unfolding taken
taken_refused i = go (matters i.number)
  where
    go : (m : Bool) → ◌≡◌ {A = List Entry} (cond m [] []) []
    go true = refl
    go false = refl

-- the latest of these four at port p was LoadStart
unfoldable pub loading_read : ℕ → List Entry → Bool
loading_read p [] = false
loading_read p (e ∷ earlier) = cond (turns_load e.input.number && eqb (port_in e) p) (eqb e.input.number 13) (loading_read p earlier)

-- what an input that doesn't matter isn't
pub record Aside (n : ℕ) : Type 0 where
  pub access : eqb n 9 ≡ false
  pub load : turns_load n ≡ false
  pub load_done : eqb n 14 ≡ false
  pub unload_done : eqb n 25 ≡ false

pub aside : (n : ℕ) → matters n ≡ false → Aside n
aside n e =
    let l = or_false_r (eqb n 9) (turns_load n) (or_false_l (eqb n 9 || turns_load n) _ e) in
    record {
      access = or_false_l _ _ (or_false_l (eqb n 9 || turns_load n) _ e);
      load = l;
      load_done = or_false_r (eqb n 13) _ (or_false_l (eqb n 13 || eqb n 14) _ (or_false_l (eqb n 13 || eqb n 14 || eqb n 15) _ l));
      unload_done = or_false_r (eqb n 9 || turns_load n) _ e;
    }

-- no input that a request adds matters
pub late_aside : (n : ℕ) → 26 ≤ n → matters n ≡ false
late_aside n b =
    rw (
      ne_eqb n 9 (λ z. omega arith),
      ne_eqb n 13 (λ z. omega arith),
      ne_eqb n 14 (λ z. omega arith),
      ne_eqb n 15 (λ z. omega arith),
      ne_eqb n 24 (λ z. omega arith),
      ne_eqb n 25 (λ z. omega arith),
    )

-- ── What is read off it ──
module _ (i : Input) (log : List Entry) where
  -- an input that matters and is accepted is there; any other leaves what was there
  taken_or : (Q : Bool → List Entry → Type 0) → Q true (done i ∷ log) → (matters i.number ≡ false → Q true log) → Q false log
      → (a : Bool) → Q a (taken a i ++ log)
  unfolding taken
  taken_or Q there away refused a = go (matters i.number) refl a
    where
      go : (m : Bool) → matters i.number ≡ m → (a : Bool) → Q a (cond m (cond a (done i ∷ []) []) [] ++ log)
      go true e true = there
      go false e true = away e
      go true e false = refused
      go false e false = refused

  pub mode_taken : (p : ℕ) (a : Bool)
      → mode_of p (taken a i ++ log) ≡ cond (a && (eqb i.number 9 && eqb (narrow i.port) p)) (narrow i.value) (mode_of p log)
  unfolding mode_of
  mode_taken p =
      taken_or (λ a l. mode_of p l ≡ cond (a && (eqb i.number 9 && eqb (narrow i.port) p)) (narrow i.value) (mode_of p log))
      refl (λ m. rw (aside i.number m).access) refl

  pub load_taken : (p : ℕ) (a : Bool)
      → loading_read p (taken a i ++ log)
      ≡ cond (a && (turns_load i.number && eqb (narrow i.port) p)) (eqb i.number 13) (loading_read p log)
  unfolding loading_read
  load_taken p =
      taken_or
      (λ a l. loading_read p l ≡ cond (a && (turns_load i.number && eqb (narrow i.port) p)) (eqb i.number 13) (loading_read p log))
      refl (λ m. rw (aside i.number m).load) refl

  pub came_taken : (a : Bool) → came_in (taken a i ++ log) ≡ one (a && eqb i.number 14) + came_in log
  unfolding came_in how_many
  came_taken =
      taken_or (λ a l. came_in l ≡ one (a && eqb i.number 14) + came_in log) refl
      (λ m. rw (aside i.number m).load_done (omega arith)) (omega arith)

  pub went_taken : (a : Bool) → went_out (taken a i ++ log) ≡ one (a && eqb i.number 25) + went_out log
  unfolding went_out how_many
  went_taken =
      taken_or (λ a l. went_out l ≡ one (a && eqb i.number 25) + went_out log) refl
      (λ m. rw (aside i.number m).unload_done (omega arith)) (omega arith)
