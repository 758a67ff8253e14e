-- A row that takes no name ignores the one that it is sent; a row that takes one answers 1 where it is no name.
use Prim.Native.Nat.{ℕ}
use native.Mathlib.Omega.{arith}
use mathlib.Core.Path.{◌≡◌, refl, ap, sym, ◌∙◌}
use mathlib.Core.Bool.{Bool, true, false, cond, ◌&&◌, ◌||◌}
use mathlib.Core.List.{List, [], ◌∷◌}
use lib.Dec.{eqb, leb}
use borrow.Author.Tests.{eqb-true, eqb-false, leb-true, leb-false}
use Rattle.lists.specs.Lists.{any}
use Rattle.lists.proofs.Bools.{clash, or_r}
use Rattle.rules.specs.declared.row.Seen.{Seen}
use Rattle.rules.specs.State.{State}
use Rattle.rules.specs.Seen.{Input, see}
use Rattle.rules.specs.Row.{Ground, unless, Row, given, lower, lowest, is_port_or_none}
use Rattle.rules.specs.Rows.{row_of}
use Rattle.rules.specs.Named.{takes_name, called}
use Rattle.rules.proofs.Walk.{walk}

-- ── Ignored ──
-- a number that takes no name isn't one that does
pub other_number : (n k : ℕ) → takes_name n ≡ false → takes_name k ≡ true → eqb n k ≡ false
other_number n k f t = go (eqb n k) refl
  where
    go : (b : Bool) → eqb n k ≡ b → b ≡ false
    go true e = clash t (ap takes_name (sym (eqb-true n k e)) ∙ f)
    go false e = refl

-- two rows of a number that takes no name are the same
record Same (n : ℕ) (r q : Row) : Type 0 where
  pub same : takes_name n ≡ false → r ≡ q

module _ (n : ℕ) where
  -- the number is the row's, or another's
  one : {r r' q q' : Row} (b : Bool) → (b ≡ true → Same n r r') → Same n q q' → Same n (cond b r q) (cond b r' q')
  one true this other = this refl
  one false this other = other

  takes : {r q : Row} (k : ℕ) → takes_name k ≡ true → eqb n k ≡ true → Same n r q
  takes k h e = record { same = λ f. clash e (other_number n k f h) }

  abbrev ignores : {r : Row} {b : Bool} → b ≡ true → Same n r r
  ignores e = record { same = λ f. refl }

  module _ (s : State) (i : Input) (name : List ℕ) where
    rows_same : Same n (row_of n (see s (called name i))) (row_of n (see s i))
    unfolding row_of see takes_name
    rows_same =
        one (eqb n 1) (takes 1 refl) (one (eqb n 2) (takes 2 refl) (one (eqb n 3) (takes 3 refl) (one (eqb n 4) (takes 4 refl)
        (one (eqb n 5) (takes 5 refl) (one (eqb n 6) (takes 6 refl) (one (eqb n 7) (takes 7 refl) (one (eqb n 8) (takes 8 refl)
        (one (eqb n 9) ignores (one (eqb n 10) ignores (one (eqb n 11) ignores (one (eqb n 12) ignores (one (eqb n 13) ignores
        (one (eqb n 14) ignores (one (eqb n 15) ignores (one (eqb n 16) (takes 16 refl) (one (eqb n 17) ignores (one (eqb n 18) ignores
        (one (eqb n 19) (takes 19 refl) (one (eqb n 20) (takes 20 refl) (one (eqb n 21) (takes 21 refl) (one (eqb n 22) (takes 22 refl)
        (one (eqb n 23) (takes 23 refl) (one (eqb n 24) ignores (one (eqb n 25) ignores (one (eqb n 26) ignores
        (record { same = λ f. refl }))))))))))))))))))))))))))

    pub name_ignored : takes_name n ≡ false → row_of n (see s (called name i)) ≡ row_of n (see s i)
    name_ignored = rows_same.same

-- ── Refused ──
abbrev pub gives_one : Ground → Bool
gives_one g = eqb (given g) 1

pub lower_one : (m : ℕ) → lower m 1 ≡ 1
unfolding lower
lower_one m = go (eqb m 0) refl (leb m 1) refl
  where
    go : (z : Bool) → eqb m 0 ≡ z → (w : Bool) → leb m 1 ≡ w → cond z 1 (cond w m 1) ≡ 1
    go true e w f = refl
    go false e true f = let h = leb-true m 1 f in let k = eqb-false m 0 e in omega arith
    go false e false f = refl

one_lower : (n : ℕ) → lower 1 n ≡ 1
unfolding lower
one_lower n = go (eqb n 0) refl (leb 1 n) refl
  where
    go : (z : Bool) → eqb n 0 ≡ z → (w : Bool) → leb 1 n ≡ w → cond z 1 (cond w 1 n) ≡ 1
    go true e w f = refl
    go false e true f = refl
    go false e false f = let h = leb-false 1 n f in let k = eqb-false n 0 e in omega arith

-- 1 is the lowest number of all
pub one_is_lowest : (gs : List Ground) → any gives_one gs ≡ true → lowest gs ≡ 1
unfolding any lowest
one_is_lowest [] e = clash e refl
one_is_lowest (g ∷ gs) e = go (gives_one g) refl e (one_is_lowest gs)
  where
    go : (b : Bool) → gives_one g ≡ b → (b || any gives_one gs) ≡ true → (any gives_one gs ≡ true → lowest gs ≡ 1)
        → lower (given g) (lowest gs) ≡ 1
    go true f e r = rw (eqb-true (given g) 1 f) (one_lower (lowest gs))
    go false f e r = rw (r e) (lower_one (given g))

-- A row that takes a name, and isn't given one, has a ground to answer 1; in row 2 it may be missing.
abbrev Refuses : Seen → ℕ → Row → Type 0
Refuses x n r = takes_name n ≡ true → (eqb n 2 && x.blank) ≡ false → any gives_one r.grounds ≡ true

module _ (x : Seen) (h : x.named ≡ false) where
  pub no_name_refused : (n : ℕ) → Refuses x n (row_of n x)
  unfolding takes_name any
  no_name_refused = walk (Refuses x) x (record {
    bind = λ t b. rw h (or_r (gives_one (unless x.isport 1)) refl);
    cancel_bind = λ t b. rw (h, b) (or_r (gives_one (unless (is_port_or_none x) 1)) refl);
    carrier_notification = λ t b. rw h;
    cancel_carrier_notification = λ t b. rw h;
    proceed_with_carrier = λ t b. rw h;
    cancel_carrier = λ t b. rw h;
    carrier_out = λ t b. rw h;
    carrier_in = λ t b. rw h;
    change_access = λ t b. clash t refl;
    change_service_status = λ t b. clash t refl;
    reserve_at_port = λ t b. clash t refl;
    cancel_reservation_at_port = λ t b. clash t refl;
    load_start = λ t b. clash t refl;
    load_done = λ t b. clash t refl;
    load_fail = λ t b. clash t refl;
    id_read = λ t b. rw h (or_r (gives_one (unless x.isport 1)) refl);
    id_read_failed = λ t b. clash t refl;
    move_in = λ t b. clash t refl;
    open_row = λ t b. rw h;
    slot_map = λ t b. rw h;
    access_start = λ t b. rw h;
    access_end = λ t b. rw h;
    close_row = λ t b. rw h;
    unload_start = λ t b. clash t refl;
    unload_done = λ t b. clash t refl;
    unload_fail = λ t b. clash t refl;
    none = λ n t b. refl;
  })
