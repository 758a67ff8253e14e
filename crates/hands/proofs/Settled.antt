-- What ports settle agrees with them.
use Prim.Native.Nat.{suc}
use native.Mathlib.Omega.{arith}
use mathlib.Core.Path.{◌≡◌, refl, ap}
use mathlib.Core.Bool.{Bool, true, false, not, cond, ◌&&◌, ◌||◌}
use mathlib.Core.List.{List, [], ◌∷◌}
use lib.ListN.{length}
use lib.Dec.{eqb, leb}
use borrow.Author.Tests.{eqb-true}
use Rattle.lists.specs.Lists.{every}
use Rattle.lists.proofs.Bools.{clash, and_l, and_r, and_i}
use Rattle.records.specs.declared.port.Port.{Port}
use Rattle.records.specs.Ports.{ready_to_load, loading, idle, blocked}
use Rattle.rules.specs.Sound.{port_agrees}
use Rattle.hands.specs.declared.alarm.Alarm.{Alarm}
use Rattle.hands.specs.Alarms.{no_alarm, is_on, is_held, settled}
use Rattle.hands.specs.Sound.{agrees, each_agrees}
use Rattle.hands.specs.Outcome.{all_settled}

-- an alarm by itself: in range, and on where a pod is held
unfoldable pub fine : Alarm → Bool
fine a = leb a.on 1 && leb a.held 1 && (not (is_held a) || is_on a)

pub none_fine : fine no_alarm ≡ true
unfolding fine
none_fine = refl

-- a port that is loading is BLOCKED, and so not READY TO LOAD
pub loading_not_ready : (q : Port) → port_agrees q ≡ true → loading q ≡ true → ready_to_load q ≡ false
unfolding port_agrees
loading_not_ready q h l = go (ready_to_load q) refl
  where
    m : q.movement ≡ 1
    m = eqb-true _ 1 l

    go : (w : Bool) → ready_to_load q ≡ w → w ≡ false
    go true e =
        let t : q.transfer ≡ 1 = eqb-true _ 1 e in
        clash (and_l (idle q || blocked q) _ h) (rw (m, t))
    go false e = refl

pub settled_agrees : (q : Port) (a : Alarm) → port_agrees q ≡ true → fine a ≡ true → agrees q (settled q a) ≡ true
unfolding agrees settled fine
settled_agrees q a h f = go (ready_to_load q) refl (loading q) refl
  where
    on_fits : leb a.on 1 ≡ true
    on_fits = and_l _ _ (and_l _ _ f)

    held_fits : leb a.held 1 ≡ true
    held_fits = and_r (leb a.on 1) _ (and_l _ _ f)

    held_on : (not (is_held a) || is_on a) ≡ true
    held_on = and_r (leb a.on 1 && leb a.held 1) _ f

    nothing : (b : Bool) → not (b && false) ≡ true
    nothing true = refl
    nothing false = refl

    go : (r : Bool) → ready_to_load q ≡ r → (l : Bool) → loading q ≡ l
        → (leb (cond r 0 a.on) 1 && leb (cond l a.held 0) 1 && (not (eqb (cond l a.held 0) 1) || (l && eqb (cond r 0 a.on) 1))
        && not (eqb (cond r 0 a.on) 1 && r)) ≡ true
    go true e true d = clash e (loading_not_ready q h d)
    go true e false d = refl
    go false e true d = and_i (and_i (and_i on_fits held_fits) held_on) (nothing (is_on a))
    go false e false d = and_i (and_i (and_i on_fits refl) refl) (nothing (is_on a))

pub all_agree : (qs : List Port) (l : List Alarm) → every port_agrees qs ≡ true → every fine l ≡ true → length l ≡ length qs
    → each_agrees qs (all_settled qs l) ≡ true
unfolding every each_agrees all_settled
all_agree [] l h f e = refl
all_agree (q ∷ qs) [] h f e = absurd (omega arith)
all_agree (q ∷ qs) (a ∷ l) h f e =
    and_i (settled_agrees q a (and_l _ _ h) (and_l _ _ f))
    (all_agree qs l (and_r (port_agrees q) _ h) (and_r (fine a) _ f) (omega arith))

-- ── What agrees is fine ──
pub agrees_fine : (q : Port) (a : Alarm) → agrees q a ≡ true → fine a ≡ true
unfolding agrees fine
agrees_fine q a h =
    let one = and_l (leb a.on 1 && leb a.held 1 && (not (is_held a) || (loading q && is_on a))) _ h in
    and_i {a = leb a.on 1 && leb a.held 1} (and_l (leb a.on 1 && leb a.held 1) _ one)
    (go (is_held a) (loading q) (is_on a) (and_r (leb a.on 1 && leb a.held 1) _ one))
  where
    go : (w l o : Bool) → (not w || (l && o)) ≡ true → (not w || o) ≡ true
    go true true o e = e
    go true false o e = clash e refl
    go false l o e = refl

pub each_fine : (qs : List Port) (l : List Alarm) → each_agrees qs l ≡ true → every fine l ≡ true
unfolding every each_agrees
each_fine [] [] h = refl
each_fine [] (a ∷ l) h = clash h refl
each_fine (q ∷ qs) [] h = clash h refl
each_fine (q ∷ qs) (a ∷ l) h = and_i (agrees_fine q a (and_l _ _ h)) (each_fine qs l (and_r (agrees q a) _ h))

pub as_long : (qs : List Port) (l : List Alarm) → each_agrees qs l ≡ true → length l ≡ length qs
unfolding each_agrees
as_long [] [] h = refl
as_long [] (a ∷ l) h = clash h refl
as_long (q ∷ qs) [] h = clash h refl
as_long (q ∷ qs) (a ∷ l) h = ap suc (as_long qs l (and_r (agrees q a) _ h))

pub settled_long : (qs : List Port) (l : List Alarm) → length l ≡ length qs → length (all_settled qs l) ≡ length qs
unfolding all_settled
settled_long [] l e = refl
settled_long (q ∷ qs) [] e = absurd (omega arith)
settled_long (q ∷ qs) (a ∷ l) e = ap suc (settled_long qs l (omega arith))
