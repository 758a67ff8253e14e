-- One pass over a text: what remains of the bytes that were passed, and what a byte that is met says of the whole text.
use Prim.Native.Nat.{ℕ, zero, suc, ◌+◌, ◌-◌, ◌≤◌, ◌<◌, suc-le-suc}
use native.Mathlib.Nat.{le_of_suc-le-suc}
use native.Mathlib.Omega.{arith}
use mathlib.Core.Path.{◌≡◌, refl, ap, sym, ◌∙◌}
use mathlib.Core.Bool.{Bool, true, false, not, ◌&&◌, ◌||◌}
use mathlib.Core.List.{List, [], ◌∷◌, ◌++◌}
use lib.ListN.{length, get_or, take, drop, length-drop}
use lib.Seq.{length-take-le, take-length, take-suc, drop-append-le, get_or-take, get_or-drop}
use lib.Dec.{eqb, leb, ltb}
use borrow.Author.Tests.{eqb-true, eqb-false}
use Rattle.lists.specs.Lists.{every, between}
use Rattle.lists.proofs.Bools.{clash, and_comm, not_true, not_false}
use Rattle.lists.proofs.Tests.{every_at}
use Rattle.lists.proofs.Parts.{every_new}
use Rattle.lists.proofs.Loops.{ended_in}
use Rattle.records.specs.Names.{graphic, is_name}
use Rattle.names.specs.Check.{is_blank, remains, name_length}
use Rattle.names.proofs.Remains.{Ends, none_before, ends_at, not_all, remains_at, remains_front}
use Rattle.names.proofs.Given.{above, in_range_fact, one_not, graphic_not_blank}
use Rattle.names.proofs.Lengths.{is_name_fact, is_none}

-- Of the first i bytes r remain, each of which a name may have, and blanks alone follow them.
pub record Passed (text : List ℕ) (r i : ℕ) : Type 0 where
  pub within : r ≤ i
  pub fine : every graphic (take r text) ≡ true
  pub dropped : every is_blank (drop r (take i text)) ≡ true

module _ (text : List ℕ) where
  pub none_passed : Passed text 0 0
  unfolding every
  none_passed = record { within = omega arith; fine = refl; dropped = refl }

  module _ (i : ℕ) (l : i < length text) where
    last_is : take (i + 1) text ≡ take i text ++ (get_or text i 0 ∷ [])
    last_is = let z : i + 1 ≡ suc i = omega arith in rw z (take-suc text i 0 l)

    long : length (take i text) ≡ i
    long = length-take-le i text (omega arith)

    -- a blank is passed
    pub blank_passed : (r : ℕ) → Passed text r i → is_blank (get_or text i 0) ≡ true → Passed text r (i + 1)
    blank_passed r p e =
        let w = p.within in
        record {
          within = omega arith;
          fine = p.fine;
          dropped = rw (last_is, drop-append-le r (take i text) (get_or text i 0 ∷ []) (let k = long in omega arith))
              (every_new is_blank true (drop r (take i text)) (get_or text i 0) p.dropped (λ _. e));
        }

    -- a byte that a name may have is passed, and no blank stands before it
    pub byte_passed : Passed text i i → graphic (get_or text i 0) ≡ true → Passed text (i + 1) (i + 1)
    unfolding every
    byte_passed p e = record {
      within = omega arith;
      fine = rw last_is (every_new graphic true (take i text) (get_or text i 0) p.fine (λ _. e));
      dropped = rw (ended_in text (i + 1) (omega arith));
    }

  -- ── A byte that is no blank remains, and all before it ──
  front_byte : (j : ℕ) → j < length (remains text) → get_or (remains text) j 0 ≡ get_or text j 0
  front_byte j h = ap (λ l. get_or l j 0) (sym (remains_front text)) ∙ get_or-take (length (remains text)) text j 0 h

  bad_byte : (j : ℕ) → j < length (remains text) → graphic (get_or text j 0) ≡ false → is_name (remains text) ≡ false
  unfolding is_name
  bad_byte j h e = go (every graphic (remains text)) refl
    where
      go : (w : Bool) → every graphic (remains text) ≡ w → (between 1 (length (remains text)) 16 && w) ≡ false
      go true q = clash (every_at graphic (remains text) 0 q j h) (ap graphic (front_byte j h) ∙ e)
      go false q = and_comm (between 1 (length (remains text)) 16) false

pub remains_past : (l : List ℕ) (k : ℕ) → k < length l → is_blank (get_or l k 0) ≡ false → k < length (remains l)
unfolding remains
remains_past [] k h e = absurd (omega arith)
remains_past (b ∷ l) zero h e = rw e (omega arith)
remains_past (b ∷ l) (suc k) h e =
    rw (not_all l k (le_of_suc-le-suc h) e, and_comm (is_blank b) false) (suc-le-suc (remains_past l k (le_of_suc-le-suc h) e))

-- out of a name's range
pub strange : (b : ℕ) → (ltb b 0x21 || ltb 0x7E b) ≡ not (graphic b)
strange b = ap (λ x. x || ltb 0x7E b) (above b 0x21) ∙ ap (λ x. not (leb 0x21 b) || x) (above 0x7E b) ∙ one_not (leb 0x21 b) (leb b 0x7E)

module _ (text : List ℕ) (few : length text ≤ 32) where
  -- a blank elsewhere: one was passed, and here is a byte that is none
  pub blank_elsewhere : (r i : ℕ) → Passed text r i → r < i → i < length text → is_blank (get_or text i 0) ≡ false → 0 ≡ name_length text
  blank_elsewhere r i p q l e =
      let f = remains_past text i l e in
      let k = length-take-le i text (omega arith) in
      let d = length-drop r (take i text) in
      let z : r + 0 ≡ r = omega arith in
      let o = get_or-drop r (take i text) 0 0 ∙ ap (λ j. get_or (take i text) j 0) z ∙ get_or-take i text r 0 q in
      let b = sym o ∙ eqb-true _ 0x20 (every_at is_blank (drop r (take i text)) 0 p.dropped 0 (omega arith)) in
      sym (is_none text few (bad_byte text r (omega arith) (ap graphic b)))

  -- a byte that no name has
  pub byte_of_none : (i : ℕ) → i < length text → is_blank (get_or text i 0) ≡ false → graphic (get_or text i 0) ≡ false → 0 ≡ name_length text
  byte_of_none i l e g = sym (is_none text few (bad_byte text i (remains_past text i l e) g))

  -- ── At the end ──
  module _ (r : ℕ) (p : Passed text r (length text)) where
    ends : Ends text r
    ends = go (eqb r 0) refl
      where
        go : (z : Bool) → eqb r 0 ≡ z → Ends text r
        go true e = none_before text r (eqb-true r 0 e)
        go false e =
            let n = eqb-false r 0 e in
            let w = p.within in
            let k = length-take-le r text w in
            let f = every_at graphic (take r text) 0 p.fine (r - 1) (omega arith) in
            let g = ap graphic (sym (get_or-take r text (r - 1) 0 (omega arith))) ∙ f in
            ends_at text r (omega arith) (graphic_not_blank (get_or text (r - 1) 0) g)

    remains_are : remains text ≡ take r text
    remains_are = remains_at text r p.within ends (rw (take-length text) at p.dropped)

    left_is : length (remains text) ≡ r
    left_is = ap length remains_are ∙ length-take-le r text p.within

    -- nothing left, or more than 16 left; or a name
    name_is : is_name (remains text) ≡ between 1 r 16
    unfolding is_name
    name_is = rw (left_is, remains_are, p.fine) (and_comm (between 1 r 16) true)

    pub none_at_end : (eqb r 0 || ltb 16 r) ≡ true → 0 ≡ name_length text
    none_at_end e = sym (is_none text few (name_is ∙ not_true _ (sym (in_range_fact r) ∙ e)))

    pub name_at_end : (eqb r 0 || ltb 16 r) ≡ false → r ≡ name_length text
    name_at_end e = sym (is_name_fact text few (name_is ∙ not_false _ (sym (in_range_fact r) ∙ e)) ∙ left_is)
