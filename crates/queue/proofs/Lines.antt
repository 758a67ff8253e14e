-- Whether a queue is sound with a state: one request more, one less, one started, and a state that changes under it.
use Prim.Native.Nat.{ℕ, zero, suc, ◌+◌, ◌≤◌, ◌<◌}
use native.Mathlib.Nat.{le_of_suc-le-suc}
use native.Mathlib.Omega.{arith}
use native.Mathlib.Decide.{ℕ_discrete}
use mathlib.Core.Path.{◌≡◌, refl, sym}
use mathlib.Core.Logic.{◌≢◌}
use mathlib.Core.Bool.{Bool, true, false, not, ◌&&◌, ◌||◌}
use mathlib.Core.List.{List, [], ◌∷◌, ◌++◌}
use lib.ListN.{length, get_or, set, length-set, length-append}
use lib.Seq.{get_or-set_same, get_or-set_other}
use lib.Dec.{eqb, ltb}
use borrow.Author.Tests.{eqb-true, eqb-false, ltb-true, ltb-false, eq-eqb, ne_eqb}
use Rattle.lists.specs.Lists.{between, every, every_two, any, without, where_is}
use Rattle.lists.proofs.Bools.{clash, cond_ind, and_l, and_r, and_i, or_other, or_false_l, or_false_r, not_true}
use Rattle.lists.proofs.Tests.{every_at, any_not, nowhere, two_at}
use Rattle.lists.proofs.Parts.{every_all, every_gone, every_new, two_all, two_gone, two_new}
use Rattle.records.specs.declared.name.Name.{Name}
use Rattle.records.specs.Names.{same_name}
use Rattle.records.specs.Carriers.{in_buffer}
use Rattle.rules.specs.State.{State, port_of}
use Rattle.rules.proofs.Names.{name_is, name_same}
use Rattle.queue.specs.declared.request.Request.{Request}
use Rattle.queue.specs.Requests.{no_request, new_request, begun, is_started, is_of, is_queued, carrier_of, may_leave, only}
use Rattle.queue.specs.Sound.{request_in_range, carrier_stored, other_carrier, carrier_shut, alone_there, kept_free, port_kept}

-- ── Lists ──
module _ {A : Type 0} where
  length_without : (k : ℕ) (l : List A) → length (without k l) ≤ length l
  unfolding without
  length_without k [] = omega arith
  length_without zero (x ∷ l) = omega arith
  length_without (suc k) (x ∷ l) = let r = length_without k l in omega arith

  every_without : (f : A → Bool) (d : A) (k : ℕ) (l : List A) → every f l ≡ true → every f (without k l) ≡ true
  every_without f d k l e = every_gone f l k d (λ j b _. every_at f l d e j b)

  two_without : (f : A → A → Bool) (d : A) (k : ℕ) (l : List A) → every_two f l ≡ true → every_two f (without k l) ≡ true
  two_without f d k l e = two_gone f l k d (λ i j a b _ _. two_at f l d e i j a b)

  every_set : (f : A → Bool) (d : A) (k : ℕ) (y : A) (l : List A) → every f l ≡ true → (k < length l → f y ≡ true)
      → every f (set l k y) ≡ true
  every_set f d k y l e h = every_all f (set l k y) d (λ j b. go j (rw length-set at b) (ℕ_discrete j k))
    where
      go : (j : ℕ) → j < length l → Dec (j ≡ k) → f (get_or (set l k y) j d) ≡ true
      go j b (yes z) = rw (z, get_or-set_same l k y d (rw z at b)) (h (rw z at b))
      go j b (no n) = rw (get_or-set_other l k j y d n) (every_at f l d e j b)

  two_set : (f : A → A → Bool) (d : A) (k : ℕ) (y : A) (l : List A) → every_two f l ≡ true
      → ((j : ℕ) → j < length l → k < length l → j ≢ k → (f (get_or l j d) y ≡ true) × (f y (get_or l j d) ≡ true))
      → every_two f (set l k y) ≡ true
  two_set f d k y l e h = two_all f (set l k y) d (λ i j a b. go i j a (rw length-set at b) (ℕ_discrete i k) (ℕ_discrete j k))
    where
      go : (i j : ℕ) → i < j → j < length l → Dec (i ≡ k) → Dec (j ≡ k) → f (get_or (set l k y) i d) (get_or (set l k y) j d) ≡ true
      go i j a b (yes z) (yes w) = absurd (omega arith)
      go i j a b (yes z) (no m) =
          let u : k < length l = omega arith in
          rw (z, get_or-set_same l k y d u, get_or-set_other l k j y d m) (h j b u m).1
      go i j a b (no m) (yes w) =
          let u : k < length l = omega arith in
          rw (w, get_or-set_same l k y d u, get_or-set_other l k i y d m) (h i (omega arith) u m).0
      go i j a b (no m) (no o) = rw (get_or-set_other l k i y d m, get_or-set_other l k j y d o) (two_at f l d e i j a b)

  -- none passes: each one fails
  pub none_at : (f : A → Bool) (d : A) (l : List A) → any f l ≡ false → (j : ℕ) → j < length l → f (get_or l j d) ≡ false
  unfolding any
  none_at f d [] e j b = absurd (omega arith)
  none_at f d (x ∷ l) e zero b = or_false_l (f x) _ e
  none_at f d (x ∷ l) e (suc j) b = none_at f d l (or_false_r (f x) _ e) j (le_of_suc-le-suc b)

  -- where some element passes, the first that does stands in the list
  pub some_stands : (f : A → Bool) (d : A) (l : List A) → any f l ≡ true → where_is f l < length l
  some_stands f d l e = go (ltb (where_is f l) (length l)) refl
    where
      go : (w : Bool) → ltb (where_is f l) (length l) ≡ w → where_is f l < length l
      go true q = ltb-true _ _ q
      go false q = clash e (any_not f l d (nowhere f l d (ltb-false (where_is f l) (length l) q)))

-- two names that differ
pub differ : {a c : Name} → a ≢ c → not (same_name a c) ≡ true
differ {a} {c} n = go (same_name a c) refl
  where
    go : (w : Bool) → same_name a c ≡ w → not w ≡ true
    go true e = absurd (n (name_is a c e))
    go false e = refl

-- those that pass a test
module _ (t : Request → Bool) where
  every_only : (f : Request → Bool) (q : List Request) → every f q ≡ true → every f (only t q) ≡ true
  unfolding every only
  every_only f [] e = refl
  every_only f (r ∷ q) e =
      let k = every_only f q (and_r (f r) _ e) in
      cond_ind (λ l. every f l ≡ true) (t r) {x = r ∷ only t q} {y = only t q} (λ _. and_i (and_l (f r) _ e) k) (λ _. k)

  two_only : (f : Request → Request → Bool) (q : List Request) → every_two f q ≡ true → every_two f (only t q) ≡ true
  unfolding every_two only
  two_only f [] e = refl
  two_only f (r ∷ q) e =
      let k = two_only f q (and_r (every (f r) q) _ e) in
      cond_ind (λ l. every_two f l ≡ true) (t r) {x = r ∷ only t q} {y = only t q}
      (λ _. and_i (every_only (f r) q (and_l (every (f r) q) _ e)) k) (λ _. k)

  length_only : (q : List Request) → length (only t q) ≤ length q
  unfolding only
  length_only [] = omega arith
  length_only (r ∷ q) =
      let k = length_only q in
      cond_ind (λ l. length l ≤ suc (length q)) (t r) {x = r ∷ only t q} {y = only t q} (λ _. omega arith) (λ _. omega arith)

-- ── The queue's clauses ──
pub record Line (s : State) (q : List Request) : Type 0 where
  pub few : length q ≤ 16
  pub ranges : every (request_in_range (length s.ports)) q ≡ true
  pub stored : every (carrier_stored s) q ≡ true
  pub others : every_two other_carrier q ≡ true
  pub shut : every (carrier_shut s) q ≡ true
  pub alone : every_two alone_there q ≡ true
  pub kept : every (port_kept s) q ≡ true

pub line_none : (s : State) → Line s []
unfolding every every_two
line_none s = record { few = omega arith; ranges = refl; stored = refl; others = refl; shut = refl; alone = refl; kept = refl }

-- one goes
pub line_without : (s : State) (k : ℕ) (q : List Request) → Line s q → Line s (without k q)
line_without s k q l = record {
  few = let a = length_without k q in let b = l.few in omega arith;
  ranges = every_without _ no_request k q l.ranges;
  stored = every_without _ no_request k q l.stored;
  others = two_without _ no_request k q l.others;
  shut = every_without _ no_request k q l.shut;
  alone = two_without _ no_request k q l.alone;
  kept = every_without _ no_request k q l.kept;
}

-- those go that don't pass a test
pub line_only : (s : State) (t : Request → Bool) (q : List Request) → Line s q → Line s (only t q)
line_only s t q l = record {
  few = let a = length_only t q in let b = l.few in omega arith;
  ranges = every_only t _ q l.ranges;
  stored = every_only t _ q l.stored;
  others = two_only t _ q l.others;
  shut = every_only t _ q l.shut;
  alone = two_only t _ q l.alone;
  kept = every_only t _ q l.kept;
}

-- what a request that isn't started satisfies
module _ (s : State) (r : Request) (e : is_started r ≡ false) where
  waiting_shut : carrier_shut s r ≡ true
  unfolding carrier_shut
  waiting_shut = rw e

  waiting_kept : port_kept s r ≡ true
  unfolding port_kept
  waiting_kept = rw e

  waiting_alone : (a : Request) → alone_there a r ≡ true
  unfolding alone_there
  waiting_alone a = rw e (go (is_started a))
    where
      go : (w : Bool) → (not (w && false) || not (eqb a.port r.port)) ≡ true
      go true = refl
      go false = refl

-- a name that isn't queued is another's
other_of : (n : Name) (q : List Request) → is_queued n q ≡ false → every (λ r. not (same_name r.name n)) q ≡ true
other_of n q e = every_all _ q no_request (λ j b. rw (none_at (is_of n) no_request q e j b))

-- one is new
pub line_added : (s : State) (n : Name) (p : ℕ) (q : List Request) → Line s q → length q < 16
    → request_in_range (length s.ports) (new_request n p) ≡ true → carrier_stored s (new_request n p) ≡ true → is_queued n q ≡ false
    → Line s (q ++ new_request n p ∷ [])
unfolding other_carrier
line_added s n p q l room range stored alone =
    let r = new_request n p in
    record {
      few = let e : length (q ++ r ∷ []) ≡ length q + 1 = length-append q (r ∷ []) in omega arith;
      ranges = every_new _ true q r l.ranges (λ _. range);
      stored = every_new _ true q r l.stored (λ _. stored);
      others = two_new _ true q r l.others (λ _. other_of n q alone);
      shut = every_new _ true q r l.shut (λ _. waiting_shut s r refl);
      alone = two_new _ true q r l.alone (λ _. every_all _ q no_request (λ j b. waiting_alone s r refl (get_or q j no_request)));
      kept = every_new _ true q r l.kept (λ _. waiting_kept s r refl);
    }

-- ── By position ──
module _ (s : State) (q : List Request) (l : Line s q) where
  abbrev pub at : ℕ → Request
  at k = get_or q k no_request

  module _ (k : ℕ) (b : k < length q) where
    pub wide_at : length (at k).name.bytes ≡ 16
    unfolding request_in_range
    wide_at = eqb-true _ 16 (and_l _ _ (and_l _ _ (every_at _ q no_request l.ranges k b)))

    pub port_at : between 1 (at k).port (length s.ports) ≡ true
    unfolding request_in_range
    port_at = and_r (eqb (length (at k).name.bytes) 16) _ (and_l _ _ (every_at _ q no_request l.ranges k b))

    pub stored_at : in_buffer (carrier_of s (at k).name) ≡ true
    unfolding carrier_stored
    stored_at = every_at _ q no_request l.stored k b

    pub shut_at : is_started (at k) ≡ true → may_leave (carrier_of s (at k).name) ≡ true
    unfolding carrier_shut
    shut_at e = or_other (not (is_started (at k))) _ (every_at _ q no_request l.shut k b) (rw e)

    pub kept_at : is_started (at k) ≡ true → kept_free (port_of s (at k).port) ≡ true
    unfolding port_kept
    kept_at e = or_other (not (is_started (at k))) _ (every_at _ q no_request l.kept k b) (rw e)

  -- no carrier twice, and one started to a port
  other_at : (j k : ℕ) → j < k → k < length q → (at j).name ≢ (at k).name
  unfolding other_carrier
  other_at j k a b z = clash (name_same _ _ z) (not_true _ (two_at other_carrier q no_request l.others j k a b))

  alone_at : (j k : ℕ) → j < k → k < length q → is_started (at j) ≡ true → is_started (at k) ≡ true → (at j).port ≢ (at k).port
  unfolding alone_there
  alone_at j k a b e f =
      eqb-false _ _ (not_true _ (or_other (not (is_started (at j) && is_started (at k))) _
      (two_at alone_there q no_request l.alone j k a b) (rw (e, f))))

  pub names_at : (j k : ℕ) → j < length q → k < length q → j ≢ k → (at j).name ≢ (at k).name
  names_at j k a b n = go (ltb j k) refl
    where
      go : (w : Bool) → ltb j k ≡ w → (at j).name ≢ (at k).name
      go true e = other_at j k (ltb-true j k e) b
      go false e = let o = ltb-false j k e in λ z. other_at k j (omega arith) a (sym z)

  pub ports_at : (j k : ℕ) → j < length q → k < length q → j ≢ k → is_started (at j) ≡ true → is_started (at k) ≡ true
      → (at j).port ≢ (at k).port
  ports_at j k a b n e f = go (ltb j k) refl
    where
      go : (w : Bool) → ltb j k ≡ w → (at j).port ≢ (at k).port
      go true o = alone_at j k (ltb-true j k o) b e f
      go false o = let u = ltb-false j k o in λ z. alone_at k j (omega arith) a f e (sym z)

-- ── A state that changes under the queue ──
module _ (s t : State) (q : List Request) (l : Line s q) (ports : length t.ports ≡ length s.ports)
    (stored : (k : ℕ) → k < length q → in_buffer (carrier_of t (get_or q k no_request).name) ≡ true)
    (shut : (k : ℕ) → k < length q → is_started (get_or q k no_request) ≡ true → may_leave (carrier_of t (get_or q k no_request).name) ≡ true)
    (kept : (k : ℕ) → k < length q → is_started (get_or q k no_request) ≡ true → kept_free (port_of t (get_or q k no_request).port) ≡ true) where
  unless_waiting : (w : Bool) {b : Bool} → (w ≡ true → b ≡ true) → (not w || b) ≡ true
  unless_waiting true f = f refl
  unless_waiting false f = refl

  pub line_moved : Line t q
  unfolding carrier_stored carrier_shut port_kept
  line_moved = record {
    few = l.few;
    ranges = rw ports l.ranges;
    stored = every_all _ q no_request stored;
    others = l.others;
    shut = every_all _ q no_request (λ k b. unless_waiting (is_started (get_or q k no_request)) (shut k b));
    alone = l.alone;
    kept = every_all _ q no_request (λ k b. unless_waiting (is_started (get_or q k no_request)) (kept k b));
  }

-- ── One is started ──
module _ (s : State) (k : ℕ) (q : List Request) (l : Line s q) (b : k < length q)
    (shut : may_leave (carrier_of s (get_or q k no_request).name) ≡ true) (kept : kept_free (port_of s (get_or q k no_request).port) ≡ true)
    (alone : (j : ℕ) → j < length q → is_started (get_or q j no_request) ≡ true → (get_or q j no_request).port ≢ (get_or q k no_request).port) where
  abbrev r : Request
  r = get_or q k no_request

  apart : (a c : Request) → (is_started a ≡ true → is_started c ≡ true → a.port ≢ c.port) → alone_there a c ≡ true
  unfolding alone_there
  apart a c n = go (is_started a) refl (is_started c) refl
    where
      go : (v : Bool) → is_started a ≡ v → (w : Bool) → is_started c ≡ w → (not (v && w) || not (eqb a.port c.port)) ≡ true
      go true e true f = rw (ne_eqb _ _ (n e f))
      go true e false f = refl
      go false e w f = refl

  begun_range : request_in_range (length s.ports) (begun r) ≡ true
  unfolding request_in_range
  begun_range = and_i (and_i (eq-eqb _ 16 (wide_at s q l k b)) (port_at s q l k b)) refl

  pub line_begun : Line s (set q k (begun r))
  unfolding carrier_stored other_carrier carrier_shut port_kept
  line_begun = record {
    few = rw length-set l.few;
    ranges = every_set _ no_request k _ q l.ranges (λ _. begun_range);
    stored = every_set _ no_request k _ q l.stored (λ _. every_at _ q no_request l.stored k b);
    others = two_set _ no_request k _ q l.others
        (λ j a _ n. (differ (names_at s q l j k a b n), differ (names_at s q l k j b a (λ z. n (sym z)))));
    shut = every_set _ no_request k _ q l.shut (λ _. shut);
    alone = two_set _ no_request k _ q l.alone
        (λ j a _ n. (
          apart (get_or q j no_request) (begun r) (λ e _. alone j a e),
          apart (begun r) (get_or q j no_request) (λ _ e z. alone j a e (sym z)),
        ));
    kept = every_set _ no_request k _ q l.kept (λ _. kept);
  }
