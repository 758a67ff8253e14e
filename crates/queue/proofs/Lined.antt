-- An entry keeps its place until it is started, dropped or done.
use Prim.Native.Nat.{ℕ, ◌<◌}
use native.Mathlib.Decide.{ℕ_discrete}
use mathlib.Core.Path.{◌≡◌, refl, sym, ◌∙◌}
use mathlib.Core.Logic.{◌≢◌, ◌⊎◌, inl, inr}
use mathlib.Core.Bool.{Bool, true, false, cond, ◌&&◌, ◌||◌}
use mathlib.Core.List.{List, [], ◌∷◌, ◌++◌}
use lib.ListN.{length, get_or, set}
use lib.Dec.{eqb, ltb}
use borrow.Author.Tests.{eqb-true, eq-eqb, ltb-true, lt-ltb}
use Rattle.lists.specs.Lists.{any, where_is, without}
use Rattle.lists.proofs.Bools.{clash, and_l, and_r, and_i, or_l, or_r, or_false_l, or_false_r, not_true}
use Rattle.lists.proofs.Tests.{any_here, any_gone, where_holds}
use Rattle.lists.proofs.Parts.{any_found, any_earlier}
use Rattle.records.specs.declared.name.Name.{Name}
use Rattle.records.specs.Names.{in_bytes, same_name}
use Rattle.rules.specs.declared.row.Seen.{Seen}
use Rattle.rules.specs.Seen.{Input, narrow, see}
use Rattle.rules.proofs.Names.{name_is, name_same}
use Rattle.queue.specs.declared.request.Request.{Request}
use Rattle.queue.specs.Requests.{no_request, begun, is_started, is_of, waits_of, started_to, is_queued, all_dropped}
use Rattle.queue.specs.State.{Queued, base_of}
use Rattle.queue.specs.Sound.{sound}
use Rattle.queue.specs.Outcome.{row_in, answer_in, enact, state_after}
use Rattle.queue.specs.Dispatch.{is_ahead, is_under_way, is_done, is_drop, takes_out, KeepsPlace}
use Rattle.queue.proofs.Lines.{Line, names_at}
use Rattle.queue.proofs.Places.{where_set, some_begun, some_left, Ahead, ahead_more, ahead_less, ahead_dropped, some_started}
use Rattle.queue.proofs.SoundRuns.{sound_parts}
use Rattle.queue.proofs.Walk.{walk}

-- What a row may make of the queue.
data Change (q : List Request) : List Request → Type 0 where
  same : Change q q
  more : (r : Request) → Change q (q ++ r ∷ [])
  less : (k : ℕ) → Change q (without k q)
  begins : (k : ℕ) → Change q (set q k (begun (get_or q k no_request)))
  drops : Change q (all_dropped q)

changed : (s : Queued) (i : Input) → Change s.queue (row_in s i).queue
changed s i = walk (λ r. Change s.queue r.queue) i.number (base_of s) s.queue (see (base_of s) i) i (record {
  cancel_carrier = λ _. less _;
  carrier_out = λ _. more _;
  cancel_reservation_at_port = λ _. same;
  load_start = λ _. same;
  open_row = λ _. same;
  out_start = λ _. begins _;
  out_done = λ _. less _;
  cancel_carrier_out = λ _. less _;
  cancel_all_carrier_out = λ _. drops;
  other = λ _. same;
})

module _ (s : Queued) (l : Line (base_of s) s.queue) where
  abbrev q : List Request
  q = s.queue

  abbrev at : ℕ → Request
  at k = get_or q k no_request

  -- the one that goes isn't the one that is left
  other_left : (n : Name) (k : ℕ) → any (is_of n) (without k q) ≡ true → k < length q → is_of n (at k) ≡ false
  other_left n k e b = go (is_of n (at k)) refl
    where
      nobody : is_of n (at k) ≡ true → (j : ℕ) → j < length q → j ≢ k → (w : Bool) → is_of n (at j) ≡ w → w ≡ false
      nobody t j a d true o = absurd (names_at (base_of s) q l j k a b d (name_is _ _ o ∙ sym (name_is _ _ t)))
      nobody t j a d false o = refl

      go : (w : Bool) → is_of n (at k) ≡ w → w ≡ false
      go true t = clash e (any_gone (is_of n) q k no_request (λ j a d. nobody t j a d (is_of n (at j)) refl))
      go false t = refl

  -- one that is left when those go that aren't started is started
  started_left : (n : Name) → any (is_of n) (all_dropped q) ≡ true → (j : ℕ) → j < length q → is_of n (at j) ≡ true → is_started (at j) ≡ true
  started_left n e j b t =
      let f = any_found (λ r. is_of n r && is_started r) q no_request (some_started (is_of n) q ∙ e) in
      go f.0 f.1 f.2 (ℕ_discrete j f.0)
    where
      go : (k : ℕ) → k < length q → (is_of n (at k) && is_started (at k)) ≡ true → Dec (j ≡ k) → is_started (at j) ≡ true
      go k a o (yes z) = rw z (and_r (is_of n (at k)) _ o)
      go k a o (no d) = absurd (names_at (base_of s) q l j k b a d (name_is _ _ t ∙ sym (name_is _ _ (and_l _ _ o))))

  ahead_before : (m n : Name) → any (is_of n) q ≡ true → (after : List Request) → Change q after → any (is_of n) after ≡ true
      → Ahead (is_of m) (is_of n) after → Ahead (is_of m) (is_of n) q
  ahead_before m n e after same f b = b
  ahead_before m n e after (more r) f b = ahead_more (is_of m) (is_of n) q (r ∷ []) e b
  ahead_before m n e after (less k) f b = ahead_less (is_of m) (is_of n) k q no_request (other_left n k f) b
  ahead_before m n e after (begins k) f b =
      rw (where_set (is_of m) q k (begun (at k)) no_request (λ _. refl), where_set (is_of n) q k (begun (at k)) no_request (λ _. refl)) at b
  ahead_before m n e after drops f b = ahead_dropped (is_of m) (is_of n) q no_request (started_left n f) b

  -- ── What some request passes, some passes afterwards, if those that go don't pass it ──
  module _ (i : Input) (t : Request → Bool) (e : any t q ≡ true) (up : (r : Request) → t r ≡ true → t (begun r) ≡ true)
      (cancels : (i.number ≡ 6) ⊎ (i.number ≡ 29) → (j : ℕ) → j < length q → waits_of (in_bytes i.name) (at j) ≡ true → t (at j) ≡ false)
      (done : i.number ≡ 28 → (j : ℕ) → j < length q → started_to (narrow i.port) (at j) ≡ true → t (at j) ≡ false)
      (all : i.number ≡ 30 → (j : ℕ) → j < length q → t (at j) ≡ true → is_started (at j) ≡ true) where
    abbrev x : Seen
    x = see (base_of s) i

    one_goes : (f : Request → Bool) → ((j : ℕ) → j < length q → f (at j) ≡ true → t (at j) ≡ false) → any t (without (where_is f q) q) ≡ true
    one_goes f h = some_left t q (where_is f q) no_request (λ b. h (where_is f q) b (where_holds f q no_request b)) e

    all_go : i.number ≡ 30 → any t (all_dropped q) ≡ true
    all_go z =
        let f = any_found t q no_request e in
        sym (some_started t q) ∙ any_here (λ r. t r && is_started r) q f.0 no_request f.1 (and_i f.2 (all z f.0 f.1 f.2))

    cancelled : (i.number ≡ 6) ⊎ (i.number ≡ 29) → any t (without (where_is (waits_of x.name) q) q) ≡ true
    unfolding see
    cancelled z = one_goes (waits_of x.name) (cancels z)

    is_done_fact : i.number ≡ 28 → any t (without (where_is (started_to x.port) q) q) ≡ true
    unfolding see
    is_done_fact z = one_goes (started_to x.port) (done z)

    passes_still : any t (row_in s i).queue ≡ true
    passes_still = walk (λ r. any t r.queue ≡ true) i.number (base_of s) q x i (record {
      cancel_carrier = λ z. cancelled (inl z);
      carrier_out = λ _. any_earlier t true q _ e;
      cancel_reservation_at_port = λ _. e;
      load_start = λ _. e;
      open_row = λ _. e;
      out_start = λ _. some_begun t q _ _ no_request (up _) e;
      out_done = is_done_fact;
      cancel_carrier_out = λ z. cancelled (inr z);
      cancel_all_carrier_out = all_go;
      other = λ _. e;
    })

    pub passes_after : any t (state_after s i).queue ≡ true
    unfolding state_after
    passes_after = go (eqb (answer_in s i) 0)
      where
        go : (w : Bool) → any t (cond w (enact (row_in s i) s) s).queue ≡ true
        go true = passes_still
        go false = e

  -- ── A carrier that is queued stays queued ──
  module _ (i : Input) (n : Name) (e : is_queued n q ≡ true) (out : takes_out q n i ≡ false) where
    not_done : (eqb i.number 28 && is_under_way n (narrow i.port) q) ≡ false
    unfolding takes_out
    not_done = or_false_l _ _ out

    not_dropped : (any (waits_of n) q && is_drop n i) ≡ false
    unfolding takes_out
    not_dropped = or_false_r (eqb i.number 28 && is_under_way n (narrow i.port) q) _ out

    drop_is : (i.number ≡ 6) ⊎ (i.number ≡ 29) → in_bytes i.name ≡ n → is_drop n i ≡ true
    unfolding is_drop
    drop_is (inl z) m = or_l _ (and_i (or_r (eqb i.number 29) (eq-eqb _ 6 z)) (name_same _ _ m))
    drop_is (inr z) m = or_l _ (and_i (or_l _ (eq-eqb _ 29 z)) (name_same _ _ m))

    all_is : i.number ≡ 30 → is_drop n i ≡ true
    unfolding is_drop
    all_is z = or_r ((eqb i.number 29 || eqb i.number 6) && same_name (in_bytes i.name) n) (eq-eqb _ 30 z)

    -- its own request waits: then no drop of it
    waits_here : (j : ℕ) → j < length q → is_of n (at j) ≡ true → is_started (at j) ≡ false → any (waits_of n) q ≡ true
    waits_here j b o w = any_here (waits_of n) q j no_request b (and_i o (rw w))

    not_cancelled : (i.number ≡ 6) ⊎ (i.number ≡ 29) → (j : ℕ) → j < length q → waits_of (in_bytes i.name) (at j) ≡ true
        → is_of n (at j) ≡ false
    not_cancelled z j b w = go (is_of n (at j)) refl
      where
        go : (v : Bool) → is_of n (at j) ≡ v → v ≡ false
        go true o =
            clash (and_i (waits_here j b o (not_true _ (and_r (is_of (in_bytes i.name) (at j)) _ w)))
            (drop_is z (sym (name_is _ _ (and_l _ _ w)) ∙ name_is _ _ o))) not_dropped
        go false o = refl

    not_ended : i.number ≡ 28 → (j : ℕ) → j < length q → started_to (narrow i.port) (at j) ≡ true → is_of n (at j) ≡ false
    unfolding is_under_way
    not_ended z j b w = go (is_of n (at j)) refl
      where
        go : (v : Bool) → is_of n (at j) ≡ v → v ≡ false
        go true o =
            clash (and_i (eq-eqb _ 28 z) (any_here (λ r. is_of n r && started_to (narrow i.port) r) q j no_request b (and_i o w))) not_done
        go false o = refl

    still_started : i.number ≡ 30 → (j : ℕ) → j < length q → is_of n (at j) ≡ true → is_started (at j) ≡ true
    still_started z j b o = go (is_started (at j)) refl
      where
        go : (v : Bool) → is_started (at j) ≡ v → v ≡ true
        go true w = refl
        go false w = clash (and_i (waits_here j b o w) (all_is z)) not_dropped

    stays_queued : is_queued n (state_after s i).queue ≡ true
    stays_queued = passes_after i (is_of n) e (λ r o. o) not_cancelled not_ended still_started

pub keeps_place : (s : Queued) (i : Input) → sound s ≡ true → KeepsPlace s i
unfolding is_ahead state_after
keeps_place s i h = record {
  stays = λ n e o. stays_queued s l i n e o;
  no_overtaking = λ m n e f a. lt-ltb _ _ (ahead m n e (eqb (answer_in s i) 0) f a);
}
  where
    l : Line (base_of s) s.queue
    l = (sound_parts s h).line

    ahead : (m n : Name) → is_queued n s.queue ≡ true → (w : Bool) → is_queued n (cond w (enact (row_in s i) s) s).queue ≡ true
        → ltb (where_is (is_of m) (cond w (enact (row_in s i) s) s).queue) (where_is (is_of n) (cond w (enact (row_in s i) s) s).queue) ≡ true
        → Ahead (is_of m) (is_of n) s.queue
    ahead m n e true f a = ahead_before s l m n e (row_in s i).queue (changed s i) f (ltb-true _ _ a)
    ahead m n e false f a = ltb-true _ _ a

-- ── A request that is under way stays so ──
module _ (s : Queued) (i : Input) (n : Name) (p : ℕ) (l : Line (base_of s) s.queue) (e : is_under_way n p s.queue ≡ true)
    (d : is_done p i ≡ false) where
  abbrev way : Request → Bool
  way r = is_of n r && started_to p r

  is_started_fact : (r : Request) → way r ≡ true → is_started r ≡ true
  is_started_fact r o = and_r (eqb r.port p) _ (and_r (is_of n r) _ o)

  begins_too : (r : Request) → way r ≡ true → way (begun r) ≡ true
  begins_too r o =
      let t : eqb r.port p ≡ true = and_l _ _ (and_r (is_of n r) _ o) in
      and_i {a = is_of n r} (and_l (is_of n r) _ o) (rw t)

  -- one that waits isn't under way, and neither is one that is started to another port
  waiting : (r : Request) (m : Name) → waits_of m r ≡ true → way r ≡ false
  waiting r m w = go (way r) refl
    where
      go : (v : Bool) → way r ≡ v → v ≡ false
      go true o = clash (is_started_fact r o) (not_true _ (and_r (is_of m r) _ w))
      go false o = refl

  elsewhere : i.number ≡ 28 → (r : Request) → started_to (narrow i.port) r ≡ true → way r ≡ false
  unfolding is_done
  elsewhere z r w = go (way r) refl
    where
      go : (v : Bool) → way r ≡ v → v ≡ false
      go true o =
          clash (and_i (eq-eqb _ 28 z) (eq-eqb _ p (sym (eqb-true _ _ (and_l _ _ w)) ∙ eqb-true _ p (and_l _ _ (and_r (is_of n r) _ o))))) d
      go false o = refl

  pub under_way_after : is_under_way n p (state_after s i).queue ≡ true
  unfolding is_under_way
  under_way_after =
      passes_after s l i way e begins_too
      (λ _ j b w. waiting (get_or s.queue j no_request) (in_bytes i.name) w)
      (λ z j b w. elsewhere z (get_or s.queue j no_request) w)
      (λ _ j b o. is_started_fact (get_or s.queue j no_request) o)
