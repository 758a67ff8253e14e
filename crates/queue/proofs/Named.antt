-- With the queue too: a row that takes no name ignores the one that it is sent; a row that takes one answers 1 where it is no name.
use Prim.Native.Nat.{ℕ}
use mathlib.Core.Path.{◌≡◌, refl, ap, sym, ◌∙◌}
use mathlib.Core.Bool.{Bool, true, false, cond, ◌||◌}
use mathlib.Core.List.{List, []}
use lib.Dec.{eqb}
use borrow.Author.Tests.{ne_eqb}
use Rattle.lists.specs.Lists.{any}
use Rattle.lists.proofs.Bools.{clash, or_false_l, or_false_r}
use Rattle.records.specs.Names.{is_name}
use Rattle.rules.specs.declared.row.Seen.{Seen}
use Rattle.rules.specs.Seen.{Input, see}
use Rattle.rules.specs.Row as base-row
use Rattle.rules.specs.Row.{Ground, lower, lowest}
use Rattle.rules.specs.Named as base
use Rattle.rules.specs.Named.{name_missing, called}
use Rattle.rules.proofs.Named.{other_number, lower_one, one_is_lowest}
use Rattle.maps.specs.State.{Mapped}
use Rattle.maps.specs.Outcome as maps
use Rattle.maps.specs.Projection as maps-runs
use Rattle.maps.proofs.Named.{row_ignores, answers_one}
use Rattle.queue.specs.declared.request.Request.{Request}
use Rattle.queue.specs.State.{Queued, base_of, QueuedTool, state_of}
use Rattle.queue.specs.Rows.{Row, row_of, passed_on, carrier_out, open_row, cancel_carrier_out}
use Rattle.queue.specs.Outcome.{row_in, answers_in, answer_in, state_after, goes_in, made_in, refused, given_in}
use Rattle.queue.specs.Named.{takes_name}
use Rattle.queue.proofs.Walk.{Plain, walk}

-- ── Ignored ──
-- two rows that come to the same
pub record Alike (s : Mapped) (a b : Row) : Type 0 where
  pub grounds : a.grounds ≡ b.grounds
  pub queue : a.queue ≡ b.queue
  pub answers : answers_in s a.stands ≡ answers_in s b.stands
  pub leads : maps-runs.reached s a.stands ≡ maps-runs.reached s b.stands
  pub goes : goes_in s a.stands ≡ goes_in s b.stands
  pub made : made_in s a.stands ≡ made_in s b.stands

itself : (s : Mapped) (r : Row) → Alike s r r
itself s r = record { grounds = refl; queue = refl; answers = refl; leads = refl; goes = refl; made = refl }

either : {s : Mapped} {a b c d : Row} (w : Bool) → Alike s a b → Alike s c d → Alike s (cond w a c) (cond w b d)
either true p r = p
either false p r = r

module _ (i : Input) (name : List ℕ) (f : takes_name i.number ≡ false) where
  not_base : base.takes_name i.number ≡ false
  unfolding takes_name
  not_base = or_false_l _ _ f

  not_cancel : eqb i.number 29 ≡ false
  unfolding takes_name
  not_cancel = or_false_r (base.takes_name i.number) _ f

  passed_alike : (s : Mapped) (gs : List Ground) (q : List Request) → Alike s (passed_on gs q (called name i)) (passed_on gs q i)
  unfolding answers_in goes_in made_in maps-runs.reached maps.answer_in maps.state_after
  passed_alike s gs q =
      let e = row_ignores i s name not_base in
      record {
        grounds = refl;
        queue = refl;
        answers = rw e;
        leads = rw e;
        goes = ap (λ (r : base-row.Row). r.effect.goes) e;
        made = ap (λ (r : base-row.Row). r.effect.made) e;
      }

  pub rows_alike : (s : Queued) → Alike s.mapped (row_in s (called name i)) (row_in s i)
  unfolding row_of see base.takes_name
  rows_alike s =
      let other = other_number i.number in
      let q = s.queue in
      rw (other 6 not_base refl, other 7 not_base refl, other 19 not_base refl, not_cancel)
      (either (eqb i.number 12) (passed_alike s.mapped _ q)
      (either (eqb i.number 13) (passed_alike s.mapped _ q)
      (either (eqb i.number 27) (itself s.mapped _)
      (either (eqb i.number 28) (itself s.mapped _)
      (either (eqb i.number 30) (itself s.mapped _)
      (passed_alike s.mapped [] q))))))

  pub given_ignores : (t : QueuedTool) → given_in t (called name i) ≡ given_in t i
  unfolding given_in answer_in state_after
  given_ignores t =
      let a = rows_alike (state_of t) in
      rw (a.grounds, a.queue, a.answers, a.leads, a.goes, a.made)

-- ── Refused ──
one_alone : lower 1 0 ≡ 1
unfolding lower
one_alone = refl

-- the second of two tests fails, so the first holds
or_first : (a b : Bool) → (a || b) ≡ true → b ≡ false → a ≡ true
or_first true b e f = refl
or_first false b e f = clash e f

module _ (i : Input) (h : is_name i.name ≡ false) (t : takes_name i.number ≡ true) (m : name_missing i ≡ false) where
  module _ (s : Queued) where
    abbrev x : Seen
    x = see (base_of s) i

    abbrev One : Row → Type 0
    One r = lower (lowest r.grounds) (answers_in s.mapped r.stands) ≡ 1

    unnamed : x.named ≡ false
    unfolding see
    unnamed = h

    -- a row that takes a name, below
    passed_one : (gs : List Ground) (q : List Request) → base.takes_name i.number ≡ true → One (passed_on gs q i)
    unfolding answers_in lower maps-runs.reached
    passed_one gs q b = rw (answers_one i h b m s.mapped) (lower_one (lowest gs))

    out_one : One (carrier_out s.queue x)
    unfolding answers_in any
    out_one = rw (one_is_lowest (carrier_out s.queue x).grounds (rw unnamed)) one_alone

    cancel_one : One (cancel_carrier_out s.queue x)
    unfolding answers_in any
    cancel_one = rw (one_is_lowest (cancel_carrier_out s.queue x).grounds (rw unnamed)) one_alone

    takes_none : (k : ℕ) → i.number ≡ k → takes_name k ≡ false → {X : Type 0} → X
    takes_none k z e = clash (ap takes_name (sym z) ∙ t) e

    takes_base : Plain i.number → base.takes_name i.number ≡ true
    unfolding takes_name
    takes_base p = or_first _ (eqb i.number 29) t (ne_eqb _ 29 p.not_cancel)

    pub answers : answer_in s i ≡ 1
    unfolding answer_in takes_name base.takes_name
    answers = walk One i.number (base_of s) s.queue x i (record {
      cancel_carrier = λ z. passed_one [] s.queue (rw z);
      carrier_out = λ _. out_one;
      cancel_reservation_at_port = λ z. takes_none 12 z refl;
      load_start = λ z. takes_none 13 z refl;
      open_row = λ z. passed_one (open_row s.queue x i).grounds s.queue (rw z);
      out_start = λ z. takes_none 27 z refl;
      out_done = λ z. takes_none 28 z refl;
      cancel_carrier_out = λ _. cancel_one;
      cancel_all_carrier_out = λ z. takes_none 30 z refl;
      other = λ p. passed_one [] s.queue (takes_base p);
    })

  pub turned_away : (u : QueuedTool) → given_in u i ≡ refused u 1
  unfolding given_in
  turned_away u = rw (answers (state_of u))
