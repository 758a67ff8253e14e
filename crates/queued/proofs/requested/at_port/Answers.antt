use mathlib.Core.Path.{◌≡◌, refl, sym, ap, ◌∙◌}
use mathlib.Core.Bool.{Bool, true, false, ◌||◌}
use Prim.Native.Nat.{ℕ}
use mathlib.Core.List.{List, [], ◌∷◌}
use lib.Dec.{eqb}
use borrow.Author.Tests.{eqb-true}
use Rattle.lists.specs.Lists.{any}
use Rattle.lists.proofs.Bools.{or_other}
use Rattle.records.specs.declared.refusal.Refusal.TheVariants.{ReservedOrTied}
use Rattle.rules.specs.Seen.{Input, narrow, see, input_in}
use Rattle.rules.specs.Row.{when, lower, lowest}
use Rattle.mapped.specs.Bytes.{own_in}
use Rattle.queue.specs.declared.request.Request.{Request}
use Rattle.queue.specs.Requests.{started_to}
use Rattle.queue.specs.State.{base_of, state_of}
use Rattle.queue.specs.Rows.{row_of}
use Rattle.queue.proofs.HeldBack.{cancel_held_back, load_held_back}
use Rattle.line.specs.Bytes.{queue_of}
use Rattle.queued.specs.Bytes.{queued_in}
use Rattle.queued.proofs.Held.{holds, mapped_sound, state_sound}
use Rattle.queued.proofs.Given.{refused_left, passed_left}
use Rattle.queued.proofs.requested.at_port.Goals as goal

-- row 12 or row 13
either_row : (n : ℕ) → (eqb n 12 || eqb n 13) ≡ true → {X : Type 0} → (n ≡ 12 → X) → (n ≡ 13 → X) → X
either_row n b {X} f g = go (eqb n 12) refl
  where
    go : (w : Bool) → eqb n 12 ≡ w → X
    go true e = f (eqb-true _ 12 e)
    go false e = g (eqb-true _ 13 (or_other (eqb n 12) _ b e))

pub some_started_to-requires : goal.some_started_to-requires
some_started_to-requires c = holds c.args.m.now c.requires.m_value

pub passed_on-requires : goal.passed_on-requires
passed_on-requires c = mapped_sound c.args.m.now c.requires.m_value

pub returns-then-some_started_to : goal.returns-then-some_started_to
unfolding see
returns-then-some_started_to c =
    let input : Input =
    input_in c.args.i in
    let line : List Request =
    queue_of (own_in c.args.m.now) in
    let started : c.some_started_to.result ≡ any (started_to (see (base_of (state_of (queued_in c.args.m.now))) input).port) line =
    c.some_started_to.ensures ∙ ap (λ p. any (started_to p) line) c.narrow.ensures in
    let m = c.args.m.now in
    let some = sym started ∙ c.if-some_started_to.true in
    let h = state_sound m c.requires.m_value in let both = refused_left m c.requires.m_value input ReservedOrTied _ _
    (either_row c.args.i.number c.requires.number_value (cancel_held_back _ input h some) (load_held_back _ input h some))
    c.unmoved.ensures.value c.unmoved.ensures.o_after in record { result_after = both.0; kept_outside = both.1 }

pub returns-else-some_started_to : goal.returns-else-some_started_to
unfolding row_of lowest lower see
returns-else-some_started_to c =
    let input : Input =
    input_in c.args.i in
    let line : List Request =
    queue_of (own_in c.args.m.now) in
    let started : c.some_started_to.result ≡ any (started_to (see (base_of (state_of (queued_in c.args.m.now))) input).port) line =
    c.some_started_to.ensures ∙ ap (λ p. any (started_to p) line) c.narrow.ensures in
    let m = c.args.m.now in
    let none = sym started ∙ c.if-some_started_to.false in let both = passed_left m c.requires.m_value input (when (any (started_to (narrow c.args.i.port)) line) 4 ∷ [])
    (either_row c.args.i.number c.requires.number_value (λ e. rw e) (λ e. rw e)) (rw none) c.passed_on.new.m c.passed_on.new.o
    c.passed_on.result c.passed_on.ensures.result_after c.passed_on.ensures.kept_outside in record { result_after = both.0; kept_outside = both.1 }
