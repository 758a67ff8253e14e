use native.Mathlib.Omega.{arith}
use mathlib.Core.Path.{◌≡◌, refl, sym, ap, ap₂, ◌∙◌}
use mathlib.Core.Bool.{Bool, true, false, ◌&&◌}
use mathlib.Core.List.{List, [], ◌∷◌}
use Rattle.lists.specs.Lists.{any}
use Rattle.lists.proofs.Bools.{clash, and_l, and_r}
use Rattle.records.specs.Names.{in_bytes, is_name}
use Rattle.records.specs.declared.refusal.Refusal.TheVariants.{Conditions}
use Rattle.rules.specs.Seen.{Input, see, numbered}
use Rattle.rules.specs.Row.{when, lower, lowest}
use Rattle.follow.specs.Follow.{KeptOutside}
use Rattle.mapped.specs.Bytes.{own_in}
use Rattle.queue.specs.declared.request.Request.{Request}
use Rattle.queue.specs.Requests.{started_of}
use Rattle.queue.specs.State.{Queued, state_of}
use Rattle.queue.specs.Rows.{row_of, open_row}
use Rattle.queue.specs.Outcome.{row_in, given_in}
use Rattle.queue.proofs.HeldBack.{unnamed_below, unnamed, open_held_back}
use Rattle.line.specs.Bytes.{queue_of}
use Rattle.queued.specs.Bytes.{queued_in, left}
use Rattle.queued.proofs.Held.{holds, mapped_sound, state_sound}
use Rattle.queued.proofs.Given.{refused_left, below_refused, passed_left}
use Rattle.queued.proofs.requested.open_row.Goals as goal

-- of two that don't both hold, the first doesn't where the second does
first_not : (a b : Bool) → (a && b) ≡ false → b ≡ true → a ≡ false
first_not true b e t = clash t e
first_not false b e t = refl

pub some_started_of-requires : goal.some_started_of-requires
some_started_of-requires c = holds c.args.m.now c.requires

pub passed_on-requires : goal.passed_on-requires
passed_on-requires c = mapped_sound c.args.m.now c.requires

pub returns-then-some_started_of-is_name : goal.returns-then-some_started_of-is_name
unfolding see
returns-then-some_started_of-is_name c =
    let input : Input =
    numbered 19 c.args.i in
    let line : List Request =
    queue_of (own_in c.args.m.now) in
    let state : Queued =
    state_of (queued_in c.args.m.now) in
    let some : Bool =
    any (started_of (in_bytes c.args.i.name.now)) line in
    let tested : (c.some_started_of.result && c.is_name.result) ≡ (some && is_name c.args.i.name.now) =
    ap₂ ◌&&◌ (c.some_started_of.ensures
    ∙ ap (λ n. any (started_of n) line) c.in_bytes.ensures) c.is_name.ensures in
    let m = c.args.m.now in
    let e = sym tested ∙ c.if-some_started_of-is_name.true in let both = refused_left m c.requires input Conditions _ _
    (open_held_back state input (state_sound m c.requires) (and_l some _ e) (and_r some _ e) refl)
    c.unmoved.ensures.value c.unmoved.ensures.o_after in record { result_after = both.0; kept_outside = both.1 }

pub returns-else-some_started_of-is_name : goal.returns-else-some_started_of-is_name
unfolding see lowest lower row_of
returns-else-some_started_of-is_name c =
    let input : Input =
    numbered 19 c.args.i in
    let line : List Request =
    queue_of (own_in c.args.m.now) in
    let state : Queued =
    state_of (queued_in c.args.m.now) in
    let some : Bool =
    any (started_of (in_bytes c.args.i.name.now)) line in
    let tested : (c.some_started_of.result && c.is_name.result) ≡ (some && is_name c.args.i.name.now) =
    ap₂ ◌&&◌ (c.some_started_of.ensures
    ∙ ap (λ n. any (started_of n) line) c.in_bytes.ensures) c.is_name.ensures in
    let row : row_in state input ≡ open_row line (see state.mapped.base input) input =
    refl in
    let none : (some && is_name c.args.i.name.now) ≡ false = sym tested ∙ c.if-some_started_of-is_name.false in
    let h = state_sound c.args.m.now c.requires in
    let go : (w : Bool) → is_name c.args.i.name.now ≡ w
    → (left c.passed_on.new.m c.passed_on.new.o c.passed_on.result ≡ given_in (queued_in c.args.m.now) input)
    × KeptOutside 0 1189 (own_in c.args.m.now) (own_in c.passed_on.new.m) =
    λ w. elim w as (λ w. is_name c.args.i.name.now ≡ w
    → (left c.passed_on.new.m c.passed_on.new.o c.passed_on.result ≡ given_in (queued_in c.args.m.now) input)
    × KeptOutside 0 1189 (own_in c.args.m.now) (own_in c.passed_on.new.m)) [
      | true ↦ λ w. passed_left c.args.m.now c.requires input (when some 5 ∷ []) row (rw (first_not some _ none w))
          c.passed_on.new.m c.passed_on.new.o c.passed_on.result c.passed_on.ensures.result_after c.passed_on.ensures.kept_outside
      | false ↦ λ w. below_refused c.args.m.now c.requires input 1 c.passed_on.new.m c.passed_on.new.o c.passed_on.result
          (unnamed_below state input h refl w) (unnamed state input h refl w) (λ z. absurd (omega arith))
          c.passed_on.ensures.result_after c.passed_on.ensures.kept_outside
    ] in
    let both = go (is_name c.args.i.name.now) refl in
    record { result_after = both.0; kept_outside = both.1 }
