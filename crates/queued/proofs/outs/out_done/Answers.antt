use Rattle.std.proofs.Common.{rules}
use native.Mathlib.Omega.{arith}
use Prim.Native.Nat.{ℕ, ◌<◌}
use mathlib.Core.Path.{◌≡◌, refl, sym, ap, ap₂, ◌∙◌}
use mathlib.Core.Bool.{Bool, true, false, cond}
use mathlib.Core.List.{List, [], ◌∷◌}
use lib.ListN.{length, get_or, set}
use lib.Seq.{get_or-set_other}
use Rattle.lists.specs.Lists.{any, without}
use Rattle.lists.proofs.Tables.{getD_fill}
use Rattle.std.specs.Prelude.{Ok}
use Rattle.records.specs.declared.refusal.Refusal.TheVariants.{Conditions, OutOfRange}
use Rattle.records.specs.declared.name.Name.{Name}
use Rattle.rules.specs.declared.row.Seen.{Seen}
use Rattle.rules.specs.State.{State}
use Rattle.rules.specs.Seen.{Input, narrow, see, numbered, input_of}
use Rattle.records.specs.Ports.{handed_out}
use Rattle.records.specs.Carriers.{taken_out}
use Rattle.records.specs.Fields.{with_reserved}
use Rattle.rules.specs.Row.{unless, lower, lowest, on_both}
use Rattle.rules.specs.Reports.{no_reports}
use Rattle.image.specs.Image.{tool_from}
use Rattle.parts.specs.Apply.{applied}
use Rattle.parts.specs.Told.{note_all}
use Rattle.machine.proofs.Answered.{told_by}
use Rattle.mapped.specs.Bytes.{own_in}
use Rattle.queue.specs.declared.request.Request.{Request}
use Rattle.queue.specs.Requests.{no_request, started_to, started_stands, carrier_of}
use Rattle.queue.specs.State.{base_of, state_of}
use Rattle.queue.specs.Rows.{row_of}
use Rattle.queue.specs.Outcome.{row_in}
use Rattle.queue.proofs.Lines.{wide_at, some_stands}
use Rattle.queue.proofs.Outs.{hands_out}
use Rattle.queue.proofs.SoundRuns.{sound_parts}
use Rattle.line.specs.Bytes.{queue_from, queue_of, Holds}
use Rattle.line.proofs.Named.{name_stays}
use Rattle.line.proofs.Changed.{few_held}
use Rattle.queued.specs.Bytes.{queued_in}
use Rattle.queued.proofs.Held.{held, holds, state_sound}
use Rattle.queued.proofs.Given.{alone_answer, refused_left}
use Rattle.queued.proofs.Done.{ending, act, done_left}
use Rattle.queued.proofs.outs.out_done.Goals as goal

-- the effect of what is seen of a carrier by its name
effect_is : (s : State) (k port : ℕ) (n : Name) (r : Request) (x : Seen) → r.name ≡ n → length n.bytes ≡ 16
    → x ≡ see s (input_of k port 0 r.name.bytes r.name.bytes)
    → on_both x.count x.port (handed_out x.name (with_reserved 0 x.here)) x.stands (taken_out x.port x.found)
    ≡ hands_out s (narrow port) n
unfolding see carrier_of
effect_is s k port n r x e w l = rw (l, e, name_stays n w)

-- nothing is started there
refused_so : (a : Bool) → lowest (unless a 1 ∷ unless false 5 ∷ []) ≡ cond a 5 1
unfolding lowest lower
refused_so true = refl
refused_so false = refl

pub started_stands-k-requires : goal.started_stands-k-requires
started_stands-k-requires c = holds c.args.m.now c.requires

pub look-x-requires : goal.look-x-requires
look-x-requires c = held c.args.m.now c.requires

pub some_started_to-requires : goal.some_started_to-requires
some_started_to-requires c = holds c.args.m.now c.requires

pub carry_out-requires : goal.carry_out-requires
carry_out-requires c =
    let k = held c.args.m.now c.requires in
    record { m_bound = k.few_ports; m_bound_2 = k.few_carriers }

pub remove-requires : goal.remove-requires
remove-requires c =
    let m : List (List ℕ) =
    c.args.m.now in
    let m = c.args.m.now in
    let e : get_or (set m 0 c.carry_out.new.m) 1 [] ≡ own_in m = get_or-set_other m 0 1 _ [] (omega arith) in
    rw e (holds m c.requires)

pub returns-then-some_started_to : goal.returns-then-some_started_to
unfolding see
returns-then-some_started_to e =
    let input : Input =
    input_of 28 e.args.i.port e.args.i.value e.args.i.name.now e.args.i.codes.now in
    let line : List Request =
    queue_of (own_in e.args.m.now) in
    let some : Bool =
    any (started_to (narrow e.args.i.port)) line in
    let two : 1 < length e.args.m.now =
    search rules in
    let told : e.some_started_to.result ≡ some =
    e.some_started_to.ensures ∙ ap (λ p. any (started_to p) line) e.narrow-2.ensures in
    let stood : e.started_stands-k.result ≡ started_stands (narrow e.args.i.port) line =
    e.started_stands-k.ensures
    ∙ ap (λ p. started_stands p line) e.narrow.ensures in
    let named : e.request_at-q.result ≡ get_or line (started_stands (narrow e.args.i.port) line) no_request =
    let h = holds e.args.m.now e.requires in
    let k = started_stands (narrow e.args.i.port) line in
    e.request_at-q.ensures ∙ ap (λ k. get_or (queue_from (own_in e.args.m.now)) k no_request) stood
    ∙ ap (λ q. get_or q k no_request) h.queue ∙ getD_fill 16 no_request line k (few_held (own_in e.args.m.now)) in
    let m : List (List ℕ) =
    e.args.m.now in
    let there : some ≡ true =
    sym told ∙ e.if-some_started_to.true in
    let wide : length (ending m e.requires input refl there).name.bytes ≡ 16 =
    wide_at _ line (sound_parts _ (state_sound m e.requires)).line _
    (some_stands (started_to (narrow e.args.i.port)) no_request line there) in
    let acted : e.comes_out.result ≡ act m e.requires input refl there =
    e.comes_out.ensures
    ∙ effect_is _ e.args.i.number e.args.i.port _ e.request_at-q.result _ (ap (λ (r : Request). r.name) named) wide e.look-x.ensures in
    let counted : e.look-x.result.count ≡ length (base_of (state_of (queued_in m))).carriers =
    ap (λ (x : Seen). x.count) e.look-x.ensures in
    let other : get_or (set m 0 e.carry_out.new.m) 1 [] ≡ own_in m =
    get_or-set_other m 0 1 _ [] (omega arith) in
    let without_is : Holds e.remove.new.m (without (started_stands (narrow e.args.i.port) line) line) =
    rw (stood, other) at e.remove.ensures.holds in
    let m = m in let both = done_left m e.requires input refl there e.carry_out.new.m e.remove.new.m e.carry_out.new.o _
    two e.remove.ensures.kept_outside without_is
    (e.carry_out.ensures.m_after ∙ ap (applied (tool_from (get_or m 0 []))) acted)
    (e.carry_out.ensures.o_after ∙ ap (λ e. note_all no_reports (told_by (tool_from (get_or m 0 [])) e)) acted)
    (ap₂ (λ n g. record { answer = Ok tt; goes = n; made = false; gone = g }) counted e.none.ensures) in record { result_after = both.0; kept_outside = both.1 }

pub returns-then-x : goal.returns-then-x
unfolding see row_of
returns-then-x c =
    let input : Input =
    numbered 28 c.args.i in
    let line : List Request =
    queue_of (own_in c.args.m.now) in
    let some : Bool =
    any (started_to (narrow c.args.i.port)) line in
    let told : c.some_started_to.result ≡ some =
    c.some_started_to.ensures ∙ ap (λ p. any (started_to p) line) c.narrow-2.ensures in
    let m : List (List ℕ) =
    c.args.m.now in
    let row : some ≡ false → row_in (state_of (queued_in c.args.m.now)) input ≡ record { grounds = unless (see (base_of (state_of (queued_in c.args.m.now))) input).isport 1 ∷ unless false 5 ∷ []; stands = []; queue = without (started_stands (narrow c.args.i.port) line) line } =
    λ e. rw e in
    let m = c.args.m.now in
    let x = see (base_of (state_of (queued_in m))) input in
    let p : x.isport ≡ true = sym (ap (λ (y : Seen). y.isport) c.look-x.ensures) ∙ c.if-x.true in
    let a = alone_answer m c.requires input _ _ (row (sym told ∙ c.if-some_started_to.false)) ∙ refused_so x.isport ∙ (rw p) in
    let both = refused_left m c.requires input Conditions _ _ a c.unmoved.ensures.value c.unmoved.ensures.o_after in
    record { result_after = both.0; kept_outside = both.1 }

pub returns-else-x : goal.returns-else-x
unfolding see row_of
returns-else-x c =
    let input : Input =
    numbered 28 c.args.i in
    let line : List Request =
    queue_of (own_in c.args.m.now) in
    let some : Bool =
    any (started_to (narrow c.args.i.port)) line in
    let told : c.some_started_to.result ≡ some =
    c.some_started_to.ensures ∙ ap (λ p. any (started_to p) line) c.narrow-2.ensures in
    let m : List (List ℕ) =
    c.args.m.now in
    let row : some ≡ false → row_in (state_of (queued_in c.args.m.now)) input ≡ record { grounds = unless (see (base_of (state_of (queued_in c.args.m.now))) input).isport 1 ∷ unless false 5 ∷ []; stands = []; queue = without (started_stands (narrow c.args.i.port) line) line } =
    λ e. rw e in
    let m = c.args.m.now in
    let x = see (base_of (state_of (queued_in m))) input in
    let p : x.isport ≡ false = sym (ap (λ (y : Seen). y.isport) c.look-x.ensures) ∙ c.if-x.false in
    let a = alone_answer m c.requires input _ _ (row (sym told ∙ c.if-some_started_to.false)) ∙ refused_so x.isport ∙ (rw p) in
    let both = refused_left m c.requires input OutOfRange _ _ a c.unmoved-else-x.ensures.value c.unmoved-else-x.ensures.o_after in
    record { result_after = both.0; kept_outside = both.1 }
