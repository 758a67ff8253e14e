use mathlib.Core.Path.{◌≡◌, refl, sym, ap, ap₂, ◌∙◌}
use Rattle.rules.specs.State.{set_up}
use Rattle.image.specs.Image.{byte_at, tool_from}
use Rattle.logs.specs.InPlace.{reading_of}
use Rattle.logs.proofs.Heads.{refused_from}
use Rattle.machine.proofs.Refused.{never_zero}
use Rattle.judge.proofs.Begun.{refused, goes_on, long_enough, sound_then}
use Rattle.judge.proofs.log.judge_log.Goals as goal

pub returns-in-Err-clause-judged : goal.returns-in-Err-clause-judged
returns-in-Err-clause-judged c =
    refused c.args.log.now _ (sym (ap reading_of c.in-Err.is) ∙ c.read_head.ensures) (never_zero c.in-Err.stop.refusal) _ _ c.setup.ensures.m_after
    c.no_reports.ensures

pub returns-in-Err-clause-of_logs : goal.returns-in-Err-clause-of_logs
returns-in-Err-clause-of_logs c =
    let e = sym (ap reading_of c.in-Err.is) ∙ c.read_head.ensures in
    let f = ap (λ s. s.refusal) e in
    rw f (refused_from c.args.log.now (λ z. never_zero c.in-Err.stop.refusal (f ∙ z)))

pub judge_entries-requires : goal.judge_entries-requires
judge_entries-requires c =
    let m = c.args.log.now in
    let e = sym (ap reading_of c.in_default.is) ∙ c.read_head.ensures in
    let t : tool_from c.setup-2.new.m ≡ (set_up (byte_at m 5) (byte_at m 6)).tool =
    c.setup-2.ensures.m_after ∙ ap₂ (λ p b. (set_up p b).tool) c.byte-ports.ensures.value c.byte-places.ensures.value in
    record { tool_value = sound_then m _ e refl _ t; reports_value = c.no_reports.ensures; in_bounds = long_enough m _ e refl }

pub returns-clause-judged : goal.returns-clause-judged
returns-clause-judged c =
    let m = c.args.log.now in
    let e = sym (ap reading_of c.in_default.is) ∙ c.read_head.ensures in
    let t : tool_from c.setup-2.new.m ≡ (set_up (byte_at m 5) (byte_at m 6)).tool =
    c.setup-2.ensures.m_after ∙ ap₂ (λ p b. (set_up p b).tool) c.byte-ports.ensures.value c.byte-places.ensures.value in
    c.judge_entries.ensures.judged ∙ goes_on m _ e refl _ t
