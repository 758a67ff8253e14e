-- The grounds before the last have passed, and the last decides.
use Rattle.std.proofs.Common.{Ok, Err}
use Rattle.std.proofs.lemmas.Grind.{common_steps}
use native.Mathlib.Omega.{arith}
use mathlib.Core.Path.{◌≡◌, refl}
use mathlib.Core.Bool.{Bool, true, false, cond, not, ◌||◌}
use Rattle.records.specs.Refusals.{answer}
use Rattle.records.specs.declared.refusal.Refusal.TheVariants.{Conditions}
use Rattle.rules.specs.Row.{is_port_or_none, unknown_pod, placed}
use Rattle.rules.specs.Verdict.{takes_unknown_pod}
use Rattle.pods.proofs.verdict.answer_unless.Goals as goal

said : (b : Bool) → answer (cond b (Ok tt) (Err Conditions)) ≡ cond (not b) 5 0
said true = refl
said false = refl

pub returns : goal.returns
returns c =
    let x = c.args.x in
    let named : x.named ≡ true = grind (arith, common_steps) in
    let port : is_port_or_none x ≡ true = grind (arith, common_steps) in
    let known : (x.known || unknown_pod x) ≡ true = grind (arith, common_steps) in
    let takes : (not x.known || placed x || takes_unknown_pod x) ≡ true = grind (arith, common_steps) in
    let last : c.if-not-placed.unless ≡ (not (placed x) || c.args.can) = grind (arith, common_steps) in
    rw (takes, known, port, c.unless-5.ensures, last, named) (said _)
