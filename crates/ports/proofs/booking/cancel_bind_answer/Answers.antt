use Rattle.std.proofs.lemmas.Grind.{common_steps}
use native.Mathlib.Omega.{arith}
use mathlib.Core.Path.{◌≡◌}
use mathlib.Core.Bool.{true, false, ◌&&◌, ◌||◌}
use Rattle.rules.specs.Row.{is_port_or_none}
use Rattle.ports.proofs.booking.cancel_bind_answer.Goals as goal

pub returns-in_err-unless-2 : goal.returns-in_err-unless-2
returns-in_err-unless-2 c =
    let x = c.args.x in
    let port : is_port_or_none x ≡ true = grind (arith, common_steps) in
    let named : (x.blank || x.named) ≡ false = grind (arith, common_steps) in
    rw (port, named) (grind (arith, common_steps))

pub returns-in_err-unless-3 : goal.returns-in_err-unless-3
returns-in_err-unless-3 c =
    let x = c.args.x in
    let port : is_port_or_none x ≡ true = grind (arith, common_steps) in
    let named : (x.blank || x.named) ≡ true = grind (arith, common_steps) in
    let any : (x.noport && x.blank) ≡ false = grind (arith, common_steps) in
    let known : (x.blank || x.known) ≡ false = grind (arith, common_steps) in
    rw (port, named, any, known) (grind (arith, common_steps))
