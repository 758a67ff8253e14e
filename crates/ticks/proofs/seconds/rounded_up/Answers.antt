-- Times 1024 the total is a whole number, so that nothing is lost where it is cut to one.
use Rattle.std.proofs.Common.{◌≡◌, ◌≤◌, true, false, T, pos, sym, ◌∙◌, subst, arith}
use lib.Ieee.{Float, fin, binary64, of_bits, mul, lt, to_unsigned}
use Rattle.ticks.specs.Times.{Is, Counts, ticks}
use Rattle.ticks.specs.Wafers.{rounded_up}
use Rattle.ticks.proofs.Rounds.{times_is}
use Rattle.ticks.proofs.Compared.{cut_is, above_is, under_is}
use Rattle.ticks.proofs.seconds.rounded_up.Goals as goal

module _ (t : Float) (p : Counts t (ticks t)) (l : ticks t ≤ 53687091200) where
  abbrev up : Float
  up = mul binary64 t (fin false 1 (pos 10))

  whole : Is 1 up (ticks t)
  whole = times_is t (ticks t) p (omega arith)

  in_range_fact : T (lt (fin true 1 (pos 0)) up) × T (lt up (fin false 1 (pos 64)))
  in_range_fact = (subst T (sym (above_is up (ticks t) whole)) tt, subst T (sym (under_is up (ticks t) whole (omega arith))) tt)

  cut : to_unsigned 64 up ≡ ticks t
  cut = cut_is up (ticks t) whole (omega arith)

pub truncating_f64_to_u64-n-requires : goal.truncating_f64_to_u64-n-requires
unfolding of_bits
truncating_f64_to_u64-n-requires c =
    let r = in_range_fact c.args.t c.requires.counts c.requires.t_bound in
    record { lower_bound = r.0; upper_bound = r.1 }

-- fifty-two million seconds have room in 32 bits
pub overflow_cast-result : goal.overflow_cast-result
unfolding of_bits
overflow_cast-result c =
    let e : c.truncating_f64_to_u64-n.result ≡ ticks c.args.t = c.truncating_f64_to_u64-n.ensures ∙ cut c.args.t c.requires.counts c.requires.t_bound in
    let l = c.requires.t_bound in
    omega arith

pub returns : goal.returns
unfolding rounded_up of_bits
returns c =
    let e : c.truncating_f64_to_u64-n.result ≡ ticks c.args.t = c.truncating_f64_to_u64-n.ensures ∙ cut c.args.t c.requires.counts c.requires.t_bound in
    omega arith
