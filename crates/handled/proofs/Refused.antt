-- What `?` hands on of a refusal that it met.
use Prim.Native.Nat.{ℕ}
use mathlib.Core.Path.{◌≡◌, ap, sym, ◌∙◌}
use mathlib.Core.Logic.{◌≢◌}
use Rattle.std.specs.Prelude.{Result, Ok, Err}
use Rattle.std.specs.Result.{IsErrAnd}
use Rattle.records.specs.declared.refusal.Refusal.{Refusal}
use Rattle.records.specs.Refusals.{answer}
use Rattle.machine.proofs.Refused.{never_zero}

same_refusal : (s : Result Unit Refusal) (e : Refusal) → IsErrAnd s (λ x. x ≡ e) → s ≡ Err e
same_refusal (Ok u) e f = absurd f
same_refusal (Err x) e f = rw f

module _ (r s : Result Unit Refusal) (e : Refusal) (was : r ≡ Err e) (then : IsErrAnd s (λ x. x ≡ e)) where
  pub same_answer : answer s ≡ answer r
  same_answer = ap answer (same_refusal s e then ∙ sym was)

  pub not_zero : answer s ≢ 0
  not_zero z = never_zero e (sym (ap answer (same_refusal s e then)) ∙ z)
