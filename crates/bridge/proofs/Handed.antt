-- What a message gives, from what the reader hands on.
use Prim.Native.Nat.{ℕ}
use mathlib.Core.Path.{◌≡◌, ap, sym, ◌∙◌}
use mathlib.Core.List.{List, []}
use borrow.Author.Tests.{eq-eqb, ne_eqb}
use Rattle.std.specs.Prelude.{Ok, Err}
use Rattle.records.specs.declared.refusal.Refusal.{Refusal}
use Rattle.records.specs.Refusals.{number}
use Rattle.items.proofs.Refusals.{numbered}
use Rattle.prediction.specs.State.{timed}
use Rattle.wafers.specs.Outcome.{brought}
use Rattle.secs.specs.Request.{request_in, input_from, Handed, said_refusal, said_input}
use Rattle.secs.specs.declared.request.Request.{Request}
use Rattle.secs.specs.declared.request.Asked.{Asked}
use Rattle.tool.specs.Whole.{Whole, refused}
use Rattle.door.specs.Door.{outcome}
use Rattle.bridge.specs.Bridge.{bridged}

module _ (t : Whole) (m : List ℕ) (a : Asked) (h : Handed m a) where
  pub not_taken : (e : Refusal) → a.said ≡ Err e → refused t (number e) ≡ bridged t m
  unfolding bridged
  not_taken e q =
      let r : number e ≡ (request_in m).refusal = sym (ap said_refusal q) ∙ h.refused in
      rw (ne_eqb (request_in m).refusal 0 (λ z. numbered e (r ∙ z))) (ap (refused t) r)

  pub taken : (r : Request) → a.said ≡ Ok r → outcome t (brought (timed (input_from m r) 0 0) []) ≡ bridged t m
  unfolding bridged
  taken r q =
      let z : 0 ≡ (request_in m).refusal = sym (ap said_refusal q) ∙ h.refused in
      let i : input_from m r ≡ (request_in m).input = sym (ap (said_input m) q) ∙ h.input in
      rw (eq-eqb (request_in m).refusal 0 (sym z)) (ap (λ i. outcome t (brought (timed i 0 0) [])) i)
