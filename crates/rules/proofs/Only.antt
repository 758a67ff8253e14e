-- Every contract is an equation with a definition, so that two results that meet one statement are equal.
use mathlib.Core.Path.{◌≡◌, sym, ◌∙◌}

pub only {ℓ} : {A : Type ℓ} (said : A) (r q : A) → r ≡ said → q ≡ said → r ≡ q
only said r q a b = a ∙ sym b
