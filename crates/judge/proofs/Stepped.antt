-- One entry: its input, what document 01 gives for it, and what it shows.
use Prim.Native.Nat.{ℕ, ◌+◌, ◌-◌, ◌≤◌}
use native.Mathlib.Omega.{arith}
use native.Mathlib.Nat.{add-zero}
use mathlib.Core.Path.{◌≡◌, sym, ap, ◌∙◌}
use mathlib.Core.Bool.{Bool, true}
use mathlib.Core.List.{List, []}
use lib.ListN.{take, drop, length-take}
use lib.Seq.{get_or-drop, drop-drop}
use lib.Dec.{eqb}
use Rattle.lists.specs.Lists.{same_list}
use Rattle.lists.proofs.Bools.{cond_ind}
use Rattle.rules.specs.declared.tool.Tool.{Tool}
use Rattle.rules.specs.declared.report.Report.{Report}
use Rattle.rules.specs.declared.report.Reports.{Reports}
use Rattle.rules.specs.declared.report.Outcome.{Outcome}
use Rattle.rules.specs.State.{state_of}
use Rattle.rules.specs.Sound.{sound_tool}
use Rattle.rules.specs.Seen.{Input, input_of}
use Rattle.rules.specs.Reports.{listed}
use Rattle.rules.specs.Outcome.{answer_in, outcome_in, outcome}
use Rattle.image.specs.Image.{byte_at}
use Rattle.logs.specs.Layout.{codes_size, input_size, input_in, answer_size, entry_size, shown_in}
use Rattle.logs.specs.Written.{shown, list_of}
use Rattle.logs.specs.Judging.{shows}

-- The input of the entry at a position, by its parts: n bytes of name, c codes.
module _ (m : List ℕ) (at number n c : ℕ) (first : number ≡ byte_at m at) (named : n ≡ byte_at m (at + 3))
    (coded : c ≡ codes_size number) where
  byte_there : (k : ℕ) → byte_at (drop at m) k ≡ byte_at m (at + k)
  byte_there k = get_or-drop at m k 0

  first_byte : byte_at (drop at m) 0 ≡ number
  first_byte = byte_there 0 ∙ ap (byte_at m) (add-zero at) ∙ sym first

  name_size : byte_at (drop at m) 3 ≡ n
  name_size = byte_there 3 ∙ sym named

  pub input_there : (port value : ℕ) → port ≡ byte_at m (at + 1) → value ≡ byte_at m (at + 2)
      → input_of number port value (take ((at + 4 + n) - (at + 4)) (drop (at + 4) m))
      (take ((at + 4 + n + c) - (at + 4 + n)) (drop (at + 4 + n) m))
      ≡ input_in (drop at m)
  unfolding input_in
  input_there port value p v =
      let y : (at + 4 + n) - (at + 4) ≡ n = omega arith in
      let z : (at + 4 + n + c) - (at + 4 + n) ≡ c = omega arith in
      let x : at + (4 + n) ≡ at + 4 + n = omega arith in
      rw (first_byte, byte_there 1, byte_there 2, name_size, drop-drop 4 at m, drop-drop (4 + n) at m, x, y, z, p, v, coded)

  pub answer_there : at + input_size (drop at m) ≡ at + 4 + n + c
  unfolding input_size
  answer_there = rw (name_size, first_byte, sym coded) (omega arith)

-- what was given to a sound tool
pub given_is : (t : Tool) (i : Input) → sound_tool t ≡ true → (u : Tool) (l : Reports) (a : ℕ)
    → u ≡ (outcome_in t i).tool → l ≡ (outcome_in t i).reports → a ≡ (outcome_in t i).answer
    → record { tool = u; answer = a; reports = l } ≡ outcome t i
unfolding outcome
given_is t i h u l a x y z = rw (h, x, y, z)

-- ten reports at most
listed_few : (l : List Report) → (listed l).count ≤ 10
unfolding listed
listed_few l = let z = length-take 10 l in omega arith

pub few : (t : Tool) (i : Input) → (outcome t i).reports.count ≤ 10
unfolding outcome outcome_in
few t i =
    cond_ind (λ (o : Outcome). o.reports.count ≤ 10) (sound_tool t)
    (λ h. cond_ind (λ (o : Outcome). o.reports.count ≤ 10) (eqb (answer_in (state_of t) i) 0) (λ e. listed_few _) (λ e. listed_few []))
    (λ h. listed_few [])

-- what an entry shows stands from its answer on
module _ (m : List ℕ) (at from end : ℕ) (f : from ≡ at + input_size (drop at m)) (e : end ≡ at + entry_size (drop at m)) where
  pub in_order : from ≤ end
  unfolding entry_size
  in_order = omega arith

  pub shown_is : (shown : List ℕ) (same : Bool) → same ≡ same_list (take (end - from) (drop from m)) shown
      → same ≡ same_list (shown_in (drop at m)) shown
  unfolding shown_in entry_size
  shown_is shown same q =
      let n = input_size (drop at m) in
      let d : drop n (drop at m) ≡ drop from m = drop-drop n at m ∙ ap (λ k. drop k m) (sym f) in
      let z : end - from ≡ answer_size (drop n (drop at m)) = omega arith in
      q ∙ rw (z, d)

  pub input_within : at + input_size (drop at m) ≤ end
  unfolding entry_size
  input_within = omega arith

-- whether an entry shows what document 01 gave
pub shows_is : (l : List ℕ) (o x : Outcome) (same : Bool) → same ≡ same_list (shown_in l) (shown o.answer (list_of o.reports)) → o ≡ x
    → same ≡ shows l x
unfolding shows
shows_is l o x same q e = q ∙ ap (λ y. same_list (shown_in l) (shown y.answer (list_of y.reports))) e
