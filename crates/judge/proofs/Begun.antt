-- The head is refused, or the judging begins after it with a sound tool.
use Prim.Native.Nat.{ℕ, ◌≤◌}
use mathlib.Core.Path.{◌≡◌, sym, ap, ◌∙◌}
use mathlib.Core.Bool.{true}
use mathlib.Core.Logic.{◌≢◌}
use mathlib.Core.List.{List}
use lib.ListN.{length, drop}
use borrow.Author.Tests.{eq-eqb, ne_eqb}
use Rattle.rules.specs.declared.tool.Tool.{Tool}
use Rattle.rules.specs.declared.report.Reports.{Reports}
use Rattle.rules.specs.State.{set_up}
use Rattle.rules.specs.Sound.{sound_tool}
use Rattle.rules.specs.Reports.{no_reports}
use Rattle.rules.proofs.SoundTools.{setup_sound}
use Rattle.image.specs.Image.{byte_at}
use Rattle.logs.specs.Layout.{Reading, head, read_head}
use Rattle.logs.specs.Judging.{ended, untouched, judging, judge}
use Rattle.logs.proofs.Heads.{not_refused}

module _ (m : List ℕ) (s : Reading) (e : s ≡ read_head head 0 m) where
  pub refused : s.refusal ≢ 0 → (t : Tool) (r : Reports) → t ≡ (set_up 0 0).tool → r ≡ no_reports
      → ended s.refusal 0 s.at (record { tool = t; answer = 0; reports = r }) ≡ judge m
  unfolding judge set_up
  refused n t r x y = rw (← e, ne_eqb s.refusal 0 n, x, y)

  module _ (z : s.refusal ≡ 0) where
    pub goes_on : (t : Tool) → t ≡ (set_up (byte_at m 5) (byte_at m 6)).tool → judging 0 7 (untouched t) 0 (drop 7 m) ≡ judge m
    unfolding judge
    goes_on t x = rw (← e, eq-eqb s.refusal 0 z, x)

    pub long_enough : 7 ≤ length m
    long_enough = (not_refused m (ap (λ h. h.refusal) (sym e) ∙ z)).long

    pub sound_then : (t : Tool) → t ≡ (set_up (byte_at m 5) (byte_at m 6)).tool → sound_tool t ≡ true
    sound_then t x = rw x (setup_sound (byte_at m 5) (byte_at m 6) (not_refused m (ap (λ h. h.refusal) (sym e) ∙ z)).accepted)
