-- On every run of document 01 an open carrier's ID is OK.
use Prim.Native.Nat.{ℕ, ◌≤◌}
use mathlib.Core.Path.{◌≡◌}
use mathlib.Core.Bool.{true}
use mathlib.Core.List.{List}
use Rattle.records.specs.Carriers.{is_open, id_ok}
use Rattle.rules.specs.State.{start, record_of}
use Rattle.rules.specs.Seen.{Input}
use Rattle.rules.specs.History.{reached}
use Rattle.rules.specs.Promise.{Live}
use Rattle.rules.proofs.Granted.{granted}

pub open_ok : (P B : ℕ) → 1 ≤ P → P ≤ 4 → B ≤ 16 → (run : List Input) (k : ℕ) → Live (reached (start P B) run) k
    → is_open (record_of (reached (start P B) run) k) ≡ true → id_ok (record_of (reached (start P B) run) k) ≡ true
open_ok P B a b c run k l o = ((granted P B a b c run).coherent k l).open_id_ok o
