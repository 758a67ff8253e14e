-- LoadDone leaves every record as it was.
use Prim.Native.Nat.{ℕ}
use mathlib.Core.Path.{◌≡◌, refl, ap}
use mathlib.Core.Bool.{Bool, true, false, cond}
use mathlib.Core.List.{List, [], ◌∷◌}
use lib.ListN.{length, set}
use lib.Dec.{eqb}
use Rattle.lists.specs.Lists.{without}
use Rattle.records.specs.declared.carrier.Carrier.{Carrier}
use Rattle.records.specs.Carriers.{no_carrier}
use Rattle.rules.specs.Seen.{see}
use Rattle.rules.specs.Row as row
use Rattle.rules.specs.Rows as base
use Rattle.rules.specs.Inputs.{LoadDone}
use Rattle.maps.specs.Expected.{new_map}
use Rattle.maps.specs.State.{Mapped}
use Rattle.maps.specs.Rows as maps-rows
use Rattle.maps.specs.Outcome as maps
use Rattle.maps.specs.Projection as maps-runs
use Rattle.queue.specs.State.{Queued, base_of}
use Rattle.queue.specs.Rows.{row_of}
use Rattle.queue.specs.Outcome as queue

none_gone : (l : List Carrier) (y : Carrier) → without (length l) (set l (length l) y) ≡ l
unfolding without
none_gone [] y = refl
none_gone (x ∷ l) y = ap (λ r. x ∷ r) (none_gone l y)

mapped_leaves : (m : Mapped) (port : ℕ) → (maps.state_after m (LoadDone port)).base.carriers ≡ m.base.carriers
unfolding maps.state_after maps-rows.row_of base.row_of row.enact see
mapped_leaves m port = go (eqb (maps.answer_in m (LoadDone port)) 0)
  where
    go : (w : Bool)
        → (cond w (maps.enact (maps.row_in m (LoadDone port)).effect (new_map 14 []) m) m).base.carriers ≡ m.base.carriers
    go true = none_gone m.base.carriers no_carrier
    go false = refl

pub queued_leaves : (q : Queued) (port : ℕ) → (base_of (queue.state_after q (LoadDone port))).carriers ≡ (base_of q).carriers
unfolding queue.state_after row_of maps-runs.reached
queued_leaves q port = go (eqb (queue.answer_in q (LoadDone port)) 0)
  where
    go : (w : Bool) → (base_of (cond w (queue.enact (queue.row_in q (LoadDone port)) q) q)).carriers ≡ (base_of q).carriers
    go true = mapped_leaves q.mapped port
    go false = refl
