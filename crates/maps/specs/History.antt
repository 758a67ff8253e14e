-- What happened in a run, in the words of document 01; and the map that a record was made with, which document 01 doesn't have.
use Rattle.std.specs.Prelude.{ℕ, Bool, false, ◌&&◌, ◌||◌, List, [], ◌∷◌}
use Rattle.records.specs.declared.name.Name.{Name}
use Rattle.records.specs.Maps.{in_map}
use Rattle.rules.specs.Seen.{Input}
use Rattle.rules.specs.History.{Event, done}
use Rattle.maps.specs.Expected.{no_map, new_map, equals}
use Rattle.maps.specs.State.{Mapped}
use Rattle.maps.specs.Outcome.{answer_in}
use Rattle.maps.specs.Projection.{reached}

-- what happened in a run: each input, document 01's part of the state that it met, and the answer that it got
unfoldable pub events : Mapped → List Input → List Event
events s [] = []
events s (i ∷ earlier) =
    record { before = (reached s earlier).base; input = i; answer = answer_in (reached s earlier) i } ∷ events s earlier

-- the map that its record was made with: what the oldest input of its history carries
unfoldable pub made_with : List Event → List ℕ
made_with [] = no_map
made_with (e ∷ []) = new_map e.input.number e.input.codes
made_with (e ∷ f ∷ h) = made_with (f ∷ h)

-- an accepted SlotMap equal to the map that its record was made with
unfoldable pub matched : Name → List Event → Bool
matched n [] = false
matched n (e ∷ h) = (done 20 n e && equals (made_with h) (in_map e.input.codes)) || matched n h
