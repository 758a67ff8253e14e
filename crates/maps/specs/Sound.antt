-- Soundness: document 01's, and what a record keeps is no map, or 25 codes of 1 and 3.
use Rattle.std.specs.Prelude.{Bool, ◌&&◌, length, drop, eqb}
use Rattle.lists.specs.Lists.{every}
use Rattle.rules.specs.Sound as base
use Rattle.maps.specs.Expected.{is_none, is_kept}
use Rattle.maps.specs.State.{Mapped, MappedTool, state_of}

unfoldable pub sound : Mapped → Bool
sound s = base.sound s.base && (eqb (length s.maps) (length s.base.carriers) && every is_kept s.maps)

-- Document 01's tool is sound, there is no map after those of the records, and what is used is sound.
unfoldable pub sound_tool : MappedTool → Bool
sound_tool t = base.sound_tool t.base && (every is_none (drop t.base.count t.maps) && sound (state_of t))
