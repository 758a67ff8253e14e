-- The door of the whole tool: the name of an input is shortened once, before every row.
use Rattle.std.specs.Prelude.{ℕ, ◌+◌, Bool, true, not, ◌&&◌, ◌||◌, List, [], ◌∷◌, ◌++◌, length, replicate, eqb, leb}
use Rattle.rules.specs.Named.{name_missing}
use Rattle.names.specs.Check.{shortened}
use Rattle.wafers.specs.Outcome.{Brought}
use Rattle.wafers.specs.Named.{called}
use Rattle.tool.specs.Whole as tool
use Rattle.tool.specs.Whole.{Whole, Outcome}

-- the input that rows see: every row that takes a name uses the shortened one, in record, comparison and report
abbrev pub shown : Brought → Brought
shown i = called (shortened i.timed.input.name) i

-- an input to any tool
unfoldable pub outcome : Whole → Brought → Outcome
outcome t i = tool.outcome t (shown i)

-- ── Padding ──
-- an input, with n blanks after its name
abbrev pub padded : ℕ → Brought → Brought
padded n i = called (i.timed.input.name ++ replicate n 0x20) i

-- A name may be padded up to 32 bytes, unless it is missing.
unfoldable pub may_pad : ℕ → Brought → Bool
may_pad n i = eqb n 0 || (leb (length i.timed.input.name + n) 32 && not (name_missing i.timed.input))

-- What a run of inputs gives from a tool on, the latest input first: the tool, the answer and the reports after each.
abbrev pub tool_after : Whole → List Outcome → Whole
tool_after t [] = t
tool_after t (o ∷ earlier) = o.tool

unfoldable pub outcomes : Whole → List Brought → List Outcome
outcomes t [] = []
outcomes t (i ∷ earlier) = outcome (tool_after t (outcomes t earlier)) i ∷ outcomes t earlier

-- a run with blanks after its names, as many as the list says for each input
unfoldable pub padded_run : List ℕ → List Brought → List Brought
padded_run [] run = run
padded_run (n ∷ ns) [] = []
padded_run (n ∷ ns) (i ∷ earlier) = padded n i ∷ padded_run ns earlier

unfoldable pub may_pad_run : List ℕ → List Brought → Bool
may_pad_run [] run = true
may_pad_run (n ∷ ns) [] = true
may_pad_run (n ∷ ns) (i ∷ earlier) = may_pad n i && may_pad_run ns earlier
