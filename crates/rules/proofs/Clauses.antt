-- Each clause of soundness is needed: a state fails by it alone. Each unused field is looked at.
use mathlib.Core.Path.{◌≡◌, refl}
use mathlib.Core.Bool.{true}
use Rattle.lists.specs.Lists.{every, every_two, any, how_many, fill, same_list}
use Rattle.records.specs.Names.{in_bytes, same_name, head_or0, zero_ended, holds_name}
use Rattle.rules.specs.State.{port_of, in_tool}
use Rattle.rules.specs.Sound.{port_in_range, spot_in_range, status_in_range, carrier_in_range, in_range, other_name, tie_kept, tie_held}
use Rattle.rules.specs.Sound.{ties_agree, place_agrees, other_spot, few_expected, port_agrees, open_agrees, sound, zero_port, zero_carrier, unused_zero}
use Rattle.rules.specs.Sound.{sound_tool}
use Rattle.rules.specs.Pairs.{differing}
use Rattle.rules.specs.Clauses.{clauses, breaks, ranges_broken, agreements_broken, only_unused, tools_kept, tools_broken}

pub record EachClause : Type 0 where
  pub ranges : every breaks ranges_broken ≡ true
  pub agreements : every breaks agreements_broken ≡ true
  pub used : every sound_tool tools_kept ≡ true
  pub unused : every only_unused tools_broken ≡ true

pub each_clause : EachClause
unfolding every every_two any how_many fill same_list in_bytes same_name head_or0 zero_ended holds_name port_of in_tool
    port_in_range spot_in_range status_in_range carrier_in_range in_range other_name tie_kept tie_held ties_agree place_agrees other_spot few_expected
    port_agrees open_agrees sound zero_port zero_carrier unused_zero sound_tool differing clauses breaks only_unused
each_clause = record { ranges = refl; agreements = refl; used = refl; unused = refl }
