-- Each table gives what stands beside it.
use mathlib.Core.Path.{◌≡◌, refl}
use mathlib.Core.Bool.{true}
use Rattle.lists.specs.Lists.{every, any, where_is}
use Rattle.waiting.specs.Waiting.{waits, answer_in, stopped_at, found_in}
use Rattle.waiting.specs.Cases.{holds, cases}

pub all_cases : every holds cases ≡ true
unfolding every any where_is waits answer_in stopped_at found_in holds
all_cases = refl
