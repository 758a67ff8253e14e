use Rattle.follow.proofs.Entries.{kept_twice}
use Rattle.follow.proofs.table.follow.Goals as goal

pub returns : goal.returns
returns c =
    record { w_after = rw (c.entry_added.ensures.w_after, c.left_of.ensures, c.entry_dropped.ensures.w_after); kept_outside = kept_twice _ _ _ _ _ c.entry_dropped.ensures.kept_outside c.entry_added.ensures.kept_outside }
