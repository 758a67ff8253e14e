-- The lists that may still be opened fall from item to list, and the elements that are left from turn to turn.
use Rattle.std.proofs.Common.{◌≡◌, ◌+◌, ◌*◌, ◌^◌, ◌-◌, Ok}
use Rattle.items.specs.Reading.{read_many, read_item, walked_all}
use Rattle.items.proofs.Walked.{joined}
use Rattle.items.proofs.walk.+item_list.Given as goal

abbrev pub decreases-item : goal.decreases-item
decreases-item l = l.left * (2 ^ 24 + 1)

abbrev pub decreases-list : goal.decreases-list
decreases-list l = l.left * (2 ^ 24 + 1) + l.many + 1

abbrev pub invariant-list-loop : goal.invariant-list-loop
invariant-list-loop l = record {
  going : l.walk.said ≡ Ok tt;
  whole : joined l.walk.single (walked_all (read_many (read_item l.left l.msg) (l.many - l.counter) l.walk.at l.walk.count))
      ≡ walked_all (read_many (read_item l.left l.msg) l.many l.from l.begun);
}
