-- From the end: of the requests that are passed those are left that are started.
use Prim.Native.Nat.{◌≤◌}
use mathlib.Core.Path.{◌≡◌}
use lib.ListN.{length, take}
use Rattle.lists.specs.Lists.{fill}
use Rattle.follow.specs.Follow.{KeptOutside}
use Rattle.queue.specs.Requests.{no_request}
use Rattle.line.specs.Bytes.{queue_from}
use Rattle.line.proofs.Left.{left_of}
use Rattle.line.proofs.write.drop_all.Given as goal

abbrev pub invariant-loop-k : goal.invariant-loop-k
invariant-loop-k l =
    (l.n ≤ 16) × (l.k ≤ l.n) × (l.left ≡ length (left_of (take l.n (queue_from l.initial.m)) l.k))
    × (queue_from l.m ≡ fill 16 no_request (left_of (take l.n (queue_from l.initial.m)) l.k)) × KeptOutside 901 1189 l.initial.m l.m

abbrev pub decreases-loop-k : goal.decreases-loop-k
decreases-loop-k l = l.k
