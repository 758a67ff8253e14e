use native.Mathlib.Omega.{arith}
use mathlib.Core.Path.{◌≡◌, refl}
use Prim.Native.Nat.{ℕ}
use lib.ListN.{length}
use Rattle.lists.proofs.Ranges.{where_or}
use Rattle.line.specs.Bytes.{queue_of}
use Rattle.std.specs.List.{position}
use Rattle.queue.specs.Requests.{waits_of}
use mathlib.Core.Bool.{Bool}
use mathlib.Core.List.{List}
use Rattle.std.specs.Option.{unwrap_or}
use Rattle.std.specs.declared.option.Option.{Option}
use Rattle.queue.specs.declared.request.Request.{Request}
use Rattle.lists.specs.Lists.{where_is}
use Rattle.lists.proofs.Tables.{without_out}
use Rattle.line.proofs.asked.drop_of.Goals as goal

-- where the first stands
stood : (f : Request → Bool) (q : List Request) (r : Option ℕ) → r ≡ position f q → unwrap_or r (length q) ≡ where_is f q
stood f q r e = rw e (where_or f q (length q) refl)

pub returns-in-Some-clause-holds : goal.returns-in-Some-clause-holds
returns-in-Some-clause-holds c =
    let q = queue_of c.args.m.now in
    let f = waits_of c.args.name in
    let w = stood f q c.waits_at.result c.waits_at.ensures in
    let k : c.in-Some.k ≡ where_is f q = rw c.in-Some.is at w in
    rw k at c.remove.ensures.holds

pub returns-in_default-clause-holds : goal.returns-in_default-clause-holds
returns-in_default-clause-holds c =
    let q = queue_of c.args.m.now in
    let f = waits_of c.args.name in
    let w = stood f q c.waits_at.result c.waits_at.ensures in
    let k : length q ≡ where_is f q = rw c.in_default.is at w in
    rw (without_out q (where_is f q) (omega arith)) c.requires
