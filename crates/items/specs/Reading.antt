-- Items are met in the order in which they begin, a list before its elements; the first refusal ends the reading.
use Rattle.std.specs.Prelude.{ℕ, zero, suc, ◌+◌, Bool, cond, List, [], ◌∷◌, eqb}
use Rattle.lists.specs.Lists.{every}
use Rattle.records.specs.Refusals.{answer}
use Rattle.items.specs.Tree.{Item, nothing, gathered, single}
use Rattle.items.specs.Tree.Item.{leaf, list}
use Rattle.items.specs.Heads.{head_at, is_list, refusal_of}
use Rattle.items.specs.declared.head.Head.{Head}
use Rattle.items.specs.declared.head.Span.{Span}
use Rattle.items.specs.declared.walk.Walk.{Walk}

-- A refusal, or 0; where the reading ended: after what was read, or at the item refused; how many items have begun that
-- met no refusal; what was found.
pub record Reading (A : Type 0) : Type 0 where
  pub refusal : ℕ
  pub at : ℕ
  pub count : ℕ
  pub found : A

-- the same place, with something else found
abbrev pub finding : {A B : Type 0} → Reading A → B → Reading B
finding r found = record { refusal = r.refusal; at = r.at; count = r.count; found = found }

abbrev pub refused_at : ℕ → ℕ → ℕ → Reading (Item Span)
refused_at refusal at count = record { refusal = refusal; at = at; count = count; found = nothing }

-- as many items, one after the other, where f reads the one at a position
unfoldable pub read_many : (ℕ → ℕ → Reading (Item Span)) → ℕ → ℕ → ℕ → Reading (List (Item Span))
read_many f zero at count = record { refusal = 0; at = at; count = count; found = [] }
read_many f (suc n) at count =
    let x = f at count in
    let rest = read_many f n x.at x.count in
    let all = finding rest (x.found ∷ rest.found) in
    cond (eqb x.refusal 0) all (finding x [])

-- a list is its elements, which f reads; any other item is its data
unfoldable pub read_body : (ℕ → ℕ → Reading (Item Span)) → Head → ℕ → Reading (Item Span)
read_body f h count =
    let xs = read_many f h.many h.body (count + 1) in
    let inside = finding xs (list (gathered xs.found)) in
    cond (is_list h) inside
    (record {
      refusal = 0;
      at = h.body + h.many;
      count = count + 1;
      found = leaf h.code (record { at = h.body; many = h.many });
    })

-- an item that meets a refusal is not begun
unfoldable pub read_by : (ℕ → ℕ → Reading (Item Span)) → ℕ → List ℕ → ℕ → ℕ → Reading (Item Span)
read_by f left m at count =
    let h = head_at m at in
    let refusal = refusal_of m at h left count in
    let item = read_body f h count in
    cond (eqb refusal 0) item (refused_at refusal at count)

-- The item at a position, where so many lists may still be opened, one in another, and so many items have begun.
unfoldable pub read_item : ℕ → List ℕ → ℕ → ℕ → Reading (Item Span)
read_item zero m = read_by (refused_at 23) zero m
read_item (suc left) m = read_by (read_item left m) (suc left) m

-- the outermost item: lists to a depth of six, itself at one
abbrev pub read_message : List ℕ → Reading (Item Span)
read_message m = read_item 6 m 0 0

-- ── What the code keeps of a reading: whether every number and boolean item found holds one value ──
pub record Walked : Type 0 where
  pub refusal : ℕ
  pub at : ℕ
  pub count : ℕ
  pub single : Bool

abbrev pub walked : Reading (Item Span) → Walked
walked r = record { refusal = r.refusal; at = r.at; count = r.count; single = single r.found }

abbrev pub walked_all : Reading (List (Item Span)) → Walked
walked_all r = record { refusal = r.refusal; at = r.at; count = r.count; single = every single r.found }

-- the same of what it hands on, its refusal by number
abbrev pub kept : Walk → Walked
kept w = record { refusal = answer w.said; at = w.at; count = w.count; single = w.single }
