-- A block holds the queue that follows when one is added, one is started, one goes, or those go that aren't started.
use Prim.Native.Nat.{ℕ, ◌+◌, ◌-◌, ◌<◌, ◌≤◌}
use native.Mathlib.Omega.{arith}
use mathlib.Core.Path.{◌≡◌, ap, sym, ◌∙◌}
use mathlib.Core.List.{List, [], ◌∷◌}
use lib.ListN.{length, get_or, set, length-set, length-take, length-append}
use Rattle.lists.specs.Lists.{fill, shifted, without}
use Rattle.lists.proofs.Tables.{getD_fill, set_fill, push_fill, shift_fill, length_without}
use Rattle.image.proofs.Table.{table_same}
use Rattle.records.specs.declared.name.Name.{Name}
use Rattle.follow.specs.Follow.{KeptOutside}
use Rattle.queue.specs.declared.request.Request.{Request}
use Rattle.queue.specs.Requests.{no_request, new_request, begun, is_started, added, started, all_dropped}
use Rattle.line.specs.Bytes.{waiting_in, request_start, queue_from, queue_of, Holds}
use Rattle.line.proofs.Laid.{queue_long}
use Rattle.line.proofs.Left.{few_only}
use Rattle.line.proofs.Written.{request_same}

-- ── What is kept ──
pub kept_wider : {o p e f : ℕ} {m n : List ℕ} → p ≤ o → e ≤ f → KeptOutside o e m n → KeptOutside p f m n
kept_wider a b k = record { before = λ i h. k.before i (omega arith); after = λ i h. k.after i (omega arith) }

pub kept_then : {o e : ℕ} {l m n : List ℕ} → KeptOutside o e l m → KeptOutside o e m n → KeptOutside o e l n
kept_then j k = record { before = λ i h. k.before i h ∙ j.before i h; after = λ i h. k.after i h ∙ j.after i h }

-- the requests, where only bytes before them change, and their number, where only bytes after it do
pub queue_stays : {o : ℕ} {m n : List ℕ} → KeptOutside o 901 m n → queue_from n ≡ queue_from m
unfolding queue_from
queue_stays {o} {m} {n} k = table_same 16 _ _ (λ j h. request_same n m (request_start j) (request_start j) (λ i l. k.after _ (omega arith)))

pub waiting_stays : {e : ℕ} {m n : List ℕ} → KeptOutside 901 e m n → waiting_in n ≡ waiting_in m
waiting_stays k = k.before 900 (omega arith)

-- ── The queue of a block ──
pub few_held : (m : List ℕ) → length (queue_of m) ≤ 16
few_held m = let a = length-take (waiting_in m) (queue_from m) in let b = queue_long m in omega arith

pub few_left : (m : List ℕ) → length (all_dropped (queue_of m)) ≤ 16
few_left m = let a = few_only is_started (queue_of m) in let b = few_held m in omega arith

-- from the bytes before, between and after: the requests, then their number
module _ (m b n : List ℕ) (h : Holds m (queue_of m)) (then : KeptOutside 900 901 b n) where
  pub holds_added : (name : Name) (port : ℕ) → queue_from b ≡ set (queue_from m) (waiting_in m) (new_request name port)
      → waiting_in n ≡ waiting_in m + 1 → Holds n (added name port (queue_of m))
  holds_added name port e w = record {
    waiting = w ∙ ap (λ k. k + 1) h.waiting ∙ sym (length-append (queue_of m) (new_request name port ∷ []));
    queue = queue_stays then ∙ e
        ∙ ap (λ k. set (queue_from m) k (new_request name port)) h.waiting
        ∙ ap (λ q. set q (length (queue_of m)) (new_request name port)) h.queue
        ∙ push_fill 16 no_request (queue_of m) (new_request name port);
  }

  pub holds_removed : (k : ℕ) → k < length (queue_of m) → queue_from b ≡ shifted no_request (queue_from m) k
      → waiting_in n ≡ waiting_in m - 1 → Holds n (without k (queue_of m))
  holds_removed k l e w = record {
    waiting = let a = length_without (queue_of m) k l in let c = h.waiting in omega arith;
    queue = queue_stays then ∙ e ∙ ap (λ q. shifted no_request q k) h.queue
        ∙ shift_fill 16 no_request (queue_of m) k l (few_held m);
  }

  pub holds_left : (q : List Request) → queue_from b ≡ fill 16 no_request q → waiting_in n ≡ length q → Holds n q
  holds_left q e w = record { waiting = w; queue = queue_stays then ∙ e }

pub holds_begun : (m n : List ℕ) (k : ℕ) → Holds m (queue_of m) → k < length (queue_of m) → waiting_in n ≡ waiting_in m
    → queue_from n ≡ set (queue_from m) k (begun (get_or (queue_from m) k no_request)) → Holds n (started k (queue_of m))
holds_begun m n k h l w e =
    let q = queue_of m in
    let same : get_or (queue_from m) k no_request ≡ get_or q k no_request =
    ap (λ t. get_or t k no_request) h.queue ∙ getD_fill 16 no_request q k (few_held m) in
    record {
      waiting = w ∙ h.waiting ∙ sym (length-set q k (begun (get_or q k no_request)));
      queue = e ∙ ap (λ r. set (queue_from m) k (begun r)) same ∙ ap (λ t. set t k (begun (get_or q k no_request))) h.queue
          ∙ set_fill 16 no_request q k (begun (get_or q k no_request)) l;
    }
