-- A request is zero where its 18 bytes are; there is none after the first n where the bytes after them are zero.
use Prim.Native.Nat.{ℕ, ◌+◌, ◌*◌, ◌-◌, ◌/◌, ◌%◌, ◌<◌, ◌≤◌}
use native.Mathlib.Omega.{arith}
use mathlib.Core.Path.{◌≡◌, refl, ap, sym, ◌∙◌}
use mathlib.Core.Bool.{Bool, true, false, ◌&&◌}
use mathlib.Core.List.{List, [], ◌∷◌, ◌++◌}
use lib.ListN.{length, get_or, drop, length-drop}
use lib.Seq.{get_or-drop}
use lib.Dec.{eqb}
use Rattle.lists.specs.Lists.{every, same_list}
use Rattle.lists.proofs.Bools.{same_test}
use Rattle.lists.proofs.Tests.{every_at}
use Rattle.lists.proofs.Parts.{every_all}
use Rattle.records.specs.Names.{same_name}
use Rattle.image.specs.Image.{table, byte_at, bytes_from}
use Rattle.passes.specs.Passes.{is_zero}
use Rattle.passes.proofs.Turns.{every_on, every_of}
use Rattle.queue.specs.Requests.{no_request}
use Rattle.queue.specs.Sound.{zero_request}
use Rattle.line.specs.Bytes.{request_start, request_from, queue_from}
use Rattle.line.proofs.Laid.{queue_long, request_is}

every_append : {A : Type 0} (f : A → Bool) (l k : List A) → every f (l ++ k) ≡ (every f l && every f k)
unfolding every
every_append f [] k = refl
every_append f (x ∷ l) k = rw (every_append f l k) (assoc (f x) (every f l) (every f k))
  where
    assoc : (a b c : Bool) → (a && (b && c)) ≡ ((a && b) && c)
    assoc true b c = refl
    assoc false b c = refl

two_last : (a b c : Bool) → ((a && b) && c) ≡ (a && (b && (c && true)))
two_last true true true = refl
two_last true true false = refl
two_last true false c = refl
two_last false b c = refl

pub zero_request_fact : (m : List ℕ) (o : ℕ) → zero_request (request_from m o) ≡ every is_zero (bytes_from m o 18)
unfolding zero_request same_name same_list table every
zero_request_fact m o =
    two_last (every is_zero (bytes_from m o 16)) (eqb (byte_at m (o + 16)) 0) (eqb (byte_at m (o + 17)) 0) ∙ spelt
  where
    spelt : (every is_zero (bytes_from m o 16) && (eqb (byte_at m (o + 16)) 0 && (eqb (byte_at m (o + 17)) 0 && true)))
        ≡ every is_zero (bytes_from m o 18)
    spelt = sym (every_append is_zero (bytes_from m o 16) (byte_at m (o + 16) ∷ byte_at m (o + 17) ∷ []))

-- no request after the first n, where the bytes up to the queue's end are zero
module _ (m : List ℕ) (n : ℕ) (few : n ≤ 16) where
  abbrev start : ℕ
  start = 901 + 18 * n

  abbrev bytes : ℕ
  bytes = 18 * (16 - n)

  there : every zero_request (drop n (queue_from m)) ≡ true → every is_zero (bytes_from m start bytes) ≡ true
  there e = every_of is_zero (λ k. byte_at m (start + k)) bytes (λ k h. at k h)
    where
      at : (k : ℕ) → k < bytes → is_zero (byte_at m (start + k)) ≡ true
      at k h =
          let j = k / 18 in
          let i = k % 18 in
          let b : i < 18 = omega arith in
          let z : request_start (n + j) + i ≡ start + k = omega arith in
          let l = queue_long m in
          let d = length-drop n (queue_from m) in
          let r = every_at zero_request (drop n (queue_from m)) no_request e j (omega arith) in
          let q = ap zero_request (get_or-drop n (queue_from m) j no_request ∙ request_is m (n + j) (omega arith)) in
          rw z at (every_on is_zero (λ i. byte_at m (request_start (n + j) + i)) 18 (sym (zero_request_fact m (request_start (n + j))) ∙ sym q ∙ r) i b)

  back : every is_zero (bytes_from m start bytes) ≡ true → every zero_request (drop n (queue_from m)) ≡ true
  back e = every_all zero_request (drop n (queue_from m)) no_request (λ j h. at j h)
    where
      at : (j : ℕ) → j < length (drop n (queue_from m)) → zero_request (get_or (drop n (queue_from m)) j no_request) ≡ true
      at j h =
          let l = queue_long m in
          let d = length-drop n (queue_from m) in
          ap zero_request (get_or-drop n (queue_from m) j no_request ∙ request_is m (n + j) (omega arith)) ∙ zero_request_fact m (request_start (n + j))
          ∙ every_of is_zero (λ i. byte_at m (request_start (n + j) + i)) 18 (λ i b.
          let z : start + (18 * j + i) ≡ request_start (n + j) + i = omega arith in
          rw z at (every_on is_zero (λ k. byte_at m (start + k)) bytes e (18 * j + i) (omega arith)))

  pub none_after_is : every is_zero (bytes_from m start bytes) ≡ every zero_request (drop n (queue_from m))
  none_after_is = same_test _ _ back there
