-- Requests in the bytes: one is written, one goes.
use Prim.Native.Nat.{ℕ, suc, ◌+◌, ◌<◌, ◌≤◌}
use native.Mathlib.Omega.{arith}
use mathlib.Core.Path.{◌≡◌, refl, ap, sym, subst, ◌∙◌}
use mathlib.Core.Logic.{◌≢◌}
use mathlib.Core.Bool.{Bool, true, false}
use mathlib.Core.List.{List, [], ◌∷◌, ◌++◌}
use lib.ListN.{length, set, replicate, length-append, get_or-eq_default}
use lib.Seq.{sets}
use lib.Dec.{ltb}
use borrow.Author.Tests.{ltb-true, ltb-false}
use Rattle.lists.specs.Lists.{shifted}
use Rattle.records.specs.declared.name.Name.{Name}
use Rattle.image.specs.Image.{table, byte_at}
use Rattle.image.proofs.Table.{table_same, table_set, table_shifted, table_const, getD_table, length_table, is_table}
use Rattle.image.proofs.Written.{before_stays, after_stays, stands_there}
use Rattle.image.proofs.Laid.{split}
use Rattle.follow.specs.Follow.{KeptOutside, closed_up}
use Rattle.follow.proofs.Closed.{before_in, before_out, early_stays, late_stays, moves}
use Rattle.queue.specs.declared.request.Request.{Request}
use Rattle.queue.specs.Requests.{no_request}
use Rattle.line.specs.Bytes.{request_start, request_from, queue_from, request_bytes}

-- a request of the same bytes is the same
request_of : {n k : Name} {p q s t : ℕ} → n ≡ k → p ≡ q → s ≡ t
    → ◌≡◌ {A = Request} (record { name = n; port = p; started = s }) (record { name = k; port = q; started = t })
request_of a b c = rw (a, b, c)

pub request_same : (m n : List ℕ) (o p : ℕ) → ((i : ℕ) → i < 18 → byte_at m (o + i) ≡ byte_at n (p + i)) → request_from m o ≡ request_from n p
request_same m n o p h =
    request_of
    (ap (λ (b : List ℕ). record { bytes = b }) (table_same 16 _ _ (λ i l. h i (omega arith)))) (h 16 (omega arith)) (h 17 (omega arith))

pub length_request : (r : Request) → length r.name.bytes ≡ 16 → length (request_bytes r) ≡ 18
unfolding request_bytes
length_request r e = length-append r.name.bytes (r.port ∷ r.started ∷ []) ∙ rw e

-- what is written is read
request_back : (r : Request) → length r.name.bytes ≡ 16 → request_from (request_bytes r) 0 ≡ r
unfolding table request_bytes
request_back r e =
    subst (λ n. request_from (n ++ (r.port ∷ r.started ∷ [])) 0
    ≡ record { name = record { bytes = n }; port = r.port; started = r.started })
    (is_table r.name.bytes 16 0 e) refl

pub request_made : (n : List ℕ) (p s : ℕ) → length n ≡ 16 → set (set (sets (replicate 18 0) 0 n) 16 p) 17 s ≡ n ++ (p ∷ s ∷ [])
unfolding table
request_made n p s e = subst (λ n. set (set (sets (replicate 18 0) 0 n) 16 p) 17 s ≡ n ++ (p ∷ s ∷ [])) (is_table n 16 0 e) refl

module _ (m : List ℕ) (full : length m ≡ 1891) (k : ℕ) (b : k < 16) where
  abbrev at : List ℕ → ℕ → Request
  at n j = request_from n (request_start j)

  -- ── One is written ──
  module _ (r : Request) (wide : length r.name.bytes ≡ 16) where
    abbrev x : List ℕ
    x = request_bytes r

    abbrev after : List ℕ
    after = sets m (request_start k) x

    there : at after k ≡ r
    there =
        let l = length_request r wide in
        request_same after x (request_start k) 0
        (λ i h.
        let z : 0 + i ≡ i = omega arith in
        stands_there m (request_start k) x i (omega arith) (omega arith) ∙ ap (byte_at x) (sym z))
        ∙ request_back r wide

    others : (j : ℕ) → j < 16 → j ≢ k → at after j ≡ at m j
    others j c d =
        let l = length_request r wide in
        split j k d
        (λ h. request_same after m (request_start j) (request_start j)
        (λ i o. before_stays m (request_start k) x (request_start j + i) (omega arith)))
        (λ h. request_same after m (request_start j) (request_start j)
        (λ i o. after_stays m (request_start k) x (request_start j + i) (omega arith)))

    pub queue_put : queue_from after ≡ set (queue_from m) k r
    unfolding queue_from
    queue_put = table_set 16 (at m) (at after) k r there others

    pub put_keeps : KeptOutside 901 1189 m after
    put_keeps =
        let l = length_request r wide in
        record {
          before = λ i d. before_stays m (request_start k) x i (omega arith);
          after = λ i d. after_stays m (request_start k) x i (omega arith);
        }

  -- ── One goes ──
  abbrev pub closed : List ℕ
  closed = table (length m) (closed_up m (request_start k) 18 1189 1189)

  closed_is : (i : ℕ) → i < 1891 → byte_at closed i ≡ closed_up m (request_start k) 18 1189 1189 i
  closed_is i d = getD_table (length m) (closed_up m (request_start k) 18 1189 1189) i 0 (omega arith)

  early : (j : ℕ) → j < k → at closed j ≡ at m j
  early j d =
      request_same closed m (request_start j) (request_start j)
      (λ i h. closed_is (request_start j + i) (omega arith) ∙ early_stays m (request_start k) 18 1189 1189 (request_start j + i) (omega arith))

  late : (j : ℕ) → k ≤ j → j < 15 → at closed j ≡ at m (suc j)
  late j d f =
      request_same closed m (request_start j) (request_start (suc j))
      (λ i h.
      let z : request_start j + i + 18 ≡ request_start (suc j) + i = omega arith in
      closed_is (request_start j + i) (omega arith)
      ∙ moves m (request_start k) 18 1189 1189 (request_start j + i) (omega arith) (omega arith)
      ∙ before_in m 1189 (request_start j + i + 18) (omega arith) ∙ ap (byte_at m) z)

  zero_there : (i : ℕ) → i < 18 → byte_at closed (request_start 15 + i) ≡ 0
  zero_there i h =
      closed_is (request_start 15 + i) (omega arith)
      ∙ moves m (request_start k) 18 1189 1189 (request_start 15 + i) (omega arith) (omega arith)
      ∙ before_out m 1189 (request_start 15 + i + 18) (omega arith)

  last : at closed 15 ≡ no_request
  last =
      request_of
      (ap (λ (b : List ℕ). record { bytes = b }) (table_same 16 _ (λ i. 0) (λ i l. zero_there i (omega arith)) ∙ table_const 16 0))
      (zero_there 16 (omega arith)) (zero_there 17 (omega arith))

  pub queue_gone : queue_from closed ≡ shifted no_request (queue_from m) k
  unfolding queue_from
  queue_gone = table_shifted 15 (at m) (at closed) k no_request b early late last

  pub gone_keeps : KeptOutside 901 1189 m closed
  gone_keeps = record {
    before = λ i d. within i (λ l. early_stays m (request_start k) 18 1189 1189 i (omega arith));
    after = λ i d. within i (λ l. late_stays m (request_start k) 18 1189 1189 i d);
  }
    where
      within : (i : ℕ) → (i < 1891 → closed_up m (request_start k) 18 1189 1189 i ≡ byte_at m i) → byte_at closed i ≡ byte_at m i
      within i f = go (ltb i 1891) refl
        where
          go : (w : Bool) → ltb i 1891 ≡ w → byte_at closed i ≡ byte_at m i
          go true h = let l = ltb-true i 1891 h in closed_is i l ∙ f l
          go false h =
              let l = ltb-false i 1891 h in
              let n = length_table (length m) (closed_up m (request_start k) 18 1189 1189) in
              get_or-eq_default closed 0 (omega arith) ∙ sym (get_or-eq_default m 0 (omega arith))
