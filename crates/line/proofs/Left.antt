-- From the end: those that aren't started go, and the others close up.
use Prim.Native.Nat.{ℕ, suc, ◌-◌, ◌≤◌, ◌<◌}
use native.Mathlib.Omega.{arith}
use mathlib.Core.Path.{◌≡◌, refl, ap, sym, ◌∙◌}
use mathlib.Core.Bool.{Bool, true, false, cond}
use mathlib.Core.List.{List, [], ◌∷◌, ◌++◌}
use lib.ListN.{length, get_or, take, drop, length-append, length-drop}
use lib.Seq.{take-suc, drop-cons, length-take-le}
use Rattle.std.proofs.Common.{append_assoc}
use Rattle.lists.specs.Lists.{fill, shifted, without}
use Rattle.lists.proofs.Tables.{getD_fill, shift_fill}
use Rattle.queue.specs.declared.request.Request.{Request}
use Rattle.queue.specs.Requests.{no_request, is_started, only}

module _ {A : Type 0} where
  -- an element stands after those before it, and goes from there
  at_middle : (l r : List A) (x d : A) → get_or (l ++ (x ∷ r)) (length l) d ≡ x
  at_middle [] r x d = refl
  at_middle (y ∷ l) r x d = at_middle l r x d

  gone_middle : (l r : List A) (x : A) → without (length l) (l ++ (x ∷ r)) ≡ l ++ r
  unfolding without
  gone_middle [] r x = refl
  gone_middle (y ∷ l) r x = ap (λ t. y ∷ t) (gone_middle l r x)

-- the first k as they were, and of the rest those that are started
abbrev pub left_of : List Request → ℕ → List Request
left_of l k = take k l ++ only is_started (drop k l)

pub few_only : (f : Request → Bool) (q : List Request) → length (only f q) ≤ length q
unfolding only
few_only f [] = omega arith
few_only f (r ∷ q) = go (f r) (few_only f q)
  where
    go : (w : Bool) → length (only f q) ≤ length q → length (cond w (r ∷ only f q) (only f q)) ≤ suc (length q)
    go true e = omega arith
    go false e = omega arith

module _ (l : List Request) (few : length l ≤ 16) (k : ℕ) (b : k < length l) where
  abbrev x : Request
  x = get_or l k no_request

  abbrev rest : List Request
  rest = only is_started (drop (suc k) l)

  before : length (take k l) ≡ k
  before = length-take-le k l (omega arith)

  spelt : left_of l (suc k) ≡ take k l ++ (x ∷ rest)
  spelt = rw (take-suc l k no_request b, append_assoc)

  long : length (take k l ++ (x ∷ rest)) ≤ 16
  long =
      let a = length-append (take k l) (x ∷ rest) in
      let c = before in
      let d = few_only is_started (drop (suc k) l) in
      let e : length (drop (suc k) l) ≡ length l - suc k = length-drop (suc k) l in
      omega arith

  pub here_is : get_or (fill 16 no_request (left_of l (suc k))) k no_request ≡ x
  here_is =
      rw spelt (getD_fill 16 no_request (take k l ++ (x ∷ rest)) k long
      ∙ ap (λ i. get_or (take k l ++ (x ∷ rest)) i no_request) (sym before) ∙ at_middle (take k l) rest x no_request)

  next : left_of l k ≡ take k l ++ cond (is_started x) (x ∷ rest) rest
  unfolding only
  next = rw (drop-cons l k no_request b)

  pub left_next : cond (is_started x) (fill 16 no_request (left_of l (suc k))) (shifted no_request (fill 16 no_request (left_of l (suc k))) k)
      ≡ fill 16 no_request (left_of l k)
  left_next = rw (spelt, next) (go (is_started x))
    where
      in_it : k < length (take k l ++ (x ∷ rest))
      in_it = let a = length-append (take k l) (x ∷ rest) in let c = before in omega arith

      goes : without k (take k l ++ (x ∷ rest)) ≡ take k l ++ rest
      goes = ap (λ i. without i (take k l ++ (x ∷ rest))) (sym before) ∙ gone_middle (take k l) rest x

      go : (w : Bool)
          → cond w (fill 16 no_request (take k l ++ (x ∷ rest))) (shifted no_request (fill 16 no_request (take k l ++ (x ∷ rest))) k)
          ≡ fill 16 no_request (take k l ++ cond w (x ∷ rest) rest)
      go true = refl
      go false = shift_fill 16 no_request (take k l ++ (x ∷ rest)) k in_it long ∙ ap (fill 16 no_request) goes

  pub count_next : cond (is_started x) (length (left_of l (suc k))) (length (left_of l (suc k)) - 1) ≡ length (left_of l k)
  count_next = rw (spelt, next) (go (is_started x))
    where
      go : (w : Bool) → cond w (length (take k l ++ (x ∷ rest))) (length (take k l ++ (x ∷ rest)) - 1)
          ≡ length (take k l ++ cond w (x ∷ rest) rest)
      go true = refl
      go false =
          let a = length-append (take k l) (x ∷ rest) in
          let c = length-append (take k l) rest in
          omega arith

  pub some_left : 1 ≤ length (left_of l (suc k))
  some_left = rw spelt (let a = length-append (take k l) (x ∷ rest) in omega arith)

-- at the beginning all, at the end those that are started
pub left_all : (l : List Request) → left_of l (length l) ≡ l
unfolding only
left_all [] = refl
left_all (x ∷ l) = ap (λ t. x ∷ t) (left_all l)
