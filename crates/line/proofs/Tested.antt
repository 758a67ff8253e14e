-- What the code tests of the queue is its soundness, where the tool below is sound.
use Prim.Native.Nat.{ℕ, ◌≤◌, ◌<◌}
use native.Mathlib.Omega.{arith}
use mathlib.Core.Path.{◌≡◌}
use mathlib.Core.Bool.{true, ◌&&◌}
use mathlib.Core.List.{List}
use lib.ListN.{length, get_or, take, drop}
use lib.Seq.{length-take-le}
use lib.Dec.{leb}
use borrow.Author.Tests.{leb-true}
use Rattle.lists.specs.Lists.{every, every_two}
use Rattle.lists.proofs.Bools.{and_l, and_r, and_i, same_test}
use Rattle.lists.proofs.Tests.{every_at, two_at}
use Rattle.lists.proofs.Parts.{every_all, two_all}
use Rattle.rules.specs.State.{State}
use Rattle.maps.specs.Sound as maps
use Rattle.maps.proofs.SoundTools as maps-tools
use Rattle.queue.specs.declared.request.Request.{Request}
use Rattle.queue.specs.Requests.{no_request}
use Rattle.queue.specs.State.{base_of, QueuedTool, state_of}
use Rattle.queue.specs.Sound.{other_carrier, sound, zero_request, sound_tool}
use Rattle.queue.proofs.Lines.{Line}
use Rattle.queue.proofs.SoundRuns.{sound_parts, sound_of}
use Rattle.queue.proofs.SoundTools.{tool_sound}
use Rattle.line.specs.Tests.{fits_in, apart, sound_line}

module _ (t : QueuedTool) (h : maps.sound_tool t.mapped ≡ true) (long : length t.queue ≡ 16) where
  abbrev s : State
  s = base_of (state_of t)

  abbrev n : ℕ
  n = t.waiting

  abbrev used : List Request
  used = take n t.queue

  -- ── From the tests ──
  module _ (few : leb n 16 ≡ true) (fit : every (fits_in s) used ≡ true) (two : every_two apart used ≡ true) where
    fits_at : (k : ℕ) → k < length used → fits_in s (get_or used k no_request) ≡ true
    fits_at k b = every_at (fits_in s) used no_request fit k b

    apart_at : (j k : ℕ) → j < k → k < length used → apart (get_or used j no_request) (get_or used k no_request) ≡ true
    apart_at j k a b = two_at apart used no_request two j k a b

    used_few : length used ≤ 16
    used_few = let b = leb-true n 16 few in let e = length-take-le n t.queue (omega arith) in omega arith

    line : Line s used
    unfolding fits_in apart
    line = record {
      few = used_few;
      ranges = every_all _ used no_request (λ k b. let o = fits_at k b in search (and_l, and_r) depth 5);
      stored = every_all _ used no_request (λ k b. let o = fits_at k b in search (and_l, and_r) depth 5);
      others = two_all _ used no_request (λ j k a b. and_l _ _ (apart_at j k a b));
      shut = every_all _ used no_request (λ k b. let o = fits_at k b in search (and_l, and_r) depth 5);
      alone = two_all _ used no_request
          (λ j k a b. and_r (other_carrier (get_or used j no_request) (get_or used k no_request)) _ (apart_at j k a b));
      kept = every_all _ used no_request (λ k b. let o = fits_at k b in search (and_l, and_r) depth 5);
    }

    state_sound : sound (state_of t) ≡ true
    state_sound = sound_of (state_of t) (record { mapped = maps-tools.tool_sound t.mapped h; line = line })

  there : sound_line s n t.queue ≡ true → sound_tool t ≡ true
  unfolding sound_line sound_tool
  there e =
      let r = and_r (leb n 16) _ e in
      let few = and_l (leb n 16) _ e in
      let z : every zero_request (drop n t.queue) ≡ true = and_l _ _ (and_l _ _ r) in
      let f : every (fits_in s) used ≡ true = and_r (every zero_request (drop n t.queue)) _ (and_l _ _ r) in
      let p : every_two apart used ≡ true = and_r (every zero_request (drop n t.queue) && every (fits_in s) used) _ r in
      and_i (and_i (and_i h few) z) (state_sound few f p)

  back : sound_tool t ≡ true → sound_line s n t.queue ≡ true
  unfolding sound_line sound_tool fits_in apart
  back e =
      let l = (sound_parts (state_of t) (tool_sound t e)).line in
      let a = and_l (maps.sound_tool t.mapped && leb n 16 && every zero_request (drop n t.queue)) _ e in
      let few : leb n 16 ≡ true = and_r (maps.sound_tool t.mapped) _ (and_l _ _ a) in
      let z : every zero_request (drop n t.queue) ≡ true = and_r (maps.sound_tool t.mapped && leb n 16) _ a in
      and_i few (and_i (and_i z
      (every_all (fits_in s) used no_request (λ k b.
      and_i (and_i (and_i (every_at _ used no_request l.ranges k b) (every_at _ used no_request l.stored k b))
      (every_at _ used no_request l.shut k b)) (every_at _ used no_request l.kept k b))))
      (two_all apart used no_request (λ j k a b.
      and_i (two_at _ used no_request l.others j k a b) (two_at _ used no_request l.alone j k a b))))

  pub line_tested : sound_line s n t.queue ≡ sound_tool t
  line_tested = same_test _ _ there back
