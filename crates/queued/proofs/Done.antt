-- OutDone: what the code puts together is what it gives.
use Prim.Native.Nat.{ℕ, ◌<◌, ◌≤◌}
use native.Mathlib.Omega.{arith}
use mathlib.Core.Path.{◌≡◌, ap, sym, subst⁻¹, ◌∙◌}
use mathlib.Core.Bool.{true, false}
use mathlib.Core.List.{List, []}
use lib.ListN.{length, get_or, set, take, length-set}
use lib.Seq.{take_all, get_or-set_same, get_or-set_other}
use Rattle.lists.specs.Lists.{any, fill, without}
use Rattle.std.specs.Prelude.{Result, Ok}
use Rattle.records.specs.Names.{no_name}
use Rattle.records.specs.Refusals.{answer}
use Rattle.records.specs.declared.refusal.Refusal.{Refusal}
use Rattle.rules.specs.declared.row.Effect.{Effect}
use Rattle.rules.specs.declared.tool.Tool.{Tool}
use Rattle.rules.specs.Seen.{Input, narrow, see}
use Rattle.rules.specs.Row as row
use Rattle.rules.specs.Reports.{no_reports}
use Rattle.image.specs.Image.{tool_from, reports_from}
use Rattle.parts.specs.Apply.{applied}
use Rattle.parts.specs.Told.{note_all}
use Rattle.parts.proofs.Bridge.{bridge}
use Rattle.machine.proofs.Answered.{told_by}
use Rattle.follow.specs.Follow.{KeptOutside}
use Rattle.maps.specs.State as maps
use Rattle.mapped.specs.declared.step.Moved.{Moved}
use Rattle.mapped.specs.Bytes.{maps_from, own_in}
use Rattle.mapped.proofs.Carried.{reports_are}
use Rattle.queue.specs.declared.request.Request.{Request}
use Rattle.queue.specs.Requests.{no_request, started_to, started_stands}
use Rattle.queue.specs.State.{Queued, base_of, state_of, in_tool}
use Rattle.queue.specs.Sound.{sound_tool}
use Rattle.queue.specs.Outcome.{answer_in, state_after, given_in}
use Rattle.queue.proofs.Free.{nobody_last}
use Rattle.queue.proofs.Outs.{hands_out}
use Rattle.queue.proofs.SoundRuns.{sound_parts, sound_after}
use Rattle.queue.proofs.Ended.{under_way_there, done_accepted, base_then, maps_then, goes_then, made_then, out_apt, queue_left}
use Rattle.line.specs.Bytes.{waiting_in, queue_from, queue_of, Holds}
use Rattle.line.proofs.Changed.{kept_wider}
use Rattle.queued.specs.Bytes.{queued_in, left}
use Rattle.queued.proofs.Held.{tool, held, base_is, maps_again, state_sound, maps_stay}
use Rattle.queued.proofs.Given.{given_of}

module _ (m : List (List ℕ)) (h : sound_tool (queued_in m) ≡ true) (i : Input) (z : i.number ≡ 28)
    (some : any (started_to (narrow i.port)) (queue_of (own_in m)) ≡ true) where
  abbrev s : Queued
  s = state_of (queued_in m)

  abbrev p : ℕ
  p = narrow i.port

  -- the carrier that comes out, and the effect
  abbrev pub ending : Request
  ending = get_or (queue_of (own_in m)) (started_stands p (queue_of (own_in m))) no_request

  abbrev pub act : Effect
  act = hands_out (base_of s) p ending.name

  accepts : answer_in s i ≡ 0
  accepts = done_accepted s i (state_sound m h) z ending.name (under_way_there p (queue_of (own_in m)) some)

  base_is_then : base_of (state_after s i) ≡ row.enact act (base_of s)
  base_is_then = base_then s i (state_sound m h) z ending.name (under_way_there p (queue_of (own_in m)) some)

  queue_then : (state_after s i).queue ≡ without (started_stands p (queue_of (own_in m))) (queue_of (own_in m))
  unfolding see
  queue_then = queue_left s i (state_sound m h) z ending.name (under_way_there p (queue_of (own_in m)) some)

  few_then : length (state_after s i).queue ≤ 16
  few_then = (sound_parts (state_after s i) (sound_after s i (state_sound m h))).line.few

  given_is : record {
    tool = record {
      mapped = record { base = applied (tool m h) act; maps = maps_from (own_in m) };
      waiting = length (take 16 (state_after s i).queue);
      queue = fill 16 no_request (state_after s i).queue;
    };
    answer = 0;
    reports = note_all no_reports (told_by (tool m h) act);
    goes = length (base_of s).carriers;
    made = false;
    gone = no_name;
  } ≡ given_in (queued_in m) i
  unfolding given_in in_tool maps.in_tool
  given_is =
      let u = under_way_there p (queue_of (own_in m)) some in
      let a = out_apt s i (state_sound m h) z ending.name u in
      rw (
        accepts,
        base_is_then,
        maps_then s i (state_sound m h) z ending.name u,
        maps_again m h,
        bridge (tool m h) (held m h) act,
        reports_are (tool m h) (base_is m h) (held m h) act a,
        goes_then s i (state_sound m h) z ending.name u,
        made_then s i (state_sound m h) z ending.name u,
        nobody_last (base_of s),
      )

  -- ── From the two blocks that are left ──
  module _ (y w o : List ℕ) (r : Moved (Result Unit Refusal)) (two : 1 < length m) (k : KeptOutside 900 1189 (get_or (set m 0 y) 1 []) w)
      (l : Holds w (without (started_stands p (queue_of (own_in m))) (queue_of (own_in m))))
      (b : tool_from y ≡ applied (tool m h) act) (e : reports_from o ≡ note_all no_reports (told_by (tool m h) act))
      (v : r ≡ record { answer = Ok tt; goes = length (base_of s).carriers; made = false; gone = no_name }) where
    abbrev n : List (List ℕ)
    n = set (set m 0 y) 1 w

    more : 1 < length (set m 0 y)
    more = simp length-set two

    own_then : own_in n ≡ w
    own_then = get_or-set_same (set m 0 y) 1 w [] more

    own_was : get_or (set m 0 y) 1 [] ≡ own_in m
    own_was = get_or-set_other m 0 1 y [] (omega arith)

    base_left : get_or n 0 [] ≡ y
    base_left = get_or-set_other (set m 0 y) 1 0 w [] (omega arith) ∙ get_or-set_same m 0 y [] (omega arith)

    kept : KeptOutside 900 1189 (own_in m) w
    kept = rw own_was at k

    pub done_left : (left n o r ≡ given_in (queued_in m) i) × KeptOutside 0 1189 (own_in m) (own_in n)
    done_left = (
      given_of (mapped_of (ap tool_from base_left ∙ b) (ap maps_from own_then ∙ maps_stay kept))
          (ap waiting_in own_then ∙ l.waiting ∙ ap length (sym queue_then) ∙ ap length (sym (take_all 16 (state_after s i).queue few_then)))
          (ap queue_from own_then ∙ l.queue ∙ ap (fill 16 no_request) (sym queue_then))
          (ap (λ (x : Moved (Result Unit Refusal)). answer x.answer) v) e (ap (λ (x : Moved (Result Unit Refusal)). x.goes) v) (ap (λ (x : Moved (Result Unit Refusal)). x.made) v)
          (ap (λ (x : Moved (Result Unit Refusal)). x.gone) v)
          ∙ given_is,
      subst⁻¹ (KeptOutside 0 1189 (own_in m)) own_then (kept_wider (omega arith) (omega arith) kept),
    )
      where
        mapped_of : {t u : Tool} {l k : List (List ℕ)} → t ≡ u → l ≡ k
            → ◌≡◌ {A = maps.MappedTool} (record { base = t; maps = l }) (record { base = u; maps = k })
        mapped_of a b = rw (a, b)
