-- What the code puts together is what an input gives.
use Prim.Native.Nat.{ℕ, ◌<◌, ◌≤◌}
use native.Mathlib.Omega.{arith}
use mathlib.Core.Path.{◌≡◌, refl, ap, sym, ◌∙◌}
use mathlib.Core.Bool.{true, false, cond}
use mathlib.Core.List.{List, []}
use lib.ListN.{length, get_or, set, take, drop, length-set}
use lib.Seq.{length-take-le, get_or-set_same, get_or-set_other}
use borrow.Author.Tests.{ne_eqb}
use Rattle.lists.specs.Lists.{every, fill}
use Rattle.lists.proofs.Bools.{and_l, and_r}
use Rattle.std.specs.Prelude.{Result, Ok, Err}
use Rattle.records.specs.declared.refusal.Refusal.{Refusal}
use Rattle.records.specs.Names.{no_name}
use Rattle.records.specs.Refusals.{number, answer as number_of}
use Rattle.rules.specs.declared.tool.Tool.{Tool}
use Rattle.rules.specs.declared.row.Seen.{Seen}
use Rattle.rules.specs.declared.row.Effect.{Effect}
use Rattle.rules.specs.State as base
use Rattle.rules.specs.Sound as base_sound
use Rattle.rules.specs.Held.{Held}
use Rattle.rules.specs.Seen.{Input, see}
use Rattle.rules.specs.Row as row
use Rattle.rules.specs.Row.{judge}
use Rattle.rules.specs.Reports.{no_reports, listed, differences}
use Rattle.rules.proofs.Apt.{Apt}
use Rattle.rules.proofs.Holding.{port_held, record_held, count_held, tool_sound}
use Rattle.rules.proofs.SoundFacts.{few_ports, distinct}
use Rattle.image.specs.Image.{tool_from}
use Rattle.parts.specs.Apply.{applied}
use Rattle.parts.specs.Told.{note_all}
use Rattle.parts.proofs.Bridge.{bridge}
use Rattle.parts.proofs.Notes.{all_noted}
use Rattle.machine.proofs.Answered as machine_answered
use Rattle.machine.proofs.Answered.{told_by}
use Rattle.machine.proofs.Refused.{never_zero}
use Rattle.machine.proofs.Differ.{differences_touched}
use Rattle.follow.specs.Follow.{followed, followed_in}
use Rattle.follow.proofs.Follows.{follow_fill}
use Rattle.maps.specs.declared.codes.Codes.{Codes}
use Rattle.maps.specs.Expected.{is_expected, no_map, is_none, equals, carries, new_map}
use Rattle.maps.specs.State.{Mapped, MappedTool, state_of, in_tool}
use Rattle.maps.specs.Sound.{sound_tool}
use Rattle.maps.specs.Rows.{codes_in, row_of}
use Rattle.maps.specs.Outcome.{row_in, answer_in, state_after, Given, refused, given_in}
use Rattle.maps.proofs.Amended.{row_same, first_is_lowest, accepted_there, apt_amended}
use Rattle.mapped.specs.Bytes.{maps_from, own_in, mapped_in, codes_at}
use Rattle.mapped.proofs.InBytes.{maps_long, maps_held, map_held}

-- the reports of an effect that is fit for them
pub reports_are : (t : Tool) → base_sound.sound_tool t ≡ true → Held t → (e : Effect) → Apt (base.state_of t) e
    → note_all no_reports (told_by t e) ≡ listed (differences (base.state_of t) (row.enact e (base.state_of t)))
reports_are t h k e a =
    let s = tool_sound t h in
    all_noted (told_by t e)
    ∙ ap listed (rw (port_held t k, record_held t k e.goes, record_held t k e.changes)
    (sym (differences_touched (base.state_of t) e (few_ports (base.state_of t) s) (distinct (base.state_of t) s) a)))

-- a tool from its two blocks
abbrev pub two_in : Tool → List ℕ → MappedTool
two_in t m = record { base = t; maps = maps_from m }

-- what soundness says of them
pub base_is_sound : (t : Tool) (m : List ℕ) → sound_tool (two_in t m) ≡ true → base_sound.sound_tool t ≡ true
unfolding sound_tool
base_is_sound t m h = and_l (base_sound.sound_tool t) _ h

none_past : (t : Tool) (m : List ℕ) → sound_tool (two_in t m) ≡ true → every is_none (drop t.count (maps_from m)) ≡ true
unfolding sound_tool
none_past t m h = and_l _ _ (and_r (base_sound.sound_tool t) _ h)

module _ (t : Tool) (m : List ℕ) (i : Input) (h : sound_tool (two_in t m) ≡ true) (k : Held t) where
  abbrev state : Mapped
  state = state_of (two_in t m)

  abbrev pub seen : Seen
  seen = see (base.state_of t) i

  abbrev pub codes : Codes
  codes = codes_at i.number (maps_from m) seen.stands seen.map i.codes

  -- the row, from what the code looks up
  row_is : row_of i.number seen codes ≡ row_in state i
  unfolding codes_at codes_in
  row_is =
      row_same i.number seen (is_expected i.codes) (equals (get_or (maps_from m) seen.stands no_map) seen.map)
      ∙ ap (λ p. row_of i.number seen (record { fine = is_expected i.codes; equal = equals p seen.map }))
      (map_held m t.count (none_past t m h) k.few_carriers seen.stands)

  abbrev pub act : Effect
  act = (row_of i.number seen codes).effect

  abbrev pub answer : ℕ
  answer = judge (row_of i.number seen codes).grounds

  answered : answer ≡ answer_in state i
  unfolding answer_in
  answered = ap (λ r. judge r.grounds) row_is ∙ first_is_lowest i.number seen (codes_in state i)

  pub counted : seen.count ≡ t.count
  unfolding see
  counted = count_held t k

  new_is : cond (carries i.number) seen.map no_map ≡ new_map i.number i.codes
  unfolding see new_map
  new_is = refl

  abbrev maps : List (List ℕ)
  maps = take t.count (maps_from m)

  maps_follow : (e : Effect)
      → followed_in no_map seen.count e.goes e.made (cond (carries i.number) seen.map no_map) (maps_from m)
      ≡ fill 36 no_map (followed e.goes e.made (new_map i.number i.codes) maps)
  maps_follow e =
      let l = maps_long m in
      let f = k.few_carriers in
      let c : length maps ≡ t.count = length-take-le t.count (maps_from m) (omega arith) in
      rw (counted, new_is)
      (ap (λ x. followed_in no_map t.count e.goes e.made (new_map i.number i.codes) x)
      (maps_held m t.count (none_past t m h))
      ∙ ap (λ x. followed_in no_map x e.goes e.made (new_map i.number i.codes) (fill 36 no_map maps)) (sym c)
      ∙ follow_fill 36 no_map maps (omega arith) e.goes e.made (new_map i.number i.codes))

  act_apt : answer ≡ 0 → Apt (base.state_of t) act
  act_apt z =
      apt_amended (base.state_of t) i (tool_sound t (base_is_sound t m h)) i.number codes
      (accepted_there state i (rw (sym answered ∙ z)))

  pub accepted_is : answer ≡ 0 → record {
    tool = record {
      base = applied t act;
      maps = followed_in no_map seen.count act.goes act.made (cond (carries i.number) seen.map no_map) (maps_from m);
    };
    answer = 0;
    reports = note_all no_reports (told_by t act);
    goes = act.goes;
    made = act.made;
    gone = (base.record_at t act.goes).name;
  } ≡ given_in (two_in t m) i
  unfolding given_in state_after in_tool
  accepted_is z =
      rw (
        sym answered ∙ z,
        ← row_is,
        bridge t k act,
        reports_are t (base_is_sound t m h) k act (act_apt z),
        maps_follow act,
        record_held t k act.goes,
      )

  pub refused_is : (answer ≡ 0 → ⊥) → refused (two_in t m) answer ≡ given_in (two_in t m) i
  unfolding given_in
  refused_is d = rw (← answered, ne_eqb answer 0 d)

-- ── From what the code found ──
module _ (t : Tool) (m : List ℕ) (i : Input) (h : sound_tool (two_in t m) ≡ true) (k : Held t) (x : Seen) (c : Codes)
    (said : Result Unit Refusal) (looked : x ≡ see (base.state_of t) i)
    (coded : c ≡ codes_at i.number (maps_from m) x.stands x.map i.codes)
    (judged : number_of said ≡ judge (row_of i.number x c).grounds) where
  rowed : row_of i.number x c ≡ row_of i.number (seen t m i h k) (codes t m i h k)
  rowed = rw (coded, looked)

  answered_as : number_of said ≡ answer t m i h k
  answered_as = judged ∙ ap (λ r. judge r.grounds) rowed

  pub nothing_done : (r : Refusal) → said ≡ Err r → ◌≡◌ {A = Given} (record {
    tool = two_in t m;
    answer = number r;
    reports = no_reports;
    goes = x.count;
    made = false;
    gone = no_name;
  }) (given_in (two_in t m) i)
  nothing_done r z =
      let e : number r ≡ answer t m i h k = sym (ap number_of z) ∙ answered_as in
      let n : x.count ≡ t.count = ap (λ y. y.count) looked ∙ counted t m i h k in
      rw (n, e) (refused_is t m i h k (λ o. never_zero r (e ∙ o)))

  pub all_done : (u : Unit) → said ≡ Ok u → (e : Effect) → e ≡ (row_of i.number x c).effect
      → (new : List ℕ) → new ≡ cond (carries i.number) x.map no_map
      → (kept after : List (List ℕ)) → kept ≡ maps_from m → after ≡ followed_in no_map x.count e.goes e.made new kept
      → ◌≡◌ {A = Given} (record {
        tool = record { base = applied t e; maps = after };
        answer = 0;
        reports = note_all no_reports (told_by t e);
        goes = e.goes;
        made = e.made;
        gone = (base.record_at t e.goes).name;
      }) (given_in (two_in t m) i)
  all_done u z e f new v kept after p q =
      let d : e ≡ act t m i h k = f ∙ ap (λ r. r.effect) rowed in
      rw (q, p, v, d, looked) (accepted_is t m i h k (sym answered_as ∙ ap number_of z))

  pub few : x.count ≤ 36
  few = let f = k.few_carriers in let n : x.count ≡ t.count = ap (λ y. y.count) looked ∙ counted t m i h k in omega arith

-- ── Two blocks, the first and then the second written ──
module _ (m : List (List ℕ)) (y w : List ℕ) (long : 1 < length m) where
  more : 1 < length (set m 0 y)
  more = simp length-set long

  pub second_is : get_or (set (set m 0 y) 1 w) 1 [] ≡ w
  second_is = get_or-set_same (set m 0 y) 1 w [] more

  pub second_stays : get_or (set m 0 y) 1 [] ≡ get_or m 1 []
  second_stays = get_or-set_other m 0 1 y [] (omega arith)

  pub first_is : get_or (set (set m 0 y) 1 w) 0 [] ≡ y
  first_is = get_or-set_other (set m 0 y) 1 0 w [] (omega arith) ∙ get_or-set_same m 0 y [] (omega arith)

  pub two_are : (t : Tool) → tool_from y ≡ t → mapped_in (set (set m 0 y) 1 w) ≡ two_in t w
  two_are t e = rw (first_is, second_is, e)

-- what reading a tool's first block asks
pub held_in : (m : List (List ℕ)) → sound_tool (mapped_in m) ≡ true → Held (tool_from (get_or m 0 []))
held_in m h = machine_answered.held_in (get_or m 0 []) (base_is_sound (tool_from (get_or m 0 [])) (own_in m) h)
