-- What the bytes of a sound tool hold.
use Prim.Native.Nat.{ℕ, ◌≤◌}
use native.Mathlib.Omega.{arith}
use mathlib.Core.Path.{◌≡◌, ap, sym, ◌∙◌}
use mathlib.Core.Bool.{true}
use mathlib.Core.List.{List, []}
use lib.ListN.{length, get_or, take, drop}
use lib.Seq.{take_all}
use Rattle.lists.specs.Lists.{every, fill}
use Rattle.lists.proofs.Bools.{and_l, and_r}
use Rattle.rules.specs.declared.tool.Tool.{Tool}
use Rattle.rules.specs.State as base
use Rattle.rules.specs.Sound as base_sound
use Rattle.rules.specs.Held.{Held}
use Rattle.rules.proofs.Holding.{sound_held, used_held, count_held}
use Rattle.image.specs.Image.{tool_from}
use Rattle.image.proofs.Table.{table_same}
use Rattle.image.proofs.Laid.{ports_long, carriers_long}
use Rattle.follow.specs.Follow.{KeptOutside, entries_from}
use Rattle.maps.specs.Expected.{no_map, is_none}
use Rattle.maps.specs.State as maps
use Rattle.maps.specs.Sound as maps-sound
use Rattle.mapped.specs.Bytes.{maps_from, own_in, mapped_in}
use Rattle.mapped.proofs.Carried.{base_is_sound}
use Rattle.mapped.proofs.InBytes.{maps_held}
use Rattle.queue.specs.Requests.{no_request}
use Rattle.queue.specs.State.{state_of}
use Rattle.queue.specs.Sound.{sound, sound_tool}
use Rattle.queue.proofs.SoundTools.{tool_sound}
use Rattle.queue.proofs.Passed.{few_waiting, used_long, queue_held}
use Rattle.line.specs.Bytes.{waiting_in, queue_from, queue_of, Holds}
use Rattle.line.proofs.Laid.{queue_long}
use Rattle.line.proofs.Changed.{kept_wider, queue_stays}
use Rattle.queued.specs.Bytes.{queued_in}

-- ── What stays of the second block ──
pub maps_stay : {e : ℕ} {m n : List ℕ} → KeptOutside 900 e m n → maps_from n ≡ maps_from m
unfolding entries_from
maps_stay k = table_same 36 _ _ (λ j h. table_same 25 _ _ (λ i l. k.before _ (omega arith)))

pub waiting_kept : {m n : List ℕ} → KeptOutside 0 900 m n → waiting_in n ≡ waiting_in m
waiting_kept k = k.after 900 (omega arith)

pub queue_kept : {m n : List ℕ} → KeptOutside 0 900 m n → queue_from n ≡ queue_from m
queue_kept k = queue_stays {o = 0} (kept_wider (omega arith) (omega arith) k)

-- ── Document 01's tool, and P1's, that hold their states ──
pub tool_again : (t : Tool) → Held t → base.in_tool (base.state_of t) ≡ t
unfolding base.in_tool
tool_again t k =
    let u = used_held t k in
    let n = count_held t k in
    let a = k.few_ports in
    let b = k.few_carriers in
    rw (
      take_all 4 (take t.used t.ports) (omega arith),
      take_all 36 (take t.count t.carriers) (omega arith),
      u,
      n,
      ← k.ports,
      ← k.carriers,
    )

module _ (m : List (List ℕ)) (h : sound_tool (queued_in m) ≡ true) where
  abbrev pub tool : Tool
  tool = tool_from (get_or m 0 [])

  abbrev own : List ℕ
  own = own_in m

  pub mapped_sound : maps-sound.sound_tool (mapped_in m) ≡ true
  unfolding sound_tool
  mapped_sound = and_l _ _ (and_l _ _ (and_l _ _ h))

  pub base_is : base_sound.sound_tool tool ≡ true
  base_is = base_is_sound tool own mapped_sound

  pub held : Held tool
  held = sound_held tool (ports_long (get_or m 0 [])) (carriers_long (get_or m 0 [])) base_is

  none_past : every is_none (drop tool.count (maps_from own)) ≡ true
  unfolding maps-sound.sound_tool
  none_past = and_l _ _ (and_r (base_sound.sound_tool tool) _ mapped_sound)

  pub maps_again : fill 36 no_map (take tool.count (maps_from own)) ≡ maps_from own
  maps_again = sym (maps_held own tool.count none_past)

  pub mapped_again : maps.in_tool (maps.state_of (mapped_in m)) ≡ mapped_in m
  unfolding maps.in_tool
  mapped_again = rw (tool_again tool held, maps_again)

  pub count_is : length (base.state_of tool).carriers ≡ tool.count
  count_is = count_held tool held

  -- ── The queue ──
  pub few : waiting_in own ≤ 16
  few = few_waiting (queued_in m) h (queue_long own)

  pub holds : Holds own (queue_of own)
  holds = record {
    waiting = sym (used_long (queued_in m) h (queue_long own));
    queue = sym (queue_held (queued_in m) h (queue_long own));
  }

  pub state_sound : sound (state_of (queued_in m)) ≡ true
  state_sound = tool_sound (queued_in m) h

  -- the same queue in another block whose bytes from the queue on are as they were
  module _ (n : List ℕ) (k : KeptOutside 0 900 own n) where
    pub same_queue : queue_of n ≡ queue_of own
    same_queue = rw (waiting_kept k, queue_kept k)

    pub holds_kept : Holds n (queue_of n)
    holds_kept = record {
      waiting = waiting_kept k ∙ holds.waiting ∙ ap length (sym same_queue);
      queue = queue_kept k ∙ holds.queue ∙ ap (fill 16 no_request) (sym same_queue);
    }
