-- The whole tool is all of its bytes: two blocks of 1,891 that are read alike are the same.
use Prim.Native.Nat.{ℕ, ◌+◌, ◌*◌, ◌/◌, ◌%◌, ◌-◌, ◌<◌, ◌≤◌}
use native.Mathlib.Omega.{arith}
use mathlib.Core.Path.{◌≡◌, refl, ap, sym, ◌∙◌}
use mathlib.Core.Bool.{Bool, true, false}
use mathlib.Core.List.{List, [], ◌∷◌}
use lib.ListN.{length, get_or}
use lib.Seq.{ext_get_or}
use lib.Dec.{eqb, ltb}
use borrow.Author.Tests.{eqb-true, eqb-false, ltb-true, ltb-false}
use Rattle.image.specs.Image.{byte_at, bytes_from}
use Rattle.image.proofs.Table.{getD_table}
use Rattle.image.proofs.Only.{each_byte, one_image}
use Rattle.maps.specs.Expected.{no_map}
use Rattle.mapped.specs.Bytes.{maps_from}
use Rattle.mapped.proofs.InBytes.{map_is}
use Rattle.queue.specs.declared.request.Request.{Request}
use Rattle.queue.specs.Requests.{no_request}
use Rattle.line.specs.Bytes.{waiting_in, request_start, request_from, queue_from}
use Rattle.line.proofs.Laid.{request_is}
use Rattle.times.specs.Bytes.{times_from, predictions_from}
use Rattle.times.proofs.Only.{Bytes, times_byte, predictions_byte}
use Rattle.hands.specs.declared.alarm.Alarm.{Alarm}
use Rattle.hands.specs.Alarms.{no_alarm}
use Rattle.handled.specs.Bytes.{alarm_start, alarm_from, alarms_from}
use Rattle.handled.proofs.Laid.{alarm_is}
use Rattle.tool.specs.Whole.{whole_in}

-- a byte of a part that is the same in both
part_byte : (m n : List ℕ) (o w i : ℕ) → bytes_from m o w ≡ bytes_from n o w → i < w → byte_at m (o + i) ≡ byte_at n (o + i)
part_byte m n o w i e h =
    sym (getD_table w (λ i. byte_at m (o + i)) i 0 h) ∙ ap (λ l. get_or l i 0) e ∙ getD_table w (λ i. byte_at n (o + i)) i 0 h

-- a byte of a request
request_byte : (m n : List ℕ) (o i : ℕ) → request_from m o ≡ request_from n o → i < 18 → byte_at m (o + i) ≡ byte_at n (o + i)
request_byte m n o i e h = go (ltb i 16) refl (eqb i 16) refl
  where
    go : (b : Bool) → ltb i 16 ≡ b → (c : Bool) → eqb i 16 ≡ c → byte_at m (o + i) ≡ byte_at n (o + i)
    go true l c d = part_byte m n o 16 i (ap (λ (r : Request). r.name.bytes) e) (ltb-true i 16 l)
    go false l true d = rw (eqb-true i 16 d) (ap (λ (r : Request). r.port) e)
    go false l false d =
        let a = ltb-false i 16 l in
        let b = eqb-false i 16 d in
        let z : i ≡ 17 = omega (arith, b) in
        rw z (ap (λ (r : Request). r.started) e)

module _ (m n : List ℕ) (f : Bytes m) (g : Bytes n) (p : maps_from m ≡ maps_from n) (w : waiting_in m ≡ waiting_in n)
    (r : queue_from m ≡ queue_from n) (t : times_from m ≡ times_from n) (k : predictions_from m ≡ predictions_from n)
    (v : alarms_from m ≡ alarms_from n) (q : bytes_from m 1605 286 ≡ bytes_from n 1605 286) where
  map_byte : (i : ℕ) → i < 900 → byte_at m i ≡ byte_at n i
  map_byte i h =
      let k = i / 25 in
      let z : 25 * k + i % 25 ≡ i = omega arith in
      let b : k < 36 = omega arith in
      let r : i % 25 < 25 = omega arith in
      let e = sym (map_is m k b) ∙ ap (λ l. get_or l k no_map) p ∙ map_is n k b in
      rw z at (part_byte m n (25 * k) 25 (i % 25) e r)

  queue_byte : (i : ℕ) → 901 ≤ i → i < 1189 → byte_at m i ≡ byte_at n i
  queue_byte i l h =
      let j = i - 901 in
      let k = j / 18 in
      let z : request_start k + j % 18 ≡ i = omega arith in
      let b : k < 16 = omega arith in
      let t : j % 18 < 18 = omega arith in
      let e = sym (request_is m k b) ∙ ap (λ q. get_or q k no_request) r ∙ request_is n k b in
      rw z at (request_byte m n (request_start k) (j % 18) e t)

  alarm_byte : (i : ℕ) → 1597 ≤ i → i < 1605 → byte_at m i ≡ byte_at n i
  alarm_byte i h l =
      let j = i - 1597 in
      let k = j / 2 in
      let b : k < 4 = omega arith in
      let e = sym (alarm_is m k b) ∙ ap (λ l. get_or l k no_alarm) v ∙ alarm_is n k b in
      go (eqb (j % 2) 0) refl e
    where
      go : (w : Bool) → eqb ((i - 1597) % 2) 0 ≡ w → alarm_from m (alarm_start ((i - 1597) / 2)) ≡ alarm_from n (alarm_start ((i - 1597) / 2))
          → byte_at m i ≡ byte_at n i
      go true d e =
          let c = eqb-true ((i - 1597) % 2) 0 d in
          let z : alarm_start ((i - 1597) / 2) ≡ i = omega arith in
          rw z at (ap (λ (a : Alarm). a.on) e)
      go false d e =
          let c = eqb-false ((i - 1597) % 2) 0 d in
          let z : alarm_start ((i - 1597) / 2) + 1 ≡ i = omega (arith, c) in
          rw z at (ap (λ (a : Alarm). a.held) e)

  unused_byte : (i : ℕ) → 1605 ≤ i → i < 1891 → byte_at m i ≡ byte_at n i
  unused_byte i h l =
      let z : 1605 + (i - 1605) ≡ i = omega arith in
      rw z at (part_byte m n 1605 286 (i - 1605) q (omega arith))

  last_byte : (i : ℕ) → 1597 ≤ i → i < 1891 → byte_at m i ≡ byte_at n i
  last_byte i h l = go (ltb i 1605) refl
    where
      go : (b : Bool) → ltb i 1605 ≡ b → byte_at m i ≡ byte_at n i
      go true e = alarm_byte i h (ltb-true i 1605 e)
      go false e = unused_byte i (ltb-false i 1605 e) l

  rest_byte : (i : ℕ) → 1189 ≤ i → i < 1891 → byte_at m i ≡ byte_at n i
  rest_byte i h l = go (ltb i 1201) refl (ltb i 1597) refl
    where
      go : (b : Bool) → ltb i 1201 ≡ b → (c : Bool) → ltb i 1597 ≡ c → byte_at m i ≡ byte_at n i
      go true e c d = times_byte m n f g t i h (ltb-true i 1201 e)
      go false e true d = predictions_byte m n f g k i (ltb-false i 1201 e) (ltb-true i 1597 d)
      go false e false d = last_byte i (ltb-false i 1597 d) l

  after_maps : (i : ℕ) → 900 ≤ i → i < 1891 → byte_at m i ≡ byte_at n i
  after_maps i h l = go (ltb i 901) refl (ltb i 1189) refl
    where
      go : (b : Bool) → ltb i 901 ≡ b → (c : Bool) → ltb i 1189 ≡ c → byte_at m i ≡ byte_at n i
      go true e c d = let a = ltb-true i 901 e in let z : i ≡ 900 = omega arith in rw z w
      go false e true d = queue_byte i (ltb-false i 901 e) (ltb-true i 1189 d)
      go false e false d = rest_byte i (ltb-false i 1189 d) l

  pub block_byte : (i : ℕ) → i < 1891 → byte_at m i ≡ byte_at n i
  block_byte i l = go (ltb i 900) refl
    where
      go : (b : Bool) → ltb i 900 ≡ b → byte_at m i ≡ byte_at n i
      go true e = map_byte i (ltb-true i 900 e)
      go false e = after_maps i (ltb-false i 900 e) l

  one_block : length m ≡ 1891 → length n ≡ 1891 → m ≡ n
  one_block a b = ext_get_or 0 m n (a ∙ sym b) (λ i h. block_byte i (omega arith))

pub one_tool : (a b c d : List ℕ) → length a ≡ 1891 → length b ≡ 1891 → length c ≡ 1891 → length d ≡ 1891 → Bytes b → Bytes d
    → whole_in (a ∷ b ∷ []) ≡ whole_in (c ∷ d ∷ []) → ◌≡◌ {A = List (List ℕ)} (a ∷ b ∷ []) (c ∷ d ∷ [])
one_tool a b c d p q r s f g e =
    rw (
      one_image a c (ap (λ t. t.layered.predicted.queued.mapped.base) e) p r,
      one_block b d f g (ap (λ t. t.layered.predicted.queued.mapped.maps) e) (ap (λ t. t.layered.predicted.queued.waiting) e)
          (ap (λ t. t.layered.predicted.queued.queue) e) (ap (λ t. t.layered.predicted.times) e) (ap (λ t. t.layered.predicted.predictions) e) (ap (λ t. t.layered.alarms) e)
          (ap (λ t. t.unused) e) q s,
    )

-- the same in every byte, of any two that are read alike
pub first_bytes : (a b : List (List ℕ)) → whole_in a ≡ whole_in b → (i : ℕ) → i < 1891 → byte_at (get_or a 0 []) i ≡ byte_at (get_or b 0 []) i
first_bytes a b e = each_byte (get_or a 0 []) (get_or b 0 []) (ap (λ t. t.layered.predicted.queued.mapped.base) e)

pub second_bytes : (a b : List (List ℕ)) → Bytes (get_or a 1 []) → Bytes (get_or b 1 []) → whole_in a ≡ whole_in b
    → (i : ℕ) → i < 1891 → byte_at (get_or a 1 []) i ≡ byte_at (get_or b 1 []) i
second_bytes a b f g e =
    block_byte (get_or a 1 []) (get_or b 1 []) f g (ap (λ t. t.layered.predicted.queued.mapped.maps) e) (ap (λ t. t.layered.predicted.queued.waiting) e)
    (ap (λ t. t.layered.predicted.queued.queue) e) (ap (λ t. t.layered.predicted.times) e) (ap (λ t. t.layered.predicted.predictions) e) (ap (λ t. t.layered.alarms) e)
    (ap (λ t. t.unused) e)
