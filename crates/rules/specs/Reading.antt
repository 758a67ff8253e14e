-- Rows 16 and 17: the tag of a pod is read, or can't be.
use Rattle.std.specs.Prelude.{ℕ, Bool, not, cond, ◌&&◌, ◌||◌, [], ◌∷◌, eqb}
use Rattle.records.specs.declared.port.Port.{Port}
use Rattle.records.specs.Ports.{has_pod, idle, tag_unread, tag_read, tag_not_read}
use Rattle.records.specs.Carriers.{no_carrier, untied, placed_at}
use Rattle.records.specs.Fields.{with_id}
use Rattle.rules.specs.declared.row.Seen.{Seen}
use Rattle.rules.specs.Row.{Row, when, unless, on_both, other_port, placed, found_or_new}

-- pod present, idle, tag unread
abbrev pub readable : Port → Bool
readable q = has_pod q && idle q && tag_unread q

-- the name's record is placed anywhere, or tied to another port
unfoldable pub elsewhere : Seen → Bool
elsewhere x = placed x || (x.known && not (untied x.found) && other_port x x.found)

-- the port is tied to this name, or has no tie and the name is expected
unfoldable pub matching : Seen → Bool
matching x = x.known && (eqb x.holds x.stands || not x.tied)

-- where the record of another name stands that the port is tied to; the number of records where there is none
unfoldable pub displaced : Seen → ℕ
displaced x = cond (eqb x.holds x.stands) x.count x.holds

-- 16. IdRead(port, name). 3 if the name's record is placed anywhere, or tied to another port; 5 unless pod present, idle, tag
-- unread. Tag read. Tied to this name, or no tie and the name expected: ID OK (a matching read, the only kind). No tie and no
-- record: new record, ID 2. Tied to another name: that record goes; the read name's record (new, or the expected one) takes
-- the tie with ID 2. In every case placed at and tied to the port.
abbrev pub id_read : Seen → Row
id_read x = record {
  grounds = unless x.isport 1 ∷ unless x.named 1 ∷ when (elsewhere x) 3 ∷ unless (readable x.here) 5 ∷ [];
  effect = record {
    port = x.port;
    becomes = tag_read x.name x.here;
    goes = displaced x;
    changes = x.stands;
    next = with_id (cond (matching x) 3 2) (placed_at x.port (found_or_new x));
    made = not x.known;
  };
}

-- 17. IdReadFailed(port). 5 as row 16. Tag failed; a tied carrier is placed at the port with ID 2.
abbrev pub id_read_failed : Seen → Row
id_read_failed x = record {
  grounds = unless x.isport 1 ∷ unless (readable x.here) 5 ∷ [];
  effect = on_both x.count x.port (tag_not_read x.here) x.holds
      (cond x.tied (with_id 2 (placed_at x.port x.held)) no_carrier);
}
