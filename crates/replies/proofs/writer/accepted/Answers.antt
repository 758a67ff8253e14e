use Rattle.replies.proofs.Spelt.{accepted_text}
use Rattle.replies.proofs.Lent.{too_small_fact, one_part}
use Rattle.replies.proofs.writer.accepted.Goals as goal

pub returns-then-room-lt-ACCEPTED_BYTES : goal.returns-then-room-lt-ACCEPTED_BYTES
returns-then-room-lt-ACCEPTED_BYTES c = rw accepted_text (too_small_fact c.args.room.now _ c.if-room-lt-ACCEPTED_BYTES.true)

pub returns : goal.returns
returns c =
    rw (accepted_text, c.put.ensures) (one_part c.args.room.now _ c.if-room-lt-ACCEPTED_BYTES.false)
