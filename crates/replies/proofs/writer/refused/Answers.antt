use Rattle.replies.proofs.Lent.{refused_small, refused_writes}
use Rattle.replies.proofs.writer.refused.Goals as goal

pub returns-then-room-n : goal.returns-then-room-n
returns-then-room-n c =
    refused_small c.args.room.now c.args.number c.args.words.now c.requires c.if-room-n.true

pub returns : goal.returns
returns c =
    rw (c.put-2.ensures, c.put.ensures)
    (refused_writes c.args.room.now c.args.number c.args.words.now c.requires c.head_of.result
    c.head_of.ensures c.if-room-n.false)
