use Rattle.maps.proofs.Amended.{amended_judge}
use Rattle.mapped.proofs.amended.amended_answer.Goals as goal

pub returns-then-carries-c : goal.returns-then-carries-c
returns-then-carries-c c =
    let a = c.args in
    rw (← c.carries.ensures, c.if-carries-c.true) at (amended_judge a.number a.x a.c)

pub returns-else-carries-c : goal.returns-else-carries-c
returns-else-carries-c c =
    let a = c.args in
    rw c.answer_of.ensures (rw (← c.carries.ensures, c.if-carries-c.false) at (amended_judge a.number a.x a.c))
