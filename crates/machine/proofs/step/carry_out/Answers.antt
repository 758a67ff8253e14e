use Rattle.machine.proofs.step.carry_out.Goals as goal

pub returns : goal.returns
returns c =
    record { m_after = c.apply.ensures; o_after = rw (c.told.ensures, c.port_at-here.ensures, c.record_at-was.ensures, c.record_at-gone.ensures) }
