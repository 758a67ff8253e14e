use Rattle.std.proofs.Common.{◌+◌, ◌∙◌}
use Rattle.image.specs.Image.{byte_at}
use Rattle.passes.proofs.Marks.{word_read}
use Rattle.passes.proofs.names.word.Goals as goal

pub returns-clause-value : goal.returns-clause-value
returns-clause-value c =
    rw c.bytes_from.ensures at c.from_le_bytes.ensures ∙ word_read (λ i. byte_at c.args.m.now (c.args.o + i))
