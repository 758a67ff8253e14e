-- What was read off the tables is what the lists have.
use Rattle.std.proofs.Common.{rules}
use mathlib.Core.Path.{◌≡◌, ◌∙◌}
use Rattle.lists.specs.Lists.{between}
use Rattle.rules.specs.Seen.{input_in}
use Rattle.image.specs.Image.{tool_from}
use Rattle.sight.proofs.Tables.{seen_made}
use Rattle.sight.proofs.look.look.Goals as goal

pub returns : goal.returns
returns c =
    let h : c.contains.result ≡ between 1 c.narrow-port.result c.used.result = search rules in
    seen_made (tool_from c.args.m.now) c.requires (input_in c.args.i) _ _ _ _ _ _ _ _ _ _ _ _ _ _
    c.narrow-port.ensures c.narrow-value.ensures c.in_bytes-name.ensures c.pass.ensures
    (c.from-count.ensures ∙ c.count.ensures) c.in_map.ensures c.places.ensures c.used.ensures h
    c.is_name.ensures c.is_empty.ensures c.is_map.ensures c.port_at.ensures c.port_at-2.ensures
