-- The cases are what the tables say.
use mathlib.Core.Path.{◌≡◌, refl}
use mathlib.Core.Bool.{true}
use Rattle.lists.specs.Lists.{every, any}
use Rattle.items.specs.Formats.{size_of, is_number, holds_one, uneven}
use Rattle.items.specs.Tree.{gathered, single}
use Rattle.items.specs.Heads.{number_at, head_at, lowest, refusal_of}
use Rattle.items.specs.Reading.{read_many, read_body, read_by, read_item, read_message}
use Rattle.items.specs.Cases.{cases, shown, repeated, formats, accepted, below, codes, known, unknown_else, sent, sent_tree}

pub record EachCase : Type 0 where
  pub messages : every shown cases ≡ true
  pub accepts : every accepted formats ≡ true
  pub refuses : every unknown_else codes ≡ true
  pub tree : (read_message sent).found ≡ sent_tree

pub each_case : EachCase
unfolding every any size_of is_number holds_one uneven gathered single number_at head_at lowest refusal_of read_many read_body read_by read_item
    shown repeated accepted below known unknown_else
each_case = record { messages = refl; accepts = refl; refuses = refl; tree = refl }
