-- The cases are what the tables say.
use mathlib.Core.Path.{◌≡◌, refl}
use mathlib.Core.Bool.{true}
use Rattle.lists.specs.Lists.{every, same_list}
use Rattle.items.specs.Tree.{in_order}
use Rattle.items.specs.Written.{in_bytes, shortest, text}
use Rattle.replies.specs.Texts.{page, ascii, words_in, text_in}
use Rattle.replies.specs.Reply.{acknowledge, code_of, refused_with, reply_to, answer_in, room_after}
use Rattle.replies.specs.Cases.{bytes, got, spellings, written, short, rooms, leaves}

pub record EachCase : Type 0 where
  pub acknowledged : every got bytes ≡ true
  pub spelt : every written spellings ≡ true
  pub words_short : every short page ≡ true
  pub lent : every leaves rooms ≡ true

pub each_case : EachCase
unfolding every same_list in_order in_bytes shortest text ascii words_in text_in acknowledge code_of refused_with reply_to answer_in room_after got
    written short leaves
each_case = record { acknowledged = refl; spelt = refl; words_short = refl; lent = refl }
