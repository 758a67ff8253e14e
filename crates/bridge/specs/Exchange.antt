-- The bridge's whole way: the text of S3F17 in, the text of S3F18 out.
use Rattle.std.specs.Prelude.{ℕ, cond, List}
use Rattle.replies.specs.Reply.{reply_text, too_small}
use Rattle.tool.specs.Whole.{Whole, Outcome, refused}
use Rattle.bridge.specs.Bridge.{bridged}

-- the reply to a message, by its answer
abbrev pub replied : Whole → List ℕ → List ℕ
replied t message = reply_text (bridged t message).answer

-- 14 exactly when the reply is longer than the room: then the tool takes no input, and the message can be sent again.
unfoldable pub exchanged : Whole → List ℕ → List ℕ → Outcome
exchanged t message room = cond (too_small room (replied t message)) (refused t 14) (bridged t message)
