-- The text for each refusal, as docs/REPLIES.md has it: in the words of E87's ErrorCode where it has them.
use Rattle.std.specs.Prelude.{ℕ, cond, List, [], ◌∷◌, ◌++◌, eqb}
use Prim.Native.Char.{code}
use Prim.Native.String.{String}
use Prim.Native.String as string

-- A refusal and its text.
pub record Line : Type 0 where
  pub refusal : ℕ
  pub words : String

infix 30 ◌says◌
abbrev ◌says◌ : ℕ → String → Line
n says words = record { refusal = n; words = words }

-- document 01's
abbrev pub of_rows : List Line
of_rows =
    (1 says "Parameters improperly specified")
    ∷ (2 says "Unknown object instance - Unknown CarrierID")
    ∷ (3 says "Object identifier in use, Duplicate CarrierID")
    ∷ (4 says "Load port already in use: reserved, or associated with a carrier")
    ∷ (5 says "Command not valid for current state")
    ∷ (6 says "Command not valid for current state: 16 carriers are expected already")
    ∷ (7 says "Command not valid for current state: the carrier is not verified")
    ∷ (8 says "Command not valid for current state: buffer place or opener in use")
    ∷ []

-- the requests'
abbrev pub of_requests : List Line
of_requests =
    (9 says "Command not valid for current state: the CarrierOut queue is full")
    ∷ (10 says "Command not valid for current state: CarrierOut is queued already")
    ∷ (11 says "Parameters improperly specified: a clock earlier than the last accepted")
    ∷ (12 says "Parameters improperly specified: a time out of range")
    ∷ (13 says "Command not valid for current state: automatic transfer in MANUAL mode")
    ∷ (14 says "Room lent for the reply is too small")
    ∷ []

-- the reader's, of a message
abbrev pub of_messages : List Line
of_messages =
    (20 says "Message cut short")
    ∷ (21 says "Unknown item format code")
    ∷ (22 says "No length byte, or a length no multiple of the element size")
    ∷ (23 says "Lists nested too deep")
    ∷ (24 says "Too many items")
    ∷ (25 says "Bytes left over after the message")
    ∷ (26 says "Unsupported option [service] requested, or a message of another shape")
    ∷ []

-- the checker's, of a log
abbrev pub of_logs : List Line
of_logs =
    (27 says "Log: another mark or version")
    ∷ (28 says "Log: set-up out of range")
    ∷ (29 says "Log: cut short")
    ∷ []

abbrev pub page : List Line
page = of_rows ++ (of_requests ++ (of_messages ++ of_logs))

-- for numbers without a refusal of their own
abbrev pub other : String
other = "Unknown refusal"

unfoldable pub words_in : List Line → ℕ → String
words_in [] n = other
words_in (l ∷ rest) n = cond (eqb n l.refusal) l.words (words_in rest n)

-- each character by its number
unfoldable pub ascii : String → List ℕ
ascii string.[] = []
ascii (string.◌∷◌ c rest) = code c ∷ ascii rest

unfoldable pub text_in : List Line → ℕ → List ℕ
text_in lines n = ascii (words_in lines n)

abbrev pub text_for : ℕ → List ℕ
text_for n = text_in page n
