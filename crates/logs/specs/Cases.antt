-- The definition by cases: for each clause of the request a log that meets it, and one beside it that doesn't.
use Rattle.std.specs.Prelude.{ℕ, zero, suc, Bool, ◌&&◌, List, [], ◌∷◌, ◌++◌, length, replicate, take, eqb}
use Rattle.rules.specs.TwelveRows.{twelve}
use Rattle.logs.specs.Written.{entries, head_of}
use Rattle.logs.specs.Judging.{judge}

-- A log, what is said of it, how many entries agree, and where the judging ended.
pub record Case : Type 0 where
  pub log : List ℕ
  pub says : ℕ
  pub entry : ℕ
  pub at : ℕ

abbrev case : ℕ → ℕ → ℕ → List ℕ → Case
case says entry at log = record { log = log; says = says; entry = entry; at = at }

unfoldable pub holds : Case → Bool
holds c = let j = judge c.log in eqb j.says c.says && eqb j.entry c.entry && eqb j.at c.at

unfoldable pub repeated : ℕ → List ℕ → List ℕ
repeated zero l = []
repeated (suc n) l = l ++ repeated n l

-- ── Entries of a tool with two ports and no buffer ──
abbrev log : List ℕ → List ℕ
log l = head_of 2 0 ++ l

abbrev AB : List ℕ
AB = 0x41 ∷ 0x42 ∷ []

-- LoadStart(1): 1 1 1>3, and the same with another answer, count, model, subject, old or new
abbrev start : ℕ → ℕ → ℕ → ℕ → ℕ → ℕ → List ℕ
start answer count model subject old new =
    13 ∷ 1 ∷ 0 ∷ 0 ∷ answer ∷ count ∷ model ∷ subject ∷ old ∷ new ∷ []

abbrev started : List ℕ
started = start 0 1 1 1 1 3

-- the same once more: 5
abbrev again : List ℕ
again = 13 ∷ 1 ∷ 0 ∷ 0 ∷ 5 ∷ 0 ∷ []

-- CarrierNotification(AB): 5, 6 and 7 AB 0>1
abbrev told : ℕ → List ℕ → List ℕ
told model name = model ∷ length name ∷ name ++ 0 ∷ 1 ∷ []

abbrev notified : List ℕ → List ℕ
notified name = 3 ∷ 0 ∷ 0 ∷ 2 ∷ AB ++ 0 ∷ 3 ∷ told 5 name ++ told 6 name ++ told 7 name

-- an input that only its number, port, second number and name tell from others, refused
abbrev refused : ℕ → ℕ → ℕ → List ℕ → ℕ → List ℕ
refused number port value name answer = number ∷ port ∷ value ∷ length name ∷ name ++ answer ∷ 0 ∷ []

abbrev pub cases : List Case
cases =
    -- 27: the mark and the version, byte by byte; 29 where the file ends first
    case 29 0 0 []
    ∷ case 27 0 0 (0x63 ∷ [])
    ∷ case 29 0 1 (0x43 ∷ [])
    ∷ case 27 0 1 (0x43 ∷ 0x58 ∷ [])
    ∷ case 29 0 2 (0x43 ∷ 0x4D ∷ [])
    ∷ case 27 0 2 (0x43 ∷ 0x4D ∷ 0x53 ∷ [])
    ∷ case 29 0 3 (0x43 ∷ 0x4D ∷ 0x54 ∷ [])
    ∷ case 27 0 3 (0x43 ∷ 0x4D ∷ 0x54 ∷ 1 ∷ 0 ∷ 1 ∷ 0 ∷ [])
    ∷ case 29 0 4 (0x43 ∷ 0x4D ∷ 0x54 ∷ 0 ∷ [])
    ∷ case 27 0 4 (0x43 ∷ 0x4D ∷ 0x54 ∷ 0 ∷ 0 ∷ 1 ∷ 0 ∷ [])
    ∷ case 27 0 4 (0x43 ∷ 0x4D ∷ 0x54 ∷ 0 ∷ 2 ∷ 0 ∷ [])
    -- 28: P of 1 to 4, and B of 0 to 16; a wrong P is met before a missing B
    ∷ case 29 0 5 (0x43 ∷ 0x4D ∷ 0x54 ∷ 0 ∷ 1 ∷ [])
    ∷ case 28 0 5 (0x43 ∷ 0x4D ∷ 0x54 ∷ 0 ∷ 1 ∷ 0 ∷ [])
    ∷ case 28 0 5 (head_of 5 0)
    ∷ case 28 0 5 (head_of 0 17)
    ∷ case 29 0 6 (0x43 ∷ 0x4D ∷ 0x54 ∷ 0 ∷ 1 ∷ 4 ∷ [])
    ∷ case 28 0 6 (head_of 4 17)
    -- no entries
    ∷ case 0 0 7 (head_of 4 16)
    ∷ case 0 0 7 (head_of 1 0)
    -- document 01's run to check by hand
    ∷ case 0 12 222 (log (entries twelve))
    -- each part of what is shown
    ∷ case 0 1 17 (log started)
    ∷ case 1 0 7 (log (start 5 1 1 1 1 3))
    ∷ case 1 0 7 (log (start 0 1 2 1 1 3))
    ∷ case 1 0 7 (log (start 0 1 1 2 1 3))
    ∷ case 1 0 7 (log (start 0 1 1 1 0 3))
    ∷ case 1 0 7 (log (start 0 1 1 1 1 2))
    -- the second entry is judged by the state that the first leads to
    ∷ case 0 2 23 (log (started ++ again))
    ∷ case 1 1 17 (log (started ++ started))
    -- no more and no fewer reports: none, two, and the seven of the fourth row with one more
    ∷ case 1 0 7 (log (13 ∷ 1 ∷ 0 ∷ 0 ∷ 0 ∷ 0 ∷ []))
    ∷ case 1 0 7 (log (start 0 2 1 1 1 3 ++ 1 ∷ 1 ∷ 1 ∷ 3 ∷ []))
    ∷ case 1 0 7 (log (start 0 0 1 1 1 3))
    -- names: their own length, no byte of another, no zeros after them, of any length up to 255
    ∷ case 0 1 33 (log (notified AB))
    ∷ case 1 0 7 (log (notified (0x41 ∷ 0x43 ∷ [])))
    ∷ case 1 0 7 (log (notified (0x41 ∷ [])))
    ∷ case 1 0 7 (log (notified (AB ++ 0 ∷ [])))
    ∷ case 1 0 7 (log (notified (AB ++ replicate 14 0)))
    ∷ case 1 0 7 (log (notified (replicate 255 0x41)))
    ∷ case 29 0 7 (log (take 700 (notified (replicate 255 0x41))))
    -- a model outside 1 to 7 is read with a port byte, and 5 to 7 with a name: one byte more would be missing, or one is
    ∷ case 1 0 7 (log (start 0 1 0 1 1 3))
    ∷ case 1 0 7 (log (start 0 1 4 1 1 3))
    ∷ case 29 0 7 (log (start 0 1 5 1 1 3))
    ∷ case 1 0 7 (log (start 0 1 5 0 1 3))
    ∷ case 29 0 7 (log (start 0 1 7 1 1 3))
    ∷ case 1 0 7 (log (start 0 1 8 1 1 3))
    ∷ case 1 0 7 (log (start 0 1 255 1 1 3))
    -- 29: an entry is read to its end before it is judged; a report count of 255 is read
    ∷ case 29 1 17 (log (started ++ 13 ∷ []))
    ∷ case 29 1 17 (log (started ++ 13 ∷ 1 ∷ 0 ∷ []))
    ∷ case 29 1 17 (log (started ++ 13 ∷ 1 ∷ 0 ∷ 0 ∷ 5 ∷ []))
    ∷ case 29 0 7 (log (13 ∷ 1 ∷ 0 ∷ 0 ∷ 8 ∷ 1 ∷ 1 ∷ 1 ∷ 1 ∷ []))
    ∷ case 1 0 7 (log (13 ∷ 1 ∷ 0 ∷ 0 ∷ 0 ∷ 255 ∷ repeated 255 (1 ∷ 1 ∷ 1 ∷ 3 ∷ [])))
    ∷ case 29 0 7 (log (13 ∷ 1 ∷ 0 ∷ 0 ∷ 0 ∷ 255 ∷ repeated 254 (1 ∷ 1 ∷ 1 ∷ 3 ∷ [])))
    -- nothing after the first that disagrees is read
    ∷ case 1 1 17 (log (started ++ started ++ again ++ again))
    ∷ case 1 1 17 (log (started ++ started ++ 13 ∷ []))
    -- 25 codes for row 20 only
    ∷ case 0 1 40 (log (20 ∷ 0 ∷ 0 ∷ 2 ∷ AB ++ replicate 25 3 ++ 2 ∷ 0 ∷ []))
    ∷ case 29 0 7 (log (20 ∷ 0 ∷ 0 ∷ 2 ∷ AB ++ replicate 24 3 ++ 2 ∷ 0 ∷ []))
    ∷ case 0 1 15 (log (refused 21 0 0 AB 2))
    ∷ case 29 0 7 (log (refused 20 0 0 AB 2))
    -- input numbers that are no row's, names of 0, 16, 17 and 255 bytes, and document 01's check of them: all answered 1
    ∷ case 0 1 13 (log (refused 0 1 0 [] 1))
    ∷ case 0 1 13 (log (refused 27 1 0 [] 1))
    ∷ case 0 1 13 (log (refused 255 255 255 [] 1))
    ∷ case 0 1 13 (log (refused 4 0 0 [] 1))
    ∷ case 0 1 29 (log (refused 4 0 0 (replicate 16 0x41) 2))
    ∷ case 0 1 30 (log (refused 4 0 0 (replicate 17 0x41) 1))
    ∷ case 0 1 268 (log (refused 4 0 0 (replicate 255 0x41) 1))
    ∷ case 0 1 16 (log (refused 4 0 0 (AB ++ 0x20 ∷ []) 1))
    ∷ case 1 0 7 (log (refused 4 0 0 (AB ++ 0x20 ∷ []) 2))
    ∷ []
