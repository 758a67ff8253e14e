-- What a verdict means, in terms of demand 2's runs.
use Rattle.std.specs.Prelude.{ℕ, ◌+◌, ◌≤◌, ◌<◌, ◌≡◌, ◌≢◌, Bool, true, false, cond, List, ◌++◌, length, get_or, take, drop, ltb}
use Rattle.lists.specs.Lists.{every, between}
use Rattle.rules.specs.State.{start, set_up}
use Rattle.rules.specs.Seen.{Input}
use Rattle.rules.specs.Run.{Line, line_of, run}
use Rattle.image.specs.Image.{byte_at}
use Rattle.logs.specs.Layout.{exactly, head, input_in, entry_size, shown_in}
use Rattle.logs.specs.Written.{shown, fits, log_of}
use Rattle.logs.specs.Judging.{judge}

-- A file is the log of a run: document 01 accepts the set-up, and each input has 25 codes if it is row 20's, else none.
pub record LogOf (P B : ℕ) (inputs : List Input) (file : List ℕ) : Type 0 where
  pub accepted : (set_up P B).answer ≡ 0
  pub fit : every fits inputs ≡ true
  pub bytes : file ≡ log_of P B inputs

-- A file has bytes alone, and so have its inputs: numbers, and a name's length and bytes, are below 256.
abbrev pub in_bytes : List ℕ → Bool
in_bytes l = every (λ b. ltb b 256) l

-- ── 0: the file is the log of a run, of as many inputs as it has entries; all of it was read ──
pub record Agrees (file : List ℕ) : Type 0 where
  pub P : ℕ
  pub B : ℕ
  pub inputs : List Input
  pub log : LogOf P B inputs file
  pub counted : (judge file).entry ≡ length inputs
  pub read : (judge file).at ≡ length file

-- ── 1 and 29: up to where the judging ended the file is the log of a run, of as many inputs as entries agree ──
pub record Before (P B : ℕ) (inputs : List Input) (file : List ℕ) : Type 0 where
  pub log : LogOf P B inputs (take (judge file).at file)
  pub counted : (judge file).entry ≡ length inputs

-- the entry where it ended
abbrev pub entry_there : List ℕ → List ℕ
entry_there file = drop (judge file).at file

-- what demand 2 gives for that entry's input after the run
abbrev pub line_there : ℕ → ℕ → List Input → List ℕ → Line
line_there P B inputs file = line_of (run (start P B) inputs) (input_in (entry_there file))

-- 1: the entry there is whole, and shows something else. With anything after that entry the same is said.
pub record Disagrees (file : List ℕ) : Type 0 where
  pub P : ℕ
  pub B : ℕ
  pub inputs : List Input
  pub before : Before P B inputs file
  pub whole : (judge file).at + entry_size (entry_there file) ≤ length file
  pub differs : shown_in (entry_there file) ≢ shown (line_there P B inputs file).answer (line_there P B inputs file).reports
  pub follows : (other : List ℕ) → judge (take ((judge file).at + entry_size (entry_there file)) file ++ other) ≡ judge file

-- 29: an entry has begun there, and the file ends before it does
pub record CutShort (file : List ℕ) : Type 0 where
  pub P : ℕ
  pub B : ℕ
  pub inputs : List Input
  pub before : Before P B inputs file
  pub begun : (judge file).at < length file
  pub short : length file < (judge file).at + entry_size (entry_there file)

-- ── 27, 28 and 29: the head ──
-- the byte at k is as the head wants it
abbrev pub as_wanted : List ℕ → ℕ → Bool
as_wanted file k = let p = get_or head k (exactly 0) in between p.least (byte_at file k) p.greatest

-- No entry was read; the bytes before the one where it ended are as wanted. 27 is said of one of the first five, 28 of P and B.
pub record HeadWrong (file : List ℕ) : Type 0 where
  pub none : (judge file).entry ≡ 0
  pub before : (k : ℕ) → k < (judge file).at → as_wanted file k ≡ true
  pub in_head : (judge file).at < 7
  pub there : (judge file).at < length file
  pub wrong : as_wanted file (judge file).at ≡ false
  pub number : (judge file).says ≡ cond (ltb (judge file).at 5) 27 28

pub record HeadCutShort (file : List ℕ) : Type 0 where
  pub none : (judge file).entry ≡ 0
  pub before : (k : ℕ) → k < (judge file).at → as_wanted file k ≡ true
  pub in_head : (judge file).at < 7
  pub ends : length file ≡ (judge file).at

-- ── Nothing else is ever said ──
pub data Said (file : List ℕ) : Type 0 where
  agrees : (judge file).says ≡ 0 → Agrees file → Said file
  disagrees : (judge file).says ≡ 1 → Disagrees file → Said file
  cut_short : (judge file).says ≡ 29 → CutShort file → Said file
  head_wrong : HeadWrong file → Said file
  head_cut_short : (judge file).says ≡ 29 → HeadCutShort file → Said file
