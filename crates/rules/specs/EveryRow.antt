-- Each of the 26 rows, accepted at least once: P = 2, B = 2. The same run is played in tests/cli/every_row.script.
use Rattle.std.specs.Prelude.{ℕ, List, [], ◌∷◌, ◌++◌, replicate}
use Rattle.records.specs.Names.{in_bytes}
use Rattle.records.specs.Ports.{new_port}
use Rattle.rules.specs.State.{State, start}
use Rattle.rules.specs.Run.{Line, row, on_port, on_name}

abbrev AA : List ℕ
AA = 0x41 ∷ 0x41 ∷ []

abbrev AB : List ℕ
AB = 0x41 ∷ 0x42 ∷ []

abbrev Ac : List ℕ
Ac = 0x41 ∷ 0x43 ∷ []

abbrev map : List ℕ
map = replicate 24 3 ++ (5 ∷ [])

abbrev pub set_up_so : State
set_up_so = start 2 2

abbrev pub every_row : List Line
every_row =
    row 1 1 0 AA [] 0 (on_port 3 1 0 1 ∷ on_port 4 1 0 1 ∷ on_name 5 AA 0 1 ∷ on_name 6 AA 0 1 ∷ on_name 7 AA 0 1 ∷ [])
    ∷ row 2 1 0 [] [] 0 (on_port 3 1 1 0 ∷ on_port 4 1 1 0 ∷ on_name 5 AA 1 0 ∷ on_name 6 AA 1 0 ∷ on_name 7 AA 1 0 ∷ [])
    ∷ row 3 0 0 AA [] 0 (on_name 5 AA 0 1 ∷ on_name 6 AA 0 1 ∷ on_name 7 AA 0 1 ∷ [])
    ∷ row 4 0 0 AA [] 0 (on_name 5 AA 1 0 ∷ on_name 6 AA 1 0 ∷ on_name 7 AA 1 0 ∷ [])
    ∷ row 9 1 1 [] [] 0 (on_port 2 1 0 1 ∷ [])
    ∷ row 10 2 0 [] [] 0 (on_port 1 2 1 0 ∷ [])
    ∷ row 10 2 1 [] [] 0 (on_port 1 2 0 1 ∷ [])
    ∷ row 11 2 0 [] [] 0 (on_port 3 2 0 1 ∷ [])
    ∷ row 12 2 0 [] [] 0 (on_port 3 2 1 0 ∷ [])
    ∷ row 13 1 0 [] [] 0 (on_port 1 1 1 3 ∷ [])
    ∷ row 15 1 0 [] [] 0 (on_port 1 1 3 1 ∷ [])
    ∷ row 13 1 0 [] [] 0 (on_port 1 1 1 3 ∷ [])
    ∷ row 14 1 0 [] [] 0 []
    ∷ row 16 1 0 AB [] 0 (on_port 4 1 0 1 ∷ on_name 5 AB 0 2 ∷ on_name 6 AB 0 1 ∷ on_name 7 AB 0 1 ∷ [])
    ∷ row 5 0 0 AB [] 0 (on_name 5 AB 2 3 ∷ [])
    ∷ row 18 1 2 [] [] 0 (on_port 1 1 3 1 ∷ on_port 4 1 1 0 ∷ [])
    ∷ row 19 0 0 AB [] 0 []
    ∷ row 20 0 0 AB map 0 (on_name 6 AB 1 2 ∷ [])
    ∷ row 5 0 0 AB [] 0 (on_name 6 AB 2 3 ∷ [])
    ∷ row 21 0 0 AB [] 0 (on_name 7 AB 1 2 ∷ [])
    ∷ row 22 0 1 AB [] 0 (on_name 7 AB 2 4 ∷ [])
    ∷ row 23 0 0 AB [] 0 []
    ∷ row 7 2 0 AB [] 0 (on_port 1 2 1 2 ∷ on_port 4 2 0 1 ∷ [])
    ∷ row 8 0 0 AB [] 0 (on_port 1 2 2 3 ∷ [])
    ∷ row 6 0 0 AB [] 0 (on_port 1 2 3 2 ∷ [])
    ∷ row 24 2 0 [] [] 0 (on_port 1 2 2 3 ∷ [])
    ∷ row 26 2 0 [] [] 0 (on_port 1 2 3 2 ∷ [])
    ∷ row 24 2 0 [] [] 0 (on_port 1 2 2 3 ∷ [])
    ∷ row 25 2 0 [] [] 0 (on_port 1 2 3 1 ∷ on_port 4 2 1 0 ∷ on_name 5 AB 3 0 ∷ on_name 6 AB 3 0 ∷ on_name 7 AB 4 0 ∷ [])
    ∷ row 13 1 0 [] [] 0 (on_port 1 1 1 3 ∷ [])
    ∷ row 14 1 0 [] [] 0 []
    ∷ row 17 1 0 [] [] 0 []
    ∷ row 6 1 0 Ac [] 0 (on_port 1 1 3 2 ∷ on_port 4 1 0 1 ∷ on_name 5 Ac 0 4 ∷ on_name 6 Ac 0 1 ∷ on_name 7 Ac 0 1 ∷ [])
    ∷ []

-- the state that it ends in: Ac, cancelled, waits at port 1, which is AUTO, to be unloaded
abbrev pub ended : State
ended = record {
  ports = record { transfer = 2; access = 1; reserved = 0; tie = in_bytes Ac; movement = 0; pod = 1; tag = 2 } ∷ new_port ∷ [];
  carriers = record {
    name = in_bytes Ac;
    place = 1;
    spot = 0;
    port = 1;
    opened = 0;
    cancelled = 1;
    cameout = 0;
    map = replicate 25 0;
    id = 4;
    slot = 1;
    accessing = 1;
  }
      ∷ [];
  places = 2;
}
