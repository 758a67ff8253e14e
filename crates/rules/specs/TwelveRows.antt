-- Document 01's run to check by hand: P = 2, B = 0.
use Rattle.std.specs.Prelude.{ℕ, List, [], ◌∷◌, replicate}
use Rattle.rules.specs.State.{State, start}
use Rattle.rules.specs.Run.{Line, row, on_port, on_name}

abbrev AB : List ℕ
AB = 0x41 ∷ 0x42 ∷ []

abbrev Ac : List ℕ
Ac = 0x41 ∷ 0x43 ∷ []

abbrev pub two_ports : State
two_ports = start 2 0

abbrev pub twelve : List Line
twelve =
    row 1 1 0 AB [] 0 (on_port 3 1 0 1 ∷ on_port 4 1 0 1 ∷ on_name 5 AB 0 1 ∷ on_name 6 AB 0 1 ∷ on_name 7 AB 0 1 ∷ [])
    ∷ row 13 1 0 [] [] 0 (on_port 1 1 1 3 ∷ on_port 3 1 1 0 ∷ [])
    ∷ row 14 1 0 [] [] 0 []
    ∷ row 16 1 0 Ac [] 0
    (on_port 4 1 1 1 ∷ on_name 5 AB 1 0 ∷ on_name 5 Ac 0 2 ∷ on_name 6 AB 1 0 ∷ on_name 6 Ac 0 1 ∷ on_name 7 AB 1 0 ∷ on_name 7 Ac 0 1 ∷ [])
    ∷ row 19 0 0 Ac [] 7 []
    ∷ row 5 0 0 Ac [] 0 (on_name 5 Ac 2 3 ∷ [])
    ∷ row 19 0 0 Ac [] 0 []
    ∷ row 20 0 0 Ac (replicate 25 3) 0 (on_name 6 Ac 1 2 ∷ [])
    ∷ row 21 0 0 Ac [] 7 []
    ∷ row 5 0 0 Ac [] 0 (on_name 6 Ac 2 3 ∷ [])
    ∷ row 21 0 0 Ac [] 0 (on_name 7 Ac 1 2 ∷ [])
    ∷ row 6 0 0 Ac [] 5 []
    ∷ []
