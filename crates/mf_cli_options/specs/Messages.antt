-- The messages of the programs.
use Rattle.std.specs.Prelude.{ℕ, List, ◌++◌, None, Option, Some, codes, decimal}

-- what follows the name of a fault: its number, if it has one, and a line feed
abbrev pub fault_end : Option ℕ → List ℕ
fault_end None = codes "\n"
fault_end (Some number) = codes " " ++ decimal number ++ codes "\n"

-- the message of a fault: the names of the program and of the fault, and the number of the fault if it has one
abbrev pub fault_message : List ℕ → List ℕ → Option ℕ → List ℕ
fault_message program name number = program ++ (codes ": " ++ (name ++ fault_end number))
