-- The registers that commands name.
use Rattle.std.specs.Prelude.{◌<◌, ℕ}
use Rattle.mf_text.specs.declared.command.Command.{Command}
use Rattle.mf_text.specs.declared.command.Command.TheVariants.{Contour, Also, Cull, Clear, Shift, Scale, Quarter, Total, Show, Proof, Ship}
use Rattle.mf_text.specs.Grammar.{Name, Current, Register, Source, Null, Named}

-- how many registers there are: one for each letter
abbrev pub register_count : ℕ
register_count = 26

-- the name is `currentpicture` or one of the registers
abbrev pub IsName : Name → Type 0
IsName Current = Unit {0}
IsName (Register letter) = letter < register_count

-- the source is `nullpicture` or has such a name
abbrev pub IsSource : Source → Type 0
IsSource Null = Unit {0}
IsSource (Named name) = IsName name

-- each register that a command names is there
abbrev pub HasNames : Command → Type 0
HasNames (Contour name cycle weight) = IsName name
HasNames (Also name source sign) = IsName name × IsSource source
HasNames (Cull name cull) = IsName name
HasNames (Clear name) = IsName name
HasNames (Shift name dx dy) = IsName name
HasNames (Scale name factors) = IsName name
HasNames (Quarter name quarter) = IsName name
HasNames (Total source) = IsSource source
HasNames (Show source) = IsSource source
HasNames (Proof source) = IsSource source
HasNames (Ship source code dx width) = IsSource source
HasNames command = Unit {0}
