-- What has been written where the program ends with a fault.
use Rattle.std.specs.Prelude.{◌≡◌, ◌⊎◌, ◌<◌, ℕ, List, None, Option, Some, IsSome, length}
use Rattle.mf_desk.specs.Performances.{TellsOfRun}
use Rattle.mf_desk.specs.Streams.{Passes, Streams}
use Rattle.mf_desk.specs.declared.fault.RunFault.{RunFault}
use Rattle.mf_desk.specs.declared.fault.RunFault.TheVariants.{WriteFault}
use Rattle.mf_cli.specs.declared.fault.ProgramFault.{ProgramFault}
use Rattle.mf_cli.specs.declared.fault.ProgramFault.TheVariants.{Run, NoCharacters}
use Rattle.mf_cli.specs.Messages.{message_of, status_of}
use Rattle.mf_cli.specs.CommandLine.{gf_in, viewers_in}
use Rattle.mf_cli.specs.Output.{GetsOutput, settings}

-- a font file that was asked for is not written to its end: the number of the fault is 0 or less than that of its bytes; the script
-- was read to its end, and everything that it prints is written
pub record LosesFile (viewers : ℕ) (file : Option (List ℕ)) (fault : RunFault) (s : Streams) : Type 0 where
  pub asked : IsSome file
  pub count : ℕ
  pub fault_is : fault ≡ WriteFault count
  pub gf : List ℕ
  pub few : (count ≡ 0) ⊎ (count < length gf)
  pub output : GetsOutput viewers (Some gf) s

-- what a fault of the program says of reading and writing, where so many viewers and this FILE were asked for: what such a fault of a
-- run says, or that the font file is not written to its end; where a FILE is asked for and no character was shipped, everything that
-- the script prints is written
abbrev pub TellsOfProgram : ℕ → Option (List ℕ) → ProgramFault → Streams → Type 0
TellsOfProgram viewers file (Run fault) s = Passes s (TellsOfRun settings viewers fault) ⊎ LosesFile viewers file fault s
TellsOfProgram viewers file NoCharacters s = IsSome file × GetsOutput viewers None s

-- with these words the program ended with some fault, which has this status, whose message was got, and which tells what was read and
-- written
pub record ReportsFault (words : List (List ℕ)) (status : ℕ) (IsGot : List ℕ → Type 0) (s : Streams) : Type 0 where
  pub fault : ProgramFault
  pub status_is : status_of fault ≡ status
  pub message : IsGot (message_of fault)
  pub tells : TellsOfProgram (viewers_in words) (gf_in words) fault s
