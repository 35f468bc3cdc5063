-- What the program has written where it ends, well or with a fault.
use Rattle.std.specs.Prelude.{◌≡◌, Bool, true, false, ℕ, List, Option, None, Some, IsSome, String, option_map, string_bytes}
use Rattle.std.specs.Global.{Global}
use Rattle.std.specs.Io.KnownBytes.{Appends}
use Rattle.clap.specs.Words.{Text}
use Rattle.mf_base.specs.Messages.{GetsFront, Receipt}
use Rattle.mf_desk.specs.Streams.{Passes, Streams, streams}
use Rattle.mf_desk.specs.declared.outcome.Outcome.{Outcome}
use Rattle.mf_desk.specs.declared.settings.Settings.{Settings}
use Rattle.mf_view_frame.specs.Canvases.{size_in}
use Rattle.mf_view_frame.specs.declared.tile.Style.{Style}
use Rattle.mf_view_frame.specs.declared.tile.Style.TheVariants.{Colored, Plain}
use Rattle.mf_desk_session.specs.States.{Limits, limits_of, most_bytes, most_operations}
use Rattle.mf_view.specs.Easels.{Manner, manner}
use Rattle.mf_view.specs.Fonts.{font_words}
use Rattle.mf_view.specs.Messages.{message_of, status_of}
use Rattle.mf_view.specs.Performances.{Shows, TellsOfShow}
use Rattle.mf_view.specs.declared.fault.ProgramFault.{ProgramFault}
use Rattle.mf_view_words.specs.Requests.{IsRequest}
use Rattle.mf_view_words.specs.declared.texts.TheConstants.{HELP, VERSION}
use Rattle.mf_view_words.specs.declared.words.Request.{Request}
use Rattle.mf_view_words.specs.declared.words.Request.TheVariants.{Help, Show, Version}
use Rattle.mf_view_words.specs.declared.words.Words.{Words}

-- the limits of a script, and the numbers of a font (here as well as in the code, so that a wrong constant there is not proved)
abbrev pub settings_with : ℕ → ℕ → Settings
settings_with design_size resolution =
    record { max_ops = most_operations; max_bytes = most_bytes; font = font_words design_size resolution }

-- the style of frames, which may follow one another
abbrev pub style_in : Bool → Style
style_in true = Plain
style_in false = Colored

-- where the words ask for the transcript
abbrev pub transcript_in : Words → Option (List ℕ)
transcript_in words = option_map string_bytes words.transcript

-- this is true of a run with its transcript in the stream of messages where no path is given; with a path that stream is as it was, and
-- nothing is said of where the transcript went, since no contract knows what a file holds
abbrev pub WithTranscript : Option (List ℕ) → Streams → (Streams → Type 0) → Type 0
WithTranscript None s IsSuch = IsSuch s
WithTranscript (Some path) s IsSuch = (s.holds ≡ s.held) × (held holds : Option (List ℕ)) × IsSuch (streams s.unread s.left held holds)

-- a script was performed and shown, and its transcript went there
abbrev pub ShowsTo : Option (String Global) → Settings → Manner → Receipt → Streams → Outcome → Type 0
ShowsTo transcript settings manner screen s outcome =
    WithTranscript (option_map string_bytes transcript) s (λ s. Shows settings manner screen s outcome)

-- with this fault a performance ended whose transcript is asked for here
abbrev pub EndsPerformance : Option (List ℕ) → Limits → Streams → ProgramFault → Type 0
EndsPerformance transcript limits s fault = WithTranscript transcript s (λ s. Passes s (TellsOfShow limits fault))

-- the script was performed and shown as the words ask for it, and there is a font file where they ask for it
pub record IsWatched (words : Words) (screen : Receipt) (s : Streams) : Type 0 where
  pub outcome : Outcome
  pub shown : ShowsTo words.transcript (settings_with words.design_size words.resolution)
      (manner (style_in words.frames) (size_in words.columns words.rows)) screen s outcome
  pub some : IsSome words.gf → IsSome outcome.gf

-- what was asked for is written: the help text, the version, or what a performance writes
abbrev pub EndsAs : Request → Receipt → Streams → Type 0
EndsAs Help screen s = (s.holds ≡ s.held) × Appends screen.held screen.holds HELP.now
EndsAs Version screen s = (s.holds ≡ s.held) × Appends screen.held screen.holds VERSION.now
EndsAs (Show words) screen s = IsWatched words screen s

-- these are the words of a request, and what it asks for is written
abbrev pub Fulfils : List Text → Receipt → Streams → Type 0
Fulfils words screen s = (request : Request) × IsRequest words request × EndsAs request screen s

-- the same of a script of the program
abbrev pub EndsShow : Option (List ℕ) → Streams → ProgramFault → Type 0
EndsShow transcript = EndsPerformance transcript (limits_of most_operations most_bytes)

-- with these words the program ended with some fault, which has this status; the stream of messages has got its message last, and what was
-- read and written before it is what the fault says, where the words ask for a script
pub record ReportsFault (words : List Text) (status : ℕ) (s : Streams) : Type 0 where
  pub fault : ProgramFault
  pub status_is : status_of fault ≡ status
  pub between : Option (List ℕ)
  pub message : GetsFront between s.holds (message_of fault)
  pub told : (asked : Words) → IsRequest words (Show asked) → EndsShow (transcript_in asked) (record s { holds = between }) fault
