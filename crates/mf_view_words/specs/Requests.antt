-- Which words are a command line, and what they ask for.
use Rattle.std.specs.Prelude.{◌≡◌, ◌≤◌, ◌&&◌, Bool, List, [], codes, false, is_some, not, option_map, string_bytes, true}
use Rattle.clap.specs.Words.{Row, Text, fault_of, matches_of}
use Rattle.mf_cli_options.specs.Values.{file_in, has_flag, number_in}
use Rattle.mf_view_words.specs.CommandLine.{greatest_design_size, greatest_resolution, mfview}
use Rattle.mf_view_words.specs.declared.words.Request.{Request}
use Rattle.mf_view_words.specs.declared.words.Request.TheVariants.{Help, Show, Version}
use Rattle.mf_view_words.specs.declared.words.Words.{Words}

-- whether the words ask for PGM images and name no folder for them
abbrev pub lacks_plates : List Row → Bool
lacks_plates found = has_flag found (codes "pgm") && not (is_some (file_in found (codes "plates")))

-- the words, of which the first is the program's name, are a command line of the program
abbrev pub IsCommandLine : List Text → Type 0
IsCommandLine words = (fault_of mfview words ≡ []) × (lacks_plates (matches_of mfview words) ≡ false)

-- each value is what the words give, or the default
pub record AreWords (found : List Row) (asked : Words) : Type 0 where
  pub columns : asked.columns ≡ number_in found (codes "columns") 80
  pub rows : asked.rows ≡ number_in found (codes "rows") 24
  pub pause : asked.pause ≡ number_in found (codes "pause") 0
  pub frames : asked.frames ≡ has_flag found (codes "frames")
  pub transcript : option_map string_bytes asked.transcript ≡ file_in found (codes "transcript")
  pub plates : option_map string_bytes asked.plates ≡ file_in found (codes "plates")
  pub pgm : asked.pgm ≡ has_flag found (codes "pgm")
  pub gf : option_map string_bytes asked.gf ≡ file_in found (codes "gf")
  pub design_size : asked.design_size ≡ number_in found (codes "design-size") 0
  pub resolution : asked.resolution ≡ number_in found (codes "resolution") 0

-- the request that the values make: help first, then the version, and else what to draw
abbrev pub IsRequestIn : List Row → Request → Type 0
IsRequestIn found Help = has_flag found (codes "asks-help") ≡ true
IsRequestIn found Version = (has_flag found (codes "asks-help") ≡ false) × (has_flag found (codes "asks-version") ≡ true)
IsRequestIn found (Show asked) =
    (has_flag found (codes "asks-help") ≡ false) × (has_flag found (codes "asks-version") ≡ false) × AreWords found asked

-- the request is what the words ask for
abbrev pub IsRequest : List Text → Request → Type 0
IsRequest words = IsRequestIn (matches_of mfview words)

-- the numbers of the font are in their ranges
pub record IsWordsInRange (asked : Words) : Type 0 where
  pub design_size : asked.design_size ≤ greatest_design_size
  pub resolution : asked.resolution ≤ greatest_resolution

-- the numbers of the font that a request asks for are in their ranges
abbrev pub IsRequestInRange : Request → Type 0
IsRequestInRange (Show asked) = IsWordsInRange asked
IsRequestInRange _ = Unit {0}
