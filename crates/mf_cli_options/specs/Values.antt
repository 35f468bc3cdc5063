-- The values that the words give, by the names of their options.
use Rattle.std.specs.Prelude.{◌≡◌, ◌⊎◌, ◌<◌, ◌≤◌, ◌^◌, ◌&&◌, ◌||◌, ◌==◌, ℕ, Bool, IfSome, List, Option}
use Rattle.std.specs.Prelude.{Some, String, Vec, [], codes, false, map, not, pos, string_bytes, true}
use Rattle.std.specs.Global.{Global}
use Rattle.std.specs.List.{list_all}
use Rattle.std.specs.Option.{option_map_or}
use Rattle.std.specs.Str.{bytes_eq}
use Rattle.std.specs.Str.Parse.{IsNumeral, digits_value, without_leading_plus}
use Rattle.clap.specs.Words.{Row, Rule, Text, first_of, one_of}
use Rattle.clap.specs.declared.builder.value_parser.ValueParser.{ValueParser}
use Rattle.clap.specs.declared.builder.value_parser.ValueParser.TheVariants as parser

-- the words of a command line, as bytes
abbrev pub texts_of : Vec (String Global) Global → List Text
texts_of words = map string_bytes words.items

-- the number that a text represents in decimal
abbrev pub written_number : Text → ℕ
written_number text = digits_value 10 (without_leading_plus text)

-- the number of an option, and the default where the words do not have the option
abbrev pub number_in : List Row → Text → ℕ → ℕ
number_in found id default = option_map_or written_number (one_of id found) default

-- the file of an option, if the words have the option
abbrev pub file_in : List Row → Text → Option Text
file_in found id = first_of id found

-- whether the words have a flag
abbrev pub has_flag : List Row → Text → Bool
has_flag found id = option_map_or (λ text. bytes_eq text (codes "true")) (one_of id found) false

-- the text is a number of 32 bits
abbrev pub IsNumber : Text → Type 0
IsNumber text = IsNumeral 10 (without_leading_plus text) × (written_number text < 2 ^ 32)

-- the text is a number low..high
abbrev pub IsNumberIn : ℕ → ℕ → Text → Type 0
IsNumberIn low high text = IsNumeral 10 (without_leading_plus text) × (low ≤ written_number text) × (written_number text ≤ high)

-- the text is what clap keeps of a flag
abbrev pub IsFlagText : Text → Type 0
IsFlagText text = (text ≡ codes "true") ⊎ (text ≡ codes "false")

-- the text is one that a parser of numbers or flags takes; of another parser nothing is said
abbrev pub IsValueOf : ValueParser → Text → Type 0
IsValueOf (parser.Signed (pos low) (pos high)) = IsNumberIn low high
IsValueOf parser.Bool = IsFlagText
IsValueOf _ = λ _. Unit {0}

-- whether the parser of an option is this one, of numbers or flags
abbrev pub is_parser : ValueParser → Option ValueParser → Bool
is_parser (parser.Signed (pos low) (pos high)) (Some (parser.Signed (pos a) (pos b))) = (a == low) && (b == high)
is_parser parser.Bool (Some parser.Bool) = true
is_parser _ _ = false

-- whether each option with this id has this parser
abbrev pub have_parser : Text → ValueParser → List Rule → Bool
have_parser id q rules = list_all (λ r. not (bytes_eq r.id id) || is_parser q r.parser) rules

-- whether each option with this id has this parser, and the id is neither empty nor one that clap keeps for options of its own
abbrev pub is_option : List Rule → Text → ValueParser → Bool
is_option rules id q = have_parser id q rules
    && (not (bytes_eq id (codes "help")) && (not (bytes_eq id (codes "version")) && not (bytes_eq id [])))

-- each value that the words give to such an option is one that its parser takes
abbrev pub AreValuesOf : List Rule → List Row → Type 0
AreValuesOf rules found = (id : Text) (q : ValueParser) → is_option rules id q ≡ true → IfSome (one_of id found) (IsValueOf q)
