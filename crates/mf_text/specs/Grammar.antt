-- The lines that a script may have, and how each is spelled in tokens.
use Rattle.std.specs.Prelude.{Bool, List, [], ◌∷◌, ◌++◌, Option, Some, None, ℤ, pos, map, flat_map, if◌then◌else◌}
use Rattle.mf_geom.specs.declared.point.Point.{Point}
use Rattle.mf_rows.specs.declared.sign.Sign.{Sign}
use Rattle.mf_rows.specs.declared.sign.Sign.TheVariants.{Plus, Minus}
pub use Rattle.mf_text.specs.declared.command.Name.{Name}
pub use Rattle.mf_text.specs.declared.command.Name.TheVariants.{Current, Register}
pub use Rattle.mf_text.specs.declared.command.Source.{Source}
pub use Rattle.mf_text.specs.declared.command.Source.TheVariants.{Null, Named}
pub use Rattle.mf_text.specs.declared.code.Code.{Code}
pub use Rattle.mf_text.specs.declared.int.Int.{Int}
pub use Rattle.mf_text.specs.declared.pair.Pair.{Pair}
use Rattle.mf_text.specs.declared.token.Mark.{Mark}
use Rattle.mf_text.specs.declared.token.Mark.TheVariants as mark
use Rattle.mf_text.specs.Token.{Token}
use Rattle.mf_text.specs.Token as token
use Rattle.mf_text.specs.declared.token.Word.{Word}
use Rattle.mf_text.specs.declared.token.Word.TheVariants as word
pub use Rattle.mf_text.specs.Ints.{int_value, pair_value}

-- a word is one token
abbrev pub spell_word : Word → List Token
spell_word w = token.Word w ∷ []

-- a mark is one token
abbrev pub spell_mark : Mark → List Token
spell_mark m = token.Mark m ∷ []

-- int: [`-`] number
abbrev pub spell_int : Int → List Token
spell_int n = if n.negative then (token.Mark mark.Minus ∷ token.Number n.magnitude ∷ []) else (token.Number n.magnitude ∷ [])

-- pair: `(` int `,` int `)`
abbrev pub spell_pair : Pair → List Token
spell_pair p = spell_mark mark.Open ++ spell_int p.across ++ spell_mark mark.Comma ++ spell_int p.up ++ spell_mark mark.Close

-- name: `currentpicture`, or one letter
abbrev pub name_token : Name → Token
name_token Current = token.Word word.CurrentPicture
name_token (Register letter) = token.Letter letter

-- a name is one token
abbrev pub spell_name : Name → List Token
spell_name name = name_token name ∷ []

-- source: name, or `nullpicture`
abbrev pub source_token : Source → Token
source_token Null = token.Word word.NullPicture
source_token (Named name) = name_token name

-- a source is one token
abbrev pub spell_source : Source → List Token
spell_source source = source_token source ∷ []

-- a source, with `-` before it where it is subtracted
abbrev pub spell_signed : Sign → Source → List Token
spell_signed Plus source = spell_source source
spell_signed Minus source = spell_mark mark.Minus ++ spell_source source

-- [`withweight` int]: without it the weight is 1
abbrev pub spell_weight : Option Int → List Token
spell_weight None = []
spell_weight (Some n) = spell_word word.WithWeight ++ spell_int n

-- the weight itself: the value of the int, or 1 where there is none
abbrev pub weight_value : Option Int → ℤ
weight_value None = pos 1
weight_value (Some n) = int_value n

-- path: pair `--` .. `--` pair `--` `cycle`, with at least one pair
pub record Path : Type 0 where
  pub first : Pair
  pub others : List Pair

-- a corner: a pair and the `--` after it
abbrev pub spell_corner : Pair → List Token
spell_corner p = spell_pair p ++ spell_mark mark.Join

-- a path: its corners, and then `cycle`
abbrev pub spell_path : Path → List Token
spell_path p = flat_map spell_corner (p.first ∷ p.others) ++ spell_word word.Cycle

-- the points of a path
abbrev pub path_value : Path → List Point
path_value p = map pair_value (p.first ∷ p.others)

-- transform: `shifted` pair, `scaled` int, `xscaled` int, `yscaled` int, or `rotated` int
pub data Transform : Type 0 where
  Shifted : Pair → Transform
  Scaled : Int → Transform
  XScaled : Int → Transform
  YScaled : Int → Transform
  Rotated : Int → Transform

-- a transform: its word, and then its pair or its int
abbrev pub spell_transform : Transform → List Token
spell_transform (Shifted p) = spell_word word.Shifted ++ spell_pair p
spell_transform (Scaled n) = spell_word word.Scaled ++ spell_int n
spell_transform (XScaled n) = spell_word word.XScaled ++ spell_int n
spell_transform (YScaled n) = spell_word word.YScaled ++ spell_int n
spell_transform (Rotated n) = spell_word word.Rotated ++ spell_int n

-- the forms of commands, one for each thing that a command does
pub data Form : Type 0 where
  Nothing : Form
  AddContour : Name → Path → Option Int → Form
  AddPicture : Name → Sign → Source → Form
  CullKeeping : Name → Pair → Option Int → Form
  CullDropping : Name → Pair → Option Int → Form
  Clear : Name → Form
  Move : Name → Transform → Form
  ShowTotal : Source → Form
  ShowPicture : Source → Form
  ShowProof : Source → Form
  ShipOut : Source → Code → Int → Int → Form
  SetCheck : Int → Form
  PublishAll : Form

-- how each form is spelled
abbrev pub spell_form : Form → List Token
spell_form Nothing = []
spell_form (AddContour name path weight) = spell_word word.Addto ++ spell_name name ++ spell_word word.Contour ++ spell_path path ++ spell_weight weight
spell_form (AddPicture name sign source) = spell_word word.Addto ++ spell_name name ++ spell_word word.Also ++ spell_signed sign source
spell_form (CullKeeping name range weight) = spell_word word.Cull ++ spell_name name ++ spell_word word.Keeping ++ spell_pair range ++ spell_weight weight
spell_form (CullDropping name range weight) = spell_word word.Cull ++ spell_name name ++ spell_word word.Dropping ++ spell_pair range ++ spell_weight weight
spell_form (Clear name) = spell_name name ++ spell_mark mark.Becomes ++ spell_word word.NullPicture
spell_form (Move name transform) = spell_name name ++ spell_mark mark.Becomes ++ spell_name name ++ spell_transform transform
spell_form (ShowTotal source) = spell_word word.Show ++ spell_word word.TotalWeight ++ spell_source source
spell_form (ShowPicture source) = spell_word word.Show ++ spell_source source
spell_form (ShowProof source) = spell_word word.Proof ++ spell_source source
spell_form (ShipOut source code dx width) = spell_word word.Shipout ++ spell_source source ++ spell_word word.Code ++ spell_int code.int
    ++ spell_word word.Dx ++ spell_int dx ++ spell_word word.Width ++ spell_int width
spell_form (SetCheck n) = spell_word word.TurningCheck ++ spell_mark mark.Becomes ++ spell_int n
spell_form PublishAll = spell_word word.Publish

-- line: [command] [`;`]
pub record Line : Type 0 where
  pub form : Form
  pub ended : Bool

-- the end of a line: `;`, or nothing
abbrev pub spell_end : Bool → List Token
spell_end ended = if ended then spell_mark mark.Semicolon else []

-- a line: its form, and then its end
abbrev pub spell_line : Line → List Token
spell_line l = spell_form l.form ++ spell_end l.ended
