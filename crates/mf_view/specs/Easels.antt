-- What easels look at, and how they draw it.
use Rattle.std.specs.Prelude.{◌≡◌, ℕ, List, [], ◌++◌, None, Option, Some, codes, decimal}
use Rattle.logbook.specs.Pages.{Book}
use Rattle.mf_view_frame.specs.Canvases.{Size, frame_lines}
use Rattle.mf_view_frame.specs.Frames.{frame_text}
use Rattle.mf_view_frame.specs.Tiles.{escape}
use Rattle.mf_view_frame.specs.declared.tile.Style.{Style}
use Rattle.mf_view_frame.specs.declared.tile.Style.TheVariants.{Colored, Plain}
use Rattle.mf_live.specs.Entries.{Entry, picture_at, revision_at}
use Rattle.mf_live.specs.Viewers as viewers
use Rattle.mf_view.specs.declared.easel.Easel.{Easel}

-- which picture it looks at
abbrev pub identity : Easel → Book
identity easel = viewers.identity easel.viewer

-- the list of its last look that was answered
abbrev pub looked_at_list : Easel → List Entry
looked_at_list easel = viewers.looked_at_list easel.viewer

-- the revision of the frame that it drew last, if there is one
abbrev pub revision_of : Easel → Option ℕ
revision_of easel = easel.drawn

-- how frames are drawn, and how large they are
pub record Manner : Type 0 where
  pub style : Style
  pub canvas : Size

-- the manner with these two, in this order
abbrev pub manner : Style → Size → Manner
manner style canvas = record { style = style; canvas = canvas }

-- the manner in which it draws
abbrev pub manner_of : Easel → Manner
manner_of easel = manner easel.style easel.canvas

-- it draws frames of the same size and style
abbrev pub HasSameManner : Easel → Easel → Type 0
HasSameManner before after = manner_of after ≡ manner_of before

-- what comes before a frame: in the style `Colored` the cursor moves up to the first line of the frame that was drawn last
abbrev pub cursor_to_last_frame : Style → Size → Option ℕ → List ℕ
cursor_to_last_frame Plain canvas drawn = []
cursor_to_last_frame Colored canvas None = []
cursor_to_last_frame Colored canvas (Some before) = escape ++ codes "[" ++ decimal (frame_lines canvas) ++ codes "A"

-- the text that draws the picture of a list in a manner, over the frame of the revision drawn before, if there is one
abbrev pub drawing : Manner → Option ℕ → List Entry → List ℕ
drawing m drawn L = cursor_to_last_frame m.style m.canvas drawn ++ frame_text m.style m.canvas (revision_at L) (picture_at L)
