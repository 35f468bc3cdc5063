-- The page of the plates that were written.
use Rattle.std.specs.Prelude.{◌≡◌, ◌≢◌, ◌==◌, ℕ, ℤ, List, [], ◌∷◌, ◌++◌, None, Option, Some, codes, count_by, decimal}
use Rattle.std.specs.Fmt.{signed_decimal}
use Rattle.mf_view_image.specs.Svg.{svg_text}
use Rattle.mf_desk.specs.declared.observer.Effect.{Effect}
use Rattle.mf_desk.specs.declared.observer.Effect.TheVariants as effect
use Rattle.mf_desk.specs.declared.observer.Shipment.{Shipment}
use Rattle.mf_desk_session.specs.Pictures.{Pictures, source_picture}
use Rattle.mf_live.specs.Entries.{Entry, picture_at, revision_at}
use Rattle.mf_rows.specs.Dots.{Dot}
use Rattle.mf_view.specs.Plates.{character_name}
use Rattle.mf_view.specs.declared.page.Page.{Page}
use Rattle.mf_view.specs.declared.page_text.TheConstants.{HEAD, TAIL}

-- a section of the page: a picture that was published, with its revision, or one that was shipped as a character, with its code, its dx
-- and its width
pub data Section : Type 0 where
  Published : ℕ → List Dot → Section
  Shipped : ℕ → ℤ → ℤ → List Dot → Section

-- the section of everything that `currentpicture` has accepted
abbrev pub published_section : List Entry → Section
published_section accepted = Published (revision_at accepted) (picture_at accepted)

-- the section of a character
abbrev pub shipped_section : Pictures → Shipment → Section
shipped_section s shipment = Shipped shipment.code shipment.dx shipment.width (source_picture s shipment.source)

-- what the page says of a section
abbrev pub label : Section → List ℕ
label (Published revision ds) = codes "revision=\"" ++ decimal revision ++ codes "\""
label (Shipped code dx width ds) =
    codes "code=\"" ++ decimal code ++ codes "\" data-dx=\"" ++ signed_decimal dx ++ codes "\" data-width=\"" ++ signed_decimal width ++ codes "\""

-- the weights of a section
abbrev pub weights : Section → List Dot
weights (Published revision ds) = ds
weights (Shipped code dx width ds) = ds

-- a template, which a browser does not show, with what the page says of an image
abbrev pub template : List ℕ → List ℕ → List ℕ
template said image = codes "<template data-" ++ said ++ codes ">\n" ++ image ++ codes "</template>\n"

-- a section has the SVG image of its weights
abbrev pub section_text : Section → List ℕ
section_text s = template (label s) (svg_text (weights s))

-- the sections in their order; here and below they are given from the last to the first
abbrev pub sections_text : List Section → List ℕ
sections_text [] = []
sections_text (s ∷ earlier) = sections_text earlier ++ section_text s

-- the page
abbrev pub page_of : List Section → List ℕ
page_of sections = HEAD.now ++ sections_text sections ++ TAIL.now

-- the revision of the last picture that was published
abbrev pub last_revision : List Section → Option ℕ
last_revision [] = None
last_revision (Published revision ds ∷ earlier) = Some revision
last_revision (Shipped code dx width ds ∷ earlier) = last_revision earlier

-- the codes of the characters, the first one first
abbrev pub codes_of : List Section → List ℕ
codes_of [] = []
codes_of (Published revision ds ∷ earlier) = codes_of earlier
codes_of (Shipped code dx width ds ∷ earlier) = codes_of earlier ++ code ∷ []

-- what is kept of the page while its sections are these
pub record HasSections (sections : List Section) (page : Page) : Type 0 where
  pub text : page.sections.items ≡ sections_text sections
  pub last : page.revision ≡ last_revision sections
  pub codes : page.codes.items ≡ codes_of sections

-- whatever sections a page had, it has gained this one
abbrev pub Gains : Section → Page → Page → Type 0
Gains section before after = (sections : List Section) → HasSections sections before → HasSections (section ∷ sections) after

-- the same of what is published, unless the last section of a publish has its revision
abbrev pub GainsOnce : List Entry → Page → Page → Type 0
GainsOnce accepted before after = (before.revision ≡ Some (revision_at accepted) → after ≡ before)
    × (before.revision ≢ Some (revision_at accepted) → Gains (published_section accepted) before after)

-- what a page gains by a line that had this effect, where plates are asked for, with the pictures after it
abbrev pub Notes : Effect → Pictures → Page → Page → Type 0
Notes effect.Published s before after = GainsOnce s.accepted before after
Notes (effect.Shipped shipment) s before after = Gains (shipped_section s shipment) before after
Notes _ s before after = after ≡ before

-- how many characters of a page have this code
abbrev pub characters_with : ℕ → Page → ℕ
characters_with code page = count_by (λ shipped. shipped == code) page.codes.items

-- the name of the files of the next character with this code
abbrev pub next_name : ℕ → Page → List ℕ
next_name code page = character_name code (characters_with code page)
