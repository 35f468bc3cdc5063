-- Sets of pixels: each is the picture that has weight 1 at its pixels.
use Rattle.std.specs.Prelude.{◌≡◌, pos, int_lt, All, List, [], ◌∷◌, if◌then◌else◌}
use Rattle.mf_rows.specs.Dots.{Dot, IsPicture}

-- a finite set of pixels of the field, as a picture in which each has weight 1
pub record IsPixelSet (ds : List Dot) : Type 0 where
  pub picture : IsPicture ds
  pub ones : All (λ (d : Dot). d.weight ≡ pos 1) ds

-- the black pixels of a picture: those of positive weight
unfoldable pub black : List Dot → List Dot
black [] = []
black (d ∷ ds) = if int_lt (pos 0) d.weight then record { y = d.y; x = d.x; weight = pos 1 } ∷ black ds else black ds
