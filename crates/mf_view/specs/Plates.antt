-- The image files of pictures that are published, and of characters that are shipped.
use Rattle.std.specs.Prelude.{◌≡◌, ◌==◌, ◌+◌, ◌-◌, ◌++◌, if◌then◌else◌, Bool, true, false, ℕ, List, [], Option, None, Some, codes, decimal, length, replicate, string_bytes}
use Rattle.mf_view_image.specs.Pgm.{pgm_bytes}
use Rattle.mf_view_image.specs.Svg.{svg_text}
use Rattle.mf_rows.specs.Dots.{Dot}
use Rattle.mf_view.specs.declared.plate.ImageFile.{ImageFile}
use Rattle.mf_view.specs.declared.plate.Plate.{Plate}
use Rattle.mf_view.specs.declared.plate.PlateFolder.{PlateFolder}

-- a number in seven digits, zeros in front, or in as many as it needs: the name of the files of a revision
abbrev pub seven_digits : ℕ → List ℕ
seven_digits n = replicate (7 - length (decimal n)) 48 ++ decimal n

-- the name of the files of a character with this code, before which so many characters with it were shipped
abbrev pub character_name : ℕ → ℕ → List ℕ
character_name code before = codes "character-" ++ decimal code ++ (if before == 0 then [] else codes "-" ++ decimal (before + 1))

-- the path of a file in a folder
abbrev pub path_of : List ℕ → List ℕ → List ℕ → List ℕ
path_of folder name extension = folder ++ codes "/" ++ name ++ codes "." ++ extension

-- the image file with this name, this extension and these bytes
pub record IsImageFile (folder : PlateFolder) (name extension bytes : List ℕ) (file : ImageFile) : Type 0 where
  pub path_is : string_bytes file.path ≡ path_of (string_bytes folder.path) name extension
  pub bytes_are : file.bytes.items ≡ bytes

-- where a file is asked for, there is one, of which this is true, and else there is none
abbrev pub IsIfAsked : Bool → (ImageFile → Type 0) → Option ImageFile → Type 0
IsIfAsked true IsSuch made = (file : ImageFile) × (made ≡ Some file) × IsSuch file
IsIfAsked false IsSuch made = made ≡ None

-- the plate of a picture, whose files have this name
pub record IsPlate (folder : PlateFolder) (name : List ℕ) (ds : List Dot) (plate : Plate) : Type 0 where
  pub svg : IsImageFile folder name (codes "svg") (svg_text ds) plate.svg
  pub pgm : IsIfAsked folder.pgm (IsImageFile folder name (codes "pgm") (pgm_bytes ds)) plate.pgm
