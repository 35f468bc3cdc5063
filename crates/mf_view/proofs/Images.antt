-- The image files of pictures.
use Rattle.std.proofs.Common.{◌≡◌, ◌-◌, ◌++◌, ◌^◌, ℕ, Bool, List, [], Some, Result, Ok, Err, append-nil, append_assoc, arith, codes, decimal, false, true}
use Rattle.std.proofs.Common.{refl, subst, sym}
use Rattle.std.specs.Global.{Global}
use Rattle.std.specs.Prelude.{IfOk, IsOkAnd, Vec}
use Rattle.core.specs.Fmt.{char_count, format_spec, padded_integral}
use Rattle.mf_rows.specs.Dots.{Dot}
use Rattle.mf_view.specs.Plates.{IsIfAsked, IsImageFile, IsPlate, character_name, seven_digits}
use Rattle.mf_view.specs.declared.plate.ImageFile.{ImageFile}
use Rattle.mf_view.specs.declared.plate.Plate.{Plate}
use Rattle.mf_view.specs.declared.plate.PlateFolder.{PlateFolder}

-- what a number is in seven digits
pub padded_to_seven_digits : (n : ℕ) → padded_integral (format_spec 32 0 4 7 (2 ^ 64 - 1)) false [] (decimal n) ≡ seven_digits n
unfolding padded_integral char_count
padded_to_seven_digits n = grind (arith, append-nil)

-- the name of the first character with a code
pub name_of_first : (code : ℕ) → codes "character-" ++ decimal code ≡ character_name code 0
name_of_first code = sym (append-nil (codes "character-" ++ decimal code))

-- the parts of a path, however they are grouped
pub parts_of_path : (folder name extension : List ℕ)
    → folder ++ (codes "/" ++ (name ++ (codes "." ++ extension))) ≡ folder ++ codes "/" ++ name ++ codes "." ++ extension
parts_of_path folder name extension = simp append_assoc

-- a file that was made has the bytes that were made
pub file_of_bytes : {E : Type 0} (made : Result (Vec ℕ Global) E) (folder : PlateFolder) (name extension bytes : List ℕ) (file : ImageFile)
    → IfOk made (λ made. made.items ≡ bytes) → IsOkAnd made (λ made. IsImageFile folder name extension made.items file)
    → IsImageFile folder name extension bytes file
file_of_bytes (Ok made) folder name extension bytes file are of = subst (λ b. IsImageFile folder name extension b file) are of
file_of_bytes (Err fault) folder name extension bytes file are of = absurd of

-- a file was made, and is asked for
pub file_asked_for : (asked : Bool) (IsSuch : ImageFile → Type 0) (file : ImageFile) → asked ≡ true → IsSuch file → IsIfAsked asked IsSuch (Some file)
file_asked_for asked IsSuch file is such = subst (λ a. IsIfAsked a IsSuch (Some file)) (sym is) (file, refl, such)

-- the plate of a picture with a name is that of equal ones
pub same_plate : (folder : PlateFolder) (name other : List ℕ) (ds es : List Dot) (made : Plate)
    → name ≡ other → ds ≡ es → IsPlate folder name ds made → IsPlate folder other es made
same_plate folder name other ds es made named are plate =
    subst (λ n. IsPlate folder n es made) named (subst (λ e. IsPlate folder name e made) are plate)
