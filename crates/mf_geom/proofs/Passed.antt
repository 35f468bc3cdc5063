-- Signed numbers come out of a call as they went in.
use Rattle.std.proofs.Common.{◌≡◌, ℤ, ◌*ℤ◌, to_z, of_z, w32}
use Rattle.std.proofs.lemmas.Int.{to_z-of_z}
use mir.Val.{SFits}

pub product-passed : (a b : ℤ) {r : ℤ} → SFits w32 a → SFits w32 b → r ≡ to_z w32 (of_z w32 a) *ℤ to_z w32 (of_z w32 b) → r ≡ a *ℤ b
product-passed a b a_fits b_fits product = simp to_z-of_z at product
