-- The names of refusals, as they appear in texts.
use Rattle.std.specs.Prelude.{ℕ, List, codes}
use Rattle.mf_base.specs.Names.{memory_text}
use Rattle.mf_view_image.specs.declared.fault.ImageFault.{ImageFault}
use Rattle.mf_view_image.specs.declared.fault.ImageFault.TheVariants.{ImageTooLarge, OutOfMemory}

-- the name of the refusal of an image
abbrev pub image_fault_text : ImageFault → List ℕ
image_fault_text ImageTooLarge = codes "ImageTooLarge"
image_fault_text OutOfMemory = memory_text
