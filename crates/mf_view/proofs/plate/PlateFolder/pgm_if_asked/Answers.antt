use Rattle.mf_view.proofs.Images.{file_asked_for, file_of_bytes}
use Rattle.mf_view.proofs.plate.PlateFolder.pgm_if_asked.Goals as goal

pub returns-clause-made : goal.returns-clause-made
returns-clause-made c =
    file_asked_for _ _ c.in_ok-file.file c.if-not-self.false (file_of_bytes c.pgm.result _ _ _ _ _ c.pgm.ensures.bytes c.in_ok-file.ensures.made)
