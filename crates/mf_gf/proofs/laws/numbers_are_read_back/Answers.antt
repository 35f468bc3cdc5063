use Rattle.std.proofs.Common.{◌∷◌, ℕ, List, drop, sym, subst, arith}
use Rattle.byteorder.specs.Numbers.{big_number-reads_back}
use Rattle.mf_gf.specs.declared.file.FontWords.{FontWords}
use Rattle.mf_gf.specs.Files.{Character, box_of_all, file_of}
use Rattle.mf_gf.specs.FontNumbers.{HasPost, IsLeastAround, Post, read_post}
use Rattle.mf_gf.specs.Pointers.{AreShippable}
use Rattle.mf_gf.proofs.BoxOfDots.{box-reads_back, word-reads_back}
use Rattle.mf_gf.proofs.FontBoxes.{all_fit, least_of_all}
use Rattle.mf_gf.proofs.FontNumbersRead.{all_bytes, comment_of-file, last_before_post, post_of-file}
use Rattle.mf_gf.proofs.PostFound.{post_place-file}
use Rattle.mf_gf.proofs.Shipped.{bytes_after_post}
use Rattle.mf_gf.proofs.laws.numbers_are_read_back.Goals as goal

-- what post says is found where its numbers say it
found : (Says : Post → Type 0) (words : FontWords) (comment : List ℕ) (cs : List Character) → AreShippable comment cs
    → Says (read_post (all_bytes words comment cs)) → HasPost (file_of words comment cs) Says
found Says words comment cs shippable says = (read_post (all_bytes words comment cs), post_of-file words comment cs shippable.short, says)

pub returns-clause-preamble : goal.returns-clause-preamble
returns-clause-preamble c = comment_of-file

pub returns-clause-place : goal.returns-clause-place
returns-clause-place c = λ words comment cs shippable. post_place-file words comment cs shippable.short

pub returns-clause-last_eoc : goal.returns-clause-last_eoc
returns-clause-last_eoc c = last_before_post

pub returns-clause-design_size : goal.returns-clause-design_size
returns-clause-design_size c = λ words comment cs shippable fits.
    found _ words comment cs shippable (word-reads_back words.ds (drop 9 (all_bytes words comment cs)) fits)

pub returns-clause-check_sum : goal.returns-clause-check_sum
returns-clause-check_sum c = λ words comment cs shippable fits.
    found _ words comment cs shippable (big_number-reads_back 4 words.cs (drop 13 (all_bytes words comment cs)) (omega (arith, fits)))

pub returns-clause-horizontal_resolution : goal.returns-clause-horizontal_resolution
returns-clause-horizontal_resolution c = λ words comment cs shippable fits.
    found _ words comment cs shippable (word-reads_back words.hppp (drop 17 (all_bytes words comment cs)) fits)

pub returns-clause-vertical_resolution : goal.returns-clause-vertical_resolution
returns-clause-vertical_resolution c = λ words comment cs shippable fits.
    found _ words comment cs shippable (word-reads_back words.vppp (drop 21 (all_bytes words comment cs)) fits)

pub returns-clause-bounds : goal.returns-clause-bounds
returns-clause-bounds c = λ words comment d cs shippable.
    let all = d ∷ cs in
    found _ words comment all shippable
    (subst (IsLeastAround all) (sym (box-reads_back (box_of_all all) (bytes_after_post words comment all) (all_fit d cs shippable.each)))
    (least_of_all d cs))
