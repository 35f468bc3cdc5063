use Rattle.std.proofs.Common.{◌≡◌, take}
use Rattle.std.specs.List.{list_all}
use Rattle.mf_text.specs.Lines.{is_text_byte}
use Rattle.mf_text.proofs.text.are_text.Given as goal

abbrev pub invariant-loop-byte : goal.invariant-loop-byte
invariant-loop-byte l = l.text ≡ list_all is_text_byte (take l.byte-index l.bytes)
