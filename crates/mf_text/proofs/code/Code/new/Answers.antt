use Rattle.std.proofs.Common.{sym}
use Rattle.mf_text.proofs.ReadInts.{some_code}
use Rattle.mf_text.proofs.code.Code.new.Goals as goal

pub returns-then-is_code : goal.returns-then-is_code
returns-then-is_code c = sym (some_code _ _)
