use Rattle.std.proofs.Common.{◌≡◌, [], replicate}
use Rattle.mf_desk_session.proofs.registers.Registers.blank.Given as goal

abbrev pub invariant-loop : goal.invariant-loop
invariant-loop l = l.pictures.items ≡ replicate l.counter []
