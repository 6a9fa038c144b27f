-- `buffer::write_fields` meets its contract: the fields up to this turn's are written.
use lib.ListN.{take}
use Rattle.buffer.specs.Lines.{field_bytes}
use Rattle.buffer.specs.Code.{Put}
use Rattle.buffer.proofs.write_fields.Given as goal

abbrev pub invariant-loop-z : goal.invariant-loop-z
invariant-loop-z l = Put l.fn.out l.at (field_bytes (take l.z-index l.zs)) l.out l.end
