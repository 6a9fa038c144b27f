-- `buffer::write_words` meets its contract: a number a turn, and what is still to write is what the whole leaves.
use lib.ListN.{take}
use Rattle.buffer.specs.Words.{encode}
use Rattle.buffer.specs.Code.{Put}
use Rattle.buffer.proofs.write_words.Given as goal

abbrev pub invariant-loop-z : goal.invariant-loop-z
invariant-loop-z l = Put l.fn.out l.at (encode (take l.z-index l.numbers)) l.out l.end
