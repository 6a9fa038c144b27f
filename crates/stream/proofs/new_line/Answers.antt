-- `stream::new_line` meets its contract: the line is no bytes of the array.
use mathlib.Core.Path.{refl}
use Rattle.stream.proofs.new_line.Goals as goal

pub returns : goal.returns
returns c = refl
