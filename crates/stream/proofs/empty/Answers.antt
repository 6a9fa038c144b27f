-- `stream::empty` meets its contract: a line begins, behind none.
use Rattle.stream.proofs.empty.Goals as goal

pub returns : goal.returns
returns c = c.new_line.ensures
