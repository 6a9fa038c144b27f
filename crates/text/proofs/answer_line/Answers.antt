-- `text::answer_line` meets its contract: the reply to the line that is read.
use Rattle.text.specs.Answer.{reply}
use Rattle.text.proofs.answer_line.Goals as goal

pub returns : goal.returns
unfolding reply
returns c = rw c.read_line.ensures at c.reply.ensures
