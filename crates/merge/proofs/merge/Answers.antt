-- `merge::merge` meets its contract: 6, then what the checking pass says, and the writing pass where it says nothing.
use mathlib.Core.Path.{sym, ◌∙◌}
use Rattle.merge.proofs.Call.{enough, all_done}
use Rattle.merge.proofs.merge.Goals as goal

pub write-requires-clause-b_in_bounds : goal.write-requires-clause-b_in_bounds
write-requires-clause-b_in_bounds c =
    enough c.args.a.now c.args.b.now c.args.out.now (sym c.is_short.ensures ∙ c.if-is_short.false)

pub returns-clause-bytes : goal.returns-clause-bytes
returns-clause-bytes c =
    all_done c.args.a.now c.args.b.now c.args.out.now (sym c.is_short.ensures ∙ c.if-is_short.false) c.in_ok-decide.ensures c.write.ensures
