-- `book::pay` meets its contract.
use mathlib.Core.Path.{ap, ◌∙◌}
use Rattle.std.specs.Prelude.{Ok}
use Rattle.word.proofs.Fits.{back, sfits_mag}
use Rattle.book.specs.Call.{settled}
use Rattle.book.proofs.Calls.{short, covered}
use Rattle.book.proofs.pay.Goals as goal

pub returns-then-balance-cost : goal.returns-then-balance-cost
returns-then-balance-cost c = let a = c.args in
    c.denied.ensures ∙ short a.who a.cost a.figures a.book (rw (back (sfits_mag c.balance.result c.balance.type_inv), back c.ranges.cost, c.balance.ensures) at c.if-balance-cost.true)

pub returns : goal.returns
returns c = let a = c.args in
    ap (settled (Ok a.figures)) (rw (back c.ranges.cost) at c.charged.ensures)
    ∙ covered a.who a.cost a.figures a.book (rw (back (sfits_mag c.balance.result c.balance.type_inv), back c.ranges.cost, c.balance.ensures) at c.if-balance-cost.false)
