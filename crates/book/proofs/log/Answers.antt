-- `book::log` meets its contract.
use mathlib.Core.Path.{◌≡◌, refl, sym, ap, ap₂, ◌∙◌}
use lib.IntN.{ℤ, pos, ◌-ℤ◌}
use Rattle.word.proofs.Fits.{back}
use Rattle.answer.specs.Remainder.{RemainderBelow}
use Rattle.logarithm.specs.Answer.{log_answer, Close}
use Rattle.logarithm.proofs.Close.{log_close, log_remainder}
use Rattle.book.specs.declared.Book.{Book}
use Rattle.book.specs.declared.Settled.{Settled}
use Rattle.book.specs.Call.{Log, log_by, charge, outcome, OfAnswer}
use Rattle.book.proofs.Calls.{payable, denied, called, meets}
use Rattle.book.proofs.log.Goals as goal

-- the three clauses from the first
clauses : (caller n x y : ℤ) (b : Book) {r : Settled} →
    let c = log_by caller n x y in r ≡ outcome c b →
    (r ≡ outcome c b) × (OfAnswer (Close n x y) r.reply × OfAnswer (RemainderBelow 48 n) r.reply)
clauses caller n x y b = meets (log_by caller n x y) b (Close n x y) (RemainderBelow 48 n) (log_close n x y) (log_remainder n x y)

-- ---- the contract, first, so that a wrong body is refused for its answer
pub returns-in_default : goal.returns-in_default
returns-in_default c =
    let a = c.args in
    let named = sym (rw (back c.ranges.caller) at c.caller_of.ensures) in
    let all = clauses a.caller a.n a.p.x a.p.y a.book
    (c.denied.ensures ∙ denied a.caller (Log a.n a.p.x a.p.y) a.book (named ∙ c.in_default.is)) in
    record { outcome = all.0; close = all.1.0; remainder = all.1.1 }

pub returns : goal.returns
returns c =
    let a = c.args in
    let asked = Log a.n a.p.x a.p.y in
    let named = sym (rw (back c.ranges.caller) at c.caller_of.ensures) in
    let replied : c.log.result ≡ log_answer a.n a.p.x a.p.y = c.log.ensures.answer ∙ ap (λ n. log_answer n a.p.x a.p.y) (back c.ranges.n) in
    let all = clauses a.caller a.n a.p.x a.p.y a.book
    (c.settle.ensures ∙ (ap₂ (λ k r. charge c.in-Some.who k r a.book) (ap (λ k. k -ℤ pos 2) (back c.ranges.n)) replied
    ∙ called a.caller asked a.book (named ∙ c.in-Some.is))) in
    record { outcome = all.0; close = all.1.0; remainder = all.1.1 }

-- ---- the needs
pub settle-requires : goal.settle-requires
settle-requires c =
    let a = c.args in
    let replied = rw (back c.ranges.n) at c.log.ensures.answer in
    rw (back c.ranges.n) (payable (Log a.n a.p.x a.p.y) a.n (pos 2) c.ranges.n (record { le = tt }) refl replied)
