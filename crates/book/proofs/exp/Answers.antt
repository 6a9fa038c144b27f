-- `book::exp` meets its contract.
use mathlib.Core.Path.{◌≡◌, sym, ap, ap₂, ◌∙◌}
use lib.IntN.{ℤ, pos, +ℤ_idr}
use Rattle.word.proofs.Fits.{back}
use Rattle.answer.specs.Remainder.{RemainderBelow}
use Rattle.exponential.specs.Answer.{exp_answer, Close}
use Rattle.exponential.proofs.Close.{exp_close, exp_remainder}
use Rattle.book.specs.declared.Book.{Book}
use Rattle.book.specs.declared.Settled.{Settled}
use Rattle.book.specs.Call.{Exp, exp_by, charge, outcome, OfAnswer}
use Rattle.book.proofs.Calls.{payable, denied, called, meets}
use Rattle.book.proofs.exp.Goals as goal

-- the three clauses from the first
clauses : (caller n ex ey sx sy : ℤ) (b : Book) {r : Settled} →
    let c = exp_by caller n ex ey sx sy in r ≡ outcome c b →
    (r ≡ outcome c b) × (OfAnswer (Close n ex ey sx sy) r.reply × OfAnswer (RemainderBelow 48 n) r.reply)
clauses caller n ex ey sx sy b =
    meets (exp_by caller n ex ey sx sy) b (Close n ex ey sx sy) (RemainderBelow 48 n) (exp_close n ex ey sx sy) (exp_remainder n ex ey sx sy)

-- ---- the contract, first, so that a wrong body is refused for its answer
pub returns-in_default : goal.returns-in_default
returns-in_default c =
    let a = c.args in
    let named = sym (rw (back c.ranges.caller) at c.caller_of.ensures) in
    let all = clauses a.caller a.n a.exponent.x a.exponent.y a.start.x a.start.y a.book
    (c.denied.ensures ∙ denied a.caller (Exp a.n a.exponent.x a.exponent.y a.start.x a.start.y) a.book (named ∙ c.in_default.is)) in
    record { outcome = all.0; close = all.1.0; remainder = all.1.1 }

pub returns : goal.returns
returns c =
    let a = c.args in
    let asked = Exp a.n a.exponent.x a.exponent.y a.start.x a.start.y in
    let named = sym (rw (back c.ranges.caller) at c.caller_of.ensures) in
    let replied : c.exp.result ≡ exp_answer a.n a.exponent.x a.exponent.y a.start.x a.start.y
    = c.exp.ensures.answer ∙ ap (λ n. exp_answer n a.exponent.x a.exponent.y a.start.x a.start.y) (back c.ranges.n) in
    let all = clauses a.caller a.n a.exponent.x a.exponent.y a.start.x a.start.y a.book
    (c.settle.ensures ∙ (ap₂ (λ k r. charge c.in-Some.who k r a.book) (+ℤ_idr _ ∙ back c.ranges.n) replied
    ∙ called a.caller asked a.book (named ∙ c.in-Some.is))) in
    record { outcome = all.0; close = all.1.0; remainder = all.1.1 }

-- ---- the needs
pub settle-requires : goal.settle-requires
settle-requires c =
    let a = c.args in
    let replied = rw (back c.ranges.n) at c.exp.ensures.answer in
    rw (back c.ranges.n) (payable (Exp a.n a.exponent.x a.exponent.y a.start.x a.start.y) a.n (pos 0) c.ranges.n (record { le = tt }) (+ℤ_idr a.n) replied)
