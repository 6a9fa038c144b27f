-- `merge::put_all` meets its contract: by the last byte.
use native.Mathlib.Omega.{arith}
use lib.ListN.{length, length-append}
use mathlib.Core.Path.{ap}
use mathlib.Core.List.{[], ◌∷◌}
use Rattle.buffer.proofs.Put.{nothing}
use Rattle.buffer.proofs.Fitting.{fitted_put}
use Rattle.merge.proofs.Follows.{text_none, text_newline, text_other}
use Rattle.merge.proofs.put_all.Goals as goal

pub put_line-requires : goal.put_line-requires
put_line-requires c =
    omega (arith, ap length (text_other c.args.s.now (λ e. omega arith) (λ e. omega arith)), length-append c.args.s.now (10 ∷ []))

pub returns-in-empty : goal.returns-in-empty
returns-in-empty c = rw (text_none c.args.s.now (omega arith)) (nothing c.args.out.now c.args.at)

pub returns-in-10 : goal.returns-in-10
returns-in-10 c =
    let is = text_newline c.args.s.now (λ e. omega arith) (omega arith) in
    let e = c.put_bytes.ensures in
    rw is (fitted_put (rw is at c.requires) (e.count, e.bytes))

pub returns-in_default : goal.returns-in_default
returns-in_default c = rw (text_other c.args.s.now (λ e. omega arith) (λ e. omega arith)) c.put_line.ensures
