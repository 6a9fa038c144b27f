-- `merge::put_line` meets its contract.
use native.Mathlib.Omega.{arith}
use Rattle.buffer.proofs.Put.{one, then, kept}
use Rattle.buffer.specs.Code.{Put}
use Rattle.buffer.proofs.Fitting.{fitted_put}
use Rattle.merge.proofs.put_line.Goals as goal
use Rattle.merge.proofs.put_line.Goals.{After-put_bytes-end}

-- the line is written whole
line_written : (c : After-put_bytes-end) → Put c.args.out.now c.args.at c.args.line.now c.put_bytes-end.new.out c.put_bytes-end.result
line_written c = let e = c.put_bytes-end.ensures in fitted_put (omega (arith, c.requires)) (e.count, e.bytes)

pub bounds-out-end : goal.bounds-out-end
bounds-out-end c = omega (arith, (line_written (goal.at.bounds-out-end c).After-put_bytes-end).after, kept (line_written (goal.at.bounds-out-end c).After-put_bytes-end), c.requires)

pub overflow_add-result : goal.overflow_add-result
overflow_add-result c = omega (arith, (line_written (goal.at.overflow_add-result c).After-put_bytes-end).after, c.requires)

pub returns : goal.returns
returns c = then (line_written (goal.at.returns c).After-put_bytes-end) (one c.put_bytes-end.new.out c.put_bytes-end.result 10)
