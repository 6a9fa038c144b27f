-- `buffer::surely_fits` meets its contract: no field takes more than its 21 bytes.
use native.Mathlib.Omega.{arith}
use lib.IntN.{pos}
use lib.ListN.{get_or, length-append}
use mir.Syntax.{w64}
use mir.Val.{SFits}
use borrow.Author.Rules.{rules}
use Rattle.word.proofs.Fits.{back}
use Rattle.buffer.specs.Lines.{field_bytes}
use Rattle.buffer.proofs.Lines.{fields_more}
use Rattle.buffer.proofs.surely_fits.Goals as goal

pub loop-z-init : goal.loop-z-init
unfolding field_bytes
loop-z-init c = (omega arith, omega arith)

pub loop-z-preserved : goal.loop-z-preserved
loop-z-preserved c =
    let f : SFits w64 (get_or c.args.fields.now c.loop-z.z-index (pos 0)) = search rules in
    let most = rw (back f) at c.field_most-most.ensures in
    rw (fields_more c.args.fields.now c.loop-z.z-index c.loop-z-test.true) (simp length-append (omega arith, omega arith))
