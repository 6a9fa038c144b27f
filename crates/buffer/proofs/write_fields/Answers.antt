-- `buffer::write_fields` meets its contract: a field a turn.
use native.Mathlib.Omega.{arith}
use lib.IntN.{pos}
use lib.ListN.{get_or, length-set}
use mir.Syntax.{w64}
use mir.Val.{SFits}
use borrow.Author.Rules.{rules}
use Rattle.word.proofs.Fits.{back}
use Rattle.buffer.specs.Lines.{field_bytes}
use Rattle.buffer.proofs.Put.{nothing, one, then}
use Rattle.buffer.proofs.Lines.{fields_more, fields_room}
use Rattle.buffer.proofs.write_fields.Goals as goal

pub loop-z-init : goal.loop-z-init
unfolding field_bytes
loop-z-init c = nothing _ _

pub loop-z-preserved : goal.loop-z-preserved
loop-z-preserved c =
    let f : SFits w64 (get_or c.args.zs.now c.loop-z.z-index (pos 0)) = search rules in
    rw (fields_more c.args.zs.now c.loop-z.z-index c.loop-z-test.true)
    (then c.loop-z.invariant (then (one _ _ 9) (rw (back f) at c.write_number-end.ensures)))

pub write_number-end-requires : goal.write_number-end-requires
write_number-end-requires c =
    let f : SFits w64 (get_or c.args.zs.now c.loop-z.z-index (pos 0)) = search rules in
    rw (back f) (simp length-set (omega (arith, fields_room c.args.zs.now c.loop-z.z-index c.loop-z-test.true)))
