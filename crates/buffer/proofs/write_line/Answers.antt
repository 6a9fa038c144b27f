-- `buffer::write_line` meets its contract: one run of bytes after the other.
use Prim.Native.Nat.{ℕ}
use native.Mathlib.Omega.{arith}
use lib.ListN.{length-set}
use Rattle.word.proofs.Fits.{back}
use Rattle.buffer.specs.Lines.{line_bytes}
use Rattle.buffer.proofs.Put.{then, one}
use Rattle.buffer.proofs.Lines.{line_length}
use Rattle.buffer.proofs.write_line.Goals as goal

pub write_bytes-b-requires : goal.write_bytes-b-requires
write_bytes-b-requires c =
    let a = rw (back c.ranges.serial) at c.write_number-a.ensures in
    simp length-set (omega (arith, line_length c.args.serial c.args.word.now c.args.fields.now))

pub write_fields-c-requires : goal.write_fields-c-requires
write_fields-c-requires c =
    let a = rw (back c.ranges.serial) at c.write_number-a.ensures in
    omega (arith, line_length c.args.serial c.args.word.now c.args.fields.now, length-set {A = ℕ})

pub bounds-out-c : goal.bounds-out-c
bounds-out-c c =
    let a = rw (back c.ranges.serial) at c.write_number-a.ensures in
    omega (arith, line_length c.args.serial c.args.word.now c.args.fields.now, length-set {A = ℕ})

pub returns : goal.returns
unfolding line_bytes
returns c =
    let a = rw (back c.ranges.serial) at c.write_number-a.ensures in
    then (then (then a (then (one _ _ _) c.write_bytes-b.ensures)) c.write_fields-c.ensures) (one _ _ _)
