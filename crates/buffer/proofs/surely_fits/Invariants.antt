-- `buffer::surely_fits` meets its contract: no field takes more than its 21 bytes.
use Prim.Native.Nat.{◌≤◌, ◌+◌, ◌*◌}
use lib.ListN.{length, take}
use Rattle.buffer.specs.Lines.{field_bytes}
use Rattle.buffer.proofs.surely_fits.Given as goal

abbrev pub invariant-loop-z : goal.invariant-loop-z
invariant-loop-z l =
    (l.most ≤ 22 + length l.word + 21 * l.z-index) × (22 + length l.word + length (field_bytes (take l.z-index l.fields)) ≤ l.most)
