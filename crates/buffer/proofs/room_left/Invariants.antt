-- `buffer::room_left` meets its contract: what is left behind the fields up to this turn's.
use mathlib.Core.Path.{◌≡◌}
use Prim.Native.Nat.{◌+◌}
use lib.ListN.{length, take}
use Rattle.buffer.specs.Decimal.{show_number}
use Rattle.buffer.specs.Lines.{field_bytes}
use Rattle.buffer.proofs.room_left.Given as goal

abbrev pub invariant-loop-z : goal.invariant-loop-z
invariant-loop-z l = l.left + (length (show_number l.serial) + length l.word + 2 + length (field_bytes (take l.z-index l.fields))) ≡ l.room
