-- `buffer::write_bytes` meets its contract: the library's copy, in the part of the buffer from `at` on.
use Rattle.buffer.proofs.Put.{copied}
use Rattle.buffer.proofs.write_bytes.Goals as goal

pub returns : goal.returns
returns c = copied c.args.out.now c.args.at c.args.bytes.now c.requires c.copy_from_slice.ensures.after
