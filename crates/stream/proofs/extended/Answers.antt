-- `stream::extended` meets its contract: what is kept and what is still to come, cut at 117 bytes.
use mathlib.Core.Path.{◌≡◌}
use borrow.Author.Rules.{rules}
use lib.ListN.{length}
use Rattle.stream.specs.Machine.{kept_bytes}
use Rattle.stream.proofs.Kept.{same_begun, kept_more}
use Rattle.stream.proofs.extended.Goals as goal

pub returns : goal.returns
returns c =
    let p = c.args.place in
    let more = c.args.more.now in
    let n : length p.bytes ≡ kept_bytes = search rules in
    same_begun _ (kept_more p.len p.bytes more n c.min-kept.ensures c.min.ensures c.copy_from_slice.ensures.after)
