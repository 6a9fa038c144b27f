-- `buffer::write_words` meets its contract: a number a turn.
use native.Mathlib.Omega.{arith}
use lib.IntN.{ℤ, pos}
use lib.ListN.{get_or}
use mir.Syntax.{w64}
use mir.Val.{SFits}
use borrow.Author.Rules.{rules}
use Rattle.std.proofs.lemmas.List.{length-take-le}
use Rattle.buffer.specs.Words.{encode}
use Rattle.buffer.proofs.Put.{nothing, then}
use Rattle.buffer.proofs.Words.{length_bytes, length_encode, encode_more, word_is}
use Rattle.buffer.proofs.write_words.Goals as goal

pub loop-z-init : goal.loop-z-init
unfolding encode
loop-z-init c = nothing _ _

pub loop-z-preserved : goal.loop-z-preserved
loop-z-preserved c =
    let f : SFits w64 (get_or c.args.numbers.now c.loop-z.z-index (pos 0)) = search rules in
    let w = word_is (get_or c.args.numbers.now c.loop-z.z-index (pos 0)) c.to_le_bytes.result f c.to_le_bytes.ensures in
    rw (encode_more c.args.numbers.now c.loop-z.z-index c.loop-z-test.true) (then c.loop-z.invariant (rw w at c.write_bytes-end.ensures))

pub write_bytes-end-requires : goal.write_bytes-end-requires
write_bytes-end-requires c =
    let f : SFits w64 (get_or c.args.numbers.now c.loop-z.z-index (pos 0)) = search rules in
    let w = word_is (get_or c.args.numbers.now c.loop-z.z-index (pos 0)) c.to_le_bytes.result f c.to_le_bytes.ensures in
    rw w (omega (arith, length_bytes 8, length_encode, length-take-le {A = ℤ}))
