-- `stream::next` meets its contract: 5, then 7, then the line's own answer.
use Rattle.std.specs.Prelude.{Some, None}
use mathlib.Core.Path.{◌≡◌, refl, sym, ap, ◌∙◌}
use mathlib.Core.Bool.{true, false}
use mathlib.Core.List.{List}
use Prim.Native.Nat.{ℕ, ◌≤◌}
use lib.IntN.{ℤ, pos}
use lib.ListN.{length}
use lib.Signed.{le_z}
use mir.Syntax.{w64}
use mir.Val.{SFits, to_z, of_z}
use borrow.Author.Rules.{rules}
use borrow.Author.Tests.{le-ltb}
use Rattle.word.proofs.Fits.{back, sfits_mag}
use Rattle.text.specs.Line.{read_line, serial_of}
use Rattle.text.specs.Answer.{Reply, refused_reply, reply_of, answer_room}
use Rattle.text.proofs.Call.{Called}
use Rattle.stream.specs.declared.State.{State}
use Rattle.stream.specs.declared.Answered.{Answered}
use Rattle.stream.specs.Sheet.{reply_after, answer_line}
use Rattle.stream.specs.Code.{Wrote}
use Rattle.stream.proofs.next.Goals as goal
use Rattle.stream.proofs.next.Goals.{After-counted-2, in-Some+else-serial-largest, in_default}

-- ---- the machine's three ways
module _ (s : State) (l : List ℕ) where
  malformed : serial_of (read_line l) ≡ None → answer_line s l ≡ record { bytes = (reply_of (read_line l)).bytes; state = s }
  unfolding answer_line reply_after
  malformed e = rw e

  module _ {serial : ℤ} (e : serial_of (read_line l) ≡ Some serial) where
    not_above : le_z serial s.largest ≡ true → answer_line s l ≡ record { bytes = (refused_reply serial (pos 7)).bytes; state = s }
    unfolding answer_line reply_after
    not_above h = rw (e, h)

    above : le_z serial s.largest ≡ false → answer_line s l ≡ record { bytes = (reply_of (read_line l)).bytes; state = record { largest = serial } }
    unfolding answer_line reply_after
    above h = rw (e, h)

-- what a call of a line wrote, with room for it; serials as the code holds them
wrote : (a : Reply) {largest refusal x : ℤ} {w : ℕ} {b b' : List ℕ} {r : Answered} → answer_room ≤ length b → Called a b b' refusal w →
    SFits w64 largest → x ≡ to_z w64 (of_z w64 largest) → r ≡ record { state = record { largest = x }; written = w } →
    Wrote (record { bytes = a.bytes; state = record { largest = largest } }) b b' r
wrote a {b = b} room h f n e =
    let told = rw (le-ltb (length b) answer_room room) at h.1 in
    rw (e, n) (record { bytes = record { bytes = told.1; count = told.0 }; state = rw (back f) })

seven : {serial refusal : ℤ} (b : List ℕ) {b' : List ℕ} {w : ℕ} → SFits w64 serial →
    Called (refused_reply (to_z w64 (of_z w64 serial)) (pos 7)) b b' refusal w → Called (refused_reply serial (pos 7)) b b' refusal w
seven b f h = rw (back f) at h

-- its own answer, where it has no serial or one above the largest
own : (c : After-counted-2) {largest : ℤ} → SFits w64 largest → to_z w64 c.match-serial.largest-bits ≡ to_z w64 (of_z w64 largest) →
    Wrote (record { bytes = (reply_of (read_line c.args.line.now)).bytes; state = record { largest = largest } }) c.args.out.now c.reply-own.new.out
    c.counted-2.result
own c f e =
    let r = c.reply-own.ensures in
    let asked = c.read_line-asked.ensures in
    wrote (reply_of (read_line c.args.line.now)) c.requires (rw asked at r.refusal, (rw asked at r.count, rw asked at r.bytes)) f e
    c.counted-2.ensures

pub returns : goal.returns
returns c =
    let numbered : serial_of (read_line c.args.line.now) ≡ c.serial.result = sym (c.serial.ensures ∙ ap serial_of c.read_line-asked.ensures) in
    let fits : SFits w64 c.args.state.largest = search rules in
    elim c.match-serial.branch [
      | in-Some+else-serial-largest w ↦
          let k = w.in-Some in
          let fit : SFits w64 k.serial = sfits_mag k.serial k.known_told-1-own.given.0.1 in
          let high : le_z k.serial c.args.state.largest ≡ false = rw (back fit, back fits) at w.if-serial-largest.false in
          rw (above c.args.state c.args.line.now (numbered ∙ k.is) high) (own c fit w.largest-is)
      | in_default w ↦ rw (malformed c.args.state c.args.line.now (numbered ∙ w.in_default.is)) (own c fits w.largest-is)
    ]

-- ---- turned away, where its serial is not above the largest
pub returns-then-serial-largest : goal.returns-then-serial-largest
returns-then-serial-largest c =
    let k = c.in-Some in
    let serial : serial_of (read_line c.args.line.now) ≡ Some k.serial = sym (c.serial.ensures ∙ ap serial_of c.read_line-asked.ensures) ∙ k.is in
    let fit : SFits w64 k.serial = sfits_mag k.serial k.known_told-1-own.given.0.1 in
    let fits : SFits w64 c.args.state.largest = search rules in
    let low : le_z k.serial c.args.state.largest ≡ true = rw (back fit, back fits) at c.if-serial-largest.true in
    let r = rw c.from.ensures at c.refuse-not_above.ensures in
    rw (not_above c.args.state c.args.line.now serial low)
    (wrote (refused_reply k.serial (pos 7)) c.requires (seven c.args.out.now fit (r.refusal, (r.count, r.bytes))) fits refl c.counted.ensures)
