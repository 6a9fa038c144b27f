-- From the parts of an answer to the call: a refusal's reply, the numbers that a line is refused with, and the three equations.
use mathlib.Core.Path.{◌≡◌, refl, sym, ◌∙◌}
use mathlib.Core.List.{List}
use Prim.Native.Nat.{ℕ, ◌≤◌, ◌<◌, ◌^◌}
use native.Mathlib.Omega.{arith}
use native.Mathlib.Nat.{zero-add}
use lib.IntN.{ℤ, pos}
use lib.ListN.{length}
use lib.Signed.{mag, le_z_yes}
use mir.Syntax.{w64}
use mir.Val.{SFits, to_z, of_z}
use borrow.Author.Tests.{lt-ltb, le-ltb}
use Rattle.algebra.specs.Order.{◌⩽◌}
use Rattle.word.proofs.Fits.{back, sfits_mag}
use Rattle.buffer.proofs.Fitting.{Fitted, fitted_front}
use Rattle.answer.specs.declared.Refusal.{Refusal}
use Rattle.answer.specs.Answer.{Answer}
use Rattle.std.specs.Prelude.{Ok, Err}
use Rattle.answer.specs.Refusal.{refusal_number}
use Rattle.answer.specs.Record.{record_of}
use Rattle.text.specs.declared.Kind.{Kind}
use Rattle.text.specs.declared.Line.{Line}
use Rattle.text.specs.Line.{serial_of}
use Rattle.text.specs.Answer.{Reply, reply_by, refused_reply, answer_reply, reply_of, answer_room, refusal_for, count_for, out_for}
use Rattle.text.specs.Code.{Replied}
use Rattle.text.proofs.Room.{SerialFits, reply_room}
use Rattle.answer.specs.declared.Refusal.TheVariants as why
use Rattle.text.specs.declared.Kind.TheVariants as kind
use Rattle.text.specs.declared.Line.TheVariants as line

-- ---- no refusal's number is 0
refused_reply_lem : (r : Refusal) (serial : ℤ) (kind : List ℕ) (zs : List ℤ) →
    reply_by (refusal_number r) serial kind zs ≡ refused_reply serial (refusal_number r)
refused_reply_lem why.Steps serial kind zs = refl
refused_reply_lem why.Exponent serial kind zs = refl
refused_reply_lem why.Part serial kind zs = refl
refused_reply_lem why.Zero serial kind zs = refl

-- so a line that is turned away is answered as the refusal says; its two numbers as the machine holds them
pub turned_away : (r : Refusal) (serial : ℤ) (kind : List ℕ) (zs : List ℤ) {number refusal : ℤ} {b b' : List ℕ} {written : ℕ} →
    SFits w64 serial → mag number < 2 ^ 63 → number ≡ refusal_number r →
    Replied (refused_reply (to_z w64 (of_z w64 serial)) (to_z w64 (of_z w64 number))) b b' refusal written →
    Replied (reply_by (refusal_number r) serial kind zs) b b' refusal written
turned_away r serial kind zs {number} s n e a = rw (refused_reply_lem r serial kind zs) (rw (back s, back (sfits_mag number n), e) at a)

-- ---- by itself a line is answered, or refused with 1 to 5
own_figures : (k : Kind) (serial n : ℤ) (a : Answer) → let r = (answer_reply k serial n (record_of a)).refusal in (pos 0 ⩽ r) × (r ⩽ pos 5)
unfolding record_of
own_figures k serial n (Ok f) = (le_z_yes tt, le_z_yes tt)
own_figures k serial n (Err why.Steps) = (le_z_yes tt, le_z_yes tt)
own_figures k serial n (Err why.Exponent) = (le_z_yes tt, le_z_yes tt)
own_figures k serial n (Err why.Part) = (le_z_yes tt, le_z_yes tt)
own_figures k serial n (Err why.Zero) = (le_z_yes tt, le_z_yes tt)

pub own_refusal : (l : Line) → (pos 0 ⩽ (reply_of l).refusal) × ((reply_of l).refusal ⩽ pos 5)
unfolding reply_of
own_refusal line.Malformed = (le_z_yes tt, le_z_yes tt)
own_refusal (line.Exp serial n exponent start) = own_figures kind.Exp serial n _
own_refusal (line.Log serial n point) = own_figures kind.Log serial n _

-- ---- the parts put together
-- a line that was put, with the refusal number
pub replied : {a : Reply} {b b' : List ℕ} {refusal : ℤ} {written : ℕ} → refusal ≡ a.refusal → Fitted b 0 a.bytes b' written →
    Replied a b b' refusal written
replied r p = record { refused = r; count = p.0 ∙ zero-add _; bytes = p.1 }

-- ---- the three equations
abbrev pub Called : Reply → List ℕ → List ℕ → ℤ → ℕ → Type 0
Called a b b' refusal written = (refusal ≡ refusal_for a b) × ((written ≡ count_for a b) × (b' ≡ out_for a b))

pub short_buffer : (a : Reply) (b : List ℕ) → length b < answer_room → Called a b b (pos 6) 0
short_buffer a b h = rw (lt-ltb _ _ h) (refl, (refl, refl))

pub called : {a : Reply} {b b' : List ℕ} {refusal : ℤ} {written : ℕ} → length a.bytes ≤ answer_room → answer_room ≤ length b →
    Replied a b b' refusal written → Called a b b' refusal written
called {a} {b} f h r =
    let room : length a.bytes ≤ length b = omega (arith, f) in
    let p = fitted_front room (r.count ∙ sym (zero-add _), r.bytes) in
    rw (le-ltb _ _ h) (r.refused, (p.count, p.bytes))

-- for a line that is known
pub line_called : (l : Line) {line : Line} {b b' : List ℕ} {refusal : ℤ} {written : ℕ} → line ≡ l → SerialFits (serial_of l) →
    answer_room ≤ length b → Replied (reply_of l) b b' refusal written → Called (reply_of line) b b' refusal written
line_called l e f h r = rw e (called (reply_room l f) h r)
