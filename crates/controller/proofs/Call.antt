-- A call: a record of eight numbers in front, and the answer's record handed over.
use mathlib.Core.Path.{◌≡◌, ◌∙◌}
use mathlib.Core.List.{List, ◌++◌}
use Prim.Native.Nat.{ℕ, ◌^◌, ◌≤◌, ◌<◌}
use lib.IntN.{ℤ}
use lib.ListN.{length, drop}
use lib.Signed.{mag}
use mir.Syntax.{w64}
use mir.Val.{to_z, of_z}
use Rattle.word.proofs.Fits.{back, sfits_mag}
use Rattle.buffer.specs.Words.{encode}
use Rattle.buffer.proofs.Words.{length_encode}
use Rattle.buffer.proofs.Fitting.{Fitted, fitted_front}
use Rattle.answer.specs.Answer.{Answer}
use Rattle.answer.specs.Record.{record_of}
use Rattle.book.specs.declared.Book.{Book}
use Rattle.book.specs.declared.Settled.{Settled}
use Rattle.book.specs.Call.{reply_record}
use Rattle.controller.specs.Record.{record_room, handed, written}

-- eight numbers fill the first 64 bytes
pub record_front : (b : List ℕ) (zs : List ℤ) {b' : List ℕ} {end : ℕ} → length zs ≡ 8 → record_room ≤ length b → Fitted b 0 (encode zs) b' end →
    b' ≡ encode zs ++ drop record_room b
record_front b zs n h p =
    let e = rw n at (length_encode zs) in
    rw e at (fitted_front (rw e h) p).bytes

-- what is handed over is the answer's record, and its first number comes back as the machine holds it
pub called : (b : List ℕ) {b' : List ℕ} {a answer : Answer} {r : ℤ} → a ≡ answer → mag r < 2 ^ 63 →
    (r ≡ handed b (record_of a)) × (b' ≡ written b (record_of a)) → (to_z w64 (of_z w64 r) ≡ handed b (record_of answer))
    × (b' ≡ written b (record_of answer))
called b {r = r} e f h = let told = rw e at h in (back (sfits_mag r f) ∙ told.0, told.1)

-- ---- a call through the book, of the numbers as the machine holds them
pub booked : {s s' : Settled} {numbers : List ℤ} {b : Book} → s ≡ s' → (numbers ≡ reply_record s.reply) × (b ≡ s.book) →
    (numbers ≡ reply_record s'.reply) × (b ≡ s'.book)
booked e h = rw e at h
