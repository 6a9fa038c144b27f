-- Only private contracts cite this: what answering leaves in a buffer of any length.
use Rattle.std.specs.Prelude.{◌≡◌, List, ℕ, ℤ, length}
use Rattle.std.proofs.lemmas.List.Edits.{sets}
use Rattle.buffer.specs.Fitting.{fitting}
use Rattle.text.specs.Answer.{Reply}

pub record Replied (a : Reply) (b b' : List ℕ) (refusal : ℤ) (written : ℕ) : Type 0 where
  pub refused : refusal ≡ a.refusal
  pub count : written ≡ length (fitting b 0 a.bytes)
  pub bytes : b' ≡ sets b 0 (fitting b 0 a.bytes)
