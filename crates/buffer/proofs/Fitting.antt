-- What fits whole and what does not, told by the place behind it and the bytes of the buffer.
use mathlib.Core.Path.{◌≡◌}
use mathlib.Core.List.{List, []}
use Prim.Native.Nat.{ℕ, ◌+◌, ◌≤◌, ◌<◌}
use native.Mathlib.Nat.{zero-add}
use lib.ListN.{length}
use lib.Seq.{sets}
use borrow.Author.Tests.{le-leb, lt-leb}
use Rattle.word.proofs.Fits.{back}
use Rattle.buffer.specs.Fitting.{fitting}
use Rattle.buffer.specs.Code.{Put, Front}
use Rattle.buffer.proofs.Put.{to_front}

-- ---- the two outcomes of a write that must fit whole
abbrev pub Fitted : List ℕ → ℕ → List ℕ → List ℕ → ℕ → Type 0
Fitted b at xs b' end = (end ≡ at + length (fitting b at xs)) × (b' ≡ sets b at (fitting b at xs))

module _ (b : List ℕ) (at : ℕ) (xs : List ℕ) where
  pub fits_whole : at + length xs ≤ length b → fitting b at xs ≡ xs
  unfolding fitting
  fits_whole h = rw (le-leb _ _ h)

  pub fits_not : length b < at + length xs → fitting b at xs ≡ []
  unfolding fitting
  fits_not h = rw (lt-leb _ _ h)

-- what the check is given of them
pub ruleset fits = (fits_whole, fits_not, back)

-- where there is room it is a plain write
pub fitted_put : {b : List ℕ} {at : ℕ} {xs b' : List ℕ} {end : ℕ} → at + length xs ≤ length b → Fitted b at xs b' end → Put b at xs b' end
fitted_put {b} {at} {xs} h p = let q = rw (fits_whole b at xs h) at p in record { bytes = q.1; after = q.0 }

-- from the front
pub fitted_front : {b xs b' : List ℕ} {end : ℕ} → length xs ≤ length b → Fitted b 0 xs b' end → Front xs b b' end
fitted_front h p = to_front (fitted_put (rw zero-add h) p) h
