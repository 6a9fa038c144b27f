-- Only private contracts cite this: a line in front that does not stop a merge.
use Rattle.std.specs.Prelude.{◌≡◌, List, ℕ, ℤ}
use Rattle.stream.specs.Machine.{lines}
use Rattle.merge.specs.declared.Front.{Front}
use Rattle.merge.specs.Merge.{front}
use Rattle.merge.specs.declared.Front.TheVariants.{End, Malformed, Fallen, Risen}

abbrev pub Passes : Front → Type 0
Passes End = Unit {0}
Passes Malformed = ⊥
Passes Fallen = ⊥
Passes (Risen n) = Unit {0}

-- r is the line in front of s, behind any after which it passes
abbrev pub InFrontIfPassing : List ℕ → Front → Type 0
InFrontIfPassing s r = (last : ℤ) → Passes (front last (lines s)) → r ≡ front last (lines s)
