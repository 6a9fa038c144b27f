-- Tests of integers that the checker computes: a list of inequalities, and one test at every integer of a range.
use mathlib.Core.Path.{◌≡◌, refl, sym, ◌∙◌, ap, subst}
use mathlib.Core.List.{List, [], ◌∷◌}
use mathlib.Core.Bool.{Bool, true, ◌&&◌}
use Prim.Native.Nat.{ℕ}
use lib.Dec.{T}
use lib.IntN.{ℤ, pos, negsuc, ◌+ℤ◌, ◌-ℤ◌}
use lib.Signed.{le_z}
use Rattle.algebra.specs.Order.{◌⩽◌}
use Rattle.algebra.proofs.Test.{and_left, and_right, all, all_at}
use Rattle.algebra.proofs.Integer.{ℤR}
use Rattle.algebra.proofs.Reify.{ring!, reify}
use Rattle.algebra.proofs.Order.{sub_nonneg, pos_inj_le}
use Rattle.algebra.proofs.Linear.{lin, ◌&◌, ◌&≡◌, none}

-- each a ≤ b of a list of pairs: the test, and what it says
abbrev pub les : List (ℤ × ℤ) → Bool
les [] = true
les (f ∷ fs) = le_z f.0 f.1 && les fs

abbrev pub Les : List (ℤ × ℤ) → Type 0
Les [] = Unit {0}
Les (f ∷ fs) = (f.0 ⩽ f.1) × Les fs

pub les_say : (fs : List (ℤ × ℤ)) → T (les fs) → Les fs
les_say [] t = tt
les_say (f ∷ fs) t = (record { le = and_left (le_z f.0 f.1) (les fs) t }, les_say fs (and_right (le_z f.0 f.1) (les fs) t))

-- f at each integer from a on, n of them
pub all_from : (a : ℤ) (n : ℕ) (f : ℤ → Bool) → T (all n (λ i. f (a +ℤ pos i))) → (x : ℤ) → a ⩽ x → x +ℤ pos 1 ⩽ a +ℤ pos n → T (f x)
all_from a n f t x lo hi = go (x -ℤ a) refl (sub_nonneg lo)
  where
    go : (d : ℤ) → x -ℤ a ≡ d → pos 0 ⩽ d → T (f x)
    go (pos i) e l = subst (λ y. T (f y)) (ap (λ y. a +ℤ y) (sym e) ∙ ring! ℤR (a ∷ x ∷ []) (search reify depth 20) tt)
        (all_at n (λ i. f (a +ℤ pos i)) t i (pos_inj_le (lin (a ∷ x ∷ pos i ∷ pos n ∷ []) (e &≡ hi & none) (search reify depth 20) tt)))
    go (negsuc i) e l = absurd l.le
