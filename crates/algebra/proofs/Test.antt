-- Tests that the checker computes, and what each says once it has come out true.
use mathlib.Core.Path.{◌≡◌, refl, sym, subst}
use mathlib.Core.Bool.{Bool, true, false, ◌&&◌}
use mathlib.Core.Logic.{⊎_elim}
use Prim.Native.Nat.{ℕ, zero, suc, ◌<◌}
use native.Mathlib.Nat.{not-suc-le-zero, le_of_suc-le-suc, eq-or-lt_of_le}
use lib.Dec.{T}

pub and_left : (a b : Bool) → T (a && b) → T a
and_left true b t = tt
and_left false b t = t

pub and_right : (a b : Bool) → T (a && b) → T b
and_right true b t = t
and_right false b t = absurd t

-- a test by its two outcomes: `either b (λ e. rw e ..) (λ e. rw e ..)`
pub either : {A : Type 0} (b : Bool) → (b ≡ true → A) → (b ≡ false → A) → A
either {A} b f g = go b refl
  where
    go : (t : Bool) → b ≡ t → A
    go true e = f e
    go false e = g e

-- of tests that the code has made
pub both_true : {a b : Bool} → a && b ≡ true → (a ≡ true) × (b ≡ true)
both_true {a = true} e = (refl, e)
both_true {a = false} e = absurd (subst T (sym e) tt)

-- f 0 and … and f (n − 1)
abbrev pub all : ℕ → (ℕ → Bool) → Bool
all zero f = true
all (suc n) f = all n f && f n

pub all_at : (n : ℕ) (f : ℕ → Bool) → T (all n f) → (i : ℕ) → i < n → T (f i)
all_at zero f t i h = absurd (not-suc-le-zero h)
all_at (suc n) f t i h = ⊎_elim
    (λ e. subst (λ j. T (f j)) (sym e) (and_right (all n f) (f n) t))
    (λ l. all_at n f (and_left (all n f) (f n) t) i l)
    (eq-or-lt_of_le (le_of_suc-le-suc h))
