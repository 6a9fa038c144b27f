-- Certificates of inequalities: a sum of products of facts, of squares and of numerals is not negative, and where the solver finds that it
-- is what the goal needs, the goal holds. `lin` (Linear) looks for them.
use mathlib.Core.Path.{◌∙◌, ap, subst}
use mathlib.Core.List.{List, [], ◌∷◌}
use mathlib.Core.Bool.{Bool, true, false, ◌&&◌}
use Prim.Native.Nat.{ℕ, zero, suc}
use lib.Dec.{T}
use lib.IntN.{ℤ, pos, negsuc, ◌+ℤ◌, ◌*ℤ◌, +ℤ_idr}
use Rattle.algebra.specs.Order.{◌⩽◌}
use Rattle.algebra.proofs.Test.{and_left, and_right}
use Rattle.algebra.proofs.Ring.{mul_zero}
use Rattle.algebra.proofs.Integer.{ℤR}
use Rattle.algebra.proofs.Solver.{E, K, ◌:+◌, ◌:-◌, ◌:*◌, P, con, hor, nf, is_z, den, ev, sound, ev_is_z}
use Rattle.algebra.proofs.Order.{sub_nonneg, nonneg_pos, nonneg_add, nonneg_mul, nonneg_sq}

-- a fact l ≤ r between two expressions
pub data H : Type 0 where
  ◌:≤◌ : E → E → H

infix 4 ◌:≤◌
-- what is not negative: the i-th fact's r − l, a numeral, a square, a sum, a product
infixl 6 ◌⊞◌
infixl 7 ◌⊠◌
pub data C : Type 0 where
  hyp : ℕ → C
  lit : ℕ → C
  sq : E → C
  ◌⊞◌ : C → C → C
  ◌⊠◌ : C → C → C

abbrev pub gap : List H → ℕ → E
gap [] i = K (pos 0)
gap ((l :≤ r) ∷ hs) zero = r :- l
gap (h ∷ hs) (suc i) = gap hs i

abbrev pub cex : List H → C → E
cex hs (hyp i) = gap hs i
cex hs (lit n) = K (pos n)
cex hs (sq e) = e :* e
cex hs (c ⊞ d) = cex hs c :+ cex hs d
cex hs (c ⊠ d) = cex hs c :* cex hs d

abbrev pub Means : List ℤ → H → Type 0
Means ρ (l :≤ r) = den ℤR l ρ ⩽ den ℤR r ρ

abbrev pub Holds : List ℤ → List H → Type 0
Holds ρ [] = Unit {0}
Holds ρ (h ∷ hs) = Means ρ h × Holds ρ hs

gap_nonneg : (ρ : List ℤ) (hs : List H) → Holds ρ hs → (i : ℕ) → pos 0 ⩽ den ℤR (gap hs i) ρ
gap_nonneg ρ [] p i = nonneg_pos 0
gap_nonneg ρ ((l :≤ r) ∷ hs) p zero = sub_nonneg p.0
gap_nonneg ρ ((l :≤ r) ∷ hs) p (suc i) = gap_nonneg ρ hs p.1 i

cex_nonneg : (ρ : List ℤ) (hs : List H) → Holds ρ hs → (c : C) → pos 0 ⩽ den ℤR (cex hs c) ρ
cex_nonneg ρ hs p (hyp i) = gap_nonneg ρ hs p i
cex_nonneg ρ hs p (lit n) = nonneg_pos n
cex_nonneg ρ hs p (sq e) = nonneg_sq (den ℤR e ρ)
cex_nonneg ρ hs p (c ⊞ d) = nonneg_add (cex_nonneg ρ hs p c) (cex_nonneg ρ hs p d)
cex_nonneg ρ hs p (c ⊠ d) = nonneg_mul (cex_nonneg ρ hs p c) (cex_nonneg ρ hs p d)

-- a polynomial that is a negative constant
abbrev pub is_neg : P → Bool
is_neg (con (pos n)) = false
is_neg (con (negsuc n)) = true
is_neg (hor h t) = is_neg h && is_z t

ev_is_neg : (p : P) (ρ : List ℤ) → T (is_neg p) → pos 0 ⩽ ev ℤR p ρ → ⊥
ev_is_neg (con (pos n)) ρ t h = t
ev_is_neg (con (negsuc n)) ρ t h = h.le
ev_is_neg (hor h u) [] t p = ev_is_neg h [] (and_left (is_neg h) (is_z u) t) p
ev_is_neg (hor h u) (x ∷ ρ) t p = ev_is_neg h ρ (and_left (is_neg h) (is_z u) t)
    (subst (λ w. pos 0 ⩽ w) (ap (λ w. ev ℤR h ρ +ℤ x *ℤ w) (ev_is_z ℤR u (x ∷ ρ) (and_right (is_neg h) (is_z u) t))
    ∙ ap (λ w. ev ℤR h ρ +ℤ w) (mul_zero ℤR x) ∙ +ℤ_idr (ev ℤR h ρ)) p)

-- THE THEOREM: where the certificate's sum is a negative constant, the facts do not all hold
pub refute : (ρ : List ℤ) (hs : List H) (c : C) → T (is_neg (nf (cex hs c))) → Holds ρ hs → ⊥
refute ρ hs c t p = ev_is_neg (nf (cex hs c)) ρ t (subst (λ w. pos 0 ⩽ w) (sound ℤR (cex hs c) ρ) (cex_nonneg ρ hs p c))
