-- The search behind `lin`: Fourier–Motzkin elimination over the monomials of the facts, run by the checker as it computes types. No theorem
-- is about it: what it finds is a certificate, and Certificate's theorem checks that.
use mathlib.Core.List.{List, [], ◌∷◌}
use mathlib.Core.Bool.{true, false}
use Prim.Native.Nat.{Ordering}
use Prim.Native.Nat.{ℕ, zero, suc, ◌+◌, ◌*◌, ◌/◌, ◌^◌, compare}
use lib.Dec.{leb}
use lib.IntN.{ℤ, pos, negsuc, ◌+ℤ◌, ◌*ℤ◌, nat_abs}
use Rattle.algebra.proofs.Solver.{◌:-◌, P, con, hor, nf, app}
use Rattle.algebra.proofs.Certificate.{H, ◌:≤◌, C, hyp, lit, ◌⊞◌, ◌⊠◌}

-- ---- forms: monomials, the greatest first, each its exponents as a number in base 64 (the constant's is 0) with a coefficient that is
-- not zero
abbrev pub Form : Type 0
Form = List (ℕ × ℤ)

abbrev pub flat : P → ℕ → ℕ → Form
flat (con (pos zero)) b m = []
flat (con (pos (suc n))) b m = (m, pos (suc n)) ∷ []
flat (con (negsuc n)) b m = (m, negsuc n) ∷ []
flat (hor h t) b m = app (flat t b (m + b)) (flat h (b / 64) m)

abbrev pub push : ℕ → ℤ → Form → Form
push m (pos zero) f = f
push m (pos (suc n)) f = (m, pos (suc n)) ∷ f
push m (negsuc n) f = (m, negsuc n) ∷ f

abbrev pub into : (ℕ × ℤ) → (Form → Form) → Form → Form
into x f [] = x ∷ f []
into x f (y ∷ g) = elim (compare x.0 y.0) [
  | Ordering.lt ↦ y ∷ into x f g
  | Ordering.eq ↦ push x.0 (x.1 +ℤ y.1)
      (f g)
  | Ordering.gt ↦ x ∷ f (y ∷ g)
]

abbrev pub plus : Form → Form → Form
plus [] g = g
plus (x ∷ f) g = into x (λ h. plus f h) g

abbrev pub times : ℕ → Form → Form
times n [] = []
times n (x ∷ f) = (x.0, pos n *ℤ x.1) ∷ times n f

-- ---- rows: a fact, and how often each given fact is taken for it
abbrev pub Row : Type 0
Row = Form × List ℕ

abbrev pub padd : List ℕ → List ℕ → List ℕ
padd [] v = v
padd (a ∷ u) [] = a ∷ u
padd (a ∷ u) (b ∷ v) = (a + b) ∷ padd u v

abbrev pub ptimes : ℕ → List ℕ → List ℕ
ptimes n [] = []
ptimes n (a ∷ u) = (n * a) ∷ ptimes n u

abbrev pub unit : ℕ → List ℕ
unit zero = 1 ∷ []
unit (suc i) = 0 ∷ unit i

-- the given facts (2^186 is 64^31: up to 32 atoms)
abbrev pub rows : List H → ℕ → List Row
rows [] i = []
rows ((l :≤ r) ∷ hs) i = let p = nf (r :- l) in let f = flat p (2 ^ 186) 0 in let u = unit i in (f, u) ∷ rows hs (suc i)

abbrev pub lead : Form → ℕ
lead [] = 0
lead (x ∷ f) = x.0

abbrev pub coef : Form → ℤ
coef [] = pos 0
coef (x ∷ f) = x.1

abbrev pub max' : ℕ → ℕ → ℕ
max' a b = elim (compare a b) [ Ordering.lt ↦ b | Ordering.eq ↦ a | Ordering.gt ↦ a ]

abbrev pub top : List Row → ℕ
top [] = 0
top (r ∷ rs) = max' (lead r.0) (top rs)

-- which rows hold the monomial m: with a positive coefficient, a negative one, or not
pub data Side : Type 0 where
  up down out : Side

abbrev pub sign : ℤ → Side
sign (pos n) = up
sign (negsuc n) = down

abbrev pub side : ℕ → Row → Side
side m r = elim (compare m (lead r.0)) [ Ordering.lt ↦ out | Ordering.eq ↦ sign (coef r.0) | Ordering.gt ↦ out ]

abbrev pub ups : ℕ → List Row → List Row
ups m [] = []
ups m (r ∷ rs) = elim (side m r) [ up ↦ r ∷ ups m rs | down ↦ ups m rs | out ↦ ups m rs ]

abbrev pub downs : ℕ → List Row → List Row
downs m [] = []
downs m (r ∷ rs) = elim (side m r) [ up ↦ downs m rs | down ↦ r ∷ downs m rs | out ↦ downs m rs ]

abbrev pub outs : ℕ → List Row → List Row
outs m [] = []
outs m (r ∷ rs) = elim (side m r) [ up ↦ outs m rs | down ↦ outs m rs | out ↦ r ∷ outs m rs ]

abbrev pub count : List ℕ → ℕ
count [] = 0
count (zero ∷ u) = count u
count (suc n ∷ u) = count u + 1

-- after d monomials are gone, a row of more than d + 1 facts follows from others (Kohler)
abbrev pub meets : ℕ → Row → List Row → List Row
meets d p [] = []
meets d p (n ∷ ns) =
    let a = nat_abs (coef p.0) in let b = nat_abs (coef n.0) in let u = ptimes b p.1 in let w = ptimes a n.1 in
    let z = padd u w in
    elim (leb (count z) d) [
      | true ↦ let f = times b p.0 in let g = times a n.0 in let h = plus f g in let r : Row = (h, z) in
          r ∷ meets d p ns
      | false ↦ meets d p ns
    ]

abbrev pub cross : ℕ → List Row → List Row → List Row
cross d [] ns = []
cross d (p ∷ ps) ns = let r = meets d p ns in app r (cross d ps ns)

abbrev pub step : ℕ → ℕ → List Row → List Row
step d m rs = let a = ups m rs in let b = downs m rs in let c = cross d a b in let o = outs m rs in app c o

abbrev pub run : ℕ → ℕ → List Row → List Row
run zero d rs = rs
run (suc k) d rs = let m = top rs in elim m [ zero ↦ rs | suc n ↦ let qs = step d (suc n) rs in run k (d + 1) qs ]

-- a row that says 0 ≤ a negative constant
abbrev pub found : List Row → List ℕ
found [] = []
found (r ∷ rs) = elim (coef r.0) [ pos n ↦ found rs | negsuc n ↦ r.1 ]

abbrev pub cert : List ℕ → ℕ → C
cert [] i = lit 0
cert (zero ∷ u) i = cert u (suc i)
cert (suc n ∷ u) i = lit (suc n) ⊠ hyp i ⊞ cert u (suc i)

abbrev pub find : List H → C
find hs = let a = rows hs 0 in let b = run 40 2 a in let c = found b in cert c 0
