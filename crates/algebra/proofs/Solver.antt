-- The solver behind `ring!`: expressions, their normal form (Horner, in the variables' order), and that both denote the same element.
use mathlib.Core.Path.{◌≡◌, refl, sym, ◌∙◌, ap, ap₂}
use mathlib.Core.List.{List, [], ◌∷◌}
use mathlib.Core.Bool.{Bool, true, false, ◌&&◌}
use Prim.Native.Nat.{ℕ, zero, suc, ◌+◌}
use lib.Dec.{T}
use lib.IntN.{ℤ, pos, negsuc, ◌+ℤ◌, ◌*ℤ◌}
use Rattle.algebra.proofs.Test.{and_left, and_right}
use Rattle.algebra.proofs.Ring.{Ring, zero_add, sub_zero, zero_mul, mul_zero, mul_add, mul_left_comm, swap4, minus_one}

infixl 6 ◌:+◌ ◌:-◌
infixl 7 ◌:*◌
-- ---- expressions
pub data E : Type 0 where
  X : ℕ → E
  K : ℤ → E
  ◌:+◌ : E → E → E
  ◌:-◌ : E → E → E
  ◌:*◌ : E → E → E
  :neg : E → E

-- ---- polynomials: a constant, or h + x · t where h is free of the first variable x
pub data P : Type 0 where
  con : ℤ → P
  hor : P → P → P

abbrev pub addc : ℤ → P → P
addc c (con d) = con (c +ℤ d)
addc c (hor h t) = hor (addc c h) t

abbrev pub padd : P → P → P
padd (con c) q = addc c q
padd (hor h t) (con d) = hor (addc d h) t
padd (hor h t) (hor h' t') = hor (padd h h') (padd t t')

abbrev pub scale : ℤ → P → P
scale c (con d) = con (c *ℤ d)
scale c (hor h t) = hor (scale c h) (scale c t)

-- (nothing is left of a multiple by zero)
abbrev pub sc : ℤ → P → P
sc (pos zero) q = con (pos zero)
sc (pos (suc n)) q = scale (pos (suc n)) q
sc (negsuc n) q = scale (negsuc n) q

abbrev pub lift : (P → P) → P → P
lift f (con d) = hor (f (con d)) (con (pos 0))
lift f (hor h t) = hor (f h) (lift f t)

abbrev pub pmul : P → P → P
pmul (con c) q = sc c q
pmul (hor h t) q = padd (lift (λ z. pmul h z) q) (hor (con (pos 0)) (pmul t q))

abbrev pub var : ℕ → P
var zero = hor (con (pos 0)) (con (pos 1))
var (suc i) = hor (var i) (con (pos 0))

abbrev pub nf : E → P
nf (X i) = var i
nf (K c) = con c
nf (a :+ b) = padd (nf a) (nf b)
nf (a :- b) = padd (nf a) (scale (negsuc 0) (nf b))
nf (a :* b) = pmul (nf a) (nf b)
nf (:neg a) = scale (negsuc 0) (nf a)

abbrev pub is_z : P → Bool
is_z (con (pos zero)) = true
is_z (con (pos (suc n))) = false
is_z (con (negsuc n)) = false
is_z (hor h t) = is_z h && is_z t

-- ---- a polynomial as a list of monomials, for messages: each a coefficient and the variables' exponents
abbrev pub rev : List ℕ → List ℕ → List ℕ
rev [] n = n
rev (x ∷ m) n = rev m (x ∷ n)

abbrev pub app {ℓ} : {S : Type ℓ} → List S → List S → List S
app [] n = n
app (x ∷ m) n = x ∷ app m n

abbrev pub monos : P → List ℕ → ℕ → List (ℤ × List ℕ)
monos (con (pos zero)) m e = []
monos (con (pos (suc n))) m e = (pos (suc n), rev (e ∷ m) []) ∷ []
monos (con (negsuc n)) m e = (negsuc n, rev (e ∷ m) []) ∷ []
monos (hor h t) m e = app (monos t m (e + 1)) (monos h (e ∷ m) 0)

-- what is left over where it should be nothing; no value has this type
pub data Left : List (ℤ × List ℕ) → Type 0 where

abbrev pub verdict : Bool → P → Type 0
verdict true p = Unit {0}
verdict false p = Left (monos p [] 0)

abbrev pub Zero : P → Type 0
Zero p = verdict (is_z p) p

verdict_is : (b : Bool) (p : P) → verdict b p → T b
verdict_is true p h = tt
verdict_is false p h = elim h [ ]

pub zero_is : (p : P) → Zero p → T (is_z p)
zero_is p h = verdict_is (is_z p) p h

-- ---- what both denote
module _ (R : Ring) where
  open R use {A, add, mul, neg, ι, add_assoc, add_comm, add_zero, mul_assoc, mul_one, add_mul, ι_add, ι_mul}

  abbrev pub nth : List A → ℕ → A
  nth [] i = ι (pos 0)
  nth (x ∷ ρ) zero = x
  nth (x ∷ ρ) (suc i) = nth ρ i

  abbrev pub den : E → List A → A
  den (X i) ρ = nth ρ i
  den (K c) ρ = ι c
  den (a :+ b) ρ = add (den a ρ) (den b ρ)
  den (a :- b) ρ = add (den a ρ) (neg (den b ρ))
  den (a :* b) ρ = mul (den a ρ) (den b ρ)
  den (:neg a) ρ = neg (den a ρ)

  abbrev pub ev : P → List A → A
  ev (con c) ρ = ι c
  ev (hor h t) [] = ev h []
  ev (hor h t) (x ∷ ρ) = add (ev h ρ) (mul x (ev t (x ∷ ρ)))

  -- ---- the operations on polynomials
  ev_addc : (c : ℤ) (q : P) (ρ : List A) → ev (addc c q) ρ ≡ add (ι c) (ev q ρ)
  ev_addc c (con d) ρ = ι_add c d
  ev_addc c (hor h t) [] = ev_addc c h []
  ev_addc c (hor h t) (x ∷ ρ) = ap (λ u. add u (mul x (ev t (x ∷ ρ)))) (ev_addc c h ρ) ∙ add_assoc (ι c) (ev h ρ) (mul x (ev t (x ∷ ρ)))

  ev_add : (p q : P) (ρ : List A) → ev (padd p q) ρ ≡ add (ev p ρ) (ev q ρ)
  ev_add (con c) q ρ = ev_addc c q ρ
  ev_add (hor h t) (con d) [] = ev_addc d h [] ∙ add_comm (ι d) (ev h [])
  ev_add (hor h t) (con d) (x ∷ ρ) = ap (λ u. add u (mul x (ev t (x ∷ ρ)))) (ev_addc d h ρ)
      ∙ add_assoc (ι d) (ev h ρ) (mul x (ev t (x ∷ ρ))) ∙ add_comm (ι d) (add (ev h ρ) (mul x (ev t (x ∷ ρ))))
  ev_add (hor h t) (hor h' t') [] = ev_add h h' []
  ev_add (hor h t) (hor h' t') (x ∷ ρ) = ap₂ (λ u w. add u (mul x w)) (ev_add h h' ρ) (ev_add t t' (x ∷ ρ))
      ∙ ap (λ u. add (add (ev h ρ) (ev h' ρ)) u) (mul_add R x (ev t (x ∷ ρ)) (ev t' (x ∷ ρ)))
      ∙ swap4 R (ev h ρ) (ev h' ρ) (mul x (ev t (x ∷ ρ))) (mul x (ev t' (x ∷ ρ)))

  times_hor : (a h x t : A) → add (mul a h) (mul x (mul a t)) ≡ mul a (add h (mul x t))
  times_hor a h x t = ap (λ u. add (mul a h) u) (mul_left_comm R x a t) ∙ sym (mul_add R a h (mul x t))

  ev_scale : (c : ℤ) (q : P) (ρ : List A) → ev (scale c q) ρ ≡ mul (ι c) (ev q ρ)
  ev_scale c (con d) ρ = ι_mul c d
  ev_scale c (hor h t) [] = ev_scale c h []
  ev_scale c (hor h t) (x ∷ ρ) = ap₂ (λ u w. add u (mul x w)) (ev_scale c h ρ) (ev_scale c t (x ∷ ρ))
      ∙ times_hor (ι c) (ev h ρ) x (ev t (x ∷ ρ))

  ev_sc : (c : ℤ) (q : P) (ρ : List A) → ev (sc c q) ρ ≡ mul (ι c) (ev q ρ)
  ev_sc (pos zero) q ρ = sym (zero_mul R (ev q ρ))
  ev_sc (pos (suc n)) q ρ = ev_scale (pos (suc n)) q ρ
  ev_sc (negsuc n) q ρ = ev_scale (negsuc n) q ρ

  ev_lift₀ : (f : P → P) (a : A) → ((z : P) → ev (f z) [] ≡ mul a (ev z [])) → (q : P) → ev (lift f q) [] ≡ mul a (ev q [])
  ev_lift₀ f a hf (con d) = hf (con d)
  ev_lift₀ f a hf (hor h t) = hf h

  ev_lift : (f : P → P) (a x : A) (ρ : List A) → ((z : P) → ev (f z) ρ ≡ mul a (ev z ρ)) → (q : P) →
      ev (lift f q) (x ∷ ρ) ≡ mul a (ev q (x ∷ ρ))
  ev_lift f a x ρ hf (con d) = ap₂ add (hf (con d)) (mul_zero R x) ∙ add_zero (mul a (ι d))
  ev_lift f a x ρ hf (hor h t) = ap₂ (λ u w. add u (mul x w)) (hf h) (ev_lift f a x ρ hf t) ∙ times_hor a (ev h ρ) x (ev t (x ∷ ρ))

  ev_mul : (p q : P) (ρ : List A) → ev (pmul p q) ρ ≡ mul (ev p ρ) (ev q ρ)
  ev_mul (con c) q ρ = ev_sc c q ρ
  ev_mul (hor h t) q [] = ev_add (lift (λ z. pmul h z) q) (hor (con (pos 0)) (pmul t q)) [] ∙ add_zero (ev (lift (λ z. pmul h z) q) [])
      ∙ ev_lift₀ (λ z. pmul h z) (ev h []) (λ z. ev_mul h z []) q
  ev_mul (hor h t) q (x ∷ ρ) = ev_add (lift (λ z. pmul h z) q) (hor (con (pos 0)) (pmul t q)) (x ∷ ρ)
      ∙ ap₂ add (ev_lift (λ z. pmul h z) (ev h ρ) x ρ (λ z. ev_mul h z ρ) q)
      (zero_add R (mul x (ev (pmul t q) (x ∷ ρ))) ∙ ap (λ u. mul x u) (ev_mul t q (x ∷ ρ))
      ∙ sym (mul_assoc x (ev t (x ∷ ρ)) (ev q (x ∷ ρ)))) ∙ sym (add_mul (ev h ρ) (mul x (ev t (x ∷ ρ))) (ev q (x ∷ ρ)))

  ev_var : (i : ℕ) (ρ : List A) → ev (var i) ρ ≡ nth ρ i
  ev_var zero [] = refl
  ev_var zero (x ∷ ρ) = zero_add R (mul x (ι (pos 1))) ∙ mul_one x
  ev_var (suc i) [] = ev_var i [] ∙ nth_nil i
    where
      nth_nil : (i : ℕ) → nth [] i ≡ ι (pos 0)
      nth_nil i = refl
  ev_var (suc i) (x ∷ ρ) = ap₂ add (ev_var i ρ) (mul_zero R x) ∙ add_zero (nth ρ i)

  ev_neg : (p : P) (ρ : List A) → ev (scale (negsuc 0) p) ρ ≡ neg (ev p ρ)
  ev_neg p ρ = ev_scale (negsuc 0) p ρ ∙ minus_one R (ev p ρ)

  pub sound : (e : E) (ρ : List A) → den e ρ ≡ ev (nf e) ρ
  sound (X i) ρ = sym (ev_var i ρ)
  sound (K c) ρ = refl
  sound (a :+ b) ρ = ap₂ add (sound a ρ) (sound b ρ) ∙ sym (ev_add (nf a) (nf b) ρ)
  sound (a :- b) ρ = ap₂ add (sound a ρ) (ap neg (sound b ρ) ∙ sym (ev_neg (nf b) ρ)) ∙ sym (ev_add (nf a) (scale (negsuc 0) (nf b)) ρ)
  sound (a :* b) ρ = ap₂ mul (sound a ρ) (sound b ρ) ∙ sym (ev_mul (nf a) (nf b) ρ)
  sound (:neg a) ρ = ap neg (sound a ρ) ∙ sym (ev_neg (nf a) ρ)

  pub ev_is_z : (p : P) (ρ : List A) → T (is_z p) → ev p ρ ≡ ι (pos 0)
  ev_is_z (con (pos zero)) ρ h = refl
  ev_is_z (con (pos (suc n))) ρ h = absurd h
  ev_is_z (con (negsuc n)) ρ h = absurd h
  ev_is_z (hor h t) [] p = ev_is_z h [] (and_left (is_z h) (is_z t) p)
  ev_is_z (hor h t) (x ∷ ρ) p = ap₂ (λ u w. add u (mul x w)) (ev_is_z h ρ (and_left (is_z h) (is_z t) p))
      (ev_is_z t (x ∷ ρ) (and_right (is_z h) (is_z t) p)) ∙ ap (λ u. add (ι (pos 0)) u) (mul_zero R x) ∙ add_zero (ι (pos 0))

  -- THE THEOREM: where the difference of two expressions has the normal form nought, they denote the same
  pub ring : (ρ : List A) (a b : E) → Zero (nf (a :- b)) → den a ρ ≡ den b ρ
  ring ρ a b h = sub_zero R (den a ρ) (den b ρ) (sound (a :- b) ρ ∙ ev_is_z (nf (a :- b)) ρ (zero_is (nf (a :- b)) h))
