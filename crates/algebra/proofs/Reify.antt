-- Expressions read off terms: `ring! R ρ (search RULES depth 20) tt` proves an identity in the ring R with the atoms ρ (Lib says how).
-- A rule reads one form of term, and the rules are stated once over any ring. A term over ℤ or 𝔾 shows the operation and not the ring's
-- record, so `search` wants each rule again by that name; those are one line each. An atom is found by its place in the list.
use mathlib.Core.Path.{◌≡◌, refl, sym, ◌∙◌, ap, ap₂}
use mathlib.Core.List.{List, [], ◌∷◌}
use Prim.Native.Nat.{ℕ, zero, suc, ◌+◌, ◌*◌}
use native.Mathlib.Numerals.{add-one}
use lib.Dec.{T, leb}
use lib.IntN.{ℤ, pos, negsuc, ◌+ℤ◌, ◌*ℤ◌, neg_ℤ}
use Rattle.algebra.specs.Gauss.{𝔾, ◌+ᵍ◌, ◌*ᵍ◌, negᵍ, ιᵍ}
use Rattle.algebra.proofs.Ring.{Ring}
use Rattle.algebra.proofs.Integer.{ℤR}
use Rattle.algebra.proofs.Gauss.{g_ι_add, g_ι_mul, g_ι_neg, 𝔾R}
use Rattle.algebra.proofs.Solver.{E, X, K, ◌:+◌, ◌:-◌, ◌:*◌, :neg, ring, den, nf, nth, Zero}

-- (the rules for numerals ask `leb n n`, which computes at a numeral alone)
pub is_lit : Unit {0}
is_lit = tt

-- an expression that denotes t
pub record Q (R : Ring) (ρ : List R.A) (t : R.A) : Type 0 where
  pub e : E
  pub ok : den R e ρ ≡ t

-- a place of the list where x stands
pub data At {A : Type 0} : List A → A → Type 0 where
  here : {x : A} {ρ : List A} → At (x ∷ ρ) x
  there : {x y : A} {ρ : List A} → At ρ x → At (y ∷ ρ) x

abbrev pub place : {A : Type 0} {ρ : List A} {x : A} → At ρ x → ℕ
place here = zero
place (there p) = suc (place p)

pub place_is : (R : Ring) {ρ : List R.A} {x : R.A} (p : At ρ x) → nth R ρ (place p) ≡ x
place_is R here = refl
place_is R (there p) = place_is R p

-- (four at a time: `search` goes deeper by one for every rule)
module _ {A : Type 0} where
  abbrev pub at_1 : {a x : A} {ρ : List A} → At (a ∷ x ∷ ρ) x
  at_1 = there here

  abbrev pub at_2 : {a b x : A} {ρ : List A} → At (a ∷ b ∷ x ∷ ρ) x
  at_2 = there at_1

  abbrev pub at_3 : {a b c x : A} {ρ : List A} → At (a ∷ b ∷ c ∷ x ∷ ρ) x
  at_3 = there at_2

  abbrev pub past_4 : {a b c d x : A} {ρ : List A} → At ρ x → At (a ∷ b ∷ c ∷ d ∷ ρ) x
  past_4 p = there (there (there (there p)))

-- expressions for a list of terms, two by two: the sides of the goal, then those of each fact
pub data Qs (R : Ring) (ρ : List R.A) : List R.A → Type 0 where
  qs_nil : Qs R ρ []
  qs_two : {a b : R.A} {ts : List R.A} → Q R ρ a → Q R ρ b → Qs R ρ ts → Qs R ρ (a ∷ b ∷ ts)

abbrev pub Same : {R : Ring} {ρ : List R.A} {a b : R.A} → Qs R ρ (a ∷ b ∷ []) → Type 0
Same (qs_two p q qs_nil) = Zero (nf (p.e :- q.e))

pub ring! : (R : Ring) (ρ : List R.A) {a b : R.A} (q : Qs R ρ (a ∷ b ∷ [])) → Same q → a ≡ b
ring! R ρ (qs_two p q qs_nil) t = sym p.ok ∙ ring R ρ p.e q.e t ∙ q.ok

-- ---- any ring
module _ {R : Ring} {ρ : List R.A} where
  abbrev pub r_atom : {x : R.A} → At ρ x → Q R ρ x
  r_atom p = record { e = X (place p); ok = place_is R p }

  abbrev pub r_end : Qs R ρ []
  r_end = qs_nil

  abbrev pub r_two : {a b : R.A} {ts : List R.A} → Q R ρ a → Q R ρ b → Qs R ρ ts → Qs R ρ (a ∷ b ∷ ts)
  r_two p q qs = qs_two p q qs

  abbrev pub r_add : {a b : R.A} → Q R ρ a → Q R ρ b → Q R ρ (R.add a b)
  r_add p q = record { e = p.e :+ q.e; ok = ap₂ R.add p.ok q.ok }

  abbrev pub r_mul : {a b : R.A} → Q R ρ a → Q R ρ b → Q R ρ (R.mul a b)
  r_mul p q = record { e = p.e :* q.e; ok = ap₂ R.mul p.ok q.ok }

  abbrev pub r_neg : {a : R.A} → Q R ρ a → Q R ρ (R.neg a)
  r_neg p = record { e = :neg p.e; ok = ap R.neg p.ok }

  abbrev pub r_lit : (n : ℕ) → T (leb n n) → Q R ρ (R.ι (pos n))
  r_lit n l = record { e = K (pos n); ok = refl }

-- ---- ℤ, with the naturals inside `pos`
module _ {ρ : List ℤ} where
  abbrev pub z_atom : {x : ℤ} → At ρ x → Q ℤR ρ x
  z_atom p = r_atom p

  abbrev pub z_end : Qs ℤR ρ []
  z_end = qs_nil

  abbrev pub z_two : {a b : ℤ} {ts : List ℤ} → Q ℤR ρ a → Q ℤR ρ b → Qs ℤR ρ ts → Qs ℤR ρ (a ∷ b ∷ ts)
  z_two p q qs = qs_two p q qs

  abbrev pub z_add : {a b : ℤ} → Q ℤR ρ a → Q ℤR ρ b → Q ℤR ρ (a +ℤ b)
  z_add p q = r_add p q

  abbrev pub z_mul : {a b : ℤ} → Q ℤR ρ a → Q ℤR ρ b → Q ℤR ρ (a *ℤ b)
  z_mul p q = r_mul p q

  abbrev pub z_neg : {a : ℤ} → Q ℤR ρ a → Q ℤR ρ (neg_ℤ a)
  z_neg p = r_neg p

  abbrev pub z_lit : (n : ℕ) → T (leb n n) → Q ℤR ρ (pos n)
  z_lit n l = r_lit n l

  abbrev pub z_nlit : (n : ℕ) → T (leb n n) → Q ℤR ρ (negsuc n)
  z_nlit n l = record { e = K (negsuc n); ok = refl }

  abbrev pub z_padd : {m n : ℕ} → Q ℤR ρ (pos m) → Q ℤR ρ (pos n) → Q ℤR ρ (pos (m + n))
  z_padd p q = r_add p q

  abbrev pub z_pmul : {m n : ℕ} → Q ℤR ρ (pos m) → Q ℤR ρ (pos n) → Q ℤR ρ (pos (m * n))
  z_pmul p q = r_mul p q

  abbrev pub z_psuc : {n : ℕ} → Q ℤR ρ (pos n) → Q ℤR ρ (pos (suc n))
  z_psuc {n} p = record { e = p.e :+ K (pos 1); ok = ap (λ t. t +ℤ pos 1) p.ok ∙ ap pos (add-one n) }

  abbrev pub z_nsuc : {n : ℕ} → Q ℤR ρ (pos n) → Q ℤR ρ (negsuc n)
  z_nsuc {n} p = record { e = :neg (p.e :+ K (pos 1)); ok = ap (λ t. neg_ℤ (t +ℤ pos 1)) p.ok ∙ ap (λ t. neg_ℤ (pos t)) (add-one n) }

-- ---- 𝔾, with the integers inside `ιᵍ`
module _ {ρ : List 𝔾} where
  abbrev pub g_atom : {x : 𝔾} → At ρ x → Q 𝔾R ρ x
  g_atom p = r_atom p

  abbrev pub g_end : Qs 𝔾R ρ []
  g_end = qs_nil

  abbrev pub g_two : {a b : 𝔾} {ts : List 𝔾} → Q 𝔾R ρ a → Q 𝔾R ρ b → Qs 𝔾R ρ ts → Qs 𝔾R ρ (a ∷ b ∷ ts)
  g_two p q qs = qs_two p q qs

  abbrev pub g_add : {a b : 𝔾} → Q 𝔾R ρ a → Q 𝔾R ρ b → Q 𝔾R ρ (a +ᵍ b)
  g_add p q = r_add p q

  abbrev pub g_mul : {a b : 𝔾} → Q 𝔾R ρ a → Q 𝔾R ρ b → Q 𝔾R ρ (a *ᵍ b)
  g_mul p q = r_mul p q

  abbrev pub g_neg : {a : 𝔾} → Q 𝔾R ρ a → Q 𝔾R ρ (negᵍ a)
  g_neg p = r_neg p

  abbrev pub g_lit : (n : ℕ) → T (leb n n) → Q 𝔾R ρ (ιᵍ (pos n))
  g_lit n l = r_lit n l

  abbrev pub g_ι+ : (a b : ℤ) → Q 𝔾R ρ (ιᵍ a) → Q 𝔾R ρ (ιᵍ b) → Q 𝔾R ρ (ιᵍ (a +ℤ b))
  g_ι+ a b p q = record { e = p.e :+ q.e; ok = ap₂ ◌+ᵍ◌ p.ok q.ok ∙ sym (g_ι_add a b) }

  abbrev pub g_ι* : (a b : ℤ) → Q 𝔾R ρ (ιᵍ a) → Q 𝔾R ρ (ιᵍ b) → Q 𝔾R ρ (ιᵍ (a *ℤ b))
  g_ι* a b p q = record { e = p.e :* q.e; ok = ap₂ ◌*ᵍ◌ p.ok q.ok ∙ sym (g_ι_mul a b) }

  abbrev pub g_ι- : (a : ℤ) → Q 𝔾R ρ (ιᵍ a) → Q 𝔾R ρ (ιᵍ (neg_ℤ a))
  g_ι- a p = record { e = :neg p.e; ok = ap negᵍ p.ok ∙ sym (g_ι_neg a) }

-- ---- the rules, in the order in which they are tried: a term that is listed as an atom is not taken apart
pub ruleset atoms = (here, at_1, at_2, at_3, past_4)

pub ruleset reifyᴿ = (r_atom, r_add, r_mul, r_neg, r_lit, r_end, r_two, is_lit, atoms)

pub ruleset reify = (z_atom, z_add, z_mul, z_neg, z_lit, z_nlit, z_padd, z_pmul, z_psuc, z_nsuc, z_end, z_two, is_lit, atoms)

pub ruleset reifyᵍ = (g_atom, g_add, g_mul, g_neg, g_lit, g_ι+, g_ι*, g_ι-, g_end, g_two, is_lit, atoms)
