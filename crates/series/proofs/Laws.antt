-- What the engines use of the series, at a unit U, from T₀ terms on, for arguments up to R = p/q and with the bound 1/c.
use Prim.Native.Nat.{ℕ, ◌^◌, ◌≤◌, ◌<◌}
use mathlib.Core.Path.{subst}
use lib.Dec.{lit<}
use lib.IntN.{ℤ, pos, ◌+ℤ◌, ◌*ℤ◌}
use Rattle.algebra.specs.Order.{◌⩽◌}
use Rattle.algebra.specs.Gauss.{𝔾, ιᵍ, ◌+ᵍ◌, ◌-ᵍ◌, ◌*ᵍ◌}
use Rattle.algebra.specs.Size.{Within}
use Rattle.algebra.proofs.Power.{pow_pos}
use Rattle.series.specs.Series.{Sᵍ, Dᵍ, Dᶻ}
use Rattle.series.proofs.Series.{complex_is}
use Rattle.series.proofs.NearOne.{room, near_one}
use Rattle.series.proofs.NearOneSize.{size}
use Rattle.series.proofs.Tail.{TailBound, tail_within}
use Rattle.series.proofs.Carry.{carry}
use Rattle.series.proofs.Product.{product}
pub use Rattle.series.proofs.Bounds.{bound_9/4, bound_2, bound_16}

-- E T z over the divisor D T is the exponential
pub record LawsOf (E : ℕ → 𝔾 → 𝔾) (U T₀ p q c : ℕ) : Type 0 where
  -- |S/D − 1| ≤ r/(1 − r/2), r = ρ/U; room is 2U − ρ
  pub near_one : {z : 𝔾} {ρ : ℤ} → Within z ρ → ρ ⩽ pos 2 *ℤ pos U → (T : ℕ) → 1 ≤ T →
      Within (ιᵍ (room U ρ) *ᵍ (E T z -ᵍ Dᵍ U T)) (pos 2 *ℤ ρ *ℤ Dᶻ U T)
  -- |S/D| ≤ (1 + r/2)/(1 − r/2)
  pub size : {z : 𝔾} {ρ : ℤ} → Within z ρ → ρ ⩽ pos 2 *ℤ pos U → (T : ℕ) → 1 ≤ T →
      Within (ιᵍ (room U ρ) *ᵍ E T z) ((pos 2 *ℤ pos U +ℤ ρ) *ℤ Dᶻ U T)
  -- |S T/D T − S n/D n| ≤ 1/c
  pub tail : {z : 𝔾} {ρ : ℤ} → Within z ρ → pos q *ℤ ρ ⩽ pos p *ℤ pos U → (n T : ℕ) → T₀ ≤ n → n ≤ T →
      Within (ιᵍ (pos c) *ᵍ (Dᵍ U n *ᵍ E T z -ᵍ Dᵍ U T *ᵍ E n z)) (Dᶻ U n *ℤ Dᶻ U T)
  -- |S n/D n − w/k| ≤ r/(k · D n), with room for the tail, gives |S T/D T − w/k| ≤ m/k
  pub carry : {z : 𝔾} {ρ : ℤ} → Within z ρ → pos q *ℤ ρ ⩽ pos p *ℤ pos U → (k : ℕ) (w : 𝔾) (r m : ℤ) (n T : ℕ) → T₀ ≤ n → n ≤ T →
      Within (ιᵍ (pos k) *ᵍ E n z -ᵍ Dᵍ U n *ᵍ w) r → pos c *ℤ r +ℤ pos k *ℤ Dᶻ U n ⩽ pos c *ℤ (Dᶻ U n *ℤ m) →
      Within (ιᵍ (pos k) *ᵍ E T z -ᵍ Dᵍ U T *ᵍ w) (Dᶻ U T *ℤ m)
  -- |S a/D · S b/D − S (a + b)/D| ≤ 1/c
  pub product : {a b : 𝔾} {α β : ℤ} → Within a α → Within b β → pos q *ℤ (α +ℤ β) ⩽ pos p *ℤ pos U → (T : ℕ) → T₀ ≤ T →
      Within (ιᵍ (pos c) *ᵍ (E T a *ᵍ E T b -ᵍ Dᵍ U T *ᵍ E T (a +ᵍ b))) (Dᶻ U T *ℤ Dᶻ U T)

abbrev pub Laws : (U T₀ p q c : ℕ) → Type 0
Laws U = LawsOf (Sᵍ U) U

pub laws : (U T₀ p q c : ℕ) → 0 < U → 0 < c → TailBound T₀ p q c → Laws U T₀ p q c
laws U T₀ p q c U>0 c>0 tb = subst (λ E. LawsOf E U T₀ p q c) (λ i T z. complex_is U T z i) (record {
  near_one = λ h near T k. near_one U h near T k U>0;
  size = λ h near T k. size U h near T k U>0;
  tail = λ h near n T i k. tail_within T₀ p q c tb U U>0 h near n T i k;
  carry = λ h near. carry T₀ p q c tb c>0 U U>0 h near;
  product = λ h g near T k. product T₀ p q c tb U U>0 h g near T k;
})

-- at every width F, one is 2^F units
pub laws_at : (F : ℕ) → Laws (2 ^ F) 24 9 4 (2 ^ 50)
laws_at F = laws (2 ^ F) 24 9 4 (2 ^ 50) (pow_pos 2 (lit< tt) F) (lit< tt) bound_9/4

-- for far arguments (request E5)
pub laws_far : (F : ℕ) → Laws (2 ^ F) 80 16 1 (2 ^ 74)
laws_far F = laws (2 ^ F) 80 16 1 (2 ^ 74) (pow_pos 2 (lit< tt) F) (lit< tt) bound_16
