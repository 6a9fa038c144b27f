-- The inequality prover `lin` (Lib says how it is used): from facts with their terms to l ≤ r, l < r or an absurdity.
use mathlib.Core.Path.{◌≡◌, sym, subst₂}
use mathlib.Core.List.{List, [], ◌∷◌}
use mathlib.Core.Bool.{Bool, true, false}
use mathlib.Core.Logic.{⊎_elim}
use Prim.Native.Nat.{ℕ, ◌≤◌}
use lib.Dec.{T}
use lib.IntN.{ℤ, pos, ◌+ℤ◌}
use lib.Signed.{◌<ℤ◌}
use Rattle.algebra.specs.Order.{◌⩽◌}
use Rattle.algebra.proofs.Integer.{ℤR}
use Rattle.algebra.proofs.Solver.{K, ◌:+◌, P, nf, den, monos}
use Rattle.algebra.proofs.Reify.{Q, Qs, qs_nil, qs_two}
use Rattle.algebra.proofs.Order.{le_or_gt, ⩽_of_eq, suc_le_of_lt, lt_of_suc_le, pos_mono}
use Rattle.algebra.proofs.Certificate.{H, ◌:≤◌, C, cex, is_neg, Holds, refute}
use Rattle.algebra.proofs.Elimination.{find}

-- ---- proofs of facts, with their terms
infixr 5 ◌&◌ ◌&≡◌ ◌&<◌ ◌&ℕ◌
pub data Facts : List ℤ → Type 0 where
  none : Facts []
  ◌&◌ : {a b : ℤ} {ts : List ℤ} → a ⩽ b → Facts ts → Facts (a ∷ b ∷ ts)
  ◌&<◌ : {a b : ℤ} {ts : List ℤ} → a <ℤ b → Facts ts → Facts (a ∷ b ∷ ts)
  ◌&≡◌ : {a b : ℤ} {ts : List ℤ} → a ≡ b → Facts ts → Facts (a ∷ b ∷ ts)
  ◌&ℕ◌ : {m n : ℕ} {ts : List ℤ} → m ≤ n → Facts ts → Facts (pos m ∷ pos n ∷ ts)

abbrev pub hyps : {ρ : List ℤ} {ts : List ℤ} → Facts ts → Qs ℤR ρ ts → List H
hyps none qs_nil = []
hyps (h & hs) (qs_two p q qs) = (p.e :≤ q.e) ∷ hyps hs qs
hyps (h &< hs) (qs_two p q qs) = (p.e :+ K (pos 1) :≤ q.e) ∷ hyps hs qs
hyps (h &≡ hs) (qs_two p q qs) = (p.e :≤ q.e) ∷ (q.e :≤ p.e) ∷ hyps hs qs
hyps (h &ℕ hs) (qs_two p q qs) = (p.e :≤ q.e) ∷ hyps hs qs

at : {ρ : List ℤ} {a b : ℤ} (p : Q ℤR ρ a) (q : Q ℤR ρ b) → a ⩽ b → den ℤR p.e ρ ⩽ den ℤR q.e ρ
at p q h = subst₂ ◌⩽◌ (sym p.ok) (sym q.ok) h

all_hold : {ρ : List ℤ} {ts : List ℤ} (hs : Facts ts) (qs : Qs ℤR ρ ts) → Holds ρ (hyps hs qs)
all_hold none qs_nil = tt
all_hold (h & hs) (qs_two p q qs) = (at p q h, all_hold hs qs)
all_hold (h &< hs) (qs_two p q qs) = (subst₂ (λ u w. u +ℤ pos 1 ⩽ w) (sym p.ok) (sym q.ok) (suc_le_of_lt h), all_hold hs qs)
all_hold (h &≡ hs) (qs_two p q qs) = (at p q (⩽_of_eq h), (at q p (⩽_of_eq (sym h)), all_hold hs qs))
all_hold (h &ℕ hs) (qs_two p q qs) = (at p q (pos_mono h), all_hold hs qs)

pub data Stuck : List (ℤ × List ℕ) → Type 0 where

abbrev pub Judged : Bool → P → Type 0
Judged true p = Unit {0}
Judged false p = Stuck (monos p [] 0)

abbrev pub Contra : List H → Type 0
Contra hs = let d = find hs in let e = cex hs d in let c = nf e in Judged (is_neg c) c

contra_is : (b : Bool) (p : P) → Judged b p → T b
contra_is true p h = tt
contra_is false p h = elim h [ ]

refuted : (ρ : List ℤ) (hs : List H) → Contra hs → Holds ρ hs → ⊥
refuted ρ hs t p = refute ρ hs (find hs) (contra_is (is_neg (nf (cex hs (find hs)))) (nf (cex hs (find hs))) t) p

-- THE THEOREMS. From the facts l ≤ r
abbrev pub Le : {ρ : List ℤ} {l r : ℤ} {ts : List ℤ} → Facts ts → Qs ℤR ρ (l ∷ r ∷ ts) → Type 0
Le hs (qs_two p q qs) = Contra ((q.e :+ K (pos 1) :≤ p.e) ∷ hyps hs qs)

pub lin : (ρ : List ℤ) {ts : List ℤ} {l r : ℤ} (hs : Facts ts) (qs : Qs ℤR ρ (l ∷ r ∷ ts)) → Le hs qs → l ⩽ r
lin ρ {l} {r} hs (qs_two p q qs) t = ⊎_elim (λ x. x)
    (λ x. absurd (refuted ρ ((q.e :+ K (pos 1) :≤ p.e) ∷ hyps hs qs) t
    (subst₂ (λ u w. u +ℤ pos 1 ⩽ w) (sym q.ok) (sym p.ok) x, all_hold hs qs))) (le_or_gt l r)

-- l < r
abbrev pub Lt : {ρ : List ℤ} {l r : ℤ} {ts : List ℤ} → Facts ts → Qs ℤR ρ (l ∷ r ∷ ts) → Type 0
Lt hs (qs_two p q qs) = Contra ((q.e :≤ p.e) ∷ hyps hs qs)

pub lin< : (ρ : List ℤ) {ts : List ℤ} {l r : ℤ} (hs : Facts ts) (qs : Qs ℤR ρ (l ∷ r ∷ ts)) → Lt hs qs → l <ℤ r
lin< ρ {l} {r} hs (qs_two p q qs) t = ⊎_elim (λ x. absurd (refuted ρ ((q.e :≤ p.e) ∷ hyps hs qs) t (at q p x, all_hold hs qs)))
    (λ x. lt_of_suc_le x) (le_or_gt r l)

-- nothing
pub lin_false : (ρ : List ℤ) {ts : List ℤ} (hs : Facts ts) (qs : Qs ℤR ρ ts) → Contra (hyps hs qs) → ⊥
lin_false ρ hs qs t = refuted ρ (hyps hs qs) t (all_hold hs qs)

-- by a certificate that is given: fact 0 is r + 1 ≤ l, then the facts in their order (an equation is two)
abbrev pub By : C → {ρ : List ℤ} {l r : ℤ} {ts : List ℤ} → Facts ts → Qs ℤR ρ (l ∷ r ∷ ts) → Type 0
By c hs (qs_two p q qs) = let d = nf (cex ((q.e :+ K (pos 1) :≤ p.e) ∷ hyps hs qs) c) in Judged (is_neg d) d

pub lin_by : (ρ : List ℤ) {ts : List ℤ} {l r : ℤ} (c : C) (hs : Facts ts) (qs : Qs ℤR ρ (l ∷ r ∷ ts)) → By c hs qs → l ⩽ r
lin_by ρ {l} {r} c hs (qs_two p q qs) t = ⊎_elim (λ x. x)
    (λ x. absurd (refute ρ all c (contra_is (is_neg (nf (cex all c))) (nf (cex all c)) t)
    (subst₂ (λ u w. u +ℤ pos 1 ⩽ w) (sym q.ok) (sym p.ok) x, all_hold hs qs))) (le_or_gt l r)
  where
    all : List H
    all = (q.e :+ K (pos 1) :≤ p.e) ∷ hyps hs qs
