-- The rest of the one sheet that has lines left: it follows as a whole.
use mathlib.Core.Path.{◌≡◌, refl, ap, ◌∙◌}
use mathlib.Core.List.{List, [], ◌∷◌, ◌++◌, append-nil, append_assoc}
use mathlib.Core.Logic.{◌⊎◌, inl, inr}
use Prim.Native.Nat.{ℕ, suc, ◌-◌, ◌<◌}
use native.Mathlib.Omega.{arith}
use native.Mathlib.Nat.{lt_irrefl}
use lib.Dec.{eqb}
use lib.IntN.{ℤ}
use lib.ListN.{length, get_or}
use borrow.Author.Tests.{eq-eqb, ne_eqb, eqb-true}
use Rattle.algebra.proofs.Test.{either}
use Rattle.stream.specs.Machine.{last_line, lines_from, lines}
use Rattle.stream.proofs.Lines.{no_line}
use Rattle.merge.specs.declared.Front.{Front}
use Rattle.merge.specs.Merge.{◌then◌, alone, follow, merge_from}
use Rattle.merge.specs.Call.{text}
use Rattle.merge.proofs.Rules.{no_stop, InFront, malformed, fallen, risen, in_front_lem}
use Rattle.merge.proofs.Turn.{merge_rest, one_sheet}

-- ---- the lines of a sheet, each with its newline, are the sheet, and a newline behind a last line without one
begun_newline : (s p : List ℕ) → 0 < length s → get_or s (length s - 1) 0 ≡ 10 → text (lines_from p s) ≡ p ++ s
unfolding text lines_from last_line
begun_newline [] p h e = absurd (lt_irrefl 0 h)
begun_newline (c ∷ []) p h e = rw (eq-eqb c 10 e, e)
begun_newline (c ∷ d ∷ cs) p h e =
    let i : suc (suc (length cs)) - 1 ≡ suc (suc (length cs) - 1) = omega arith in
    let t = rw i at e in
    either (eqb c 10) (λ n. rw (n, eqb-true c 10 n) (ap (λ (l : List ℕ). p ++ 10 ∷ l) (begun_newline (d ∷ cs) [] (omega arith) t)))
    (λ n. rw n (begun_newline (d ∷ cs) (p ++ c ∷ []) (omega arith) t ∙ rw append_assoc))

begun_other : (s p : List ℕ) → 0 < length s → (get_or s (length s - 1) 0 ≡ 10 → ⊥) → text (lines_from p s) ≡ p ++ (s ++ 10 ∷ [])
unfolding text lines_from last_line
begun_other [] p h n = absurd (lt_irrefl 0 h)
begun_other (c ∷ []) [] h n = rw (ne_eqb c 10 n)
begun_other (c ∷ []) (x ∷ p) h n = rw (ne_eqb c 10 n) (append_assoc (x ∷ p) (c ∷ []) (10 ∷ []))
begun_other (c ∷ d ∷ cs) p h e =
    let i : suc (suc (length cs)) - 1 ≡ suc (suc (length cs) - 1) = omega arith in
    let t = rw i at e in
    either (eqb c 10) (λ n. rw (n, eqb-true c 10 n) (ap (λ (l : List ℕ). p ++ 10 ∷ l) (begun_other (d ∷ cs) [] (omega arith) t)))
    (λ n. rw n (begun_other (d ∷ cs) (p ++ c ∷ []) (omega arith) t ∙ rw append_assoc))

pub text_none : (s : List ℕ) → length s ≡ 0 → text (lines s) ≡ []
unfolding text
text_none s e = rw (no_line s e)

module _ (s : List ℕ) (h : length s ≡ 0 → ⊥) where
  pub text_newline : get_or s (length s - 1) 0 ≡ 10 → text (lines s) ≡ s
  text_newline e = begun_newline s [] (omega arith) e

  pub text_other : (get_or s (length s - 1) 0 ≡ 10 → ⊥) → text (lines s) ≡ s ++ 10 ∷ []
  text_other n = begun_other s [] (omega arith) n

-- ---- "When only one sheet has lines left, that rest follows as a whole"
pub follows_whole : (k : ℤ) (ls : List (List ℕ)) → (follow k ls).refusal ≡ 0 → (follow k ls).copied ≡ ls
unfolding follow
follows_whole k [] e = refl
follows_whole k (l ∷ ls) e = go (in_front_lem k l) (λ n. follows_whole n ls) e
  where
    go : {f : Front} → InFront k l f → ((n : ℤ) → (follow n ls).refusal ≡ 0 → (follow n ls).copied ≡ ls) → (alone f (λ n. l then follow n ls)).refusal ≡ 0 → (alone f (λ n. l then follow n ls)).copied ≡ l ∷ ls
    go (malformed x) next e = no_stop (inl refl) e
    go (fallen x h) next e = no_stop (inr (inl refl)) e
    go (risen {n = n} x h) next e = ap (λ (t : List (List ℕ)). l ∷ t) (next n e)

module _ (j k : ℤ) (s t : List ℕ) (none : (merge_rest j k s t).refusal ≡ 0) where
  second_left : length s ≡ 0 → text (merge_rest j k s t).copied ≡ text (lines t)
  unfolding merge_rest merge_from
  second_left e =
      let is : merge_from j k (lines s) (lines t) ≡ follow k (lines t) = rw (no_line s e) in
      rw is (ap text (follows_whole k (lines t) (rw is at none)))

  first_left : length t ≡ 0 → text (merge_rest j k s t).copied ≡ text (lines s)
  unfolding merge_rest merge_from
  first_left e =
      let is : merge_from j k (lines s) (lines t) ≡ follow j (lines s) = rw (no_line t e) (one_sheet j k (lines s)) in
      rw is (ap text (follows_whole j (lines s) (rw is at none)))

  pub one_left : (length s ≡ 0) ⊎ (length t ≡ 0) → text (merge_rest j k s t).copied ≡ text (lines s) ++ text (lines t)
  one_left (inl e) = rw (text_none s e) (second_left e)
  one_left (inr e) = rw (text_none t e, append-nil) (first_left e)
