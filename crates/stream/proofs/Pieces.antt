-- THE LAW: read in any pieces, a sheet is answered as a whole, by any machine to which the first 117 bytes of a line tell the line.
use mathlib.Core.Path.{◌≡◌, refl, sym, ap, ◌∙◌}
use mathlib.Core.List.{List, [], ◌∷◌, ◌++◌, append_assoc, flatten}
use Prim.Native.Nat.{ℕ, zero, suc, ◌≤◌, ◌<◌}
use native.Mathlib.Omega.{arith}
use lib.Dec.{ltb, eqb}
use lib.ListN.{length, take}
use lib.Seq.{take_all, take-take, length-take-le}
use borrow.Author.Tests.{ltb-true, ltb-false}
use Rattle.algebra.proofs.Test.{either}
use Rattle.text.proofs.Longest.{too_long}
use Rattle.stream.specs.declared.State.{State}
use Rattle.stream.specs.Machine.{last_line, lines_from, lines, Machine, Place, kept_bytes, new_line, cut, answers, byte_answer, byte_after, answers_from, place_after, answers_at_end}
use Rattle.stream.specs.Sheet.{initial, answer_line, machine, heading, sheet}

-- ---- a line cut, and cut again behind some bytes more
cut_append : (n : ℕ) (l xs : List ℕ) → take n (take n l ++ xs) ≡ take n (l ++ xs)
cut_append zero l xs = refl
cut_append (suc n) [] xs = refl
cut_append (suc n) (c ∷ l) xs = ap (λ (t : List ℕ). c ∷ t) (cut_append n l xs)

pub cut_twice : {σ : Type 0} (p : Place σ) → cut (cut p) ≡ cut p
cut_twice p = rw (take-take kept_bytes kept_bytes p.begun (omega arith))

module _ {σ : Type 0} (m : Machine σ) where
  -- ---- a piece behind another
  pub after_append : (xs ys : List ℕ) (p : Place σ) → place_after m p (xs ++ ys) ≡ place_after m (place_after m p xs) ys
  unfolding place_after
  after_append [] ys p = refl
  after_append (c ∷ xs) ys p = after_append xs ys (byte_after m p c)

  pub answers_append : (xs ys : List ℕ) (p : Place σ) →
      answers_from m p (xs ++ ys) ≡ answers_from m p xs ++ answers_from m (place_after m p xs) ys
  unfolding answers_from place_after
  answers_append [] ys p = refl
  answers_append (c ∷ xs) ys p =
      let q = byte_after m p c in
      ap (λ (l : List ℕ). byte_answer m p c ++ l) (answers_append xs ys q)
      ∙ sym (append_assoc (byte_answer m p c) (answers_from m q xs) (answers_from m (place_after m q xs) ys))

  -- ---- byte by byte is line by line
  one_byte : (c : ℕ) (cs : List ℕ) (p : Place σ) →
      byte_answer m p c ++ answers m (byte_after m p c).state (lines_from (byte_after m p c).begun cs)
      ≡ answers m p.state (lines_from p.begun (c ∷ cs))
  unfolding answers lines_from
  one_byte c cs p = either (eqb c 10) (λ e. rw e) (λ e. rw e)

  by_lines : (s : List ℕ) (p : Place σ) →
      answers_from m p s ++ answers_at_end m (place_after m p s) ≡ answers m p.state (lines_from p.begun s)
  unfolding answers_from place_after answers_at_end lines_from
  by_lines [] p = refl
  by_lines (c ∷ cs) p =
      let q = byte_after m p c in
      append_assoc (byte_answer m p c) (answers_from m q cs) (answers_at_end m (place_after m q cs))
      ∙ (ap (λ (l : List ℕ). byte_answer m p c ++ l) (by_lines cs q) ∙ one_byte c cs p)

  -- ---- pieces one after the other; between two of them a line that has begun is cut
  unfoldable pub answers_in_pieces : Place σ → List (List ℕ) → List ℕ
  answers_in_pieces p [] = answers_at_end m p
  answers_in_pieces p (x ∷ xs) = answers_from m p x ++ answers_in_pieces (cut (place_after m p x)) xs

  module _ (told : (s : σ) (l : List ℕ) → m.next s (take kept_bytes l) ≡ m.next s l) where
    -- ---- nothing sees the cut: not a byte
    byte_answer_lem : (p : Place σ) (c : ℕ) → byte_answer m (cut p) c ≡ byte_answer m p c
    byte_answer_lem p c = rw (told p.state p.begun)

    byte_after_lem : (p : Place σ) (c : ℕ) → cut (byte_after m (cut p) c) ≡ cut (byte_after m p c)
    byte_after_lem p c = either (eqb c 10) (λ e. rw (e, told p.state p.begun)) (λ e. rw (e, cut_append kept_bytes p.begun (c ∷ [])))

    alike : {A : Type 0} (f : Place σ → A) → ((p : Place σ) → f (cut p) ≡ f p) → (p q : Place σ) → cut p ≡ cut q → f p ≡ f q
    alike f h p q e = sym (h p) ∙ (ap f e ∙ h q)

    -- not a piece
    cut_answers : (xs : List ℕ) (p : Place σ) → answers_from m (cut p) xs ≡ answers_from m p xs
    unfolding answers_from
    cut_answers [] p = refl
    cut_answers (c ∷ cs) p =
        let rest = alike (λ q. answers_from m q cs) (cut_answers cs) (byte_after m (cut p) c) (byte_after m p c) (byte_after_lem p c) in
        λ i. byte_answer_lem p c i ++ rest i

    cut_after : (xs : List ℕ) (p : Place σ) → cut (place_after m (cut p) xs) ≡ cut (place_after m p xs)
    unfolding place_after
    cut_after [] p = cut_twice p
    cut_after (c ∷ cs) p = alike (λ q. cut (place_after m q cs)) (cut_after cs) (byte_after m (cut p) c) (byte_after m p c) (byte_after_lem p c)

    -- not the sheet's end
    cut_end : (p : Place σ) → answers_at_end m (cut p) ≡ answers_at_end m p
    unfolding answers_at_end answers last_line
    cut_end p = go p.begun
      where
        go : (l : List ℕ) → answers m p.state (last_line (take kept_bytes l)) ≡ answers m p.state (last_line l)
        go [] = refl
        go (c ∷ l) = rw (told p.state (c ∷ l))

    whole : (xs : List (List ℕ)) (p : Place σ) →
        answers_in_pieces (cut p) xs ≡ answers_from m p (flatten xs) ++ answers_at_end m (place_after m p (flatten xs))
    unfolding answers_in_pieces answers_from place_after flatten
    whole [] p = cut_end p
    whole (x ∷ xs) p =
        let q = place_after m p x in
        let rest = flatten xs in
        rw (cut_answers x p, cut_after x p, whole xs q, after_append x rest p, answers_append x rest p, append_assoc)

    -- ---- THE LAW
    pub in_pieces : (s : σ) (xs : List (List ℕ)) → answers_in_pieces (new_line s) xs ≡ answers m s (lines (flatten xs))
    in_pieces s xs = whole xs (new_line s) ∙ by_lines (flatten xs) (new_line s)

    -- a piece read in two goes: the second goes on from where the first led
    pub goes_on : (p q : Place σ) (xs ys : List ℕ) →
        cut q ≡ cut (place_after m p xs) → cut (place_after m q ys) ≡ cut (place_after m p (xs ++ ys))
    goes_on p q xs ys e =
        alike (λ r. cut (place_after m r ys)) (cut_after ys) q (place_after m p xs) e ∙ ap (λ r. cut r) (sym (after_append xs ys p))

-- ---- THE MACHINE: no line over 116 bytes has the form
pub told : (s : State) (l : List ℕ) → answer_line s (take kept_bytes l) ≡ answer_line s l
unfolding answer_line
told s l = either (ltb (length l) kept_bytes) (λ e. short (ltb-true (length l) kept_bytes e))
    (λ e. long (ltb-false (length l) kept_bytes e))
  where
    short : length l < kept_bytes → answer_line s (take kept_bytes l) ≡ answer_line s l
    short h = rw (take_all kept_bytes l (omega arith))

    long : kept_bytes ≤ length l → answer_line s (take kept_bytes l) ≡ answer_line s l
    long h =
        let n : 116 < length (take kept_bytes l) = rw (length-take-le kept_bytes l h) (omega arith) in
        rw (too_long (take kept_bytes l) n, too_long l (omega arith))

-- so, fed in any pieces, the bytes written are those of the whole sheet's answer
pub sheet_in_pieces : (xs : List (List ℕ)) → heading ++ answers_in_pieces machine (new_line initial) xs ≡ sheet (flatten xs)
unfolding sheet
sheet_in_pieces xs = ap (λ (l : List ℕ). heading ++ l) (in_pieces machine told initial xs)
