-- What the writing pass leaves: the bytes that are still to come, behind those written, make the whole.
use mathlib.Core.Path.{◌≡◌, refl, sym, ◌∙◌}
use mathlib.Core.List.{List, [], ◌∷◌, ◌++◌, append-nil, append_assoc}
use Prim.Native.Nat.{ℕ, ◌+◌, ◌≤◌}
use native.Mathlib.Omega.{arith}
use lib.ListN.{length, length-append}
use lib.Seq.{sets}
use Rattle.buffer.specs.Code.{Put}
use Rattle.buffer.proofs.Put.{go_on}
use Rattle.buffer.proofs.Put as put
use Rattle.merge.specs.Merge.{Merge, stopped, ◌then◌}
use Rattle.merge.specs.Call.{text}

-- w bytes are written over b, which makes it b', and `rest` is still to come
pub record Reached (whole b b' rest : List ℕ) (w : ℕ) : Type 0 where
  pub count : w + length rest ≡ length whole
  pub bytes : sets b' w rest ≡ sets b 0 whole
  pub kept : length b' ≡ length b

begin : (whole b : List ℕ) → Reached whole b b whole 0
begin whole b = record { count = omega arith; bytes = refl; kept = refl }

finish : {whole b b' : List ℕ} {w : ℕ} → Reached whole b b' [] w → Put b 0 whole b' w
finish r = record { bytes = r.bytes; after = omega (arith, r.count) }

onward : {whole b b' xs rest b'' : List ℕ} {w w' : ℕ} → Reached whole b b' (xs ++ rest) w → Put b' w xs b'' w' → Reached whole b b'' rest w'
onward {xs = xs} {rest = rest} r p =
    record {
      count = omega (arith, r.count, p.after, length-append xs rest);
      bytes = go_on rest p ∙ r.bytes;
      kept = put.kept p ∙ r.kept;
    }

line_first : (l : List ℕ) (ls : List (List ℕ)) → text (l ∷ ls) ≡ (l ++ 10 ∷ []) ++ text ls
unfolding text
line_first l ls = sym (append_assoc l (10 ∷ []) (text ls))

-- ---- with the merge m still to come, which nothing stops
pub record Writing (whole b b' : List ℕ) (m : Merge) (w : ℕ) : Type 0 where
  pub free : m.refusal ≡ 0
  pub reached : Reached whole b b' (text m.copied) w

module _ {whole b b' : List ℕ} {w : ℕ} {m : Merge} (r : Writing whole b b' m w) where
  -- a line
  module _ (l : List ℕ) (m' : Merge) (e : m ≡ l then m') where
    ahead : Reached whole b b' ((l ++ 10 ∷ []) ++ text m'.copied) w
    ahead = rw (line_first l m'.copied) at (rw e at r.reached)

    pub line_written : {b'' : List ℕ} {w' : ℕ} → Put b' w (l ++ 10 ∷ []) b'' w' → Writing whole b b'' m' w'
    line_written p = record { free = rw e at r.free; reached = onward ahead p }

    pub line_fits : length whole ≤ length b → w + length l + 1 ≤ length b'
    line_fits h =
        omega (arith, ahead.count, ahead.kept, length-append (l ++ 10 ∷ []) (text m'.copied), length-append l (10 ∷ []))

  -- none
  pub nothing_written : {m' : Merge} → m ≡ m' → Writing whole b b' m' w
  nothing_written e = record { free = rw e at r.free; reached = rw e at r.reached }

  -- all that is left
  pub all_written : {e : ℕ} → m ≡ stopped e → Put b 0 whole b' w
  unfolding text
  all_written e = finish (rw e at r.reached)

  -- what is left of the one sheet and of the other
  module _ (xs ys : List ℕ) (e : text m.copied ≡ xs ++ ys) where
    parted : Reached whole b b' (xs ++ ys) w
    parted = rw e at r.reached

    pub first_fits : length whole ≤ length b → w + length xs ≤ length b'
    first_fits h = omega (arith, parted.count, parted.kept, length-append xs ys)

    pub first_written : {b'' : List ℕ} {w' : ℕ} → Put b' w xs b'' w' → Reached whole b b'' ys w'
    first_written p = onward parted p

module _ {whole b b' rest : List ℕ} {w : ℕ} (r : Reached whole b b' rest w) where
  pub rest_fits : length whole ≤ length b → w + length rest ≤ length b'
  rest_fits h = omega (arith, r.count, r.kept)

  pub rest_written : {b'' : List ℕ} {w' : ℕ} → Put b' w rest b'' w' → Put b 0 whole b'' w'
  rest_written p = finish (onward (rw (← append-nil rest) at r) p)

pub start : (m : Merge) (b : List ℕ) → m.refusal ≡ 0 → Writing (text m.copied) b b m 0
start m b e = record { free = e; reached = begin (text m.copied) b }
