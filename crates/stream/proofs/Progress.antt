-- How far a piece is read, for any machine: line by line, from a place in it to the end of the line there.
use mathlib.Core.Path.{◌≡◌, refl, sym, ap, ◌∙◌}
use mathlib.Core.Bool.{◌&&◌}
use mathlib.Core.List.{List, [], ◌∷◌, ◌++◌, append-nil, append_assoc}
use Prim.Native.Nat.{ℕ, suc, ◌+◌, ◌-◌, ◌≤◌, ◌<◌}
use native.Mathlib.Omega.{arith}
use native.Mathlib.Numerals.{add-one}
use lib.Dec.{ltb, eqb}
use lib.ListN.{length, get_or, take, drop, take-append-drop, drop_of_length-le}
use lib.Seq.{slice, take-take, take-suc, drop-cons, length-slice}
use borrow.Author.Tests.{lt-ltb, le-ltb, ne_eqb}
use Rattle.algebra.proofs.Test.{either}
use Rattle.buffer.specs.Code.{Put}
use Rattle.buffer.proofs.Put.{nothing, then, to_front}
use Rattle.scan.proofs.Find.{Without, Ended, parted}
use Rattle.text.specs.Answer.{answer_room}
use Rattle.stream.specs.Machine.{Machine, Place, new_line, go_on, cut, line_end, byte_answer, byte_after, answers_from, place_after, read_within}
use Rattle.stream.proofs.Pieces.{after_append, answers_append}

module _ {σ : Type 0} (m : Machine σ) where
  -- ---- bytes with no newline among them
  plain_after : (xs : List ℕ) (p : Place σ) → Without 10 xs → place_after m p xs ≡ go_on p xs
  unfolding place_after
  plain_after [] p h = rw append-nil
  plain_after (c ∷ xs) p h = rw (ne_eqb c 10 h.0) (plain_after xs (go_on p (c ∷ [])) h.1 ∙ rw append_assoc)

  plain_answers : (xs : List ℕ) (p : Place σ) → Without 10 xs → answers_from m p xs ≡ []
  unfolding answers_from
  plain_answers [] p h = refl
  plain_answers (c ∷ xs) p h = rw (ne_eqb c 10 h.0) (plain_answers xs (go_on p (c ∷ [])) h.1)

  plain_read : (xs ys : List ℕ) (p : Place σ) (room : ℕ) → Without 10 xs →
      read_within m room p (xs ++ ys) ≡ length xs + read_within m room (go_on p xs) ys
  unfolding read_within
  plain_read [] ys p room h = rw append-nil (omega arith)
  plain_read (c ∷ xs) ys p room h =
      let e : room - 0 ≡ room = omega arith in
      rw (ne_eqb c 10 h.0, e) (ap suc (plain_read xs ys (go_on p (c ∷ [])) room h.1) ∙ rw append_assoc (omega arith))

  -- ---- with s read up to i from p on, which led to q, and w bytes of b written
  pub record Reached (p : Place σ) (s b b' : List ℕ) (q : Place σ) (i w : ℕ) : Type 0 where
    pub high : i ≤ length s
    pub place : place_after m p (take i s) ≡ q
    pub wrote : Put b 0 (answers_from m p (take i s)) b' w
    pub within : w ≤ length b
    pub rest : i + read_within m (length b - w) q (drop i s) ≡ read_within m (length b) p s

  pub begin : (p : Place σ) (s b : List ℕ) → Reached p s b b p 0 0
  unfolding place_after answers_from
  begin p s b =
      let e : length b - 0 ≡ length b = omega arith in
      record { high = omega arith; place = refl; wrote = nothing b 0; within = omega arith; rest = rw e (omega arith) }

  module _ {p q : Place σ} {s b b' : List ℕ} {i w : ℕ} (f : Reached p s b b' q i w) where
    -- to the end of the line: nothing is written
    module _ {e : ℕ} (l : Ended 10 s i e) where
      up_to : take e s ≡ take i s ++ slice i e s
      up_to = sym (take-append-drop i (take e s)) ∙ ap (λ (t : List ℕ). t ++ slice i e s) (take-take i e s l.low)

      silent : answers_from m p (take e s) ≡ answers_from m p (take i s)
      silent =
          ap (answers_from m p) up_to
          ∙ (answers_append m (take i s) (slice i e s) p
          ∙ (ap (λ (t : List ℕ). answers_from m p (take i s) ++ t) (plain_answers (slice i e s) (place_after m p (take i s)) l.plain)
          ∙ append-nil (answers_from m p (take i s))))

      pub scanned : Reached p s b b' (go_on q (slice i e s)) e w
      scanned =
          record {
            high = l.high;
            place = ap (place_after m p) up_to
                ∙ (after_append m (take i s) (slice i e s) p
                ∙ (ap (λ (r : Place σ). place_after m r (slice i e s)) f.place ∙ plain_after (slice i e s) q l.plain));
            wrote = rw silent f.wrote;
            within = f.within;
            rest = omega (
              arith,
              rw (parted l, plain_read (slice i e s) (drop e s) q (length b - w) l.plain, length-slice i e s l.high) at f.rest,
              l.low,
            );
          }

    -- a newline with room: the line is answered
    pub answered : {r : Place σ} {t : σ} {b'' : List ℕ} {w' : ℕ} → i < length s → get_or s i 0 ≡ 10 → answer_room ≤ length b - w →
        r ≡ new_line t → t ≡ (line_end m q).state → Put b' w (line_end m q).bytes b'' w' → w' ≤ length b → Reached p s b b'' r (i + 1) w'
    unfolding place_after answers_from read_within
    answered {r} {b'' = b''} {w'} h e room begins after a k =
        let n : r ≡ new_line (line_end m q).state = begins ∙ ap (λ (t : σ). new_line t) after in
        let more : take (i + 1) s ≡ take i s ++ 10 ∷ [] = rw (add-one i) (take-suc s i 0 h ∙ rw e) in
        let gone : drop i s ≡ 10 ∷ drop (i + 1) s = rw (add-one i) (drop-cons s i 0 h ∙ rw e) in
        let here = rw (gone, le-ltb _ _ room) at f.rest in
        let less : length b - w - length (line_end m q).bytes ≡ length b - w' = omega (arith, a.after) in
        record {
          high = omega arith;
          place = rw (more, after_append m (take i s) (10 ∷ []) p, f.place) (sym n);
          wrote = rw (more, answers_append m (take i s) (10 ∷ []) p, f.place, append-nil (line_end m q).bytes) (then f.wrote a);
          within = k;
          rest = rw n (omega (arith, rw less at here));
        }

    -- the piece's end, or a newline without room: no more is read
    pub at_end : length s ≤ i → read_within m (length b) p s ≡ i
    unfolding read_within
    at_end h = sym f.rest ∙ rw (drop_of_length-le s h) (omega arith)

    pub no_room : i < length s → get_or s i 0 ≡ 10 → length b - w < answer_room → read_within m (length b) p s ≡ i
    unfolding read_within
    no_room h e r = sym f.rest ∙ rw (drop-cons s i 0 h, e, lt-ltb _ _ r) (omega arith)

    -- ---- what feeding leaves: how much was read, the place, and what was written
    pub stopped : {h : Place σ} → read_within m (length b) p s ≡ i → h ≡ cut q →
        (i ≡ read_within m (length b) p s)
        × ((h ≡ cut (place_after m p (take i s)))
        × ((w ≡ length (answers_from m p (take i s))) × (b' ≡ answers_from m p (take i s) ++ drop w b)))
    stopped e h =
        let n : length (answers_from m p (take i s)) ≤ length b = omega (arith, f.wrote.after, f.within) in
        let g = to_front f.wrote n in
        (sym e, (h ∙ ap (λ r. cut r) (sym f.place), (g.count, rw g.count g.bytes)))

  -- ---- with room for a line, a piece that is not empty is read from
  pub read_some : (p : Place σ) (s : List ℕ) (room : ℕ) → 0 < length s → answer_room ≤ room → 0 < read_within m room p s
  unfolding read_within
  read_some p [] room h r = absurd (none h)
    where
      none : 0 < 0 → ⊥
      none h = omega arith
  read_some p (c ∷ cs) room h r = rw (le-ltb _ _ r) (either (eqb c 10) (λ e. rw e (omega arith)) (λ e. rw e (omega arith)))

  -- and never past its end
  pub read_most : (s : List ℕ) (p : Place σ) (room : ℕ) → read_within m room p s ≤ length s
  unfolding read_within
  read_most [] p room = omega arith
  read_most (c ∷ cs) p room =
      let more = read_most cs (byte_after m p c) (room - length (byte_answer m p c)) in
      either (eqb c 10 && ltb room answer_room) (λ e. rw e (omega arith)) (λ e. rw e (omega arith))
