-- THE RUNS: nothing is lost, no balance leaves its range, and neither institute can tell what the other did.
use mathlib.Core.Path.{◌≡◌, refl, sym, ap, ap₂, ◌∙◌, subst}
use mathlib.Core.Bool.{Bool, true, false, cond}
use mathlib.Core.List.{List, [], ◌∷◌}
use lib.Dec.{T}
use lib.IntN.{ℤ, pos, ◌+ℤ◌, ◌-ℤ◌}
use lib.Signed.{lt_z}
use Rattle.algebra.specs.Order.{◌⩽◌}
use Rattle.algebra.proofs.Test.{either}
use Rattle.algebra.proofs.Integer.{ℤR}
use Rattle.algebra.proofs.Reify.{ring!, reify}
use Rattle.algebra.proofs.Order.{⩽_trans, ⩽_refl, ⩽_of_eq}
use Rattle.algebra.proofs.Linear.{lin, ◌&◌, none}
use Rattle.word.proofs.Compare.{between_true}
use Rattle.std.specs.Prelude.{Option, Some, None, Ok, Err}
use Rattle.answer.specs.Answer.{Answer}
use Rattle.book.specs.declared.Book.{Book}
use Rattle.book.specs.declared.Institute.{Institute}
use Rattle.book.specs.declared.Institute.TheVariants.{First, Second}
use Rattle.book.specs.declared.Rejection.TheVariants.{Denied}
use Rattle.book.specs.declared.Settled.{Settled}
use Rattle.book.specs.Book.{balances, balance, charged, is_allowance, opened_book, opened}
use Rattle.book.specs.Call.{Operation, Call, caller_of, answer_to, cost, settled, paid, charge, outcome_for, outcome}
use Rattle.book.specs.Run.{run, book_after, same, is_by, calls_of, entries_of, is_answered, cost_in, total, Conserved, InAllowance, LeftAlone, Alike, Undisturbed}
use Rattle.book.proofs.Calls.{costs, charge_keeps}

never : {A : Type 0} → false ≡ true → A
never e = absurd (subst T (sym e) tt)

-- ---- a balance that paid, and the other one
charged_own : (p : Institute) (n : ℤ) (b : Book) → balance p (charged p n b) ≡ balance p b -ℤ n
charged_own First n b = refl
charged_own Second n b = refl

charged_other : (p q : Institute) (n : ℤ) (b : Book) → same p q ≡ false → balance p (charged q n b) ≡ balance p b
charged_other First First n b e = never (sym e)
charged_other First Second n b e = refl
charged_other Second First n b e = refl
charged_other Second Second n b e = never (sym e)

same_is : (p q : Institute) → same p q ≡ true → q ≡ p
same_is First First e = refl
same_is First Second e = never e
same_is Second First e = never e
same_is Second Second e = refl

-- ---- ONE CALL
-- of one's own: what holds of every call by p holds of every call that p makes
own_keeps : (p : Institute) (P : Option Institute → Type 0) (k : Option Institute) → is_by p k ≡ true → P (Some p) → P k
own_keeps p P None e h = never e
own_keeps p P (Some q) e h = subst (λ r. P (Some r)) (sym (same_is p q e)) h

-- the reply and the new balance follow from the call and the old balance
charge_alike : (p : Institute) (n : ℤ) (a : Answer) (b d : Book) → balance p b ≡ balance p d →
    ((charge p n a b).reply ≡ (charge p n a d).reply) × (balance p (charge p n a b).book ≡ balance p (charge p n a d).book)
unfolding paid
charge_alike p n (Err r) b d h = (refl, h)
charge_alike p n (Ok f) b d h = go (lt_z (balance p b) n) (lt_z (balance p d) n) (ap (λ z. lt_z z n) h)
  where
    given : Bool → Book → Settled
    given t x = cond t (settled (Err Denied) x) (settled (Ok f) (charged p n x))

    go : (t u : Bool) → t ≡ u → ((given t b).reply ≡ (given u d).reply) × (balance p (given t b).book ≡ balance p (given u d).book)
    go true true e = (refl, h)
    go true false e = never (sym e)
    go false true e = never e
    go false false e = (refl, charged_own p n b ∙ (ap (λ z. z -ℤ n) h ∙ sym (charged_own p n d)))

own_alike : (p : Institute) (k : Option Institute) (o : Operation) (b d : Book) → is_by p k ≡ true → balance p b ≡ balance p d →
    ((outcome_for k o b).reply ≡ (outcome_for k o d).reply) × (balance p (outcome_for k o b).book ≡ balance p (outcome_for k o d).book)
own_alike p k o b d e h = own_keeps p
    (λ k. ((outcome_for k o b).reply ≡ (outcome_for k o d).reply) × (balance p (outcome_for k o b).book ≡ balance p (outcome_for k o d).book))
    k e (charge_alike p (cost o) (answer_to o) b d h)

-- what is left and what it cost is what there was
own_conserved : (p : Institute) (k : Option Institute) (o : Operation) (b : Book) → is_by p k ≡ true →
    balance p b ≡ balance p (outcome_for k o b).book +ℤ cost_in (outcome_for k o b).reply o
own_conserved p k o b e = own_keeps p (λ k. balance p b ≡ balance p (outcome_for k o b).book +ℤ cost_in (outcome_for k o b).reply o) k e
    (charge_keeps (λ s. balance p b ≡ balance p s.book +ℤ cost_in s.reply o) p o b
    (λ r e. nothing (balance p b))
    (nothing (balance p b))
    (λ f e l. something (balance p b) (balance p (charged p (cost o) b)) (cost o) (charged_own p (cost o) b)))
  where
    nothing : (x : ℤ) → x ≡ x +ℤ pos 0
    nothing x = ring! ℤR (x ∷ []) (search reify depth 20) tt

    something : (x y n : ℤ) → y ≡ x -ℤ n → x ≡ y +ℤ n
    something x y n e = rw e (ring! ℤR (x ∷ n ∷ []) (search reify depth 20) tt)

-- of anyone else: the balance stays
other_stays : (p : Institute) (k : Option Institute) (o : Operation) (b : Book) → is_by p k ≡ false → balance p (outcome_for k o b).book ≡ balance p b
other_stays p None o b e = refl
other_stays p (Some q) o b e = charge_keeps (λ s. balance p s.book ≡ balance p b) q o b (λ r h. refl) refl
    (λ f h l. charged_other p q (cost o) b e)

-- "A refused call leaves the book as it found it"
pub refused_free : (c : Call) (b : Book) → LeftAlone c b
unfolding outcome
refused_free c b = go (caller_of c.caller) c.operation
  where
    go : (k : Option Institute) (o : Operation) → is_answered (outcome_for k o b).reply ≡ false → (outcome_for k o b).book ≡ b
    go None o = λ h. refl
    go (Some q) o = charge_keeps (λ s. is_answered s.reply ≡ false → s.book ≡ b) q o b (λ r e h. refl) (λ h. refl) (λ f e l h. never (sym h))

-- ---- EVERY RUN
pub conserved : (p : Institute) (cs : List Call) (b : Book) → Conserved p cs b
unfolding run book_after entries_of total outcome
conserved p [] b = ring! ℤR (balance p b ∷ []) (search reify depth 20) tt
conserved p (c ∷ cs) b =
    let k = caller_of c.caller in
    let o = c.operation in
    let s = outcome_for k o b in
    let left = balance p (book_after cs s.book) in
    let rest = total (entries_of p (run cs s.book)) in
    let now = conserved p cs s.book in
    either (is_by p k)
    (λ e. rw e (own_conserved p k o b e ∙ (ap (λ z. z +ℤ cost_in s.reply o) now ∙ regroup left rest (cost_in s.reply o))))
    (λ e. rw e (sym (other_stays p k o b e) ∙ now))
  where
    regroup : (x y z : ℤ) → x +ℤ y +ℤ z ≡ x +ℤ (z +ℤ y)
    regroup x y z = ring! ℤR (x ∷ y ∷ z ∷ []) (search reify depth 20) tt

-- a balance falls, and at most to zero
record Falls (x y : ℤ) : Type 0 where
  low : pos 0 ⩽ x → pos 0 ⩽ y
  high : y ⩽ x

unmoved : {x y : ℤ} → y ≡ x → Falls x y
unmoved {x} {y} e = record { low = λ h. subst (λ z. pos 0 ⩽ z) (sym e) h; high = ⩽_of_eq e }

less : (x y n : ℤ) → y ≡ x -ℤ n → pos 1 ⩽ n → n ⩽ x → Falls x y
less x y n e c l = subst (Falls x) (sym e) (record {
  low = λ h. lin (x ∷ n ∷ []) (l & none) (search reify depth 20) tt;
  high = lin (x ∷ n ∷ []) (c & none) (search reify depth 20) tt;
})

call_falls : (p : Institute) (k : Option Institute) (o : Operation) (b : Book) → Falls (balance p b) (balance p (outcome_for k o b).book)
call_falls p k o b = either (is_by p k)
    (λ e. own_keeps p (λ k. Falls (balance p b) (balance p (outcome_for k o b).book)) k e
    (charge_keeps (λ s. Falls (balance p b) (balance p s.book)) p o b (λ r h. unmoved refl) (unmoved refl)
    (λ f h l. less (balance p b) (balance p (charged p (cost o) b)) (cost o) (charged_own p (cost o) b) (costs o h) l)))
    (λ e. unmoved (other_stays p k o b e))

run_falls : (p : Institute) (cs : List Call) (b : Book) → Falls (balance p b) (balance p (book_after cs b))
unfolding book_after outcome
run_falls p [] b = unmoved refl
run_falls p (c ∷ cs) b =
    let s = outcome_for (caller_of c.caller) c.operation b in
    let f = call_falls p (caller_of c.caller) c.operation b in
    let g = run_falls p cs s.book in
    record { low = λ h. g.low (f.low h); high = ⩽_trans g.high f.high }

opened_low : (p : Institute) (first second : ℤ) → pos 0 ⩽ balance p (opened first second).book
unfolding opened opened_book
opened_low p first second = either (is_allowance first)
    (λ e. either (is_allowance second)
    (λ d. rw (e, d) (both p (between_true e).0 (between_true d).0))
    (λ d. rw (e, d) (both p (⩽_refl (pos 0)) (⩽_refl (pos 0)))))
    (λ e. rw e (both p (⩽_refl (pos 0)) (⩽_refl (pos 0))))
  where
    both : (p : Institute) {x y : ℤ} → pos 0 ⩽ x → pos 0 ⩽ y → pos 0 ⩽ balance p (balances x y)
    both First h k = h
    both Second h k = k

pub in_allowance : (p : Institute) (first second : ℤ) (cs : List Call) → InAllowance p first second cs
in_allowance p first second cs =
    let f = run_falls p cs (opened first second).book in
    record { low = f.low (opened_low p first second); high = f.high }

-- ---- NEITHER TELLS WHAT THE OTHER DID: a run is to an institute what the run of its own calls alone is
alone : (p : Institute) (cs : List Call) (b d : Book) → balance p b ≡ balance p d → Alike p cs b (calls_of p cs) d
unfolding run book_after calls_of entries_of outcome
alone p [] b d h = record { replies = refl; balances = h }
alone p (c ∷ cs) b d h =
    let k = caller_of c.caller in
    let o = c.operation in
    either (is_by p k)
    (λ e. let a = own_alike p k o b d e h in
    let rest = alone p cs (outcome_for k o b).book (outcome_for k o d).book a.1 in
    record {
      replies = rw (e, e) (ap₂ (λ r es. record { call = c; reply = r } ∷ es) a.0 rest.replies);
      balances = rw e rest.balances;
    })
    (λ e. let rest = alone p cs (outcome_for k o b).book d (other_stays p k o b e ∙ h) in
    record { replies = rw e rest.replies; balances = rw e rest.balances })

pub undisturbed : (p : Institute) → Undisturbed p
undisturbed p cs ds b d e h =
    let f = alone p cs b b refl in
    let g = alone p ds d b (sym h) in
    record {
      replies = f.replies ∙ (ap (λ es. entries_of p (run es b)) e ∙ sym g.replies);
      balances = f.balances ∙ (ap (λ es. balance p (book_after es b)) e ∙ sym g.balances);
    }
