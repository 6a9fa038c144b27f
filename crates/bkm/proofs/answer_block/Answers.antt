-- What one feed of the rest of a block does: it reads a byte at least and none past the rest, and what is left leads on from the place there.
use Rattle.std.proofs.Common.{◌≡◌, refl, sym, ap, ◌∙◌, ℕ, ◌-◌, ◌≤◌, ◌<◌, List, [], ◌∷◌, length, take, drop, length-drop, arith, rules}
use Rattle.std.proofs.lemmas.List.{take_all, take-append-drop}
use Rattle.stream.specs.declared.State.{State}
use Rattle.text.specs.Answer.{answer_room}
use Rattle.stream.specs.Machine.{Place, cut, place_after, read_within}
use Rattle.stream.specs.Sheet.{machine}
use Rattle.stream.proofs.Pieces.{told, cut_twice, goes_on}
use Rattle.stream.proofs.Progress.{read_some, read_most}
use Rattle.bkm.proofs.answer_block.Goals as goal

led_to : (read : ℕ) (rest : List ℕ) (here next : Place State) →
    next ≡ cut (place_after machine here (take read rest)) →
    cut (place_after machine next (take (length rest - read) (drop read rest))) ≡ cut (place_after machine here rest)
led_to read rest here next fed =
    let all : take (length rest - read) (drop read rest) ≡ drop read rest = take_all (length rest - read) (drop read rest) (simp length-drop (omega arith)) in
    rw all (
    goes_on machine told here next (take read rest) (drop read rest) (ap (λ q. cut q) fed ∙ cut_twice (place_after machine here (take read rest)))
    ∙ ap (λ (t : List ℕ). cut (place_after machine here t)) (take-append-drop read rest))

some : (read room : ℕ) (rest : List ℕ) (here : Place State) → read ≡ read_within machine room here rest → 0 < length rest →
    answer_room ≤ room → 0 < read
some read room rest here fed n k = rw fed (read_some machine here rest room n k)

most : (read room : ℕ) (rest : List ℕ) (here : Place State) → read ≡ read_within machine room here rest → read ≤ length rest
most read room rest here fed = rw fed (read_most machine rest here room)

none_left : (here : Place State) (rest : List ℕ) → length rest ≡ 0 → cut (place_after machine here rest) ≡ cut here
unfolding place_after
none_left here [] e = refl
none_left here (x ∷ xs) e = search rules

pub loop-rest-preserved : goal.loop-rest-preserved
loop-rest-preserved g c = led_to _ _ _ _ c.feed-fed.ensures.place ∙ c.loop-rest.invariant

pub slice_bounds-rest-start : goal.slice_bounds-rest-start
slice_bounds-rest-start g c =
    let fed = most _ _ _ _ c.feed-fed.ensures.read in
    omega (arith, fed)

pub slice_bounds-rest-count : goal.slice_bounds-rest-count
slice_bounds-rest-count g c =
    let fed = most _ _ _ _ c.feed-fed.ensures.read in
    omega (arith, fed)

pub loop-rest-smaller : goal.loop-rest-smaller
loop-rest-smaller g c =
    let more : 0 < length c.loop-rest.rest.now = search rules in
    let room : answer_room ≤ length c.loop-rest.out = omega arith in
    let f = some _ _ _ _ c.feed-fed.ensures.read more room in
    let fed = most _ _ _ _ c.feed-fed.ensures.read in
    omega (arith, f, fed)

pub returns-clause-answered : goal.returns-clause-answered
returns-clause-answered g c = sym (none_left _ _ (search rules)) ∙ c.loop-rest.invariant
