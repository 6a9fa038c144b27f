-- `logarithm::reduction::turned` meets its contract: it makes the tests of the definition, one after the other.
use mathlib.Core.Path.{◌≡◌, refl, sym, ◌∙◌, ap}
use mathlib.Core.Bool.{false}
use Rattle.word.proofs.Fits.{back, sfits_mag}
use Rattle.point.specs.Point.{gauss, point}
use Rattle.logarithm.specs.Reduction.{in_cone, turn_back, turns_back, spelling}
use Rattle.logarithm.proofs.Quadrant.{quarters_by, parts_turn_back}
use Rattle.logarithm.proofs.Fits.{turn_made}
use Rattle.logarithm.proofs.reduction.turned.Goals as goal
use Rattle.logarithm.proofs.reduction.turned.Goals.{After-turned_back-p2, Else-in_cone, Else-in_cone-2}

pub returns-then-in_cone : goal.returns-then-in_cone
unfolding turns_back spelling
returns-then-in_cone c =
    let p = c.before.before.args.p in
    turn_made p p 0 _ (quarters_by (gauss p) (sym c.before.in_cone.ensures ∙ c.if-in_cone.true) refl refl) refl refl

pub in_cone-requires-2 : goal.in_cone-requires-2
in_cone-requires-2 c = rw c.turned_back-p1.ensures (parts_turn_back c.before.before.before.requires)

-- the outcomes of the tests, and the points turned back, as far as they are known
first : (c : Else-in_cone) → in_cone (gauss c.before.before.args.p) ≡ false
first c = sym c.before.in_cone.ensures ∙ c.if-in_cone.false

pub returns-then-in_cone-2 : goal.returns-then-in_cone-2
unfolding turns_back spelling
returns-then-in_cone-2 c =
    let b = c.before.before in
    let p = b.before.before.before.args.p in
    let e = b.turned_back-p1.ensures in
    turn_made p b.turned_back-p1.result 1 _ (quarters_by (gauss p) (first b.before)
    (ap (λ w. in_cone (gauss w)) (sym e) ∙ (sym c.before.in_cone-2.ensures ∙ c.if-in_cone-2.true)) refl) e refl

second : (c : Else-in_cone-2) → in_cone (turn_back (gauss c.before.before.before.before.before.args.p)) ≡ false
second c = ap (λ w. in_cone (gauss w)) (sym c.before.before.turned_back-p1.ensures) ∙ (sym c.before.in_cone-2.ensures ∙ c.if-in_cone-2.false)

pub turned_back-p2-requires : goal.turned_back-p2-requires
turned_back-p2-requires c = rw c.before.before.turned_back-p1.ensures
    (parts_turn_back c.before.before.before.before.before.requires)

twice : (c : After-turned_back-p2) → c.turned_back-p2.result
    ≡ point (turn_back (turn_back (gauss c.before.before.before.before.before.before.args.p)))
twice c = c.turned_back-p2.ensures ∙ ap (λ w. point (turn_back (gauss w))) c.before.before.before.turned_back-p1.ensures

pub in_cone-requires-3 : goal.in_cone-requires-3
in_cone-requires-3 c = rw (twice c) (parts_turn_back (parts_turn_back c.before.before.before.before.before.before.requires))

pub returns-then-in_cone-3 : goal.returns-then-in_cone-3
unfolding turns_back
returns-then-in_cone-3 c =
    let t = c.before in
    let b = t.before.before in
    let a = b.before in
    let p = a.before.before.before.before.before.args.p in
    let e = twice b in
    let q = back (sfits_mag c.half_turn.result c.half_turn.type_inv) ∙ (c.half_turn.ensures ∙ ap (λ w. spelling 2 (gauss w)) e) in
    turn_made p b.turned_back-p2.result 2 _ (quarters_by (gauss p) (first a.before.before.before) (second a)
    (ap (λ w. in_cone (gauss w)) (sym e) ∙ (sym t.before.in_cone-3.ensures ∙ t.if-in_cone-3.true))) e q

pub turned_back-p3-requires : goal.turned_back-p3-requires
turned_back-p3-requires c = rw (twice c.before.before)
    (parts_turn_back (parts_turn_back c.before.before.before.before.before.before.before.before.requires))

pub returns : goal.returns
unfolding turns_back spelling
returns c =
    let l = c.before in
    let b = l.before.before in
    let a = b.before in
    let p = a.before.before.before.before.before.args.p in
    let e = twice b in
    turn_made p c.turned_back-p3.result 3 _
    (quarters_by (gauss p) (first a.before.before.before) (second a) (ap (λ w. in_cone (gauss w)) (sym e)
    ∙ (sym l.before.in_cone-3.ensures ∙ l.if-in_cone-3.false)))
    (c.turned_back-p3.ensures ∙ ap (λ w. point (turn_back (gauss w))) e)
    refl
