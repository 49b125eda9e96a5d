use Rattle.std.proofs.Common.{◌≡◌, ℕ, ◌≤◌, length, get_or, refl, sym, subst, arith}
use Rattle.std.proofs.lemmas.Bool.{both_ways}
use Rattle.tri_core.specs.Walks.{AreSameTriangle}
use Rattle.tri_core.proofs.Walks.{same_carried, agree_more, agree_all, placed_inside}
use Rattle.tri_core.proofs.equality.carry.Goals as goal

pub returns-then-not-same_triangle-clause-carried : goal.returns-then-not-same_triangle-clause-carried
returns-then-not-same_triangle-clause-carried c forth carries start =
    let one = c.args.one.now in
    let two = c.args.two.now in
    let h : ℕ = get_or c.args.walk.now c.loop-i.i 0 in
    let image : c.image_at-g.result ≡ forth h = c.image_at-g.ensures.carried forth carries start (c.loop-i.invariant.agree forth carries start) in
    let same : AreSameTriangle one two h (forth h) =
    same_carried one two c.args.walk.now c.requires.one c.requires.walk h forth (c.requires.walk.path.inside c.loop-i.i c.loop-i-test.true) carries in
    absurd (both_ways c.same_triangle.result c.if-not-same_triangle.true (c.same_triangle.ensures.1 (subst (AreSameTriangle one two h) (sym image) same)))

pub loop-i-preserved : goal.loop-i-preserved
loop-i-preserved c =
    let one = c.args.one.now in
    let two = c.args.two.now in
    let walk = c.args.walk.now in
    let i : ℕ = c.loop-i.i in
    let h : ℕ = get_or walk i 0 in
    let g : ℕ = c.image_at-g.result in
    record {
      inside = placed_inside two h g c.loop-i.images c.place.new.images c.requires.two c.image_at-g.ensures.inside c.place.ensures c.loop-i.invariant.inside;
      agree = λ forth carries start.
          let old = c.loop-i.invariant.agree forth carries start in
          agree_more one two walk c.requires.one c.requires.walk i h g c.loop-i.images c.place.new.images forth c.loop-i-test.true refl c.place.ensures carries
          (c.image_at-g.ensures.carried forth carries start old) old;
    }

pub returns-clause-carried : goal.returns-clause-carried
returns-clause-carried c forth carries start =
    let all : length c.args.walk.now ≤ c.loop-i.i = omega (arith, c.loop-i-test.false, c.loop-i.auto.i-end) in
    (refl, agree_all c.args.one.now c.args.two.now c.args.walk.now c.requires.one c.requires.walk c.loop-i.i forth c.loop-i.images all (c.loop-i.invariant.agree forth carries start))
