use Rattle.std.proofs.Common.{◌≡◌, ◌∙◌, ◌+◌, ◌%◌, ◌<◌, ℕ, length, ap, sym, arith}
use Rattle.gluing.specs.Polygons.{side_at, vectors}
use Rattle.gluing.proofs.Places.{next_place_last, next_place_inner}
use Rattle.gluing.proofs.corners.next_side.Goals as goal
use Rattle.gluing.proofs.corners.next_side.Goals.{then-i-sides, else-i-sides}

pub returns-clause-value : goal.returns-clause-value
returns-clause-value c = λ d.
    let next : (c.args.i + 1) % length (vectors c.args.sides.now) ≡ c.if-i-sides.next =
    elim c.if-i-sides.branch [
      | then-i-sides w ↦ let e : c.args.i + 1 ≡ length c.args.sides.now = omega arith in next_place_last c.args.sides.now c.args.i e ∙ sym w.next-is
      | else-i-sides w ↦ let h : c.args.i + 1 < length c.args.sides.now = omega arith in next_place_inner c.args.sides.now c.args.i h ∙ sym w.next-is
    ] in
    ap (λ (k : ℕ). side_at d (vectors c.args.sides.now) k) next ∙ c.side.ensures.value d
