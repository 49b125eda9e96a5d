use Rattle.std.proofs.Common.{◌≡◌, ◌+◌, ◌-◌, ◌*◌, ◌/◌, length, sym, ap, subst, ◌∙◌, arith}
use Rattle.quad_field.specs.FieldNumber.{IsFieldNumber}
use Rattle.cone_points.specs.Angles.{IsGenus, sum_of}
use Rattle.cone_points.specs.Walks.{TellsUpper}
use Rattle.cone_points.proofs.Orders.{turns_sorted, genus_from_turns, few_rise}
use Rattle.cone_points.proofs.cones.cones_of.Goals as goal

pub all_turns-requires-clause-number : goal.all_turns-requires-clause-number
all_turns-requires-clause-number c = subst IsFieldNumber c.requires c.number-number.ensures.valid

pub genus_of-genus-requires-clause-many : goal.genus_of-genus-requires-clause-many
genus_of-genus-requires-clause-many c =
    let number : IsFieldNumber c.args.tri.now.field = subst IsFieldNumber c.requires c.number-number.ensures.valid in
    let tells : TellsUpper c.args.tri.now.field c.args.tri.now.halves c.as_slice.result.now = subst (TellsUpper c.args.tri.now.field c.args.tri.now.halves) (sym c.as_slice.ensures.value) c.in_ok-uppers.ensures in
    let few = few_rise c.args.tri.now.field c.args.tri.now.halves c.triangles-triangles.ensures.valid number c.as_slice.result.now tells in
    omega (arith, few, c.in_ok-turns.ensures.sum, ap sum_of c.as_slice-2.ensures.value)

facts : (c : goal.After-drop-uppers-2) → (sum_of c.sort.new.self.items + 2 ≡ 2 * c.genus_of-genus.result + length c.sort.new.self.items) × IsGenus c.args.tri.now.halves c.genus_of-genus.result
facts c =
    let number : IsFieldNumber c.args.tri.now.field = subst IsFieldNumber c.requires c.number-number.ensures.valid in
    let tells : TellsUpper c.args.tri.now.field c.args.tri.now.halves c.as_slice.result.now = subst (TellsUpper c.args.tri.now.field c.args.tri.now.halves) (sym c.as_slice.ensures.value) c.in_ok-uppers.ensures in
    let is : c.genus_of-genus.result ≡ (sum_of c.in_ok-turns.turns.items + 2 - length c.in_ok-turns.turns.items) / 2 =
    c.genus_of-genus.ensures ∙ ap (λ xs. (sum_of xs + 2 - length xs) / 2) c.as_slice-2.ensures.value in
    genus_from_turns c.args.tri.now.field c.args.tri.now.halves c.triangles-triangles.ensures.valid number c.as_slice.result.now tells c.in_ok-turns.turns.items c.sort.new.self.items c.genus_of-genus.result
    c.in_ok-turns.ensures.turns c.in_ok-turns.ensures.sum c.in_ok-turns.ensures.positive is c.in_ok-sort.ensures.permutation

pub returns-clause-turns : goal.returns-clause-turns
returns-clause-turns c =
    turns_sorted c.args.tri.now.field c.args.tri.now.halves c.in_ok-turns.turns.items c.sort.new.self.items c.in_ok-sort.ensures.permutation c.in_ok-turns.ensures.turns c.in_ok-sort.ensures.sorted

pub returns-clause-genus : goal.returns-clause-genus
returns-clause-genus c = (facts c).1

pub returns-clause-sum : goal.returns-clause-sum
returns-clause-sum c = (facts c).0
