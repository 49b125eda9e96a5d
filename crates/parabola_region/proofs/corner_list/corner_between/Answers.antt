use Rattle.std.proofs.Common.{refl, arith}
use Rattle.std.specs.Prelude.{Some, None}
use Rattle.hinge_form.specs.Triples.{of_form as triple_of}
use Rattle.parabola_region.specs.WallLists.{plain_walls}
use Rattle.parabola_region.proofs.WallLists.{plain_length}
use Rattle.parabola_region.proofs.WallPairs.{few_walls}
use Rattle.parabola_region.proofs.CornerPairs.{apart_named, corner_named, wide_named, spot_of_point, corner_found}
use Rattle.parabola_region.proofs.corner_list.corner_between.Goals as goal

pub corner_of-requires : goal.corner_of-requires
corner_of-requires c = record {
  apart = apart_named c.args.f.now c.is_field.ensures c.args.tri.now.halves c.requires.valid c.args.forms.now c.requires.list (plain_walls c.args.walls.now) c.requires.walls c.args.i c.args.j c.requires.order
      (omega (arith, plain_length c.args.walls.now, c.requires.inside)) (triple_of c.wall_form.result) (triple_of c.wall_form-2.result) c.wall_form.ensures c.wall_form-2.ensures;
}

pub overflow_cast-result : goal.overflow_cast-result
overflow_cast-result c =
    let few = few_walls c.args.f.now c.is_field.ensures c.args.tri.now.halves c.requires.valid (plain_walls c.args.walls.now) c.requires.walls c.args.j (omega (arith, plain_length c.args.walls.now, c.requires.inside)) in
    omega (arith, few, c.requires.order)

pub overflow_cast-result-in-Ok-Some : goal.overflow_cast-result-in-Ok-Some
overflow_cast-result-in-Ok-Some c =
    let few = few_walls c.args.f.now c.is_field.ensures c.args.tri.now.halves c.requires.valid (plain_walls c.args.walls.now) c.requires.walls c.args.j (omega (arith, plain_length c.args.walls.now, c.requires.inside)) in
    omega (arith, few)

pub returns-in-Ok-Some-clause-pair : goal.returns-in-Ok-Some-clause-pair
returns-in-Ok-Some-clause-pair c =
    let s = corner_named c.args.f.now c.is_field.ensures c.args.tri.now.halves c.requires.valid c.args.forms.now c.requires.list (plain_walls c.args.walls.now) c.requires.walls c.args.i c.args.j c.requires.order
    (omega (arith, plain_length c.args.walls.now, c.requires.inside)) (triple_of c.wall_form.result) (triple_of c.wall_form-2.result) c.wall_form.ensures c.wall_form-2.ensures c.in-Ok-Some.field-0 (Some c.in-Ok-Some.spot) c.in-Ok-Some.field-0-is c.in-Ok-Some.ensures.corner in
    corner_found c.args.f.now c.is_field.ensures c.args.tri.now.halves c.requires.valid c.args.forms.now c.requires.list (plain_walls c.args.walls.now) c.requires.walls c.args.i c.args.j c.requires.order
    (omega (arith, plain_length c.args.walls.now, c.requires.inside))
    (record { first = c.args.i; second = c.args.j; at = c.in-Ok-Some.spot.at; ideal = c.in-Ok-Some.spot.ideal }) refl refl s.0 s.1

pub returns-in-Ok-None-clause-pair : goal.returns-in-Ok-None-clause-pair
returns-in-Ok-None-clause-pair c q p =
    corner_named c.args.f.now c.is_field.ensures c.args.tri.now.halves c.requires.valid c.args.forms.now c.requires.list (plain_walls c.args.walls.now) c.requires.walls c.args.i c.args.j c.requires.order
    (omega (arith, plain_length c.args.walls.now, c.requires.inside)) (triple_of c.wall_form.result) (triple_of c.wall_form-2.result) c.wall_form.ensures c.wall_form-2.ensures c.in-Ok-None.field-0 None c.in-Ok-None.field-0-is c.in-Ok-None.ensures.corner q
    (spot_of_point c.args.f.now c.is_field.ensures c.args.tri.now.halves c.requires.valid c.args.forms.now c.requires.list (plain_walls c.args.walls.now) c.requires.walls c.args.i c.args.j c.requires.order
    (omega (arith, plain_length c.args.walls.now, c.requires.inside)) q p)

pub returns-in-Err-clause-fault : goal.returns-in-Err-clause-fault
returns-in-Err-clause-fault c =
    wide_named c.args.f.now c.is_field.ensures c.args.tri.now.halves c.requires.valid c.args.forms.now c.requires.list (plain_walls c.args.walls.now) c.requires.walls c.args.i c.args.j c.requires.order
    (omega (arith, plain_length c.args.walls.now, c.requires.inside)) (triple_of c.wall_form.result) (triple_of c.wall_form-2.result) c.wall_form.ensures c.wall_form-2.ensures c.in-Err.wide.formula c.in-Err.ensures.wide
