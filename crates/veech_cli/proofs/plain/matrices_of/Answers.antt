use Rattle.std.proofs.Common.{◌≤◌, length, inl, refl, ap, arith, Err}
use Rattle.veech_cli.proofs.Grouped.{place_there, targets_there, reached_there, turns_there, first_there, links_there, matrices_there, wide_there}
use Rattle.veech_cli.proofs.plain.matrices_of.Goals as goal

pub quotient-requires-clause-place : goal.quotient-requires-clause-place
quotient-requires-clause-place c lifetimes =
    place_there c.args.f.now c.args.base.now.tri.field c.requires.field _ _ _ _ _ _ c.requires.graph c.number-number.ensures.valid c.triangles-triangles.ensures.valid

pub quotient-requires-clause-targets : goal.quotient-requires-clause-targets
quotient-requires-clause-targets c lifetimes = λ k w lead inside has.
    targets_there c.args.f.now c.args.base.now.tri.field c.requires.field _ _ _ _ _ _ c.requires.graph c.number-number.ensures.valid c.triangles-triangles.ensures.valid k w lead has

pub quotient-requires-clause-reached : goal.quotient-requires-clause-reached
quotient-requires-clause-reached c lifetimes = λ k inside.
    reached_there c.args.f.now c.args.base.now.tri.field c.requires.field _ _ _ _ _ _ c.requires.graph c.number-number.ensures.valid c.triangles-triangles.ensures.valid k inside

pub quotient-requires-clause-turns : goal.quotient-requires-clause-turns
quotient-requires-clause-turns c lifetimes =
    turns_there c.args.f.now c.args.base.now.tri.field c.requires.field _ _ _ _ _ _ c.requires.graph c.number-number.ensures.valid c.triangles-triangles.ensures.valid

pub quotient-requires-clause-root : goal.quotient-requires-clause-root
quotient-requires-clause-root c lifetimes =
    first_there c.args.f.now c.args.base.now.tri.field c.requires.field _ _ _ _ _ _ c.requires.graph c.number-number.ensures.valid c.triangles-triangles.ensures.valid

pub quotient-requires-clause-links : goal.quotient-requires-clause-links
quotient-requires-clause-links c lifetimes = λ k w lead inside has.
    links_there c.args.f.now c.args.base.now.tri.field c.requires.field _ _ _ _ _ _ c.requires.graph c.number-number.ensures.valid c.triangles-triangles.ensures.valid k w lead has

pub returns-in-Ok-clause-matrices : goal.returns-in-Ok-clause-matrices
returns-in-Ok-clause-matrices c =
    matrices_there c.args.f.now c.args.base.now.tri.field c.requires.field _ _ _ _ _ _ c.requires.graph _ _ c.in-Ok.ensures.tree c.in-Ok.ensures.mats

pub returns-in-Err-Wide-clause-refused : goal.returns-in-Err-Wide-clause-refused
returns-in-Err-Wide-clause-refused c =
    let few : length c.args.graph.now.keys.items ≤ c.args.limit = omega (arith, c.requires.few) in
    inl (
      c.in-Err-Wide.formula,
      wide_there c.args.f.now c.args.base.now.tri.field c.requires.field _ _ _ _ _ _ c.requires.graph c.args.limit few c.in-Err-Wide.formula
          (c.in-Err-Wide.ensures.wide c.in-Err-Wide.formula (ap (λ x. Err x) c.in-Err-Wide.field-0-is)),
      refl,
    )
