use Rattle.std.proofs.Common.{ℕ, List, sym, subst}
use mathlib.Core.Path.{subst₂}
use Rattle.quad_field.specs.declared.quad.Quad.{Quad}
use Rattle.canon_code.specs.Distinct.{AreInside, ArePairs, AreListed}
use Rattle.canon_code.specs.WholeFrames.{IsScaledBy}
use Rattle.canon_code.proofs.KeptVectors.{listed_from}
use Rattle.canon_code.proofs.whole.told_first.Goals as goal

pub pairs_of-requires-clause-inside : goal.pairs_of-requires-clause-inside
pairs_of-requires-clause-inside c = subst (AreInside c.args.tri.now.halves) (sym c.as_slice.ensures.value) c.requires.kept.distinct.inside

pub told_at-requires-clause-listed : goal.told_at-requires-clause-listed
told_at-requires-clause-listed c =
    let firsts : List ℕ = c.args.kept.now.distinct.firsts.items in
    let places : List ℕ = c.args.kept.now.distinct.places.items in
    let list : List Quad = c.in_ok-list-in-Ok.list.items in
    let start = c.in-Ok.start in
    subst₂ (λ (p : List ℕ) (l : List Quad). AreListed c.args.f.now c.args.tri.now.halves start p l) (sym c.as_slice-places.ensures.value) (sym c.as_slice-in-Ok.ensures.value)
    (listed_from c.args.f.now c.args.tri.now.halves start firsts places list c.requires.kept.distinct
    (subst (λ (m : List ℕ). ArePairs c.args.f.now c.args.tri.now.halves start m list) c.as_slice.ensures.value c.in_ok-list-in-Ok.ensures))

pub returns-in_ok-keep-in-Ok-clause-kept : goal.returns-in_ok-keep-in-Ok-clause-kept
returns-in_ok-keep-in-Ok-clause-kept c =
    let list : List Quad = c.in_ok-list-in-Ok.list.items in
    let start = c.in-Ok.start in
    c.in_ok-keep-in-Ok.ensures.kept c.args.f.now c.args.tri.now.halves c.requires.kept (subst (λ m. IsScaledBy c.args.f.now c.args.tri.now.halves m start) (sym c.requires.over) c.in-Ok.ensures.scaled) c.in-Ok.ensures.small
    (subst (λ (m : List ℕ). ArePairs c.args.f.now c.args.tri.now.halves start m list) c.as_slice.ensures.value c.in_ok-list-in-Ok.ensures)
