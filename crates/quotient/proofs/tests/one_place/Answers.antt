use Rattle.std.proofs.Common.{ℕ, ◌<◌, [], ◌∷◌, length, map, sym, subst, arith}
use Rattle.std.specs.List.{AllByRecursion}
use Rattle.rings.specs.Matrices.{matrix_det}
use Rattle.quad_field.specs.Quads.{quad_ops, IsZero}
use Rattle.plane.specs.Matrices.{FieldMatrix}
use Rattle.terrain.specs.declared.graph.Lead.{Lead}
use Rattle.quotient.specs.Trees.{HasLead, IsReachedFrom}
use Rattle.quotient.proofs.Graphs.{each_of, one_reached}
use Rattle.quotient.proofs.tests.one_place.Goals as goal

pub quotient-requires-clause-reached : goal.quotient-requires-clause-reached
quotient-requires-clause-reached c _ =
    subst (λ vs. (k : ℕ) → k < length (map (λ v. v.items) vs) → IsReachedFrom (map (λ v. v.items) vs) 0 k) (sym c.in_ok-vec-2.ensures.items) (one_reached c.in_ok-row.row.items)

pub quotient-requires-clause-targets : goal.quotient-requires-clause-targets
quotient-requires-clause-targets c _ =
    let low : Lead FieldMatrix → Type 0 = λ lead. lead.to < 1 in
    let all = subst (AllByRecursion low) (sym c.in_ok-row.ensures.items) (omega arith, (omega arith, (omega arith, tt))) in
    subst (λ vs. (k w : ℕ) (lead : Lead FieldMatrix) → k < length (map (λ v. v.items) vs) → HasLead (map (λ v. v.items) vs) k w lead → lead.to < length (map (λ v. v.items) vs))
    (sym c.in_ok-vec-2.ensures.items) (λ k w lead p has. each_of low (c.in_ok-row.row.items ∷ []) (all, tt) k w lead has)

pub quotient-requires-clause-links : goal.quotient-requires-clause-links
quotient-requires-clause-links c _ =
    let some : Lead FieldMatrix → Type 0 = λ lead. ¬ (IsZero (matrix_det (quad_ops c.args.f.now) lead.link.rows)) in
    let links = c.in-Some-Some-Some in
    let all = subst (AllByRecursion some) (sym c.in_ok-row.ensures.items) (links.ensures, (links.ensures', (links.ensures'', tt))) in
    subst (λ vs. (k w : ℕ) (lead : Lead FieldMatrix) → k < length (map (λ v. v.items) vs) → HasLead (map (λ v. v.items) vs) k w lead → ¬ (IsZero (matrix_det (quad_ops c.args.f.now) lead.link.rows)))
    (sym c.in_ok-vec-2.ensures.items) (λ k w lead p has. each_of some (c.in_ok-row.row.items ∷ []) (all, tt) k w lead has)
