use Rattle.std.proofs.Common.{rules, ◌≡◌, ℕ, List, inl, inr, sym, subst}
use Rattle.std.specs.Prelude.{ℤ}
use Rattle.std.proofs.lemmas.Result.{err_from_is_err_and}
use Rattle.quad_field.specs.FieldNumber.{IsFieldNumber}
use Rattle.terrain.specs.Places.{IsAt}
use Rattle.class_node.specs.Classes.{IsClassOver}
use Rattle.veech_cli.proofs.plain.report_of.Goals as goal

pub graph_of-requires-clause-number : goal.graph_of-requires-clause-number
graph_of-requires-clause-number c = subst IsFieldNumber c.requires.field c.number-number.ensures.valid

pub returns-in_err-graph-clause-refused : goal.returns-in_err-graph-clause-refused
returns-in_err-graph-clause-refused c =
    let p = err_from_is_err_and c.from_residual-in_err-graph.result c.from_residual-in_err-graph.ensures.1 in
    rw (p.1, p.2) (inr (inl c.in_err-graph.ensures.refused))

pub turns_of-turns-requires : goal.turns_of-turns-requires
turns_of-turns-requires c =
    let same : c.make-terrain.result ≡ c.args.base.now.tri.field = search rules in
    record {
      own = λ i code at.
          subst (λ (d : ℕ). ∥ IsClassOver d code ∥₁) (sym same) (c.in_ok-graph.ensures.own i code (subst (λ (keys : List (List ℤ)). IsAt keys i code) c.as_slice.ensures.value at));
    }
