use Rattle.std.proofs.Common.{◌≤◌, length, inl, inr, refl, ap, ◌∙◌, arith, Err}
use Rattle.std.proofs.lemmas.Result.{IfOk-at_ok}
use Rattle.veech_cli.proofs.Explored.{graph_there, graph_over, more_there, stuck_there}
use Rattle.veech_cli.proofs.Grouped.{own_classes}
use Rattle.veech_cli.proofs.plain.classes_of.Goals as goal

pub returns-in-Ok-clause-graph : goal.returns-in-Ok-clause-graph
returns-in-Ok-clause-graph c = graph_over c.args.terrain.now c.args.base.now.tri.field c.requires.field c.args.root.now c.in-Ok.graph.keys.items _ _ (IfOk-at_ok _ c.in-Ok.is c.requires.found)

pub returns-in-Ok-clause-own : goal.returns-in-Ok-clause-own
returns-in-Ok-clause-own c =
    let graph = graph_over c.args.terrain.now c.args.base.now.tri.field c.requires.field c.args.root.now c.in-Ok.graph.keys.items _ _ (IfOk-at_ok _ c.in-Ok.is c.requires.found) in
    own_classes c.args.base.now.tri.field c.in-Ok.graph.keys.items _ graph.row_each graph.lead_each

pub returns-in-Ok-clause-classes : goal.returns-in-Ok-clause-classes
returns-in-Ok-clause-classes c =
    let base = c.args.base.now.tri in
    let few : length c.in-Ok.graph.keys.items ≤ c.args.limit = omega (arith, IfOk-at_ok _ c.in-Ok.is c.requires.few) in
    graph_there c.args.terrain.now base.field c.requires.field base.halves c.args.root.now c.requires.number c.triangles-triangles.ensures.valid c.requires.root
    c.keys_of_a_graph_are_reached_codes.ensures c.args.limit c.in-Ok.graph.keys.items _ _ (IfOk-at_ok _ c.in-Ok.is c.requires.found) few

pub returns-in-Err-Limit-clause-refused : goal.returns-in-Err-Limit-clause-refused
returns-in-Err-Limit-clause-refused c =
    let base = c.args.base.now.tri in
    inr (inl (
      more_there c.args.terrain.now base.field c.requires.field base.halves c.args.root.now c.requires.number c.triangles-triangles.ensures.valid c.requires.root
          c.reached_keys_are_reached_codes.ensures.sound c.args.limit (c.requires.limit (c.in-Err-Limit.is ∙ ap (λ x. Err x) c.in-Err-Limit.field-0-is)),
      refl,
    ))

pub returns-in-Err-Fault-clause-refused : goal.returns-in-Err-Fault-clause-refused
returns-in-Err-Fault-clause-refused c =
    let base = c.args.base.now.tri in
    let stuck =
    stuck_there c.args.terrain.now base.field c.requires.field base.halves c.args.root.now c.requires.number c.triangles-triangles.ensures.valid c.requires.root
    c.reached_keys_are_reached_codes.ensures.sound c.in-Err-Fault.key c.in-Err-Fault.fault
    (c.requires.fault c.in-Err-Fault.key c.in-Err-Fault.fault (c.in-Err-Fault.is ∙ ap (λ x. Err x) c.in-Err-Fault.field-0-is)) in
    inl (c.in-Err-Fault.fault.formula, c.in-Err-Fault.key, c.in-Err-Fault.fault.wall, stuck.0, stuck.1, refl)
