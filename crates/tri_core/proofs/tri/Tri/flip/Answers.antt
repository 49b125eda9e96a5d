use Rattle.std.proofs.Common.{◌≡◌, ◌∙◌, ap}
use Rattle.tri_core.specs.Triangulation.{Triangulation}
use Rattle.tri_core.proofs.Handed.{apart-named, flip-named, handed-flip, handed-triangulation}
use Rattle.tri_core.proofs.tri.Tri.flip.Goals as goal

pub new_diagonal-requires-clause-apart : goal.new_diagonal-requires-clause-apart
new_diagonal-requires-clause-apart c =
    apart-named c.self.inside.field c.args.self.now.halves c.self.inside.halves.items c.as_slice.result.now c.args.edge
    (ap (λ (t : Triangulation). t.halves) c.self.view_is) c.as_slice.ensures.value c.self.invariant c.requires.edge.0

pub exchange-requires-clause-apart : goal.exchange-requires-clause-apart
exchange-requires-clause-apart c =
    apart-named c.self.inside.field c.args.self.now.halves c.self.inside.halves.items c.as_mut_slice.result.now c.args.edge
    (ap (λ (t : Triangulation). t.halves) c.self.view_is) c.as_mut_slice.ensures.value c.self.invariant c.requires.edge.0

pub invariant_of-self : goal.invariant_of-self
invariant_of-self c =
    let field : c.self.inside.field ≡ c.args.self.now.field = ap (λ (t : Triangulation). t.field) c.self.view_is in
    let items : c.self.inside.halves.items ≡ c.args.self.now.halves = ap (λ (t : Triangulation). t.halves) c.self.view_is in
    let flip =
    flip-named c.args.f.now c.args.self.now.field c.args.self.now.halves c.as_slice.result.now c.as_mut_slice.result.now c.args.edge c.exchange.new.halves
    c.in_ok-diagonal.diagonal.vec c.in_ok-diagonal.diagonal.opposite
    (c.as_slice.ensures.value ∙ items) (c.as_mut_slice.ensures.value ∙ items) c.requires.field
    c.exchange.ensures c.in_ok-diagonal.ensures.exact c.in_ok-diagonal.ensures.opposite in
    handed-triangulation c.args.self.now.field c.self.inside.field c.args.self.now.halves c.self.inside.halves.items c.exchange.new.halves _ c.args.edge _
    field items (c.exchange.auto.halves ∙ c.as_mut_slice.ensures.len) c.self.invariant c.requires.edge c.requires.convex flip

pub returns-clause-flipped : goal.returns-clause-flipped
returns-clause-flipped c =
    let field : c.self.inside.field ≡ c.args.self.now.field = ap (λ (t : Triangulation). t.field) c.self.view_is in
    let items : c.self.inside.halves.items ≡ c.args.self.now.halves = ap (λ (t : Triangulation). t.halves) c.self.view_is in
    let flip =
    flip-named c.args.f.now c.args.self.now.field c.args.self.now.halves c.as_slice.result.now c.as_mut_slice.result.now c.args.edge c.exchange.new.halves
    c.in_ok-diagonal.diagonal.vec c.in_ok-diagonal.diagonal.opposite
    (c.as_slice.ensures.value ∙ items) (c.as_mut_slice.ensures.value ∙ items) c.requires.field
    c.exchange.ensures c.in_ok-diagonal.ensures.exact c.in_ok-diagonal.ensures.opposite in
    (field, handed-flip c.args.self.now.field c.args.self.now.halves c.exchange.new.halves _ c.args.edge _ (c.exchange.auto.halves ∙ c.as_mut_slice.ensures.len) flip)
