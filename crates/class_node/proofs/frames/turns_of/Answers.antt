use Rattle.std.proofs.Common.{sym, subst}
use mathlib.Core.Logic.{∥∥₁_map}
use Rattle.tri_core.specs.Triangulation.{Triangulation}
use Rattle.canon_code.specs.Codes.{IsCode}
use Rattle.canon_code.proofs.CallerLemmas.{canonical_code}
use Rattle.class_node.specs.Classes.{IsClassOver}
use Rattle.class_node.proofs.frames.turns_of.Goals as goal

pub tri_of-requires : goal.tri_of-requires
tri_of-requires c = ∥∥₁_map c.requires.own (λ (o : IsClassOver c.args.f.now c.args.code.now). o.1)

pub starts_of-requires-clause-code : goal.starts_of-requires-clause-code
starts_of-requires-clause-code c =
    subst (λ (t : Triangulation). ∥ IsCode c.args.f.now t.halves c.args.code.now ∥₁) (sym c.in-Ok.ensures)
    (∥∥₁_map c.requires.own (λ (o : IsClassOver c.args.f.now c.args.code.now). let m = o.1 in canonical_code c.args.f.now o.0 m.0 c.args.code.now m.1 m.2))
