use Rattle.std.proofs.Common.{subst}
use Rattle.surface_text.specs.Spelling.{Content, content}
use Rattle.gluing.specs.Refusals.{IsFaultOf}
use Rattle.gluing.specs.declared.fault.GlueFault.{GlueFault}
use Rattle.gluing.specs.declared.fault.GlueFault.TheVariants.{Bad}
use Rattle.gluing.proofs.CallerLemmas.{not_both}
use Rattle.family_gen.specs.Families.{family_of}
use Rattle.veech_cli.proofs.surface.surface_of_family.Goals as goal

pub unreachable-requires : goal.unreachable-requires
unreachable-requires c =
    not_both (family_of c.args.number) c.in-Err-Bad.field-0-0 c.in-Err-Bad.field-0-1 (c.surfaces.ensures.glued c.args.number c.requires)
    (subst (λ (file : Content). IsFaultOf file (Bad c.in-Err-Bad.field-0-0 c.in-Err-Bad.field-0-1)) c.in_ok-file.ensures
    (subst (λ (fault : GlueFault). IsFaultOf (content c.in_ok-file.file) fault) c.in-Err-Bad.field-0-is c.in-Err-Bad.ensures.refused))
