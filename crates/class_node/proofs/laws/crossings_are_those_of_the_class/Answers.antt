use mathlib.Core.Logic.{∥∥₁_map}
use Rattle.class_node.specs.Classes.{field_of, IsClassOver}
use Rattle.class_node.specs.Leads.{IsLead}
use Rattle.class_node.proofs.Equivariance.{lead_carried}
use Rattle.class_node.proofs.laws.crossings_are_those_of_the_class.Goals as goal

pub returns-clause-each : goal.returns-clause-each
returns-clause-each c = λ d code a p to later walls others w v e g own are valid image list less below matching lead crosses.
    lead_carried d code own walls are w e g lead a p to later others v valid image less matching crosses

pub returns-clause-merely : goal.returns-clause-merely
returns-clause-merely c = λ t code a p to later walls others w v e g are valid image list less below matching lead crosses.
    ∥∥₁_map lead (λ (x : IsClassOver (field_of t) code × IsLead (field_of t) code w e g). lead_carried (field_of t) code x.0 walls are w e g x.1 a p to later others v valid image less matching crosses)
