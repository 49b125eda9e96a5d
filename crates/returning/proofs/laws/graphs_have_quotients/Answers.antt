use Rattle.std.proofs.Common.{sym, ◌∙◌}
use Rattle.returning.proofs.Classes.{root_known, lead_matrix, first_matrix, turn_matrix}
use Rattle.returning.proofs.Places.{place_reached, lead_inside}
use Rattle.returning.proofs.laws.graphs_have_quotients.Goals as goal

pub returns-clause-reached : goal.returns-clause-reached
returns-clause-reached c = λ t root base keys rows place is graph. (root_known t root base is keys rows place graph, place_reached t root base is keys rows place graph)

pub returns-clause-targets : goal.returns-clause-targets
returns-clause-targets c = λ t root base keys rows place is graph. lead_inside t root base is keys rows place graph

pub returns-clause-links : goal.returns-clause-links
returns-clause-links c = λ t root base keys rows place is graph. lead_matrix t root base is keys rows place graph

pub returns-clause-first : goal.returns-clause-first
returns-clause-first c = λ t root base first is frame. first_matrix t root base is first frame

pub returns-clause-turns : goal.returns-clause-turns
returns-clause-turns c = λ t root base keys rows place turns is graph are.
    (are.as_many ∙ sym graph.row_each, turn_matrix t root base is keys rows place graph turns are)
