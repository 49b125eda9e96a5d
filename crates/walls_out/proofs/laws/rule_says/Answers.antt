use Rattle.walls_out.proofs.Parts.{counted}
use Rattle.walls_out.proofs.laws.rule_says.Goals as goal

pub returns : goal.returns
returns c = λ words views h. (h.0, h.2, counted h.0 h.1 views h.3)
