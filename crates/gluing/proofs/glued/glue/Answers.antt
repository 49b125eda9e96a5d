use Rattle.surface_text.specs.Spelling.{content}
use Rattle.gluing.proofs.CallerLemmas.{not_both, memory_alone, fault_is}
use Rattle.gluing.proofs.glued.glue.Goals as goal

pub returns-in-Ok-clause-refused : goal.returns-in-Ok-clause-refused
returns-in-Ok-clause-refused c = λ cause line refused. absurd (not_both (content c.args.file.now) cause line c.in-Ok.ensures.valid refused)

pub returns-in-Err-clause-accepted : goal.returns-in-Err-clause-accepted
returns-in-Err-clause-accepted c = λ valid. memory_alone (content c.args.file.now) c.in-Err.fault valid c.in-Err.ensures.cause

pub returns-in-Err-clause-refused : goal.returns-in-Err-clause-refused
returns-in-Err-clause-refused c = λ cause line refused. fault_is (content c.args.file.now) c.in-Err.fault cause line c.in-Err.ensures.cause refused
