use Rattle.surface_text.specs.Spelling.{content}
use Rattle.surface_text.proofs.Outcomes.{read_accepted, read_refused}
use Rattle.surface_text.proofs.reader.read.Goals as goal

pub returns-clause-accepted : goal.returns-clause-accepted
returns-clause-accepted c file spelled limits = read_accepted content c.args.bytes.now c.file_of.result c.file_of.ensures file spelled limits

pub returns-clause-refused : goal.returns-clause-refused
returns-clause-refused c cause line refused = read_refused content c.args.bytes.now c.file_of.result c.file_of.ensures cause line refused
