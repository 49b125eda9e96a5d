use Rattle.std.proofs.Common.{sym, subst, Err}
use Rattle.canon_code.specs.CodeText.{Lists}
use Rattle.canon_code.proofs.Refused.{read_ok, read_err, text_cause, taken_from, refused_from}
use Rattle.canon_code.proofs.reader.read_code.Goals as goal

pub returns-in-Ok-clause-taken : goal.returns-in-Ok-clause-taken
returns-in-Ok-clause-taken c =
    let d = c.args.f.now in
    let text = c.args.text.now in
    let lists : Lists text c.as_slice.result.now = subst (Lists text) (sym c.as_slice.ensures.value) c.in-Ok.ensures.numbers in
    taken_from d text c.code_of.result (read_ok d text c.as_slice.result.now lists c.code_of.result c.code_of.ensures.code) (read_err d text c.as_slice.result.now lists c.code_of.result c.code_of.ensures.fault)

pub returns-in-Ok-clause-refused : goal.returns-in-Ok-clause-refused
returns-in-Ok-clause-refused c =
    let d = c.args.f.now in
    let text = c.args.text.now in
    let lists : Lists text c.as_slice.result.now = subst (Lists text) (sym c.as_slice.ensures.value) c.in-Ok.ensures.numbers in
    refused_from d text c.code_of.result (read_ok d text c.as_slice.result.now lists c.code_of.result c.code_of.ensures.code) (read_err d text c.as_slice.result.now lists c.code_of.result c.code_of.ensures.fault)

pub returns-in-Err-clause-taken : goal.returns-in-Err-clause-taken
returns-in-Err-clause-taken c = taken_from c.args.f.now c.args.text.now (Err c.in-Err.fault) tt (text_cause c.args.f.now c.args.text.now c.in-Err.fault c.in-Err.ensures.fault)
