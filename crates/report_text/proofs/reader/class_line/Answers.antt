use Rattle.std.proofs.Common.{Some, codes, refl}
use Rattle.std.proofs.lemmas.Bool.Decides.{Decides-eqb}
use Rattle.std.proofs.lemmas.Slice.Eq.{strip_prefix_is}
use Rattle.report_text.specs.Following.{SoFar}
use Rattle.report_text.proofs.NextLines.{bad_cut, bad_order, refused_class, next_refusal, class_read}
use Rattle.report_text.proofs.reader.class_line.Goals as goal

pub returns-in_default-clause-fault : goal.returns-in_default-clause-fault
returns-in_default-clause-fault c n low = (refl, bad_cut c.args.f.now n c.args.codes.now low c.args.rest.now c.in_default.ensures)

pub returns-in-Ok-clause-read : goal.returns-in-Ok-clause-read
returns-in-Ok-clause-read c =
    let head = strip_prefix_is Decides-eqb c.in-Some.bytes.now (codes "class ") (Some c.in-Some-strip_prefix.text) c.in-Some-strip_prefix.ensures.cases in
    let lists = c.in-Ok.ensures.code.0 in
    let made = c.in-Ok.ensures.code.1 in
    let is = class_read c.args.f.now c.args.rest.now c.in-Some.bytes.now c.in-Some.after.now c.in-Some-strip_prefix.text.now c.in-Ok.code c.in-Some.ensures head lists made in
    let above = c.if-is_above_last.ensures.0 refl in (is.0, is.1, above, made)

pub returns-in-Ok-2-clause-fault : goal.returns-in-Ok-2-clause-fault
returns-in-Ok-2-clause-fault c n low =
    let head = strip_prefix_is Decides-eqb c.in-Some.bytes.now (codes "class ") (Some c.in-Some-strip_prefix.text) c.in-Some-strip_prefix.ensures.cases in
    let lists = c.in-Ok.ensures.code.0 in
    let made = c.in-Ok.ensures.code.1 in (
      refl,
      bad_order c.args.f.now n c.args.codes.now low c.args.rest.now c.in-Some.bytes.now c.in-Some.after.now c.in-Some.ensures c.in-Some-strip_prefix.text.now c.in-Ok.code head lists made
          (λ above. let yes = c.if-is_above_last.ensures.1 above in absurd (cc)),
    )

pub returns : goal.returns
returns c =
    let head = strip_prefix_is Decides-eqb c.in-Some.bytes.now (codes "class ") (Some c.in-Some-strip_prefix.text) c.in-Some-strip_prefix.ensures.cases in
    record {
      read = tt;
      fault = λ n low.
          next_refusal (SoFar.classes c.args.f.now n c.args.codes.now) c.args.rest.now c.args.line c.in-Err.fault c.code_refusal.result c.code_refusal.ensures.code c.code_refusal.ensures.memory
          (refused_class c.args.f.now n c.args.codes.now low c.args.rest.now c.in-Some.bytes.now c.in-Some.after.now c.in-Some.ensures c.in-Some-strip_prefix.text.now c.in-Err.fault head
          c.in-Err.ensures.cause);
    }
