use Rattle.std.proofs.Common.{◌≡◌, ◌<◌, ◌+◌, ℤ, List, length, sym, subst, arith}
use Rattle.report_text.specs.Following.{SoFar}
use Rattle.report_text.specs.Limits.{IsAboveLast}
use Rattle.report_text.specs.Readings.{IsNextFault}
use Rattle.report_text.proofs.Wholes.{ClassesSoFar, one_class, class_refused}
use Rattle.report_text.proofs.reader.read_classes.Goals as goal

pub returns-in-Err-clause-fault : goal.returns-in-Err-clause-fault
returns-in-Err-clause-fault c =
    let low : length c.classes.codes.items < c.args.wanted = omega (arith, c.classes.codes.ok.0) in
    let same : c.as_slice.result.now ≡ c.classes.codes.items = c.as_slice.ensures.value in
    let line = c.len-in-classes.result + 5 in
    let next = c.in-Err.ensures.fault c.args.wanted (subst (λ (l : List (List ℤ)). length l < c.args.wanted) (sym same) low) in
    class_refused c.args.f.now c.args.wanted c.args.bytes.now c.classes.codes.items c.classes.rest.now c.classes.invariant line c.in-Err.fault (omega (arith, c.classes.codes.ok.0))
    (subst (λ (l : List (List ℤ)). IsNextFault (SoFar.classes c.args.f.now c.args.wanted l) c.classes.rest.now line c.in-Err.fault) same next)

pub classes-preserved : goal.classes-preserved
classes-preserved c =
    let low : length c.classes.codes.items < c.args.wanted = omega (arith, c.classes.codes.ok.0) in
    let same : c.as_slice.result.now ≡ c.classes.codes.items = c.as_slice.ensures.value in
    let read = c.in-Ok.ensures.read in
    let above = subst (λ (l : List (List ℤ)). IsAboveLast l c.in-Ok.read.0) same read.2 in
    subst (λ (l : List (List ℤ)). ClassesSoFar c.args.f.now c.args.wanted c.args.bytes.now l c.in-Ok.read.1.now) (sym c.in_ok-push.ensures.items)
    (one_class c.args.f.now c.args.wanted c.args.bytes.now c.classes.codes.items c.classes.rest.now c.classes.invariant c.in-Ok.read.0 c.in-Ok.read.1.now low read.0 read.1 above read.3)
