use Rattle.std.proofs.Common.{length, refl, subst}
use Rattle.surface_text.specs.declared.lines.BodyLine.{BodyLine}
use Rattle.surface_text.specs.Spelling.{content}
use Rattle.surface_text.specs.Lines.{IsTaken, line_of}
use Rattle.surface_text.specs.Lines.{behind_field}
use Rattle.surface_text.proofs.Outcomes.{body_base, body_polygon, body_glue, body_end, body_refused}
use Rattle.surface_text.proofs.reader.body.Goals as goal

pub returns-in-Err : goal.returns-in-Err
returns-in-Err c =
    body_refused (behind_field c.args.field c.args.bytes.now) (length c.args.bytes.now) (content c.lines.file) c.lines.rest.now c.in-Err.fault c.next_number.result c.fault_at.result
    c.lines.invariant c.in-Err.ensures c.next_number.ensures c.fault_at.ensures

pub lines-preserved-in-Continue-1 : goal.lines-preserved-in-Continue-1
lines-preserved-in-Continue-1 c =
    let taken = subst (λ (line : BodyLine). IsTaken (content c.lines.file) c.lines.rest.now (line_of line) c.in-Ok.taken.1.now) c.in-Base.is c.in-Ok.ensures in
    body_base (behind_field c.args.field c.args.bytes.now) (length c.args.bytes.now) (content c.lines.file)
    (content (record c.lines.file { bases = c.push.new.self })) c.lines.rest.now c.in-Ok.taken.1.now c.in-Base.at c.requires.few_bytes c.lines.invariant taken
    refl c.in_ok-push-in-Base.ensures.items refl refl

pub lines-preserved-in-Continue-branch-2 : goal.lines-preserved-in-Continue-branch-2
lines-preserved-in-Continue-branch-2 c =
    let taken = subst (λ (line : BodyLine). IsTaken (content c.lines.file) c.lines.rest.now (line_of line) c.in-Ok.taken.1.now) c.in-Polygon.is c.in-Ok.ensures in
    body_polygon (behind_field c.args.field c.args.bytes.now) (length c.args.bytes.now) (content c.lines.file)
    (content (record c.lines.file { polygons = c.push-in-Polygon.new.self })) c.lines.rest.now c.in-Ok.taken.1.now
    c.lines.file.polygons.items c.push-in-Polygon.new.self.items c.in-Polygon.polygon c.requires.few_bytes c.lines.invariant taken
    refl refl refl refl c.in_ok-push-in-Polygon.ensures.items refl

pub lines-preserved : goal.lines-preserved
lines-preserved c =
    let taken = subst (λ (line : BodyLine). IsTaken (content c.lines.file) c.lines.rest.now (line_of line) c.in-Ok.taken.1.now) c.in-Glue.is c.in-Ok.ensures in
    body_glue (behind_field c.args.field c.args.bytes.now) (length c.args.bytes.now) (content c.lines.file)
    (content (record c.lines.file { glues = c.push-in-Glue.new.self })) c.lines.rest.now c.in-Ok.taken.1.now c.in-Glue.glue c.requires.few_bytes c.lines.invariant taken
    refl refl refl c.in_ok-push-in-Glue.ensures.items

pub returns-in-End : goal.returns-in-End
returns-in-End c =
    let taken = subst (λ (line : BodyLine). IsTaken (content c.lines.file) c.lines.rest.now (line_of line) c.in-Ok.taken.1.now) c.in-End.is c.in-Ok.ensures in
    body_end (behind_field c.args.field c.args.bytes.now) (length c.args.bytes.now) (content c.lines.file) c.lines.rest.now c.in-Ok.taken.1.now
    c.requires.few_bytes c.lines.invariant taken
