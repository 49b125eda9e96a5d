use Rattle.std.proofs.Common.{◌≡◌, ◌≢◌, ◌+◌, ℕ, [], sym, subst, arith}
use Rattle.report_text.specs.Reports.{report_text}
use Rattle.report_text.specs.Limits.{IsReport}
use Rattle.report_text.proofs.Bytes.{none_is}
use Rattle.report_text.proofs.Wholes.{behind_head, no_count, behind_count, no_end, bytes_left, whole_read}
use Rattle.report_text.proofs.reader.report_of.Goals as goal

pub returns-in-Err-read_classes-clause-fault : goal.returns-in-Err-read_classes-clause-fault
returns-in-Err-read_classes-clause-fault c =
    let head = c.in-Ok.read.0 in
    behind_head c.args.bytes.now head.field head.point head.classes c.in-Ok.read.1.now c.in-Ok.ensures.0 c.in-Ok.ensures.1 c.in-Err-read_classes.fault c.in-Err-read_classes.ensures.fault

pub returns-in_default-clause-fault : goal.returns-in_default-clause-fault
returns-in_default-clause-fault c =
    let head = c.in-Ok.read.0 in
    let codes = c.in-Ok-read_classes.read.0 in
    no_count c.args.bytes.now head.field head.point head.classes c.in-Ok.read.1.now c.in-Ok.ensures.0 c.in-Ok.ensures.1
    codes.items c.in-Ok-read_classes.read.1.now c.in-Ok-read_classes.ensures.read (c.len.result + 4 + 1) (omega (arith, codes.ok.0)) c.in_default.ensures

pub returns-in-Err-read_matrices-clause-fault : goal.returns-in-Err-read_matrices-clause-fault
returns-in-Err-read_matrices-clause-fault c =
    let head = c.in-Ok.read.0 in
    let codes = c.in-Ok-read_classes.read.0 in
    behind_count c.args.bytes.now head.field head.point head.classes c.in-Ok.read.1.now c.in-Ok.ensures.0 c.in-Ok.ensures.1
    codes.items c.in-Ok-read_classes.read.1.now c.in-Ok-read_classes.ensures.read c.in-Some.wanted c.in-Some.after_count.now c.in-Some.ensures
    (c.len.result + 4 + 1) c.in-Err-read_matrices.fault (omega (arith, codes.ok.0)) c.in-Err-read_matrices.ensures.fault

pub returns-in_default-end_line-clause-fault : goal.returns-in_default-end_line-clause-fault
returns-in_default-end_line-clause-fault c =
    let head = c.in-Ok.read.0 in
    let codes = c.in-Ok-read_classes.read.0 in
    let mats = c.in-Ok-read_matrices.read.0 in
    no_end c.args.bytes.now head.field head.point head.classes c.in-Ok.read.1.now c.in-Ok.ensures.0 c.in-Ok.ensures.1
    codes.items c.in-Ok-read_classes.read.1.now c.in-Ok-read_classes.ensures.read c.in-Some.wanted c.in-Some.after_count.now c.in-Some.ensures
    mats.items c.in-Ok-read_matrices.read.1.now c.in-Ok-read_matrices.ensures.read
    (c.len.result + 4 + c.len-2.result + 1 + 1) (omega (arith, codes.ok.0, mats.ok.0)) c.in_default-end_line.ensures

pub returns-then-not-is_empty-clause-fault : goal.returns-then-not-is_empty-clause-fault
returns-then-not-is_empty-clause-fault c =
    let head = c.in-Ok.read.0 in
    let codes = c.in-Ok-read_classes.read.0 in
    let mats = c.in-Ok-read_matrices.read.0 in
    let some : c.in-Some-end_line.left.now ≢ [] = (none_is c.in-Some-end_line.left.now c.is_empty.result c.is_empty.ensures).1 c.if-not-is_empty.true in
    bytes_left c.args.bytes.now head.field head.point head.classes c.in-Ok.read.1.now c.in-Ok.ensures.0 c.in-Ok.ensures.1
    codes.items c.in-Ok-read_classes.read.1.now c.in-Ok-read_classes.ensures.read c.in-Some.wanted c.in-Some.after_count.now c.in-Some.ensures
    mats.items c.in-Ok-read_matrices.read.1.now c.in-Ok-read_matrices.ensures.read c.in-Some-end_line.left.now c.in-Some-end_line.ensures
    (c.len.result + 4 + c.len-2.result + 1 + 2) (omega (arith, codes.ok.0, mats.ok.0)) some

pub returns-clause-read : goal.returns-clause-read
returns-clause-read c =
    let head = c.in-Ok.read.0 in
    let codes = c.in-Ok-read_classes.read.0 in
    let mats = c.in-Ok-read_matrices.read.0 in
    let none : c.in-Some-end_line.left.now ≡ [] = (none_is c.in-Some-end_line.left.now c.is_empty.result c.is_empty.ensures).0 c.if-not-is_empty.false in
    let is =
    whole_read c.args.bytes.now head.field head.point head.classes c.in-Ok.read.1.now c.in-Ok.ensures.0 c.in-Ok.ensures.1
    codes.items c.in-Ok-read_classes.read.1.now c.in-Ok-read_classes.ensures.read c.in-Some.wanted c.in-Some.after_count.now c.in-Some.ensures
    mats.items c.in-Ok-read_matrices.read.1.now c.in-Ok-read_matrices.ensures.read c.in-Some-end_line.left.now c.in-Some-end_line.ensures none in
    subst (λ (d : ℕ). (c.args.bytes.now ≡ report_text d head.point codes.items mats.items) × IsReport d head.point codes.items mats.items) (sym c.number.ensures.number) is
