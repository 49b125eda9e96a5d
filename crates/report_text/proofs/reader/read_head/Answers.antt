use Rattle.report_text.proofs.Wholes.{no_version, no_field, no_base, no_class_count, head_read}
use Rattle.report_text.proofs.reader.read_head.Goals as goal

pub returns-in_default : goal.returns-in_default
returns-in_default c = no_version c.args.bytes.now c.in_default.ensures

pub returns-in_default-field_line : goal.returns-in_default-field_line
returns-in_default-field_line c = no_field c.args.bytes.now c.in-Some.after_version.now c.in-Some.ensures c.in_default-field_line.ensures

pub returns-in_default-base_line : goal.returns-in_default-base_line
returns-in_default-base_line c =
    no_base c.args.bytes.now c.in-Some.after_version.now c.in-Some.ensures c.in-Some-field_line.read.0 c.in-Some-field_line.read.1.now c.in-Some-field_line.ensures c.in_default-base_line.ensures

pub returns-in_default-class_count_line : goal.returns-in_default-class_count_line
returns-in_default-class_count_line c =
    no_class_count c.args.bytes.now c.in-Some.after_version.now c.in-Some.ensures c.in-Some-field_line.read.0 c.in-Some-field_line.read.1.now c.in-Some-field_line.ensures
    c.in-Some-base_line.point c.in-Some-base_line.after_base.now c.in-Some-base_line.ensures c.in_default-class_count_line.ensures

pub returns : goal.returns
returns c =
    head_read c.args.bytes.now c.in-Some.after_version.now c.in-Some.ensures c.in-Some-field_line.read.0 c.in-Some-field_line.read.1.now c.in-Some-field_line.ensures
    c.in-Some-base_line.point c.in-Some-base_line.after_base.now c.in-Some-base_line.ensures
    c.in-Some-class_count_line.classes c.in-Some-class_count_line.after_count.now c.in-Some-class_count_line.ensures
