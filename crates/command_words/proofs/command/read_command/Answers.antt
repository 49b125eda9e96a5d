use Rattle.std.proofs.Common.{subst}
use Rattle.command_words.specs.Grammar.{check_row, base_row, region_row, path_row, plain_row, group_row, make_row, trial_row}
use Rattle.command_words.specs.Lines.{IsTaken}
use Rattle.command_words.proofs.CommandLemmas.{check_taken, base_taken, region_taken, path_taken, plain_taken, group_taken, make_taken, trial_taken, refused_row, none_taken}
use Rattle.command_words.proofs.command.read_command.Goals as goal

pub returns-in_err-check-clause-refused : goal.returns-in_err-check-clause-refused
returns-in_err-check-clause-refused c = λ other. absurd (other (check_taken c.args.words.now (subst (IsTaken check_row) c.as_slice-words.ensures (c.is_line.ensures.0 c.if-is_line.true))))

pub returns-in_err-base-clause-refused : goal.returns-in_err-base-clause-refused
returns-in_err-base-clause-refused c = λ other. absurd (other (base_taken c.args.words.now (subst (IsTaken base_row) c.as_slice-words.ensures (c.is_line-2.ensures.0 c.if-is_line-2.true))))

pub returns-in_err-region-clause-refused : goal.returns-in_err-region-clause-refused
returns-in_err-region-clause-refused c = λ other. absurd (other (region_taken c.args.words.now (subst (IsTaken region_row) c.as_slice-words.ensures (c.is_line-3.ensures.0 c.if-is_line-3.true))))

pub returns-in_err-path-clause-refused : goal.returns-in_err-path-clause-refused
returns-in_err-path-clause-refused c = λ other. absurd (other (path_taken c.args.words.now (subst (IsTaken path_row) c.as_slice-words.ensures (c.is_line-4.ensures.0 c.if-is_line-4.true))))

pub returns-in_err-plain-clause-refused : goal.returns-in_err-plain-clause-refused
returns-in_err-plain-clause-refused c = λ other. absurd (other (plain_taken c.args.words.now (subst (IsTaken plain_row) c.as_slice-words.ensures (c.is_line-5.ensures.0 c.if-is_line-5.true))))

pub returns-in_err-group-clause-refused : goal.returns-in_err-group-clause-refused
returns-in_err-group-clause-refused c = λ other. absurd (other (group_taken c.args.words.now (subst (IsTaken group_row) c.as_slice-words.ensures (c.is_line-6.ensures.0 c.if-is_line-6.true))))

pub returns-in_err-make-clause-refused : goal.returns-in_err-make-clause-refused
returns-in_err-make-clause-refused c = λ other. absurd (other (make_taken c.args.words.now (subst (IsTaken make_row) c.as_slice-words.ensures (c.is_line-7.ensures.0 c.if-is_line-7.true))))

pub returns-in_err-trial-clause-refused : goal.returns-in_err-trial-clause-refused
returns-in_err-trial-clause-refused c = λ other. absurd (other (trial_taken c.args.words.now (subst (IsTaken trial_row) c.as_slice-words.ensures (c.is_line-8.ensures.0 c.if-is_line-8.true))))

pub returns-clause-named : goal.returns-clause-named
returns-clause-named c =
    none_taken c.args.words.now
    (refused_row check_row _ _ c.is_line.result c.as_slice-words.ensures c.is_line.ensures c.if-is_line.false)
    (refused_row base_row _ _ c.is_line-2.result c.as_slice-words.ensures c.is_line-2.ensures c.if-is_line-2.false)
    (refused_row region_row _ _ c.is_line-3.result c.as_slice-words.ensures c.is_line-3.ensures c.if-is_line-3.false)
    (refused_row path_row _ _ c.is_line-4.result c.as_slice-words.ensures c.is_line-4.ensures c.if-is_line-4.false)
    (refused_row plain_row _ _ c.is_line-5.result c.as_slice-words.ensures c.is_line-5.ensures c.if-is_line-5.false)
    (refused_row group_row _ _ c.is_line-6.result c.as_slice-words.ensures c.is_line-6.ensures c.if-is_line-6.false)
    (refused_row make_row _ _ c.is_line-7.result c.as_slice-words.ensures c.is_line-7.ensures c.if-is_line-7.false)
    (refused_row trial_row _ _ c.is_line-8.result c.as_slice-words.ensures c.is_line-8.ensures c.if-is_line-8.false)
