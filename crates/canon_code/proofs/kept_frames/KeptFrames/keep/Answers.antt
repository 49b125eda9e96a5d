use Rattle.std.proofs.Common.{subst, sym}
use Rattle.std.specs.Prelude.{All}
use Rattle.std.proofs.lemmas.List.Elements.{All-push}
use Rattle.canon_code.specs.KeptFrames.{IsKeptFrame}
use Rattle.canon_code.proofs.kept_frames.KeptFrames.keep.Goals as goal

pub returns-clause-kept : goal.returns-clause-kept
returns-clause-kept c = λ d halves is scaled small pairs. record {
  distinct = is.distinct;
  each = subst (All (IsKeptFrame d halves c.args.self.now.distinct.firsts.items c.args.self.now.scale)) (sym c.in_ok-push.ensures.items)
      (All-push (IsKeptFrame d halves c.args.self.now.distinct.firsts.items c.args.self.now.scale) c.args.self.now.frames.items _ is.each (record { start = scaled; small = small; pairs = pairs }));
}
