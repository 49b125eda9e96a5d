use Rattle.std.proofs.Common.{rules, ◌≡◌, ◌<◌, ℕ, List, length, sym, subst}
use mathlib.Core.Path.{subst₂}
use Rattle.quad_field.specs.declared.quad.Quad.{Quad}
use Rattle.canon_code.specs.declared.kept_frames.KeptFrame.{KeptFrame}
use Rattle.canon_code.specs.declared.kept_frames.KeptFrames.{KeptFrames}
use Rattle.canon_code.specs.Canonical.{number_at}
use Rattle.canon_code.specs.Distinct.{AreListed}
use Rattle.canon_code.specs.KeptFrames.{HaveOneFrame, IsKeptFrame, AreKeptFrames}
use Rattle.canon_code.specs.WholeFrames.{IsScaledBy}
use Rattle.canon_code.proofs.KeptVectors.{listed_from}
use Rattle.canon_code.proofs.KeptFrames.{kept_at, moved_frame, moved_small, moved_pairs}
use Rattle.canon_code.proofs.whole.told_of.Goals as goal

pub place_of-requires-clause-kept : goal.place_of-requires-clause-kept
place_of-requires-clause-kept c = (c.args.f.now, c.rescale.ensures.kept c.args.f.now c.args.tri.now.halves c.requires.kept)

pub told_first-requires-clause-kept : goal.told_first-requires-clause-kept
told_first-requires-clause-kept c = c.rescale.ensures.kept c.args.f.now c.args.tri.now.halves c.requires.kept

pub told_at-requires-clause-start : goal.told_at-requires-clause-start
told_at-requires-clause-start c =
    let d : ℕ = c.args.f.now in
    let halves = c.args.tri.now.halves in
    let kept : KeptFrames = c.rescale.new.self in
    let frame : KeptFrame = c.index-frame.result.now in
    let own : IsKeptFrame d halves kept.distinct.firsts.items kept.scale frame = kept_at d halves kept (c.rescale.ensures.kept d halves c.requires.kept) c.in-Some.place frame c.in-Some.ensures.within c.index-frame.ensures in
    let found : HaveOneFrame halves frame.start.h c.args.h =
    subst (λ (k : KeptFrame). HaveOneFrame halves k.start.h c.args.h) (sym c.index-frame.ensures) (c.in-Some.ensures.same frame) in
    let scale : kept.scale ≡ number_at c.args.best.now 1 = search rules in
    moved_frame d halves (number_at c.args.best.now 1) frame.start c.moved-start.result (subst (λ m. IsScaledBy d halves m frame.start) scale own.start)
    (subst (λ h. HaveOneFrame halves frame.start.h h) (sym c.moved-start.ensures.h) found) (subst (λ h. h < length halves) (sym c.moved-start.ensures.h) c.requires.half)
    c.moved-start.ensures.frame c.moved-start.ensures.divisor

pub told_at-requires-clause-small : goal.told_at-requires-clause-small
told_at-requires-clause-small c =
    let d : ℕ = c.args.f.now in
    let halves = c.args.tri.now.halves in
    let kept : KeptFrames = c.rescale.new.self in
    let frame : KeptFrame = c.index-frame.result.now in
    let own : IsKeptFrame d halves kept.distinct.firsts.items kept.scale frame = kept_at d halves kept (c.rescale.ensures.kept d halves c.requires.kept) c.in-Some.place frame c.in-Some.ensures.within c.index-frame.ensures in
    moved_small d frame.start c.moved-start.result c.moved-start.ensures.frame c.moved-start.ensures.divisor c.moved-start.ensures.small own.small

pub told_at-requires-clause-listed : goal.told_at-requires-clause-listed
told_at-requires-clause-listed c =
    let d : ℕ = c.args.f.now in
    let halves = c.args.tri.now.halves in
    let kept : KeptFrames = c.rescale.new.self in
    let frame : KeptFrame = c.index-frame.result.now in
    let all : AreKeptFrames d halves kept = c.rescale.ensures.kept d halves c.requires.kept in
    let own : IsKeptFrame d halves kept.distinct.firsts.items kept.scale frame = kept_at d halves kept all c.in-Some.place frame c.in-Some.ensures.within c.index-frame.ensures in
    subst₂ (λ (p : List ℕ) (l : List Quad). AreListed d halves c.moved-start.result p l) (sym c.as_slice-places.ensures.value) (sym c.as_slice.ensures.value)
    (listed_from d halves c.moved-start.result kept.distinct.firsts.items kept.distinct.places.items frame.list.items all.distinct
    (moved_pairs d halves frame.start c.moved-start.result kept.distinct.firsts.items frame.list.items c.moved-start.ensures.frame c.moved-start.ensures.divisor own.pairs))

pub returns-in_ok-both-in-Some-clause-kept : goal.returns-in_ok-both-in-Some-clause-kept
returns-in_ok-both-in-Some-clause-kept c = c.rescale.ensures.kept c.args.f.now c.args.tri.now.halves c.requires.kept
