use Rattle.std.proofs.Common.{◌≡◌, List, refl, true, false, sym, ap, ◌∙◌, subst, ◌++◌, ◌∷◌, []}
use Rattle.std.specs.Prelude.{ℤ, cond}
use Rattle.std.specs.BTreeMap.{is_at}
use mathlib.Core.Logic.{inl, inr}
use Rattle.std.specs.Ordering.{int_cmp}
use Rattle.std.specs.Cmp.Lexicographic.{slice_cmp}
use Rattle.std.specs.BTreeSet.{contains}
use Rattle.quotient.specs.Distinct.{IsKept, parts_of}
use Rattle.quotient.proofs.DistinctMatrices.{is_new, kept_more, not_true, not_false}
use Rattle.quotient.proofs.distinct.Distinct.take.Goals as goal

pub returns-in_ok-push-clause-taken : goal.returns-in_ok-push-clause-taken
returns-in_ok-push-clause-taken c =
    let matrices = c.args.self.now.list.items in
    let set = c.args.self.now.parts in
    let x = c.args.x.now in
    let absent = not_true (contains (slice_cmp int_cmp) set c.parts_of.result) (sym c.in_ok-insert.ensures.added ∙ c.if-branch.true) in
    let new = is_new matrices x set c.requires (subst (λ k. contains (slice_cmp int_cmp) set k ≡ false) c.parts_of.ensures absent) in
    inr (new.0, new.1, c.in_ok-push.ensures.items)

pub returns-in_ok-push-clause-kept : goal.returns-in_ok-push-clause-kept
returns-in_ok-push-clause-kept c =
    let matrices = c.args.self.now.list.items in
    let set = c.args.self.now.parts in
    let x = c.args.x.now in
    subst (λ ms. IsKept ms c.insert.new.self) (sym c.in_ok-push.ensures.items)
    (kept_more matrices x set c.requires c.insert.new.self (subst (λ (k : List ℤ). (q : List ℤ) → contains (slice_cmp int_cmp) c.insert.new.self q ≡ cond (is_at (slice_cmp int_cmp k) q) true (contains (slice_cmp int_cmp) set q))
    c.parts_of.ensures c.in_ok-insert.ensures.updates.0))

pub returns-else-branch-clause-taken : goal.returns-else-branch-clause-taken
returns-else-branch-clause-taken c =
    let matrices = c.args.self.now.list.items in
    let set = c.args.self.now.parts in
    let x = c.args.x.now in
    let present = not_false (contains (slice_cmp int_cmp) set c.parts_of.result) (sym c.in_ok-insert.ensures.added ∙ c.if-branch.false) in
    inl ((c.requires x).0 (subst (λ k. contains (slice_cmp int_cmp) set k ≡ true) c.parts_of.ensures present), refl)
