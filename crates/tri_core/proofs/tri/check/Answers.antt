use Rattle.tri_core.proofs.tri.check.Goals as goal

pub returns-clause-valid : goal.returns-clause-valid
returns-clause-valid c = record {
  count = c.has_triangles.ensures.0 c.if-not-has_triangles.false;
  closed = rw c.in_default.is at c.in_ok-t.ensures.first;
  turns = rw c.in_default-2.is at c.in_ok-t-2.ensures.first;
  paired = rw c.in_default-first_unpaired.is at c.first_unpaired.ensures;
  joined = rw c.in_default-3.is at c.in_ok-t-3.ensures;
}
