use Rattle.std.proofs.Common.{◌≡◌, ◌+◌, ◌≤◌, length}
use Rattle.walk.specs.Fit.{fits}
use Rattle.walk.specs.Parts.{next}
use Rattle.walk.proofs.fit_glyphs.fit_glyphs.Given as goal

abbrev pub invariant-loop-i : goal.invariant-loop-i
invariant-loop-i g l = record {
  within : l.left.first + l.left.count ≤ length l.row;
  as_up : l.left.up ≡ l.fn.places.up;
  at_edge : l.edge ≡ next l.left.up l.left.first l.left.count;
  goes : fits g.M.Measure l.m l.row l.fn.places.up l.before l.limit l.width l.left.first l.left.count ≡ fits g.M.Measure l.m l.row l.fn.places.up l.before l.limit l.fn.taken l.fn.places.first l.fn.places.count;
}
