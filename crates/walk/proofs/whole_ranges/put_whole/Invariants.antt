use Rattle.paragraph.specs.Lent.{lent}
use Rattle.walk.proofs.Wholes.{AtRange}
use Rattle.walk.proofs.whole_ranges.put_whole.Given as goal

abbrev pub invariant-loop-s : goal.invariant-loop-s
invariant-loop-s l = AtRange (lent l.tables.rows) l.position l.initial.ranges l.ranges l.count l.s
