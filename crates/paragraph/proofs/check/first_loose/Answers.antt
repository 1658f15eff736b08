use Rattle.std.proofs.Common.{sym, ◌∙◌}
use Rattle.paragraph.proofs.Rows.{loose_on, loose_here, loose_none, loose_short}
use Rattle.paragraph.proofs.Tiling.{follows_parts}
use Rattle.paragraph.proofs.check.first_loose.Goals as goal

pub returns-then-not-follows : goal.returns-then-not-follows
returns-then-not-follows g c =
    sym (loose_here _ _ _ c.loop-i-test.true c.index-rows-i.is _ _ _ _ c.piece-piece.ensures c.if-not-follows.ensures)
    ∙ c.loop-i.invariant.1

pub loop-i-preserved : goal.loop-i-preserved
loop-i-preserved g c = (
  (follows_parts _ _ _ (sym c.if-not-follows.ensures)).2,
  sym (loose_on _ _ _ c.loop-i-test.true c.index-rows-i.is _ _ _ _ c.piece-piece.ensures c.if-not-follows.ensures)
      ∙ c.loop-i.invariant.1,
)

pub returns-then-at-n : goal.returns-then-at-n
returns-then-at-n g c =
    sym (loose_none _ _ c.loop-i-test.false c.loop-i.auto.i-end _ _ _ c.if-at-n.true) ∙ c.loop-i.invariant.1

pub returns-else-at-n : goal.returns-else-at-n
returns-else-at-n g c =
    sym (loose_short _ _ c.loop-i-test.false c.loop-i.auto.i-end _ _ _ c.if-at-n.false) ∙ c.loop-i.invariant.1
