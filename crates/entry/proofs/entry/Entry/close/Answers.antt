use Rattle.std.proofs.Common.{length, take, ap, ◌∙◌, subst}
use Rattle.entry.proofs.Answering.{found, laid_is}
use Rattle.entry.proofs.Continuing.{close_continues}
use Rattle.entry.proofs.entry.Entry.close.Goals as goal
use Rattle.entry.specs.Continues.{Closes}
use Rattle.entry.specs.Lines.{after_close, order_of}
use Rattle.layout.specs.Lines.{closing_line, line_ranges}
use Rattle.measure.specs.Rows.{row_width}
use Rattle.paragraph.specs.Aheads.{text_at}
use Rattle.paragraph.specs.Lent.{lent}
use Rattle.paragraph.specs.Reading.{ahead}
use Rattle.paragraph.specs.Text.{Text}

pub returns-clause-continues : goal.returns-clause-continues
returns-clause-continues g c =
    let k = g.M.Measure in
    let self = c.args.self.now in
    let q = self.progress in
    let a = c.in_ok-ahead.ahead in
    let exact = c.in_ok-ahead.ensures.exact in
    let same = ap (λ x. lent x.rows) exact.1 ∙ c.tables.ensures.holds in
    let left_is = (λ j. length (ahead (lent (exact.1 j).rows) (exact.2 j))) ∙ c.in_ok-ahead.ensures.granted.left_is in
    let mode = c.args.ellipsize in
    let w = c.args.width in
    let e = row_width k self.measure c.ellipsis-ellipsis.result.now in
    let l = closing_line k self.measure (text_at a) a.position mode w e in
    let line = c.lay_closing-line in
    let ranges = c.args.ranges.now in
    let order = c.args.order.now in
    let written = line.ensures.written in
    let after_is = c.after_close-self.ensures ∙ ap (after_close q) (laid_is (text_at a) l line.result ranges line.new.ranges order line.new.order written) in
    let goes_on = close_continues k self.measure a q exact.2 left_is mode w e (order_of (line_ranges l)) written.in_order in
    subst (λ (t : Text). Closes t q c.after_close-self.result (take line.result.ranges line.new.ranges) (take line.result.ranges line.new.order)) same
    (found (text_at a) l line.result ranges line.new.ranges order line.new.order written (Closes (text_at a) q) (after_close q l.laid) c.after_close-self.result after_is goes_on)
