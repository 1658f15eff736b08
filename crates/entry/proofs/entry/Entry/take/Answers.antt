use Rattle.std.proofs.Common.{ℕ, ◌-◌, length, take, ap, ◌∙◌, subst, sym, arith}
use Rattle.entry.proofs.Answering.{found, laid_is}
use Rattle.entry.proofs.Continuing.{ahead_most, take_continues}
use Rattle.entry.proofs.Verdicts.{take_refused}
use Rattle.entry.proofs.entry.Entry.take.Goals as goal
use Rattle.entry.specs.Continues.{Takes}
use Rattle.entry.specs.Lines.{after_take, order_of, taken_line}
use Rattle.entry.specs.Steps.{standing}
use Rattle.entry.specs.Verdict.{take_verdict}
use Rattle.layout.specs.Lines.{line_ranges}
use Rattle.paragraph.specs.Aheads.{text_at}
use Rattle.paragraph.specs.Lent.{lent}
use Rattle.paragraph.specs.Reading.{ahead}
use Rattle.paragraph.specs.Text.{Text}

pub returns-in_err-ahead-clause-granted : goal.returns-in_err-ahead-clause-granted
returns-in_err-ahead-clause-granted g c =
    let q = c.args.self.now.progress in
    let ranges = length c.args.ranges.now in
    let order = length c.args.order.now in
    let text = sym c.tables.ensures.holds in
    let lawful = sym c.lawful.ensures in
    take_refused _ q _ ranges order _ c.from_residual.result c.from_residual.ensures.0 ((λ j. take_verdict (text j) q (lawful j) ranges order) ∙ c.in_err-ahead.ensures.exact)

pub after_take-self-requires-clause-in_text : goal.after_take-self-requires-clause-in_text
after_take-self-requires-clause-in_text g c =
    let a = c.in_ok-ahead.ahead in
    let exact = c.in_ok-ahead.ensures.exact in
    let left_is = (λ j. length (ahead (lent (exact.1 j).rows) (exact.2 j))) ∙ c.in_ok-ahead.ensures.granted.0.left_is in
    omega (arith, left_is, ahead_most (text_at a) a.tables.sound a.position a.stands)

pub returns-clause-continues : goal.returns-clause-continues
returns-clause-continues g c =
    let k = g.M.Measure in
    let self = c.args.self.now in
    let q = self.progress in
    let a = c.in_ok-ahead.ahead in
    let exact = c.in_ok-ahead.ensures.exact in
    let same = ap (λ x. lent x.rows) exact.1 ∙ c.tables.ensures.holds in
    let may = c.in_ok-ahead.ensures.granted in
    let left_is = (λ j. length (ahead (lent (exact.1 j).rows) (exact.2 j))) ∙ may.0.left_is in
    let w = c.args.width in
    let l = taken_line k self.measure (text_at a) a.position w in
    let line = c.lay_taken-line in
    let ranges = c.args.ranges.now in
    let order = c.args.order.now in
    let written = line.ensures.written in
    let after : ℕ → _ = λ n. after_take q (standing (text_at a) (q.tally.left - n)) n in
    let after_is = c.after_take-self.ensures ∙ ap after (laid_is (text_at a) l line.result ranges line.new.ranges order line.new.order written) in
    let goes_on = take_continues k self.measure a q exact.2 left_is w (order_of (line_ranges l)) may.1 written.in_order in
    subst (λ (t : Text). Takes t q c.after_take-self.result (take line.result.ranges line.new.ranges) (take line.result.ranges line.new.order)) same
    (found (text_at a) l line.result ranges line.new.ranges order line.new.order written (Takes (text_at a) q) (after l.laid) c.after_take-self.result after_is goes_on)
