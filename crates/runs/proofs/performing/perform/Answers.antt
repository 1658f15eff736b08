use Rattle.runs.proofs.Recordings.{close_performs, take_performs}
use Rattle.runs.proofs.performing.perform.Goals as goal

pub returns-in-Take : goal.returns-in-Take
returns-in-Take g c =
    take_performs g.M.Measure c.order_laws.ensures.once c.args.opened.now c.take-answer.new.self c.args.paragraph.now c.args.call c.take-answer.result
    c.args.ranges.now c.take-answer.new.ranges c.args.order.now c.take-answer.new.order c.record.result c.record.ensures
    c.in-Take.width c.in-Take.is c.take-answer.ensures.outcome

pub returns-in-Close : goal.returns-in-Close
returns-in-Close g c =
    close_performs g.M.Measure c.order_laws.ensures.once c.args.opened.now c.close-answer.new.self c.args.paragraph.now c.args.call c.close-answer.result
    c.args.ranges.now c.close-answer.new.ranges c.args.order.now c.close-answer.new.order c.record-in-Close.result c.record-in-Close.ensures
    c.in-Close.ellipsize c.in-Close.width c.in-Close.is c.close-answer.ensures.outcome
