use Rattle.runs.proofs.Openings.{measured}
use Rattle.runs.proofs.run.run_exact.Goals as goal

pub returns-clause-measured : goal.returns-clause-measured
returns-clause-measured g c =
    let a = c.args in
    measured g.M.Measure g.M.ExactMeasure.number (g.M.ExactMeasure.number_of_glyph a.on.measure) a.on a.range_places a.order_places a.script.now
    c.runs_are_exact.ensures.run c.run.result c.run.ensures.tables c.run.ensures.exact
