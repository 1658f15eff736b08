use Rattle.runs.proofs.Measures.{every_measured_run, every_measured_step}
use Rattle.runs.proofs.laws.runs_are_exact.Goals as goal

pub returns : goal.returns
returns g c =
    let k = g.M.Measure in
    let m = c.args.m.now in
    let number = g.M.ExactMeasure.number in
    let glyph = g.M.ExactMeasure.number_of_glyph m in
    let from = g.M.ExactMeasure.width_of_number in
    record {
      step = every_measured_step k m number glyph from c.exact.ensures;
      run = every_measured_run k m number glyph from c.exact.ensures;
    }
