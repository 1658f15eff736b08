use Rattle.layout_laws.proofs.Every.{every_fitting_line, every_line_width}
use Rattle.layout_laws.proofs.lines_are_exact.Goals as goal

pub returns : goal.returns
returns g c =
    let number = g.M.ExactMeasure.number in
    let glyph = g.M.ExactMeasure.number_of_glyph c.args.m.now in
    let from = g.M.ExactMeasure.width_of_number in
    record {
      width = every_line_width g.M.Measure c.args.m.now number glyph from c.exact.ensures;
      fitting = every_fitting_line g.M.Measure c.args.m.now number glyph from c.exact.ensures;
    }
