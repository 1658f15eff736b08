use Rattle.walk_laws.proofs.Every.{every_width, every_ellipsis, every_closing, every_taking}
use Rattle.walk_laws.proofs.walks_are_exact.Goals as goal

pub returns : goal.returns
returns g c =
    let number = g.M.ExactMeasure.number in
    let glyph = g.M.ExactMeasure.number_of_glyph c.args.m.now in
    let from = g.M.ExactMeasure.width_of_number in
    record {
      width = every_width g.M.Measure c.args.m.now number glyph from c.exact.ensures;
      ellipsis = every_ellipsis g.M.Measure c.args.m.now number glyph from c.exact.ensures;
      closing = every_closing g.M.Measure c.args.m.now number glyph from c.exact.ensures;
      taking = every_taking g.M.Measure c.args.m.now number glyph from c.exact.ensures;
    }
