use Rattle.layout_laws.proofs.Every.{every_ending, every_line, every_taken_line, every_whole_line}
use Rattle.layout_laws.proofs.lines_are_lawful.Goals as goal

pub returns : goal.returns
returns g c =
    record {
      closing = every_line g.M.Measure c.args.m.now;
      whole = every_whole_line g.M.Measure c.args.m.now;
      taken = every_taken_line g.M.Measure c.args.m.now;
      ending = every_ending g.M.Measure c.args.m.now;
    }
