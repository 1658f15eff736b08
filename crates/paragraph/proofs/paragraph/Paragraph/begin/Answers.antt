use Rattle.std.proofs.Common.{ap, ◌∙◌}
use Rattle.paragraph.specs.Holds.{text_of}
use Rattle.paragraph.specs.Reading.{exists, begin, ahead}
use Rattle.paragraph.proofs.Befores.{begin_there, begin_ahead}
use Rattle.paragraph.proofs.paragraph.Paragraph.begin.Goals as goal

pub returns : goal.returns
returns c =
    let t = text_of c.args.self.now in
    let sound = c.args.self.now.sound in
    let e = c.begin.ensures ∙ ap begin c.tables.ensures.holds in
    record {
      exact = e;
      there = ap (exists t) e ∙ begin_there t sound;
      all_ahead = ap (ahead t) e ∙ begin_ahead t sound;
    }
