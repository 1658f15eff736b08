use Rattle.std.proofs.Common.{sym, subst, rules}
use Rattle.paragraph.specs.Lawful.{InRange}
use Rattle.paragraph.proofs.paragraph.Paragraph.ellipsis.Goals as goal

pub returns : goal.returns
returns c = record {
  holds = search rules;
  short = search rules;
  in_range = subst InRange (sym c.deref.ensures.value) c.args.self.now.ellipsis_in_range;
}
