use Rattle.std.proofs.Common.{ap, ◌∙◌}
use Rattle.glyph.specs.Ranges.{from_zero_to}
use Rattle.glyph.proofs.Floats.{bits_4096}
use Rattle.glyph.proofs.ranges.size_in_range.Goals as goal

pub returns : goal.returns
returns c = c.from_zero_to.ensures ∙ ap (λ most. from_zero_to most c.args.size) bits_4096
