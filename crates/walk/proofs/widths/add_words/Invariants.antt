use Rattle.std.proofs.Common.{◌≡◌, ◌+◌, ◌-◌}
use Rattle.paragraph.specs.Aheads.{text_at}
use Rattle.walk.specs.Widths.{words_width}
use Rattle.walk.proofs.widths.add_words.Given as goal

abbrev pub invariant-loop-w : goal.invariant-loop-w
invariant-loop-w g l =
    words_width g.M.Measure l.m (text_at l.own.ahead) l.own.span l.own.stretch l.width l.w (l.fn.words.first + l.fn.words.count - l.w)
    ≡ words_width g.M.Measure l.m (text_at l.own.ahead) l.own.span l.own.stretch l.initial.width l.fn.words.first l.fn.words.count
