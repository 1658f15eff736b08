use Rattle.std.proofs.Common.{◌≡◌, ◌≤◌, drop}
use Rattle.paragraph.specs.Pieces.{first_loose}
use Rattle.paragraph.proofs.check.first_loose.Given as goal

-- the search of what is left finds what the whole search does
abbrev pub invariant-loop-i : goal.invariant-loop-i
invariant-loop-i g l =
    (l.at ≤ l.n)
    × (first_loose g.R.Row.piece_of l.n l.i l.at (drop l.i l.rows) ≡ first_loose g.R.Row.piece_of l.n 0 0 l.rows)
