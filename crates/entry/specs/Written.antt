-- A line in the caller's two lists
use Rattle.std.specs.Prelude.{◌≡◌, ℕ, List, map}
use Rattle.entry.specs.Lines.{order_of, over_written}
use Rattle.layout.specs.Lines.{Line, line_ranges, line_told}
use Rattle.layout.specs.declared.line.VisualLine.{VisualLine}
use Rattle.paragraph.specs.Text.{Text}
use Rattle.visual_order.specs.Laws.{Once, Pairs}
use Rattle.walk.specs.declared.line.VlRange.{VlRange}

-- An order of ranges names each once, by its index, and of two it has the first before the later exactly if the lowest level from the one to the other
-- is even. The ellipsis is a range as any other
pub record InVisualOrder (rs : List VlRange) (order : List ℕ) : Type 0 where
  pub once : Once (map (λ r. r.level) rs) order
  pub pairs : Pairs (map (λ r. r.level) rs) order

-- a line is told, and its ranges and their visual order stand in the first places of the lists
pub record Written {W : Type 0} (t : Text) (l : Line W) (told : VisualLine W) (ranges ranges_after : List VlRange) (order order_after : List ℕ) : Type 0 where
  pub told_is : told ≡ line_told t 0 l
  pub ranges_are : ranges_after ≡ over_written (line_ranges l) ranges
  pub order_is : order_after ≡ over_written (order_of (line_ranges l)) order
  pub in_order : InVisualOrder (line_ranges l) (order_of (line_ranges l))
