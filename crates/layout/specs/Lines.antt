-- Closing lines
use Rattle.std.specs.Prelude.{ℕ, ◌+◌, cond, not, ◌&&◌, List, [], ◌∷◌, ◌++◌, length, Some, None, Option}
use Rattle.layout.specs.Elided.{elided_bytes}
use Rattle.layout.specs.Ellipsis.{ellipsis_range, paragraph_level, first_of, last_of, level_between}
use Rattle.layout.specs.declared.line.ElidedBytes.{ElidedBytes}
use Rattle.layout.specs.declared.line.Ellipsize.{Ellipsize}
use Rattle.layout.specs.declared.line.Ellipsize.TheVariants as mode
use Rattle.layout.specs.declared.line.VisualLine.{VisualLine}
use Rattle.measure.specs.declared.measure.Measure.{Ghosts}
use Rattle.paragraph.specs.Text.{Text, span_at, congruent}
use Rattle.paragraph.specs.declared.place.Position.{Position}
use Rattle.walk.specs.Walk.{Lay, lay}
use Rattle.walk.specs.declared.line.LayoutDirection.{LayoutDirection}
use Rattle.walk.specs.declared.line.LayoutDirection.TheVariants.{Forward, Backward}
use Rattle.walk.specs.declared.line.Rule.TheVariants.{Never, Closing}
use Rattle.walk.specs.declared.line.VlRange.{VlRange}

-- a line: the ranges before the ellipsis, the level of the ellipsis if it stands, and the ranges behind it
pub record Line (W : Type 0) : Type 0 where
  pub front : List VlRange
  pub ellipsis : Option ℕ
  pub back : List VlRange
  pub blanks : ℕ
  pub laid : ℕ
  pub width : W

abbrev pub ellipsis_ranges : Option ℕ → List VlRange
ellipsis_ranges None = []
ellipsis_ranges (Some level) = ellipsis_range level ∷ []

-- the ranges of a line, in reading order
abbrev pub line_ranges : {W : Type 0} → Line W → List VlRange
line_ranges l = l.front ++ (ellipsis_ranges l.ellipsis ++ l.back)

-- a walk as a line without the ellipsis
abbrev pub plain : {W : Type 0} → Lay W → Line W
plain l = record { front = l.ranges; ellipsis = None; back = []; blanks = l.blanks; laid = l.laid; width = l.width }

-- where a range ends in reading order: a congruent span's at its end place, another's at its start place
abbrev pub ends_at : Text → Option ℕ → VlRange → Position
ends_at t None r = record { span = 0; place = r.end }
ends_at t (Some s) r = record { span = s; place = cond (congruent t.direction (span_at t s).level) r.end r.start }

module _ {S W : Type 0} (k : Ghosts S W) (m : S) (t : Text) (p : Position) where
  -- without a mode or a width the walk goes forward and nothing overflows
  abbrev pub whole_line : Line W
  whole_line = plain (lay k m t p Never Forward)

  module _ (width ellipsis : W) where
    -- End walks forward. If it is flagged the ellipsis stands last, with the last range's level, or the paragraph's if there is none
    abbrev pub end_line : Line W
    end_line =
        let l = lay k m t p (Closing width ellipsis) Forward in
        cond l.flagged
        (record { front = l.ranges; ellipsis = Some (level_between t.direction (last_of l.ranges) None); back = []; blanks = l.blanks; laid = l.laid; width = k.sum_of m l.width ellipsis })
        (plain l)

    -- Start walks backward, and the ellipsis stands first
    abbrev pub start_line : Line W
    start_line =
        let l = lay k m t p (Closing width ellipsis) Backward in
        cond l.flagged
        (record { front = []; ellipsis = Some (level_between t.direction None (first_of l.ranges)); back = l.ranges; blanks = l.blanks; laid = l.laid; width = k.sum_of m l.width ellipsis })
        (plain l)

    -- the one with the ellipsis where the walk ended
    abbrev pub edge_line : LayoutDirection → Line W
    edge_line Forward = end_line
    edge_line Backward = start_line

    -- Middle's two halves around the ellipsis. The second walk goes back to where the first one's last range ends, on what the first and the
    -- ellipsis leave of the width. Where the first walk has no range the ellipsis stands alone
    abbrev pub halves : Lay W → Option VlRange → Line W
    halves first None =
        record { front = []; ellipsis = Some (paragraph_level t.direction); back = []; blanks = 0; laid = 0; width = ellipsis }
    halves first (Some r) =
        let second = lay k m t (ends_at t r.span r) (Closing (k.difference_of m (k.difference_of m width first.width) ellipsis) (k.nil_of m)) Backward in
        record {
          front = first.ranges;
          ellipsis = Some (level_between t.direction (Some r) (first_of second.ranges));
          back = second.ranges;
          blanks = first.blanks + second.blanks;
          laid = first.laid + second.laid;
          width = k.sum_of m (k.sum_of m first.width second.width) ellipsis;
        }

    -- Middle tries End first and keeps it if it is unflagged and its width not over the width. Else it walks forward on half the width, with no
    -- room for the ellipsis; unflagged, that is the line
    abbrev pub middle_line : Line W
    middle_line =
        let trial = lay k m t p (Closing width ellipsis) Forward in
        let first = lay k m t p (Closing (k.half_of m width) (k.nil_of m)) Forward in
        cond (not trial.flagged && not (k.over_of m trial.width width)) (plain trial)
        (cond first.flagged (halves first (last_of first.ranges)) (plain first))

  -- the closing line by a mode and a width, where `ellipsis` is the ellipsis' width
  abbrev pub closing_line : Ellipsize → Option W → W → Line W
  closing_line mode.None width ellipsis = whole_line
  closing_line mode.Start None ellipsis = whole_line
  closing_line mode.Start (Some width) ellipsis = start_line width ellipsis
  closing_line mode.Middle None ellipsis = whole_line
  closing_line mode.Middle (Some width) ellipsis = middle_line width ellipsis
  closing_line mode.End None ellipsis = whole_line
  closing_line mode.End (Some width) ellipsis = end_line width ellipsis

-- the elided bytes, where the ellipsis stands
abbrev pub elided_of : Text → ℕ → Option ℕ → List VlRange → List VlRange → Option ElidedBytes
elided_of t none_before None front back = None
elided_of t none_before (Some level) front back = Some (elided_bytes t none_before front back)

-- what a line tells. The elided bytes begin at `none_before` where nothing stands before the ellipsis
abbrev pub line_told : {W : Type 0} → Text → ℕ → Line W → VisualLine W
line_told t none_before l =
    record {
      ranges = length (line_ranges l);
      blanks = l.blanks;
      laid = l.laid;
      width = l.width;
      elided = elided_of t none_before l.ellipsis l.front l.back;
    }
