-- How a granted call continues a run
use Rattle.std.proofs.Common.{◌≡◌, ℕ, ◌+◌, ◌-◌, ◌<◌, ◌≤◌, true, List, ◌++◌, length, drop, Option, sym, refl, ap, ◌∙◌, subst, append-nil, arith, length-append, length-drop, drop-drop}
use lib.Seq.{drop-append_seam}
use Rattle.entry.specs.Continues.{Closes, Takes}
use Rattle.entry.specs.Entries.{measure_of, progress_of}
use Rattle.entry.specs.Lines.{after_close, after_take, taken_line}
use Rattle.entry.specs.Outcomes.{Begins}
use Rattle.entry.specs.Steps.{begun, standing}
use Rattle.entry.specs.Written.{InVisualOrder}
use Rattle.entry.specs.declared.entry.Entry.{Entry}
use Rattle.entry.specs.declared.progress.Progress.{Progress}
use Rattle.layout.specs.Lines.{closing_line, line_ranges, line_told, plain}
use Rattle.layout.specs.declared.line.Ellipsize.{Ellipsize}
use Rattle.layout.specs.declared.line.VisualLine.{VisualLine}
use Rattle.layout_laws.proofs.Every.{every_line, every_taken_line}
use Rattle.layout_laws.proofs.Ranges.{line_shows}
use Rattle.measure.specs.declared.measure.Measure.{Ghosts}
use Rattle.paragraph.proofs.Fitting.{fits}
use Rattle.paragraph.specs.Aheads.{text_at}
use Rattle.paragraph.specs.Holds.{text_of}
use Rattle.paragraph.specs.Laws.{ReadingLaws}
use Rattle.paragraph.specs.Reading.{ahead, exists, reading}
use Rattle.paragraph.specs.Text.{Sound, Text}
use Rattle.paragraph.specs.declared.ahead.Ahead.{Ahead}
use Rattle.paragraph.specs.declared.paragraph.Paragraph.{Paragraph}
use Rattle.paragraph.specs.declared.place.Position.{Position}
use Rattle.walk.specs.Walk.{lay}
use Rattle.walk.specs.declared.line.LayoutDirection.TheVariants.{Forward}
use Rattle.walk.specs.declared.line.Rule.TheVariants.{Taking}
use Rattle.walk.specs.declared.line.VlRange.{VlRange}
use Rattle.walk_laws.specs.Shown.{shown}

-- an entry begins with everything ahead
pub begins_on : {S : Type 0} (p : Paragraph) (m : S) (e : Entry S) → measure_of e ≡ m → progress_of e ≡ begun (text_of p) → Begins p m e
begins_on p m e same is =
    let t = text_of p in
    let laws = fits t p.sound in
    let place = ap (λ (q : Progress). q.position) is in
    record {
      measure_is = same;
      progress_is = is;
      stands = ap (exists t) place ∙ laws.begins;
      all_ahead = ap (ahead t) place ∙ laws.all_ahead;
    }

module _ (t : Text) (sound : Sound t) (p : Position) (here : exists t p ≡ true) where
  laws : ReadingLaws t
  laws = fits t sound

  -- no more is ahead than there are glyphs
  pub ahead_most : length (ahead t p) ≤ length t.glyphs
  ahead_most =
      let n = length (reading t) - length (ahead t p) in
      omega (arith, ap length (laws.ranks_on p here), length-drop n (reading t), laws.as_many)

  -- just before the next glyph behind what was shown, the rest is ahead
  pub stands_behind : (shows rest : List ℕ) → ahead t p ≡ shows ++ rest → ahead t (standing t (length (ahead t p) - length shows)) ≡ rest
  stands_behind shows rest e =
      let n = length (ahead t p) in
      let r = length t.glyphs - (n - length shows) in
      let long : n ≡ length shows + length rest = ap length e ∙ length-append shows rest in
      let r_is : r ≡ length (reading t) - n + length shows = omega (arith, ahead_most, laws.as_many) in
      (laws.before r).rest
      ∙ ap (λ (i : ℕ). drop i (reading t)) r_is
      ∙ sym (drop-drop (length shows) (length (reading t) - n) (reading t))
      ∙ ap (drop (length shows)) (sym (laws.ranks_on p here) ∙ e)
      ∙ drop-append_seam shows rest

  pub stands_there : (left : ℕ) → exists t (standing t left) ≡ true
  stands_there left = (laws.before (length t.glyphs - left)).there

module _ {S W : Type 0} (k : Ghosts S W) (m : S) (t : Text) (sound : Sound t) (p : Position) (here : exists t p ≡ true) where
  closing_counts : (ellipsize : Ellipsize) (w : Option W) (e : W) →
      let l = closing_line k m t p ellipsize w e in
      length (ahead t p) ≡ l.laid + length (every_line k m t p ellipsize w e sound here).hidden
  closing_counts ellipsize w e =
      let l = closing_line k m t p ellipsize w e in
      let law = every_line k m t p ellipsize w e sound here in
      omega (
        arith,
        law.counted,
        ap length (line_shows t l),
        length-append (shown t l.front) (shown t l.back),
        ap length law.parted,
        length-append (shown t l.front) (law.hidden ++ shown t l.back),
        length-append law.hidden (shown t l.back),
      )

module _ {S W : Type 0} (k : Ghosts S W) (m : S) (a : Ahead) where
  -- a line that is taken has a glyph if one is ahead, and no more than are ahead
  pub taken_some : (w : W) → 0 < length (ahead (text_at a) a.position) → 0 < (taken_line k m (text_at a) a.position w).laid
  taken_some w = (every_taken_line k m (text_at a) a.position w a.tables.sound a.stands).one_shown

  pub taken_within : (w : W) → (taken_line k m (text_at a) a.position w).laid ≤ length (ahead (text_at a) a.position)
  taken_within w =
      let l = lay k m (text_at a) a.position (Taking w) Forward in
      let law = every_taken_line k m (text_at a) a.position w a.tables.sound a.stands in
      omega (arith, law.counted, ap length law.parted, length-append (shown (text_at a) l.ranges) law.left)

  -- a closing line has two ranges at most more than there are spans, and no more glyphs than are ahead
  pub closing_few : (ellipsize : Ellipsize) (w : Option W) (e : W) (told : VisualLine W) → told ≡ line_told (text_at a) 0 (closing_line k m (text_at a) a.position ellipsize w e) →
      told.ranges ≤ length (text_at a).spans + 2
  closing_few ellipsize w e told is =
      omega (arith, ap (λ (v : VisualLine W). v.ranges) is, (every_line k m (text_at a) a.position ellipsize w e a.tables.sound a.stands).few)

  pub closing_within : (ellipsize : Ellipsize) (w : Option W) (e : W) → (closing_line k m (text_at a) a.position ellipsize w e).laid ≤ length (ahead (text_at a) a.position)
  closing_within ellipsize w e = omega (arith, closing_counts k m (text_at a) a.tables.sound a.position a.stands ellipsize w e)

module _ {S W : Type 0} (k : Ghosts S W) (m : S) (a : Ahead) (q : Progress) (here : a.position ≡ q.position) (left_is : length (ahead (text_at a) a.position) ≡ q.tally.left) where
  pub take_continues : (w : W) (os : List ℕ) → 0 < q.tally.left →
      let l = taken_line k m (text_at a) a.position w in
      InVisualOrder (line_ranges l) os → Takes (text_at a) q (after_take q (standing (text_at a) (q.tally.left - l.laid)) l.laid) (line_ranges l) os
  take_continues w os some ordered =
      let t = text_at a in
      let p = a.position in
      let l = lay k m t p (Taking w) Forward in
      let at = standing t (q.tally.left - l.laid) in
      let shows = shown t l.ranges in
      let law = every_taken_line k m t p w a.tables.sound a.stands in
      let long = ap length law.parted ∙ length-append shows law.left in
      let place : length (ahead t p) - length shows ≡ q.tally.left - l.laid = omega (arith, law.counted) in
      let behind : ahead t at ≡ law.left = ap (λ (n : ℕ). ahead t (standing t n)) (sym place) ∙ stands_behind t a.tables.sound p a.stands shows law.left law.parted in
      let plain_is : line_ranges (plain l) ≡ l.ranges = append-nil l.ranges in
      subst (λ (rs : List VlRange). Takes t q (after_take q at l.laid) rs os) (sym plain_is)
      (record {
        goes_on = ap (ahead t) (sym here) ∙ law.parted ∙ ap (λ (is : List ℕ). shows ++ is) (sym behind);
        stands = stands_there t a.tables.sound p a.stands (q.tally.left - l.laid);
        some_shown = omega (arith, law.one_shown (omega arith), law.counted);
        each_once = law.once;
        lines_are = refl;
        laid_is = ap (λ (n : ℕ). q.tally.laid + n) law.counted;
        hidden_is = refl;
        left_is = omega (arith, long, law.counted, ap length behind);
        none_lost = omega (arith, long, law.counted);
        still_open = refl;
        in_order = subst (λ (rs : List VlRange). InVisualOrder rs os) plain_is ordered;
      })

  pub close_continues : (ellipsize : Ellipsize) (w : Option W) (e : W) (os : List ℕ) →
      let l = closing_line k m (text_at a) a.position ellipsize w e in
      InVisualOrder (line_ranges l) os → Closes (text_at a) q (after_close q l.laid) (line_ranges l) os
  close_continues ellipsize w e os ordered =
      let t = text_at a in
      let p = a.position in
      let l = closing_line k m t p ellipsize w e in
      let law = every_line k m t p ellipsize w e a.tables.sound a.stands in
      let count = closing_counts k m t a.tables.sound p a.stands ellipsize w e in
      record {
        front = shown t l.front;
        hides = law.hidden;
        back = shown t l.back;
        parted = ap (ahead t) (sym here) ∙ law.parted;
        shows = line_shows t l;
        each_once = law.once;
        lines_are = refl;
        laid_is = ap (λ (n : ℕ). q.tally.laid + n) law.counted;
        hidden_is = omega (arith, count);
        left_is = refl;
        none_lost = omega (arith, count);
        is_closed = refl;
        in_order = ordered;
      }
