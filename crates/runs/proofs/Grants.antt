-- Lines that are granted, and how far the entry has come then
use Rattle.std.proofs.Common.{◌≡◌, ℕ, ◌+◌, ◌-◌, ◌≤◌, Bool, true, false, cond, eqb, ltb, List, [], ◌∷◌, ◌++◌, map, length, drop, is_some, None, Option, sym, refl, ap, ◌∙◌, subst, true≢false, append_assoc, append-nil, arith, length-append}
use Rattle.entry.specs.Lines.{after_close, after_take, order_of, taken_line}
use Rattle.entry.specs.Steps.{lawful_width, line_answer, standing}
use Rattle.entry.specs.declared.call.Call.TheVariants.{Take, Close}
use Rattle.entry.specs.declared.progress.Progress.{Progress}
use Rattle.glyph.specs.declared.glyph.Glyph.{Glyph}
use Rattle.layout.specs.Lines.{Line, closing_line, line_ranges, line_told, plain}
use Rattle.layout.specs.declared.line.Ellipsize.{Ellipsize}
use Rattle.layout_laws.proofs.Every.{every_line, every_taken_line, every_whole_line}
use Rattle.layout_laws.proofs.Ranges.{line_shows}
use Rattle.layout_laws.specs.Laws.{LineLaw, TakeLaw}
use Rattle.measure.specs.Rows.{row_width}
use Rattle.measure.specs.declared.measure.Measure.{Ghosts}
use Rattle.paragraph.specs.Before.{position_before}
use Rattle.paragraph.specs.Laws.{ReadingLaws}
use Rattle.paragraph.specs.Reading.{begin, reading}
use Rattle.paragraph.specs.Text.{Sound, Text}
use Rattle.paragraph.specs.declared.place.Position.{Position}
use Rattle.runs.proofs.Ellipses.{held_when, none_since}
use Rattle.runs.proofs.Lists.{between_is, reading_once, times, times_append}
use Rattle.runs.proofs.Refusals.{ToldAll, nothing_amiss}
use Rattle.runs.proofs.Standing.{reads, stands_ahead, stands_there, there, what_is_ahead}
use Rattle.runs.specs.Laws.{ClosedBy, Granted, Taken}
use Rattle.runs.specs.Log.{Recorded, ahead_now, closed, lines_of, holds_ellipsis, on_lines, recorded, stands, without}
use Rattle.runs.specs.Standing.{Stands}
use Rattle.std.proofs.lemmas.List.{drop_at}
use Rattle.std.proofs.lemmas.Bool.{cond-false, ne_eqb}
use Rattle.visual_order.specs.Laws.{OnceLaw, PairLaw}
use Rattle.walk.specs.Walk.{Lay, lay}
use Rattle.walk.specs.declared.line.LayoutDirection.TheVariants.{Forward}
use Rattle.walk.specs.declared.line.Rule.TheVariants.{Taking}
use Rattle.walk_laws.specs.Shown.{shown}

-- a line without the ellipsis shows what its walk does
pub plain_shows : {W : Type 0} (t : Text) (l : Lay W) → shown t (line_ranges (plain l)) ≡ shown t l.ranges
plain_shows t l = line_shows t (plain l) ∙ append-nil (shown t l.ranges)

module _ {S W : Type 0} (k : Ghosts S W) (m : S) (t : Text) (sound : Sound t) (laws : ReadingLaws t) (ellipsis : List Glyph) (ranges order : ℕ)
    (past : List (Recorded W))
    (q : Progress)
    (s : Stands t past q) where
  abbrev on : List ℕ
  on = on_lines t past

  abbrev left_now : List ℕ
  left_now = ahead_now t past

  -- any line, as a function of the position
  granted : PairLaw → OnceLaw → (take lawful : Bool) (line : Position → Line W) → ToldAll t ranges order past take lawful None → (line q.position).laid ≡ length (shown t (line_ranges (line q.position))) →
      Granted t ranges order past take lawful (line (stands t past)) (line_ranges (line q.position)) (order_of (line_ranges (line q.position))) (line_told t 0 (line q.position))
  granted pairs once take lawful line clear laid =
      record {
        nothing_amiss = nothing_amiss t ranges order past take lawful clear;
        there = stands_there t laws past;
        all_ahead = stands_ahead t laws past clear.0.still;
        ranges_are = ap (λ (p : Position). line_ranges (line p)) (s.position_is clear.0.still);
        tells = ap (λ (p : Position). line_told t 0 (line p)) (s.position_is clear.0.still);
        counted_glyphs = laid;
        seen_once = once (map (λ r. r.level) (line_ranges (line q.position)));
        seen_by_level = pairs (map (λ r. r.level) (line_ranges (line q.position)));
      }

  -- how many glyphs a line has, where these are the next of reading order
  module _ (still : closed past ≡ false) (shows rest : List ℕ) (comes_next : left_now ≡ shows ++ rest) where
    reads_on : reading t ≡ (on ++ shows) ++ rest
    reads_on = reads t laws past q s still ∙ ap (λ (is : List ℕ). on ++ is) comes_next ∙ sym (append_assoc on shows rest)

    rest_is : cond (closed past) [] (drop (length (on ++ shows)) (reading t)) ≡ rest
    rest_is =
        cond-false (closed past) [] (drop (length (on ++ shows)) (reading t)) still
        ∙ ap (drop (length (on ++ shows))) reads_on
        ∙ drop_at (on ++ shows) rest (length (on ++ shows)) refl

  module _ (width : W) (clear : ToldAll t ranges order past true (k.lawful_of m width) None) where
    abbrev walk : Lay W
    walk = lay k m t q.position (Taking width) Forward

    abbrev takes : List ℕ
    takes = shown t (line_ranges (plain walk))

    abbrev still : closed past ≡ false
    still = clear.0.still

    law : TakeLaw t q.position walk
    law = every_taken_line k m t q.position width sound (there t laws past q s still)

    takes_next : left_now ≡ takes ++ law.left
    takes_next = sym (what_is_ahead t laws past q s still) ∙ law.parted ∙ ap (λ (is : List ℕ). is ++ law.left) (sym (plain_shows t walk))

    takes_many : walk.laid ≡ length takes
    takes_many = law.counted ∙ ap length (sym (plain_shows t walk))

    pub taken : PairLaw → OnceLaw → Taken k m t ellipsis ranges order past width (line_ranges (plain walk)) (order_of (line_ranges (plain walk))) (line_told t 0 (plain walk))
    taken pairs once =
        record {
          granted = granted pairs once true (k.lawful_of m width) (λ p. taken_line k m t p width) clear takes_many;
          one_or_more = let one = law.one_shown (omega (arith, clear.1 refl, ap length (what_is_ahead t laws past q s still))) in omega (arith, takes_many);
          left = law.left;
          comes_next = takes_next;
          no_ellipsis = held_when t q.position.span (length t.spans) 0 0 (plain walk) law.ranges_in tt;
        }

    -- the position is just before the next glyph
    before_next : standing t (q.tally.left - walk.laid) ≡ cond (eqb (lines_of past + 1) 0) (begin t) (position_before t (length (on ++ takes)))
    before_next =
        ap (position_before t) many
        ∙ sym (cond-false (eqb (lines_of past + 1) 0) (begin t) (position_before t (length (on ++ takes))) (ne_eqb (lines_of past + 1) 0 (λ e. omega arith)))
      where
        many : length t.glyphs - (q.tally.left - walk.laid) ≡ length (on ++ takes)
        many =
            omega (
              arith,
              laws.as_many,
              s.left_is,
              takes_many,
              ap length takes_next,
              length-append takes law.left,
              length-append on takes,
              ap length (reads t laws past q s still),
              length-append on left_now,
            )

    pub stands_taken : Stands t (recorded (Take width) (line_answer t (plain walk)) ∷ past) (after_take q (standing t (q.tally.left - walk.laid)) walk.laid)
    stands_taken =
        record {
          closed_is = sym still;
          lines_is = ap (λ (n : ℕ). n + 1) s.lines_is;
          laid_is = omega (arith, s.laid_is, takes_many, length-append on takes);
          hidden_is = s.hidden_is;
          left_is = omega (arith, s.left_is, takes_many, ap length takes_next, length-append takes law.left) ∙ ap length (sym (rest_is still takes law.left takes_next));
          position_is = λ _. before_next;
          front = on ++ takes;
          back = [];
          lines_are = sym (append-nil (on ++ takes));
          read =
              reads_on still takes law.left takes_next
              ∙ ap (λ (is : List ℕ). (on ++ takes) ++ is) (sym (rest_is still takes law.left takes_next))
              ∙ ap (λ (h : List ℕ). (on ++ takes) ++ (h ++ cond (closed past) [] (drop (length (on ++ takes)) (reading t)))) (sym (s.none_hidden still));
          none_hidden = s.none_hidden;
        }

  module _ (ellipsize : Ellipsize) (width : Option W)
      (clear : ToldAll t ranges order past false (lawful_width k m t (row_width k m ellipsis) ranges order width) None) where
    abbrev line : Line W
    line = closing_line k m t q.position ellipsize width (row_width k m ellipsis)

    abbrev shows : List ℕ
    shows = shown t (line_ranges line)

    abbrev open_still : closed past ≡ false
    open_still = clear.0.still

    closing : LineLaw t q.position line
    closing = every_line k m t q.position ellipsize width (row_width k m ellipsis) sound (there t laws past q s open_still)

    abbrev front : List ℕ
    front = shown t line.front

    abbrev back : List ℕ
    back = shown t line.back

    parted : left_now ≡ front ++ (closing.hidden ++ back)
    parted = sym (what_is_ahead t laws past q s open_still) ∙ closing.parted

    ahead_once : (i : ℕ) → times i (front ++ (closing.hidden ++ back)) ≤ 1
    ahead_once i =
        let some : times i (reading t) ≤ 1 = subst (λ (n : ℕ). n ≤ 1) (sym (reading_once t laws i)) (at_most (ltb i (length t.glyphs))) in
        omega (arith, ap (times i) (reads t laws past q s open_still), times_append i on left_now, ap (times i) parted)
      where
        at_most : (b : Bool) → cond b 1 0 ≤ 1
        at_most true = omega arith
        at_most false = omega arith

    hides : without shows left_now ≡ closing.hidden
    hides =
        ap (λ (is : List ℕ). without is left_now) (line_shows t line)
        ∙ ap (without (front ++ back)) parted
        ∙ between_is front closing.hidden back ahead_once

    holds : holds_ellipsis (line_ranges line) ≡ is_some line.ellipsis
    holds = held_when t _ _ _ _ line closing.front_in closing.back_in

    pub closed_by : PairLaw → OnceLaw → ClosedBy k m t ellipsis ranges order past ellipsize width (line_ranges line) (order_of (line_ranges line)) (line_told t 0 line)
    closed_by pairs once =
        record {
          granted = granted pairs once false (lawful_width k m t (row_width k m ellipsis) ranges order width) (λ p. closing_line k m t p ellipsize width (row_width k m ellipsis)) clear closing.counted;
          front = front;
          back = back;
          shows = line_shows t line;
          hides = parted ∙ ap (λ (h : List ℕ). front ++ (h ++ back)) (sym hides);
          all_shown = λ e.
              line_shows t line
              ∙ ap (λ (h : List ℕ). front ++ (h ++ back)) (sym (closing.all_shown (none_since line.ellipsis (sym holds ∙ e))).0)
              ∙ sym parted;
          no_ellipsis = λ e. holds ∙ ap is_some (every_whole_line k m t q.position ellipsize width (row_width k m ellipsis) e);
        }

    pub stands_closed : Stands t (recorded (Close ellipsize width) (line_answer t line) ∷ past) (after_close q line.laid)
    stands_closed =
        record {
          closed_is = refl;
          lines_is = ap (λ (n : ℕ). n + 1) s.lines_is;
          laid_is = omega (arith, s.laid_is, closing.counted, length-append on shows);
          hidden_is =
              omega (
                arith,
                s.hidden_is,
                ap length (s.none_hidden open_still),
                s.left_is,
                closing.counted,
                ap length (line_shows t line),
                length-append front back,
                ap length parted,
                length-append front (closing.hidden ++ back),
                length-append closing.hidden back,
                ap length hides,
              );
          left_is = refl;
          position_is = λ e. absurd (true≢false e);
          front = on ++ front;
          back = back;
          lines_are = ap (λ (is : List ℕ). on ++ is) (line_shows t line) ∙ sym (append_assoc on front back);
          read =
              reads t laws past q s open_still
              ∙ ap (λ (is : List ℕ). on ++ is) (parted ∙ ap (λ (h : List ℕ). front ++ (h ++ back)) (sym hides))
              ∙ sym (append_assoc on front (without shows left_now ++ back))
              ∙ ap (λ (b : List ℕ). (on ++ front) ++ (without shows left_now ++ b)) (sym (append-nil back));
          none_hidden = λ e. absurd (true≢false e);
        }
