-- An entry that stands where a log tells
use Rattle.std.proofs.Common.{◌≡◌, ℕ, ◌+◌, Bool, true, false, cond, eqb, List, [], ◌∷◌, ◌++◌, length, drop, sym, refl, ap, ◌∙◌, subst, append_assoc, append-nil, arith, length-append}
use Rattle.entry.specs.Verdict.{known}
use Rattle.entry.specs.declared.progress.Progress.{Progress}
use Rattle.paragraph.proofs.Fitting.{fits}
use Rattle.paragraph.specs.Before.{position_before}
use Rattle.paragraph.specs.Laws.{ReadingLaws}
use Rattle.paragraph.specs.Reading.{ahead, begin, exists, reading}
use Rattle.paragraph.specs.Text.{Text}
use Rattle.paragraph.specs.declared.place.Position.{Position}
use Rattle.runs.proofs.Lists.{reading_once, stretch_in_order, times, times_append}
use Rattle.runs.specs.Laws.{Counts, InOrder, SharedOut}
use Rattle.runs.specs.Log.{Recorded, ahead_now, closed, glyphs_of, hidden_of, is_line, lines_of, on_lines, stands}
use Rattle.runs.specs.Standing.{EveryStart, Stands}
use Rattle.std.proofs.lemmas.Bool.{and_from, cond_both, cond-false, eq-eqb, eqb-true}

-- where no line was granted nothing is on a line
none_laid : {W : Type 0} (t : Text) (log : List (Recorded W)) → lines_of log ≡ 0 → on_lines t log ≡ []
none_laid t [] e = refl
none_laid t (x ∷ past) e = by (none_laid t past) (is_line x.answer) e
  where
    by : (lines_of past ≡ 0 → on_lines t past ≡ []) → (b : Bool) → cond b (lines_of past + 1) (lines_of past) ≡ 0 → cond b (on_lines t past ++ glyphs_of t x.answer) (on_lines t past) ≡ []
    by none true e = absurd (omega arith)
    by none false e = none e

module _ (t : Text) (laws : ReadingLaws t) where
  module _ {W : Type 0} (log : List (Recorded W)) where
    pub stands_there : exists t (stands t log) ≡ true
    stands_there =
        cond_both (eqb (lines_of log) 0) (begin t) (position_before t (length (on_lines t log))) (λ (p : Position). exists t p ≡ true)
        (λ _. laws.begins)
        (λ _. (laws.before (length (on_lines t log))).there)

    pub stands_ahead : closed log ≡ false → ahead t (stands t log) ≡ ahead_now t log
    stands_ahead still =
        cond_both (eqb (lines_of log) 0) (begin t) (position_before t (length (on_lines t log))) (λ (p : Position). ahead t p ≡ drop (length (on_lines t log)) (reading t))
        (λ e. laws.all_ahead ∙ ap (λ (on : List ℕ). drop (length on) (reading t)) (sym (none_laid t log (eqb-true (lines_of log) 0 e))))
        (λ _. (laws.before (length (on_lines t log))).rest)
        ∙ sym (cond-false (closed log) [] (drop (length (on_lines t log)) (reading t)) still)

  module _ {W : Type 0} (log : List (Recorded W)) (q : Progress) (s : Stands t log q) where
    -- each glyph is on a line, hidden or ahead
    pub all_read : (i : ℕ) → times i (reading t) ≡ times i (on_lines t log ++ (hidden_of t log ++ ahead_now t log))
    all_read i =
        omega (
          arith,
          ap (times i) s.read,
          times_append i s.front (hidden_of t log ++ (s.back ++ ahead_now t log)),
          times_append i (hidden_of t log) (s.back ++ ahead_now t log),
          times_append i s.back (ahead_now t log),
          times_append i (on_lines t log) (hidden_of t log ++ ahead_now t log),
          times_append i (hidden_of t log) (ahead_now t log),
          ap (times i) s.lines_are,
          times_append i s.front s.back,
        )

    pub all_counted : length (on_lines t log) + length (hidden_of t log) + length (ahead_now t log) ≡ length t.glyphs
    all_counted =
        omega (
          arith,
          laws.as_many,
          ap length s.read,
          length-append s.front (hidden_of t log ++ (s.back ++ ahead_now t log)),
          length-append (hidden_of t log) (s.back ++ ahead_now t log),
          length-append s.back (ahead_now t log),
          ap length s.lines_are,
          length-append s.front s.back,
        )

    lines_in_order : InOrder (reading t) 0 (s.front ++ s.back)
    lines_in_order =
        stretch_in_order (reading t) [] s.front (hidden_of t log ++ (s.back ++ ahead_now t log)) s.back 0 s.read (omega arith)
        (
        subst (InOrder (reading t) (length {A = ℕ} [] + length s.front)) (append-nil s.back)
        (stretch_in_order (reading t) (s.front ++ hidden_of t log) s.back (ahead_now t log) [] (length {A = ℕ} [] + length s.front)
        (s.read ∙ sym (append_assoc s.front (hidden_of t log) (s.back ++ ahead_now t log)))
        (omega (arith, length-append s.front (hidden_of t log)))
        tt)
        )

    pub shared_out : SharedOut t log
    shared_out =
        record {
          each_once = λ i. sym (all_read i) ∙ reading_once t laws i;
          as_many = all_counted;
          in_order = subst (InOrder (reading t) 0) (sym s.lines_are) lines_in_order;
        }

    pub counts : Counts t log q.tally
    counts =
        record {
          lines_are = s.lines_is;
          laid_are = s.laid_is;
          hidden_are = s.hidden_is;
          left_are = s.left_is;
          all_counted = omega (arith, all_counted, s.laid_is, s.hidden_is, s.left_is);
        }

    -- while it is not closed
    module _ (still : closed log ≡ false) where
      pub reads : reading t ≡ on_lines t log ++ ahead_now t log
      reads =
          s.read
          ∙ ap (λ (h : List ℕ). s.front ++ (h ++ (s.back ++ ahead_now t log))) (s.none_hidden still)
          ∙ sym (append_assoc s.front s.back (ahead_now t log))
          ∙ ap (λ (on : List ℕ). on ++ ahead_now t log) (sym s.lines_are)

      pub there : exists t q.position ≡ true
      there = subst (λ (p : Position). exists t p ≡ true) (sym (s.position_is still)) (stands_there log)

      pub what_is_ahead : ahead t q.position ≡ ahead_now t log
      what_is_ahead = ap (ahead t) (s.position_is still) ∙ stands_ahead log still

      pub is_known : known t q ≡ true
      is_known = and_from (exists t q.position) _ there (eq-eqb (length (ahead t q.position)) q.tally.left (ap length what_is_ahead ∙ sym s.left_is))

pub every_start : (W : Type 0) → EveryStart W
every_start W = λ t sound.
    record {
      closed_is = refl;
      lines_is = refl;
      laid_is = refl;
      hidden_is = refl;
      left_is = sym (fits t sound).as_many;
      position_is = λ _. refl;
      front = [];
      back = [];
      lines_are = refl;
      read = refl;
      none_hidden = λ _. refl;
    }
