-- Which calls are refused, by what the log tells
use Rattle.std.proofs.Common.{◌≡◌, ℕ, ◌+◌, ◌-◌, ◌<◌, ◌≤◌, Bool, true, false, not, eqb, ltb, List, length, Some, None, Option, sym, refl, ◌∙◌, arith}
use mathlib.Core.Bool.{false≢true}
use Rattle.entry.specs.Faults.{CallFault, fault}
use Rattle.entry.specs.Lines.{after_close, after_take, taken_line}
use Rattle.entry.specs.Steps.{Outcome, close_step, lawful_width, line_answer, refused, standing, take_step, unless}
use Rattle.entry.specs.Verdict.{known, line_verdict, or_nothing_left, take_verdict}
use Rattle.entry.specs.declared.fault.CallCause.{CallCause}
use Rattle.entry.specs.declared.fault.CallCause.TheVariants as cause
use Rattle.entry.specs.declared.fault.CallTable.{CallTable}
use Rattle.entry.specs.declared.fault.CallTable.TheVariants as table
use Rattle.entry.specs.declared.progress.Progress.{Progress}
use Rattle.layout.specs.Lines.{closing_line}
use Rattle.layout.specs.declared.line.Ellipsize.{Ellipsize}
use Rattle.measure.specs.declared.measure.Measure.{Ghosts}
use Rattle.paragraph.specs.Laws.{ReadingLaws}
use Rattle.paragraph.specs.Text.{Text}
use Rattle.runs.proofs.Standing.{is_known}
use Rattle.runs.specs.Laws.{Amiss, CaseOf, Refused, TooShort}
use Rattle.runs.specs.Log.{Recorded, ahead_now, closed}
use Rattle.runs.specs.Standing.{Stands}
use Rattle.std.proofs.lemmas.Grind.{common_steps}
use Rattle.std.proofs.lemmas.List.{nil_from_length}
use Rattle.std.proofs.lemmas.Bool.{both_ways, cond_both, eqb-false, eqb-true, ltb-false, ltb-true, not-false, not-true}

not_none : (n a : ℕ) → (n ≡ 0 → ⊥) → n ≡ a → 0 < a
not_none n a ne e = grind arith

-- the entry is not closed, the width is lawful, and the lists are long enough
pub record Clear {W : Type 0} (t : Text) (ranges order : ℕ) (past : List (Recorded W)) (lawful : Bool) : Type 0 where
  pub still : closed past ≡ false
  pub fit : lawful ≡ true
  pub ranges_long : length t.spans + 2 ≤ ranges
  pub order_long : length t.spans + 2 ≤ order

module _ {W : Type 0} (t : Text) (ranges order : ℕ) (past : List (Recorded W)) (take lawful : Bool) where
  -- what a verdict on any line tells: a fault is what is amiss
  abbrev pub Told : Option CallFault → Type 0
  Told (Some f) = Amiss t ranges order past take lawful f
  Told None = Clear t ranges order past lawful

  -- a take has something ahead, too
  abbrev pub ToldAll : Option CallFault → Type 0
  ToldAll (Some f) = Amiss t ranges order past take lawful f
  ToldAll None = Clear t ranges order past lawful × (take ≡ true → 0 < length (ahead_now t past))

  -- a list that is long enough is not too short
  not_short : length t.spans + 2 ≤ ranges → length t.spans + 2 ≤ order → (row : ℕ) (about : CallTable) → TooShort (length t.spans) ranges order row about → ⊥
  not_short r o row about h = grind (arith, common_steps)

  no_case : Clear t ranges order past lawful → (take ≡ true → 0 < length (ahead_now t past)) → (why : CallCause) (row : ℕ) (about : CallTable) → CaseOf t ranges order past take lawful why row about → ⊥
  no_case c some why row about h = grind (arith, common_steps)

  pub nothing_amiss : ToldAll None → (f : CallFault) → Amiss t ranges order past take lawful f → ⊥
  nothing_amiss (c, some) f h = no_case c some f.cause f.row f.table h

  -- no two causes have their case at once
  one_list : (row other : ℕ) (about another : CallTable) → TooShort (length t.spans) ranges order row about → TooShort (length t.spans) ranges order other another → fault cause.ListTooShort row about ≡ fault cause.ListTooShort other another
  one_list row other about another h i = grind (arith, common_steps)

  one_case : (why whence : CallCause) (row other : ℕ) (about another : CallTable) → CaseOf t ranges order past take lawful why row about → CaseOf t ranges order past take lawful whence other another → fault why row about ≡ fault whence other another
  one_case why whence row other about another h i = grind (arith, common_steps)

  pub refused_rightly : (f : CallFault) → Amiss t ranges order past take lawful f → Refused t ranges order past take lawful f
  refused_rightly f h =
      record { amiss = h; no_other = λ g i. one_case g.cause f.cause g.row f.row g.table f.table i h }

  -- what holds of a refusal with what is amiss and, where nothing is, of what is granted, holds of what a call comes to
  either_way : (R : Outcome W → Type 0) (q : Progress) (granted : Outcome W) (v : Option CallFault) → ToldAll v →
      ((f : CallFault) → Amiss t ranges order past take lawful f → R (record { progress = q; answer = refused f })) → (ToldAll None → R granted) → R (unless q v granted)
  either_way R q granted v told not_so so = grind (arith, common_steps)

module _ {W : Type 0} (t : Text) (laws : ReadingLaws t) (ranges order : ℕ) (past : List (Recorded W)) (q : Progress) (s : Stands t past q) (lawful : Bool) where
  line_tells : (take : Bool) → Told t ranges order past take lawful (line_verdict t q lawful ranges order)
  line_tells take =
      cond_both q.closed _ _ tells
      (λ e. (sym s.closed_is ∙ e, refl, refl))
      (λ o. let still : closed past ≡ false = sym s.closed_is ∙ o in
      cond_both (not (known t q)) _ _ tells
      (λ e. absurd (both_ways (known t q) (not-true (known t q) e) (is_known t laws past q s still)))
      (λ _.
      cond_both (not lawful) _ _ tells
      (λ e. (still, not-true lawful e, refl, refl))
      (λ l. let fit = not-false lawful l in
      cond_both (ltb ranges (length t.spans + 2)) _ _ tells
      (λ e. (still, fit, (ltb-true ranges (length t.spans + 2) e, refl)))
      (λ r.
      cond_both (ltb order (length t.spans + 2)) _ _ tells
      (λ e. (still, fit, (ltb-false ranges (length t.spans + 2) r, ltb-true order (length t.spans + 2) e, refl)))
      (λ e. record { still = still; fit = fit; ranges_long = ltb-false ranges (length t.spans + 2) r; order_long = ltb-false order (length t.spans + 2) e })))))
    where
      tells : Option CallFault → Type 0
      tells = Told t ranges order past take lawful

  close_tells : ToldAll t ranges order past false lawful (line_verdict t q lawful ranges order)
  close_tells = by (line_verdict t q lawful ranges order) (line_tells false)
    where
      by : (v : Option CallFault) → Told t ranges order past false lawful v → ToldAll t ranges order past false lawful v
      by (Some f) h = h
      by None c = (c, λ e. absurd (false≢true e))

  take_tells : ToldAll t ranges order past true lawful (take_verdict t q lawful ranges order)
  take_tells = by (line_verdict t q lawful ranges order) (line_tells true)
    where
      by : (v : Option CallFault) → Told t ranges order past true lawful v → ToldAll t ranges order past true lawful (or_nothing_left q v)
      by (Some f) h = h
      by None c =
          cond_both (eqb q.tally.left 0) (Some (fault cause.NothingLeft 0 table.Entry)) None (ToldAll t ranges order past true lawful)
          (λ e. (c.still, c.fit, c.ranges_long, c.order_long, refl, nil_from_length (ahead_now t past) (sym s.left_is ∙ eqb-true q.tally.left 0 e), refl, refl))
          (λ e. (c, λ _. not_none q.tally.left (length (ahead_now t past)) (eqb-false q.tally.left 0 e) s.left_is))

module _ {S W : Type 0} (k : Ghosts S W) (m : S) (t : Text) (laws : ReadingLaws t) (ellipsis : W) (ranges order : ℕ) (past : List (Recorded W)) (q : Progress)
    (s : Stands t past q)
    (R : Outcome W → Type 0) where
  -- what a take and a close come to that are granted
  abbrev pub taking : W → Outcome W
  taking width =
      let l = taken_line k m t q.position width in
      record { progress = after_take q (standing t (q.tally.left - l.laid)) l.laid; answer = line_answer t l }

  abbrev pub closing : Ellipsize → Option W → Outcome W
  closing ellipsize width =
      let l = closing_line k m t q.position ellipsize width ellipsis in
      record { progress = after_close q l.laid; answer = line_answer t l }

  pub take_ways : (width : W) →
      ((f : CallFault) → Amiss t ranges order past true (k.lawful_of m width) f → R (record { progress = q; answer = refused f })) →
      (ToldAll t ranges order past true (k.lawful_of m width) None → R (taking width)) → R (take_step k m t ellipsis ranges order q width)
  take_ways width not_so so =
      let lawful = k.lawful_of m width in
      either_way t ranges order past true lawful R q (taking width) (take_verdict t q lawful ranges order) (take_tells t laws ranges order past q s lawful) not_so so

  pub close_ways : (ellipsize : Ellipsize) (width : Option W) →
      ((f : CallFault) → Amiss t ranges order past false (lawful_width k m t ellipsis ranges order width) f → R (record { progress = q; answer = refused f })) →
      (ToldAll t ranges order past false (lawful_width k m t ellipsis ranges order width) None → R (closing ellipsize width)) → R (close_step k m t ellipsis ranges order q ellipsize width)
  close_ways ellipsize width not_so so =
      let lawful = lawful_width k m t ellipsis ranges order width in
      either_way t ranges order past false lawful R q (closing ellipsize width) (line_verdict t q lawful ranges order) (close_tells t laws ranges order past q s lawful) not_so so
