-- What a caller reads off a call's result and the two lists is its answer
use Rattle.std.proofs.Common.{◌≡◌, ℕ, ◌-◌, List, map, length, Option, Result, sym, refl, ◌∙◌, subst, arith, MatchResult}
use lib.ListN.{length-map}
use Rattle.entry.specs.Entries.{measure_of, progress_of}
use Rattle.entry.specs.Lines.{after_close, after_take, taken_line}
use Rattle.entry.specs.Outcomes.{Answered, ComesTo, closed_on, taken_on}
use Rattle.entry.specs.Steps.{Answer, Outcome, laid, refused, counted, lawful_width, line_answer, standing, unless}
use Rattle.entry.specs.Verdict.{line_verdict, take_verdict}
use Rattle.entry.specs.declared.call.Call.{Call}
use Rattle.entry.specs.declared.call.Call.TheVariants.{Take, Close}
use Rattle.entry.specs.declared.entry.Entry.{Entry}
use Rattle.entry.specs.Faults.{CallFault}
use Rattle.entry.specs.declared.fault.EntryFault.{EntryFault}
use Rattle.entry.specs.declared.progress.Progress.{Progress}
use Rattle.layout.specs.Lines.{Line, closing_line, line_ranges}
use Rattle.layout.specs.declared.line.Ellipsize.{Ellipsize}
use Rattle.layout.specs.declared.line.VisualLine.{VisualLine}
use Rattle.measure.specs.Rows.{row_width}
use Rattle.measure.specs.declared.measure.Measure.{Ghosts}
use Rattle.paragraph.specs.Holds.{ellipsis_of, text_of}
use Rattle.paragraph.specs.declared.paragraph.Paragraph.{Paragraph}
use Rattle.runs.specs.Events.{Performs, ReadOff, answer_of}
use Rattle.runs.specs.Performing.{called_on}
use Rattle.runs.specs.declared.event.Event.{Event}
use Rattle.runs.specs.declared.fault.RunFault.{RunFault}
use Rattle.runs.specs.declared.fault.RunFault.TheVariants.{Memory}
use Rattle.std.proofs.lemmas.Grind.{common_steps}
use Rattle.visual_order.specs.Laws.{OnceLaw}
use Rattle.walk.specs.declared.line.VlRange.{VlRange}

-- a line tells how many ranges it has, and its order has as many places
abbrev WellTold : {W : Type 0} → Answer W → Type 0
WellTold (laid rs os line) = (line.ranges ≡ length rs) × (length os ≡ length rs)
WellTold (refused f) = Unit {0}
WellTold (counted n) = Unit {0}

unless_told : {W : Type 0} (q : Progress) (v : Option CallFault) (granted : Outcome W) → WellTold granted.answer → WellTold (unless q v granted).answer
unless_told q v granted h = grind (arith, common_steps)

module _ {W : Type 0} (r : Result (VisualLine W) EntryFault) (ranges ranges_after : List VlRange) (order order_after : List ℕ) where
  read_same : (a read : Answer W) → Answered a r ranges ranges_after order order_after → WellTold a → ReadOff r ranges_after order_after read → read ≡ a
  read_same a read h told off = grind (arith, common_steps)

  module _ {S : Type 0} (before after : Entry S) (o : Outcome W) (comes : ComesTo o before after r ranges ranges_after order order_after)
      (told : WellTold o.answer) where
    performs : (made : Result (Event W) RunFault) → MatchResult made (λ event. ReadOff r ranges_after order_after (answer_of event)) (λ e. e ≡ Memory) → MatchResult made (Performs o before after) (λ e. e ≡ Memory)
    performs made off =
        let same = read_same o.answer in
        let is = comes.answer_is in
        grind (arith, common_steps)

module _ {S W : Type 0} (k : Ghosts S W) (once : OnceLaw) (before after : Entry S) (p : Paragraph) (c : Call W) (r : Result (VisualLine W) EntryFault)
    (ranges ranges_after : List VlRange)
    (order order_after : List ℕ)
    (made : Result (Event W) RunFault)
    (off : MatchResult made (λ event. ReadOff r ranges_after order_after (answer_of event)) (λ e. e ≡ Memory)) where
  line_told_well : (l : Line W) → WellTold (line_answer (text_of p) l)
  line_told_well l = (refl, (once (map (λ r. r.level) (line_ranges l))).as_long ∙ length-map (line_ranges l) (λ r. r.level))

  taken_well : (width : W) → WellTold (taken_on k before p ranges order width).answer
  taken_well width =
      let q = progress_of before in
      let l = taken_line k (measure_of before) (text_of p) q.position width in
      unless_told q (take_verdict (text_of p) q (k.lawful_of (measure_of before) width) (length ranges) (length order))
      (record { progress = after_take q (standing (text_of p) (q.tally.left - l.laid)) l.laid; answer = line_answer (text_of p) l })
      (line_told_well l)

  closed_well : (ellipsize : Ellipsize) (width : Option W) → WellTold (closed_on k before p ranges order ellipsize width).answer
  closed_well ellipsize width =
      let q = progress_of before in
      let e = row_width k (measure_of before) (ellipsis_of p) in
      let l = closing_line k (measure_of before) (text_of p) q.position ellipsize width e in
      unless_told q (line_verdict (text_of p) q (lawful_width k (measure_of before) (text_of p) e (length ranges) (length order) width) (length ranges) (length order))
      (record { progress = after_close q l.laid; answer = line_answer (text_of p) l })
      (line_told_well l)

  pub take_performs : (width : W) → c ≡ Take width → ComesTo (taken_on k before p ranges order width) before after r ranges ranges_after order order_after →
      MatchResult made (Performs (called_on k before p ranges order c) before after) (λ e. e ≡ Memory)
  take_performs width is comes =
      subst (λ (x : Call W). MatchResult made (Performs (called_on k before p ranges order x) before after) (λ e. e ≡ Memory)) (sym is)
      (performs r ranges ranges_after order order_after before after (taken_on k before p ranges order width) comes (taken_well width) made off)

  pub close_performs : (ellipsize : Ellipsize) (width : Option W) → c ≡ Close ellipsize width → ComesTo (closed_on k before p ranges order ellipsize width) before after r ranges ranges_after order order_after →
      MatchResult made (Performs (called_on k before p ranges order c) before after) (λ e. e ≡ Memory)
  close_performs ellipsize width is comes =
      subst (λ (x : Call W). MatchResult made (Performs (called_on k before p ranges order x) before after) (λ e. e ≡ Memory)) (sym is)
      (performs r ranges ranges_after order order_after before after (closed_on k before p ranges order ellipsize width) comes (closed_well ellipsize width) made off)
