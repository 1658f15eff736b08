-- Runs on an entry that was opened, or was not
use Rattle.std.proofs.Common.{◌≡◌, ℕ, List, map, length, IfOk, Ok, Err, vec_items, Result, Vec, sym, refl, ap, ◌∙◌, subst, arith, MatchResult}
use Rattle.entry.specs.Entries.{progress_of}
use Rattle.entry.specs.Outcomes.{Begins, OpensBy}
use Rattle.entry.specs.Steps.{Answer, answers, begun}
use Rattle.entry.specs.declared.call.Call.{Call}
use Rattle.entry.specs.declared.entry.Entry.{Entry}
use Rattle.entry.specs.declared.fault.EntryFault.{EntryFault}
use Rattle.entry.specs.declared.fault.EntryFault.TheVariants.{Tables}
use Rattle.glyph.specs.declared.glyph.Glyph.{Glyph}
use Rattle.measure.specs.Rows.{row_width}
use Rattle.measure.specs.declared.measure.Measure.{Ghosts}
use Rattle.paragraph.proofs.Verdicts.{granted, refused}
use Rattle.paragraph.specs.Holds.{ellipsis_of, text_of}
use Rattle.paragraph.specs.Lawful.{FirstFault, Lawful}
use Rattle.paragraph.specs.Lent.{text_in}
use Rattle.paragraph.specs.Text.{Sound, Text}
use Rattle.paragraph.specs.Verdict.{verdict}
use Rattle.paragraph.specs.Faults.{TableFault}
use Rattle.paragraph.specs.declared.paragraph.Paragraph.{Paragraph}
use Rattle.paragraph.specs.declared.tables.OwnedTables.{OwnedTables}
use Rattle.runs.specs.Events.{answer_of}
use Rattle.runs.specs.Laws.{EveryRun, LawfulRun}
use Rattle.runs.specs.Widths.{EveryMeasuredRun, MeasuredRun}
use Rattle.runs.specs.Performing.{RunBy, answers_on, opened_answers, text_on}
use Rattle.runs.specs.declared.event.Event.{Event}
use Rattle.runs.specs.declared.fault.RunFault.{RunFault}
use Rattle.runs.specs.declared.fault.RunFault.TheVariants.{Memory, NotOpened}
use Rattle.runs.specs.declared.opening.Opening.{Opening}
use Rattle.std.specs.declared.alloc.Global.{Global}
use Rattle.std.proofs.lemmas.Grind.{common_steps}
use Rattle.walk.specs.declared.line.VlRange.{VlRange}

module _ (t : Text) (ellipsis : List Glyph) where
  module _ (S : Type 0) where
    -- tables that are refused have a first fault, and others are lawful
    refused_first : (v : Result (Unit {0}) TableFault) → v ≡ verdict t ellipsis → (e : EntryFault) → OpensBy {S = S} v (Err e) → (f : TableFault) × (e ≡ Tables f) × FirstFault t ellipsis f
    refused_first v is e h = let first = refused t ellipsis v is in grind (arith, common_steps)

    opened_lawful : (v : Result (Unit {0}) TableFault) → v ≡ verdict t ellipsis → (x : Entry S) → OpensBy v (Ok x) → Lawful t ellipsis
    opened_lawful v is x h = let lawful = granted t ellipsis v is in grind (arith, common_steps)

    module _ (W : Type 0) where
      pub not_opened : (e : EntryFault) → OpensBy {S = S} (verdict t ellipsis) (Err e) → RunBy {W = W} t ellipsis (Err (NotOpened e))
      not_opened e h =
          let (f, is, first) = refused_first (verdict t ellipsis) refl e h in
          subst (λ (x : EntryFault). RunBy {W = W} t ellipsis (Err (NotOpened x))) (sym is) first

      pub was_opened : (x : Entry S) → OpensBy (verdict t ellipsis) (Ok x) → (r : Result (Vec (Event W) Global) RunFault) (P : Vec (Event W) Global → Type 0) → MatchResult r P (λ e. e ≡ Memory) → RunBy t ellipsis r
      was_opened x h r P c = let lawful = opened_lawful (verdict t ellipsis) refl x h in grind (arith, common_steps)

pub made_since : {X Y : Type 0} (r : Result X Y) (P P' : X → Type 0) (Q : Y → Type 0) → MatchResult r P Q → ((x : X) → P x → P' x) → IfOk r P'
made_since r P P' Q h more = grind (arith, common_steps)

module _ {S W : Type 0} (k : Ghosts S W) (on : Opening S) (p : Paragraph) (opened : Entry S)
    (holds : p.tables ≡ on.tables)
    (begins : Begins p on.measure opened) where
  its_text : text_of p ≡ text_on on
  its_text = ap text_in holds

  its_ellipsis : ellipsis_of p ≡ vec_items on.tables.ellipsis
  its_ellipsis = ap (λ (b : OwnedTables). vec_items b.ellipsis) holds

  its_progress : progress_of opened ≡ begun (text_on on)
  its_progress = begins.progress_is ∙ ap begun its_text

  pub sound_on : Sound (text_on on)
  sound_on = subst Sound its_text p.sound

  module _ (rs : List VlRange) (os : List ℕ) (ranges order : ℕ) (same_ranges : length rs ≡ ranges) (same_order : length os ≡ order) (calls : List (Call W)) where
    answers_same : answers_on k opened p rs os calls ≡ opened_answers k on ranges order calls
    answers_same j =
        answers k (begins.measure_is j) (its_text j) (row_width k (begins.measure_is j) (its_ellipsis j)) (same_ranges j) (same_order j) (its_progress j) calls

    module _ (r : Result (Vec (Event W) Global) RunFault) (performed : MatchResult r (λ log. map answer_of (vec_items log) ≡ answers_on k opened p rs os calls) (λ e. e ≡ Memory)) where
      pub lawful : EveryRun k on.measure → IfOk r (λ log. LawfulRun k on.measure (text_on on) (vec_items on.tables.ellipsis) ranges order calls (map answer_of (vec_items log)))
      lawful every =
          made_since r _ _ _ performed
          (λ log e. subst (λ (given : List (Answer W)). LawfulRun k on.measure (text_on on) (vec_items on.tables.ellipsis) ranges order calls given) (sym (e ∙ answers_same)) (every (text_on on) (vec_items on.tables.ellipsis) ranges order calls sound_on))

-- on an exact measure the same record obeys the law of widths
pub measured : {S W : Type 0} (k : Ghosts S W) (number : W → ℕ) (glyph : Glyph → ℕ) (on : Opening S) (ranges order : ℕ) (calls : List (Call W)) →
    EveryMeasuredRun k on.measure number glyph →
    (r : Result (Vec (Event W) Global) RunFault) → RunBy (text_on on) (vec_items on.tables.ellipsis) r → IfOk r (λ log. map answer_of (vec_items log) ≡ opened_answers k on ranges order calls) →
    IfOk r (λ log. MeasuredRun number glyph (text_on on) (vec_items on.tables.ellipsis) calls (map answer_of (vec_items log)))
measured {W = W} k number glyph on ranges order calls every (Ok log) tables is =
    subst (λ (given : List (Answer W)). MeasuredRun number glyph (text_on on) (vec_items on.tables.ellipsis) calls given) (sym is)
    (every (text_on on) (vec_items on.tables.ellipsis) ranges order calls tables.sound tables.short_ellipsis)
measured k number glyph on ranges order calls every (Err e) tables is = tt
