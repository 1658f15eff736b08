-- The law of every run
use Rattle.std.proofs.Common.{ℕ, true, false, List, [], ◌∷◌}
use Rattle.entry.specs.Steps.{Answer, Outcome, answers, begun, step}
use Rattle.entry.specs.declared.call.Call.{Call}
use Rattle.entry.specs.declared.call.Call.TheVariants.{Take, Close, Count}
use Rattle.entry.specs.declared.progress.Progress.{Progress}
use Rattle.glyph.specs.declared.glyph.Glyph.{Glyph}
use Rattle.measure.specs.Rows.{row_width}
use Rattle.measure.specs.declared.measure.Measure.{Ghosts}
use Rattle.paragraph.proofs.Fitting.{fits}
use Rattle.paragraph.specs.Text.{Sound, Text}
use Rattle.runs.proofs.Grants.{closed_by, stands_closed, stands_taken, taken}
use Rattle.runs.proofs.Refusals.{close_ways, refused_rightly, take_ways}
use Rattle.runs.proofs.Standing.{counts, every_start, shared_out}
use Rattle.runs.specs.Laws.{Along, EveryRun, EveryStep, LawfulCall, RightAnswer, lawful_given}
use Rattle.runs.specs.Log.{Recorded, recorded}
use Rattle.runs.specs.Standing.{Stands}
use Rattle.visual_order.specs.Laws.{OnceLaw, PairLaw}

module _ {S W : Type 0} (k : Ghosts S W) (m : S) (t : Text) (sound : Sound t) (ellipsis : List Glyph) (ranges order : ℕ) where
  abbrev ellipsis_width : W
  ellipsis_width = row_width k m ellipsis

  abbrev stepped : Progress → Call W → Outcome W
  stepped q c = step k m t ellipsis_width ranges order q c

  -- a call takes the entry to where the longer log tells
  stands_on : (past : List (Recorded W)) (q : Progress) → Stands t past q → (c : Call W) → Stands t (recorded c (stepped q c).answer ∷ past) (stepped q c).progress
  stands_on past q s (Take width) =
      take_ways k m t (fits t sound) ellipsis_width ranges order past q s (λ o. Stands t (recorded (Take width) o.answer ∷ past) o.progress) width
      (λ f amiss. s)
      (stands_taken k m t sound (fits t sound) ellipsis ranges order past q s width)
  stands_on past q s (Close ellipsize width) =
      close_ways k m t (fits t sound) ellipsis_width ranges order past q s (λ o. Stands t (recorded (Close ellipsize width) o.answer ∷ past) o.progress) ellipsize width
      (λ f amiss. s)
      (stands_closed k m t sound (fits t sound) ellipsis ranges order past q s ellipsize width)
  stands_on past q s Count = s

  -- what holds of each call on an entry that stands where the log tells, holds along each run
  pub along : (P : List (Recorded W) → Call W → Answer W → Type 0) →
      ((past : List (Recorded W)) (q : Progress) → Stands t past q → (c : Call W) → P past c (stepped q c).answer) →
      (past : List (Recorded W)) (q : Progress) → Stands t past q → (calls : List (Call W)) →
      Along P past calls (answers k m t ellipsis_width ranges order q calls)
  along P each past q s [] = tt
  along P each past q s (c ∷ calls) = (each past q s c, along P each (recorded c (stepped q c).answer ∷ past) (stepped q c).progress (stands_on past q s c) calls)

  module _ (pairs : PairLaw) (once : OnceLaw) where
    right_answer : (past : List (Recorded W)) (q : Progress) → Stands t past q → (c : Call W) → RightAnswer k m t ellipsis ranges order past c (stepped q c).answer
    right_answer past q s (Take width) =
        take_ways k m t (fits t sound) ellipsis_width ranges order past q s (λ o. RightAnswer k m t ellipsis ranges order past (Take width) o.answer) width
        (refused_rightly t ranges order past true (k.lawful_of m width))
        (λ clear. taken k m t sound (fits t sound) ellipsis ranges order past q s width clear pairs once)
    right_answer past q s (Close ellipsize width) =
        close_ways k m t (fits t sound) ellipsis_width ranges order past q s (λ o. RightAnswer k m t ellipsis ranges order past (Close ellipsize width) o.answer) ellipsize width
        (refused_rightly t ranges order past false (lawful_given k m t ellipsis ranges order width))
        (λ clear. closed_by k m t sound (fits t sound) ellipsis ranges order past q s ellipsize width clear pairs once)
    right_answer past q s Count = counts t (fits t sound) past q s

    lawful_call : (past : List (Recorded W)) (q : Progress) → Stands t past q → (c : Call W) → LawfulCall k m t ellipsis ranges order past c (stepped q c).answer
    lawful_call past q s c =
        record {
          right_answer = right_answer past q s c;
          shared_out = shared_out t (fits t sound) (recorded c (stepped q c).answer ∷ past) (stepped q c).progress (stands_on past q s c);
        }

module _ {S W : Type 0} (k : Ghosts S W) (m : S) (pairs : PairLaw) (once : OnceLaw) where
  pub every_step : EveryStep k m
  every_step = λ t ellipsis ranges order past q c sound s.
      (lawful_call k m t sound ellipsis ranges order pairs once past q s c, stands_on k m t sound ellipsis ranges order past q s c)

  pub every_run : EveryRun k m
  every_run = λ t ellipsis ranges order calls sound.
      along k m t sound ellipsis ranges order (LawfulCall k m t ellipsis ranges order) (lawful_call k m t sound ellipsis ranges order pairs once) [] (begun t) (every_start W t sound) calls
