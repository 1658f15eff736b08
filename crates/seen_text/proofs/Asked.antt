-- What an input says, and what it asks for
use Rattle.std.proofs.Common.{◌≡◌, ℕ, List, IfSome, Some, None, Ok, Err, IsUtf8, Option, Result, String, sym, refl, ap, ◌∙◌, subst, arith}
use Rattle.std.specs.Option.{option_map}
use Rattle.std.specs.declared.alloc.Global.{Global}
use Rattle.seen_text.specs.Answer.{Answers, Prints}
use Rattle.seen_text.specs.Classes.{Lawful, ReadsClasses, Resets, resets_line, resets_of}
use Rattle.seen_text.specs.declared.class_line.ClassLine.{ClassLine}
use Rattle.seen_text.specs.Format.{Counted, Lines, OneReading, Says}
use Rattle.seen_text.specs.Inputs.{ReadsInput}
use Rattle.seen_text.specs.Numbers.{spelled}
use Rattle.seen_text.specs.Reading.{ReadsLevels}
use Rattle.program.specs.declared.fault.InputFault.{InputFault}
use Rattle.seen_text.specs.declared.format_fault.FormatFault.{FormatFault}
use Rattle.program.specs.declared.fault.InputFault.TheVariants.{Format, Memory}
use Rattle.seen_text.proofs.ClassWords.{same_resets}
use Rattle.seen_text.proofs.LevelWords.{same_levels}
use Rattle.seen_text.proofs.Feeds.{one_way}

-- a third line says one thing
same_third : (resets more : Option Resets) → IfSome resets Lawful → IfSome more Lawful → option_map resets_line resets ≡ option_map resets_line more → resets ≡ more
same_third None None a b e = refl
same_third None (Some more) a b e = let z : ◌≡◌ {A = ℕ} 0 1 = cc in absurd (omega arith)
same_third (Some resets) None a b e = let z : ◌≡◌ {A = ℕ} 0 1 = cc in absurd (omega arith)
same_third (Some resets) (Some more) a b e = let lines : resets_line resets ≡ resets_line more = cc in ap Some (same_resets resets more a b lines)

-- an input says one thing
same_says : {bytes text levels other others : List ℕ} {resets more : Option Resets} → Says bytes text levels resets → Says bytes other others more → (text ≡ other) × (levels ≡ others) × (resets ≡ more)
same_says {bytes} {text} {levels} {other} {others} {resets} {more} one two =
    let lines = one_way bytes text (spelled levels) other (spelled others) (option_map resets_line resets) (option_map resets_line more) one.lines two.lines in
    (lines.0, same_levels levels others one.small two.small lines.1, same_third resets more one.lawful two.lawful lines.2)

pub one_reading : OneReading
one_reading = λ bytes text levels other others resets more one two. same_says one.says two.says

-- what is printed for what an input says is its answer
answered : {bytes text levels : List ℕ} {resets : Option Resets} → Says bytes text levels resets → (r : Result (String Global) (InputFault FormatFault)) → Prints text levels resets r → Answers bytes r
answered {bytes} {text} {levels} {resets} says (Ok answer) (counted, is) = (text, levels, resets, record { says = says; counted = counted }, is)
answered {bytes} {text} {levels} {resets} says (Err (Format fault)) differ = λ other others more asks.
    let same = same_says says asks.says in
    differ (subst (λ (t : List ℕ). Counted t levels resets) (sym same.0) (subst (λ (t : List ℕ). Counted other t resets) (sym same.1) (subst (λ (m : Option Resets). Counted other others m) (sym same.2) asks.counted)))
answered says (Err Memory) none = tt

-- an input that says nothing asks for nothing
pub unread : (bytes : List ℕ) (fault : InputFault FormatFault) → ReadsInput bytes (Err fault) → Answers bytes (Err fault)
unread bytes (Format fault) says_none = λ text levels resets asks. says_none text levels resets asks.says
unread bytes Memory none = tt

-- the same for what is read of an input
pub answered_at : (bytes text levels slice : List ℕ) (read : Option ClassLine) (resets : Option Resets) (r : Result (String Global) (InputFault FormatFault)) → Says bytes text levels (option_map resets_of read) → option_map resets_of read ≡ resets → slice ≡ levels → Prints text slice resets r → Answers bytes r
answered_at bytes text levels slice read resets r says read_is slice_is prints =
    answered (subst (λ (o : Option Resets). Says bytes text levels o) read_is says) r (subst (λ (t : List ℕ). Prints text t resets r) slice_is prints)

-- the lines that an input is
module _ (bytes first second : List ℕ) (third : Option (List ℕ)) (is : Lines bytes first second third) where
  -- a first line that is no text
  no_text : (IsUtf8 first → ⊥) → (text levels : List ℕ) (resets : Option Resets) → Says bytes text levels resets → ⊥
  no_text bad text levels resets says = bad (subst IsUtf8 (sym (one_way bytes first second text (spelled levels) third (option_map resets_line resets) is says.lines).0) says.utf8)

  pub no_text_fault : (fault : InputFault FormatFault) → (IsUtf8 first → ⊥) → ReadsInput bytes (Err fault)
  no_text_fault (Format fault) bad = no_text bad
  no_text_fault Memory bad = tt

  -- a second line that is no levels
  pub no_levels : (fault : InputFault FormatFault) → ReadsLevels second (Err fault) → ReadsInput bytes (Err fault)
  no_levels (Format fault) bad = λ text levels resets says. bad levels says.small (one_way bytes first second text (spelled levels) third (option_map resets_line resets) is says.lines).1
  no_levels Memory bad = tt

  -- a third line that is no classes
  pub no_classes : (fault : InputFault FormatFault) (line : List ℕ) → third ≡ Some line → ReadsClasses line (Err fault) → ReadsInput bytes (Err fault)
  no_classes (Format fault) line there bad = λ text levels resets says. by resets says.lawful (sym there ∙ (one_way bytes first second text (spelled levels) third (option_map resets_line resets) is says.lines).2)
    where
      by : (resets : Option Resets) → IfSome resets Lawful → Some line ≡ option_map resets_line resets → ⊥
      by None lawful e = let z : ◌≡◌ {A = ℕ} 0 1 = cc in omega arith
      by (Some resets) lawful e = let same : line ≡ resets_line resets = cc in bad resets lawful same
  no_classes Memory line there bad = tt
