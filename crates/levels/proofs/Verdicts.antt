-- What the verdict on the tables of a line means.
use Rattle.std.proofs.Common.{◌≡◌, ℕ, zero, suc, ◌<◌, ◌≤◌, Bool, true, false, cond, not, ◌&&◌, eqb, leb, List, [], ◌∷◌, length, get_or, Some, None, Ok, Err, sum, Option, Result, sym, refl, subst, inl, inr, arith}
use Rattle.std.proofs.lemmas.Bool.{true≢false, and_cases, eqb-true, eqb-false, leb-true, leb-false}
use Rattle.std.proofs.lemmas.Bool.Decides.{nat_tests}
use Rattle.std.specs.List.{position}
use Rattle.refusals.specs.declared.fault.Fault.{Fault}
use Rattle.levels.specs.declared.fault.ClassCause.{ClassCause}
use Rattle.levels.specs.declared.fault.ClassTable.{ClassTable}
use Rattle.levels.specs.declared.fault.ClassTable.TheVariants.{Classes, Lengths, Levels, ParagraphLevel}
use Rattle.levels.specs.Refusals.{fault_at, one_to_four, byte_count, known, lawful, refused_at, rows_verdict, count_verdict, verdict, Missized, Judged}
use Rattle.levels.proofs.Rows.{all_passed, first_failed}

-- each length is right, or some length is wrong
all_sized : (lengths : List ℕ) → one_to_four lengths ≡ true → (k : ℕ) → k < length lengths → (1 ≤ get_or lengths k 0) × (get_or lengths k 0 ≤ 4)
all_sized [] e k h = absurd (omega arith)
all_sized (n ∷ lengths) e zero h = (grind (arith, nat_tests), grind (arith, nat_tests))
all_sized (n ∷ lengths) e (suc k) h = all_sized lengths (grind (arith, nat_tests)) k (omega arith)

some_missized : (lengths : List ℕ) → one_to_four lengths ≡ false → Missized lengths
some_missized [] e = absurd (true≢false e)
some_missized (n ∷ lengths) e =
    elim (and_cases (leb 1 n && leb n 4) (one_to_four lengths) e) [
      | inl h ↦
          record {
            row = 0;
            inside = omega arith;
            wrong = elim (and_cases (leb 1 n) (leb n 4) h) [ inl l ↦ inl (omega (arith, leb-false 1 n l)) | inr l ↦ inr (leb-false n 4 l) ];
          }
      | inr h ↦ (let m = some_missized lengths h in record { row = suc m.row; inside = omega (arith, m.inside); wrong = m.wrong })
    ]

module _ (paragraph : ℕ) (classes lengths levels : List ℕ) where
  judged_rows : length classes ≡ length lengths → one_to_four lengths ≡ true → sum lengths ≤ 65535 → sum lengths ≡ length levels → paragraph ≤ 1 → (unknown high : Option ℕ) → position (λ code. not (known code)) classes ≡ unknown → position (λ level. not (lawful level)) levels ≡ high → Judged paragraph classes lengths levels (refused_at unknown Classes (refused_at high Levels (Ok tt)))
  judged_rows same each few filled direction (Some row) high eu eh = first_failed known classes row eu
  judged_rows same each few filled direction None (Some row) eu eh = inr (first_failed lawful levels row eh)
  judged_rows same each few filled direction None None eu eh =
      record {
        same = same;
        filled = filled;
        short = omega arith;
        direction = direction;
        sized = all_sized lengths each;
        classed = all_passed known classes eu;
        leveled = λ b h. leb-true _ _ (all_passed lawful levels eh b h);
      }

  judged_paragraph : length classes ≡ length lengths → one_to_four lengths ≡ true → sum lengths ≤ 65535 → sum lengths ≡ length levels → (right : Bool) → leb paragraph 1 ≡ right → Judged paragraph classes lengths levels (cond right (rows_verdict classes levels) (Err (fault_at 0 ParagraphLevel)))
  judged_paragraph same each few filled false e = (refl, leb-false _ _ e)
  judged_paragraph same each few filled true e = judged_rows same each few filled (leb-true _ _ e) _ _ refl refl

  judged_count : length classes ≡ length lengths → one_to_four lengths ≡ true → sum lengths ≤ 65535 → (right : Bool) → eqb (sum lengths) (length levels) ≡ right → Judged paragraph classes lengths levels (cond right (cond (leb paragraph 1) (rows_verdict classes levels) (Err (fault_at 0 ParagraphLevel))) (Err (fault_at 0 Levels)))
  judged_count same each few false e = inl (refl, eqb-false _ _ e)
  judged_count same each few true e = judged_paragraph same each few (eqb-true _ _ e) _ refl

  judged_lengths : length classes ≡ length lengths → (each few : Bool) → one_to_four lengths ≡ each → leb (sum lengths) 65535 ≡ few → Judged paragraph classes lengths levels (count_verdict (cond (each && few) (Some (sum lengths)) None) paragraph classes levels)
  judged_lengths same false few e f = (refl, inr (inl (some_missized lengths e)))
  judged_lengths same true false e f = (refl, inr (inr (leb-false _ _ f)))
  judged_lengths same true true e f = judged_count same e (leb-true _ _ f) _ refl

  judged_tables : (same : Bool) → eqb (length classes) (length lengths) ≡ same → Judged paragraph classes lengths levels (cond same (count_verdict (byte_count lengths) paragraph classes levels) (Err (fault_at 0 Lengths)))
  judged_tables false e = (refl, inl (eqb-false _ _ e))
  judged_tables true e = judged_lengths (eqb-true _ _ e) _ _ refl refl

  -- an answer that is the verdict
  pub judged : (answer : Result (Unit {0}) (Fault ClassCause ClassTable)) → answer ≡ verdict paragraph classes lengths levels → Judged paragraph classes lengths levels answer
  judged answer e = subst (λ r. Judged paragraph classes lengths levels r) (sym e) (judged_tables _ refl)
