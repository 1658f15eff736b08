-- The scan of a line: what the levels come to from any place of it on.
use Rattle.std.proofs.Common.{is_some, ◌≡◌, ℕ, Option, Some, None, ◌+◌, ◌-◌, ◌<◌, ◌≤◌, Bool, true, false, cond, ◌&&◌, List, ◌∷◌, ◌++◌, length, get_or, take, drop, replicate, sum, sym, ap, ap₂, ◌∙◌, append_assoc, append-nil, arith, length-append, take-add}
use lib.ListN.{length-replicate}
use Rattle.std.proofs.lemmas.List.{drop_more, take_at, drop_at, drop-drop, length-take-le, replicate-append-replicate}
use Rattle.std.proofs.lemmas.List.Sums.{sum_by_more, sum_by-take-le}
use Rattle.levels.specs.Classes.{Role, separator, space, removed, other, role_of, class_of}
use Rattle.levels.specs.Runs.{painted, run_after, start_of, levels_after}
use Rattle.levels.specs.RuleL1.{roles_of, runs_out, resets, releveled}

-- the first bytes with the paragraph's level from the start of a run on
abbrev pub front : ℕ → ℕ → ℕ → List ℕ → List ℕ
front level from to xs = take from xs ++ replicate (to - from) level

-- what the bytes passed so far come to: an open run is reset where it comes to a separator or the end
abbrev pub passed : ℕ → Option ℕ → ℕ → List Role → List ℕ → List ℕ
passed level run at line xs = cond (is_some run && runs_out line) (front level (start_of run at) at xs) (take at xs)

-- what all bytes come to
abbrev pub pending : ℕ → Option ℕ → ℕ → List Role → List ℕ → List ℕ → List ℕ
pending level run at line lengths xs = passed level run at line xs ++ releveled level (resets (is_some run) line) lengths (drop at xs)

-- A RUN OF PAINTED BYTES

module _ (level from to : ℕ) (xs : List ℕ) (starts : from ≤ to) where
  front_grows : (n : ℕ) → front level from to xs ++ replicate n level ≡ front level from (to + n) xs
  front_grows n =
      let e : (to - from) + n ≡ (to + n) - from = omega arith in
      append_assoc (take from xs) (replicate (to - from) level) (replicate n level)
      ∙ ap (λ t. take from xs ++ t) (replicate-append-replicate (to - from) n level)
      ∙ ap (λ m. take from xs ++ replicate m level) e

  front_length : to ≤ length xs → length (front level from to xs) ≡ to
  front_length h =
      omega (arith, length-append (take from xs) (replicate (to - from) level), length-replicate (to - from) level, length-take-le from xs (omega arith))

front_none : (level from : ℕ) (xs : List ℕ) → front level from from xs ≡ take from xs
front_none level from xs =
    let e : from - from ≡ 0 = omega arith in
    ap (λ m. take from xs ++ replicate m level) e ∙ append-nil (take from xs)

-- ONE CHARACTER of n bytes; rest is what becomes of the bytes after it

module _ (level at n : ℕ) (xs : List ℕ) (rest : List ℕ → List ℕ) where
  as_before : take at xs ++ (take n (drop at xs) ++ rest (drop n (drop at xs))) ≡ take (at + n) xs ++ rest (drop (at + n) xs)
  as_before = rw (drop-drop n at xs, take-add at n xs, append_assoc)

  reset : (from : ℕ) → from ≤ at → front level from at xs ++ (replicate n level ++ rest (drop n (drop at xs))) ≡ front level from (at + n) xs ++ rest (drop (at + n) xs)
  reset from h =
      ap (λ t. front level from at xs ++ (replicate n level ++ rest t)) (drop-drop n at xs)
      ∙ sym (append_assoc (front level from at xs) (replicate n level) (rest (drop (at + n) xs)))
      ∙ ap (λ t. t ++ rest (drop (at + n) xs)) (front_grows level from at xs h n)

  goes_on : (from : ℕ) (out : Bool) → from ≤ at → cond out (front level from at xs) (take at xs) ++ (cond out (replicate n level) (take n (drop at xs)) ++ rest (drop n (drop at xs))) ≡ cond out (front level from (at + n) xs) (take (at + n) xs) ++ rest (drop (at + n) xs)
  goes_on from true h = reset from h
  goes_on from false h = as_before

  opens : (out : Bool) → take at xs ++ (cond out (replicate n level) (take n (drop at xs)) ++ rest (drop n (drop at xs))) ≡ cond out (front level at (at + n) xs) (take (at + n) xs) ++ rest (drop (at + n) xs)
  opens true = ap (λ t. t ++ (replicate n level ++ rest (drop n (drop at xs)))) (sym (front_none level at xs)) ∙ reset at (omega arith)
  opens false = as_before

  ends : (from : ℕ) → from ≤ at → at + n ≤ length xs → front level from at xs ++ (replicate n level ++ rest (drop n (drop at xs))) ≡ take (at + n) (painted level from (at + n) xs) ++ rest (drop (at + n) (painted level from (at + n) xs))
  ends from h w =
      let l : length (front level from (at + n) xs) ≡ at + n = front_length level from (at + n) xs (omega arith) w in
      reset from h
      ∙ rw (take_at (front level from (at + n) xs) (drop (at + n) xs) (at + n) l, drop_at (front level from (at + n) xs) (drop (at + n) xs) (at + n) l)

stepped : (level : ℕ) (run : Option ℕ) (role : Role) (at n : ℕ) (line : List Role) (lengths xs : List ℕ) → start_of run at ≤ at → at + n ≤ length xs → pending level run at (role ∷ line) (n ∷ lengths) xs ≡ pending level (run_after run role at) (at + n) line lengths (levels_after level run role at (at + n) xs)
stepped level (Some from) separator at n line lengths xs h w = ends level at n xs (releveled level (resets false line) lengths) from h w
stepped level (Some from) space at n line lengths xs h w = goes_on level at n xs (releveled level (resets true line) lengths) from (runs_out line) h
stepped level (Some from) removed at n line lengths xs h w = goes_on level at n xs (releveled level (resets true line) lengths) from (runs_out line) h
stepped level (Some from) other at n line lengths xs h w = as_before level at n xs (releveled level (resets false line) lengths)
stepped level None separator at n line lengths xs h w =
    ap (λ t. t ++ (replicate n level ++ releveled level (resets false line) lengths (drop n (drop at xs)))) (sym (front_none level at xs))
    ∙ ends level at n xs (releveled level (resets false line) lengths) at h w
stepped level None space at n line lengths xs h w = opens level at n xs (releveled level (resets true line) lengths) (runs_out line)
stepped level None removed at n line lengths xs h w = as_before level at n xs (releveled level (resets false line) lengths)
stepped level None other at n line lengths xs h w = as_before level at n xs (releveled level (resets false line) lengths)

-- a turn of the scan, at a character of n bytes
module _ (level i at n : ℕ) (run : Option ℕ) (codes lengths xs : List ℕ) where
  pub turned : (j : ℕ) (role : Role) (run' : Option ℕ) (xs' : List ℕ) → j ≡ i + 1 → i < length codes → i < length lengths → n ≡ get_or lengths i 0 → start_of run at ≤ at → at + n ≤ length xs → role_of (class_of (get_or codes i 0)) ≡ role → run' ≡ run_after run role at → xs' ≡ levels_after level run role at (at + n) xs → pending level run at (roles_of (drop i codes)) (drop i lengths) xs ≡ pending level run' (at + n) (roles_of (drop j codes)) (drop j lengths) xs'
  turned j role run' xs' ej hc hl en h w er eu ex =
      rw (ej, eu, ex)
      (ap (λ line. pending level run at (roles_of line) (drop i lengths) xs) (drop_more codes i 0 hc)
      ∙ ap (λ ns. pending level run at (roles_of (get_or codes i 0 ∷ drop (i + 1) codes)) ns xs) (drop_more lengths i 0 hl)
      ∙ ap₂ (λ r m. pending level run at (r ∷ roles_of (drop (i + 1) codes)) (m ∷ drop (i + 1) lengths) xs) er (sym en)
      ∙ stepped level run role at n (roles_of (drop (i + 1) codes)) (drop (i + 1) lengths) xs h w)

-- a character lies within the bytes of the line
pub within : (lengths : List ℕ) (i at total : ℕ) → i < length lengths → at ≡ sum (take i lengths) → sum lengths ≡ total → at + get_or lengths i 0 ≤ total
within lengths i at total h a t = omega (arith, sum_by_more (λ x. x) lengths i 0 h, sum_by-take-le (λ x. x) lengths (i + 1))

-- a run starts before the place that the scan has come to
pub started : (run : Option ℕ) (role : Role) (at n : ℕ) → start_of run at ≤ at → start_of (run_after run role at) (at + n) ≤ at + n
started (Some from) separator at n h = omega arith
started (Some from) space at n h = omega arith
started (Some from) removed at n h = omega arith
started (Some from) other at n h = omega arith
started None separator at n h = omega arith
started None space at n h = omega arith
started None removed at n h = omega arith
started None other at n h = omega arith
