-- Rows that run through the table below, by the search for a bad row and row by row
use Rattle.std.proofs.Common.{◌≡◌, ℕ, zero, suc, ◌+◌, ◌≤◌, Bool, true, false, List, [], ◌∷◌, ◌++◌, length, get_or, Some, None, Option, sym, refl, ap, ◌∙◌, inl, inr, ⊎_elim, add-one, arith}
use Rattle.std.proofs.lemmas.Bool.{cases_Bool}
use Rattle.std.proofs.lemmas.Bool.Decides.{nat_tests}
use Rattle.paragraph.specs.declared.piece.Piece.{Piece}
use Rattle.paragraph.specs.Pieces.{first_loose, follows}
use Rattle.paragraph.specs.Lawful.{Run, Stops, Loose}

pub follows_parts : (at n : ℕ) (p : Piece) → follows at n p ≡ true → (p.lawful ≡ true) × (p.offset ≡ at) × (at + p.len ≤ n)
follows_parts at n p h = (grind (arith, nat_tests), grind (arith, nat_tests), grind (arith, nat_tests))

follows_from : (at n : ℕ) (p : Piece) → p.lawful ≡ true → p.offset ≡ at → at + p.len ≤ n → follows at n p ≡ true
follows_from at n p a b d = grind (arith, nat_tests)

follows_not : (at n : ℕ) (p : Piece) → (p.lawful ≡ true → p.offset ≡ at → at + p.len ≤ n → ⊥) → follows at n p ≡ false
follows_not at n p h = ⊎_elim (λ y. let q = follows_parts at n p y in absurd (h q.0 q.1 q.2)) (λ no'. no') (cases_Bool (follows at n p))

module _ {X : Type 0} (piece : X → Piece) where
  run_upto : (xs : List X) (from to : ℕ) → Run piece from xs to → from ≤ to
  run_upto [] from to h = omega arith
  run_upto (x ∷ xs) from to h = let k = run_upto xs (from + (piece x).len) to h.2 in omega arith

  -- one row on, by the test of the first
  step : Bool → ℕ → ℕ → ℕ → X → List X → Option ℕ
  step b n i at x xs = elim b [ true ↦ first_loose piece n (i + 1) (at + (piece x).len) xs | false ↦ Some i ]

  stepped : (n i at : ℕ) (x : X) (xs : List X) (b : Bool) → follows at n (piece x) ≡ b → first_loose piece n i at (x ∷ xs) ≡ step b n i at x xs
  unfolding step
  stepped n i at x xs b e = ap (λ b. step b n i at x xs) e

  pub goes_on : (n i at : ℕ) (x : X) (xs : List X) → follows at n (piece x) ≡ true → first_loose piece n i at (x ∷ xs) ≡ first_loose piece n (i + 1) (at + (piece x).len) xs
  unfolding step
  goes_on n i at x xs e = stepped n i at x xs true e

  pub stops_here : (n i at : ℕ) (x : X) (xs : List X) → follows at n (piece x) ≡ false → first_loose piece n i at (x ∷ xs) ≡ Some i
  unfolding step
  stops_here n i at x xs e = stepped n i at x xs false e

  -- no row is bad if and only if they run to the end
  pub run_of_none : (xs : List X) (n i at : ℕ) → first_loose piece n i at xs ≡ None → Run piece at xs n
  run_of_none [] n i at h = grind (arith, nat_tests)
  run_of_none (x ∷ xs) n i at h =
      elim (cases_Bool (follows at n (piece x))) [
        | inl y ↦ let q = follows_parts at n (piece x) y in (q.0, q.1, run_of_none xs n (i + 1) (at + (piece x).len) (sym (goes_on n i at x xs y) ∙ h))
        | inr o ↦ let z : ◌≡◌ {A = Option ℕ} (Some i) None = sym (stops_here n i at x xs o) ∙ h in absurd (grind arith)
      ]

  pub none_of_run : (xs : List X) (n i at : ℕ) → Run piece at xs n → first_loose piece n i at xs ≡ None
  none_of_run [] n i at h = grind (arith, nat_tests)
  none_of_run (x ∷ xs) n i at h =
      goes_on n i at x xs (follows_from at n (piece x) h.0 h.1 (run_upto xs (at + (piece x).len) n h.2))
      ∙ none_of_run xs n (i + 1) (at + (piece x).len) h.2

  -- a row that was found is the first that does not go on
  record Bad (n i at : ℕ) (xs : List X) (row : ℕ) : Type 0 where
    pub before : List X
    pub rest : List X
    pub end : ℕ
    pub split : xs ≡ before ++ rest
    pub here : i + length before ≡ row
    pub run : Run piece at before end
    pub within : end ≤ n
    pub stops : Stops piece n end rest

  bad_of_some : (xs : List X) (n i at row : ℕ) → at ≤ n → first_loose piece n i at xs ≡ Some row → Bad n i at xs row
  bad_of_some [] n i at row w h = record {
    before = [];
    rest = [];
    end = at;
    split = refl;
    here = grind (arith, nat_tests);
    run = refl;
    within = w;
    stops = grind (arith, nat_tests);
  }
  bad_of_some (x ∷ xs) n i at row w h =
      elim (cases_Bool (follows at n (piece x))) [
        | inl y ↦ let q = follows_parts at n (piece x) y in
            let b = bad_of_some xs n (i + 1) (at + (piece x).len) row q.2 (sym (goes_on n i at x xs y) ∙ h) in
            record {
              before = x ∷ b.before;
              rest = b.rest;
              end = b.end;
              split = ap (λ l. x ∷ l) b.split;
              here = omega (arith, b.here);
              run = (q.0, q.1, b.run);
              within = b.within;
              stops = b.stops;
            }
        | inr o ↦ let z : ◌≡◌ {A = Option ℕ} (Some i) (Some row) = sym (stops_here n i at x xs o) ∙ h in
            record {
              before = [];
              rest = x ∷ xs;
              end = at;
              split = refl;
              here = grind arith;
              run = refl;
              within = w;
              stops = λ a b d. let y = follows_from at n (piece x) a b d in absurd (grind arith);
            }
      ]

  some_of_bad : (before rest : List X) (n i at end : ℕ) → Run piece at before end → end ≤ n → Stops piece n end rest → first_loose piece n i at (before ++ rest) ≡ Some (i + length before)
  some_of_bad [] [] n i at end r w s = grind (arith, nat_tests)
  some_of_bad [] (x ∷ xs) n i at end r w s =
      stops_here n i at x xs (follows_not at n (piece x) (λ a b d. s a (b ∙ r) (omega arith))) ∙ ap Some (omega arith)
  some_of_bad (x ∷ xs) rest n i at end r w s =
      goes_on n i at x (xs ++ rest) (follows_from at n (piece x) r.0 r.1 (let k = run_upto xs (at + (piece x).len) end r.2 in omega arith))
      ∙ some_of_bad xs rest n (i + 1) (at + (piece x).len) end r.2 w s
      ∙ ap Some (omega arith)

  pub loose_of_some : (xs : List X) (n row : ℕ) → first_loose piece n 0 0 xs ≡ Some row → Loose piece n xs row
  loose_of_some xs n row h =
      let b = bad_of_some xs n 0 0 row (omega arith) h in
      record { before = b.before; rest = b.rest; at = b.end; split = b.split; here = omega (arith, b.here); run = b.run; within = b.within; stops = b.stops }

  pub some_of_loose : (xs : List X) (n row : ℕ) → Loose piece n xs row → first_loose piece n 0 0 xs ≡ Some row
  some_of_loose xs n row h =
      ap (first_loose piece n 0 0) h.split
      ∙ some_of_bad h.before h.rest n 0 0 h.at h.run h.within h.stops
      ∙ ap Some (omega (arith, h.here))

  -- Row by row, with a row after the last that is empty and begins where the table below ends
  module _ (n : ℕ) (last : X) (ends : (piece last).offset ≡ n) (empty : (piece last).len ≡ 0) (fine : (piece last).lawful ≡ true) where
    pub first_row : (xs : List X) (at : ℕ) → Run piece at xs n → (piece (get_or xs 0 last)).offset ≡ at
    first_row [] at h = ends ∙ sym h
    first_row (x ∷ xs) at h = h.1

    pub next_row : (xs : List X) (at i : ℕ) → Run piece at xs n → (piece (get_or xs (i + 1) last)).offset ≡ (piece (get_or xs i last)).offset + (piece (get_or xs i last)).len
    next_row [] at i h = omega (arith, empty)
    next_row (x ∷ xs) at zero h = first_row xs (at + (piece x).len) h.2 ∙ ap (λ k. k + (piece x).len) (sym h.1)
    next_row (x ∷ xs) at (suc i) h = rw add-one (rw add-one at (next_row xs (at + (piece x).len) i h.2))

    pub lawful_row : (xs : List X) (at i : ℕ) → Run piece at xs n → (piece (get_or xs i last)).lawful ≡ true
    lawful_row [] at i h = fine
    lawful_row (x ∷ xs) at zero h = h.0
    lawful_row (x ∷ xs) at (suc i) h = lawful_row xs (at + (piece x).len) i h.2

    pub run_of_rows : (xs : List X) (at : ℕ) → (piece (get_or xs 0 last)).offset ≡ at
        → ((i : ℕ) → (piece (get_or xs (i + 1) last)).offset ≡ (piece (get_or xs i last)).offset + (piece (get_or xs i last)).len)
        → ((i : ℕ) → (piece (get_or xs i last)).lawful ≡ true)
        → Run piece at xs n
    run_of_rows [] at a b d = sym a ∙ ends
    run_of_rows (x ∷ xs) at a b d = (
      d 0,
      a,
      run_of_rows xs (at + (piece x).len) (b 0 ∙ ap (λ k. k + (piece x).len) a)
          (λ i. rw add-one (rw add-one at (b (suc i)))) (λ i. d (suc i)),
    )
