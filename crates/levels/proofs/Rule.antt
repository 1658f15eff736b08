-- The characters that the scan resets are those of rule L1, and where X9 removed them those in an open run that is reset.
use Rattle.std.proofs.Common.{◌≡◌, ℕ, zero, suc, ◌-◌, ◌<◌, ◌≤◌, Bool, true, false, ◌&&◌, ◌⊎◌, List, [], ◌∷◌, length, get_or, drop, Decides, sym, refl, ap, ◌∙◌, subst, inl, inr, arith}
use Rattle.std.proofs.lemmas.Bool.Decides.{Decides-at, Decides-like, Decides-and}
use Rattle.std.proofs.lemmas.Bool.{false≢true}
use Rattle.levels.specs.Classes.{Role, separator, space, removed, other}
use Rattle.levels.specs.RuleL1.{role_at, InRun, Trailing, ResetByL1, Begun, FromStart, ResetWithRun, runs_out, resets, reset_at}

-- one role is not another
separator≢space : separator ≡ space → ⊥
separator≢space e = let z : ◌≡◌ {A = ℕ} 0 1 = cc in omega arith

separator≢removed : separator ≡ removed → ⊥
separator≢removed e = let z : ◌≡◌ {A = ℕ} 0 1 = cc in omega arith

removed≢space : removed ≡ space → ⊥
removed≢space e = let z : ◌≡◌ {A = ℕ} 0 1 = cc in omega arith

other≢separator : other ≡ separator → ⊥
other≢separator e = let z : ◌≡◌ {A = ℕ} 0 1 = cc in omega arith

other≢space : other ≡ space → ⊥
other≢space e = let z : ◌≡◌ {A = ℕ} 0 1 = cc in omega arith

other≢removed : other ≡ removed → ⊥
other≢removed e = let z : ◌≡◌ {A = ℕ} 0 1 = cc in omega arith

outside_separator : (line : List Role) → InRun (separator ∷ line) 0 → ⊥
outside_separator line r = elim r [ inl e ↦ separator≢space e | inr e ↦ separator≢removed e ]

outside_other : (line : List Role) → InRun (other ∷ line) 0 → ⊥
outside_other line r = elim r [ inl e ↦ other≢space e | inr e ↦ other≢removed e ]

-- A RUN THAT COMES TO A SEPARATOR OR THE END

module _ (x : Role) (line : List Role) where
  later : (k : ℕ) → Trailing line k → Trailing (x ∷ line) (suc k)
  later k t =
      record {
        end = suc t.end;
        from = omega arith;
        within = omega arith;
        ended = elim t.ended [ inl e ↦ inl (ap suc e) | inr e ↦ inr e ];
        between = between';
      }
    where
      between' : (j : ℕ) → suc k ≤ j → j < suc t.end → InRun (x ∷ line) j
      between' zero h l = absurd (omega arith)
      between' (suc j) h l = t.between j (omega arith) (omega arith)

  earlier : (k : ℕ) → Trailing (x ∷ line) (suc k) → Trailing line k
  earlier k t =
      let e : t.end ≡ suc (t.end - 1) = omega (arith, t.from) in
      record {
        end = t.end - 1;
        from = omega (arith, t.from);
        within = omega (arith, t.within, t.from);
        ended = elim t.ended [ inl l ↦ inl (omega arith) | inr s ↦ inr (subst (λ n. role_at (x ∷ line) n ≡ separator) e s) ];
        between = λ j h l. t.between (suc j) (omega arith) (omega arith);
      }

  -- a run goes on at its head
  longer : InRun (x ∷ line) 0 → Trailing line 0 → Trailing (x ∷ line) 0
  longer r t =
      record {
        end = suc t.end;
        from = omega arith;
        within = omega arith;
        ended = elim t.ended [ inl e ↦ inl (ap suc e) | inr e ↦ inr e ];
        between = between';
      }
    where
      between' : (j : ℕ) → 0 ≤ j → j < suc t.end → InRun (x ∷ line) j
      between' zero h l = r
      between' (suc j) h l = t.between j (omega arith) (omega arith)

  -- and what is left of it without its head
  shorter : (x ≡ separator → ⊥) → Trailing (x ∷ line) 0 → Trailing line 0
  shorter no_end t = by_end t.end t.within t.ended t.between
    where
      by_end : (n : ℕ) → n ≤ suc (length line) → (n ≡ suc (length line)) ⊎ (role_at (x ∷ line) n ≡ separator) → ((j : ℕ) → 0 ≤ j → j < n → InRun (x ∷ line) j) → Trailing line 0
      by_end zero w (inl e) b = absurd (omega arith)
      by_end zero w (inr e) b = absurd (no_end e)
      by_end (suc n) w e b =
          record {
            end = n;
            from = omega arith;
            within = omega arith;
            ended = elim e [ inl l ↦ inl (omega arith) | inr s ↦ inr s ];
            between = λ j h l. b (suc j) (omega arith) (omega arith);
          }

no_run : (line : List Role) → Trailing (other ∷ line) 0 → ⊥
no_run line t = by_end t.end t.ended t.between
  where
    by_end : (n : ℕ) → (n ≡ suc (length line)) ⊎ (role_at (other ∷ line) n ≡ separator) → ((j : ℕ) → 0 ≤ j → j < n → InRun (other ∷ line) j) → ⊥
    by_end zero (inl e) b = omega arith
    by_end zero (inr e) b = other≢separator e
    by_end (suc n) e b = outside_other line (b 0 (omega arith) (omega arith))

trails_here : (line : List Role) → Decides (runs_out line) (Trailing line 0)
trails_here [] = (λ e. record { end = 0; from = omega arith; within = omega arith; ended = inl refl; between = λ j h l. absurd (omega arith) }, λ t. refl)
trails_here (separator ∷ line) = (λ e. record { end = 0; from = omega arith; within = omega arith; ended = inr refl; between = λ j h l. absurd (omega arith) }, λ t. refl)
trails_here (space ∷ line) = Decides-like (runs_out line) (longer space line (inl refl)) (shorter space line (λ e. separator≢space (sym e))) (trails_here line)
trails_here (removed ∷ line) = Decides-like (runs_out line) (longer removed line (inr refl)) (shorter removed line (λ e. separator≢removed (sym e))) (trails_here line)
trails_here (other ∷ line) = (λ e. absurd (false≢true e), λ t. absurd (no_run line t))

trails : (line : List Role) (k : ℕ) → k ≤ length line → Decides (runs_out (drop k line)) (Trailing line k)
trails line zero h = trails_here line
trails [] (suc k) h = absurd (omega arith)
trails (x ∷ line) (suc k) h = Decides-like (runs_out (drop k line)) (later x line k) (earlier x line k) (trails line k (omega arith))

-- A RUN THAT STANDS OPEN

-- whether one stands open before the character k
abbrev run_at : Bool → List Role → ℕ → Bool
run_at run line zero = run
run_at run [] (suc k) = run
run_at run (separator ∷ line) (suc k) = run_at false line k
run_at run (space ∷ line) (suc k) = run_at true line k
run_at run (removed ∷ line) (suc k) = run_at run line k
run_at run (other ∷ line) (suc k) = run_at false line k

abbrev Stands : Bool → List Role → ℕ → Type 0
Stands run line k = ((run ≡ true) × FromStart line k) ⊎ Begun line k

module _ (x : Role) (line : List Role) (k : ℕ) where
  begun_later : Begun line k → Begun (x ∷ line) (suc k)
  begun_later b = record { start = suc b.start; before = omega (arith, b.before); begins = b.begins; between = between' }
    where
      between' : (j : ℕ) → suc b.start < j → j < suc k → InRun (x ∷ line) j
      between' zero h l = absurd (omega arith)
      between' (suc j) h l = b.between j (omega arith) (omega arith)

  begun_cases : Begun (x ∷ line) (suc k) → ((x ≡ space) × FromStart line k) ⊎ Begun line k
  begun_cases b = by_start b.start b.before b.begins b.between
    where
      by_start : (s : ℕ) → s < suc k → role_at (x ∷ line) s ≡ space → ((j : ℕ) → s < j → j < suc k → InRun (x ∷ line) j) → ((x ≡ space) × FromStart line k) ⊎ Begun line k
      by_start zero h e b = inl (e, λ j l. b (suc j) (omega arith) (omega arith))
      by_start (suc s) h e b = inr (record { start = s; before = omega arith; begins = e; between = λ j l m. b (suc j) (omega arith) (omega arith) })

  -- a character that shuts a run: one that begins after it is all there can be
  shuts : (run : Bool) → (InRun (x ∷ line) 0 → ⊥) → (x ≡ space → ⊥) → Decides (run_at false line k) (Stands false line k) → Decides (run_at false line k) (Stands run (x ∷ line) (suc k))
  shuts run out unlike d =
      Decides-like (run_at false line k)
      (λ s. elim s [ inl p ↦ absurd (false≢true p.0) | inr b ↦ inr (begun_later b) ])
      (λ s. elim s [ inl p ↦ absurd (out (p.1 0 (omega arith))) | inr b ↦ elim (begun_cases b) [ inl q ↦ absurd (unlike q.0) | inr c ↦ inr c ] ])
      d

stands : (run : Bool) (line : List Role) (k : ℕ) → k ≤ length line → Decides (run_at run line k) (Stands run line k)
stands run line zero h = (λ e. inl (e, λ j l. absurd (omega arith)), λ s. elim s [ inl p ↦ p.0 | inr b ↦ absurd (omega (arith, b.before)) ])
stands run [] (suc k) h = absurd (omega arith)
stands run (separator ∷ line) (suc k) h = shuts separator line k run (outside_separator line) separator≢space (stands false line k (omega arith))
stands run (space ∷ line) (suc k) h =
    Decides-like (run_at true line k)
    (λ s. elim s [ inl p ↦ inr (record { start = 0; before = omega arith; begins = refl; between = after_first p.1 }) | inr b ↦ inr (begun_later space line k b) ])
    (λ s. elim s [ inl p ↦ inl (refl, λ j l. p.1 (suc j) (omega arith)) | inr b ↦ elim (begun_cases space line k b) [ inl q ↦ inl (refl, q.1) | inr c ↦ inr c ] ])
    (stands true line k (omega arith))
  where
    after_first : FromStart line k → (j : ℕ) → 0 < j → j < suc k → InRun (space ∷ line) j
    after_first f zero l m = absurd (omega arith)
    after_first f (suc j) l m = f j (omega arith)
stands run (removed ∷ line) (suc k) h =
    Decides-like (run_at run line k)
    (λ s. elim s [ inl p ↦ inl (p.0, with_first p.1) | inr b ↦ inr (begun_later removed line k b) ])
    (λ s. elim s [ inl p ↦ inl (p.0, λ j l. p.1 (suc j) (omega arith)) | inr b ↦ elim (begun_cases removed line k b) [ inl q ↦ absurd (removed≢space q.0) | inr c ↦ inr c ] ])
    (stands run line k (omega arith))
  where
    with_first : FromStart line k → (j : ℕ) → j < suc k → InRun (removed ∷ line) j
    with_first f zero l = inr refl
    with_first f (suc j) l = f j (omega arith)
stands run (other ∷ line) (suc k) h = shuts other line k run (outside_other line) other≢space (stands false line k (omega arith))

-- EACH CHARACTER

abbrev told : Role → Bool → Bool → Bool
told separator run out = true
told space run out = out
told removed run out = run && out
told other run out = false

told_at : (run : Bool) (line : List Role) (k : ℕ) → get_or (resets run line) k false ≡ told (role_at line k) (run_at run line k) (runs_out (drop (suc k) line))
told_at run [] k = refl
told_at run (separator ∷ line) zero = refl
told_at run (space ∷ line) zero = refl
told_at run (removed ∷ line) zero = refl
told_at run (other ∷ line) zero = refl
told_at run (separator ∷ line) (suc k) = told_at false line k
told_at run (space ∷ line) (suc k) = told_at true line k
told_at run (removed ∷ line) (suc k) = told_at run line k
told_at run (other ∷ line) (suc k) = told_at false line k

module _ (line : List Role) (k : ℕ) (inside : k < length line) where
  by_L1 : (role : Role) → role_at line k ≡ role → (role ≡ removed → ⊥) → Decides (told role (run_at true line k) (runs_out (drop (suc k) line))) (ResetByL1 line k)
  by_L1 separator e stays = (λ _. inl e, λ _. refl)
  by_L1 space e stays =
      let t = trails line (suc k) (omega arith) in
      (λ h. inr (e, t.0 h), λ r. elim r [ inl s ↦ absurd (separator≢space (sym s ∙ e)) | inr p ↦ t.1 p.1 ])
  by_L1 removed e stays = absurd (stays refl)
  by_L1 other e stays =
      (λ h. absurd (false≢true h), λ r. elim r [ inl s ↦ absurd (other≢separator (sym e ∙ s)) | inr p ↦ absurd (other≢space (sym e ∙ p.0)) ])

  pub kept_by_L1 : (role_at line k ≡ removed → ⊥) → Decides (reset_at line k) (ResetByL1 line k)
  kept_by_L1 stays = Decides-at _ _ (told_at true line k) (by_L1 (role_at line k) refl stays)

  pub removed_with_run : role_at line k ≡ removed → Decides (reset_at line k) (ResetWithRun line k)
  removed_with_run e =
      Decides-at _ _ (told_at true line k ∙ ap (λ r. told r (run_at true line k) (runs_out (drop (suc k) line))) e)
      (Decides-and _ _
      (Decides-like _ (λ s. elim s [ inl p ↦ inl p.1 | inr b ↦ inr b ]) (λ s. elim s [ inl f ↦ inl (refl, f) | inr b ↦ inr b ]) (stands true line k (omega arith)))
      (trails line (suc k) (omega arith)))
