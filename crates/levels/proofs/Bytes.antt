-- The bytes of a line whose characters are reset or not.
use Rattle.std.proofs.Common.{◌≡◌, ℕ, zero, suc, ◌+◌, ◌-◌, ◌<◌, ◌≤◌, Bool, true, false, cond, List, [], ◌∷◌, length, get_or, take, drop, replicate, sum, sym, refl, ap, ◌∙◌, inl, inr, arith, length-append, length-drop}
use lib.ListN.{length-replicate}
use Rattle.std.proofs.lemmas.List.{get_or_append_left, get_or-append_right, get_or-replicate, get_or-take, get_or-drop, length-take-le, length-map}
use Rattle.std.proofs.lemmas.List.Sums.{sum_by-cons}
use Rattle.std.proofs.lemmas.Bool.{cases_lt}
use Rattle.levels.specs.Classes.{Role, separator, space, removed, other, role_of, class_of}
use Rattle.levels.specs.Refusals.{Fit}
use Rattle.levels.specs.RuleL1.{roles_of, resets, reset_at, releveled, adjusted, ByteOf, Leveled}
use Rattle.levels.proofs.Rule.{kept_by_L1, removed_with_run}

-- the bytes of one character
module _ (level n : ℕ) (xs : List ℕ) (room : n ≤ length xs) where
  own_length : (reset : Bool) → length (cond reset (replicate n level) (take n xs)) ≡ n
  own_length true = length-replicate n level
  own_length false = length-take-le n xs room

  own_byte : (reset : Bool) (b : ℕ) → b < n → get_or (cond reset (replicate n level) (take n xs)) b 0 ≡ cond reset level (get_or xs b 0)
  own_byte true b h = get_or-replicate n b level 0 h
  own_byte false b h = get_or-take n xs b 0 h

sum_cons : (n : ℕ) (ns : List ℕ) → sum (n ∷ ns) ≡ n + sum ns
sum_cons n ns = sum_by-cons (λ x. x) n ns

bytes_of : (level : ℕ) (flags : List Bool) (lengths xs : List ℕ) (k b : ℕ) → length flags ≡ length lengths → sum lengths ≤ length xs → k < length flags → sum (take k lengths) ≤ b → b < sum (take k lengths) + get_or lengths k 0 → get_or (releveled level flags lengths xs) b 0 ≡ cond (get_or flags k false) level (get_or xs b 0)
bytes_of level [] lengths xs k b same room h low high = absurd (omega arith)
bytes_of level (f ∷ flags) [] xs k b same room h low high = absurd (omega arith)
bytes_of level (f ∷ flags) (n ∷ lengths) xs zero b same room h low high =
    let fits : n ≤ length xs = omega (arith, sum_cons n lengths) in
    let here : b < n = omega arith in
    get_or_append_left (cond f (replicate n level) (take n xs)) (releveled level flags lengths (drop n xs)) 0 b (omega (arith, own_length level n xs fits f))
    ∙ own_byte level n xs fits f b here
bytes_of level (f ∷ flags) (n ∷ lengths) xs (suc k) b same room h low high =
    let fits : n ≤ length xs = omega (arith, sum_cons n lengths) in
    let past : n ≤ b = omega (arith, sum_cons n (take k lengths)) in
    let back : n + (b - n) ≡ b = omega arith in
    get_or-append_right (cond f (replicate n level) (take n xs)) (releveled level flags lengths (drop n xs)) n b 0 (own_length level n xs fits f) past
    ∙ bytes_of level flags lengths (drop n xs) k (b - n) (omega arith) (omega (arith, sum_cons n lengths, length-drop n xs)) (omega arith) (omega (arith, sum_cons n (take k lengths))) (omega (arith, sum_cons n (take k lengths)))
    ∙ ap (λ x. cond (get_or flags k false) level x) (get_or-drop n xs (b - n) 0 ∙ ap (λ i. get_or xs i 0) back)

same_length : (level : ℕ) (flags : List Bool) (lengths xs : List ℕ) → sum lengths ≤ length xs → length (releveled level flags lengths xs) ≡ length xs
same_length level [] lengths xs room = refl
same_length level (f ∷ flags) [] xs room = refl
same_length level (f ∷ flags) (n ∷ lengths) xs room =
    let fits : n ≤ length xs = omega (arith, sum_cons n lengths) in
    omega (arith, length-append (cond f (replicate n level) (take n xs)) (releveled level flags lengths (drop n xs)), own_length level n xs fits f, length-drop n xs, same_length level flags lengths (drop n xs) (omega (arith, sum_cons n lengths, length-drop n xs)))

-- each byte belongs to a character
owner : (lengths : List ℕ) (b : ℕ) → b < sum lengths → (k : ℕ) × (k < length lengths) × ByteOf lengths k b
owner [] b h = absurd (omega arith)
owner (n ∷ lengths) b h =
    elim (cases_lt b n) [
      | inl l ↦ (0, omega arith, record { from = omega arith; to = omega arith })
      | inr l ↦
          let o = owner lengths (b - n) (omega (arith, sum_cons n lengths)) in
          (suc o.0, omega (arith, o.1), record { from = omega (arith, o.2.from, sum_cons n (take o.0 lengths)); to = omega (arith, o.2.to, sum_cons n (take o.0 lengths)) })
    ]

resets_length : (run : Bool) (line : List Role) → length (resets run line) ≡ length line
resets_length run [] = refl
resets_length run (separator ∷ line) = ap suc (resets_length false line)
resets_length run (space ∷ line) = ap suc (resets_length true line)
resets_length run (removed ∷ line) = ap suc (resets_length run line)
resets_length run (other ∷ line) = ap suc (resets_length false line)

-- what the levels of a whole line are after L1
module _ (level : ℕ) (codes lengths old : List ℕ) (fit : Fit level codes lengths old) where
  in_line : length (roles_of codes) ≡ length lengths
  in_line = length-map codes (λ code. role_of (class_of code)) ∙ fit.same

  bytes_at : (k b : ℕ) → k < length (roles_of codes) → ByteOf lengths k b → get_or (adjusted level codes lengths old) b 0 ≡ cond (reset_at (roles_of codes) k) level (get_or old b 0)
  bytes_at k b h o =
      bytes_of level (resets true (roles_of codes)) lengths old k b (resets_length true (roles_of codes) ∙ in_line) (omega (arith, fit.filled)) (omega (arith, resets_length true (roles_of codes))) o.from o.to

  pub leveled : Leveled level (roles_of codes) lengths old (adjusted level codes lengths old)
  leveled =
      record {
        kept = kept_by_L1 (roles_of codes);
        gone = removed_with_run (roles_of codes);
        bytes = bytes_at;
        agree = λ k b d h o p e. bytes_at k b h o ∙ ap (λ x. cond (reset_at (roles_of codes) k) level x) e ∙ sym (bytes_at k d h p);
        covered = λ b h. (let o = owner lengths b (omega (arith, fit.filled)) in (o.0, omega (arith, o.1, in_line), o.2));
        long = same_length level (resets true (roles_of codes)) lengths old (omega (arith, fit.filled));
      }
