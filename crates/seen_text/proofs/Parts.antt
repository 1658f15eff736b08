-- Bytes in parts, between which a mark stands
use Rattle.std.proofs.Common.{◌≡◌, ℕ, ◌<◌, Bool, true, false, cond, eqb, List, [], ◌∷◌, ◌++◌, map, length, get_or, Some, None, Option, Bor, MatchBool, is_some, option_to_list, unwrap_or, sym, refl, ap, ◌∙◌, subst, append_assoc, append-nil, arith, length-append}
use denote.Param.Members.{Mut}
use Rattle.std.proofs.ByRecursion.{All-push}
use Rattle.std.proofs.lemmas.Bool.{eq-eqb, ne_eqb}
use Rattle.std.proofs.lemmas.Grind.{common_steps}
use Rattle.std.proofs.lemmas.List.{append_cancel_left, map-append}
use Rattle.std.proofs.lemmas.List.Splits.{slice_split_at, slice_split_none}
use Rattle.std.specs.Fn.{ComputesKey}
use Rattle.std.specs.List.{All, AllByRecursion, flat_map, IsFirstMatchOrLen, join_with_byte, slice_split}
use Rattle.std.specs.Option.{option_map}
use Rattle.std.specs.Slice.Iter.{split_callee, split_done, split_rest, split_steps}
use Rattle.std.specs.declared.slice.Split.{Split}
use Rattle.seen_text.specs.Format.{Lacks}

abbrev pub parts : ℕ → List ℕ → List (List ℕ)
parts mark bytes = slice_split (λ b. eqb b mark) bytes

-- the parts that a split has still to give
abbrev pub left : {F : Type 0} → ℕ → Split ℕ F → List (List ℕ)
left mark s = cond (split_done s) [] (parts mark (split_rest s))

first_part : (p : ℕ → Bool) (bytes part rest : List ℕ) (done : Bool) → MatchBool done (bytes ≡ part) ((b : ℕ) × (bytes ≡ part ++ (b ∷ rest))) → IsFirstMatchOrLen p bytes (length part) → slice_split p bytes ≡ part ∷ cond done [] (slice_split p rest)
first_part p bytes part rest true e h = ap (slice_split p) e ∙ slice_split_none p part (λ k d l. subst (λ (bs : List ℕ). p (get_or bs k d) ≡ false) e (h.0 k d (omega arith) l))
first_part p bytes part rest false e h =
    let front : All (λ b. p b ≡ false) part = λ k d l. let a = h.0 k d (omega arith) l in let b = e.1 in grind (arith, common_steps) in
    let hit : p e.0 ≡ true = let b = e.1 in let a = h.1 (grind (arith, common_steps)) e.0 in grind (arith, common_steps) in
    ap (slice_split p) e.1 ∙ slice_split_at p part e.0 rest front hit

-- a split at the mark gives no part at its end
pub no_part : {F : Type 0} (s : Split ℕ F) (mark : ℕ) → split_done s ≡ true → left mark s ≡ []
no_part s mark ended = ap (λ (d : Bool). cond d [] (parts mark (split_rest s))) ended

-- and the next part before
module _ {F : Type 0} (g : Mut F (Bor ℕ × Unit {0}) Bool) (s t : Split ℕ F) (mark : ℕ) where
  pub next_part : (part : Bor (List ℕ)) → ComputesKey g (λ b. eqb b mark) (split_callee s) → split_steps g s (Some part) t → left mark s ≡ part.now ∷ left mark t
  next_part part computes steps =
      ap (λ (d : Bool). cond d [] (parts mark (split_rest s))) steps.0
      ∙ first_part (λ b. eqb b mark) (split_rest s) part.now (split_rest t) (split_done t) steps.1 (steps.2 (λ b. eqb b mark) computes).1

  -- one that has just begun gives the first
  pub begun_at : (bytes : List ℕ) (r : Option (Bor (List ℕ))) (d : Bor (List ℕ)) → split_rest s ≡ bytes → split_done s ≡ false → ComputesKey g (λ b. eqb b mark) (split_callee s) → split_steps g s r t → parts mark bytes ≡ (unwrap_or r d).now ∷ left mark t
  begun_at bytes None d rest on computes off = let both : false ≡ true = sym on ∙ off.0 in absurd cc
  begun_at bytes (Some part) d rest on computes steps =
      ap (parts mark) (sym rest) ∙ ap (λ (d : Bool). cond d [] (parts mark (split_rest s))) (sym on) ∙ next_part part computes steps

-- one that is asked twice: it ends within the first, or goes on behind it
module _ {F : Type 0} (g : Mut F (Bor ℕ × Unit {0}) Bool) (s t u : Split ℕ F) (mark : ℕ) where
  pub ends : (r more : Option (Bor (List ℕ))) → ComputesKey g (λ b. eqb b mark) (split_callee s) → split_steps g s r t → split_steps g t more u → false ≡ is_some more → left mark s ≡ option_to_list (option_map (λ x. x.now) r)
  ends None more computes off steps none = no_part s mark off.0
  ends (Some part) None computes on off none = next_part g s t mark part computes on ∙ ap (λ (ps : List (List ℕ)). part.now ∷ ps) (no_part t mark off.0)
  ends (Some part) (Some other) computes on steps none = absurd cc

  pub goes_on : (r more : Option (Bor (List ℕ))) → ComputesKey g (λ b. eqb b mark) (split_callee s) → ComputesKey g (λ b. eqb b mark) (split_callee t) → split_steps g s r t → split_steps g t more u → true ≡ is_some more → 1 < length (left mark s)
  goes_on r None computes and_then steps off some = absurd cc
  goes_on None (Some other) computes and_then off steps some = let both : true ≡ false = sym off.0 ∙ sym (ap split_done off.1) ∙ steps.0 in absurd cc
  goes_on (Some part) (Some other) computes and_then on steps some = omega (arith, ap length (next_part g s t mark part computes on), ap length (next_part g t u mark other and_then steps))

pub lacking : (mark : ℕ) (part : List ℕ) → Lacks mark part → All (λ b. eqb b mark ≡ false) part
lacking mark part lacks = λ k d l. let here : get_or part k d ≡ get_or part k 0 = grind (arith, common_steps) in ap (λ (b : ℕ). eqb b mark) here ∙ ne_eqb (get_or part k 0) mark (lacks k l)

-- words of good items, which have no mark, behind a first word
module _ {X : Type 0} (mark : ℕ) (spell : X → List ℕ) (Good : X → Type 0) (plain : (x : X) → Good x → Lacks mark (spell x)) where
  pub parts_are : (first : List ℕ) (xs : List X) → Lacks mark first → AllByRecursion Good xs → parts mark (first ++ flat_map (λ x. mark ∷ spell x) xs) ≡ first ∷ map spell xs
  parts_are first [] lacks good = ap (parts mark) (append-nil first) ∙ slice_split_none (λ b. eqb b mark) first (lacking mark first lacks)
  parts_are first (x ∷ xs) lacks good =
      slice_split_at (λ b. eqb b mark) first mark (spell x ++ flat_map (λ y. mark ∷ spell y) xs) (lacking mark first lacks) (eq-eqb mark mark refl)
      ∙ ap (λ (t : List (List ℕ)). first ∷ t) (parts_are (spell x) xs (plain x good.0) good.1)

module _ {X : Type 0} (spell : X → List ℕ) (Good : X → Type 0) where
  -- a part is the word of an item
  pub a_word : (front rest : List (List ℕ)) (word : List ℕ) (xs : List X) → AllByRecursion Good xs → map spell xs ≡ front ++ (word ∷ rest) → (x : X) × Good x × (word ≡ spell x)
  a_word front rest word [] good is = absurd (omega (arith, ap length is, length-append front (word ∷ rest)))
  a_word [] rest word (x ∷ xs) good is = let same : word ≡ spell x = cc in (x, good.0, same)
  a_word (w ∷ front) rest word (x ∷ xs) good is = let same : map spell xs ≡ front ++ (word ∷ rest) = cc in a_word front rest word xs good.1 same

  -- words are of one list of items
  pub one_list : ((x y : X) → Good x → Good y → spell x ≡ spell y → x ≡ y) → (xs ys : List X) → AllByRecursion Good xs → AllByRecursion Good ys → map spell xs ≡ map spell ys → xs ≡ ys
  one_list apart [] [] a b e = refl
  one_list apart [] (y ∷ ys) a b e = absurd (omega (arith, ap length e))
  one_list apart (x ∷ xs) [] a b e = absurd (omega (arith, ap length e))
  one_list apart (x ∷ xs) (y ∷ ys) a b e =
      let first : spell x ≡ spell y = cc in
      let others : map spell xs ≡ map spell ys = cc in
      ap (λ (z : X). z ∷ xs) (apart x y a.0 b.0 first) ∙ ap (λ (t : List X). y ∷ t) (one_list apart xs ys a.1 b.1 others)

-- the parts joined
pub joined : {X : Type 0} (mark : ℕ) (spell : X → List ℕ) (first : List ℕ) (xs : List X) → join_with_byte mark (first ∷ map spell xs) ≡ first ++ flat_map (λ x. mark ∷ spell x) xs
joined mark spell first [] = sym (append-nil first)
joined mark spell first (x ∷ xs) = ap (λ (t : List ℕ). first ++ (mark ∷ t)) (joined mark spell (spell x) xs)

-- Where the reader of a line stands: behind the parts of `front` it has read these items, and `rest` is what it has yet to read
pub record Read {X : Type 0} (mark : ℕ) (spell : X → List ℕ) (Good : X → Type 0) (front : List (List ℕ)) (line : List ℕ) (items : List X) (rest : List (List ℕ)) : Type 0 where
  pub good : AllByRecursion Good items
  pub done : parts mark line ≡ (front ++ map spell items) ++ rest

module _ {X : Type 0} (mark : ℕ) (spell : X → List ℕ) (Good : X → Type 0) where
  pub read_none : (front rest : List (List ℕ)) (line : List ℕ) (items : List X) → items ≡ [] → parts mark line ≡ front ++ rest → Read mark spell Good front line items rest
  read_none front rest line items none is =
      record {
        good = subst (AllByRecursion Good) (sym none) tt;
        done = is ∙ ap (λ (t : List (List ℕ)). t ++ rest) (sym (append-nil front) ∙ ap (λ (t : List X). front ++ map spell t) (sym none));
      }

  module _ {front rest : List (List ℕ)} {line : List ℕ} {items : List X} (old : Read mark spell Good front line items rest) where
    pub read_all : rest ≡ [] → parts mark line ≡ front ++ map spell items
    read_all none = old.done ∙ ap (λ (t : List (List ℕ)). (front ++ map spell items) ++ t) none ∙ append-nil (front ++ map spell items)

    -- the next part
    module _ (word : List ℕ) (more : List (List ℕ)) (next : rest ≡ word ∷ more) where
      pub read_more : (x : X) (after : List X) → Good x → word ≡ spell x → after ≡ items ++ (x ∷ []) → Read mark spell Good front line after more
      read_more x after good is after_is =
          record {
            good = subst (AllByRecursion Good) (sym after_is) (All-push Good items x old.good good);
            done = old.done ∙ ap (λ (t : List (List ℕ)). (front ++ map spell items) ++ t) (next ∙ ap (λ (w : List ℕ). w ∷ more) is) ∙ sym (append_assoc (front ++ map spell items) (spell x ∷ []) more) ∙ ap (λ (t : List (List ℕ)). t ++ more) (append_assoc front (map spell items) (spell x ∷ []) ∙ ap (λ (t : List (List ℕ)). front ++ t) (sym (map-append spell items (x ∷ [])) ∙ ap (map spell) (sym after_is)));
          }

      -- where the parts are words of items, so is this one
      pub next_word : (others : List X) → AllByRecursion Good others → parts mark line ≡ front ++ map spell others → (x : X) × Good x × (word ≡ spell x)
      next_word others good is =
          a_word spell Good (map spell items) more word others good
          (append_cancel_left front (map spell others) (map spell items ++ (word ∷ more)) (sym is ∙ old.done ∙ append_assoc front (map spell items) rest ∙ ap (λ (t : List (List ℕ)). front ++ (map spell items ++ t)) next))
