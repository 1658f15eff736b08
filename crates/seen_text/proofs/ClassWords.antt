-- A line of classes: the paragraph's level, and the names of the classes
use Rattle.std.proofs.Common.{◌≡◌, ℕ, zero, suc, ◌<◌, ◌≤◌, Bool, true, false, cond, ◌&&◌, eqb, leb, List, [], ◌∷◌, ◌++◌, map, length, get_or, Some, None, IsUtf8, decimal, Option, sym, refl, ap, ◌∙◌, subst, ap₂, arith}
use Rattle.std.specs.List.{join_with_byte, AllByRecursion as All}
use Rattle.std.proofs.lemmas.List.Splits.{join_with_byte-slice_split}
use Rattle.std.proofs.lemmas.Bool.{and_parts, leb-true}
use Rattle.std.proofs.lemmas.Str.{IsUtf8-from_ascii}
use Rattle.levels.specs.Classes.{name_of}
use Rattle.levels.specs.declared.classes.BidiClass.{BidiClass}
use Rattle.levels.specs.declared.classes.BidiClass.TheVariants.{L, R, AL, EN, ES, ET, AN, CS, NSM, BN, B, S, WS, ON, LRE, LRO, RLE, RLO, PDF, LRI, RLI, FSI, PDI}
use Rattle.seen_text.specs.Classes.{Lawful, Resets, resets_line}
use Rattle.seen_text.specs.Format.{Lacks}
use Rattle.seen_text.proofs.LevelWords.{apart, no_space}
use Rattle.seen_text.proofs.Parts.{joined, one_list, parts, parts_are}

-- NAMES

-- all classes
abbrev every : List BidiClass
every = L ∷ R ∷ AL ∷ EN ∷ ES ∷ ET ∷ AN ∷ CS ∷ NSM ∷ BN ∷ B ∷ S ∷ WS ∷ ON ∷ LRE ∷ LRO ∷ RLE ∷ RLO ∷ PDF ∷ LRI ∷ RLI ∷ FSI ∷ PDI ∷ []

abbrev same : List ℕ → List ℕ → Bool
same [] [] = true
same [] (y ∷ ys) = false
same (x ∷ xs) [] = false
same (x ∷ xs) (y ∷ ys) = eqb x y && same xs ys

-- the first class with this name
abbrev first_named : List ℕ → List BidiClass → Option BidiClass
first_named name [] = None
first_named name (class ∷ classes) = cond (same name (name_of class)) (Some class) (first_named name classes)

-- a name is of capital letters
abbrev capitals : List ℕ → Bool
capitals [] = true
capitals (b ∷ bs) = (leb 65 b && leb b 90) && capitals bs

told : (class : BidiClass) → (first_named (name_of class) every ≡ Some class) × (capitals (name_of class) ≡ true)
told L = (refl, refl)
told R = (refl, refl)
told AL = (refl, refl)
told EN = (refl, refl)
told ES = (refl, refl)
told ET = (refl, refl)
told AN = (refl, refl)
told CS = (refl, refl)
told NSM = (refl, refl)
told BN = (refl, refl)
told B = (refl, refl)
told S = (refl, refl)
told WS = (refl, refl)
told ON = (refl, refl)
told LRE = (refl, refl)
told LRO = (refl, refl)
told RLE = (refl, refl)
told RLO = (refl, refl)
told PDF = (refl, refl)
told LRI = (refl, refl)
told RLI = (refl, refl)
told FSI = (refl, refl)
told PDI = (refl, refl)

-- each word names a class, of which nothing more is asked
abbrev pub Any : BidiClass → Type 0
Any class = Unit {0}

pub names_apart : (class other : BidiClass) → Any class → Any other → name_of class ≡ name_of other → class ≡ other
names_apart class other _ _ e = cc ((told class).0, (told other).0, ap (λ (name : List ℕ). first_named name every) e)

capital_at : (bs : List ℕ) (i : ℕ) → capitals bs ≡ true → i < length bs → (65 ≤ get_or bs i 0) × (get_or bs i 0 ≤ 90)
capital_at [] i c l = absurd (omega arith)
capital_at (b ∷ bs) zero c l =
    let both = and_parts (leb 65 b) (leb b 90) (and_parts (leb 65 b && leb b 90) (capitals bs) c).0 in
    (leb-true 65 b both.0, leb-true b 90 both.1)
capital_at (b ∷ bs) (suc i) c l = capital_at bs i (and_parts (leb 65 b && leb b 90) (capitals bs) c).1 (omega arith)

ascii : (bs : List ℕ) → capitals bs ≡ true → (i : ℕ) → get_or bs i 0 < 128
ascii [] c i = omega arith
ascii (b ∷ bs) c zero = omega (arith, capital_at (b ∷ bs) 0 c (omega arith))
ascii (b ∷ bs) c (suc i) = ascii bs (and_parts (leb 65 b && leb b 90) (capitals bs) c).1 i

pub name_plain : (class : BidiClass) → Any class → Lacks 32 (name_of class)
name_plain class _ p l e = omega (arith, capital_at (name_of class) p (told class).1 l)

pub name_utf8 : (word : List ℕ) (class : BidiClass) → word ≡ name_of class → IsUtf8 word
name_utf8 word class is = subst IsUtf8 (sym is) (IsUtf8-from_ascii (name_of class) (ascii (name_of class) (told class).1))

-- THE LINE

pub all_any : (classes : List BidiClass) → All Any classes
all_any [] = tt
all_any (class ∷ classes) = (tt, all_any classes)

-- the words of the line
pub line_parts : (line : List ℕ) (resets : Resets) → Lawful resets → line ≡ resets_line resets → parts 32 line ≡ (decimal resets.paragraph ∷ []) ++ map name_of resets.classes
line_parts line resets lawful is = ap (parts 32) is ∙ parts_are 32 name_of Any name_plain (decimal resets.paragraph) resets.classes (no_space resets.paragraph (omega arith)) (all_any resets.classes)

pub line_so : (line : List ℕ) (paragraph : ℕ) (classes : List BidiClass) → parts 32 line ≡ (decimal paragraph ∷ []) ++ map name_of classes → line ≡ resets_line (record { paragraph = paragraph; classes = classes })
line_so line paragraph classes e = sym (join_with_byte-slice_split 32 line) ∙ ap (join_with_byte 32) e ∙ joined 32 name_of (decimal paragraph) classes

-- the first word writes the paragraph's level of any resets that the line says
pub first_word : (line word : List ℕ) (more : List (List ℕ)) → parts 32 line ≡ word ∷ more → (resets : Resets) → Lawful resets → line ≡ resets_line resets → word ≡ decimal resets.paragraph
first_word line word more is resets lawful says = let both : word ∷ more ≡ decimal resets.paragraph ∷ map name_of resets.classes = sym is ∙ line_parts line resets lawful says in cc

-- where the first word writes a paragraph's level, it is that of any resets that the line says
pub same_paragraph : (line word : List ℕ) (more : List (List ℕ)) (paragraph : ℕ) → parts 32 line ≡ word ∷ more → word ≡ decimal paragraph → (resets : Resets) → Lawful resets → line ≡ resets_line resets → parts 32 line ≡ (decimal paragraph ∷ []) ++ map name_of resets.classes
same_paragraph line word more paragraph is written resets lawful says =
    line_parts line resets lawful says ∙ ap (λ (w : List ℕ). w ∷ map name_of resets.classes) (sym (first_word line word more is resets lawful says) ∙ written)

-- a line says one thing
pub same_resets : (resets more : Resets) → Lawful resets → Lawful more → resets_line resets ≡ resets_line more → resets ≡ more
same_resets resets more a b e =
    let both : decimal resets.paragraph ∷ map name_of resets.classes ≡ decimal more.paragraph ∷ map name_of more.classes = sym (line_parts _ resets a refl) ∙ line_parts _ more b e in
    let levels : decimal resets.paragraph ≡ decimal more.paragraph = cc in
    let names : map name_of resets.classes ≡ map name_of more.classes = cc in
    let paragraphs : resets.paragraph ≡ more.paragraph = apart resets.paragraph more.paragraph (omega arith) (omega arith) levels in
    ap₂ made paragraphs (one_list name_of Any names_apart resets.classes more.classes (all_any resets.classes) (all_any more.classes) names)
  where
    made : ℕ → List BidiClass → Resets
    made paragraph classes = record { paragraph = paragraph; classes = classes }
