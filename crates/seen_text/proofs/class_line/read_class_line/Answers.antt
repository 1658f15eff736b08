use Rattle.std.proofs.Common.{[], ◌∷◌, decimal, rules}
use Rattle.std.proofs.lemmas.Fn.{always_returns_same}
use Rattle.levels.specs.Classes.{name_of}
use Rattle.seen_text.proofs.ClassWords.{Any, all_any, first_word, line_so, same_paragraph}
use Rattle.seen_text.proofs.Parts.{begun_at, left, next_part, next_word, no_part, read_all, read_more, read_none}
use Rattle.seen_text.proofs.class_line.read_class_line.Goals as goal

pub returns-in_default : goal.returns-in_default
returns-in_default c = λ resets lawful is.
    let first = begun_at _ c.split-words.result c.next.new.self 32 c.args.line.now c.next.result c.args.line c.split-words.ensures.rest c.split-words.ensures.done (always_returns_same _ _ _ (λ a is f k. search rules)) c.next.ensures.steps in
    c.in_default.ensures resets.paragraph lawful (first_word c.args.line.now c.unwrap_or-first.result.now (left 32 c.next.new.self) (search rules) resets lawful is)

pub loop-word-init : goal.loop-word-init
loop-word-init c =
    let first = begun_at _ c.split-words.result c.next.new.self 32 c.args.line.now c.next.result c.args.line c.split-words.ensures.rest c.split-words.ensures.done (always_returns_same _ _ _ (λ a is f k. search rules)) c.next.ensures.steps in
    read_none 32 name_of Any (decimal c.in-Some.paragraph ∷ []) (left 32 c.into_iter-word-iterator.result) c.args.line.now _ c.new-classes.ensures.items (search rules)

pub returns-in_default-class_named : goal.returns-in_default-class_named
returns-in_default-class_named c = λ resets lawful is.
    let first = begun_at _ c.split-words.result c.next.new.self 32 c.args.line.now c.next.result c.args.line c.split-words.ensures.rest c.split-words.ensures.done (always_returns_same _ _ _ (λ a is f k. search rules)) c.next.ensures.steps in
    let says = same_paragraph c.args.line.now c.unwrap_or-first.result.now (left 32 c.next.new.self) c.in-Some.paragraph (search rules) c.in-Some.ensures.1 resets lawful is in
    let next = next_part _ c.loop-word.word-iterator c.next-in-loop-word.new.self 32 c.in-Some-word.word (always_returns_same _ _ _ (λ a is f k. search rules)) c.in-Some-word.ensures.steps in
    let read = next_word 32 name_of Any c.loop-word.invariant c.in-Some-word.word.now _ next resets.classes (all_any resets.classes) says in
    c.in_default-class_named.ensures read.0 read.2

pub loop-word-preserved : goal.loop-word-preserved
loop-word-preserved c =
    let next = next_part _ c.loop-word.word-iterator c.next-in-loop-word.new.self 32 c.in-Some-word.word (always_returns_same _ _ _ (λ a is f k. search rules)) c.in-Some-word.ensures.steps in
    read_more 32 name_of Any c.loop-word.invariant c.in-Some-word.word.now _ next c.in-Some-class_named.class _ tt c.in-Some-class_named.ensures c.in_ok-push.ensures.items

pub returns : goal.returns
returns c = (c.in-Some.ensures.0, line_so _ _ _ (read_all 32 name_of Any c.loop-word.invariant (no_part c.loop-word.word-iterator 32 c.in-None.ensures.steps.0)))
