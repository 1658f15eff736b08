use Rattle.std.proofs.Common.{◌≡◌, ◌+◌, ◌≤◌, length, get_or, unwrap_or, sym, ap, ◌∙◌, subst, arith, rules, sum, take}
use Rattle.std.proofs.lemmas.List.Sums.{sum_by_more}
use Rattle.std.proofs.lemmas.Slice.Zip.{zip_turn}
use Rattle.std.specs.Result.{result_ok}
use Rattle.std.proofs.lemmas.List.{length_push}
use Rattle.std.specs.Iterator.Adapters.{zip_second}
use Rattle.std.specs.Slice.Iter.{iter_rest}
use Rattle.levels.specs.Classes.{role_of, class_of}
use Rattle.levels.specs.declared.classes.BidiClass.TheVariants.{ON}
use Rattle.levels.specs.Runs.{start_of}
use Rattle.levels.proofs.Scanning.{within, turned, started}
use Rattle.levels.proofs.scan.reset_runs.Goals as goal

pub step-run-requires : goal.step-run-requires
step-run-requires c =
    let lengths_is : iter_rest (zip_second c.into_iter-code-iterator.result) ≡ c.args.lengths.now = search rules in
    let t = zip_turn c.args.classes.now c.args.lengths.now c.loop-code.yielded c.into_iter-code-iterator.result c.loop-code.code-iterator c.next.new.self _ (search rules) lengths_is c.loop-code.yielded_by _ c.in-Some.is c.next.ensures.steps in
    let inside = within c.args.lengths.now (length c.loop-code.yielded) c.loop-code.at (length c.args.levels.now) t.1 c.loop-code.invariant.0 c.requires.filled in
    (omega (arith, c.loop-code.invariant.1), omega (arith, t.3 0))

pub loop-code-preserved : goal.loop-code-preserved
loop-code-preserved c =
    let lengths_is : iter_rest (zip_second c.into_iter-code-iterator.result) ≡ c.args.lengths.now = search rules in
    let t = zip_turn c.args.classes.now c.args.lengths.now c.loop-code.yielded c.into_iter-code-iterator.result c.loop-code.code-iterator c.next.new.self _ (search rules) lengths_is c.loop-code.yielded_by _ c.in-Some.is c.next.ensures.steps in
    let i = length c.loop-code.yielded in
    let n = c.from.result in
    let long : n ≡ get_or c.args.lengths.now i 0 = c.from.ensures ∙ t.3 0 in
    let inside = within c.args.lengths.now i c.loop-code.at (length c.args.levels.now) t.1 c.loop-code.invariant.0 c.requires.filled in
    let class_is : class_of (get_or c.args.classes.now i 0) ≡ c.unwrap-class.result = ap class_of (sym (t.2 0)) ∙ ap (λ o. unwrap_or o ON) (sym c.try_from.ensures ∙ ap result_ok c.unwrap-class.ensures) in (
      omega (arith, c.loop-code.invariant.0, ap (λ j. sum (take j c.args.lengths.now)) (length_push c.loop-code.yielded (c.in-Some.code, c.in-Some.length)), sum_by_more (λ x. x) c.args.lengths.now i 0 t.1),
      subst (λ u. start_of u (c.loop-code.at + n) ≤ c.loop-code.at + n) (sym c.step-run.ensures.run) (started c.loop-code.run (role_of c.unwrap-class.result) c.loop-code.at n c.loop-code.invariant.1),
      sym
          (turned c.args.paragraph_level i c.loop-code.at n c.loop-code.run c.args.classes.now c.args.lengths.now c.loop-code.levels
          _ (role_of c.unwrap-class.result) c.step-run.result c.step-run.new.levels
          (length_push c.loop-code.yielded _) t.0 t.1 long c.loop-code.invariant.1 (omega (arith, c.loop-code.auto.levels)) (ap role_of class_is) c.step-run.ensures.run c.step-run.ensures.levels)
          ∙ c.loop-code.invariant.2,
    )
