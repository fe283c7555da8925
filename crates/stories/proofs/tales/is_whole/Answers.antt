-- `stories::tales::is_whole`: what its goals need. Assumes nothing.
use Rattle.std.proofs.Common.{◌≡◌, ◌∙◌, ap, ◌-◌, not, eqb, length, take, rules, tests, arith}
use Rattle.std.proofs.lemmas.Iterator.{YieldsList-from_slice}
use Rattle.std.proofs.lemmas.Iterator.Search.{all_from_yields_List}
use Rattle.laws.specs.Scan.{all}
use Rattle.stories.proofs.Texts.{whole_is}
use Rattle.stories.proofs.tales.is_whole.Goals as goal

pub returns : goal.returns
returns c =
    let p = c.args.p in
    let n : length p.lengths ≡ 9 = search rules in
    let t : p.total - 0 ≡ p.total = omega arith in
    all_from_yields_List (λ n. not (eqb n 0)) _ _ _ c.all.ensures.ran (YieldsList-from_slice (take (p.total - 0) p.lengths) cc) (λ x b q k. search (rules, tests))
    ∙ ap (λ m. all (λ n. not (eqb n 0)) (take m p.lengths)) t
    ∙ whole_is p (omega (arith, n, c.requires))
