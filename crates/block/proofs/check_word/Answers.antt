-- `block::check_word`: what its goals need. The loop's invariant: the rest is what is left of the bits brought down so far. Assumes nothing.
use mathlib.Core.Path.{◌≡◌, sym, ap, ◌∙◌}
use Prim.Native.Nat.{ℕ, ◌+◌, ◌-◌, ◌*◌, ◌<◌}
use native.Mathlib.Omega.{arith}
use Rattle.laws.specs.Poly.{◌⊕◌}
use Rattle.block.specs.Block.{check_word}
use Rattle.block.proofs.LongDivision.{rest_so_far, rest_first, rest_small, rest_kept, rest_less, rest_last}
use Rattle.block.proofs.check_word.Goals as goal

-- what a turn begins with
small : (dividend left rest : ℕ) → rest ≡ rest_so_far dividend left → rest < 1024
small dividend left rest e = omega (arith, rest_small dividend left)

one_more : (dividend left rest : ℕ) → 0 < left → rest ≡ rest_so_far dividend left → rest ≡ rest_so_far dividend (left - 1 + 1)
one_more dividend left rest h e = e ∙ ap (rest_so_far dividend) (let n : left ≡ left - 1 + 1 = omega arith in n)

pub loop-place-init : goal.loop-place-init
loop-place-init c = sym (rest_first _)

pub overflow_mul-rest : goal.overflow_mul-rest
overflow_mul-rest c = omega (arith, small _ _ _ c.loop-place.invariant)

pub overflow_add-rest : goal.overflow_add-rest
overflow_add-rest c = omega (arith, small _ _ _ c.loop-place.invariant)

pub loop-place-preserved-then-rest-ge1024 : goal.loop-place-preserved-then-rest-ge1024
loop-place-preserved-then-rest-ge1024 c = let l = c.loop-place in
    rest_less (c.args.info * 1024) (l.place - 1) l.rest (omega arith) (one_more _ _ _ (omega arith) l.invariant) c.if-rest-ge1024.true

pub loop-place-preserved : goal.loop-place-preserved
loop-place-preserved c = let l = c.loop-place in
    rest_kept (c.args.info * 1024) (l.place - 1) l.rest (omega arith) (one_more _ _ _ (omega arith) l.invariant) (omega arith)

pub returns : goal.returns
unfolding check_word
returns c = let a = c.args in
    let end : c.loop-place.place ≡ 0 = omega arith in
    ap (λ (x : ℕ). x ⊕ a.offset) (c.loop-place.invariant ∙ ap (rest_so_far (a.info * 1024)) end ∙ rest_last (a.info * 1024))
