-- `writer::packets::put_ending`: what its goals need. Assumes nothing.
use mathlib.Core.Path.{◌≡◌, ap, ap₂, ◌∙◌}
use mathlib.Core.List.{List}
use Prim.Native.Nat.{ℕ, ◌+◌, ◌*◌, ◌/◌}
use native.Mathlib.Omega.{arith}
use lib.ListN.{length}
use lib.Seq.{sets, take_all}
use Rattle.laws.specs.Bits.{bits, bits_of, spread}
use Rattle.writer.proofs.Whole.{ending_put}
use borrow.Author.Rules.{rules}
use Rattle.writer.proofs.packets.put_ending.Goals as goal

pub returns : goal.returns
returns c = let a = c.args in
    let h = c.requires in
    let p = a.p in
    let lc : length a.certificate ≡ 12 = search rules in
    let ls : length a.signature ≡ 64 = search rules in
    let x = c.put_time.new.out in
    let y = c.put_pairs.new.out in
    let z = c.put_bytes.new.out in
    let e : p / 8 * 8 ≡ p = omega (arith, h.0) in
    let f : (p / 8 + 4) * 8 ≡ p + 32 = omega (arith, h.0) in
    let g : (p / 8 + 10) * 8 ≡ p + 80 = omega (arith, h.0) in
    ending_put a.out.now x y z p a.time a.certificate a.signature lc ls
    (record { put = c.put_time.ensures ∙ ap (λ (n : ℕ). sets (bits a.out.now) n (bits_of 32 a.time)) e; place = omega arith })
    (record { put = c.put_pairs.ensures ∙ ap₂ (λ (n : ℕ) (l : List ℕ). sets (bits x) n (spread 4 l)) f (take_all 12 a.certificate (omega arith)); place = omega arith })
    (record { put = c.put_bytes.ensures ∙ ap (λ (n : ℕ). sets (bits y) n (spread 8 a.signature)) g; place = omega arith })
