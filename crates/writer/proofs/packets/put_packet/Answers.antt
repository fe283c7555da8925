-- `writer::packets::put_packet`: what its goals need. Assumes nothing.
use mathlib.Core.Path.{◌≡◌, ap, ◌∙◌}
use Prim.Native.Nat.{ℕ, ◌*◌}
use native.Mathlib.Omega.{arith}
use lib.ListN.{length}
use lib.Seq.{sets}
use Rattle.laws.specs.Bits.{bits}
use Rattle.format.proofs.Leaves.{same_long}
use Rattle.writer.specs.Parts.{head_bits}
use Rattle.writer.proofs.Size.{size_is, content_bits}
use Rattle.writer.proofs.Shapes.{after_long}
use Rattle.writer.proofs.Together.{code_size, codes_few, size_least, packet_put}
use borrow.Author.Rules.{rules}
use Rattle.writer.proofs.packets.put_packet.Goals as goal

pub put_head-requires : goal.put_head-requires
put_head-requires c = let x = c.args in
    let h = c.requires in
    let n = codes_few x.f x.body.now h.0.small in
    let l = size_least x.f x.body.now in
    (omega arith, omega arith, omega arith)

pub put_codes-q-requires : goal.put_codes-q-requires
put_codes-q-requires c = let x = c.args in
    let h = c.requires in
    let n = codes_few x.f x.body.now h.0.small in
    let l = same_long c.put_head.new.out x.out.now 0 (head_bits x.f.typenumber x.size x.f.codes) c.put_head.ensures in
    (omega (arith, h.1, h.2, size_is x.f x.body.now, l), h.0.counts.coded, omega (arith, n))

pub put_content-e-requires : goal.put_content-e-requires
put_content-e-requires c = let x = c.args in
    let h = c.requires in
    let n = codes_few x.f x.body.now h.0.small in
    (h.0.lent, omega (arith, c.put_codes-q.ensures.place, ap (λ (m : ℕ). x.f.codes * m) code_size, n), search (rules, c.well_formed))

pub put_ending-requires : goal.put_ending-requires
put_ending-requires c = let x = c.args in
    let h = c.requires in
    let m = ap (λ (m : ℕ). x.f.codes * m) code_size in
    let q = c.put_codes-q.ensures.place in
    let e = c.put_content-e.ensures.place in
    let b = content_bits x.f.content x.body.now in
    let s = size_is x.f x.body.now in
    (omega (arith, m, q, e, b), omega (arith, m, q, e, b, s, h.1, h.2, after_long c.put_content-e.ensures, after_long c.put_codes-q.ensures, same_long c.put_head.new.out x.out.now 0 (head_bits x.f.typenumber x.size x.f.codes) c.put_head.ensures), omega (arith, m, q, e, b, s, h.0.small))

pub returns : goal.returns
returns c = let x = c.args in
    let f = x.f in
    let d : length f.digits ≡ 35 = search (rules, c.well_formed) in
    let lc : length f.certificate ≡ 12 = search (rules, c.well_formed) in
    let ls : length f.signature ≡ 64 = search (rules, c.well_formed) in
    let h = c.put_head.ensures ∙ ap (λ (s : ℕ). sets (bits x.out.now) 0 (head_bits f.typenumber s f.codes)) c.requires.1 in
    packet_put f x.codes.now x.body.now c.requires.0.counts d lc ls _ c.put_head.new.out c.put_codes-q.new.out c.put_content-e.new.out _ 24 _ _ _ (record { put = h; place = omega arith })
    c.put_codes-q.ensures c.put_content-e.ensures c.put_ending.ensures
