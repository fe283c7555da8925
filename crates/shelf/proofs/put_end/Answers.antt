-- `shelf::put_end`: what its goals need. Assumes nothing.
use Rattle.std.proofs.Common.{◌≡◌, ℕ, ◌-◌, ◌≤◌, List, ◌∷◌, ◌++◌, [], length, take, drop, replicate, refl, sym, ap, ◌∙◌, arith, length-take, length-drop}
use Rattle.std.proofs.lemmas.List.{length-replicate}
use borrow.Rule.Slice.PartMut.{put_mid}
use lib.Seq.{sets, length-sets}
use Rattle.laws.proofs.Parts.{in_place}
use Rattle.laws.proofs.Writes.{join}
use Rattle.shelf.proofs.put_end.Goals as goal

-- the fill, and the two bytes behind it
ended : (out fill l last : List ℕ) (from : ℕ) → length out ≡ 256 → from ≤ 254 → fill ≡ replicate (length (take (254 - from) (drop from out))) 255 → l ≡ put_mid from (254 - from) out fill
    → last ≡ replicate (length (take (length l - 254) (drop 254 l))) 0 → put_mid 254 (length l - 254) l last ≡ sets out from (replicate (254 - from) 255 ++ (0 ∷ 0 ∷ []))
ended out fill l last from n h f e g =
    let k : ℕ = 254 - from in
    let v : List ℕ = replicate k 255 in
    let closing : List ℕ = 0 ∷ 0 ∷ [] in
    let long : length v ≡ k = length-replicate k 255 in
    let room : length (take k (drop from out)) ≡ k = omega (arith, n, h, length-take k (drop from out), length-drop from out) in
    let first : l ≡ sets out from v = e ∙ in_place out v fill from k (sym long) (omega (arith, n, h, long)) (f ∙ ap (λ (m : ℕ). replicate m 255) room) in
    let m : length l ≡ 256 = ap length first ∙ length-sets out from v ∙ n in
    let two : length (take (length l - 254) (drop 254 l)) ≡ 2 = omega (arith, m, length-take (length l - 254) (drop 254 l), length-drop 254 l) in
    join out l _ v closing from 254 first (in_place l closing last 254 (length l - 254) (omega (arith, m)) (omega (arith, m)) (g ∙ ap (λ (i : ℕ). replicate i 0) two)) (omega (arith, long, h))

pub returns : goal.returns
returns c = ended _ _ _ _ _ c.requires.0 c.requires.1 (c.fill.ensures.after (λ y h. h)) refl (c.fill-2.ensures.after (λ y h. h))
