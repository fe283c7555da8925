-- `board::make_room`: what its goals need. Assumes nothing.
use Rattle.std.proofs.Common.{◌≡◌, ◌<◌, List, [], ◌∷◌, ◌++◌, length, get_or, set, take, drop, ap, arith, rules}
use Rattle.collector.specs.declared.Holding.{Holding}
use Rattle.collector.specs.Layout.{made_free, blank_holding}
use Rattle.board.specs.Board.{room_made}
use Rattle.board.proofs.make_room.Goals as goal

-- the first place made free, and the places turned by one
turned : (ps now : List Holding) (d : Holding) → 0 < length ps → now ≡ drop 1 (set ps 0 (made_free (get_or ps 0 d))) ++ take 1 (set ps 0 (made_free (get_or ps 0 d)))
    → now ≡ drop 1 ps ++ (made_free (get_or ps 0 blank_holding) ∷ [])
turned [] now d h e = absurd (omega (arith, h))
turned (p ∷ ps) now d h e = e

pub returns : goal.returns
unfolding room_made
returns c =
    let n : length c.args.c.places ≡ 4 = search rules in
    ap (λ (ps : List Holding). record { places = ps }) (turned c.args.c.places _ _ (omega (arith, n)) c.rotate_left.ensures.after)
