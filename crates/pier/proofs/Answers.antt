-- What a board answers and leaves, for every argument: each number exactly in its case, a refusal changes nothing, and a clearing loses no part. Assumes nothing.
use mathlib.Core.Path.{◌≡◌, refl, sym, ap, ◌∙◌}
use mathlib.Core.List.{List, [], ◌∷◌, ◌++◌, map}
use mathlib.Core.Bool.{true, false, true≢false, not}
use mathlib.Core.Logic.{⊎_elim}
use Prim.Native.Nat.{ℕ}
use native.Mathlib.Omega.{arith}
use lib.ListN.{length, get_or, drop}
use lib.Dec.{eqb, ltb}
use borrow.Author.Tests.{ne_eqb, eqb-true, eqb-false}
use Rattle.laws.specs.Refusals.{first, among, apart}
use Rattle.laws.proofs.Cases.{if_yes, if_no, and_yes, and_no, and_both}
use Rattle.laws.proofs.Elements.{by_test}
use Rattle.laws.specs.Scan.{all}
use Rattle.laws.proofs.Refusals.{listed, only_due}
use Rattle.frame.specs.Heading.{refusals}
use Rattle.promises.specs.Exactly.{Exactly}
use Rattle.promises.proofs.Answers.{exactly}
use Rattle.promises.proofs.Single.{one_outcome}
use Rattle.collector.specs.declared.Holding.{Holding}
use Rattle.collector.specs.declared.Holdings.{Holdings}
use Rattle.collector.specs.Collector.{is_held, piece_of, its_place, take_cases as offer_takes}
use Rattle.collector.specs.Layout.{as_place, as_collector, blank_holding, made_free, offer_due, offer_gives, Outcome}
use Rattle.collector.proofs.Seen.{offer_answer, offer_apart}
use Rattle.stories.specs.declared.Stories.{Stories}
use Rattle.stories.specs.Stories.{take_cases, take_answer, taken_by, taken_in}
use Rattle.board.specs.declared.Board.{Board}
use Rattle.board.specs.declared.Heard.{Heard}
use Rattle.board.proofs.Hearing.{ready_again, ready_as_is}
use Rattle.board.specs.Board.{good_board, room_made, offered_at, packet_of, unheard, whole_heard, refused_for, offered_to, heard_of, heard_output}

take_apart : (s : Stories) (b : List ℕ) (room : ℕ) → apart (take_cases s b room) ≡ true
unfolding apart among
take_apart s b room = refl

-- Whatever stories are held and whatever packet is taken in, each number comes exactly when its case holds and none before it does, and no other comes.
pub taken_exact : (s : Stories) (b : List ℕ) (room : ℕ) → Exactly (taken_in s b room).answer (take_cases s b room)
unfolding taken_in taken_by take_answer
taken_exact s b room = exactly (take_cases s b room) (take_apart s b room)

-- A board that refuses a frame, with 28 or 10, is as it was, and so is what is lent.
pub board_refused_unchanged : (b : Board) (f out : List ℕ) → (refused_for b (length out) ≡ 0 → ⊥)
    → (heard_of b f (length out) ≡ unheard (refused_for b (length out)) b) × (heard_output b f out ≡ out)
unfolding heard_of heard_output
board_refused_unchanged b f out n =
    let z : eqb (refused_for b (length out)) 0 ≡ false = ne_eqb (refused_for b (length out)) 0 n in
    (if_no _ _ z, if_no _ _ (and_no _ z))

-- Any two outcomes that the contract of `hear` allows for the same arguments are the same.
pub hear_one_outcome : (b : Board) (f out : List ℕ) (x y : Heard) (m n : List ℕ)
    → (x ≡ heard_of b f (length out)) × (m ≡ heard_output b f out) → (y ≡ heard_of b f (length out)) × (n ≡ heard_output b f out) → (x ≡ y) × (m ≡ n)
hear_one_outcome b f out = one_outcome (heard_of b f (length out)) (heard_output b f out)

-- a number that is not among the stories' is no answer of theirs
never_theirs : (s : Stories) (b : List ℕ) (room k : ℕ) → among k (take_cases s b room) ≡ false → (k ≡ 0 → ⊥) → (taken_in s b room).answer ≡ k → ⊥
unfolding taken_in taken_by take_answer
never_theirs s b room k n z e =
    ⊎_elim
    (λ (q : first (take_cases s b room) ≡ 0). z (sym e ∙ q))
    (λ q. true≢false (sym (ap (λ (i : ℕ). among i (take_cases s b room)) (sym e) ∙ q) ∙ n))
    (listed (take_cases s b room))

-- Where a frame clears a pair that was missing frames, which is answer 3, every part that was copied before is still there (02, K5).
pub clearing_keeps_parts : (b : Board) (f : List ℕ) (room : ℕ) → (heard_of b f room).answer ≡ 3 → (heard_of b f room).board.stories ≡ b.stories
unfolding heard_of offered_to whole_heard among
clearing_keeps_parts b f room e =
    by_test (eqb (refused_for b room) 0)
    (λ t.
    let h : heard_of b f room ≡ offered_to b f room = if_yes _ _ t in
    by_test (eqb (offered_at b.collector f).answer 1)
    (λ u. absurd (never_theirs b.stories (packet_of b f) room 3 refl (λ (z : 3 ≡ 0). omega arith) (whole_answer u h)))
    (λ u. ap (λ (x : Heard). x.board.stories) (h ∙ if_no _ _ u)))
    (λ t. ap (λ (x : Heard). x.board.stories) (if_no (offered_to b f room) (unheard (refused_for b room) b) t))
  where
    whole_answer : eqb (offered_at b.collector f).answer 1 ≡ true → heard_of b f room ≡ offered_to b f room → (taken_in b.stories (packet_of b f) room).answer ≡ 3
    whole_answer u h = sym (ap (λ (x : Heard). x.answer) (h ∙ if_yes (whole_heard b f room) _ u)) ∙ e

-- ---- never deaf
-- 16 says that every place is held
sixteen_full : (c : Holdings) (f : List ℕ) → (offer_gives c f).answer ≡ 16 → all is_held (as_collector c).places ≡ true
unfolding offer_due refusals offer_takes
sixteen_full c f e =
    (and_both (not (its_place (as_collector c) (piece_of f)).held) (all is_held (as_collector c).places) (only_due (offer_due c f) (offer_apart c f) 7 (omega arith) (sym (offer_answer c f) ∙ e)).0).1

-- and where room was made one is not
room_free : (c : Holdings) → all is_held (as_collector (room_made c)).places ≡ false
unfolding room_made
room_free c = behind (drop 1 c.places)
  where
    behind : (ps : List Holding) → all is_held (map as_place (ps ++ (made_free (get_or c.places 0 blank_holding) ∷ []))) ≡ false
    behind [] = refl
    behind (p ∷ ps) = by_test p.held (λ t. and_yes _ t ∙ behind ps) (λ t. and_no _ t)

-- Whatever a board holds, it does not say that it has no place for a frame (16): the pair whose place comes first gives way.
pub never_sixteen : (b : Board) (f : List ℕ) (room : ℕ) → (heard_of b f room).answer ≡ 16 → ⊥
unfolding heard_of offered_to whole_heard refused_for among
never_sixteen b f room e =
    by_test (eqb (refused_for b room) 0)
    (λ t.
    let h : heard_of b f room ≡ offered_to b f room = if_yes _ _ t in
    by_test (eqb (offered_at b.collector f).answer 1)
    (λ u.
    let z = sym (ap (λ (x : Heard). x.answer) (h ∙ if_yes (whole_heard b f room) _ u)) ∙ e in
    never_theirs b.stories (packet_of b f) room 16 refl (λ (y : 16 ≡ 0). omega arith) z)
    (λ u. not_offered (sym (ap (λ (x : Heard). x.answer) (h ∙ if_no (whole_heard b f room) _ u)) ∙ e)))
    (λ t.
    let z : refused_for b room ≡ 16 = sym (ap (λ (x : Heard). x.answer) (if_no (offered_to b f room) (unheard (refused_for b room) b) t)) ∙ e in
    ⊎_elim
    (λ (q : refused_for b room ≡ 0). omega arith)
    (λ q. true≢false (sym (ap (λ (i : ℕ). among i ((not (good_board b), 28) ∷ (ltb room 1341, 10) ∷ [])) (sym z) ∙ q)))
    (listed ((not (good_board b), 28) ∷ (ltb room 1341, 10) ∷ [])))
  where
    not_offered : (offered_at b.collector f).answer ≡ 16 → ⊥
    not_offered q =
        by_test (eqb (offer_gives b.collector f).answer 16)
        (λ t.
        let r = ready_again b.collector f (eqb-true _ 16 t) in
        true≢false (sym (sixteen_full (room_made b.collector) f (ap (λ (o : Outcome). o.answer) (sym r) ∙ q)) ∙ room_free b.collector))
        (λ t.
        let n = eqb-false (offer_gives b.collector f).answer 16 t in
        n (ap (λ (o : Outcome). o.answer) (sym (ready_as_is b.collector f n)) ∙ q))
