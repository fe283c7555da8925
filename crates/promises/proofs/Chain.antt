-- The whole chain: fields to packet to air bytes to frames to packet to fields. Assumes nothing.
use mathlib.Core.Path.{◌≡◌, refl, sym, ap, subst, ◌∙◌}
use mathlib.Core.Bool.{true, not}
use mathlib.Core.List.{List, [], ◌∷◌, ◌++◌}
use Prim.Native.Nat.{ℕ, ◌-◌, ◌*◌, ◌≤◌}
use native.Mathlib.Omega.{arith}
use lib.ListN.{length, take, drop, replicate}
use lib.Seq.{take_at}
use borrow.Author.Tests.{eq-eqb, ne_eqb, le-leb, lt-leb, le-ltb}
use Rattle.laws.proofs.Cases.{and_yes, or_no}
use Rattle.laws.proofs.Refusals.{pass, none_left}
use Rattle.frame.specs.Heading.{reserved}
use Rattle.size.specs.Size.{packet_size}
use Rattle.air.specs.OnAir.{frames_for, frames_of, sized, cases, answer_of, aired_of, aired_into}
use Rattle.receiver.specs.Receive.{fresh_receiver}
use Rattle.receiver.specs.Calls.{Call, all_taken, all_frames, delivered, in_bounds}
use Rattle.collector.specs.declared.Holdings.{Holdings}
use Rattle.collector.specs.Layout.{no_holdings, copy_gives, copy_leaves}
use Rattle.order.specs.Numbered.{offer_all_to}
use Rattle.packet.specs.declared.Fields.{Fields}
use Rattle.packet.specs.Reading.{Opened}
use Rattle.packet.specs.Writing.{written}
use Rattle.packet.proofs.Accepted.{Accepted, accepted}
use Rattle.trips.specs.Given.{Typed, packet_of, GivesBack}
use Rattle.trips.proofs.Answers.{read_answer_lem}
use Rattle.trips.proofs.There.{packet_is, fields_come_back}
use Rattle.promises.specs.Run.{answers_from, collected}
use Rattle.promises.proofs.Air.{air_comes_back}
use Rattle.promises.proofs.Frames.{frames_come_back}

-- a packet that a reader accepts goes on air at any level and version that there are
pub on_air : (p : List ℕ) (level version : ℕ) (out : List ℕ) → Accepted p → 1 ≤ level → level ≤ 6 → version ≤ 31 → 13 * frames_for (length p) ≤ length out
    → (aired_of p level version out).answer ≡ 0
unfolding aired_of answer_of cases sized packet_size reserved
on_air p level version out a low high v room =
    let long : 2 ≤ length p = omega (arith, a.least) in
    let s = and_yes _ (le-leb _ _ long) ∙ and_yes _ (le-leb _ _ a.most) ∙ eq-eqb _ _ a.field in
    let r = or_no _ (ne_eqb level 0 (λ (z : level ≡ 0). omega arith)) ∙ lt-leb 7 level (omega arith) in
    pass 20 _ (ap not s) ∙ pass 13 _ r ∙ pass 27 _ (le-ltb _ _ v) ∙ pass 10 _ (le-ltb _ _ room) ∙ none_left

-- Whatever fields, codes and body the packet writer takes, whatever level from 1 to 6 and version to 31 its packet is sent with, and however the air bytes
-- are cut into deliveries of at most 512: nothing is refused on the way, every frame but the last is answered 0 and the last 1, the collector hands out a
-- packet of the same size, and the reader gives of it the same fields, codes, entries and body, and the text where it is one.
pub chain : (f : Fields) (codes body room : List ℕ) → Typed f body → (written f codes body (length room)).answer ≡ 0
    → (level version : ℕ) (out : List ℕ) → 1 ≤ level → level ≤ 6 → version ≤ 31 → 13 * frames_for (length (packet_of f codes body room)) ≤ length out
    → (calls : List Call) → in_bounds calls ≡ true
    → delivered calls ≡ take (13 * (aired_of (packet_of f codes body room) level version out).frames) (aired_into (packet_of f codes body room) level version out)
    → (lent : List ℕ) → length (packet_of f codes body room) ≤ length lent
    → ((aired_of (packet_of f codes body room) level version out).answer ≡ 0)
    × (all_taken fresh_receiver calls ≡ true)
    × (answers_from no_holdings (all_frames fresh_receiver calls) ≡ replicate ((aired_of (packet_of f codes body room) level version out).frames - 1) 0 ++ (1 ∷ []))
    × (copy_gives (collected calls) level version (length lent) ≡ record { answer = 0; length = length (packet_of f codes body room) })
    × GivesBack f codes body (take (length (packet_of f codes body room)) (copy_leaves (collected calls) level version lent))
chain f codes body room t e level version out low high v fits calls b d lent h =
    let p = packet_of f codes body room in
    let u = (packet_is f codes body room t e).1 in
    let back = fields_come_back f codes body room t e in
    let a = accepted p (sym (read_answer_lem p) ∙ ap (λ (o : Opened). o.answer) back.all_read) in
    let sent = on_air p level version out a low high v fits in
    let heard = air_comes_back p level version out u sent calls b d in
    let given = frames_come_back p level version out u sent in
    let got = given.1 lent h in
    let same : collected calls ≡ offer_all_to no_holdings (frames_of p level version) = ap (λ fs. offer_all_to no_holdings fs) heard.1 in
    let answer = ap (λ (c : Holdings). copy_gives c level version (length lent)) same ∙ got.0 in
    let copy : take (length p) (copy_leaves (collected calls) level version lent) ≡ p =
    ap (λ (c : Holdings). take (length p) (copy_leaves c level version lent)) same
    ∙ ap (λ (x : List ℕ). take (length p) x) got.1
    ∙ take_at p (drop (length p) lent) (length p) refl in
    (sent, heard.0, ap (answers_from no_holdings) heard.1 ∙ given.0, answer, subst (GivesBack f codes body) (sym copy) back)
