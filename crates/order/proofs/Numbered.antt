-- The collector with one number for the marks is the one with 63 marks, call by call; so all that is shown of the one holds of the other. Assumes nothing.
use mathlib.Core.Path.{◌≡◌, refl, sym, ap, subst, ◌∙◌}
use mathlib.Core.Bool.{true, false}
use mathlib.Core.List.{List, [], ◌∷◌}
use Prim.Native.Nat.{ℕ}
use lib.ListN.{length}
use Rattle.collector.specs.declared.Collector.{Collector}
use Rattle.collector.specs.Places.{Copied}
use Rattle.collector.specs.declared.Holdings.{Holdings}
use Rattle.collector.specs.Collector.{nothing, keeps, offered, released, answered, copied, Offered}
use Rattle.collector.specs.Layout.{tops_clear, as_collector, as_offered, from_collector, from_offered, no_holdings, bad_record, offer_gives, release_gives, copy_gives, copy_leaves, Outcome}
use Rattle.collector.proofs.Seen.{record_back, offer_top, release_top, copy_top, offer_same, release_same, copy_same, empty_seen}
use Rattle.laws.proofs.Cases.{if_yes, if_no}
use Rattle.laws.proofs.Elements.{by_test}
use Rattle.order.proofs.Theorems.{refusal_keeps}
use Rattle.order.specs.Held.{Act, offering, releasing, done, run, offer_all}
use Rattle.order.specs.Numbered.{done_to, run_from, offer_all_to}

-- Whatever the record, as long as no top bit is set: every call gives the answer of the call on the record seen with 63 marks, leaves a
-- record that is seen as the one that call leaves, and the same lent memory (02, K11).
pub same_as_marks : (h : Holdings) → tops_clear h ≡ true
    → ((f : List ℕ) → as_offered (offer_gives h f) ≡ offered (as_collector h) f)
    × ((l v : ℕ) → as_offered (release_gives h l v) ≡ released (as_collector h) l v)
    × ((l v : ℕ) (out : List ℕ) → (copy_gives h l v (length out) ≡ answered (as_collector h) l v (length out)) × (copy_leaves h l v out ≡ copied (as_collector h) l v out))
same_as_marks h t = (λ f. (offer_same h t f).0, λ l v. (release_same h t l v).0, copy_same h t)

-- A top bit that is set, in a free place too: 28, with record and lent memory as they were (02, K11).
pub top_bit_set : (h : Holdings) → tops_clear h ≡ false
    → ((f : List ℕ) → offer_gives h f ≡ bad_record h)
    × ((l v : ℕ) → release_gives h l v ≡ bad_record h)
    × ((l v : ℕ) (out : List ℕ) → (copy_gives h l v (length out) ≡ record { answer = 28; length = 0 }) × (copy_leaves h l v out ≡ out))
top_bit_set h t = (λ f. sym (offer_top h t f), λ l v. sym (release_top h t l v), λ l v out. (sym (copy_top h t l v out).0, sym (copy_top h t l v out).1))

-- ---- one call after the other
acted : (h : Holdings) → tops_clear h ≡ true → (a : Act) → (as_offered (done_to h a) ≡ done (as_collector h) a) × (tops_clear (done_to h a).collector ≡ true)
acted h t (offering f) = offer_same h t f
acted h t (releasing l v) = release_same h t l v

-- Offers and releases in any number leave what they leave of the record seen, and no top bit is ever set.
pub runs_carried : (acts : List Act) (h : Holdings) → tops_clear h ≡ true → (as_collector (run_from h acts) ≡ run (as_collector h) acts) × (tops_clear (run_from h acts) ≡ true)
unfolding run_from run
runs_carried [] h t = (refl, t)
runs_carried (a ∷ acts) h t =
    let e = acted h t a in
    let w = runs_carried acts (done_to h a).collector e.1 in
    (w.0 ∙ ap (λ (o : Offered). run o.collector acts) e.0, w.1)

pub offers_carried : (fs : List (List ℕ)) (h : Holdings) → tops_clear h ≡ true → (as_collector (offer_all_to h fs) ≡ offer_all (as_collector h) fs) × (tops_clear (offer_all_to h fs) ≡ true)
unfolding offer_all_to offer_all
offers_carried [] h t = (refl, t)
offers_carried (f ∷ fs) h t =
    let e = offer_same h t f in
    let w = offers_carried fs (offer_gives h f).collector e.1 in
    (w.0 ∙ ap (λ (o : Offered). offer_all o.collector fs) e.0, w.1)

-- Whatever is shown of an empty collector that was offered frames holds of the empty record with one number for the marks that was offered
-- the same: demand 3 with all that `Theorems`, `Declared` and `Only` say, once for all four places (02, K11).
pub demand_three_carried : (P : Collector → Type 0) (fs : List (List ℕ)) → P (offer_all nothing fs) → P (as_collector (offer_all_to no_holdings fs))
demand_three_carried P fs p =
    subst P (sym ((offers_carried fs no_holdings empty_seen.1).0 ∙ ap (λ (c : Collector). offer_all c fs) empty_seen.0)) p

-- And the answer to each frame is the same.
pub answers_carried : (before : List (List ℕ)) (f : List ℕ) → (offer_gives (offer_all_to no_holdings before) f).answer ≡ (offered (offer_all nothing before) f).answer
answers_carried before f =
    let w = offers_carried before no_holdings empty_seen.1 in
    ap (λ (o : Offered). o.answer) (offer_same (offer_all_to no_holdings before) w.1 f).0
    ∙ ap (λ (c : Collector). (offered c f).answer) (w.0 ∙ ap (λ (c : Collector). offer_all c before) empty_seen.0)

-- A frame that is not kept, a release and a copy that are refused leave the record as it was, whatever it is, and what is lent.
pub refused_as_it_was : (h : Holdings)
    → ((f : List ℕ) → keeps (offer_gives h f).answer ≡ false → (offer_gives h f).collector ≡ h)
    × ((l v : ℕ) → ((release_gives h l v).answer ≡ 0 → ⊥) → (release_gives h l v).collector ≡ h)
    × ((l v : ℕ) (out : List ℕ) → ((copy_gives h l v (length out)).answer ≡ 0 → ⊥) → ((copy_gives h l v (length out)).length ≡ 0) × (copy_leaves h l v out ≡ out))
unfolding offer_gives release_gives copy_gives copy_leaves
refused_as_it_was h =
    by_test (tops_clear h)
    (λ t.
    let k = refusal_keeps (as_collector h) in (
      λ f z. ap (λ (o : Outcome). o.collector) (if_yes (from_offered (offered (as_collector h) f)) (bad_record h) t) ∙ ap from_collector (k.0 f (sym (ap (λ (o : Outcome). keeps o.answer) (if_yes (from_offered (offered (as_collector h) f)) (bad_record h) t)) ∙ z)) ∙ record_back h t,
      λ l v z. ap (λ (o : Outcome). o.collector) (if_yes (from_offered (released (as_collector h) l v)) (bad_record h) t) ∙ ap from_collector (k.1 l v (λ q. z (ap (λ (o : Outcome). o.answer) (if_yes (from_offered (released (as_collector h) l v)) (bad_record h) t) ∙ q))) ∙ record_back h t,
      λ l v out z.
          let a = if_yes (answered (as_collector h) l v (length out)) (record { answer = 28; length = 0 }) t in
          let w = k.2 l v out (λ q. z (ap (λ (c : Copied). c.answer) a ∙ q)) in
          (ap (λ (c : Copied). c.length) a ∙ w.0, if_yes _ _ t ∙ w.1),
    ))
    (λ t. (
      λ f z. ap (λ (o : Outcome). o.collector) (if_no (from_offered (offered (as_collector h) f)) (bad_record h) t),
      λ l v z. ap (λ (o : Outcome). o.collector) (if_no (from_offered (released (as_collector h) l v)) (bad_record h) t),
      λ l v out z. (ap (λ (c : Copied). c.length) (if_no (answered (as_collector h) l v (length out)) (record { answer = 28; length = 0 }) t), if_no _ _ t),
    ))
