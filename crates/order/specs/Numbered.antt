-- Calls on the record with one number for the marks, one after the other (02, K11).
use Rattle.std.specs.Prelude.{List, [], ◌∷◌, ℕ}
use Rattle.collector.specs.declared.Holdings.{Holdings}
use Rattle.collector.specs.Layout.{offer_gives, release_gives, Outcome}
use Rattle.order.specs.Held.{Act, offering, releasing}

-- what an offer or a release answers and leaves
abbrev pub done_to : Holdings → Act → Outcome
done_to h (offering f) = offer_gives h f
done_to h (releasing l v) = release_gives h l v

-- all of them in turn
unfoldable pub run_from : Holdings → List Act → Holdings
run_from h [] = h
run_from h (a ∷ acts) = run_from (done_to h a).collector acts

-- frames offered one after the other
unfoldable pub offer_all_to : Holdings → List (List ℕ) → Holdings
offer_all_to h [] = h
offer_all_to h (f ∷ fs) = offer_all_to (offer_gives h f).collector fs
