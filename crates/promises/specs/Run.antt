-- Frames offered one after the other: the answers, and a collector that was offered all that a receiver hands out.
use Rattle.std.specs.Prelude.{List, [], ◌∷◌, ℕ}
use Rattle.collector.specs.declared.Collector.{Collector}
use Rattle.collector.specs.declared.Holdings.{Holdings}
use Rattle.collector.specs.Layout.{no_holdings, offer_gives}
use Rattle.receiver.specs.Receive.{fresh_receiver}
use Rattle.receiver.specs.Calls.{Call, all_frames}
use Rattle.collector.specs.Collector.{offered}
use Rattle.order.specs.Numbered.{offer_all_to}

-- each answer, the collector carried from offer to offer (demand 2)
unfoldable pub answers_to : Collector → List (List ℕ) → List ℕ
answers_to c [] = []
answers_to c (f ∷ fs) = (offered c f).answer ∷ answers_to (offered c f).collector fs

-- each answer of the record with one number for the marks (02, K11)
unfoldable pub answers_from : Holdings → List (List ℕ) → List ℕ
answers_from h [] = []
answers_from h (f ∷ fs) = (offer_gives h f).answer ∷ answers_from (offer_gives h f).collector fs

-- a collector that was empty, once it was offered what a fresh receiver hands out (demand 2)
abbrev pub collected : List Call → Holdings
collected calls = offer_all_to no_holdings (all_frames fresh_receiver calls)
