-- Where frames stand in bits: as they are sent, with damage or none, and at which places the rule hands them out.
use Rattle.std.specs.Prelude.{◌≡◌, ◌⊎◌, Bool, true, false, not, ◌&&◌, List, [], ◌∷◌, ◌++◌, ℕ, ◌+◌, ◌≤◌, ◌<◌, length, drop, eqb}
use Rattle.laws.specs.Bits.{at}
use Rattle.frame.specs.OnAir.{frame_bits}
use Rattle.mend.specs.Mend.{within_five}
use Rattle.receiver.specs.Rule.{one, is_taken, taken_bytes, taken_count}

-- ---- damage (paper 02, K10)
abbrev pub differs : ℕ → ℕ → ℕ
differs a b = one (not (eqb a b))

-- 104 bits as sent and as they stood, block by block: each block differs only within five neighbouring bits, and k of the four differ
pub record Damaged (sent stood : List ℕ) (k : ℕ) : Type 0 where
  pub long : length stood ≡ 104
  pub a : within_five (at sent 0 26) (at stood 0 26) ≡ true
  pub b : within_five (at sent 26 26) (at stood 26 26) ≡ true
  pub c : within_five (at sent 52 26) (at stood 52 26) ≡ true
  pub d : within_five (at sent 78 26) (at stood 78 26) ≡ true
  pub count : k ≡ differs (at sent 0 26) (at stood 0 26) + (differs (at sent 26 26) (at stood 26 26) + (differs (at sent 52 26) (at stood 52 26) + differs (at sent 78 26) (at stood 78 26)))

-- the frame f stands at the head of l with k blocks damaged, and the rest behind it is as it should be
pub record Heads (f : List ℕ) (k : ℕ) (l : List ℕ) (Rest : List ℕ → Type 0) : Type 0 where
  pub stood : List ℕ
  pub behind : List ℕ
  pub there : l ≡ stood ++ behind
  pub damage : Damaged (frame_bits f) stood k
  pub rest : Rest behind

-- l is these frames sent back to back, each with so many of its blocks damaged, and nothing else
abbrev pub BackToBack : List (List ℕ) → List ℕ → List ℕ → Type 0
BackToBack [] [] l = l ≡ []
BackToBack [] (k ∷ ks) l = ⊥
BackToBack (f ∷ fs) [] l = ⊥
BackToBack (f ∷ fs) (k ∷ ks) l = Heads f k l (BackToBack fs ks)

-- the frame f stands in l with k blocks damaged, whatever is before it: with none, it stands as it was sent
pub record Standing (f : List ℕ) (k : ℕ) (l : List ℕ) (Rest : List ℕ → Type 0) : Type 0 where
  pub before : List ℕ
  pub from : List ℕ
  pub there : l ≡ before ++ from
  pub here : Heads f k from Rest
  pub clean : k ≡ 0 → here.stood ≡ frame_bits f

-- the frames stand in the bits one behind the other, none over another
abbrev pub StandIn : List (List ℕ) → List ℕ → List ℕ → Type 0
StandIn [] [] l = Unit
StandIn [] (k ∷ ks) l = ⊥
StandIn (f ∷ fs) [] l = ⊥
StandIn (f ∷ fs) (k ∷ ks) l = Standing f k l (StandIn fs ks)

-- ---- places
-- of the starts from `from` on, only the first can directly follow a frame
abbrev pub follows_at : Bool → ℕ → ℕ → Bool
follows_at follows from p = follows && eqb p from

-- f is the frame at place p of l, the earliest that is handed out from `from` on, with k blocks mended; and what is said of the bits behind it holds
pub record Next (l : List ℕ) (follows : Bool) (from p : ℕ) (f : List ℕ) (k : ℕ) (Rest : ℕ → Type 0) : Type 0 where
  pub later : from ≤ p
  pub room : p + 104 ≤ length l
  pub none : (j : ℕ) → from ≤ j → j < p → is_taken (follows_at follows from j) (drop j l) ≡ false
  pub frame : is_taken (follows_at follows from p) (drop p l) ≡ true
  pub info : f ≡ taken_bytes (follows_at follows from p) (drop p l)
  pub count : k ≡ taken_count (follows_at follows from p) (drop p l)
  pub rest : Rest (p + 104)

-- The frames fs stand at the places ps of l, in order, with so many blocks mended: each is the earliest from where the one before it ended, at a start
-- that follows it, the first from `from` on, and behind the last there is none.
abbrev pub Earliest : List ℕ → Bool → ℕ → List ℕ → List (List ℕ) → List ℕ → Type 0
Earliest l follows from [] [] [] = (k : ℕ) → from ≤ k → k + 104 ≤ length l → is_taken (follows_at follows from k) (drop k l) ≡ false
Earliest l follows from [] [] (k ∷ ks) = ⊥
Earliest l follows from [] (f ∷ fs) ks = ⊥
Earliest l follows from (p ∷ ps) [] ks = ⊥
Earliest l follows from (p ∷ ps) (f ∷ fs) [] = ⊥
Earliest l follows from (p ∷ ps) (f ∷ fs) (k ∷ ks) = Next l follows from p f k (λ q. Earliest l true q ps fs ks)

-- frames, and the places at which they stand so, from a place on
pub record Places (l : List ℕ) (follows : Bool) (from : ℕ) (fs : List (List ℕ)) (ks : List ℕ) : Type 0 where
  pub places : List ℕ
  pub earliest : Earliest l follows from places fs ks

-- The 104 bits at place k are handed out, k being the place of one of the frames; or they overlap a frame that is handed out and began before them.
abbrev pub Kept : ℕ → List ℕ → Type 0
Kept k [] = ⊥
Kept k (p ∷ ps) = ((k ≡ p) ⊎ ((p < k) × (k < p + 104))) ⊎ Kept k ps
