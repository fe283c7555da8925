-- Packets lent in any order as one text, and what joining them answers (paper 02, K1).
use Rattle.std.specs.Prelude.{Result, ℕ, zero, suc, ◌+◌, List, [], ◌∷◌, ◌++◌, Bool, true, cond, not, ◌&&◌, length, take, drop, get_or, leb, ltb, eqb}
use Rattle.laws.specs.Refusals.{Case, first}
use Rattle.laws.specs.Scan.{all}
use Rattle.laws.specs.Lists.{same}
use Rattle.size.specs.Size.{packet_size}
use Rattle.packet.specs.Content.{numbers_of}
use Rattle.packet.specs.Reading.{opened, body_of, text_answer}
use Rattle.packet.specs.Writing.{output_by}
use Rattle.refusal.specs.declared.Refusal.{Refusal}
use Rattle.refusal.specs.Refusal.{answer_of, value_or}
use Rattle.story.specs.Telling.{head_of, last_four}

-- ---- the packets that are lent: cut by their length fields, n at most; one that is cut short the reader refuses
unfoldable pub cut : ℕ → List ℕ → List (List ℕ)
cut zero b = []
cut (suc n) [] = []
cut (suc n) (x ∷ b) = take (packet_size (x ∷ b)) (x ∷ b) ∷ cut n (drop (packet_size (x ∷ b)) (x ∷ b))

-- ten at most: ten are too many, however many more there are
abbrev pub lent : List ℕ → List (List ℕ)
lent b = cut 10 b

-- ---- a part
-- the character set: the second number of a text's content
abbrev pub set_in : List ℕ → ℕ
set_in b = get_or (numbers_of (opened b).fields.content) 1 0

-- the reader takes it as type 15, and its set is 0
unfoldable pub is_part : List ℕ → Bool
is_part b = eqb (text_answer b) 0 && eqb (set_in b) 0

-- its message number
abbrev pub digits_of : List ℕ → List ℕ
digits_of b = (opened b).fields.digits

-- its body begins with the head h
unfoldable pub headed : List ℕ → List ℕ → Bool
headed h b = same h (take 4 (body_of b))

-- ---- the parts in their order
-- the first that has the head h; where none has, no byte, which is no part
unfoldable pub with_head : List ℕ → List (List ℕ) → List ℕ
with_head h [] = []
with_head h (b ∷ bs) = cond (headed h b) b (with_head h bs)

-- m parts of n from the one with k before it on, as they are found among bs
unfoldable pub found : ℕ → List (List ℕ) → ℕ → ℕ → List (List ℕ)
found n bs k zero = []
found n bs k (suc m) = with_head (head_of (k + 1) n) bs ∷ found n bs (k + 1) m

-- parts 1 to the total, which is the number of packets: so each is there once
abbrev pub in_order : List (List ℕ) → List (List ℕ)
in_order bs = found (length bs) bs 0 (length bs)

-- the number d is k after ds: 31 digits the same, the last four k more
abbrev pub is_after : List ℕ → List ℕ → ℕ → Bool
is_after d ds k = same (take 31 d) (take 31 ds) && eqb (last_four d) (last_four ds + k)

-- message numbers in step with ds, which has k before the first of bs
unfoldable pub in_step : List ℕ → ℕ → List (List ℕ) → Bool
in_step ds k [] = true
in_step ds k (b ∷ bs) = is_after (digits_of b) ds k && in_step ds (k + 1) bs

-- in step with the first of them
abbrev pub all_in_step : List (List ℕ) → Bool
all_in_step [] = true
all_in_step (b ∷ bs) = in_step (digits_of b) 0 (b ∷ bs)

-- one to nine packets, each a part, every part of the total among them, numbers in step
unfoldable pub joinable : List (List ℕ) → Bool
joinable bs = (leb 1 (length bs) && leb (length bs) 9) && (all is_part bs && (all is_part (in_order bs) && all_in_step (in_order bs)))

-- the texts behind the heads, one behind the other
unfoldable pub texts : List (List ℕ) → List ℕ
texts [] = []
texts (b ∷ bs) = drop 4 (body_of b) ++ texts bs

-- ---- the answer: 33, 10
abbrev pub text_in : List ℕ → List ℕ
text_in b = texts (in_order (lent b))

-- the cases of `join`
abbrev pub join_cases : List ℕ → ℕ → List Case
join_cases b room = (not (joinable (lent b)), 33) ∷ (ltb room (length (text_in b)), 10) ∷ []

-- its number
unfoldable pub join_answer : List ℕ → ℕ → ℕ
join_answer b room = first (join_cases b room)

-- ---- what is given back
-- a number given back and how many bytes of text
pub record Joined : Type 0 where
  pub answer : ℕ
  pub length : ℕ

-- the two that a result tells: beside a refusal the length is 0
abbrev pub joined_as : Result ℕ Refusal → Joined
joined_as r = record { answer = answer_of r; length = value_or 0 r }

abbrev pub joined_by : ℕ → ℕ → Joined
joined_by zero m = record { answer = 0; length = m }
joined_by (suc a) m = record { answer = suc a; length = 0 }

-- what `join` gives
unfoldable pub joined : List ℕ → ℕ → Joined
joined b room = joined_by (join_answer b room) (length (text_in b))

-- what it leaves in the lent output
unfoldable pub join_output : List ℕ → List ℕ → List ℕ
join_output b out = output_by (join_answer b (length out)) (text_in b) out
