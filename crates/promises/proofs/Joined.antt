-- What the frames of a packet carry, joined, is a whole packet. Assumes nothing.
use mathlib.Core.Path.{◌≡◌, refl, sym, ap, ap₂, ◌∙◌}
use mathlib.Core.Bool.{true}
use mathlib.Core.List.{List, [], ◌∷◌, ◌++◌, append_assoc}
use Prim.Native.Nat.{ℕ, zero, suc, ◌+◌, ◌-◌, ◌*◌, ◌/◌, ◌%◌, ◌^◌, ◌≤◌}
use native.Mathlib.Omega.{arith}
use lib.ListN.{length, get_or, take, drop, replicate, length-append, get_or-append}
use lib.Seq.{take_at, drop_at, get_or-append_seam, get_or-append-add}
use borrow.Author.Tests.{eq-eqb, le-leb}
use Rattle.laws.specs.Scan.{all}
use Rattle.laws.proofs.Bits.{Under}
use Rattle.laws.proofs.Cases.{and_yes}
use Rattle.crc.specs.Crc16.{crc16}
use Rattle.size.specs.Size.{packet_size}
use Rattle.size.proofs.Size.{size_bytes}
use Rattle.air.specs.OnAir.{frames_for, with_check}
use Rattle.collector.specs.Whole.{sized, checked, is_fill, filled, passes}
use Rattle.promises.proofs.Sent.{Taken}

abbrev ones : ℕ → List ℕ
ones k = replicate k 0xFF

-- n elements from place i on, all ones past the end
unfoldable pub pad_from : List ℕ → ℕ → ℕ → List ℕ
pad_from xs i zero = []
pad_from xs i (suc n) = get_or xs i 0xFF ∷ pad_from xs (i + 1) n

pub pad_on : (xs : List ℕ) (n m i : ℕ) → pad_from xs i n ++ pad_from xs (i + n) m ≡ pad_from xs i (n + m)
unfolding pad_from
pad_on xs zero m i =
    let e : i + 0 ≡ i = omega arith in
    let z : 0 + m ≡ m = omega arith in
    ap (λ (j : ℕ). pad_from xs j m) e ∙ ap (pad_from xs i) (sym z)
pad_on xs (suc n) m i =
    let e : i + suc n ≡ i + 1 + n = omega arith in
    let z : suc n + m ≡ suc (n + m) = omega arith in
    ap (λ (l : List ℕ). get_or xs i 0xFF ∷ l) (ap (λ (j : ℕ). pad_from xs (i + 1) n ++ pad_from xs j m) e ∙ pad_on xs n m (i + 1))
    ∙ ap (pad_from xs i) (sym z)

pub pad_four : (xs : List ℕ) (j : ℕ) → pad_from xs j 4 ≡ get_or xs j 0xFF ∷ get_or xs (j + 1) 0xFF ∷ get_or xs (j + 2) 0xFF ∷ get_or xs (j + 3) 0xFF ∷ []
unfolding pad_from
pad_four xs j =
    let e₂ : j + 1 + 1 ≡ j + 2 = omega arith in
    let e₃ : j + 2 + 1 ≡ j + 3 = omega arith in
    rw (e₂, e₃)

shift : (x : ℕ) (xs : List ℕ) (n i : ℕ) → pad_from (x ∷ xs) (suc i) n ≡ pad_from xs i n
unfolding pad_from
shift x xs zero i = refl
shift x xs (suc n) i =
    let e : suc i + 1 ≡ suc (i + 1) = omega arith in
    ap (λ (l : List ℕ). get_or xs i 0xFF ∷ l) (ap (λ (j : ℕ). pad_from (x ∷ xs) j n) e ∙ shift x xs n (i + 1))

all_fill : (n i : ℕ) → pad_from [] i n ≡ ones n
unfolding pad_from
all_fill zero i = refl
all_fill (suc n) i = ap (λ (l : List ℕ). 0xFF ∷ l) (all_fill n (i + 1))

pub pad_whole : (xs : List ℕ) (k : ℕ) → pad_from xs 0 (length xs + k) ≡ xs ++ ones k
unfolding pad_from
pad_whole [] k = let z : 0 + k ≡ k = omega arith in ap (pad_from [] 0) z ∙ all_fill k 0
pad_whole (x ∷ xs) k =
    let z : suc (length xs) + k ≡ suc (length xs + k) = omega arith in
    ap (pad_from (x ∷ xs) 0) z ∙ ap (λ (l : List ℕ). x ∷ l) (shift x xs (length xs + k) 0 ∙ pad_whole xs k)

fills : (k : ℕ) → all is_fill (ones k) ≡ true
fills zero = refl
fills (suc k) = fills k

length_fill : (k : ℕ) → length (ones k) ≡ k
length_fill zero = refl
length_fill (suc k) = ap suc (length_fill k)

module _ (p : List ℕ) (l v : ℕ) (u : Under 256 p) (t : Taken p l v) where
  -- the packet, its check, so much fill
  abbrev hi : ℕ
  hi = crc16 p / 2 ^ 8

  abbrev lo : ℕ
  lo = crc16 p % 2 ^ 8

  abbrev pub behind : ℕ → List ℕ
  behind k = hi ∷ lo ∷ ones k

  pub size_is : (r : List ℕ) → packet_size (p ++ r) ≡ length p
  size_is r =
      let a = t.long in
      let e₀ : get_or (p ++ r) 0 0 ≡ get_or p 0 0 = get_or-append p r 0 0 (omega arith) in
      let e₁ : get_or (p ++ r) 1 0 ≡ get_or p 1 0 = get_or-append p r 0 1 (omega arith) in
      let s = t.stated in
      omega (arith, size_bytes (p ++ r), size_bytes p)

  pub passes_is : (k : ℕ) → k ≤ 3 → passes (p ++ behind k) ≡ true
  unfolding passes sized checked filled
  passes_is k h =
      let n = size_is (behind k) in
      let a : length (p ++ behind k) ≡ length p + (2 + k) = length-append p (behind k) ∙ omega (arith, length_fill k) in
      let e : take (packet_size (p ++ behind k)) (p ++ behind k) ≡ p = ap (λ (j : ℕ). take j (p ++ behind k)) n ∙ take_at p (behind k) (length p) refl in
      let g₀ : get_or (p ++ behind k) (packet_size (p ++ behind k)) 0 ≡ hi = ap (λ (j : ℕ). get_or (p ++ behind k) j 0) n ∙ get_or-append_seam p hi (lo ∷ ones k) 0 in
      let g₁ : get_or (p ++ behind k) (packet_size (p ++ behind k) + 1) 0 ≡ lo = ap (λ (j : ℕ). get_or (p ++ behind k) (j + 1) 0) n ∙ get_or-append-add p (behind k) 1 0 in
      let d : drop (packet_size (p ++ behind k) + 2) (p ++ behind k) ≡ ones k = ap (λ (j : ℕ). drop (j + 2) (p ++ behind k)) n ∙ rest k in
      let low : packet_size (p ++ behind k) + 2 ≤ length (p ++ behind k) = omega arith in
      let high : length (p ++ behind k) ≤ packet_size (p ++ behind k) + 5 = omega arith in
      and_yes _ (and_yes _ (le-leb _ _ low) ∙ le-leb _ _ high)
      ∙ and_yes _ (eq-eqb _ _ (ap crc16 e ∙ (let w : crc16 p ≡ hi * 256 + lo = omega arith in w ∙ ap₂ (λ (x y : ℕ). x * 256 + y) (sym g₀) (sym g₁))))
      ∙ ap (all is_fill) d
      ∙ fills k
    where
      rest : (k : ℕ) → drop (length p + 2) (p ++ behind k) ≡ ones k
      rest k =
          ap (drop (length p + 2)) (sym (append_assoc p (hi ∷ lo ∷ []) (ones k)))
          ∙ drop_at (p ++ (hi ∷ lo ∷ [])) (ones k) (length p + 2) (length-append p (hi ∷ lo ∷ []))

  abbrev pub fill : ℕ
  fill = 4 * frames_for (length p) - (length p + 2)

  pub fill_small : fill ≤ 3
  unfolding frames_for
  fill_small = omega arith

  -- what all frames carry
  pub carried_whole : pad_from (with_check p) 0 (4 * frames_for (length p)) ≡ p ++ behind fill
  unfolding with_check frames_for
  carried_whole =
      let n : length (with_check p) ≡ length p + 2 = length-append p (hi ∷ lo ∷ []) in
      let e : 4 * frames_for (length p) ≡ length (with_check p) + fill = omega arith in
      ap (pad_from (with_check p) 0) e ∙ pad_whole (with_check p) fill ∙ append_assoc p (hi ∷ lo ∷ []) (ones fill)
