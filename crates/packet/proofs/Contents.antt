-- Contents and their numbers, a line a type; and what is repeated in each kind. Assumes nothing.
use mathlib.Core.Path.{◌≡◌, refl, sym, ap, ◌∙◌, subst}
use mathlib.Core.Bool.{Bool, true, false, not, cond, ◌&&◌, true≢false}
use mathlib.Core.List.{List, [], ◌∷◌, ◌++◌}
use Prim.Native.Nat.{ℕ, zero, suc, ◌+◌, ◌%◌, ◌<◌, ◌≤◌}
use native.Mathlib.Nat.{zero-mod}
use native.Mathlib.Omega.{arith}
use lib.Dec.{ltb, eqb}
use lib.ListN.{length, get_or, take, drop}
use lib.Seq.{drop-cons}
use borrow.Author.Tests.{ltb-true, eqb-true, not-true}
use Rattle.laws.specs.Scan.{all}
use Rattle.laws.proofs.Cases.{if_yes, and_left, and_right}
use Rattle.format.specs.Format.{octets}
use Rattle.packet.specs.declared.Kind.{Kind}
use Rattle.packet.specs.declared.Kind.TheVariants as kind
use Rattle.packet.specs.declared.Content.{Content}
use Rattle.packet.specs.declared.Content.TheVariants as content
use Rattle.packet.specs.declared.Counting.TheVariants as counting
use Rattle.packet.specs.Table.{kinds, type_of, row_of, count_by}
use Rattle.packet.specs.Content.{Parts, parts_of, content_of, kind_for, numbers_of, numbers_in, count_for}
use Rattle.packet.specs.Reading.{has_entries, unknown_by, is_unknown}
use Rattle.packet.specs.InCode.{room, cut}
use Rattle.packet.proofs.ByType.{same_kind}
use Rattle.packet.proofs.Each.{each_kind}
use Rattle.packet.proofs.Good.{raw_by}

-- a content comes back from its numbers, whatever stands after them, and its count
pub content_back : (c : Content) (rest body : List ℕ) → content_of (kind_for c) (numbers_of c ++ rest) (count_for c body) ≡ c
content_back content.Raw rest body = refl
content_back (content.Frequencies k) rest body = refl
content_back (content.Address m) rest body = refl
content_back (content.Keep on period) rest body = refl
content_back (content.Clock year month day hour minute second) rest body = refl
content_back (content.Reset change) rest body = refl
content_back content.Factory rest body = refl
content_back (content.Drill action) rest body = refl
content_back (content.Text kind set t) rest body = refl
content_back (content.Hold serial) rest body = refl

-- n numbers of xs from the i-th on, 0 past the last
abbrev pub listed : ℕ → ℕ → List ℕ → List ℕ
listed zero i xs = []
listed (suc n) i xs = get_or xs i 0 ∷ listed n (suc i) xs

pub listed_take : (n i : ℕ) (xs : List ℕ) → i + n ≤ length xs → listed n i xs ≡ take n (drop i xs)
listed_take zero i xs h = refl
listed_take (suc n) i xs h = ap (λ (l : List ℕ). get_or xs i 0 ∷ l) (listed_take n (suc i) xs (omega arith)) ∙ ap (take (suc n)) (sym (drop-cons xs i 0 (omega arith)))

-- a content made of numbers and a count is of its kind, and has these again
pub parts_back : (f : Kind) (xs : List ℕ) (k : ℕ) → is_unknown f ≡ false → parts_of (content_of f xs k) ≡ record { kind = f; numbers = listed (numbers_in f) 0 xs; count = count_by (row_of f).counting k 0 }
parts_back kind.Frequencies xs k h = refl
parts_back kind.Address xs k h = refl
parts_back kind.Keep xs k h = refl
parts_back kind.Clock xs k h = refl
parts_back kind.Reset xs k h = refl
parts_back kind.Factory xs k h = refl
parts_back kind.Drill xs k h = refl
parts_back kind.Text xs k h = refl
parts_back kind.Hold xs k h = refl
parts_back kind.Raw xs k h = refl
parts_back kind.Unknown xs k h = absurd (true≢false h)

pub kind_back : (f : Kind) (xs : List ℕ) (k : ℕ) → is_unknown f ≡ false → kind_for (content_of f xs k) ≡ f
kind_back f xs k h = ap (λ (p : Parts). p.kind) (parts_back f xs k h)

pub numbers_back : (f : Kind) (xs : List ℕ) (k : ℕ) → is_unknown f ≡ false → numbers_in f ≤ length xs → numbers_of (content_of f xs k) ≡ take (numbers_in f) xs
numbers_back f xs k h l = ap (λ (p : Parts). p.numbers) (parts_back f xs k h) ∙ listed_take (numbers_in f) 0 xs (omega arith)

-- it is of a known kind
known_back : List ℕ → ℕ → Kind → Bool
known_back xs k f = not (is_unknown (kind_for (content_of f xs k)))

all_known : (xs : List ℕ) (k : ℕ) → all (known_back xs k) kinds ≡ true
unfolding known_back
all_known xs k = refl

pub content_known : (c : Content) → (row_of (kind_for c)).counting ≡ counting.Unknown → ⊥
unfolding known_back
content_known c h =
    let g = subst (λ (d : Content). not (is_unknown (kind_for d)) ≡ true) (content_back c [] []) (each_kind (known_back (numbers_of c ++ []) (count_for c [])) (all_known (numbers_of c ++ []) (count_for c [])) (kind_for c)) in
    absurd (true≢false (sym (ap unknown_by h) ∙ not-true (is_unknown (kind_for c)) g))

-- it has as many numbers as its kind
as_many : List ℕ → ℕ → Kind → Bool
as_many xs k f = eqb (length (numbers_of (content_of f xs k))) (numbers_in f)

all_long : (xs : List ℕ) (k : ℕ) → all (as_many xs k) kinds ≡ true
unfolding as_many
all_long xs k = refl

pub length_back : (f : Kind) (xs : List ℕ) (k : ℕ) → length (numbers_of (content_of f xs k)) ≡ numbers_in f
unfolding as_many
length_back f xs k = eqb-true _ _ (each_kind (as_many xs k) (all_long xs k) f)

pub numbers_long : (c : Content) → length (numbers_of c) ≡ numbers_in (kind_for c)
numbers_long c = ap (λ (d : Content). length (numbers_of d)) (sym (content_back c [] [])) ∙ length_back (kind_for c) (numbers_of c ++ []) (count_for c [])

-- what is repeated: entries, bytes, or nothing
pub data Repeated : Kind → Type 0 where
  entries : {f : Kind} → has_entries f ≡ true → (row_of f).counting ≡ counting.Counted → Repeated f
  octet : {f : Kind} → has_entries f ≡ false → (row_of f).each ≡ octets 1 ∷ [] → Repeated f
  nothing : {f : Kind} → has_entries f ≡ false → (row_of f).each ≡ [] → ((k m : ℕ) → count_by (row_of f).counting k m ≡ 0) → Repeated f

pub repeated : (f : Kind) → Repeated f
repeated kind.Frequencies = entries refl refl
repeated kind.Address = octet refl refl
repeated kind.Keep = nothing refl refl (λ k m. refl)
repeated kind.Clock = nothing refl refl (λ k m. refl)
repeated kind.Reset = nothing refl refl (λ k m. refl)
repeated kind.Factory = nothing refl refl (λ k m. refl)
repeated kind.Drill = nothing refl refl (λ k m. refl)
repeated kind.Text = octet refl refl
repeated kind.Hold = nothing refl refl (λ k m. refl)
repeated kind.Raw = octet refl refl
repeated kind.Unknown = nothing refl refl (λ k m. refl)

-- only frequencies have entries, and only raw contents are counted so
of_its_type : Kind → Bool
of_its_type f = cond (has_entries f) (eqb (type_of f) 0) true && cond (raw_by (row_of f).counting) (eqb (type_of f) 4) true

one_type : all of_its_type kinds ≡ true
unfolding of_its_type
one_type = refl

pub entries_only : (f : Kind) → has_entries f ≡ true → f ≡ kind.Frequencies
unfolding of_its_type
entries_only f h = same_kind f kind.Frequencies (eqb-true (type_of f) 0 (sym (if_yes (eqb (type_of f) 0) true h) ∙ and_left _ _ (each_kind of_its_type one_type f)))

pub raw_only : (f : Kind) → (row_of f).counting ≡ counting.Raw → f ≡ kind.Raw
unfolding of_its_type
raw_only f h = same_kind f kind.Raw (eqb-true (type_of f) 4 (sym (if_yes (eqb (type_of f) 4) true (ap raw_by h)) ∙ and_right (cond (has_entries f) (eqb (type_of f) 0) true) _ (each_kind of_its_type one_type f)))

-- ---- in code: a content laid out, and numbers cut to the room of their fields
cut_below : (ws xs : List ℕ) (i : ℕ) → i < length ws → get_or (cut ws xs) i 0 ≡ get_or xs i 0 % room (get_or ws i 0)
unfolding cut
cut_below [] xs i h = absurd (omega arith)
cut_below (w ∷ ws) [] i h = sym (zero-mod (room (get_or (w ∷ ws) i 0)))
cut_below (w ∷ ws) (x ∷ xs) zero h = refl
cut_below (w ∷ ws) (x ∷ xs) (suc i) h = cut_below ws xs i (omega arith)

pub cut_at : (ws xs : List ℕ) (i : ℕ) → ltb i (length ws) ≡ true → get_or (cut ws xs) i 0 ≡ get_or xs i 0 % room (get_or ws i 0)
cut_at ws xs i h = cut_below ws xs i (ltb-true i (length ws) h)
