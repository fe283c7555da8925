-- What is put byte by byte: a code, codes, a time. Assumes nothing.
use mathlib.Core.Path.{◌≡◌, refl, sym, ap, ap₂, ◌∙◌}
use mathlib.Core.List.{List, [], ◌∷◌, ◌++◌, append-nil, append_assoc}
use Prim.Native.Nat.{ℕ, suc, ◌+◌, ◌*◌, ◌/◌, ◌%◌, ◌<◌, ◌≤◌}
use native.Mathlib.Numerals.{add-one}
use native.Mathlib.Omega.{arith}
use lib.ListN.{length, get_or, set, take, drop, length-drop}
use lib.Seq.{sets, drop-cons}
use Rattle.std.specs.Int.{to_be_bytes}
use mir.Syntax.{w32}
use Rattle.laws.specs.Bits.{bits, bits_of, spread, Under}
use Rattle.laws.specs.Strips.{strips}
use Rattle.laws.proofs.Bits.{length_bits_of}
use Rattle.laws.proofs.Strips.{row_below, strips_whole}
use Rattle.laws.proofs.Words.{bits_join}
use Rattle.laws.proofs.Writes.{join, sets_append}
use Rattle.format.specs.Format.{size, encode, fill, times}
use Rattle.format.proofs.Halves.{bits_set}
use Rattle.format.proofs.Parts.{bits_low}
use Rattle.packet.specs.Table.{code}
use Rattle.writer.specs.Puts.{After}
use Rattle.writer.specs.Parts.{code_bits}
use Rattle.writer.proofs.Rows.{encode_size}
use Rattle.writer.proofs.ByColumn.{rows_bits}
use Rattle.writer.proofs.Beside.{strips_turn}
use Rattle.writer.proofs.Together.{code_need, code_size}

-- ---- a code: four reserved bits and a digit, then two digits a byte
code_cons : (x : ℕ) (ys : List ℕ) → code_bits (x ∷ ys) ≡ bits_of 4 15 ++ (bits_of 4 x ++ spread 4 (take 22 ys))
unfolding code_bits encode fill spread
code_cons x ys = ap₂ (λ (a b : List ℕ). a ++ b) (append-nil (bits_of 4 15)) (append-nil (bits_of 4 x ++ spread 4 (take 22 ys)))

code_is : (xs : List ℕ) (i : ℕ) → i < length xs → bits_of 8 (240 + get_or xs i 0 % 16) ++ spread 4 (take (2 * 11) (drop (i + 1) xs)) ≡ code_bits (drop i xs)
code_is xs i h =
    let x = get_or xs i 0 in
    let ys = drop (i + 1) xs in
    let e : 240 + x % 16 ≡ 15 * 16 + x % 16 = omega arith in
    let first : bits_of 8 (240 + x % 16) ≡ bits_of 4 15 ++ bits_of 4 x = ap (bits_of 8) e ∙ bits_join 4 4 15 (x % 16) (omega arith) ∙ ap (λ (l : List ℕ). bits_of 4 15 ++ l) (bits_low 4 x) in
    ap (λ (l : List ℕ). l ++ spread 4 (take 22 ys)) first
    ∙ append_assoc (bits_of 4 15) (bits_of 4 x) (spread 4 (take 22 ys))
    ∙ sym (ap code_bits (drop-cons xs i 0 h ∙ ap (λ (n : ℕ). x ∷ drop n xs) (sym (add-one i))) ∙ code_cons x ys)

pub code_put : (o u r xs : List ℕ) (k i : ℕ) → i + 23 ≤ length xs → u ≡ set o k (240 + get_or xs i 0 % 16) → bits r ≡ sets (bits u) ((k + 1) * 8) (spread 4 (take (2 * 11) (drop (i + 1) xs))) → bits r ≡ sets (bits o) (k * 8) (code_bits (drop i xs))
code_put o u r xs k i h e f =
    let y = 240 + get_or xs i 0 % 16 in
    join (bits o) (bits u) (bits r) (bits_of 8 y) (spread 4 (take (2 * 11) (drop (i + 1) xs))) (k * 8) ((k + 1) * 8) (ap bits e ∙ bits_set o k y (omega arith)) f (omega (arith, length_bits_of 8 y))
    ∙ ap (sets (bits o) (k * 8)) (code_is xs i (omega arith))

-- ---- codes, j of them put
pub coding_turn : (out₀ xs out last : List ℕ) (j : ℕ) → bits out ≡ strips (bits out₀) 24 96 j (λ (r : ℕ). code_bits (drop (r * 23) xs)) → bits last ≡ sets (bits out) ((3 + 12 * j) * 8) (code_bits (drop (23 * j) xs))
    → bits last ≡ strips (bits out₀) 24 96 (j + 1) (λ (r : ℕ). code_bits (drop (r * 23) xs))
coding_turn out₀ xs out last j g e =
    let s : 23 * j ≡ j * 23 = omega arith in
    strips_turn (bits out₀) (bits out) (bits last) (code_bits (drop (23 * j) xs)) 24 96 j ((3 + 12 * j) * 8) (λ (r : ℕ). code_bits (drop (r * 23) xs)) g (omega arith) (ap (λ (m : ℕ). code_bits (drop m xs)) s) e

pub coding_last : (out₀ : List ℕ) (n : ℕ) (xs out : List ℕ) → length xs ≡ n * 23 → bits out ≡ strips (bits out₀) 24 96 n (λ (r : ℕ). code_bits (drop (r * 23) xs)) → After out₀ out 24 (encode (times n code) (fill (times n code) xs)) (24 + 96 * n) (n * size code)
unfolding code_bits
coding_last out₀ n xs out l g =
    let f : ℕ → List ℕ = λ (r : ℕ). encode code (fill code (drop (r * 23) xs)) in
    let long : (r : ℕ) → r < n → length (f r) ≡ 96 = λ r m. encode_size code (drop (r * 23) xs) (omega (arith, length-drop (r * 23) xs, row_below r n 23 m, l, code_need)) ∙ code_size in
    record {
      put = g ∙ strips_whole n f (bits out₀) 24 96 long ∙ ap (sets (bits out₀) 24) (sym (rows_bits code 23 code_need n xs l));
      place = omega (arith, ap (λ (m : ℕ). n * m) code_size);
    }

-- ---- a time: four bytes
cut_byte : (v x : ℕ) → bits_of (v + 8) x ≡ bits_of v (x / 256) ++ bits_of 8 (x % 256)
cut_byte v x = let e : x ≡ x / 256 * 256 + x % 256 = omega arith in ap (bits_of (v + 8)) e ∙ bits_join v 8 (x / 256) (x % 256) (omega arith)

time_parts : (t : ℕ) → ((bits_of 8 (t / 16777216) ++ bits_of 8 (t / 65536 % 256)) ++ bits_of 8 (t / 256 % 256)) ++ bits_of 8 (t % 256) ≡ bits_of 32 t
time_parts t =
    let a : t / 256 / 256 ≡ t / 65536 = omega arith in
    let b : t / 65536 / 256 ≡ t / 16777216 = omega arith in
    let two : bits_of 16 (t / 65536) ≡ bits_of 8 (t / 16777216) ++ bits_of 8 (t / 65536 % 256) = cut_byte 8 (t / 65536) ∙ ap (λ (x : ℕ). bits_of 8 x ++ bits_of 8 (t / 65536 % 256)) b in
    let three : bits_of 24 (t / 256) ≡ (bits_of 8 (t / 16777216) ++ bits_of 8 (t / 65536 % 256)) ++ bits_of 8 (t / 256 % 256) =
    cut_byte 16 (t / 256) ∙ ap (λ (x : ℕ). bits_of 16 x ++ bits_of 8 (t / 256 % 256)) a ∙ ap (λ (l : List ℕ). l ++ bits_of 8 (t / 256 % 256)) two in
    sym (cut_byte 24 t ∙ ap (λ (l : List ℕ). l ++ bits_of 8 (t % 256)) three)

pub time_bits : (t : ℕ) → t < 4294967296 → spread 8 (to_be_bytes w32 t) ≡ bits_of 32 t
unfolding spread
time_bits t h =
    let a : t / 16777216 % 256 ≡ t / 16777216 = omega arith in
    let A = bits_of 8 (t / 16777216) in
    let B = bits_of 8 (t / 65536 % 256) in
    let C = bits_of 8 (t / 256 % 256) in
    let D = bits_of 8 (t % 256) in
    ap (λ (n : ℕ). bits_of 8 n ++ (B ++ (C ++ (D ++ [])))) a
    ∙ ap (λ (l : List ℕ). A ++ (B ++ (C ++ l))) (append-nil D)
    ∙ sym (append_assoc (A ++ B) C D ∙ append_assoc A B (C ++ D))
    ∙ time_parts t

-- ---- bytes
pub bytes_put : (o d : List ℕ) (k : ℕ) → Under 256 d → bits (sets o k d) ≡ sets (bits o) (k * 8) (spread 8 d)
unfolding spread
bytes_put o [] k u = refl
bytes_put o (x ∷ d) k u =
    let n : suc k * 8 ≡ k * 8 + length (bits_of 8 x) = omega (arith, length_bits_of 8 x) in
    bytes_put (set o k x) d (suc k) (λ i. u (suc i))
    ∙ ap₂ (λ (l : List ℕ) (i : ℕ). sets l i (spread 8 d)) (bits_set o k x (u 0)) n
    ∙ sym (sets_append (bits_of 8 x) (spread 8 d) (bits o) (k * 8))
