-- A soup determines every bit of its digest.
use Rattle.std.proofs.Common.{◌≡◌, ◌∙◌, ap, sym, subst₂, ℕ, zero, suc, ◌+◌, ◌-◌, ◌*◌, ◌/◌, ◌%◌, ◌^◌, ◌<◌, ◌==◌, List}
use Rattle.std.proofs.Common.{All, length, get_or, decimal, ◌++◌, pos, arith, slice_index}
use Rattle.std.specs.Int.{byte_at, bytes_high_first, to_be_bytes, w32}
use Rattle.std.proofs.lemmas.Bool.Decides.{nat_tests}
use Rattle.std.proofs.lemmas.List.{ext_get_or}
use Rattle.std.proofs.lemmas.List.Elements.{All-append, All-cons, All-nil}
use Rattle.std.proofs.lemmas.Nat.Bits.{same_from_bits_below}
use Rattle.sha2.specs.Sha256.{digest_bytes, final_hash, initial_hash_256, sha256}
use Rattle.sha2.proofs.Facts256.{length-sha256}
use Rattle.plane_core.specs.declared.plane.cell.Cell.{Cell}
use Rattle.plane_core.specs.plane.Cells.{cell_at, has}
use Rattle.survey_core.specs.Soups.{is_set}
use Rattle.survey_core.proofs.lemmas.SoupLemmas.{soups_by_cells}
use Rattle.laws.specs.Soups.{SoupsAreFaithful}

-- the number is a byte
abbrev IsByte : ℕ → Type 0
IsByte b = b < 256

byte_at-small : (k n : ℕ) → IsByte (byte_at k n)
byte_at-small zero n = omega arith
byte_at-small (suc k) n = omega arith

bytes_small : (k n : ℕ) → All IsByte (bytes_high_first k n)
bytes_small zero n = All-nil IsByte
bytes_small (suc k) n = All-cons IsByte (byte_at k n) (bytes_high_first k n) (byte_at-small k n) (bytes_small k n)

digest_small : (h : List ℕ) (n : ℕ) → All IsByte (digest_bytes h n)
unfolding digest_bytes
digest_small h zero = All-nil IsByte
digest_small h (suc n) = All-append IsByte (digest_bytes h n) (to_be_bytes w32 (slice_index h n)) (digest_small h n) (bytes_small 4 (slice_index h n))

sha256_small : (message : List ℕ) → All IsByte (sha256 message)
unfolding sha256
sha256_small message = digest_small (final_hash initial_hash_256 message) 8

same_bit : (a b : ℕ) → (a % 2 == 1) ≡ (b % 2 == 1) → a % 2 ≡ b % 2
same_bit a b e = bits (a % 2) (b % 2) (omega arith) (omega arith) e
  where
    bits : (m n : ℕ) → m < 2 → n < 2 → (m == 1) ≡ (n == 1) → m ≡ n
    bits m n low less e = grind (arith, nat_tests)

-- two digests are equal if they have the same bit for each cell of the 16 by 16 square
same_digests : (one other : List ℕ) → length one ≡ 32 → length other ≡ 32 → All IsByte one → All IsByte other
    → ((x y : ℕ) → x < 16 → y < 16 → is_set one x y ≡ is_set other x y) → one ≡ other
same_digests one other long wide small low same =
    ext_get_or 0 one other (long ∙ sym wide) (λ k within.
    same_from_bits_below 8 (get_or one k 0) (get_or other k 0) (small k 0 within) (low k 0 (omega arith)) (λ i bit. at k i (omega arith) bit))
  where
    at : (k i : ℕ) → k < 32 → i < 8 → get_or one k 0 / 2 ^ i % 2 ≡ get_or other k 0 / 2 ^ i % 2
    at k i within bit =
        let x = 8 * (k % 2) + (7 - i) in
        let byte : 2 * (k / 2) + (8 * (k % 2) + (7 - i)) / 8 ≡ k = omega arith in
        let place : 7 - (8 * (k % 2) + (7 - i)) % 8 ≡ i = omega arith in
        same_bit (get_or one k 0 / 2 ^ i) (get_or other k 0 / 2 ^ i)
        (subst₂ (λ (b p : ℕ). (slice_index one b / 2 ^ p % 2 == 1) ≡ (slice_index other b / 2 ^ p % 2 == 1)) byte place
        (same (8 * (k % 2) + (7 - i)) (k / 2) (omega arith) (omega arith)))

pub soups_are_faithful : SoupsAreFaithful
soups_are_faithful seed other n m same =
    same_digests (sha256 (seed ++ decimal n)) (sha256 (other ++ decimal m)) (length-sha256 _) (length-sha256 _) (sha256_small _) (sha256_small _)
    (λ x y in_row in_column. sym (soups_by_cells seed n x y in_row in_column) ∙ ap (λ (cells : List Cell). has cells (cell_at (pos x) (pos y))) same
    ∙ soups_by_cells other m x y in_row in_column)
