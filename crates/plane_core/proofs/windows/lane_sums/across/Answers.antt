use Rattle.std.proofs.Common.{ℕ, ◌*◌, ◌/◌, ◌%◌, ◌^◌, arith, refl, replicate}
use lib.Lanes.{zip2}
use Rattle.plane_core.proofs.lemmas.windows.LaneLemmas.{four_lanes, lane_across, lane_pair}
use Rattle.plane_core.proofs.windows.lane_sums.across.Goals as goal

pub returns-clause-all : goal.returns-clause-all
returns-clause-all c j i low inside =
    omega (arith, c.added.ensures j i low, lane_across c.args.words j i c.fits-words.0 c.fits-words.1 low inside)

pub returns-clause-beside : goal.returns-clause-beside
returns-clause-beside c j i low =
    let left = zip2 (λ (a b : ℕ). a * 2 ^ b % 2 ^ 64) c.args.words (replicate 4 1) in
    let right = zip2 (λ (a b : ℕ). a / 2 ^ b) c.args.words (replicate 4 1) in
    omega (arith, c.added.ensures j i low, lane_pair left right j i (four_lanes _ c.args.words (replicate 4 1) c.fits-words.0 refl) (four_lanes _ c.args.words (replicate 4 1) c.fits-words.0 refl) low)
