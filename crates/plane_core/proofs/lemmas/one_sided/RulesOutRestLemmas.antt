-- One cluster proves that a pattern shown in a window isn't at rest.
use Rattle.std.proofs.Common.{◌≡◌, ◌==◌, ◌<◌, ℕ, ℤ, ◌+ℤ◌, pos, List, slice_index, ap, ◌∙◌, sym, arith, inl, inr}
use Rattle.std.specs.Int.{bit_at}
use Rattle.plane_core.specs.windows.LonePatterns.{FillsRows}
use Rattle.plane_core.specs.declared.plane.cell.Cell.{Cell}
use Rattle.plane_core.specs.plane.Generations.{NeverRecurs}
use Rattle.plane_core.specs.plane.Rules.{Numbers}
use Rattle.plane_core.specs.one_sided.Crops.{IsCrop, LiesInCrop}
use Rattle.plane_core.specs.one_sided.RestlessClusters.{AreAllRestless, DivergesFromWhole, DivergesInRows}
use Rattle.plane_core.specs.windows.Windows.{row_at}
use Rattle.plane_core.proofs.lemmas.one_sided.CropLemmas.{crop_held, crop_shown}
use Rattle.plane_core.proofs.lemmas.Between.{FloodsCluster}

-- if a cluster diverges from the whole pattern in a crop of 40 rows, the cluster also diverges in the 64 rows
pub diverges_in_rows : (rule : Numbers) (rows alone : List ℕ) (part lone : List (List ℕ)) (from depth horizon : ℕ) → LiesInCrop 40 from alone
    → IsCrop 10 from rows part → IsCrop 10 from alone lone → DivergesFromWhole rule 10 part lone depth horizon → DivergesInRows rule rows alone depth horizon
diverges_in_rows rule rows alone part lone from depth horizon lies whole one diverges cells cluster left top o shown held =
    let h = crop_held 10 from left top alone lone cluster lies one held in
    diverges cells cluster left (top +ℤ pos from) o h.in_order (crop_shown 10 from depth left top rows part cells lies.low whole shown)
    (λ r i a b d e. h.shown r i (omega arith) (omega arith) (omega arith) (omega arith))

pub ruled_out_by_divergence : (rule : Numbers) (window : List (List ℕ)) (rows flood : List ℕ) (depth horizon period : ℕ)
    → ((r : ℕ) → r < 64 → slice_index rows r ≡ row_at 16 window r) → FloodsCluster window flood depth → DivergesInRows rule rows flood depth horizon
    → AreAllRestless rule 16 window depth horizon period
ruled_out_by_divergence rule window rows flood depth horizon period unpacked floods diverges cells left top o shown =
    let found = floods cells left top o shown in record {
      cluster = found.0;
      is = found.1.is;
      why = inl (diverges cells found.0 left top o
          (λ r i a b d e. shown r i a b d e ∙ ap (λ (w : ℕ). bit_at w i == 1) (sym (unpacked r (omega arith)))) found.1.held);
    }

pub ruled_out_by_change : (rule : Numbers) (window : List (List ℕ)) (flood : List ℕ) (depth horizon period : ℕ) → FloodsCluster window flood depth
    → ((cells : List Cell) (left top : ℤ) → FillsRows left top flood cells → NeverRecurs rule cells period)
    → AreAllRestless rule 16 window depth horizon period
ruled_out_by_change rule window flood depth horizon period floods new cells left top o shown =
    let found = floods cells left top o shown in record {
      cluster = found.0;
      is = found.1.is;
      why = inr (new found.0 left top found.1.held);
    }
