-- Different SHA-256 digests give different soups.
use Rattle.std.specs.Prelude.{◌≡◌, ◌++◌, ℕ, List, decimal}
use Rattle.sha2.specs.Sha256.{sha256}
use Rattle.survey_core.specs.Soups.{soup}

-- two soups are equal only if the digests of their messages are equal: a soup keeps all 256 bits of its digest
abbrev pub SoupsAreFaithful : Type 0
SoupsAreFaithful = (seed other : List ℕ) (n m : ℕ) → soup seed n ≡ soup other m → sha256 (seed ++ decimal n) ≡ sha256 (other ++ decimal m)
