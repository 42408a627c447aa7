-- Being linked is an equivalence relation on the cells of a pattern.
use Rattle.std.proofs.Common.{◌≡◌, ℤ, ◌≤◌, true, List, [], ◌∷◌, ◌++◌, arith, refl, sym, subst}
use Rattle.std.proofs.lemmas.Int.{ints}
use Rattle.plane_core.specs.declared.plane.cell.Cell.{Cell}
use Rattle.plane_core.specs.plane.Cells.{has, distance, king_distance}
use Rattle.plane_core.specs.clusters.Clusters.{Leads, Linked}

distance-sym : (a b : ℤ) → distance a b ≡ distance b a
distance-sym a b = omega (arith, ints)

pub king_distance-sym : (c d : Cell) → king_distance c d ≡ king_distance d c
king_distance-sym c d = rw (distance-sym c.x d.x, distance-sym c.y d.y) refl

pub king_distance-itself : (c : Cell) → king_distance c c ≡ 0
king_distance-itself c = rw (same c.x, same c.y) refl
  where
    same : (a : ℤ) → distance a a ≡ 0
    same a = omega (arith, ints)

-- two paths can be concatenated
leads-append : (cells : List Cell) (c d e : Cell) (ps qs : List Cell) → Leads cells c ps d → Leads cells d qs e → Leads cells c (ps ++ qs) e
leads-append cells c d e [] qs a b = subst (λ (x : Cell). Leads cells x qs e) (sym a) b
leads-append cells c d e (p ∷ ps) qs a b = (a.0, a.1, leads-append cells p d e ps qs a.2 b)

pub linked-itself : (cells : List Cell) (c : Cell) → has cells c ≡ true → Linked cells c c
linked-itself cells c h = record { start = h; path = []; leads = refl }

-- two cells of the pattern at king distance at most 2 are linked
pub linked-near : (cells : List Cell) (c d : Cell) → has cells c ≡ true → has cells d ≡ true → king_distance c d ≤ 2 → Linked cells c d
linked-near cells c d h k near = record { start = h; path = d ∷ []; leads = (k, near, refl) }

pub linked-trans : (cells : List Cell) (c d e : Cell) → Linked cells c d → Linked cells d e → Linked cells c e
linked-trans cells c d e a b = record { start = a.start; path = a.path ++ b.path; leads = leads-append cells c d e a.path b.path a.leads b.leads }

-- a path from a cell of the pattern can be walked back: its end is linked to its start
leads_back : (cells : List Cell) (c d : Cell) (ps : List Cell) → has cells c ≡ true → Leads cells c ps d → Linked cells d c
leads_back cells c d [] h a = subst (λ (x : Cell). Linked cells x c) a (linked-itself cells c h)
leads_back cells c d (p ∷ ps) h a =
    linked-trans cells d p c (leads_back cells p d ps a.0 a.2) (linked-near cells p c a.0 h (omega (arith, a.1, king_distance-sym p c)))

pub linked-sym : (cells : List Cell) (c d : Cell) → Linked cells c d → Linked cells d c
linked-sym cells c d a = leads_back cells c d a.path a.start a.leads

-- if c is linked to d, d is a cell of the pattern
pub linked-has : (cells : List Cell) (c d : Cell) → Linked cells c d → has cells d ≡ true
linked-has cells c d a = (linked-sym cells c d a).start
