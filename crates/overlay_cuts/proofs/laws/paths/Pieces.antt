-- The telescoping sum over the pieces of a path.
use Rattle.std.proofs.Common.{◌≡◌, refl, ap, ◌∙◌, arith, List, [], ◌∷◌, ◌++◌}
use Rattle.std.specs.Prelude.{ℤ, pos, ◌+ℤ◌, ◌-ℤ◌, ◌*ℤ◌, neg_ℤ}
use Rattle.std.proofs.lemmas.Bool.{cond_both}
use Rattle.overlay_base.specs.Sums.{weighed}
use Rattle.overlay_geometry.specs.Points.{Point, point_lt}
use Rattle.overlay_base.specs.Windings.{Winding}
use Rattle.overlay_base.specs.Segments.{WholeSegment}
use Rattle.overlay_cuts.specs.Laws.{IsOdd, loss}
use Rattle.overlay_cuts.specs.Path.{path_from, last_point, column_path, next_point, columns_of, path, piece, pieces_along, pieces}
use Rattle.overlay_geometry.proofs.laws.geometry.Polynomials.{as_D, D-eq, diffs}

turned : (c u v : ℤ) → (v -ℤ u) *ℤ neg_ℤ c ≡ (u -ℤ v) *ℤ c
turned c u v = rw (as_D c, as_D u, as_D v) (simp diffs (D-eq _ _ _ _ (omega arith)))

-- a piece counts its step, turned or not
pub loss_of_piece : (part : Winding → ℤ) → IsOdd part → (f : Point → ℤ) (count : Winding) (p q : Point) → loss f (piece count p q).pair *ℤ part (piece count p q).count ≡ (f p -ℤ f q) *ℤ part count
unfolding piece
loss_of_piece part odd f count p q =
    cond_both (point_lt p q) _ _ (λ (s : WholeSegment). loss f s.pair *ℤ part s.count ≡ (f p -ℤ f q) *ℤ part count) (λ e. refl)
    (λ e. ap (λ (z : ℤ). (f q -ℤ f p) *ℤ z) (odd count) ∙ turned (part count) (f p) (f q))

telescope_step : (c u v w t : ℤ) → t ≡ (v -ℤ w) *ℤ c → (u -ℤ v) *ℤ c +ℤ t ≡ (u -ℤ w) *ℤ c
telescope_step c u v w t e = rw e (rw (as_D c, as_D u, as_D v, as_D w) (simp diffs (D-eq _ _ _ _ (omega arith))))

loss_at_nil : (c u : ℤ) → pos 0 ≡ (u -ℤ u) *ℤ c
loss_at_nil c u = rw (as_D c, as_D u) (simp diffs (D-eq _ _ _ _ (omega arith)))

-- the sum over the pieces along a path is that of its first and last point
pub weighed-pieces_along : (part : Winding → ℤ) → IsOdd part → (f : Point → ℤ) (count : Winding) (p : Point) (points : List Point) → weighed (loss f) part (pieces_along count (p ∷ points)) ≡ (f p -ℤ f (last_point p points)) *ℤ part count
unfolding pieces_along last_point
weighed-pieces_along part odd f count p [] = loss_at_nil (part count) (f p)
weighed-pieces_along part odd f count p (q ∷ points) =
    ap (λ (z : ℤ). z +ℤ weighed (loss f) part (pieces_along count (q ∷ points))) (loss_of_piece part odd f count p q)
    ∙ telescope_step (part count) (f p) (f q) (f (last_point q points)) _ (weighed-pieces_along part odd f count q points)

-- ---- a path ends at the end of its pair

pub last_point-append : (p : Point) (xs ys : List Point) → last_point p (xs ++ ys) ≡ last_point (last_point p xs) ys
unfolding last_point
last_point-append p [] ys = refl
last_point-append p (x ∷ xs) ys = last_point-append x xs ys

pub last_point-path_from : (columns : List (List Point)) (p before b : Point) → last_point p (path_from before columns b) ≡ b
unfolding last_point path_from
last_point-path_from [] p before b = refl
last_point-path_from (column ∷ columns) p before b = last_point-append p (column_path before column (next_point columns b)) _ ∙ last_point-path_from columns _ _ b

-- the pieces of a segment sum to the segment
pub weighed-pieces : (part : Winding → ℤ) → IsOdd part → (f : Point → ℤ) (segment : WholeSegment) (marks : List Point) → weighed (loss f) part (pieces segment marks) ≡ loss f segment.pair *ℤ part segment.count
unfolding pieces path
weighed-pieces part odd f segment marks =
    weighed-pieces_along part odd f segment.count segment.pair.a (path_from segment.pair.a (columns_of marks) segment.pair.b)
    ∙ ap (λ (q : Point). (f segment.pair.a -ℤ f q) *ℤ part segment.count) (last_point-path_from (columns_of marks) _ _ segment.pair.b)
