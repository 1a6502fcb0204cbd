use Rattle.std.proofs.Common.{◌≡◌, ◌∙◌, ap, refl, true, to_z-of_z, FitsSigned, w32}
use Rattle.overlay_geometry.specs.Points.{Point, point_lt}
use Rattle.overlay_base.specs.Windings.{Winding}
use Rattle.overlay_base.specs.EdgeData.{Hooks, data_piece}
use Rattle.overlay_sweep.specs.Sweep.{whole_of}
use Rattle.overlay_build_tests.proofs.string_graphs.line.Goals as goal

ordered_piece : {D S : Type 0} (hooks : Hooks D S) (count : Winding) (p q : Point) (d : D) (store : S) → point_lt p q ≡ true → whole_of (data_piece hooks count p q d store).0 ≡ record { pair = record { a = p; b = q }; count = count }
unfolding data_piece
ordered_piece hooks count p q d store h = rw (h, data_piece) refl

pub returns : goal.returns
returns c =
    let ax : FitsSigned w32 c.args.ax = c.ranges.ax in
    let ay : FitsSigned w32 c.args.ay = c.ranges.ay in
    let bx : FitsSigned w32 c.args.bx = c.ranges.bx in
    let by : FitsSigned w32 c.args.by = c.ranges.by in
    let subj : FitsSigned w32 c.args.subj = c.ranges.subj in
    simp to_z-of_z at (ap whole_of c.create_and_validate_with_data.ensures.segment ∙ ordered_piece _ _ _ _ _ _ (simp to_z-of_z c.requires))
