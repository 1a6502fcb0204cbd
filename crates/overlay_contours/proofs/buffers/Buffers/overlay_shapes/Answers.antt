use Rattle.std.proofs.Common.{sym, subst, List}
use Rattle.overlay_geometry.specs.Points.{Point}
use Rattle.overlay_base.specs.SegmentOf.{segments_of}
use Rattle.overlay_base.specs.declared.segm.fault.Fault.{Fault}
use Rattle.overlay_contours.specs.ContoursOf.{contours_of}
use Rattle.overlay_contours.specs.Refusals.{IsReason}
use Rattle.overlay_contours.specs.Splittings.{Splitting, splitting_for}
use Rattle.overlay_contours.proofs.laws.Arrangements.{no_memory, split_report}
use Rattle.overlay_contours.proofs.buffers.Buffers.overlay_shapes.Goals as goal

pub shapes-requires : goal.shapes-requires
shapes-requires g c = ∣ (_, _, _, _, c.in_ok-arrange.ensures.arranged) ∣₁

pub returns-clause-shapes : goal.returns-clause-shapes
returns-clause-shapes g c = c.in_ok-shapes.ensures.shapes _ _ _ _ c.in_ok-arrange.ensures.arranged

pub returns-clause-splitting : goal.returns-clause-splitting
returns-clause-splitting g c = split_report _ _ _ _ c.arrange.new.self.arranged c.shapes.new.self c.shapes.ensures.kept c.in_ok-arrange.ensures.arranged

pub returns-in_err-shapes-clause-refused : goal.returns-in_err-shapes-clause-refused
returns-in_err-shapes-clause-refused g c = no_memory _ _ _ _ _ c.from_residual-in_err-shapes.ensures.1 c.in_err-shapes.ensures.fault
