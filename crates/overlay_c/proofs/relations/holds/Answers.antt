use Rattle.overlay_geometry.specs.Coordinates.{least_coordinate, greatest_coordinate}
use Rattle.overlay_contours.specs.Kept.{subject_of, clip_of}
use Rattle.overlay_c.specs.declared.relations.Relation.TheVariants.{InteriorsMeet, Covers, IsWithin, SameRegion, Touch, Disjoint}
use Rattle.overlay_c.proofs.Refusals.{relation_refuses_of, relation_holds_of}
use Rattle.overlay_c.proofs.relations.holds.Goals as goal

pub returns-in-InteriorsMeet-clause-holds : goal.returns-in-InteriorsMeet-clause-holds
returns-in-InteriorsMeet-clause-holds c =
    relation_holds_of c.args.fill_rule (subject_of c.args.overlay.now) (clip_of c.args.overlay.now) _ _ c.contours-subject.ensures.contours c.contours-clip.ensures.contours c.interiors_meet.result
    c.args.relation InteriorsMeet c.in-InteriorsMeet.is c.interiors_meet.ensures.meet

pub returns-in-InteriorsMeet-clause-refused : goal.returns-in-InteriorsMeet-clause-refused
returns-in-InteriorsMeet-clause-refused c =
    relation_refuses_of c.args.fill_rule (subject_of c.args.overlay.now) (clip_of c.args.overlay.now) _ _ c.contours-subject.ensures.contours c.contours-clip.ensures.contours c.interiors_meet.result
    least_coordinate greatest_coordinate c.contours-subject.ensures.in_range c.contours-clip.ensures.in_range c.interiors_meet.ensures.refused

pub returns-in-Covers-clause-holds : goal.returns-in-Covers-clause-holds
returns-in-Covers-clause-holds c =
    relation_holds_of c.args.fill_rule (subject_of c.args.overlay.now) (clip_of c.args.overlay.now) _ _ c.contours-subject.ensures.contours c.contours-clip.ensures.contours c.covers.result
    c.args.relation Covers c.in-Covers.is c.covers.ensures.covers

pub returns-in-Covers-clause-refused : goal.returns-in-Covers-clause-refused
returns-in-Covers-clause-refused c =
    relation_refuses_of c.args.fill_rule (subject_of c.args.overlay.now) (clip_of c.args.overlay.now) _ _ c.contours-subject.ensures.contours c.contours-clip.ensures.contours c.covers.result
    least_coordinate greatest_coordinate c.contours-subject.ensures.in_range c.contours-clip.ensures.in_range c.covers.ensures.refused

pub returns-in-IsWithin-clause-holds : goal.returns-in-IsWithin-clause-holds
returns-in-IsWithin-clause-holds c =
    relation_holds_of c.args.fill_rule (subject_of c.args.overlay.now) (clip_of c.args.overlay.now) _ _ c.contours-subject.ensures.contours c.contours-clip.ensures.contours c.is_within.result
    c.args.relation IsWithin c.in-IsWithin.is c.is_within.ensures.within

pub returns-in-IsWithin-clause-refused : goal.returns-in-IsWithin-clause-refused
returns-in-IsWithin-clause-refused c =
    relation_refuses_of c.args.fill_rule (subject_of c.args.overlay.now) (clip_of c.args.overlay.now) _ _ c.contours-subject.ensures.contours c.contours-clip.ensures.contours c.is_within.result
    least_coordinate greatest_coordinate c.contours-subject.ensures.in_range c.contours-clip.ensures.in_range c.is_within.ensures.refused

pub returns-in-SameRegion-clause-holds : goal.returns-in-SameRegion-clause-holds
returns-in-SameRegion-clause-holds c =
    relation_holds_of c.args.fill_rule (subject_of c.args.overlay.now) (clip_of c.args.overlay.now) _ _ c.contours-subject.ensures.contours c.contours-clip.ensures.contours c.same_region.result
    c.args.relation SameRegion c.in-SameRegion.is c.same_region.ensures.same

pub returns-in-SameRegion-clause-refused : goal.returns-in-SameRegion-clause-refused
returns-in-SameRegion-clause-refused c =
    relation_refuses_of c.args.fill_rule (subject_of c.args.overlay.now) (clip_of c.args.overlay.now) _ _ c.contours-subject.ensures.contours c.contours-clip.ensures.contours c.same_region.result
    least_coordinate greatest_coordinate c.contours-subject.ensures.in_range c.contours-clip.ensures.in_range c.same_region.ensures.refused

pub returns-in-Touch-clause-holds : goal.returns-in-Touch-clause-holds
returns-in-Touch-clause-holds c =
    relation_holds_of c.args.fill_rule (subject_of c.args.overlay.now) (clip_of c.args.overlay.now) _ _ c.contours-subject.ensures.contours c.contours-clip.ensures.contours c.touches.result
    c.args.relation Touch c.in-Touch.is c.touches.ensures.touch

pub returns-in-Touch-clause-refused : goal.returns-in-Touch-clause-refused
returns-in-Touch-clause-refused c =
    relation_refuses_of c.args.fill_rule (subject_of c.args.overlay.now) (clip_of c.args.overlay.now) _ _ c.contours-subject.ensures.contours c.contours-clip.ensures.contours c.touches.result
    least_coordinate greatest_coordinate c.contours-subject.ensures.in_range c.contours-clip.ensures.in_range c.touches.ensures.refused

pub returns-in-Disjoint-clause-holds : goal.returns-in-Disjoint-clause-holds
returns-in-Disjoint-clause-holds c =
    relation_holds_of c.args.fill_rule (subject_of c.args.overlay.now) (clip_of c.args.overlay.now) _ _ c.contours-subject.ensures.contours c.contours-clip.ensures.contours c.is_disjoint.result
    c.args.relation Disjoint c.in-Disjoint.is c.is_disjoint.ensures.disjoint

pub returns-in-Disjoint-clause-refused : goal.returns-in-Disjoint-clause-refused
returns-in-Disjoint-clause-refused c =
    relation_refuses_of c.args.fill_rule (subject_of c.args.overlay.now) (clip_of c.args.overlay.now) _ _ c.contours-subject.ensures.contours c.contours-clip.ensures.contours c.is_disjoint.result
    least_coordinate greatest_coordinate c.contours-subject.ensures.in_range c.contours-clip.ensures.in_range c.is_disjoint.ensures.refused
