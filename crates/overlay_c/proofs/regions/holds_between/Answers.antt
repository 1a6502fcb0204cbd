use Rattle.overlay_c.specs.declared.relations.Relation.TheVariants.{InteriorsMeet, Covers, IsWithin, SameRegion, Touch, Disjoint}
use Rattle.overlay_c.proofs.RegionRelations.{named_holds}
use Rattle.overlay_c.proofs.regions.holds_between.Goals as goal

pub returns-in-InteriorsMeet-clause-holds : goal.returns-in-InteriorsMeet-clause-holds
returns-in-InteriorsMeet-clause-holds c = named_holds c.args.first.now c.args.second.now c.args.relation InteriorsMeet c.in-InteriorsMeet.is c.interiors_meet.result c.interiors_meet.ensures.meet

pub returns-in-Covers-clause-holds : goal.returns-in-Covers-clause-holds
returns-in-Covers-clause-holds c = named_holds c.args.first.now c.args.second.now c.args.relation Covers c.in-Covers.is c.covers.result c.covers.ensures.covers

pub returns-in-IsWithin-clause-holds : goal.returns-in-IsWithin-clause-holds
returns-in-IsWithin-clause-holds c = named_holds c.args.first.now c.args.second.now c.args.relation IsWithin c.in-IsWithin.is c.is_within.result c.is_within.ensures.within

pub returns-in-SameRegion-clause-holds : goal.returns-in-SameRegion-clause-holds
returns-in-SameRegion-clause-holds c = named_holds c.args.first.now c.args.second.now c.args.relation SameRegion c.in-SameRegion.is c.same_region.result c.same_region.ensures.same

pub returns-in-Touch-clause-holds : goal.returns-in-Touch-clause-holds
returns-in-Touch-clause-holds c = named_holds c.args.first.now c.args.second.now c.args.relation Touch c.in-Touch.is c.touches.result c.touches.ensures.touch

pub returns-in-Disjoint-clause-holds : goal.returns-in-Disjoint-clause-holds
returns-in-Disjoint-clause-holds c = named_holds c.args.first.now c.args.second.now c.args.relation Disjoint c.in-Disjoint.is c.is_disjoint.result c.is_disjoint.ensures.disjoint
