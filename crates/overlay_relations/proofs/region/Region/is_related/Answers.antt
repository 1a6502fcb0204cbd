use Rattle.std.proofs.Common.{◌≡◌, sym, subst}
use Rattle.std.specs.Prelude.{Bool, true, false}
use Rattle.std.proofs.lemmas.Result.{IfOk-weaker}
use Rattle.overlay_relations.specs.Pairs.{Says}
use Rattle.overlay_relations.specs.Regions.{DecidesCovering, DecidesLyingWithin, DecidesSameness}
use Rattle.overlay_relations.specs.declared.predicate.Predicate.{Predicate}
use Rattle.overlay_relations.proofs.laws.ApartRegions.{covering_says, lying_within_says, sameness_says, no_covering, no_lying_within, no_sameness}
use Rattle.overlay_relations.proofs.region.Region.is_related.Goals as goal

pub returns-then-not-branch-clause-related : goal.returns-then-not-branch-clause-related
returns-then-not-branch-clause-related g c =
    let meet = c.in_ok-interiors_meet-in-Covers in
    subst (λ (q : Predicate). Says q c.args.self.now c.args.other.now (false ≡ true)) (sym c.in-Covers.is) (no_covering c.args.self.now c.args.other.now false meet.field-0 meet.ensures.meet c.if-not-branch.true)

pub returns-else-not-branch-clause-related : goal.returns-else-not-branch-clause-related
returns-else-not-branch-clause-related g c =
    let meet = c.in_ok-interiors_meet-in-Covers in
    IfOk-weaker c.covers.result (λ (found : Bool). DecidesCovering c.args.self.now c.args.other.now found) (λ (found : Bool). Says c.args.predicate c.args.self.now c.args.other.now (found ≡ true))
    (λ found decides. subst (λ (q : Predicate). Says q c.args.self.now c.args.other.now (found ≡ true)) (sym c.in-Covers.is) (covering_says c.args.self.now c.args.other.now found meet.field-0 meet.ensures.meet c.if-not-branch.false decides))
    c.covers.ensures.covers

pub returns-then-not-branch-2-clause-related : goal.returns-then-not-branch-2-clause-related
returns-then-not-branch-2-clause-related g c =
    let meet = c.in_ok-interiors_meet-in-IsWithin in
    subst (λ (q : Predicate). Says q c.args.self.now c.args.other.now (false ≡ true)) (sym c.in-IsWithin.is) (no_lying_within c.args.self.now c.args.other.now false meet.field-0 meet.ensures.meet c.if-not-branch-2.true)

pub returns-else-not-branch-2-clause-related : goal.returns-else-not-branch-2-clause-related
returns-else-not-branch-2-clause-related g c =
    let meet = c.in_ok-interiors_meet-in-IsWithin in
    IfOk-weaker c.is_within.result (λ (found : Bool). DecidesLyingWithin c.args.self.now c.args.other.now found) (λ (found : Bool). Says c.args.predicate c.args.self.now c.args.other.now (found ≡ true))
    (λ found decides. subst (λ (q : Predicate). Says q c.args.self.now c.args.other.now (found ≡ true)) (sym c.in-IsWithin.is) (lying_within_says c.args.self.now c.args.other.now found meet.field-0 meet.ensures.meet c.if-not-branch-2.false decides))
    c.is_within.ensures.within

pub returns-then-not-branch-3-clause-related : goal.returns-then-not-branch-3-clause-related
returns-then-not-branch-3-clause-related g c =
    let meet = c.in_ok-interiors_meet-in-SameRegion in
    subst (λ (q : Predicate). Says q c.args.self.now c.args.other.now (false ≡ true)) (sym c.in-SameRegion.is) (no_sameness c.args.self.now c.args.other.now false meet.field-0 meet.ensures.meet c.if-not-branch-3.true)

pub returns-else-not-branch-3-clause-related : goal.returns-else-not-branch-3-clause-related
returns-else-not-branch-3-clause-related g c =
    let meet = c.in_ok-interiors_meet-in-SameRegion in
    IfOk-weaker c.same_region.result (λ (found : Bool). DecidesSameness c.args.self.now c.args.other.now found) (λ (found : Bool). Says c.args.predicate c.args.self.now c.args.other.now (found ≡ true))
    (λ found decides. subst (λ (q : Predicate). Says q c.args.self.now c.args.other.now (found ≡ true)) (sym c.in-SameRegion.is) (sameness_says c.args.self.now c.args.other.now found meet.field-0 meet.ensures.meet c.if-not-branch-3.false decides))
    c.same_region.ensures.same
