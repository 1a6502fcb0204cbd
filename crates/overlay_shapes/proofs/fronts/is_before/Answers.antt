use Rattle.std.proofs.Common.{◌≡◌, sym, ap, ap₂, ◌∙◌, Bool, true, false, ◌&&◌, ◌||◌}
use Rattle.std.specs.Cmp.{Some-then}
use Rattle.std.specs.Ordering.{is_lt}
use Rattle.overlay_geometry.specs.Below.{angle_cmp}
use Rattle.overlay_geometry.specs.PointOf.{point_of}
use Rattle.overlay_geometry.specs.Points.{point_lt, point_eq}
use Rattle.overlay_geometry.specs.VSegmentOf.{v_pair_of}
use Rattle.overlay_geometry.proofs.laws.geometry.Comparisons.{whole_eq}
use Rattle.overlay_geometry.proofs.laws.geometry.Points.{point_eq-parts}
use Rattle.overlay_shapes.proofs.fronts.is_before.Goals as goal

first : (result before rest : Bool) → result ≡ before → result ≡ true → result ≡ (before || rest)
first result before rest same holds = rw (sym same ∙ holds) holds

neither : (less before result equal rest : Bool) → less ≡ before → less ≡ false → result ≡ equal → result ≡ false →
    result ≡ (before || (equal && rest))
neither less before result equal rest p l q h = rw (sym p ∙ l, sym q ∙ h) h

second : (less before same equal result rest : Bool) → less ≡ before → less ≡ false → same ≡ equal → same ≡ true →
    result ≡ rest → result ≡ (before || (equal && rest))
second less before same equal result rest p l q h is = rw (sym p ∙ l, sym q ∙ h) is

pub cmp_by_angle-requires-clause-own : goal.cmp_by_angle-requires-clause-own
cmp_by_angle-requires-clause-own g c =
    rw c.way_of.ensures (record { a_in_range = c.requires.own.a_in_range; b_in_range = c.requires.own.b_in_range })

pub cmp_by_angle-requires-clause-other : goal.cmp_by_angle-requires-clause-other
cmp_by_angle-requires-clause-other g c =
    rw c.way_of-then-eq.ensures (record { a_in_range = c.requires.other.a_in_range; b_in_range = c.requires.other.b_in_range })

pub returns-then-lt : goal.returns-then-lt
returns-then-lt g c =
    first _ _ _ (simp (g.met.I.Ord.matches_partial_cmp, g.met.I.OverlayInt.ordered, Some-then) at c.lt.ensures) c.if-lt.true

pub returns-then-eq : goal.returns-then-eq
returns-then-eq g c =
    let whole = g.I.OverlayInt.whole in
    let p = point_of whole c.args.link.now.a.point in
    let q = point_of whole c.args.other.now.a.point in
    let less : c.lt.result ≡ point_lt p q = simp (g.met.I.Ord.matches_partial_cmp, g.met.I.OverlayInt.ordered, Some-then) at c.lt.ensures in
    let equal : c.eq.result ≡ point_eq p q =
    simp (whole_eq g.I.PartialEq.eq g.I.Ord.cmp whole g.met.I.Ord.matches_eq g.met.I.OverlayInt.ordered) at c.eq.ensures
    ∙ sym (point_eq-parts p q) in
    second _ _ _ _ _ _ less c.if-lt.false equal c.if-eq.true
    (c.is_lt.ensures ∙ ap is_lt c.cmp_by_angle.ensures
    ∙ ap₂ (λ v w. is_lt (angle_cmp (v_pair_of whole v) (v_pair_of whole w))) c.way_of.ensures c.way_of-then-eq.ensures)

pub returns-else-eq : goal.returns-else-eq
returns-else-eq g c =
    let whole = g.I.OverlayInt.whole in
    let p = point_of whole c.args.link.now.a.point in
    let q = point_of whole c.args.other.now.a.point in
    let less : c.lt.result ≡ point_lt p q = simp (g.met.I.Ord.matches_partial_cmp, g.met.I.OverlayInt.ordered, Some-then) at c.lt.ensures in
    let equal : c.eq.result ≡ point_eq p q =
    simp (whole_eq g.I.PartialEq.eq g.I.Ord.cmp whole g.met.I.Ord.matches_eq g.met.I.OverlayInt.ordered) at c.eq.ensures
    ∙ sym (point_eq-parts p q) in
    neither _ _ _ _ _ less c.if-lt.false equal c.if-eq.false
