use Rattle.std.proofs.Common.{◌≡◌, ◌∙◌, refl, sym, ap, arith, Bool, true, false, not, is_eq}
use Rattle.std.specs.Ordering.{int_eq}
use Rattle.std.proofs.lemmas.List.Sums.{prefix_len-drop_yes, prefix_len-drop_no, prefix_len-drop_all}
use Rattle.overlay_cuts.proofs.split.path.column_len.Goals as goal

flip : (a b : Bool) → a ≡ not b → (a ≡ true → b ≡ false) × (a ≡ false → b ≡ true)
flip a true e = ((λ h. cc), λ h. refl)
flip a false e = ((λ h. refl), λ h. cc)

pub returns-then-ne-clause-block : goal.returns-then-ne-clause-block
returns-then-ne-clause-block g c =
    let x = g.I.OverlayInt.whole c.args.x in
    let m = c.index-marks-index.result in
    let same : g.I.PartialEq.eq m.point.x c.args.x ≡ int_eq (g.I.OverlayInt.whole m.point.x) x = g.met.I.Ord.matches_eq _ _ ∙ ap is_eq (g.met.I.OverlayInt.ordered _ _) in
    let other : int_eq (g.I.OverlayInt.whole m.point.x) x ≡ false = sym same ∙ (flip _ _ c.ne.ensures).0 c.if-ne.true in
    let last = prefix_len-drop_no (λ k. int_eq (g.I.OverlayInt.whole k.point.x) x) c.args.marks.now c.loop-index.index m c.loop-index-test.true (ap (λ k. int_eq (g.I.OverlayInt.whole k.point.x) x) (sym c.index-marks-index.is) ∙ other) in
    let i = c.loop-index.invariant in
    omega arith

pub loop-index-preserved : goal.loop-index-preserved
loop-index-preserved g c =
    let x = g.I.OverlayInt.whole c.args.x in
    let m = c.index-marks-index.result in
    let same : g.I.PartialEq.eq m.point.x c.args.x ≡ int_eq (g.I.OverlayInt.whole m.point.x) x = g.met.I.Ord.matches_eq _ _ ∙ ap is_eq (g.met.I.OverlayInt.ordered _ _) in
    let equal : int_eq (g.I.OverlayInt.whole m.point.x) x ≡ true = sym same ∙ (flip _ _ c.ne.ensures).1 c.if-ne.false in
    let more = prefix_len-drop_yes (λ k. int_eq (g.I.OverlayInt.whole k.point.x) x) c.args.marks.now c.loop-index.index m c.loop-index-test.true (ap (λ k. int_eq (g.I.OverlayInt.whole k.point.x) x) (sym c.index-marks-index.is) ∙ equal) in
    let i = c.loop-index.invariant in
    omega arith

pub returns-clause-block : goal.returns-clause-block
returns-clause-block g c =
    let x = g.I.OverlayInt.whole c.args.x in
    let last = prefix_len-drop_all (λ k. int_eq (g.I.OverlayInt.whole k.point.x) x) c.args.marks.now c.loop-index.index c.loop-index-test.false in
    let i = c.loop-index.invariant in
    omega arith
