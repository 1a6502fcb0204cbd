use Rattle.std.proofs.Common.{◌≡◌, sym, ap, ap₂, ◌∙◌, Bool, ◌&&◌, FitsSigned, w64, to_z-of_z}
use Rattle.std.specs.Prelude.{ℤ}
use Rattle.overlay_geometry.specs.Points.{is_between, is_in_box}
use Rattle.overlay_geometry.specs.PointOf.{point_of}
use Rattle.overlay_contours.proofs.location.is_in_box.Goals as goal

between : (u v z a b c : ℤ) → u ≡ a → v ≡ b → z ≡ c → is_between u v z ≡ is_between a b c
between u v z a b c e f g = ap₂ (λ (m n : ℤ). is_between m n z) e f ∙ ap (is_between a b) g

pub returns-then-is_between : goal.returns-then-is_between
unfolding is_in_box
returns-then-is_between g c =
    let a = point_of g.I.OverlayInt.whole c.args.from in
    let b = point_of g.I.OverlayInt.whole c.args.to in
    let p = point_of g.I.OverlayInt.whole c.args.point in
    let from_fits : FitsSigned w64 c.to_wide.result = record { sfits = c.to_wide.type_inv } in
    let to_fits : FitsSigned w64 c.to_wide-2.result = record { sfits = c.to_wide-2.type_inv } in
    let point_fits : FitsSigned w64 c.to_wide-3.result = record { sfits = c.to_wide-3.type_inv } in
    let first : c.is_between.result ≡ is_between a.x b.x p.x = (simp to_z-of_z at c.is_between.ensures) ∙ between _ _ _ _ _ _ c.to_wide.ensures c.to_wide-2.ensures c.to_wide-3.ensures in
    let low_fits : FitsSigned w64 c.to_wide-then-is_between.result = record { sfits = c.to_wide-then-is_between.type_inv } in
    let high_fits : FitsSigned w64 c.to_wide-then-is_between-2.result = record { sfits = c.to_wide-then-is_between-2.type_inv } in
    let own_fits : FitsSigned w64 c.to_wide-then-is_between-3.result = record { sfits = c.to_wide-then-is_between-3.type_inv } in
    let second : c.is_between-then-is_between.result ≡ is_between a.y b.y p.y = (simp to_z-of_z at c.is_between-then-is_between.ensures) ∙ between _ _ _ _ _ _ c.to_wide-then-is_between.ensures c.to_wide-then-is_between-2.ensures c.to_wide-then-is_between-3.ensures in
    second ∙ sym (ap (λ (t : Bool). t && is_between a.y b.y p.y) (sym first ∙ c.if-is_between.true))

pub returns-else-is_between : goal.returns-else-is_between
unfolding is_in_box
returns-else-is_between g c =
    let a = point_of g.I.OverlayInt.whole c.args.from in
    let b = point_of g.I.OverlayInt.whole c.args.to in
    let p = point_of g.I.OverlayInt.whole c.args.point in
    let from_fits : FitsSigned w64 c.to_wide.result = record { sfits = c.to_wide.type_inv } in
    let to_fits : FitsSigned w64 c.to_wide-2.result = record { sfits = c.to_wide-2.type_inv } in
    let point_fits : FitsSigned w64 c.to_wide-3.result = record { sfits = c.to_wide-3.type_inv } in
    let first : c.is_between.result ≡ is_between a.x b.x p.x = (simp to_z-of_z at c.is_between.ensures) ∙ between _ _ _ _ _ _ c.to_wide.ensures c.to_wide-2.ensures c.to_wide-3.ensures in
    c.if-is_between.false ∙ sym (ap (λ (t : Bool). t && is_between a.y b.y p.y) (sym first ∙ c.if-is_between.false))
