use Rattle.std.proofs.Common.{◌≡◌, ◌∙◌, sym, ap, refl, Bool, true, false, ◌&&◌, FitsSigned, w64, to_z-of_z}
use Rattle.std.specs.Prelude.{pos, int_lt, ◌||◌}
use Rattle.overlay_geometry.specs.VectorOf.{vector_of}
use Rattle.overlay_snapping.proofs.snap.pixel.is_narrow.Goals as goal

on_half : (below half falls : Bool) → below ≡ false → half ≡ true → falls ≡ (below || (half && falls))
on_half below half falls e h = rw (e, h) refl

pub returns-then-is_half : goal.returns-then-is_half
returns-then-is_half c =
    let fits : FitsSigned w64 c.y.result = record { sfits = c.y.type_inv } in
    let turn_fits : FitsSigned w64 c.cross_product-turn.result = record { sfits = c.cross_product-turn.type_inv } in
    let below = simp to_z-of_z at (sym c.is_half_below.ensures ∙ c.if-is_half_below.false) in
    let half = simp to_z-of_z at (sym c.is_half.ensures ∙ c.if-is_half.true) in
    let falls : int_lt c.y.result (pos 0) ≡ int_lt (vector_of c.args.way).y (pos 0) = ap (λ z. int_lt z (pos 0)) c.y.ensures in
    rw (← c.cross_product-turn.ensures.value, ← c.extent-extent.ensures) (simp to_z-of_z (falls ∙ on_half _ _ _ below half))
