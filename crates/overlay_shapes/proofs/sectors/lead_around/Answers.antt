use Rattle.std.proofs.Common.{◌<◌, ◌∙◌, refl, sym, subst, length, arith}
use Rattle.std.proofs.lemmas.List.{length-map}
use Rattle.overlay_shapes.specs.steps.Rays.{WholeRay, ray_of, rays_of}
use Rattle.overlay_shapes.proofs.laws.LedOn.{led_on_step, ray_item}
use Rattle.overlay_shapes.proofs.sectors.lead_around.Goals as goal
use Rattle.overlay_shapes.proofs.sectors.lead_around.Goals.{then-ray, else-ray}

pub offset_bounds-next-ray : goal.offset_bounds-next-ray
offset_bounds-next-ray g c =
    let rays = c.args.rays.now in
    let k = c.loop-ray.ray-index in
    let item = c.ray-item.result in
    let inside : k < length (rays_of rays) = rw length-map c.loop-ray-test.true in
    let low = c.requires k (ray_of item) inside in
    let bound : item.link < length c.args.next.now = subst (λ (r : WholeRay). r.link < length c.args.next.now) (sym (ray_item ray_of rays k item c.loop-ray-test.true c.ray-item.is)) low in
    let same = c.loop-ray.auto.next in
    omega (arith, bound, same)

pub bounds-next-ray : goal.bounds-next-ray
bounds-next-ray g c =
    let rays = c.args.rays.now in
    let k = c.loop-ray.ray-index in
    let item = c.ray-item.result in
    let inside : k < length (rays_of rays) = rw length-map c.loop-ray-test.true in
    let low = c.requires k (ray_of item) inside in
    let bound : item.link < length c.args.next.now = subst (λ (r : WholeRay). r.link < length c.args.next.now) (sym (ray_item ray_of rays k item c.loop-ray-test.true c.ray-item.is)) low in
    let same = c.loop-ray.auto.next in
    omega (arith, bound, same)

pub loop-ray-preserved : goal.loop-ray-preserved
loop-ray-preserved g c =
    let rays = c.args.rays.now in
    let k = c.loop-ray.ray-index in
    let item = c.ray-item.result in
    let inside : k < length (rays_of rays) = rw length-map c.loop-ray-test.true in
    let is = ray_item ray_of rays k item c.loop-ray-test.true c.ray-item.is in
    led_on_step c.loop-ray.before (rays_of rays) k (ray_of item) c.loop-ray.next c.if-ray.next inside is
    (elim c.if-ray.branch [
      | then-ray w ↦ w.next-is ∙ rw w.if-ray.true refl
      | else-ray w ↦ w.next-is ∙ rw w.if-ray.false refl
    ])
    ∙ c.loop-ray.invariant
