use Rattle.std.proofs.Common.{rules, ◌≡◌, ◌∙◌, sym, subst, All, true, OnOk}
use Rattle.std.specs.Prelude.{IsTrue}
use Rattle.overlay_base.specs.Windings.{is_valid}
use Rattle.overlay_base.specs.Join.{join}
use Rattle.overlay_base.specs.SegmentOf.{segment_of, segments_of, winding_of}
use Rattle.overlay_base.proofs.laws.joins.Rests.{is_splittable-valid}
use Rattle.overlay_cuts.proofs.laws.passes.Ready.{is_map-joined}
use Rattle.overlay_split_tests.proofs.pass.join.Goals as goal

pub join_with_store-requires : goal.join_with_store-requires
join_with_store-requires g c =
    let tested : c.is_splittable.result ≡ true = search rules in
    subst (λ l. All (λ s. IsTrue (is_valid (winding_of s))) l) c.deref.ensures.value (is_splittable-valid segment_of _ _ c.deref.result.now (sym c.is_splittable.ensures ∙ tested))

pub returns : goal.returns
returns g c =
    let geometry = subst (λ r. OnOk r (segments_of c.join_with_store.new.list.items ≡ join (segments_of c.args.list.now.items))) c.expect.ensures c.join_with_store.ensures.geometry in
    record { map = is_map-joined c.args.list.now.items (segments_of c.join_with_store.new.list.items) geometry }
