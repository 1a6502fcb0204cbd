use Rattle.std.proofs.Common.{ap, ◌∙◌, rules}
use Rattle.overlay_base.specs.Join.{join}
use Rattle.overlay_base.specs.SegmentOf.{segments_of}
use Rattle.overlay_base.specs.HooksOf.{hooks_of}
use Rattle.overlay_base.specs.EdgeData.IsMadeFrom.{no_call}
use Rattle.overlay_base.proofs.laws.joins.OneValues.{data_of_one_value, join_of_early}
use Rattle.overlay_base.proofs.segm.join.join_with_store.Goals.{then-has_one_value+in-Ok, else-has_one_value}
use Rattle.overlay_base.proofs.segm.join.join_with_store.Goals as goal

pub returns-in-Err-clause-store_made : goal.returns-in-Err-clause-store_made
returns-in-Err-clause-store_made g c = no_call

pub returns-clause-edge_data : goal.returns-clause-edge_data
returns-clause-edge_data g c =
    let hooks = hooks_of g.C.WindingCount.counted g.D.OverlayEdgeData in
    let parts = c.in_ok-join_in_parts_with_store.ensures in
    elim c.if-has_one_value.branch [
      | then-has_one_value+in-Ok w ↦
          let early = join_of_early w.in-Ok.joined c.args.list.now w.join_early.new.list w.in-Ok.ensures.unchanged w.in-Ok.ensures.joined in
          data_of_one_value (c.has_one_value.ensures.data w.if-has_one_value.true) hooks c.args.store.now c.args.list.now.items _ (parts.geometry ∙ ap (λ l. join (segments_of l.items)) w.list-is ∙ early)
      | else-has_one_value w ↦ rw w.list-is at parts.edge_data
    ]

pub returns-in-Err-clause-refused : goal.returns-in-Err-clause-refused
returns-in-Err-clause-refused g c = search rules

pub returns-in-Err-clause-stopped : goal.returns-in-Err-clause-stopped
returns-in-Err-clause-stopped g c = search rules

pub returns-clause-repeated : goal.returns-clause-repeated
returns-clause-repeated g c = search rules
