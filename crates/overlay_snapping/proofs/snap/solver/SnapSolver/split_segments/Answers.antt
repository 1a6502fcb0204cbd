use Rattle.std.proofs.Common.{OnOk}
use Rattle.std.specs.Prelude.{Result, Ok, Err}
use Rattle.overlay_snapping.specs.SnapOf.{HasSnapData}
use Rattle.overlay_snapping.proofs.snap.solver.SnapSolver.split_segments.Goals as goal

-- the store is the one that the call began with
with_store : {T E S : Type 0} (D P : S → Type 0) (r : Result T E) (s : S) → D s → OnOk r (P s) → OnOk r ((x : S) × D x × P x)
with_store D P (Ok t) s d h = (s, d, h)
with_store D P (Err e) s d h = tt

pub returns-clause-edge_data : goal.returns-clause-edge_data
returns-clause-edge_data g c =
    with_store g.D.Store.Default.is_default (λ store. HasSnapData g.D.OverlayEdgeData c.args.list.now store c.split_segments_with_store.new.list)
    c.split_segments_with_store.result c.default-store.result c.default-store.ensures c.split_segments_with_store.ensures.edge_data
