use Rattle.std.proofs.Common.{◌≡◌, OnOk}
use Rattle.std.specs.Prelude.{Result, Ok, Err}
use Rattle.overlay_base.specs.HooksOf.{hooks_of}
use Rattle.overlay_base.specs.SegmentOf.{data_segments_of}
use Rattle.overlay_cuts.specs.DataPass.{data_after_passes}
use Rattle.overlay_split.specs.SettingsOf.{settings_of, passes_of}
use Rattle.overlay_split.proofs.split.solver.SplitSolver.split_segments_within.Goals as goal

-- the store is the one that the call began with
with_store : {T E S : Type 0} (D P : S → Type 0) (r : Result T E) (s : S) → D s → OnOk r (P s) → OnOk r ((x : S) × D x × P x)
with_store D P (Ok t) s d h = (s, d, h)
with_store D P (Err e) s d h = tt

pub returns-clause-edge_data : goal.returns-clause-edge_data
returns-clause-edge_data g c =
    let hooks = hooks_of g.C.WindingCount.counted g.D.OverlayEdgeData in
    let settings = settings_of g.I.OverlayInt.BITS c.args.solver.now c.args.self.now in
    with_store g.D.Store.Default.is_default
    (λ store. data_segments_of c.split_segments_with_store_within.new.list.items ≡ (data_after_passes hooks settings (data_segments_of c.args.list.now.items) store (passes_of c.split_segments_with_store_within.new.self)).0)
    c.split_segments_with_store_within.result c.default-store.result c.default-store.ensures c.split_segments_with_store_within.ensures.edge_data
